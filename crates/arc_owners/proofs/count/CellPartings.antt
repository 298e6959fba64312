-- A load of the cell by an owner that asks for its block back: what is had before the call and
-- after it. Assumes `Logic`.
use Rattle.std.proofs.Common.{◌≡◌, ℕ, Bool, true, List, [], ◌∷◌, refl}
use seplogic.Ra.Ura.{Ura}
use mir.Syntax.{Fn, Callee, named}
use mir.Val.{Val, vptr}
use base.Logic.{emp, via}
use base.Fml.{Fml, ftrue, fsep, flft}
use prog.Model.{Model}
use prog.Wp.{Closed}
use types.Logic.{Logic}
use types.Kit.{‵, raw, ◌⊛◌, given, later, ◌$◌, ◌∵◌, !, qed, by, move, keep, drop, split, group, fsplit}
use types.Kit.{fsplit3, fjoin, fjoin3, fpick, use1, learn, updating, await, now, rewrite}
use contract.Lifetimes.{Lfts}
use contract.Monad.{fact}
use contract.Running.{Running, MachineTables, tables}
use denote.Exit.{yes}
use denote.Param.{param}
use denote.RattleType.{owns, RattleType}
use denote.Signature.{types_at, plain}
use denote.Builtin.{RefOf}
use denote.Opens.{unhide}
use denote.RawPtr.{Ptr, block_ptr, null_ptr, ptr_val, Testable}
use denote.Ref.{shr_vals, shr_Tells}
use denote.Steps.{nothing, heard}
use denote.Triple.Clauses.{Ended, Clauses, closing, at_exit}
use denote.Triple.Entry.{Args}
use denote.Triple.Spec.{Meets}
use denote.Triple.Walked.{Stays, stay_dropped, walk_of, Goes-dropped}
use Rattle.core.specs.Sync.RawAtomic.Pointer.{asks_ptr}
use Rattle.std.proofs.raw_atomic.Walks.{proved}
use Rattle.logbook.proofs.Fields.{ends}
use Rattle.arc_owners.specs.count.Invariant.{BlockId, Line, lease_after, claim_gain}
use Rattle.arc_owners.specs.count.Leads.{is_null, target, known_at}
use Rattle.arc_owners.specs.count.Steps.{IsHeld, IsOf}
use Rattle.arc_owners.specs.contracts.count.cell.Cell as Cell
use Rattle.arc_owners.specs.contracts.count.cell.Cell.claim as claim_as
use Rattle.arc_owners.specs.contracts.count.cell.Lead as Lead
use Rattle.arc_owners.specs.contracts.count.word.OwnerToken as OwnerToken
use Rattle.arc_owners.specs.contracts.count.word.PassState as PassState
use Rattle.arc_owners.specs.contracts.count.word.EndTokens as EndTokens
use Rattle.arc_owners.proofs.count.Signs.{signs}
use Rattle.arc_owners.proofs.count.LoneSteps.{Seeks_at}
use Rattle.arc_owners.proofs.count.LonePartings.{lone_at, claimed}
use Rattle.arc_owners.proofs.count.CellWalks.{Answers, Ends_at, IsCall, after_call, claims_by_cell}
use Rattle.arc_owners.proofs.count.CellReadings.{lead, wrap, lead_made, known_tested}
use Rattle.arc_owners.proofs.count.Partings.{three_stay, three_go, three_vals, three_tell}
use Rattle.arc_owners.proofs.count.Partings.{brings, claiming, gives_back_with}
use Rattle.arc_owners.proofs.count.Walks.{a_pass, no_pass, no_owner, an_owner, an_end, pass_in}
use Rattle.arc_owners.proofs.count.Walks.{owner_in, ends_in}

-- the word was found lone where the pointer was null
pub lone-null : (r : Ptr) → lone_at (target r) ≡ is_null r
lone-null null_ptr = refl
lone-null (block_ptr b o) = refl

module _ {M : Type 1} {𝓤 : Ura M} (𝓛 : Logic 𝓤) (𝓜 : Model 𝓤 𝓛.H) (𝓡 : Running 𝓤 𝓛.H 𝓜)
    (T : RattleType) where
  open 𝓛 use {H}
  open signs 𝓛 use {Pr, ◌⊢◌}

  infix 26 ◌⊢◌
  abbrev 𝓣 : MachineTables 𝓤 H 𝓜
  𝓣 = tables 𝓤 H 𝓜 𝓡 𝓡.env

  abbrev R : RattleType
  R = param 0 T

  abbrev Own : RattleType
  Own = OwnerToken.the_row R

  abbrev Pass : RattleType
  Pass = PassState.the_row

  abbrev End : RattleType
  End = EndTokens.the_row

  abbrev En : Ended
  En = claim_as.ended T

  -- the owner after it
  abbrev pub kept : BlockId → Own.Denot → Bool → Own.Denot
  kept t h y = an_owner R true t h.owner (lease_after h.lease y) h.born

  module _ (c : Clauses 𝓤 En) where
    pub claims_at : ((κs : Lfts En.signature.lifetimes) (a : Args En.signature κs)
        (g : (c κs a).ghost)
        → (c κs a).requires g ⊢ fact 𝓤 (IsHeld a.0.now a.1.0.now × IsOf a.0.now a.1.1.0.now))
        → ((κs : Lfts En.signature.lifetimes) (a : Args En.signature κs) (g : (c κs a).ghost)
        (r : Ptr) (y : Bool) (ls : List Line)
        → IsHeld a.0.now a.1.0.now × IsOf a.0.now a.1.1.0.now → Testable r
        → Seeks_at 𝓛 a.0.now a.1.1.0.now.number a.1.1.0.now.ready a.1.1.0.now.lines
        a.1.0.now.owner a.1.0.now.lease (target r) y ls
        → emp 𝓤 ⊢ (c κs a).ensures g (lead a.0.now r) (at_exit En κs a (
          tt,
          (
            kept a.0.now a.1.0.now (is_null r),
            (
              a_pass a.0.now a.1.1.0.now.number y ls,
              (an_end (is_null r) a.1.0.now.lease, tt),
            ),
          ),
        )))
        → (k : Callee) (fn : Fn) → Closed 𝓤 H 𝓣.C 𝓣.Λ k fn → (j : Callee) (ws : List Val)
        → ((b o b₁ o₁ b₂ o₂ b₃ o₃ : ℕ) → IsCall 𝓛 𝓜 𝓡 Ptr ptr_val fn
        (vptr b o ∷ vptr b₁ o₁ ∷ vptr b₂ o₂ ∷ vptr b₃ o₃ ∷ []) j (vptr b o ∷ ws) wrap)
        → ((b o : ℕ) (out : Ptr → Fml) → asks_ptr 𝓛 (block_ptr b o) (λ r. r) out
        ⊢ Answers 𝓛 𝓜 𝓡 Ptr ptr_val j (vptr b o ∷ ws) out)
        → Meets 𝓛 En.signature (𝓣.C k) (closing 𝓛 En c)
    claims_at says tells k fn closed j ws call next =
        let hs : Stays En.signature.params En.kept = (
          stay_dropped (RefOf (0 ∷ []) tt (plain (λ _. Cell.the_row)) (λ _. tt)) yes,
          three_stay 𝓛 𝓜 𝓡 T,
        ) in
        proved 𝓛 En hs c 𝓜 𝓡 (
          Goes-dropped 𝓛 5 (RefOf (0 ∷ []) tt (plain (λ _. Cell.the_row)) (λ _. tt))
              yes (λ κs w u. refl),
          three_go 𝓛 𝓜 𝓡 T,
        ) k fn closed (λ κs. (shr_vals, three_vals 𝓛 𝓜 𝓡 T κs))
        (λ κs. (shr_Tells (named 0) κs.0 Cell.the_row, three_tell 𝓛 𝓜 𝓡 T κs))
        (λ κs qs bounds a gh are.
        let t = a.0.now in let own = a.1.0.now in let p = a.1.1.0.now in let e = a.1.1.1.0.now in
        let b = a.0.ref_ptr.0 in let o = a.0.ref_ptr.1 in let b₁ = a.1.0.ref_ptr.0 in
        let o₁ = a.1.0.ref_ptr.1 in let b₂ = a.1.1.0.ref_ptr.0 in let o₂ = a.1.1.0.ref_ptr.1 in
        let b₃ = a.1.1.1.0.ref_ptr.0 in let o₃ = a.1.1.1.0.ref_ptr.1 in
        let y : (walk_of 𝓛 En hs c).Ghost = (
          (
            κs,
            qs,
            bounds,
            a,
            (vptr b o ∷ [], (vptr b₁ o₁ ∷ [], (vptr b₂ o₂ ∷ [], (vptr b₃ o₃ ∷ [], tt)))),
          ),
          gh,
        ) in
        let P : Val → Pr = (walk_of 𝓛 En hs c).post y in
        let gained : Ptr → Fml = λ r.
        claimed 𝓛 t p.number p.ready p.lines own.owner own.lease (target r) in
        let out : Ptr → Fml = λ r. fsep (flft κs.0 qs.0) (gained r) in
        let toks : Fml = fsep (flft κs.0 qs.0) (fsep (flft κs.1.0 qs.1.0)
        (fsep (flft κs.1.1.0 qs.1.1.0) (fsep (flft κs.1.1.1.0 qs.1.1.1.0)
        (fsep (flft κs.1.1.1.1.0 qs.1.1.1.1.0) ftrue)))) in
        via 𝓤 (H.⇛ (Ends_at 𝓛 𝓜 𝓡 Ptr ptr_val j (vptr b o ∷ ws) wrap P))
        (qed 𝓛 ((‵ toks ⊛ ‵ (owns (types_at En.signature.params κs) a y.0.4))
        ∷ raw ((c κs a).requires gh) ∷ []) ∵ updating ! $ move ! (1 ∷ []) $
        use1 𝓛 (raw (fact 𝓤 (IsHeld t own × IsOf t p))) (says κs a gh) $
        heard ! _ (λ asked. split ! $
        fsplit ! $ move ! (1 ∷ []) $ fsplit ! $ move ! (1 ∷ []) $ fsplit ! $ move ! (1 ∷ []) $
        fsplit ! $ move ! (5 ∷ []) $ fsplit ! $ fsplit ! $ move ! (2 ∷ []) $ fsplit ! $
        fsplit3 ! $ move ! (3 ∷ []) $ fsplit ! $ fsplit3 ! $ move ! (3 ∷ []) $ fsplit ! $
        fsplit3 ! $ keep ! (8 ∷ 9 ∷ 15 ∷ 5 ∷ 6 ∷ 14 ∷ 1 ∷ 2 ∷ 12 ∷ 11 ∷ 16 ∷ 13 ∷ []) $
        -- [the owner, the pass and the end tokens; the cell; its token; the last token]
        brings 𝓛 R (claiming 𝓛 R) t own p ! tt b₁ o₁ b₂ o₂ asked.0 asked.1 $
        move ! (13 ∷ []) $ unhide ! $ move ! (0 ∷ 14 ∷ 1 ∷ 2 ∷ 3 ∷ []) $ group ! 5 $
        use1 𝓛 (later (raw (Answers 𝓛 𝓜 𝓡 Ptr ptr_val j (vptr b o ∷ ws) out)))
        (claims_by_cell 𝓛 𝓜 𝓡 j (vptr b o ∷ ws) t p.number p.ready p.lines own.owner own.lease
        κs.0 qs.0 b o asked.0.2 (next b o)) $ await ! tt $
        after_call 𝓛 𝓜 𝓡 Ptr ptr_val ! j (vptr b o ∷ ws) wrap out P (λ r. fsplit ! $
        let lone : Bool = is_null r in let after : Own.Denot = kept t own lone in
        let left : End.Denot = an_end lone own.lease in
        -- [the token; what is gained; what the owner knows; the owner, the pass, the end tokens]
        move ! (1 ∷ 2 ∷ 3 ∷ 4 ∷ 5 ∷ 6 ∷ 7 ∷ 8 ∷ 9 ∷ 10 ∷ 11 ∷ []) $ fsplit3 ! $
        rewrite ! 0 (λ (z : Bool). ‵ (claim_gain t own.owner own.lease z)) (lone-null r) refl $
        fsplit3 ! $
        -- [the right; the stake; the end; what is known; the pass; what the owner knows; ..]
        move ! (5 ∷ 0 ∷ 1 ∷ []) $ fjoin3 ! $ move ! (0 ∷ 4 ∷ 5 ∷ 6 ∷ []) $ owner_in R ! tt b₁ o₁ (no_owner R own) after $
        -- [the owner; the end; what is known; the pass; the pass's; the end tokens]
        move ! (5 ∷ []) $ fpick ! (λ z. fsplit ! $ fpick ! (λ so. drop ! $
        let passed : Pass.Denot = a_pass t p.number z.0 z.1 in
        -- [the pass; the owner; the end; what is known; the pass's; the end tokens]
        move ! (0 ∷ 6 ∷ 7 ∷ 8 ∷ []) $ pass_in ! tt b₂ o₂ (no_pass p) passed $
        -- [the pass's; the owner; the end; what is known; the end tokens]
        move ! (6 ∷ 8 ∷ 9 ∷ 10 ∷ []) $ ends_in ! tt b₃ o₃ e left $
        -- [the end tokens; the pass's; the owner; what is known]
        move ! (9 ∷ []) $ use1 𝓛 (given (Testable r) (‵ (known_at t (target r))))
        (known_tested 𝓛 t r) $ learn ! (λ low.
        use1 𝓛 (‵ (Lead.the_row.own_val (lead t r) (wrap (ptr_val r) ∷ []))) (lead_made 𝓛 t r) $
        move ! (0 ∷ 1 ∷ 2 ∷ 3 ∷ 7 ∷ 8 ∷ 9 ∷ 4 ∷ 5 ∷ 6 ∷ []) $
        gives_back_with R ! b₁ o₁ b₂ o₂ b₃ o₃ after passed left $ nothing ! $ fjoin ! $ now ! $
        keep ! (1 ∷ 0 ∷ 2 ∷ []) $ by ! (ends 𝓛 En hs c y (wrap (ptr_val r)) (lead t r)
        (tt, (after, (passed, (left, tt)))) (tt, (tt, (tt, (tt, tt))))
        (tells κs a gh r z.0 z.1 asked low so))))))))
        (call b o b₁ o₁ b₂ o₂ b₃ o₃ P))
