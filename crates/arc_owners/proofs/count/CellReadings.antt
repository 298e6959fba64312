-- A load of a cell through a borrowed owner, and one by an owner that asks for the block back: what
-- is had before the call and after it, whatever it says of the pass. Assumes `Logic`.
use Rattle.std.proofs.Common.{◌≡◌, ℕ, ◌^◌, ◌<◌, Bool, List, [], ◌∷◌, ◌++◌, refl, ap, ◌∙◌, lit<}
use mathlib.Core.Option.{some}
use seplogic.Ra.Ura.{Ura}
use mir.Syntax.{Fn, Callee, named}
use mir.Val.{Val, vptr, vstruct, vcons, vnil, of_list}
use denote.Laws.{Is}
use base.Logic.{emp, via, guard, ent}
use base.Fml.{Share, Fml, ftrue, fsep, flft}
use prog.Model.{Model}
use prog.Wp.{Closed}
use types.Logic.{Logic, sem}
use types.Kit.{‵, raw, ◌⊛◌, given, later, ◌$◌, ◌∵◌, !, qed, by, move, keep, drop, split, group, fsplit}
use types.Kit.{fsplit3, fjoin, fpick, fpack, use0, use1, learn, check, updating, await, now}
use types.Kit.{done}
use contract.Lifetimes.{Lfts}
use contract.Monad.{fact}
use contract.Running.{Running, MachineTables, tables}
use denote.Exit.{yes}
use denote.Param.{param}
use denote.RattleType.{owns, RattleType}
use denote.Signature.{types_at, plain}
use denote.Builtin.{RefOf, u64}
use denote.Opens.{unhide}
use denote.Param.Laws.{Laws, of_field}
use denote.Param.Shared.{copy_shared}
use denote.Struct.Field.{u64-field}
use denote.Struct.Laws.{u64-laws, u64-copy}
use denote.RawPtr.{Ptr, RawPtr, block_ptr, null_ptr, ptr_val, Testable}
use denote.Ref.{mut_vals, mut_Tells, shr_vals, shr_Tells}
use denote.Shadow.{makes_shadow}
use denote.Steps.{nothing, heard}
use denote.Struct.Struct.{Struct}
use denote.Triple.Clauses.{Ended, Clauses, closing, at_exit}
use denote.Triple.Entry.{Args}
use denote.Triple.Spec.{Meets}
use denote.Triple.Walked.{Stays, stay_dropped, stay_ref, walk_of, Goes-dropped, Goes-ref}
use Rattle.core.specs.Sync.RawAtomic.Pointer.{asks_ptr}
use Rattle.std.proofs.raw_atomic.Walks.{proved}
use Rattle.logbook.proofs.Fields.{ends}
use Rattle.arc_owners.specs.count.Invariant.{BlockId, Line, Lease}
use Rattle.arc_owners.specs.count.Leads.{target, known_at}
use Rattle.arc_owners.specs.count.Steps.{IsRightOf, IsOf}
use Rattle.arc_owners.specs.contracts.count.cell.Cell as Cell
use Rattle.arc_owners.specs.contracts.count.cell.Cell.look as look
use Rattle.arc_owners.specs.contracts.count.cell.Lead as Lead
use Rattle.arc_owners.specs.contracts.count.word.OwnerToken as OwnerToken
use Rattle.arc_owners.specs.contracts.count.word.PassState as PassState
use Rattle.arc_owners.proofs.count.Signs.{signs}
use Rattle.arc_owners.proofs.count.LoneSteps.{Glance, Glances}
use Rattle.arc_owners.proofs.count.CellWalks.{Answers, Ends_at, IsCall, after_call, glances_by}
use Rattle.arc_owners.proofs.count.CellWalks.{glanced}
use Rattle.arc_owners.proofs.count.Walks.{a_pass, no_pass, pass_out, pass_in, owner_shown}
use Rattle.arc_owners.proofs.count.Walks.{given_back}

abbrev LeadData : RattleType
LeadData = Struct record { name = []; args = []; types = []; fields = RawPtr ∷ [] }

pub word_laws : Laws u64
word_laws = of_field u64-field u64-laws refl (copy_shared u64-field u64-copy)

-- what a load that found this pointer answers
abbrev pub lead : BlockId → Ptr → Lead.the_row.Denot
lead t r = record { at = r; block = t }

-- the struct that it is, round the pointer
abbrev pub wrap : Val → Val
wrap v = vstruct (vcons v vnil)

pub lead_told : (r : Ptr) (vs : List Val) → Is LeadData (r, tt) vs → vs ≡ wrap (ptr_val r) ∷ []
lead_told r vs is = is.1.0 ∙ ap (λ (ws : List Val). vstruct (of_list (ws ++ [])) ∷ []) is.1.1.0

pub lead_made : {M : Type 1} {𝓤 : Ura M} (𝓛 : Logic 𝓤) (t : BlockId) (r : Ptr)
    → ent 𝓤 (sem 𝓛 (known_at t (target r)))
    (sem 𝓛 (Lead.the_row.own_val (lead t r) (wrap (ptr_val r) ∷ [])))
lead_made 𝓛 t r = let vs : List Val = wrap (ptr_val r) ∷ [] in
    qed 𝓛 (‵ (known_at t (target r)) ∷ []) ∵ use0 𝓛 (‵ (LeadData.own_val (r, tt) vs))
    (makes_shadow 𝓛 (LeadData.own_val (r, tt) vs) (λ vss. (tt, (tt, tt)))
    ((ptr_val r ∷ [], tt), (refl, (refl, tt)))) $ fjoin ! $ done !

-- what is known of a pointer's place says that it can be compared with null
pub known_tested : {M : Type 1} {𝓤 : Ura M} (𝓛 : Logic 𝓤) (t : BlockId) (r : Ptr)
    → ent 𝓤 (sem 𝓛 (known_at t (target r)))
    (guard 𝓤 (Testable r) (sem 𝓛 (known_at t (target r))))
known_tested {𝓤 = 𝓤} 𝓛 t null_ptr = qed 𝓛 (‵ ftrue ∷ []) ∵ check ! (lit< tt) $ done !
known_tested {𝓤 = 𝓤} 𝓛 t (block_ptr b o) = qed 𝓛 (‵ (known_at t (some (b, o))) ∷ []) ∵
    fsplit ! $ fpick ! (λ low. check ! low $ fpack ! (o < 2 ^ 63) (λ _. ftrue) low $ fjoin ! $
    done !)

module _ {M : Type 1} {𝓤 : Ura M} (𝓛 : Logic 𝓤) (𝓜 : Model 𝓤 𝓛.H) (𝓡 : Running 𝓤 𝓛.H 𝓜)
    (T : RattleType) where
  open 𝓛 use {H}
  open signs 𝓛 use {Pr, ◌⊢◌}

  infix 26 ◌⊢◌
  abbrev 𝓣 : MachineTables 𝓤 H 𝓜
  𝓣 = tables 𝓤 H 𝓜 𝓡 𝓡.env

  abbrev R : RattleType
  R = param 0 T

  abbrev Own : RattleType
  Own = OwnerToken.the_row R

  abbrev Pass : RattleType
  Pass = PassState.the_row

  abbrev En : Ended
  En = look.ended T

  -- what such a load says, of the block, the pass and the owner
  abbrev pub Saying : Type 1
  Saying = (t : BlockId) (p : ℕ) (ready : Bool) (seen : List Line) (own : ℕ) (l : Lease)
      → Glance 𝓛 t p ready seen own l

  module _ (c : Clauses 𝓤 En) (G : Saying) where
    pub glance : ((t : BlockId) (p : ℕ) (ready : Bool) (seen : List Line) (own : ℕ) (l : Lease)
        (q : Share) → Glances 𝓛 t p ready seen own l q (G t p ready seen own l))
        → ((κs : Lfts En.signature.lifetimes) (a : Args En.signature κs) (g : (c κs a).ghost)
        → (c κs a).requires g ⊢ fact 𝓤 (IsRightOf a.0.now a.1.0.now × IsOf a.0.now a.1.1.0.now))
        → ((κs : Lfts En.signature.lifetimes) (a : Args En.signature κs) (g : (c κs a).ghost)
        (r : Ptr) (y : Bool) (ls : List Line)
        → IsRightOf a.0.now a.1.0.now × IsOf a.0.now a.1.1.0.now → Testable r
        → G a.0.now a.1.1.0.now.number a.1.1.0.now.ready a.1.1.0.now.lines a.1.0.now.owner
        a.1.0.now.lease (target r) y ls
        → emp 𝓤 ⊢ (c κs a).ensures g (lead a.0.now r) (at_exit En κs a
        (tt, (tt, (a_pass a.0.now a.1.1.0.now.number y ls, tt)))))
        → (k : Callee) (fn : Fn) → Closed 𝓤 H 𝓣.C 𝓣.Λ k fn → (j : Callee) (ws : List Val)
        → ((b o b₁ o₁ b₂ o₂ : ℕ) → IsCall 𝓛 𝓜 𝓡 Ptr ptr_val fn
        (vptr b o ∷ vptr b₁ o₁ ∷ vptr b₂ o₂ ∷ []) j (vptr b o ∷ ws) wrap)
        → ((b o : ℕ) (out : Ptr → Fml) → asks_ptr 𝓛 (block_ptr b o) (λ r. r) out
        ⊢ Answers 𝓛 𝓜 𝓡 Ptr ptr_val j (vptr b o ∷ ws) out)
        → Meets 𝓛 En.signature (𝓣.C k) (closing 𝓛 En c)
    glance steps says tells k fn closed j ws call next =
        let hs : Stays En.signature.params En.kept = (
          stay_dropped (RefOf (0 ∷ []) tt (plain (λ _. Cell.the_row)) (λ _. tt)) yes,
          (
            stay_dropped (RefOf (1 ∷ []) tt (plain (λ _. Own)) (λ _. tt)) yes,
            (stay_ref (2 ∷ []) tt (plain (λ _. Pass)), tt),
          ),
        ) in
        proved 𝓛 En hs c 𝓜 𝓡 (
          Goes-dropped 𝓛 4 (RefOf (0 ∷ []) tt (plain (λ _. Cell.the_row)) (λ _. tt))
              yes (λ κs x w. refl),
          (
            Goes-dropped 𝓛 4 (RefOf (1 ∷ []) tt (plain (λ _. Own)) (λ _. tt)) yes
                (λ κs x w. refl),
            (Goes-ref 𝓛 4 2 tt (plain (λ _. Pass)), tt),
          ),
        ) k fn closed
        (λ κs. (shr_vals, (shr_vals, (mut_vals, tt))))
        (λ κs. (
          shr_Tells (named 0) κs.0 Cell.the_row,
          (shr_Tells (named 1) κs.1.0 Own, (mut_Tells (named 2) κs.1.1.0 Pass, tt)),
        ))
        (λ κs qs bounds a gh are.
        let t = a.0.now in let own = a.1.0.now in let p = a.1.1.0.now in
        let b = a.0.ref_ptr.0 in let o = a.0.ref_ptr.1 in let b₁ = a.1.0.ref_ptr.0 in
        let o₁ = a.1.0.ref_ptr.1 in let b₂ = a.1.1.0.ref_ptr.0 in let o₂ = a.1.1.0.ref_ptr.1 in
        let y : (walk_of 𝓛 En hs c).Ghost =
        ((κs, qs, bounds, a, (vptr b o ∷ [], (vptr b₁ o₁ ∷ [], (vptr b₂ o₂ ∷ [], tt)))), gh) in
        let P : Val → Pr = (walk_of 𝓛 En hs c).post y in
        let Gl : Glance 𝓛 t p.number p.ready p.lines own.owner own.lease =
        G t p.number p.ready p.lines own.owner own.lease in
        let out : Ptr → Fml = λ r. fsep (flft κs.0 qs.0) (fsep (flft κs.1.0 qs.1.0)
        (glanced 𝓛 𝓜 𝓡 j (vptr b o ∷ ws) t p.number p.ready p.lines own.owner own.lease κs.0 qs.0
        b o Gl r)) in
        let toks : Fml = fsep (flft κs.0 qs.0) (fsep (flft κs.1.0 qs.1.0)
        (fsep (flft κs.1.1.0 qs.1.1.0) (fsep (flft κs.1.1.1.0 qs.1.1.1.0) ftrue))) in
        via 𝓤 (H.⇛ (Ends_at 𝓛 𝓜 𝓡 Ptr ptr_val j (vptr b o ∷ ws) wrap P))
        (qed 𝓛 ((‵ toks ⊛ ‵ (owns (types_at En.signature.params κs) a y.0.4))
        ∷ raw ((c κs a).requires gh) ∷ []) ∵ updating ! $ move ! (1 ∷ []) $
        use1 𝓛 (raw (fact 𝓤 (IsRightOf t own × IsOf t p))) (says κs a gh) $
        heard ! _ (λ asked. split ! $
        fsplit ! $ move ! (1 ∷ []) $ fsplit ! $ move ! (1 ∷ []) $ fsplit ! $ move ! (4 ∷ []) $
        fsplit ! $ fsplit ! $ move ! (2 ∷ []) $ fsplit ! $ fsplit ! $ move ! (2 ∷ []) $ fsplit ! $
        fsplit3 ! $ keep ! (1 ∷ 2 ∷ 5 ∷ 7 ∷ 8 ∷ 10 ∷ 11 ∷ 9 ∷ []) $
        -- [two parts of the pass; the owner; the cell; the tokens, last first]
        move ! (2 ∷ []) $ owner_shown R ! b₁ o₁ t own asked.0 $
        move ! (1 ∷ 2 ∷ 4 ∷ []) $ pass_out ! tt b₂ o₂ t p asked.1 $ move ! (5 ∷ []) $ unhide ! $
        -- [the cell; the pass; its two parts; its token; the owner; three tokens]
        move ! (0 ∷ 7 ∷ 1 ∷ 5 ∷ 6 ∷ []) $ group ! 5 $
        use1 𝓛 (later (raw (Answers 𝓛 𝓜 𝓡 Ptr ptr_val j (vptr b o ∷ ws) out)))
        (glances_by 𝓛 𝓜 𝓡 j (vptr b o ∷ ws) t p.number p.ready p.lines own.owner own.lease
        κs.0 qs.0 b o Gl (steps t p.number p.ready p.lines own.owner own.lease) (next b o)
        κs.1.0 qs.1.0 own.born) $
        await ! tt $ after_call 𝓛 𝓜 𝓡 Ptr ptr_val ! j (vptr b o ∷ ws) wrap out P (λ r.
        fsplit3 ! $ move ! (2 ∷ []) $ fsplit ! $
        use1 𝓛 (given (Testable r) (‵ (known_at t (target r)))) (known_tested 𝓛 t r) $
        learn ! (λ low. use1 𝓛 (‵ (Lead.the_row.own_val (lead t r) (wrap (ptr_val r) ∷ [])))
        (lead_made 𝓛 t r) $ move ! (1 ∷ []) $
        fpick ! (λ z. fsplit ! $ fpick ! (λ so. drop ! $
        -- [the pass; the answer; two tokens; two parts of the pass; its token; the last token]
        let after : Pass.Denot = a_pass t p.number z.0 z.1 in
        move ! (0 ∷ 4 ∷ 5 ∷ 6 ∷ []) $ pass_in ! tt b₂ o₂ (no_pass p) after $
        -- [two parts of the pass; its token; the answer; the other tokens]
        move ! (6 ∷ []) $ move ! (3 ∷ 0 ∷ []) $ fjoin ! $
        move ! (5 ∷ 0 ∷ []) $ fjoin ! $ move ! (4 ∷ 0 ∷ []) $ fjoin ! $
        nothing ! $ move ! (2 ∷ 3 ∷ 0 ∷ []) $ given_back ! b₂ o₂ $ nothing ! $ fjoin ! $
        nothing ! $ fjoin ! $ now ! $ keep ! (1 ∷ 0 ∷ 2 ∷ []) $
        by ! (ends 𝓛 En hs c y (wrap (ptr_val r)) (lead t r) (tt, (tt, (after, tt)))
        (tt, (tt, (tt, tt))) (tells κs a gh r z.0 z.1 asked low so))))))))
        (call b o b₁ o₁ b₂ o₂ P))
