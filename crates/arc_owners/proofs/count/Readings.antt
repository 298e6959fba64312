-- A read of the word's number through a borrowed owner: what is had before the call and after it,
-- whatever entry it makes. Assumes `Logic`.
use Rattle.std.proofs.Common.{ℕ, Bool, true, List, [], ◌∷◌, refl, w64}
use mathlib.Core.Option.{Option}
use seplogic.Ra.Ura.{Ura}
use mir.Syntax.{Fn, Callee, named}
use mir.Val.{Val, vint, vptr}
use base.Logic.{emp, via}
use base.Fml.{Share, Fml, ftrue, fsep, flft}
use prog.Model.{Model}
use prog.Wp.{Closed}
use types.Logic.{Logic}
use types.Kit.{‵, raw, ◌⊛◌, later, ◌$◌, ◌∵◌, !, qed, by, move, keep, drop, split, group, fsplit}
use types.Kit.{fsplit3, fjoin, fpick, use1, updating, await, now}
use contract.Lifetimes.{Lfts}
use contract.Monad.{fact}
use contract.Running.{Running, MachineTables, tables}
use denote.Exit.{yes}
use denote.Param.{param}
use denote.RattleType.{owns, RattleType}
use denote.Signature.{types_at, plain}
use denote.Builtin.{RefOf}
use denote.Opens.{unhide}
use denote.RawPtr.{block_ptr}
use denote.Ref.{mut_vals, mut_Tells, shr_vals, shr_Tells}
use denote.Steps.{nothing, heard}
use denote.Triple.Clauses.{Ended, Clauses, closing, at_exit}
use denote.Triple.Entry.{Args}
use denote.Triple.Spec.{Meets}
use denote.Triple.Walked.{Stays, stay_dropped, stay_ref, walk_of, Goes-dropped, Goes-ref}
use Rattle.core.specs.Sync.RawAtomic.{asks, always}
use Rattle.std.proofs.raw_atomic.Walks.{proved}
use Rattle.logbook.proofs.Fields.{ends}
use Rattle.arc_owners.specs.declared.history.entry.Entry.{Entry}
use Rattle.arc_owners.specs.count.Invariant.{BlockId, Line, Lease, right, trace_owns}
use Rattle.arc_owners.specs.count.Steps.{IsRightOf, IsOf}
use Rattle.arc_owners.specs.contracts.count.word.Word as Word
use Rattle.arc_owners.specs.contracts.count.word.Word.load as load
use Rattle.arc_owners.specs.contracts.count.word.OwnerToken as OwnerToken
use Rattle.arc_owners.specs.contracts.count.word.PassState as PassState
use Rattle.arc_owners.proofs.count.Signs.{signs}
use Rattle.arc_owners.proofs.count.Operations.{Follows, with_entry, left}
use Rattle.arc_owners.proofs.count.Moves.{Steps}
use Rattle.arc_owners.proofs.count.OneCall.{Answers, Ends_at, IsCall, after_call}
use Rattle.arc_owners.proofs.count.Walks.{a_pass, no_pass, pass_out, pass_in, owner_shown, reads}
use Rattle.arc_owners.proofs.count.Walks.{answered, given_back}

-- which entry a read makes, of the block, the owner, the number found and the history before it
abbrev pub Reading : Type 0
Reading = BlockId → ℕ → ℕ → List Line → Option Entry

module _ {M : Type 1} {𝓤 : Ura M} (𝓛 : Logic 𝓤) (𝓜 : Model 𝓤 𝓛.H) (𝓡 : Running 𝓤 𝓛.H 𝓜)
    (T : RattleType) where
  open 𝓛 use {H}
  open signs 𝓛 use {Pr, ◌⊢◌}

  infix 26 ◌⊢◌
  abbrev 𝓣 : MachineTables 𝓤 H 𝓜
  𝓣 = tables 𝓤 H 𝓜 𝓡 𝓡.env

  abbrev R : RattleType
  R = param 0 T

  abbrev Own : RattleType
  Own = OwnerToken.the_row R

  abbrev Pass : RattleType
  Pass = PassState.the_row

  abbrev En : Ended
  En = load.ended T

  module _ (c : Clauses 𝓤 En) (entry : Reading) where
    -- the pass after the read that finds this number and this history
    abbrev passed : BlockId → ℕ → Pass.Denot → ℕ → List Line → Pass.Denot
    passed t o p n before = a_pass t p.number p.ready
        (with_entry p.number before (entry t o n before))

    pub read : ((t : BlockId) (p : ℕ) (ready : Bool) (seen : List Line) (o : ℕ) (l : Lease)
        (q : Share) → Steps 𝓛 t p ready seen o l q ftrue
        (record { next = λ n. n; entry = entry t o; gain = λ _ _. right t o l q }))
        → ((κs : Lfts En.signature.lifetimes) (a : Args En.signature κs) (g : (c κs a).ghost)
        → (c κs a).requires g ⊢ fact 𝓤 (IsRightOf a.0.now a.1.0.now × IsOf a.0.now a.1.1.0.now))
        → ((κs : Lfts En.signature.lifetimes) (a : Args En.signature κs) (g : (c κs a).ghost)
        (n : ℕ) (before : List Line)
        → Follows a.0.now a.1.1.0.now.number a.1.1.0.now.lines n before
        (entry a.0.now a.1.0.now.owner n before)
        → emp 𝓤 ⊢ (c κs a).ensures g n (at_exit En κs a
        (tt, (tt, (passed a.0.now a.1.0.now.owner a.1.1.0.now n before, tt)))))
        → (k : Callee) (fn : Fn) → Closed 𝓤 H 𝓣.C 𝓣.Λ k fn → (j : Callee) (ws : List Val)
        → ((b o b₁ o₁ b₂ o₂ : ℕ) → IsCall 𝓛 𝓜 𝓡 fn
        (vptr b o ∷ vptr b₁ o₁ ∷ vptr b₂ o₂ ∷ []) j (vptr b o ∷ ws))
        → ((b o : ℕ) (out : ℕ → Fml) → asks 𝓛 (block_ptr b o) (λ n. n) always out
        ⊢ Answers 𝓛 𝓜 𝓡 j (vptr b o ∷ ws) out)
        → Meets 𝓛 En.signature (𝓣.C k) (closing 𝓛 En c)
    read steps says tells k fn closed j ws call next =
        let hs : Stays En.signature.params En.kept = (
          stay_dropped (RefOf (0 ∷ []) tt (plain (λ _. Word.the_row)) (λ _. tt)) yes,
          (
            stay_dropped (RefOf (1 ∷ []) tt (plain (λ _. Own)) (λ _. tt)) yes,
            (stay_ref (2 ∷ []) tt (plain (λ _. Pass)), tt),
          ),
        ) in
        proved 𝓛 En hs c 𝓜 𝓡 (
          Goes-dropped 𝓛 4 (RefOf (0 ∷ []) tt (plain (λ _. Word.the_row)) (λ _. tt))
              yes (λ κs x w. refl),
          (
            Goes-dropped 𝓛 4 (RefOf (1 ∷ []) tt (plain (λ _. Own)) (λ _. tt)) yes
                (λ κs x w. refl),
            (Goes-ref 𝓛 4 2 tt (plain (λ _. Pass)), tt),
          ),
        ) k fn closed
        (λ κs. (shr_vals, (shr_vals, (mut_vals, tt))))
        (λ κs. (
          shr_Tells (named 0) κs.0 Word.the_row,
          (shr_Tells (named 1) κs.1.0 Own, (mut_Tells (named 2) κs.1.1.0 Pass, tt)),
        ))
        (λ κs qs bounds a gh are.
        let t = a.0.now in let own = a.1.0.now in let p = a.1.1.0.now in
        let b = a.0.ref_ptr.0 in let o = a.0.ref_ptr.1 in let b₁ = a.1.0.ref_ptr.0 in
        let o₁ = a.1.0.ref_ptr.1 in let b₂ = a.1.1.0.ref_ptr.0 in let o₂ = a.1.1.0.ref_ptr.1 in
        let y : (walk_of 𝓛 En hs c).Ghost =
        ((κs, qs, bounds, a, (vptr b o ∷ [], (vptr b₁ o₁ ∷ [], (vptr b₂ o₂ ∷ [], tt)))), gh) in
        let P : Val → Pr = (walk_of 𝓛 En hs c).post y in
        let out : ℕ → Fml = λ n. fsep (flft κs.0 qs.0) (fsep (flft κs.1.0 qs.1.0)
        (left t p.number p.lines (λ ls. trace_owns true t p.number p.ready ls) n
        (entry t own.owner n) (λ _. ftrue))) in
        let toks : Fml = fsep (flft κs.0 qs.0) (fsep (flft κs.1.0 qs.1.0)
        (fsep (flft κs.1.1.0 qs.1.1.0) (fsep (flft κs.1.1.1.0 qs.1.1.1.0) ftrue))) in
        via 𝓤 (H.⇛ (Ends_at 𝓛 𝓜 𝓡 j (vptr b o ∷ ws) P))
        (qed 𝓛 ((‵ toks ⊛ ‵ (owns (types_at En.signature.params κs) a y.0.4))
        ∷ raw ((c κs a).requires gh) ∷ []) ∵ updating ! $ move ! (1 ∷ []) $
        use1 𝓛 (raw (fact 𝓤 (IsRightOf t own × IsOf t p))) (says κs a gh) $
        heard ! _ (λ asked. split ! $
        fsplit ! $ move ! (1 ∷ []) $ fsplit ! $ move ! (1 ∷ []) $ fsplit ! $ move ! (4 ∷ []) $
        fsplit ! $ fsplit ! $ move ! (2 ∷ []) $ fsplit ! $ fsplit ! $ move ! (2 ∷ []) $ fsplit ! $
        fsplit3 ! $ keep ! (1 ∷ 2 ∷ 5 ∷ 7 ∷ 8 ∷ 10 ∷ 11 ∷ 9 ∷ []) $
        -- [two parts of the pass; the owner; the word; the tokens, last first]
        move ! (2 ∷ []) $ owner_shown R ! b₁ o₁ t own asked.0 $
        move ! (1 ∷ 2 ∷ 4 ∷ []) $ pass_out ! tt b₂ o₂ t p asked.1 $ move ! (5 ∷ []) $ unhide ! $
        -- [the word; the pass; its two parts; its token; the owner; three tokens]
        move ! (0 ∷ 7 ∷ 1 ∷ 5 ∷ 6 ∷ []) $ group ! 5 $
        use1 𝓛 (later (raw (Answers 𝓛 𝓜 𝓡 j (vptr b o ∷ ws) out)))
        (reads 𝓛 𝓜 𝓡 j (vptr b o ∷ ws) t p.number p.ready p.lines own.owner own.lease κs.0 qs.0
        b o (λ n. n) (entry t own.owner)
        (steps t p.number p.ready p.lines own.owner own.lease) (next b o) κs.1.0 qs.1.0 own.born) $
        await ! tt $ after_call 𝓛 𝓜 𝓡 ! j (vptr b o ∷ ws) out P (λ n fits.
        fsplit3 ! $ move ! (2 ∷ []) $
        fpick ! (λ before. fsplit ! $ fpick ! (λ told. drop ! $ fsplit ! $
        -- [the pass; nothing more; two tokens; two parts of the pass; its token; the last token]
        let after : Pass.Denot = passed t own.owner p n before in
        move ! (0 ∷ 4 ∷ 5 ∷ 6 ∷ []) $ pass_in ! tt b₂ o₂ (no_pass p) after $
        -- [two parts of the pass; its token; nothing more; the other tokens]
        answered ! n fits $ move ! (7 ∷ []) $ move ! (4 ∷ 0 ∷ []) $ fjoin ! $
        move ! (6 ∷ 0 ∷ []) $ fjoin ! $ move ! (5 ∷ 0 ∷ []) $ fjoin ! $
        nothing ! $ move ! (3 ∷ 4 ∷ 0 ∷ []) $ given_back ! b₂ o₂ $ nothing ! $ fjoin ! $
        nothing ! $ fjoin ! $ now ! $ keep ! (1 ∷ 0 ∷ 2 ∷ []) $
        by ! (ends 𝓛 En hs c y (vint w64 n) n (tt, (tt, (after, tt))) (tt, (tt, (tt, tt)))
        (tells κs a gh n before told)))))))
        (call b o b₁ o₁ b₂ o₂ P))
