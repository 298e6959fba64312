-- What holds is returned from; nothing else is reached. Assumes `Logic`.
use Rattle.std.proofs.Common.{Bool, true, false, List, [], ◌∷◌, refl}
use mir.Val.{Val, vunit, vbool}
use mir.MapTy.{inst_fn}
use base.Logic.{id⊢}
use contract.Monad.{fact}
use contract.Running.{tables}
use types.Kit.{‵, raw, ◌⊛◌, ◌$◌, ◌∵◌, !, qed, by, move, keep, split, fjoin, feq_i}
use types.Run.{unit_lit, of_opd, first, branches, returns_within, enter}
use types.ByLocal.{alloc_all, pass_all, free_all, look_at, get, sets}
use denote.Builtin.{bool}
use denote.Exit.{yes}
use denote.Param.{layouts}
use denote.Plain.{bool_vals, bool_Tells}
use denote.RattleType.{owns}
use denote.Signature.{Slot, types_at, plain}
use denote.Steps.{nothing, heard}
use denote.Triple.Entry.{alive}
use denote.Triple.Walked.{Stays, stay_dropped, walk_of, Goes-dropped}
use Rattle.std.proofs.raw_atomic.Walks.{proved}
use Rattle.std.specs.Prelude.{IsTrue, T, not}
use Rattle.std.proofs.lemmas.Bool.{false≢true}
use Rattle.logbook.proofs.Fields.{ends}
use Rattle.arc_owners.specs.contracts.hint.assert_unchecked as f
use Rattle.arc_owners.proofs.hint.assert_unchecked.Statement.{statement}
use Rattle.arc_owners.proofs.hint.assert_unchecked.Code as code

never : (t : Bool) → IsTrue t → T (not t) → ⊥
never true holds isnt = isnt
never false holds isnt = false≢true holds

pub assert_unchecked_spec : {M : Type 1} → statement M
assert_unchecked_spec 𝓤 𝓛 𝓜 𝓡 wired =
    let H = 𝓛.H in let 𝓣 = tables 𝓤 H 𝓜 𝓡 𝓡.env in let En = f.ended in
    let c = f.clauses 𝓛 𝓜.mem 𝓡.returns in
    let inst = layouts [] tt in let fn = inst_fn inst code.function in
    let word : Slot 0 = plain (λ _. bool) in
    let hs : Stays En.signature.params En.kept = (stay_dropped word yes, tt) in
    proved 𝓛 En hs c 𝓜 𝓡 (Goes-dropped 𝓛 0 word yes (λ κs x w. refl), tt) f.Key.name fn
    (code.unfolded 𝓤 H 𝓜 𝓡 wired)
    (λ κs. (bool_vals, tt)) (λ κs. (bool_Tells, tt)) (λ κs qs bounds a τ are.
    let t = a.0 in let W = walk_of 𝓛 En hs c in
    let y : W.Ghost = ((κs, qs, bounds, a, (vbool t ∷ [], tt)), τ) in
    qed 𝓛 ((raw (alive 𝓛 En.signature κs qs) ⊛ ‵ (owns (types_at En.signature.params κs) a
    y.0.4)) ∷ raw (fact 𝓤 (IsTrue t)) ∷ []) ∵
    move ! (1 ∷ []) $ heard ! (IsTrue t) (λ holds. split ! $ keep ! (0 ∷ []) $
    enter ! 𝓣.C 𝓣.Λ fn (vbool t ∷ []) (W.post y) $
    alloc_all ! (λ l. pass_all ! refl ((tt, tt), tt) $
    sets ! (of_opd ! (get ! refl)) refl (tt, tt) $
    first ! $ branches ! (get ! refl)
    (λ is. sets ! (of_opd ! (unit_lit !)) refl (tt, tt) $
    returns_within ! (W.post y) refl (look_at ! 0 refl) $ free_all ! refl $
    feq_i ! (List Val) (vunit ∷ []) (vunit ∷ []) refl $ nothing ! $ nothing ! $ fjoin ! $
    keep ! (2 ∷ 0 ∷ 1 ∷ []) $
    by ! (ends 𝓛 En hs c y vunit tt (tt, tt) (tt, tt) (id⊢ 𝓤 _)))
    (λ isnt. absurd (never t holds isnt)))))
