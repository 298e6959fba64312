-- `attest` opens the invariant and reads its history, which is past the pass.
use Rattle.std.proofs.Common.{◌≡◌, true, List, [], ◌∷◌, refl}
use mir.Syntax.{named}
use mir.Val.{Val, vunit, vptr}
use base.Logic.{SProp}
use base.Fml.{ftrue, fsep, flft}
use types.Kit.{‵, raw, group, frame, suffices, ◌⊛◌, given, feq_i, done, later, ◌$◌, ◌∵◌, !, qed}
use types.Kit.{move, keep, split, fsplit, fjoin, learn, use1, await}
use types.Run.{unit_lit, of_opd, returns, enter}
use types.ByLocal.{alloc_all, pass_all, free_all, look_at, sets}
use contract.Running.{tables}
use denote.Exit.{yes}
use denote.RattleType.{owns}
use denote.Signature.{types_at, plain}
use denote.Builtin.{RefOf}
use denote.Ref.{shr_vals, shr_Tells}
use denote.Steps.{nothing}
use denote.Triple.Walked.{says, Stays, stay_dropped, walk_of, ends_at, Goes-dropped}
use Rattle.std.proofs.raw_atomic.Walks.{proved}
use Rattle.arc_owners.specs.count.Invariant.{entries_of, told_of}
use Rattle.arc_owners.specs.history.Histories.{IsLegal}
use Rattle.arc_owners.specs.contracts.count.word.PassState as PassState
use Rattle.arc_owners.proofs.count.Begins as begins
use Rattle.arc_owners.proofs.count.Walks.{pass_shown}
use Rattle.arc_owners.specs.contracts.count.word.PassState.attest as f
use Rattle.arc_owners.proofs.count.word.PassState.attest.Statement.{statement}
use Rattle.arc_owners.proofs.count.word.PassState.attest.Code as code

abbrev stayed : Stays f.ended.signature.params f.ended.kept
stayed = (stay_dropped (RefOf (0 ∷ []) tt (plain (λ _. PassState.the_row)) (λ _. tt)) yes, tt)

pub attest_spec : {M : Type 1} → statement M
attest_spec 𝓤 𝓛 𝓜 𝓡 wired =
    let H = 𝓛.H in let 𝓣 = tables 𝓤 H 𝓜 𝓡 𝓡.env in let fn = code.function in
    let c = f.clauses 𝓛 𝓜.mem 𝓡.returns in
    proved 𝓛 f.ended stayed c 𝓜 𝓡 (
      Goes-dropped 𝓛 1 (RefOf (0 ∷ []) tt (plain (λ _. PassState.the_row)) (λ _. tt)) yes
          (λ κs x w. refl),
      tt,
    ) f.Key.name fn (code.unfolded 𝓤 H 𝓜 𝓡 wired)
    (λ κs. (shr_vals, tt)) (λ κs. (shr_Tells (named 0) κs.0 PassState.the_row, tt))
    (λ κs qs bounds a gh are.
    let me = a.0.now in let t = me.block in
    let y : (walk_of 𝓛 f.ended stayed c).Ghost =
    ((κs, qs, bounds, a, (vptr a.0.ref_ptr.0 a.0.ref_ptr.1 ∷ [], tt)), gh) in
    let Post : Val → SProp 𝓤 = (walk_of 𝓛 f.ended stayed c).post y in
    qed 𝓛 ((‵ (fsep (flft κs.0 qs.0) ftrue) ⊛ ‵ (owns (types_at f.ended.signature.params κs) a
    y.0.4)) ∷ raw ((c κs a).requires gh) ∷ []) ∵ keep ! (0 ∷ []) $ split ! $
    move ! (1 ∷ []) $ fsplit ! $ fsplit ! $ keep ! (1 ∷ 3 ∷ []) $
    -- [the pass; the tokens]
    enter ! 𝓣.C 𝓣.Λ fn (vptr a.0.ref_ptr.0 a.0.ref_ptr.1 ∷ []) Post $
    alloc_all ! (λ l. pass_all ! refl ((tt, tt), tt) $
    pass_shown ! a.0.ref_ptr.0 a.0.ref_ptr.1 me $
    use1 𝓛 (later (given (me.bound ≡ true → IsLegal t.most t.began (entries_of me.lines))
    (‵ (told_of me.bound t me.lines)))) (begins.attests 𝓛 t me.bound me.lines) $ await ! tt $
    learn ! (λ legal.
    sets ! (of_opd ! (unit_lit !)) refl (tt, tt) $ feq_i ! (List Val) (vunit ∷ []) (vunit ∷ []) refl
    $
    -- [the result; what the pass has seen; the tokens]
    nothing ! $ nothing ! $ fjoin ! $
    returns ! (look_at ! 0 refl) $ free_all ! refl $ keep ! (3 ∷ 0 ∷ 1 ∷ 2 ∷ []) $
    suffices ! _ (ends_at 𝓛 f.ended stayed c y vunit tt (tt, tt) (tt, tt)) $ group ! 3 $ frame ! $
    says ! legal $ done !)))
