-- `lives_apart` opens the invariant of a sole owner, in which no other has a right.
use contract.BorrowLft.{◌⊑◌}
use denote.Param.{param}
use Rattle.std.proofs.Common.{◌≡◌, Bool, true, List, [], ◌∷◌, refl, sym}
use mir.Syntax.{named}
use mir.Val.{Val, vunit, vptr}
use base.Logic.{SProp, emp}
use base.Fml.{Fml, ftrue, fsep, flft}
use types.Kit.{‵, raw, ◌⊛◌, given, later, ◌$◌, ◌∵◌, !, qed, by, move, keep, split, fsplit}
use types.Kit.{fsplit3, fjoin, learn, use3, await, rewrite, feq_i}
use types.Run.{unit_lit, of_opd, returns, enter}
use types.ByLocal.{alloc_all, pass_all, free_all, look_at, sets}
use contract.Monad.{fact_i, fact}
use contract.Running.{tables}
use denote.Exit.{yes}
use denote.RattleType.{owns, RattleType}
use denote.Signature.{types_at, plain}
use denote.Builtin.{RefOf}
use denote.Ref.{mut_vals, mut_Tells, shr_vals, shr_Tells}
use denote.Steps.{nothing, heard}
use denote.Triple.Walked.{Stays, stay_dropped, stay_ref, walk_of, Goes-dropped, Goes-ref}
use Rattle.std.proofs.raw_atomic.Walks.{proved}
use Rattle.logbook.proofs.Fields.{ends}
use Rattle.arc_owners.specs.count.Invariant.{right_owns}
use Rattle.arc_owners.proofs.count.AtType.{layouts_at, code_at, Right}
use Rattle.arc_owners.proofs.count.Begins as begins
use Rattle.arc_owners.proofs.count.Walks.{no_owner, right_out, owner_in, owner_told, given_back}
use Rattle.arc_owners.specs.contracts.count.word.OwnerToken.lives_apart as f
use Rattle.arc_owners.proofs.count.word.OwnerToken.lives_apart.Statement.{statement}
use Rattle.arc_owners.proofs.count.word.OwnerToken.lives_apart.Code as code

pub lives_apart_spec : {M : Type 1} → statement M
lives_apart_spec 𝓤 𝓛 𝓜 𝓡 wired T L =
    let 𝓣 = tables 𝓤 𝓛.H 𝓜 𝓡 𝓡.env in let fn = code_at T code.function in
    let Own : RattleType = Right T in let En = f.ended T in let c = f.clauses T 𝓛 𝓜.mem 𝓡.returns in
    let hs : Stays En.signature.params En.kept = (
      stay_dropped (RefOf (0 ∷ []) tt (plain (λ _. Own)) (λ _. tt)) yes,
      (stay_ref (1 ∷ []) tt (plain (λ _. Own)), tt),
    ) in
    proved 𝓛 En hs c 𝓜 𝓡 (
      Goes-dropped 𝓛 3 (RefOf (0 ∷ []) tt (plain (λ _. Own)) (λ _. tt)) yes (λ κs x w. refl),
      (Goes-ref 𝓛 3 1 tt (plain (λ _. Own)), tt),
    )
    (f.Key.name (layouts_at T)) fn (code.unfolded 𝓤 𝓛.H 𝓜 𝓡 wired (T, tt))
    (λ κs. (shr_vals, (mut_vals, tt)))
    (λ κs. (shr_Tells (named 0) κs.0 Own, (mut_Tells (named 1) κs.1.0 Own, tt)))
    (λ κs qs bounds a gh are.
    let other = a.0.now in let sole = a.1.0.now in let me = sole.block in
    let b₁ = a.0.ref_ptr.0 in let o₁ = a.0.ref_ptr.1 in
    let b = a.1.0.ref_ptr.0 in let o = a.1.0.ref_ptr.1 in
    let y : (walk_of 𝓛 En hs c).Ghost =
    ((κs, qs, bounds, a, (vptr b₁ o₁ ∷ [], (vptr b o ∷ [], tt))), gh) in
    let Post : Val → SProp 𝓤 = (walk_of 𝓛 En hs c).post y in
    let toks : Fml = fsep (flft κs.0 qs.0) (fsep (flft κs.1.0 qs.1.0)
    (fsep (flft κs.1.1.0 qs.1.1.0) ftrue)) in
    qed 𝓛 ((‵ toks ⊛ ‵ (owns (types_at En.signature.params κs) a y.0.4))
    ∷ raw (fact 𝓤 (κs.1.1.0 ⊑ T.lives)) ∷ raw (fact 𝓤 _) ∷ []) ∵
    move ! (2 ∷ []) $ heard ! _ (λ asked. keep ! (0 ∷ []) $ split ! $
    fsplit ! $ move ! (1 ∷ []) $ fsplit ! $ move ! (3 ∷ []) $ fsplit ! $ fsplit ! $
    move ! (2 ∷ []) $ fsplit ! $ fsplit3 ! $ keep ! (1 ∷ 2 ∷ 5 ∷ 6 ∷ 8 ∷ 7 ∷ []) $
    -- [two parts of the sole owner; the other; the tokens, last first]
    enter ! 𝓣.C 𝓣.Λ fn (vptr b₁ o₁ ∷ vptr b o ∷ []) Post $
    alloc_all ! (λ l. pass_all ! refl ((tt, tt), ((tt, tt), tt)) $
    move ! (2 ∷ []) $ owner_told (param 0 T) ! b₁ o₁ other asked.0 $
    -- [the other; two parts of the sole owner; its token; the other's token]
    move ! (1 ∷ 2 ∷ 3 ∷ []) $ right_out (param 0 T) ! tt b o me sole (asked.1, refl) $
    -- [the sole owner; its two parts and its token; the other; its token]
    move ! (0 ∷ 4 ∷ 5 ∷ []) $
    use3 𝓛 (later (given (¬ (other.block ≡ me))
    (‵ (right_owns true me sole.owner sole.lease sole.born) ⊛ ‵ (flft κs.0 qs.0))))
    (begins.apart 𝓛 me sole.born sole.owner sole.lease other.block other.born other.owner
    other.lease κs.0 qs.0 asked.2) $ await ! tt $ learn ! (λ so. split ! $
    rewrite ! 0 (λ (k : Bool). ‵ (right_owns k me sole.owner sole.lease sole.born))
    (sym asked.1) refl $
    move ! (0 ∷ 2 ∷ 3 ∷ 4 ∷ []) $ owner_in (param 0 T) ! tt b o (no_owner (param 0 T) sole) sole $
    -- [two parts of the sole owner; the tokens, last first]
    sets ! (of_opd ! (unit_lit !)) refl (tt, tt) $
    feq_i ! (List Val) (vunit ∷ []) (vunit ∷ []) refl $
    move ! (5 ∷ []) $ move ! (4 ∷ 0 ∷ []) $ fjoin ! $ move ! (4 ∷ 0 ∷ []) $ fjoin ! $
    nothing ! $ move ! (3 ∷ 4 ∷ 0 ∷ []) $ given_back ! b o $ nothing ! $ fjoin ! $
    returns ! (look_at ! 0 refl) $ free_all ! refl $ keep ! (1 ∷ 0 ∷ 2 ∷ []) $
    by ! (ends 𝓛 En hs c y vunit tt (tt, (sole, tt)) (tt, (tt, tt))
    (fact_i 𝓤 _ (emp 𝓤) (refl, so)))))))
