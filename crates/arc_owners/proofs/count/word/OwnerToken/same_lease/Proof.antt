-- `same_lease` opens the invariant, in which two owners of one block have one lease.
use contract.BorrowLft.{◌⊑◌}
use denote.Param.{param}
use Rattle.std.proofs.Common.{◌≡◌, List, [], ◌∷◌, refl}
use mir.Syntax.{named}
use mir.Val.{Val, vunit, vptr}
use base.Logic.{SProp, emp}
use base.Fml.{Fml, ftrue, fsep, flft}
use types.Kit.{‵, raw, ◌⊛◌, given, later, ◌$◌, ◌∵◌, !, qed, by, move, keep, split}
use types.Kit.{fsplit, fjoin, join, learn, use3, await, feq_i}
use types.Run.{unit_lit, of_opd, returns, enter}
use types.ByLocal.{alloc_all, pass_all, free_all, look_at, sets}
use contract.Monad.{fact_i, fact}
use contract.Running.{tables}
use denote.Exit.{yes}
use denote.RattleType.{owns, RattleType}
use denote.Signature.{types_at, plain}
use denote.Builtin.{RefOf}
use denote.Ref.{shr_vals, shr_Tells}
use denote.Steps.{nothing, heard}
use denote.Triple.Walked.{Stays, stay_dropped, walk_of, Goes-dropped}
use Rattle.std.proofs.raw_atomic.Walks.{proved}
use Rattle.logbook.proofs.Fields.{ends}
use Rattle.arc_owners.proofs.count.AtType.{layouts_at, code_at, Right}
use Rattle.arc_owners.proofs.count.Begins as begins
use Rattle.arc_owners.proofs.count.Walks.{owner_told}
use Rattle.arc_owners.specs.contracts.count.word.OwnerToken.same_lease as f
use Rattle.arc_owners.proofs.count.word.OwnerToken.same_lease.Statement.{statement}
use Rattle.arc_owners.proofs.count.word.OwnerToken.same_lease.Code as code

pub same_lease_spec : {M : Type 1} → statement M
same_lease_spec 𝓤 𝓛 𝓜 𝓡 wired T L =
    let 𝓣 = tables 𝓤 𝓛.H 𝓜 𝓡 𝓡.env in let fn = code_at T code.function in
    let Own : RattleType = Right T in let En = f.ended T in let c = f.clauses T 𝓛 𝓜.mem 𝓡.returns in
    let hs : Stays En.signature.params En.kept = (
      stay_dropped (RefOf (0 ∷ []) tt (plain (λ _. Own)) (λ _. tt)) yes,
      (stay_dropped (RefOf (1 ∷ []) tt (plain (λ _. Own)) (λ _. tt)) yes, tt),
    ) in
    proved 𝓛 En hs c 𝓜 𝓡 (
      Goes-dropped 𝓛 3 (RefOf (0 ∷ []) tt (plain (λ _. Own)) (λ _. tt)) yes (λ κs x w. refl),
      (
        Goes-dropped 𝓛 3 (RefOf (1 ∷ []) tt (plain (λ _. Own)) (λ _. tt)) yes (λ κs x w. refl),
        tt,
      ),
    )
    (f.Key.name (layouts_at T)) fn (code.unfolded 𝓤 𝓛.H 𝓜 𝓡 wired (T, tt))
    (λ κs. (shr_vals, (shr_vals, tt)))
    (λ κs. (shr_Tells (named 0) κs.0 Own, (shr_Tells (named 1) κs.1.0 Own, tt)))
    (λ κs qs bounds a gh are.
    let own = a.0.now in let other = a.1.0.now in let me = own.block in
    let b₁ = a.0.ref_ptr.0 in let o₁ = a.0.ref_ptr.1 in
    let b₂ = a.1.0.ref_ptr.0 in let o₂ = a.1.0.ref_ptr.1 in
    let y : (walk_of 𝓛 En hs c).Ghost =
    ((κs, qs, bounds, a, (vptr b₁ o₁ ∷ [], (vptr b₂ o₂ ∷ [], tt))), gh) in
    let Post : Val → SProp 𝓤 = (walk_of 𝓛 En hs c).post y in
    let toks : Fml = fsep (flft κs.0 qs.0) (fsep (flft κs.1.0 qs.1.0)
    (fsep (flft κs.1.1.0 qs.1.1.0) ftrue)) in
    qed 𝓛 ((‵ toks ⊛ ‵ (owns (types_at En.signature.params κs) a y.0.4))
    ∷ raw (fact 𝓤 (κs.1.1.0 ⊑ T.lives)) ∷ raw (fact 𝓤 _) ∷ []) ∵
    move ! (2 ∷ []) $ heard ! _ (λ asked. keep ! (0 ∷ []) $ split ! $
    fsplit ! $ move ! (1 ∷ []) $ fsplit ! $ move ! (3 ∷ []) $ fsplit ! $ fsplit ! $
    move ! (2 ∷ []) $ fsplit ! $ fsplit ! $ keep ! (1 ∷ 4 ∷ 5 ∷ 7 ∷ 6 ∷ []) $
    -- [the other owner; the owner; the tokens, of the other first]
    enter ! 𝓣.C 𝓣.Λ fn (vptr b₁ o₁ ∷ vptr b₂ o₂ ∷ []) Post $
    alloc_all ! (λ l. pass_all ! refl ((tt, tt), ((tt, tt), tt)) $
    owner_told (param 0 T) ! b₂ o₂ other asked.1 $ move ! (1 ∷ []) $
    -- [the owner; the other owner; the tokens]
    owner_told (param 0 T) ! b₁ o₁ own asked.0 $ move ! (2 ∷ 3 ∷ []) $ join ! $
    move ! (1 ∷ 2 ∷ 0 ∷ []) $
    use3 𝓛 (later (given (other.block ≡ me → other.lease ≡ own.lease)
    (‵ (flft κs.1.0 qs.1.0) ⊛ ‵ (flft κs.0 qs.0))))
    (begins.leases_told 𝓛 me own.born own.owner own.lease κs.0 qs.0 other.block other.born
    other.owner other.lease κs.1.0 qs.1.0) $ await ! tt $ learn ! (λ so. split ! $
    -- [the tokens, of the other first]
    sets ! (of_opd ! (unit_lit !)) refl (tt, tt) $
    feq_i ! (List Val) (vunit ∷ []) (vunit ∷ []) refl $
    move ! (1 ∷ 3 ∷ []) $ fjoin ! $ move ! (2 ∷ 0 ∷ []) $ fjoin ! $
    nothing ! $ nothing ! $ fjoin ! $ nothing ! $ fjoin ! $
    returns ! (look_at ! 0 refl) $ free_all ! refl $ keep ! (1 ∷ 0 ∷ 2 ∷ []) $
    by ! (ends 𝓛 En hs c y vunit tt (tt, (tt, tt)) (tt, (tt, tt))
    (fact_i 𝓤 _ (emp 𝓤) so))))))
