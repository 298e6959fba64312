-- `lifetime` shows an owner's share of the lifetime, which a `&` to the owner holds.
use denote.Param.{param}
use Rattle.std.proofs.Common.{Bool, List, [], ◌∷◌, refl}
use mir.Syntax.{named}
use mir.Val.{Val, vptr}
use base.Logic.{SProp, emp, id⊢}
use base.Fml.{Lft, ftrue, fsep, flft, fhide}
use types.Kit.{‵, ◌⊛◌, at_ret, ◌$◌, ◌∵◌, !, qed, by, move, keep, drop, split, fsplit, fjoin}
use types.Kit.{use1, use2, rewrite, feq_i, raw}
use types.Run.{stop, addr, of_opd, first, blocks, exec, returns, enter}
use types.ByLocal.{alloc_all, pass_all, free_all, look_at, get, through, sets, sets_last, env}
use contract.Monad.{fact_i, fact}
use contract.BorrowLft.{◌⊑◌}
use contract.Running.{tables}
use denote.Exit.{yes}
use denote.RattleType.{owns, RattleType}
use denote.Signature.{types_at, plain}
use denote.Builtin.{RefOf}
use denote.Ref.{shr_vals, shr_Tells}
use denote.Memory.{hidden_shr}
use denote.Opens.{unhide, hide}
use denote.Steps.{nothing, heard}
use denote.Struct.Lending.{lent_out}
use denote.Triple.Walked.{Stays, stay_dropped, walk_of, Goes-dropped}
use Rattle.core.specs.contracts.marker.PhantomData as marker
use Rattle.core.proofs.alloc.Shapes.{after}
use Rattle.std.proofs.raw_atomic.Walks.{proved}
use Rattle.logbook.proofs.Fields.{Token, ends}
use Rattle.arc_owners.specs.count.Invariant.{right_shares, tokens}
use Rattle.arc_owners.specs.contracts.count.word.OwnerToken as OwnerToken
use Rattle.arc_owners.specs.contracts.lifetime.LifetimeToken as LifetimeToken
use base.Fraction.{full_share}
use Rattle.arc_owners.specs.contracts.count.word.OwnerToken.lifetime as f
use Rattle.arc_owners.proofs.count.AtType.{layouts_at, code_at, Right}
use Rattle.arc_owners.proofs.count.word.OwnerToken.lifetime.Statement.{statement}
use Rattle.arc_owners.proofs.count.word.OwnerToken.lifetime.Code as code

pub lifetime_spec : {M : Type 1} → statement M
lifetime_spec 𝓤 𝓛 𝓜 𝓡 wired T L =
    let 𝓣 = tables 𝓤 𝓛.H 𝓜 𝓡 𝓡.env in let R : RattleType = param 0 T in
    let Own : RattleType = Right T in let Tok : RattleType = LifetimeToken.the_row in
    let En = f.ended T in let c = f.clauses T 𝓛 𝓜.mem 𝓡.returns in
    let fn = code_at T code.function in
    let hs : Stays En.signature.params En.kept =
    (stay_dropped (RefOf (0 ∷ []) tt (plain (λ _. Own)) (λ _. tt)) yes, tt) in
    proved 𝓛 En hs c 𝓜 𝓡
    (Goes-dropped 𝓛 2 (RefOf (0 ∷ []) tt (plain (λ _. Own)) (λ _. tt)) yes (λ κs x w. refl), tt)
    (f.Key.name (layouts_at T)) fn (code.unfolded 𝓤 𝓛.H 𝓜 𝓡 wired (T, tt))
    (λ κs. (shr_vals, tt)) (λ κs. (shr_Tells (named 0) κs.0 Own, tt))
    (λ κs qs bounds a gh are.
    let own = a.0.now in let b = a.0.ref_ptr.0 in let o = a.0.ref_ptr.1 in let κ : Lft = κs.0 in
    let y : (walk_of 𝓛 En hs c).Ghost = ((κs, qs, bounds, a, (vptr b o ∷ [], tt)), gh) in
    let Post : Val → SProp 𝓤 = (walk_of 𝓛 En hs c).post y in
    let share : Tok.Denot = record {
      marker = record {};
      lifetime = own.lease.lifetime;
      share = full_share;
    } in
    qed 𝓛 ((‵ (fsep (flft κs.0 qs.0) (fsep (flft κs.1.0 qs.1.0) ftrue))
    ⊛ ‵ (owns (types_at En.signature.params κs) a y.0.4))
    ∷ raw (fact 𝓤 (κs.1.0 ⊑ T.lives)) ∷ raw (fact 𝓤 _) ∷ []) ∵
    move ! (2 ∷ []) $ heard ! _ (λ asked. keep ! (0 ∷ []) $ split ! $
    move ! (1 ∷ []) $ fsplit ! $ fsplit ! $ keep ! (1 ∷ 3 ∷ []) $
    -- [what is lent of the owner; the tokens]
    use1 𝓛 (‵ (hidden_shr (Token R) κ (own.marker, tt) b o)
    ⊛ ‵ (fhide (right_shares own.held own.block own.owner own.lease own.born κ)))
    (lent_out 𝓛 (OwnerToken.struct R)
    (OwnerToken.the_codes R.Denot R.coded (marker.the_row R).coded)
    (OwnerToken.the_heap R) (OwnerToken.the_lent R) κ own b o) $
    split ! $ move ! (1 ∷ []) $ unhide ! $
    rewrite ! 0 (λ (k : Bool). ‵ (right_shares k own.block own.owner own.lease own.born κ))
    asked.0 refl $ fsplit ! $ drop ! $ fsplit ! $ drop ! $
    rewrite ! 0 (λ (k : Bool). ‵ (tokens k own.lease κ)) asked.1 refl $ hide ! $
    move ! (1 ∷ 0 ∷ []) $ use2 𝓛 (‵ (hidden_shr Tok κ share b o)) (id⊢ 𝓤 _) $
    -- [what is lent of the share; the tokens]
    enter ! 𝓣.C 𝓣.Λ fn (vptr b o ∷ []) Post $ alloc_all ! (λ l. pass_all ! refl ((tt, tt), tt) $
    let Ev = env fn.locals l in
    first ! $ blocks ! $ sets ! (addr ! (through ! refl (stop !))) refl (tt, tt) $
    sets ! (of_opd ! (get ! refl)) refl (tt, tt) $
    sets_last ! (addr ! (through ! refl (stop !))) refl (tt, tt) $
    exec ! 𝓣.C 𝓣.Λ Ev (after 1 fn.body) (at_ret Ev Post) $
    sets ! (of_opd ! (get ! refl)) refl (tt, tt) $
    feq_i ! (List Val) (vptr b o ∷ []) (vptr b o ∷ []) refl $ fjoin ! $
    nothing ! $ nothing ! $ fjoin ! $
    returns ! (look_at ! 0 refl) $ free_all ! refl $ keep ! (2 ∷ 0 ∷ 1 ∷ []) $
    by ! (ends 𝓛 En hs c y (vptr b o) (record { ref_ptr = (b, o); now = share }) (tt, tt)
    (tt, tt) (fact_i 𝓤 _ (emp 𝓤) refl)))))
