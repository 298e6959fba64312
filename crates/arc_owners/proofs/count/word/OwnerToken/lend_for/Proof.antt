-- `lend_for` opens the invariant of a sole owner, who lends the block for a lifetime that it has
-- whole, with a note of what else is lent for it.
use contract.BorrowLft.{◌⊑◌}
use Rattle.std.proofs.Common.{◌≡◌, true, List, [], ◌∷◌, refl}
use mir.Syntax.{named}
use mir.Val.{Val, vunit, vptr}
use base.Logic.{SProp, emp}
use base.Fml.{ftrue, fsep, flft, Share}
use types.Kit.{‵, ◌⊛◌, some, given, later, ◌$◌, ◌∵◌, !, qed, by, move, keep, drop, split, fsplit}
use types.Kit.{fsplit3, fjoin, pick, learn, use2, await, rewrite, feq_i, raw}
use types.Run.{unit_lit, of_opd, returns, enter}
use types.ByLocal.{alloc_all, pass_all, free_all, look_at, sets}
use contract.Monad.{fact_i, fact}
use contract.Running.{tables}
use denote.RattleType.{owns, RattleType}
use denote.Signature.{types_at, plain}
use denote.Ref.{mut_vals, mut_Tells}
use denote.Steps.{nothing, heard}
use denote.Builtin.{unit}
use denote.Exit.{yes}
use denote.Triple.Walked.{Stays, stay_ref, stay_dropped, walk_of, Goes-ref}
use Rattle.std.proofs.raw_atomic.Walks.{proved}
use Rattle.logbook.proofs.Fields.{ends, token, token_told}
use Rattle.core.proofs.alloc.Calls.{Goes-blank}
use Rattle.arc_owners.specs.contracts.lifetime.LifetimeToken as LifetimeToken
use Rattle.arc_owners.specs.count.Invariant.{Lease, right_owns}
use Rattle.arc_owners.specs.count.LentNotes.{LentNote}
use Rattle.arc_owners.proofs.count.AtType.{layouts_at, code_at, Right}
use Rattle.arc_owners.proofs.count.Begins as begins
use denote.Param.{param}
use Rattle.arc_owners.proofs.count.Walks.{an_owner, no_owner, right_out, owner_in, given_back}
use Rattle.arc_owners.specs.contracts.count.word.OwnerToken.lend_for as f
use Rattle.arc_owners.proofs.count.word.OwnerToken.lend_for.Statement.{statement}
use Rattle.arc_owners.proofs.count.word.OwnerToken.lend_for.Code as code

pub lend_for_spec : {M : Type 1} → statement M
lend_for_spec 𝓤 𝓛 𝓜 𝓡 wired T L =
    let 𝓣 = tables 𝓤 𝓛.H 𝓜 𝓡 𝓡.env in let Own : RattleType = Right T in
    let Tok : RattleType = LifetimeToken.the_row in let En = f.ended T in
    let c = f.clauses T 𝓛 𝓜.mem 𝓡.returns in let fn = code_at T code.function in
    let hs : Stays En.signature.params En.kept = (
      stay_ref (0 ∷ []) tt (plain (λ _. Own)),
      (stay_dropped (plain (λ _. Tok)) yes, tt),
    ) in
    proved 𝓛 En hs c 𝓜 𝓡 (
      Goes-ref 𝓛 2 0 tt (plain (λ _. Own)),
      (Goes-blank 𝓛 2 (plain (λ _. Tok)) yes (λ κs x w. tt), tt),
    )
    (f.Key.name (layouts_at T)) fn (code.unfolded 𝓤 𝓛.H 𝓜 𝓡 wired (T, tt))
    (λ κs. (mut_vals, ((λ _. token ∷ []), tt)))
    (λ κs. (mut_Tells (named 0) κs.0 Own, ((λ x vs p. token_told unit vs p.0), tt)))
    (λ κs qs bounds a gh are.
    let own = a.0.now in let t = own.block in let b = a.0.ref_ptr.0 in let o = a.0.ref_ptr.1 in
    let tok : Tok.Denot = a.1.0 in let n : LentNote = gh in
    let y : (walk_of 𝓛 En hs c).Ghost =
    ((κs, qs, bounds, a, (vptr b o ∷ [], (token ∷ [], tt))), gh) in
    let Post : Val → SProp 𝓤 = (walk_of 𝓛 En hs c).post y in
    qed 𝓛 ((‵ (fsep (flft κs.0 qs.0) (fsep (flft κs.1.0 qs.1.0) ftrue))
    ⊛ ‵ (owns (types_at En.signature.params κs) a y.0.4))
    ∷ raw (fact 𝓤 (κs.1.0 ⊑ T.lives)) ∷ raw (fact 𝓤 _) ∷ []) ∵
    move ! (2 ∷ []) $ heard ! _ (λ asked. keep ! (0 ∷ []) $ split ! $
    fsplit ! $ move ! (2 ∷ []) $ fsplit ! $ fsplit3 ! $ keep ! (3 ∷ 1 ∷ 2 ∷ 4 ∷ 5 ∷ []) $
    -- [the lifetime's token; two parts of the owner; its token; no further token]
    fsplit ! $ fsplit ! $ drop ! $
    rewrite ! 0 (λ (q : Share). ‵ (flft (tok.lifetime ∷ []) q)) asked.2 refl $
    keep ! (0 ∷ 2 ∷ 3 ∷ 4 ∷ 5 ∷ []) $
    enter ! 𝓣.C 𝓣.Λ fn (vptr b o ∷ token ∷ []) Post $
    alloc_all ! (λ l. pass_all ! refl ((tt, tt), ((tt, (tt, tt)), tt)) $
    move ! (1 ∷ 2 ∷ 3 ∷ []) $ right_out (param 0 T) ! tt b o t own (asked.0, refl) $
    -- [the owner; its two parts and its token; the lifetime's token; no further token]
    move ! (4 ∷ 0 ∷ []) $
    use2 𝓛 (later (some (λ (m : Lease). given ((m.is_lent ≡ true)
    × ((m.lifetime ≡ tok.lifetime) × (m.note ≡ n)))
    (‵ (right_owns true t own.owner m own.born)))))
    (begins.relets_for 𝓛 t own.owner own.lease own.born tok.lifetime n
    (λ m. (m.lifetime ≡ tok.lifetime) × (m.note ≡ n)) asked.1 (λ k. (refl, refl))) $
    await ! tt $ pick ! (λ m. learn ! (λ so.
    let after : Own.Denot = an_owner (param 0 T) true t own.owner m own.born in
    owner_in (param 0 T) ! tt b o (no_owner (param 0 T) own) after $
    sets ! (of_opd ! (unit_lit !)) refl (tt, tt) $
    feq_i ! (List Val) (vunit ∷ []) (vunit ∷ []) refl $
    -- [the result; two parts of the owner; its token; no further token]
    move ! (3 ∷ 4 ∷ []) $ fjoin ! $ nothing ! $ nothing ! $ fjoin ! $ move ! (3 ∷ 4 ∷ 0 ∷ []) $
    given_back ! b o $
    returns ! (look_at ! 0 refl) $ free_all ! refl $ keep ! (1 ∷ 0 ∷ 2 ∷ []) $
    by ! (ends 𝓛 En hs c y vunit tt (after, (tt, tt)) (tt, (tt, tt))
    (fact_i 𝓤 _ (emp 𝓤) (refl, refl, refl, refl, so.0, so.1.0, so.1.1))))))))
