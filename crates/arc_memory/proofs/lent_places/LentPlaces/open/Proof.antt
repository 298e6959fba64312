-- `open` takes each place out of its borrow, by a share of the lifetime. It touches no memory.
use Rattle.std.proofs.Common.{◌≡◌, ℕ, ◌+◌, ◌*◌, ◌≤◌, List, [], ◌∷◌, ◌++◌, length, refl}
use Rattle.std.proofs.Common.{arith}
use lib.ListN.{drop as drop_from}
use base.Logic.{emp}
use base.Fml.{GName, ftrue, fsep, flft}
use types.Kit.{‵, raw, ◌⊛◌, later, ◌$◌, ◌∵◌, !, qed, by, move, keep, drop, split, fsplit}
use types.Kit.{use1, use2, await, rewrite}
use contract.Monad.{fact, fact_i}
use denote.Builtin.{unit}
use denote.Steps.{heard}
use types.ByLocal.{alloc_all, pass_all, free_all, look_at}
use contract.BorrowLft.{◌⊑◌}
use denote.RattleType.{RattleType, owns}
use denote.Signature.{types_at}
use Rattle.std_alloc.proofs.VecSteps.El.{El, R, el_x, sz, no_al}
use Rattle.logbook.proofs.Fields.{token, token_told}
use Rattle.arc_owners.proofs.Endings.{spends, enters, two_made, both_spent}
use Rattle.arc_owners.proofs.Markers.{marked, told}
use Rattle.arc_memory.specs.LentMemory.{LentMemory, contents, borrowed, opened, names_from}
use Rattle.arc_memory.proofs.Borrowed.{Opened, opens_all}
use Rattle.arc_memory.proofs.Contents.{length-contents}
use Rattle.arc_memory.proofs.Cuts.{Side}
use Rattle.arc_memory.proofs.Held.{places_at, Row, places_in}
use Rattle.arc_memory.proofs.LentHeld.{there_out, there_in}
use Rattle.arc_memory.proofs.Spots.{spots, spots_as}
use Rattle.arc_owners.specs.contracts.lifetime.LifetimeToken as LifetimeToken
use Rattle.arc_memory.specs.contracts.lent_places.LentPlaces as LentPlaces
use Rattle.arc_memory.specs.contracts.lent_places.OpenPlaces as OpenPlaces
use Rattle.arc_memory.specs.contracts.lent_places.LentPlaces.open as f
use Rattle.arc_memory.proofs.lent_places.LentPlaces.open.Statement.{statement}
use Rattle.arc_memory.proofs.lent_places.LentPlaces.open.Code as code

pub open_spec : {M : Type 1} → statement M
open_spec 𝓤 𝓛 𝓜 𝓡 wired T L =
    let E : El = record { row = T; laws = L; al = no_al } in let s = sz E in
    let En = f.ended T in let c = f.clauses T 𝓛 𝓜.mem 𝓡.returns in
    let Pl : RattleType = Row E in let Tok : RattleType = LifetimeToken.the_row in
    let Lt : RattleType = LentPlaces.the_row (R E) in
    let Op : RattleType = OpenPlaces.the_row (R E) in
    spends 𝓛 En c 𝓜 𝓡 (λ κs x w. tt, (λ κs x w. tt, tt)) _ _
    (code.unfolded 𝓤 𝓛.H 𝓜 𝓡 wired (T, tt)) (λ y are.
    let κs = y.0.0 in let qs = y.0.1 in let me : Lt.Denot = y.0.3.0 in
    let stake : Tok.Denot = y.0.3.1.0 in let vss = y.0.4 in let m : LentMemory = me.memory in
    let a : ℕ = m.lifetime in let q = stake.share in
    let xs : List (el_x E) = me.items in let ys = contents me.count xs in
    let Asked : Type 0 = stake.lifetime ≡ a in
    qed 𝓛 ((‵ (fsep (flft κs.0 qs.0) ftrue) ⊛ ‵ (owns (types_at En.signature.params κs) y.0.3
    vss)) ∷ (raw (fact 𝓤 (κs.0 ⊑ T.lives)) ⊛ raw (fact 𝓤 Asked)) ∷ []) ∵
    move ! (1 ∷ []) $ split ! $ drop ! $ heard ! Asked (λ asked. split ! $ move ! (1 ∷ []) $
    fsplit ! $ move ! (1 ∷ []) $ fsplit ! $ fsplit ! $ drop ! $
    rewrite ! 0 (λ (k : ℕ). ‵ (flft (k ∷ []) q)) asked refl $ move ! (2 ∷ []) $ fsplit ! $ drop ! $
    there_out E ! m me.start (borrowed (R E) a (names_from (R E) m me.start) ys) (λ b o at_b small.
    -- [the borrows; the share; no more parameters; the tokens]
    let gs : List GName = drop_from me.start m.names in let from : ℕ = o + me.start * s in
    let low : me.start + me.count ≤ m.whole = omega (arith, me.inside.0, me.inside.1) in
    enters ! _ _ _ _ (token ∷ token ∷ [])
    (λ j. token_told (R E) vss.0 are.0.0 j ++ (token_told unit vss.1.0 are.1.0.0 j ++ [])) $
    alloc_all ! (λ l. pass_all ! refl ((tt, (tt, tt)), ((tt, (tt, tt)), tt)) $
    use2 𝓛 (later (‵ (spots E 𝓛 b ys from) ⊛ ‵ (Opened E 𝓛 b a q gs (length ys) from)))
    (opens_all E 𝓛 b a q gs ys from) $ await ! tt $ split ! $
    use1 𝓛 (‵ (Side E 𝓛 b from me.count xs)) (spots_as E 𝓛 b me.count from xs me.inside.2) $
    let places : Pl.Denot = places_at E m.base m.whole me.start me.count xs (
      low,
      me.inside.2,
      me.inside.3,
    ) in
    let rest : Op.Denot = record {
      marker = record {};
      memory = m;
      start = me.start;
      count = me.count;
      share = q;
      inside = (me.inside.0, me.inside.1, me.inside.3);
    } in
    places_in E ! places b o at_b small $ move ! (1 ∷ []) $
    rewrite ! 0 (λ (n : ℕ). ‵ (Opened E 𝓛 b a q gs n from)) (length-contents me.count xs) refl $
    there_in E ! m me.start (opened (R E) a q gs me.count) b o at_b small $ marked (R E) ! $
    two_made ! (refl, (tt, tt), refl, refl, (tt, (tt, tt)))
    (refl, (tt, tt), refl, refl, (tt, (tt, tt)))
    (refl, refl, refl, (tt, ((tt, tt), ((tt, tt), tt)))) (look_at ! 0 refl) (free_all ! refl) $
    keep ! (1 ∷ 0 ∷ 3 ∷ []) $
    by ! (both_spent 𝓛 En c y Pl Op places rest token token (places, rest) (tt, (tt, tt)) refl
    (told 𝓤 ((refl, refl), refl)
    (told 𝓤 (refl, refl, refl) (fact_i 𝓤 _ (emp 𝓤) (refl, refl, refl)) 𝓛) 𝓛))))))
