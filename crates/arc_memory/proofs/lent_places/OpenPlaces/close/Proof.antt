-- `close` puts each place back into its borrow, with what lies there now, and the share of the
-- lifetime comes out. It touches no memory.
use Rattle.std.proofs.Common.{◌≡◌, ℕ, ◌+◌, ◌*◌, ◌≤◌, List, [], ◌∷◌, ◌++◌, length, refl, sym, ◌∙◌}
use Rattle.std.proofs.Common.{arith}
use lib.ListN.{drop as drop_from}
use base.Logic.{emp}
use base.Fml.{GName, ftrue, fsep, flft}
use types.Kit.{‵, raw, ◌⊛◌, later, ◌$◌, ◌∵◌, !, qed, by, move, keep, drop, split, fsplit}
use types.Kit.{use1, use2, await, rewrite}
use contract.Monad.{fact, fact_i}
use denote.Builtin.{unit}
use denote.RawPtr.{Ptr, block_ptr, block_of, count_of}
use denote.Steps.{heard}
use types.ByLocal.{alloc_all, pass_all, free_all, look_at}
use contract.BorrowLft.{◌⊑◌}
use denote.RattleType.{RattleType, owns}
use denote.Signature.{types_at}
use Rattle.std_alloc.proofs.VecSteps.El.{El, R, el_x, sz, no_al}
use Rattle.logbook.proofs.Fields.{token, token_told}
use Rattle.arc_owners.proofs.Endings.{spends, enters, two_made, both_spent}
use Rattle.arc_owners.proofs.Markers.{marked, told}
use Rattle.arc_memory.specs.LentMemory.{LentMemory, contents, borrowed, opened, names_from}
use Rattle.arc_memory.proofs.Borrowed.{Borrows, Opened, closes_all}
use Rattle.arc_memory.proofs.Contents.{length-contents}
use Rattle.arc_memory.proofs.Cuts.{Side}
use Rattle.arc_memory.proofs.Held.{Row, places_out}
use Rattle.arc_memory.proofs.LentHeld.{lent_at, there_out, there_in}
use Rattle.arc_memory.proofs.Spots.{spots, spots_of}
use Rattle.arc_owners.specs.contracts.lifetime.LifetimeToken as LifetimeToken
use Rattle.arc_memory.specs.contracts.lent_places.LentPlaces as LentPlaces
use Rattle.arc_memory.specs.contracts.lent_places.OpenPlaces as OpenPlaces
use Rattle.arc_memory.specs.contracts.lent_places.OpenPlaces.close as f
use Rattle.arc_memory.proofs.lent_places.OpenPlaces.close.Statement.{statement}
use Rattle.arc_memory.proofs.lent_places.OpenPlaces.close.Code as code

pub close_spec : {M : Type 1} → statement M
close_spec 𝓤 𝓛 𝓜 𝓡 wired T L =
    let E : El = record { row = T; laws = L; al = no_al } in let s = sz E in
    let En = f.ended T in let c = f.clauses T 𝓛 𝓜.mem 𝓡.returns in
    let Pl : RattleType = Row E in let Tok : RattleType = LifetimeToken.the_row in
    let Lt : RattleType = LentPlaces.the_row (R E) in
    let Op : RattleType = OpenPlaces.the_row (R E) in
    spends 𝓛 En c 𝓜 𝓡 (λ κs x w. tt, (λ κs x w. tt, tt)) _ _
    (code.unfolded 𝓤 𝓛.H 𝓜 𝓡 wired (T, tt)) (λ y are.
    let κs = y.0.0 in let qs = y.0.1 in let me : Op.Denot = y.0.3.0 in
    let new : Pl.Denot = y.0.3.1.0 in let vss = y.0.4 in let m : LentMemory = me.memory in
    let a : ℕ = m.lifetime in let q = me.share in
    let xs : List (el_x E) = new.items in let ys = contents me.count xs in
    let Within : Type 0 = (new.base ≡ m.base) × (new.whole ≡ m.whole) in
    let Same : Type 0 = (new.start ≡ me.start) × (new.count ≡ me.count) in
    qed 𝓛 ((‵ (fsep (flft κs.0 qs.0) ftrue) ⊛ ‵ (owns (types_at En.signature.params κs) y.0.3
    vss)) ∷ (raw (fact 𝓤 (κs.0 ⊑ T.lives)) ⊛ raw (fact 𝓤 Within) ⊛ raw (fact 𝓤 Same)) ∷ []) ∵
    move ! (1 ∷ []) $ split ! $ drop ! $ split ! $
    heard ! Within (λ within. heard ! Same (λ same. split ! $ move ! (1 ∷ []) $ fsplit ! $
    move ! (1 ∷ []) $ fsplit ! $
    places_out E ! new vss.1.0 (λ b₂ o₂ at_b₂ _. move ! (2 ∷ []) $ fsplit ! $ drop ! $
    there_out E ! m me.start (opened (R E) a q (names_from (R E) m me.start) me.count)
    (λ b o at_b small.
    -- [what is open; what lies side by side; no more parameters; the tokens]
    let gs : List GName = drop_from me.start m.names in let from : ℕ = o + me.start * s in
    let fewer : length xs ≤ me.count = omega (arith, new.inside.1, same.1) in
    let base : block_ptr b₂ o₂ ≡ block_ptr b o = sym at_b₂ ∙ within.0 ∙ at_b in
    rewrite ! 1 (λ (k : Ptr × (ℕ × ℕ)). ‵ (Side E 𝓛 (block_of k.0) (count_of k.0 + k.1.0 * s) k.1.1
    xs)) (λ i. (base i, (same.0 i, same.1 i))) refl $
    rewrite ! 0 (λ (n : ℕ). ‵ (Opened E 𝓛 b a q gs n from)) (sym (length-contents me.count xs))
    refl $ move ! (1 ∷ []) $
    use1 𝓛 (‵ (spots E 𝓛 b ys from)) (spots_of E 𝓛 b me.count from xs fewer) $
    enters ! _ _ _ _ (token ∷ token ∷ [])
    (λ j. token_told (R E) vss.0 are.0.0 j ++ (token_told (R E) vss.1.0 are.1.0.0 j ++ [])) $
    alloc_all ! (λ l. pass_all ! refl ((tt, (tt, tt)), ((tt, (tt, tt)), tt)) $
    use2 𝓛 (later (‵ (Borrows E 𝓛 b a gs ys from) ⊛ ‵ (flft (a ∷ []) q)))
    (closes_all E 𝓛 b a q gs ys from) $ await ! tt $ split ! $
    let part : Lt.Denot = lent_at E m me.start me.count xs (
      me.inside.0,
      me.inside.1,
      fewer,
      me.inside.2,
    ) in
    let stake : Tok.Denot = record { marker = record {}; lifetime = a; share = q } in
    there_in E ! m me.start (borrowed (R E) a gs ys) b o at_b small $ marked (R E) ! $
    move ! (1 ∷ []) $ marked unit ! $
    two_made ! (refl, (tt, tt), refl, refl, (tt, (tt, tt)))
    (refl, (tt, tt), refl, refl, (tt, (tt, tt)))
    (refl, refl, refl, (tt, ((tt, tt), ((tt, tt), tt)))) (look_at ! 0 refl) (free_all ! refl) $
    keep ! (1 ∷ 0 ∷ 3 ∷ []) $
    by ! (both_spent 𝓛 En c y Lt Tok part stake token token (part, stake) (tt, (tt, tt)) refl
    (told 𝓤 (refl, refl, refl, refl) (fact_i 𝓤 _ (emp 𝓤) (refl, refl)) 𝓛))))))))
