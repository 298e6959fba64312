-- `split` parts the borrows. It touches no memory.
use Rattle.std.proofs.Common.{◌≡◌, ℕ, ◌+◌, ◌-◌, ◌*◌, ◌≤◌, List, [], ◌∷◌, ◌++◌, length, take, refl}
use Rattle.std.proofs.Common.{sym, arith, w64, length-drop, length-take, drop-drop}
use lib.ListN.{drop as drop_from}
use mir.Val.{vint}
use base.Logic.{emp}
use base.Fml.{GName, ftrue, fsep, flft}
use types.Kit.{‵, raw, ◌⊛◌, ◌$◌, ◌∵◌, !, qed, by, move, keep, drop, split, fsplit}
use types.Kit.{feq_l, flt_l, use1, rewrite}
use contract.Monad.{fact, fact_i}
use denote.Steps.{heard}
use types.ByLocal.{alloc_all, pass_all, free_all, look_at}
use contract.BorrowLft.{◌⊑◌}
use denote.RattleType.{RattleType, owns}
use denote.Signature.{types_at}
use Rattle.std_alloc.proofs.VecSteps.El.{El, R, el_x, sz, no_al}
use Rattle.logbook.proofs.Fields.{token, token_told}
use Rattle.arc_owners.proofs.Endings.{spends, enters, two_made, both_spent}
use Rattle.arc_owners.proofs.Markers.{marked, told}
use Rattle.arc_memory.specs.LentMemory.{LentMemory, Held, contents, borrowed, names_from}
use Rattle.arc_memory.proofs.Borrowed.{Borrows, borrowed_cut}
use Rattle.arc_memory.proofs.Contents.{length-contents, take-contents, drop-contents}
use Rattle.arc_memory.proofs.Cuts.{further}
use Rattle.arc_memory.proofs.LentHeld.{lent_at, there_out, there_in}
use Rattle.arc_memory.specs.contracts.lent_places.LentPlaces as LentPlaces
use Rattle.arc_memory.specs.contracts.lent_places.LentPlaces.split as f
use Rattle.arc_memory.proofs.lent_places.LentPlaces.split.Statement.{statement}
use Rattle.arc_memory.proofs.lent_places.LentPlaces.split.Code as code

pub split_spec : {M : Type 1} → statement M
split_spec 𝓤 𝓛 𝓜 𝓡 wired T L =
    let E : El = record { row = T; laws = L; al = no_al } in let s = sz E in
    let En = f.ended T in let c = f.clauses T 𝓛 𝓜.mem 𝓡.returns in
    let Lt : RattleType = LentPlaces.the_row (R E) in
    spends 𝓛 En c 𝓜 𝓡 (λ κs x w. tt, (λ κs x w. tt, tt)) _ _
    (code.unfolded 𝓤 𝓛.H 𝓜 𝓡 wired (T, tt)) (λ y are.
    let κs = y.0.0 in let qs = y.0.1 in let was : Lt.Denot = y.0.3.0 in let at : ℕ = y.0.3.1.0 in
    let vss = y.0.4 in let m : LentMemory = was.memory in let a : ℕ = m.lifetime in
    let xs : List (el_x E) = was.items in let ys = contents was.count xs in
    let n : ℕ = was.count - at in
    qed 𝓛 ((‵ (fsep (flft κs.0 qs.0) ftrue) ⊛ ‵ (owns (types_at En.signature.params κs) y.0.3
    vss)) ∷ (raw (fact 𝓤 (κs.0 ⊑ T.lives)) ⊛ raw (fact 𝓤 (at ≤ was.count))) ∷ []) ∵
    move ! (1 ∷ []) $ split ! $ drop ! $ heard ! (at ≤ was.count) (λ asked. split ! $
    move ! (1 ∷ []) $ fsplit ! $ move ! (1 ∷ []) $ fsplit ! $ fsplit ! $
    feq_l ! (λ e₁. flt_l ! (λ fits. move ! (1 ∷ []) $ fsplit ! $ drop ! $
    there_out E ! m was.start (borrowed (R E) a (names_from (R E) m was.start) ys)
    (λ b o at_b small.
    -- [the borrows; no more parameters; the tokens]
    let gs : List GName = drop_from was.start m.names in let from : ℕ = o + was.start * s in
    let mid : ℕ = o + (was.start + at) * s in
    let cut : was.count ≡ at + n = omega (arith, asked) in
    use1 𝓛 (‵ (Borrows E 𝓛 b a gs (take at ys) from) ⊛ ‵
    (Borrows E 𝓛 b a (drop_from at gs) (drop_from at ys) mid))
    (borrowed_cut E 𝓛 b a at gs ys from mid (omega (arith, length-contents was.count xs, asked))
    (sym (further o was.start at s))) $ split ! $
    rewrite ! 0 (λ (us : List (Held (R E))). ‵ (Borrows E 𝓛 b a gs us from))
    (take-contents at was.count xs asked) refl $
    rewrite ! 1 (λ (k : List GName × List (Held (R E))). ‵ (Borrows E 𝓛 b a k.0 k.1 mid))
    (λ i. (drop-drop at was.start m.names i, drop-contents at was.count n xs cut i)) refl $
    let lower : length (take at xs) ≤ at = omega (arith, length-take at xs) in
    let upper : length (drop_from at xs) ≤ n = omega (arith, length-drop at xs, was.inside.2) in
    let front : Lt.Denot = lent_at E m was.start at (take at xs) (
      omega (
        arith,
        was.inside.0,
        asked,
      ),
      was.inside.1,
      lower,
      was.inside.3,
    ) in
    let back : Lt.Denot = lent_at E m (was.start + at) n (drop_from at xs) (
      omega (
        arith,
        was.inside.0,
        asked,
      ),
      was.inside.1,
      upper,
      was.inside.3,
    ) in
    there_in E ! m was.start (borrowed (R E) a gs (contents at (take at xs))) b o at_b small $
    marked (R E) ! $ move ! (1 ∷ []) $
    there_in E ! m (was.start + at) (borrowed (R E) a (drop_from (was.start + at) m.names)
    (contents n (drop_from at xs))) b o at_b small $ marked (R E) ! $
    enters ! _ _ _ _ (token ∷ vint w64 at ∷ [])
    (λ j. token_told (R E) vss.0 are.0.0 j ++ (e₁ j ++ [])) $
    alloc_all ! (λ l. pass_all ! refl ((tt, (tt, tt)), ((tt, record { fits = fits }), tt)) $
    two_made ! (refl, (tt, tt), refl, refl, (tt, (tt, tt)))
    (refl, (tt, tt), refl, refl, (tt, (tt, tt)))
    (refl, refl, refl, (tt, ((tt, tt), ((tt, tt), tt)))) (look_at ! 0 refl) (free_all ! refl) $
    keep ! (1 ∷ 0 ∷ 3 ∷ []) $
    by ! (both_spent 𝓛 En c y Lt Lt front back token token (front, back) (tt, (tt, tt)) refl
    (told 𝓤 (refl, refl) (told 𝓤 (refl, refl, refl) (fact_i 𝓤 _ (emp 𝓤) (refl, refl, refl)) 𝓛)
    𝓛))))))))
