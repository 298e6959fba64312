-- `split` cuts what lies side by side. It touches no memory.
use Rattle.std.proofs.Common.{ℕ, ◌+◌, ◌-◌, ◌*◌, ◌≤◌, List, [], ◌∷◌, ◌++◌, length, take, drop}
use Rattle.std.proofs.Common.{refl, sym, arith, w64, length-drop, length-take}
use Rattle.std.proofs.lemmas.Bool.{cases_lt}
use mir.Val.{vint}
use base.Logic.{emp}
use base.Fml.{ftrue, fsep, flft}
use types.Kit.{‵, raw, ◌⊛◌, ◌$◌, ◌∵◌, !, qed, by, move, keep, drop as drop_entry, split, fsplit}
use types.Kit.{feq_l, flt_l, use1, rewrite}
use types.ByLocal.{alloc_all, pass_all, free_all, look_at}
use contract.Monad.{fact, fact_i}
use contract.BorrowLft.{◌⊑◌}
use denote.RattleType.{RattleType, owns}
use denote.Signature.{types_at}
use denote.Steps.{heard}
use Rattle.std_alloc.proofs.VecSteps.El.{El, R, el_x, sz, no_al}
use Rattle.logbook.proofs.Fields.{token, token_told}
use Rattle.arc_owners.proofs.Endings.{spends, enters, two_made, both_spent}
use Rattle.arc_owners.proofs.Markers.{told}
use Rattle.arc_memory.proofs.Cuts.{Side, cut, further}
use Rattle.arc_memory.proofs.Held.{places_at, Row, places_out, places_in}
use Rattle.arc_memory.specs.contracts.places.Places.split as f
use Rattle.arc_memory.proofs.places.Places.split.Statement.{statement}
use Rattle.arc_memory.proofs.places.Places.split.Code as code

pub split_spec : {M : Type 1} → statement M
split_spec 𝓤 𝓛 𝓜 𝓡 wired T L =
    let E : El = record { row = T; laws = L; al = no_al } in let s = sz E in
    let En = f.ended T in let c = f.clauses T 𝓛 𝓜.mem 𝓡.returns in
    let Pl : RattleType = Row E in
    spends 𝓛 En c 𝓜 𝓡 (λ κs x w. tt, (λ κs x w. tt, tt)) _ _
    (code.unfolded 𝓤 𝓛.H 𝓜 𝓡 wired (T, tt)) (λ y are.
    let κs = y.0.0 in let qs = y.0.1 in let was : Pl.Denot = y.0.3.0 in let at : ℕ = y.0.3.1.0 in
    let vss = y.0.4 in let xs : List (el_x E) = was.items in
    qed 𝓛 ((‵ (fsep (flft κs.0 qs.0) ftrue) ⊛ ‵ (owns (types_at En.signature.params κs) y.0.3
    vss)) ∷ (raw (fact 𝓤 (κs.0 ⊑ T.lives)) ⊛ raw (fact 𝓤 (at ≤ was.count))) ∷ []) ∵
    move ! (1 ∷ []) $ split ! $ drop_entry ! $ heard ! (at ≤ was.count) (λ asked. split ! $
    move ! (1 ∷ []) $ fsplit ! $ move ! (1 ∷ []) $ fsplit ! $ fsplit ! $
    feq_l ! (λ e₁. flt_l ! (λ fits. move ! (1 ∷ []) $
    places_out E ! was vss.0 (λ b o at_b small.
    -- [what lies side by side; no more parameters; the tokens]
    use1 𝓛 (‵ (Side E 𝓛 b (o + was.start * s) at (take at xs)) ⊛ ‵
    (Side E 𝓛 b (o + was.start * s + at * s) (was.count - at) (drop at xs)))
    (cut E 𝓛 b (o + was.start * s) at was.count xs (cases_lt at (length xs)) asked was.inside.1) $
    split ! $
    let lower : length (take at xs) ≤ at = omega (arith, length-take at xs) in
    let upper : length (drop at xs) ≤ was.count - at = omega
    (arith, length-drop at xs, was.inside.1) in
    let front : Pl.Denot = places_at E was.base was.whole was.start at (take at xs) (
      omega (
        arith,
        was.inside.0,
        asked,
      ),
      lower,
      was.inside.2,
    ) in
    let back : Pl.Denot = places_at E was.base was.whole (was.start + at) (was.count - at) (drop at
    xs) (omega (arith, was.inside.0, asked), upper, was.inside.2) in
    places_in E ! front b o at_b small $
    rewrite ! 1 (λ (k : ℕ). ‵ (Side E 𝓛 b k (was.count - at) (drop at xs)))
    (sym (further o was.start at s)) refl $ move ! (1 ∷ []) $ places_in E ! back b o at_b small
    $
    enters ! _ _ _ _ (token ∷ vint w64 at ∷ [])
    (λ j. token_told (R E) vss.0 are.0.0 j ++ (e₁ j ++ [])) $
    alloc_all ! (λ l. pass_all ! refl ((tt, (tt, tt)), ((tt, record { fits = fits }), tt)) $
    two_made ! (refl, (tt, tt), refl, refl, (tt, (tt, tt)))
    (refl, (tt, tt), refl, refl, (tt, (tt, tt)))
    (refl, refl, refl, (tt, ((tt, tt), ((tt, tt), tt)))) (look_at ! 0 refl) (free_all ! refl) $
    keep ! (1 ∷ 0 ∷ 3 ∷ []) $
    by ! (both_spent 𝓛 En c y Pl Pl front back token token (front, back) (tt, (tt, tt)) refl
    (told 𝓤 ((refl, refl), (refl, refl))
    (told 𝓤 (refl, refl, refl) (fact_i 𝓤 _ (emp 𝓤) (refl, refl, refl)) 𝓛) 𝓛))))))))
