-- `join` puts two ranges together that lie side by side. It touches no memory.
use Rattle.std.proofs.Common.{◌≡◌, ℕ, ◌+◌, ◌*◌, ◌≤◌, ◌⊎◌, [], ◌∷◌, ◌++◌, length, refl, sym}
use Rattle.std.proofs.Common.{ap, ◌∙◌, arith, length-append}
use base.Logic.{emp}
use base.Fml.{ftrue, fsep, flft}
use types.Kit.{‵, raw, ◌⊛◌, ◌$◌, ◌∵◌, !, qed, by, move, keep, drop, split, fsplit}
use types.Kit.{use2, rewrite}
use types.Run.{stop, fld}
use types.ByLocal.{alloc_all, pass_all, free_all, look_at, get_in}
use types.Part.{sub, whole}
use contract.Monad.{fact, fact_i}
use contract.BorrowLft.{◌⊑◌}
use denote.RattleType.{RattleType, owns}
use denote.RawPtr.{Ptr, block_ptr, block_of, count_of}
use denote.Signature.{types_at}
use denote.Steps.{heard}
use Rattle.std_alloc.proofs.VecSteps.El.{El, R, sz, no_al}
use Rattle.logbook.proofs.Fields.{token, token_told}
use Rattle.arc_owners.proofs.Endings.{spends, enters, one_moved, spent}
use Rattle.arc_owners.proofs.Markers.{told}
use Rattle.arc_memory.specs.Allocations.{IsPart}
use Rattle.arc_memory.proofs.Cuts.{Side, glued_on, further}
use Rattle.arc_memory.proofs.Held.{places_at, Row, places_out, places_in}
use Rattle.arc_memory.specs.contracts.places.Places.join as f
use Rattle.arc_memory.proofs.places.Places.join.Statement.{statement}
use Rattle.arc_memory.proofs.places.Places.join.Code as code

pub join_spec : {M : Type 1} → statement M
join_spec 𝓤 𝓛 𝓜 𝓡 wired T L =
    let E : El = record { row = T; laws = L; al = no_al } in let s = sz E in
    let En = f.ended T in let c = f.clauses T 𝓛 𝓜.mem 𝓡.returns in
    let Pl : RattleType = Row E in
    spends 𝓛 En c 𝓜 𝓡 (λ κs x w. tt, (λ κs x w. tt, tt)) _ _
    (code.unfolded 𝓤 𝓛.H 𝓜 𝓡 wired (T, tt)) (λ y are.
    let κs = y.0.0 in let qs = y.0.1 in let me : Pl.Denot = y.0.3.0 in
    let back : Pl.Denot = y.0.3.1.0 in let vss = y.0.4 in
    let Next : Type 0 = (back.base ≡ me.base) × (back.whole ≡ me.whole)
    × (back.start ≡ me.start + me.count) in let Full : Type 0 = (length me.items ≡ me.count)
    ⊎ (back.items ≡ []) in
    qed 𝓛 ((‵ (fsep (flft κs.0 qs.0) ftrue) ⊛ ‵ (owns (types_at En.signature.params κs) y.0.3
    vss)) ∷ (raw (fact 𝓤 (κs.0 ⊑ T.lives)) ⊛ raw
    (fact 𝓤 (IsPart me back × (back.start ≡ me.start + me.count))) ⊛ raw (fact 𝓤 Full)) ∷ []) ∵
    move ! (1 ∷ []) $ split ! $ drop ! $ split ! $
    heard ! (IsPart me back × (back.start ≡ me.start + me.count))
    (λ next. heard ! Full (λ full. split ! $ move ! (1 ∷ []) $ fsplit ! $ move ! (1 ∷ []) $
    fsplit ! $
    places_out E ! back vss.1.0 (λ b₂ o₂ at_b₂ _. move ! (2 ∷ []) $
    places_out E ! me vss.0 (λ b o at_b small.
    -- [what lies in the front; and in the back; no more parameters; the tokens]
    let base : block_ptr b₂ o₂ ≡ block_ptr b o = sym at_b₂ ∙ next.0.0 ∙ at_b in
    let from : ℕ = o + me.start * s in let there : o + back.start * s ≡ from + me.count * s = ap
    (λ (k : ℕ). o + k * s) next.1 ∙ further o me.start me.count s in
    rewrite ! 1 (λ (p : Ptr). ‵ (Side E 𝓛 (block_of p) (count_of p + back.start * s) back.count
    back.items)) base refl $ rewrite ! 1 (λ (k : ℕ). ‵ (Side E 𝓛 b k back.count back.items))
    there refl $
    use2 𝓛 (‵ (Side E 𝓛 b from (me.count + back.count) (me.items ++ back.items)))
    (glued_on E 𝓛 b from me.count back.count me.items back.items full me.inside.1 back.inside.1)
    $
    let fewer : length (me.items ++ back.items) ≤ me.count + back.count = omega
    (arith, length-append me.items back.items, me.inside.1, back.inside.1) in
    let now : Pl.Denot = places_at E me.base me.whole me.start (me.count + back.count) (me.items ++
    back.items) (omega (arith, back.inside.0, next.0.1, next.1), fewer, me.inside.2) in
    places_in E ! now b o at_b small $
    enters ! _ _ _ _ (token ∷ token ∷ [])
    (λ j. token_told (R E) vss.0 are.0.0 j ++ (token_told (R E) vss.1.0 are.1.0.0 j ++ [])) $
    alloc_all ! (λ l. pass_all ! refl ((tt, (tt, tt)), ((tt, (tt, tt)), tt)) $
    one_moved ! (get_in ! (fld ! refl (stop !)) (sub ! 0 refl (whole !)))
    (refl, (tt, tt), refl, refl, (tt, (tt, tt))) (look_at ! 0 refl) (free_all ! refl) $
    keep ! (2 ∷ 0 ∷ []) $ by ! (spent 𝓛 En c y token now (tt, (tt, tt))
    (told 𝓤 ((refl, refl), refl) (fact_i 𝓤 _ (emp 𝓤) (refl, refl)) 𝓛))))))))
