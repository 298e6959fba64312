-- `lend_behind` borrows each of the places, and lets the borrows of the first ones go. It touches
-- no memory.
use Rattle.std.proofs.Common.{◌≡◌, ℕ, ◌+◌, ◌*◌, List, [], ◌∷◌, ◌++◌, length, take, refl, sym, ap}
use Rattle.std.proofs.Common.{◌∙◌, arith, length-append, drop-drop}
use lib.ListN.{drop as drop_from}
use lib.Seq.{drop-append_seam}
use mir.Val.{vptr}
use base.Logic.{emp}
use base.Fml.{GName, ftrue, fsep, fex, flft}
use types.Kit.{‵, raw, ◌⊛◌, later, ◌$◌, ◌∵◌, !, qed, by, move, keep, drop, split, fsplit, fsplit3}
use types.Kit.{fpick, feq_l, use1, use2, await, rewrite}
use types.ByLocal.{alloc_all, pass_all, free_all, look_at}
use contract.Monad.{fact, fact_i}
use contract.BorrowLft.{◌⊑◌}
use denote.RattleType.{RattleType, owns}
use denote.RawPtr.{Ptr, block_ptr, block_of, count_of}
use denote.Signature.{types_at}
use denote.Steps.{heard}
use Rattle.std_alloc.proofs.VecSteps.El.{El, R, el_x, sz, no_al}
use Rattle.logbook.proofs.Fields.{token, token_told}
use Rattle.arc_owners.proofs.Endings.{spends, enters, two_made, both_spent}
use Rattle.arc_owners.proofs.Markers.{marked, told}
use Rattle.arc_memory.specs.Allocations.{IsPart}
use Rattle.arc_memory.specs.LentMemory.{LentMemory, Held, contents, borrowed, returning}
use Rattle.arc_memory.proofs.Borrowed.{Borrows, Returns, Lent, lends, borrowed_cut}
use Rattle.arc_memory.proofs.Contents.{length-contents}
use Rattle.arc_memory.proofs.Cuts.{Side, further}
use Rattle.arc_memory.proofs.Held.{Row, places_out}
use Rattle.arc_memory.proofs.LentHeld.{lent_at, there_in, padded, padded_long, padded_off}
use Rattle.arc_memory.proofs.Spots.{spots, spots_of, spots_glue}
use Rattle.arc_owners.specs.contracts.lifetime.LifetimeToken as LifetimeToken
use Rattle.arc_memory.specs.contracts.lent_places.LentPlaces as LentPlaces
use Rattle.arc_memory.specs.contracts.lent_places.PlacesInheritance as PlacesInheritance
use Rattle.arc_memory.specs.contracts.lent_places.LentPlaces.lend_behind as f
use Rattle.arc_memory.proofs.lent_places.LentPlaces.lend_behind.Statement.{statement}
use Rattle.arc_memory.proofs.lent_places.LentPlaces.lend_behind.Code as code

pub lend_behind_spec : {M : Type 1} → statement M
lend_behind_spec 𝓤 𝓛 𝓜 𝓡 wired T L =
    let E : El = record { row = T; laws = L; al = no_al } in let s = sz E in
    let En = f.ended T in let c = f.clauses T 𝓛 𝓜.mem 𝓡.returns in
    let Pl : RattleType = Row E in let Tok : RattleType = LifetimeToken.the_row in
    let Lt : RattleType = LentPlaces.the_row (R E) in
    let In : RattleType = PlacesInheritance.the_row (R E) in
    spends 𝓛 En c 𝓜 𝓡 (λ κs x w. tt, (λ κs x w. tt, (λ κs x w. tt, tt))) _ _
    (code.unfolded 𝓤 𝓛.H 𝓜 𝓡 wired (T, tt)) (λ y are.
    let κs = y.0.0 in let qs = y.0.1 in let vss = y.0.4 in let bare : Pl.Denot = y.0.3.0 in
    let was : Pl.Denot = y.0.3.1.0 in let by_token = y.0.3.1.1.0.now in
    let b₁ = y.0.3.1.1.0.ref_ptr.0 in let o₁ = y.0.3.1.1.0.ref_ptr.1 in
    let a : ℕ = by_token.lifetime in let n : ℕ = bare.count in let xs : List (el_x E) = was.items in
    let us = contents n bare.items in let ys = contents was.count xs in
    let Next : Type 0 = IsPart bare was × (was.start ≡ bare.start + n) in
    let Empty : Type 0 = bare.items ≡ [] in
    qed 𝓛 ((‵ (fsep (flft κs.0 qs.0) (fsep (flft κs.1.0 qs.1.0) ftrue)) ⊛ ‵
    (owns (types_at En.signature.params κs) y.0.3 vss)) ∷ (raw (fact 𝓤 (κs.1.0 ⊑ T.lives)) ⊛ raw
    (fact 𝓤 Next) ⊛ raw (fact 𝓤 Empty)) ∷ []) ∵
    move ! (1 ∷ []) $ split ! $ drop ! $ split ! $ heard ! Next (λ next. drop ! $ split ! $
    move ! (1 ∷ []) $ fsplit ! $ move ! (1 ∷ []) $ fsplit ! $ move ! (1 ∷ []) $ fsplit ! $
    fsplit ! $ feq_l ! (λ e₂. drop ! $ drop ! $
    places_out E ! was vss.1.0 (λ b₂ o₂ at_b₂ small. move ! (1 ∷ []) $
    places_out E ! bare vss.0 (λ b o at_b _.
    -- [what lies in the first places; and behind them; the tokens]
    let from : ℕ = o + bare.start * s in let mid : ℕ = from + n * s in
    let base : block_ptr b₂ o₂ ≡ block_ptr b o = sym at_b₂ ∙ next.0.0 ∙ at_b in
    let there : o + was.start * s ≡ mid = ap (λ (k : ℕ). o + k * s) next.1
    ∙ further o bare.start n s in
    rewrite ! 1 (λ (p : Ptr). ‵ (Side E 𝓛 (block_of p) (count_of p + was.start * s) was.count xs))
    base refl $ rewrite ! 1 (λ (k : ℕ). ‵ (Side E 𝓛 b k was.count xs)) there refl $
    use1 𝓛 (‵ (spots E 𝓛 b us from)) (spots_of E 𝓛 b n from bare.items bare.inside.1) $
    move ! (1 ∷ []) $
    use1 𝓛 (‵ (spots E 𝓛 b ys mid)) (spots_of E 𝓛 b was.count mid xs was.inside.1) $
    move ! (1 ∷ 0 ∷ []) $
    use2 𝓛 (‵ (spots E 𝓛 b (us ++ ys) from))
    (spots_glue E 𝓛 b n from mid us ys (length-contents n bare.items) refl) $
    enters ! _ _ _ _ (token ∷ token ∷ vptr b₁ o₁ ∷ [])
    (λ j. token_told (R E) vss.0 are.0.0 j ++ (token_told (R E) vss.1.0 are.1.0.0 j ++ (e₂ j ++
    []))) $
    alloc_all ! (λ l. pass_all ! refl ((tt, (tt, tt)), ((tt, (tt, tt)), ((tt, tt), tt))) $
    use1 𝓛 (later (‵ (fex (List GName) (Lent E 𝓛 b a (us ++ ys) from))))
    (lends E 𝓛 b a (us ++ ys) from) $ await ! tt $ fpick ! (λ gs. fsplit3 ! $ feq_l ! (λ e.
    -- [the borrows; that they come back; the tokens]
    let first : ℕ = bare.start in let names : List GName = padded first gs in
    let all : length gs ≡ n + was.count = omega (
      arith,
      e,
      length-append us ys,
      length-contents
          n bare.items,
      length-contents was.count xs,
    ) in
    let long : length names ≡ first + (n + was.count) = omega (arith, padded_long first gs, all) in
    let m : LentMemory = record { lifetime = a; names = names; base = was.base; whole = was.whole }
    in
    let part : Lt.Denot = lent_at E m was.start was.count xs (
      omega (arith, long, next.1),
      omega (arith, long, next.1, was.inside.0),
      was.inside.1,
      was.inside.2,
    ) in
    let back : In.Denot = record {
      marker = record {};
      memory = m;
      start = first;
      count = n + was.count;
      inside =
          (sym long, omega (arith, long, next.1, was.inside.0), was.inside.2);
    } in
    let at_m : m.base ≡ block_ptr b o = next.0.0 ∙ at_b in
    let long_us : length us ≡ n = length-contents n bare.items in
    let behind : drop_from n gs ≡ drop_from was.start names = ap (drop_from n)
    (sym (padded_off first gs)) ∙ drop-drop n first names ∙ ap (λ (k : ℕ). drop_from k names)
    (sym next.1) in
    let others : drop_from n (us ++ ys) ≡ ys = ap (λ (k : ℕ). drop_from k (us ++ ys)) (sym long_us)
    ∙ drop-append_seam us ys in
    use1 𝓛 (‵ (Borrows E 𝓛 b a gs (take n (us ++ ys)) from) ⊛ ‵
    (Borrows E 𝓛 b a (drop_from n gs) (drop_from n (us ++ ys)) mid))
    (borrowed_cut E 𝓛 b a n gs (us ++ ys) from mid (omega (arith, length-append us ys, long_us))
    refl) $ split ! $ drop ! $
    rewrite ! 0 (λ (k : List GName × List (Held (R E))). ‵ (Borrows E 𝓛 b a k.0 k.1 mid))
    (λ i. (behind i, others i)) refl $
    rewrite ! 0 (λ (k : ℕ). ‵ (Borrows E 𝓛 b a (drop_from was.start names) ys k)) (sym there)
    refl $
    rewrite ! 1 (λ (ks : List GName). ‵ (Returns E 𝓛 b a ks from)) (sym (padded_off first gs)) refl
    $
    there_in E ! m was.start (borrowed (R E) a (drop_from was.start names) ys) b o at_m small $
    marked (R E) ! $ move ! (1 ∷ []) $
    there_in E ! m first (returning (R E) a (drop_from first names)) b o at_m small $
    marked (R E) ! $
    two_made ! (refl, (tt, tt), refl, refl, (tt, (tt, tt)))
    (refl, (tt, tt), refl, refl, (tt, (tt, tt)))
    (refl, refl, refl, (tt, ((tt, tt), ((tt, tt), tt)))) (look_at ! 0 refl) (free_all ! refl) $
    keep ! (1 ∷ 0 ∷ 2 ∷ []) $
    by ! (both_spent 𝓛 En c y Lt In part back token token (part, back) (tt, (tt, (tt, tt))) refl
    (told 𝓤 refl (told 𝓤 (refl, refl)
    (told 𝓤 (refl, refl, refl) (fact_i 𝓤 _ (emp 𝓤) (refl, refl, refl)) 𝓛) 𝓛) 𝓛))))))))))
