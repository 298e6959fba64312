-- The parts of an open invariant, one at a time: its history, where the count lies, the count, and
-- the lifetime. Assumes `Logic`.
use Rattle.std.proofs.Common.{◌≡◌, ℕ, zero, suc, ◌+◌, ◌-◌, ◌^◌, ◌<◌, Bool, true, false, List, []}
use Rattle.std.proofs.Common.{◌∷◌, ◌++◌, refl, sym, ap, ◌∙◌, arith}
use Rattle.std.proofs.lemmas.Bool.{false≢true}
use mathlib.Core.Option.{Option, none, some}
use mathlib.Core.List.{IsPrefix}
use seplogic.Ra.Ura.{Ura}
use base.Fraction.{full_share}
use base.Share
use base.Share.{quarter, three_quarters}
use base.Logic.{guard, upd, emp, id⊢, upd_i}
use base.Fml.{Fml, ftrue, fsep, flft}
use base.Growing.{latest, at_least, once}
use types.Logic.{Logic}
use types.Growing.{latest_grows, latest_shows, latest_bounds, latest_agrees, latest_cut}
use types.Growing.{latest_glue}
use types.Keyed.{ticket}
use types.RcWeak.{part, rest, takes, gives, whole}
use types.Kit.{‵, raw, ◌⊛◌, given, ◌$◌, ◌∵◌, !, qed, move, drop, split, fsplit, fjoin, fpick, fpack}
use types.Kit.{learn, check, done, use1, use2, rewrite, suffices, settle}
use denote.Steps.{nothing}
use Rattle.arc_owners.specs.declared.history.entry.Entry.{Entry}
use Rattle.arc_owners.specs.declared.history.entry.Entry.TheVariants.{Down}
use Rattle.arc_owners.specs.history.Histories.{is_counted}
use base.Stored.{coded_ℕ}
use Rattle.arc_owners.specs.count.Invariant.{BlockId, counted_as, tally_of, tally, Line, entries_of}
use Rattle.arc_owners.specs.count.Invariant.{lines_order, authority, history_at_least, withheld}
use Rattle.arc_owners.specs.count.Invariant.{places, is_there, has_place, located, told, Lease}
use Rattle.arc_owners.specs.count.Invariant.{pooled, pool, staked, stake}
use Rattle.arc_owners.proofs.count.Signs.{signs}
use Rattle.arc_owners.proofs.history.Steps.{counted-more, counted-ended}
use Rattle.arc_owners.proofs.count.Rolls.{entries-append}
use Rattle.arc_owners.proofs.count.Cells.{cell_whole}

module _ {M : Type 1} {𝓤 : Ura M} (𝓛 : Logic 𝓤) (t : BlockId) where
  open signs 𝓛 use {Pr, ◌⊢◌, ◌∗◌, ⟦◌⟧}

  infix 26 ◌⊢◌
  infixr 35 ◌∗◌
  abbrev pub top : Bool → List Line → Fml
  top w ls = latest lines_order (authority w) t.history ls

  -- what a pass has seen is a beginning of the history, and under `Whole` all of it
  abbrev pub Seen : Bool → List Line → List Line → Type 0
  Seen w seen ls = IsPrefix seen ls × (w ≡ true → seen ≡ ls)

  pub sees : (w : Bool) (seen ls : List Line) → ⟦ top w ls ⟧ ∗ ⟦ history_at_least t seen ⟧
      ∗ ⟦ withheld t w seen ⟧ ⊢ guard 𝓤 (Seen w seen ls) (⟦ top w ls ⟧ ∗ ⟦ withheld t w seen ⟧)
  sees true seen ls = qed 𝓛 (‵ (top true ls) ∷ ‵ (history_at_least t seen)
      ∷ ‵ (withheld t true seen) ∷ []) ∵
      use2 𝓛 (given (IsPrefix seen ls) (‵ (top true ls) ⊛ ‵ (history_at_least t seen)))
      (latest_bounds lines_order 𝓛 three_quarters t.history ls seen) $
      learn ! (λ p. split ! $ move ! (1 ∷ []) $ drop ! $ move ! (1 ∷ 0 ∷ []) $
      use2 𝓛 (given (seen ≡ ls) (‵ (withheld t true seen) ⊛ ‵ (top true ls)))
      (latest_agrees lines_order 𝓛 quarter three_quarters t.history seen ls) $
      learn ! (λ e. check ! (p, λ _. e) $ split ! $ move ! (1 ∷ 0 ∷ []) $ done !))
  sees false seen ls = qed 𝓛 (‵ (top false ls) ∷ ‵ (history_at_least t seen)
      ∷ ‵ (withheld t false seen) ∷ []) ∵
      use2 𝓛 (given (IsPrefix seen ls) (‵ (top false ls) ⊛ ‵ (history_at_least t seen)))
      (latest_bounds lines_order 𝓛 full_share t.history ls seen) $
      learn ! (λ p. split ! $ move ! (1 ∷ []) $ drop ! $
      check ! (p, λ (e : false ≡ true). absurd (false≢true e)) $ done !)

  abbrev Written : Bool → List Line → Pr
  Written w ls = ⟦ top w ls ⟧ ∗ ⟦ history_at_least t ls ⟧ ∗ ⟦ withheld t w ls ⟧

  pub writes : (w : Bool) (seen ls more : List Line) → (w ≡ true → seen ≡ ls)
      → ⟦ top w ls ⟧ ∗ ⟦ withheld t w seen ⟧ ⊢ upd 𝓤 (Written w (ls ++ more))
  writes true seen ls more all_seen = let all : List Line = ls ++ more in
      let Z : Pr = Written true all in qed 𝓛 (‵ (top true ls) ∷ ‵ (withheld t true seen) ∷ []) ∵
      rewrite ! 1 (λ (s : List Line). ‵ (withheld t true s)) (all_seen refl) refl $
      move ! (1 ∷ 0 ∷ []) $
      use2 𝓛 (‵ (latest lines_order full_share t.history ls))
      (latest_glue lines_order 𝓛 full_share quarter three_quarters t.history ls Share.quarters) $
      use1 𝓛 (raw (upd 𝓤 ⟦ latest lines_order full_share t.history all ⟧))
      (latest_grows lines_order 𝓛 t.history ls all (more, refl)) $
      settle 𝓛 Z (‵ (latest lines_order full_share t.history all)) $
      use1 𝓛 (‵ (latest lines_order full_share t.history all) ⊛ ‵ (history_at_least t all))
      (latest_shows lines_order 𝓛 full_share t.history all all (lines_order.same all)) $ split ! $
      use1 𝓛 (‵ (withheld t true all) ⊛ ‵ (top true all))
      (latest_cut lines_order 𝓛 full_share quarter three_quarters t.history all Share.quarters) $
      split ! $
      suffices ! _ (upd_i 𝓤 Z) $ move ! (1 ∷ 2 ∷ 0 ∷ []) $ done !
  writes false seen ls more all_seen = let all : List Line = ls ++ more in
      let Z : Pr = Written false all in qed 𝓛 (‵ (top false ls) ∷ ‵ (withheld t false seen) ∷ []) ∵
      use1 𝓛 (raw (upd 𝓤 ⟦ top false all ⟧)) (latest_grows lines_order 𝓛 t.history ls all
      (more, refl)) $ settle 𝓛 Z (‵ (top false all)) $
      use1 𝓛 (‵ (top false all) ⊛ ‵ (history_at_least t all))
      (latest_shows lines_order 𝓛 full_share t.history all all (lines_order.same all)) $ split ! $
      suffices ! _ (upd_i 𝓤 Z) $ done !

  abbrev pub counts : List Line → Type 0
  counts ls = is_counted t.began (entries_of ls) ≡ true

  -- whoever knows that the count has a place knows that the word is counted
  there : (y : ℕ × ℕ) (x : Option (ℕ × ℕ)) → places.le (some y) x → is_there x ≡ true
  unfolding once
  there y none h = absurd h
  there y (some x) h = refl

  pub keyed : (ls : List Line) → ⟦ located t ls ⟧ ∗ ⟦ has_place t ⟧
      ⊢ guard 𝓤 (counts ls) (⟦ located t ls ⟧ ∗ ⟦ has_place t ⟧)
  keyed ls = let F : Option (ℕ × ℕ) → Fml = λ x. fsep (latest places three_quarters t.place x)
      (told (is_counted t.began (entries_of ls) ≡ is_there x)) in
      let G : ℕ × ℕ → Fml = λ y. at_least places t.place (some y) in
      qed 𝓛 (‵ (located t ls) ∷ ‵ (has_place t) ∷ []) ∵
      fpick ! (λ x. fsplit ! $ move ! (1 ∷ []) $ fpick ! (λ e. drop ! $ move ! (1 ∷ []) $
      fpick ! (λ y. move ! (1 ∷ 0 ∷ []) $
      use2 𝓛 (given (places.le (some y) x) (‵ (latest places three_quarters t.place x)
      ⊛ ‵ (at_least places t.place (some y)))) (latest_bounds places 𝓛 three_quarters t.place x
      (some y)) $
      learn ! (λ le. check ! (e ∙ there y x le) $ split ! $ nothing ! $
      fpack ! (is_counted t.began (entries_of ls) ≡ is_there x) (λ _. ftrue) e $
      move ! (1 ∷ 0 ∷ []) $ fjoin ! $ fpack ! (Option (ℕ × ℕ)) F x $
      move ! (1 ∷ []) $ fpack ! (ℕ × ℕ) G y $ move ! (1 ∷ 0 ∷ []) $ done !))))

  -- after one more line the word is as it was
  abbrev pub Same_count : List Line → ℕ → Entry → Type 0
  Same_count ls p e = is_counted t.began (entries_of (ls ++ (p, e) ∷ [])) ≡ is_counted t.began
      (entries_of ls)

  pub counts_on : (ls : List Line) (p : ℕ) (e : Entry) → counts ls → Same_count ls p e
  counts_on ls p e c = ap (is_counted t.began) (entries-append ls p e)
      ∙ (counted-more t.began (entries_of ls) e c ∙ sym c)

  pub ended_counts : (ls : List Line) (p o : ℕ) → Same_count ls p (Down o)
  ended_counts ls p o = ap (is_counted t.began) (entries-append ls p (Down o))
      ∙ counted-ended t.began (entries_of ls) o

  -- a count keeps its place
  pub stays : (ls : List Line) (p : ℕ) (e : Entry) → Same_count ls p e → ⟦ located t ls ⟧
      ⊢ ⟦ located t (ls ++ (p, e) ∷ []) ⟧
  stays ls p e c = let more : List Line = ls ++ (p, e) ∷ [] in let F : Option (ℕ × ℕ)
      → Fml = λ x. fsep (latest places three_quarters t.place x)
      (told (is_counted t.began (entries_of more) ≡ is_there x)) in
      qed 𝓛 (‵ (located t ls) ∷ []) ∵ fpick ! (λ x. fsplit ! $ move ! (1 ∷ []) $
      fpick ! (λ is. drop ! $ nothing ! $
      fpack ! (is_counted t.began (entries_of more) ≡ is_there x) (λ _. ftrue) (c ∙ is) $
      move ! (1 ∷ 0 ∷ []) $ fjoin ! $ fpack ! (Option (ℕ × ℕ)) F x $ done !))

  -- the pool of the lifetime for which the block is lent, with one owner more, one less, and none
  pub pool_more : (l : Lease) (n m : ℕ) → l.is_lent ≡ true → 0 < n → m ≡ n + 1 → m < 2 ^ 64
      → ⟦ pool l n ⟧ ⊢ ⟦ pool l m ⟧ ∗ ⟦ stake l ⟧
  pool_more l zero m lent live is fits = absurd (omega arith)
  pool_more l (suc n) zero lent live is fits = absurd (omega arith)
  pool_more l (suc n) (suc m) lent live is fits = let e : suc n + 1 ≡ suc m = omega arith in
      qed 𝓛 (‵ (pooled l.is_lent l n) ∷ []) ∵ rewrite ! 0
      (λ (y : Bool). ‵ (pooled y l n)) lent refl $ fsplit ! $
      use1 𝓛 (‵ (rest 64 l.lifetime (suc n + 1)) ⊛ ‵ (part 64 l.lifetime))
      (takes 64 𝓛 l.lifetime (suc n) (omega arith)) $ split ! $
      rewrite ! 0 (λ (k : ℕ). ‵ (rest 64 l.lifetime k)) e refl $ move ! (0 ∷ 2 ∷ []) $ fjoin ! $
      use1 𝓛 (‵ (pooled true l m)) (id⊢ 𝓤 _) $ rewrite ! 0 (λ (y : Bool). ‵ (pooled y l m))
      (sym lent) refl $ move ! (1 ∷ []) $ use1 𝓛 (‵ (staked true l)) (id⊢ 𝓤 _) $
      rewrite ! 0 (λ (y : Bool). ‵ (staked y l)) (sym lent) refl $ move ! (1 ∷ 0 ∷ []) $ done !

  pub pool_less : (l : Lease) (n m : ℕ) → l.is_lent ≡ true → 0 < m → n ≡ m + 1
      → ⟦ pool l n ⟧ ∗ ⟦ stake l ⟧ ⊢ ⟦ pool l m ⟧
  pool_less l zero m lent live is = absurd (omega arith)
  pool_less l (suc n) zero lent live is = absurd (omega arith)
  pool_less l (suc n) (suc m) lent live is = let e : suc n - 1 ≡ suc m = omega arith in
      qed 𝓛 (‵ (pooled l.is_lent l n) ∷ ‵ (staked l.is_lent l) ∷ []) ∵
      rewrite ! 0 (λ (y : Bool). ‵ (pooled y l n)) lent refl $
      rewrite ! 1 (λ (y : Bool). ‵ (staked y l)) lent refl $ fsplit ! $ move ! (0 ∷ 2 ∷ []) $
      use2 𝓛 (‵ (rest 64 l.lifetime (suc n - 1))) (gives 64 𝓛 l.lifetime (suc n) (omega arith)) $
      rewrite ! 0 (λ (k : ℕ). ‵ (rest 64 l.lifetime k)) e refl $ fjoin ! $
      use1 𝓛 (‵ (pooled true l m)) (id⊢ 𝓤 _) $ rewrite ! 0 (λ (y : Bool). ‵ (pooled y l m))
      (sym lent) refl $ done !

  pub pool_last : (l : Lease) → l.is_lent ≡ true → ⟦ pool l 1 ⟧ ∗ ⟦ stake l ⟧
      ⊢ ⟦ flft (l.lifetime ∷ []) full_share ⟧ ∗ ⟦ ticket l.key 0 ⟧
  pool_last l lent = qed 𝓛 (‵ (pooled l.is_lent l 0) ∷ ‵ (staked l.is_lent l) ∷ []) ∵
      rewrite ! 0 (λ (y : Bool). ‵ (pooled y l 0)) lent refl $
      rewrite ! 1 (λ (y : Bool). ‵ (staked y l)) lent refl $
      fsplit ! $ move ! (0 ∷ 2 ∷ []) $ use2 𝓛 (‵ (flft (l.lifetime ∷ []) full_share))
      (whole 64 𝓛 l.lifetime) $ done !

  -- where the block is not lent, there is one owner
  pub pool_sole : (l : Lease) (n : ℕ) → l.is_lent ≡ false → 0 < n → ⟦ pool l n ⟧
      ⊢ guard 𝓤 (n ≡ 1) (emp 𝓤)
  pool_sole l zero unlent live = absurd (omega arith)
  pool_sole l (suc n) unlent live = qed 𝓛 (‵ (pooled l.is_lent l n) ∷ []) ∵
      rewrite ! 0 (λ (y : Bool). ‵ (pooled y l n)) unlent refl $
      fpick ! (λ none. drop ! $ check ! (ap suc none) $ done !)

  pub pool_alone : (l : Lease) (n : ℕ) → l.is_lent ≡ false → 0 < n → ⟦ pool l n ⟧
      ⊢ guard 𝓤 (n ≡ 1) ⟦ pool l n ⟧
  pool_alone l zero unlent live = absurd (omega arith)
  pool_alone l (suc n) unlent live = qed 𝓛 (‵ (pooled l.is_lent l n) ∷ []) ∵
      rewrite ! 0 (λ (y : Bool). ‵ (pooled y l n)) unlent refl $
      fpick ! (λ none. drop ! $ check ! (ap suc none) $
      nothing ! $ fpack ! (n ≡ 0) (λ _. ftrue) none $ use1 𝓛 (‵ (pooled false l n)) (id⊢ 𝓤 _) $
      rewrite ! 0 (λ (y : Bool). ‵ (pooled y l n)) (sym unlent) refl $ done !)

  -- the word's number and the invariant's, while an owner lives, and after the last one ended
  -- without a step
  pub tallies : (n m : ℕ) → 0 < m → ⟦ counted_as t quarter n ⟧ ∗ ⟦ tally t m ⟧
      ⊢ guard 𝓤 (n ≡ m) ⟦ counted_as t full_share m ⟧
  tallies n m live = qed 𝓛 (‵ (counted_as t quarter n) ∷ ‵ (tally t m) ∷ []) ∵ move ! (1 ∷ []) $
      fpick ! (λ k. fsplit ! $ fpick ! (λ so. drop ! $ move ! (1 ∷ 0 ∷ []) $
      use2 𝓛 (given (n ≡ k) (‵ (counted_as t full_share k))) (cell_whole coded_ℕ 𝓛 t.count 0 n k) $
      learn ! (λ same. check ! (same ∙ so live) $ rewrite ! 0
      (λ (x : ℕ). ‵ (counted_as t full_share x)) (so live) refl $ done !)))

  pub tally_in : (n : ℕ) → ⟦ counted_as t three_quarters n ⟧ ⊢ ⟦ tally t n ⟧
  tally_in n = qed 𝓛 (‵ (counted_as t three_quarters n) ∷ []) ∵ nothing ! $
      fpack ! (0 < n → n ≡ n) (λ _. ftrue) (λ _. refl) $ fjoin ! $ fpack ! ℕ (tally_of t n) n $
      done !

  pub tally_ends : (n : ℕ) → ⟦ tally t n ⟧ ⊢ ⟦ tally t 0 ⟧
  tally_ends n = qed 𝓛 (‵ (tally t n) ∷ []) ∵ fpick ! (λ k. fsplit ! $ drop ! $ nothing ! $
      fpack ! (0 < 0 → k ≡ 0) (λ _. ftrue) (λ (l : 0 < 0). absurd (omega arith)) $ fjoin ! $
      fpack ! ℕ (tally_of t 0) k $ done !)
