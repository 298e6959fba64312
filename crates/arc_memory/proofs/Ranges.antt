-- What a `&` to items side by side has of a range of them. Assumes `Logic`.
use Rattle.std.proofs.Common.{◌≡◌, ℕ, ◌+◌, ◌-◌, ◌*◌, ◌≤◌, List, [], ◌∷◌, length, take, drop, refl}
use Rattle.std.proofs.Common.{sym, ap, ◌∙◌, subst, length-drop, length-take-le}
use seplogic.Ra.Ura.{Ura}
use base.Logic.{ent, via, fst∗, snd∗, never}
use base.Fml.{Lft}
use types.Logic.{Logic, sem}
use types.Kit.{‵, ◌$◌, ◌∵◌, !, qed, use1, rewrite, done}
use denote.RattleType.{RattleType}
use denote.Memory.{shared_of}
use denote.Array.{Array}
use denote.RawPtr.{null_ptr}
use denote.Slice.{elements_shared}
use denote.Struct.Lending.{lent_at}
use borrow.Table.Elements.{at, at_mul}
use borrow.Table.SharedPart.{each_take, each-drop}
use Rattle.core.specs.Mem.{type_size}
use Rattle.arc_memory.specs.Memory.{is_small, places_lent}

-- the items from start and before end
abbrev pub sub : {T : Type 0} → List T → ℕ → ℕ → List T
sub xs start end = drop start (take end xs)

module _ {X : Type 0} (xs : List X) (start end : ℕ) (ordered : start ≤ end)
    (within : end ≤ length xs) where
  long : length (take end xs) ≡ end
  long = length-take-le end xs within

  pub sub_length : length (sub xs start end) ≡ end - start
  sub_length = length-drop start (take end xs) ∙ ap (λ (n : ℕ). n - start) long

  pub skipped : length (take start (take end xs)) ≡ start
  skipped = length-take-le start (take end xs) (subst (λ (n : ℕ). start ≤ n) (sym long) ordered)

module _ (R : RattleType) {M : Type 1} {𝓤 : Ura M} (𝓛 : Logic 𝓤) (κ : Lft) where
  pub sub_shared : (xs : List R.Denot) (start end b o : ℕ) → start ≤ end → end ≤ length xs
      → ent 𝓤 (sem 𝓛 (elements_shared R xs b o κ))
      (sem 𝓛 (elements_shared R (sub xs start end) b (start * type_size R + o) κ))
  sub_shared xs start end b o ordered within =
      let s = type_size R in let ys = take end xs in
      let there : at o s (length (take start ys)) ≡ start * s + o = ap (at o s)
      (skipped xs start end ordered within) ∙ at_mul o s start in
      qed 𝓛 (‵ (elements_shared R xs b o κ) ∷ []) ∵ use1 𝓛 (‵ (elements_shared R ys b o κ))
      (each_take 𝓛 (shared_of R) s κ b end xs o) $
      use1 𝓛 (‵ (elements_shared R (drop start ys) b (at o s (length (take start ys))) κ))
      (each-drop 𝓛 (shared_of R) s κ b start ys o) $
      rewrite ! 0 (λ (k : ℕ). ‵ (elements_shared R (drop start ys) b k κ)) there refl $ done !

  -- nothing lies at null
  pub not_at_null : (whole : ℕ) (xs : List R.Denot)
      → ent 𝓤 (sem 𝓛 (places_lent R null_ptr whole 0 xs κ)) (never 𝓤)
  not_at_null whole xs = let L = sem 𝓛 (lent_at (Array R (length xs)) null_ptr xs κ) in
      via 𝓤 L (snd∗ 𝓤 (sem 𝓛 (is_small R whole)) L)
      (fst∗ 𝓤 (never 𝓤) (sem 𝓛 (shared_of (Array R (length xs)) xs 0 0 κ)))
