-- A pass that was taken out of its place among the passes of the blocks, and is put back.
use Rattle.std.proofs.Common.{◌≡◌, ℕ, ◌<◌, List, length, Option, Some, None}
use Rattle.std.proofs.Common.{slice_get, slice_set, slice_index_or, refl, sym, ap, ◌∙◌, subst}
use Rattle.std.proofs.Common.{arith}
use Rattle.std.proofs.lemmas.Option.{slice_get_read}
use Rattle.std.proofs.lemmas.List.{length-set}
use Rattle.arc_owners.specs.declared.count.tokens.Pass.{Pass}
use Rattle.arc_block.specs.Owned.{Stand}
use Rattle.arc_commands.proofs.Lists as lists
use Rattle.arc_slots.specs.Stands.{HasBlockPass, HasNumber, HasPassFor, LivesOn, TakenOut, put_back}

pub set-back : {X : Type 0} (xs : List X) (n : ℕ) (x : X) → slice_get xs n ≡ Some x
    → slice_set xs n x ≡ xs
set-back xs n x at = lists.set-there xs n x at

pub set-twice : {X : Type 0} (xs : List X) (n : ℕ) (x y : X)
    → slice_set (slice_set xs n x) n y ≡ slice_set xs n y
set-twice xs n x y = lists.set-twice xs n x y

read-within : {X : Type 0} (xs : List X) (i : ℕ) (x y : X) → i < length xs
    → y ≡ slice_index_or xs i y → x ≡ y → slice_get xs i ≡ Some x
read-within xs i x y within read same =
    slice_get_read xs (length xs) i y refl within read ∙ ap Some (sym same)

module _ {H : Type 0} (passes : List (Pass H)) where
  -- a pass that is set back stands where it was taken out
  taken : (n : ℕ) (p q : Pass H) → slice_get passes n ≡ Some p
      → TakenOut passes (Some n) p (slice_set passes n q)
  taken n p q here = (here, λ r. set-twice passes n q r)

  pub lent : (b : Option ℕ) (n : ℕ) (p q r : Pass H) → HasNumber passes b → b ≡ Some n
      → r ≡ slice_index_or passes n r → p ≡ r → TakenOut passes b p (slice_set passes n q)
  lent b n p q r has is read same =
      subst (λ x. TakenOut passes x p (slice_set passes n q)) (sym is)
      (taken n p q (read-within passes n p r (subst (HasNumber passes) is has) read same))

-- what was taken out comes back to its place
module _ {H : Type 0} (passes left : List (Pass H)) (p : Pass H) where
  -- nothing was added to it
  pub back-same : (b : Option ℕ) → TakenOut passes b p left → (new : Pass H) → new ≡ p
      → put_back left b new ≡ passes
  back-same None took new same = took.1
  back-same (Some n) took new same =
      took.1 new ∙ ap (slice_set passes n) same ∙ set-back passes n p took.0

  pub left-number : (b : Option ℕ) → TakenOut passes b p left → HasNumber passes b
      → HasNumber left b
  left-number None took has = tt
  left-number (Some n) took has =
      omega (arith, has, sym (length-set left n p) ∙ ap length (took.1 p) ∙ length-set passes n p)

-- both are one
module _ {H : Type 0} (passes : List (Pass H)) where
  pub has_both : (s : Stand) → HasBlockPass passes s → LivesOn passes s → HasPassFor passes s
  has_both None has lives = tt
  has_both (Some (n, o)) has lives = (has.0, has.1, has.2, lives)

  pub has_block : (s : Stand) → HasPassFor passes s → HasBlockPass passes s
  has_block None has = tt
  has_block (Some (n, o)) has = (has.0, has.1, has.2)

  pub has_life : (s : Stand) → HasPassFor passes s → LivesOn passes s
  has_life None has = tt
  has_life (Some (n, o)) has = has.3
