-- What holds of each row of a table, where a row comes in.
use Rattle.std.proofs.Common.{inl, inr, ◌≡◌, ℕ, List, [], ◌∷◌, ◌++◌, Option, Some, slice_get}
use Rattle.std.proofs.Common.{slice_set, ap, subst}
use Rattle.std.specs.Option.{option_flatten}
use Rattle.std.proofs.lemmas.Option.{same_Some}
use Rattle.arc_block.specs.Table.{Row}
use Rattle.arc_block.proofs.Lists.{push-cases, set-cases}
use Rattle.arc_commands.proofs.Lists.{there}

module _ {T M : Type 0} (Holds : Row T M → Type 0) where
  abbrev pub Each : List (Option (Row T M)) → Type 0
  Each rows = (i : ℕ) (row : Row T M) → option_flatten (slice_get rows i) ≡ Some row
      → Holds row

  -- a row that comes in, if one does
  abbrev pub New : Option (Row T M) → Type 0
  New x = (row : Row T M) → x ≡ Some row → Holds row

  pub this : (new : Row T M) → Holds new → New (Some new)
  this new fits row is = subst Holds (same_Some new row is) fits

  pub each-push : (rows : List (Option (Row T M))) (x : Option (Row T M)) → Each rows → New x
      → Each (rows ++ x ∷ [])
  each-push rows x each new i row at =
      elim (push-cases rows i (Some row) x (there (slice_get (rows ++ x ∷ []) i) row at)) [
        | inl old ↦ each i row (ap option_flatten old)
        | inr last ↦ new row last.1
      ]

  pub each-set : (rows : List (Option (Row T M))) (k : ℕ) (x : Option (Row T M)) → Each rows → New x
      → Each (slice_set rows k x)
  each-set rows k x each new i row at =
      elim (set-cases rows k i (Some row) x (there (slice_get (slice_set rows k x) i) row at)) [
        | inl old ↦ each i row (ap option_flatten old.1)
        | inr set ↦ new row set.1
      ]
