-- What else is lent for the lease of a block's owners, beside the value of their counted box.
use Rattle.std.specs.Prelude.{ℕ, List, []}
use base.Stored.{Coded, coded×, coded_ℕ, coded_list, coded_via}
use denote.RawPtr.{Ptr, null_ptr, coded_ptr}

-- which memory is lent: the ghost name of each of its places, where it begins, and how many places
-- it has
pub record LentNote : Type 0 where
  pub names : List ℕ
  pub base : Ptr
  pub whole : ℕ

abbrev pub note_coded : Coded LentNote
note_coded = coded_via (coded× (coded_list coded_ℕ) (coded× coded_ptr coded_ℕ))
    (λ (n : LentNote). (n.names, (n.base, n.whole)))
    (λ x y e i. record { names = (e i).0; base = (e i).1.0; whole = (e i).1.1 })

-- nothing else is lent
abbrev pub no_note : LentNote
no_note = record { names = []; base = null_ptr; whole = 0 }
