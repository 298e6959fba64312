-- What can be had of a window, as the code tests it and as relations say it, by a block's number
-- and by its owner.
use Rattle.std.proofs.Common.{◌≡◌, ℕ, ◌&&◌, Bool, true, List, length, Option, refl}
use Rattle.std.proofs.Common.{Some, None, ap, ◌∙◌}
use Rattle.std.proofs.lemmas.Bool.{false≢true, and_parts}
use Rattle.arc_owners.specs.count.Calls.{Owner}
use Rattle.arc_block.specs.Block.{Sort, native, vector, buffer, raw, IsBuffer}
use Rattle.arc_block.specs.Place.{Place, nowhere, static_data, on_block}
use Rattle.arc_parts.specs.Window.{IsBufferWhole, IsRawWhole}
use Rattle.arc_commands.specs.Changes.{is_all_full, is_buffer, is_buffer_whole, is_raw}
use Rattle.arc_commands.specs.Changes.{is_raw_whole}
use Rattle.arc_parts.specs.Shared.{is_on_block}
use Rattle.arc_slots.specs.Stands.{numbered}
use Rattle.arc_slots.specs.Taking.{can_have, CanHave}
use Rattle.arc_slots.specs.declared.take.Taking.{Taking}
use Rattle.arc_slots.specs.declared.take.Taking.TheVariants as taking
use Rattle.arc_slots.proofs.Native.{all-full, full-all, box-is, box-numbered, box-says}
use Rattle.arc_slots.proofs.Native.{vector-is, vector-numbered, vector-says}

is-buffer : (sort : Sort) → is_buffer sort ≡ true → IsBuffer sort
is-buffer native is = absurd (false≢true is)
is-buffer vector is = absurd (false≢true is)
is-buffer (buffer writable) is = tt
is-buffer raw is = absurd (false≢true is)

buffer-is-one : (sort : Sort) → IsBuffer sort → is_buffer sort ≡ true
buffer-is-one native is = absurd is
buffer-is-one vector is = absurd is
buffer-is-one (buffer writable) is = refl
buffer-is-one raw is = absurd is

is-raw : (sort : Sort) → is_raw sort ≡ true → sort ≡ raw
is-raw native is = absurd (false≢true is)
is-raw vector is = absurd (false≢true is)
is-raw (buffer writable) is = absurd (false≢true is)
is-raw raw is = refl

module _ {M : Type 0} (b : Option ℕ) where
  buffer-numbered : (place : Place (Option Owner) M) (len : ℕ)
      → is_buffer_whole (numbered b place) len ≡ is_buffer_whole place len
  buffer-numbered nowhere len = refl
  buffer-numbered static_data len = refl
  buffer-numbered (on_block None offset info) len = refl
  buffer-numbered (on_block (Some o) offset info) len = refl

  raw-numbered : (place : Place (Option Owner) M) (len : ℕ)
      → is_raw_whole (numbered b place) len ≡ is_raw_whole place len
  raw-numbered nowhere len = refl
  raw-numbered static_data len = refl
  raw-numbered (on_block None offset info) len = refl
  raw-numbered (on_block (Some o) offset info) len = refl

  pub have-numbered : (drops : Bool) (what : Taking) (place : Place (Option Owner) M) (len : ℕ)
      → can_have drops what (numbered b place) len ≡ can_have drops what place len
  have-numbered drops taking.Vector place len = vector-numbered drops b place len
  have-numbered drops taking.Boxed place len = box-numbered b place len
  have-numbered drops taking.Buffer place len = buffer-numbered place len
  have-numbered drops taking.Raw place len = raw-numbered place len

module _ {T M : Type 0} (items : List T) where
  buffer-is : (place : Place (Option Owner) M) → is_buffer_whole place (length items) ≡ true
      → IsBufferWhole items place
  buffer-is nowhere is = absurd (false≢true is)
  buffer-is static_data is = absurd (false≢true is)
  buffer-is (on_block block offset info) is =
      let both = and_parts (is_buffer info.sort) (is_all_full offset (length items) info) is in
      record {
        sort = is-buffer info.sort both.0;
        whole = all-full offset (length items) info both.1;
      }

  buffer-says : (place : Place (Option Owner) M) → IsBufferWhole items place
      → is_buffer_whole place (length items) ≡ true
  buffer-says nowhere is = absurd is.sort
  buffer-says static_data is = absurd is.sort
  buffer-says (on_block block offset info) is =
      ap (λ b. b && is_all_full offset (length items) info) (buffer-is-one info.sort is.sort)
      ∙ full-all offset (length items) info is.whole

  raw-is : (place : Place (Option Owner) M) → is_raw_whole place (length items) ≡ true
      → IsRawWhole items place
  raw-is nowhere is = absurd (false≢true is)
  raw-is static_data is = absurd (false≢true is)
  raw-is (on_block block offset info) is =
      let both = and_parts (is_raw info.sort) (is_all_full offset (length items) info) is in
      record {
        sort = is-raw info.sort both.0;
        whole = all-full offset (length items) info both.1;
      }

  raw-says : (place : Place (Option Owner) M) → IsRawWhole items place
      → is_raw_whole place (length items) ≡ true
  raw-says nowhere is = absurd is.sort
  raw-says static_data is = absurd is.sort
  raw-says (on_block block offset info) is =
      ap (λ s. is_raw s && is_all_full offset (length items) info) is.sort
      ∙ full-all offset (length items) info is.whole

  pub have-is : (drops : Bool) (what : Taking) (place : Place (Option Owner) M)
      → can_have drops what place (length items) ≡ true → CanHave drops what items place
  have-is drops taking.Vector place is = vector-is items drops place is
  have-is drops taking.Boxed place is = box-is items place is
  have-is drops taking.Buffer place is = buffer-is place is
  have-is drops taking.Raw place is = raw-is place is

  pub have-says : (drops : Bool) (what : Taking) (place : Place (Option Owner) M)
      → CanHave drops what items place → can_have drops what place (length items) ≡ true
  have-says drops taking.Vector place is = vector-says items drops place is
  have-says drops taking.Boxed place is = box-says items place is
  have-says drops taking.Buffer place is = buffer-says place is
  have-says drops taking.Raw place is = raw-says place is

-- it is had of a block alone
pub have-on : {N M : Type 0} (drops : Bool) (what : Taking) (place : Place N M) (len : ℕ)
    → can_have drops what place len ≡ true → is_on_block place ≡ true
have-on drops taking.Vector nowhere len is = is
have-on drops taking.Boxed nowhere len is = is
have-on drops taking.Buffer nowhere len is = is
have-on drops taking.Raw nowhere len is = is
have-on drops taking.Vector static_data len is = is
have-on drops taking.Boxed static_data len is = is
have-on drops taking.Buffer static_data len is = is
have-on drops taking.Raw static_data len is = is
have-on drops what (on_block block offset info) len is = refl
