-- What is said of a window's row is said of it without the value of its block's buffer (`bare`).
use Rattle.std.proofs.Common.{◌≡◌, ℕ, Bool, true, false, List, length, Option, Some, None}
use Rattle.std.proofs.Common.{if◌then◌else◌, refl, ap, ◌∙◌, subst, drop}
use Rattle.std.specs.Prelude.{◌==◌, ◌&&◌}
use Rattle.arc_owners.specs.declared.count.tokens.Pass.{Pass}
use Rattle.arc_owners.specs.declared.error.OwnerError.{OwnerError}
use Rattle.arc_owners.specs.count.Calls.{Owner}
use Rattle.arc_buffer.specs.Slice.{sub}
use Rattle.arc_block.specs.Block.{Sort, native_facts}
use Rattle.arc_block.specs.Given.{Given}
use Rattle.arc_block.specs.Place.{Place, nowhere, static_data, on_block, at_owner, bare_place}
use Rattle.arc_block.specs.Place.{moved}
use Rattle.arc_block.specs.Table.{bare}
use Rattle.arc_parts.specs.Steps.{IsPassAt, Makes, Refuses, Shares}
use Rattle.arc_parts.specs.Window.{PartsView, window_of}
use Rattle.arc_read.specs.Cuts.{sub_place}
use Rattle.arc_small.specs.Small.{MakesSmall}

module _ {B M : Type 0} (none : Type 0) (some : Owner → Type 0) where
  -- the same owner stands there
  pub owner_bare : (place : Place (Option Owner) (Given B M)) → at_owner place none some
      → at_owner (bare_place place) none some
  owner_bare nowhere it = it
  owner_bare static_data it = it
  owner_bare (on_block None offset info) it = it
  owner_bare (on_block (Some owner) offset info) it = it

module _ {B M H : Type 0} where
  pub pass_back : (place : Place (Option Owner) (Given B M)) (pass : Pass H)
      → IsPassAt (bare_place place) pass → IsPassAt place pass
  pass_back nowhere pass is = is
  pass_back static_data pass is = is
  pass_back (on_block None offset info) pass is = is
  pass_back (on_block (Some owner) offset info) pass is = is

  -- another owner was made, or none
  pub bare_shares : (place there : Place (Option Owner) (Given B M)) (old new : Pass H)
      → Shares place old new there → Shares (bare_place place) old new (bare_place there)
  bare_shares nowhere there old new made = (ap bare_place made.0, made.1)
  bare_shares static_data there old new made = (ap bare_place made.0, made.1)
  bare_shares (on_block None offset info) there old new made = (ap bare_place made.0, made.1)
  bare_shares (on_block (Some owner) offset info) there old new made =
      (made.0, made.1, ap bare_place made.2)

  pub bare_refuses : (wants : Sort → Bool) (place : Place (Option Owner) (Given B M))
      (old new : Pass H) (e : OwnerError) → Refuses wants place old new e
      → Refuses wants (bare_place place) old new e
  bare_refuses wants nowhere old new e refused = refused
  bare_refuses wants static_data old new e refused = refused
  bare_refuses wants (on_block None offset info) old new e refused = refused
  bare_refuses wants (on_block (Some owner) offset info) old new e refused = refused

module _ {N B M : Type 0} where
  bare_moved : (by : ℕ) (place : Place N (Given B M))
      → bare_place (moved by place) ≡ moved by (bare_place place)
  bare_moved by nowhere = refl
  bare_moved by static_data = refl
  bare_moved by (on_block block offset info) = refl

module _ {T B M : Type 0} where
  -- it is further in
  pub bare_advanced : (by : ℕ) (w v : PartsView T (Given B M)) → v ≡ record {
    items = drop by w.items;
    place = moved by w.place;
    role = w.role;
  } → bare v ≡ record {
    items = drop by w.items;
    place = moved by (bare_place w.place);
    role = w.role;
  }
  bare_advanced by w v is =
      ap bare is
      ∙ ap (λ place. record { items = drop by w.items; place = place; role = w.role })
      (bare_moved by w.place)

module _ {B M : Type 0} where
  place-if : {N : Type 0} (b : Bool) (place : Place N (Given B M))
      → bare_place (if b then nowhere else place) ≡ (if b then nowhere else bare_place place)
  place-if true place = refl
  place-if false place = refl

-- a part of a window was made
module _ {T B M : Type 0} (has_static : Bool) (w : PartsView T (Given B M)) (start end : ℕ)
  where
    part-bare : bare_place (sub_place has_static (window_of w) start end)
        ≡ sub_place has_static (window_of (bare w)) start end
    part-bare =
        let none : Bool = has_static && (length (sub w.items start end) == 0) in
        place-if none (moved start w.place)
        ∙ ap (λ place. if none then nowhere else place) (bare_moved start w.place)

    pub bare_part_shares : {H : Type 0} (there : Place (Option Owner) (Given B M))
        (old new : Pass H)
        → Shares (sub_place has_static (window_of w) start end) old new there
        → Shares (sub_place has_static (window_of (bare w)) start end) old new (bare_place there)
    bare_part_shares there old new made =
        subst (λ place. Shares place old new (bare_place there)) part-bare
        (bare_shares (sub_place has_static (window_of w) start end) there old new made)

    pub bare_part_refuses : {H : Type 0} (wants : Sort → Bool) (old new : Pass H)
        (e : OwnerError)
        → Refuses wants (sub_place has_static (window_of w) start end) old new e
        → Refuses wants (sub_place has_static (window_of (bare w)) start end) old new e
    bare_part_refuses wants old new e refused =
        subst (λ place. Refuses wants place old new e) part-bare
        (bare_refuses wants (sub_place has_static (window_of w) start end) old new e refused)

module _ {T B M : Type 0} (has_static drops one_pass : Bool) (items : List T)
    (w : PartsView T (Given B M)) where
  -- a window was made of a list,
  pub bare_makes : Makes has_static drops one_pass items (window_of w)
      → Makes has_static drops one_pass items (window_of (bare w))
  bare_makes made = record {
    owner = made.owner;
    made = λ i. record {
      items = (ap (λ v. v.items) made.made) i;
      place = (ap (λ v. bare_place v.place) made.made
          ∙ place-if (has_static && (length items == 0))
          (on_block (Some made.owner) 0 (native_facts drops (length items)))) i;
    };
    first = owner_bare (Unit {0}) _ w.place made.first;
  }

  -- in itself where that is short
  pub bare_small : MakesSmall has_static drops one_pass items w
      → MakesSmall has_static drops one_pass items (bare w)
  bare_small made = record {
    short = λ short. ap bare (made.short short);
    long = λ long. ((made.long long).0, bare_makes (made.long long).1);
  }
