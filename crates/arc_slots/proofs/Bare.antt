-- What is said of a window is said of it without the value of its block's buffer (`bare`), as a
-- slot is seen.
use Rattle.std.proofs.Common.{◌≡◌, ℕ, ◌-◌, ◌==◌, ◌&&◌, Bool, true, false, if◌then◌else◌, List}
use Rattle.std.proofs.Common.{length, Option, Some, None, refl, sym, ap, ◌∙◌, subst}
use Rattle.std.specs.Prelude.{drop}
use Rattle.arc_owners.specs.history.Histories.{Counted}
use Rattle.arc_owners.specs.declared.count.tokens.Pass.{Pass}
use Rattle.arc_owners.specs.declared.error.OwnerError.{OwnerError}
use Rattle.arc_owners.specs.count.Calls.{Owner, Asks, IsFirst, IsFreshPass, Leaves, TakesBlock}
use Rattle.arc_owners.specs.count.Invariant.{BlockId, Line}
use Rattle.arc_buffer.specs.Slice.{sub}
use Rattle.arc_block.specs.declared.block.TheConstants.{MAX_OWNERS}
use Rattle.arc_block.specs.declared.layout.Move.{Move}
use Rattle.arc_block.specs.declared.layout.Move.TheVariants as to
use Rattle.arc_block.specs.Block.{Sort, native, vector, buffer, raw, BlockInfo, native_facts}
use Rattle.arc_block.specs.Block.{IsMemory, IsWritable}
use Rattle.arc_block.specs.Given.{Given}
use Rattle.arc_block.specs.Layouts.{LayoutFacts}
use Rattle.arc_block.specs.Moves.{IsRefused, layout_move}
use Rattle.arc_block.specs.Place.{Place, nowhere, static_data, on_block, at_owner, bare_place}
use Rattle.arc_block.specs.Place.{given_at, metadata_at, moved, owned_by, size_at}
use Rattle.arc_block.specs.Table.{bare}
use Rattle.arc_block.specs.Unique.{AsksUniqueAt}
use Rattle.arc_parts.specs.Moves.{Moves}
use Rattle.arc_parts.specs.Shared.{IsSharedPlace, LeavesAt, LeavesShown, LeavesVector}
use Rattle.arc_parts.specs.Shared.{RefusesSplitAt, SplitsWriter, StandsToSplit, StandsToSplitAt}
use Rattle.arc_parts.specs.Shared.{is_vector_at}
use Rattle.arc_parts.specs.Steps.{Makes, Refuses, RefusesTaking, Shares, TakesAt}
use Rattle.arc_parts.specs.Window.{IsOfBuffer, PartsView, Window, made_window, parts_of, window_of}
use Rattle.arc_parts.specs.Writers.{BecomesSoleAt, Freezes, IsWriterPlace, RefusesSoleAt}
use Rattle.arc_parts.specs.Writers.{after_advance, as_reader, as_sole, capacity_of, sole_at}
use Rattle.arc_parts.specs.Writers.{with_capacity}
use Rattle.arc_kinds.proofs.Bare.{bare_refuses, bare_shares, owner_bare, pass_back}
use Rattle.arc_read.specs.Cuts.{SharesPart, SplitsOff, SplitsTo, cut_window, sub_place}
use Rattle.arc_slots.specs.Several.{handed_places, kept_places}
use Rattle.arc_slots.specs.Slots.{bare_window}
use Rattle.arc_slots.specs.Splits.{SplitsPart, made_place}
use Rattle.arc_slots.specs.Taking.{CanHave}
use Rattle.arc_slots.specs.declared.part.Part.{Part}
use Rattle.arc_slots.specs.declared.part.Part.TheVariants.{Back, Front}
use Rattle.arc_slots.specs.declared.take.Taking.{Taking}
use Rattle.arc_slots.specs.declared.take.Taking.TheVariants as taking

-- where a window stands, by its owner
abbrev At : Type 0 → Type 0 → Type 0
At B M = Place (Option Owner) (Given B M)

-- ---- a place

-- one of several may write his block
memory-writes : (sort : Sort) → IsMemory sort → IsWritable sort
memory-writes native memory = tt
memory-writes vector memory = tt
memory-writes (buffer writable) memory = absurd memory
memory-writes raw memory = absurd memory

module _ {N B M : Type 0} where
  -- the metadata is what is seen of what was given
  pub bare_given : (place : Place N (Given B M))
      → given_at (bare_place place) ≡ metadata_at place
  bare_given nowhere = refl
  bare_given static_data = refl
  bare_given (on_block block offset info) = refl

  pub bare_size : (place : Place N (Given B M)) → size_at (bare_place place) ≡ size_at place
  bare_size nowhere = refl
  bare_size static_data = refl
  bare_size (on_block block offset info) = refl

  pub bare_vector : (place : Place N (Given B M))
      → is_vector_at (bare_place place) ≡ is_vector_at place
  bare_vector nowhere = refl
  bare_vector static_data = refl
  bare_vector (on_block block offset info) = refl

  pub bare_of_buffer : (place : Place N (Given B M)) → IsOfBuffer place
      → IsOfBuffer (bare_place place)
  bare_of_buffer nowhere is = is
  bare_of_buffer static_data is = is
  bare_of_buffer (on_block block offset info) is = is

  -- further in
  pub bare_moved : (start : ℕ) (place : Place N (Given B M))
      → bare_place (moved start place) ≡ moved start (bare_place place)
  bare_moved start nowhere = refl
  bare_moved start static_data = refl
  bare_moved start (on_block block offset info) = refl

  -- where a part stands, which may be on nothing
  bare-part : (nothing : Bool) (start : ℕ) (place : Place N (Given B M))
      → bare_place (if nothing then nowhere else moved start place)
      ≡ (if nothing then nowhere else moved start (bare_place place))
  bare-part true start place = refl
  bare-part false start place = bare_moved start place

  -- where a writer may stand
  pub bare_writer : (place : Place (Option N) (Given B M)) → IsWriterPlace place
      → IsWriterPlace (bare_place place)
  bare_writer nowhere writes = writes
  bare_writer static_data writes = writes
  bare_writer (on_block None offset info) writes = writes
  bare_writer (on_block (Some owner) offset info) writes = writes

  pub bare_shared : (place : Place (Option N) (Given B M)) → IsSharedPlace place
      → IsSharedPlace (bare_place place)
  bare_shared nowhere there = there
  bare_shared static_data there = there
  bare_shared (on_block None offset info) there = there
  bare_shared (on_block (Some owner) offset info) there = there

  pub bare_one_of_several : (place : Place (Option N) (Given B M)) → IsSharedPlace place
      → IsWriterPlace (bare_place place)
  bare_one_of_several nowhere there = tt
  bare_one_of_several static_data there = absurd there
  bare_one_of_several (on_block None offset info) there = absurd there
  bare_one_of_several (on_block (Some owner) offset info) there = memory-writes info.sort there

  -- where a layout moves it
  pub bare_move : (layout : LayoutFacts) (place : Place (Option N) (Given B M))
      → layout_move layout (bare_place place) ≡ layout_move layout place
  bare_move layout nowhere = refl
  bare_move layout static_data = refl
  bare_move layout (on_block None offset info) = refl
  bare_move layout (on_block (Some owner) offset info) = refl

  pub bare_refused : (layout : LayoutFacts) (place : Place (Option N) (Given B M))
      → IsRefused (layout_move layout place) → IsRefused (layout_move layout (bare_place place))
  bare_refused layout place refused = subst IsRefused (sym (bare_move layout place)) refused

  bare-owned : (owner : Option N) (place : Place (Option N) (Given B M))
      → bare_place (owned_by owner place) ≡ owned_by owner (bare_place place)
  bare-owned owner nowhere = refl
  bare-owned owner static_data = refl
  bare-owned owner (on_block old offset info) = refl

-- ---- what calls do to the pass of the block

module _ {B M H : Type 0} where
  -- an owner ended
  pub bare_leaves : (place : At B M) (p q : Pass H) → LeavesAt place p q
      → LeavesAt (bare_place place) p q
  bare_leaves place p q left =
      owner_bare (q ≡ p) (λ o. (last : Bool) × Leaves o p q last) place left

  -- the only one
  pub bare_releases : (place : At B M) (p q : Pass H)
      → at_owner place (q ≡ p) (λ o. Leaves o p q true) → LeavesAt (bare_place place) p q
  bare_releases nowhere p q left = left
  bare_releases static_data p q left = left
  bare_releases (on_block None offset info) p q left = left
  bare_releases (on_block (Some o) offset info) p q left = (true, left)

  -- no split was made
  pub bare_split_refused : (place : At B M) (p q : Pass H) (e : OwnerError)
      → RefusesSplitAt place p q e → RefusesSplitAt (bare_place place) p q e
  bare_split_refused nowhere p q e why = why
  bare_split_refused static_data p q e why = why
  bare_split_refused (on_block None offset info) p q e why = why
  bare_split_refused (on_block (Some o) offset info) p q e why = why

  -- nobody else has a part, or somebody may
  pub bare_unique : (place : At B M) (p q : Pass H) (answer : Bool)
      → AsksUniqueAt place p q answer → AsksUniqueAt (bare_place place) p q answer
  bare_unique nowhere p q answer asks = asks
  bare_unique static_data p q answer asks = asks
  bare_unique (on_block None offset info) p q answer asks = asks
  bare_unique (on_block (Some o) offset info) p q answer asks = asks

  module _ (has_any : Bool) where
    pub bare_becomes_sole : (place : At B M) (len : ℕ) (p q : Pass H)
        → BecomesSoleAt has_any place len p q → BecomesSoleAt has_any (bare_place place) len p q
    bare_becomes_sole nowhere len p q did = did
    bare_becomes_sole static_data len p q did = did
    bare_becomes_sole (on_block None offset info) len p q did = did
    bare_becomes_sole (on_block (Some o) offset info) len p q did = did

    pub bare_refuses_sole : (place : At B M) (len : ℕ) (p q : Pass H)
        → RefusesSoleAt has_any place len p q → RefusesSoleAt has_any (bare_place place) len p q
    bare_refuses_sole nowhere len p q did = did
    bare_refuses_sole static_data len p q did = did
    bare_refuses_sole (on_block None offset info) len p q did = did
    bare_refuses_sole (on_block (Some o) offset info) len p q did = did

-- ---- cuts and splits of a window that is read

module _ {T B M : Type 0} (has_static : Bool) (w : Window T (Given B M)) where
  bare-sub : (start end : ℕ) → bare_place (sub_place has_static w start end)
      ≡ sub_place has_static (bare_window w) start end
  bare-sub start end =
      bare-part (has_static && (length (sub w.items start end) == 0)) start w.place

  pub bare_cut_shares : {H : Type 0} (start end : ℕ) (there : At B M) (p q : Pass H)
      → Shares (sub_place has_static w start end) p q there
      → Shares (sub_place has_static (bare_window w) start end) p q (bare_place there)
  bare_cut_shares start end there p q made =
      subst (λ (place : Place (Option Owner) M). Shares place p q (bare_place there))
      (bare-sub start end) (bare_shares (sub_place has_static w start end) there p q made)

  pub bare_cut_refuses : {H : Type 0} (wants : Sort → Bool) (start end : ℕ) (p q : Pass H)
      (e : OwnerError)
      → Refuses wants (sub_place has_static w start end) p q e
      → Refuses wants (sub_place has_static (bare_window w) start end) p q e
  bare_cut_refuses wants start end p q e why =
      subst (λ (place : Place (Option Owner) M). Refuses wants place p q e) (bare-sub start end)
      (bare_refuses wants (sub_place has_static w start end) p q e why)

  bare-cut : (start end : ℕ)
      → bare_window (cut_window w start end) ≡ cut_window (bare_window w) start end
  bare-cut start end =
      ap {B = Window T M} (λ place. record { items = sub w.items start end; place = place })
      (bare_moved start w.place)

  module _ {H : Type 0} (p q : Pass H) where
    bare-shares-part : (start end : ℕ) (part : Window T (Given B M))
        → SharesPart has_static w start end p q part
        → SharesPart has_static (bare_window w) start end p q (bare_window part)
    bare-shares-part start end part made =
        (made.0, bare_cut_shares start end part.place p q made.1)

    module _ (at : ℕ) (front back : Window T (Given B M)) where
      bare-splits-off : SplitsOff has_static w at p q front back
          → SplitsOff has_static (bare_window w) at p q (bare_window front) (bare_window back)
      bare-splits-off splits = record {
        lists = splits.lists;
        at_start = λ zero. (
          ap bare_window (splits.at_start zero).0,
          bare-shares-part 0 0 front (splits.at_start zero).1,
        );
        later = λ some. (
          ap bare_window (splits.later some).0 ∙ bare-cut 0 at,
          bare-shares-part at (length w.items) back (splits.later some).1,
        );
      }

      bare-splits-to : SplitsTo has_static w at p q front back
          → SplitsTo has_static (bare_window w) at p q (bare_window front) (bare_window back)
      bare-splits-to splits = record {
        lists = splits.lists;
        at_end = λ all. (
          ap bare_window (splits.at_end all).0,
          bare-shares-part at at back (splits.at_end all).1,
        );
        earlier = λ less. (
          ap bare_window (splits.earlier less).0 ∙ bare-cut at (length w.items),
          bare-shares-part 0 at front (splits.earlier less).1,
        );
      }

    -- the part that was handed out, and what stays
    pub bare_splits : (part : Part) (stays handed : Window T (Given B M))
        → SplitsPart has_static part w p q stays handed
        → SplitsPart has_static part (bare_window w) p q (bare_window stays) (bare_window handed)
    bare_splits (Back at) stays handed splits = bare-splits-off at stays handed splits
    bare_splits (Front at) stays handed splits = bare-splits-to at handed stays splits

    pub bare_part_refused : (wants : Sort → Bool) (e : OwnerError) (part : Part)
        → Refuses wants (made_place has_static part w) p q e
        → Refuses wants (made_place has_static part (bare_window w)) p q e
    bare_part_refused wants e (Back at) why =
        bare_cut_refuses wants at (if at == 0 then 0 else length w.items) p q e why
    bare_part_refused wants e (Front at) why =
        bare_cut_refuses wants (if at == length w.items then at else 0) at p q e why

-- ---- a writer becomes a reader, and a reader a writer

-- what is made of a list
module _ {T : Type 0} (B M : Type 0) where
  bare-made : (has_static drops : Bool) (owner : Owner) (items : List T)
      → bare_window {B = B} {M = M} (made_window has_static drops owner items)
      ≡ made_window has_static drops owner items
  bare-made has_static drops owner items =
      let info : BlockInfo (Given B M) = native_facts drops (length items) in
      ap {B = Window T M} (λ place. record { items = items; place = place })
      (bare-part (has_static && (length items == 0)) 0 (on_block (Some owner) 0 info))

module _ {T B M : Type 0} where
  bare-sole-at : (drops : Bool) (items : List T) (place : At B M)
      → bare (sole_at drops items place) ≡ sole_at drops items (bare_place place)
  bare-sole-at drops items nowhere = refl
  bare-sole-at drops items static_data = refl
  bare-sole-at drops items (on_block block offset info) = refl

  pub bare_sole : (drops : Bool) (w : Window T (Given B M)) (v : PartsView T (Given B M))
      → v ≡ as_sole drops (parts_of w) → bare v ≡ as_sole drops (parts_of (bare_window w))
  bare_sole drops w v is = ap bare is ∙ bare-sole-at drops w.items w.place

  bare-makes : (has_static drops one_pass : Bool) (items : List T) (w : Window T (Given B M))
      → Makes has_static drops one_pass items w
      → Makes has_static drops one_pass items (bare_window w)
  bare-makes has_static drops one_pass items w makes = record {
    owner = makes.owner;
    made = ap bare_window makes.made ∙ bare-made B M has_static drops makes.owner items;
    first =
        owner_bare (Unit {0}) (λ o. IsFirst MAX_OWNERS one_pass Counted o) w.place makes.first;
  }

module _ {T B M H : Type 0} (drops one_pass : Bool) where
  module _ (w v : PartsView T (Given B M)) (p q : Pass H) where
    bare-owned-row : (owner : Option Owner)
        → v ≡ record { items = w.items; place = owned_by owner w.place; role = w.role }
        → bare v
        ≡ record { items = w.items; place = owned_by owner (bare_place w.place); role = w.role }
    bare-owned-row owner is =
        ap bare is
        ∙ ap {B = PartsView T M} (λ place. record {
          items = w.items;
          place = place;
          role = w.role;
        }) (bare-owned owner w.place)

    bare-moves : (move : Move) → Moves move drops one_pass w v p q
        → Moves move drops one_pass (bare w) (bare v) p q
    bare-moves to.Stays moves = (ap bare moves.0, moves.1)
    bare-moves to.HandedBack moves = absurd moves
    bare-moves to.NewEmpty moves = (
      bare-makes false drops one_pass w.items (window_of v) moves.0,
      owner_bare (q ≡ p) (λ o. IsFreshPass o q) v.place moves.1,
      moves.2,
    )
    bare-moves to.NewCount moves =
        (moves.0, bare-owned-row (Some moves.0) moves.1, moves.2, moves.3)
    bare-moves to.LeavesCount moves = (
      bare-owned-row None moves.0,
      owner_bare ⊥ (λ o. (last : Bool) × Leaves o p q last) w.place moves.1,
    )

  pub bare_freezes : (layout : LayoutFacts) (w : PartsView T (Given B M))
      (made : Window T (Given B M)) (p q : Pass H)
      → Freezes layout drops one_pass w (parts_of made) p q
      → Freezes layout drops one_pass (bare w) (parts_of (bare_window made)) p q
  bare_freezes layout w made p q frozen =
      subst (λ move. Moves move drops one_pass (as_reader (bare w)) (parts_of (bare_window made)) p
      q) (sym (bare_move layout w.place))
      (bare-moves (as_reader w) (parts_of made) p q (layout_move layout w.place) frozen)

-- ---- the places of one of several

module _ {T B M : Type 0} where
  bare-advance : (n : ℕ) (w : PartsView T (Given B M))
      → bare (after_advance n w) ≡ after_advance n (bare w)
  bare-advance n w =
      ap {B = PartsView T M} (λ place. record {
        items = drop n w.items;
        place = place;
        role = with_capacity w.role (capacity_of w.role - n);
      }) (bare_moved n w.place)

  bare-kept : (part : Part) (w : PartsView T (Given B M))
      → bare (kept_places part w) ≡ kept_places part (bare w)
  bare-kept (Back at) w = refl
  bare-kept (Front at) w = bare-advance at w

  bare-handed : (part : Part) (w : PartsView T (Given B M))
      → bare (handed_places part w) ≡ handed_places part (bare w)
  bare-handed (Back at) w = bare-advance at w
  bare-handed (Front at) w = refl

module _ {T B M : Type 0} (H : Type 0) (real : BlockId → ℕ → List Line → Type 0)
    (drops one_pass : Bool) (w : PartsView T (Given B M)) where
  module _ (v : PartsView T (Given B M)) (p q : Pass H) where
    bare-stands-by : (sort : Sort) → StandsToSplit H real drops one_pass w v p q sort
        → StandsToSplit H real drops one_pass (bare w) (bare v) p q sort
    bare-stands-by native stands = (ap bare stands.0, stands.1)
    bare-stands-by vector stands = record {
      owner = stands.owner;
      made = ap bare stands.made;
      first = stands.first;
      pass = stands.pass;
      left = owner_bare ⊥ (λ o. LeavesShown H real o p) w.place stands.left;
    }
    bare-stands-by (buffer writable) stands = absurd stands
    bare-stands-by raw stands = absurd stands

    bare-stands : (place : At B M) → StandsToSplitAt H real drops one_pass w v p q place
        → StandsToSplitAt H real drops one_pass (bare w) (bare v) p q (bare_place place)
    bare-stands nowhere stands = (ap bare stands.0, stands.1)
    bare-stands static_data stands = absurd stands
    bare-stands (on_block owner offset info) stands = bare-stands-by info.sort stands

  pub bare_splits_places : (part : Part) (kept made : PartsView T (Given B M)) (p q : Pass H)
      → SplitsWriter H real drops one_pass (kept_places part) (handed_places part) w kept made p q
      → SplitsWriter H real drops one_pass (kept_places part) (handed_places part) (bare w)
      (bare kept) (bare made) p q
  bare_splits_places part kept made p q splits =
      let whole = splits.whole in
      let handed = bare-handed part whole in
      record {
        whole = bare whole;
        between = splits.between;
        stands = bare-stands whole p splits.between w.place splits.stands;
        stays = ap bare splits.stays ∙ bare-kept part whole;
        items = splits.items ∙ ap (λ (x : PartsView T M). x.items) handed;
        role = splits.role ∙ ap (λ (x : PartsView T M). x.role) handed;
        shares =
            subst (λ (x : PartsView T M). Shares x.place splits.between q (bare_place made.place))
            handed
            (bare_shares (handed_places part whole).place made.place splits.between q
            splits.shares);
      }

-- who leaves a vector
pub bare_leaves_vector : {T B M H : Type 0} (drops one_pass : Bool)
    (w v : PartsView T (Given B M)) (p q new : Pass H)
    → LeavesVector drops one_pass w v p q new
    → LeavesVector drops one_pass (bare w) (bare v) p q new
bare_leaves_vector drops one_pass w v p q new leaves = record {
  owner = leaves.owner;
  made = ap bare leaves.made;
  first = leaves.first;
  pass = leaves.pass;
  ended = owner_bare ⊥ (λ o. (last : Bool) × Leaves o p q last) w.place leaves.ended;
}

-- ---- what is taken out

module _ {T B M : Type 0} (drops : Bool) (items : List T) where
  pub bare_have : (what : Taking) (place : At B M) → CanHave drops what items place
      → CanHave drops what items (bare_place place)
  bare_have taking.Vector nowhere can = absurd can.sort
  bare_have taking.Boxed nowhere can = absurd can.sort
  bare_have taking.Buffer nowhere can = absurd can.sort
  bare_have taking.Raw nowhere can = absurd can.sort
  bare_have taking.Vector static_data can = absurd can.sort
  bare_have taking.Boxed static_data can = absurd can.sort
  bare_have taking.Buffer static_data can = absurd can.sort
  bare_have taking.Raw static_data can = absurd can.sort
  bare_have taking.Vector (on_block block offset info) can =
      record { sort = can.sort; whole = can.whole }
  bare_have taking.Boxed (on_block block offset info) can =
      record { sort = can.sort; whole = can.whole }
  bare_have taking.Buffer (on_block block offset info) can =
      record { sort = can.sort; whole = can.whole }
  bare_have taking.Raw (on_block block offset info) can =
      record { sort = can.sort; whole = can.whole }

  have-back : (what : Taking) (place : At B M) → CanHave drops what items (bare_place place)
      → CanHave drops what items place
  have-back taking.Vector nowhere can = absurd can.sort
  have-back taking.Boxed nowhere can = absurd can.sort
  have-back taking.Buffer nowhere can = absurd can.sort
  have-back taking.Raw nowhere can = absurd can.sort
  have-back taking.Vector static_data can = absurd can.sort
  have-back taking.Boxed static_data can = absurd can.sort
  have-back taking.Buffer static_data can = absurd can.sort
  have-back taking.Raw static_data can = absurd can.sort
  have-back taking.Vector (on_block block offset info) can =
      record { sort = can.sort; whole = can.whole }
  have-back taking.Boxed (on_block block offset info) can =
      record { sort = can.sort; whole = can.whole }
  have-back taking.Buffer (on_block block offset info) can =
      record { sort = can.sort; whole = can.whole }
  have-back taking.Raw (on_block block offset info) can =
      record { sort = can.sort; whole = can.whole }

  pub bare_have_not : (what : Taking) (place : At B M) → ¬ CanHave drops what items place
      → ¬ CanHave drops what items (bare_place place)
  bare_have_not what place none can = none (have-back what place can)

  module _ {H : Type 0} (what : Taking) (place : At B M) (p q : Pass H) where
    pub bare_taken : TakesAt place p q → TakesAt (bare_place place) p q
    bare_taken did = owner_bare (q ≡ p) (λ o. TakesBlock o p q) place did

    pub bare_not_taken : RefusesTaking (CanHave drops what items place) place p q
        → RefusesTaking (CanHave drops what items (bare_place place)) (bare_place place) p q
    bare_not_taken refused = record {
      asked = λ can.
          owner_bare ⊥ (λ o. Asks o p q false) place
          (refused.asked (have-back what place can));
      unasked = λ none. refused.unasked (λ can. none (bare_have what place can));
    }

-- ---- what calls of any window of a slot use

pub ruleset cloned_windows = (pass_back, bare_shares, bare_refuses)

pub ruleset cut_windows = (pass_back, bare_cut_shares, bare_cut_refuses)

pub ruleset ended_windows = (pass_back, bare_leaves, bare_releases)

pub ruleset frozen_windows = (
  pass_back,
  bare_freezes,
  bare_writer,
  bare_one_of_several,
  bare_refused,
)
