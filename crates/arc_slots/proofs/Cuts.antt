-- A window that is made by a slot's, as its clone or a part of it: its number, its row, and what it
-- adds to the passes.
use Rattle.std.proofs.Common.{◌≡◌, ℕ, ◌==◌, ◌&&◌, Bool, true, if◌then◌else◌, List, Option, Some}
use Rattle.std.proofs.Common.{None, length, refl, sym, ap, ◌∙◌, subst}
use Rattle.arc_owners.specs.declared.count.tokens.Pass.{Pass}
use Rattle.arc_owners.specs.declared.error.OwnerError.{OwnerError}
use Rattle.arc_buffer.specs.Slice.{sub}
use Rattle.arc_block.specs.Block.{Sort}
use Rattle.arc_block.specs.Place.{part_place}
use Rattle.arc_block.specs.Table.{Role, Row}
use Rattle.arc_parts.specs.Steps.{Refuses, Shares}
use Rattle.arc_parts.specs.Window.{PartsView, Window}
use Rattle.arc_commands.specs.Changes.{part_of}
use Rattle.arc_slots.specs.Calls.{Beside, RefusesAt}
use Rattle.arc_slots.specs.Slots.{AnyWindow, SlotView, as_held, may_be_shared, role_fits, row_of}
use Rattle.arc_slots.specs.Slots.{stand_of, window_in}
use Rattle.arc_slots.specs.declared.window.ReadOnly.{ReadOnly}
use Rattle.arc_slots.specs.declared.window.ReadOnly.TheVariants as read_only
use Rattle.arc_slots.specs.Stands.{is_numbered, numbered, put_back, stand_at}
use Rattle.arc_slots.proofs.Slots.{SlotCall, part-fits, part-numbered, part_at, refuses}
use Rattle.arc_slots.proofs.Slots.{refuses-part, same-row, shares, shares-fits, shares-numbered}
use Rattle.arc_slots.proofs.Slots.{shares-part}

-- a slot that was made beside another one: its row, and where it stands
pub record MadeBeside {T M H : Type 0} (s t : SlotView T M) (row : Row T M)
    (passes after : List (Pass H)) : Type 0 where
  pub row_is : row_of t ≡ row
  pub stand : Beside (stand_of (Some s)) passes after (stand_of (Some t))

-- a slot that holds what was made, which isn't written: its number is that of where this stands
module _ {T M K : Type 0} (small : K → PartsView T M) (shares : Bool) where
  one-role : (k : ReadOnly (Window T M) K) → role_fits {T = T} {M = M} (as_held k) ≡ true
  one-role (read_only.Read window) = refl
  one-role (read_only.Small window) = refl

  one-writer : (k : ReadOnly (Window T M) K)
      → may_be_shared {T = T} {M = M} shares (as_held k) ≡ true
  one-writer (read_only.Read window) = refl
  one-writer (read_only.Small window) = refl

  pub holds-made : (k : ReadOnly (Window T M) K) (block : Option ℕ) (h : AnyWindow T M K)
      → h ≡ as_held k → is_numbered block (window_in small (as_held k)).place ≡ true
      → (is_numbered block (window_in small h).place ≡ true) × (role_fits h ≡ true)
      × (may_be_shared shares h ≡ true)
  holds-made k block h is fits = (
    ap (λ x. is_numbered block (window_in small x).place) is ∙ fits,
    ap role_fits is ∙ one-role k,
    ap (may_be_shared shares) is ∙ one-writer k,
  )

module _ {T M H : Type 0} {w : Window T M} {role : Role} {b : Option ℕ} {s : SlotView T M}
    {passes left : List (Pass H)} {p : Pass H} (call : SlotCall w role b s passes left p)
    (new : Pass H) where
  -- ---- its clone

  module _ (k : Window T M) (made : Shares w.place p new k.place) where
    pub clone-fits : is_numbered b k.place ≡ true
    clone-fits = shares-fits p new b w.place k.place call.fits made

    pub clone-made : (can : Role) (t : SlotView T M)
        → t ≡ record { window = k; role = can; block = b } → k.items ≡ w.items → can ≡ role
        → (after : List (Pass H)) → after ≡ put_back left b new
        → MadeBeside s t (row_of s) passes after
    clone-made can t seen items is after back = record {
      row_is =
          ap row_of seen ∙ same-row items (shares-numbered p new b w.place k.place made) is
          ∙ ap row_of call.view;
      stand =
          subst (λ (x : SlotView T M). Beside (stand_of (Some s)) passes after (stand_of (Some x)))
          (sym seen)
          (subst (λ (x : SlotView T M). Beside (stand_of (Some x)) passes after
          (stand_at b k.place)) call.view
          (subst (λ ps. Beside (stand_at b w.place) passes ps (stand_at b k.place)) (sym back)
          (shares passes left p new b w.place k.place call.fits call.has call.took made)));
    }

  pub clone-refused : (wants : Sort → Bool) (e : OwnerError) → Refuses wants w.place p new e
      → (after : List (Pass H)) → after ≡ put_back left b new
      → RefusesAt wants (row_of s).place (stand_of (Some s)) passes after e
  clone-refused wants e why after back =
      subst (λ (x : SlotView T M). RefusesAt wants (row_of x).place (stand_of (Some x)) passes
      after e) call.view
      (subst (λ ps. RefusesAt wants (numbered b w.place) (stand_at b w.place) passes ps e)
      (sym back)
      (refuses passes left p new wants e b w.place call.fits call.has call.took why))

  -- ---- a part of it, which stands on a block only where it has items

  module _ (has_static : Bool) (start end : ℕ) where
    abbrev pub nothing : Bool
    nothing = has_static && (length (sub w.items start end) == 0)

    module _ (k : Window T M) (made : Shares (part_at nothing start w.place) p new k.place)
        (block : Option ℕ) (is : block ≡ (if nothing then None else b)) where
      pub sub-fits : is_numbered block k.place ≡ true
      sub-fits =
          ap (λ o. is_numbered o k.place) is
          ∙ part-fits p new nothing start b w.place k.place call.fits made

      pub sub-made : (can : Role) (t : SlotView T M)
          → t ≡ record { window = k; role = can; block = block } → k.items ≡ sub w.items start end
          → can ≡ role → (after : List (Pass H)) → after ≡ put_back left b new
          → MadeBeside s t (part_of has_static (row_of s) start end) passes after
      sub-made can t seen items can_is after back = record {
        row_is =
            ap row_of seen
            ∙ same-row items
            (ap (λ o. numbered o k.place) is
            ∙ shares-numbered p new (if nothing then None else b) (part_at nothing start w.place)
            k.place made
            ∙ part-numbered nothing start b w.place) can_is
            ∙ ap (λ (x : SlotView T M). part_of has_static (row_of x) start end) call.view;
        stand =
            subst (λ (x : SlotView T M). Beside (stand_of (Some s)) passes after
            (stand_of (Some x))) (sym seen)
            (subst (λ (x : SlotView T M). Beside (stand_of (Some x)) passes after
            (stand_at block k.place)) call.view
            (subst (λ ps. Beside (stand_at b w.place) passes ps (stand_at block k.place)) (sym back)
            (subst (λ o. Beside (stand_at b w.place) passes (put_back left b new)
            (stand_at o k.place)) (sym is)
            (shares-part passes left p new nothing start b w.place k.place call.fits call.has
            call.took made))));
      }

    pub sub-refused : (wants : Sort → Bool) (e : OwnerError)
        → Refuses wants (part_at nothing start w.place) p new e
        → (after : List (Pass H)) → after ≡ put_back left b new
        → RefusesAt wants
        (part_place has_static (sub s.window.items start end) start (row_of s).place)
        (stand_of (Some s)) passes after e
    sub-refused wants e why after back =
        subst (λ (x : SlotView T M). RefusesAt wants
        (part_place has_static (sub x.window.items start end) start (row_of x).place)
        (stand_of (Some x)) passes after e) call.view
        (subst (λ ps. RefusesAt wants
        (part_place has_static (sub w.items start end) start (numbered b w.place))
        (stand_at b w.place) passes ps e) (sym back)
        (refuses-part passes left p new nothing wants e start b w.place call.fits call.has call.took
        why))
