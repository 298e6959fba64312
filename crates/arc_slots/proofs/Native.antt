-- What calls of a window that go by the sort of its block say of the passes of a table.
use Rattle.std.proofs.Common.{◌≡◌, ℕ, ◌==◌, ◌&&◌, Bool, true, false, List, length, Option}
use Rattle.std.proofs.Common.{Some, None, is_some, refl, sym, ap, ◌∙◌, subst, arith}
use Rattle.std.specs.Option.{option_map_or}
use Rattle.std.proofs.lemmas.Bool.{false≢true, and_parts, eq-eqb, eqb-true, ne_eqb}
use Rattle.std.proofs.lemmas.Option.{none-some}
use Rattle.arc_owners.specs.declared.count.tokens.Pass.{Pass}
use Rattle.arc_owners.specs.count.Calls.{Owner, Asks, TakesBlock}
use Rattle.arc_block.specs.Block.{Sort, BlockInfo, native, vector, buffer, raw}
use Rattle.arc_block.specs.Place.{Place, nowhere, static_data, on_block, at_owner}
use Rattle.arc_parts.specs.Steps.{TakesAt, RefusesTaking}
use Rattle.arc_block.specs.Unique.{AsksUnique, AsksUniqueAt}
use Rattle.arc_parts.specs.Window.{IsBoxWhole, IsVecPart, PartsView, Window, parts_of}
use Rattle.arc_parts.specs.Writers.{BecomesSoleAt, RefusesSoleAt, as_sole}
use Rattle.arc_block.specs.Layouts.{MayWrite}
use Rattle.arc_parts.specs.Shared.{is_on_block, is_vector}
use Rattle.arc_commands.specs.Changes.{is_all_full, is_box_whole}
use Rattle.arc_commands.specs.Changes.{is_vector_part}
use Rattle.arc_commands.specs.Changes.{is_writable_at, may_write_at, may_write_sort}
use Rattle.arc_slots.specs.Calls.{Along, AsksPlace, AsksSort, MayAsk, RefusesOut, TakesOut}
use Rattle.arc_slots.specs.Stands.{numbered, is_numbered, stand_at, HasPassFor, TakenOut, put_back}
use Rattle.arc_slots.specs.Slots.{SlotView, row_of, stand_of, writer_slot}
use Rattle.arc_slots.proofs.Slots.{ReadCall, along, sole-numbered, sole-stand}
use Rattle.arc_slots.proofs.Taken.{back-same}

pub and_none : (b : Bool) → (b && false) ≡ false
and_none true = refl
and_none false = refl

-- a sort that may be written is one that may be
may-sort : (has_any : Bool) (sort : Sort) → may_write_sort has_any sort ≡ true
    → MayWrite has_any sort
may-sort has_any native may = (tt, refl)
may-sort has_any vector may = (tt, may)
may-sort has_any (buffer writable) may = and_parts writable has_any may
may-sort has_any raw may = absurd (false≢true may)

may-is : (has_any : Bool) (sort : Sort) → MayWrite has_any sort
    → may_write_sort has_any sort ≡ true
may-is has_any native may = refl
may-is has_any vector may = may.1
may-is has_any (buffer writable) may =
    ap (λ b. b && has_any) may.0 ∙ may.1
may-is has_any raw may = absurd may.0

may-none : (has_any : Bool) (sort : Sort) → may_write_sort has_any sort ≡ false
    → ¬ MayWrite has_any sort
may-none has_any sort none may = false≢true (sym none ∙ may-is has_any sort may)

-- nothing was asked where no owner stands
none-asked : {H : Type 0} (asks : Bool) (passes after : List (Pass H)) → after ≡ passes
    → (found : Bool) → MayAsk asks None passes after found
none-asked true passes after same found = same
none-asked false passes after same found = same

-- where a window stands, by its owner
abbrev At : Type 0 → Type 0
At M = Place (Option Owner) M

module _ {M H : Type 0} (passes left : List (Pass H)) (p new : Pass H) where
  -- whether nobody else has a part
  pub asks-place : (b : Option ℕ) (place : At M) → is_numbered b place ≡ true
      → HasPassFor passes (stand_at b place) → TakenOut passes b p left → (answer : Bool)
      → AsksUniqueAt place p new answer
      → AsksPlace (numbered b place) (stand_at b place) passes (put_back left b new) answer
  asks-place b nowhere fits has took answer asks =
      (asks.0, back-same passes left p b took new asks.1)
  asks-place b static_data fits has took answer asks =
      (asks.0, back-same passes left p b took new asks.1)
  asks-place b (on_block None offset info) fits has took answer asks =
      (asks.0, back-same passes left p b took new asks.1)
  asks-place None (on_block (Some o) offset info) fits has took answer asks =
      absurd (false≢true fits)
  asks-place (Some n) (on_block (Some o) offset info) fits has took answer asks =
      by info.sort asks
    where
      asked : (found : Bool) → Asks o p new found
          → Along (Some (n, o)) passes (put_back left (Some n) new) (λ o q r. Asks o q r found)
      asked found call =
          along passes left p new ⊥ (λ o q r. Asks o q r found) (Some n)
          (on_block (Some o) offset info) fits has took (λ none. absurd none) call

      by : (sort : Sort) → AsksUnique sort o p new answer
          → AsksSort sort (Some (n, o)) passes (put_back left (Some n) new) answer
      by native call = asked answer call
      by vector call = asked answer call
      by (buffer writable) call = (call.0, asked call.0 call.1, call.2)
      by raw call = (call.0, back-same passes left p (Some n) took new call.1)

  -- who is to be the only writer
  module _ (has_any : Bool) where
    pub becomes : (b : Option ℕ) (place : At M) → is_numbered b place ≡ true
        → HasPassFor passes (stand_at b place) → TakenOut passes b p left → (len : ℕ)
        → BecomesSoleAt has_any place len p new
        → MayAsk (is_writable_at has_any (numbered b place)) (stand_at b place) passes
        (put_back left b new) true
        × (may_write_at has_any true (numbered b place) len ≡ true)
        × (is_on_block (numbered b place) ≡ true → is_some (stand_at b place) ≡ true)
    becomes b nowhere fits has took len did = (
      back-same passes left p b took new did.1,
      eq-eqb len 0 did.0,
      λ on. absurd (false≢true on),
    )
    becomes b static_data fits has took len did = (
      back-same passes left p b took new did.1,
      eq-eqb len 0 did.0,
      λ on. absurd (false≢true on),
    )
    becomes b (on_block None offset info) fits has took len did = absurd did
    becomes None (on_block (Some o) offset info) fits has took len did = absurd (false≢true fits)
    becomes (Some n) (on_block (Some o) offset info) fits has took len did =
        let may = may-is has_any info.sort did.0 in (
          subst (λ b. MayAsk b (Some (n, o)) passes (put_back left (Some n) new) true) (sym may)
              (along passes left p new ⊥ (λ o q r. Asks o q r true) (Some n)
              (on_block (Some o) offset info) fits has took (λ none. absurd none) did.1),
          ap (λ b. b && true) may,
          λ on. refl,
        )

    pub refuses-sole : (b : Option ℕ) (place : At M) → is_numbered b place ≡ true
        → HasPassFor passes (stand_at b place) → TakenOut passes b p left → (len : ℕ)
        → RefusesSoleAt has_any place len p new
        → MayAsk (is_writable_at has_any (numbered b place)) (stand_at b place) passes
        (put_back left b new) false
        × (may_write_at has_any false (numbered b place) len ≡ false)
    refuses-sole b nowhere fits has took len did = (
      back-same passes left p b took new did.1,
      ne_eqb len 0 (λ e. omega (arith, e, did.0)),
    )
    refuses-sole b static_data fits has took len did = (
      back-same passes left p b took new did.1,
      ne_eqb len 0 (λ e. omega (arith, e, did.0)),
    )
    refuses-sole b (on_block None offset info) fits has took len did = (
      none-asked (may_write_sort has_any info.sort) passes (put_back left b new)
          (back-same passes left p b took new did) false,
      and_none (may_write_sort has_any info.sort),
    )
    refuses-sole None (on_block (Some o) offset info) fits has took len did =
        absurd (false≢true fits)
    refuses-sole (Some n) (on_block (Some o) offset info) fits has took len did =
        (by (may_write_sort has_any info.sort) refl, and_none (may_write_sort has_any info.sort))
      where
        by : (b : Bool) → may_write_sort has_any info.sort ≡ b
            → MayAsk b (Some (n, o)) passes (put_back left (Some n) new) false
        by true may =
            along passes left p new ⊥ (λ o q r. Asks o q r false) (Some n)
            (on_block (Some o) offset info) fits has took (λ none. absurd none)
            (did.0 (may-sort has_any info.sort may))
        by false may =
            back-same passes left p (Some n) took new (did.1 (may-none has_any info.sort may))

  -- what a window stands on is taken out
  module _ (wanted : Bool) (Wanted : Type 0) (is : wanted ≡ true → Wanted)
      (says : Wanted → wanted ≡ true) where
    pub takes : (b : Option ℕ) (place : At M) → is_numbered b place ≡ true
        → HasPassFor passes (stand_at b place) → TakenOut passes b p left → Wanted
        → TakesAt place p new
        → TakesOut wanted (stand_at b place) passes (put_back left b new)
    takes b place fits has took want did = (
      says want,
      along passes left p new (new ≡ p) TakesBlock b place fits has took (λ e. e) did,
    )

    pub refuses-out : (b : Option ℕ) (place : At M) → is_numbered b place ≡ true
        → HasPassFor passes (stand_at b place) → TakenOut passes b p left
        → RefusesTaking Wanted place p new
        → RefusesOut wanted (stand_at b place) passes (put_back left b new)
    refuses-out b place fits has took did = by wanted refl
      where
        unwanted : wanted ≡ false → put_back left b new ≡ passes
        unwanted none =
            back-same passes left p b took new
            (did.unasked (λ want. false≢true (sym none ∙ says want)))

        owner-there : (b : Option ℕ) (place : At M) → at_owner place ⊥ (λ o. Asks o p new false)
            → is_numbered b place ≡ true → stand_at b place ≡ None → ⊥
        owner-there b nowhere did fits none = did
        owner-there b static_data did fits none = did
        owner-there b (on_block None offset info) did fits none = did
        owner-there None (on_block (Some o) offset info) did fits none = false≢true fits
        owner-there (Some n) (on_block (Some o) offset info) did fits none =
            none-some (n, o) (sym none)

        by : (w : Bool) → wanted ≡ w
            → RefusesOut w (stand_at b place) passes (put_back left b new)
        by true so = record {
          asked =
              along passes left p new ⊥ (λ o q r. Asks o q r false) b place fits has took
              (λ none. absurd none) (did.asked (is so));
          counted = λ none. absurd (owner-there b place (did.asked (is so)) fits none);
        }
        by false so = record { asked = unwanted so; counted = λ none. refl }

-- ---- the same of a slot whose window is read

-- he is its only writer from now on
pub record BecomesWritten {T M H : Type 0} (has_any drops : Bool) (b : Option ℕ) (s : SlotView T M)
    (v : PartsView T M) (before after : List (Pass H)) : Type 0 where
  pub row : row_of (writer_slot v b) ≡ as_sole drops (row_of s)
  pub stand : stand_of (Some (writer_slot v b)) ≡ stand_of (Some s)
  pub alone : MayAsk (is_writable_at has_any (row_of s).place) (stand_of (Some s)) before after
      true
  pub may : may_write_at has_any true (row_of s).place (length s.window.items) ≡ true
  pub owner : is_on_block (row_of s).place ≡ true → is_some (stand_of (Some s)) ≡ true

-- he stays a reader
pub record StaysRead {T M H : Type 0} (has_any : Bool) (s : SlotView T M)
    (before after : List (Pass H)) : Type 0 where
  pub beside : MayAsk (is_writable_at has_any (row_of s).place) (stand_of (Some s)) before after
      false
  pub may_not : may_write_at has_any false (row_of s).place (length s.window.items) ≡ false

module _ {T M H : Type 0} {w : Window T M} {b : Option ℕ} {s : SlotView T M}
    {passes left : List (Pass H)} {p : Pass H} (r : ReadCall w b s passes left p) (new : Pass H)
    (after : List (Pass H)) (back : after ≡ put_back left b new) where
  pub read-asks : (answer : Bool) → AsksUniqueAt w.place p new answer
      → AsksPlace (row_of s).place (stand_of (Some s)) passes after answer
  read-asks answer asks =
      subst (λ (t : SlotView T M). AsksPlace (row_of t).place (stand_of (Some t)) passes after
      answer) r.view
      (subst (λ ps. AsksPlace (numbered b w.place) (stand_at b w.place) passes ps answer)
      (sym back) (asks-place passes left p new b w.place r.fits r.has r.took answer asks))

  module _ (has_any : Bool) where
    abbrev AskedSo : Bool → List (Pass H) → Type 0
    AskedSo found ps =
        MayAsk (is_writable_at has_any (numbered b w.place)) (stand_at b w.place) passes ps found

    pub read-becomes : (drops : Bool) (v : PartsView T M) → v ≡ as_sole drops (parts_of w)
        → BecomesSoleAt has_any w.place (length w.items) p new
        → BecomesWritten has_any drops b s v passes after
    read-becomes drops v is did =
        let all =
        becomes passes left p new has_any b w.place r.fits r.has r.took (length w.items) did in
        subst (λ (t : SlotView T M). BecomesWritten has_any drops b t v passes after) r.view
        (record {
          row =
              ap (λ (u : PartsView T M). row_of (writer_slot u b)) is
              ∙ sole-numbered drops b w.items w.place r.fits;
          stand =
              ap (λ (u : PartsView T M). stand_of (Some (writer_slot u b))) is
              ∙ sole-stand drops b w.items w.place;
          alone = subst (AskedSo true) (sym back) all.0;
          may = all.1;
          owner = all.2;
        })

    pub read-stays : RefusesSoleAt has_any w.place (length w.items) p new
        → StaysRead has_any s passes after
    read-stays did =
        let all =
        refuses-sole passes left p new has_any b w.place r.fits r.has r.took (length w.items) did
        in
        subst (λ (t : SlotView T M). StaysRead has_any t passes after) r.view (record {
          beside = subst (AskedSo false) (sym back) all.0;
          may_not = all.1;
        })

-- ---- what is wanted, as the code tests it

is-vector : (sort : Sort) → is_vector sort ≡ true → sort ≡ vector
is-vector native is = absurd (false≢true is)
is-vector vector is = refl
is-vector (buffer writable) is = absurd (false≢true is)
is-vector raw is = absurd (false≢true is)

module _ {M : Type 0} where
  pub all-full : (offset len : ℕ) (info : BlockInfo M) → is_all_full offset len info ≡ true
      → (offset ≡ 0) × (info.full ≡ Some len)
  all-full offset len info is =
      let both = and_parts (offset == 0) (option_map_or (λ full. full == len) info.full false) is in
      (eqb-true offset 0 both.0, by info.full both.1)
    where
      by : (full : Option ℕ) → option_map_or (λ full. full == len) full false ≡ true
          → full ≡ Some len
      by None is = absurd (false≢true is)
      by (Some f) is = ap Some (eqb-true f len is)

  pub full-all : (offset len : ℕ) (info : BlockInfo M) → (offset ≡ 0) × (info.full ≡ Some len)
      → is_all_full offset len info ≡ true
  full-all offset len info is =
      ap (λ b. b && option_map_or (λ full. full == len) info.full false) (eq-eqb offset 0 is.0)
      ∙ ap (λ f. option_map_or (λ full. full == len) f false) is.1 ∙ eq-eqb len len refl

  -- it goes by what is known of the block, whatever it goes by
  pub vector-numbered : (drops : Bool) (b : Option ℕ) (place : Place (Option Owner) M) (len : ℕ)
      → is_vector_part drops (numbered b place) len ≡ is_vector_part drops place len
  vector-numbered drops b nowhere len = refl
  vector-numbered drops b static_data len = refl
  vector-numbered drops b (on_block None offset info) len = refl
  vector-numbered drops b (on_block (Some o) offset info) len = refl

  pub box-numbered : (b : Option ℕ) (place : Place (Option Owner) M) (len : ℕ)
      → is_box_whole (numbered b place) len ≡ is_box_whole place len
  box-numbered b nowhere len = refl
  box-numbered b static_data len = refl
  box-numbered b (on_block None offset info) len = refl
  box-numbered b (on_block (Some o) offset info) len = refl

module _ {T M : Type 0} (items : List T) where
  pub vector-is : (drops : Bool) (place : Place (Option Owner) M)
      → is_vector_part drops place (length items) ≡ true → IsVecPart drops items place
  vector-is drops nowhere is = absurd (false≢true is)
  vector-is drops static_data is = absurd (false≢true is)
  vector-is true (on_block block offset info) is =
      let both = and_parts (is_vector info.sort) (is_all_full offset (length items) info) is in
      record {
        sort = is-vector info.sort both.0;
        whole = λ drops. all-full offset (length items) info both.1;
      }
  vector-is false (on_block block offset info) is =
      let both = and_parts (is_vector info.sort) true is in
      record {
        sort = is-vector info.sort both.0;
        whole = λ drops. absurd (false≢true drops);
      }

  pub vector-says : (drops : Bool) (place : Place (Option Owner) M) → IsVecPart drops items place
      → is_vector_part drops place (length items) ≡ true
  vector-says drops nowhere is = absurd is.sort
  vector-says drops static_data is = absurd is.sort
  vector-says true (on_block block offset info) is =
      ap (λ s. is_vector s && is_all_full offset (length items) info) is.sort
      ∙ full-all offset (length items) info (is.whole refl)
  vector-says false (on_block block offset info) is =
      ap (λ s. is_vector s && true) is.sort

  pub box-is : (place : Place (Option Owner) M) → is_box_whole place (length items) ≡ true
      → IsBoxWhole items place
  box-is nowhere is = absurd (false≢true is)
  box-is static_data is = absurd (false≢true is)
  box-is (on_block block offset info) is =
      let both = and_parts (is_vector info.sort) ((offset == 0) && (info.size == length items)) is
      in
      let all = and_parts (offset == 0) (info.size == length items) both.1 in
      record {
        sort = is-vector info.sort both.0;
        whole = (eqb-true offset 0 all.0, eqb-true info.size (length items) all.1);
      }

  pub box-says : (place : Place (Option Owner) M) → IsBoxWhole items place
      → is_box_whole place (length items) ≡ true
  box-says nowhere is = absurd is.sort
  box-says static_data is = absurd is.sort
  box-says (on_block block offset info) is =
      ap (λ s. is_vector s && ((offset == 0) && (info.size == length items))) is.sort
      ∙ ap (λ b. b && (info.size == length items)) (eq-eqb offset 0 is.whole.0)
      ∙ eq-eqb info.size (length items) is.whole.1
