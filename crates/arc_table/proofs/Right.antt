-- The books of a table stay right by each step, and so by each run.
use Rattle.std.proofs.Common.{inl, inr, ◌≡◌, ◌⊎◌, ℕ, suc, ◌<◌, ◌==◌, Bool}
use Rattle.std.proofs.Common.{true, false, if◌then◌else◌, not, List, [], ◌∷◌, ◌++◌, length, filter}
use Rattle.std.proofs.Common.{Option, Some, None, slice_get, refl, sym, ap, ◌∙◌, subst, arith}
use Rattle.std.specs.Prelude.{◌||◌, is_some, nat_lt}
use Rattle.std.specs.Option.{option_flatten, option_map_or}
use Rattle.std.proofs.lemmas.Bool.{cases_Bool, cases_eq, eq-eqb, eqb-true, false≢true, lt-ltb}
use Rattle.std.proofs.lemmas.Bool.{ltb-true}
use Rattle.std.proofs.lemmas.List.{append-nil}
use Rattle.std.proofs.lemmas.Option.{none-some, same_Some}
use Rattle.arc_block.proofs.Lists.{one-only, passes-some}
use Rattle.arc_block.specs.Block.{BlockInfo}
use Rattle.arc_block.specs.Place.{Place, nowhere, static_data, on_block}
use Rattle.arc_block.specs.Table.{Row, StandsOn, Table, block_of, empty_table, is_alone, owners}
use Rattle.arc_block.specs.Table.{row_at, stands_on}
use Rattle.arc_commands.specs.Apart.{IsLawful}
use Rattle.arc_commands.specs.Blocks.{SaysOf, is_several, is_small, is_sole}
use Rattle.arc_commands.specs.Changes.{Setting, is_free}
use Rattle.arc_commands.specs.Commands.{ListCmd, ListReply}
use Rattle.arc_commands.specs.Fits.{LieWithin, full_end}
use Rattle.arc_table.specs.Once.{AreRight, Booked, Books, EachOnce, HandsOut, Holding}
use Rattle.arc_table.specs.Once.{ShowsOf, StayRight, WasHandedOut, Whereabouts, books_after}
use Rattle.arc_table.specs.Once.{dropped, given, handed_out, has_window, in_block, is_under}
use Rattle.arc_table.specs.Once.{nothing_yet, put_in, where_then}
use Rattle.arc_commands.specs.RunOf.{RunOf}
use Rattle.arc_commands.specs.Step.{Run, Step, other_of, window_of}
use Rattle.arc_commands.proofs.Apart.{step_lawful}
use Rattle.arc_table.proofs.Keeps.{Comes, IsWholeAt}
use Rattle.arc_table.proofs.Lie.{Lies, lies-sub, lies-whole, sub-lies}
use Rattle.arc_commands.proofs.Lists.{there}
use Rattle.arc_commands.proofs.Others.{step-stays}
use Rattle.arc_table.proofs.Puts.{Hands, Moves, Whence, answer-moves, begins_at, comes_of}
use Rattle.arc_table.proofs.Puts.{was_there}
use Rattle.arc_commands.proofs.Roles.{writes-sole}
use Rattle.arc_table.proofs.Stays.{IsAt, LiesOn, StaysAs}

-- ---- where things are

abbrev is_in : Whereabouts → Bool
is_in in_block = true
is_in handed_out = false
is_in dropped = false

then-stands : (hands stands : Bool) (was : Whereabouts) → where_then hands stands was ≡ in_block
    → stands ≡ true
then-stands hands true was is = refl
then-stands true false in_block is = absurd (false≢true (ap is_in is))
then-stands false false in_block is = absurd (false≢true (ap is_in is))
then-stands true false handed_out is = absurd (false≢true (ap is_in is))
then-stands false false handed_out is = absurd (false≢true (ap is_in is))
then-stands true false dropped is = absurd (false≢true (ap is_in is))
then-stands false false dropped is = absurd (false≢true (ap is_in is))

then-gone : (hands stands : Bool) (was : Whereabouts) → ¬ (was ≡ in_block)
    → where_then hands stands was ≡ was
then-gone hands true was gone = refl
then-gone true false in_block gone = absurd (gone refl)
then-gone false false in_block gone = absurd (gone refl)
then-gone true false handed_out gone = refl
then-gone false false handed_out gone = refl
then-gone true false dropped gone = refl
then-gone false false dropped gone = refl

holding-is : {T : Type 0} (h : Holding T) (items : List T) (are : Whereabouts) → items ≡ h.items
    → are ≡ h.are → record { items = items; are = are } ≡ h
holding-is {T} h items are same also =
    ap (λ (x : List T). record { items = x; are = are }) same
    ∙ ap (λ (x : Whereabouts). record { items = h.items; are = x }) also

either-true : (a b : Bool) → (a || b) ≡ true → (a ≡ true) ⊎ (b ≡ true)
either-true true b is = inl refl
either-true false b is = inr is

is-or-not : (x : Option ℕ) (j : ℕ) → (x ≡ Some j) ⊎ (¬ (x ≡ Some j))
is-or-not None j = inr (λ same. none-some j same)
is-or-not (Some i) j = elim (cases_eq i j) [
  | inl same ↦ inl (ap Some same)
  | inr differ ↦ inr (λ same. differ (same_Some i j same))
]

on-of : (n : ℕ) (block : Option ℕ) → option_map_or (λ b. b == n) block false ≡ true
    → block ≡ Some n
on-of n None is = absurd (false≢true is)
on-of n (Some m) is = ap Some (eqb-true m n is)

on-is : (n : ℕ) (block : Option ℕ) → block ≡ Some n
    → option_map_or (λ b. b == n) block false ≡ true
on-is n block is = ap (λ x. option_map_or (λ b. b == n) x false) is ∙ eq-eqb n n refl

some-passes : {X : Type 0} (p : X → Bool) (xs : List X) → nat_lt 0 (length (filter p xs)) ≡ true
    → (i : ℕ) × (x : X) × (slice_get xs i ≡ Some x) × (p x ≡ true)
some-passes p [] is = absurd (false≢true is)
some-passes p (x ∷ xs) is = elim (cases_Bool (p x)) [
  | inl holds ↦ (0, x, refl, holds)
  | inr past ↦
      (let more = some-passes p xs (rw past at is) in (suc more.0, more.1, more.2, more.3))
]

not-below : (n m : ℕ) → n ≡ m → nat_lt n m ≡ false
not-below n m same = elim (cases_Bool (nat_lt n m)) [
  | inl below ↦ absurd (omega (arith, ltb-true n m below, same))
  | inr past ↦ past
]

-- ---- who stands on a block

module _ {M : Type 0} where
  place-of : (place : Place (Option ℕ) M) (n : ℕ) → block_of place ≡ Some n
      → (offset : ℕ) × (info : BlockInfo M) × (place ≡ on_block (Some n) offset info)
  place-of nowhere n on = absurd (none-some n on)
  place-of static_data n on = absurd (none-some n on)
  place-of (on_block None offset info) n on = absurd (none-some n on)
  place-of (on_block (Some m) offset info) n on =
      (offset, info, ap (λ k. on_block (Some k) offset info) (same_Some m n on))

  stands-block : (one two : Place (Option ℕ) M) (m : ℕ) → block_of two ≡ Some m
      → StaysAs one two → block_of one ≡ Some m
  stands-block one nowhere m on stays = absurd (none-some m on)
  stands-block one static_data m on stays = absurd (none-some m on)
  stands-block nowhere (on_block b o i) m on stays = absurd stays
  stands-block static_data (on_block b o i) m on stays = absurd stays
  stands-block (on_block a p j) (on_block b o i) m on stays = stays.0 ∙ on

module _ {T M : Type 0} where
  stands-row : (n : ℕ) (x : Option (Row T M)) → stands_on n x ≡ true
      → (row : Row T M) × (x ≡ Some row) × (block_of row.place ≡ Some n)
  stands-row n None is = absurd (false≢true is)
  stands-row n (Some row) is = (row, refl, on-of n (block_of row.place) is)

  stands-of : (t : Table T M) (n : ℕ) → has_window t n ≡ true → (i : ℕ) × StandsOn t i n
  stands-of t n is =
      let s = some-passes (stands_on n) t.rows is in
      let r = stands-row n s.1 s.3 in (
        s.0,
        record {
          row = r.0;
          alive = ap option_flatten (s.2 ∙ ap Some r.1);
          stands = r.2;
        },
      )

  has-of : (t : Table T M) (i n : ℕ) → StandsOn t i n → has_window t n ≡ true
  has-of t i n s =
      lt-ltb 0 (owners t n) (passes-some (stands_on n) t.rows i (Some s.row)
      (there (slice_get t.rows i) s.row s.alive) (on-is n (block_of s.row.place) s.stands))

  says-stands : (t : Table T M) (n : ℕ) (info : BlockInfo M) → SaysOf t n info
      → (i : ℕ) × StandsOn t i n
  says-stands t n info s =
      (s.0, record { row = s.1; alive = s.3; stands = ap block_of s.4 })

  -- a window whose row stands on the block
  under-row : (n : ℕ) (x : Option (Row T M))
      → option_map_or (λ (row : Row T M). option_map_or (λ block. block == n)
      (block_of row.place) false) x false ≡ true
      → (was : Row T M) × (x ≡ Some was) × (block_of was.place ≡ Some n)
  under-row n None is = absurd (false≢true is)
  under-row n (Some row) is = (row, refl, on-of n (block_of row.place) is)

  under-of : (t : Table T M) (n : ℕ) (x : Option ℕ) → is_under t x n ≡ true
      → (w : ℕ) × (x ≡ Some w) × StandsOn t w n
  under-of t n None is = absurd (false≢true is)
  under-of t n (Some i) is =
      let u = under-row n (row_at t i) is in
      (i, refl, record { row = u.0; alive = u.1; stands = u.2 })

  under-is : (t : Table T M) (n w : ℕ) (x : Option ℕ) (was : Row T M) → x ≡ Some w
      → row_at t w ≡ Some was → block_of was.place ≡ Some n → is_under t x n ≡ true
  under-is t n w x was win at on =
      ap (λ y. is_under t y n) win
      ∙ ap (λ y. option_map_or (λ (row : Row T M). option_map_or (λ block. block == n)
      (block_of row.place) false) y false) at ∙ on-is n (block_of was.place) on

-- ---- a step

module _ {T M : Type 0} (setting : Setting T) (t : Table T M) (books : Books T)
    (lawful : IsLawful setting.drops t) (right : AreRight setting.drops t books)
    (c : ListCmd T M) (r : ListReply T M) (new : Table T M) (step : Step setting t c r new) where
  moves : Moves setting t c r new
  moves =
      subst (λ (o : ListReply T M × Table T M). Moves setting t c o.0 o.1) step.answered
      (answer-moves setting step.short step.places t lawful.fit c)

  abbrev After : Books T
  After = books_after setting t c r new books

  abbrev Put : List T
  Put = put_in setting c r

  -- what was put in then, by whether the block is an old one and the command's window stood there
  abbrev ItemsThen : ℕ → Bool → Bool → List T
  ItemsThen n old under =
      (if old then books n else nothing_yet).items ++ (if not old || under then Put else [])

  items-then : (n : ℕ) (old under : Bool) → nat_lt n t.blocks ≡ old
      → is_under t (window_of c) n ≡ under → (After n).items ≡ ItemsThen n old under
  items-then n old under is also =
      ap (λ b. ItemsThen n b (is_under t (window_of c) n)) is ∙ ap (ItemsThen n old) also

  -- ---- where rows come from

  -- a row of the table before says so of the block, as far as that is kept
  abbrev Before : ℕ → BlockInfo M → Type 0
  Before n info = (old : BlockInfo M) × SaysOf t n old × (info.sort ≡ old.sort)
      × (info.given ≡ old.given)

  stayed : (n offset : ℕ) (info : BlockInfo M) (w : ℕ) (was : Row T M) → row_at t w ≡ Some was
      → (place : Place (Option ℕ) M) → was.place ≡ place
      → StaysAs place (on_block (Some n) offset info) → Before n info
  stayed n offset info w was at nowhere is stays = absurd stays
  stayed n offset info w was at static_data is stays = absurd stays
  stayed n offset info w was at (on_block block o old) is stays = (
    old,
    (w, was, o, at, is ∙ ap (λ b. on_block b o old) stays.0),
    stays.1,
    stays.2,
  )

  before-of : (k : ℕ) (row : Row T M) (n offset : ℕ) (info : BlockInfo M)
      → row.place ≡ on_block (Some n) offset info → Whence setting t c r k row
      → Before n info ⊎ (n ≡ t.blocks)
  before-of k row n offset info is (was_there at quiet) =
      inl (info, (k, row, offset, at, is), refl, refl)
  before-of k row n offset info is (comes_of w was win at comes) =
      inl (stayed n offset info w was at was.place refl
      (subst (StaysAs was.place) is comes.stays))
  before-of k row n offset info is (begins_at begins) =
      inr (subst (IsAt t.blocks) is begins.stands)

  -- ---- the things of a block are in it as long as a window stands on it

  in-before : (n : ℕ) (info : BlockInfo M) → Before n info ⊎ (n ≡ t.blocks)
      → (if nat_lt n t.blocks then books n else nothing_yet).are ≡ in_block
  in-before n info (inl old) =
      let below = lawful.agree.numbered n old.0 old.1 in
      subst (λ b. (if b then books n else nothing_yet).are ≡ in_block)
      (sym (lt-ltb n t.blocks below))
      ((right.inside n below).1 (says-stands t n old.0 old.1))
  in-before n info (inr fresh) =
      subst (λ b. (if b then books n else nothing_yet).are ≡ in_block)
      (sym (not-below n t.blocks fresh)) refl

  in-now : (n i : ℕ) → StandsOn new i n → (After n).are ≡ in_block
  in-now n i s =
      let p = place-of s.row.place n s.stands in
      subst (λ b. where_then (is_some (given r)) b
      (if nat_lt n t.blocks then books n else nothing_yet).are ≡ in_block)
      (sym (has-of new i n s))
      (in-before n p.1 (before-of i s.row n p.0 p.1 p.2 (moves.rows i s.row s.alive)))

  -- ---- each row shows what the books say

  module _ (owned : setting.drops ≡ true) where
    -- where another row stands on the block, nothing is put in
    put-none : (n k : ℕ) (row : Row T M) → row_at t k ≡ Some row → block_of row.place ≡ Some n
        → (window_of c ≡ Some k → Put ≡ []) → is_under t (window_of c) n ≡ true → Put ≡ []
    put-none n k row at on quiet under =
        let u = under-of t n (window_of c) under in
        let w = u.0 in
        let s = u.2 in
        elim (moves.writes w s.row u.1 s.alive) [
          | inl none ↦ none
          | inr writes ↦ elim (cases_Bool (is_several s.row.role)) [
            | inl several ↦
                absurd (false≢true (sym ((lawful.fit w s.row s.alive).shared several).kept
                ∙ owned))
            | inr one ↦
                (let same : k ≡ w = lawful.agree.alone w k n s
                (writes-sole s.row.role writes one)
                (record { row = row; alive = at; stands = on }) in
                quiet (u.1 ∙ ap Some (sym same)))
          ]
        ]

    still-items : (n : ℕ) → n < t.blocks
        → (is_under t (window_of c) n ≡ true → Put ≡ []) → (After n).items ≡ (books n).items
    still-items n below none = elim (cases_Bool (is_under t (window_of c) n)) [
      | inl under ↦
          items-then n true true (lt-ltb n t.blocks below) under
          ∙ ap (λ ys. (books n).items ++ ys) (none under) ∙ append-nil (books n).items
      | inr apart ↦
          items-then n true false (lt-ltb n t.blocks below) apart ∙ append-nil (books n).items
    ]

    -- the items of the row of the command's window lie in its block
    lie-before : (w n o : ℕ) (old : BlockInfo M) (was : Row T M) → row_at t w ≡ Some was
        → was.place ≡ on_block (Some n) o old → Lies (books n).items was.items o
    lie-before w n o old was at is =
        let shows = right.shows owned w n o old was at is in
        let within = subst (λ p. LieWithin setting.drops (is_small was.role) p (length was.items))
        is (lawful.fit w was at).within in
        let many : full_end old ≡ length (books n).items =
        ap (λ x. option_map_or (λ f. f) x old.size) shows.full in
        sub-lies (books n).items was.items o (omega (arith, within.1, many)) shows.shown

    comes-shows : (k : ℕ) (row : Row T M) (n offset : ℕ) (info : BlockInfo M)
        → row.place ≡ on_block (Some n) offset info → (w : ℕ) (was : Row T M)
        → window_of c ≡ Some w → row_at t w ≡ Some was
        → Comes setting.drops was Put row → ShowsOf row offset info (After n).items
    comes-shows k row n offset info is w was win at comes =
        let old = stayed n offset info w was at was.place refl
        (subst (StaysAs was.place) is comes.stays) in
        let on : block_of was.place ≡ Some n =
        stands-block was.place row.place n (ap block_of is) comes.stays in
        let p = place-of was.place n on in
        let all = (books n).items in
        let before : LiesOn all was.items was.place =
        subst (LiesOn all was.items) (sym p.2) (
          (right.shows owned w n p.0 p.1 was at p.2).full,
          lie-before w n p.0 p.1 was at p.2,
        ) in
        let l = subst (LiesOn (all ++ Put) row.items) is (comes.lies owned all before) in
        let below = lawful.agree.numbered n old.0 old.1 in
        subst (ShowsOf row offset info)
        (sym (items-then n true true (lt-ltb n t.blocks below)
        (under-is t n w (window_of c) was win at on)))
        (record { full = l.0; shown = lies-sub (all ++ Put) row.items offset l.1 })

    row-shows : (k : ℕ) (row : Row T M) (n offset : ℕ) (info : BlockInfo M)
        → row.place ≡ on_block (Some n) offset info → Whence setting t c r k row
        → ShowsOf row offset info (After n).items
    row-shows k row n offset info is (was_there at quiet) =
        let below = lawful.agree.numbered n info (k, row, offset, at, is) in
        subst (ShowsOf row offset info)
        (sym (still-items n below (put-none n k row at (ap block_of is) quiet)))
        (right.shows owned k n offset info row at is)
    row-shows k row n offset info is (comes_of w was win at comes) =
        comes-shows k row n offset info is w was win at comes
    row-shows k row n offset info is (begins_at begins) =
        let fresh : n ≡ t.blocks = subst (IsAt t.blocks) is begins.stands in
        let l = subst (LiesOn Put row.items) is (begins.lies owned) in
        subst (ShowsOf row offset info)
        (sym (items-then n false _ (not-below n t.blocks fresh) refl))
        (record { full = l.0; shown = lies-sub Put row.items offset l.1 })

  stay-right : AreRight setting.drops new After
  stay-right = record {
    inside = λ n made. (
      λ is. stands-of new n (then-stands (is_some (given r)) (has_window new n) _ is),
      λ s. in-now n s.0 s.1,
    );
    shows = λ owned i n offset info row at is.
        row-shows owned i row n offset info is (moves.rows i row at);
  }

  -- ---- what the step does

  stays : (n j : ℕ) → StandsOn t j n → ¬ (window_of c ≡ Some j) → (k : ℕ) × StandsOn new k n
  stays n j s apart = elim (is-or-not (other_of c) j) [
    | inl other ↦ moves.other j n other s
    | inr neither ↦
        (let at = step-stays setting t c r new step j
        (λ on. elim on [ inl one ↦ apart one | inr two ↦ neither two ]) (Some s.row)
        (there (slice_get t.rows j) s.row s.alive) in
        (j, record { row = s.row; alive = ap option_flatten at; stands = s.stands }))
  ]

  owner : (n j : ℕ) → StandsOn t j n → ¬ ((After n).are ≡ in_block) → window_of c ≡ Some j
  owner n j s left = elim (is-or-not (window_of c) j) [
    | inl own ↦ own
    | inr apart ↦ (let k = stays n j s apart in absurd (left (in-now n k.0 k.1)))
  ]

  same-kept : (n : ℕ) (one other : BlockInfo M) → SaysOf t n one → SaysOf new n other
      → (other.sort ≡ one.sort) × (other.given ≡ one.given)
  same-kept n one other a b =
      elim (before-of b.0 b.1 n b.2 other b.4 (moves.rows b.0 b.1 b.3)) [
        | inl old ↦
            (let is : old.0 ≡ one = sym (lawful.agree.same n one old.0 a old.1) in (
              old.2 ∙ ap (λ (i : BlockInfo M). i.sort) is,
              old.3 ∙ ap (λ (i : BlockInfo M). i.given) is,
            ))
        | inr fresh ↦ absurd (omega (arith, fresh, lawful.agree.numbered n one a))
      ]

  gone-kept : (n : ℕ) → n < t.blocks → ¬ ((books n).are ≡ in_block) → After n ≡ books n
  gone-kept n below gone =
      let apart : is_under t (window_of c) n ≡ false =
      elim (cases_Bool (is_under t (window_of c) n)) [
        | inl under ↦
            (let u = under-of t n (window_of c) under in
            absurd (gone ((right.inside n below).1 (u.0, u.2))))
        | inr none ↦ none
      ] in
      let lt = lt-ltb n t.blocks below in
      holding-is (books n) (After n).items (After n).are
      (items-then n true false lt apart ∙ append-nil (books n).items)
      (ap (λ b. where_then (is_some (given r)) (has_window new n)
      (if b then books n else nothing_yet).are) lt
      ∙ then-gone (is_some (given r)) (has_window new n) (books n).are gone)

  -- ---- what a reply hands out

  module _ (items : List T) (out : given r ≡ Some items) (h : Hands setting t c r new items) where
    module _ (n offset : ℕ) (info : BlockInfo M)
        (is : h.row.place ≡ on_block (Some n) offset info)
        (whole : setting.drops ≡ true → (offset ≡ 0) × (info.full ≡ Some (length h.row.items)))
      where
        abbrev here : StandsOn t h.window n
        here = record { row = h.row; alive = h.alive; stands = ap block_of is }

        lone : (k : ℕ) → StandsOn t k n → k ≡ h.window
        lone k s = elim (either-true (is_sole h.row.role)
            (is_free (is_alone t h.row.place) h.row.place) h.only) [
              | inl sole ↦ lawful.agree.alone h.window k n here sole s
              | inr free ↦
                  one-only (stands_on n) t.rows h.window k (Some h.row) (Some s.row)
                  (eqb-true (owners t n) 1
                  (subst (λ p. is_free (is_alone t p) p ≡ true) is free))
                  (there (slice_get t.rows h.window) h.row h.alive)
                  (on-is n (block_of h.row.place) (ap block_of is))
                  (there (slice_get t.rows k) s.row s.alive)
                  (on-is n (block_of s.row.place) s.stands)
            ]

        none-left : has_window new n ≡ false
        none-left = elim (cases_Bool (has_window new n)) [
          | inl some ↦
              (let s = stands-of new n some in
              let old = h.rest s.0 s.1.row s.1.alive in
              absurd (old.0 (sym (lone s.0 (record {
                row = s.1.row;
                alive = old.1;
                stands = s.1.stands;
              })))))
          | inr none ↦ none
        ]

        was-out : WasHandedOut setting.drops books After n items
        was-out =
            let below = lawful.agree.numbered n info (h.window, h.row, offset, h.alive, is) in
            let was = (right.inside n below).1 (h.window, here) in record {
              was = was;
              now = ap (λ x. where_then (is_some x) (has_window new n)
                  (if nat_lt n t.blocks then books n else nothing_yet).are) out
                  ∙ ap (λ b. where_then true b
                  (if nat_lt n t.blocks then books n else nothing_yet).are) none-left
                  ∙ ap (λ b. where_then true false (if b then books n else nothing_yet).are)
                  (lt-ltb n t.blocks below) ∙ ap (where_then true false) was;
              all = λ owned.
                  let shows = right.shows owned h.window n offset info h.row h.alive is in
                  let w = whole owned in
                  lies-whole (books n).items h.row.items offset w.0
                  (same_Some (length (books n).items) (length h.row.items)
                  (sym shows.full ∙ w.1)) (lie-before owned h.window n offset info h.row h.alive is)
                  ∙ h.all;
            }

    hand-at : (place : Place (Option ℕ) M) → h.row.place ≡ place
        → IsWholeAt setting.drops r place (length h.row.items)
        → HandsOut setting.drops t c r books After items
    hand-at nowhere is whole = absurd whole
    hand-at static_data is whole = absurd whole
    hand-at (on_block block offset info) is whole = record {
      window = h.window;
      row = h.row;
      block = block;
      offset = offset;
      info = info;
      on = h.on;
      alive = h.alive;
      stood = is;
      keeps = whole.0;
      out = λ n same.
          was-out n offset info (is ∙ ap (λ b. on_block b offset info) same) whole.1;
    }

  each-once : EachOnce setting t c r new books After
  each-once = record {
    same = same-kept;
    last = λ n below was left.
        let first = (right.inside n below).0 was in
        let own = owner n first.0 first.1 left in (
          first.0,
          own,
          record {
            stands = first.1;
            only = λ j s. same_Some j first.0 (sym (owner n j s left) ∙ own);
          },
        );
    once = gone-kept;
    hands = λ items out.
        let h = moves.hands items out in hand-at items out h h.row.place refl h.whole;
  }

-- ---- steps and runs

pub step_right : {T M : Type 0} (setting : Setting T) (old : Table T M) (c : ListCmd T M)
    (r : ListReply T M) (new : Table T M) (books : Books T) → Step setting old c r new
    → IsLawful setting.drops old → AreRight setting.drops old books
    → let after = books_after setting old c r new books in
    AreRight setting.drops new after × EachOnce setting old c r new books after
step_right setting old c r new books step lawful right = (
  stay-right setting old books lawful right c r new step,
  each-once setting old books lawful right c r new step,
)

pub empty_right : {T M : Type 0} (drops : Bool) (books : Books T)
    → AreRight {M = M} drops empty_table books
empty_right drops books = record {
  inside = λ n made. absurd (omega (arith, made));
  shows = λ owned i n offset info row at is. absurd (none-some row at);
}

-- a run has books
pub run_booked : {T M : Type 0} (setting : Setting T) (old : Table T M) (cs : List (ListCmd T M))
    (rs : List (ListReply T M)) (new : Table T M) (books : Books T) → Run setting old cs rs new
    → (after : Books T) × RunOf (Booked setting) (old, books) cs rs (new, after)
run_booked setting old [] [] new books run = (books, ap (λ t. (t, books)) run)
run_booked setting old (c ∷ cs) (r ∷ rs) new books run =
    let mid = books_after setting old c r run.0 books in
    let more = run_booked setting run.0 cs rs new mid run.2 in
    (more.0, ((run.0, mid), (run.1, refl), more.1))
run_booked setting old [] (r ∷ rs) new books run = absurd run
run_booked setting old (c ∷ cs) [] new books run = absurd run

pub run_right : {T M : Type 0} (setting : Setting T) (old : Table T M × Books T)
    (cs : List (ListCmd T M)) (rs : List (ListReply T M)) (new : Table T M × Books T)
    → RunOf (Booked setting) old cs rs new → IsLawful setting.drops old.0
    → AreRight setting.drops old.0 old.1 → StayRight setting.drops old new
run_right setting old [] [] new run lawful right =
    subst (StayRight setting.drops old) (sym run)
    (record { right = right; once = λ n below gone. refl })
run_right setting old (c ∷ cs) (r ∷ rs) new run lawful right =
    let mid = run.0 in
    let one = step_right setting old.0 c r mid.0 old.1 run.1.0 lawful right in
    let is = run.1.1 in
    let rest = run_right setting mid cs rs new run.2
    (step_lawful setting old.0 c r mid.0 run.1.0 lawful)
    (subst (AreRight setting.drops mid.0) (sym is) one.0) in
    record {
      right = rest.right;
      once = λ n below gone.
          let same : mid.1 n ≡ old.1 n = ap (λ f. f n) is ∙ one.1.once n below gone in
          let more = (moves setting old.0 old.1 lawful right c r mid.0 run.1.0).more in
          rest.once n (omega (arith, below, more))
          (λ still. gone (ap (λ h. h.are) (sym same) ∙ still)) ∙ same;
    }
run_right setting old [] (r ∷ rs) new run lawful right = absurd run
run_right setting old (c ∷ cs) [] new run lawful right = absurd run
