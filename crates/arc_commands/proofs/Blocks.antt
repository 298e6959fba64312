-- Rows that stand on one block agree about it, and each step keeps that.
use Rattle.std.proofs.Common.{inl, inr, ◌≡◌, ◌⊎◌, ℕ, ◌+◌, ◌<◌, ◌≤◌, Bool, true, false}
use Rattle.std.proofs.Common.{if◌then◌else◌, List, length, is_some, [], ◌∷◌, ◌++◌, Option, Some}
use Rattle.std.proofs.Common.{None, slice_get, slice_set, refl, sym, ap, ◌∙◌, subst, arith}
use Rattle.std.specs.Option.{option_flatten}
use Rattle.std.proofs.lemmas.Option.{none-some, same_Some}
use Rattle.std.proofs.lemmas.Bool.{false≢true, and_parts}
use Rattle.arc_block.specs.Block.{BlockInfo}
use Rattle.arc_block.specs.Place.{Place, nowhere, static_data, on_block}
use Rattle.arc_block.specs.Table.{Row, Table, Role, StandsOn, row_at, block_of}
use Rattle.arc_block.specs.Table.{is_alone}
use Rattle.arc_parts.specs.Writers.{as_sole, sole_at}
use Rattle.arc_block.proofs.Alone.{is_alone-means}
use Rattle.arc_parts.specs.Shared.{joined_row}
use Rattle.arc_block.proofs.Lists.{get-set, get-set_other, push-cases, set-cases}
use Rattle.arc_commands.specs.Blocks.{SaysOf, RowsAgree, is_sole}
use Rattle.arc_commands.specs.Changes.{Setting, Shortage, no_shortage, may_write, may_write_at}
use Rattle.arc_commands.specs.Changes.{may_write_sort}
use Rattle.arc_commands.specs.Step.{Step, Run, answer}
use Rattle.arc_commands.specs.Step.{around_of, founded, with_block, count_brought}
use Rattle.arc_commands.proofs.Lists.{there}
use Rattle.arc_commands.specs.Commands.{ListCmd, ListReply}
use Rattle.arc_commands.proofs.Answers.{answer_each}
use Rattle.arc_commands.proofs.Outcomes.{IsLone}
use Rattle.arc_commands.proofs.Parts.{StaysOn, IsPart, sole-with}

not-writing : (b : Bool) → (b ≡ true → ⊥) → b ≡ false
not-writing true none = absurd (none refl)
not-writing false none = refl

-- what a place says of its block
abbrev info_at : {M : Type 0} → Place (Option ℕ) M → Option (BlockInfo M)
info_at nowhere = None
info_at static_data = None
info_at (on_block block offset info) = Some info

module _ {T M : Type 0} where
  -- this holds of the place of each row
  abbrev Each : (Place (Option ℕ) M → Type 0) → List (Option (Row T M)) → Type 0
  Each P rows = (i : ℕ) (row : Row T M) → slice_get rows i ≡ Some (Some row) → P row.place

  -- and of a row, if it is one
  abbrev OfRow : (Place (Option ℕ) M → Type 0) → Option (Row T M) → Type 0
  OfRow P None = Unit {0}
  OfRow P (Some row) = P row.place

  of-row : (P : Place (Option ℕ) M → Type 0) (x : Option (Row T M)) (row : Row T M) → x ≡ Some row
      → OfRow P x → P row.place
  of-row P x row is p = subst (OfRow P) is p

  each-push : (P : Place (Option ℕ) M → Type 0) (rows : List (Option (Row T M)))
      (x : Option (Row T M))
      → Each P rows → OfRow P x → Each P (rows ++ x ∷ [])
  each-push P rows x each new i row at = elim (push-cases rows i (Some row) x at) [
    | inl old ↦ each i row old
    | inr last ↦ of-row P x row last.1 new
  ]

  each-set : (P : Place (Option ℕ) M → Type 0) (rows : List (Option (Row T M))) (i : ℕ)
      (x : Option (Row T M)) → Each P rows → OfRow P x → Each P (slice_set rows i x)
  each-set P rows i x each new j row at = elim (set-cases rows i j (Some row) x at) [
    | inl old ↦ each j row old.1
    | inr set ↦ of-row P x row set.1 new
  ]

  -- a row on a block, and a row that stands on it as a sole writer's
  abbrev pub OnBlock : ℕ → Row T M → Type 0
  OnBlock block row = block_of row.place ≡ Some block

  abbrev Writes : Row T M → Type 0
  Writes row = is_sole row.role ≡ true

  -- no row stands where a sole writer's does
  abbrev Alone : List (Option (Row T M)) → Type 0
  Alone rows = (i j block : ℕ) (one other : Row T M) → slice_get rows i ≡ Some (Some one)
      → slice_get rows j ≡ Some (Some other) → Writes one → OnBlock block one
      → OnBlock block other → j ≡ i

  -- a row, and others on its block, of which none is a sole writer's
  abbrev Joins : List (Option (Row T M)) → Row T M → Type 0
  Joins rows new = (j block : ℕ) (other : Row T M) → slice_get rows j ≡ Some (Some other)
      → OnBlock block new → OnBlock block other
      → (is_sole new.role ≡ false) × (is_sole other.role ≡ false)

  reads-not : (row : Row T M) → Writes row → is_sole row.role ≡ false → ⊥
  reads-not row writes reads = false≢true (sym reads ∙ writes)

  same-row : (x y : Row T M) → Some x ≡ Some y → x ≡ y
  same-row x y is = same_Some x y is

  alone-push : (rows : List (Option (Row T M))) (new : Row T M) → Alone rows → Joins rows new
      → Alone (rows ++ Some new ∷ [])
  alone-push rows new alone joins i j block one other at second writes on beside =
      elim (push-cases rows i (Some one) (Some new) at) [
        | inl old ↦ elim (push-cases rows j (Some other) (Some new) second) [
          | inl also ↦ alone i j block one other old also writes on beside
          | inr last ↦
              absurd (reads-not one writes (joins i block one old
              (subst (OnBlock block) (sym (same-row new other last.1)) beside) on).1)
        ]
        | inr end ↦ elim (push-cases rows j (Some other) (Some new) second) [
          | inl also ↦
              absurd (reads-not one writes (subst (λ (r : Row T M). is_sole r.role ≡ false)
              (same-row new one end.1) (joins j block other also
              (subst (OnBlock block) (sym (same-row new one end.1)) on) beside).0))
          | inr last ↦ last.0 ∙ sym end.0
        ]
      ]

  -- the row with this number stands where what comes in its place does, and writes where that does
  record Stood (rows : List (Option (Row T M))) (k : ℕ) (new : Row T M) : Type 0 where
    row : Row T M
    there : slice_get rows k ≡ Some (Some row)
    on : (block : ℕ) → OnBlock block new → OnBlock block row
    writes : Writes new → Writes row

  stood-set : (rows : List (Option (Row T M))) (k : ℕ) (x : Option (Row T M))
      → ((new : Row T M) → x ≡ Some new → Stood rows k new) → (j : ℕ) (other : Row T M)
      → slice_get (slice_set rows k x) j ≡ Some (Some other) → Stood rows j other
  stood-set rows k x stood j other at = elim (set-cases rows k j (Some other) x at) [
    | inl old ↦ record {
      row = other;
      there = old.1;
      on = λ block on. on;
      writes = λ writes. writes;
    }
    | inr set ↦ subst (λ n. Stood rows n other) set.0 (stood other set.1)
  ]

  alone-set : (rows : List (Option (Row T M))) (k : ℕ) (x : Option (Row T M)) → Alone rows
      → ((new : Row T M) → x ≡ Some new → Stood rows k new) → Alone (slice_set rows k x)
  alone-set rows k x alone stood i j block one other at second writes on beside =
      let a = stood-set rows k x stood i one at in
      let b = stood-set rows k x stood j other second in
      alone i j block a.row b.row a.there b.there (a.writes writes) (a.on block on)
      (b.on block beside)

  -- a row that no other stands beside becomes one that may write, and stands where it stood
  alone-writes : (rows : List (Option (Row T M))) (k : ℕ) (row new : Row T M) → Alone rows
      → slice_get rows k ≡ Some (Some row)
      → ((block : ℕ) → OnBlock block new → OnBlock block row)
      → ((j block : ℕ) (other : Row T M) → slice_get rows j ≡ Some (Some other)
      → OnBlock block row → OnBlock block other → j ≡ k)
      → Alone (slice_set rows k (Some new))
  alone-writes rows k row new alone here stays only i j block one other at second writes on beside =
      elim (set-cases rows k i (Some one) (Some new) at) [
        | inl old ↦ elim (set-cases rows k j (Some other) (Some new) second) [
          | inl also ↦ alone i j block one other old.1 also.1 writes on beside
          | inr set ↦
              let was = stays block (subst (OnBlock block) (sym (same-row new other set.1)) beside)
              in
              sym set.0 ∙ alone i k block one row old.1 here writes on was
        ]
        | inr end ↦
            let was = stays block (subst (OnBlock block) (sym (same-row new one end.1)) on) in
            elim (set-cases rows k j (Some other) (Some new) second) [
              | inl also ↦ only j block other also.1 was beside ∙ end.0
              | inr set ↦ sym set.0 ∙ end.0
            ]
      ]

  -- a row that stands on no block on which another does comes in the place of one
  alone-fresh : (rows : List (Option (Row T M))) (k : ℕ) (new : Row T M) → Alone rows
      → ((j block : ℕ) (other : Row T M) → slice_get rows j ≡ Some (Some other)
      → OnBlock block new → OnBlock block other → ⊥)
      → Alone (slice_set rows k (Some new))
  alone-fresh rows k new alone none i j block one other at second writes on beside =
      elim (set-cases rows k i (Some one) (Some new) at) [
        | inl old ↦ elim (set-cases rows k j (Some other) (Some new) second) [
          | inl also ↦ alone i j block one other old.1 also.1 writes on beside
          | inr set ↦
              absurd (none i block one old.1
              (subst (OnBlock block) (sym (same-row new other set.1)) beside) on)
        ]
        | inr end ↦ elim (set-cases rows k j (Some other) (Some new) second) [
          | inl also ↦
              absurd (none j block other also.1
              (subst (OnBlock block) (sym (same-row new one end.1)) on) beside)
          | inr set ↦ sym set.0 ∙ end.0
        ]
      ]

  module _ (t : Table T M) where
    -- what a row says of the block on which it stands, a row of t says too
    abbrev IsSaidOf : Option ℕ → BlockInfo M → Type 0
    IsSaidOf None info = Unit {0}
    IsSaidOf (Some block) info = SaysOf t block info

    abbrev IsSaid : Place (Option ℕ) M → Type 0
    IsSaid nowhere = Unit {0}
    IsSaid static_data = Unit {0}
    IsSaid (on_block block offset info) = IsSaidOf block info

    -- or it stands on the next block, of which it says this
    abbrev IsSaidOrNew : BlockInfo M → Place (Option ℕ) M → Type 0
    IsSaidOrNew made nowhere = Unit {0}
    IsSaidOrNew made static_data = Unit {0}
    IsSaidOrNew made (on_block None offset info) = Unit {0}
    IsSaidOrNew made (on_block (Some block) offset info) =
        SaysOf t block info ⊎ ((block ≡ t.blocks) × (info ≡ made))

    said-there : (i : ℕ) (row : Row T M) → row_at t i ≡ Some row → (place : Place (Option ℕ) M)
        → row.place ≡ place → IsSaid place
    said-there i row at nowhere is = tt
    said-there i row at static_data is = tt
    said-there i row at (on_block None offset info) is = tt
    said-there i row at (on_block (Some block) offset info) is = (i, row, offset, at, is)

    said-each : Each IsSaid t.rows
    said-each i row at = said-there i row (ap option_flatten at) row.place refl

    said-stays : (whole part : Place (Option ℕ) M) → StaysOn whole part → IsSaid whole → IsSaid part
    said-stays whole nowhere stays said = tt
    said-stays whole static_data stays said = tt
    said-stays nowhere (on_block block offset info) stays said = absurd stays
    said-stays static_data (on_block block offset info) stays said = absurd stays
    said-stays (on_block one here old) (on_block block offset info) stays said =
        subst (λ i. IsSaidOf block i) stays.1 (subst (λ n. IsSaidOf n old) stays.0 said)

    said-part : (i : ℕ) (row part : Row T M) → row_at t i ≡ Some row
        → StaysOn row.place part.place → IsSaid part.place
    said-part i row part at stays =
        said-stays row.place part.place stays (said-there i row at row.place refl)

    said-new : (made : BlockInfo M) (place : Place (Option ℕ) M) → IsSaid place
        → IsSaidOrNew made place
    said-new made nowhere said = tt
    said-new made static_data said = tt
    said-new made (on_block None offset info) said = tt
    said-new made (on_block (Some block) offset info) said = inl said

    module _ (agree : RowsAgree t) where
      alone-of : (new : Table T M) → Alone new.rows → (i j block : ℕ) (s : StandsOn new i block)
          → is_sole s.row.role ≡ true → StandsOn new j block → j ≡ i
      alone-of new alone i j block s sole other =
          alone i j block s.row other.row (there (slice_get new.rows i) s.row s.alive)
          (there (slice_get new.rows j) other.row other.alive) sole s.stands other.stands

      abbrev stands-at : (i block : ℕ) (row : Row T M) → slice_get t.rows i ≡ Some (Some row)
          → OnBlock block row → StandsOn t i block
      stands-at i block row at on = record {
        row = row;
        alive = ap option_flatten at;
        stands = on;
      }

      alone-now : Alone t.rows
      alone-now i j block one other at also writes on beside =
          agree.alone i j block (stands-at i block one at on) writes
          (stands-at j block other also beside)

      agree-after : (new : Table T M) → Each IsSaid new.rows → new.blocks ≡ t.blocks
          → Alone new.rows → RowsAgree new
      agree-after new each many alone =
          let said = λ (block : ℕ) (info : BlockInfo M) (says : SaysOf new block info).
          subst IsSaid says.4
          (each says.0 says.1 (there (slice_get new.rows says.0) says.1 says.3)) in
          record {
            same = λ block one other a b.
                agree.same block one other (said block one a) (said block other b);
            numbered = λ block info says.
                subst (λ n. block < n) (sym many)
                (agree.numbered block info (said block info says));
            alone = alone-of new alone;
          }

      one-info : (made : BlockInfo M) (block : ℕ) (one other : BlockInfo M)
          → SaysOf t block one ⊎ ((block ≡ t.blocks) × (one ≡ made))
          → SaysOf t block other ⊎ ((block ≡ t.blocks) × (other ≡ made)) → one ≡ other
      one-info made block one other (inl a) (inl b) = agree.same block one other a b
      one-info made block one other (inl a) (inr b) =
          absurd (omega (arith, agree.numbered block one a, b.0))
      one-info made block one other (inr a) (inl b) =
          absurd (omega (arith, agree.numbered block other b, a.0))
      one-info made block one other (inr a) (inr b) = a.1 ∙ sym b.1

      within : (made : BlockInfo M) (block : ℕ) (info : BlockInfo M)
          → SaysOf t block info ⊎ ((block ≡ t.blocks) × (info ≡ made)) → block < t.blocks + 1
      within made block info (inl a) = omega (arith, agree.numbered block info a)
      within made block info (inr a) = omega (arith, a.0)

      agree-made : (made : BlockInfo M) (new : Table T M) → Each (IsSaidOrNew made) new.rows
          → new.blocks ≡ t.blocks + 1 → Alone new.rows → RowsAgree new
      agree-made made new each many alone =
          let said = λ (block : ℕ) (info : BlockInfo M) (says : SaysOf new block info).
          subst (IsSaidOrNew made) says.4
          (each says.0 says.1 (there (slice_get new.rows says.0) says.1 says.3)) in
          record {
            same = λ block one other a b.
                one-info made block one other (said block one a) (said block other b);
            numbered = λ block info says.
                subst (λ n. block < n) (sym many) (within made block info (said block info says));
            alone = alone-of new alone;
          }

      -- a block on which a place stands is that of the whole
      on-whole : (whole part : Place (Option ℕ) M) → StaysOn whole part → (block : ℕ)
          → block_of part ≡ Some block → block_of whole ≡ Some block
      on-whole whole nowhere stays block on = absurd (none-some block on)
      on-whole whole static_data stays block on = absurd (none-some block on)
      on-whole nowhere (on_block n offset info) stays block on = absurd stays
      on-whole static_data (on_block n offset info) stays block on = absurd stays
      on-whole (on_block one here old) (on_block n offset info) stays block on =
          stays.0 ∙ on

      stood : (i : ℕ) (row part : Row T M) → row_at t i ≡ Some row → IsPart row part
          → Stood t.rows i part
      stood i row part at is = record {
        row = row;
        there = there (slice_get t.rows i) row at;
        on = λ block on. on-whole row.place part.place is.0 block on;
        writes = λ writes. sym is.1 ∙ writes;
      }

      -- beside a row that isn't a sole writer's no sole writer stands
      joins : (i : ℕ) (row part : Row T M) → row_at t i ≡ Some row → is_sole row.role ≡ false
          → IsPart row part → (rows : List (Option (Row T M)))
          → ((j : ℕ) (other : Row T M) → slice_get rows j ≡ Some (Some other)
          → Stood t.rows j other) → Joins rows part
      joins i row part at shares is rows each j block other here on beside =
          let b = each j other here in
          let whole = on-whole row.place part.place is.0 block on in
          let row-here = there (slice_get t.rows i) row at in (
            is.1 ∙ shares,
            not-writing (is_sole other.role) (λ writes.
                let same =
                alone-now j i block b.row row b.there row-here (b.writes writes)
                (b.on block beside) whole in
                let one : row ≡ b.row =
                same_Some row b.row (same_Some (Some row) (Some b.row)
                (sym row-here ∙ ap (slice_get t.rows) same ∙ b.there)) in
                false≢true (sym shares ∙ ap (λ (r : Row T M). is_sole r.role) one
                ∙ b.writes writes)),
          )

      one-part : (i : ℕ) (row part : Row T M) → row_at t i ≡ Some row → IsPart row part
          → (new : Row T M) → Some part ≡ Some new → Stood t.rows i new
      one-part i row part at is new same =
          subst (Stood t.rows i) (same-row part new same) (stood i row part at is)

      becomes : (i : ℕ) (row part : Row T M) → row_at t i ≡ Some row → IsPart row part
          → RowsAgree (record { rows = slice_set t.rows i (Some part); blocks = t.blocks })
      becomes i row part at is =
          agree-after (record { rows = slice_set t.rows i (Some part); blocks = t.blocks })
          (each-set IsSaid t.rows i (Some part) said-each (said-part i row part at is.0)) refl
          (alone-set t.rows i (Some part) alone-now (one-part i row part at is))

      -- a row that is made a writer's stands where it stood, or on nothing
      sole-said : (drops : Bool) (items : List T) (place : Place (Option ℕ) M) → IsSaid place
          → IsSaid (sole_at drops items place).place
      sole-said drops items nowhere said = tt
      sole-said drops items static_data said = tt
      sole-said drops items (on_block block offset info) said = said

      sole-on : (drops : Bool) (items : List T) (place : Place (Option ℕ) M) (block : ℕ)
          → block_of (sole_at drops items place).place ≡ Some block → block_of place ≡ Some block
      sole-on drops items nowhere block on = on
      sole-on drops items static_data block on = on
      sole-on drops items (on_block n offset info) block on = on

      -- a row that may be written is alone, where it stands on a block
      alone-there : (has_any alone : Bool) (place : Place (Option ℕ) M) (len : ℕ)
          → is_some (block_of place) ≡ true → may_write_at has_any alone place len ≡ true
          → alone ≡ true
      alone-there has_any alone nowhere len on may = absurd (false≢true on)
      alone-there has_any alone static_data len on may = absurd (false≢true on)
      alone-there has_any alone (on_block block offset info) len on may =
          (and_parts (may_write_sort has_any info.sort) alone may).1

      -- beside a row that is alone no other stands
      only-alone : (i : ℕ) (row : Row T M) → row_at t i ≡ Some row → is_alone t row.place ≡ true
          → (j block : ℕ) (other : Row T M) → slice_get t.rows j ≡ Some (Some other)
          → OnBlock block row → OnBlock block other → j ≡ i
      only-alone i row at alone j block other here on beside =
          let a = (is_alone-means t i row at).0 alone in
          let same : row ≡ a.owner.row =
          same_Some row a.owner.row (sym at ∙ a.owner.alive) in
          let one : block ≡ a.block =
          same_Some block a.block
          (sym on ∙ ap (λ (r : Row T M). block_of r.place) same ∙ a.owner.stands) in
          a.only j (stands-at j a.block other here (beside ∙ ap Some one))

      pub only-lone : (i : ℕ) (row : Row T M) → row_at t i ≡ Some row
          → IsLone (is_alone t row.place) row
          → (j block : ℕ) (other : Row T M) → slice_get t.rows j ≡ Some (Some other)
          → OnBlock block row → OnBlock block other → j ≡ i
      only-lone i row at (inl sole) j block other here on beside =
          alone-now i j block row other (there (slice_get t.rows i) row at) here sole on beside
      only-lone i row at (inr alone) j block other here on beside =
          only-alone i row at alone j block other here on beside

      pub only-here : (setting : Setting T) (places i : ℕ) (row : Row T M) → row_at t i ≡ Some row
          → may_write setting (around_of places t row) row ≡ true
          → (j block : ℕ) (other : Row T M) → slice_get t.rows j ≡ Some (Some other)
          → OnBlock block row → OnBlock block other → j ≡ i
      only-here setting places i row at may j block other here on beside =
          only-alone i row at (alone-there setting.writes_any (is_alone t row.place) row.place
          (length row.items) (ap is_some on) may) j block other here on beside

      writes : (setting : Setting T) (places i : ℕ) (row : Row T M) → row_at t i ≡ Some row
          → may_write setting (around_of places t row) row ≡ true → RowsAgree
          (record {
            rows = slice_set t.rows i (Some (as_sole setting.drops row));
            blocks =
                t.blocks;
          })
      writes setting places i row at may =
          let new = as_sole setting.drops row in
          agree-after (record { rows = slice_set t.rows i (Some new); blocks = t.blocks })
          (each-set IsSaid t.rows i (Some new) said-each
          (sole-said setting.drops row.items row.place (said-there i row at row.place refl))) refl
          (alone-writes t.rows i row new alone-now (there (slice_get t.rows i) row at)
          (sole-on setting.drops row.items row.place) (only-here setting places i row at may))

      within-blocks : (j block : ℕ) (other : Row T M) → slice_get t.rows j ≡ Some (Some other)
          → (place : Place (Option ℕ) M) → other.place ≡ place → block_of place ≡ Some block
          → block < t.blocks
      within-blocks j block other at nowhere is on = absurd (none-some block on)
      within-blocks j block other at static_data is on = absurd (none-some block on)
      within-blocks j block other at (on_block None offset info) is on =
          absurd (none-some block on)
      within-blocks j block other at (on_block (Some n) offset info) is on =
          subst (λ m. m < t.blocks) (same_Some n block on)
          (agree.numbered n info (j, other, offset, ap option_flatten at, is))

      known : (j block : ℕ) (other : Row T M) → slice_get t.rows j ≡ Some (Some other)
          → OnBlock block other → block < t.blocks
      known j block other at on = within-blocks j block other at other.place refl on

      -- Of a row another one on its block, on which no other stands, so that it may say another
      -- thing of it.
      module _ (i : ℕ) (row new : Row T M) (at : row_at t i ≡ Some row)
          (lone : IsLone (is_alone t row.place) row) (put : block_of new.place ≡ block_of row.place)
        where
          abbrev refitted : Table T M
          refitted = record { rows = slice_set t.rows i (Some new); blocks = t.blocks }

          -- a row says what it said, and isn't this one, or it is this one
          abbrev Says : ℕ → BlockInfo M → Type 0
          Says block info =
              ((j : ℕ) × (other : Row T M) × (offset : ℕ) × ¬ (i ≡ j)
              × (slice_get t.rows j ≡ Some (Some other)) × (other.place ≡ on_block
              (Some block) offset info))
              ⊎ ((offset : ℕ) × (new.place ≡ on_block (Some block) offset info))

          says : (block : ℕ) (info : BlockInfo M) → SaysOf refitted block info → Says block info
          says block info (j, other, offset, here, is) =
              elim (set-cases t.rows i j (Some other) (Some new)
              (there (slice_get refitted.rows j) other here)) [
                | inl old ↦ inl (j, other, offset, old.0, old.1, is)
                | inr set ↦
                    inr (offset, ap (λ (r : Row T M). r.place) (same-row new other set.1) ∙ is)
              ]

          row-here : slice_get t.rows i ≡ Some (Some row)
          row-here = there (slice_get t.rows i) row at

          -- beside it no other row stands
          beside-none : (j block offset : ℕ) (other : Row T M) (one info : BlockInfo M) → ¬ (i ≡ j)
              → slice_get t.rows j ≡ Some (Some other) → other.place ≡ on_block
              (Some block) offset one
              → (o : ℕ) → new.place ≡ on_block (Some block) o info → ⊥
          beside-none j block offset other one info apart here is o there-too =
              let on : OnBlock block row = sym put ∙ ap block_of there-too in
              apart (sym (only-lone i row at lone j block other here on (ap block_of is)))

          one-says : (block : ℕ) (one other : BlockInfo M) → Says block one → Says block other
              → one ≡ other
          one-says block one other (inl a) (inl b) =
              agree.same block one other
              (a.0, a.1, a.2, ap option_flatten a.4, a.5)
              (b.0, b.1, b.2, ap option_flatten b.4, b.5)
          one-says block one other (inl a) (inr b) =
              absurd (beside-none a.0 block a.2 a.1 one other a.3 a.4 a.5 b.0 b.1)
          one-says block one other (inr a) (inl b) =
              absurd (beside-none b.0 block b.2 b.1 other one b.3 b.4 b.5 a.0 a.1)
          one-says block one other (inr a) (inr b) =
              same_Some one other (sym (ap info_at a.1) ∙ ap info_at b.1)

          block-known : (block : ℕ) (info : BlockInfo M) → Says block info → block < t.blocks
          block-known block info (inl a) =
              agree.numbered block info (a.0, a.1, a.2, ap option_flatten a.4, a.5)
          block-known block info (inr a) =
              known i block row row-here (sym put ∙ ap block_of a.1)

          refits : RowsAgree refitted
          refits = record {
            same = λ block one other a b.
                one-says block one other (says block one a) (says block other b);
            numbered = λ block info a. block-known block info (says block info a);
            alone =
                alone-of refitted (alone-writes t.rows i row new alone-now row-here
                (λ block on. sym put ∙ on) (only-lone i row at lone));
          }

      -- a row becomes one on a block more, or on none
      pub begins : (i : ℕ) (items : List T) (role : Role) (nothing : Bool) (info : BlockInfo M)
          → let place = if nothing then nowhere else on_block (Some t.blocks) 0 info in
          RowsAgree (record {
            rows = slice_set t.rows i (Some (record { items = items; place = place; role = role }));
            blocks = with_block (is_some (block_of place)) t.blocks;
          })
      begins i items role true info =
          let row : Row T M = record { items = items; place = nowhere; role = role } in
          agree-after (record { rows = slice_set t.rows i (Some row); blocks = t.blocks })
          (each-set IsSaid t.rows i (Some row) said-each tt) refl
          (alone-fresh t.rows i row alone-now (λ j block other at on beside.
          none-some block on))
      begins i items role false info =
          let row : Row T M = record {
            items = items;
            place = on_block (Some t.blocks) 0 info;
            role = role;
          } in
          agree-made info (record { rows = slice_set t.rows i (Some row); blocks = t.blocks + 1 })
          (each-set (IsSaidOrNew info) t.rows i (Some row)
          (λ j other at. said-new info other.place (said-each j other at)) (inr (refl, refl))) refl
          (alone-fresh t.rows i row alone-now (λ j block other at on beside.
          omega (arith, same_Some t.blocks block on, known j block other at beside)))

      goes : (i : ℕ) → RowsAgree (record { rows = slice_set t.rows i None; blocks = t.blocks })
      goes i =
          agree-after (record { rows = slice_set t.rows i None; blocks = t.blocks })
          (each-set IsSaid t.rows i None said-each tt) refl
          (alone-set t.rows i None alone-now (λ new none. absurd (none-some new none)))

      -- a row on no block of the table's
      apart : (new : Row T M) → ((block : ℕ) → OnBlock block new → t.blocks ≤ block)
          → Joins t.rows new
      apart new past j block other at on beside =
          absurd (omega (arith, past block on, known j block other at beside))

      said-apart : (place : Place (Option ℕ) M) → block_of place ≡ None → IsSaid place
      said-apart nowhere none = tt
      said-apart static_data none = tt
      said-apart (on_block None offset info) none = tt
      said-apart (on_block (Some block) offset info) none = absurd (none-some block (sym none))

      -- a window that stands on no block which counts owners
      on-none : (row : Row T M) → block_of row.place ≡ None
          → RowsAgree (founded no_shortage t row).1
      on-none row none =
          agree-after (founded no_shortage t row).1
          (each-push IsSaid t.rows (Some row) said-each (said-apart row.place none))
          (ap (λ n. with_block (is_some n) t.blocks) none)
          (alone-push t.rows row alone-now
          (apart row (λ block on. absurd (none-some block (sym none ∙ on)))))

      splits : (i : ℕ) (row kept handed : Row T M) → row_at t i ≡ Some row
          → is_sole row.role ≡ false → IsPart row kept → IsPart row handed
          → RowsAgree (record {
            rows = slice_set t.rows i (Some kept) ++ Some handed ∷ [];
            blocks = t.blocks;
          })
      splits i row kept handed at shares one other =
          let rows = slice_set t.rows i (Some kept) in
          let stays = one-part i row kept at one in
          agree-after (record { rows = rows ++ Some handed ∷ []; blocks = t.blocks })
          (each-push IsSaid rows (Some handed)
          (each-set IsSaid t.rows i (Some kept) said-each (said-part i row kept at one.0))
          (said-part i row handed at other.0)) refl
          (alone-push rows handed (alone-set t.rows i (Some kept) alone-now stays)
          (joins i row handed at shares other rows (stood-set t.rows i (Some kept) stays)))

      -- two rows are joined in the place of one, and the other goes
      joined : (i j : ℕ) (row other : Row T M) → ¬ (i ≡ j) → row_at t i ≡ Some row
          → RowsAgree (record {
            rows = slice_set (slice_set t.rows j None) i (Some (joined_row row other));
            blocks = t.blocks;
          })
      joined i j row other apart at =
          let whole = joined_row row other in
          let rows = slice_set t.rows j None in
          let gone : Alone rows =
          alone-set t.rows j None alone-now (λ new none. absurd (none-some new none)) in
          let here : slice_get rows i ≡ Some (Some row) =
          get-set_other t.rows j i None (λ same. apart (sym same))
          ∙ there (slice_get t.rows i) row at in
          agree-after (record { rows = slice_set rows i (Some whole); blocks = t.blocks })
          (each-set IsSaid rows i (Some whole) (each-set IsSaid t.rows j None said-each tt)
          (said-there i row at row.place refl)) refl
          (alone-set rows i (Some whole) gone (λ new is.
          subst (Stood rows i) (same-row whole new is) (record {
            row = row;
            there = here;
            on = λ block on. on;
            writes = λ writes. sym (sole-with row.role _) ∙ writes;
          })))

      founds : (items : List T) (role : Role) (nothing : Bool) (info : BlockInfo M)
          → let place = if nothing then nowhere else on_block (Some t.blocks) 0 info in
          RowsAgree (record {
            rows = t.rows ++ Some (record { items = items; place = place; role = role }) ∷ [];
            blocks = with_block (is_some (block_of place)) t.blocks;
          })
      founds items role true info =
          let row : Row T M = record { items = items; place = nowhere; role = role } in
          agree-after (record { rows = t.rows ++ Some row ∷ []; blocks = t.blocks })
          (each-push IsSaid t.rows (Some row) said-each tt) refl
          (alone-push t.rows row alone-now
          (apart row (λ block on. absurd (none-some block on))))
      founds items role false info =
          let row : Row T M = record {
            items = items;
            place = on_block (Some t.blocks) 0 info;
            role = role;
          } in
          agree-made info (record { rows = t.rows ++ Some row ∷ []; blocks = t.blocks + 1 })
          (each-push (IsSaidOrNew info) t.rows (Some row)
          (λ i row at. said-new info row.place (said-each i row at)) (inr (refl, refl))) refl
          (alone-push t.rows row alone-now
          (apart row (λ block on. omega (arith, same_Some t.blocks block on))))

  -- a row that moved to a block more
  abbrev pub moved-to : Table T M → ℕ → Row T M → Table T M
  moved-to t i whole = record {
    rows = slice_set t.rows i (Some whole);
    blocks = t.blocks + 1;
  }

  -- a row that stands under a number stands there once it was put there
  pub put-there : (t : Table T M) (i blocks : ℕ) (row new : Row T M) → row_at t i ≡ Some row
      → row_at (record { rows = slice_set t.rows i (Some new); blocks = blocks }) i ≡ Some new
  put-there t i blocks row new at =
      ap option_flatten (get-set t.rows i (Some row) (Some new)
      (there (slice_get t.rows i) row at))

  module _ (setting : Setting T) where
    answer-agrees : (short : Shortage) (places : ℕ) (t : Table T M) (c : ListCmd T M)
        → count_brought c ≤ places → RowsAgree t
        → RowsAgree (answer setting short places t c).1
    answer-agrees short places t c enough agree =
        answer_each setting short places t c enough (λ reply new. RowsAgree new) (record {
          same = λ reply tells. agree;
          founds = λ items role nothing info one fits. founds t agree items role nothing info;
          apart = λ row reads none fits. on-none t agree row none;
          splits = λ i row kept made at parts.
              splits t agree i row kept made at parts.shares parts.first parts.second;
          becomes = λ i row part at is fits. becomes t agree i row part at is;
          writes = writes t agree setting places;
          refits = λ i row new r tells at lone may put fits. refits t agree i row new at lone put;
          begins = λ i row items role nothing info at may fits.
              begins t agree i items role nothing info;
          moves = λ i row items role info kept made at may fits parts.
              let whole : Row T M =
              record { items = items; place = on_block (Some t.blocks) 0 info; role = role } in
              splits (moved-to t i whole) (begins t agree i items role false info) i whole kept made
              (put-there t i (t.blocks + 1) row whole at) parts.shares parts.first parts.second;
          joins = λ i j row other apart at beside one two there can.
              joined t agree i j row other apart at;
          goes = λ r tells i. goes t agree i;
        }) c refl

    pub step_agrees : (t : Table T M) (c : ListCmd T M) (r : ListReply T M) (new : Table T M)
        → Step setting t c r new → RowsAgree t → RowsAgree new
    step_agrees t c r new step agree =
        subst (λ (o : ListReply T M × Table T M). RowsAgree o.1) step.answered
        (answer-agrees step.short step.places t c step.enough agree)

    pub run_agrees : (t : Table T M) (cs : List (ListCmd T M)) (rs : List (ListReply T M))
        (new : Table T M) → Run setting t cs rs new → RowsAgree t → RowsAgree new
    run_agrees t [] [] new run agree = subst RowsAgree (sym run) agree
    run_agrees t (c ∷ cs) (r ∷ rs) new run agree =
        run_agrees run.0 cs rs new run.2 (step_agrees t c r run.0 run.1 agree)
    run_agrees t [] (r ∷ rs) new run agree = absurd run
    run_agrees t (c ∷ cs) [] new run agree = absurd run
