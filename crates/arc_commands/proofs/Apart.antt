-- Writers stay apart: each step keeps that no place of a block is a writer's and another row's.
use Rattle.std.proofs.Common.{inl, inr, ◌≡◌, ◌⊎◌, ℕ, ◌+◌, ◌-◌, ◌≤◌, ◌<◌, Bool, true, false}
use Rattle.std.proofs.Common.{if◌then◌else◌, List, length, [], ◌∷◌, ◌++◌, Option, Some, None}
use Rattle.std.proofs.Common.{slice_get, slice_set, is_some, refl, sym, ap, ◌∙◌, subst, arith}
use Rattle.std.specs.Prelude.{not}
use Rattle.std.specs.Option.{option_flatten}
use Rattle.std.proofs.lemmas.Option.{none-some, same_Some}
use Rattle.std.proofs.lemmas.Bool.{cases_Bool, false≢true}
use Rattle.arc_block.specs.Block.{BlockInfo}
use Rattle.arc_block.specs.Place.{Place, nowhere, static_data, on_block}
use Rattle.arc_parts.specs.Room.{ends_full}
use Rattle.arc_block.specs.Table.{Row, Table, Role, StandsOn, row_at, block_of, empty_table}
use Rattle.arc_block.specs.Table.{reader, sole_writer, one_writer_of_several, inline, forgotten}
use Rattle.arc_parts.specs.Writers.{as_sole, capacity_of, sole_at}
use Rattle.arc_parts.specs.Shared.{can_join, joined_row}
use Rattle.arc_block.specs.Table.{is_alone}
use Rattle.arc_block.proofs.Lists.{push-cases, set-cases}
use Rattle.arc_commands.specs.Apart.{CoversAt, EndsWithin, EndsWithinAt, IsLawful, ShareNone}
use Rattle.arc_commands.specs.Apart.{WritersApart, role_places}
use Rattle.arc_commands.specs.Blocks.{RowsAgree, is_several, is_sole, is_writer}
use Rattle.arc_commands.specs.Several.{are_apart}
use Rattle.arc_commands.specs.Commands.{ListCmd, ListReply}
use Rattle.arc_commands.specs.Fits.{EndsAt, HasPlaces, HasSharedPlaces, LieWithin, RowFits, RowsFit}
use Rattle.arc_commands.specs.Changes.{Setting, Shortage}
use Rattle.arc_commands.specs.Step.{Step, Run, answer}
use Rattle.arc_commands.specs.Step.{count_brought}
use Rattle.arc_commands.proofs.Answers.{answer_each}
use Rattle.arc_commands.proofs.Blocks.{begins, moved-to, only-here, only-lone, put-there}
use Rattle.arc_commands.proofs.Blocks.{OnBlock, step_agrees}
use Rattle.arc_commands.proofs.EachRow.{each-set, this}
use Rattle.arc_commands.proofs.FitsStep.{not-apart, step_fits}
use Rattle.arc_commands.proofs.Lists.{there}
use Rattle.arc_commands.proofs.Outcomes.{IsLone}
use Rattle.arc_commands.proofs.Parts.{IsPart, KeepsPart, Parts, StaysOn}
use Rattle.arc_commands.proofs.Several.{joined_parted}
use Rattle.arc_commands.proofs.Roles.{several-writes}

-- ---- a row ends within its block

chosen : (b : Bool) (offset len size capacity : ℕ) → offset + len ≤ size
    → capacity ≡ (if b then len else size - offset) → offset + capacity ≤ size
chosen true offset len size capacity within is = omega (arith, within, is)
chosen false offset len size capacity within is = omega (arith, within, is)

ends-at : {M : Type 0} (drops : Bool) (info : BlockInfo M) (offset len capacity : ℕ)
    → offset + len ≤ info.size → EndsAt drops info offset len capacity
    → offset + capacity ≤ info.size
ends-at false info offset len capacity within ends = ends.1
ends-at true info offset len capacity within ends =
    chosen (not (ends_full info (offset + len))) offset len info.size capacity within ends

module _ {M : Type 0} (drops : Bool) where
  ends-read : (small : Bool) (place : Place (Option ℕ) M) (len : ℕ)
      → LieWithin drops small place len → EndsWithinAt place len
  ends-read small nowhere len w = tt
  ends-read small static_data len w = tt
  ends-read small (on_block block offset info) len w = omega (arith, w.1, w.2)

  ends-sole : (place : Place (Option ℕ) M) (len capacity : ℕ) → LieWithin drops false place len
      → HasPlaces drops place len capacity → EndsWithinAt place capacity
  ends-sole nowhere len capacity w has = tt
  ends-sole static_data len capacity w has = tt
  ends-sole (on_block block offset info) len capacity w has =
      ends-at drops info offset len capacity (omega (arith, w.1, w.2)) has

  ends-among : (place : Place (Option ℕ) M) (capacity : ℕ) → HasSharedPlaces place capacity
      → EndsWithinAt place capacity
  ends-among nowhere capacity has = tt
  ends-among static_data capacity has = tt
  ends-among (on_block None offset info) capacity has = absurd has
  ends-among (on_block (Some block) offset info) capacity has = has.1

module _ {T M : Type 0} (drops : Bool) where
  ends-by : (items : List T) (place : Place (Option ℕ) M) (role : Role)
      → RowFits drops (record { items = items; place = place; role = role })
      → EndsWithinAt place (role_places role (length items))
  ends-by items place reader f = ends-read drops false place (length items) f.within
  ends-by items place (sole_writer capacity) f =
      ends-sole drops place (length items) capacity f.within (f.writer refl)
  ends-by items place (one_writer_of_several capacity) f =
      ends-among drops place capacity (f.shared refl).places
  ends-by items place inline f = ends-read drops true place (length items) f.within
  ends-by items place forgotten f = ends-read drops false place (length items) f.within

  ends-fit : (row : Row T M) → RowFits drops row → EndsWithin row
  ends-fit row f = ends-by row.items row.place row.role f

-- ---- two rows on one block

-- a place of one of several writers is one of a block's
covered-block : {M : Type 0} (place : Place (Option ℕ) M) (n places capacity : ℕ)
    → CoversAt place places n → HasSharedPlaces place capacity → is_some (block_of place) ≡ true
covered-block nowhere n places capacity covers has = absurd covers
covered-block static_data n places capacity covers has = absurd covers
covered-block (on_block None offset info) n places capacity covers has = absurd has
covered-block (on_block (Some block) offset info) n places capacity covers has = refl

on-both : (here there : Option ℕ) (block : ℕ) → are_apart here there ≡ false → here ≡ Some block
    → is_some there ≡ true → there ≡ Some block
on-both None there block same is some = absurd (none-some block is)
on-both (Some n) None block same is some = absurd (false≢true some)
on-both (Some n) (Some m) block same is some = ap Some (sym (not-apart n m same)) ∙ is

-- ---- lists of rows

-- a block on which a part stands is that of the row
on-row : {M : Type 0} (whole part : Place (Option ℕ) M) → StaysOn whole part → (block : ℕ)
    → block_of part ≡ Some block → block_of whole ≡ Some block
on-row whole nowhere stays block on = absurd (none-some block on)
on-row whole static_data stays block on = absurd (none-some block on)
on-row nowhere (on_block n offset info) stays block on = absurd stays
on-row static_data (on_block n offset info) stays block on = absurd stays
on-row (on_block one here old) (on_block n offset info) stays block on = stays.0 ∙ on

module _ {T M : Type 0} where
  abbrev Writes : Row T M → Type 0
  Writes row = is_writer row.role ≡ true

  -- of two rows on one block, of which one is a writer's, no place is both's
  abbrev Apart : List (Option (Row T M)) → Type 0
  Apart rows = (i j block : ℕ) (one other : Row T M) → slice_get rows i ≡ Some (Some one)
      → slice_get rows j ≡ Some (Some other) → ¬ (i ≡ j) → Writes one → OnBlock block one
      → OnBlock block other → ShareNone one other

  -- beside a row, on its block: no other, or one that has none of its places
  abbrev Beside : List (Option (Row T M)) → ℕ → Row T M → Type 0
  Beside rows k new = (j block : ℕ) (other : Row T M) → slice_get rows j ≡ Some (Some other)
      → ¬ (j ≡ k) → OnBlock block new → OnBlock block other → Writes new ⊎ Writes other
      → ShareNone new other

  turned : (one other : Row T M) → ShareNone one other → ShareNone other one
  turned one other none n a b = none n b a

  apart-set : (rows : List (Option (Row T M))) (k : ℕ) (new : Row T M) → Apart rows
      → Beside rows k new
      → Apart (slice_set rows k (Some new))
  apart-set rows k new apart beside i j block one other at second differ writes on there =
      elim (set-cases rows k i (Some one) (Some new) at) [
        | inl old ↦ elim (set-cases rows k j (Some other) (Some new) second) [
          | inl also ↦ apart i j block one other old.1 also.1 differ writes on there
          | inr set ↦
              let same : new ≡ other = same_Some new other set.1 in
              turned other one (subst (λ r. ShareNone r one) same
              (beside i block one old.1 (λ e. old.0 (sym e))
              (subst (OnBlock block) (sym same) there) on (inr writes)))
        ]
        | inr set ↦ elim (set-cases rows k j (Some other) (Some new) second) [
          | inl also ↦
              let same : new ≡ one = same_Some new one set.1 in
              subst (λ r. ShareNone r other) same
              (beside j block other also.1 (λ e. also.0 (sym e))
              (subst (OnBlock block) (sym same) on) there (inl (subst Writes (sym same) writes)))
          | inr both ↦ absurd (differ (sym set.0 ∙ both.0))
        ]
      ]

  apart-gone : (rows : List (Option (Row T M))) (k : ℕ) → Apart rows → Apart (slice_set rows k None)
  apart-gone rows k apart i j block one other at second differ writes on there =
      elim (set-cases rows k i (Some one) None at) [
        | inl old ↦ elim (set-cases rows k j (Some other) None second) [
          | inl also ↦ apart i j block one other old.1 also.1 differ writes on there
          | inr set ↦ absurd (none-some other set.1)
        ]
        | inr set ↦ absurd (none-some one set.1)
      ]

  -- a row more, beside those that are there
  apart-push : (rows : List (Option (Row T M))) (new : Row T M) → Apart rows
      → ((j block : ℕ) (other : Row T M) → slice_get rows j ≡ Some (Some other)
      → OnBlock block new → OnBlock block other → Writes new ⊎ Writes other
      → ShareNone new other) → Apart (rows ++ Some new ∷ [])
  apart-push rows new apart beside i j block one other at second differ writes on there =
      elim (push-cases rows i (Some one) (Some new) at) [
        | inl old ↦ elim (push-cases rows j (Some other) (Some new) second) [
          | inl also ↦ apart i j block one other old also differ writes on there
          | inr last ↦
              let same : new ≡ other = same_Some new other last.1 in
              turned other one (subst (λ r. ShareNone r one) same
              (beside i block one old (subst (OnBlock block) (sym same) there) on (inr writes)))
        ]
        | inr last ↦ elim (push-cases rows j (Some other) (Some new) second) [
          | inl also ↦
              let same : new ≡ one = same_Some new one last.1 in
              subst (λ r. ShareNone r other) same
              (beside j block other also (subst (OnBlock block) (sym same) on) there
              (inl (subst Writes (sym same) writes)))
          | inr both ↦ absurd (differ (last.0 ∙ sym both.0))
        ]
      ]

  -- ---- tables

  module _ (drops : Bool) (t : Table T M) (agree : RowsAgree t) (fit : RowsFit drops t)
      (apart : Apart t.rows) where
    abbrev stands : (i block : ℕ) (row : Row T M) → slice_get t.rows i ≡ Some (Some row)
        → OnBlock block row → StandsOn t i block
    stands i block row at on = record { row = row; alive = ap option_flatten at; stands = on }

    -- beside a sole writer nobody stands
    nobody : (i j block : ℕ) (one other : Row T M) → slice_get t.rows i ≡ Some (Some one)
        → slice_get t.rows j ≡ Some (Some other) → ¬ (i ≡ j) → is_sole one.role ≡ true
        → OnBlock block one → OnBlock block other → ⊥
    nobody i j block one other at second differ sole on there-too =
        differ (sym (agree.alone i j block (stands i block one at on) sole
        (stands j block other second there-too)))

    -- what is beside a row is beside its parts
    beside-part : (i : ℕ) (row part : Row T M) → row_at t i ≡ Some row → IsPart row part
        → KeepsPart drops row part → Beside t.rows i part
    beside-part i row part at is keeps j block other second differ on beside writes n mine its =
        let here = there (slice_get t.rows i) row at in
        let on-too = on-row row.place part.place is.0 block on in
        elim (cases_Bool (is_sole row.role)) [
          | inl sole ↦
              nobody i j block row other here second (λ e. differ (sym e)) sole on-too beside
          | inr shares ↦
              let whole = keeps.places shares (fit i row at) n mine in
              elim writes [
                | inl writing ↦
                    apart i j block row other here second (λ e. differ (sym e))
                    (keeps.writes writing)
                    on-too beside n whole its
                | inr writing ↦
                    apart j i block other row second here differ writing beside on-too n its whole
              ]
        ]

    becomes : (i : ℕ) (row part : Row T M) → row_at t i ≡ Some row → IsPart row part
        → KeepsPart drops row part → Apart (slice_set t.rows i (Some part))
    becomes i row part at is keeps =
        apart-set t.rows i part apart (beside-part i row part at is keeps)

    -- of a row that isn't a sole writer's two parts
    splits : (i : ℕ) (row kept made : Row T M) → row_at t i ≡ Some row
        → Parts drops row kept made → Apart (slice_set t.rows i (Some kept) ++ Some made ∷ [])
    splits i row kept made at parts =
        apart-push (slice_set t.rows i (Some kept)) made
        (becomes i row kept at parts.first parts.keeps)
        (λ j block beside second on there-too writes.
        elim (set-cases t.rows i j (Some beside) (Some kept) second) [
          | inl old ↦
              beside-part i row made at parts.second parts.also j block beside old.1
              (λ e. old.0 (sym e)) on there-too writes
          | inr set ↦
              let same : kept ≡ beside = same_Some kept beside set.1 in
              let writing : is_writer row.role ≡ true = elim writes [
                | inl one ↦ parts.also.writes one
                | inr other ↦ parts.keeps.writes (subst Writes (sym same) other)
              ] in
              subst (λ r. ShareNone made r) same
              (turned kept made (parts.apart writing (fit i row at)))
        ])

    -- a row comes in the place of one, on whose block no other stands
    alone-set : (i : ℕ) (new : Row T M)
        → ((j block : ℕ) (other : Row T M) → slice_get t.rows j ≡ Some (Some other)
        → ¬ (j ≡ i) → OnBlock block new → OnBlock block other → ⊥)
        → Apart (slice_set t.rows i (Some new))
    alone-set i new none =
        apart-set t.rows i new apart (λ j block other second differ on beside writes n mine its.
        none j block other second differ on beside)

    -- a row beside which no other stands becomes one on its block
    refits : (i : ℕ) (row new : Row T M) → row_at t i ≡ Some row
        → IsLone (is_alone t row.place) row
        → block_of new.place ≡ block_of row.place → Apart (slice_set t.rows i (Some new))
    refits i row new at lone put =
        alone-set i new (λ j block other second differ on beside.
        differ (only-lone t agree i row at lone j block other second (sym put ∙ on) beside))

    -- what is beside two rows on one block is beside both of them joined
    joined : (i j : ℕ) (row other : Row T M) → ¬ (i ≡ j) → row_at t i ≡ Some row
        → row_at t j ≡ Some other → is_several row.role ≡ true → is_several other.role ≡ true
        → are_apart (block_of row.place) (block_of other.place) ≡ false
        → can_join row other ≡ true
        → Apart (slice_set (slice_set t.rows j None) i (Some (joined_row row other)))
    joined i j row other differ at second one two same can =
        let rows = slice_set t.rows j None in
        let parted = joined_parted row other one two can in
        apart-set rows i (joined_row row other) (apart-gone t.rows j apart)
        (λ k block third here distinct on beside writes n mine its.
        elim (set-cases t.rows j k (Some third) None here) [
          | inl old ↦
              elim ((parted.all n).0 mine) [
                | inl first ↦
                    apart i k block row third (there (slice_get t.rows i) row at) old.1
                    (λ e. distinct (sym e)) (several-writes row.role one) on beside n first its
                | inr last ↦
                    apart j k block other third (there (slice_get t.rows j) other second) old.1
                    old.0 (several-writes other.role two)
                    (on-both (block_of row.place) (block_of other.place) block same on
                    (covered-block other.place n _ (capacity_of other.role) last
                    ((fit j other second).shared two).places)) beside n last its
              ]
          | inr set ↦ absurd (none-some third set.1)
        ])

    sole-on : (items : List T) (place : Place (Option ℕ) M) (block : ℕ)
        → block_of (sole_at drops items place).place ≡ Some block → block_of place ≡ Some block
    sole-on items nowhere block on = on
    sole-on items static_data block on = on
    sole-on items (on_block n offset info) block on = on

    -- a block that a row stands on was made
    known : (j block : ℕ) (other : Row T M) → slice_get t.rows j ≡ Some (Some other)
        → (place : Place (Option ℕ) M) → other.place ≡ place → block_of place ≡ Some block
        → block < t.blocks
    known j block other at nowhere is on = absurd (none-some block on)
    known j block other at static_data is on = absurd (none-some block on)
    known j block other at (on_block None offset info) is on = absurd (none-some block on)
    known j block other at (on_block (Some n) offset info) is on =
        subst (λ m. m < t.blocks) (same_Some n block on)
        (agree.numbered n info (j, other, offset, ap option_flatten at, is))

    -- on a block that is made now nobody stands
    fresh : (nothing : Bool) (info : BlockInfo M) (j block : ℕ) (other : Row T M)
        → slice_get t.rows j ≡ Some (Some other)
        → block_of (if nothing then nowhere else on_block (Some t.blocks) 0 info) ≡ Some block
        → OnBlock block other → ⊥
    fresh true info j block other at on beside = none-some block on
    fresh false info j block other at on beside =
        omega (arith, same_Some t.blocks block on, known j block other at other.place refl beside)

-- ---- steps

module _ {T M : Type 0} where
  pub apart-of : (drops : Bool) (t : Table T M) → RowsAgree t → RowsFit drops t → Apart t.rows
      → WritersApart t
  apart-of drops t agree fit apart = record {
    apart = λ i j block differ one writes other.
        apart i j block one.row other.row (there (slice_get t.rows i) one.row one.alive)
        (there (slice_get t.rows j) other.row other.alive) differ writes one.stands other.stands;
    within = λ i row at. ends-fit drops row (fit i row at);
  }

  rows-apart : (t : Table T M) → WritersApart t → Apart t.rows
  rows-apart t a i j block one other at second differ writes on beside =
      a.apart i j block differ
      (record { row = one; alive = ap option_flatten at; stands = on }) writes
      (record { row = other; alive = ap option_flatten second; stands = beside })

  module _ (setting : Setting T) where
    -- a row becomes one on a block more, or on none
    begun-apart : (t : Table T M) → RowsAgree t → RowsFit setting.drops t → Apart t.rows → (i : ℕ)
        (items : List T) (role : Role) (nothing : Bool) (info : BlockInfo M)
        → let place = if nothing then nowhere else on_block (Some t.blocks) 0 info in
        Apart (slice_set t.rows i (Some (record { items = items; place = place; role = role })))
    begun-apart t agree fit apart i items role nothing info =
        let place = if nothing then nowhere else on_block (Some t.blocks) 0 info in
        let d = setting.drops in
        alone-set d t agree fit apart i (record { items = items; place = place; role = role })
        (λ j block other second differ on beside.
        fresh d t agree fit apart nothing info j block other second on beside)

    answer-apart : (short : Shortage) (places : ℕ) (t : Table T M) (c : ListCmd T M)
        → count_brought c ≤ places → RowsAgree t → RowsFit setting.drops t → Apart t.rows
        → Apart (answer setting short places t c).1.rows
    answer-apart short places t c enough agree fit apart =
        let d = setting.drops in
        answer_each setting short places t c enough (λ reply new. Apart new.rows) (record {
          same = λ reply tells. apart;
          founds = λ items role nothing info one fits.
              let place = if nothing then nowhere else on_block (Some t.blocks) 0 info in
              apart-push t.rows (record { items = items; place = place; role = role }) apart
              (λ j block other at on beside writes n mine its.
              fresh d t agree fit apart nothing info j block other at on beside);
          apart = λ row reads none fits.
              apart-push t.rows row apart
              (λ j block other at on beside writes n mine its. none-some block (sym none ∙ on));
          splits = λ i row kept made at parts. splits d t agree fit apart i row kept made at parts;
          becomes = λ i row part at is keeps.
              becomes d t agree fit apart i row part at is keeps;
          writes = λ i row at may.
              alone-set d t agree fit apart i (as_sole d row)
              (λ j block other second differ on beside.
              differ (only-here t agree setting places i row at may j block other second
              (sole-on d t agree fit apart row.items row.place block on) beside));
          refits = λ i row new r tells at lone may put fits.
              refits d t agree fit apart i row new at lone put;
          begins = λ i row items role nothing info at may fits.
              begun-apart t agree fit apart i items role nothing info;
          moves = λ i row items role info kept made at may fits parts.
              let whole : Row T M =
              record { items = items; place = on_block (Some t.blocks) 0 info; role = role } in
              splits d (moved-to t i whole) (begins t agree i items role false info)
              (each-set (RowFits d) t.rows i (Some whole) fit
              (this (RowFits d) whole (fits (fit i row at))))
              (begun-apart t agree fit apart i items role false info) i whole kept made
              (put-there t i (t.blocks + 1) row whole at) parts;
          joins = λ i j row other differ at second one two same can.
              joined d t agree fit apart i j row other differ at second one two same can;
          goes = λ r tells i. apart-gone t.rows i apart;
        }) c refl

    step-apart : (t : Table T M) (c : ListCmd T M) (r : ListReply T M) (new : Table T M)
        → Step setting t c r new → RowsAgree t → RowsFit setting.drops t → Apart t.rows
        → Apart new.rows
    step-apart t c r new step agree fit apart =
        subst (λ (o : ListReply T M × Table T M). Apart o.1.rows) step.answered
        (answer-apart step.short step.places t c step.enough agree fit apart)

    pub step_lawful : (t : Table T M) (c : ListCmd T M) (r : ListReply T M) (new : Table T M)
        → Step setting t c r new → IsLawful setting.drops t → IsLawful setting.drops new
    step_lawful t c r new step l =
        let agree = step_agrees setting t c r new step l.agree in
        let fit = step_fits setting t c r new step l.agree l.fit in
        record {
          agree = agree;
          fit = fit;
          apart =
              apart-of setting.drops new agree fit
              (step-apart t c r new step l.agree l.fit (rows-apart t l.apart));
        }

    pub run_lawful : (t : Table T M) (cs : List (ListCmd T M)) (rs : List (ListReply T M))
        (new : Table T M) → Run setting t cs rs new → IsLawful setting.drops t
        → IsLawful setting.drops new
    run_lawful t [] [] new run l = subst (IsLawful setting.drops) (sym run) l
    run_lawful t (c ∷ cs) (r ∷ rs) new run l =
        run_lawful run.0 cs rs new run.2 (step_lawful t c r run.0 run.1 l)
    run_lawful t [] (r ∷ rs) new run l = absurd run
    run_lawful t (c ∷ cs) [] new run l = absurd run

-- a table without rows
pub empty_lawful : {T M : Type 0} (drops : Bool) → IsLawful {T = T} {M = M} drops empty_table
empty_lawful {T} {M} drops =
    let agree : RowsAgree {T = T} {M = M} empty_table = record {
      same = λ block one other on beside. absurd (none-some on.1 on.3);
      numbered = λ block info on. absurd (none-some on.1 on.3);
      alone = λ i j block s sole beside. absurd (none-some s.row s.alive);
    } in
    let fit : RowsFit {T = T} {M = M} drops empty_table = λ i row at. absurd (none-some row at) in
    record {
      agree = agree;
      fit = fit;
      apart =
          apart-of drops empty_table agree fit
          (λ i j block one other at. absurd (none-some (Some one) at));
    }
