-- Parts of the places of one writer of several, and places that are joined.
use Rattle.std.proofs.Common.{inl, inr, ◌≡◌, ◌⊎◌, ℕ, ◌+◌, ◌-◌, ◌≤◌, ◌==◌, true}
use Rattle.std.proofs.Common.{List, length, Option, arith}
use Rattle.std.specs.Prelude.{nat_lt}
use Rattle.std.proofs.lemmas.Bool.{and_parts, cases_Bool, eqb-true, false≢true, ltb-false, ltb-true}
use Rattle.arc_block.specs.Place.{Place, nowhere, static_data, on_block, moved}
use Rattle.arc_parts.specs.Shared.{can_join, ends_at, front_of, joined_row}
use Rattle.arc_block.specs.Table.{Row, one_writer_of_several}
use Rattle.arc_parts.specs.Writers.{after_advance, capacity_of}
use Rattle.arc_commands.specs.Apart.{CoversAt, IsParted}
use Rattle.arc_commands.specs.Blocks.{is_several}
use Rattle.arc_commands.proofs.Roles.{several_each}

-- ---- places

module _ {M : Type 0} where
  -- the first so many of some places, and those behind them
  front-apart : (place : Place (Option ℕ) M) (at all n : ℕ) → CoversAt place at n
      → CoversAt (moved at place) (all - at) n → ⊥
  front-apart nowhere at all n one other = one
  front-apart static_data at all n one other = one
  front-apart (on_block block offset info) at all n one other = omega (arith, one.1, other.0)

  either-part : (place : Place (Option ℕ) M) (at all n : ℕ) → at ≤ all → CoversAt place all n
      → CoversAt place at n ⊎ CoversAt (moved at place) (all - at) n
  either-part nowhere at all n within covers = absurd covers
  either-part static_data at all n within covers = absurd covers
  either-part (on_block block offset info) at all n within covers =
      elim (cases_Bool (nat_lt n (offset + at))) [
        | inl before ↦ inl (covers.0, ltb-true n (offset + at) before)
        | inr past ↦
            (let after : offset + at ≤ n = ltb-false n (offset + at) past in
            inr (after, omega (arith, covers.1, within)))
      ]

  part-covers : (place : Place (Option ℕ) M) (at all n : ℕ) → at ≤ all
      → CoversAt place at n ⊎ CoversAt (moved at place) (all - at) n → CoversAt place all n
  part-covers nowhere at all n within (inl covers) = covers
  part-covers nowhere at all n within (inr covers) = covers
  part-covers static_data at all n within (inl covers) = covers
  part-covers static_data at all n within (inr covers) = covers
  part-covers (on_block block offset info) at all n within (inl covers) =
      (covers.0, omega (arith, covers.1, within))
  part-covers (on_block block offset info) at all n within (inr covers) =
      (omega (arith, covers.0), omega (arith, covers.1, within))

  -- places, and others that begin where they end
  neighbours-apart : (here there : Place (Option ℕ) M) (few more n : ℕ)
      → ends_at few here there ≡ true → CoversAt here few n → CoversAt there more n → ⊥
  neighbours-apart nowhere there few more n ends one other = one
  neighbours-apart static_data there few more n ends one other = one
  neighbours-apart (on_block b o i) nowhere few more n ends one other = other
  neighbours-apart (on_block b o i) static_data few more n ends one other = other
  neighbours-apart (on_block b o i) (on_block c p k) few more n ends one other =
      omega (arith, eqb-true (o + few) p ends, one.1, other.0)

  either-neighbour : (here there : Place (Option ℕ) M) (few more n : ℕ)
      → ends_at few here there ≡ true → CoversAt here (few + more) n
      → CoversAt here few n ⊎ CoversAt there more n
  either-neighbour nowhere there few more n ends covers = absurd covers
  either-neighbour static_data there few more n ends covers = absurd covers
  either-neighbour (on_block b o i) nowhere few more n ends covers = absurd (false≢true ends)
  either-neighbour (on_block b o i) static_data few more n ends covers = absurd (false≢true ends)
  either-neighbour (on_block b o i) (on_block c p k) few more n ends covers =
      let begins : o + few ≡ p = eqb-true (o + few) p ends in
      elim (cases_Bool (nat_lt n (o + few))) [
        | inl before ↦ inl (covers.0, ltb-true n (o + few) before)
        | inr past ↦
            (let after : o + few ≤ n = ltb-false n (o + few) past in
            inr (omega (arith, after, begins), omega (arith, covers.1, begins)))
      ]

  neighbour-covers : (here there : Place (Option ℕ) M) (few more n : ℕ)
      → ends_at few here there ≡ true → CoversAt here few n ⊎ CoversAt there more n
      → CoversAt here (few + more) n
  neighbour-covers nowhere nowhere few more n ends (inl covers) = covers
  neighbour-covers nowhere nowhere few more n ends (inr covers) = covers
  neighbour-covers nowhere static_data few more n ends either = absurd (false≢true ends)
  neighbour-covers nowhere (on_block c p k) few more n ends either = absurd (false≢true ends)
  neighbour-covers static_data there few more n ends either = absurd (false≢true ends)
  neighbour-covers (on_block b o i) nowhere few more n ends either = absurd (false≢true ends)
  neighbour-covers (on_block b o i) static_data few more n ends either = absurd (false≢true ends)
  neighbour-covers (on_block b o i) (on_block c p k) few more n ends (inl covers) =
      (covers.0, omega (arith, covers.1))
  neighbour-covers (on_block b o i) (on_block c p k) few more n ends (inr covers) =
      let begins : o + few ≡ p = eqb-true (o + few) p ends in
      (omega (arith, covers.0, begins), omega (arith, covers.1, begins))

-- ---- rows

module _ {T M : Type 0} where
  split-at : (items : List T) (place : Place (Option ℕ) M) (at places : ℕ) → at ≤ places
      → let row : Row T M =
      record { items = items; place = place; role = one_writer_of_several places } in
      IsParted row (front_of at row) (after_advance at row)
  split-at items place at places within = record {
    apart = front-apart place at places;
    all = λ n. (either-part place at places n within, part-covers place at places n within);
  }

  pub split_parted : (row : Row T M) (at : ℕ) → is_several row.role ≡ true
      → at ≤ capacity_of row.role → IsParted row (front_of at row) (after_advance at row)
  split_parted row at several within =
      several_each (λ role. let r : Row T M = record row { role = role } in
      at ≤ capacity_of role → IsParted r (front_of at r) (after_advance at r))
      (λ places less. split-at row.items row.place at places less) row.role several within

  joined-at : (items more : List T) (here there : Place (Option ℕ) M) (few many : ℕ)
      → ends_at few here there ≡ true
      → let one : Row T M = record { items = items; place = here; role = one_writer_of_several few }
      in
      let other : Row T M =
      record { items = more; place = there; role = one_writer_of_several many } in
      IsParted (joined_row one other) one other
  joined-at items more here there few many ends = record {
    apart = λ n. neighbours-apart here there few many n ends;
    all = λ n. (
      either-neighbour here there few many n ends,
      neighbour-covers here there few many n
          ends,
    );
  }

  pub joined_parted : (row other : Row T M) → is_several row.role ≡ true
      → is_several other.role ≡ true → can_join row other ≡ true
      → IsParted (joined_row row other) row other
  joined_parted row other several also can =
      several_each (λ role. let r : Row T M = record row { role = role } in
      ends_at (capacity_of role) row.place other.place ≡ true → IsParted (joined_row r other) r
      other)
      (λ few ends. several_each (λ role. let o : Row T M = record other { role = role } in
      let r : Row T M = record row { role = one_writer_of_several few } in
      IsParted (joined_row r o) r o)
      (λ many. joined-at row.items other.items row.place other.place few many ends) other.role also)
      row.role several
      (and_parts (length row.items == capacity_of row.role)
      (ends_at (capacity_of row.role) row.place other.place) can).1
