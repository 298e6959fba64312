-- The invariant opened for one step, with the number of the word, a pass and a share of an owner's
-- right; and shut again with one more line. Assumes `Logic`.
use Rattle.std.proofs.Common.{◌≡◌, ℕ, ◌<◌, Bool, true, false, List, [], ◌∷◌, ◌++◌, length, get_or}
use Rattle.std.proofs.Common.{refl, sym, ap, ◌∙◌, arith}
use mathlib.Core.List.{IsPrefix}
use mathlib.Core.Option.{some}
use seplogic.Ra.Ura.{Ura}
use base.Fraction.{full_share}
use base.Share.{quarter, three_quarters}
use base.Stored.{coded_ℕ}
use base.Logic.{upd, upd_i}
use base.Fml.{Share, Fml, ftrue}
use types.Logic.{Logic}
use types.Kit.{‵, raw, ◌⊛◌, given, ◌$◌, ◌∵◌, !, qed, by, move, drop, split, split3, group, fsplit}
use types.Kit.{fsplit3, fjoin, fpick, fpack, learn, done, frame, assume, use1, use2, use3}
use types.Kit.{rewrite, suffices, settle}
use denote.Steps.{nothing}
use Rattle.arc_owners.specs.declared.history.entry.Entry.{Entry}
use Rattle.arc_owners.specs.history.Histories.{MayFollow, IsLegal}
use Rattle.arc_owners.specs.count.Invariant.{BlockId, Line, entries_of, made_by, history_at_least}
use Rattle.arc_owners.specs.count.Invariant.{withheld, has_place, located, Lease, lease_coded}
use Rattle.arc_owners.specs.count.Invariant.{no_lease, Seat, seat_coded, fresh_seat, ghost_var, row}
use Rattle.arc_owners.specs.count.Invariant.{right, counted_as, tally, pool, how_many, State, Fits}
use Rattle.arc_owners.specs.count.Invariant.{standing, contents, behind, pass_holds}
use Rattle.arc_owners.proofs.count.Signs.{signs}
use Rattle.arc_owners.proofs.count.Operations.{Follows, left_by, left}
use Rattle.arc_owners.proofs.count.Rolls.{made-own}
use Rattle.arc_owners.proofs.count.States.{seat_of, seat_set, wrote_for, one-lives}
use Rattle.arc_owners.proofs.count.Cells.{cell_parts, row_finds, row_writes}
use Rattle.arc_owners.proofs.count.Parts.{top, Seen, sees, writes, counts, Same_count, counts_on}
use Rattle.arc_owners.proofs.count.Parts.{keyed, stays, tallies, tally_in}

module _ {M : Type 1} {𝓤 : Ura M} (𝓛 : Logic 𝓤) (t : BlockId) where
  open signs 𝓛 use {Pr, ◌⊢◌, ◌∗◌, ◌-∗◌, ⟦◌⟧}

  infix 26 ◌⊢◌
  infixr 35 ◌∗◌
  infixr 30 ◌-∗◌
  abbrev pub latest_of : List Line → Fml
  latest_of ls = top 𝓛 t t.whole ls

  abbrev pub rolled : List (Bool × Lease) → Fml
  rolled xs = row lease_coded no_lease t.rights 0 xs

  abbrev pub seated : List (Bool × Seat) → Fml
  seated xs = row seat_coded fresh_seat t.passes 0 xs

  abbrev pub seat : ℕ → Bool → List Entry → Fml
  seat p ready made = ghost_var seat_coded t.passes p quarter (ready, made)

  pub shuts : (a : State) → Fits t a → ⟦ latest_of a.lines ⟧ ∗ ⟦ located t a.lines ⟧
      ∗ ⟦ rolled a.roll ⟧ ∗ ⟦ seated a.seats ⟧ ∗ ⟦ tally t (how_many a.roll) ⟧
      ∗ ⟦ pool a.lease (how_many a.roll) ⟧ ⊢ ⟦ contents t ⟧
  shuts a f = qed 𝓛 (‵ (latest_of a.lines) ∷ ‵ (located t a.lines) ∷ ‵ (rolled a.roll)
      ∷ ‵ (seated a.seats) ∷ ‵ (tally t (how_many a.roll)) ∷ ‵ (pool a.lease (how_many a.roll))
      ∷ []) ∵
      nothing ! $ fpack ! (Fits t a) (λ _. ftrue) f $ move ! (5 ∷ 6 ∷ 0 ∷ []) $ fjoin ! $ fjoin ! $
      move ! (4 ∷ 0 ∷ []) $ fjoin ! $ move ! (3 ∷ 0 ∷ []) $ fjoin ! $ move ! (2 ∷ 0 ∷ []) $
      fjoin ! $ move ! (1 ∷ 0 ∷ []) $ fjoin ! $
      fpack ! State (standing t) a $ done !

  module _ (p : ℕ) (ready : Bool) (seen : List Line) (a : State) (e : Entry) where
    abbrev more : List Line
    more = a.lines ++ (p, e) ∷ []

    abbrev made : List Entry
    made = made_by p a.lines ++ e ∷ []

    abbrev pub WrittenDown : Pr
    WrittenDown = ⟦ latest_of more ⟧ ∗ ⟦ pass_holds t p ready more ⟧
        ∗ ⟦ seated (seat_set a.seats p ready made) ⟧ ∗ ⟦ located t more ⟧

    abbrev pub Lined : Pr
    Lined = ⟦ latest_of more ⟧ ∗ ⟦ pass_holds t p ready more ⟧
        ∗ ⟦ seated (seat_set a.seats p ready made) ⟧

    -- one more line, by a pass that has seen what it must
    pub writes_line : p < length a.seats
        → seat_of a.seats p ≡ (true, (ready, made_by p seen)) → (t.whole ≡ true → seen ≡ a.lines)
        → ⟦ latest_of a.lines ⟧ ∗ ⟦ withheld t t.whole seen ⟧ ∗ ⟦ seated a.seats ⟧
        ∗ ⟦ seat p ready (made_by p seen) ⟧ ⊢ upd 𝓤 Lined
    writes_line low is whole_seen = let w : Bool = t.whole in let Z : Pr = Lined in
        qed 𝓛 (‵ (latest_of a.lines) ∷ ‵ (withheld t w seen) ∷ ‵ (seated a.seats)
        ∷ ‵ (seat p ready (made_by p seen)) ∷ []) ∵
        use2 𝓛 (raw (upd 𝓤 (⟦ latest_of more ⟧ ∗ ⟦ history_at_least t more ⟧
        ∗ ⟦ withheld t w more ⟧))) (writes 𝓛 t w seen a.lines ((p, e) ∷ []) whole_seen) $
        settle 𝓛 Z (‵ (latest_of more) ⊛ ‵ (history_at_least t more) ⊛ ‵ (withheld t w more)) $
        split3 ! $
        -- [latest; reached; withheld; seats; seat]
        move ! (3 ∷ 4 ∷ []) $ use2 𝓛 (raw (upd 𝓤 (⟦ seated (seat_set a.seats p ready made) ⟧
        ∗ ⟦ seat p ready made ⟧)))
        (row_writes seat_coded 𝓛 t.passes fresh_seat a.seats p (ready, made_by p seen)
        (ready, made) low is) $ settle 𝓛 Z (‵ (seated (seat_set a.seats p ready made))
        ⊛ ‵ (seat p ready made)) $ split ! $
        -- [seats; seat; latest; reached; withheld]
        rewrite ! 1 (λ (m : List Entry). ‵ (seat p ready m)) (sym (made-own p a.lines e)) refl $
        suffices ! _ (upd_i 𝓤 Z) $ move ! (4 ∷ 1 ∷ []) $ fjoin ! $ move ! (3 ∷ 0 ∷ []) $ fjoin ! $
        move ! (2 ∷ 0 ∷ 1 ∷ []) $ done !

    -- the same where the word has a count after it as before
    pub writes_down : Same_count 𝓛 t a.lines p e → p < length a.seats
        → seat_of a.seats p ≡ (true, (ready, made_by p seen)) → (t.whole ≡ true → seen ≡ a.lines)
        → ⟦ latest_of a.lines ⟧ ∗ ⟦ withheld t t.whole seen ⟧ ∗ ⟦ seated a.seats ⟧
        ∗ ⟦ seat p ready (made_by p seen) ⟧ ∗ ⟦ located t a.lines ⟧ ⊢ upd 𝓤 WrittenDown
    writes_down counted low is whole_seen = let w : Bool = t.whole in let Z : Pr = WrittenDown in
        qed 𝓛 (‵ (latest_of a.lines) ∷ ‵ (withheld t w seen) ∷ ‵ (seated a.seats)
        ∷ ‵ (seat p ready (made_by p seen)) ∷ ‵ (located t a.lines) ∷ []) ∵ group ! 4 $
        use1 𝓛 (raw (upd 𝓤 Lined)) (writes_line low is whole_seen) $
        settle 𝓛 Z (‵ (latest_of more) ⊛ ‵ (pass_holds t p ready more)
        ⊛ ‵ (seated (seat_set a.seats p ready made))) $ split3 ! $ suffices ! _ (upd_i 𝓤 Z) $
        -- [latest; the pass; seats; located]
        move ! (3 ∷ []) $ use1 𝓛 (‵ (located t more)) (stays 𝓛 t a.lines p e counted) $
        move ! (1 ∷ 2 ∷ 3 ∷ 0 ∷ []) $ done !

  -- what the invariant says, part by part
  pub opens : (X Z : Pr)
      → ((a : State) → Fits t a → ⟦ latest_of a.lines ⟧ ∗ ⟦ located t a.lines ⟧ ∗ ⟦ rolled a.roll ⟧
      ∗ ⟦ seated a.seats ⟧ ∗ ⟦ tally t (how_many a.roll) ⟧ ∗ ⟦ pool a.lease (how_many a.roll) ⟧ ∗ X
      ⊢ Z)
      → ⟦ contents t ⟧ ∗ X ⊢ Z
  opens X Z k = qed 𝓛 (‵ (contents t) ∷ raw X ∷ []) ∵ fpick ! (λ a. fsplit3 ! $ move ! (2 ∷ []) $
      fsplit3 ! $ move ! (2 ∷ []) $ fsplit ! $ move ! (1 ∷ []) $ fpick ! (λ f. drop ! $ fsplit ! $
      -- [tally; pool; roll; seats; latest; located; X]
      move ! (4 ∷ 5 ∷ 2 ∷ 3 ∷ 0 ∷ 1 ∷ []) $ by ! (k a f)))

  module _ (p : ℕ) (ready : Bool) (seen : List Line) where
    -- what a pass shows of the invariant's state
    pub record Shown (a : State) : Type 0 where
      pub fits : Fits t a
      pub seat_is : (p < length a.seats) × (seat_of a.seats p ≡ (true, (ready, made_by p seen)))
      pub seen_is : IsPrefix seen a.lines × (t.whole ≡ true → seen ≡ a.lines)

    pub opened_by : (X Z : Pr)
        → ((a : State) → Shown a → ⟦ latest_of a.lines ⟧ ∗ ⟦ withheld t t.whole seen ⟧
        ∗ ⟦ seated a.seats ⟧ ∗ ⟦ seat p ready (made_by p seen) ⟧ ∗ ⟦ located t a.lines ⟧
        ∗ ⟦ rolled a.roll ⟧ ∗ ⟦ tally t (how_many a.roll) ⟧ ∗ ⟦ pool a.lease (how_many a.roll) ⟧ ∗ X
        ⊢ Z)
        → ⟦ contents t ⟧ ∗ ⟦ pass_holds t p ready seen ⟧ ∗ X ⊢ Z
    opened_by X Z k = let w : Bool = t.whole in let B : Fml = pass_holds t p ready seen in
        opens (⟦ B ⟧ ∗ X) Z (λ a f.
        qed 𝓛 (‵ (latest_of a.lines) ∷ ‵ (located t a.lines) ∷ ‵ (rolled a.roll)
        ∷ ‵ (seated a.seats) ∷ ‵ (tally t (how_many a.roll)) ∷ ‵ (pool a.lease (how_many a.roll))
        ∷ ‵ B ∷ raw X ∷ []) ∵
        move ! (6 ∷ []) $ fsplit3 ! $
        -- [reached; withheld; seat; latest; located; roll; seats; tally; pool; X]
        move ! (6 ∷ 2 ∷ []) $
        use2 𝓛 (given ((p < length a.seats) × (seat_of a.seats p ≡ (true, (ready, made_by p seen))))
        (‵ (seated a.seats) ⊛ ‵ (seat p ready (made_by p seen))))
        (row_finds seat_coded 𝓛 t.passes fresh_seat a.seats 0 p p quarter (ready, made_by p seen)
        (omega arith)) $
        learn ! (λ seat_is. split ! $
        -- [seats; seat; reached; withheld; latest; located; roll; tally; pool; X]
        move ! (4 ∷ 2 ∷ 3 ∷ []) $
        use3 𝓛 (given (Seen 𝓛 t w seen a.lines) (‵ (latest_of a.lines) ⊛ ‵ (withheld t w seen)))
        (sees 𝓛 t w seen a.lines) $ learn ! (λ seen_is. split ! $
        by ! (k a (record { fits = f; seat_is = seat_is; seen_is = seen_is })))))

    pub made_kept : (a : State) → Shown a → made_by p a.lines ≡ made_by p seen
    made_kept a so = sym (so.fits.made p) ∙ ap (λ (s : Bool × Seat). s.1.1) so.seat_is.1

    -- what one more line by the pass says
    pub follows : (a : State) → Shown a → (n : ℕ) → n ≡ how_many a.roll → (e : Entry)
        → MayFollow t.most t.began (entries_of a.lines) e
        → IsLegal t.most t.began (entries_of (a.lines ++ (p, e) ∷ []))
        → Follows t p seen n a.lines (some e)
    follows a so n number e may legal = let kept : made_by p a.lines ≡ made_by p seen =
        made_kept a so in (
          record {
            after_seen = so.seen_is.0;
            own = kept;
            grown = made-own p a.lines e ∙ ap (λ (es : List Entry). es ++ e ∷ []) kept;
            undisturbed = so.seen_is.1;
            may = may;
            legal = legal;
          },
          number ∙ sym (ap length so.fits.live),
        )

  module _ (p : ℕ) (ready : Bool) (seen : List Line) (o : ℕ) (l : Lease) (q : Share) where
    -- the owner lives, with this lease
    abbrev pub Living : State → Type 0
    Living a = (o < length a.roll) × (get_or a.roll o (false, no_lease) ≡ (true, l))

    abbrev pub Open : State → Pr → Pr
    Open a X = ⟦ latest_of a.lines ⟧ ∗ ⟦ withheld t t.whole seen ⟧ ∗ ⟦ rolled a.roll ⟧
        ∗ ⟦ right t o l q ⟧ ∗ ⟦ seated a.seats ⟧ ∗ ⟦ seat p ready (made_by p seen) ⟧
        ∗ ⟦ located t a.lines ⟧ ∗ X

    -- the same for an owner and a pass
    pub opened : (X Z : Pr)
        → ((a : State) → Shown p ready seen a → Living a
        → Open a (⟦ tally t (how_many a.roll) ⟧ ∗ ⟦ pool a.lease (how_many a.roll) ⟧ ∗ X) ⊢ Z)
        → ⟦ contents t ⟧ ∗ ⟦ pass_holds t p ready seen ⟧ ∗ ⟦ right t o l q ⟧ ∗ X ⊢ Z
    opened X Z k = opened_by p ready seen (⟦ right t o l q ⟧ ∗ X) Z (λ a so. qed 𝓛
        (‵ (latest_of a.lines) ∷ ‵ (withheld t t.whole seen) ∷ ‵ (seated a.seats)
        ∷ ‵ (seat p ready (made_by p seen)) ∷ ‵ (located t a.lines) ∷ ‵ (rolled a.roll)
        ∷ ‵ (tally t (how_many a.roll)) ∷ ‵ (pool a.lease (how_many a.roll))
        ∷ ‵ (right t o l q) ∷ raw X ∷ []) ∵
        move ! (5 ∷ 8 ∷ []) $ use2 𝓛 (given (Living a) (‵ (rolled a.roll) ⊛ ‵ (right t o l q)))
        (row_finds lease_coded 𝓛 t.rights no_lease a.roll 0 o o q l (omega arith)) $
        learn ! (λ owner. split ! $
        -- [roll; right; latest; withheld; seats; seat; located; tally; pool; X]
        move ! (2 ∷ 3 ∷ 0 ∷ 1 ∷ []) $ by ! (k a so owner)))

    -- the same with the number of the word: as many owners live, and the count is there
    pub opened_at : (n : ℕ) (Z : Pr)
        → ((a : State) → Shown p ready seen a → Living a → n ≡ how_many a.roll → counts 𝓛 t a.lines
        → Open a (⟦ has_place t ⟧ ∗ ⟦ counted_as t full_share (how_many a.roll) ⟧
        ∗ ⟦ pool a.lease (how_many a.roll) ⟧) ⊢ Z)
        → ⟦ behind t n ⟧ ∗ ⟦ contents t ⟧ ∗ ⟦ pass_holds t p ready seen ⟧ ∗ ⟦ right t o l q ⟧ ⊢ Z
    opened_at n Z k = qed 𝓛 (‵ (behind t n) ∷ ‵ (contents t) ∷ ‵ (pass_holds t p ready seen)
        ∷ ‵ (right t o l q) ∷ []) ∵
        move ! (1 ∷ 2 ∷ 3 ∷ 0 ∷ []) $
        by ! (opened ⟦ behind t n ⟧ Z (λ a so owner. let m : ℕ = how_many a.roll in qed 𝓛
        (‵ (latest_of a.lines) ∷ ‵ (withheld t t.whole seen) ∷ ‵ (rolled a.roll) ∷ ‵ (right t o l q)
        ∷ ‵ (seated a.seats) ∷ ‵ (seat p ready (made_by p seen)) ∷ ‵ (located t a.lines)
        ∷ ‵ (tally t m) ∷ ‵ (pool a.lease m) ∷ ‵ (behind t n) ∷ []) ∵
        move ! (9 ∷ []) $ fsplit ! $
        -- [the count's quarter; the key; latest; withheld; roll; right; seats; seat; located;
        -- tally; pool]
        move ! (8 ∷ 1 ∷ []) $ use2 𝓛 (given (counts 𝓛 t a.lines) (‵ (located t a.lines)
        ⊛ ‵ (has_place t))) (keyed 𝓛 t a.lines) $
        learn ! (λ counted. split ! $
        -- [located; the key; the count's quarter; latest; withheld; roll; right; seats; seat;
        -- tally; pool]
        move ! (2 ∷ 9 ∷ []) $ use2 𝓛 (given (n ≡ m) (‵ (counted_as t full_share m)))
        (tallies 𝓛 t n m (one-lives a.roll o l owner.1)) $ learn ! (λ number.
        -- [count; located; the key; latest; withheld; roll; right; seats; seat; pool]
        move ! (3 ∷ 4 ∷ 5 ∷ 6 ∷ 7 ∷ 8 ∷ 1 ∷ 2 ∷ 0 ∷ []) $ by ! (k a so owner number counted)))))

    module _ (n : ℕ) (a : State) (so : Shown p ready seen a) (number : n ≡ how_many a.roll)
        (counted : counts 𝓛 t a.lines)
        (entry : List Line → Entry) (roll : List (Bool × Lease)) (lease : Lease) where
      abbrev e : Entry
      e = entry a.lines

      abbrev a' : State
      a' = wrote_for lease a p ready e roll

      abbrev n' : ℕ
      n' = how_many roll

      -- what the invariant still lacks
      abbrev pub Lacks : (List Line → Fml) → Pr
      Lacks gain = (⟦ pool lease n' ⟧ ∗ ⟦ gain a.lines ⟧)
          -∗ (⟦ contents t ⟧ ∗ ⟦ left t p seen (pass_holds t p ready) n
          (λ before. some (entry before)) gain ⟧)

      -- the line is written and the word's part is done: the invariant shuts once it has the pool,
      -- and the caller what it gains
      pub owes : (gain : List Line → Fml) → MayFollow t.most t.began (entries_of a.lines) e
          → Fits t a'
          → ⟦ latest_of a.lines ⟧ ∗ ⟦ withheld t t.whole seen ⟧ ∗ ⟦ rolled roll ⟧
          ∗ ⟦ seated a.seats ⟧ ∗ ⟦ seat p ready (made_by p seen) ⟧ ∗ ⟦ located t a.lines ⟧
          ∗ ⟦ has_place t ⟧ ∗ ⟦ counted_as t full_share (how_many a.roll) ⟧
          ⊢ upd 𝓤 (⟦ behind t n' ⟧ ∗ Lacks gain)
      owes gain may f = let w : Bool = t.whole in let Z : Pr = ⟦ behind t n' ⟧ ∗ Lacks gain in
          let ls : List Line = a'.lines in let so' : Follows t p seen n a.lines
          (some e) = follows p ready seen a so n number e may f.legal in
          qed 𝓛 (‵ (latest_of a.lines) ∷ ‵ (withheld t w seen) ∷ ‵ (rolled roll)
          ∷ ‵ (seated a.seats) ∷ ‵ (seat p ready (made_by p seen)) ∷ ‵ (located t a.lines)
          ∷ ‵ (has_place t) ∷ ‵ (counted_as t full_share (how_many a.roll)) ∷ []) ∵
          move ! (0 ∷ 1 ∷ 3 ∷ 4 ∷ 5 ∷ []) $ group ! 5 $
          use1 𝓛 (raw (upd 𝓤 (WrittenDown p ready seen a e)))
          (writes_down p ready seen a e
          (counts_on 𝓛 t a.lines p e counted) so.seat_is.0 so.seat_is.1 so.seen_is.1) $
          settle 𝓛 Z (‵ (latest_of ls) ⊛ ‵ (pass_holds t p ready ls) ⊛ ‵ (seated a'.seats)
          ⊛ ‵ (located t ls)) $
          split3 ! $ move ! (2 ∷ []) $ split ! $
          -- [seats; located; latest; pass; roll; the key; count]
          move ! (6 ∷ []) $ use1 𝓛 (raw (upd 𝓤 (⟦ counted_as t quarter n' ⟧
          ∗ ⟦ counted_as t three_quarters n' ⟧)))
          (cell_parts coded_ℕ 𝓛 t.count 0 (how_many a.roll) n') $
          settle 𝓛 Z (‵ (counted_as t quarter n') ⊛ ‵ (counted_as t three_quarters n')) $ split ! $
          suffices ! _ (upd_i 𝓤 Z) $
          -- [quarter; three quarters; seats; located; latest; pass; roll; the key]
          move ! (0 ∷ 7 ∷ []) $ fjoin ! $ frame ! $ use1 𝓛 (‵ (tally t n')) (tally_in 𝓛 t n') $
          -- [tally; seats; located; latest; pass; roll]
          assume ! (‵ (pool lease n') ⊛ ‵ (gain a.lines)) $ split ! $ move ! (6 ∷ 1 ∷ []) $
          fjoin ! $
          nothing ! $ fpack ! (Follows t p seen n a.lines (some e)) (λ _. ftrue) so' $ fjoin ! $
          fpack ! (List Line) (left_by t p seen (pass_holds t p ready) n
          (λ before. some (entry before)) gain) a.lines $
          -- [what is left; pool; tally; seats; located; latest; roll]
          move ! (5 ∷ 4 ∷ 6 ∷ 3 ∷ 2 ∷ 1 ∷ 0 ∷ []) $ group ! 6 $
          use1 𝓛 (‵ (contents t)) (shuts a' f) $ done !
