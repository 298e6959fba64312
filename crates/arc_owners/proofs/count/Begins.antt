-- A new invariant, a pass that learns what another has seen, and a new pass. Assumes `Logic`.
use Rattle.std.proofs.Common.{inl, inr, ◌≡◌, ℕ, zero, suc, ◌^◌, ◌<◌, ◌≤◌, Bool, true, false, eqb}
use Rattle.std.proofs.Common.{List, [], ◌∷◌, ◌++◌, length, get_or, set, refl, sym, ap, ◌∙◌, subst}
use Rattle.std.proofs.Common.{arith}
use Rattle.std.proofs.lemmas.Bool.{eqb-true, eqb-false, cases_Bool, false≢true}
use mathlib.Core.Option.{Option, none, some}
use mathlib.Core.List.{IsPrefix}
use seplogic.Ra.Ura.{Ura}
use base.Fraction.{full_share}
use base.FractionLaws.{Counts, Counts-all, not-OpDef-full_share}
use seplogic.Ra.Pcs.{OpDef}
use base.Share
use base.Share.{quarter, three_quarters}
use base.Stored.{coded_ℕ}
use base.Logic.{wand, ex, all, guard, upd, emp, never, never_e, apply∗, id⊢, via}
use base.Logic.{upd_i}
use base.Fml.{Lft, Fml, Share, ftrue, fsep, flft, finv, fnamed}
use base.Growing.{latest, at_least}
use types.Logic.{Logic}
use types.Owned.{basic, named_past}
use types.Growing.{at_least_dup, latest_new, latest_shows, latest_bounds, latest_cut}
use types.Keyed.{entries_new, entries_take, entries_from, ticket, token}
use types.RcWeak.{part, rest, cut}
use types.Tokens.{lft_new}
use types.Kit.{‵, raw, ◌⊛◌, some as any, given, later, ◌$◌, ◌∵◌, !, qed, by, move, drop, split}
use types.Kit.{split3, fsplit, fjoin, fpack, keep, pick, learn, show, check, assume, frame, group}
use types.Kit.{done, use0, use1, use2, use3, rewrite, suffices, settle, updating, await, now}
use denote.Steps.{nothing}
use Rattle.arc_owners.specs.history.Histories.{Beginning, Lone, Counted, LivesAlone, IsLegal}
use Rattle.arc_owners.specs.history.Histories.{is_counted, is_promoted}
use Rattle.arc_owners.specs.history.Histories.{live_owners, owners_ever, owners_ended}
use Rattle.arc_owners.specs.count.LentNotes.{LentNote, no_note}
use Rattle.arc_owners.specs.count.Invariant.{BlockId, Line, entries_of, told_of, trace_shares}
use Rattle.arc_owners.specs.count.Invariant.{made_by, Lease, lease_coded, no_lease, Seat}
use Rattle.arc_owners.specs.count.Invariant.{seat_coded, fresh_seat, halved, ghost_var, row, tally}
use Rattle.arc_owners.specs.count.Invariant.{right, located, lines_order, history_at_least}
use Rattle.arc_owners.specs.count.Invariant.{authority, withheld, places, is_there, told, pool}
use Rattle.arc_owners.specs.count.Invariant.{stake, how_many, living, State, Fits, contents, behind}
use Rattle.arc_owners.specs.count.Invariant.{known, right_owns, right_shown, trace_owns, pass_holds}
use Rattle.arc_owners.specs.count.Invariant.{kept, placed, cell_holds, counted_as}
use Rattle.arc_owners.proofs.count.Signs.{signs}
use Rattle.arc_owners.proofs.count.Operations.{left}
use Rattle.arc_owners.proofs.count.Places.{pauses, outside}
use Rattle.arc_owners.proofs.count.Rolls.{get-more, get-last, living-relet, living-in}
use Rattle.arc_owners.proofs.count.Blocks.{one_block}
use Rattle.arc_owners.proofs.count.Cells.{row_new, row_adds, row_finds, row_writes, cell_parts}
use Rattle.arc_owners.proofs.count.Cells.{row_takes, Set, cell_whole, cell_agrees}
use Rattle.arc_owners.proofs.count.Parts.{top, pool_sole, pool_alone, tally_in}
use Rattle.arc_owners.proofs.count.States.{relet, fits-relet, one-lives}
use Rattle.arc_owners.proofs.history.Steps.{one_is}
use Rattle.arc_owners.proofs.history.Legality.{legal-nil, legal-front}
use Rattle.arc_owners.proofs.count.Rolls.{entries-after}
use Rattle.arc_owners.proofs.count.Opened.{shuts, opens, opened_by, opened, Shown, made_kept}
use Rattle.arc_owners.proofs.count.Opened.{latest_of, rolled, seated, seat}
use Rattle.arc_owners.proofs.count.Shared.{known_twice, shown_read}
use Rattle.arc_owners.proofs.count.Moves.{finishes}
use Rattle.arc_owners.specs.declared.history.entry.Entry.TheVariants.{Down}

abbrev first_of : List ℕ → ℕ
first_of [] = 0
first_of (n ∷ ns) = n

abbrev first_state : Lease → State
first_state l = record {
  lines = [];
  roll = (true, l) ∷ [];
  seats = (true, fresh_seat) ∷ [];
  lease = l;
}

first-made : (l : Lease) (p : ℕ) → (get_or (first_state l).seats p (false, fresh_seat)).1.1
    ≡ made_by p []
first-made l zero = refl
first-made l (suc p) = refl

first-leased : (l : Lease) (o : ℕ) (k : Lease) → get_or (first_state l).roll o (false, no_lease) ≡
    (true, k) → k ≡ l
first-leased l zero k e = ap (λ (x : Bool × Lease). x.1) (sym e)
first-leased l (suc o) k e = absurd (false≢true (ap (λ (x : Bool × Lease). x.0) e))

first-fits : (t : BlockId) (l : Lease) → 2 ≤ t.most → t.most < 2 ^ 64 → Fits t (first_state l)
unfolding live_owners owners_ever owners_ended
first-fits t l two small = record {
  legal = legal-nil t.most t.began;
  live = refl;
  ever = refl;
  made = first-made l;
  leased = first-leased l;
  within = (let e : 1 ≤ t.most = omega arith in e);
  least = two;
  small = small;
}

-- where the count lies as a block begins: a lone one has none, that of a counted one is never asked
abbrev pub first_place : Beginning → Option (ℕ × ℕ)
first_place Lone = none
first_place Counted = some (0, 0)

counted-at-first : (began : Beginning) → is_counted began [] ≡ is_there (first_place began)
unfolding is_counted is_promoted
counted-at-first Lone = refl
counted-at-first Counted = refl

-- what the word of a new block has behind it, or its cell
abbrev pub holds_first : BlockId → Beginning → Fml
holds_first t Lone = cell_holds t none
holds_first t Counted = behind t 1

-- what is known of that place, or had of it
abbrev knows_first : ℕ → Beginning → Fml
knows_first θ Lone = latest places quarter θ none
knows_first θ Counted = at_least places θ (some (0, 0))

module _ {M : Type 1} {𝓤 : Ura M} (𝓛 : Logic 𝓤) where
  open 𝓛 use {H, A as At}
  open signs 𝓛 use {Pr, ◌⊢◌, ◌∗◌, ⟦◌⟧}

  infix 26 ◌⊢◌
  infixr 35 ◌∗◌
  authorized : (t : BlockId) (w : Bool) (ls : List Line)
      → ⟦ latest lines_order full_share t.history ls ⟧ ⊢ ⟦ top 𝓛 t w ls ⟧ ∗ ⟦ withheld t w ls ⟧
  authorized t true ls = qed 𝓛 (‵ (latest lines_order full_share t.history ls) ∷ []) ∵
      use1 𝓛 (‵ (withheld t true ls) ⊛ ‵ (top 𝓛 t true ls))
      (latest_cut lines_order 𝓛 full_share quarter three_quarters t.history ls Share.quarters) $
      split ! $ move ! (1 ∷ 0 ∷ []) $ done !
  authorized t false ls = qed 𝓛 (‵ (latest lines_order full_share t.history ls) ∷ []) ∵ nothing ! $
      move ! (1 ∷ 0 ∷ []) $ done !

  -- what a new lifetime is for, where the block is lent and where it isn't
  funded : (lent : Bool) (a k : ℕ) (l : Lease)
      → l ≡ record { is_lent = lent; lifetime = a; key = k; note = no_note } → ⟦ ticket k 0 ⟧
      ∗ ⟦ rest 64 a 1 ⟧ ∗ ⟦ part 64 a ⟧ ⊢ ⟦ pool l 1 ⟧ ∗ ⟦ stake l ⟧
  funded true a k l is = subst (λ (m : Lease). ⟦ ticket k 0 ⟧ ∗ ⟦ rest 64 a 1 ⟧ ∗ ⟦ part 64 a ⟧
      ⊢ ⟦ pool m 1 ⟧ ∗ ⟦ stake m ⟧) (sym is) (let m : Lease = record {
        is_lent = true;
        lifetime = a;
        key = k;
        note = no_note;
      } in
      qed 𝓛 (‵ (ticket k 0) ∷ ‵ (rest 64 a 1) ∷ ‵ (part 64 a) ∷ []) ∵ move ! (1 ∷ 0 ∷ []) $
      fjoin ! $ use1 𝓛 (‵ (pool m 1)) (id⊢ 𝓤 _) $ done !)
  funded false a k l is = subst (λ (m : Lease). ⟦ ticket k 0 ⟧ ∗ ⟦ rest 64 a 1 ⟧ ∗ ⟦ part 64 a ⟧
      ⊢ ⟦ pool m 1 ⟧ ∗ ⟦ stake m ⟧) (sym is) (let m : Lease = record {
        is_lent = false;
        lifetime = a;
        key = k;
        note = no_note;
      } in
      qed 𝓛 (‵ (ticket k 0) ∷ ‵ (rest 64 a 1) ∷ ‵ (part 64 a) ∷ []) ∵ drop ! $ drop ! $ drop ! $
      nothing ! $ use1 𝓛 (‵ (stake m)) (id⊢ 𝓤 _) $
      nothing ! $ fpack ! (0 ≡ 0) (λ _. ftrue) refl $ use1 𝓛 (‵ (pool m 1)) (id⊢ 𝓤 _) $ done !)

  splits_first : (θ : ℕ) (began : Beginning) → ⟦ latest places full_share θ (first_place began) ⟧
      ⊢ ⟦ latest places three_quarters θ (first_place began) ⟧ ∗ ⟦ knows_first θ began ⟧
  splits_first θ Lone = qed 𝓛 (‵ (latest places full_share θ none) ∷ []) ∵
      use1 𝓛 (‵ (latest places quarter θ none) ⊛ ‵ (latest places three_quarters θ none))
      (latest_cut places 𝓛 full_share quarter three_quarters θ none Share.quarters) $ split ! $
      move ! (1 ∷ 0 ∷ []) $ done !
  splits_first θ Counted = let x : Option (ℕ × ℕ) = some (0, 0) in
      qed 𝓛 (‵ (latest places full_share θ x) ∷ []) ∵
      use1 𝓛 (‵ (latest places full_share θ x) ⊛ ‵ (at_least places θ x))
      (latest_shows places 𝓛 full_share θ x x (places.same x)) $ split ! $
      use1 𝓛 (‵ (latest places quarter θ x) ⊛ ‵ (latest places three_quarters θ x))
      (latest_cut places 𝓛 full_share quarter three_quarters θ x Share.quarters) $
      split ! $ drop ! $ done !

  holds : (t : BlockId) (began : Beginning) → ⟦ counted_as t quarter 1 ⟧
      ∗ ⟦ knows_first t.place began ⟧ ⊢ ⟦ holds_first t began ⟧
  holds t Lone = qed 𝓛 (‵ (counted_as t quarter 1) ∷ ‵ (placed t quarter none) ∷ []) ∵
      move ! (1 ∷ 0 ∷ []) $ fjoin ! $ done !
  holds t Counted =
      qed 𝓛 (‵ (counted_as t quarter 1) ∷ ‵ (at_least places t.place (some (0, 0))) ∷ []) ∵
      move ! (1 ∷ []) $ fpack ! (ℕ × ℕ) (λ y. at_least places t.place (some y)) (0, 0) $
      move ! (1 ∷ 0 ∷ []) $ fjoin ! $ done !

  -- a new block with this bank
  abbrev pub Fresh : ℕ → Beginning → Bool → Bool → ℕ × ℕ → BlockId × Lease → Pr
  Fresh most began w lent bank x = guard 𝓤 ((x.0.most ≡ most) × (x.0.began ≡ began)
      × (x.0.whole ≡ w) × (x.1.is_lent ≡ lent) × (x.0.bank ≡ bank.0) × (x.0.receipts ≡ bank.1))
      (⟦ holds_first x.0 began ⟧ ∗ ⟦ right_owns true x.0 0 x.1 [] ⟧
      ∗ ⟦ trace_owns true x.0 0 false [] ⟧)

  pub begins : (most : ℕ) (began : Beginning) (w lent : Bool) (bank : ℕ × ℕ) → 2 ≤ most
      → most < 2 ^ 64 → emp 𝓤 ⊢ H.⇛ (ex 𝓤 (Fresh most began w lent bank))
  begins most began w lent bank two small = qed 𝓛 [] ∵ updating ! $ lft_new ! tt (λ a.
      use1 𝓛 (‵ (rest 64 a 1) ⊛ ‵ (part 64 a)) (cut 64 𝓛 a 0 full_share (omega arith)
      (subst (Counts 64 full_share) (omega arith) (Counts-all 64))) $ split ! $
      use0 𝓛 (later (any (λ (k : ℕ). ‵ (entries_from token k 0 (λ _. tt)))))
      (via 𝓤 _ (entries_new token 𝓛 0 (λ _. tt)) (basic 𝓛 _)) $ await ! tt $ pick ! (λ k.
      use1 𝓛 (‵ (ticket k 0) ⊛ ‵ (entries_from token k 1 (λ _. tt)))
      (entries_take token 𝓛 k 0 (λ _. tt)) $ split ! $ move ! (1 ∷ []) $ drop ! $
      let l : Lease = record { is_lent = lent; lifetime = a; key = k; note = no_note } in
      -- [the ticket; the pool's rest; the stake]
      use3 𝓛 (‵ (pool l 1) ⊛ ‵ (stake l)) (funded lent a k l refl) $ split ! $
      use0 𝓛 (later (any (λ (η : ℕ). ‵ (latest lines_order full_share η []))))
      (via 𝓤 _ (latest_new lines_order 𝓛 []) (basic 𝓛 _)) $ await ! tt $ pick ! (λ η.
      use0 𝓛 (later (any (λ (δ : ℕ). ‵ (row lease_coded no_lease δ 0 []))))
      (via 𝓤 _ (row_new lease_coded 𝓛 0 no_lease) (basic 𝓛 _)) $ await ! tt $ pick ! (λ δ.
      use1 𝓛 (later (‵ (row lease_coded no_lease δ 0 ((true, l) ∷ []))
      ⊛ ‵ (ghost_var lease_coded δ 0 quarter l))) (via 𝓤 _ (row_adds lease_coded 𝓛 δ no_lease [] l)
      (basic 𝓛 _)) $ await ! tt $ split ! $
      use0 𝓛 (later (any (λ (π : ℕ). ‵ (row seat_coded fresh_seat π 0 []))))
      (via 𝓤 _ (row_new seat_coded 𝓛 0 fresh_seat) (basic 𝓛 _)) $ await ! tt $ pick ! (λ π.
      use1 𝓛 (later (‵ (row seat_coded fresh_seat π 0 ((true, fresh_seat) ∷ []))
      ⊛ ‵ (ghost_var seat_coded π 0 quarter fresh_seat)))
      (via 𝓤 _ (row_adds seat_coded 𝓛 π fresh_seat [] fresh_seat) (basic 𝓛 _)) $ await ! tt $
      split ! $
      use0 𝓛 (later (any (λ (γ : ℕ). ‵ (row coded_ℕ 0 γ 0 []))))
      (via 𝓤 _ (row_new coded_ℕ 𝓛 0 0) (basic 𝓛 _)) $ await ! tt $ pick ! (λ γ.
      use1 𝓛 (‵ (ghost_var coded_ℕ γ 0 full_share 0)
      ⊛ ‵ (entries_from (halved coded_ℕ) γ 1 (λ _. (full_share, 0))))
      (entries_take (halved coded_ℕ) 𝓛 γ 0 (λ _. (full_share, 0))) $ split ! $ move ! (1 ∷ []) $
      drop ! $
      use1 𝓛 (later (‵ (ghost_var coded_ℕ γ 0 quarter 1)
      ⊛ ‵ (ghost_var coded_ℕ γ 0 three_quarters 1)))
      (via 𝓤 _ (cell_parts coded_ℕ 𝓛 γ 0 0 1) (basic 𝓛 _)) $ await ! tt $ split ! $
      let x₀ : Option (ℕ × ℕ) = first_place began in
      use0 𝓛 (later (any (λ (θ : ℕ). ‵ (latest places full_share θ x₀))))
      (via 𝓤 _ (latest_new places 𝓛 x₀) (basic 𝓛 _)) $ await ! tt $ pick ! (λ θ.
      use1 𝓛 (‵ (latest places three_quarters θ x₀) ⊛ ‵ (knows_first θ began))
      (splits_first θ began) $ split ! $
      let t₀ : BlockId = record {
        number = 0;
        history = η;
        rights = δ;
        passes = π;
        count = γ;
        place = θ;
        bank = bank.0;
        receipts = bank.1;
        most = most;
        began = began;
        whole = w;
      } in let acc : State = first_state l in
      -- [the place; what is known of it; the count's quarter; tally; the seats; the seat; the roll;
      -- the right; the history; the pool; the stake]
      nothing ! $ fpack ! (is_counted began [] ≡ is_there x₀)
      (λ _. ftrue) (counted-at-first began) $ move ! (1 ∷ 0 ∷ []) $ fjoin ! $
      fpack ! (Option (ℕ × ℕ)) (λ x. fsep (latest places three_quarters θ x)
      (told (is_counted began [] ≡ is_there x))) x₀ $
      move ! (8 ∷ []) $ use1 𝓛 (‵ (latest lines_order full_share η [])
      ⊛ ‵ (at_least lines_order η [])) (latest_shows lines_order 𝓛 full_share η [] []
      (lines_order.same [])) $ split ! $
      use1 𝓛 (‵ (latest_of 𝓛 t₀ []) ⊛ ‵ (withheld t₀ w [])) (authorized t₀ w []) $ split ! $
      -- [latest; withheld; reached; located; what is known of the place; the count's quarter; tally; the seats;
      -- the seat; the roll; the right; the pool; the stake]
      move ! (6 ∷ []) $ use1 𝓛 (‵ (tally t₀ 1)) (tally_in 𝓛 t₀ 1) $
      -- [tally; latest; withheld; reached; located; what is known of the place; the count's quarter; the seats;
      -- the seat; the roll; the right; the pool; the stake]
      move ! (1 ∷ 4 ∷ 9 ∷ 7 ∷ 0 ∷ 11 ∷ []) $ group ! 6 $
      use1 𝓛 (‵ (contents t₀)) (shuts 𝓛 t₀ acc (first-fits t₀ l two small)) $
      use1 𝓛 (later (any (λ (j : ℕ). given (0 ≤ j) (‵ (fnamed j (contents t₀))))))
      (named_past 𝓛 0 (contents t₀)) $ await ! tt $
      pick ! (λ j. learn ! (λ _. let t : BlockId = record t₀ { number = j } in
      -- [the invariant; withheld; reached; what is known of the place; the count's quarter; the seat; the
      -- right; the stake]
      move ! (0 ∷ 2 ∷ []) $ fjoin ! $ use1 𝓛 (‵ (known t [])) (id⊢ 𝓤 _) $
      use1 𝓛 (‵ (known t []) ⊛ ‵ (known t [])) (known_twice 𝓛 t []) $ split ! $
      -- [known; known; withheld; what is known of the place; the count's quarter; the seat; the right; the
      -- stake]
      move ! (4 ∷ 3 ∷ []) $ use2 𝓛 (‵ (holds_first t began)) (holds t began) $
      -- [the word's; known; known; withheld; the seat; the right; the stake]
      move ! (5 ∷ 6 ∷ []) $ fjoin ! $ move ! (2 ∷ 0 ∷ []) $ fjoin ! $
      use1 𝓛 (‵ (right_owns true t 0 l [])) (id⊢ 𝓤 _) $
      -- [the right; the word's; known; withheld; the seat]
      move ! (3 ∷ 4 ∷ []) $ fjoin ! $ move ! (3 ∷ 0 ∷ []) $ fjoin ! $
      use1 𝓛 (‵ (trace_owns true t 0 false [])) (id⊢ 𝓤 _) $
      now ! $ show ! (Fresh most began w lent bank) (t, l) $
      check ! (refl, refl, refl, refl, refl, refl) $
      move ! (2 ∷ 1 ∷ 0 ∷ []) $ done !)))))))))

  module _ (t : BlockId) where
    abbrev J : Fml
    J = contents t

    abbrev N : Fml
    N = fnamed t.number J

    pub still : (w : Bool) (seen ls : List Line) → (w ≡ true → seen ≡ ls) → ⟦ withheld t w seen ⟧
        ⊢ ⟦ withheld t w ls ⟧
    still true seen ls e = subst (λ (x : List Line). ⟦ withheld t true seen ⟧
        ⊢ ⟦ withheld t true x ⟧) (e refl) (id⊢ 𝓤 _)
    still false seen ls e = id⊢ 𝓤 (emp 𝓤)

    -- the invariant is opened for an update
    within : (X Z : Pr) → ⟦ J ⟧ ∗ X ⊢ upd 𝓤 (⟦ J ⟧ ∗ Z) → ⟦ N ⟧ ∗ X ⊢ H.⇛ Z
    within X Z h = qed 𝓛 (‵ N ∷ raw X ∷ []) ∵ use1 𝓛 (‵ (finv J)) (𝓛.invs.named_inv t.number J) $
        suffices ! _ (𝓛.invs.inv_acc J Z) $ frame ! $ assume ! (‵ J) $ by ! h

    -- a pass sees all that the history is now
    catches_up : (p : ℕ) (ready : Bool) (seen : List Line) (a : State) → Shown 𝓛 t p ready seen a
        → ⟦ N ⟧ ∗ ⟦ latest_of 𝓛 t a.lines ⟧ ∗ ⟦ withheld t t.whole seen ⟧
        ∗ ⟦ seat 𝓛 t p ready (made_by p seen) ⟧
        ⊢ ⟦ trace_owns true t p ready a.lines ⟧ ∗ ⟦ latest_of 𝓛 t a.lines ⟧
    catches_up p ready seen a so = let w : Bool = t.whole in
        qed 𝓛 (‵ N ∷ ‵ (latest_of 𝓛 t a.lines) ∷ ‵ (withheld t w seen)
        ∷ ‵ (seat 𝓛 t p ready (made_by p seen)) ∷ []) ∵
        move ! (1 ∷ []) $ use1 𝓛 (‵ (latest_of 𝓛 t a.lines) ⊛ ‵ (history_at_least t a.lines))
        (latest_shows lines_order 𝓛 (authority w) t.history a.lines a.lines
        (lines_order.same a.lines)) $ split ! $
        -- [latest; reached; the invariant; withheld; seat]
        move ! (3 ∷ []) $ use1 𝓛 (‵ (withheld t w a.lines)) (still w seen a.lines so.seen_is.1) $
        move ! (4 ∷ []) $ rewrite ! 0 (λ (m : List _). ‵ (seat 𝓛 t p ready m))
        (sym (made_kept 𝓛 t p ready seen a so)) refl $
        move ! (1 ∷ 0 ∷ []) $ fjoin ! $
        -- [withheld and seat; latest; reached; the invariant]
        move ! (3 ∷ 2 ∷ []) $ fjoin ! $ fjoin ! $ done !

    abbrev pub Learned : ℕ → Bool → List Line → List Line → List Line → Pr
    Learned p ready seen other ls = guard 𝓤 (IsPrefix seen ls × IsPrefix other ls
        × (made_by p ls ≡ made_by p seen))
        ⟦ trace_owns true t p ready ls ⟧

    -- a pass sees all that the history is now, so also what another pass had seen
    pub learns : (p : ℕ) (ready : Bool) (seen other : List Line)
        → ⟦ trace_owns true t p ready seen ⟧ ∗ ⟦ history_at_least t other ⟧
        ⊢ H.⇛ (ex 𝓤 (Learned p ready seen other))
    learns p ready seen other = let Z : Pr = ex 𝓤 (Learned p ready seen other) in
        let B : Fml = pass_holds t p ready seen in
        let w : Bool = t.whole in let E : Fml = history_at_least t other in
        qed 𝓛 (‵ (trace_owns true t p ready seen) ∷ ‵ E ∷ []) ∵
        use1 𝓛 (‵ N ⊛ ‵ N ⊛ ‵ B) (pauses 𝓛 t p ready seen) $ split3 ! $
        by ! (within (⟦ N ⟧ ∗ ⟦ B ⟧ ∗ ⟦ E ⟧) Z
        (qed 𝓛 (‵ J ∷ ‵ N ∷ ‵ B ∷ ‵ E ∷ []) ∵ suffices ! _ (upd_i 𝓤 (⟦ J ⟧ ∗ Z)) $
        move ! (0 ∷ 2 ∷ 1 ∷ 3 ∷ []) $
        by ! (opened_by 𝓛 t p ready seen (⟦ N ⟧ ∗ ⟦ E ⟧) (⟦ J ⟧ ∗ Z) (λ a so.
        qed 𝓛 (‵ (latest_of 𝓛 t a.lines) ∷ ‵ (withheld t w seen) ∷ ‵ (seated 𝓛 t a.seats)
        ∷ ‵ (seat 𝓛 t p ready (made_by p seen)) ∷ ‵ (located t a.lines) ∷ ‵ (rolled 𝓛 t a.roll)
        ∷ ‵ (tally t (how_many a.roll)) ∷ ‵ (pool a.lease (how_many a.roll)) ∷ ‵ N ∷ ‵ E ∷ []) ∵
        move ! (0 ∷ 9 ∷ []) $ use2 𝓛 (given (IsPrefix other a.lines) (‵ (latest_of 𝓛 t a.lines)
        ⊛ ‵ E))
        (latest_bounds lines_order 𝓛 (authority w) t.history a.lines other) $
        learn ! (λ past. split ! $ move ! (1 ∷ []) $ drop ! $
        -- [latest; withheld; seats; seat; located; roll; tally; pool; the invariant]
        move ! (8 ∷ 0 ∷ 1 ∷ 3 ∷ []) $ group ! 4 $
        use1 𝓛 (‵ (trace_owns true t p ready a.lines) ⊛ ‵ (latest_of 𝓛 t a.lines))
        (catches_up p ready seen a so) $ split ! $
        -- [the pass; latest; seats; located; roll; tally; pool]
        move ! (1 ∷ 3 ∷ 4 ∷ 2 ∷ 5 ∷ 6 ∷ []) $ group ! 6 $ use1 𝓛 (‵ J) (shuts 𝓛 t a so.fits) $
        frame ! $
        show ! (Learned p ready seen other) a.lines $
        check ! (so.seen_is.0, past, made_kept 𝓛 t p ready seen a so) $ done !)))))

    abbrev more_seats : State → State
    more_seats a = record a { seats = a.seats ++ (true, fresh_seat) ∷ [] }

    more-made : (a : State) → Fits t a → (p : ℕ)
        → (get_or (more_seats a).seats p (false, fresh_seat)).1.1 ≡ made_by p a.lines
    more-made a f p = elim (cases_Bool (eqb (length a.seats) p)) [
      | inl same ↦ (let is : length a.seats ≡ p = eqb-true (length a.seats) p same in
          subst (λ (i : ℕ). (get_or (more_seats a).seats i (false, fresh_seat)).1.1
          ≡ made_by i a.lines) is
          (ap (λ (s : Bool × Seat). s.1.1) (get-last a.seats (true, fresh_seat) (false, fresh_seat))
          ∙ (ap (λ (s : Bool × Seat). s.1.1)
          (sym (Rattle.arc_owners.proofs.count.Rolls.get-past a.seats (false, fresh_seat)))
          ∙ f.made (length a.seats))))
      | inr other ↦ ap (λ (s : Bool × Seat). s.1.1)
          (get-more a.seats (true, fresh_seat) (false, fresh_seat) p
          (eqb-false (length a.seats) p other)) ∙ f.made p
    ]

    abbrev pub Forked : List Line → ℕ × List Line → Pr
    Forked born x = guard 𝓤 (IsPrefix born x.1
        × (made_by x.0 x.1 ≡ [])) ⟦ trace_owns true t x.0 false x.1 ⟧

    unwithheld : (w : Bool) (ls : List Line) → w ≡ false → emp 𝓤 ⊢ ⟦ withheld t w ls ⟧
    unwithheld true ls e = absurd (false≢true (sym e))
    unwithheld false ls e = id⊢ 𝓤 (emp 𝓤)

    -- a new pass has seen all that the history is now, and has made nothing of it
    pub forks : (born : List Line) → t.whole ≡ false → ⟦ known t born ⟧ ⊢ H.⇛ (ex 𝓤 (Forked born))
    forks born open_mark = let Z : Pr = ex 𝓤 (Forked born) in let w : Bool = t.whole in
        let E : Fml = history_at_least t born in
        qed 𝓛 (‵ (known t born) ∷ []) ∵ fsplit ! $ use1 𝓛 (‵ N ⊛ ‵ N)
        (𝓛.invs.named_dup t.number J) $ split ! $
        by ! (within (⟦ N ⟧ ∗ ⟦ E ⟧) Z (opens 𝓛 t (⟦ N ⟧ ∗ ⟦ E ⟧) (upd 𝓤 (⟦ J ⟧ ∗ Z)) (λ a f.
        let p : ℕ = length a.seats in let a' : State = more_seats a in
        qed 𝓛 (‵ (latest_of 𝓛 t a.lines) ∷ ‵ (located t a.lines) ∷ ‵ (rolled 𝓛 t a.roll)
        ∷ ‵ (seated 𝓛 t a.seats) ∷ ‵ (tally t (how_many a.roll))
        ∷ ‵ (pool a.lease (how_many a.roll)) ∷ ‵ N ∷ ‵ E ∷ []) ∵
        move ! (3 ∷ []) $ use1 𝓛 (raw (upd 𝓤 (⟦ seated 𝓛 t a'.seats ⟧ ∗ ⟦ seat 𝓛 t p false [] ⟧)))
        (row_adds seat_coded 𝓛 t.passes fresh_seat a.seats fresh_seat) $
        settle 𝓛 (⟦ J ⟧ ∗ Z) (‵ (seated 𝓛 t a'.seats) ⊛ ‵ (seat 𝓛 t p false [])) $ split ! $
        suffices ! _ (upd_i 𝓤 (⟦ J ⟧ ∗ Z)) $
        -- [seats; seat; latest; located; roll; tally; pool; the invariant; reached]
        move ! (2 ∷ 8 ∷ []) $ use2 𝓛 (given (IsPrefix born a.lines) (‵ (latest_of 𝓛 t a.lines)
        ⊛ ‵ E))
        (latest_bounds lines_order 𝓛 (authority w) t.history a.lines born) $
        learn ! (λ past. split ! $ move ! (1 ∷ []) $ drop ! $
        use1 𝓛 (‵ (latest_of 𝓛 t a.lines) ⊛ ‵ (history_at_least t a.lines))
        (latest_shows lines_order 𝓛 (authority w) t.history a.lines a.lines
        (lines_order.same a.lines)) $ split ! $
        -- [latest; reached; seats; seat; located; roll; tally; pool; the invariant]
        let none_made : made_by p a.lines ≡ [] = sym (f.made p)
        ∙ ap (λ (s : Bool × Seat). s.1.1) (Rattle.arc_owners.proofs.count.Rolls.get-past a.seats
        (false, fresh_seat)) in
        use0 𝓛 (‵ (withheld t w a.lines)) (unwithheld w a.lines open_mark) $ move ! (4 ∷ []) $
        rewrite ! 0 (λ (m : List _). ‵ (seat 𝓛 t p false m)) (sym none_made) refl $
        move ! (1 ∷ 0 ∷ []) $ fjoin ! $
        -- [withheld and seat; latest; reached; seats; located; roll; tally; pool; the invariant]
        move ! (8 ∷ 2 ∷ []) $ fjoin ! $ fjoin ! $
        let f' : Fits t a' = record {
          legal = f.legal;
          live = f.live;
          ever = f.ever;
          made = more-made a f;
          leased = f.leased;
          within = f.within;
          least = f.least;
          small = f.small;
        } in
        -- [the pass; latest; seats; located; roll; tally; pool]
        move ! (1 ∷ 3 ∷ 4 ∷ 2 ∷ 5 ∷ 6 ∷ []) $ group ! 6 $ use1 𝓛 (‵ J) (shuts 𝓛 t a' f') $ frame ! $
        show ! (Forked born) (p, a.lines) $ check ! (past, none_made) $ done !))))

    -- the owner, to whom the block is lent with a lease of which this holds
    abbrev pub Relet : ℕ → List Line → (Lease → Type 0) → Lease → Pr
    Relet o born φ l = guard 𝓤 ((l.is_lent ≡ true) × φ l) ⟦ right_owns true t o l born ⟧

    resets : (o : ℕ) (l m : Lease) (born : List Line) (φ : Lease → Type 0) → l.is_lent ≡ false
        → (m.is_lent ≡ true) × φ m
        → ⟦ N ⟧ ∗ ⟦ known t born ⟧ ∗ ⟦ right t o l quarter ⟧ ∗ ⟦ stake m ⟧ ∗ ⟦ pool m 1 ⟧
        ⊢ H.⇛ (ex 𝓤 (Relet o born φ))
    resets o l m born φ unlent lent = let Z : Pr = ex 𝓤 (Relet o born φ) in
        let K : Fml = known t born in let R : Fml = right t o l quarter in
        let X : Pr = ⟦ K ⟧ ∗ ⟦ R ⟧ ∗ ⟦ stake m ⟧ ∗ ⟦ pool m 1 ⟧ in
        within X Z (opens 𝓛 t X (upd 𝓤 (⟦ J ⟧ ∗ Z)) (λ a f.
        qed 𝓛 (‵ (latest_of 𝓛 t a.lines) ∷ ‵ (located t a.lines) ∷ ‵ (rolled 𝓛 t a.roll)
        ∷ ‵ (seated 𝓛 t a.seats) ∷ ‵ (tally t (how_many a.roll))
        ∷ ‵ (pool a.lease (how_many a.roll)) ∷ ‵ K ∷ ‵ R ∷ ‵ (stake m) ∷ ‵ (pool m 1) ∷ []) ∵
        move ! (2 ∷ 7 ∷ []) $
        use2 𝓛 (given ((o < length a.roll) × (get_or a.roll o (false, no_lease) ≡ (true, l)))
        (‵ (rolled 𝓛 t a.roll) ⊛ ‵ R))
        (row_finds lease_coded 𝓛 t.rights no_lease a.roll 0 o o quarter l (omega arith)) $
        learn ! (λ owner_is. split ! $ let leased : l ≡ a.lease = f.leased o l owner_is.1 in
        -- [roll; right; latest; located; seats; tally; pool; known; the stake; the new pool]
        move ! (6 ∷ []) $ use1 𝓛 (given (how_many a.roll ≡ 1) (raw (emp 𝓤)))
        (pool_sole 𝓛 t a.lease (how_many a.roll)
        (ap (λ (k : Lease). k.is_lent) (sym leased) ∙ unlent) (one-lives a.roll o l owner_is.1)) $
        learn ! (λ one. drop ! $
        let roll' : List (Bool × Lease) = set a.roll o (true, m) in
        let still : how_many roll' ≡ how_many a.roll = ap length
        (living-relet 0 o a.roll l m owner_is.1) in
        use2 𝓛 (raw (upd 𝓤 (⟦ rolled 𝓛 t roll' ⟧ ∗ ⟦ right t o m quarter ⟧)))
        (row_writes lease_coded 𝓛 t.rights no_lease a.roll o l m owner_is.0 owner_is.1) $
        settle 𝓛 (⟦ J ⟧ ∗ Z) (‵ (rolled 𝓛 t roll') ⊛ ‵ (right t o m quarter)) $ split ! $
        suffices ! _ (upd_i 𝓤 (⟦ J ⟧ ∗ Z)) $
        -- [roll; right; latest; located; seats; tally; known; the stake; the new pool]
        move ! (1 ∷ 7 ∷ []) $ fjoin ! $ move ! (6 ∷ 0 ∷ []) $ fjoin ! $
        use1 𝓛 (‵ (right_owns true t o m born)) (id⊢ 𝓤 _) $
        -- [the owner; roll; latest; located; seats; tally; the new pool]
        move ! (5 ∷ []) $ rewrite ! 0 (λ (k : ℕ). ‵ (tally t k)) (sym still) refl $
        move ! (6 ∷ []) $ rewrite ! 0 (λ (k : ℕ). ‵ (pool m k)) (sym (still ∙ one)) refl $
        -- [the new pool; tally; the owner; roll; latest; located; seats]
        move ! (4 ∷ 5 ∷ 3 ∷ 6 ∷ 1 ∷ 0 ∷ []) $ group ! 6 $ use1 𝓛 (‵ J)
        (shuts 𝓛 t (relet a o m) (fits-relet t a f o l m owner_is.0 owner_is.1 one)) $ frame ! $
        show ! (Relet o born φ) m $ check ! lent $ done !))))

    -- a sole owner lends the block anew, for a lifetime of which it has the whole token, and with
    -- a note of what else is lent for it
    pub relets_for : (o : ℕ) (l : Lease) (born : List Line) (a : ℕ) (n : LentNote)
        (φ : Lease → Type 0) → l.is_lent ≡ false
        → ((k : ℕ) → φ (record { is_lent = true; lifetime = a; key = k; note = n }))
        → ⟦ flft (a ∷ []) full_share ⟧ ∗ ⟦ right_owns true t o l born ⟧
        ⊢ H.⇛ (ex 𝓤 (Relet o born φ))
    relets_for o l born a n φ unlent fits = let Z : Pr = ex 𝓤 (Relet o born φ) in
        qed 𝓛 (‵ (flft (a ∷ []) full_share) ∷ ‵ (right_owns true t o l born) ∷ []) ∵ updating ! $
        use1 𝓛 (‵ (rest 64 a 1) ⊛ ‵ (part 64 a)) (cut 64 𝓛 a 0 full_share (omega arith)
        (subst (Counts 64 full_share) (omega arith) (Counts-all 64))) $ split ! $
        use0 𝓛 (later (any (λ (k : ℕ). ‵ (entries_from token k 0 (λ _. tt)))))
        (via 𝓤 _ (entries_new token 𝓛 0 (λ _. tt)) (basic 𝓛 _)) $ await ! tt $ pick ! (λ k.
        use1 𝓛 (‵ (ticket k 0) ⊛ ‵ (entries_from token k 1 (λ _. tt)))
        (entries_take token 𝓛 k 0 (λ _. tt)) $ split ! $ move ! (1 ∷ []) $ drop ! $
        let m : Lease = record { is_lent = true; lifetime = a; key = k; note = n } in
        -- [the ticket; the pool's rest; the stake; the right]
        move ! (1 ∷ 0 ∷ []) $ fjoin ! $ use1 𝓛 (‵ (pool m 1)) (id⊢ 𝓤 _) $ move ! (1 ∷ []) $
        use1 𝓛 (‵ (stake m)) (id⊢ 𝓤 _) $ move ! (2 ∷ []) $ fsplit ! $ move ! (1 ∷ []) $ fsplit ! $
        move ! (1 ∷ []) $ drop ! $
        -- [the right; the invariant; the stake; the pool]
        move ! (1 ∷ []) $ use1 𝓛 (‵ (known t born) ⊛ ‵ (known t born)) (known_twice 𝓛 t born) $
        split ! $ fsplit ! $ move ! (1 ∷ []) $ drop ! $
        -- [the invariant; known; the right; the stake; the pool]
        move ! (0 ∷ 1 ∷ 2 ∷ 3 ∷ 4 ∷ []) $ by ! (resets o l m born φ unlent (refl, fits k)))

    -- the same, for a lifetime of its own, for which nothing else is lent
    pub relets : (o : ℕ) (l : Lease) (born : List Line) → l.is_lent ≡ false
        → ⟦ right_owns true t o l born ⟧ ⊢ H.⇛ (ex 𝓤 (Relet o born (λ m. m.note ≡ no_note)))
    relets o l born unlent = qed 𝓛 (‵ (right_owns true t o l born) ∷ []) ∵ updating ! $
        lft_new ! tt (λ a. move ! (0 ∷ 1 ∷ []) $
        by ! (relets_for o l born a no_note (λ m. m.note ≡ no_note) unlent (λ k. refl)))

    -- the leases of two owners of one block are one
    pub same_leases : (born : List Line) (o : ℕ) (l : Lease) (q : Share) (p : ℕ) (m : Lease)
        (r : Share)
        → ⟦ known t born ⟧ ∗ ⟦ right t o l q ⟧ ∗ ⟦ right t p m r ⟧
        ⊢ H.⇛ (guard 𝓤 (m ≡ l) (⟦ right t o l q ⟧ ∗ ⟦ right t p m r ⟧))
    same_leases born o l q p m r = let R : Fml = right t o l q in let S : Fml = right t p m r in
        let Z : Pr = guard 𝓤 (m ≡ l) (⟦ R ⟧ ∗ ⟦ S ⟧) in
        qed 𝓛 (‵ (known t born) ∷ ‵ R ∷ ‵ S ∷ []) ∵ fsplit ! $ move ! (1 ∷ []) $ drop ! $
        by ! (within (⟦ R ⟧ ∗ ⟦ S ⟧) Z (opens 𝓛 t (⟦ R ⟧ ∗ ⟦ S ⟧) (upd 𝓤 (⟦ J ⟧ ∗ Z)) (λ a f.
        qed 𝓛 (‵ (latest_of 𝓛 t a.lines) ∷ ‵ (located t a.lines) ∷ ‵ (rolled 𝓛 t a.roll)
        ∷ ‵ (seated 𝓛 t a.seats) ∷ ‵ (tally t (how_many a.roll))
        ∷ ‵ (pool a.lease (how_many a.roll)) ∷ ‵ R ∷ ‵ S ∷ []) ∵
        suffices ! _ (upd_i 𝓤 (⟦ J ⟧ ∗ Z)) $ move ! (2 ∷ 6 ∷ []) $
        use2 𝓛 (given ((o < length a.roll) × (get_or a.roll o (false, no_lease) ≡ (true, l)))
        (‵ (rolled 𝓛 t a.roll) ⊛ ‵ R))
        (row_finds lease_coded 𝓛 t.rights no_lease a.roll 0 o o q l (omega arith)) $
        learn ! (λ one. split ! $
        -- [roll; right; latest; located; seats; tally; pool; the other right]
        move ! (0 ∷ 7 ∷ []) $
        use2 𝓛 (given ((p < length a.roll) × (get_or a.roll p (false, no_lease) ≡ (true, m)))
        (‵ (rolled 𝓛 t a.roll) ⊛ ‵ S))
        (row_finds lease_coded 𝓛 t.rights no_lease a.roll 0 p p r m (omega arith)) $
        learn ! (λ other. split ! $
        -- [roll; the other right; right; latest; located; seats; tally; pool]
        move ! (3 ∷ 4 ∷ 0 ∷ 5 ∷ 6 ∷ 7 ∷ []) $ group ! 6 $ use1 𝓛 (‵ J) (shuts 𝓛 t a f) $
        frame ! $ check ! (f.leased p m other.1 ∙ sym (f.leased o l one.1)) $
        move ! (1 ∷ 0 ∷ []) $ done !)))))

    abbrev Leases : BlockId → Lease → Lease → Lft → Share → Lft → Share → Pr
    Leases u l m κ q τ r = guard 𝓤 (u ≡ t → m ≡ l) (⟦ flft τ r ⟧ ∗ ⟦ flft κ q ⟧)

    -- where two owners are of one block, their leases are one
    pub leases_told : (born : List Line) (o : ℕ) (l : Lease) (κ : Lft) (q : Share) (u : BlockId)
        (made : List Line) (p : ℕ) (m : Lease) (τ : Lft) (r : Share)
        → ⟦ right_shown t o l born κ ⟧ ∗ ⟦ right_shown u p m made τ ⟧
        ∗ ⟦ flft τ r ⟧ ∗ ⟦ flft κ q ⟧ ⊢ H.⇛ (Leases u l m κ q τ r)
    leases_told born o l κ q u made p m τ r = elim (one_block u t) [
      | inl same ↦
          qed 𝓛 (‵ (right_shown t o l born κ) ∷ ‵ (right_shown u p m made τ)
          ∷ ‵ (flft τ r) ∷ ‵ (flft κ q) ∷ []) ∵ updating ! $ move ! (1 ∷ 2 ∷ []) $
          rewrite ! 0 (λ (k : BlockId). ‵ (right_shown k p m made τ)) same refl $
          use2 𝓛 (later (any (λ (e : Share). ‵ (right t p m e)
          ⊛ raw (wand 𝓤 (⟦ right t p m e ⟧) (H.⇛ (At.lft τ r))))))
          (shown_read 𝓛 t p m made τ r) $ await ! tt $ pick ! (λ e₂. split ! $
          -- [the other right; its way back; the owner; a token]
          move ! (2 ∷ []) $ fsplit ! $
          use1 𝓛 (‵ (known t born) ⊛ ‵ (known t born)) (known_twice 𝓛 t born) $ split ! $
          move ! (1 ∷ 2 ∷ []) $ fjoin ! $
          -- [the owner; the invariant; the other right; its way back; a token]
          move ! (0 ∷ 4 ∷ []) $
          use2 𝓛 (later (any (λ (e : Share). ‵ (right t o l e)
          ⊛ raw (wand 𝓤 (⟦ right t o l e ⟧) (H.⇛ (At.lft κ q))))))
          (shown_read 𝓛 t o l born κ q) $ await ! tt $ pick ! (λ e₁. split ! $
          -- [the right; its way back; the invariant; the other right; its way back]
          move ! (2 ∷ 0 ∷ 3 ∷ []) $
          use3 𝓛 (later (given (m ≡ l) (‵ (right t o l e₁) ⊛ ‵ (right t p m e₂))))
          (same_leases born o l e₁ p m e₂) $ await ! tt $ learn ! (λ so. split ! $
          -- [the right; the other right; the ways back]
          move ! (0 ∷ 2 ∷ []) $
          use2 𝓛 (later (‵ (flft κ q))) (apply∗ 𝓤 (⟦ right t o l e₁ ⟧) (H.⇛ (At.lft κ q))) $
          await ! tt $ move ! (1 ∷ 2 ∷ []) $
          use2 𝓛 (later (‵ (flft τ r))) (apply∗ 𝓤 (⟦ right t p m e₂ ⟧) (H.⇛ (At.lft τ r))) $
          await ! tt $ now ! $ check ! (λ _. so) $ done !)))
      | inr other ↦
          qed 𝓛 (‵ (right_shown t o l born κ) ∷ ‵ (right_shown u p m made τ)
          ∷ ‵ (flft τ r) ∷ ‵ (flft κ q) ∷ []) ∵ updating ! $ drop ! $ drop ! $
          now ! $ check ! (λ same. absurd (other same)) $ done !
    ]

    -- beside a sole owner no other has a right
    lives_alone : (born : List Line) (o : ℕ) (l : Lease) (p : ℕ) (m : Lease) (r : Share)
        → l.is_lent ≡ false
        → ⟦ known t born ⟧ ∗ ⟦ right t o l quarter ⟧ ∗ ⟦ right t p m r ⟧ ⊢ H.⇛ (never 𝓤)
    lives_alone born o l p m r unlent = let R : Fml = right t o l quarter in
        let S : Fml = right t p m r in let Z : Pr = never 𝓤 in
        qed 𝓛 (‵ (known t born) ∷ ‵ R ∷ ‵ S ∷ []) ∵ fsplit ! $ move ! (1 ∷ []) $ drop ! $
        by ! (within (⟦ R ⟧ ∗ ⟦ S ⟧) Z (opens 𝓛 t (⟦ R ⟧ ∗ ⟦ S ⟧) (upd 𝓤 (⟦ J ⟧ ∗ Z)) (λ a f.
        qed 𝓛 (‵ (latest_of 𝓛 t a.lines) ∷ ‵ (located t a.lines) ∷ ‵ (rolled 𝓛 t a.roll)
        ∷ ‵ (seated 𝓛 t a.seats) ∷ ‵ (tally t (how_many a.roll))
        ∷ ‵ (pool a.lease (how_many a.roll)) ∷ ‵ R ∷ ‵ S ∷ []) ∵
        move ! (2 ∷ 6 ∷ []) $
        use2 𝓛 (given ((o < length a.roll) × (get_or a.roll o (false, no_lease) ≡ (true, l)))
        (‵ (rolled 𝓛 t a.roll) ⊛ ‵ R))
        (row_finds lease_coded 𝓛 t.rights no_lease a.roll 0 o o quarter l (omega arith)) $
        learn ! (λ one. split ! $
        -- [roll; right; latest; located; seats; tally; pool; the other right]
        move ! (0 ∷ 7 ∷ []) $
        use2 𝓛 (given ((p < length a.roll) × (get_or a.roll p (false, no_lease) ≡ (true, m)))
        (‵ (rolled 𝓛 t a.roll) ⊛ ‵ S))
        (row_finds lease_coded 𝓛 t.rights no_lease a.roll 0 p p r m (omega arith)) $
        learn ! (λ other. split ! $ let leased : l ≡ a.lease = f.leased o l one.1 in
        -- [roll; the other right; right; latest; located; seats; tally; pool]
        move ! (7 ∷ []) $ use1 𝓛 (given (how_many a.roll ≡ 1) (raw (emp 𝓤)))
        (pool_sole 𝓛 t a.lease (how_many a.roll)
        (ap (λ (k : Lease). k.is_lent) (sym leased) ∙ unlent) (one-lives a.roll o l one.1)) $
        learn ! (λ few. drop ! $
        let mine : living 0 a.roll ≡ o ∷ [] = one_is (living 0 a.roll) o
        (living-in 0 o o a.roll l (omega arith) one.1) few in
        let its : living 0 a.roll ≡ p ∷ [] = one_is (living 0 a.roll) p
        (living-in 0 p p a.roll m (omega arith) other.1) few in
        let same : p ≡ o = ap first_of (sym its ∙ mine) in
        -- [roll; the other right; right]
        use1 𝓛 (‵ (kept lease_coded t.rights o (get_or a.roll o (false, no_lease)))
        ⊛ raw (all 𝓤 (Set lease_coded 𝓛 t.rights no_lease 0 a.roll o o)))
        (row_takes lease_coded 𝓛 t.rights no_lease a.roll 0 o o (omega arith) one.0) $ split ! $
        rewrite ! 0 (λ (x : Bool × Lease). ‵ (kept lease_coded t.rights o x)) one.1 refl $
        move ! (3 ∷ 0 ∷ []) $
        use2 𝓛 (given (l ≡ l) (‵ (right t o l full_share)))
        (cell_whole lease_coded 𝓛 t.rights o l l) $ learn ! (λ _. move ! (2 ∷ []) $
        rewrite ! 0 (λ (k : ℕ). ‵ (right t k m r)) same refl $ move ! (1 ∷ 0 ∷ []) $
        use2 𝓛 (given ((l ≡ m) × OpDef Share.op full_share r)
        (‵ (right t o l full_share) ⊛ ‵ (right t o m r)))
        (cell_agrees lease_coded 𝓛 t.rights o full_share r l m) $
        learn ! (λ e. absurd (not-OpDef-full_share r e.1)))))))))

    abbrev Apart : BlockId → ℕ → Lease → List Line → Lft → Share → Pr
    Apart u o l born τ r = guard 𝓤 (¬ (u ≡ t)) (⟦ right_owns true t o l born ⟧ ∗ ⟦ flft τ r ⟧)

    -- so another owner is of another block
    pub apart : (born : List Line) (o : ℕ) (l : Lease) (u : BlockId) (made : List Line) (p : ℕ)
        (m : Lease) (τ : Lft) (r : Share) → l.is_lent ≡ false
        → ⟦ right_owns true t o l born ⟧ ∗ ⟦ right_shown u p m made τ ⟧ ∗ ⟦ flft τ r ⟧
        ⊢ H.⇛ (Apart u o l born τ r)
    apart born o l u made p m τ r unlent = elim (one_block u t) [
      | inl same ↦
          qed 𝓛 (‵ (right_owns true t o l born) ∷ ‵ (right_shown u p m made τ)
          ∷ ‵ (flft τ r) ∷ []) ∵ updating ! $ move ! (1 ∷ 2 ∷ []) $
          rewrite ! 0 (λ (k : BlockId). ‵ (right_shown k p m made τ)) same refl $
          use2 𝓛 (later (any (λ (e : Share). ‵ (right t p m e)
          ⊛ raw (wand 𝓤 (⟦ right t p m e ⟧) (H.⇛ (At.lft τ r))))))
          (shown_read 𝓛 t p m made τ r) $ await ! tt $ pick ! (λ e. split ! $
          -- [the other right; its way back; the owner]
          move ! (2 ∷ []) $ fsplit ! $ move ! (1 ∷ []) $ fsplit ! $ move ! (2 ∷ 0 ∷ 3 ∷ []) $
          use3 𝓛 (later (raw (never 𝓤))) (lives_alone born o l p m e unlent) $ await ! tt $
          keep ! (0 ∷ []) $ by ! (never_e 𝓤 _))
      | inr other ↦
          qed 𝓛 (‵ (right_owns true t o l born) ∷ ‵ (right_shown u p m made τ)
          ∷ ‵ (flft τ r) ∷ []) ∵ updating ! $ move ! (1 ∷ []) $ drop ! $
          now ! $ check ! other $ done !
    ]

    front-legal : (a : State) → Fits t a → (seen : List Line) → IsPrefix seen a.lines
        → IsLegal t.most t.began (entries_of seen)
    front-legal a f seen (more, is) = legal-front t.most t.began (entries_of a.lines)
        (entries_of seen) (entries_of more) f.legal (sym (ap entries_of is)
        ∙ entries-after seen more)

    abbrev pub Attested : Bool → List Line → Pr
    Attested b seen = guard 𝓤 (b ≡ true → IsLegal t.most t.began
        (entries_of seen)) ⟦ told_of b t seen ⟧

    -- what a pass has seen is a beginning of the history, and so it is legal
    pub attests : (b : Bool) (seen : List Line) → ⟦ trace_shares b t seen ⟧ ⊢ H.⇛ (Attested b seen)
    attests true seen = let Z : Pr = Attested true seen in let w : Bool = t.whole in
        let E : Fml = history_at_least t seen in
        qed 𝓛 (‵ (known t seen) ∷ []) ∵ fsplit ! $ by !
        (within ⟦ E ⟧ Z (opens 𝓛 t ⟦ E ⟧ (upd 𝓤 (⟦ J ⟧ ∗ Z)) (λ a f.
        qed 𝓛 (‵ (latest_of 𝓛 t a.lines) ∷ ‵ (located t a.lines) ∷ ‵ (rolled 𝓛 t a.roll)
        ∷ ‵ (seated 𝓛 t a.seats) ∷ ‵ (tally t (how_many a.roll))
        ∷ ‵ (pool a.lease (how_many a.roll)) ∷ ‵ E ∷ []) ∵
        suffices ! _ (upd_i 𝓤 (⟦ J ⟧ ∗ Z)) $ move ! (6 ∷ []) $
        use1 𝓛 (‵ E ⊛ ‵ E) (at_least_dup lines_order 𝓛 t.history seen) $ split ! $
        -- [reached, twice; latest; located; roll; seats; tally; pool]
        move ! (2 ∷ 0 ∷ []) $ use2 𝓛 (given (IsPrefix seen a.lines) (‵ (latest_of 𝓛 t a.lines)
        ⊛ ‵ E))
        (latest_bounds lines_order 𝓛 (authority w) t.history a.lines seen) $
        learn ! (λ past. split ! $ move ! (1 ∷ []) $ drop ! $
        -- [latest; reached; located; roll; seats; tally; pool]
        move ! (0 ∷ 2 ∷ 3 ∷ 4 ∷ 5 ∷ 6 ∷ []) $ group ! 6 $ use1 𝓛 (‵ J) (shuts 𝓛 t a f) $ frame ! $
        check ! (λ _. front-legal a f seen past) $ done !))))
    attests false seen = let Z : Pr = Attested false seen in qed 𝓛 (‵ ftrue ∷ []) ∵ updating ! $
        now ! $ check ! (λ (e : false ≡ true). absurd (false≢true e)) $ done !

    abbrev pub Onlied : ℕ → Bool → List Line → ℕ → Lease → Share → List Line → Pr
    Onlied p ready seen o l q ls =
        guard 𝓤 (IsPrefix seen ls × (made_by p ls ≡ made_by p seen) × (t.whole ≡ true → ls ≡ seen)
        × LivesAlone o (entries_of ls)) (⟦ trace_owns true t p ready ls ⟧ ∗ ⟦ right t o l q ⟧)

    -- a pass sees all that the history is now, in which a sole owner who has the block back lives
    -- alone
    pub onlies : (p : ℕ) (ready : Bool) (seen : List Line) (o : ℕ) (l : Lease) (q : Share)
        → l.is_lent ≡ false
        → ⟦ trace_owns true t p ready seen ⟧ ∗ ⟦ right t o l q ⟧
        ⊢ H.⇛ (ex 𝓤 (Onlied p ready seen o l q))
    onlies p ready seen o l q unlent = let Z : Pr = ex 𝓤 (Onlied p ready seen o l q) in
        let w : Bool = t.whole in
        let B : Fml = pass_holds t p ready seen in let R : Fml = right t o l q in
        qed 𝓛 (‵ (trace_owns true t p ready seen) ∷ ‵ R ∷ []) ∵
        use1 𝓛 (‵ N ⊛ ‵ N ⊛ ‵ B) (pauses 𝓛 t p ready seen) $ split3 ! $
        by ! (within (⟦ N ⟧ ∗ ⟦ B ⟧ ∗ ⟦ R ⟧) Z
        (qed 𝓛 (‵ J ∷ ‵ N ∷ ‵ B ∷ ‵ R ∷ []) ∵ suffices ! _ (upd_i 𝓤 (⟦ J ⟧ ∗ Z)) $
        move ! (0 ∷ 2 ∷ 3 ∷ 1 ∷ []) $
        by ! (opened 𝓛 t p ready seen o l q ⟦ N ⟧ (⟦ J ⟧ ∗ Z)
        (λ a so owner. let m : ℕ = how_many a.roll in
        let leased : l ≡ a.lease = so.fits.leased o l owner.1 in
        qed 𝓛 (‵ (latest_of 𝓛 t a.lines) ∷ ‵ (withheld t w seen) ∷ ‵ (rolled 𝓛 t a.roll) ∷ ‵ R
        ∷ ‵ (seated 𝓛 t a.seats) ∷ ‵ (seat 𝓛 t p ready (made_by p seen)) ∷ ‵ (located t a.lines)
        ∷ ‵ (tally t m) ∷ ‵ (pool a.lease m) ∷ ‵ N ∷ []) ∵
        move ! (8 ∷ []) $ use1 𝓛 (given (m ≡ 1) (‵ (pool a.lease m))) (pool_alone 𝓛 t a.lease m
        (ap (λ (k : Lease). k.is_lent) (sym leased) ∙ unlent) (one-lives a.roll o l owner.1)) $
        learn ! (λ one.
        let alone : LivesAlone o (entries_of a.lines) =
        so.fits.live ∙ one_is (living 0 a.roll) o (living-in 0 o o a.roll l
        (omega arith) owner.1) one in
        -- [pool; latest; withheld; roll; right; seats; seat; located; tally; the invariant]
        move ! (9 ∷ 1 ∷ 2 ∷ 6 ∷ []) $ group ! 4 $
        use1 𝓛 (‵ (trace_owns true t p ready a.lines) ⊛ ‵ (latest_of 𝓛 t a.lines))
        (catches_up p ready seen a so) $ split ! $
        -- [the pass; latest; pool; roll; right; seats; located; tally]
        move ! (1 ∷ 6 ∷ 3 ∷ 5 ∷ 7 ∷ 2 ∷ []) $ group ! 6 $ use1 𝓛 (‵ J) (shuts 𝓛 t a so.fits) $
        frame ! $
        show ! (Onlied p ready seen o l q) a.lines $
        check ! (
          so.seen_is.0,
          made_kept 𝓛 t p ready seen a so,
          (λ (e : w ≡ true). sym (so.seen_is.1 e)),
          alone,
        ) $ done !)))))

    -- a sole owner who has the block back ends
    pub finishes_by : (p : ℕ) (ready : Bool) (seen : List Line) (o : ℕ) (l : Lease)
        → l.is_lent ≡ false
        → ⟦ trace_owns true t p ready seen ⟧ ∗ ⟦ right t o l quarter ⟧
        ⊢ H.⇛ ⟦ left t p seen (λ ls. trace_owns true t p ready ls) 1 (λ _. some (Down o))
        (λ _. ftrue) ⟧
    finishes_by p ready seen o l unlent = let B : Fml = pass_holds t p ready seen in
        let R : Fml = right t o l quarter in
        let F : Fml = left t p seen (pass_holds t p ready) 1 (λ _. some (Down o)) (λ _. ftrue) in
        let Z : Pr = ⟦ left t p seen (λ ls. trace_owns true t p ready ls) 1 (λ _. some (Down o))
        (λ _. ftrue) ⟧ in
        qed 𝓛 (‵ (trace_owns true t p ready seen) ∷ ‵ R ∷ []) ∵
        use1 𝓛 (‵ N ⊛ ‵ N ⊛ ‵ B) (pauses 𝓛 t p ready seen) $ split3 ! $
        by ! (within (⟦ N ⟧ ∗ ⟦ B ⟧ ∗ ⟦ R ⟧) Z
        (qed 𝓛 (‵ J ∷ ‵ N ∷ ‵ B ∷ ‵ R ∷ []) ∵ move ! (0 ∷ 2 ∷ 3 ∷ []) $ group ! 3 $
        use1 𝓛 (raw (upd 𝓤 (⟦ J ⟧ ∗ ⟦ F ⟧))) (finishes 𝓛 t p ready seen o l unlent) $
        settle 𝓛 (⟦ J ⟧ ∗ Z) (‵ J ⊛ ‵ F) $ split ! $ suffices ! _ (upd_i 𝓤 (⟦ J ⟧ ∗ Z)) $ frame ! $
        by ! (outside 𝓛 t p ready seen (λ _. some (Down o)) (λ _. ftrue) 1)))
