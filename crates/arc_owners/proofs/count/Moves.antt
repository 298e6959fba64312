-- What each operation of an owner does to the invariant, wherever the word lies. Assumes `Logic`.
use Rattle.std.proofs.Common.{inl, inr, ◌≡◌, ℕ, ◌+◌, ◌-◌, ◌^◌, ◌<◌, ◌≤◌, Bool, true}
use Rattle.std.proofs.Common.{false, eqb, List, [], ◌∷◌, length, set, refl, sym, ap, ◌∙◌}
use Rattle.std.proofs.Common.{subst, arith}
use Rattle.std.proofs.lemmas.Bool.{eqb-true, eqb-false, cases_Bool}
use mathlib.Core.Option.{Option, none, some}
use seplogic.Ra.Ura.{Ura}
use base.Fraction.{full_share}
use base.Share.{quarter}
use base.Logic.{upd, emp, id⊢, upd_i, apply∗}
use base.Fml.{Share, Fml, ftrue, fsep, flft}
use types.Logic.{Logic}
use types.Keyed.{ticket}
use types.Kit.{‵, raw, ◌⊛◌, given, ◌$◌, ◌∵◌, !, qed, by, move, keep, drop, split, split3, group}
use types.Kit.{assume, fjoin, fpack, learn, done, frame, use0, use1, use2, use3, rewrite, suffices}
use types.Kit.{settle, fsplit}
use denote.Steps.{nothing}
use Rattle.arc_owners.specs.declared.history.entry.Entry.{Entry}
use Rattle.arc_owners.specs.declared.history.entry.Entry.TheVariants.{Up, Full, Down, Alone}
use Rattle.arc_owners.specs.history.Histories.{MayFollow}
use Rattle.arc_owners.specs.count.Invariant.{BlockId, Line, entries_of, made_by, withheld}
use Rattle.arc_owners.specs.count.Invariant.{has_place}
use Rattle.arc_owners.specs.count.Invariant.{located, Lease, lease_coded, no_lease, right}
use Rattle.arc_owners.specs.count.Invariant.{counted_as}
use Rattle.arc_owners.specs.count.Invariant.{tally, pool, stake, how_many, State, Fits, contents}
use Rattle.arc_owners.specs.count.Invariant.{behind, pass_holds, next_owner, end_tokens, taken}
use Rattle.arc_owners.specs.count.Invariant.{claim_gain}
use Rattle.arc_owners.proofs.count.Signs.{signs}
use Rattle.arc_owners.proofs.count.Operations.{Operation, Follows, left_by, left, full_if, up_if}
use Rattle.arc_owners.proofs.count.Operations.{made_if, less, load, load_for_raise}
use Rattle.arc_owners.proofs.count.Operations.{compare_exchange, subtract, claim}
use Rattle.arc_owners.proofs.count.States.{wrote, wrote_for, fits-relet, raised, lowered}
use Rattle.arc_owners.proofs.count.States.{fits-aside, fits-raised, fits-lowered, how_many-raised}
use Rattle.arc_owners.proofs.count.States.{how_many-lowered, lives, some-live, one-lives}
use Rattle.arc_owners.proofs.count.States.{may-load, may-raise, may-full}
use Rattle.arc_owners.proofs.count.Rolls.{length-upto, living-relet}
use Rattle.arc_owners.proofs.count.Cells.{row_adds, row_ends, row_writes}
use Rattle.arc_owners.proofs.count.Parts.{counts, ended_counts, pool_more, pool_less, pool_last}
use Rattle.arc_owners.proofs.count.Parts.{pool_sole, tally_ends}
use Rattle.arc_owners.proofs.count.Opened.{latest_of, rolled, seated, seat, Shown, Living, Open}
use Rattle.arc_owners.proofs.count.Opened.{opened, opened_at, follows, owes, shuts, WrittenDown}
use Rattle.arc_owners.proofs.count.Opened.{writes_down}

module _ {M : Type 1} {𝓤 : Ura M} (𝓛 : Logic 𝓤) (t : BlockId) (p : ℕ) (ready : Bool)
    (seen : List Line) (o : ℕ) (l : Lease) where
  open signs 𝓛 use {Pr, ◌⊢◌, ◌∗◌, ◌-∗◌, ⟦◌⟧}

  infix 26 ◌⊢◌
  infixr 35 ◌∗◌
  infixr 30 ◌-∗◌
  abbrev Left : ℕ → (List Line → Option Entry) → (List Line → Fml) → Pr
  Left n entry gain = ⟦ left t p seen (pass_holds t p ready) n entry gain ⟧

  -- a step that finds the number n and leaves m. The word's part of it is done first: the invariant
  -- shuts once what the owner owes is there
  abbrev pub Step : Share → Fml → ℕ → ℕ → (List Line → Option Entry) → (List Line → Fml) → Type 1
  Step q owed n m entry gain = ⟦ behind t n ⟧ ∗ ⟦ contents t ⟧ ∗ ⟦ pass_holds t p ready seen ⟧
      ∗ ⟦ right t o l q ⟧
      ⊢ upd 𝓤 (⟦ behind t m ⟧ ∗ (⟦ owed ⟧ -∗ (⟦ contents t ⟧ ∗ Left n entry gain)))

  -- an operation is a step, whatever the number
  abbrev pub Steps : Share → Fml → Operation → Type 1
  Steps q owed op = (n : ℕ) → Step q owed n (op.next n) (op.entry n) (op.gain n)

  -- what an operation makes of the state: who lives now and for which lease, what the owner has got
  -- out of the roll for its right, and what it has in the end for what it owes
  record Change (q : Share) (owed : Fml) (m : ℕ) (e : Entry) (gain : Fml) (a : State) : Type 1 where
    roll : List (Bool × Lease)
    lease : Lease
    held : Fml
    may : MayFollow t.most t.began (entries_of a.lines) e
    fits : Fits t (wrote_for lease a p ready e roll)
    number : how_many roll ≡ m
    rolls : ⟦ rolled 𝓛 t a.roll ⟧ ∗ ⟦ right t o l q ⟧ ⊢ upd 𝓤 (⟦ rolled 𝓛 t roll ⟧ ∗ ⟦ held ⟧)
    pays : ⟦ pool a.lease (how_many a.roll) ⟧ ∗ ⟦ owed ⟧ ∗ ⟦ held ⟧ ⊢ ⟦ pool lease (how_many roll) ⟧
        ∗ ⟦ gain ⟧

  -- the state is changed in one step, with an entry
  step : (q : Share) (owed : Fml) (n m : ℕ) (entry : List Line → Entry) (gain : List Line → Fml)
      → ((a : State) → Shown 𝓛 t p ready seen a → Living 𝓛 t p ready seen o l q a
      → n ≡ how_many a.roll → counts 𝓛 t a.lines
      → Change q owed m (entry a.lines) (gain a.lines) a)
      → Step q owed n m (λ before. some (entry before)) gain
  step q owed n m entry gain change = let L : Pr = Left n (λ before. some (entry before)) gain in
      let Goal : ℕ → Pr = λ k. upd 𝓤 (⟦ behind t k ⟧ ∗ (⟦ owed ⟧ -∗ (⟦ contents t ⟧ ∗ L))) in
      opened_at 𝓛 t p ready seen o l q n (Goal m) (λ a so owner number counted. let c =
      change a so owner number counted in
      let k : ℕ = how_many c.roll in let N : Pr = ⟦ contents t ⟧ ∗ L in
      let W : Pr = (⟦ pool c.lease k ⟧ ∗ ⟦ gain a.lines ⟧) -∗ N in
      let Z : Pr = ⟦ behind t k ⟧ ∗ (⟦ owed ⟧ -∗ N) in
      subst (λ (j : ℕ). Open 𝓛 t p ready seen o l q a
      (⟦ has_place t ⟧ ∗ ⟦ counted_as t full_share (how_many a.roll) ⟧
      ∗ ⟦ pool a.lease (how_many a.roll) ⟧) ⊢ Goal j) c.number
      (qed 𝓛 (‵ (latest_of 𝓛 t a.lines) ∷ ‵ (withheld t t.whole seen) ∷ ‵ (rolled 𝓛 t a.roll)
      ∷ ‵ (right t o l q) ∷ ‵ (seated 𝓛 t a.seats) ∷ ‵ (seat 𝓛 t p ready (made_by p seen))
      ∷ ‵ (located t a.lines) ∷ ‵ (has_place t) ∷ ‵ (counted_as t full_share (how_many a.roll))
      ∷ ‵ (pool a.lease (how_many a.roll)) ∷ []) ∵
      move ! (2 ∷ 3 ∷ []) $ use2 𝓛 (raw (upd 𝓤 (⟦ rolled 𝓛 t c.roll ⟧ ∗ ⟦ c.held ⟧))) c.rolls $
      settle 𝓛 Z (‵ (rolled 𝓛 t c.roll) ⊛ ‵ c.held) $ split ! $
      -- [roll; what is held; latest; withheld; seats; seat; located; the key; count; pool]
      move ! (2 ∷ 3 ∷ 0 ∷ 4 ∷ 5 ∷ 6 ∷ 7 ∷ 8 ∷ []) $ group ! 8 $
      use1 𝓛 (raw (upd 𝓤 (⟦ behind t k ⟧ ∗ W)))
      (owes 𝓛 t p ready seen o l q n a so number counted entry c.roll c.lease gain c.may c.fits) $
      settle 𝓛 Z (‵ (behind t k) ⊛ raw W) $ split ! $ suffices ! _ (upd_i 𝓤 Z) $ frame ! $
      assume ! (‵ owed) $
      -- [what is owed; what the invariant lacks; what is held; pool]
      move ! (3 ∷ 0 ∷ 2 ∷ []) $ use3 𝓛 (‵ (pool c.lease k) ⊛ ‵ (gain a.lines)) c.pays $
      by ! (apply∗ 𝓤 (⟦ pool c.lease k ⟧ ∗ ⟦ gain a.lines ⟧) N)))

  -- nothing is done
  rests : (q : Share) (n : ℕ) (gain : List Line → Fml) → ⟦ right t o l q ⟧ ⊢ ⟦ gain seen ⟧
      → Step q ftrue n n (λ _. none) gain
  rests q n gain has = let Z : Pr = ⟦ behind t n ⟧
      ∗ (⟦ ftrue ⟧ -∗ (⟦ contents t ⟧ ∗ Left n (λ _. none) gain)) in
      qed 𝓛 (‵ (behind t n) ∷ ‵ (contents t) ∷ ‵ (pass_holds t p ready seen) ∷ ‵ (right t o l q)
      ∷ []) ∵
      suffices ! _ (upd_i 𝓤 Z) $ frame ! $ assume ! (‵ ftrue) $ drop ! $ frame ! $
      -- [pass; right]
      move ! (1 ∷ []) $ use1 𝓛 (‵ (gain seen)) has $ move ! (1 ∷ 0 ∷ []) $ fjoin ! $
      nothing ! $ fpack ! (seen ≡ seen) (λ _. ftrue) refl $ fjoin ! $
      fpack ! (List Line) (left_by t p seen (pass_holds t p ready) n (λ _. none) gain) seen $ done !

  -- the owners stay as they are
  aside : (q : Share) (owed : Fml) (n : ℕ) (e : Entry) (gain : Fml) (a : State)
      → n ≡ how_many a.roll
      → MayFollow t.most t.began (entries_of a.lines) e → Fits t (wrote a p ready e a.roll)
      → ⟦ owed ⟧ ∗ ⟦ right t o l q ⟧ ⊢ ⟦ gain ⟧ → Change q owed n e gain a
  aside q owed n e gain a number may fits has = record {
    roll = a.roll;
    lease = a.lease;
    held = right t o l q;
    may = may;
    fits = fits;
    number = sym number;
    rolls = upd_i 𝓤 _;
    pays = qed 𝓛 (‵ (pool a.lease (how_many a.roll)) ∷ ‵ owed ∷ ‵ (right t o l q) ∷ []) ∵ frame ! $
        by ! has;
  }

  alone_may : (q : Share) (n : ℕ) (a : State) → Shown 𝓛 t p ready seen a
      → Living 𝓛 t p ready seen o l q a → n ≡ how_many a.roll → counts 𝓛 t a.lines
      → MayFollow t.most t.began (entries_of a.lines) (Alone o (eqb n 1))
  alone_may q n a so owner number counted = subst
      (λ (m : ℕ). MayFollow t.most t.began (entries_of a.lines) (Alone o (eqb m 1)))
      (sym number) (may-load t a so.fits p ready so.seat_is.0 o l owner.1 counted)

  alone_fits : (q : Share) (n : ℕ) (a : State) → Shown 𝓛 t p ready seen a
      → Living 𝓛 t p ready seen o l q a → n ≡ how_many a.roll → counts 𝓛 t a.lines
      → Fits t (wrote a p ready (Alone o (eqb n 1)) a.roll)
  alone_fits q n a so owner number counted = fits-aside t a so.fits p ready so.seat_is.0
      (Alone o (eqb n 1)) refl refl
      (alone_may q n a so owner number counted)

  -- whether the owner is alone is read, and it keeps its right
  asks_alone : (q : Share) (owed gain : Fml) (n : ℕ) → ⟦ owed ⟧ ∗ ⟦ right t o l q ⟧ ⊢ ⟦ gain ⟧
      → Step q owed n n (λ _. some (Alone o (eqb n 1))) (λ _. gain)
  asks_alone q owed gain n has = step q owed n n (λ _. Alone o (eqb n 1)) (λ _. gain)
      (λ a so owner number counted.
      aside q owed n (Alone o (eqb n 1)) gain a number (alone_may q n a so owner number counted)
      (alone_fits q n a so owner number counted) has)

  unpaid : (q : Share) → ⟦ ftrue ⟧ ∗ ⟦ right t o l q ⟧ ⊢ ⟦ right t o l q ⟧
  unpaid q = qed 𝓛 (‵ ftrue ∷ ‵ (right t o l q) ∷ []) ∵ drop ! $ done !

  pub loads : (q : Share) → Steps q ftrue (load t o l q)
  loads q n = asks_alone q ftrue (right t o l q) n (unpaid q)

  -- the count is found at its greatest
  fills : (q : Share) (n : ℕ) → n ≡ t.most → Step q ftrue n n (λ _. some (Full o))
      (λ _. right t o l q)
  fills q n full = step q ftrue n n (λ _. Full o) (λ _. right t o l q) (λ a so owner number counted.
      let may : MayFollow t.most t.began (entries_of a.lines) (Full o) =
      may-full t a so.fits p ready so.seat_is.0 o l owner.1 counted (sym number ∙ full) in
      aside q ftrue n (Full o) (right t o l q) a number may
      (fits-aside t a so.fits p ready so.seat_is.0 (Full o) refl refl may) (unpaid q))

  pub loads_for_raise : (q : Share) → Steps q ftrue (load_for_raise t o l q)
  loads_for_raise q n = let Does : Bool → Type 1 = λ b. Step q ftrue n n (λ _. full_if o b)
      (λ _. right t o l q) in
      elim (cases_Bool (eqb n t.most)) [
        | inl h ↦ subst Does (sym h) (fills q n (eqb-true n t.most h))
        | inr h ↦ subst Does (sym h) (rests q n (λ _. right t o l q) (id⊢ 𝓤 _))
      ]

  next_is : (a : State) → Fits t a → length a.roll ≡ next_owner a.lines
  next_is a f = sym (ap length f.ever ∙ length-upto 0 (length a.roll))

  abbrev up_gain : Share → Bool → List Line → Fml
  up_gain q b before = fsep (right t o l q) (made_if t l b (next_owner before))

  -- the count is raised from below the greatest
  raises : l.is_lent ≡ true → (q : Share) (n m : ℕ) → ¬ (n ≡ t.most) → (n < 2 ^ 64 - 1 → m ≡ n + 1)
      → Step q ftrue n m (λ before. some (Up o (next_owner before))) (up_gain q true)
  raises lent q n m room next = step q ftrue n m (λ before. Up o (next_owner before))
      (up_gain q true) (λ a so owner same counted.
      let within : how_many a.roll ≤ t.most = so.fits.within in
      let small : t.most < 2 ^ 64 = so.fits.small in
      let below : how_many a.roll < t.most = omega (arith, room) in
      let on : m ≡ n + 1 = next (omega arith) in
      let new : ℕ = length a.roll in let is : new ≡ next_owner a.lines = next_is a so.fits in
      let leased : l ≡ a.lease = so.fits.leased o l owner.1 in
      let roll' : List (Bool × Lease) = raised t a so.fits p ready so.seat_is.0 in
      let many : how_many roll' ≡ how_many a.roll + 1 =
      how_many-raised t a so.fits p ready so.seat_is.0 in
      let may : MayFollow t.most t.began (entries_of a.lines) (Up o new) =
      may-raise t a so.fits p ready so.seat_is.0 o l owner.1 counted below in
      let live : 0 < how_many a.roll = some-live t a so.fits p ready so.seat_is.0 o l owner.1 in
      let Z : Pr = ⟦ rolled 𝓛 t roll' ⟧ ∗ ⟦ fsep (right t o l q) (right t new a.lease quarter) ⟧ in
      record {
        roll = roll';
        lease = a.lease;
        held = fsep (right t o l q) (right t new a.lease quarter);
        may = subst (λ (k : ℕ). MayFollow t.most t.began (entries_of a.lines) (Up o k)) is may;
        fits = subst (λ (k : ℕ). Fits t (wrote a p ready (Up o k) roll')) is
            (fits-raised t a so.fits p ready so.seat_is.0 o may);
        number = omega arith;
        rolls = qed 𝓛 (‵ (rolled 𝓛 t a.roll) ∷ ‵ (right t o l q) ∷ []) ∵
            use1 𝓛 (raw (upd 𝓤 (⟦ rolled 𝓛 t roll' ⟧ ∗ ⟦ right t new a.lease quarter ⟧)))
            (row_adds lease_coded 𝓛 t.rights no_lease a.roll a.lease) $
            settle 𝓛 Z (‵ (rolled 𝓛 t roll') ⊛ ‵ (right t new a.lease quarter)) $ split ! $
            suffices ! _ (upd_i 𝓤 Z) $
            move ! (2 ∷ 1 ∷ []) $ fjoin ! $ move ! (1 ∷ 0 ∷ []) $ done !;
        pays = qed 𝓛 (‵ (pool a.lease (how_many a.roll)) ∷ ‵ ftrue
            ∷ ‵ (fsep (right t o l q) (right t new a.lease quarter)) ∷ []) ∵
            use1 𝓛 (‵ (pool a.lease (how_many roll')) ⊛ ‵ (stake a.lease))
            (pool_more 𝓛 t a.lease (how_many a.roll)
            (how_many roll') (ap (λ (k : Lease). k.is_lent) (sym leased) ∙ lent) live many
            (omega arith)) $ split ! $ frame ! $
            -- [stake; nothing; the rights]
            move ! (2 ∷ []) $ fsplit ! $ rewrite ! 1 (λ (k : ℕ × Lease). ‵
            (right t k.0 k.1 quarter)) (λ i. (is i, sym leased i)) refl $
            rewrite ! 2 (λ (k : Lease). ‵ (stake k)) (sym leased) refl $
            move ! (1 ∷ 2 ∷ []) $ fjoin ! $ move ! (1 ∷ 0 ∷ []) $ fjoin ! $ keep ! (0 ∷ []) $
            done !;
      })

  pub exchanges : l.is_lent ≡ true → (q : Share) (old new : ℕ) → ¬ (old ≡ t.most)
      → (old < 2 ^ 64 - 1 → new ≡ old + 1)
      → Steps q ftrue (compare_exchange t o l q old new)
  exchanges lent q old new room next n = let Does : Bool
      → Type 1 = λ b. Step q ftrue n (prog.Atomic.either b new n) (up_if o b) (up_gain q b) in
      elim (cases_Bool (eqb n old)) [
        | inl h ↦ (let same : n ≡ old = eqb-true n old h in subst Does (sym h)
            (raises lent q n new (λ (e : n ≡ t.most). room (sym same ∙ e))
            (subst (λ (k : ℕ). k < 2 ^ 64 - 1 → new ≡ k + 1) (sym same) next)))
        | inr h ↦ subst Does (sym h) (rests q n (up_gain q false) (qed 𝓛 (‵ (right t o l q) ∷ []) ∵
            nothing ! $ move ! (1 ∷ 0 ∷ []) $ fjoin ! $ done !))
      ]

  -- the pool without one owner, and what the last one has
  pool_ends : l.is_lent ≡ true → (n m : ℕ) → n ≡ m + 1 → (b : Bool) → eqb n 1 ≡ b
      → ⟦ pool l n ⟧ ∗ ⟦ stake l ⟧ ⊢ ⟦ pool l m ⟧ ∗ ⟦ end_tokens l b ⟧
  pool_ends lent n m is true one = let e : n ≡ 1 = eqb-true n 1 one in
      let z : m ≡ 0 = omega arith in
      subst (λ (k : ℕ × ℕ). ⟦ pool l k.0 ⟧ ∗ ⟦ stake l ⟧ ⊢ ⟦ pool l k.1 ⟧ ∗ ⟦ end_tokens l true ⟧)
      (λ i. (sym e i, sym z i))
      (qed 𝓛 (‵ (pool l 1) ∷ ‵ (stake l) ∷ []) ∵ use2 𝓛 (‵ (flft (l.lifetime ∷ []) full_share)
      ⊛ ‵ (ticket l.key 0))
      (pool_last 𝓛 t l lent) $ split ! $ fjoin ! $ nothing ! $ done !)
  pool_ends lent n m is false more = let e : ¬ (n ≡ 1) = eqb-false n 1 more in
      qed 𝓛 (‵ (pool l n) ∷ ‵ (stake l) ∷ []) ∵
      use2 𝓛 (‵ (pool l m)) (pool_less 𝓛 t l n m lent (omega (arith, e)) is) $ nothing ! $
      move ! (1 ∷ 0 ∷ []) $ done !

  -- the owner ends, for its part of the lifetime
  pub subtracts : l.is_lent ≡ true → Steps quarter (stake l) (subtract o l)
  subtracts lent n = step quarter (stake l) n (less n) (λ _. Down o) (λ _. end_tokens l (eqb n 1))
      (λ a so owner same counted.
      let within : how_many a.roll ≤ t.most = so.fits.within in
      let small : t.most < 2 ^ 64 = so.fits.small in
      let live : 0 < how_many a.roll = some-live t a so.fits p ready so.seat_is.0 o l owner.1 in
      let on : less n ≡ n - 1 = omega arith in let leased : l ≡ a.lease =
      so.fits.leased o l owner.1 in
      let roll' : List (Bool × Lease) = lowered t a so.fits p ready so.seat_is.0 o in
      let many : how_many a.roll ≡ how_many roll' + 1 =
      how_many-lowered t a so.fits p ready so.seat_is.0 o l owner.1 in
      let may : MayFollow t.most t.began (entries_of a.lines)
      (Down o) = lives t a so.fits p ready so.seat_is.0 o l owner.1 in
      let Z : Pr = ⟦ rolled 𝓛 t roll' ⟧ ∗ ⟦ ftrue ⟧ in record {
        roll = roll';
        lease = a.lease;
        held = ftrue;
        may = may;
        fits = fits-lowered t a so.fits p ready so.seat_is.0 o l owner.0 owner.1 may;
        number = omega arith;
        rolls = qed 𝓛 (‵ (rolled 𝓛 t a.roll) ∷ ‵ (right t o l quarter) ∷ []) ∵
            use2 𝓛 (‵ (rolled 𝓛 t (set a.roll o (false, l))))
            (row_ends lease_coded 𝓛 t.rights no_lease a.roll o l owner.0 owner.1) $
            rewrite ! 0 (λ (k : Lease). ‵ (rolled 𝓛 t (set a.roll o (false, k)))) leased refl $
            suffices ! _ (upd_i 𝓤 Z) $ nothing ! $ move ! (1 ∷ 0 ∷ []) $ done !;
        pays = qed 𝓛 (‵ (pool a.lease (how_many a.roll)) ∷ ‵ (stake l) ∷ ‵ ftrue ∷ []) ∵
            rewrite ! 0 (λ (k : Lease × ℕ). ‵ (pool k.0 k.1))
            (λ i. (sym leased i, sym same i)) refl $
            use2 𝓛 (‵ (pool l (how_many roll')) ⊛ ‵ (end_tokens l (eqb n 1)))
            (pool_ends lent n (how_many roll') (omega arith) (eqb n 1) refl) $ split ! $
            rewrite ! 0 (λ (k : Lease). ‵ (pool k (how_many roll'))) leased refl $
            keep ! (0 ∷ 1 ∷ []) $ done !;
      })

  abbrev Claim : ℕ → Bool → Type 1
  Claim n y = Step quarter (stake l) n n (λ _. some (Alone o (eqb n 1))) (λ _. claim_gain t o l y)

  -- an owner that finds others takes its part of the lifetime again
  claims_none : (n : ℕ) → Claim n false
  claims_none n = asks_alone quarter (stake l) (claim_gain t o l false) n
      (qed 𝓛 (‵ (stake l) ∷ ‵ (right t o l quarter) ∷ []) ∵
      nothing ! $ move ! (1 ∷ 0 ∷ []) $ fjoin ! $ move ! (1 ∷ 0 ∷ []) $ fjoin ! $ done !)

  -- a sole owner takes the block back: the lifetime whole, and the ticket for its end
  claims_all : l.is_lent ≡ true → (n : ℕ) → n ≡ 1 → Claim n true
  claims_all lent n one = let k : Lease = taken l in let e : Entry = Alone o (eqb n 1) in
      step quarter (stake l) n n (λ _. e) (λ _. claim_gain t o l true) (λ a so owner same counted.
      let single : how_many a.roll ≡ 1 = sym same ∙ one in
      let leased : l ≡ a.lease = so.fits.leased o l owner.1 in
      let roll' : List (Bool × Lease) = set a.roll o (true, k) in
      let to : how_many roll' ≡ n = ap length (living-relet 0 o a.roll l k owner.1) ∙ sym same in
      record {
        roll = roll';
        lease = k;
        held = right t o k quarter;
        may = alone_may quarter n a so owner same counted;
        fits = fits-relet t (wrote a p ready e a.roll)
            (alone_fits quarter n a so owner same counted) o l k owner.0 owner.1 single;
        number = to;
        rolls = row_writes lease_coded 𝓛 t.rights no_lease a.roll o l k owner.0 owner.1;
        pays = qed 𝓛 (‵ (pool a.lease (how_many a.roll)) ∷ ‵ (stake l) ∷ ‵ (right t o k quarter)
            ∷ []) ∵
            rewrite ! 0 (λ (z : Lease × ℕ). ‵ (pool z.0 z.1)) (λ i. (sym leased i, single i)) refl $
            use2 𝓛 (‵ (flft (l.lifetime ∷ []) full_share) ⊛ ‵ (ticket l.key 0))
            (pool_last 𝓛 t l lent) $ split ! $ fjoin ! $
            -- [the end; right]
            nothing ! $ fjoin ! $ move ! (1 ∷ 0 ∷ []) $ fjoin ! $ nothing ! $
            fpack ! (0 ≡ 0) (λ _. ftrue) refl $
            use1 𝓛 (‵ (pool k 1)) (id⊢ 𝓤 _) $ rewrite ! 0 (λ (z : ℕ). ‵ (pool k z))
            (sym (to ∙ one)) refl $ done !;
      })

  pub claims : l.is_lent ≡ true → Steps quarter (stake l) (claim t o l)
  claims lent n = elim (cases_Bool (eqb n 1)) [
    | inl h ↦ subst (Claim n) (sym h) (claims_all lent n (eqb-true n 1 h))
    | inr h ↦ subst (Claim n) (sym h) (claims_none n)
  ]

  -- a sole owner who has the block back ends: the word stays as it was
  pub finishes : l.is_lent ≡ false → ⟦ contents t ⟧ ∗ ⟦ pass_holds t p ready seen ⟧
      ∗ ⟦ right t o l quarter ⟧
      ⊢ upd 𝓤 (⟦ contents t ⟧ ∗ Left 1 (λ _. some (Down o)) (λ _. ftrue))
  finishes unlent = let Z : Pr = ⟦ contents t ⟧ ∗ Left 1 (λ _. some (Down o)) (λ _. ftrue) in
      let e : Entry = Down o in
      qed 𝓛 (‵ (contents t) ∷ ‵ (pass_holds t p ready seen) ∷ ‵ (right t o l quarter) ∷ []) ∵
      use0 𝓛 (raw (emp 𝓤)) (id⊢ 𝓤 (emp 𝓤)) $ move ! (1 ∷ 2 ∷ 3 ∷ 0 ∷ []) $
      by ! (opened 𝓛 t p ready seen o l quarter (emp 𝓤) (upd 𝓤 Z) (λ a so owner.
      let f : Fits t a = so.fits in let m : ℕ = how_many a.roll in
      let leased : l ≡ a.lease = f.leased o l owner.1 in
      let may : MayFollow t.most t.began (entries_of a.lines) e =
      lives t a f p ready so.seat_is.0 o l owner.1 in
      let roll' : List (Bool × Lease) = lowered t a f p ready so.seat_is.0 o in
      let many : m ≡ how_many roll' + 1 = how_many-lowered t a f p ready so.seat_is.0 o l owner.1 in
      let a' : State = wrote a p ready e roll' in let ls : List Line = a'.lines in
      let f' : Fits t a' = fits-lowered t a f p ready so.seat_is.0 o l owner.0 owner.1 may in
      qed 𝓛 (‵ (latest_of 𝓛 t a.lines) ∷ ‵ (withheld t t.whole seen) ∷ ‵ (rolled 𝓛 t a.roll)
      ∷ ‵ (right t o l quarter) ∷ ‵ (seated 𝓛 t a.seats) ∷ ‵ (seat 𝓛 t p ready (made_by p seen))
      ∷ ‵ (located t a.lines) ∷ ‵ (tally t m) ∷ ‵ (pool a.lease m) ∷ raw (emp 𝓤) ∷ []) ∵
      move ! (8 ∷ []) $ use1 𝓛 (given (m ≡ 1) (raw (emp 𝓤))) (pool_sole 𝓛 t a.lease m
      (ap (λ (k : Lease). k.is_lent) (sym leased) ∙ unlent) (one-lives a.roll o l owner.1)) $
      learn ! (λ one. drop ! $
      let none : 0 ≡ how_many roll' = omega arith in
      -- [latest; withheld; roll; right; seats; seat; located; tally]
      move ! (2 ∷ 3 ∷ []) $ use2 𝓛 (‵ (rolled 𝓛 t (set a.roll o (false, l))))
      (row_ends lease_coded 𝓛 t.rights no_lease a.roll o l owner.0 owner.1) $
      rewrite ! 0 (λ (k : Lease). ‵ (rolled 𝓛 t (set a.roll o (false, k)))) leased refl $
      -- [roll; latest; withheld; seats; seat; located; tally]
      move ! (1 ∷ 2 ∷ 3 ∷ 4 ∷ 5 ∷ []) $ group ! 5 $
      use1 𝓛 (raw (upd 𝓤 (WrittenDown 𝓛 t p ready seen a e)))
      (writes_down 𝓛 t p ready seen a e
      (ended_counts 𝓛 t a.lines p o) so.seat_is.0 so.seat_is.1 so.seen_is.1) $
      settle 𝓛 Z (‵ (latest_of 𝓛 t ls) ⊛ ‵ (pass_holds t p ready ls) ⊛ ‵ (seated 𝓛 t a'.seats)
      ⊛ ‵ (located t ls)) $
      split3 ! $ move ! (2 ∷ []) $ split ! $ suffices ! _ (upd_i 𝓤 Z) $
      -- [seats; located; latest; pass; roll; tally]
      move ! (5 ∷ []) $ use1 𝓛 (‵ (tally t 0)) (tally_ends 𝓛 t m) $
      rewrite ! 0 (λ (k : ℕ). ‵ (tally t k)) none refl $
      nothing ! $ use1 𝓛 (‵ (pool a.lease 0)) (id⊢ 𝓤 _) $
      rewrite ! 0 (λ (k : ℕ). ‵ (pool a.lease k)) none refl $
      -- [pool; tally; seats; located; latest; pass; roll]
      move ! (4 ∷ 3 ∷ 6 ∷ 2 ∷ 1 ∷ 0 ∷ []) $ group ! 6 $ use1 𝓛 (‵ (contents t)) (shuts 𝓛 t a' f') $
      frame ! $
      -- [pass]
      nothing ! $ move ! (1 ∷ 0 ∷ []) $ fjoin ! $ nothing ! $
      fpack ! (Follows t p seen 1 a.lines (some e)) (λ _. ftrue)
      (follows 𝓛 t p ready seen a so 1 (sym one) e may f'.legal) $ fjoin ! $
      fpack ! (List Line) (left_by t p seen (pass_holds t p ready) 1 (λ _. some e)
      (λ _. ftrue)) a.lines $ keep ! (0 ∷ []) $ done !)))
