-- What the steps on the cell of a block that began lone do to the invariant: a pass sees the word
-- lone or counted, the count gets its place, an exchange is lost, and an owner who is alone on a
-- lone word takes the block back. Assumes `Logic`.
use Rattle.std.proofs.Common.{◌≡◌, ℕ, ◌+◌, ◌<◌, ◌≤◌, Bool, true, false, List, [], ◌∷◌, ◌++◌, length}
use Rattle.std.proofs.Common.{set, refl, sym, ap, ◌∙◌, subst, arith}
use mathlib.Core.Option.{Option, none, some}
use mathlib.Core.List.{IsPrefix}
use seplogic.Ra.Ura.{Ura}
use base.Fraction.{full_share}
use base.Share
use base.Share.{quarter, three_quarters}
use base.Stored.{coded_ℕ}
use base.Logic.{guard, upd, id⊢, upd_i}
use base.Fml.{Share, Fml, ftrue, fsep, fex, flft}
use base.Growing.{latest, at_least, once}
use types.Logic.{Logic}
use types.Keyed.{ticket}
use types.Growing.{latest_grows, latest_shows, latest_agrees, latest_cut, latest_glue, at_least_dup}
use types.Kit.{‵, raw, ◌⊛◌, given, ◌$◌, ◌∵◌, !, qed, by, move, drop, split, split3, group, fsplit}
use types.Kit.{fjoin, fpick, fpack, learn, check, frame, assume, done, use1, use2, rewrite}
use types.Kit.{suffices}
use types.Kit.{settle}
use denote.Steps.{nothing}
use Rattle.arc_owners.specs.declared.history.entry.Entry.{Entry}
use Rattle.arc_owners.specs.declared.history.entry.Entry.TheVariants.{Promote, Joined}
use Rattle.arc_owners.specs.history.Histories.{Lone, is_counted, Lives, LivesAlone, MayFollow}
use Rattle.arc_owners.specs.history.Histories.{IsLegal}
use Rattle.arc_owners.specs.count.Invariant.{BlockId, Line, entries_of, made_by, withheld, right}
use Rattle.arc_owners.specs.count.Invariant.{history_at_least, lines_order, authority, places}
use Rattle.arc_owners.specs.count.Invariant.{is_there, located, told, Lease, lease_coded}
use Rattle.arc_owners.specs.count.Invariant.{no_lease, seat_coded, fresh_seat, counted_as, tally}
use Rattle.arc_owners.specs.count.Invariant.{pool, stake, how_many, State, Fits, contents, behind}
use Rattle.arc_owners.specs.count.Invariant.{pass_holds, next_owner, taken, claim_gain}
use Rattle.arc_owners.specs.count.Invariant.{placed, cell_holds}
use Rattle.arc_owners.proofs.history.LoneWords.{lone-one, counted-promoted}
use Rattle.arc_owners.proofs.history.Steps.{counted-won}
use Rattle.arc_owners.proofs.count.Signs.{signs}
use Rattle.arc_owners.proofs.count.Operations.{Follows, left_by, left, made_if}
use Rattle.arc_owners.proofs.count.Rolls.{entries-append, length-upto, living-relet}
use Rattle.arc_owners.proofs.count.States.{wrote, relet, raised, reseated, fits-reseated, fits-made}
use Rattle.arc_owners.proofs.count.States.{fits-relet, fits-aside, how_many-raised, lives, never}
use Rattle.arc_owners.proofs.count.States.{some-live}
use Rattle.arc_owners.proofs.count.Cells.{row_adds, row_writes, cell_parts}
use Rattle.arc_owners.proofs.count.Parts.{tallies, tally_in, pool_more, pool_last, counts_on}
use Rattle.arc_owners.proofs.count.Opened.{latest_of, rolled, seated, seat, Shown, opened, shuts}
use Rattle.arc_owners.proofs.count.Opened.{made_kept, follows, Lined, writes_line, WrittenDown}
use Rattle.arc_owners.proofs.count.Opened.{writes_down}
use Rattle.arc_owners.proofs.count.Begins.{still}

none-first : (y : Option (ℕ × ℕ)) → places.le none y
unfolding once
none-first y = tt

module _ {M : Type 1} {𝓤 : Ura M} (𝓛 : Logic 𝓤) (t : BlockId) where
  open signs 𝓛 use {Pr, ◌⊢◌, ◌∗◌, ◌-∗◌, ⟦◌⟧}

  infix 26 ◌⊢◌
  infixr 35 ◌∗◌
  infixr 30 ◌-∗◌
  abbrev located_as : List Line → Option (ℕ × ℕ) → Fml
  located_as ls x = fsep (latest places three_quarters t.place x)
      (told (is_counted t.began (entries_of ls) ≡ is_there x))

  -- the cell and the history agree on whether the word has a count
  located_is : (x : Option (ℕ × ℕ)) (ls : List Line) → ⟦ placed t quarter x ⟧ ∗ ⟦ located t ls ⟧
      ⊢ guard 𝓤 (is_counted t.began (entries_of ls) ≡ is_there x)
      (⟦ placed t quarter x ⟧ ∗ ⟦ located t ls ⟧)
  located_is x ls = qed 𝓛 (‵ (placed t quarter x) ∷ ‵ (located t ls) ∷ []) ∵ move ! (1 ∷ []) $
      fpick ! (λ y. fsplit ! $ move ! (1 ∷ []) $ fpick ! (λ e. drop ! $
      use2 𝓛 (given (y ≡ x) (‵ (latest places three_quarters t.place y) ⊛ ‵ (placed t quarter x)))
      (latest_agrees places 𝓛 three_quarters quarter t.place y x) $
      learn ! (λ same. check ! (e ∙ ap is_there same) $ split ! $ nothing ! $
      fpack ! (is_counted t.began (entries_of ls) ≡ is_there y) (λ _. ftrue) e $
      move ! (1 ∷ 0 ∷ []) $ fjoin ! $ fpack ! (Option (ℕ × ℕ)) (located_as ls) y $
      move ! (1 ∷ 0 ∷ []) $ done !)))

  -- the count gets its place, for good
  gets_place : (x : ℕ × ℕ) (ls more : List Line) → is_counted t.began (entries_of more) ≡ true
      → ⟦ placed t quarter none ⟧ ∗ ⟦ located t ls ⟧
      ⊢ upd 𝓤 (⟦ placed t quarter (some x) ⟧ ∗ ⟦ located t more ⟧
      ∗ ⟦ at_least places t.place (some x) ⟧)
  gets_place x ls more counted = let here : Option (ℕ × ℕ) = some x in
      let Z : Pr = ⟦ placed t quarter here ⟧ ∗ ⟦ located t more ⟧
      ∗ ⟦ at_least places t.place here ⟧ in
      qed 𝓛 (‵ (placed t quarter none) ∷ ‵ (located t ls) ∷ []) ∵ move ! (1 ∷ []) $
      fpick ! (λ y. fsplit ! $ move ! (1 ∷ []) $ drop ! $
      use2 𝓛 (given (y ≡ none) (‵ (latest places three_quarters t.place y)
      ⊛ ‵ (placed t quarter none)))
      (latest_agrees places 𝓛 three_quarters quarter t.place y none) $
      learn ! (λ is. split ! $
      rewrite ! 0 (λ (z : Option (ℕ × ℕ)). ‵ (latest places three_quarters t.place z)) is refl $
      move ! (1 ∷ 0 ∷ []) $ use2 𝓛 (‵ (latest places full_share t.place none))
      (latest_glue places 𝓛 full_share quarter three_quarters t.place none Share.quarters) $
      use1 𝓛 (raw (upd 𝓤 ⟦ latest places full_share t.place here ⟧))
      (latest_grows places 𝓛 t.place none here (none-first here)) $
      settle 𝓛 Z (‵ (latest places full_share t.place here)) $
      use1 𝓛 (‵ (latest places full_share t.place here) ⊛ ‵ (at_least places t.place here))
      (latest_shows places 𝓛 full_share t.place here here (places.same here)) $ split ! $
      use1 𝓛 (‵ (latest places quarter t.place here)
      ⊛ ‵ (latest places three_quarters t.place here))
      (latest_cut places 𝓛 full_share quarter three_quarters t.place here Share.quarters) $
      split ! $ suffices ! _ (upd_i 𝓤 Z) $
      -- [the cell's part; the invariant's; what is known]
      move ! (1 ∷ []) $ nothing ! $
      fpack ! (is_counted t.began (entries_of more) ≡ is_there here) (λ _. ftrue) counted $
      move ! (1 ∷ 0 ∷ []) $ fjoin ! $ fpack ! (Option (ℕ × ℕ)) (located_as more) here $
      move ! (1 ∷ 0 ∷ []) $ done !))

  next_is : (a : State) → Fits t a → length a.roll ≡ next_owner a.lines
  next_is a f = sym (ap length f.ever ∙ length-upto 0 (length a.roll))

  module _ (p : ℕ) (ready : Bool) (seen : List Line) (o : ℕ) (l : Lease) where
    -- a pass sees all that the history is now, and is ready or not
    catches : (r : Bool) (a : State) (so : Shown 𝓛 t p ready seen a)
        → ⟦ latest_of 𝓛 t a.lines ⟧ ∗ ⟦ withheld t t.whole seen ⟧ ∗ ⟦ seated 𝓛 t a.seats ⟧
        ∗ ⟦ seat 𝓛 t p ready (made_by p seen) ⟧
        ⊢ upd 𝓤 (⟦ latest_of 𝓛 t a.lines ⟧ ∗ ⟦ pass_holds t p r a.lines ⟧
        ∗ ⟦ seated 𝓛 t (reseated t a so.fits p ready so.seat_is.0 r).seats ⟧)
    catches r a so = let w : Bool = t.whole in let ls : List Line = a.lines in
        let kept : made_by p ls ≡ made_by p seen = made_kept 𝓛 t p ready seen a so in
        let a' : State = reseated t a so.fits p ready so.seat_is.0 r in
        let Z : Pr = ⟦ latest_of 𝓛 t ls ⟧ ∗ ⟦ pass_holds t p r ls ⟧ ∗ ⟦ seated 𝓛 t a'.seats ⟧ in
        qed 𝓛 (‵ (latest_of 𝓛 t ls) ∷ ‵ (withheld t w seen) ∷ ‵ (seated 𝓛 t a.seats)
        ∷ ‵ (seat 𝓛 t p ready (made_by p seen)) ∷ []) ∵
        rewrite ! 3 (λ (m : List Entry). ‵ (seat 𝓛 t p ready m)) (sym kept) refl $
        move ! (2 ∷ 3 ∷ []) $ use2 𝓛 (raw (upd 𝓤 (⟦ seated 𝓛 t a'.seats ⟧
        ∗ ⟦ seat 𝓛 t p r (made_by p ls) ⟧)))
        (row_writes seat_coded 𝓛 t.passes fresh_seat a.seats p (ready, made_by p ls)
        (r, made_by p ls) so.seat_is.0
        (so.seat_is.1 ∙ ap (λ (m : List Entry). (true, (ready, m))) (sym kept))) $
        settle 𝓛 Z (‵ (seated 𝓛 t a'.seats) ⊛ ‵ (seat 𝓛 t p r (made_by p ls))) $ split ! $
        suffices ! _ (upd_i 𝓤 Z) $
        -- [seats; seat; latest; withheld]
        move ! (2 ∷ []) $ use1 𝓛 (‵ (latest_of 𝓛 t ls) ⊛ ‵ (history_at_least t ls))
        (latest_shows lines_order 𝓛 (authority w) t.history ls ls (lines_order.same ls)) $
        split ! $
        -- [latest; reached; seats; seat; withheld]
        move ! (4 ∷ []) $ use1 𝓛 (‵ (withheld t w ls)) (still 𝓛 t w seen ls so.seen_is.1) $
        move ! (0 ∷ 4 ∷ []) $ fjoin ! $ move ! (2 ∷ 0 ∷ []) $ fjoin ! $
        -- [the pass; latest; seats]
        move ! (1 ∷ 0 ∷ []) $ done !

    -- what a pass has seen by a load of the cell that found this: all of the history
    abbrev pub IsAll : Option (ℕ × ℕ) → List Line → Type 0
    IsAll x ls = IsPrefix seen ls × (made_by p ls ≡ made_by p seen) × (t.whole ≡ true → seen ≡ ls)
        × (is_counted t.began (entries_of ls) ≡ is_there x)
        × IsLegal t.most t.began (entries_of ls) × Lives o (entries_of ls)

    abbrev pub sees_as : (List Line → Fml) → Option (ℕ × ℕ) → List Line → Fml
    sees_as pass x ls = fsep (told (IsAll x ls)) (pass ls)

    abbrev pub sees : (List Line → Fml) → Option (ℕ × ℕ) → Fml
    sees pass x = fex (List Line) (sees_as pass x)

    abbrev pub holding : Bool → List Line → Fml
    holding r ls = pass_holds t p r ls

    pub sees_all : (q : Share) (r : Bool) (x : Option (ℕ × ℕ))
        → ⟦ cell_holds t x ⟧ ∗ ⟦ contents t ⟧ ∗ ⟦ pass_holds t p ready seen ⟧ ∗ ⟦ right t o l q ⟧
        ⊢ upd 𝓤 (⟦ cell_holds t x ⟧ ∗ ⟦ contents t ⟧ ∗ ⟦ right t o l q ⟧
        ∗ ⟦ sees (holding r) x ⟧)
    sees_all q r x = let C : Fml = cell_holds t x in let R : Fml = right t o l q in
        let Z : Pr = ⟦ C ⟧ ∗ ⟦ contents t ⟧ ∗ ⟦ R ⟧ ∗ ⟦ sees (holding r) x ⟧ in
        qed 𝓛 (‵ C ∷ ‵ (contents t) ∷ ‵ (pass_holds t p ready seen) ∷ ‵ R ∷ []) ∵
        move ! (1 ∷ 2 ∷ 3 ∷ 0 ∷ []) $ by ! (opened 𝓛 t p ready seen o l q ⟦ C ⟧ (upd 𝓤 Z)
        (λ a so owner. let m : ℕ = how_many a.roll in let ls : List Line = a.lines in
        let a' : State = reseated t a so.fits p ready so.seat_is.0 r in
        qed 𝓛 (‵ (latest_of 𝓛 t ls) ∷ ‵ (withheld t t.whole seen) ∷ ‵ (rolled 𝓛 t a.roll) ∷ ‵ R
        ∷ ‵ (seated 𝓛 t a.seats) ∷ ‵ (seat 𝓛 t p ready (made_by p seen)) ∷ ‵ (located t ls)
        ∷ ‵ (tally t m) ∷ ‵ (pool a.lease m) ∷ ‵ C ∷ []) ∵
        move ! (9 ∷ []) $ fsplit ! $ move ! (0 ∷ 8 ∷ []) $
        use2 𝓛 (given (is_counted t.began (entries_of ls) ≡ is_there x) (‵ (placed t quarter x)
        ⊛ ‵ (located t ls))) (located_is x ls) $ learn ! (λ counted. split ! $
        -- [the cell's place; located; what lies there; latest; withheld; roll; right; seats; seat;
        -- tally; pool]
        move ! (3 ∷ 4 ∷ 7 ∷ 8 ∷ []) $ group ! 4 $
        use1 𝓛 (raw (upd 𝓤 (⟦ latest_of 𝓛 t ls ⟧ ∗ ⟦ pass_holds t p r ls ⟧
        ∗ ⟦ seated 𝓛 t a'.seats ⟧))) (catches r a so) $
        settle 𝓛 Z (‵ (latest_of 𝓛 t ls) ⊛ ‵ (pass_holds t p r ls) ⊛ ‵ (seated 𝓛 t a'.seats)) $
        split3 ! $ suffices ! _ (upd_i 𝓤 Z) $
        -- [latest; pass; seats; the cell's place; located; what lies there; roll; right; tally;
        -- pool]
        move ! (0 ∷ 4 ∷ 6 ∷ 2 ∷ 8 ∷ 9 ∷ []) $ group ! 6 $ use1 𝓛 (‵ (contents t))
        (shuts 𝓛 t a' (fits-reseated t a so.fits p ready so.seat_is.0 r)) $
        -- [contents; pass; the cell's place; what lies there; right]
        move ! (2 ∷ 3 ∷ []) $ fjoin ! $ frame ! $ frame ! $ move ! (1 ∷ []) $ frame ! $
        nothing ! $ fpack ! (IsAll x ls) (λ _. ftrue) (
          so.seen_is.0,
          made_kept 𝓛 t p ready seen a so,
          so.seen_is.1,
          counted,
          so.fits.legal,
          lives t a so.fits p ready so.seat_is.0 o l owner.1,
        ) $ fjoin ! $ fpack ! (List Line) (sees_as (holding r) x) ls $ done !)))

    -- what a lost exchange leaves, however many live
    abbrev pub lost_at : (List Line → Fml) → Share → ℕ → Fml
    lost_at pass q n = left t p seen pass n (λ _. some (Joined o)) (λ _. right t o l q)

    abbrev pub lost : (List Line → Fml) → Share → Fml
    lost pass q = fex ℕ (lost_at pass q)

    -- the exchange is lost: the word has a count since another won
    pub joins : t.began ≡ Lone → (q : Share) (x : ℕ × ℕ)
        → ⟦ cell_holds t (some x) ⟧ ∗ ⟦ contents t ⟧ ∗ ⟦ pass_holds t p ready seen ⟧
        ∗ ⟦ right t o l q ⟧
        ⊢ upd 𝓤 (⟦ cell_holds t (some x) ⟧ ∗ ⟦ contents t ⟧ ∗ ⟦ lost (pass_holds t p ready) q ⟧)
    joins lone q x = let C : Fml = cell_holds t (some x) in let R : Fml = right t o l q in
        let e : Entry = Joined o in
        let Z : Pr = ⟦ C ⟧ ∗ ⟦ contents t ⟧ ∗ ⟦ lost (pass_holds t p ready) q ⟧ in
        qed 𝓛 (‵ C ∷ ‵ (contents t) ∷ ‵ (pass_holds t p ready seen) ∷ ‵ R ∷ []) ∵
        move ! (1 ∷ 2 ∷ 3 ∷ 0 ∷ []) $ by ! (opened 𝓛 t p ready seen o l q ⟦ C ⟧ (upd 𝓤 Z)
        (λ a so owner. let m : ℕ = how_many a.roll in
        let a' : State = wrote a p ready e a.roll in
        qed 𝓛 (‵ (latest_of 𝓛 t a.lines) ∷ ‵ (withheld t t.whole seen) ∷ ‵ (rolled 𝓛 t a.roll)
        ∷ ‵ R ∷ ‵ (seated 𝓛 t a.seats) ∷ ‵ (seat 𝓛 t p ready (made_by p seen))
        ∷ ‵ (located t a.lines) ∷ ‵ (tally t m) ∷ ‵ (pool a.lease m) ∷ ‵ C ∷ []) ∵
        move ! (9 ∷ []) $ fsplit ! $ move ! (0 ∷ 8 ∷ []) $
        use2 𝓛 (given (is_counted t.began (entries_of a.lines) ≡ true)
        (‵ (placed t quarter (some x)) ⊛ ‵ (located t a.lines))) (located_is (some x) a.lines) $
        learn ! (λ counted. split ! $
        let may : MayFollow t.most t.began (entries_of a.lines) e = (
          lives t a so.fits p ready so.seat_is.0 o l owner.1,
          counted-promoted t.began (entries_of a.lines) lone counted,
        ) in
        let f' : Fits t a' = fits-aside t a so.fits p ready so.seat_is.0 e refl refl may in
        -- [the cell's place; located; the count; latest; withheld; roll; right; seats; seat;
        -- tally; pool]
        move ! (3 ∷ 4 ∷ 7 ∷ 8 ∷ 1 ∷ []) $ group ! 5 $
        use1 𝓛 (raw (upd 𝓤 (WrittenDown 𝓛 t p ready seen a e)))
        (writes_down 𝓛 t p ready seen a e (counts_on 𝓛 t a.lines p e counted) so.seat_is.0
        so.seat_is.1 so.seen_is.1) $
        settle 𝓛 Z (‵ (latest_of 𝓛 t a'.lines) ⊛ ‵ (pass_holds t p ready a'.lines)
        ⊛ ‵ (seated 𝓛 t a'.seats) ⊛ ‵ (located t a'.lines)) $
        split3 ! $ move ! (2 ∷ []) $ split ! $ suffices ! _ (upd_i 𝓤 Z) $
        -- [seats; located; latest; pass; the cell's place; the count; roll; right; tally; pool]
        move ! (2 ∷ 1 ∷ 6 ∷ 0 ∷ 8 ∷ 9 ∷ []) $ group ! 6 $ use1 𝓛 (‵ (contents t))
        (shuts 𝓛 t a' f') $
        -- [contents; pass; the cell's place; the count; right]
        move ! (1 ∷ 4 ∷ []) $ fjoin ! $ nothing ! $
        fpack ! (Follows t p seen m a.lines (some e)) (λ _. ftrue)
        (follows 𝓛 t p ready seen a so m refl e may f'.legal) $ fjoin ! $
        fpack ! (List Line) (left_by t p seen (pass_holds t p ready) m (λ _. some e) (λ _. R))
        a.lines $
        fpack ! ℕ (lost_at (pass_holds t p ready) q) m $
        move ! (2 ∷ 3 ∷ []) $ fjoin ! $ move ! (0 ∷ 2 ∷ 1 ∷ []) $ done !)))

    abbrev pub promotion : List Line → Option Entry
    promotion before = some (Promote o (next_owner before))

    abbrev pub promoted : Share → List Line → Fml
    promoted q before = fsep (right t o l q) (made_if t l true (next_owner before))

    abbrev pub won : (List Line → Fml) → Share → Fml
    won pass q = left t p seen pass 1 promotion (promoted q)

    -- the exchange is won: the count, of two owners, lies at this place
    pub promotes : l.is_lent ≡ true → (q : Share) (x : ℕ × ℕ)
        → ⟦ cell_holds t none ⟧ ∗ ⟦ contents t ⟧ ∗ ⟦ pass_holds t p ready seen ⟧
        ∗ ⟦ right t o l q ⟧
        ⊢ upd 𝓤 (⟦ placed t quarter (some x) ⟧ ∗ ⟦ behind t 2 ⟧
        ∗ ⟦ at_least places t.place (some x) ⟧ ∗ ⟦ contents t ⟧ ∗ ⟦ won (pass_holds t p ready) q ⟧)
    promotes lent q x = let C : Fml = cell_holds t none in let R : Fml = right t o l q in
        let here : Option (ℕ × ℕ) = some x in let K : Fml = at_least places t.place here in
        let Z : Pr = ⟦ placed t quarter here ⟧ ∗ ⟦ behind t 2 ⟧ ∗ ⟦ K ⟧ ∗ ⟦ contents t ⟧
        ∗ ⟦ won (pass_holds t p ready) q ⟧ in
        qed 𝓛 (‵ C ∷ ‵ (contents t) ∷ ‵ (pass_holds t p ready seen) ∷ ‵ R ∷ []) ∵
        move ! (1 ∷ 2 ∷ 3 ∷ 0 ∷ []) $ by ! (opened 𝓛 t p ready seen o l q ⟦ C ⟧ (upd 𝓤 Z)
        (λ a so owner. let m : ℕ = how_many a.roll in let h : List Entry = entries_of a.lines in
        let new : ℕ = length a.roll in let is : new ≡ next_owner a.lines = next_is a so.fits in
        let e : Entry = Promote o (next_owner a.lines) in
        let more : List Line = a.lines ++ (p, e) ∷ [] in
        let roll' : List (Bool × Lease) = raised t a so.fits p ready so.seat_is.0 in
        let a' : State = wrote a p ready e roll' in
        let leased : l ≡ a.lease = so.fits.leased o l owner.1 in
        let live : 0 < m = some-live t a so.fits p ready so.seat_is.0 o l owner.1 in
        let many : how_many roll' ≡ m + 1 = how_many-raised t a so.fits p ready so.seat_is.0 in
        qed 𝓛 (‵ (latest_of 𝓛 t a.lines) ∷ ‵ (withheld t t.whole seen) ∷ ‵ (rolled 𝓛 t a.roll)
        ∷ ‵ R ∷ ‵ (seated 𝓛 t a.seats) ∷ ‵ (seat 𝓛 t p ready (made_by p seen))
        ∷ ‵ (located t a.lines) ∷ ‵ (tally t m) ∷ ‵ (pool a.lease m) ∷ ‵ C ∷ []) ∵
        move ! (9 ∷ []) $ fsplit ! $ move ! (0 ∷ 8 ∷ []) $
        use2 𝓛 (given (is_counted t.began h ≡ false) (‵ (placed t quarter none)
        ⊛ ‵ (located t a.lines))) (located_is none a.lines) $
        learn ! (λ lone. split ! $
        let alone : LivesAlone o h = lone-one t.most t.began h o so.fits.legal lone
        (lives t a so.fits p ready so.seat_is.0 o l owner.1) in
        let one : m ≡ 1 = sym (ap length so.fits.live) ∙ ap length alone in
        let may₀ : MayFollow t.most t.began h (Promote o new) =
        (alone, never t a so.fits p ready so.seat_is.0, lone) in
        let may : MayFollow t.most t.began h e =
        subst (λ (k : ℕ). MayFollow t.most t.began h (Promote o k)) is may₀ in
        let two : 2 ≤ t.most = so.fits.least in let below : m < t.most = omega arith in
        let f' : Fits t a' = subst (λ (k : ℕ). Fits t (wrote a p ready (Promote o k) roll')) is
        (fits-made t a so.fits p ready so.seat_is.0 (Promote o new) refl refl may₀ below) in
        let counted : is_counted t.began (entries_of more) ≡ true =
        ap (is_counted t.began) (entries-append a.lines p e)
        ∙ counted-won t.began h o (next_owner a.lines) lone in
        -- [the cell's place; located; its quarter of the count; latest; withheld; roll; right;
        -- seats; seat; tally; pool]
        use2 𝓛 (raw (upd 𝓤 (⟦ placed t quarter here ⟧ ∗ ⟦ located t more ⟧ ∗ ⟦ K ⟧)))
        (gets_place x a.lines more counted) $
        settle 𝓛 Z (‵ (placed t quarter here) ⊛ ‵ (located t more) ⊛ ‵ K) $ split3 ! $
        -- [the cell's place; located; what is known; its quarter; latest; withheld; roll; right;
        -- seats; seat; tally; pool]
        move ! (3 ∷ 10 ∷ []) $ use2 𝓛 (given (1 ≡ m) (‵ (counted_as t full_share m)))
        (tallies 𝓛 t 1 m live) $ learn ! (λ _.
        use1 𝓛 (raw (upd 𝓤 (⟦ counted_as t quarter 2 ⟧ ∗ ⟦ counted_as t three_quarters 2 ⟧)))
        (cell_parts coded_ℕ 𝓛 t.count 0 m 2) $
        settle 𝓛 Z (‵ (counted_as t quarter 2) ⊛ ‵ (counted_as t three_quarters 2)) $ split ! $
        move ! (1 ∷ []) $ use1 𝓛 (‵ (tally t 2)) (tally_in 𝓛 t 2) $
        -- [tally; the word's quarter; the cell's place; located; what is known; latest; withheld;
        -- roll; right; seats; seat; pool]
        move ! (4 ∷ []) $ use1 𝓛 (‵ K ⊛ ‵ K) (at_least_dup places 𝓛 t.place here) $ split ! $
        fpack ! (ℕ × ℕ) (λ y. at_least places t.place (some y)) x $
        move ! (3 ∷ 0 ∷ []) $ fjoin ! $
        -- [the word's; what is known; tally; the cell's place; located; latest; withheld; roll;
        -- right; seats; seat; pool]
        move ! (5 ∷ 6 ∷ 9 ∷ 10 ∷ []) $ group ! 4 $
        use1 𝓛 (raw (upd 𝓤 (Lined 𝓛 t p ready seen a e)))
        (writes_line 𝓛 t p ready seen a e so.seat_is.0 so.seat_is.1 so.seen_is.1) $
        settle 𝓛 Z (‵ (latest_of 𝓛 t more) ⊛ ‵ (pass_holds t p ready more)
        ⊛ ‵ (seated 𝓛 t a'.seats)) $ split3 ! $
        -- [latest; pass; seats; the word's; what is known; tally; the cell's place; located; roll;
        -- right; pool]
        move ! (8 ∷ []) $ use1 𝓛 (raw (upd 𝓤 (⟦ rolled 𝓛 t roll' ⟧
        ∗ ⟦ right t new a.lease quarter ⟧)))
        (row_adds lease_coded 𝓛 t.rights no_lease a.roll a.lease) $
        settle 𝓛 Z (‵ (rolled 𝓛 t roll') ⊛ ‵ (right t new a.lease quarter)) $ split ! $
        suffices ! _ (upd_i 𝓤 Z) $
        -- [roll; the new right; latest; pass; seats; the word's; what is known; tally; the cell's
        -- place; located; right; pool]
        let of_two : 2 ≡ how_many roll' = omega arith in
        move ! (11 ∷ []) $ use1 𝓛 (‵ (pool a.lease (how_many roll')) ⊛ ‵ (stake a.lease))
        (pool_more 𝓛 t a.lease m (how_many roll')
        (ap (λ (k : Lease). k.is_lent) (sym leased) ∙ lent) live many (omega arith)) $ split ! $
        rewrite ! 9 (λ (k : ℕ). ‵ (tally t k)) of_two refl $
        -- [pool; stake; roll; the new right; latest; pass; seats; the word's; what is known; tally;
        -- the cell's place; located; right]
        move ! (4 ∷ 11 ∷ 2 ∷ 6 ∷ 9 ∷ 0 ∷ []) $ group ! 6 $ use1 𝓛 (‵ (contents t))
        (shuts 𝓛 t a' f') $
        -- [contents; stake; the new right; pass; the word's; what is known; the cell's place; right]
        rewrite ! 2 (λ (k : ℕ × Lease). ‵ (right t k.0 k.1 quarter))
        (λ i. (is i, sym leased i)) refl $
        rewrite ! 1 (λ (k : Lease). ‵ (stake k)) (sym leased) refl $
        move ! (2 ∷ 1 ∷ []) $ fjoin ! $ move ! (6 ∷ 0 ∷ []) $ fjoin ! $ move ! (2 ∷ 0 ∷ []) $
        fjoin ! $ nothing ! $ fpack ! (Follows t p seen 1 a.lines (some e)) (λ _. ftrue)
        (follows 𝓛 t p ready seen a so 1 (sym one) e may f'.legal) $ fjoin ! $
        fpack ! (List Line) (left_by t p seen (pass_holds t p ready) 1 promotion (promoted q))
        a.lines $
        -- [what is left; contents; the word's; what is known; the cell's place]
        move ! (4 ∷ 2 ∷ 3 ∷ 1 ∷ 0 ∷ []) $ done !))))

    -- an owner takes the block back whose word is lone, for its part of the lifetime: it is alone,
    -- and no entry is added
    pub claims_lone : l.is_lent ≡ true → (r : Bool)
        → ⟦ cell_holds t none ⟧ ∗ ⟦ contents t ⟧ ∗ ⟦ pass_holds t p ready seen ⟧
        ∗ ⟦ right t o l quarter ⟧
        ⊢ upd 𝓤 (⟦ cell_holds t none ⟧ ∗ (⟦ stake l ⟧ -∗ (⟦ contents t ⟧
        ∗ ⟦ claim_gain t o l true ⟧ ∗ ⟦ sees (holding r) none ⟧)))
    claims_lone lent r = let C : Fml = cell_holds t none in let R : Fml = right t o l quarter in
        let k : Lease = taken l in let G : Fml = claim_gain t o l true in
        let Z : Pr = ⟦ C ⟧ ∗ (⟦ stake l ⟧ -∗ (⟦ contents t ⟧ ∗ ⟦ G ⟧
        ∗ ⟦ sees (holding r) none ⟧)) in
        qed 𝓛 (‵ C ∷ ‵ (contents t) ∷ ‵ (pass_holds t p ready seen) ∷ ‵ R ∷ []) ∵
        move ! (1 ∷ 2 ∷ 3 ∷ 0 ∷ []) $
        by ! (opened 𝓛 t p ready seen o l quarter ⟦ C ⟧ (upd 𝓤 Z)
        (λ a so owner. let m : ℕ = how_many a.roll in let ls : List Line = a.lines in
        let h : List Entry = entries_of ls in
        let leased : l ≡ a.lease = so.fits.leased o l owner.1 in
        let a₁ : State = reseated t a so.fits p ready so.seat_is.0 r in
        let roll' : List (Bool × Lease) = set a.roll o (true, k) in
        let same : how_many roll' ≡ m = ap length (living-relet 0 o a.roll l k owner.1) in
        let there : Lives o h = lives t a so.fits p ready so.seat_is.0 o l owner.1 in
        qed 𝓛 (‵ (latest_of 𝓛 t ls) ∷ ‵ (withheld t t.whole seen) ∷ ‵ (rolled 𝓛 t a.roll) ∷ ‵ R
        ∷ ‵ (seated 𝓛 t a.seats) ∷ ‵ (seat 𝓛 t p ready (made_by p seen)) ∷ ‵ (located t ls)
        ∷ ‵ (tally t m) ∷ ‵ (pool a.lease m) ∷ ‵ C ∷ []) ∵
        move ! (9 ∷ []) $ fsplit ! $ move ! (0 ∷ 8 ∷ []) $
        use2 𝓛 (given (is_counted t.began h ≡ false) (‵ (placed t quarter none)
        ⊛ ‵ (located t ls))) (located_is none ls) $ learn ! (λ lone. split ! $
        let one : m ≡ 1 = sym (ap length so.fits.live)
        ∙ ap length (lone-one t.most t.began h o so.fits.legal lone there) in
        -- [the cell's place; located; its quarter of the count; latest; withheld; roll; right;
        -- seats; seat; tally; pool]
        move ! (3 ∷ 4 ∷ 7 ∷ 8 ∷ []) $ group ! 4 $
        use1 𝓛 (raw (upd 𝓤 (⟦ latest_of 𝓛 t ls ⟧ ∗ ⟦ pass_holds t p r ls ⟧
        ∗ ⟦ seated 𝓛 t a₁.seats ⟧))) (catches r a so) $
        settle 𝓛 Z (‵ (latest_of 𝓛 t ls) ⊛ ‵ (pass_holds t p r ls) ⊛ ‵ (seated 𝓛 t a₁.seats)) $
        split3 ! $
        -- [latest; pass; seats; the cell's place; located; its quarter; roll; right; tally; pool]
        move ! (6 ∷ 7 ∷ []) $ use2 𝓛 (raw (upd 𝓤 (⟦ rolled 𝓛 t roll' ⟧
        ∗ ⟦ right t o k quarter ⟧)))
        (row_writes lease_coded 𝓛 t.rights no_lease a.roll o l k owner.0 owner.1) $
        settle 𝓛 Z (‵ (rolled 𝓛 t roll') ⊛ ‵ (right t o k quarter)) $ split ! $
        suffices ! _ (upd_i 𝓤 Z) $
        -- [roll; right; latest; pass; seats; the cell's place; located; its quarter; tally; pool]
        move ! (5 ∷ 7 ∷ []) $ fjoin ! $ frame ! $ assume ! (‵ (stake l)) $
        -- [stake; roll; right; latest; pass; seats; located; tally; pool]
        move ! (8 ∷ 0 ∷ []) $ rewrite ! 0 (λ (z : Lease × ℕ). ‵ (pool z.0 z.1))
        (λ i. (sym leased i, one i)) refl $
        use2 𝓛 (‵ (flft (l.lifetime ∷ []) full_share) ⊛ ‵ (ticket l.key 0))
        (pool_last 𝓛 t l lent) $ split ! $ fjoin ! $
        -- [the end; roll; right; latest; pass; seats; located; tally]
        nothing ! $ fjoin ! $ move ! (2 ∷ 0 ∷ []) $ fjoin ! $ nothing ! $
        fpack ! (0 ≡ 0) (λ _. ftrue) refl $ use1 𝓛 (‵ (pool k 1)) (id⊢ 𝓤 _) $
        rewrite ! 0 (λ (z : ℕ). ‵ (pool k z)) (sym (same ∙ one)) refl $
        rewrite ! 7 (λ (z : ℕ). ‵ (tally t z)) (sym same) refl $
        -- [pool; what is gained; roll; latest; pass; seats; located; tally]
        move ! (3 ∷ 6 ∷ 2 ∷ 5 ∷ 7 ∷ 0 ∷ []) $ group ! 6 $ use1 𝓛 (‵ (contents t))
        (shuts 𝓛 t (relet a₁ o k) (fits-relet t a₁
        (fits-reseated t a so.fits p ready so.seat_is.0 r) o l k owner.0 owner.1 one)) $
        -- [contents; what is gained; pass]
        frame ! $ frame ! $
        nothing ! $ fpack ! (IsAll none ls) (λ _. ftrue) (
          so.seen_is.0,
          made_kept 𝓛 t p ready seen a so,
          so.seen_is.1,
          lone,
          so.fits.legal,
          there,
        ) $ fjoin ! $ fpack ! (List Line) (sees_as (holding r) none) ls $ done !)))
