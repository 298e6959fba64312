-- A step on the cell of a block that began lone: what the machine's load and its compare-exchange
-- from null ask. The step opens the cell's invariant, the block's, and the borrow of the cell, in
-- this order. Assumes `Logic`.
use Rattle.std.proofs.Common.{◌≡◌, ℕ, ◌^◌, ◌<◌, Bool, true, false, List, [], ◌∷◌, refl, sym, subst}
use Rattle.std.proofs.Common.{arith, lit<}
use mathlib.Core.Bool.{cond}
use mathlib.Core.Option.{Option, none, some}
use seplogic.Ra.Ura.{Ura}
use base.Share.{quarter}
use base.Logic.{ex, guard, upd, upd_i, ex_i}
use base.Fml.{Lft, Share, Fml, ftrue, fsep, fex, flft, fbor, fnamed}
use base.Growing.{at_least}
use types.Logic.{Logic}
use types.Growing.{latest_shows}
use types.Kit.{‵, raw, ◌⊛◌, ◌$◌, ◌∵◌, !, qed, by, move, drop, split, split3, group, fsplit, fsplit3}
use types.Kit.{fjoin, fpick, fpack, frame, assume, show, done, use0, use1, use2, rewrite, suffices}
use types.Kit.{settle, given, learn, check}
use denote.RawPtr.{Ptr, block_ptr, null_ptr}
use denote.Steps.{nothing}
use Rattle.core.specs.Sync.RawAtomic.Pointer.{cell, alike, asks_ptr, asks_by_cases, compares}
use Rattle.core.proofs.raw_atomic.Asked.{PtrLiesWith, borrowed_ptr_with, alike_null}
use Rattle.arc_owners.specs.declared.history.entry.Entry.TheVariants.{Joined}
use Rattle.arc_owners.specs.history.Histories.{Lone}
use Rattle.arc_owners.specs.count.Invariant.{BlockId, Line, Lease, right, contents, pass_holds}
use Rattle.arc_owners.specs.count.Invariant.{trace_owns, places, told, behind, lies, placed, pointer}
use Rattle.arc_owners.specs.count.Invariant.{cell_holds, cell_lies, cell_at}
use Rattle.arc_owners.specs.count.Leads.{target, known_at, pending_at}
use Rattle.arc_owners.proofs.count.Signs.{signs}
use Rattle.arc_owners.proofs.count.Places.{resumes, outside}
use Rattle.arc_owners.proofs.count.LoneMoves.{IsAll, sees, holding, sees_all, lost_at, lost, joins}
use Rattle.arc_owners.proofs.count.LoneMoves.{won, promotion, promoted, promotes}

pub target-pointer : (x : Option (ℕ × ℕ)) → target (pointer x) ≡ x
target-pointer none = refl
target-pointer (some x) = refl

beside : (y : Bool) (L P Q : Fml) → fsep L (cond y P Q) ≡ cond y (fsep L P) (fsep L Q)
beside true L P Q = refl
beside false L P Q = refl

module _ {M : Type 1} {𝓤 : Ura M} (𝓛 : Logic 𝓤) (t : BlockId) (p : ℕ) (ready : Bool)
    (seen : List Line) (own : ℕ) (l : Lease) where
  open 𝓛 use {A as At}
  open signs 𝓛 use {Pr, ◌⊢◌, ◌∗◌, ◌-∗◌, ⟦◌⟧}

  infix 26 ◌⊢◌
  infixr 35 ◌∗◌
  infixr 30 ◌-∗◌
  abbrev J : Fml
  J = contents t

  abbrev N : Fml
  N = fnamed t.number J

  abbrev B : Fml
  B = pass_holds t p ready seen

  abbrev T : Bool → List Line → Fml
  T r ls = trace_owns true t p r ls

  pub knows : (x : Option (ℕ × ℕ)) → ⟦ cell_holds t x ⟧
      ⊢ ⟦ cell_holds t x ⟧ ∗ ⟦ known_at t x ⟧
  knows none = qed 𝓛 (‵ (cell_holds t none) ∷ []) ∵ nothing ! $ move ! (1 ∷ 0 ∷ []) $ done !
  knows (some x) = let here : Option (ℕ × ℕ) = some x in
      qed 𝓛 (‵ (cell_holds t here) ∷ []) ∵ fsplit3 ! $ move ! (1 ∷ []) $ fpick ! (λ low. drop ! $
      use1 𝓛 (‵ (placed t quarter here) ⊛ ‵ (at_least places t.place here))
      (latest_shows places 𝓛 quarter t.place here here (places.same here)) $ split ! $
      -- [where the pointer leads; what is known; what lies there]
      move ! (2 ∷ []) $ nothing ! $ fpack ! (x.1 < 2 ^ 63) (λ _. ftrue) low $ fjoin ! $
      move ! (1 ∷ 0 ∷ []) $ fjoin ! $ move ! (1 ∷ []) $ nothing ! $
      fpack ! (x.1 < 2 ^ 63) (λ _. ftrue) low $ fjoin ! $ move ! (1 ∷ 0 ∷ []) $ done !)

  -- what a load that found this says of the pass: whether it is ready now, and what it has seen
  abbrev pub Glance : Type 1
  Glance = Option (ℕ × ℕ) → Bool → List Line → Type 0

  abbrev pub passed_as : Glance → Option (ℕ × ℕ) → Bool × List Line → Fml
  passed_as G x z = fsep (told (G x z.0 z.1)) (T z.0 z.1)

  abbrev pub passed : Glance → Option (ℕ × ℕ) → Fml
  passed G x = fex (Bool × List Line) (passed_as G x)

  -- it has seen all that the history is; it is ready where the word was lone
  abbrev pub ready_at : Option (ℕ × ℕ) → Bool
  ready_at none = true
  ready_at (some x) = ready

  abbrev pub Looks_at : Glance
  Looks_at x r ls = (r ≡ ready_at x) × IsAll 𝓛 t p ready seen own l x ls

  -- the same, but it is as it was where the word had a count
  abbrev pub Seeks_at : Glance
  Seeks_at none r ls = Looks_at none r ls
  Seeks_at (some x) r ls = (r ≡ ready) × (ls ≡ seen)

  pub with_name : (G : Glance) (r : Bool) (x : Option (ℕ × ℕ))
      → ((ls : List Line) → IsAll 𝓛 t p ready seen own l x ls → G x r ls)
      → ⟦ N ⟧ ∗ ⟦ sees 𝓛 t p ready seen own l (holding 𝓛 t p ready seen own l r) x ⟧
      ⊢ ⟦ passed G x ⟧
  with_name G r x tells = let H : List Line → Fml = holding 𝓛 t p ready seen own l r in
      qed 𝓛 (‵ N ∷ ‵ (sees 𝓛 t p ready seen own l H x) ∷ []) ∵ move ! (1 ∷ []) $
      fpick ! (λ ls. fsplit ! $ fpick ! (λ so. drop ! $ move ! (1 ∷ 0 ∷ []) $
      use2 𝓛 (‵ (T r ls)) (resumes 𝓛 t p r seen ls) $ nothing ! $
      fpack ! (G x r ls) (λ _. ftrue) (tells ls so) $ fjoin ! $
      fpack ! (Bool × List Line) (passed_as G x) (r, ls) $ done !))

  pub as_it_was : (G : Glance) (x : Option (ℕ × ℕ)) → G x ready seen
      → ⟦ N ⟧ ∗ ⟦ B ⟧ ⊢ ⟦ passed G x ⟧
  as_it_was G x so = qed 𝓛 (‵ N ∷ ‵ B ∷ []) ∵
      use2 𝓛 (‵ (T ready seen)) (resumes 𝓛 t p ready seen seen) $ nothing ! $
      fpack ! (G x ready seen) (λ _. ftrue) so $ fjoin ! $
      fpack ! (Bool × List Line) (passed_as G x) (ready, seen) $ done !

  module _ (q : Share) where
    abbrev R : Fml
    R = right t own l q

    -- what the exchange leaves where it won, and where it lost, of a count of two at this place
    abbrev pub after_won : Fml
    after_won = won 𝓛 t p ready seen own l (T ready) q

    abbrev pub after_lost : ℕ × ℕ → Fml
    after_lost x = fsep (pending_at t.receipts x 2) (lost 𝓛 t p ready seen own l (T ready) q)

    -- what a load leaves that found this
    abbrev pub loaded : Glance → Option (ℕ × ℕ) → Fml
    loaded G x = fsep R (fsep (known_at t x) (passed G x))

    -- what such a load does to the invariant
    abbrev pub Glances : Glance → Type 1
    Glances G = (x : Option (ℕ × ℕ)) → ⟦ cell_holds t x ⟧ ∗ ⟦ J ⟧ ∗ ⟦ N ⟧ ∗ ⟦ B ⟧ ∗ ⟦ R ⟧
        ⊢ upd 𝓤 (⟦ cell_holds t x ⟧ ∗ ⟦ J ⟧ ∗ ⟦ R ⟧ ∗ ⟦ passed G x ⟧)

    pub looks : Glances Looks_at
    looks x = let C : Fml = cell_holds t x in let y : Bool = ready_at x in
        let S : Fml = sees 𝓛 t p ready seen own l (holding 𝓛 t p ready seen own l y) x in
        let S' : Fml = passed Looks_at x in let Z : Pr = ⟦ C ⟧ ∗ ⟦ J ⟧ ∗ ⟦ R ⟧ ∗ ⟦ S' ⟧ in
        qed 𝓛 (‵ C ∷ ‵ J ∷ ‵ N ∷ ‵ B ∷ ‵ R ∷ []) ∵ move ! (0 ∷ 1 ∷ 3 ∷ 4 ∷ []) $ group ! 4 $
        use1 𝓛 (raw (upd 𝓤 (⟦ C ⟧ ∗ ⟦ J ⟧ ∗ ⟦ R ⟧ ∗ ⟦ S ⟧)))
        (sees_all 𝓛 t p ready seen own l q y x) $
        settle 𝓛 Z (‵ C ⊛ ‵ J ⊛ ‵ R ⊛ ‵ S) $ split3 ! $ move ! (2 ∷ []) $ split ! $
        suffices ! _ (upd_i 𝓤 Z) $
        -- [the right; what is seen; the cell's; the invariant; its name]
        move ! (4 ∷ 1 ∷ []) $ use2 𝓛 (‵ S') (with_name Looks_at y x (λ ls so. (refl, so))) $
        move ! (2 ∷ 3 ∷ 1 ∷ 0 ∷ []) $ done !

    pub seeks : Glances Seeks_at
    seeks none = looks none
    seeks (some x) = let C : Fml = cell_holds t (some x) in
        let S' : Fml = passed Seeks_at (some x) in let Z : Pr = ⟦ C ⟧ ∗ ⟦ J ⟧ ∗ ⟦ R ⟧ ∗ ⟦ S' ⟧ in
        qed 𝓛 (‵ C ∷ ‵ J ∷ ‵ N ∷ ‵ B ∷ ‵ R ∷ []) ∵ suffices ! _ (upd_i 𝓤 Z) $
        move ! (2 ∷ 3 ∷ []) $ use2 𝓛 (‵ S') (as_it_was Seeks_at (some x) (refl, refl)) $
        move ! (1 ∷ 2 ∷ 3 ∷ 0 ∷ []) $ done !

    module _ (i b o : ℕ) (past : t.number < i) (κ : Lft) (e : Share) where
      abbrev I : Fml
      I = cell_at t b o

      apart : ¬ (t.number ≡ i)
      apart x = omega arith

      module _ (G : Glance) (glances : Glances G) where
        abbrev after_load : Ptr → Fml
        after_load r = loaded G (target r)

        abbrev Found : Ptr → Pr
        Found = PtrLiesWith 𝓛 κ e I b o Ptr (λ r. r) (λ r. r) (λ _. ftrue) after_load J

        reads_cell : (x : Option (ℕ × ℕ)) → ⟦ cell b o (pointer x) ⟧ ∗ ⟦ cell_holds t x ⟧ ∗ ⟦ J ⟧
            ∗ ⟦ N ⟧ ∗ ⟦ B ⟧ ∗ ⟦ R ⟧ ⊢ upd 𝓤 (ex 𝓤 Found)
        reads_cell x = let C : Fml = cell_holds t x in let r : Ptr = pointer x in
            let S : Fml = passed G x in
            qed 𝓛 (‵ (cell b o r) ∷ ‵ C ∷ ‵ J ∷ ‵ N ∷ ‵ B ∷ ‵ R ∷ []) ∵
            move ! (1 ∷ 2 ∷ 3 ∷ 4 ∷ 5 ∷ []) $ group ! 5 $
            use1 𝓛 (raw (upd 𝓤 (⟦ C ⟧ ∗ ⟦ J ⟧ ∗ ⟦ R ⟧ ∗ ⟦ S ⟧))) (glances x) $
            settle 𝓛 (ex 𝓤 Found) (‵ C ⊛ ‵ J ⊛ ‵ R ⊛ ‵ S) $ split3 ! $ move ! (2 ∷ []) $ split ! $
            suffices ! _ (upd_i 𝓤 (ex 𝓤 Found)) $
            -- [the right; what is seen; the cell's; the invariant; the cell]
            move ! (2 ∷ []) $ use1 𝓛 (‵ C ⊛ ‵ (known_at t x)) (knows x) $ split ! $
            -- [the cell's; what is known; the right; what is seen; the invariant; the cell]
            show ! Found r $ move ! (5 ∷ []) $ frame ! $ nothing ! $ frame ! $
            assume ! (‵ (cell b o r)) $
            suffices ! _ (upd_i 𝓤 (⟦ I ⟧ ∗ ⟦ J ⟧ ∗ ⟦ after_load r ⟧)) $ fjoin ! $
            fpack ! (Option (ℕ × ℕ)) (cell_lies t b o) x $ frame ! $ move ! (3 ∷ []) $ frame ! $
            -- [what is known; the right; what is seen]
            move ! (0 ∷ 2 ∷ []) $ fjoin ! $ move ! (1 ∷ 0 ∷ []) $ fjoin ! $
            rewrite ! 0 (λ (z : Option (ℕ × ℕ)). ‵ (loaded G z)) (sym (target-pointer x)) refl $ done !

        -- the load, by which the pass sees whether the word has a count
        pub loads_cell : At.named i (fbor κ I) ∗ ⟦ N ⟧ ∗ At.lft κ e ∗ ⟦ N ⟧ ∗ ⟦ B ⟧ ∗ ⟦ R ⟧
            ⊢ asks_ptr 𝓛 (block_ptr b o) (λ r. r) (λ r. fsep (flft κ e) (loaded G (target r)))
        loads_cell = borrowed_ptr_with 𝓛 κ e I b o Ptr (λ r. r) (λ r. r) (λ _. ftrue) after_load i
            t.number J apart (⟦ N ⟧ ∗ ⟦ B ⟧ ∗ ⟦ R ⟧)
            (qed 𝓛 (‵ I ∷ ‵ J ∷ ‵ N ∷ ‵ B ∷ ‵ R ∷ []) ∵
            fpick ! (λ x. fsplit ! $ by ! (reads_cell x)))

      module _ (x : ℕ × ℕ) (lent : l.is_lent ≡ true) (lone : t.began ≡ Lone) where
        abbrev here : Option (ℕ × ℕ)
        here = some x

        abbrev mine : Fml
        mine = pending_at t.receipts x 2

        abbrev after_both : Ptr × Bool → Fml
        after_both z = cond z.1 after_won (after_lost x)

        abbrev next : Ptr × Bool → Ptr
        next z = cond z.1 (pointer here) z.0

        abbrev same : Ptr × Bool → Fml
        same z = alike z.0 null_ptr z.1

        abbrev Turned : Ptr × Bool → Pr
        Turned = PtrLiesWith 𝓛 κ e I b o (Ptr × Bool) (λ z. z.0) next same after_both J

        named_won : ⟦ N ⟧ ∗ ⟦ won 𝓛 t p ready seen own l (pass_holds t p ready) q ⟧ ⊢ ⟦ after_won ⟧
        named_won = qed 𝓛 (‵ N ∷ ‵ (won 𝓛 t p ready seen own l (pass_holds t p ready) q) ∷ []) ∵
            move ! (1 ∷ 0 ∷ []) $ by ! (outside 𝓛 t p ready seen (promotion 𝓛 t p ready seen own l)
            (promoted 𝓛 t p ready seen own l q) 1)

        named_lost : ⟦ N ⟧ ∗ ⟦ lost 𝓛 t p ready seen own l (pass_holds t p ready) q ⟧
            ⊢ ⟦ lost 𝓛 t p ready seen own l (T ready) q ⟧
        named_lost = qed 𝓛 (‵ N ∷ ‵ (lost 𝓛 t p ready seen own l (pass_holds t p ready) q) ∷ []) ∵
            move ! (1 ∷ []) $ fpick ! (λ n.
            use2 𝓛 (‵ (lost_at 𝓛 t p ready seen own l (T ready) q n))
            (outside 𝓛 t p ready seen (λ _. some (Joined own)) (λ _. R) n) $
            fpack ! ℕ (lost_at 𝓛 t p ready seen own l (T ready) q) n $ done !)

        -- the count lies where the cell points now
        in_place : ⟦ cell b o (pointer here) ⟧ ∗ ⟦ placed t quarter here ⟧ ∗ ⟦ behind t 2 ⟧ ∗ ⟦ mine ⟧
            ⊢ ⟦ I ⟧
        in_place = qed 𝓛 (‵ (cell b o (pointer here)) ∷ ‵ (placed t quarter here) ∷ ‵ (behind t 2)
            ∷ ‵ mine ∷ []) ∵ move ! (3 ∷ []) $ fsplit ! $
            -- [the word; what it has beside; the cell; the place; the count's]
            move ! (0 ∷ 4 ∷ []) $ fjoin ! $ fpack ! ℕ (lies t x.0 x.1) 2 $ move ! (1 ∷ []) $
            fsplit ! $ move ! (1 ∷ 2 ∷ []) $ fjoin ! $ move ! (1 ∷ 0 ∷ []) $ fjoin ! $
            -- [what lies there; the cell; the place]
            move ! (2 ∷ 0 ∷ []) $ fjoin ! $ move ! (1 ∷ 0 ∷ []) $ fjoin ! $
            fpack ! (Option (ℕ × ℕ)) (cell_lies t b o) here $ done !

        -- where another count lies already
        abbrev Lost : ℕ × ℕ → Pr
        Lost y = ⟦ cell b o (pointer (some y)) ⟧ -∗ upd 𝓤 (⟦ I ⟧ ∗ ⟦ J ⟧ ∗ ⟦ after_lost x ⟧)

        tested : (y : ℕ × ℕ) → ⟦ cell_holds t (some y) ⟧
            ⊢ guard 𝓤 (y.1 < 2 ^ 63) ⟦ cell_holds t (some y) ⟧
        tested y = qed 𝓛 (‵ (cell_holds t (some y)) ∷ []) ∵ fsplit3 ! $ move ! (1 ∷ []) $
            fpick ! (λ fits. check ! fits $ fpack ! (y.1 < 2 ^ 63) (λ _. ftrue) fits $
            move ! (0 ∷ 2 ∷ []) $ fjoin ! $ move ! (1 ∷ 0 ∷ []) $ fjoin ! $ done !)

        loses : (y : ℕ × ℕ) → ⟦ cell_holds t (some y) ⟧ ∗ ⟦ J ⟧ ∗ ⟦ N ⟧ ∗ ⟦ B ⟧ ∗ ⟦ R ⟧
            ∗ ⟦ mine ⟧ ⊢ Lost y
        loses y = let C : Fml = cell_holds t (some y) in let r : Ptr = pointer (some y) in
            let L : Fml = lost 𝓛 t p ready seen own l (pass_holds t p ready) q in
            let L' : Fml = lost 𝓛 t p ready seen own l (T ready) q in
            let Z : Pr = ⟦ I ⟧ ∗ ⟦ J ⟧ ∗ ⟦ after_lost x ⟧ in
            qed 𝓛 (‵ C ∷ ‵ J ∷ ‵ N ∷ ‵ B ∷ ‵ R ∷ ‵ mine ∷ []) ∵ assume ! (‵ (cell b o r)) $
            -- [the cell; the cell's; the invariant; its name; the pass; the right; what is prepared]
            move ! (1 ∷ 2 ∷ 4 ∷ 5 ∷ []) $ group ! 4 $
            use1 𝓛 (raw (upd 𝓤 (⟦ C ⟧ ∗ ⟦ J ⟧ ∗ ⟦ L ⟧))) (joins 𝓛 t p ready seen own l lone q y) $
            settle 𝓛 Z (‵ C ⊛ ‵ J ⊛ ‵ L) $ split3 ! $ suffices ! _ (upd_i 𝓤 Z) $
            -- [the cell's; the invariant; what is lost; the cell; the name; what is prepared]
            move ! (4 ∷ 2 ∷ []) $ use2 𝓛 (‵ L') named_lost $ move ! (3 ∷ 1 ∷ []) $ fjoin ! $
            fpack ! (Option (ℕ × ℕ)) (cell_lies t b o) (some y) $
            -- [the cell; what is lost; the invariant; what is prepared]
            move ! (3 ∷ 1 ∷ []) $ fjoin ! $ move ! (1 ∷ 2 ∷ 0 ∷ []) $ done !

        turns : (y : Option (ℕ × ℕ)) → ⟦ cell b o (pointer y) ⟧ ∗ ⟦ cell_holds t y ⟧ ∗ ⟦ J ⟧ ∗ ⟦ N ⟧
            ∗ ⟦ B ⟧ ∗ ⟦ R ⟧ ∗ ⟦ mine ⟧ ⊢ upd 𝓤 (ex 𝓤 Turned)
        turns none = let C : Fml = cell_holds t none in
            let P : Fml = placed t quarter here in let K : Fml = at_least places t.place here in
            let W : Fml = won 𝓛 t p ready seen own l (pass_holds t p ready) q in
            let r : Ptr = pointer here in let Z : Pr = ⟦ I ⟧ ∗ ⟦ J ⟧ ∗ ⟦ after_won ⟧ in
            qed 𝓛 (‵ (cell b o null_ptr) ∷ ‵ C ∷ ‵ J ∷ ‵ N ∷ ‵ B ∷ ‵ R ∷ ‵ mine ∷ []) ∵
            suffices ! _ (upd_i 𝓤 (ex 𝓤 Turned)) $ show ! Turned (null_ptr, true) $ frame ! $
            use0 𝓛 (‵ (alike null_ptr null_ptr true)) (alike_null 𝓛 null_ptr (lit< tt)) $ frame ! $
            assume ! (‵ (cell b o r)) $
            -- [the cell; the cell's; the invariant; its name; the pass; the right; what is prepared]
            move ! (1 ∷ 2 ∷ 4 ∷ 5 ∷ []) $ group ! 4 $
            use1 𝓛 (raw (upd 𝓤 (⟦ P ⟧ ∗ ⟦ behind t 2 ⟧ ∗ ⟦ K ⟧ ∗ ⟦ J ⟧ ∗ ⟦ W ⟧)))
            (promotes 𝓛 t p ready seen own l lent q x) $
            settle 𝓛 Z (‵ P ⊛ ‵ (behind t 2) ⊛ ‵ K ⊛ ‵ J ⊛ ‵ W) $ split3 ! $ move ! (2 ∷ []) $
            split3 ! $ suffices ! _ (upd_i 𝓤 Z) $
            -- [what is known; the invariant; what is won; the place; the count's; the cell; the name;
            -- what is prepared]
            drop ! $ move ! (5 ∷ 1 ∷ []) $ use2 𝓛 (‵ after_won) named_won $
            -- [what is won; the invariant; the place; the count's; the cell; what is prepared]
            move ! (4 ∷ 2 ∷ 3 ∷ 5 ∷ []) $ group ! 4 $ use1 𝓛 (‵ I) in_place $
            move ! (0 ∷ 2 ∷ 1 ∷ []) $ done !
        turns (some y) = let C : Fml = cell_holds t (some y) in let r : Ptr = pointer (some y) in
            qed 𝓛 (‵ (cell b o r) ∷ ‵ C ∷ ‵ J ∷ ‵ N ∷ ‵ B ∷ ‵ R ∷ ‵ mine ∷ []) ∵
            suffices ! _ (upd_i 𝓤 (ex 𝓤 Turned)) $ move ! (1 ∷ []) $
            use1 𝓛 (given (y.1 < 2 ^ 63) (‵ C)) (tested y) $ learn ! (λ fits.
            move ! (0 ∷ 2 ∷ 3 ∷ 4 ∷ 5 ∷ 6 ∷ []) $ group ! 6 $ use1 𝓛 (raw (Lost y)) (loses y) $
            use0 𝓛 (‵ (alike r null_ptr false)) (alike_null 𝓛 r fits) $ move ! (2 ∷ 0 ∷ 1 ∷ []) $
            by ! (ex_i 𝓤 Turned (r, false)))

        -- the exchange from null: the count is put in place, or another is there
        pub exchanges_cell : At.named i (fbor κ I) ∗ ⟦ N ⟧ ∗ At.lft κ e ∗ ⟦ N ⟧ ∗ ⟦ B ⟧ ∗ ⟦ R ⟧
            ∗ ⟦ mine ⟧ ⊢ compares 𝓛 (block_ptr b o) null_ptr (pointer here)
            (λ r. fsep (flft κ e) after_won) (λ r. fsep (flft κ e) (after_lost x))
        exchanges_cell = subst (λ (F : Ptr × Bool → Fml). At.named i (fbor κ I) ∗ ⟦ N ⟧ ∗ At.lft κ e
            ∗ ⟦ N ⟧ ∗ ⟦ B ⟧ ∗ ⟦ R ⟧ ∗ ⟦ mine ⟧
            ⊢ asks_by_cases 𝓛 (Ptr × Bool) (λ z. z.0) next same F (block_ptr b o))
            (λ j z. beside z.1 (flft κ e) after_won (after_lost x) j)
            (borrowed_ptr_with 𝓛 κ e I b o (Ptr × Bool) (λ z. z.0) next same after_both i t.number J
            apart (⟦ N ⟧ ∗ ⟦ B ⟧ ∗ ⟦ R ⟧ ∗ ⟦ mine ⟧)
            (qed 𝓛 (‵ I ∷ ‵ J ∷ ‵ N ∷ ‵ B ∷ ‵ R ∷ ‵ mine ∷ []) ∵
            fpick ! (λ y. fsplit ! $ by ! (turns y))))
