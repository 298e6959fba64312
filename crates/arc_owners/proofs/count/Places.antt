-- An operation where the word lies: what the machine's step asks. The step opens the word's
-- invariant, the block's, and the borrow of the word, with a token that is there again when the
-- block's invariant shuts. Assumes `Logic`.
use Rattle.std.proofs.Common.{◌≡◌, ℕ, ◌<◌, Bool, true, false, List, [], ◌∷◌, arith}
use mathlib.Core.Option.{Option}
use mathlib.Core.List.{Mem, mem-cons, not-mem-nil}
use mathlib.Core.HLevel.{⊥_prop}
use mathlib.Core.Logic.Or
use seplogic.Ra.Ura.{Ura}
use base.Logic.{ex, all, all_e, guard, upd, upd_i, ex_i, apply∗}
use base.Fml.{Lft, Share, Fml, fsep, flft, fbor, fnamed}
use types.Logic.{Logic}
use types.Kit.{‵, raw, ◌⊛◌, ◌$◌, ◌∵◌, !, qed, by, move, split, split3, join, group, fsplit, fsplit3}
use types.Kit.{drop, fjoin, fpick, fpack, frame, each, assume, show, check, done, use1, use2, use3}
use types.Kit.{suffices, settle}
use denote.RawPtr.{block_ptr}
use Rattle.core.specs.Sync.RawAtomic.{Shift, rests, opens, shuts, enters, leaves, word, along}
use Rattle.core.specs.Sync.RawAtomic.{shifted, back, found, if_none, asks, always}
use Rattle.arc_owners.specs.declared.history.entry.Entry.{Entry}
use Rattle.arc_owners.specs.count.Invariant.{BlockId, Line, Lease, known, right, right_owns}
use Rattle.arc_owners.specs.count.Invariant.{contents}
use Rattle.arc_owners.specs.count.Invariant.{behind, lies, counting, pass_holds, trace_owns}
use Rattle.arc_owners.specs.count.Invariant.{borrowed, leads, word_borrow_as, Borrowing}
use Rattle.arc_owners.proofs.count.Lodgings.{Whole, has_word}
use Rattle.arc_owners.proofs.count.Signs.{signs}
use Rattle.arc_owners.proofs.count.Operations.{Operation, with_entry, left_by, left, made_if}
use Rattle.arc_owners.proofs.count.Moves.{Steps}
use Rattle.arc_owners.proofs.count.Shared.{known_twice}

module _ {M : Type 1} {𝓤 : Ura M} (𝓛 : Logic 𝓤) (t : BlockId) where
  open 𝓛 use {H, A as At}
  open signs 𝓛 use {Pr, ◌⊢◌, ◌∗◌, ◌-∗◌, ⟦◌⟧}

  infix 26 ◌⊢◌
  infixr 35 ◌∗◌
  infixr 30 ◌-∗◌
  abbrev J : Fml
  J = contents t

  abbrev N : Fml
  N = fnamed t.number J

  module _ (j : Borrowing) (b o : ℕ) (κ : Lft) (e : Share) where
    abbrev I : Fml
    I = borrowed t b o j.1

    abbrev P : Fml
    P = fbor κ I

    abbrev O : Pr
    O = At.obor κ e I

    abbrev open_both : List (ℕ × Fml)
    open_both = (t.number, J) ∷ (j.0, P) ∷ []

    abbrev Held : List (ℕ × Fml) → (ℕ → ℕ) → (ℕ → Fml) → Pr
    Held L f after = ex 𝓤 (found 𝓛 L b o f always after)

    -- before the step: the word's invariant, the block's, and the borrow are opened, in this order
    opening : t.number < j.0 → (f : ℕ → ℕ) (X : Pr) (after : ℕ → Fml) → (O ∗ ⟦ I ⟧) ∗ ⟦ J ⟧ ∗ X
        ⊢ upd 𝓤 (Held open_both f after)
        → At.named j.0 P ∗ ⟦ N ⟧ ∗ At.lft κ e ∗ X ⊢ asks 𝓛 (block_ptr b o) f always after
    opening past f X after step = let Q : List (ℕ × Fml) → Pr = λ L. Held L f after in
        let Lent : Pr = (At.bor κ I ∗ At.lft κ e) ∗ ((O ∗ ⟦ I ⟧) -∗ upd 𝓤 (Q open_both)) in
        let Second : Pr = guard 𝓤 (¬ Mem t.number (j.0 ∷ [])) (⟦ N ⟧ ∗ (⟦ J ⟧ -∗ upd 𝓤 Lent)) in
        let apart : ¬ Mem t.number (j.0 ∷ []) = λ m. mathlib.Core.Logic.Or.elim ⊥_prop
        ((mem-cons {a = t.number} {b = j.0} {l = []}).0 m) (λ (x : t.number ≡ j.0). omega arith)
        (λ x. not-mem-nil x) in
        qed 𝓛 (‵ (fnamed j.0 P) ∷ ‵ N ∷ ‵ (flft κ e) ∷ raw X ∷ []) ∵
        suffices ! _ (ex_i 𝓤 (λ (s : Shift). along 𝓛 s Q [])
        (enters j.0 P (enters t.number J (opens κ e I rests)))) $
        suffices ! _ (upd_i 𝓤 (guard 𝓤 (¬ Mem j.0 []) (At.named j.0 P ∗ (⟦ P ⟧ -∗ upd 𝓤 Second)))) $
        check ! (λ m. not-mem-nil m) $ frame ! $ assume ! (‵ P) $
        suffices ! _ (upd_i 𝓤 Second) $ check ! apart $ move ! (1 ∷ []) $ frame ! $ assume ! (‵ J) $
        suffices ! _ (upd_i 𝓤 Lent) $ move ! (1 ∷ 2 ∷ []) $ join ! $ frame ! $
        assume ! (raw O ⊛ ‵ I) $ by ! step

    -- after it the borrow shuts first, so that its token is there when the block's invariant shuts
    closing : (Z : Pr) → O ∗ ⟦ I ⟧ ∗ (At.lft κ e -∗ (⟦ J ⟧ ∗ Z)) ⊢ shifted 𝓛 (if_none 𝓛 Z) open_both
    closing Z = let W : Pr = At.lft κ e -∗ (⟦ J ⟧ ∗ Z) in
        let Rest : Pr = ⟦ J ⟧ ∗ upd 𝓤 (⟦ P ⟧ ∗ upd 𝓤 Z) in
        let Back : Pr = (At.bor κ I ∗ At.lft κ e) -∗ upd 𝓤 Rest in
        qed 𝓛 (raw O ∷ ‵ I ∷ raw W ∷ []) ∵
        suffices ! _ (ex_i 𝓤 (λ (s : Shift). along 𝓛 s (if_none 𝓛 Z) open_both)
        (shuts κ e I (leaves (leaves rests)))) $
        suffices ! _ (upd_i 𝓤 ((O ∗ ⟦ I ⟧) ∗ Back)) $ join ! $ frame ! $
        assume ! (‵ P ⊛ ‵ (flft κ e)) $
        suffices ! _ (upd_i 𝓤 Rest) $ split ! $ move ! (1 ∷ 2 ∷ []) $
        use2 𝓛 (‵ J ⊛ raw Z) (apply∗ 𝓤 (At.lft κ e) (⟦ J ⟧ ∗ Z)) $ split ! $ frame ! $
        suffices ! _ (upd_i 𝓤 (⟦ P ⟧ ∗ upd 𝓤 Z)) $ move ! (1 ∷ []) $ frame ! $
        suffices ! _ (upd_i 𝓤 Z) $ done !

    -- whether the borrow is the word's own or that of a cell which leads there
    pub spends : (f : ℕ → ℕ) (X : Pr) (after : ℕ → Fml)
        → ((n : ℕ) → ⟦ behind t n ⟧ ∗ ⟦ J ⟧ ∗ X ⊢ upd 𝓤
        (⟦ behind t (f n) ⟧ ∗ (At.lft κ e -∗ (⟦ J ⟧ ∗ ⟦ after n ⟧))))
        → ⟦ word_borrow_as t b o κ j ⟧ ∗ ⟦ N ⟧ ∗ At.lft κ e ∗ X
        ⊢ asks 𝓛 (block_ptr b o) f always after
    spends f X after turns = let Way : ℕ → Pr = Whole 𝓛 t b o j.1 in
        let L : Fml = leads t b o j.1 in
        qed 𝓛 (‵ (word_borrow_as t b o κ j) ∷ ‵ N ∷ ‵ (flft κ e) ∷ raw X ∷ []) ∵ fsplit3 ! $
        fpick ! (λ past. drop ! $
        -- [where it leads; the word's invariant; the block's; the token; X]
        move ! (1 ∷ 2 ∷ 3 ∷ 0 ∷ 4 ∷ []) $
        by ! (opening past f (⟦ L ⟧ ∗ X) after
        (qed 𝓛 ((raw O ⊛ ‵ I) ∷ ‵ J ∷ ‵ L ∷ raw X ∷ []) ∵ split ! $
        move ! (3 ∷ 1 ∷ []) $ use2 𝓛 (‵ (counting t b o) ⊛ raw (all 𝓤 Way))
        (has_word 𝓛 t b o j.1) $ split ! $ fpick ! (λ n. fsplit ! $
        let W : Pr = At.lft κ e -∗ (⟦ J ⟧ ∗ ⟦ after n ⟧) in
        -- [the word; what is behind it; the way back; the open borrow; the invariant; X]
        move ! (1 ∷ 4 ∷ 5 ∷ []) $ use3 𝓛 (raw (upd 𝓤 (⟦ behind t (f n) ⟧ ∗ W))) (turns n) $
        settle 𝓛 (Held open_both f after) (‵ (behind t (f n)) ⊛ raw W) $ split ! $
        suffices ! _ (upd_i 𝓤 (Held open_both f after)) $
        show ! (found 𝓛 open_both b o f always after) n $ move ! (2 ∷ []) $ frame ! $
        each ! (λ (_ : always n). back 𝓛 open_both b o f after n)
        (λ _. assume ! (‵ (word b o (f n))) $ fjoin ! $
        -- [the word; W; the way back; the open borrow]
        move ! (2 ∷ []) $ use1 𝓛 (raw (Way (f n))) (all_e 𝓤 Way (f n)) $ move ! (1 ∷ 0 ∷ []) $
        use2 𝓛 (‵ I) (apply∗ 𝓤 ⟦ lies t b o (f n) ⟧ ⟦ I ⟧) $ move ! (2 ∷ 0 ∷ 1 ∷ []) $
        by ! (closing ⟦ after n ⟧))))))

  module _ (p : ℕ) (ready : Bool) (seen : List Line) where
    abbrev T : List Line → Fml
    T ls = trace_owns true t p ready ls

    abbrev B : Fml
    B = pass_holds t p ready seen

    pub resumes : (ls : List Line) → ⟦ N ⟧ ∗ ⟦ pass_holds t p ready ls ⟧ ⊢ ⟦ T ls ⟧
    resumes ls = qed 𝓛 (‵ N ∷ ‵ (pass_holds t p ready ls) ∷ []) ∵
        move ! (1 ∷ []) $ fsplit ! $ move ! (2 ∷ 0 ∷ []) $ fjoin ! $ fjoin ! $ done !

    pub pauses : ⟦ T seen ⟧ ⊢ ⟦ N ⟧ ∗ ⟦ N ⟧ ∗ ⟦ B ⟧
    pauses = qed 𝓛 (‵ (T seen) ∷ []) ∵ fsplit ! $ fsplit ! $
        use1 𝓛 (‵ N ⊛ ‵ N) (𝓛.invs.named_dup t.number J) $ split ! $
        move ! (2 ∷ 3 ∷ []) $ fjoin ! $ move ! (1 ∷ 2 ∷ 0 ∷ []) $ done !

    -- what a step leaves, once the invariant has shut
    pub outside : (entry : List Line → Option Entry) (gain : List Line → Fml) (n : ℕ)
        → ⟦ left t p seen (pass_holds t p ready) n entry gain ⟧ ∗ ⟦ N ⟧
        ⊢ ⟦ left t p seen T n entry gain ⟧
    outside entry gain n = qed 𝓛 (‵ (left t p seen (pass_holds t p ready) n entry gain) ∷ ‵ N
        ∷ []) ∵
        fpick ! (λ before. let ls : List Line = with_entry p before (entry before) in
        fsplit3 ! $ move ! (3 ∷ 1 ∷ []) $ use2 𝓛 (‵ (T ls)) (resumes ls) $
        -- [the pass; what is told; the gain]
        move ! (0 ∷ 2 ∷ []) $ fjoin ! $ move ! (1 ∷ 0 ∷ []) $ fjoin ! $
        fpack ! (List Line) (left_by t p seen T n entry gain) before $ done !)

    -- what an operation leaves that finds the number n, before and after the invariant shuts
    abbrev During : Operation → ℕ → Fml
    During op n = left t p seen (pass_holds t p ready) n (op.entry n) (op.gain n)

    abbrev pub after : Operation → ℕ → Fml
    after op n = left t p seen T n (op.entry n) (op.gain n)

    -- a new owner beside the one that made it, with the history in which it was made
    pub new_owner : (o : ℕ) (l : Lease) (q : Share) (b : Bool) (ls : List Line) (new : ℕ)
        → ⟦ T ls ⟧ ∗ ⟦ fsep (right t o l q) (made_if t l b new) ⟧
        ⊢ ⟦ T ls ⟧ ∗ ⟦ right t o l q ⟧ ∗ ⟦ right_owns b t new l ls ⟧
    new_owner o l q true ls new =
        qed 𝓛 (‵ (T ls) ∷ ‵ (fsep (right t o l q) (made_if t l true new)) ∷ []) ∵ move ! (1 ∷ []) $
        fsplit ! $ move ! (2 ∷ []) $ fsplit ! $
        use1 𝓛 (‵ (known t ls) ⊛ ‵ (known t ls)) (known_twice 𝓛 t ls) $ split ! $
        -- [the invariant, twice; the rest of the pass; the right; the new one]
        move ! (1 ∷ 4 ∷ []) $ fjoin ! $ move ! (1 ∷ 2 ∷ []) $ fjoin ! $ move ! (0 ∷ 2 ∷ 1 ∷ []) $
        done !
    new_owner o l q false ls new =
        qed 𝓛 (‵ (T ls) ∷ ‵ (fsep (right t o l q) (made_if t l false new)) ∷ []) ∵
        move ! (1 ∷ []) $ fsplit ! $ move ! (2 ∷ 0 ∷ 1 ∷ []) $ done !

    module _ (own : ℕ) (l : Lease) (q : Share) (owed : Fml) (op : Operation)
        (steps : Steps 𝓛 t p ready seen own l q owed op) where
      -- the step, with the pass as its owner has it afterwards
      pub turns : (n : ℕ) → ⟦ behind t n ⟧ ∗ ⟦ J ⟧ ∗ ⟦ N ⟧ ∗ ⟦ B ⟧ ∗ ⟦ right t own l q ⟧
          ⊢ upd 𝓤 (⟦ behind t (op.next n) ⟧ ∗ (⟦ owed ⟧ -∗ (⟦ J ⟧ ∗ ⟦ after op n ⟧)))
      turns n = let m : ℕ = op.next n in let W : Pr = ⟦ owed ⟧ -∗ (⟦ J ⟧ ∗ ⟦ During op n ⟧) in
          let Z : Pr = ⟦ behind t m ⟧ ∗ (⟦ owed ⟧ -∗ (⟦ J ⟧ ∗ ⟦ after op n ⟧)) in
          qed 𝓛 (‵ (behind t n) ∷ ‵ J ∷ ‵ N ∷ ‵ B ∷ ‵ (right t own l q) ∷ []) ∵
          move ! (0 ∷ 1 ∷ 3 ∷ 4 ∷ []) $ group ! 4 $ use1 𝓛 (raw (upd 𝓤 (⟦ behind t m ⟧ ∗ W)))
          (steps n) $
          settle 𝓛 Z (‵ (behind t m) ⊛ raw W) $ split ! $ suffices ! _ (upd_i 𝓤 Z) $ frame ! $
          assume ! (‵ owed) $
          use2 𝓛 (‵ J ⊛ ‵ (During op n)) (apply∗ 𝓤 ⟦ owed ⟧ (⟦ J ⟧ ∗ ⟦ During op n ⟧)) $ split ! $
          frame ! $ by ! (outside (op.entry n) (op.gain n) n)

      -- by a reference to the word, whose token comes back
      pub by_reference : (κ : Lft) (e : Share) (j : Borrowing) (b o : ℕ)
          → ⟦ word_borrow_as t b o κ j ⟧ ∗ At.lft κ e ∗ ⟦ T seen ⟧ ∗ ⟦ right t own l q ⟧
          ∗ ⟦ owed ⟧
          ⊢ asks 𝓛 (block_ptr b o) op.next always (λ n. fsep (flft κ e) (after op n))
      by_reference κ e j b o = let R : Fml = right t own l q in
          qed 𝓛 (‵ (word_borrow_as t b o κ j) ∷ ‵ (flft κ e) ∷ ‵ (T seen) ∷ ‵ R ∷ ‵ owed
          ∷ []) ∵
          move ! (2 ∷ []) $ use1 𝓛 (‵ N ⊛ ‵ N ⊛ ‵ B) pauses $ split3 ! $ move ! (3 ∷ 0 ∷ 4 ∷ []) $
          by ! (spends j b o κ e op.next (⟦ N ⟧ ∗ ⟦ B ⟧ ∗ ⟦ R ⟧ ∗ ⟦ owed ⟧)
          (λ n. fsep (flft κ e) (after op n)) (λ n.
          let m : ℕ = op.next n in let W : Pr = ⟦ owed ⟧ -∗ (⟦ J ⟧ ∗ ⟦ after op n ⟧) in
          let Z : Pr = ⟦ behind t m ⟧ ∗ (At.lft κ e -∗ (⟦ J ⟧
          ∗ ⟦ fsep (flft κ e) (after op n) ⟧)) in
          qed 𝓛 (‵ (behind t n) ∷ ‵ J ∷ ‵ N ∷ ‵ B ∷ ‵ R ∷ ‵ owed ∷ []) ∵ group ! 5 $
          use1 𝓛 (raw (upd 𝓤 (⟦ behind t m ⟧ ∗ W))) (turns n) $
          settle 𝓛 Z (‵ (behind t m) ⊛ raw W) $ split ! $
          suffices ! _ (upd_i 𝓤 Z) $ frame ! $ assume ! (‵ (flft κ e)) $ move ! (2 ∷ 1 ∷ []) $
          use2 𝓛 (‵ J ⊛ ‵ (after op n)) (apply∗ 𝓤 ⟦ owed ⟧ (⟦ J ⟧ ∗ ⟦ after op n ⟧)) $ split ! $
          frame ! $
          move ! (1 ∷ 0 ∷ []) $ fjoin ! $ done !))
