-- The exchange that promotes a lone word, through a borrowed owner: what is had before the call and
-- after it. Assumes `Logic`.
use Rattle.std.proofs.Common.{◌≡◌, ℕ, Bool, true, List, [], ◌∷◌, refl, sym, subst}
use mathlib.Core.Option.{some}
use seplogic.Ra.Ura.{Ura}
use mir.Syntax.{Callee, Place}
use mir.Val.{Val}
use base.Logic.{via, apply∗}
use base.Fml.{Lft, GName, Share, Fml, ftrue, fsep, fex, flft, fbor, fnamed}
use prog.Model.{Model}
use prog.Wp.{Env}
use types.Logic.{Logic}
use types.Kit.{Item, Goal, Seq, Step, Post, settles, step, ‵, raw, ◌⊛◌, some as any, later, ◌$◌, ◌∵◌}
use types.Kit.{ !, qed, by, move, split, split3, group, fsplit, fsplit3, fjoin, fpick, fpack, pick}
use types.Kit.{learn, await, updating, now, regoal, done, frame, use1, use2}
use contract.Running.{Running}
use denote.RattleType.{RattleType}
use denote.RawPtr.{Ptr, block_ptr, null_ptr}
use denote.Steps.{nothing}
use Rattle.core.specs.declared.result.Result.TheVariants.{Ok, Err}
use Rattle.core.specs.Sync.RawAtomic.Pointer.{compares, exchanged}
use Rattle.std.proofs.raw_atomic.PtrCalls.{Answer, answer_val}
use Rattle.arc_owners.specs.declared.history.entry.Entry.TheVariants.{Joined}
use Rattle.arc_owners.specs.history.Histories.{Lone}
use Rattle.arc_owners.specs.count.Invariant.{BlockId, Line, Lease, right, right_shares, right_owns}
use Rattle.arc_owners.specs.count.Invariant.{contents, pass_holds, trace_owns, cell_at, cell_shares}
use Rattle.arc_owners.specs.count.Invariant.{pointer, next_owner}
use Rattle.arc_owners.specs.count.Leads.{pending_at}
use Rattle.arc_owners.specs.contracts.lone.loose.PendingCount as PendingCount
use Rattle.arc_owners.specs.contracts.count.word.PassState as PassState
use Rattle.arc_owners.specs.contracts.count.word.OwnerToken as OwnerToken
use Rattle.arc_owners.proofs.count.Signs.{signs}
use Rattle.arc_owners.proofs.count.Shared.{right_read}
use Rattle.arc_owners.proofs.count.Operations.{with_entry, left_by, left}
use Rattle.arc_owners.proofs.count.Places.{pauses, new_owner}
use Rattle.arc_owners.proofs.count.LoneMoves.{promotion}
use Rattle.arc_owners.proofs.count.LoneSteps.{after_won, after_lost, exchanges_cell}
use Rattle.arc_owners.proofs.count.CellWalks.{said, Answers, carries, by_cell}
use Rattle.arc_owners.proofs.count.Partings.{held_by, left_mut}
use Rattle.arc_owners.proofs.count.Walks.{given_back}

abbrev pub W : Type 0
W = Answer.Denot

module _ {M : Type 1} {𝓤 : Ura M} {𝓛 : Logic 𝓤} {K : Type 0} {Γ : List (Item 𝓤)}
    {E : Env 𝓤 𝓛.H} {d : Place} {q : Post 𝓤 𝓛.H} where
  either : (out : W → Fml)
      → ((r : Ptr) → Seq K 𝓛 (‵ (out (Ok r)) ∷ Γ) (settles E d (answer_val (Ok r)) q))
      → ((r : Ptr) → Seq K 𝓛 (‵ (out (Err r)) ∷ Γ) (settles E d (answer_val (Err r)) q))
      → (w : W) → Seq K 𝓛 (‵ (out w) ∷ Γ) (settles E d (answer_val w) q)
  either out won lost (Ok r) = won r
  either out won lost (Err r) = lost r

  -- after `Calls-last`
  pub hears : {v : Val} → K → (out : W → Fml)
      → ((r : Ptr) → Seq K 𝓛 (‵ (out (Ok r)) ∷ Γ) (settles E d (answer_val (Ok r)) q))
      → ((r : Ptr) → Seq K 𝓛 (‵ (out (Err r)) ∷ Γ) (settles E d (answer_val (Err r)) q))
      → Seq K 𝓛 (said 𝓛 W answer_val out v ∷ Γ) (settles E d v q)
  hears t out won lost = await t tt $ pick t (λ w. learn t (λ e.
      regoal t (λ (u : Val). settles E d u q) (sym e) refl $
      either out won lost w))

module _ {M : Type 1} {𝓤 : Ura M} {𝓛 : Logic 𝓤} {K : Type 0} {Γ : List (Item 𝓤)}
    {G : Goal 𝓤 𝓛.H} where
  -- what the function leaves of the pass, the new owner and the count, all its tokens, and what it
  -- answers
  pub hands_back : (R : RattleType) → K → (b₂ o₂ b₃ o₃ b₄ o₄ : ℕ) (p : PassState.the_row.Denot)
      (h : (OwnerToken.the_row R).Denot) (c : PendingCount.the_row.Denot)
      → {κ₀ κ₁ κ₂ κ₃ κ₄ : Lft} {q₀ q₁ q₂ q₃ q₄ : Share} {γ₂ γ₃ γ₄ : GName} {last answer : Fml}
      → Step K 𝓛 (‵ (left_mut PassState.the_row γ₂ p κ₂ b₂ o₂
      (left_mut (OwnerToken.the_row R) γ₃ h κ₃ b₃ o₃
      (left_mut PendingCount.the_row γ₄ c κ₄ b₄ o₄ (fsep ftrue ftrue))))
      ∷ ‵ (fsep (flft κ₀ q₀) (fsep (flft κ₁ q₁) (fsep (flft κ₂ q₂) (fsep (flft κ₃ q₃)
      (fsep (flft κ₄ q₄) last)))))
      ∷ ‵ answer ∷ Γ) G
      (‵ answer ∷ held_by (OwnerToken.the_row R) γ₃ h κ₃ q₃ b₃ o₃
      (held_by PassState.the_row γ₂ p κ₂ q₂ b₂ o₂ (‵ (flft κ₀ q₀) ∷ ‵ (flft κ₁ q₁)
      ∷ held_by PendingCount.the_row γ₄ c κ₄ q₄ b₄ o₄ (‵ last ∷ Γ)))) G
  hands_back R k b₂ o₂ b₃ o₃ b₄ o₄ p h c = step (λ s.
      move k (11 ∷ 12 ∷ []) $ fjoin k $ move k (4 ∷ 0 ∷ []) $ fjoin k $ move k (6 ∷ 0 ∷ []) $
      fjoin k $ move k (7 ∷ 0 ∷ []) $ fjoin k $ move k (6 ∷ 0 ∷ []) $ fjoin k $
      -- [the tokens; the answer; two parts of the new owner, of the pass, and of the count]
      nothing k $ nothing k $ fjoin k $ move k (7 ∷ 8 ∷ 0 ∷ []) $ given_back k b₄ o₄ $
      move k (3 ∷ 4 ∷ 0 ∷ []) $ given_back k b₃ o₃ $ move k (3 ∷ 4 ∷ 0 ∷ []) $
      given_back k b₂ o₂ $ s)

module _ {M : Type 1} {𝓤 : Ura M} (𝓛 : Logic 𝓤) (𝓜 : Model 𝓤 𝓛.H) (𝓡 : Running 𝓤 𝓛.H 𝓜)
    (k : Callee) (vs : List Val) (t : BlockId) (p : ℕ) (ready : Bool) (seen : List Line) (own : ℕ)
    (l : Lease) (κ₀ : Lft) (q₀ : Share) (b o : ℕ) (x : ℕ × ℕ) (lent : l.is_lent ≡ true)
    (lone : t.began ≡ Lone) where
  open 𝓛 use {H, A as At}
  open signs 𝓛 use {Pr, ◌⊢◌, ◌∗◌, ◌-∗◌, ⟦◌⟧}

  infix 26 ◌⊢◌
  infixr 35 ◌∗◌
  infixr 30 ◌-∗◌
  abbrev N : Fml
  N = fnamed t.number (contents t)

  abbrev T : List Line → Fml
  T ls = trace_owns true t p ready ls

  abbrev B : Fml
  B = pass_holds t p ready seen

  abbrev Hears : (W → Fml) → Pr
  Hears = Answers 𝓛 𝓜 𝓡 W answer_val k vs

  abbrev won : Share → Fml
  won q = after_won 𝓛 t p ready seen own l q

  abbrev lost : Share → Fml
  lost q = after_lost 𝓛 t p ready seen own l q x

  -- the new owner, with the history that its making ends
  abbrev pub made : List Line → Fml
  made before = right_owns true t (next_owner before) l
      (with_entry p before (promotion 𝓛 t p ready seen own l before))

  -- what the exchange leaves, beside the owner's right
  abbrev pub left_won : Fml
  left_won = left t p seen T 1 (promotion 𝓛 t p ready seen own l) made

  abbrev lost_at : ℕ → Fml
  lost_at n = left t p seen T n (λ _. some (Joined own)) (λ _. ftrue)

  abbrev pub left_lost : Fml
  left_lost = fsep (pending_at t.receipts x 2) (fex ℕ lost_at)

  abbrev pub outcome : W → Fml
  outcome (Ok r) = left_won
  outcome (Err r) = left_lost

  abbrev with_right : Share → W → Fml
  with_right q (Ok r) = won q
  with_right q (Err r) = lost q

  parts : (q : Share) (w : W) → ⟦ with_right q w ⟧ ⊢ ⟦ right t own l q ⟧ ∗ ⟦ outcome w ⟧
  parts q (Ok r) = let R : Fml = right t own l q in qed 𝓛 (‵ (won q) ∷ []) ∵
      fpick ! (λ before. fsplit3 ! $
      let ls : List Line = with_entry p before (promotion 𝓛 t p ready seen own l before) in
      -- [what is told; the pass; what is gained]
      move ! (1 ∷ 2 ∷ []) $ use2 𝓛 (‵ (T ls) ⊛ ‵ R ⊛ ‵ (made before))
      (new_owner 𝓛 t p ready seen own l q true ls (next_owner before)) $ split3 ! $
      -- [the pass; the right; the new owner; what is told]
      move ! (0 ∷ 2 ∷ []) $ fjoin ! $ move ! (2 ∷ 0 ∷ []) $ fjoin ! $
      fpack ! (List Line) (left_by t p seen T 1 (promotion 𝓛 t p ready seen own l) made) before $
      move ! (1 ∷ 0 ∷ []) $ done !)
  parts q (Err r) = let R : Fml = right t own l q in qed 𝓛 (‵ (lost q) ∷ []) ∵ fsplit ! $
      move ! (1 ∷ []) $ fpick ! (λ n. fpick ! (λ before. fsplit3 ! $
      -- [what is told; the pass; the right; what is prepared]
      move ! (2 ∷ []) $ frame ! $ nothing ! $ move ! (2 ∷ 0 ∷ []) $ fjoin ! $ move ! (1 ∷ 0 ∷ []) $
      fjoin ! $ fpack ! (List Line) (left_by t p seen T n (λ _. some (Joined own)) (λ _. ftrue))
      before $ fpack ! ℕ lost_at n $ move ! (1 ∷ 0 ∷ []) $ fjoin ! $ done !))

  abbrev pub Compares : Type 1
  Compares = (won lost : Ptr → Fml)
      → compares 𝓛 (block_ptr b o) null_ptr (pointer (some x)) won lost
      ⊢ Hears (exchanged won lost)

  both : (F : Fml) (q : Share) (w : W)
      → exchanged (λ _. fsep F (won q)) (λ _. fsep F (lost q)) w ≡ fsep F (with_right q w)
  both F q (Ok r) = refl
  both F q (Err r) = refl

  pub promotes_by : Compares → (κ₁ : Lft) (q₁ : Share) (born : List Line)
      → ⟦ cell_shares t (block_ptr b o) κ₀ ⟧ ∗ At.lft κ₀ q₀ ∗ ⟦ T seen ⟧
      ∗ ⟦ right_shares true t own l born κ₁ ⟧ ∗ At.lft κ₁ q₁ ∗ ⟦ pending_at t.receipts x 2 ⟧
      ⊢ H.⇛ (Hears (λ w. fsep (flft κ₀ q₀) (fsep (flft κ₁ q₁) (outcome w))))
  promotes_by compare κ₁ q₁ born = let mine : Fml = pending_at t.receipts x 2 in
      let out : W → Fml = λ w. fsep (flft κ₀ q₀) (fsep (flft κ₁ q₁) (outcome w)) in
      qed 𝓛 (‵ (cell_shares t (block_ptr b o) κ₀) ∷ ‵ (flft κ₀ q₀) ∷ ‵ (T seen)
      ∷ ‵ (right_shares true t own l born κ₁) ∷ ‵ (flft κ₁ q₁) ∷ ‵ mine ∷ []) ∵ updating ! $
      move ! (3 ∷ 4 ∷ []) $ use2 𝓛 (later (any (λ (r : Share). ‵ (right t own l r)
      ⊛ raw (⟦ right t own l r ⟧ -∗ H.⇛ (At.lft κ₁ q₁)))))
      (right_read 𝓛 t own l born κ₁ q₁) $ await ! tt $
      pick ! (λ q. split ! $ let R : Fml = right t own l q in
      let Back : Pr = ⟦ R ⟧ -∗ H.⇛ (At.lft κ₁ q₁) in
      let held : W → Fml = λ w. fsep (flft κ₀ q₀) (with_right q w) in
      -- [the right; its way back; the cell; its token; the pass; what is prepared]
      move ! (4 ∷ []) $ use1 𝓛 (‵ N ⊛ ‵ N ⊛ ‵ B) (pauses 𝓛 t p ready seen) $ split3 ! $
      -- [the name, twice; the pass; the right; its way back; the cell; its token; what is prepared]
      move ! (5 ∷ 6 ∷ 0 ∷ 1 ∷ 2 ∷ 3 ∷ 7 ∷ []) $ group ! 7 $
      use1 𝓛 (later (raw (Hears held)))
      (by_cell 𝓛 𝓜 𝓡 W answer_val k vs t b o κ₀ q₀ (⟦ N ⟧ ∗ ⟦ N ⟧ ∗ ⟦ B ⟧ ∗ ⟦ R ⟧ ∗ ⟦ mine ⟧)
      (with_right q) (λ i past κ e. qed 𝓛 (‵ (fnamed i (fbor κ (cell_at t b o))) ∷ ‵ (flft κ e)
      ∷ (‵ N ⊛ ‵ N ⊛ ‵ B ⊛ ‵ R ⊛ ‵ mine) ∷ []) ∵ move ! (2 ∷ []) $ split3 ! $ move ! (2 ∷ []) $
      split3 ! $
      -- [the pass; the right; what is prepared; the name, twice; the cell's borrow; its token]
      move ! (5 ∷ 3 ∷ 6 ∷ 4 ∷ 0 ∷ 1 ∷ 2 ∷ []) $
      by ! (via 𝓤 _ (exchanges_cell 𝓛 t p ready seen own l q i b o past κ e x lent lone)
      (subst (λ (F : W → Fml). compares 𝓛 (block_ptr b o) null_ptr (pointer (some x))
      (λ _. fsep (flft κ e) (won q)) (λ _. fsep (flft κ e) (lost q)) ⊢ Hears F)
      (λ j w. both (flft κ e) q w j)
      (compare (λ _. fsep (flft κ e) (won q)) (λ _. fsep (flft κ e) (lost q))))))) $ await ! tt $
      use2 𝓛 (raw (Hears out)) (carries 𝓛 𝓜 𝓡 W answer_val k vs held out Back (λ w.
      qed 𝓛 (‵ (held w) ∷ raw Back ∷ []) ∵ updating ! $ fsplit ! $ move ! (1 ∷ []) $
      use1 𝓛 (‵ R ⊛ ‵ (outcome w)) (parts q w) $ split ! $
      -- [the right; what is left; the cell's token; the way back]
      move ! (0 ∷ 3 ∷ []) $ use2 𝓛 (later (‵ (flft κ₁ q₁)))
      (apply∗ 𝓤 ⟦ R ⟧ (H.⇛ (At.lft κ₁ q₁))) $ await ! tt $ now ! $
      fjoin ! $ move ! (1 ∷ 0 ∷ []) $ fjoin ! $ done !)) $ now ! $ done !)
