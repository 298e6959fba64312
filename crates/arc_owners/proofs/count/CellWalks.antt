-- A function whose code is one call of the machine on a cell: what it brings to the call, and what
-- it has afterwards, is said without its code. `W` is what the machine answers, `val` as which
-- value. Assumes `Logic`.
use Rattle.std.proofs.Common.{◌≡◌, ℕ, ◌<◌, Bool, true, List, [], ◌∷◌, refl, sym}
use seplogic.Ra.Ura.{Ura}
use mir.Syntax.{Fn, Callee, Place}
use mir.Val.{Val}
use base.Share.{quarter}
use base.Logic.{SProp, via, apply∗}
use base.Fml.{Lft, Share, Fml, fsep, flft, fbor, fnamed}
use prog.Model.{Model}
use prog.Wp.{Env, WpFn}
use types.Logic.{Logic}
use types.Kit.{Item, Seq, Post, settles, upd, pop, push, ‵, raw, ◌⊛◌, some, given, later, mean, ⋆}
use types.Kit.{◌$◌, ◌∵◌, !, qed, by, move, drop, split, split3, group, fsplit, fsplit3, fjoin, fpick}
use types.Kit.{updating, await, now, pick, learn, show, check, regoal, done, use1, use2, use3}
use contract.Running.{Running, MachineTables, tables}
use contract.Shared.{Lends-one}
use denote.RawPtr.{Ptr, block_ptr, ptr_val}
use Rattle.core.specs.Sync.RawAtomic.Pointer.{asks_ptr}
use Rattle.std.proofs.raw_atomic.Calls.{fm}
use Rattle.arc_owners.specs.count.Invariant.{BlockId, Line, Lease, right, right_shares, contents}
use Rattle.arc_owners.specs.count.Invariant.{pass_holds, trace_owns, stake, cell_at, cell_shares}
use Rattle.arc_owners.specs.count.Leads.{target, known_at}
use Rattle.arc_owners.proofs.count.Signs.{signs}
use Rattle.arc_owners.proofs.count.Shared.{right_read}
use Rattle.arc_owners.proofs.count.Places.{pauses}
use Rattle.arc_owners.proofs.count.LoneSteps.{Glance, passed, loaded, Glances, loads_cell}
use Rattle.arc_owners.proofs.count.LonePartings.{claimed, claims_by}

module _ {M : Type 1} {𝓤 : Ura M} (𝓛 : Logic 𝓤) (W : Type 0) (val : W → Val) where
  open signs 𝓛 use {Pr}

  -- this is answered, and then that is there
  abbrev pub said : (W → Fml) → Val → Item 𝓤
  said out v = later (some (λ (w : W). given (val w ≡ v) (‵ (out w))))

  -- the postcondition holds of what is made of the answer
  abbrev pub answer_at : (Val → Val) → (Val → Pr) → Val → Item 𝓤
  answer_at wrap P v = later (some (λ (w : W). given (val w ≡ v) (raw (P (wrap (val w))))))

module _ {M : Type 1} {𝓤 : Ura M} {𝓛 : Logic 𝓤} {K : Type 0} {Γ : List (Item 𝓤)}
    {E : Env 𝓤 𝓛.H} {d : Place} {q : Post 𝓤 𝓛.H} {v : Val} where
  -- after `Calls-last`
  pub takes_answer : K → (W : Type 0) (val : W → Val) (wrap : Val → Val) (P : Val → SProp 𝓤)
      → ((w : W) → Seq K 𝓛 (raw (P (wrap (val w))) ∷ Γ) (settles E d (val w) q))
      → Seq K 𝓛 (answer_at 𝓛 W val wrap P v ∷ Γ) (settles E d v q)
  takes_answer t W val wrap P k = await t tt $ pick t (λ w. learn t (λ e.
      regoal t (λ (u : Val). settles E d u q) (sym e) refl $ k w))

module _ {M : Type 1} {𝓤 : Ura M} (𝓛 : Logic 𝓤) (𝓜 : Model 𝓤 𝓛.H) (𝓡 : Running 𝓤 𝓛.H 𝓜)
    (W : Type 0) (val : W → Val) where
  open 𝓛 use {H, A as At}
  open signs 𝓛 use {Pr, ◌⊢◌, ◌∗◌, ◌-∗◌, ⟦◌⟧}

  infix 26 ◌⊢◌
  infixr 35 ◌∗◌
  infixr 30 ◌-∗◌
  abbrev 𝓣 : MachineTables 𝓤 H 𝓜
  𝓣 = tables 𝓤 H 𝓜 𝓡 𝓡.env

  abbrev pub Answers : Callee → List Val → (W → Fml) → Pr
  Answers k vs out = 𝓣.C k vs (λ v. mean 𝓛 (said 𝓛 W val out v))

  abbrev pub Ends_at : Callee → List Val → (Val → Val) → (Val → Pr) → Pr
  Ends_at k vs wrap P = 𝓣.C k vs (λ v. mean 𝓛 (answer_at 𝓛 W val wrap P v))

  -- the code is this call, of whose answer it makes what it answers
  abbrev pub IsCall : Fn → List Val → Callee → List Val → (Val → Val) → Type 2
  IsCall fn args k vs wrap = (P : Val → Pr) → H.⇛ (Ends_at k vs wrap P)
      ⊢ WpFn 𝓤 H 𝓣.C 𝓣.Λ fn args P

  module _ {K : Type 0} {Γ : List (Item 𝓤)} where
    -- what is there beside the call is there after it
    pub after_call : K → (k : Callee) (vs : List Val) (wrap : Val → Val) (out : W → Fml)
        (P : Val → Pr)
        → ((w : W) → Seq K 𝓛 (‵ (out w) ∷ Γ) (upd (P (wrap (val w)))))
        → Seq K 𝓛 (raw (Answers k vs out) ∷ Γ) (upd (Ends_at k vs wrap P))
    after_call t k vs wrap out P ends = now t $ by t (via 𝓤 (Answers k vs out ∗ ⋆ 𝓛 Γ)
        (pop 𝓛 (raw (Answers k vs out)) Γ)
        (fm 𝓛 𝓜 𝓡 k vs (λ v. mean 𝓛 (said 𝓛 W val out v))
        (λ v. mean 𝓛 (answer_at 𝓛 W val wrap P v)) (⋆ 𝓛 Γ) (λ v.
        qed 𝓛 (said 𝓛 W val out v ∷ raw (⋆ 𝓛 Γ) ∷ []) ∵ updating ! $ await ! tt $
        pick ! (λ w. learn ! (λ e. use2 𝓛 (later (raw (P (wrap (val w)))))
        (via 𝓤 (⋆ 𝓛 (‵ (out w) ∷ Γ)) (push 𝓛 (‵ (out w)) Γ) (ends w).prf) $ await ! tt $
        now ! $
        show ! (λ (u : W). mean 𝓛 (given (val u ≡ v) (raw (P (wrap (val u))))))
        w $ check ! e $ done !)))))

  module _ (k : Callee) (vs : List Val) where
    pub carries : (out out' : W → Fml) (X : Pr) → ((w : W) → ⟦ out w ⟧ ∗ X ⊢ H.⇛ ⟦ out' w ⟧)
        → Answers k vs out ∗ X ⊢ Answers k vs out'
    carries out out' X h = fm 𝓛 𝓜 𝓡 k vs (λ v. mean 𝓛 (said 𝓛 W val out v))
        (λ v. mean 𝓛 (said 𝓛 W val out' v)) X (λ v.
        qed 𝓛 (said 𝓛 W val out v ∷ raw X ∷ []) ∵ updating ! $ await ! tt $ pick ! (λ w.
        learn ! (λ e. use2 𝓛 (later (‵ (out' w))) (h w) $ await ! tt $ now ! $
        show ! (λ (u : W). mean 𝓛 (given (val u ≡ v) (‵ (out' u)))) w $ check ! e $ done !)))

    -- a step by a reference to the cell, whose token comes back
    pub by_cell : (t : BlockId) (b o : ℕ) (κ₀ : Lft) (q₀ : Share) (X : Pr) (out : W → Fml)
        → ((i : ℕ) → t.number < i → (κ : Lft) (e : Share)
        → At.named i (fbor κ (cell_at t b o)) ∗ At.lft κ e ∗ X
        ⊢ Answers k vs (λ w. fsep (flft κ e) (out w)))
        → ⟦ cell_shares t (block_ptr b o) κ₀ ⟧ ∗ At.lft κ₀ q₀ ∗ X
        ⊢ H.⇛ (Answers k vs (λ w. fsep (flft κ₀ q₀) (out w)))
    by_cell t b o κ₀ q₀ X out step = let after : W → Fml = λ w. fsep (flft κ₀ q₀) (out w) in
        qed 𝓛 (‵ (cell_shares t (block_ptr b o) κ₀) ∷ ‵ (flft κ₀ q₀) ∷ raw X ∷ []) ∵ updating ! $
        fpick ! (λ z. fsplit3 ! $ move ! (1 ∷ []) $ fpick ! (λ past. drop ! $
        -- [the lifetimes; the cell's borrow; the token; X]
        move ! (0 ∷ 2 ∷ []) $ use2 𝓛 (later (some (λ (s : Share). ‵ (flft z.0 s)
        ⊛ raw (At.lft z.0 s -∗ H.⇛ (At.lft κ₀ q₀)))))
        (Lends-one 𝓛 𝓜 𝓡 κ₀ z.0 q₀) $ await ! tt $ pick ! (λ s. split ! $
        let held : W → Fml = λ w. fsep (flft z.0 s) (out w) in
        let Back : Pr = At.lft z.0 s -∗ H.⇛ (At.lft κ₀ q₀) in
        -- [the cell's token; its way back; the cell's borrow; X]
        move ! (2 ∷ 0 ∷ 3 ∷ []) $ use3 𝓛 (raw (Answers k vs held)) (step z.1 past z.0 s) $
        use2 𝓛 (raw (Answers k vs after)) (carries held after Back (λ w. qed 𝓛 (‵ (held w)
        ∷ raw Back ∷ []) ∵ updating ! $ fsplit ! $ move ! (0 ∷ 2 ∷ []) $
        use2 𝓛 (later (‵ (flft κ₀ q₀))) (apply∗ 𝓤 (At.lft z.0 s) (H.⇛ (At.lft κ₀ q₀))) $
        await ! tt $ now ! $ fjoin ! $ done !)) $ now ! $ done !)))

module _ {M : Type 1} {𝓤 : Ura M} (𝓛 : Logic 𝓤) (𝓜 : Model 𝓤 𝓛.H) (𝓡 : Running 𝓤 𝓛.H 𝓜)
    (k : Callee) (vs : List Val) (t : BlockId) (p : ℕ) (ready : Bool) (seen : List Line) (own : ℕ)
    (l : Lease) (κ₀ : Lft) (q₀ : Share) (b o : ℕ) where
  open 𝓛 use {H, A as At}
  open signs 𝓛 use {Pr, ◌⊢◌, ◌∗◌, ◌-∗◌, ⟦◌⟧}

  infix 26 ◌⊢◌
  infixr 35 ◌∗◌
  infixr 30 ◌-∗◌
  abbrev J : Fml
  J = contents t

  abbrev N : Fml
  N = fnamed t.number J

  abbrev T : Fml
  T = trace_owns true t p ready seen

  abbrev B : Fml
  B = pass_holds t p ready seen

  abbrev Hears : (Ptr → Fml) → Pr
  Hears = Answers 𝓛 𝓜 𝓡 Ptr ptr_val k vs

  abbrev pub Loads : Type 1
  Loads = (out : Ptr → Fml) → asks_ptr 𝓛 (block_ptr b o) (λ r. r) out ⊢ Hears out

  -- a load through an owner that is borrowed itself, with a share of its right
  module _ (G : Glance 𝓛 t p ready seen own l) where
    abbrev pub glanced : Ptr → Fml
    glanced r = fsep (known_at t (target r)) (passed 𝓛 t p ready seen own l G (target r))

    abbrev with_right : Share → Ptr → Fml
    with_right q r = loaded 𝓛 t p ready seen own l q G (target r)

    pub glances_by : ((q : Share) → Glances 𝓛 t p ready seen own l q G) → Loads
        → (κ₁ : Lft) (q₁ : Share) (born : List Line)
        → ⟦ cell_shares t (block_ptr b o) κ₀ ⟧ ∗ At.lft κ₀ q₀ ∗ ⟦ T ⟧
        ∗ ⟦ right_shares true t own l born κ₁ ⟧ ∗ At.lft κ₁ q₁
        ⊢ H.⇛ (Hears (λ r. fsep (flft κ₀ q₀) (fsep (flft κ₁ q₁) (glanced r))))
    glances_by glances calls κ₁ q₁ born =
        let out : Ptr → Fml = λ r. fsep (flft κ₀ q₀) (fsep (flft κ₁ q₁) (glanced r)) in
        qed 𝓛 (‵ (cell_shares t (block_ptr b o) κ₀) ∷ ‵ (flft κ₀ q₀) ∷ ‵ T
        ∷ ‵ (right_shares true t own l born κ₁) ∷ ‵ (flft κ₁ q₁) ∷ []) ∵ updating ! $
        move ! (3 ∷ 4 ∷ []) $ use2 𝓛 (later (some (λ (r : Share). ‵ (right t own l r)
        ⊛ raw (⟦ right t own l r ⟧ -∗ H.⇛ (At.lft κ₁ q₁)))))
        (right_read 𝓛 t own l born κ₁ q₁) $ await ! tt $
        pick ! (λ q. split ! $ let R : Fml = right t own l q in
        let Back : Pr = ⟦ R ⟧ -∗ H.⇛ (At.lft κ₁ q₁) in
        let held : Ptr → Fml = λ r. fsep (flft κ₀ q₀) (with_right q r) in
        -- [the right; its way back; the cell; its token; the pass]
        move ! (4 ∷ []) $ use1 𝓛 (‵ N ⊛ ‵ N ⊛ ‵ B) (pauses 𝓛 t p ready seen) $ split3 ! $
        -- [the name, twice; the pass; the right; its way back; the cell; its token]
        move ! (5 ∷ 6 ∷ 0 ∷ 1 ∷ 2 ∷ 3 ∷ []) $ group ! 6 $
        use1 𝓛 (later (raw (Hears held)))
        (by_cell 𝓛 𝓜 𝓡 Ptr ptr_val k vs t b o κ₀ q₀ (⟦ N ⟧ ∗ ⟦ N ⟧ ∗ ⟦ B ⟧ ∗ ⟦ R ⟧)
        (with_right q) (λ i past κ e. qed 𝓛 (‵ (fnamed i (fbor κ (cell_at t b o))) ∷ ‵ (flft κ e)
        ∷ (‵ N ⊛ ‵ N ⊛ ‵ B ⊛ ‵ R) ∷ []) ∵ move ! (2 ∷ []) $ split3 ! $ move ! (2 ∷ []) $ split ! $
        -- [the pass; the right; the name, twice; the cell's borrow; its token]
        move ! (4 ∷ 2 ∷ 5 ∷ 3 ∷ 0 ∷ 1 ∷ []) $
        by ! (via 𝓤 _ (loads_cell 𝓛 t p ready seen own l q i b o past κ e G (glances q))
        (calls (λ r. fsep (flft κ e) (with_right q r)))))) $ await ! tt $
        use2 𝓛 (raw (Hears out)) (carries 𝓛 𝓜 𝓡 Ptr ptr_val k vs held out Back (λ r.
        qed 𝓛 (‵ (held r) ∷ raw Back ∷ []) ∵ updating ! $ fsplit3 ! $
        -- [the cell's token; the right; what is found; the way back]
        move ! (1 ∷ 3 ∷ []) $ use2 𝓛 (later (‵ (flft κ₁ q₁)))
        (apply∗ 𝓤 ⟦ R ⟧ (H.⇛ (At.lft κ₁ q₁))) $ await ! tt $ now ! $
        move ! (0 ∷ 2 ∷ []) $ fjoin ! $ move ! (1 ∷ 0 ∷ []) $ fjoin ! $ done !)) $ now ! $ done !)

  -- a load by an owner that asks for the block back
  pub claims_by_cell : l.is_lent ≡ true → Loads
      → ⟦ cell_shares t (block_ptr b o) κ₀ ⟧ ∗ At.lft κ₀ q₀ ∗ ⟦ T ⟧ ∗ ⟦ right t own l quarter ⟧
      ∗ ⟦ stake l ⟧
      ⊢ H.⇛ (Hears (λ r. fsep (flft κ₀ q₀) (claimed 𝓛 t p ready seen own l (target r))))
  claims_by_cell lent calls = let R : Fml = right t own l quarter in
      let out : Ptr → Fml = λ r. claimed 𝓛 t p ready seen own l (target r) in
      qed 𝓛 (‵ (cell_shares t (block_ptr b o) κ₀) ∷ ‵ (flft κ₀ q₀) ∷ ‵ T ∷ ‵ R ∷ ‵ (stake l) ∷ []) ∵
      move ! (2 ∷ []) $ use1 𝓛 (‵ N ⊛ ‵ N ⊛ ‵ B) (pauses 𝓛 t p ready seen) $ split3 ! $
      -- [the name, twice; the pass; the cell; its token; the right; the stake]
      move ! (3 ∷ 4 ∷ 0 ∷ 1 ∷ 2 ∷ 5 ∷ 6 ∷ []) $
      by ! (by_cell 𝓛 𝓜 𝓡 Ptr ptr_val k vs t b o κ₀ q₀
      (⟦ N ⟧ ∗ ⟦ N ⟧ ∗ ⟦ B ⟧ ∗ ⟦ R ⟧ ∗ ⟦ stake l ⟧) out
      (λ i past κ e. qed 𝓛 (‵ (fnamed i (fbor κ (cell_at t b o))) ∷ ‵ (flft κ e)
      ∷ (‵ N ⊛ ‵ N ⊛ ‵ B ⊛ ‵ R ⊛ ‵ (stake l)) ∷ []) ∵ move ! (2 ∷ []) $ split3 ! $
      move ! (2 ∷ []) $ split3 ! $
      -- [the pass; the right; the stake; the name, twice; the cell's borrow; its token]
      move ! (5 ∷ 3 ∷ 6 ∷ 4 ∷ 0 ∷ 1 ∷ 2 ∷ []) $
      by ! (via 𝓤 _ (claims_by 𝓛 t p ready seen own l i b o past κ e lent)
      (calls (λ r. fsep (flft κ e) (out r))))))
