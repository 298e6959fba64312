-- The steps that may be an owner's last: it ends, or it asks for the block back. By a reference to
-- the word or by its place, what is had before the call and after it is the same. Assumes `Logic`.
use Rattle.std.proofs.Common.{◌≡◌, ℕ, ◌^◌, ◌<◌, Bool, true, eqb, List, [], ◌∷◌, refl, w64}
use seplogic.Ra.Ura.{Ura}
use mir.Syntax.{Fn, Callee, named}
use mir.Val.{Val, vint, vptr}
use base.Logic.{emp, via}
use base.Share.{quarter}
use base.Fml.{Lft, GName, Share, Fml, ftrue, feq, flt, fsep, flft, fobs, fbor}
use prog.Model.{Model}
use prog.Wp.{Closed}
use types.Logic.{Logic}
use types.SemTy.{Body}
use types.Kit.{Item, Goal, Soaks, Seq, Step, step, ‵, raw, ◌⊛◌, later, ◌$◌, ◌∵◌, !, qed, by}
use types.Kit.{move, keep, drop, split, group, fsplit, fsplit3, fjoin, fjoin3, fpick, done, use1}
use types.Kit.{rewrite, updating, await, now, use2}
use contract.Lifetimes.{Lfts}
use contract.Monad.{fact}
use contract.Running.{Running, MachineTables, tables}
use denote.Exit.{yes}
use denote.RattleType.{owns, RattleType}
use denote.Laws.{Spells, Tellss, Ises}
use denote.Signature.{Slot, types_at, plain, mut_ref_to}
use denote.Builtin.{RefOf}
use denote.Memory.{mem}
use denote.Opens.{unhide}
use denote.RawPtr.{Ptr, RawPtr, block_ptr, ptr_val, rawptr_vals, rawptr_Tells}
use denote.Ref.{mut_vals, mut_Tells, shr_vals, shr_Tells}
use denote.Steps.{nothing, heard}
use denote.Param.{param}
use denote.Triple.Clauses.{Ended, Clauses, closing, at_exit}
use denote.Triple.Entry.{Args}
use denote.Triple.Spec.{Meets}
use denote.Triple.Walked.{Stays, AllGo, stay_dropped, stay_ref, walk_of, Goes-dropped, Goes-ref}
use Rattle.core.specs.Sync.RawAtomic.{asks, always}
use Rattle.std.proofs.raw_atomic.Walks.{proved}
use Rattle.logbook.proofs.Fields.{ends}
use Rattle.arc_owners.specs.count.Invariant.{BlockId, Line, Lease, lease_after, known, right, stake}
use Rattle.arc_owners.specs.count.Invariant.{right_owns, end_tokens, claim_gain, trace_owns}
use Rattle.arc_owners.specs.count.Invariant.{word_borrow}
use Rattle.arc_owners.specs.count.Steps.{IsHeld, IsOf, IsLodged}
use Rattle.arc_owners.specs.contracts.count.word.Word as Word
use Rattle.arc_owners.specs.contracts.count.word.Word.claim as claim_as
use Rattle.arc_owners.specs.contracts.count.word.Word.claim_raw as claim_at
use Rattle.arc_owners.specs.contracts.count.word.WordBorrow as WordBorrow
use Rattle.arc_owners.specs.contracts.count.word.OwnerToken as OwnerToken
use Rattle.arc_owners.specs.contracts.count.word.PassState as PassState
use Rattle.arc_owners.specs.contracts.count.word.EndTokens as EndTokens
use Rattle.arc_owners.proofs.count.Signs.{signs}
use Rattle.arc_owners.proofs.count.Operations.{Operation, Follows, claim, subtract, with_entry}
use Rattle.arc_owners.proofs.count.Moves.{Steps}
use Rattle.arc_owners.proofs.count.Moves as moves
use Rattle.arc_owners.proofs.count.OneCall.{Answers, Ends_at, IsCall, after_call}
use Rattle.arc_owners.proofs.count.Places as places
use Rattle.arc_owners.proofs.count.Stakes as stakes
use Rattle.arc_owners.proofs.count.Walks.{a_pass, no_pass, no_owner, an_owner, an_end, pass_out}
use Rattle.arc_owners.proofs.count.Walks.{pass_in, owner_out, owner_in, ends_in, by_reference}
use Rattle.arc_owners.proofs.count.Walks.{lodging_shown}
use Rattle.arc_owners.proofs.count.Walks.{answered, given_back}

abbrev Pass : RattleType
Pass = PassState.the_row

abbrev Own : RattleType → RattleType
Own R = OwnerToken.the_row R

abbrev End : RattleType
End = EndTokens.the_row

-- what a `&mut` has, by its two parts and its token
abbrev pub held_by : {M : Type 1} {𝓤 : Ura M} (P : RattleType) → GName → P.Denot → Lft → Share → ℕ → ℕ
    → List (Item 𝓤) → List (Item 𝓤)
held_by P γ h κ q b o Γ = ‵ (fobs γ (P.coded.code h)) ∷ ‵ (fbor κ (Body (mem P) b o γ))
    ∷ ‵ (flft κ q) ∷ Γ

-- what is left of a `&mut`, beside what is left of the later parameters
abbrev pub left_mut : (P : RattleType) → GName → P.Denot → Lft → ℕ → ℕ → Fml → Fml
left_mut P γ h κ b o rest = fsep (fsep (feq (List Val) (vptr b o ∷ []) (vptr b o ∷ []))
    (fsep (fobs γ (P.coded.code h)) (fbor κ (Body (mem P) b o γ)))) rest

module _ {M : Type 1} {𝓤 : Ura M} {𝓛 : Logic 𝓤} {K : Type 0} {Γ : List (Item 𝓤)}
    {G : Goal 𝓤 𝓛.H} where
  -- what such a call leaves of the owner, the pass and the end tokens, all its tokens, and what
  -- it answers
  pub gives_back_with : (R : RattleType) → K → (b₁ o₁ b₂ o₂ b₃ o₃ : ℕ)
      (h : (Own R).Denot) (p : Pass.Denot) (e : End.Denot)
      → {κ κ₁ κ₂ κ₃ : Lft} {q q₁ q₂ q₃ : Share} {γ₁ γ₂ γ₃ : GName} {last answer : Fml}
      → Step K 𝓛 (‵ (left_mut (Own R) γ₁ h κ₁ b₁ o₁ (left_mut Pass γ₂ p κ₂ b₂ o₂
      (left_mut End γ₃ e κ₃ b₃ o₃ ftrue)))
      ∷ ‵ (fsep (flft κ q) (fsep (flft κ₁ q₁) (fsep (flft κ₂ q₂) (fsep (flft κ₃ q₃) last))))
      ∷ ‵ answer ∷ Γ) G
      (‵ answer ∷ held_by End γ₃ e κ₃ q₃ b₃ o₃ (held_by (Own R) γ₁ h κ₁ q₁ b₁ o₁
      (held_by Pass γ₂ p κ₂ q₂ b₂ o₂ (‵ (flft κ q) ∷ ‵ last ∷ Γ)))) G
  gives_back_with R k b₁ o₁ b₂ o₂ b₃ o₃ h p e = step (λ s.
      move k (3 ∷ 11 ∷ []) $ fjoin k $ move k (9 ∷ 0 ∷ []) $ fjoin k $ move k (6 ∷ 0 ∷ []) $
      fjoin k $ move k (8 ∷ 0 ∷ []) $ fjoin k $
      -- [the tokens; the answer; two parts of the end tokens, of the owner and of the pass]
      nothing k $ move k (3 ∷ 4 ∷ 0 ∷ []) $ given_back k b₃ o₃ $ move k (5 ∷ 6 ∷ 0 ∷ []) $
      given_back k b₂ o₂ $ move k (3 ∷ 4 ∷ 0 ∷ []) $ given_back k b₁ o₁ $ s)

  -- the same of a number
  gives_back : (R : RattleType) → K → (n : ℕ) → n < 2 ^ 64 → (b₁ o₁ b₂ o₂ b₃ o₃ : ℕ)
      (h : (Own R).Denot) (p : Pass.Denot) (e : End.Denot)
      → {κ κ₁ κ₂ κ₃ : Lft} {q q₁ q₂ q₃ : Share} {γ₁ γ₂ γ₃ : GName} {last : Fml}
      → Step K 𝓛 (‵ (left_mut (Own R) γ₁ h κ₁ b₁ o₁ (left_mut Pass γ₂ p κ₂ b₂ o₂
      (left_mut End γ₃ e κ₃ b₃ o₃ ftrue)))
      ∷ ‵ (fsep (flft κ q) (fsep (flft κ₁ q₁) (fsep (flft κ₂ q₂) (fsep (flft κ₃ q₃) last))))
      ∷ ‵ (fsep (feq (List Val) (vint w64 n ∷ []) (vint w64 n ∷ [])) (flt n (2 ^ 64))) ∷ Γ) G
      (held_by End γ₃ e κ₃ q₃ b₃ o₃ (held_by (Own R) γ₁ h κ₁ q₁ b₁ o₁
      (held_by Pass γ₂ p κ₂ q₂ b₂ o₂ (‵ (flft κ q) ∷ ‵ last ∷ Γ)))) G
  gives_back R k n fits b₁ o₁ b₂ o₂ b₃ o₃ h p e = step (λ s. answered k n fits $
      gives_back_with R k b₁ o₁ b₂ o₂ b₃ o₃ h p e $ s)

module _ {M : Type 1} {𝓤 : Ura M} (𝓛 : Logic 𝓤) (R : RattleType) where
  open signs 𝓛 use {◌⊢◌, ◌∗◌, ⟦◌⟧}

  infix 26 ◌⊢◌
  infixr 35 ◌∗◌
  -- such a step, and what the owner has of its right afterwards, beside what its end leaves
  pub record Parting : Type 2 where
    pub op : BlockId → ℕ → Lease → Operation
    pub kept : BlockId → (Own R).Denot → ℕ → (Own R).Denot
    pub steps : (t : BlockId) (p : ℕ) (ready : Bool) (seen : List Line) (o : ℕ) (l : Lease)
        → l.is_lent ≡ true → Steps 𝓛 t p ready seen o l quarter (stake l) (op t o l)
    pub parts : (t : BlockId) (h : (Own R).Denot) (n : ℕ) (before : List Line)
        → ⟦ known t h.born ⟧ ∗ ⟦ (op t h.owner h.lease).gain n before ⟧
        ⊢ ⟦ right_owns (kept t h n).held (kept t h n).block (kept t h n).owner (kept t h n).lease
        (kept t h n).born ⟧ ∗ ⟦ end_tokens h.lease (eqb n 1) ⟧

  abbrev pub claiming : Parting
  claiming = record {
    op = claim;
    kept = λ t h n. an_owner R true t h.owner (lease_after h.lease (eqb n 1)) h.born;
    steps = λ t p ready seen o l lent. moves.claims 𝓛 t p ready seen o l lent;
    parts = λ t h n before. qed 𝓛 (‵ (known t h.born)
        ∷ ‵ (claim_gain t h.owner h.lease (eqb n 1)) ∷ []) ∵ move ! (1 ∷ []) $ fsplit3 ! $
        move ! (3 ∷ 0 ∷ 1 ∷ []) $ fjoin3 ! $ done !;
  }

  abbrev pub subtracting : Parting
  subtracting = record {
    op = λ _. subtract;
    kept = λ t h n. no_owner R h;
    steps = λ t p ready seen o l lent. moves.subtracts 𝓛 t p ready seen o l lent;
    parts = λ t h n before. qed 𝓛 (‵ (known t h.born) ∷ ‵ (end_tokens h.lease (eqb n 1)) ∷ []) ∵
        drop ! $ nothing ! $ done !;
  }

  module _ (x : Parting) (t : BlockId) (h : (Own R).Denot) (p : Pass.Denot) where
    abbrev op : Operation
    op = x.op t h.owner h.lease

    -- the pass after the step that finds this number and this history
    abbrev pub passed : ℕ → List Line → Pass.Denot
    passed n before = a_pass t p.number p.ready (with_entry p.number before (op.entry n before))

    module _ {K : Type 0} {Γ : List (Item 𝓤)} {G : Goal 𝓤 𝓛.H} {κ₁ κ₂ : Lft} {q₁ q₂ : Share}
        {γ₁ γ₂ : GName} where
      -- before it: what the owner and the pass have is taken out
      pub brings : K → Soaks G → (b₁ o₁ b₂ o₂ : ℕ) → IsHeld t h → IsOf t p
          → Step K 𝓛 (‵ (trace_owns true t p.number p.ready p.lines)
          ∷ ‵ (right t h.owner h.lease quarter) ∷ ‵ (stake h.lease) ∷ ‵ (known t h.born)
          ∷ held_by (Own R) γ₁ (no_owner R h) κ₁ q₁ b₁ o₁
          (held_by Pass γ₂ (no_pass p) κ₂ q₂ b₂ o₂ Γ)) G
          (held_by (Own R) γ₁ h κ₁ q₁ b₁ o₁ (held_by Pass γ₂ p κ₂ q₂ b₂ o₂ Γ)) G
      brings k z b₁ o₁ b₂ o₂ held is = step (λ s. owner_out R k z b₁ o₁ t h (held.0, held.1) $
          move k (6 ∷ 7 ∷ 8 ∷ []) $ pass_out k z b₂ o₂ t p is $
          move k (0 ∷ 5 ∷ 6 ∷ 4 ∷ 7 ∷ 8 ∷ 9 ∷ 1 ∷ 2 ∷ 3 ∷ []) $ s)

      -- after it: it is put in again, and the end tokens are there
      leaves : K → Soaks G → {κ₃ : Lft} {q₃ : Share} {γ₃ : GName} (b₁ o₁ b₂ o₂ b₃ o₃ : ℕ)
          (e : End.Denot) (n : ℕ)
          → ((before : List Line) → Follows t p.number p.lines n before (op.entry n before)
          → Seq K 𝓛 (held_by End γ₃ (an_end (eqb n 1) h.lease) κ₃ q₃ b₃ o₃
          (held_by (Own R) γ₁ (x.kept t h n) κ₁ q₁ b₁ o₁
          (held_by Pass γ₂ (passed n before) κ₂ q₂ b₂ o₂ Γ))) G)
          → Seq K 𝓛 (‵ (places.after 𝓛 t p.number p.ready p.lines op n) ∷ ‵ (known t h.born)
          ∷ held_by (Own R) γ₁ (no_owner R h) κ₁ q₁ b₁ o₁ (held_by Pass γ₂ (no_pass p) κ₂ q₂ b₂ o₂
          (held_by End γ₃ e κ₃ q₃ b₃ o₃ Γ))) G
      leaves k z b₁ o₁ b₂ o₂ b₃ o₃ e n so = fpick k (λ before. fsplit k $ fpick k (λ told. drop k $
          fsplit k $ let kept : (Own R).Denot = x.kept t h n in
          -- [the pass; what is gained; what the owner knows; the owner, the pass, the end tokens]
          move k (2 ∷ 1 ∷ []) $ use2 𝓛 (‵ (right_owns kept.held kept.block kept.owner kept.lease
          kept.born) ⊛ ‵ (end_tokens h.lease (eqb n 1))) (x.parts t h n before) $ split k $
          -- [its right; what its end leaves; the pass; the owner, the pass and the end tokens]
          move k (2 ∷ 6 ∷ 7 ∷ 8 ∷ []) $ pass_in k z b₂ o₂ (no_pass p) (passed n before) $
          move k (3 ∷ 5 ∷ 6 ∷ 7 ∷ []) $ owner_in R k z b₁ o₁ (no_owner R h) kept $
          move k (6 ∷ 7 ∷ 8 ∷ 9 ∷ []) $ ends_in k z b₃ o₃ e (an_end (eqb n 1) h.lease) $
          so before told))

module _ {M : Type 1} {𝓤 : Ura M} (𝓛 : Logic 𝓤) (𝓜 : Model 𝓤 𝓛.H) (𝓡 : Running 𝓤 𝓛.H 𝓜)
    (T : RattleType) where
  open 𝓛 use {H}
  open signs 𝓛 use {Pr, ◌⊢◌}

  infix 26 ◌⊢◌
  abbrev 𝓣 : MachineTables 𝓤 H 𝓜
  𝓣 = tables 𝓤 H 𝓜 𝓡 𝓡.env

  abbrev R : RattleType
  R = param 0 T

  -- the owner, the pass and the end tokens, which come back
  abbrev pub three : List (Slot 5)
  three = mut_ref_to (1 ∷ []) tt (plain (λ _. Own R)) ∷ mut_ref_to (2 ∷ []) tt (plain (λ _. Pass))
      ∷ mut_ref_to (3 ∷ []) tt (plain (λ _. End)) ∷ []

  abbrev pub three_stay : Stays three (yes, (yes, (yes, tt)))
  three_stay = (
    stay_ref (1 ∷ []) tt (plain (λ _. Own R)),
    (stay_ref (2 ∷ []) tt (plain (λ _. Pass)), (stay_ref (3 ∷ []) tt (plain (λ _. End)), tt)),
  )

  pub three_go : AllGo 𝓛 5 three (yes, (yes, (yes, tt))) three_stay
  three_go = (
    Goes-ref 𝓛 5 1 tt (plain (λ _. Own R)),
    (Goes-ref 𝓛 5 2 tt (plain (λ _. Pass)), (Goes-ref 𝓛 5 3 tt (plain (λ _. End)), tt)),
  )

  abbrev pub three_vals : (κs : Lfts 5) → Spells (types_at three κs)
  three_vals κs = (mut_vals, (mut_vals, (mut_vals, tt)))

  pub three_tell : (κs : Lfts 5)
      → Tellss (types_at three κs) (Ises (types_at three κs)) (three_vals κs)
  three_tell κs = (
    mut_Tells (named 1) κs.1.0 (Own R),
    (mut_Tells (named 2) κs.1.1.0 Pass, (mut_Tells (named 3) κs.1.1.1.0 End, tt)),
  )

  abbrev En : Ended
  En = claim_as.ended T

  module _ (c : Clauses 𝓤 En) (x : Parting 𝓛 R) where
    -- by a reference to the word
    pub by_word : ((κs : Lfts En.signature.lifetimes) (a : Args En.signature κs)
        (g : (c κs a).ghost)
        → (c κs a).requires g ⊢ fact 𝓤 (IsHeld a.0.now a.1.0.now × IsOf a.0.now a.1.1.0.now))
        → ((κs : Lfts En.signature.lifetimes) (a : Args En.signature κs) (g : (c κs a).ghost)
        (n : ℕ) (before : List Line)
        → Follows a.0.now a.1.1.0.now.number a.1.1.0.now.lines n before
        ((x.op a.0.now a.1.0.now.owner a.1.0.now.lease).entry n before)
        → emp 𝓤 ⊢ (c κs a).ensures g n (at_exit En κs a (
          tt,
          (
            x.kept a.0.now a.1.0.now n,
            (
              passed 𝓛 R x a.0.now a.1.0.now a.1.1.0.now n before,
              (an_end (eqb n 1) a.1.0.now.lease, tt),
            ),
          ),
        )))
        → (k : Callee) (fn : Fn) → Closed 𝓤 H 𝓣.C 𝓣.Λ k fn → (j : Callee) (ws : List Val)
        → ((b o b₁ o₁ b₂ o₂ b₃ o₃ : ℕ) → IsCall 𝓛 𝓜 𝓡 fn
        (vptr b o ∷ vptr b₁ o₁ ∷ vptr b₂ o₂ ∷ vptr b₃ o₃ ∷ []) j (vptr b o ∷ ws))
        → ((t : BlockId) (i : ℕ) (l : Lease) (b o : ℕ) (out : ℕ → Fml)
        → asks 𝓛 (block_ptr b o) (x.op t i l).next always out
        ⊢ Answers 𝓛 𝓜 𝓡 j (vptr b o ∷ ws) out)
        → Meets 𝓛 En.signature (𝓣.C k) (closing 𝓛 En c)
    by_word says tells k fn closed j ws call next =
        let hs : Stays En.signature.params En.kept = (
          stay_dropped (RefOf (0 ∷ []) tt (plain (λ _. Word.the_row)) (λ _. tt)) yes,
          three_stay,
        ) in
        proved 𝓛 En hs c 𝓜 𝓡 (
          Goes-dropped 𝓛 5 (RefOf (0 ∷ []) tt (plain (λ _. Word.the_row)) (λ _. tt))
              yes (λ κs w u. refl),
          three_go,
        ) k fn closed (λ κs. (shr_vals, three_vals κs))
        (λ κs. (shr_Tells (named 0) κs.0 Word.the_row, three_tell κs))
        (λ κs qs bounds a gh are.
        let t = a.0.now in let own = a.1.0.now in let p = a.1.1.0.now in let e = a.1.1.1.0.now in
        let b = a.0.ref_ptr.0 in let o = a.0.ref_ptr.1 in let b₁ = a.1.0.ref_ptr.0 in
        let o₁ = a.1.0.ref_ptr.1 in let b₂ = a.1.1.0.ref_ptr.0 in let o₂ = a.1.1.0.ref_ptr.1 in
        let b₃ = a.1.1.1.0.ref_ptr.0 in let o₃ = a.1.1.1.0.ref_ptr.1 in
        let y : (walk_of 𝓛 En hs c).Ghost = (
          (
            κs,
            qs,
            bounds,
            a,
            (vptr b o ∷ [], (vptr b₁ o₁ ∷ [], (vptr b₂ o₂ ∷ [], (vptr b₃ o₃ ∷ [], tt)))),
          ),
          gh,
        ) in
        let P : Val → Pr = (walk_of 𝓛 En hs c).post y in
        let op : Operation = x.op t own.owner own.lease in
        let out : ℕ → Fml = λ n. fsep (flft κs.0 qs.0)
        (places.after 𝓛 t p.number p.ready p.lines op n) in
        let toks : Fml = fsep (flft κs.0 qs.0) (fsep (flft κs.1.0 qs.1.0)
        (fsep (flft κs.1.1.0 qs.1.1.0) (fsep (flft κs.1.1.1.0 qs.1.1.1.0)
        (fsep (flft κs.1.1.1.1.0 qs.1.1.1.1.0) ftrue)))) in
        via 𝓤 (H.⇛ (Ends_at 𝓛 𝓜 𝓡 j (vptr b o ∷ ws) P))
        (qed 𝓛 ((‵ toks ⊛ ‵ (owns (types_at En.signature.params κs) a y.0.4))
        ∷ raw ((c κs a).requires gh) ∷ []) ∵ updating ! $ move ! (1 ∷ []) $
        use1 𝓛 (raw (fact 𝓤 (IsHeld t own × IsOf t p))) (says κs a gh) $
        heard ! _ (λ asked. split ! $
        fsplit ! $ move ! (1 ∷ []) $ fsplit ! $ move ! (1 ∷ []) $ fsplit ! $ move ! (1 ∷ []) $
        fsplit ! $ move ! (5 ∷ []) $ fsplit ! $ fsplit ! $ move ! (2 ∷ []) $ fsplit ! $
        fsplit3 ! $ move ! (3 ∷ []) $ fsplit ! $ fsplit3 ! $ move ! (3 ∷ []) $ fsplit ! $
        fsplit3 ! $ keep ! (8 ∷ 9 ∷ 15 ∷ 5 ∷ 6 ∷ 14 ∷ 1 ∷ 2 ∷ 12 ∷ 11 ∷ 16 ∷ 13 ∷ []) $
        -- [the owner, the pass and the end tokens; the word; its token; the last token]
        brings 𝓛 R x t own p ! tt b₁ o₁ b₂ o₂ asked.0 asked.1 $
        move ! (13 ∷ []) $ unhide ! $ move ! (0 ∷ 14 ∷ 1 ∷ 2 ∷ 3 ∷ []) $ group ! 5 $
        use1 𝓛 (later (raw (Answers 𝓛 𝓜 𝓡 j (vptr b o ∷ ws) out)))
        (by_reference 𝓛 𝓜 𝓡 j (vptr b o ∷ ws) t p.number p.ready p.lines own.owner own.lease
        κs.0 qs.0 b o quarter (stake own.lease) op
        (x.steps t p.number p.ready p.lines own.owner own.lease asked.0.2)
        (next t own.owner own.lease b o)) $ await ! tt $
        after_call 𝓛 𝓜 𝓡 ! j (vptr b o ∷ ws) out P (λ n fits. fsplit ! $
        move ! (1 ∷ 2 ∷ 3 ∷ 4 ∷ 5 ∷ 6 ∷ 7 ∷ 8 ∷ 9 ∷ 10 ∷ 11 ∷ []) $
        leaves 𝓛 R x t own p ! tt b₁ o₁ b₂ o₂ b₃ o₃ e n (λ before told.
        let kept : (Own R).Denot = x.kept t own n in
        let after : Pass.Denot = passed 𝓛 R x t own p n before in
        let left : End.Denot = an_end (eqb n 1) own.lease in
        gives_back R ! n fits b₁ o₁ b₂ o₂ b₃ o₃ kept after left $ nothing ! $ fjoin ! $ now ! $
        keep ! (1 ∷ 0 ∷ 2 ∷ []) $ by ! (ends 𝓛 En hs c y (vint w64 n) n
        (tt, (kept, (after, (left, tt)))) (tt, (tt, (tt, (tt, tt))))
        (tells κs a gh n before told))))))
        (call b o b₁ o₁ b₂ o₂ b₃ o₃ P))

  abbrev At : Ended
  At = claim_at.ended T

  module _ (c : Clauses 𝓤 At) (x : Parting 𝓛 R) where
    -- by the word's place, with the owner's own part of the lifetime
    pub by_place : ((κs : Lfts At.signature.lifetimes) (a : Args At.signature κs)
        (g : (c κs a).ghost)
        → (c κs a).requires g ⊢ fact 𝓤 (IsHeld a.1.0.now.block a.1.1.0.now
        × IsOf a.1.0.now.block a.1.1.1.0.now × IsLodged a.1.0.now a.0 a.1.1.0.now.lease))
        → ((κs : Lfts At.signature.lifetimes) (a : Args At.signature κs) (g : (c κs a).ghost)
        (n : ℕ) (before : List Line)
        → Follows a.1.0.now.block a.1.1.1.0.now.number a.1.1.1.0.now.lines n before
        ((x.op a.1.0.now.block a.1.1.0.now.owner a.1.1.0.now.lease).entry n before)
        → emp 𝓤 ⊢ (c κs a).ensures g n (at_exit At κs a (
          tt,
          (
            tt,
            (
              x.kept a.1.0.now.block a.1.1.0.now n,
              (
                passed 𝓛 R x a.1.0.now.block a.1.1.0.now a.1.1.1.0.now n before,
                (an_end (eqb n 1) a.1.1.0.now.lease, tt),
              ),
            ),
          ),
        )))
        → (k : Callee) (fn : Fn) → Closed 𝓤 H 𝓣.C 𝓣.Λ k fn → (j : Callee) (ws : List Val)
        → ((place : Ptr) (b o b₁ o₁ b₂ o₂ b₃ o₃ : ℕ) → IsCall 𝓛 𝓜 𝓡 fn
        (ptr_val place ∷ vptr b o ∷ vptr b₁ o₁ ∷ vptr b₂ o₂ ∷ vptr b₃ o₃ ∷ [])
        j (ptr_val place ∷ ws))
        → ((t : BlockId) (i : ℕ) (l : Lease) (place : Ptr) (out : ℕ → Fml)
        → asks 𝓛 place (x.op t i l).next always out ⊢ Answers 𝓛 𝓜 𝓡 j (ptr_val place ∷ ws) out)
        → Meets 𝓛 At.signature (𝓣.C k) (closing 𝓛 At c)
    by_place says tells k fn closed j ws call next =
        let hs : Stays At.signature.params At.kept = (
          stay_dropped (plain (λ _. RawPtr)) yes,
          (
            stay_dropped (RefOf (0 ∷ []) tt (plain (λ _. WordBorrow.the_row)) (λ _. tt)) yes,
            three_stay,
          ),
        ) in
        proved 𝓛 At hs c 𝓜 𝓡 (
          Goes-dropped 𝓛 5 (plain (λ _. RawPtr)) yes (λ κs w u. refl),
          (
            Goes-dropped 𝓛 5 (RefOf (0 ∷ []) tt (plain (λ _. WordBorrow.the_row)) (λ _. tt)) yes
                (λ κs w u. refl),
            three_go,
          ),
        ) k fn closed (λ κs. (rawptr_vals, (shr_vals, three_vals κs)))
        (λ κs. (rawptr_Tells, (shr_Tells (named 0) κs.0 WordBorrow.the_row, three_tell κs)))
        (λ κs qs bounds a gh are.
        let place : Ptr = a.0 in let g = a.1.0.now in let t = g.block in let own = a.1.1.0.now in
        let p = a.1.1.1.0.now in let e = a.1.1.1.1.0.now in
        let b = a.1.0.ref_ptr.0 in let o = a.1.0.ref_ptr.1 in let b₁ = a.1.1.0.ref_ptr.0 in
        let o₁ = a.1.1.0.ref_ptr.1 in let b₂ = a.1.1.1.0.ref_ptr.0 in
        let o₂ = a.1.1.1.0.ref_ptr.1 in let b₃ = a.1.1.1.1.0.ref_ptr.0 in
        let o₃ = a.1.1.1.1.0.ref_ptr.1 in
        let y : (walk_of 𝓛 At hs c).Ghost = (
          (
            κs,
            qs,
            bounds,
            a,
            (
              rawptr_vals place,
              (vptr b o ∷ [], (vptr b₁ o₁ ∷ [], (vptr b₂ o₂ ∷ [], (vptr b₃ o₃ ∷ [], tt)))),
            ),
          ),
          gh,
        ) in
        let P : Val → Pr = (walk_of 𝓛 At hs c).post y in
        let op : Operation = x.op t own.owner own.lease in
        let out : ℕ → Fml = λ n. places.after 𝓛 t p.number p.ready p.lines op n in
        let toks : Fml = fsep (flft κs.0 qs.0) (fsep (flft κs.1.0 qs.1.0)
        (fsep (flft κs.1.1.0 qs.1.1.0) (fsep (flft κs.1.1.1.0 qs.1.1.1.0)
        (fsep (flft κs.1.1.1.1.0 qs.1.1.1.1.0) ftrue)))) in
        via 𝓤 (H.⇛ (Ends_at 𝓛 𝓜 𝓡 j (ptr_val place ∷ ws) P))
        (qed 𝓛 ((‵ toks ⊛ ‵ (owns (types_at At.signature.params κs) a y.0.4))
        ∷ raw ((c κs a).requires gh) ∷ []) ∵ updating ! $ move ! (1 ∷ []) $
        use1 𝓛 (raw (fact 𝓤 (IsHeld t own × IsOf t p × IsLodged g place own.lease)))
        (says κs a gh) $ heard ! _ (λ asked. split ! $
        fsplit ! $ move ! (1 ∷ []) $ fsplit ! $ move ! (1 ∷ []) $ fsplit ! $ move ! (1 ∷ []) $
        fsplit ! $ move ! (5 ∷ []) $ fsplit ! $ drop ! $ fsplit ! $ fsplit ! $ move ! (2 ∷ []) $
        fsplit ! $ fsplit3 ! $ move ! (3 ∷ []) $ fsplit ! $ fsplit3 ! $ move ! (3 ∷ []) $
        fsplit ! $ fsplit3 ! $
        keep ! (8 ∷ 9 ∷ 15 ∷ 5 ∷ 6 ∷ 14 ∷ 1 ∷ 2 ∷ 12 ∷ 11 ∷ 16 ∷ 13 ∷ []) $
        -- [the owner, the pass and the end tokens; what says where the word lies; two tokens]
        brings 𝓛 R x t own p ! tt b₁ o₁ b₂ o₂ asked.0 asked.1 $ move ! (13 ∷ []) $
        lodging_shown ! b o g $
        rewrite ! 0 (λ (k : Ptr × ℕ). ‵ (word_borrow t k.0 k.1))
        (λ i. (asked.2.0 i, asked.2.1 i)) refl $
        move ! (0 ∷ 1 ∷ 2 ∷ 3 ∷ []) $ group ! 4 $
        use1 𝓛 (raw (Answers 𝓛 𝓜 𝓡 j (ptr_val place ∷ ws) out))
        (via 𝓤 _ (stakes.by_place 𝓛 t p.number p.ready p.lines own.owner own.lease asked.0.2 op
        (x.steps t p.number p.ready p.lines own.owner own.lease asked.0.2) place)
        (next t own.owner own.lease place out)) $
        after_call 𝓛 𝓜 𝓡 ! j (ptr_val place ∷ ws) out P (λ n fits.
        leaves 𝓛 R x t own p ! tt b₁ o₁ b₂ o₂ b₃ o₃ e n (λ before told.
        let kept : (Own R).Denot = x.kept t own n in
        let after : Pass.Denot = passed 𝓛 R x t own p n before in
        let left : End.Denot = an_end (eqb n 1) own.lease in
        gives_back R ! n fits b₁ o₁ b₂ o₂ b₃ o₃ kept after left $ nothing ! $ fjoin ! $
        nothing ! $ fjoin ! $ now ! $ keep ! (1 ∷ 0 ∷ 2 ∷ []) $
        by ! (ends 𝓛 At hs c y (vint w64 n) n (tt, (tt, (kept, (after, (left, tt)))))
        (tt, (tt, (tt, (tt, (tt, tt))))) (tells κs a gh n before told))))))
        (call place b o b₁ o₁ b₂ o₂ b₃ o₃ P))
