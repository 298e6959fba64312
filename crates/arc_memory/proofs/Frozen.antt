-- Places are frozen, each by itself; what a reader has of them. Assumes `Logic`.
--     freezes        borrowed places become items to be read, under names that have settled
--     frozen_twice, owned_twice      what a reader has can be had again
--     frozen_part    so can a part of it
--     frozen_read    it is read for as long as shares of the lifetime are borrowed
use Rattle.std.proofs.Common.{◌≡◌, ℕ, ◌+◌, ◌-◌, ◌*◌, ◌^◌, ◌≤◌, List, [], ◌∷◌, ◌++◌, length, take}
use Rattle.std.proofs.Common.{refl, sym, ap, ◌∙◌, arith, Some}
use lib.ListN.{drop as drop_from}
use seplogic.Ra.Ura.{Ura}
use base.Fraction.{full_share}
use base.Logic.{ent, sep, snd∗, never_e}
use base.Fml.{Lft, Incl, Incl-trans, GName, Share, Fml, ftrue, ffalse, fsep, fbor, flft, fshr_bor}
use base.Before.{before}
use contract.BorrowLft.{meet_⊑_left, meet_⊑_right}
use ghost.Rules.{Toks, span}
use types.Logic.{Logic, sem, lfts}
use types.SemTy.{SemTy}
use types.Kit.{‵, raw, ◌⊛◌, later, ◌$◌, ◌∵◌, !, qed, by, move, keep, drop, split, split3, fsplit}
use types.Kit.{fjoin, flt_l, flt_i, use0, use1, use2, use3, rewrite, await, updating, now, done}
use types.Na.{before-Incl, before_lent}
use types.Tokens.{name_done, res_dup}
use denote.RattleType.{RattleType}
use denote.RawPtr.{Ptr, block_ptr, null_ptr}
use denote.Memory.{part_at, shared_of}
use denote.Shares.{settles as pinned}
use denote.Sharing.{ShrLaws, said}
use denote.SharingLaws.{contraction}
use denote.Slice.{elements_shared, elements_shr_laws}
use denote.Steps.{nothing}
use denote.Param.Laws.{Laws, param_laws}
use Rattle.std_alloc.proofs.VecSteps.El.{El, R, el_x, sz}
use Rattle.core.specs.Mem.{type_size}
use Rattle.arc_memory.specs.Memory.{place_at}
use Rattle.arc_memory.specs.LentMemory.{LentMemory, Held, held_code, holds, says, settles, named}
use Rattle.arc_memory.specs.LentMemory.{each_name, contents, in_memory, names_from, frozen}
use Rattle.arc_memory.specs.LentMemory.{frozen_owns}
use Rattle.arc_memory.proofs.Borrowed.{Borrows}
use Rattle.arc_memory.proofs.Contents.{take-contents, drop-contents}
use Rattle.arc_memory.proofs.Names.{each_take, each_drop}
use Rattle.arc_memory.proofs.Ranges.{sub, sub_length, sub_shared}

module _ (E : El) {M : Type 1} {𝓤 : Ura M} (𝓛 : Logic 𝓤) (b a : ℕ) where
  open 𝓛 use {H}

  abbrev s : ℕ
  s = sz E

  abbrev α : Lft
  α = a ∷ []

  -- a place as a type in memory: what lies there is an item or nothing
  abbrev Place : SemTy
  Place = record { rep = Held (R E); coded = held_code (R E); size = s; own_at = holds (R E) }

  module _ (q : Share) (τ : Lft) (p : Share) (inc : Incl τ E.row.lives) where
    abbrev ts : Toks
    ts = (α, q) ∷ (τ, p) ∷ []

    -- one place: its borrow is one of the item that its name says, which is shared
    freezes_one : (γ : GName) (x : el_x E) (o : ℕ)
        → ent 𝓤 (sep 𝓤 (sem 𝓛 (fsep (fbor α (named (R E) γ b o)) (says (R E) γ (Some x))))
        (lfts 𝓛 ts)) (H.⇛ (sep 𝓤 (sem 𝓛 (shared_of (R E) x b o α))
        (sep 𝓤 (sem 𝓛 (settles (R E) γ (Some x))) (lfts 𝓛 ts))))
    freezes_one γ x o =
        let Item : Fml = part_at (R E) full_share x b o in
        let within : Incl (span ts) α = meet_⊑_left α τ in
        qed 𝓛 (‵ (fsep (fbor α (named (R E) γ b o)) (says (R E) γ (Some x))) ∷ raw (lfts 𝓛 ts) ∷ [])
        ∵ updating ! $ fsplit ! $ move ! (1 ∷ 0 ∷ []) $
        use3 𝓛 (later (‵ (says (R E) γ (Some x)) ⊛ (‵ (fbor α Item) ⊛ raw (lfts 𝓛 ts))))
        (pinned 𝓛 Place α ts within γ (Some x) b o) $ await ! tt $ split3 ! $
        name_done ! tt $ move ! (1 ∷ 2 ∷ []) $
        use2 𝓛 (later (‵ (shared_of (R E) x b o α) ⊛ raw (lfts 𝓛 ts)))
        ((param_laws 0 E.row E.laws).shares 𝓛 x α ts b o (Incl-trans (meet_⊑_right α τ) inc)
        within) $ await ! tt $ split ! $
        -- [the item; the tokens; its name]
        move ! (0 ∷ 2 ∷ []) $ now ! $ done !

    pub freezes : (gs : List GName) (xs : List (el_x E)) (o : ℕ)
        → ent 𝓤 (sep 𝓤 (sem 𝓛 (Borrows E 𝓛 b a gs (contents (length xs) xs) o)) (lfts 𝓛 ts))
        (H.⇛ (sep 𝓤 (sem 𝓛 (frozen (R E) a gs xs b o)) (lfts 𝓛 ts)))
    freezes gs [] o = qed 𝓛 (‵ (Borrows E 𝓛 b a gs [] o) ∷ raw (lfts 𝓛 ts) ∷ []) ∵ updating ! $
        drop ! $ nothing ! $ nothing ! $ fjoin ! $ now ! $ done !
    freezes [] (x ∷ xs) o =
        qed 𝓛 (‵ ffalse ∷ raw (lfts 𝓛 ts) ∷ []) ∵ keep ! (0 ∷ []) $ by ! (never_e 𝓤 _)
    freezes (γ ∷ gs) (x ∷ xs) o =
        qed 𝓛 (‵ (Borrows E 𝓛 b a (γ ∷ gs) (contents (length (x ∷ xs)) (x ∷ xs)) o) ∷ raw
        (lfts 𝓛 ts) ∷ []) ∵ updating ! $ fsplit ! $ move ! (0 ∷ 2 ∷ []) $
        use2 𝓛 (later (‵ (shared_of (R E) x b o α) ⊛
        (‵ (settles (R E) γ (Some x)) ⊛ raw (lfts 𝓛 ts)))) (freezes_one γ x o) $ await ! tt $
        split3 ! $
        -- [the item; its name; the tokens; the other borrows]
        move ! (3 ∷ 2 ∷ []) $ use2 𝓛 (later (‵ (frozen (R E) a gs xs b (o + s)) ⊛ raw (lfts 𝓛 ts)))
        (freezes gs xs (o + s)) $ await ! tt $ split ! $ fsplit ! $
        -- [the other items; their names; the tokens; the item; its name]
        move ! (3 ∷ 0 ∷ []) $ fjoin ! $ move ! (3 ∷ 1 ∷ []) $ fjoin ! $ move ! (1 ∷ 0 ∷ []) $
        fjoin ! $ now ! $ done !

module _ (T : RattleType) (L : Laws T) {M : Type 1} {𝓤 : Ura M} (𝓛 : Logic 𝓤) (b a : ℕ) where
  abbrev κ₀ : Lft
  κ₀ = a ∷ []

  settled_twice : (gs : List GName) (ys : List (Held T))
      → ent 𝓤 (sem 𝓛 (each_name T (settles T) gs ys)) (sep 𝓤 (sem 𝓛 (each_name T (settles T) gs ys))
      (sem 𝓛 (each_name T (settles T) gs ys)))
  settled_twice gs [] = qed 𝓛 (‵ ftrue ∷ []) ∵ nothing ! $ done !
  settled_twice [] (y ∷ ys) = never_e 𝓤 _
  settled_twice (γ ∷ gs) (y ∷ ys) = let Rest : Fml = each_name T (settles T) gs ys in
      qed 𝓛 (‵ (each_name T (settles T) (γ ∷ gs) (y ∷ ys)) ∷ []) ∵ fsplit ! $ res_dup ! $
      move ! (2 ∷ []) $ use1 𝓛 (‵ Rest ⊛ ‵ Rest) (settled_twice gs ys) $ split ! $
      move ! (2 ∷ 0 ∷ []) $ fjoin ! $ move ! (2 ∷ 1 ∷ []) $ fjoin ! $ done !

  pub frozen_twice : (gs : List GName) (xs : List T.Denot) (o : ℕ)
      → ent 𝓤 (sem 𝓛 (frozen T a gs xs b o))
      (sep 𝓤 (sem 𝓛 (frozen T a gs xs b o)) (sem 𝓛 (frozen T a gs xs b o)))
  frozen_twice gs xs o = let Items : Fml = elements_shared T xs b o κ₀ in
      let Names : Fml = each_name T (settles T) gs (contents (length xs) xs) in
      qed 𝓛 (‵ (frozen T a gs xs b o) ∷ []) ∵ fsplit ! $
      use1 𝓛 (‵ Items ⊛ ‵ Items) (contraction 𝓛 (elements_shared T xs b o)
      (elements_shr_laws T L.shr_laws xs b o) κ₀) $ split ! $ move ! (2 ∷ []) $
      use1 𝓛 (‵ Names ⊛ ‵ Names) (settled_twice gs (contents (length xs) xs)) $ split ! $
      move ! (2 ∷ 0 ∷ []) $ fjoin ! $ move ! (2 ∷ 1 ∷ []) $ fjoin ! $ done !

  -- a part of it
  pub frozen_part : (gs : List GName) (xs : List T.Denot) (i j o : ℕ) → i ≤ j → j ≤ length xs
      → ent 𝓤 (sem 𝓛 (frozen T a gs xs b o))
      (sem 𝓛 (frozen T a (drop_from i gs) (sub xs i j) b (i * type_size T + o)))
  frozen_part gs xs i j o ordered within =
      let n = length xs in let ys = sub xs i j in let K = settles T in let m : ℕ = j - i in
      let many : j ≡ i + m = omega (arith, ordered) in
      let cut : drop_from i (take j (contents n xs)) ≡ contents (length ys) ys = ap (drop_from i)
      (take-contents j n xs within) ∙ drop-contents i j m (take j xs) many
      ∙ ap (λ (k : ℕ). contents k ys) (sym (sub_length xs i j ordered within)) in
      qed 𝓛 (‵ (frozen T a gs xs b o) ∷ []) ∵ fsplit ! $
      use1 𝓛 (‵ (elements_shared T ys b (i * type_size T + o) κ₀))
      (sub_shared T 𝓛 κ₀ xs i j b o ordered within) $ move ! (1 ∷ []) $
      use1 𝓛 (‵ (each_name T K gs (take j (contents n xs))))
      (each_take T 𝓛 K j gs (contents n xs)) $
      use1 𝓛 (‵ (each_name T K (drop_from i gs) (drop_from i (take j (contents n xs)))))
      (each_drop T 𝓛 K i gs (take j (contents n xs))) $
      rewrite ! 0 (λ (us : List (Held T)). ‵ (each_name T K (drop_from i gs) us)) cut refl $
      move ! (1 ∷ 0 ∷ []) $ fjoin ! $ done !

  -- whoever has shares of the lifetime for as long as κ reads it for κ
  pub frozen_read : (gs : List GName) (xs : List T.Denot) (o : ℕ) (κ : Lft)
      → ent 𝓤 (sep 𝓤 (sem 𝓛 (frozen T a gs xs b o)) (sem 𝓛 (fshr_bor κ (λ q. flft κ₀ q))))
      (sem 𝓛 (elements_shared T xs b o κ))
  frozen_read gs xs o κ = qed 𝓛 (‵ (frozen T a gs xs b o) ∷ ‵ (fshr_bor κ (λ q. flft κ₀ q)) ∷ [])
      ∵ use0 𝓛 (‵ (before (κ₀ ++ κ) κ₀)) (before-Incl 𝓛 (κ₀ ++ κ) κ₀ (meet_⊑_left κ₀ κ)) $
      move ! (2 ∷ 0 ∷ []) $ use2 𝓛 (‵ (before κ κ₀)) (before_lent 𝓛 κ κ₀ κ₀) $ move ! (1 ∷ []) $
      fsplit ! $ move ! (1 ∷ []) $ drop ! $ move ! (1 ∷ 0 ∷ []) $
      by ! ((elements_shr_laws T L.shr_laws xs b o).mono M 𝓤 𝓛 κ κ₀)

module _ (T : RattleType) (L : Laws T) (m : LentMemory) (start : ℕ) (xs : List T.Denot) where
  abbrev Own : Fml
  Own = frozen_owns T m start xs

  module _ {M : Type 1} {𝓤 : Ura M} (𝓛 : Logic 𝓤) where
    abbrev Lying : Ptr → Fml
    Lying p = in_memory p (frozen T m.lifetime (names_from T m start) xs)

    lying_twice : (p : Ptr) → ent 𝓤 (sem 𝓛 (Lying p)) (sep 𝓤 (sem 𝓛 (Lying p)) (sem 𝓛 (Lying p)))
    lying_twice (block_ptr b o) = frozen_twice T L 𝓛 b m.lifetime (names_from T m start) xs o
    lying_twice null_ptr = never_e 𝓤 _

    pub owned_twice : ent 𝓤 (sem 𝓛 Own) (sep 𝓤 (sem 𝓛 Own) (sem 𝓛 Own))
    owned_twice = let p = place_at T m.base start in let size : ℕ = m.whole * type_size T in
        qed 𝓛 (‵ Own ∷ []) ∵ fsplit ! $
        flt_l ! (λ small. use1 𝓛 (‵ (Lying p) ⊛ ‵ (Lying p)) (lying_twice p) $ split ! $
        flt_i ! size (2 ^ 63) small $ fjoin ! $ move ! (1 ∷ []) $ flt_i ! size (2 ^ 63) small $
        fjoin ! $ done !)

  pub owned_shr : ShrLaws (said Own)
  owned_shr = record {
    contraction = λ M 𝓤 𝓛 κ. owned_twice 𝓛;
    mono =
        λ M 𝓤 𝓛 κ' κ. snd∗ 𝓤 (sem 𝓛 (before κ' κ)) (sem 𝓛 Own);
  }
