-- Places side by side are what each of them holds. Assumes `Logic`.
--     spots_of, spots_as      what lies side by side, place by place, and back
--     spots_cut, spots_glue      cut at a place, and put together
--     spots_bare      as room, whatever they hold
use Rattle.std.proofs.Common.{◌≡◌, ℕ, zero, suc, ◌+◌, ◌-◌, ◌*◌, ◌≤◌, List, [], ◌∷◌, ◌++◌, length}
use Rattle.std.proofs.Common.{take, drop, Some, None, refl, sym, ap, ◌∙◌, arith, zero-mul, suc-mul}
use Rattle.std.proofs.Common.{add-zero, add_assoc, add_comm}
use seplogic.Ra.Ura.{Ura}
use base.Logic.{ent, sep, emp, id⊢}
use base.Fml.{Fml, ftrue, fsep, froom}
use contract.Conj.{top}
use types.Logic.{Logic, sem}
use types.Kit.{‵, ◌⊛◌, ◌$◌, ◌∵◌, !, qed, by, move, drop as drop_entry, split, fsplit, fjoin, use0}
use types.Kit.{use1, use2, rewrite, done}
use denote.Steps.{nothing}
use Rattle.std_alloc.proofs.RawLayout.{as_raw, as_written}
use Rattle.std_alloc.proofs.VecSteps.El.{El, R, el_x, elτ, sz}
use Rattle.std_alloc.proofs.VecSteps.Rows.{el_room}
use Rattle.arc_memory.specs.LentMemory.{Held, holds, contents}
use Rattle.arc_memory.proofs.Cuts.{Side, items, bare, opened, shut}

-- one place of s bytes, and then so many
pub one_further : (o k s : ℕ) → o + suc k * s ≡ o + s + k * s
one_further o k s =
    ap (λ (j : ℕ). o + j) (suc-mul k s ∙ add_comm (k * s) s) ∙ sym (add_assoc o s (k * s))

pub no_further : (o s : ℕ) → o + 0 * s ≡ o
no_further o s = ap (λ (j : ℕ). o + j) (zero-mul s) ∙ add-zero o

module _ (E : El) {M : Type 1} {𝓤 : Ura M} (𝓛 : Logic 𝓤) (b : ℕ) where
  abbrev s : ℕ
  s = sz E

  abbrev pub Spot : Type 0
  Spot = Held (R E)

  abbrev pub spots : List Spot → ℕ → Fml
  spots [] o = ftrue
  spots (y ∷ ys) o = fsep (holds (R E) y b o) (spots ys (o + s))

  abbrev Room : ℕ → ℕ → Fml
  Room = bare E 𝓛 b

  abbrev Items : List (el_x E) → ℕ → Fml
  Items = items E 𝓛 b

  bare_out : (n o : ℕ) → ent 𝓤 (sem 𝓛 (Room n o)) (sem 𝓛 (spots (contents n []) o))
  bare_out zero o = top 𝓤 (sem 𝓛 (Room zero o))
  bare_out (suc n) o = qed 𝓛 (‵ (Room (suc n) o) ∷ [])
      ∵ use1 𝓛 (‵ (froom (elτ E) b o) ⊛ ‵ (Room n (o + s))) (𝓛.laws.room_uncons (elτ E) n b o) $
      split ! $ as_raw ! (elτ E) b o $ move ! (1 ∷ []) $
      use1 𝓛 (‵ (spots (contents n []) (o + s))) (bare_out n (o + s)) $ move ! (1 ∷ 0 ∷ []) $
      fjoin ! $ done !

  bare_in : (n o : ℕ) → ent 𝓤 (sem 𝓛 (spots (contents n []) o)) (sem 𝓛 (Room n o))
  bare_in zero o = 𝓛.laws.room_nil (elτ E) b o
  bare_in (suc n) o = qed 𝓛 (‵ (spots (contents (suc n) []) o) ∷ []) ∵ fsplit ! $
      as_written ! (elτ E) b o $ move ! (1 ∷ []) $ use1 𝓛 (‵ (Room n (o + s))) (bare_in n (o + s)) $
      move ! (1 ∷ 0 ∷ []) $
      by ! (𝓛.laws.room_cons (elτ E) n b o)

  items_out : (c o : ℕ) (xs : List (el_x E)) → length xs ≤ c
      → ent 𝓤 (sep 𝓤 (sem 𝓛 (Items xs o)) (sem 𝓛 (Room (c - length xs) (o + length xs * s))))
      (sem 𝓛 (spots (contents c xs) o))
  items_out c o [] held =
      let left : c - 0 ≡ c = omega arith in
      qed 𝓛 (‵ (Items [] o) ∷ ‵ (Room (c - 0) (o + 0 * s)) ∷ []) ∵ drop_entry ! $
      rewrite ! 0 (λ (k : ℕ × ℕ). ‵ (Room k.0 k.1)) (λ i. (left i, no_further o s i)) refl $
      by ! (bare_out c o)
  items_out zero o (x ∷ xs) held = absurd (omega arith)
  items_out (suc c) o (x ∷ xs) held =
      let n = length xs in let left : suc c - suc n ≡ c - n = omega arith in
      qed 𝓛 (‵ (Items (x ∷ xs) o) ∷ ‵ (Room (suc c - suc n) (o + suc n * s)) ∷ []) ∵ fsplit ! $
      rewrite ! 2 (λ (k : ℕ × ℕ). ‵ (Room k.0 k.1)) (λ i. (left i, one_further o n s i)) refl $
      move ! (1 ∷ 2 ∷ []) $
      use2 𝓛 (‵ (spots (contents c xs) (o + s))) (items_out c (o + s) xs (omega arith)) $
      move ! (1 ∷ 0 ∷ []) $ fjoin ! $ done !

  items_in : (c o : ℕ) (xs : List (el_x E)) → length xs ≤ c
      → ent 𝓤 (sem 𝓛 (spots (contents c xs) o))
      (sep 𝓤 (sem 𝓛 (Items xs o)) (sem 𝓛 (Room (c - length xs) (o + length xs * s))))
  items_in c o [] held =
      let left : c - 0 ≡ c = omega arith in
      qed 𝓛 (‵ (spots (contents c []) o) ∷ []) ∵ use1 𝓛 (‵ (Room c o)) (bare_in c o) $
      rewrite ! 0 (λ (k : ℕ × ℕ). ‵ (Room k.0 k.1)) (sym (λ i. (left i, no_further o s i)))
      refl $ nothing ! $ done !
  items_in zero o (x ∷ xs) held = absurd (omega arith)
  items_in (suc c) o (x ∷ xs) held =
      let n = length xs in let left : suc c - suc n ≡ c - n = omega arith in
      qed 𝓛 (‵ (spots (contents (suc c) (x ∷ xs)) o) ∷ []) ∵ fsplit ! $ move ! (1 ∷ []) $
      use1 𝓛 (‵ (Items xs (o + s)) ⊛ ‵ (Room (c - n) (o + s + n * s)))
      (items_in c (o + s) xs (omega arith)) $ split ! $
      rewrite ! 1 (λ (k : ℕ × ℕ). ‵ (Room k.0 k.1)) (sym (λ i. (left i, one_further o n s i)))
      refl $ move ! (2 ∷ 0 ∷ []) $ fjoin ! $ done !

  pub spots_of : (c o : ℕ) (xs : List (el_x E)) → length xs ≤ c → ent 𝓤 (sem 𝓛 (Side E 𝓛 b o c xs))
      (sem 𝓛 (spots (contents c xs) o))
  spots_of c o xs held = qed 𝓛 (‵ (Side E 𝓛 b o c xs) ∷ [])
      ∵ use1 𝓛 (‵ (Items xs o) ⊛ ‵ (Room (c - length xs) (o + length xs * s)))
      (opened E 𝓛 b o c xs) $ split ! $ by ! (items_out c o xs held)

  pub spots_as : (c o : ℕ) (xs : List (el_x E)) → length xs ≤ c
      → ent 𝓤 (sem 𝓛 (spots (contents c xs) o)) (sem 𝓛 (Side E 𝓛 b o c xs))
  spots_as c o xs held = qed 𝓛 (‵ (spots (contents c xs) o) ∷ [])
      ∵ use1 𝓛 (‵ (Items xs o) ⊛ ‵ (Room (c - length xs) (o + length xs * s)))
      (items_in c o xs held) $ split ! $ by ! (shut E 𝓛 b o c xs)

  pub spots_cut : (n o p : ℕ) (zs : List Spot) → o + n * s ≡ p
      → ent 𝓤 (sem 𝓛 (spots zs o))
      (sep 𝓤 (sem 𝓛 (spots (take n zs) o)) (sem 𝓛 (spots (drop n zs) p)))
  spots_cut zero o p zs e = qed 𝓛 (‵ (spots zs o) ∷ []) ∵ rewrite ! 0 (λ (k : ℕ). ‵ (spots zs k))
      (sym (no_further o s) ∙ e) refl $ nothing ! $ done !
  spots_cut (suc n) o p [] e = qed 𝓛 (‵ ftrue ∷ []) ∵ nothing ! $ done !
  spots_cut (suc n) o p (z ∷ zs) e =
      qed 𝓛 (‵ (spots (z ∷ zs) o) ∷ []) ∵ fsplit ! $ move ! (1 ∷ []) $
      use1 𝓛 (‵ (spots (take n zs) (o + s)) ⊛ ‵ (spots (drop n zs) p))
      (spots_cut n (o + s) p zs (sym (one_further o n s) ∙ e)) $ split ! $ move ! (2 ∷ 0 ∷ []) $
      fjoin ! $ done !

  pub spots_glue : (n o p : ℕ) (ys zs : List Spot) → length ys ≡ n → o + n * s ≡ p
      → ent 𝓤 (sep 𝓤 (sem 𝓛 (spots ys o)) (sem 𝓛 (spots zs p))) (sem 𝓛 (spots (ys ++ zs) o))
  spots_glue zero o p [] zs f e = qed 𝓛 (‵ (spots [] o) ∷ ‵ (spots zs p) ∷ []) ∵ drop_entry ! $
      rewrite ! 0 (λ (k : ℕ). ‵ (spots zs k)) (sym (sym (no_further o s) ∙ e)) refl $ done !
  spots_glue zero o p (y ∷ ys) zs f e = absurd (omega arith)
  spots_glue (suc n) o p [] zs f e = absurd (omega arith)
  spots_glue (suc n) o p (y ∷ ys) zs f e =
      qed 𝓛 (‵ (spots (y ∷ ys) o) ∷ ‵ (spots zs p) ∷ []) ∵ fsplit ! $ move ! (1 ∷ 2 ∷ []) $
      use2 𝓛 (‵ (spots (ys ++ zs) (o + s))) (spots_glue n (o + s) p ys zs (omega arith)
      (sym (one_further o n s) ∙ e)) $ move ! (1 ∷ 0 ∷ []) $ fjoin ! $ done !

  holds_room : (y : Spot) (o : ℕ) → ent 𝓤 (sem 𝓛 (holds (R E) y b o)) (sem 𝓛 (froom (elτ E) b o))
  holds_room None o = qed 𝓛 (‵ (holds (R E) None b o) ∷ []) ∵ as_written ! (elτ E) b o $ done !
  holds_room (Some x) o = el_room E 𝓛 x b o

  all_bare : (zs : List Spot) (o : ℕ) → ent 𝓤 (sem 𝓛 (spots zs o)) (sem 𝓛 (Room (length zs) o))
  all_bare [] o = 𝓛.laws.room_nil (elτ E) b o
  all_bare (z ∷ zs) o = qed 𝓛 (‵ (spots (z ∷ zs) o) ∷ []) ∵ fsplit ! $
      use1 𝓛 (‵ (froom (elτ E) b o)) (holds_room z o) $ move ! (1 ∷ []) $
      use1 𝓛 (‵ (Room (length zs) (o + s))) (all_bare zs (o + s)) $ move ! (1 ∷ 0 ∷ []) $
      by ! (𝓛.laws.room_cons (elτ E) (length zs) b o)

  -- the items in them are let go
  pub spots_bare : (n o : ℕ) (zs : List Spot) → length zs ≡ n
      → ent 𝓤 (sem 𝓛 (spots zs o)) (sem 𝓛 (Side E 𝓛 b o n []))
  spots_bare n o zs long =
      let left : n ≡ n - 0 = omega arith in
      qed 𝓛 (‵ (spots zs o) ∷ []) ∵ use1 𝓛 (‵ (Room (length zs) o)) (all_bare zs o) $
      rewrite ! 0 (λ (k : ℕ × ℕ). ‵ (Room k.0 k.1))
      (λ i. ((long ∙ left) i, sym (no_further o s) i)) refl $
      use0 𝓛 (‵ (Items [] o)) (id⊢ 𝓤 (emp 𝓤)) $ by ! (shut E 𝓛 b o n [])
