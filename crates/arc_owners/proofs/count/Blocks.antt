-- Whether two blocks are one can be told, as of all that has a code. Assumes nothing.
use Rattle.std.proofs.Common.{◌≡◌, ◌⊎◌, inl, inr, ℕ, eqb, refl, sym, ap, ap₂, ◌∙◌, arith}
use Rattle.std.proofs.lemmas.Bool.{cases_Bool, eqb-true, eq-eqb, false≢true}
use base.Stored.{Gv, gnil, gnum, gcons, num}
use Rattle.arc_owners.specs.count.Invariant.{BlockId, block_id_coded}

abbrev Told : {A : Type 0} → A → A → Type 0
Told x y = (x ≡ y) ⊎ (¬ (x ≡ y))

abbrev sort : Gv → ℕ
sort gnil = 0
sort (gnum n) = 1
sort (gcons a b) = 2

abbrev front : Gv → Gv
front gnil = gnil
front (gnum n) = gnil
front (gcons a b) = a

abbrev back : Gv → Gv
back gnil = gnil
back (gnum n) = gnil
back (gcons a b) = b

both : (a b c d : Gv) → Told a c → Told b d → Told (gcons a b) (gcons c d)
both a b c d (inl e) (inl f) = inl (ap₂ gcons e f)
both a b c d (inr e) f = inr (λ so. e (ap front so))
both a b c d (inl e) (inr f) = inr (λ so. f (ap back so))

code_told : (x y : Gv) → Told x y
code_told gnil gnil = inl refl
code_told gnil (gnum n) = inr (λ so. omega (arith, ap sort so))
code_told gnil (gcons c d) = inr (λ so. omega (arith, ap sort so))
code_told (gnum m) gnil = inr (λ so. omega (arith, ap sort so))
code_told (gnum m) (gnum n) = elim (cases_Bool (eqb m n)) [
  | inl h ↦ inl (ap gnum (eqb-true m n h))
  | inr h ↦ inr (λ so. false≢true (sym h ∙ eq-eqb m n (ap num so)))
]
code_told (gnum m) (gcons c d) = inr (λ so. omega (arith, ap sort so))
code_told (gcons a b) gnil = inr (λ so. omega (arith, ap sort so))
code_told (gcons a b) (gnum n) = inr (λ so. omega (arith, ap sort so))
code_told (gcons a b) (gcons c d) = both a b c d (code_told a c) (code_told b d)

-- they are one block, or they aren't
pub one_block : (t u : BlockId) → (t ≡ u) ⊎ (¬ (t ≡ u))
one_block t u = elim (code_told (block_id_coded.code t) (block_id_coded.code u)) [
  | inl so ↦ inl (block_id_coded.inj t u so)
  | inr so ↦ inr (λ e. so (ap block_id_coded.code e))
]
