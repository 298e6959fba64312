-- What is known of a place's name is what it decides; so too for names side by side, and for a
-- part of them. Assumes `Logic`.
--     each_take, each_drop      what is known of the first names, and of the others
--     Agrees      what agrees so
--     says_agrees, settles_agrees      what a name says, and what a settled one does
--     agree       what is known of the names of a range is what lies there
use Rattle.std.proofs.Common.{◌≡◌, ℕ, zero, suc, ◌+◌, ◌≤◌, List, [], ◌∷◌, length, take, refl, sym}
use Rattle.std.proofs.Common.{ap₂, arith}
use lib.ListN.{drop as drop_from}
use seplogic.Ra.Ura.{Ura}
use base.Logic.{ent, sep, emp, never_e, id⊢}
use base.Fml.{GName, Fml, ftrue, fsep}
use contract.Monad.{fact, fact_i}
use types.Logic.{Logic, sem}
use types.Kit.{‵, raw, ◌$◌, ◌∵◌, !, qed, by, move, drop, fsplit, fjoin, use1, use2, done}
use types.Tokens.{name_agree, res_agree}
use denote.RattleType.{RattleType}
use denote.Steps.{nothing, heard}
use Rattle.arc_memory.specs.LentMemory.{Held, held_code, says, settles, decides, each_name}

module _ (R : RattleType) where
  -- what names side by side decide
  abbrev pub decided : List GName → List (Held R) → Fml
  decided [] zs = ftrue
  decided (γ ∷ gs) [] = ftrue
  decided (γ ∷ gs) (z ∷ zs) = fsep (decides R γ z) (decided gs zs)

module _ (R : RattleType) {M : Type 1} {𝓤 : Ura M} (𝓛 : Logic 𝓤) where
  abbrev Y : Type 0
  Y = Held R

  abbrev pub Agrees : (GName → Y → Fml) → Type 1
  Agrees K = (γ : GName) (y z : Y) → ent 𝓤 (sep 𝓤 (sem 𝓛 (decides R γ z)) (sem 𝓛 (K γ y)))
      (fact 𝓤 (z ≡ y))

  pub says_agrees : Agrees (says R)
  says_agrees γ y z = qed 𝓛 (‵ (decides R γ z) ∷ ‵ (says R γ y) ∷ []) ∵ move ! (1 ∷ 0 ∷ []) $
      name_agree ! (held_code R) (λ same. by ! (fact_i 𝓤 _ _ (sym same)))

  pub settles_agrees : Agrees (settles R)
  settles_agrees γ y z = qed 𝓛 (‵ (decides R γ z) ∷ ‵ (settles R γ y) ∷ []) ∵ move ! (1 ∷ 0 ∷ []) $
      res_agree ! (held_code R) (λ same. by ! (fact_i 𝓤 _ _ (sym same)))

  module _ (K : GName → Y → Fml) where
    abbrev Each : List GName → List Y → Fml
    Each = each_name R K

    pub each_take : (n : ℕ) (gs : List GName) (ys : List Y)
        → ent 𝓤 (sem 𝓛 (Each gs ys)) (sem 𝓛 (Each gs (take n ys)))
    each_take zero gs ys = qed 𝓛 (‵ (Each gs ys) ∷ []) ∵ drop ! $ nothing ! $ done !
    each_take (suc n) gs [] = id⊢ 𝓤 (emp 𝓤)
    each_take (suc n) [] (y ∷ ys) = never_e 𝓤 _
    each_take (suc n) (γ ∷ gs) (y ∷ ys) = qed 𝓛 (‵ (Each (γ ∷ gs) (y ∷ ys)) ∷ []) ∵ fsplit ! $
        move ! (1 ∷ []) $ use1 𝓛 (‵ (Each gs (take n ys))) (each_take n gs ys) $
        move ! (1 ∷ 0 ∷ []) $ fjoin ! $ done !

    pub each_drop : (n : ℕ) (gs : List GName) (ys : List Y)
        → ent 𝓤 (sem 𝓛 (Each gs ys)) (sem 𝓛 (Each (drop_from n gs) (drop_from n ys)))
    each_drop zero gs ys = id⊢ 𝓤 _
    each_drop (suc n) gs [] = id⊢ 𝓤 (emp 𝓤)
    each_drop (suc n) [] (y ∷ ys) = never_e 𝓤 _
    each_drop (suc n) (γ ∷ gs) (y ∷ ys) =
        qed 𝓛 (‵ (Each (γ ∷ gs) (y ∷ ys)) ∷ []) ∵ fsplit ! $ drop ! $ by ! (each_drop n gs ys)

  module _ (K : GName → Y → Fml) (agrees : Agrees K) where
    agree_front : (gs : List GName) (zs ys : List Y) → length zs ≡ length gs → length ys ≤ length gs
        → ent 𝓤 (sep 𝓤 (sem 𝓛 (decided R gs zs)) (sem 𝓛 (each_name R K gs ys)))
        (fact 𝓤 (take (length ys) zs ≡ ys))
    agree_front gs zs [] e f = fact_i 𝓤 _ _ refl
    agree_front [] zs (y ∷ ys) e f = absurd (omega arith)
    agree_front (γ ∷ gs) [] (y ∷ ys) e f = absurd (omega arith)
    agree_front (γ ∷ gs) (z ∷ zs) (y ∷ ys) e f =
        qed 𝓛 (‵ (decided R (γ ∷ gs) (z ∷ zs)) ∷ ‵ (each_name R K (γ ∷ gs) (y ∷ ys)) ∷ [])
        ∵ fsplit ! $ move ! (2 ∷ []) $ fsplit ! $ move ! (2 ∷ 0 ∷ []) $
        use2 𝓛 (raw (fact 𝓤 (z ≡ y))) (agrees γ y z) $
        heard ! (z ≡ y) (λ same. move ! (1 ∷ 0 ∷ []) $
        use2 𝓛 (raw (fact 𝓤 (take (length ys) zs ≡ ys)))
        (agree_front gs zs ys (omega arith) (omega arith)) $ heard ! (take (length ys) zs ≡ ys)
        (λ rest. by ! (fact_i 𝓤 _ _ (ap₂ (λ (k : Y) (l : List Y). k ∷ l) same rest))))

    pub agree : (n : ℕ) (gs : List GName) (zs ys : List Y) → length zs ≡ length gs
        → n + length ys ≤ length gs
        → ent 𝓤 (sep 𝓤 (sem 𝓛 (decided R gs zs)) (sem 𝓛 (each_name R K (drop_from n gs) ys)))
        (fact 𝓤 (take (length ys) (drop_from n zs) ≡ ys))
    agree zero gs zs ys e f = agree_front gs zs ys e (omega arith)
    agree (suc n) [] zs ys e f = absurd (omega arith)
    agree (suc n) (γ ∷ gs) [] ys e f = absurd (omega arith)
    agree (suc n) (γ ∷ gs) (z ∷ zs) ys e f =
        qed 𝓛 (‵ (decided R (γ ∷ gs) (z ∷ zs)) ∷ ‵ (each_name R K (drop_from n gs) ys) ∷ [])
        ∵ fsplit ! $ drop ! $ by ! (agree n gs zs ys (omega arith) (omega arith))
