-- Legal histories grow by one entry, and each entry of one may follow what stands before it.
use Rattle.std.proofs.Common.{◌≡◌, ℕ, List, [], ◌∷◌, ◌++◌, sym, ap, ◌∙◌, refl, subst, append_assoc}
use Rattle.arc_owners.specs.declared.history.entry.Entry.{Entry}
use Rattle.std.proofs.lemmas.List.{append-nil}
use Rattle.arc_owners.specs.history.Histories.{Beginning, MayFollow, IsLegal}

-- by recursion on the history: each of these entries may stand where it stands, after this history
abbrev pub IsLegalAfter : ℕ → Beginning → List Entry → List Entry → Type 0
IsLegalAfter most began before [] = Unit {0}
IsLegalAfter most began before (e ∷ rest) =
    MayFollow most began before e × IsLegalAfter most began (before ++ e ∷ []) rest

-- the two say the same
after_each : (most : ℕ) (began : Beginning) (start rest : List Entry)
    → ((before after : List Entry) (e : Entry) → rest ≡ before ++ e ∷ after
    → MayFollow most began (start ++ before) e) → IsLegalAfter most began start rest
after_each most began start [] each = tt
after_each most began start (x ∷ rest) each = (
  subst (λ (b : List Entry). MayFollow most began b x) (append-nil start) (each [] rest x refl),
  after_each most began (start ++ x ∷ []) rest
      (λ before after e split. subst (λ (b : List Entry). MayFollow most began b e)
      (sym (append_assoc start (x ∷ []) before))
      (each (x ∷ before) after e (ap (λ (l : List Entry). x ∷ l) split))),
)

pub legal-after : (most : ℕ) (began : Beginning) (h : List Entry) → IsLegal most began h
    → IsLegalAfter most began [] h
legal-after most began h legal = after_each most began [] h legal.each

legal-after_at : (most : ℕ) (began : Beginning) (start before : List Entry) (e : Entry)
    (after : List Entry) → IsLegalAfter most began start (before ++ e ∷ after)
    → MayFollow most began (start ++ before) e
legal-after_at most began start [] e after h =
    subst (λ (b : List Entry). MayFollow most began b e) (sym (append-nil start)) h.0
legal-after_at most began start (x ∷ before) e after h =
    subst (λ (b : List Entry). MayFollow most began b e) (append_assoc start (x ∷ []) before)
    (legal-after_at most began (start ++ x ∷ []) before e after h.1)

pub legal_from : (most : ℕ) (began : Beginning) (h : List Entry) → IsLegalAfter most began [] h
    → IsLegal most began h
legal_from most began h all = record {
  each = λ before after e split. legal-after_at most began [] before e after
      (subst (λ (l : List Entry). IsLegalAfter most began [] l) split all);
}

-- no entries
pub legal-nil : (most : ℕ) (began : Beginning) → IsLegal most began []
legal-nil most began = legal_from most began [] tt

-- a legal history and one more entry that may follow it
legal-after_append : (most : ℕ) (began : Beginning) (before rest : List Entry) (e : Entry)
    → IsLegalAfter most began before rest → MayFollow most began (before ++ rest) e
    → IsLegalAfter most began before (rest ++ e ∷ [])
legal-after_append most began before [] e h may =
    (subst (λ (b : List Entry). MayFollow most began b e) (append-nil before) may, tt)
legal-after_append most began before (x ∷ rest) e h may = (
  h.0,
  legal-after_append most began (before ++ x ∷ []) rest e h.1
      (subst (λ (b : List Entry). MayFollow most began b e)
      (sym (append_assoc before (x ∷ []) rest)) may),
)

pub legal-append : (most : ℕ) (began : Beginning) (h : List Entry) (e : Entry)
    → IsLegal most began h → MayFollow most began h e → IsLegal most began (h ++ e ∷ [])
legal-append most began h e legal may =
    legal_from most began (h ++ e ∷ [])
    (legal-after_append most began [] h e (legal-after most began h legal) may)

-- each entry of a legal history may follow what stands before it
pub legal-at : (most : ℕ) (began : Beginning) (h before : List Entry) (e : Entry)
    (after : List Entry) → IsLegal most began h → h ≡ before ++ e ∷ after
    → MayFollow most began before e
legal-at most began h before e after legal split = legal.each before after e split

-- each front of a legal history is legal
pub legal-front : (most : ℕ) (began : Beginning) (h before rest : List Entry) → IsLegal most began h
    → h ≡ before ++ rest → IsLegal most began before
legal-front most began h before rest legal split = record {
  each = λ b after e front. legal.each b (after ++ rest) e (split
      ∙ (ap (λ (l : List Entry). l ++ rest) front ∙ append_assoc b (e ∷ after) rest));
}
