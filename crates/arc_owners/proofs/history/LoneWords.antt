-- While a word is lone one owner lives at most: before its promotion nothing stands in a legal
-- history but that owner's end.
use Rattle.std.proofs.Common.{inl, inr, ◌≡◌, ℕ, ◌≤◌, true, false, List, [], ◌∷◌, ◌++◌, length, refl}
use Rattle.std.proofs.Common.{sym, ◌∙◌, ap, subst, arith, append-nil, append_assoc}
use Rattle.std.specs.Prelude.{IsTrue}
use Rattle.std.proofs.lemmas.Bool.{cases_Bool, false≢true}
use Rattle.arc_owners.specs.declared.history.entry.Entry.{Entry}
use Rattle.arc_owners.specs.declared.history.entry.Entry.TheVariants.{Up, Full, Down, Alone}
use Rattle.arc_owners.specs.declared.history.entry.Entry.TheVariants.{Promote, Joined}
use Rattle.arc_owners.specs.history.Histories.{Beginning, Lone, Counted, live_owners, is_promoted}
use Rattle.arc_owners.specs.history.Histories.{owners_ever, owners_ended}
use Rattle.arc_owners.specs.history.Histories.{is_counted, Lives, LivesAlone, MayFollow, IsLegal}
use Rattle.arc_owners.proofs.history.Legality.{IsLegalAfter, legal-after}
use Rattle.arc_owners.proofs.history.Numbers.{length-without, times-in}
use Rattle.arc_owners.proofs.history.Owned.{live-ended}
use Rattle.arc_owners.proofs.history.Steps.{one_is, counted-more, counted-won}

-- a word that has a count keeps it
pub counted-after : (began : Beginning) (h more : List Entry) → is_counted began h ≡ true
    → is_counted began (h ++ more) ≡ true
counted-after began h [] c =
    subst (λ (es : List Entry). is_counted began es ≡ true) (sym (append-nil h)) c
counted-after began h (e ∷ more) c =
    subst (λ (es : List Entry). is_counted began es ≡ true) (append_assoc h (e ∷ []) more)
    (counted-after began (h ++ e ∷ []) more (counted-more began h e c))

pub promoted-counted : (b : Beginning) (h : List Entry) → IsTrue (is_promoted h)
    → is_counted b h ≡ true
unfolding is_counted
promoted-counted Counted h p = refl
promoted-counted Lone h p = p

-- on a word that began lone a count tells a promotion
pub counted-promoted : (b : Beginning) (h : List Entry) → b ≡ Lone → is_counted b h ≡ true
    → IsTrue (is_promoted h)
unfolding is_counted
counted-promoted b h lone c = subst (λ (x : Beginning). is_counted x h ≡ true) lone c

-- no owner more lives after an entry that leaves the word lone
few-more : (most : ℕ) (began : Beginning) (h : List Entry) (e : Entry)
    → length (live_owners h) ≤ 1 → MayFollow most began h e → is_counted began (h ++ e ∷ []) ≡ false
    → length (live_owners (h ++ e ∷ [])) ≤ 1
few-more most began h (Up by new) few may lone =
    absurd (false≢true (sym lone ∙ counted-more began h (Up by new) may.2))
few-more most began h (Full by) few may lone =
    absurd (false≢true (sym lone ∙ counted-more began h (Full by) may.1))
few-more most began h (Down owner) few may lone = omega (
  arith,
  few,
  ap length (live-ended h owner),
  length-without owner (live_owners h),
)
few-more most began h (Alone by found) few may lone =
    absurd (false≢true (sym lone ∙ counted-more began h (Alone by found) may.1))
few-more most began h (Promote by new) few may lone =
    absurd (false≢true (sym lone ∙ counted-won began h by new may.2))
few-more most began h (Joined by) few may lone =
    absurd (false≢true (sym lone ∙ counted-more began h (Joined by)
    (promoted-counted began h may.1)))

few-after : (most : ℕ) (began : Beginning) (before rest : List Entry)
    → length (live_owners before) ≤ 1 → IsLegalAfter most began before rest
    → is_counted began (before ++ rest) ≡ false → length (live_owners (before ++ rest)) ≤ 1
few-after most began before [] few legal lone =
    subst (λ (h : List Entry). length (live_owners h) ≤ 1) (sym (append-nil before)) few
few-after most began before (e ∷ rest) few legal lone = let more = before ++ e ∷ [] in
    let is : more ++ rest ≡ before ++ e ∷ rest = append_assoc before (e ∷ []) rest in
    let lone' : is_counted began (more ++ rest) ≡ false = ap (is_counted began) is ∙ lone in
    let still : is_counted began more ≡ false = elim (cases_Bool (is_counted began more)) [
      | inl c ↦ absurd (false≢true (sym lone' ∙ counted-after began more rest c))
      | inr c ↦ c
    ] in
    subst (λ (h : List Entry). length (live_owners h) ≤ 1) is
    (few-after most began more rest (few-more most began before e few legal.0 still) legal.1 lone')

few-first : length (live_owners []) ≤ 1
unfolding live_owners owners_ever owners_ended
few-first = let e : 1 ≤ 1 = omega arith in e

-- who lives on a lone word lives alone
pub lone-one : (most : ℕ) (began : Beginning) (h : List Entry) (o : ℕ) → IsLegal most began h
    → is_counted began h ≡ false → Lives o h → LivesAlone o h
lone-one most began h o legal lone lives =
    let few : length (live_owners h) ≤ 1 = few-after most began [] h few-first
    (legal-after most began h legal) lone in
    one_is (live_owners h) o lives
    (omega (arith, few, length-without o (live_owners h), times-in o (live_owners h) lives))
