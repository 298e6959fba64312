-- Windows under their numbers: what becomes of them where one place changes.
use Rattle.std.proofs.Common.{inl, inr, ◌≡◌, ℕ, zero, suc, ◌+◌, ◌<◌, ◌==◌, Bool, true, false}
use Rattle.std.proofs.Common.{if◌then◌else◌, List, [], ◌∷◌, ◌++◌, length, Option, Some, None}
use Rattle.std.proofs.Common.{slice_get, slice_set, refl, sym, ap, ◌∙◌, subst, arith}
use Rattle.std.specs.Option.{option_flatten, option_map, option_map_or}
use Rattle.std.proofs.lemmas.Bool.{cases_eq, eqb-true}
use Rattle.std.proofs.lemmas.List.{length-set, length-append}
use Rattle.std.proofs.lemmas.Option.{none-some, same_Some, slice_get_within, slice_get_cases}
use Rattle.arc_block.proofs.Lists.{get-push, get-front, push-cases, get-set, get-set_other}
use Rattle.arc_slots.specs.Index.{IsIndexed, found, found_from, windows_of}

-- lists with the same elements at all places are the same
ext : {X : Type 0} (xs ys : List X) → ((j : ℕ) → slice_get xs j ≡ slice_get ys j) → xs ≡ ys
ext [] [] same = refl
ext [] (y ∷ ys) same = absurd (none-some y (same zero))
ext (x ∷ xs) [] same = absurd (none-some x (sym (same zero)))
ext (x ∷ xs) (y ∷ ys) same =
    ap (λ z. z ∷ xs) (same_Some x y (same zero))
    ∙ ap (λ zs. y ∷ zs) (ext xs ys (λ j. same (suc j)))

module _ {X : Type 0} where
  -- a place that is another number's has none of this one's
  found-none : (numbers : List ℕ) (places : List (Option X)) (n p : ℕ)
      → (slice_get numbers p ≡ Some n → option_flatten (slice_get places p) ≡ None)
      → found numbers places n p ≡ None
  found-none numbers places n p none = by (slice_get numbers p) refl
    where
      test : (m : ℕ) → slice_get numbers p ≡ Some m → (b : Bool) → (m == n) ≡ b
          → (if b then option_flatten (slice_get places p) else None) ≡ None
      test m is true e = none (is ∙ ap Some (eqb-true m n e))
      test m is false e = refl

      by : (x : Option ℕ) → slice_get numbers p ≡ x → option_map_or (λ m. if m == n then
          option_flatten (slice_get places p) else None) x None ≡ None
      by None is = refl
      by (Some m) is = test m is (m == n) refl

  -- and one that is its own has its window
  found-here : (numbers : List ℕ) (places : List (Option X)) (n p : ℕ)
      → slice_get numbers p ≡ Some n
      → found numbers places n p ≡ option_flatten (slice_get places p)
  found-here numbers places n p is =
      ap (λ x. option_map_or (λ m. if m == n then option_flatten (slice_get places p) else None) x
      None) is
      ∙ ap (λ b. if b then option_flatten (slice_get places p) else None) (self n)
    where
      self : (k : ℕ) → (k == k) ≡ true
      self k = grind arith

  found-same : (numbers' numbers : List ℕ) (places' places : List (Option X)) (n p : ℕ)
      → slice_get numbers' p ≡ slice_get numbers p
      → slice_get places' p ≡ slice_get places p
      → found numbers' places' n p ≡ found numbers places n p
  found-same numbers' numbers places' places n p one other =
      ap (λ x. option_map_or (λ m. if m == n then option_flatten (slice_get places' p) else None) x
      None) one
      ∙ ap (λ y. option_map_or (λ m. if m == n then option_flatten y else None)
      (slice_get numbers p) None) other

  from-at : (numbers : List ℕ) (places : List (Option X)) (n : ℕ) (ps : List ℕ) (j : ℕ)
      → slice_get (found_from numbers places n ps) j
      ≡ option_map (found numbers places (n + j)) (slice_get ps j)
  from-at numbers places n [] j = refl
  from-at numbers places n (p ∷ ps) zero =
      let e : n ≡ n + zero = omega arith in
      ap (λ k. Some (found numbers places k p)) e
  from-at numbers places n (p ∷ ps) (suc j) =
      let e : (n + 1) + j ≡ n + suc j = omega arith in
      from-at numbers places (n + 1) ps j
      ∙ ap (λ k. option_map (found numbers places k) (slice_get ps j)) e

  from-behind : (numbers : List ℕ) (places : List (Option X)) (n : ℕ) (ps : List ℕ) (q : ℕ)
      → found_from numbers places n (ps ++ q ∷ [])
      ≡ found_from numbers places n ps ++ found numbers places (n + length ps) q ∷ []
  from-behind numbers places n [] q =
      let e : n ≡ n + zero = omega arith in
      ap (λ k. found numbers places k q ∷ []) e
  from-behind numbers places n (p ∷ ps) q =
      let e : (n + 1) + length ps ≡ n + suc (length ps) = omega arith in
      ap (λ zs. found numbers places n p ∷ zs) (from-behind numbers places (n + 1) ps q
      ∙ ap (λ k. found_from numbers places (n + 1) ps ++ found numbers places k q ∷ []) e)

  many-from : (numbers : List ℕ) (places : List (Option X)) (n : ℕ) (ps : List ℕ)
      → length (found_from numbers places n ps) ≡ length ps
  many-from numbers places n [] = refl
  many-from numbers places n (p ∷ ps) = ap suc (many-from numbers places (n + 1) ps)

  -- there are as many as numbers
  pub many-windows : (index numbers : List ℕ) (places : List (Option X))
      → length (windows_of index numbers places) ≡ length index
  many-windows index numbers places = many-from numbers places 0 index

  window-at : (index numbers : List ℕ) (places : List (Option X)) (j : ℕ)
      → slice_get (windows_of index numbers places) j
      ≡ option_map (found numbers places j) (slice_get index j)
  window-at index numbers places j =
      let e : 0 + j ≡ j = omega arith in
      from-at numbers places 0 index j
      ∙ ap (λ k. option_map (found numbers places k) (slice_get index j)) e

  -- the window of a number at its place
  pub window-there : (index numbers : List ℕ) (places : List (Option X)) (n p : ℕ)
      → slice_get index n ≡ Some p → slice_get numbers p ≡ Some n → (x : Option X)
      → slice_get places p ≡ Some x
      → slice_get (windows_of index numbers places) n ≡ Some x
  window-there index numbers places n p told whose x at =
      window-at index numbers places n ∙ ap (option_map (found numbers places n)) told
      ∙ ap Some (found-here numbers places n p whose ∙ ap option_flatten at)

  -- a number has none where its place is past the end, another number's, or has none
  pub window-none : (index numbers : List ℕ) (places : List (Option X)) (n : ℕ)
      → ((p : ℕ) → slice_get index n ≡ Some p → slice_get numbers p ≡ Some n
      → option_flatten (slice_get places p) ≡ None)
      → option_flatten (slice_get (windows_of index numbers places) n) ≡ None
  window-none index numbers places n none =
      ap option_flatten (window-at index numbers places n) ∙ by (slice_get index n) refl
    where
      by : (x : Option ℕ) → slice_get index n ≡ x
          → option_flatten (option_map (found numbers places n) x) ≡ None
      by None is = refl
      by (Some p) is = found-none numbers places n p (λ whose. none p is whose)

  same-windows : (index : List ℕ) (numbers' numbers : List ℕ) (places' places : List (Option X))
      → ((j q : ℕ) → slice_get index j ≡ Some q
      → found numbers' places' j q ≡ found numbers places j q)
      → windows_of index numbers' places' ≡ windows_of index numbers places
  same-windows index numbers' numbers places' places same = ext _ _ (λ j.
      window-at index numbers' places' j ∙ by j (slice_get index j) refl
      ∙ sym (window-at index numbers places j))
    where
      by : (j : ℕ) (x : Option ℕ) → slice_get index j ≡ x
          → option_map (found numbers' places' j) x ≡ option_map (found numbers places j) x
      by j None is = refl
      by j (Some q) is = ap Some (same j q is)

  -- ---- a window at its place changes

  module _ (index numbers : List ℕ) (places : List (Option X)) (n p : ℕ)
      (told : slice_get index n ≡ Some p) (whose : slice_get numbers p ≡ Some n)
      (old : Option X) (at : slice_get places p ≡ Some old) (new : Option X) where
    abbrev places' : List (Option X)
    places' = slice_set places p new

    other : (j q : ℕ) → ¬ (n ≡ j) → found numbers places' j q ≡ found numbers places j q
    other j q apart = elim (cases_eq p q) [
      | inl e ↦
          let none : (ps : List (Option X)) → found numbers ps j q ≡ None =
          λ ps. found-none numbers ps j q (λ is.
          absurd (apart (same_Some n j (sym whose ∙ ap (slice_get numbers) e ∙ is)))) in
          none places' ∙ sym (none places)
      | inr far ↦
          found-same numbers numbers places' places j q refl (get-set_other places p q new far)
    ]

    pub set-window : windows_of index numbers places'
        ≡ slice_set (windows_of index numbers places) n new
    set-window = ext _ _ (λ j. elim (cases_eq n j) [
      | inl e ↦
          subst (λ k. slice_get (windows_of index numbers places') k
          ≡ slice_get (slice_set (windows_of index numbers places) n new) k) e
          (window-there index numbers places' n p told whose new (get-set places p old new at)
          ∙ sym (get-set (windows_of index numbers places) n old new
          (window-there index numbers places n p told whose old at)))
      | inr apart ↦
          window-at index numbers places' j ∙ by j apart (slice_get index j)
          ∙ sym (window-at index numbers places j)
          ∙ sym (get-set_other (windows_of index numbers places) n j new apart)
    ])
      where
        by : (j : ℕ) → ¬ (n ≡ j) → (x : Option ℕ)
            → option_map (found numbers places' j) x ≡ option_map (found numbers places j) x
        by j apart None = refl
        by j apart (Some q) = ap Some (other j q apart)

    pub set-indexed : IsIndexed index numbers places → IsIndexed index numbers places'
    set-indexed is = record {
      many = is.many ∙ sym (length-set places p new);
      told = λ q m x here there. elim (cases_eq p q) [
        | inl e ↦
            subst (λ k. slice_get index k ≡ Some q)
            (same_Some n m (sym whose ∙ ap (slice_get numbers) e ∙ here)) (told ∙ ap Some e)
        | inr far ↦ is.told q m x here (sym (get-set_other places p q new far) ∙ there)
      ];
    }

  -- ---- a place without a window gets one, under the next number

  module _ (index numbers : List ℕ) (places : List (Option X)) (p m : ℕ)
      (had : slice_get numbers p ≡ Some m) (free : slice_get places p ≡ Some None) (x : X) where
    abbrev numbers' : List ℕ
    numbers' = slice_set numbers p (length index)

    abbrev filled : List (Option X)
    filled = slice_set places p (Some x)

    old-same : (j q : ℕ) → slice_get index j ≡ Some q
        → found numbers' filled j q ≡ found numbers places j q
    old-same j q here = elim (cases_eq p q) [
      | inl e ↦
          subst (λ k. found numbers' filled j k ≡ found numbers places j k) e
          (found-none numbers' filled j p (λ is.
          let k : length index ≡ j =
          same_Some (length index) j (sym (get-set numbers p m (length index) had) ∙ is) in
          absurd (omega (arith, k, slice_get_within index j q here)))
          ∙ sym (found-none numbers places j p (λ is. ap option_flatten free)))
      | inr far ↦
          found-same numbers' numbers filled places j q
          (get-set_other numbers p q (length index) far)
          (get-set_other places p q (Some x) far)
    ]

    pub put-window : windows_of (index ++ p ∷ []) numbers' filled
        ≡ windows_of index numbers places ++ Some x ∷ []
    put-window =
        let e : 0 + length index ≡ length index = omega arith in
        from-behind numbers' filled 0 index p
        ∙ ap (λ k. windows_of index numbers' filled ++ found numbers' filled k p ∷ []) e
        ∙ ap (λ y. windows_of index numbers' filled ++ y ∷ [])
        (found-here numbers' filled (length index) p (get-set numbers p m (length index) had)
        ∙ ap option_flatten (get-set places p None (Some x) free))
        ∙ ap (λ ws. ws ++ Some x ∷ [])
        (same-windows index numbers' numbers filled places old-same)

    pub put-indexed : IsIndexed index numbers places
        → IsIndexed (index ++ p ∷ []) numbers' filled
    put-indexed is = record {
      many = length-set numbers p (length index) ∙ is.many ∙ sym (length-set places p (Some x));
      told = λ q k y here there. elim (cases_eq p q) [
        | inl e ↦
            let number : length index ≡ k =
            same_Some (length index) k (sym (get-set numbers p m (length index) had)
            ∙ ap (slice_get numbers') e ∙ here) in
            subst (λ i. slice_get (index ++ p ∷ []) i ≡ Some q) number
            (get-push index p ∙ ap Some e)
        | inr far ↦
            get-front index k q p
            (is.told q k y (sym (get-set_other numbers p q (length index) far) ∙ here)
            (sym (get-set_other places p q (Some x) far) ∙ there))
      ];
    }

  -- ---- a place more, with a window under the next number

  module _ (index numbers : List ℕ) (places : List (Option X))
      (many : length numbers ≡ length places) (x : X) where
    abbrev more : List ℕ
    more = numbers ++ length index ∷ []

    abbrev longer : List (Option X)
    longer = places ++ Some x ∷ []

    abbrev last : ℕ
    last = length places

    number-last : slice_get more last ≡ Some (length index)
    number-last =
        ap (slice_get more) (sym many) ∙ get-push numbers (length index)

    front-same : (j q : ℕ) → slice_get index j ≡ Some q
        → found more longer j q ≡ found numbers places j q
    front-same j q here = elim (slice_get_cases numbers q).1 [
      | inl there ↦
          let here' : slice_get numbers q ≡ Some there.0 = there.2 in
          let within : q < length places = omega (arith, there.1, many) in
          elim (slice_get_cases places q).1 [
            | inl stands ↦
                found-same more numbers longer places j q
                (get-front numbers q there.0 (length index) here' ∙ sym here')
                (get-front places q stands.0 (Some x) stands.2 ∙ sym stands.2)
            | inr past ↦ absurd (omega (arith, within, past.0))
          ]
      | inr past ↦
          found-none more longer j q (λ is. elim (push-cases numbers q j (length index) is) [
            | inl old ↦ absurd (none-some j (sym past.1 ∙ old))
            | inr new ↦ absurd (omega (arith, new.1, slice_get_within index j q here))
          ])
          ∙ sym (found-none numbers places j q (λ is. absurd (none-some j (sym past.1 ∙ is))))
    ]

    pub push-window : windows_of (index ++ last ∷ []) more longer
        ≡ windows_of index numbers places ++ Some x ∷ []
    push-window =
        let e : 0 + length index ≡ length index = omega arith in
        from-behind more longer 0 index last
        ∙ ap (λ k. windows_of index more longer ++ found more longer k last ∷ []) e
        ∙ ap (λ y. windows_of index more longer ++ y ∷ [])
        (found-here more longer (length index) last number-last
        ∙ ap option_flatten (get-push places (Some x)))
        ∙ ap (λ ws. ws ++ Some x ∷ [])
        (same-windows index more numbers longer places front-same)

    pub push-indexed : IsIndexed index numbers places
        → IsIndexed (index ++ last ∷ []) more longer
    push-indexed is = record {
      many =
          length-append numbers (length index ∷ [])
          ∙ ap (λ k. k + 1) many ∙ sym (length-append places (Some x ∷ []));
      told = λ q k y here there. elim (push-cases numbers q k (length index) here) [
        | inl old ↦ elim (push-cases places q (Some y) (Some x) there) [
          | inl stood ↦ get-front index k q last (is.told q k y old stood)
          | inr new ↦ absurd (omega (arith, new.0, many, slice_get_within numbers q k old))
        ]
        | inr new ↦
            let place : last ≡ q = sym many ∙ sym new.0 in
            subst (λ i. slice_get (index ++ last ∷ []) i ≡ Some q) new.1
            (get-push index last ∙ ap Some place)
      ];
    }

  -- where no number has a window, no place has one
  pub places-gone : (index numbers : List ℕ) (places : List (Option X))
      → IsIndexed index numbers places
      → ((n : ℕ) → option_flatten (slice_get (windows_of index numbers places) n) ≡ None)
      → (p : ℕ) → option_flatten (slice_get places p) ≡ None
  places-gone index numbers places is none p = by (slice_get places p) refl
    where
      by : (x : Option (Option X)) → slice_get places p ≡ x → option_flatten x ≡ None
      by None at = refl
      by (Some None) at = refl
      by (Some (Some x)) at = elim (slice_get_cases numbers p).1 [
        | inl there ↦
            let told = is.told p there.0 x there.2 at in
            absurd (none-some x (sym (none there.0) ∙ ap option_flatten
            (window-there index numbers places there.0 p told there.2 (Some x) at)))
        | inr past ↦
            absurd (omega (arith, past.0, is.many, slice_get_within places p (Some x) at))
      ]

  -- a place that has a window, or none, has a number
  has-number : (index numbers : List ℕ) (places : List (Option X)) (p : ℕ) (y : Option X)
      → IsIndexed index numbers places → slice_get places p ≡ Some y
      → (m : ℕ) × (slice_get numbers p ≡ Some m)
  has-number index numbers places p y is at = elim (slice_get_cases numbers p).1 [
    | inl there ↦ (there.0, there.2)
    | inr past ↦ absurd (omega (arith, past.0, is.many, slice_get_within places p y at))
  ]

  -- what a number more and its window lead to
  abbrev pub HasMore : (index numbers : List ℕ) → (places : List (Option X)) → X
      → (index' numbers' : List ℕ) → (places' : List (Option X)) → Type 0
  HasMore index numbers places x index' numbers' places' =
      (windows_of index' numbers' places' ≡ windows_of index numbers places ++ Some x ∷ [])
      × IsIndexed index' numbers' places'

  module _ (index numbers : List ℕ) (places : List (Option X)) (x : X)
      (is : IsIndexed index numbers places) where
    pub put-in : (p : ℕ) → slice_get places p ≡ Some None → (index' : List ℕ) (k : ℕ)
        (y : Option X) → index' ≡ index ++ p ∷ [] → k ≡ length index → y ≡ Some x
        → HasMore index numbers places x index' (slice_set numbers p k) (slice_set places p y)
    put-in p free index' k y told number window =
        let m = has-number index numbers places p None is free in
        subst (λ i. HasMore index numbers places x i (slice_set numbers p k) (slice_set places p y))
        (sym told)
        (subst (λ j. HasMore index numbers places x (index ++ p ∷ []) (slice_set numbers p j)
        (slice_set places p y)) (sym number)
        (subst (λ z. HasMore index numbers places x (index ++ p ∷ [])
        (slice_set numbers p (length index)) (slice_set places p z)) (sym window) (
          put-window index numbers places p m.0 m.1 free x,
          put-indexed index numbers places p m.0 m.1 free x is,
        )))

    pub put-on : (index' numbers' : List ℕ) (places' : List (Option X)) (p k : ℕ)
        → p ≡ length places → k ≡ length index → index' ≡ index ++ p ∷ []
        → numbers' ≡ numbers ++ k ∷ [] → places' ≡ places ++ Some x ∷ []
        → HasMore index numbers places x index' numbers' places'
    put-on index' numbers' places' p k place number told whose window =
        subst (λ i. HasMore index numbers places x i numbers' places')
        (sym (told ∙ ap (λ q. index ++ q ∷ []) place))
        (subst (λ ns. HasMore index numbers places x (index ++ length places ∷ []) ns places')
        (sym (whose ∙ ap (λ j. numbers ++ j ∷ []) number))
        (subst (λ ps. HasMore index numbers places x (index ++ length places ∷ [])
        (numbers ++ length index ∷ []) ps) (sym window) (
          push-window index numbers places is.many x,
          push-indexed index numbers places is.many x is,
        )))

-- and so it is of no numbers and no places
pub empty-indexed : {X : Type 0} {index numbers : List ℕ} {places : List (Option X)}
    → numbers ≡ [] → places ≡ [] → IsIndexed index numbers places
empty-indexed {places = places} none empty = record {
  many = ap length none ∙ sym (ap length empty);
  told = λ p n x here there.
      absurd (none-some (Some x) (ap (λ ps. slice_get ps p) (sym empty) ∙ there));
}

-- a window that isn't there leaves its list as it is when it is taken out
pub unset : {X : Type 0} (xs : List (Option X)) (i : ℕ)
    → option_flatten (slice_get xs i) ≡ None → slice_set xs i None ≡ xs
unset [] i none = refl
unset (x ∷ xs) zero none = ap (λ y. y ∷ xs) (sym none)
unset (x ∷ xs) (suc i) none = ap (λ ys. x ∷ ys) (unset xs i none)

-- the same parts have the same windows, and are indexed alike
module _ {X : Type 0} (index' index numbers' numbers : List ℕ) (places' places : List (Option X))
    (one : index' ≡ index) (two : numbers' ≡ numbers) (three : places' ≡ places) where
  pub same-parts : windows_of index' numbers' places' ≡ windows_of index numbers places
  same-parts =
      ap (λ i. windows_of i numbers' places') one ∙ ap (λ n. windows_of index n places') two
      ∙ ap (λ p. windows_of index numbers p) three

  pub same-indexed : IsIndexed index numbers places → IsIndexed index' numbers' places'
  same-indexed is =
      subst (λ i. IsIndexed i numbers' places') (sym one)
      (subst (λ n. IsIndexed index n places') (sym two)
      (subst (λ p. IsIndexed index numbers p) (sym three) is))
