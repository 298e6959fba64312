-- Items that lie in others, at a place.
use Rattle.std.proofs.Common.{◌≡◌, ℕ, ◌+◌, ◌≤◌, List, [], ◌++◌, length, take, drop}
use Rattle.std.proofs.Common.{refl, sym, ap, ◌∙◌, arith, append_assoc}
use Rattle.std.proofs.lemmas.List.{append-nil, length-append, length-take-le, take-append-drop}
use Rattle.std.proofs.lemmas.List.{nil_from_length}
use Rattle.std.proofs.Math.Seq.{take-append-add, take-append_seam, drop-append_seam}
use Rattle.arc_buffer.specs.Slice.{sub}

module _ {T : Type 0} where
  -- some lie in others from this place on
  pub record Lies (all items : List T) (offset : ℕ) : Type 0 where
    pub front : List T
    pub back : List T
    pub whole : all ≡ front ++ (items ++ back)
    pub long : length front ≡ offset

  pub lies-sub : (all items : List T) (offset : ℕ) → Lies all items offset
      → items ≡ sub all offset (offset + length items)
  lies-sub all items offset l =
      let cut : take (offset + length items) all ≡ l.front ++ items =
      ap (λ n. take (n + length items) all) (sym l.long)
      ∙ ap (take (length l.front + length items)) l.whole
      ∙ take-append-add l.front (items ++ l.back) (length items)
      ∙ ap (λ ys. l.front ++ ys) (take-append_seam items l.back) in
      sym (ap (drop offset) cut ∙ ap (λ n. drop n (l.front ++ items)) (sym l.long)
      ∙ drop-append_seam l.front items)

  pub sub-lies : (all items : List T) (offset : ℕ) → offset + length items ≤ length all
      → items ≡ sub all offset (offset + length items) → Lies all items offset
  sub-lies all items offset within is =
      let end = offset + length items in
      let first = take end all in
      let long : length first ≡ end = length-take-le end all within in
      record {
        front = take offset first;
        back = drop end all;
        whole = sym (take-append-drop end all)
            ∙ ap (λ ys. ys ++ drop end all) (sym (take-append-drop offset first)
            ∙ ap (λ ys. take offset first ++ ys) (sym is))
            ∙ append_assoc (take offset first) items (drop end all);
        long = length-take-le offset first (omega (arith, long));
      }

  -- all of them, from the front on
  pub lies-all : (items : List T) → Lies items items 0
  lies-all items = record {
    front = [];
    back = [];
    whole = sym (append-nil items);
    long = refl;
  }

  -- those behind the first few
  pub lies-drop : (all items : List T) (offset by : ℕ) → by ≤ length items → Lies all items offset
      → Lies all (drop by items) (offset + by)
  lies-drop all items offset by within l = record {
    front = l.front ++ take by items;
    back = l.back;
    whole = l.whole ∙ ap (λ ys. l.front ++ (ys ++ l.back)) (sym (take-append-drop by items))
        ∙ ap (λ ys. l.front ++ ys) (append_assoc (take by items) (drop by items) l.back)
        ∙ sym (append_assoc l.front (take by items) (drop by items ++ l.back));
    long = omega (
      arith,
      length-append l.front (take by items),
      length-take-le by items within,
      l.long,
    );
  }

  -- the first few
  pub lies-take : (all items : List T) (offset by : ℕ) → Lies all items offset
      → Lies all (take by items) offset
  lies-take all items offset by l = record {
    front = l.front;
    back = drop by items ++ l.back;
    whole = l.whole ∙ ap (λ ys. l.front ++ (ys ++ l.back)) (sym (take-append-drop by items))
        ∙ ap (λ ys. l.front ++ ys) (append_assoc (take by items) (drop by items) l.back);
    long = l.long;
  }

  -- those from one on up to another
  pub lies-part : (all items : List T) (offset start end : ℕ) → start ≤ end → end ≤ length items
      → Lies all items offset → Lies all (sub items start end) (offset + start)
  lies-part all items offset start end ordered within l =
      lies-drop all (take end items) offset start
      (omega (arith, ordered, length-take-le end items within)) (lies-take all items offset end l)

  -- more of them, behind all
  pub lies-more : (all items more : List T) (offset : ℕ) → offset + length items ≡ length all
      → Lies all items offset → Lies (all ++ more) (items ++ more) offset
  lies-more all items more offset ends l =
      let none : l.back ≡ [] = nil_from_length l.back (omega (
        arith,
        ap length l.whole,
        length-append l.front (items ++ l.back),
        length-append items l.back,
        l.long,
        ends,
      )) in
      let bare : all ≡ l.front ++ items =
      l.whole ∙ ap (λ ys. l.front ++ (items ++ ys)) none
      ∙ ap (λ ys. l.front ++ ys) (append-nil items) in
      record {
        front = l.front;
        back = [];
        whole = ap (λ ys. ys ++ more) bare ∙ append_assoc l.front items more
            ∙ ap (λ ys. l.front ++ ys) (sym (append-nil (items ++ more)));
        long = l.long;
      }

  -- as many as there are lie there from the front on: these are all
  pub lies-whole : (all items : List T) (offset : ℕ) → offset ≡ 0 → length all ≡ length items
      → Lies all items offset → all ≡ items
  lies-whole all items offset front many l =
      let first : l.front ≡ [] = nil_from_length l.front (omega (arith, l.long, front)) in
      let last : l.back ≡ [] = nil_from_length l.back (omega (
        arith,
        ap length l.whole,
        length-append l.front (items ++ l.back),
        length-append items l.back,
        many,
      )) in
      l.whole ∙ ap (λ ys. ys ++ (items ++ l.back)) first ∙ ap (λ ys. items ++ ys) last
      ∙ append-nil items
