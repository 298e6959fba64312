-- Lists that a window has in itself, on no block.
use Rattle.std.proofs.Common.{◌≡◌, ℕ, ◌+◌, ◌≤◌, List, [], ◌++◌, length, take}
use Rattle.std.proofs.Common.{drop, sym, ap, ◌∙◌, arith, length-drop}
use Rattle.std.proofs.lemmas.List.{take-append-drop, length-take-le, take-take}
use Rattle.arc_buffer.specs.Slice.{sub}

-- A list in an array that has places for more: the list, and what stands in front of it and behind
-- it, which no call shows.
pub record Inlined : Type 0 where
  pub items : List ℕ
  pub front : List ℕ
  pub back : List ℕ

-- the part of an array from start to end
abbrev pub inlined : List ℕ → ℕ → ℕ → Inlined
inlined bytes start end = record {
  items = sub bytes start end;
  front = take start bytes;
  back = drop end bytes;
}

-- all of the array, and where the list begins and ends in it
abbrev pub all_bytes : Inlined → List ℕ
all_bytes v = (v.front ++ v.items) ++ v.back

-- start to end lies within the array, which has thirty places; in front of it stand no words
pub record IsInlined (words bytes : List ℕ) (start end : ℕ) : Type 0 where
  pub aligned : words ≡ []
  pub places : length bytes ≡ 30
  pub ordered : start ≤ end
  pub within : end ≤ 30

-- the array comes back from what is seen of it
module _ {X : Type 0} (make : List ℕ → List ℕ → ℕ → ℕ → X) where
  pub put_together : (words bytes : List ℕ) (start end : ℕ)
      → IsInlined words bytes start end → let v = inlined bytes start end in
      make [] (all_bytes v) (length v.front) (length v.front + length v.items)
      ≡ make words bytes start end
  put_together words bytes start end is =
      let upto = length-take-le end bytes (omega (arith, is.within, is.places)) in
      let first = length-take-le start bytes (omega (arith, is.ordered, is.within, is.places)) in
      let last : length (take start bytes) + length (sub bytes start end) ≡ end =
      omega (arith, first, length-drop start (take end bytes), upto, is.ordered) in
      let cut = ap (λ xs. xs ++ sub bytes start end) (sym (take-take start end bytes is.ordered))
      ∙ take-append-drop start (take end bytes) in
      let whole = ap (λ xs. xs ++ drop end bytes) cut ∙ take-append-drop end bytes in
      let front = take start bytes in
      ap (λ xs. make [] xs (length front) (length front + length (sub bytes start end))) whole
      ∙ ap (λ n. make [] bytes n (length front + length (sub bytes start end))) first
      ∙ ap (λ n. make [] bytes start n) last ∙ ap (λ ws. make ws bytes start end) (sym is.aligned)
