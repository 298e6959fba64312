-- What a device gave or got is what its reader or writer told.
use Rattle.std.proofs.Common.{◌≡◌, ◌≤◌, ℕ, ◌-◌, List, [], ◌++◌, length, take, drop, append_assoc}
use Rattle.std.proofs.Common.{Option, Some, None, Result, Ok, Err, refl, sym, ap, ◌∙◌, arith}
use Rattle.std.proofs.lemmas.List.{append-nil, length-drop, take-append-drop, take_all}
use Rattle.std.specs.Result.{result_ok}
use Rattle.std.specs.Io.KnownBytes.{Appends, Consumes, IsAtEnd, Keeps, WriteAppends}
use Rattle.arc_script.specs.Traffic.{Traffic, after_call, Gives, GivesAll, Takes}

abbrev Known : Type 0
Known = Option (List ℕ)

consumes_nothing : (left : Known) → Consumes left left []
consumes_nothing None = tt
consumes_nothing (Some xs) = refl

consumes_on : (l l1 l2 : Known) (one other : List ℕ)
    → Consumes l l1 one → Consumes l1 l2 other → Consumes l l2 (one ++ other)
consumes_on None l1 l2 one other c d = tt
consumes_on (Some xs) None l2 one other c d = absurd c
consumes_on (Some xs) (Some ys) None one other c d = absurd d
consumes_on (Some xs) (Some ys) (Some zs) one other c d =
    c ∙ ap (λ us. one ++ us) d ∙ sym (append_assoc one other zs)

-- nothing was read
pub gives_nothing : (r : Traffic) (left : Known) → Gives r r left left
gives_nothing r left =
    record { input = []; given = sym (append-nil r.bytes); consumed = consumes_nothing left }

-- one time after another
pub gives_on : {r r1 r2 : Traffic} {l l1 l2 : Known}
    → Gives r r1 l l1 → Gives r1 r2 l1 l2 → Gives r r2 l l2
gives_on {r = r} {l = l} {l1 = l1} {l2 = l2} one other = record {
  input = one.input ++ other.input;
  given =
      other.given ∙ ap (λ xs. xs ++ other.input) one.given
      ∙ append_assoc r.bytes one.input other.input;
  consumed = consumes_on l l1 l2 one.input other.input one.consumed other.consumed;
}

all_given : (l l' : Known) (r r' : Traffic) (input : List ℕ)
    → r'.bytes ≡ r.bytes ++ input → Consumes l l' input → IsAtEnd l' → GivesAll r r' l
all_given None l' r r' input given c end = tt
all_given (Some xs) None r r' input given c end = absurd c
all_given (Some xs) (Some ys) r r' input given c end =
    let all : input ≡ xs = sym (c ∙ ap (λ us. input ++ us) end ∙ append-nil input) in
    given ∙ ap (λ us. r.bytes ++ us) all

-- all was read
pub gives_all : {r r' : Traffic} {l l' : Known} → Gives r r' l l' → IsAtEnd l' → GivesAll r r' l
gives_all {r} {r'} {l} {l'} g end = all_given l l' r r' g.input g.given g.consumed end

appends_nothing : (held : Known) → Appends held held []
appends_nothing None = tt
appends_nothing (Some xs) = sym (append-nil xs)

appends_on : (h h1 h2 : Known) (one other : List ℕ)
    → Appends h h1 one → Appends h1 h2 other → Appends h h2 (one ++ other)
appends_on None h1 h2 one other a b = tt
appends_on (Some xs) None h2 one other a b = absurd a
appends_on (Some xs) (Some ys) None one other a b = absurd b
appends_on (Some xs) (Some ys) (Some zs) one other a b =
    b ∙ ap (λ us. us ++ other) a ∙ append_assoc xs one other

-- nothing was written
pub takes_nothing : (w : Traffic) (held : Known) → Takes w w held held
takes_nothing w held =
    record { text = []; taken = sym (append-nil w.bytes); appended = appends_nothing held }

-- one time after another
pub takes_on : {w w1 w2 : Traffic} {h h1 h2 : Known}
    → Takes w w1 h h1 → Takes w1 w2 h1 h2 → Takes w w2 h h2
takes_on {w = w} {h = h} {h1 = h1} {h2 = h2} one other = record {
  text = one.text ++ other.text;
  taken =
      other.taken ∙ ap (λ xs. xs ++ other.text) one.taken
      ∙ append_assoc w.bytes one.text other.text;
  appended = appends_on h h1 h2 one.text other.text one.appended other.appended;
}

keeps_appends : (h h' : Known) → Keeps h h' → Appends h h' []
keeps_appends None h' k = tt
keeps_appends (Some xs) None k = absurd k
keeps_appends (Some xs) (Some ys) k = k ∙ sym (append-nil xs)

-- a write
pub write_takes : {E : Type 0} (w w' : Traffic) (h h' : Known) (result : Result ℕ E) (buf : List ℕ)
    → w' ≡ after_call w buf (result_ok result) → WriteAppends h h' result buf → Takes w w' h h'
write_takes w w' h h' (Ok n) buf told bytes =
    record { text = take n buf; taken = ap (λ t. t.bytes) told; appended = bytes }
write_takes w w' h h' (Err e) buf told bytes = record {
  text = [];
  taken = ap (λ t. t.bytes) told ∙ sym (append-nil w.bytes);
  appended = keeps_appends h h' bytes;
}

-- a longer front was written, and the rest is left
pub front_grows : (bytes sent rest left : List ℕ) (n : ℕ)
    → bytes ≡ sent ++ rest → left ≡ take (length rest - n) (drop n rest)
    → bytes ≡ (sent ++ take n rest) ++ left
front_grows bytes sent rest left n parts behind =
    let short : length (drop n rest) ≤ length rest - n = omega (arith, length-drop n rest) in
    let all : left ≡ drop n rest = behind ∙ take_all (length rest - n) (drop n rest) short in
    parts ∙ ap (λ xs. sent ++ xs) (sym (take-append-drop n rest))
    ∙ sym (append_assoc sent (take n rest) (drop n rest))
    ∙ ap (λ xs. (sent ++ take n rest) ++ xs) (sym all)

pub told_grows : (w w1 w2 : Traffic) (sent rest : List ℕ) (n : ℕ)
    → w1.bytes ≡ w.bytes ++ sent → w2 ≡ after_call w1 rest (Some n)
    → w2.bytes ≡ w.bytes ++ (sent ++ take n rest)
told_grows w w1 w2 sent rest n before told =
    ap (λ t. t.bytes) told ∙ ap (λ xs. xs ++ take n rest) before
    ∙ append_assoc w.bytes sent (take n rest)
