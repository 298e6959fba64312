-- One word more is read, until there is no argument more.
use Rattle.std.proofs.Common.{◌≡◌, ℕ, ◌+◌, [], ◌∷◌, length, map, string_bytes, subst, sym, ap, ◌∙◌}
use Rattle.std.proofs.Common.{arith}
use Rattle.std.proofs.lemmas.List.{map-append, length-map}
use Rattle.arc_script.specs.Arguments.{Answer, IsWord, WordsFrom}
use Rattle.arc_script.specs.declared.program.TheConstants.{WORD}
use Rattle.arc_script.proofs.Arguments.{words_push}
use Rattle.arc_script.proofs.program.words.Goals as goal

pub words-preserved : goal.words-preserved
words-preserved g c =
    let words = c.words.words.items in
    let word = c.in-Some.word in
    let answers : ℕ → Answer → Type 0 = λ i. g.G.Arguments.answers c.args.given.now i WORD in
    let is : IsWord (answers c.words.i) (string_bytes word) = rw c.in-Some.is at
    c.in_ok-word.ensures in
    let behind : c.words.i ≡ 1 + length (map string_bytes words) =
    omega (arith, c.words.invariant.number, length-map words string_bytes, c.words.words.ok.0) in
    let push = c.in_ok-push.ensures in
    record {
      number = omega (arith, c.words.invariant.number, push.len);
      each =
          subst (λ xs. WordsFrom answers 1 xs)
          (sym (ap (map string_bytes) push.items ∙ map-append string_bytes words (word ∷ [])))
          (words_push answers 1 _ _ c.words.invariant.each
          (subst (λ i. IsWord (answers i) (string_bytes word)) behind is));
    }
