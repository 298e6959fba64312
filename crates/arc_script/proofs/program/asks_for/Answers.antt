-- There is one word, and its text was compared.
use Rattle.std.proofs.Common.{◌≡◌, ℕ, ◌<◌, ◌≤◌, Bool, true, List, [], ◌∷◌, map, length, get_or}
use Rattle.std.proofs.Common.{String, string_bytes, sym, ap, ◌∙◌, arith}
use Rattle.std.specs.declared.alloc.Global.{Global}
use Rattle.std.specs.Str.{bytes_eq}
use Rattle.std.proofs.lemmas.Slice.Eq.{bytes_eq-Decides}
use Rattle.arc_script.specs.Program.{layout_word}
use Rattle.arc_script.proofs.program.asks_for.Goals as goal

-- the texts of one word
one_text : (words : List (String Global)) (word : String Global) → 1 ≤ length words
    → length words < 2 → word ≡ get_or words 0 word → map string_bytes words ≡ string_bytes
    word ∷ []
one_text [] word some few is = absurd (omega arith)
one_text (first ∷ []) word some few is = ap (λ w. string_bytes w ∷ []) (sym is)
one_text (first ∷ second ∷ words) word some few is = absurd (omega arith)

-- a test of a text that stands alone
tested : (test : Bool) (texts : List (List ℕ)) (text read name : List ℕ) → texts ≡ text ∷ []
    → read ≡ text → test ≡ bytes_eq read name → (test ≡ true → texts ≡ name ∷ [])
    × (texts ≡ name ∷ [] → test ≡ true)
tested test texts text read name alone same is = (
  (λ passed. alone
      ∙ ap (λ t. t ∷ []) (sym same ∙ (bytes_eq-Decides read name).0 (sym is ∙ passed))),
  (λ named. let equal : text ∷ [] ≡ name ∷ [] = sym alone ∙ named in
      is ∙ (bytes_eq-Decides read name).1 (same ∙ cc)),
)

pub returns-in-len1 : goal.returns-in-len1
returns-in-len1 c =
    tested c.eq.result (map string_bytes c.args.words.now) (string_bytes c.word-item.result)
    c.as_str.result.now (layout_word c.args.layout)
    (one_text c.args.words.now c.word-item.result c.in-len1.len_at_least c.in-len1.len_below
    c.word-item.is) c.as_str.ensures.value
    (c.eq.ensures ∙ ap (bytes_eq c.as_str.result.now) c.word_for.ensures)
