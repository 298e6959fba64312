-- A writer that was made, by its own items.
use Rattle.std.proofs.Common.{inl, inr, ◌≡◌, ℕ, Bool, true, List, []}
use Rattle.std.proofs.Common.{sym, ap, ◌∙◌, subst}
use Rattle.arc_owners.specs.declared.mark.Whole.{Whole}
use Rattle.arc_owners.specs.declared.count.tokens.Pass.{Pass}
use Rattle.arc_parts.specs.Window.{PartsView}
use Rattle.arc_parts.specs.Writers.{IsNewWriter, MakesWriter}
use Rattle.arc_commands.proofs.Lists.{none-or-some}

module _ {T M : Type 0} where
  pub own_items : (drops : Bool) (items : List T) (places : ℕ) (w : PartsView T M)
      (p : Pass Whole) → IsNewWriter drops true items places w p
      → IsNewWriter drops true w.items places w p
  own_items drops items places w p is =
      subst (λ xs. IsNewWriter drops true xs places w p)
      (sym (ap (λ (v : PartsView T M). v.items) is.made)) is

  -- they are those of which it was made
  pub made_so : (drops : Bool) (items : List T) (places : ℕ) (w : PartsView T M)
      (before after : Pass Whole) → MakesWriter drops true items places w before after
      → (places ≡ 0 → items ≡ []) → w.items ≡ items
  made_so drops items places w before after makes empty = elim (none-or-some places) [
    | inl none ↦
        ap (λ (v : PartsView T M). v.items) (makes.idle none).0 ∙ sym (empty none)
    | inr some ↦ ap (λ (v : PartsView T M). v.items) (makes.new some).made
  ]
