-- An answer stays one where what it names is the same: the command, the passes before it and behind
-- it, the reply, or the window that is left.
use Rattle.std.proofs.Common.{◌≡◌, ℕ, List, Option, Some, sym, subst}
use Rattle.arc_owners.specs.declared.mark.Whole.{Whole}
use Rattle.arc_owners.specs.declared.count.tokens.Pass.{Pass}
use Rattle.arc_commands.specs.Changes.{Setting}
use Rattle.arc_commands.specs.Commands.{ListCmd, ListReply}
use Rattle.arc_slots.specs.Answers.{Answers}
use Rattle.arc_slots.specs.Slots.{SlotView}

module _ {T M : Type 0} {setting : Setting T} {windows : ℕ} {c : ListCmd T M} {s : SlotView T M}
    {before : List (Pass Whole)} {r : ListReply T M} {made : Option (SlotView T M)}
    {after : List (Pass Whole)} where
  -- the window that is left is the one that was there
  pub window-same : {there : SlotView T M} → there ≡ s
      → Answers setting windows c s before r (Some s) made after
      → Answers setting windows c s before r (Some there) made after
  window-same is = subst (λ x. Answers setting windows c s before r (Some x) made after) (sym is)

  module _ {new : Option (SlotView T M)} where
    pub before-same : {first : List (Pass Whole)} → before ≡ first
        → Answers setting windows c s before r new made after
        → Answers setting windows c s first r new made after
    before-same is = subst (λ ps. Answers setting windows c s ps r new made after) is

    pub reply-same : {told : ListReply T M} → told ≡ r
        → Answers setting windows c s before r new made after
        → Answers setting windows c s before told new made after
    reply-same is = subst (λ q. Answers setting windows c s before q new made after) (sym is)

    pub after-same : {last : List (Pass Whole)} → last ≡ after
        → Answers setting windows c s before r new made after
        → Answers setting windows c s before r new made last
    after-same is = subst (λ ps. Answers setting windows c s before r new made ps) (sym is)
