-- What of a window is taken out, and the command to take it.
use Rattle.std.specs.Prelude.{ℕ, Bool, true, false, List}
use Rattle.arc_block.specs.Place.{Place}
use Rattle.arc_parts.specs.Window.{IsVecPart, IsBoxWhole, IsBufferWhole, IsRawWhole}
use Rattle.arc_commands.specs.Commands.{ListCmd, ListReply}
use Rattle.arc_commands.specs.Changes.{is_vector_part, is_box_whole, is_buffer_whole, is_raw_whole}
use Rattle.arc_commands.specs.declared.command.Cmd.TheVariants as command
use Rattle.arc_commands.specs.declared.command.Reply.TheVariants as reply
use Rattle.arc_slots.specs.declared.take.Taking.{Taking}
use Rattle.arc_slots.specs.declared.take.Taking.TheVariants as taking

module _ {T M : Type 0} where
  -- the command to take this out of the window with this number, and what it is answered
  abbrev pub take_command : ℕ → Taking → ListCmd T M
  take_command i taking.Vector = command.Take i
  take_command i taking.Boxed = command.TakeBox i
  take_command i taking.Buffer = command.TakeBuf i
  take_command i taking.Raw = command.TakeRaw i

  abbrev pub take_reply : Taking → List T → ListReply T M
  take_reply taking.Vector items = reply.Vec items
  take_reply taking.Boxed items = reply.Boxed items
  take_reply taking.Buffer items = reply.Buffer items
  take_reply taking.Raw items = reply.Raw items

-- whether it is for writers too
abbrev pub is_writers : Taking → Bool
is_writers taking.Vector = true
is_writers taking.Boxed = false
is_writers taking.Buffer = true
is_writers taking.Raw = false

-- whether so many items that stand here can be had so
abbrev pub can_have : {N M : Type 0} → (drops : Bool) → Taking → Place N M → (len : ℕ) → Bool
can_have drops taking.Vector place len = is_vector_part drops place len
can_have drops taking.Boxed place len = is_box_whole place len
can_have drops taking.Buffer place len = is_buffer_whole place len
can_have drops taking.Raw place len = is_raw_whole place len

-- these items can
abbrev pub CanHave : {N T M : Type 0} → (drops : Bool) → Taking → List T → Place N M → Type 0
CanHave drops taking.Vector items place = IsVecPart drops items place
CanHave drops taking.Boxed items place = IsBoxWhole items place
CanHave drops taking.Buffer items place = IsBufferWhole items place
CanHave drops taking.Raw items place = IsRawWhole items place
