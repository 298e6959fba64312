-- Commands and replies whose items lie in vectors, boxes and buffers, as lists.
use Rattle.std.specs.Prelude.{List}
use Rattle.std.specs.Arc.{arc_value}
use Rattle.std.specs.declared.sync.Arc.{Arc}
use Rattle.std.specs.declared.vec.Vec.{Vec}
use Rattle.std.specs.Vec.{vec_items}
use Rattle.arc_commands.specs.Commands.{ListCmd, ListReply}
use Rattle.arc_commands.specs.declared.command.Cmd.{Cmd}
use Rattle.arc_commands.specs.declared.command.Cmd.TheVariants as command
use Rattle.arc_commands.specs.declared.command.Reply.{Reply}
use Rattle.arc_commands.specs.declared.command.Reply.TheVariants as reply

-- A command as one over lists: f of each of its item lists, g of a static slice, and h of a buffer
abbrev pub map_command : {C X F B M T : Type 0} → (X → List T) → (F → List T) → (B → List T)
    → Cmd C X F B M T → ListCmd T M
map_command f g h (command.Slice items) = command.Slice (f items)
map_command f g h (command.Small items) = command.Small (f items)
map_command f g h (command.Vec items) = command.Vec (f items)
map_command f g h (command.Static items) = command.Static (g items)
map_command f g h (command.Raw buffer) = command.Raw (h buffer)
map_command f g h (command.Buf buffer metadata) = command.Buf (h buffer) metadata
map_command f g h (command.MBuf buffer metadata) = command.MBuf (h buffer) metadata
map_command f g h command.New = command.New
map_command f g h (command.Cap places) = command.Cap places
map_command f g h (command.Zero count) = command.Zero count
map_command f g h (command.MSlice items) = command.MSlice (f items)
map_command f g h (command.Clone i) = command.Clone i
map_command f g h (command.Sub i start end) = command.Sub i start end
map_command f g h (command.Uniq i) = command.Uniq i
map_command f g h (command.Meta i) = command.Meta i
map_command f g h (command.Show i) = command.Show i
map_command f g h (command.Off i at) = command.Off i at
map_command f g h (command.To i at) = command.To i at
map_command f g h (command.Len i) = command.Len i
map_command f g h (command.Room i) = command.Room i
map_command f g h (command.Res i additional) = command.Res i additional
map_command f g h (command.Push i item) = command.Push i item
map_command f g h (command.Ext i items) = command.Ext i (f items)
map_command f g h (command.Rec i additional) = command.Rec i additional
map_command f g h (command.Freeze i) = command.Freeze i
map_command f g h (command.Mut i) = command.Mut i
map_command f g h (command.Share i) = command.Share i
map_command f g h (command.Unique i) = command.Unique i
map_command f g h (command.Join i j) = command.Join i j
map_command f g h (command.Adv i by) = command.Adv i by
map_command f g h (command.Trunc i len) = command.Trunc i len
map_command f g h (command.Drop i) = command.Drop i
map_command f g h (command.Take i) = command.Take i
map_command f g h (command.TakeBox i) = command.TakeBox i
map_command f g h (command.TakeBuf i) = command.TakeBuf i
map_command f g h (command.TakeRaw i) = command.TakeRaw i
map_command f g h (command.TakeStatic i) = command.TakeStatic i

-- how what a reply gives is seen as a list: items that are shown, a vector, a box, a buffer, and an
-- `Arc` of one
pub record Views (X V D B R T : Type 0) : Type 0 where
  pub shown : X → List T
  pub vector : V → List T
  pub boxed : D → List T
  pub buffer : B → List T
  pub raw : R → List T

-- a reply as one over lists
abbrev pub map_reply : {G X V D B R T M : Type 0} → Views X V D B R T
    → Reply G X V D B R (List T) M → ListReply T M
map_reply f (reply.New number) = reply.New number
map_reply f reply.Ok = reply.Ok
map_reply f reply.Yes = reply.Yes
map_reply f reply.No = reply.No
map_reply f (reply.Items items) = reply.Items (f.shown items)
map_reply f (reply.Vec items) = reply.Vec (f.vector items)
map_reply f (reply.Boxed items) = reply.Boxed (f.boxed items)
map_reply f (reply.Buffer buffer) = reply.Buffer (f.buffer buffer)
map_reply f (reply.Raw shared) = reply.Raw (f.raw shared)
map_reply f (reply.Static items) = reply.Static items
map_reply f (reply.Number n) = reply.Number n
map_reply f (reply.Meta metadata) = reply.Meta metadata
map_reply f reply.None = reply.None
map_reply f reply.NoWindow = reply.NoWindow
map_reply f reply.Kind = reply.Kind
map_reply f reply.Refused = reply.Refused
map_reply f (reply.Range e) = reply.Range e
map_reply f (reply.Owner e) = reply.Owner e
map_reply f (reply.Reserve e) = reply.Reserve e
map_reply f reply.Alloc = reply.Alloc

-- a command in memory, where a buffer has this list, and what it says
abbrev pub seen_command : {C T A B M : Type 0} → (B → List T) → Cmd C (Vec T A) (List T) B M T
    → ListCmd T M
seen_command list c = map_command vec_items (λ items. items) list c

-- What a table answers, where what is shown, a kind's vectors and boxes, and a buffer have these
-- lists.
abbrev pub seen_by : {G X V D B T A M : Type 0} → (X → List T) → (V → List T) → (D → List T)
    → (B → List T) → Reply G X V D B (Arc B A) (List T) M → ListReply T M
seen_by shown vector boxed list r = map_reply (record {
  shown = shown;
  vector = vector;
  boxed = boxed;
  buffer = list;
  raw = λ shared. list (arc_value shared);
}) r

-- where what is shown lies in a vector
abbrev pub seen_reply : {G V D B T A M : Type 0} → (V → List T) → (D → List T) → (B → List T)
    → Reply G (Vec T A) V D B (Arc B A) (List T) M → ListReply T M
seen_reply vector boxed list r = seen_by vec_items vector boxed list r
