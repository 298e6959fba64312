-- What each command adds to the histories of the blocks, and where the windows stand after it.
use Rattle.std.specs.Prelude.{◌≡◌, ℕ, ◌==◌, Bool, true, false, if◌then◌else◌, List, [], ◌∷◌, ◌++◌}
use Rattle.std.specs.Prelude.{length, Option, Some, None, slice_get, slice_set, MatchOption}
use Rattle.std.specs.Prelude.{◌&&◌, is_some}
use Rattle.std.specs.Option.{option_flatten}
use Rattle.arc_owners.specs.history.Histories.{Counted}
use Rattle.arc_owners.specs.declared.count.tokens.Pass.{Pass}
use Rattle.arc_owners.specs.declared.history.entry.Entry.{Entry}
use Rattle.arc_owners.specs.declared.history.entry.Entry.TheVariants as entry
use Rattle.arc_owners.specs.history.Histories.{is_counted, owners_ever}
use Rattle.arc_owners.specs.count.Calls.{Owner, IsPassFor, IsFirst, IsFreshPass, Appends}
use Rattle.arc_owners.specs.count.Calls.{history_of, seen}
use Rattle.arc_owners.specs.declared.error.OwnerError.{OwnerError}
use Rattle.arc_owners.specs.declared.error.OwnerError.TheVariants.{AllocError, CountFull}
use Rattle.arc_owners.specs.declared.error.TryReserveError.{TryReserveError}
use Rattle.arc_owners.specs.declared.error.TryReserveError.TheVariants as reserve
use Rattle.arc_block.specs.declared.block.TheConstants.{MAX_OWNERS}
use Rattle.arc_block.specs.Block.{Sort, native, vector, buffer, raw}
use Rattle.arc_block.specs.Owned.{Stand}
use Rattle.arc_block.specs.Place.{Place, nowhere, static_data, on_block}
use Rattle.arc_parts.specs.Shared.{asks_alone, is_on_block, is_vector_at}
use Rattle.arc_block.specs.Table.{Row, Table, row_at}
use Rattle.arc_commands.specs.Blocks.{is_several, is_sole}
use Rattle.arc_commands.specs.Changes.{Setting, is_box_whole, is_buffer_whole, is_raw_whole}
use Rattle.arc_commands.specs.Changes.{is_vector_part, is_writable_at}
use Rattle.arc_commands.specs.Step.{other_of, window_of}
use Rattle.arc_commands.specs.Commands.{ListCmd, ListReply}
use Rattle.arc_commands.specs.declared.command.Cmd.TheVariants.{Clone, Sub, Off, To, Uniq}
use Rattle.arc_commands.specs.declared.command.Cmd.TheVariants.{Drop, Static, TakeStatic, Take}
use Rattle.arc_commands.specs.declared.command.Cmd.TheVariants.{TakeBox, TakeBuf, TakeRaw}
use Rattle.arc_commands.specs.declared.command.Cmd.TheVariants.{Mut, Res, Push, Ext, Rec}
use Rattle.arc_commands.specs.declared.command.Cmd.TheVariants.{Freeze, Unique}
use Rattle.arc_commands.specs.declared.command.Reply.TheVariants as reply

-- whether one of several writers asks first whether he is alone, for room for so many items more
abbrev pub asks_first : {T M : Type 0} → Row T M → (additional : ℕ) → Bool
asks_first row additional = is_several row.role && asks_alone row additional

-- where the windows of a table stand, and the passes of the blocks by their numbers
pub record Standing (H : Type 0) : Type 0 where
  pub stands : List Stand
  pub passes : List (Pass H)

-- The entries of an owner, by the history before them: of one that makes another with this number,
-- that asks whether it is alone, that is refused one owner more. On a word that has no count yet
-- one owner more is a promotion, and asking adds nothing.
abbrev pub raised : ℕ → Owner → List Entry → List Entry
raised made o history = (if is_counted o.block.began history then entry.Up o.number made else
    entry.Promote o.number made) ∷ []

abbrev pub asked : Bool → Owner → List Entry → List Entry
asked alone o history =
    if is_counted o.block.began history then entry.Alone o.number alone ∷ [] else []

abbrev pub refused : OwnerError → Owner → List Entry → List Entry
refused CountFull o history = entry.Full o.number ∷ []
refused AllocError o history = []

-- of one that ends
abbrev pub ended : Owner → List Entry → List Entry
ended o history = entry.Down o.number ∷ []

-- a stand more, if there is one
abbrev pub with_stand : List Stand → Option Stand → List Stand
with_stand stands None = stands
with_stand stands (Some stand) = stands ++ stand ∷ []

-- What a command on a window does: from where it stood, and the passes of the blocks, to where it
-- stands then, where a window stands that was made, if one was, and the passes then.
abbrev pub Effect : Type 0 → Type 1
Effect H = (here there : Stand) → (made : Option Stand) → (old new : List (Pass H)) → Type 0

module _ {H : Type 0} where
  -- An owner of the block with this number added entries to the block's history, and nothing came
  -- before them that the block's one pass hadn't seen. The other passes stay.
  pub record AddsTo (number : ℕ) (o : Owner) (entries : Owner → List Entry → List Entry)
      (old new : List (Pass H)) : Type 0 where
    pub before : Pass H
    pub after : Pass H
    pub was : slice_get old number ≡ Some before
    pub pass : IsPassFor o before
    pub added : Appends o.block before after (history_of before) (entries o (seen before))
    pub others : new ≡ slice_set old number after

  -- a window that stands here added entries; where it stands on nothing, there are none
  abbrev pub AddsAt : Stand → (Owner → List Entry → List Entry) → List (Pass H) → List (Pass H)
      → Type 0
  AddsAt None entries old new = new ≡ old
  AddsAt (Some (number, o)) entries old new = AddsTo number o entries old new

  -- Beside a window that stands here one was made that stands there: on the same block, as the next
  -- owner, or on nothing.
  abbrev pub Raises : Stand → Stand → List (Pass H) → List (Pass H) → Type 0
  Raises here None old new = new ≡ old
  Raises None (Some made) old new = ⊥
  Raises (Some (number, o)) (Some made) old new = (made.0 ≡ number)
      × (a : AddsTo number o (raised made.1.number) old new)
      × (made.1 ≡ record {
        block = o.block;
        number = length (owners_ever (seen a.before));
        born = history_of a.after;
      })

  -- a window was made of a list: on nothing, or as the first owner of a new block, whose pass is a
  -- fresh one
  abbrev pub Founds : Stand → List (Pass H) → List (Pass H) → Type 0
  Founds None old new = new ≡ old
  Founds (Some (number, owner)) old new =
      (number ≡ length old) × IsFirst MAX_OWNERS true Counted owner
      × (p : Pass H) × IsFreshPass owner p × (new ≡ old ++ p ∷ [])

  -- The window stands where it stood. Where that was on nothing it may be the first owner of a new
  -- block, whose pass is a fresh one.
  abbrev pub MayBegin : (here there : Stand) → List (Pass H) → List (Pass H) → Type 0
  MayBegin None there old new = Founds there old new
  MayBegin (Some here) there old new = (there ≡ Some here) × (new ≡ old)

  -- ---- what a command on a window does

  -- nothing was added
  abbrev pub AddsNone : Effect H
  AddsNone here there made old new = (there ≡ here) × (made ≡ None) × (new ≡ old)

  -- the window added entries, and stands where it stood
  abbrev pub Enters : (Owner → List Entry → List Entry) → Effect H
  Enters entries here there made old new =
      (there ≡ here) × (made ≡ None) × AddsAt here entries old new

  -- it stands where it stood, or on a new block
  abbrev pub Stays : Effect H
  Stays here there made old new = MayBegin here there old new × (made ≡ None)

  -- the window has gone, and added entries
  abbrev pub Goes : (Owner → List Entry → List Entry) → Effect H
  Goes entries here there made old new =
      (there ≡ None) × (made ≡ None) × AddsAt here entries old new

  -- the window has gone, which stood on nothing
  abbrev pub GoesFromNothing : Effect H
  GoesFromNothing here there made old new =
      (here ≡ None) × (there ≡ None) × (made ≡ None) × (new ≡ old)

  -- ---- windows that are handed out

  -- Another window was made beside it, and handed out. The window stands where it stood.
  pub record GivesOther (here there : Stand) (made : Option Stand) (old new : List (Pass H))
      : Type 0 where
    pub other : Stand
    pub raises : Raises here other old new
    pub stays : there ≡ here
    pub handed_out : made ≡ Some other

  -- The window itself was handed out. Another was made beside it, and stands under its number.
  pub record GivesItself (here there : Stand) (made : Option Stand) (old new : List (Pass H))
      : Type 0 where
    pub raises : Raises here there old new
    pub handed_out : made ≡ Some here

  -- The window ended as an owner of a vector, and is the first owner of a new block. There another
  -- window was made beside it, and handed out.
  pub record MovesAndGives (here there : Stand) (made : Option Stand) (old new : List (Pass H))
      : Type 0 where
    pub between : List (Pass H)
    pub begun_with : List (Pass H)
    pub other : Stand
    pub left : AddsAt here ended old between
    pub stands : is_some there ≡ true
    pub begins : Founds there between begun_with
    pub raises : Raises there other begun_with new
    pub joins : is_some other ≡ true
    pub handed_out : made ≡ Some other

  -- A window was split. One that is read gives another, or at an end itself. One of several writers
  -- gives another; from a vector it moves first.
  abbrev pub Splits : (several on_vector at_end : Bool) → Effect H
  Splits false on_vector false = GivesOther
  Splits false on_vector true = GivesItself
  Splits true false at_end = GivesOther
  Splits true true at_end = MovesAndGives

  -- ---- questions to the count

  -- the window asked whether it is alone, with either answer
  abbrev pub AsksEither : Effect H
  AsksEither here there made old new =
      (alone : Bool) × Enters (asked alone) here there made old new

  -- where only the count decides, it was asked, and said no; else nothing was added
  abbrev pub AsksIf : (decides : Bool) → Effect H
  AsksIf true = Enters (asked false)
  AsksIf false = AddsNone

  -- where the count is asked first, it said that the window is alone, or that it isn't
  abbrev pub AsksFirst : (asks alone : Bool) → Effect H
  AsksFirst true alone = Enters (asked alone)
  AsksFirst false alone = AddsNone

  -- the same, with either answer
  abbrev pub AsksFirstEither : (asks : Bool) → Effect H
  AsksFirstEither asks here there made old new =
      (alone : Bool) × AsksFirst asks alone here there made old new

  -- Whether no other owner has a part of a block of this sort, and somebody may have: the count
  -- was asked, which said no. A caller's buffer may say no though the owner is alone, and of an
  -- `Arc` nobody was asked.
  abbrev pub AsksInVain : Sort → Effect H
  AsksInVain native = Enters (asked false)
  AsksInVain vector = Enters (asked false)
  AsksInVain (buffer writable) = AsksEither
  AsksInVain raw = AddsNone

  abbrev pub AsksInVainAt : {N M : Type 0} → Place N M → Effect H
  AsksInVainAt nowhere = AddsNone
  AsksInVainAt static_data = AddsNone
  AsksInVainAt (on_block block offset info) = AsksInVain info.sort

  -- the window asked whether it is alone, and was, and has gone
  abbrev pub Takes : Effect H
  Takes here there made old new = (there ≡ None) × (made ≡ None) × (between : List (Pass H))
      × AddsAt here (asked true) old between × AddsAt here ended between new

  -- a reader asked so, and a sole writer, who is alone, only ended
  abbrev pub TakesAs : (sole : Bool) → Effect H
  TakesAs true = Goes ended
  TakesAs false = Takes

  -- ---- room

  -- room was made
  abbrev pub HasMade : (asks : Bool) → Effect H
  HasMade true = Enters (asked true)
  HasMade false = Stays

  -- None was made: beside another owner, as the count said, or after it said that there is none.
  abbrev pub HasRefused : (asks : Bool) → TryReserveError → Effect H
  HasRefused asks reserve.NotUnique = AsksFirst asks false
  HasRefused asks reserve.AllocError = AsksFirst asks true
  HasRefused asks reserve.Unsupported = AsksFirst asks true
  HasRefused asks reserve.CapacityOverflow = AsksFirst asks true

  -- ---- each command and reply

  -- What a command on such a row does, by what it is answered.
  abbrev pub RowAdds : {T M : Type 0} → Setting T → Row T M → ListCmd T M → ListReply T M
      → Effect H
  RowAdds setting row (Clone i) (reply.New number) = GivesOther
  RowAdds setting row (Sub i start end) (reply.New number) = GivesOther
  RowAdds setting row (Off i at) (reply.New number) =
      Splits (is_several row.role) (is_vector_at row.place) (at == 0)
  RowAdds setting row (To i at) (reply.New number) =
      Splits (is_several row.role) (is_vector_at row.place) (at == length row.items)
  RowAdds setting row (Clone i) (reply.Owner e) = Enters (refused e)
  RowAdds setting row (Sub i start end) (reply.Owner e) = Enters (refused e)
  RowAdds setting row (Off i at) (reply.Owner e) = Enters (refused e)
  RowAdds setting row (To i at) (reply.Owner e) = Enters (refused e)
  RowAdds setting row (Uniq i) reply.Yes = Enters (asked true)
  RowAdds setting row (Uniq i) reply.No = AsksInVainAt row.place
  RowAdds setting row (Mut i) reply.Ok = Enters (asked true)
  RowAdds setting row (Mut i) reply.Refused =
      AsksIf (is_writable_at setting.writes_any row.place)
  RowAdds setting row (Unique i) reply.Ok = Enters (asked true)
  RowAdds setting row (Unique i) reply.Refused = AsksIf (is_on_block row.place)
  RowAdds setting row (Res i additional) reply.Ok = HasMade (asks_first row additional)
  RowAdds setting row (Push i item) reply.Ok = HasMade (asks_first row 1)
  RowAdds setting row (Ext i items) reply.Ok = HasMade (asks_first row (length items))
  RowAdds setting row (Res i additional) (reply.Reserve e) =
      HasRefused (asks_first row additional) e
  RowAdds setting row (Push i item) (reply.Reserve e) = HasRefused (asks_first row 1) e
  RowAdds setting row (Ext i items) (reply.Reserve e) =
      HasRefused (asks_first row (length items)) e
  RowAdds setting row (Rec i additional) reply.Yes = AsksFirst (asks_first row additional) true
  RowAdds setting row (Rec i additional) reply.No = AsksFirstEither (asks_first row additional)
  RowAdds setting row (Freeze i) reply.Ok = Stays
  RowAdds setting row (Drop i) reply.Ok = Goes ended
  RowAdds setting row (Take i) (reply.Vec items) = TakesAs (is_sole row.role)
  RowAdds setting row (TakeBox i) (reply.Boxed items) = Takes
  RowAdds setting row (TakeBuf i) (reply.Buffer items) = TakesAs (is_sole row.role)
  RowAdds setting row (TakeRaw i) (reply.Raw items) = Takes
  RowAdds setting row (Take i) reply.Refused =
      AsksIf (is_vector_part setting.drops row.place (length row.items))
  RowAdds setting row (TakeBox i) reply.Refused =
      AsksIf (is_box_whole row.place (length row.items))
  RowAdds setting row (TakeBuf i) reply.Refused =
      AsksIf (is_buffer_whole row.place (length row.items))
  RowAdds setting row (TakeRaw i) reply.Refused =
      AsksIf (is_raw_whole row.place (length row.items))
  RowAdds setting row (TakeStatic i) (reply.Static items) = GoesFromNothing
  RowAdds setting row command reply = AddsNone

  -- what is added by a command that makes a window of what it brings: it stands on nothing, or as
  -- the first owner of a new block
  abbrev pub MakerAdds : {T M : Type 0} → ListCmd T M → ListReply T M
      → (made : Option Stand) → (old new : List (Pass H)) → Type 0
  MakerAdds (Static items) (reply.New number) made old new = (made ≡ Some None) × (new ≡ old)
  MakerAdds command (reply.New number) made old new = (stand : Stand) × (made ≡ Some stand)
      × Founds stand old new
  MakerAdds command reply made old new = (made ≡ None) × (new ≡ old)

  -- where the window with this number stands
  abbrev pub stand_in : Standing H → ℕ → Stand
  stand_in t i = option_flatten (slice_get t.stands i)

  -- what a command adds that is on the window with this number, or on none
  abbrev pub AddsBy : {T M : Type 0} → Setting T → Table T M → Standing H → ListCmd T M
      → ListReply T M → Standing H → Option ℕ → Type 0
  AddsBy setting t old c reply new None = (made : Option Stand)
      × MakerAdds c reply made old.passes new.passes × (new.stands ≡ with_stand old.stands made)
  AddsBy setting t old c reply new (Some i) = MatchOption (row_at t i) (new ≡ old) (λ row.
      (there : Stand) × (made : Option Stand)
      × RowAdds setting row c reply (stand_in old i) there made old.passes new.passes
      × (new.stands ≡ with_stand (slice_set old.stands i there) made))

  -- what is added by a join of two windows, of which this is the other: it has ended
  abbrev pub JoinAdds : {T M : Type 0} → Standing H → ListReply T M → Standing H → (other : ℕ)
      → Type 0
  JoinAdds old reply.Ok new j = AddsAt (stand_in old j) ended old.passes new.passes
      × (new.stands ≡ slice_set old.stands j None)
  JoinAdds old reply new j = new ≡ old

  -- what a command adds that is on the first window, or on none, or on both
  abbrev pub AddsOn : {T M : Type 0} → Setting T → Table T M → Standing H → ListCmd T M
      → ListReply T M → Standing H → (window other : Option ℕ) → Type 0
  AddsOn setting t old c reply new window None = AddsBy setting t old c reply new window
  AddsOn setting t old c reply new window (Some j) = JoinAdds old reply new j

  -- what a command adds, by what it is answered
  abbrev pub Adds : {T M : Type 0} → Setting T → Table T M → Standing H → ListCmd T M
      → ListReply T M → Standing H → Type 0
  Adds setting t old c reply new = AddsOn setting t old c reply new (window_of c) (other_of c)
