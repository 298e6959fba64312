-- What a command on a row adds to the histories is of a few sorts: what follows of each of them
-- follows of it.
use Rattle.std.proofs.Common.{◌==◌, Bool, true, false, List, length, Option}
use Rattle.std.proofs.Common.{sym, ◌∙◌}
use Rattle.arc_owners.specs.declared.error.OwnerError.{OwnerError}
use Rattle.arc_owners.specs.declared.error.TryReserveError.{TryReserveError}
use Rattle.arc_owners.specs.declared.error.TryReserveError.TheVariants as reserve
use Rattle.arc_owners.specs.declared.count.tokens.Pass.{Pass}
use Rattle.arc_block.specs.Block.{Sort, native, vector, buffer, raw}
use Rattle.arc_block.specs.Owned.{Stand}
use Rattle.arc_block.specs.Place.{Place, nowhere, static_data, on_block}
use Rattle.arc_block.specs.Table.{Row}
use Rattle.arc_parts.specs.Shared.{is_on_block, is_vector_at}
use Rattle.arc_commands.specs.Additions.{AddsNone, AsksFirst, AsksIf, AsksInVain, AsksInVainAt}
use Rattle.arc_commands.specs.Additions.{Enters, GivesItself, GivesOther, Goes, HasMade, HasRefused}
use Rattle.arc_commands.specs.Additions.{MovesAndGives, RowAdds, Splits, Stays, Takes, TakesAs}
use Rattle.arc_commands.specs.Additions.{asked, asks_first, ended, refused}
use Rattle.arc_commands.specs.Blocks.{is_several, is_sole}
use Rattle.arc_commands.specs.Changes.{Setting, is_box_whole, is_buffer_whole, is_raw_whole}
use Rattle.arc_commands.specs.Changes.{is_vector_part, is_writable_at}
use Rattle.arc_commands.specs.Commands.{ListCmd, ListReply}
use Rattle.arc_commands.specs.declared.command.Cmd.TheVariants as command
use Rattle.arc_commands.specs.declared.command.Reply.TheVariants as reply

-- P follows of each
pub record AddsEach {H : Type 0} (here there : Stand) (made : Option Stand)
    (old new : List (Pass H)) (P : Type 0) : Type 0 where
  pub other : GivesOther here there made old new → P
  pub itself : GivesItself here there made old new → P
  pub moves : MovesAndGives here there made old new → P
  pub asks : (alone : Bool) → Enters (asked alone) here there made old new → P
  pub refuses : (e : OwnerError) → Enters (refused e) here there made old new → P
  pub stays : Stays here there made old new → P
  pub goes : Goes ended here there made old new → P
  pub takes : Takes here there made old new → P
  pub none : AddsNone here there made old new → P

module _ {H : Type 0} {here there : Stand} {made : Option Stand} {old new : List (Pass H)}
    {P : Type 0} (each : AddsEach here there made old new P) where
  takes_as_each : (sole : Bool) → TakesAs sole here there made old new → P
  takes_as_each true adds = each.goes adds
  takes_as_each false adds = each.takes adds

  splits_each : (several on_vector at_end : Bool)
      → Splits several on_vector at_end here there made old new → P
  splits_each false on_vector false adds = each.other adds
  splits_each false on_vector true adds = each.itself adds
  splits_each true false at_end adds = each.other adds
  splits_each true true at_end adds = each.moves adds

  first_each : (asks alone : Bool) → AsksFirst asks alone here there made old new → P
  first_each true alone adds = each.asks alone adds
  first_each false alone adds = each.none adds

  made_room_each : (asks : Bool) → HasMade asks here there made old new → P
  made_room_each true adds = each.asks true adds
  made_room_each false adds = each.stays adds

  no_room_each : (asks : Bool) (e : TryReserveError) → HasRefused asks e here there made old new
      → P
  no_room_each asks reserve.NotUnique adds = first_each asks false adds
  no_room_each asks reserve.AllocError adds = first_each asks true adds
  no_room_each asks reserve.Unsupported adds = first_each asks true adds
  no_room_each asks reserve.CapacityOverflow adds = first_each asks true adds

  asks_each : (asks : Bool) → AsksIf asks here there made old new → P
  asks_each true adds = each.asks false adds
  asks_each false adds = each.none adds

  vain_each : (sort : Sort) → AsksInVain sort here there made old new → P
  vain_each native adds = each.asks false adds
  vain_each vector adds = each.asks false adds
  vain_each (buffer writable) adds = each.asks adds.0 adds.1
  vain_each raw adds = each.none adds

  in_vain_each : {N M : Type 0} (place : Place N M) → AsksInVainAt place here there made old new
      → P
  in_vain_each nowhere adds = each.none adds
  in_vain_each static_data adds = each.none adds
  in_vain_each (on_block block offset info) adds = vain_each info.sort adds

  pub row_adds_each : {T M : Type 0} (setting : Setting T) (row : Row T M) (c : ListCmd T M)
      (r : ListReply T M) → RowAdds setting row c r here there made old new → P
  row_adds_each setting row (command.Clone i) (reply.New number) adds = each.other adds
  row_adds_each setting row (command.Sub i start end) (reply.New number) adds = each.other adds
  row_adds_each setting row (command.Off i at) (reply.New number) adds =
      splits_each (is_several row.role) (is_vector_at row.place) (at == 0) adds
  row_adds_each setting row (command.To i at) (reply.New number) adds =
      splits_each (is_several row.role) (is_vector_at row.place) (at == length row.items) adds
  row_adds_each setting row (command.Clone i) (reply.Owner e) adds = each.refuses e adds
  row_adds_each setting row (command.Sub i start end) (reply.Owner e) adds = each.refuses e adds
  row_adds_each setting row (command.Off i at) (reply.Owner e) adds = each.refuses e adds
  row_adds_each setting row (command.To i at) (reply.Owner e) adds = each.refuses e adds
  row_adds_each setting row (command.Uniq i) reply.Yes adds = each.asks true adds
  row_adds_each setting row (command.Uniq i) reply.No adds = in_vain_each row.place adds
  row_adds_each setting row (command.Mut i) reply.Ok adds = each.asks true adds
  row_adds_each setting row (command.Mut i) reply.Refused adds =
      asks_each (is_writable_at setting.writes_any row.place) adds
  row_adds_each setting row (command.Unique i) reply.Ok adds = each.asks true adds
  row_adds_each setting row (command.Unique i) reply.Refused adds =
      asks_each (is_on_block row.place) adds
  row_adds_each setting row (command.Res i additional) reply.Ok adds =
      made_room_each (asks_first row additional) adds
  row_adds_each setting row (command.Push i item) reply.Ok adds =
      made_room_each (asks_first row 1) adds
  row_adds_each setting row (command.Ext i items) reply.Ok adds =
      made_room_each (asks_first row (length items)) adds
  row_adds_each setting row (command.Res i additional) (reply.Reserve e) adds =
      no_room_each (asks_first row additional) e adds
  row_adds_each setting row (command.Push i item) (reply.Reserve e) adds =
      no_room_each (asks_first row 1) e adds
  row_adds_each setting row (command.Ext i items) (reply.Reserve e) adds =
      no_room_each (asks_first row (length items)) e adds
  row_adds_each setting row (command.Rec i additional) reply.Yes adds =
      first_each (asks_first row additional) true adds
  row_adds_each setting row (command.Rec i additional) reply.No adds =
      first_each (asks_first row additional) adds.0 adds.1
  row_adds_each setting row (command.Freeze i) reply.Ok adds = each.stays adds
  row_adds_each setting row (command.Drop i) reply.Ok adds = each.goes adds
  row_adds_each setting row (command.Take i) (reply.Vec items) adds =
      takes_as_each (is_sole row.role) adds
  row_adds_each setting row (command.TakeBuf i) (reply.Buffer items) adds =
      takes_as_each (is_sole row.role) adds
  row_adds_each setting row (command.TakeRaw i) (reply.Raw items) adds = each.takes adds
  row_adds_each setting row (command.TakeBox i) (reply.Boxed items) adds = each.takes adds
  row_adds_each setting row (command.Take i) reply.Refused adds =
      asks_each (is_vector_part setting.drops row.place (length row.items)) adds
  row_adds_each setting row (command.TakeBox i) reply.Refused adds =
      asks_each (is_box_whole row.place (length row.items)) adds
  row_adds_each setting row (command.TakeBuf i) reply.Refused adds =
      asks_each (is_buffer_whole row.place (length row.items)) adds
  row_adds_each setting row (command.TakeRaw i) reply.Refused adds =
      asks_each (is_raw_whole row.place (length row.items)) adds
  row_adds_each setting row (command.TakeStatic i) (reply.Static items) adds =
      each.none (adds.1 ∙ sym adds.0, adds.2, adds.3)
  row_adds_each setting row c r adds = each.none adds
