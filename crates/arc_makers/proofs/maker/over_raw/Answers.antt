use Rattle.std.proofs.Common.{Some, None, ◌&&◌, ◌≡◌, if◌then◌else◌, List, length, refl, sym}
use Rattle.std.proofs.Common.{ap, ◌∙◌, subst, arith}
use Rattle.std.specs.Prelude.{MatchOption}
use Rattle.arc_owners.specs.declared.mark.Whole.{Whole}
use Rattle.arc_owners.specs.declared.count.tokens.Pass.{Pass}
use Rattle.arc_block.specs.Table.{Row}
use Rattle.arc_commands.specs.Additions.{Founds}
use Rattle.arc_commands.specs.Changes.{raw_row}
use Rattle.arc_commands.specs.declared.command.Reply.TheVariants as reply
use Rattle.arc_commands.specs.Commands.{ListReply}
use Rattle.arc_slots.specs.Slots.{stand_of}
use Rattle.arc_makers.proofs.maker.over_raw.Given.{Over}
use Rattle.arc_makers.proofs.maker.over_raw.Goals as goal

abbrev row_on : (g : Over) → (given : List g.row.S-Item.Denot) → List (Pass Whole)
    → Row g.row.S-Item.Denot g.row.M.Denot
row_on g given ps = raw_row g.L.Layout.RAW (length ps) given

pub returns-in-Ok-raw_reader-clause-made : goal.returns-in-Ok-raw_reader-clause-made
returns-in-Ok-raw_reader-clause-made g c =
    let slot = c.in-Ok-raw_reader.slot in
    let passes = c.args.passes.now.of_blocks.items in
    let list = g.B.Buffer.list in
    let may =
    ap (λ b. b && g.L.Layout.ANY) (sym c.any_list.ensures ∙ c.if-not-any_list.false)
    ∙ sym c.ANY.ensures ∙ c.if-not-ANY.false in
    record {
      places = length (list c.args.given);
      enough = omega arith;
      said = (
        ap (λ b. if b then Some (row_on g (list c.args.given) passes) else None) may
            ∙ ap Some (sym (c.in-Ok-raw_reader.ensures.row
            ∙ ap (λ b. row_on g (list b) c.reserve_for.new.self.of_blocks.items) c.in-Ok.ensures.ok
            ∙ ap (row_on g (list c.args.given)) c.reserve_for.ensures.items)),
        refl,
        subst (λ ps. Founds (stand_of (Some slot)) ps c.raw_reader.new.passes.of_blocks.items)
            c.reserve_for.ensures.items c.in-Ok-raw_reader.ensures.stand,
      );
    }

pub returns-in-Err-clause-made : goal.returns-in-Err-clause-made
returns-in-Err-clause-made g c =
    let passes = c.args.passes.now.of_blocks.items in
    let row = row_on g (g.B.Buffer.list c.args.given) passes in
    let alloc : ListReply g.row.S-Item.Denot g.row.M.Denot = reply.Alloc in
    let may =
    ap (λ b. b && g.L.Layout.ANY) (sym c.any_list.ensures ∙ c.if-not-any_list.false)
    ∙ sym c.ANY.ensures ∙ c.if-not-ANY.false in
    record {
      places = length (g.B.Buffer.list c.args.given);
      enough = omega arith;
      said = (
        c.in-Err.ensures.refused ∙ c.reserve_for.ensures.items,
        subst (λ b. MatchOption (if b then Some row else None) (alloc ≡ reply.Kind)
            (λ r. alloc ≡ reply.Alloc)) (sym may) refl,
      );
    }
