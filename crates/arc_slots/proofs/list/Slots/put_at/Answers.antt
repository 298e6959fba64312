-- The place has the window, under the next number.
use Rattle.std.proofs.Common.{◌∙◌}
use Rattle.arc_slots.proofs.Index.{HasMore, put-in}
use Rattle.std.proofs.Common.{slice_set}
use Rattle.arc_slots.proofs.list.Slots.put_at.Given.{Over}
use Rattle.arc_slots.proofs.list.Slots.put_at.Goals.{After-set_slot}
use Rattle.arc_slots.proofs.list.Slots.put_at.Goals as goal

did : (g : Over) (c : After-set_slot g)
    → HasMore c.args.self.now.index.items c.args.self.now.numbers.items
    c.args.self.now.places.items c.args.window c.push_reserved.new.self.items
    (slice_set c.args.self.now.numbers.items c.args.place c.len-number.result)
    (slice_set c.args.self.now.places.items c.args.place c.set_slot.new.place)
did g c =
    put-in c.args.self.now.index.items c.args.self.now.numbers.items
    c.args.self.now.places.items c.args.window c.requires.indexed c.args.place c.requires.empty
    c.push_reserved.new.self.items c.len-number.result c.set_slot.new.place
    c.push_reserved.ensures.items (c.len-number.ensures ∙ c.args.self.now.index.ok.0)
    c.set_slot.ensures

pub returns-clause-windows : goal.returns-clause-windows
returns-clause-windows g c = (did g (goal.at.returns-clause-windows g c).After-set_slot).0

pub returns-clause-indexed : goal.returns-clause-indexed
returns-clause-indexed g c = (did g (goal.at.returns-clause-indexed g c).After-set_slot).1
