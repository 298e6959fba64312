-- The place more has the window, under the next number.
use Rattle.std.proofs.Common.{◌∙◌}
use Rattle.arc_slots.proofs.Index.{HasMore, put-on}
use Rattle.arc_slots.proofs.list.Slots.put_behind.Given.{Over}
use Rattle.arc_slots.proofs.list.Slots.put_behind.Goals.{After-push_reserved-3}
use Rattle.arc_slots.proofs.list.Slots.put_behind.Goals as goal

did : (g : Over) (c : After-push_reserved-3 g)
    → HasMore c.args.self.now.index.items c.args.self.now.numbers.items
    c.args.self.now.places.items c.args.window c.push_reserved.new.self.items
    c.push_reserved-2.new.self.items c.push_reserved-3.new.self.items
did g c =
    put-on c.args.self.now.index.items c.args.self.now.numbers.items
    c.args.self.now.places.items c.args.window c.requires.indexed c.push_reserved.new.self.items
    c.push_reserved-2.new.self.items c.push_reserved-3.new.self.items c.len.result
    c.len-number.result (c.len.ensures ∙ c.args.self.now.places.ok.0)
    (c.len-number.ensures ∙ c.args.self.now.index.ok.0) c.push_reserved.ensures.items
    c.push_reserved-2.ensures.items c.push_reserved-3.ensures.items

pub returns-clause-windows : goal.returns-clause-windows
returns-clause-windows g c =
    (did g (goal.at.returns-clause-windows g c).After-push_reserved-3).0

pub returns-clause-indexed : goal.returns-clause-indexed
returns-clause-indexed g c =
    (did g (goal.at.returns-clause-indexed g c).After-push_reserved-3).1
