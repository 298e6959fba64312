use Rattle.std.proofs.Common.{rules, ◌++◌, ◌≤◌, length, ap, ◌∙◌}
use Rattle.arc_write.specs.Within.{spare_places}
use Rattle.arc_write.proofs.ReadParts.{all_written}
use Rattle.arc_write.proofs.adapters.io.WriteWindowPlainU8Write.write_all.Goals as goal

pub returns-clause-bytes : goal.returns-clause-bytes
returns-clause-bytes g c =
    let within : length c.args.bytes.now ≤ spare_places c.args.self.now = search rules in
    ap (λ s. s.items) c.write.ensures.window
    ∙ ap (λ xs. c.args.self.now.items ++ xs)
    (all_written c.args.self.now c.args.bytes.now within)
