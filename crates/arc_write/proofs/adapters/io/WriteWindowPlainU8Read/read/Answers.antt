use Rattle.std.proofs.Common.{◌≡◌, rules, arith, length, ap, ◌∙◌}
use Rattle.std.proofs.lemmas.Grind.{common_steps}
use Rattle.std.specs.Prelude.{min}
use Rattle.arc_parts.specs.Writers.{after_advance}
use Rattle.arc_write.proofs.ReadParts.{read_bytes}
use Rattle.arc_write.proofs.adapters.io.WriteWindowPlainU8Read.read.Goals as goal

pub returns-clause-bytes : goal.returns-clause-bytes
returns-clause-bytes g c =
    read_bytes c.args.self.now.items c.args.buffer.now c.copy_from_slice.new.self _
    c.min-count.result (search rules) (search rules) (ap (λ s. s.items) c.advance.ensures)

pub slice_bounds-copy_from_slice-end-2 : goal.slice_bounds-copy_from_slice-end-2
slice_bounds-copy_from_slice-end-2 g c = grind (arith, common_steps) steps 20000000

pub slice_bounds-copy_from_slice-end-3 : goal.slice_bounds-copy_from_slice-end-3
slice_bounds-copy_from_slice-end-3 g c = grind (arith, common_steps) steps 20000000

pub copy_from_slice-requires : goal.copy_from_slice-requires
copy_from_slice-requires g c = grind (arith, common_steps) steps 20000000

pub returns-clause-bound : goal.returns-clause-bound
returns-clause-bound g c = grind (arith, common_steps) steps 20000000
