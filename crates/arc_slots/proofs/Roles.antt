-- The roles of a slot's windows.
use Rattle.std.proofs.Common.{◌≡◌, ℕ, true}
use Rattle.std.proofs.lemmas.Bool.{false≢true}
use Rattle.arc_block.specs.Table.{Role, reader, sole_writer, one_writer_of_several, inline}
use Rattle.arc_block.specs.Table.{forgotten}
use Rattle.arc_commands.specs.Blocks.{is_writer}

-- what holds of each writer's role holds of a role that is one
pub writer_each : (P : Role → Type 0) → ((places : ℕ) → P (sole_writer places))
    → ((places : ℕ) → P (one_writer_of_several places)) → (role : Role) → is_writer role ≡ true
    → P role
writer_each P writes beside reader is = absurd (false≢true is)
writer_each P writes beside (sole_writer places) is = writes places
writer_each P writes beside (one_writer_of_several places) is = beside places
writer_each P writes beside inline is = absurd (false≢true is)
writer_each P writes beside forgotten is = absurd (false≢true is)
