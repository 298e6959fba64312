-- A function of one type, a mark, at that type: its layouts, its code, and the right of an owner
-- under the mark. Assumes nothing.
use Rattle.std.proofs.Common.{[], ◌∷◌}
use mir.Syntax.{Args, Fn, a_type}
use mir.MapTy.{inst_fn}
use denote.Param.{param, layouts}
use denote.RattleType.{RattleType}
use Rattle.arc_owners.specs.contracts.count.word.OwnerToken as OwnerToken

abbrev pub layouts_at : RattleType → Args
layouts_at T = layouts (a_type ∷ []) (T, tt)

abbrev pub code_at : RattleType → Fn → Fn
code_at T f = inst_fn (layouts_at T) f

abbrev pub Right : RattleType → RattleType
Right T = OwnerToken.the_row (param 0 T)
