-- Words that ask for no layout.
use Rattle.std.proofs.Common.{List, String}
use Rattle.std.specs.declared.alloc.Global.{Global}
use Rattle.arc_script.specs.Program.{AsksFor}
use Rattle.arc_script.specs.declared.layout.ScriptLayout.{ScriptLayout}
use Rattle.arc_script.specs.declared.layout.ScriptLayout.TheVariants as under

-- there are four layouts
pub asks_for_none : (words : List (String Global)) → ¬ AsksFor under.Arc words
    → ¬ AsksFor under.Boxed words → ¬ AsksFor under.Vec words → ¬ AsksFor under.Raw words
    → (layout : ScriptLayout) → ¬ AsksFor layout words
asks_for_none words arc boxed vec raw under.Arc = arc
asks_for_none words arc boxed vec raw under.Boxed = boxed
asks_for_none words arc boxed vec raw under.Vec = vec
asks_for_none words arc boxed vec raw under.Raw = raw
