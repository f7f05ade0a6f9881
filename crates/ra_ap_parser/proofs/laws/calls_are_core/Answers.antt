use Rattle.std.proofs.Common.{refl}
use Rattle.rap_small_grammar.proofs.IncludedBrackets.{call_holds}
use Rattle.rap_small_grammar.proofs.InTable.{item_alone, item_in_file}
use Rattle.ra_ap_parser.specs.Calls.{CallsAreCore}
use Rattle.ra_ap_parser.specs.declared.entry_point.TopEntryPoint.TheVariants as entry
use Rattle.ra_ap_parser.proofs.laws.calls_are_core.Goals as goal

in_core : CallsAreCore
in_core entry.SourceFile input tree h d = (d.0, item_in_file (call_holds input d.0 h d.1), d.2)
in_core entry.MacroStmts input tree h d = absurd d
in_core entry.MacroItems input tree h d = (d.0, item_alone (call_holds input d.0 h d.1), d.2)
in_core entry.Pattern input tree h d = absurd d
in_core entry.Ty input tree h d = absurd d
in_core entry.Expr input tree h d = absurd d
in_core entry.MetaItem input tree h d = absurd d

pub returns : goal.returns
returns c = in_core
