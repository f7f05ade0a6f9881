-- What is known of an output before it is looked at.
-- (What calls promise one another; no promise of the library rests on it.)
use Rattle.std.specs.Prelude.{◌≡◌, ◌==◌, Bool, true, false, not, List, [], ◌∷◌, Option, Some, None}
use Rattle.rap_base.specs.NodeKind.{ABI}
use Rattle.rap_events.specs.Forest.{Forest, flat, one_tree}
use Rattle.rap_events.specs.StepValue.{StepValue, enter, exit, token, float_split, error}
use Rattle.rap_events.specs.declared.parser.CompletedMarker.{CompletedMarker}
use Rattle.rap_grammar_scripts.specs.declared.arguments.BlockLike.{BlockLike}
use Rattle.rap_grammar_scripts.specs.declared.rule.Rule.{Rule}
use Rattle.rap_grammar_scripts.specs.declared.rule.Rule.TheVariants as knot
use Rattle.rap_grammar.specs.declared.entry.Known.{Known}
use Rattle.rap_grammar.specs.declared.entry.Known.TheVariants as known

-- whether the first step begins a node, and no `ABI`
abbrev pub begins_node : List StepValue → Bool
begins_node [] = false
begins_node (enter kind ∷ ss) = not (kind == ABI)
begins_node (exit ∷ ss) = false
begins_node (token kind width ∷ ss) = false
begins_node (float_split dot ∷ ss) = false
begins_node (error bytes ∷ ss) = false

-- It is one tree. It is one exactly if its first step begins a node, and no `ABI`. Or nothing is known.
unfoldable pub IsKnown : Known → Forest → Type 0
IsKnown known.OneTree f = one_tree f ≡ true
IsKnown known.ByFirstStep f = one_tree f ≡ begins_node (flat f)
IsKnown known.Nothing f = Unit {0}

-- What is known of what a rule leaves that begins with nothing. An attribute is one node. A type or a pattern is one
-- node, or where none was read, a message, tokens before one, or an `ABI` and a message.
unfoldable pub known_of : Rule → Known
known_of (knot.TypeWithBoundsCond allow_bounds) = known.ByFirstStep
known_of knot.Pattern = known.ByFirstStep
known_of knot.Meta = known.OneTree
known_of c = known.Nothing

-- an expression is one node
abbrev pub known_by : Option (CompletedMarker × BlockLike) → Known
known_by None = known.Nothing
known_by (Some e) = known.OneTree
