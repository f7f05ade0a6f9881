-- What the recursive rules require and ensure.
-- (What calls promise one another; no promise of the library rests on it.)
use Rattle.std.specs.Prelude.{◌≡◌, ℕ, ◌≤◌, ◌<◌, ◌≢◌, Option, Some, None, Bool, true, false}
use Rattle.rap_base.specs.TokenKind.{EOF, L_ANGLE, R_CURLY, IF_KW, WHERE_KW}
use Rattle.rap_events.specs.State.{State, next}
use Rattle.rap_events.specs.declared.parser.CompletedMarker.{CompletedMarker}
use Rattle.rap_grammar_frame.specs.Climb.{Climbed}
use Rattle.rap_grammar_scripts.specs.Exec.{Obeys}
use Rattle.rap_grammar_scripts.specs.Words.{of_expr}
use Rattle.rap_grammar_scripts.specs.First.{is_bracket, is_type_first, is_generic_arg_first, is_cfg_predicate_first, is_use_path_start}
use Rattle.rap_grammar_frame.specs.Grew.{Grew, Took, Made, Closed, Dropped}
use Rattle.rap_grammar_scripts.specs.declared.rule.Rule.{Rule}
use Rattle.rap_grammar_scripts.specs.declared.rule.Rule.TheVariants as knot
use Rattle.rap_grammar_scripts.specs.Recovery.{stops_expr, stops_pattern, stops_arm, stops_type}
use Rattle.rap_grammar_frame.specs.Room.{expression_room, atom_room, statement_room, marked_room, element_room, list_room, type_room, pattern_room, single_pattern_room, dropped_events}
use Rattle.rap_grammar_scripts.specs.Script.{Outcome, something}
use Rattle.rap_grammar_scripts.specs.Test.{holds}
use Rattle.rap_grammar_scripts.specs.UseItem.{is_use_tree_start}
use Rattle.rap_grammar_scripts.specs.declared.arguments.BlockLike.{BlockLike}

-- no expression: a token is taken unless the next one ends the search for an expression, and then none is
pub record Missed (old new : State) : Type 0 where
  pub took : stops_expr (next old) ≡ false → Took old new expression_room
  pub stays : stops_expr (next old) ≡ true → new.left ≡ old.left

-- an expression, or a message and none
abbrev pub Answered : State → State → Bool → ℕ → Option (CompletedMarker × BlockLike) → Type 0
Answered old new stmt bp (Some e) = Made old new e.0 expression_room × Climbed new e.0.kind.value bp stmt
Answered old new stmt bp None = Grew old new 8 × (old.messages < new.messages) × Missed old new

-- an expression from the newest marker on, or a message, and the marker is gone
abbrev pub AnsweredFrom : State → State → Bool → ℕ → Option (CompletedMarker × BlockLike) → Type 0
AnsweredFrom old new stmt bp (Some e) = Closed old new e.0 marked_room × Climbed new e.0.kind.value bp stmt
AnsweredFrom old new stmt bp None = Dropped old new dropped_events

-- A rule that makes no node: where it begins with one of these tokens, it takes one at least, and else it records at
-- most so many events more than its tokens pay for.
pub record Parsed (first : ℕ → Bool) (k room : ℕ) (old new : State) : Type 0 where
  pub grew : Grew old new k
  pub took : first (next old) ≡ true → Took old new room

-- a type: a token at least is taken where one begins, and also where the next one does not end the search for it
pub record IsType (old new : State) : Type 0 where
  pub grew : Grew old new 20
  pub took : is_type_first (next old) ≡ true → Took old new type_room
  pub skips : stops_type (next old) ≡ false → Took old new type_room

-- a pattern, by what ends the search for it and by its costs: where it takes no token, the next one is as before
pub record PatternUntil (stops : ℕ → Bool) (k room : ℕ) (old new : State) : Type 0 where
  pub grew : Grew old new k
  pub took : stops (next old) ≡ false → Took old new room
  pub stays : stops (next old) ≡ true → next new ≡ next old

abbrev pub PatternIn : ℕ → ℕ → State → State → Type 0
PatternIn k room old new = PatternUntil stops_pattern k room old new

abbrev pub IsPattern : State → State → Type 0
IsPattern old new = PatternIn 20 pattern_room old new

-- a pattern without alternatives
abbrev pub IsSinglePattern : State → State → Type 0
IsSinglePattern old new = PatternIn 20 single_pattern_room old new

-- the pattern of an arm
abbrev pub IsArmPattern : State → State → Type 0
IsArmPattern old new = PatternUntil stops_arm 20 pattern_room old new

-- a statement: a token is taken unless none is left
pub record IsStatement (old new : State) : Type 0 where
  pub grew : Grew old new 20
  pub took : next old ≢ EOF → Took old new statement_room

-- an item: a token is taken unless none is left, or a brace ends the list of items
pub record IsItem (stop_on_r_curly : Bool) (old new : State) : Type 0 where
  pub grew : Grew old new 20
  pub took : next old ≢ EOF → (stop_on_r_curly ≡ true → next old ≢ R_CURLY) → Took old new statement_room

-- what each rule requires
abbrev pub Pre : Rule → State → Type 0
-- Pre: written by crates/rap_grammar_scripts/rules up to "end"
Pre (knot.ExprBp r bp) s = 1 ≤ bp
Pre (knot.TypeWithBoundsCond allow_bounds) s = Unit {0}
Pre knot.PathTypeBounds s = holds is_use_path_start s.rest ≡ true
Pre knot.GenericArg s = is_generic_arg_first (next s) ≡ true
Pre knot.GenericParamList s = next s ≡ L_ANGLE
Pre knot.BoundsWithoutColon s = Unit {0}
Pre knot.WhereClause s = next s ≡ WHERE_KW
Pre knot.Pattern s = Unit {0}
Pre knot.PatternSingle s = Unit {0}
Pre knot.ArmPattern s = Unit {0}
Pre (knot.Stmt semicolon) s = Unit {0}
Pre knot.IfExpr s = next s ≡ IF_KW
Pre (knot.ItemOrMacro stop_on_r_curly is_in_extern) s = Unit {0}
Pre knot.UseTree s = holds is_use_tree_start s.rest ≡ true
Pre knot.Meta s = Unit {0}
Pre knot.CfgPredicate s = Unit {0}
Pre knot.TokenTree s = is_bracket (next s) ≡ true

-- end

-- what each rule takes and records, and an expression's node
abbrev pub Parses : Rule → State → State → Option (CompletedMarker × BlockLike) → Type 0
-- Parses: written by crates/rap_grammar_scripts/rules up to "end"
Parses (knot.ExprBp r bp) old new e = Answered old new r.prefer_stmt bp e
Parses (knot.TypeWithBoundsCond allow_bounds) old new e = IsType old new
Parses knot.PathTypeBounds old new e = Took old new type_room
Parses knot.GenericArg old new e = Took old new element_room
Parses knot.GenericParamList old new e = Took old new list_room
Parses knot.BoundsWithoutColon old new e = Grew old new 16
Parses knot.WhereClause old new e = Took old new list_room
Parses knot.Pattern old new e = IsPattern old new
Parses knot.PatternSingle old new e = IsSinglePattern old new
Parses knot.ArmPattern old new e = IsArmPattern old new
Parses (knot.Stmt semicolon) old new e = IsStatement old new
Parses knot.IfExpr old new e = Took old new atom_room
Parses (knot.ItemOrMacro stop_on_r_curly is_in_extern) old new e = IsItem stop_on_r_curly old new
Parses knot.UseTree old new e = Took old new list_room
Parses knot.Meta old new e = Grew old new 16
Parses knot.CfgPredicate old new e = Parsed is_cfg_predicate_first 8 element_room old new
Parses knot.TokenTree old new e = Took old new list_room

-- end

-- the outcome of each rule: what an expression is, and something
abbrev pub outcome_of : Rule → Option (CompletedMarker × BlockLike) → Outcome
outcome_of (knot.ExprBp r bp) e = of_expr e
outcome_of c e = something

-- what each rule ensures, with at most so many rules inside one another
abbrev pub Post : ℕ → Rule → State → State → Option (CompletedMarker × BlockLike) → Type 0
Post n c old new e = Parses c old new e × Obeys n c (outcome_of c e) old new
