-- What is read alone from the front of an input leaves no node at the top that ends with a float's dot.
use Rattle.std.proofs.Common.{◌≡◌, List, [], true, false, refl}
use Rattle.rap_events.specs.Forest.{Forest, none}
use Rattle.rap_events.specs.Record.{Record}
use Rattle.rap_grammar_scripts.specs.Blocks.{block_expr}
use Rattle.rap_grammar_scripts.specs.ThroughKnot.{expr, meta, pattern, pattern_single, type_}
use Rattle.rap_grammar_scripts.specs.Items.{item_or_macro}
use Rattle.rap_grammar_scripts.specs.Knot.{script_of}
use Rattle.rap_grammar_scripts.specs.Paths.{type_path}
use Rattle.rap_grammar_scripts.specs.declared.rule.Rule.{Rule}
use Rattle.rap_grammar_scripts.specs.declared.rule.Rule.TheVariants as knot
use Rattle.rap_grammar_scripts.specs.Script.{Script, Outcome, Runs, give, rule, gives, obeys}
use Rattle.rap_grammar_scripts.specs.Statements.{stmt}
use Rattle.rap_grammar_scripts.specs.Visibility.{opt_visibility}
use Rattle.rap_grammar_scripts.specs.declared.arguments.Semicolon.TheVariants as semicolon
use Rattle.rap_grammar_ends.proofs.DotEnds.{dot_ends, inside}
use Rattle.rap_grammar_ends.proofs.DotFits.{at_range, computed, range_implies}
use Rattle.rap_grammar_ends.proofs.DotKeeps.{leaves_inside, kept_inside}
use Rattle.rap_grammar_ends.proofs.DotRules.{dots_sound}
use Rattle.rap_grammar_ends.proofs.Endings.{every}
use Rattle.rap_grammar_scripts.proofs.Scripts.{scripts}
use Rattle.rap_grammar_ends.specs.Dots.{dots_inside}
use Rattle.rap_grammar.specs.Part.{IsPrefixOf}

-- what is computed of a script that leaves none
abbrev pub LeavesNone : Script Rule → Type 0
LeavesNone s = every leaves_inside (dot_ends s inside []) ≡ true

made_inside : (s : Script Rule) → LeavesNone s → {input rest : List Record} {made : Forest} {outcome : Outcome} →
    Runs script_of s (record { rest = input; forest = none; below = [] })
    (record { rest = rest; forest = made; below = [] }) outcome → dots_inside made ≡ true
made_inside s e r = kept_inside dots_sound r (computed s at_range inside [] leaves_inside range_implies e) refl

inside_by : (s : Script Rule) → LeavesNone s → {input : List Record} {output : Forest} → IsPrefixOf s input output →
    dots_inside output ≡ true
inside_by s e i = made_inside s e i.run

-- the same of a rule of the knot, by what its table says
inside_of_rule : (c : Rule) → LeavesNone (rule c (λ v. give v)) → {input : List Record} {output : Forest} →
    IsPrefixOf (script_of c) input output → dots_inside output ≡ true
inside_of_rule c e i =
    kept_inside dots_sound (obeys {n = λ v. give v} i.run gives)
    (computed (rule c (λ v. give v)) at_range inside [] leaves_inside range_implies e) refl

visibility_leaves_none : LeavesNone (opt_visibility false)
unfolding scripts
visibility_leaves_none = refl

block_leaves_none : LeavesNone block_expr
unfolding scripts
block_leaves_none = refl

path_leaves_none : LeavesNone type_path
unfolding scripts
path_leaves_none = refl

expression_leaves_none : LeavesNone expr
unfolding expr
expression_leaves_none = refl

type_leaves_none : LeavesNone type_
unfolding type_
type_leaves_none = refl

pattern_leaves_none : LeavesNone pattern
unfolding pattern
pattern_leaves_none = refl

single_pattern_leaves_none : LeavesNone pattern_single
unfolding pattern_single
single_pattern_leaves_none = refl

meta_leaves_none : LeavesNone meta
unfolding meta
meta_leaves_none = refl

pub visibility_inside : {input : List Record} {output : Forest} → IsPrefixOf (opt_visibility false) input output →
    dots_inside output ≡ true
visibility_inside i = inside_by (opt_visibility false) visibility_leaves_none i

pub block_inside : {input : List Record} {output : Forest} → IsPrefixOf block_expr input output →
    dots_inside output ≡ true
block_inside i = inside_by block_expr block_leaves_none i

pub path_inside : {input : List Record} {output : Forest} → IsPrefixOf type_path input output →
    dots_inside output ≡ true
path_inside i = inside_by type_path path_leaves_none i

pub expression_inside : {input : List Record} {output : Forest} → IsPrefixOf expr input output →
    dots_inside output ≡ true
expression_inside i = inside_by expr expression_leaves_none i

pub type_inside : {input : List Record} {output : Forest} → IsPrefixOf type_ input output → dots_inside output ≡ true
type_inside i = inside_by type_ type_leaves_none i

pub pattern_inside : {input : List Record} {output : Forest} → IsPrefixOf pattern input output →
    dots_inside output ≡ true
pattern_inside i = inside_by pattern pattern_leaves_none i

pub single_pattern_inside : {input : List Record} {output : Forest} → IsPrefixOf pattern_single input output →
    dots_inside output ≡ true
single_pattern_inside i = inside_by pattern_single single_pattern_leaves_none i

pub meta_inside : {input : List Record} {output : Forest} → IsPrefixOf meta input output →
    dots_inside output ≡ true
meta_inside i = inside_by meta meta_leaves_none i

pub statement_inside : {input : List Record} {output : Forest} → IsPrefixOf (stmt semicolon.Forbidden) input output →
    dots_inside output ≡ true
unfolding script_of
statement_inside i = inside_of_rule (knot.Stmt semicolon.Forbidden) refl i

pub item_inside : {input : List Record} {output : Forest} → IsPrefixOf (item_or_macro true true) input output →
    dots_inside output ≡ true
unfolding script_of
item_inside i = inside_of_rule (knot.ItemOrMacro true true) refl i

-- a type, an expression, a pattern, and what stands in an attribute, whatever comes after it
pub type_makes_none : {input rest : List Record} {made : Forest} {outcome : Outcome} →
    Runs script_of type_ (record { rest = input; forest = none; below = [] })
    (record { rest = rest; forest = made; below = [] }) outcome → dots_inside made ≡ true
type_makes_none r = made_inside type_ type_leaves_none r

pub expression_makes_none : {input rest : List Record} {made : Forest} {outcome : Outcome} →
    Runs script_of expr (record { rest = input; forest = none; below = [] })
    (record { rest = rest; forest = made; below = [] }) outcome → dots_inside made ≡ true
expression_makes_none r = made_inside expr expression_leaves_none r

pub pattern_makes_none : {input rest : List Record} {made : Forest} {outcome : Outcome} →
    Runs script_of pattern (record { rest = input; forest = none; below = [] })
    (record { rest = rest; forest = made; below = [] }) outcome → dots_inside made ≡ true
pattern_makes_none r = made_inside pattern pattern_leaves_none r

pub meta_makes_none : {input rest : List Record} {made : Forest} {outcome : Outcome} →
    Runs script_of meta (record { rest = input; forest = none; below = [] })
    (record { rest = rest; forest = made; below = [] }) outcome → dots_inside made ≡ true
meta_makes_none r = made_inside meta meta_leaves_none r
