-- What the checker is told of types, of the paths in them, and of bounds.
use Rattle.std.specs.Prelude.{◌==◌, not, Some, None, ℕ, true, false, List, [], ◌∷◌, ◌++◌}
use Rattle.rap_base.specs.TokenKind.{IDENT, COMMA, COLON, DOT, L_PAREN, R_PAREN, L_CURLY, L_ANGLE, R_ANGLE, MINUS, UNDERSCORE, LIFETIME_IDENT, FOR_KW, EOF, SHEBANG}
use Rattle.rap_grammar_scripts.specs.Script.{Outcome, something}
use Rattle.rap_grammar_scripts.specs.declared.rule.Rule.{Rule}
use Rattle.rap_grammar_scripts.specs.declared.rule.Rule.TheVariants as knot
use Rattle.rap_grammar_table.proofs.Entry.{Entry, text, read_text, of_names, touching, colons}
use Rattle.rap_grammar_table.proofs.Evaluate.{behind}
use Rattle.rap_grammar_table.proofs.OperatorHints.{cast_follows}
use Rattle.rap_grammar_table.proofs.SharedHints.{global_heads, lifetime_head, name_heads, other_heads, paren_heads, plain_firsts, segment_follows, type_firsts}
use Rattle.rap_grammar_table.specs.Category.{AnchoredPath, Bound, Bounds, GlobalPath, Path, PathBeforePlus, SimplePath, TraitRef, UsePath}
use Rattle.rap_grammar_table.specs.Known.{Place, never, anything}
use Rattle.rap_grammar_table.specs.Notation.{those, up_to, of_kinds}
use Rattle.rap_grammar_table.specs.Rows.{rows}
use Rattle.rap_grammar_table.specs.SharedRows.{literals, path_names, use_names, bound_kinds, plus_follows, symbol_kinds, type_follows}
use Rattle.rap_grammar_table.specs.PatternRows.{global_colon}
use Rattle.rap_grammar_table.specs.TypeRows.{args_rows, expr_path_rows, anchor_trait_rows, param_name_rows, fn_pointer_params_rows, type_rows, plain_type_rows, type_before_plus_rows, symbol_type_rows}

-- what an argument begins with
abbrev pub argument_kinds : List ℕ
argument_kinds =
    L_CURLY ∷ MINUS ∷ COLON ∷ UNDERSCORE ∷ LIFETIME_IDENT ∷ L_PAREN ∷ (literals ++ path_names ++ symbol_kinds)

abbrev pub args_firsts : List (List Place)
args_firsts =
    (of_kinds (L_ANGLE ∷ []) ∷ of_kinds (R_ANGLE ∷ argument_kinds) ∷ [])
    ∷ (of_kinds (L_PAREN ∷ []) ∷ of_kinds (R_PAREN ∷ argument_kinds) ∷ [])
    ∷ (of_kinds (L_PAREN ∷ []) ∷ touching DOT ∷ of_kinds (DOT ∷ []) ∷ [])
    ∷ colons ((of_kinds (L_ANGLE ∷ L_PAREN ∷ []) ∷ []) ∷ [])

abbrev pub args_entry : Entry
args_entry = text args_rows args_firsts (segment_follows ++ cast_follows)

abbrev pub path_entry : Entry
path_entry =
    text (rows Path) (name_heads path_names) type_follows

abbrev pub path_before_plus_entry : Entry
path_before_plus_entry =
    text (rows PathBeforePlus) (name_heads path_names) plus_follows

abbrev pub use_path_entry : Entry
use_path_entry =
    text (rows UsePath) (name_heads use_names) plus_follows

abbrev pub global_path_entry : Entry
global_path_entry =
    text (rows GlobalPath) global_heads ((of_kinds (FOR_KW ∷ []) ∷ []) ∷ plus_follows)

abbrev pub anchored_path_entry : Entry
anchored_path_entry =
    text (rows AnchoredPath) ((of_kinds (L_ANGLE ∷ []) ∷ []) ∷ []) plus_follows

-- any token but a `:` may follow it, and a `:` that touches no other
abbrev pub expr_path_follows : List (List Place)
expr_path_follows =
    (of_kinds (EOF ∷ those (λ kind. not (kind == COLON)) (up_to SHEBANG)) ∷ [])
    ∷ (record { kinds = Some (COLON ∷ []); words = None; joint = never } ∷ [])
    ∷ []

abbrev pub expr_path_entry : Entry
expr_path_entry =
    text expr_path_rows
    ((of_kinds (L_ANGLE ∷ []) ∷ []) ∷
    (global_heads ++
    behind (of_names path_names)
    (expr_path_follows ++ colons ((of_kinds (L_ANGLE ∷ path_names) ∷ []) ∷ []))))
    expr_path_follows

abbrev pub simple_path_entry : Entry
simple_path_entry =
    text (rows SimplePath)
    ((of_names path_names ∷ of_kinds (L_ANGLE ∷ L_PAREN ∷ FOR_KW ∷ []) ∷ []) ∷
    behind (of_names path_names) (colons ((of_kinds (L_ANGLE ∷ L_PAREN ∷ path_names) ∷ []) ∷ [])))
    ((of_kinds (FOR_KW ∷ []) ∷ []) ∷ [])

abbrev pub anchor_read_by : Rule → List Outcome
anchor_read_by knot.PathTypeBounds = something ∷ []
anchor_read_by r = []

abbrev pub anchor_entry : Entry
anchor_entry =
    read_text anchor_read_by anchor_trait_rows
    (name_heads use_names ++ global_heads) ((of_kinds (R_ANGLE ∷ []) ∷ []) ∷ [])

abbrev pub bound_firsts : List (List Place)
bound_firsts = (of_kinds bound_kinds ∷ []) ∷ global_heads

abbrev pub bound_entry : Entry
bound_entry =
    text (rows Bound) bound_firsts plus_follows

abbrev pub bounds_read_by : Rule → List Outcome
bounds_read_by knot.BoundsWithoutColon = something ∷ []
bounds_read_by r = []

abbrev pub bounds_entry : Entry
bounds_entry =
    read_text bounds_read_by (rows Bounds)
    (bound_firsts ++ type_follows) type_follows

-- the parameters of a function pointer, and the name of one
abbrev pub param_name_read_by : Rule → List Outcome
param_name_read_by knot.PatternSingle = something ∷ []
param_name_read_by r = []

abbrev pub after_colon : List ℕ
after_colon = UNDERSCORE ∷ LIFETIME_IDENT ∷ L_PAREN ∷ (symbol_kinds ++ path_names)

-- the colon behind a name, before a type
abbrev pub name_colons : List (List Place)
name_colons = (of_kinds (COLON ∷ []) ∷ of_kinds after_colon ∷ []) ∷ global_colon ∷ []

abbrev pub param_name_entry : Entry
param_name_entry =
    read_text param_name_read_by param_name_rows
    (behind (of_names (IDENT ∷ [])) name_colons ++ behind (of_kinds (UNDERSCORE ∷ [])) name_colons) name_colons

abbrev pub fn_pointer_params_entry : Entry
fn_pointer_params_entry =
    text
    fn_pointer_params_rows
    ((of_kinds (L_PAREN ∷ []) ∷ []) ∷ []) anything

abbrev pub type_read_by : Rule → List Outcome
type_read_by (knot.TypeWithBoundsCond true) = something ∷ []
type_read_by r = []

abbrev pub trait_ref_entry : Entry
trait_ref_entry =
    read_text type_read_by (rows TraitRef)
    ((of_names path_names ∷ of_kinds (L_ANGLE ∷ L_PAREN ∷ FOR_KW ∷ []) ∷ []) ∷
    (behind (of_names path_names) (colons ((of_kinds (L_ANGLE ∷ L_PAREN ∷ path_names) ∷ []) ∷ [])) ++ global_heads))
    ((of_kinds (FOR_KW ∷ []) ∷ []) ∷ [])

abbrev pub plain_read_by : Rule → List Outcome
plain_read_by (knot.TypeWithBoundsCond false) = something ∷ []
plain_read_by r = []

abbrev pub type_entry : Entry
type_entry =
    read_text type_read_by
    type_rows
    type_firsts type_follows

abbrev pub plain_entry : Entry
plain_entry =
    read_text plain_read_by plain_type_rows plain_firsts type_follows

abbrev pub before_plus_entry : Entry
before_plus_entry =
    read_text plain_read_by type_before_plus_rows plain_firsts plus_follows

abbrev pub symbol_entry : Entry
symbol_entry =
    text symbol_type_rows (lifetime_head ∷ (other_heads ++ paren_heads))
    ((of_kinds (COMMA ∷ R_ANGLE ∷ []) ∷ []) ∷ [])
