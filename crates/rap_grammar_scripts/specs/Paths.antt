-- Paths.
use Rattle.std.specs.Prelude.{codes, [], ◌∷◌, Bool, if◌then◌else◌, true, false}
use Rattle.rap_base.specs.TokenKind.{COMMA, L_PAREN, R_PAREN, DOT2, L_ANGLE, COLON2, EQ, AS_KW, R_ANGLE, L_CURLY, STAR}
use Rattle.rap_base.specs.NodeKind.{TYPE_ARG, PARENTHESIZED_ARG_LIST, RETURN_TYPE_SYNTAX, PATH_SEGMENT, TYPE_ANCHOR, PATH}
use Rattle.rap_grammar_scripts.specs.First.{is_type_first, one_of, is_path_name, is_use_path_start}
use Rattle.rap_grammar_scripts.specs.GenericArgList.{generic_arg_list, opt_generic_arg_list_expr}
use Rattle.rap_grammar_scripts.specs.Lists.{delimited}
use Rattle.rap_grammar_scripts.specs.Names.{name_ref_mod_path}
use Rattle.rap_grammar_scripts.specs.Recovery.{is_segment_recovery}
use Rattle.rap_grammar_scripts.specs.Script.{Script, nothing, give, test, start, finish, after, token, abandon, report, precede, again, loop}
use Rattle.rap_grammar_scripts.specs.Test.{Test, kind_so, comes, negated, also, or_else}
use Rattle.rap_grammar_scripts.specs.ThroughKnot.{type_, opt_ret_type, path_type_bounds}
use Rattle.rap_grammar_scripts.specs.Words.{done, ◌▸◌, call, expect, next_is, choose, recover, optional, if_some, next_so, kind_is, is_at}
use Rattle.rap_grammar_scripts.specs.declared.arguments.Mode.{Mode}
use Rattle.rap_grammar_scripts.specs.declared.arguments.Mode.TheVariants as mode
use Rattle.rap_grammar_scripts.specs.declared.rule.Rule.{Rule}

-- A type among those in parentheses. Where none begins, the list ends after its message.
unfoldable pub type_arg_element : Script Rule
type_arg_element =
    test (next_so is_type_first) (start ▸ call type_ ▸ finish TYPE_ARG ▸ done)
    (start ▸ call type_ ▸ finish TYPE_ARG ▸ give nothing)

-- types in parentheses, as those of a function that are taken, and the return type; their node is open
unfoldable pub parenthesized_args : Script Rule
parenthesized_args =
    call (delimited type_arg_element L_PAREN R_PAREN COMMA (codes "expected type") is_type_first) ▸
    finish PARENTHESIZED_ARG_LIST ▸ call opt_ret_type ▸ done

-- two dots in parentheses, as in the return type notation `f(..)`; their node is open
unfoldable pub return_type_syntax : Script Rule
return_type_syntax = token L_PAREN ▸ token DOT2 ▸ expect R_PAREN ▸ finish RETURN_TYPE_SYNTAX ▸ done

-- arguments from their bracket on; their node is open
unfoldable pub path_type_args : Script Rule
path_type_args =
    choose
    ((next_is L_ANGLE, generic_arg_list)
    ∷ (comes 1 DOT2, return_type_syntax)
    ∷ [])
    parenthesized_args

-- arguments in a type, with `::` before their bracket, and without
abbrev pub has_args_behind : Test
has_args_behind = also (is_at COLON2) (kind_so 2 (one_of (L_ANGLE ∷ L_PAREN ∷ [])))

abbrev pub has_args : Test
has_args = or_else (also (next_is L_ANGLE) (negated (kind_is 1 EQ))) (next_is L_PAREN)

-- the arguments after a name in a type
unfoldable pub opt_path_type_args : Script Rule
opt_path_type_args =
    choose ((has_args_behind, start ▸ token COLON2 ▸ path_type_args) ∷ (has_args, start ▸ path_type_args) ∷ []) done

unfoldable pub opt_path_args : Mode → Script Rule
opt_path_args mode.Use = done
opt_path_args mode.Attr = done
opt_path_args mode.Type = opt_path_type_args
opt_path_args mode.Expr = opt_generic_arg_list_expr
opt_path_args mode.Vis = done

-- Where a segment's name is missing and nothing of the segment was taken, a message is all, unless it skips a token.
unfoldable pub missing_segment_name : Mode → Bool → Script Rule
missing_segment_name m empty =
    recover (codes "expected identifier, `self`, `super`, `crate`, or `Self`") (is_segment_recovery m)
    (if empty then abandon ▸ give nothing else (finish PATH_SEGMENT ▸ done))
    (finish PATH_SEGMENT ▸ done)

-- a segment's name, and the arguments after it
unfoldable pub segment_name : Mode → Bool → Script Rule
segment_name m empty =
    test (next_so is_path_name)
    (call name_ref_mod_path ▸ call (opt_path_args m) ▸ finish PATH_SEGMENT ▸ done)
    (missing_segment_name m empty)

-- the trait of a type anchor
unfoldable pub anchor_trait : Script Rule
anchor_trait =
    optional (is_at AS_KW)
    (token AS_KW ▸ test is_use_path_start path_type_bounds (report (codes "expected a trait") ▸ done))

-- a type, and its trait, in the angle brackets that a path begins with
unfoldable pub type_anchor : Script Rule
type_anchor =
    start ▸ token L_ANGLE ▸ call type_ ▸ call anchor_trait ▸ expect R_ANGLE ▸ finish TYPE_ANCHOR ▸
    test (is_at COLON2) done (report (codes "expected `::`") ▸ done)

-- a segment, with `::` before it, or a type anchor, where it is the first
unfoldable pub path_segment : Mode → Bool → Script Rule
path_segment m false = start ▸ segment_name m true
path_segment m true =
    start ▸
    choose
    ((is_at L_ANGLE, call type_anchor ▸ finish PATH_SEGMENT ▸ done)
    ∷ (is_at COLON2, token COLON2 ▸ segment_name m false)
    ∷ [])
    (segment_name m true)

-- another segment comes next: of what is imported, no list and no star after the `::`
abbrev pub has_segment : Mode → Test
has_segment mode.Use = also (is_at COLON2) (negated (kind_so 2 (one_of (STAR ∷ L_CURLY ∷ []))))
has_segment mode.Attr = is_at COLON2
has_segment mode.Type = is_at COLON2
has_segment mode.Expr = is_at COLON2
has_segment mode.Vis = is_at COLON2

abbrev pub segment_turn : Mode → Bool → Bool → Script Rule
segment_turn m a b =
    optional (has_segment m) (precede ▸ token COLON2 ▸ call (path_segment m false) ▸ finish PATH ▸ give (again a b))

-- the segments after a path, each with that path in a larger one
unfoldable pub path_for_qualifier : Mode → Script Rule
path_for_qualifier m = loop (segment_turn m) false false

unfoldable pub path : Mode → Script Rule
path m =
    start ▸ after (path_segment m true) (λ v. if_some v (finish PATH ▸ path_for_qualifier m) (abandon ▸ give nothing))

-- a path in an import, in an attribute, in a type, in an expression and in a restriction
unfoldable pub use_path : Script Rule
use_path = call (path mode.Use) ▸ done

unfoldable pub attr_path : Script Rule
attr_path = call (path mode.Attr) ▸ done

unfoldable pub type_path : Script Rule
type_path = call (path mode.Type) ▸ done

unfoldable pub expr_path : Script Rule
expr_path = call (path mode.Expr) ▸ done

unfoldable pub vis_path : Script Rule
vis_path = call (path mode.Vis) ▸ done

unfoldable pub type_path_for_qualifier : Script Rule
type_path_for_qualifier = path_for_qualifier mode.Type
