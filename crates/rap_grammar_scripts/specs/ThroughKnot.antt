-- Rules that are called through the knot of all rules, and the parts that are no more than that.
-- In the Rust crate: `grammar.rs`, `grammar/types.rs` and the files of the rules.
use Rattle.std.specs.Prelude.{false, true, Bool, codes}
use Rattle.rap_base.specs.TokenKind.{L_ANGLE, COLON, WHERE_KW, THIN_ARROW, EQ, FOR_KW}
use Rattle.rap_base.specs.NodeKind.{RET_TYPE, FOR_BINDER}
use Rattle.rap_grammar_scripts.specs.First.{is_generic_arg_first, is_cfg_predicate_first, is_path_name}
use Rattle.rap_grammar_scripts.specs.Script.{Script, nothing, give, rule, token, start, finish, report, test}
use Rattle.rap_grammar_scripts.specs.Words.{done, if_some, ◌▸◌, recur, only_if, optional, call, next_so, is_at}
use Rattle.rap_grammar_scripts.specs.declared.arguments.Restrictions.{Restrictions}
use Rattle.rap_grammar_scripts.specs.declared.rule.Rule.{Rule}
use Rattle.rap_grammar_scripts.specs.declared.rule.Rule.TheVariants as knot

-- no restriction
abbrev pub unrestricted : Restrictions
unrestricted = record { forbid_structs = false; prefer_stmt = false }

-- an expression
unfoldable pub expr : Script Rule
expr = rule (knot.ExprBp unrestricted 1) (λ v. if_some v done (give nothing))

-- an expression in which no record literal may stand, as before a block
abbrev pub without_structs : Restrictions
without_structs = record { forbid_structs = true; prefer_stmt = false }

unfoldable pub expr_no_struct : Script Rule
expr_no_struct = recur (knot.ExprBp without_structs 1) ▸ done

-- an expression that ends after a block, as a statement does
abbrev pub as_statement : Restrictions
as_statement = record { forbid_structs = false; prefer_stmt = true }

unfoldable pub expr_stmt : Script Rule
expr_stmt = rule (knot.ExprBp as_statement 1) (λ v. give v)

-- calls: written by crates/rap_grammar_scripts/rules up to "end"
-- a type, after a token of the rule around it
unfoldable pub type_ : Script Rule
type_ = recur (knot.TypeWithBoundsCond true) ▸ done

-- a type without bounds after it
unfoldable pub type_no_bounds : Script Rule
type_no_bounds = recur (knot.TypeWithBoundsCond false) ▸ done

-- the trait after the `as` of `<A as B>`
unfoldable pub path_type_bounds : Script Rule
path_type_bounds = recur knot.PathTypeBounds ▸ done

-- a generic argument, as an element of a list
unfoldable pub generic_arg_element : Script Rule
generic_arg_element = only_if (next_so is_generic_arg_first) (recur knot.GenericArg ▸ done)

-- the parameters after a `for`
unfoldable pub generic_param_list : Script Rule
generic_param_list = recur knot.GenericParamList ▸ done

-- a pattern, after a token of the rule around it
unfoldable pub pattern : Script Rule
pattern = recur knot.Pattern ▸ done

-- a pattern without alternatives
unfoldable pub pattern_single : Script Rule
pattern_single = recur knot.PatternSingle ▸ done

-- what stands in an attribute, inside another
unfoldable pub meta : Script Rule
meta = recur knot.Meta ▸ done

-- a condition inside another, as an element of a list
unfoldable pub cfg_predicate_element : Script Rule
cfg_predicate_element = only_if (next_so is_cfg_predicate_first) (recur knot.CfgPredicate ▸ done)

-- generic parameters, as `<T, 'a>`, if there are
unfoldable pub opt_generic_param_list : Script Rule
opt_generic_param_list = optional (is_at L_ANGLE) (recur knot.GenericParamList ▸ done)

-- bounds after their colon, as `: A + B`
unfoldable pub bounds : Script Rule
bounds = token COLON ▸ recur knot.BoundsWithoutColon ▸ done

-- bounds, as `A + B`
unfoldable pub bounds_without_colon : Script Rule
bounds_without_colon = recur knot.BoundsWithoutColon ▸ done

-- a `where` clause, as `where T: A`, if there is one
unfoldable pub opt_where_clause : Script Rule
opt_where_clause = optional (is_at WHERE_KW) (recur knot.WhereClause ▸ done)

-- the pattern of an arm of a `match`
unfoldable pub arm_pattern : Script Rule
arm_pattern = recur knot.ArmPattern ▸ done

-- an `if` after an `else`
unfoldable pub if_expr : Script Rule
if_expr = recur knot.IfExpr ▸ done

-- an item in a list of items
unfoldable pub item_or_macro : Bool → Bool → Script Rule
item_or_macro stop_on_r_curly is_in_extern = recur (knot.ItemOrMacro stop_on_r_curly is_in_extern) ▸ done

-- a tree in the braces of a `use`
unfoldable pub use_tree : Script Rule
use_tree = recur knot.UseTree ▸ done

-- end

-- a return type
unfoldable pub opt_ret_type : Script Rule
opt_ret_type = only_if (is_at THIN_ARROW) (start ▸ token THIN_ARROW ▸ call type_no_bounds ▸ finish RET_TYPE ▸ done)

-- the same without the arrow, which is reported
unfoldable pub opt_no_arrow_ret_type : Script Rule
opt_no_arrow_ret_type =
    only_if (next_so is_path_name)
    (start ▸ report (codes "missing thin-arrow `->`") ▸ call type_no_bounds ▸ finish RET_TYPE ▸ done)

-- a type after its colon; before a `=` a message stands in its place
unfoldable pub ascription : Script Rule
ascription = token COLON ▸ test (is_at EQ) (report (codes "missing type") ▸ done) (call type_ ▸ done)

unfoldable pub for_binder : Script Rule
for_binder =
    start ▸ token FOR_KW ▸
    test (is_at L_ANGLE) (call generic_param_list ▸ finish FOR_BINDER ▸ done)
    (report (codes "expected `<`") ▸ finish FOR_BINDER ▸ done)
