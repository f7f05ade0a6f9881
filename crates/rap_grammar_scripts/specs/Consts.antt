-- Constants and statics.
use Rattle.std.specs.Prelude.{Bool, true, false, codes}
use Rattle.rap_base.specs.TokenKind.{CONST_KW, TYPE_KW, STATIC_KW, MUT_KW, UNDERSCORE, L_ANGLE, COLON, EQ, SEMICOLON}
use Rattle.rap_base.specs.NodeKind.{CONST, STATIC}
use Rattle.rap_grammar_scripts.specs.Test.{Test, comes, also, or_else}
use Rattle.rap_grammar_scripts.specs.ThroughKnot.{expr, opt_generic_param_list, opt_where_clause, ascription}
use Rattle.rap_grammar_scripts.specs.Names.{name}
use Rattle.rap_grammar_scripts.specs.declared.rule.Rule.{Rule}
use Rattle.rap_grammar_scripts.specs.Script.{Script, test, token, report, finish}
use Rattle.rap_grammar_scripts.specs.Words.{done, eat, expect, ◌▸◌, call, optional, is_at}

-- `const`, or `type const`, comes next
abbrev pub starts_const : Test
starts_const = or_else (is_at CONST_KW) (also (is_at TYPE_KW) (comes 1 CONST_KW))

-- the name; a constant may do without
unfoldable pub const_name : Bool → Script Rule
const_name true = test (is_at UNDERSCORE) (token UNDERSCORE ▸ done) name
const_name false = name

-- generic parameters, which a static may not have
unfoldable pub const_params : Bool → Script Rule
const_params true = opt_generic_param_list
const_params false =
    test (is_at L_ANGLE) (report (codes "`static` may not have generic parameters") ▸ opt_generic_param_list)
    opt_generic_param_list

unfoldable pub missing_const_type : Bool → Script Rule
missing_const_type true = report (codes "missing type for `const`") ▸ done
missing_const_type false = report (codes "missing type for `static`") ▸ done

unfoldable pub const_type : Bool → Script Rule
const_type is_const = test (is_at COLON) ascription (missing_const_type is_const)

unfoldable pub const_value : Script Rule
const_value = optional (is_at EQ) (token EQ ▸ call expr ▸ done)

-- the `where` of a constant
unfoldable pub const_where : Bool → Script Rule
const_where true = opt_where_clause
const_where false = done

-- a constant or a static, after its keyword
unfoldable pub const_or_static : Bool → Script Rule
const_or_static is_const =
    eat MUT_KW ▸ call (const_name is_const) ▸ call (const_params is_const) ▸ call (const_type is_const) ▸
    call const_value ▸ call (const_where is_const) ▸ expect SEMICOLON ▸ done

unfoldable pub konst : Script Rule
konst = eat TYPE_KW ▸ token CONST_KW ▸ call (const_or_static true) ▸ finish CONST ▸ done

unfoldable pub static_ : Script Rule
static_ = token STATIC_KW ▸ call (const_or_static false) ▸ finish STATIC ▸ done
