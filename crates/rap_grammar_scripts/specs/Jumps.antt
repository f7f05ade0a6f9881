-- Jumps: `return`, `break` and their like.
-- In the Rust crate: `grammar/expressions/atom.rs`.
use Rattle.std.specs.Prelude.{Bool, false}
use Rattle.rap_base.specs.TokenKind.{L_CURLY, LIFETIME_IDENT, RETURN_KW, BECOME_KW, YIELD_KW, DO_KW, YEET_KW, CONTINUE_KW, BREAK_KW}
use Rattle.rap_base.specs.NodeKind.{RETURN_EXPR, BECOME_EXPR, YIELD_EXPR, YEET_EXPR, CONTINUE_EXPR, BREAK_EXPR}
use Rattle.rap_grammar_scripts.specs.First.{is_expr_first}
use Rattle.rap_grammar_scripts.specs.Names.{lifetime}
use Rattle.rap_grammar_scripts.specs.Script.{Script, token, start, finish}
use Rattle.rap_grammar_scripts.specs.Test.{Test, negated, also, told}
use Rattle.rap_grammar_scripts.specs.ThroughKnot.{expr}
use Rattle.rap_grammar_scripts.specs.Words.{done, ◌▸◌, call, optional, eat_as, next_is, next_so, is_at}
use Rattle.rap_grammar_scripts.specs.declared.arguments.Restrictions.{Restrictions}
use Rattle.rap_grammar_scripts.specs.declared.rule.Rule.{Rule}

-- an operand follows: an expression begins and, where a block follows, it is no block
abbrev pub has_operand : Bool → Test
has_operand before_block =
    also (next_so is_expr_first) (negated (also (told before_block) (next_is L_CURLY)))

-- an operand that may be missing
unfoldable pub opt_expr : Bool → Script Rule
opt_expr before_block = optional (has_operand before_block) (call expr ▸ done)

-- the label of a jump, if there is one
unfoldable pub opt_lifetime : Script Rule
opt_lifetime = optional (is_at LIFETIME_IDENT) lifetime

unfoldable pub return_expr : Script Rule
return_expr = start ▸ token RETURN_KW ▸ call (opt_expr false) ▸ finish RETURN_EXPR ▸ done

unfoldable pub become_expr : Script Rule
become_expr = start ▸ token BECOME_KW ▸ call expr ▸ finish BECOME_EXPR ▸ done

unfoldable pub yield_expr : Script Rule
yield_expr = start ▸ token YIELD_KW ▸ call (opt_expr false) ▸ finish YIELD_EXPR ▸ done

unfoldable pub yeet_expr : Script Rule
yeet_expr = start ▸ token DO_KW ▸ eat_as YEET_KW ▸ call (opt_expr false) ▸ finish YEET_EXPR ▸ done

unfoldable pub continue_expr : Script Rule
continue_expr = start ▸ token CONTINUE_KW ▸ call opt_lifetime ▸ finish CONTINUE_EXPR ▸ done

unfoldable pub break_expr : Restrictions → Script Rule
break_expr r = start ▸ token BREAK_KW ▸ call opt_lifetime ▸ call (opt_expr r.forbid_structs) ▸ finish BREAK_EXPR ▸ done
