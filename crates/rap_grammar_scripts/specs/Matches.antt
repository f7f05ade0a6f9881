-- `match` and its arms.
-- In the Rust crate: `grammar/expressions/atom.rs`.
use Rattle.std.specs.Prelude.{codes, Bool, if◌then◌else◌, [], ◌∷◌, false}
use Rattle.rap_base.specs.TokenKind.{EQ, IF_KW, COMMA, R_CURLY, FAT_ARROW, EOF, L_CURLY, MATCH_KW}
use Rattle.rap_base.specs.NodeKind.{MATCH_GUARD, MATCH_ARM, MATCH_ARM_LIST, MATCH_EXPR}
use Rattle.rap_grammar_scripts.specs.Attributes.{outer_attrs, inner_attrs}
use Rattle.rap_grammar_scripts.specs.Blocks.{error_block}
use Rattle.rap_grammar_scripts.specs.Script.{Script, test, token, report, start, finish, after, give, skip, again, loop}
use Rattle.rap_grammar_scripts.specs.ThroughKnot.{expr, pattern, arm_pattern, expr_stmt, expr_no_struct}
use Rattle.rap_grammar_scripts.specs.Words.{done, ◌▸◌, call, optional, is_block, expect, choose, is_at}
use Rattle.rap_grammar_scripts.specs.declared.rule.Rule.{Rule}

unfoldable pub match_guard : Script Rule
match_guard =
    start ▸ token IF_KW ▸
    test (is_at EQ) (report (codes "expected expression") ▸ finish MATCH_GUARD ▸ done)
    (call expr ▸ finish MATCH_GUARD ▸ done)

-- the pattern of an arm, with its guard
unfoldable pub arm_head : Script Rule
arm_head = call arm_pattern ▸ optional (is_at IF_KW) match_guard

-- the comma after an arm: it may be missing after a block, and before the brace that closes
unfoldable pub arm_end : Bool → Script Rule
arm_end is_block =
    test (is_at COMMA) (token COMMA ▸ done)
    (if is_block then done else test (is_at R_CURLY) done (report (codes "expected `,`") ▸ done))

-- the body of an arm, after its arrow
unfoldable pub arm_body : Script Rule
arm_body =
    test (is_at COMMA) (token COMMA ▸ report (codes "expected expression") ▸ done)
    (after expr_stmt (λ v. arm_end (is_block v)))

unfoldable pub match_arm : Script Rule
match_arm = start ▸ call outer_attrs ▸ call arm_head ▸ expect FAT_ARROW ▸ call arm_body ▸ finish MATCH_ARM ▸ done

abbrev pub arms_turn : Bool → Bool → Script Rule
arms_turn a b =
    choose
    ((is_at EOF, done)
    ∷ (is_at R_CURLY, done)
    ∷ (is_at L_CURLY, call (error_block (codes "expected match arm")) ▸ give (again a b))
    ∷ (is_at COMMA, skip (codes "expected pattern") ▸ give (again a b))
    ∷ [])
    (call match_arm ▸ give (again a b))

-- the arms in the braces of a `match`
unfoldable pub match_arms : Script Rule
match_arms = loop arms_turn false false

unfoldable pub match_arm_list : Script Rule
match_arm_list =
    start ▸ token L_CURLY ▸ call inner_attrs ▸ call match_arms ▸ expect R_CURLY ▸ finish MATCH_ARM_LIST ▸ done

unfoldable pub match_expr : Script Rule
match_expr =
    start ▸ token MATCH_KW ▸ call expr_no_struct ▸
    test (is_at L_CURLY) (call match_arm_list ▸ finish MATCH_EXPR ▸ done)
    (report (codes "expected `{`") ▸ finish MATCH_EXPR ▸ done)
