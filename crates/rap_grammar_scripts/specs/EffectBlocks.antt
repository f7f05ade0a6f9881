-- Blocks with an effect: `try`, `unsafe`, `async`, `gen` and `const` before a block.
-- In the Rust crate: `grammar/expressions/atom.rs`.
use Rattle.std.specs.Prelude.{codes, [], ◌∷◌}
use Rattle.rap_base.specs.TokenKind.{TRY_KW, BIKESHED_KW, L_CURLY, CONST_KW, UNSAFE_KW, ASYNC_KW, GEN_KW, MOVE_KW, FOR_KW}
use Rattle.rap_base.specs.NodeKind.{BLOCK_EXPR, TRY_BLOCK_MODIFIER}
use Rattle.rap_events.specs.State.{expected}
use Rattle.rap_grammar_scripts.specs.Blocks.{stmt_list}
use Rattle.rap_grammar_scripts.specs.Closures.{closure_expr}
use Rattle.rap_grammar_scripts.specs.Control.{for_expr}
use Rattle.rap_grammar_scripts.specs.First.{one_of, is_closure}
use Rattle.rap_grammar_scripts.specs.Script.{Script, start, finish, block, test, token, bear, report, any, nothing, give, skip}
use Rattle.rap_grammar_scripts.specs.Test.{Test, also, or_else}
use Rattle.rap_grammar_scripts.specs.ThroughKnot.{type_}
use Rattle.rap_grammar_scripts.specs.Words.{done, ◌▸◌, call, reads_as, eat, next_is, choose, next_so, kind_is, is_at}
use Rattle.rap_grammar_scripts.specs.declared.rule.Rule.{Rule}

unfoldable pub plain_block : Script Rule
plain_block = start ▸ call stmt_list ▸ finish BLOCK_EXPR ▸ done

-- `try`, and the type of the block after it
unfoldable pub try_modifier : Script Rule
try_modifier =
    start ▸ token TRY_KW ▸
    test (reads_as BIKESHED_KW) (bear BIKESHED_KW ▸ call type_ ▸ finish TRY_BLOCK_MODIFIER ▸ done)
    (finish TRY_BLOCK_MODIFIER ▸ done)

unfoldable pub try_block_expr : Script Rule
try_block_expr =
    start ▸ call try_modifier ▸
    test (is_at L_CURLY) (call stmt_list ▸ finish BLOCK_EXPR ▸ done)
    (report (codes "expected a block") ▸ finish BLOCK_EXPR ▸ done)

-- A block comes next, with what it is before its brace: `const`, `unsafe`, `async` or `gen`; and with `move` after
-- `async`, `gen` and `async gen`.
unfoldable pub is_effect_block : Test
is_effect_block =
    or_else (also (next_so (one_of (CONST_KW ∷ UNSAFE_KW ∷ ASYNC_KW ∷ GEN_KW ∷ []))) (kind_is 1 L_CURLY))
    (or_else (also (next_is ASYNC_KW) (also (kind_is 1 GEN_KW) (kind_is 2 L_CURLY)))
    (or_else (also (next_so (one_of (ASYNC_KW ∷ GEN_KW ∷ []))) (also (kind_is 1 MOVE_KW) (kind_is 2 L_CURLY)))
    (also (next_is ASYNC_KW) (also (kind_is 1 GEN_KW) (also (kind_is 2 MOVE_KW) (kind_is 3 L_CURLY))))))

-- what stands before the brace of such a block
unfoldable pub effects : Script Rule
effects = any ▸ eat GEN_KW ▸ eat MOVE_KW ▸ done

unfoldable pub effect_block : Script Rule
effect_block = start ▸ call effects ▸ call stmt_list ▸ finish BLOCK_EXPR ▸ done

-- a block with an effect, a closure, a `try` block or a `for` loop
unfoldable pub effect_expr : Script Rule
effect_expr =
    choose
    ((is_effect_block, call effect_block ▸ give block)
    ∷ (is_closure, closure_expr)
    ∷ (next_is TRY_KW, call try_block_expr ▸ give block)
    ∷ (next_is FOR_KW, call for_expr ▸ give block)
    ∷ [])
    (skip (codes "expected expression") ▸ give nothing)
