-- When a part of inline assembly takes a token, and what follows the word that says which way an operand goes.
use Rattle.std.proofs.Common.{◌≡◌, ◌<◌, Bool, true, false, Some, ℕ, refl}
use Rattle.rap_base.specs.NodeKind.{ASM_REG_OPERAND}
use Rattle.rap_base.specs.TokenKind.{EOF, R_PAREN, COMMA}
use Rattle.rap_events.specs.Composite.{is_at}
use Rattle.rap_events.specs.State.{state, Expected}
use Rattle.rap_events.specs.declared.parser.Parser.{Parser}
use Rattle.rap_grammar_scripts.specs.Asm as asm
use Rattle.rap_grammar_scripts.specs.EffectBlocks.{is_effect_block}
use Rattle.rap_grammar_scripts.specs.Exec.{Does}
use Rattle.rap_grammar_scripts.specs.Postfix.{is_method_call}
use Rattle.rap_grammar_scripts.specs.Ranges.{has_range_end}
use Rattle.rap_grammar_scripts.specs.Script.{Script, Outcome, something, again, finish}
use Rattle.rap_grammar_scripts.specs.Stand.{Stand}
use Rattle.rap_grammar_scripts.specs.Words.{done}
use Rattle.rap_grammar_scripts.specs.declared.rule.Rule.{Rule}
use Rattle.rap_grammar_scripts.proofs.Scripts.{scripts}
use Rattle.rap_grammar_frame.proofs.Steps.{On, by_rule, else_by, by_expect, to_end}
use Rattle.rap_grammar_facts.proofs.Moved.{turn_moves, turn_moved}

pub piece_moves : (allow_templates : Bool) → turn_moves (asm.pieces_turn allow_templates false) ≡ true
unfolding scripts is_effect_block is_method_call has_range_end
piece_moves true = refl
piece_moves false = refl

pub piece_turned : {n : ℕ} (allow_templates : Bool) {a b x y z w : Bool} (p q r : Parser) → x ≡ is_at EOF (state p).rest →
    x ≡ false → y ≡ is_at R_PAREN (state p).rest → y ≡ false → Expected (state p) (state q) COMMA w →
    z ≡ is_at R_PAREN (state q).rest → z ≡ false →
    Does n (asm.asm_piece allow_templates) (again a b) (state q) (state r) →
    Does n (asm.pieces_turn allow_templates false) (again a b) (state p) (state r)
piece_turned allow_templates p q r e f h i x k l d = else_by e f (else_by h i (by_expect x (else_by k l (to_end d))))

pub piece_moved : {n : ℕ} (allow_templates : Bool) {a b x y z w : Bool} (p q r : Parser) →
    x ≡ is_at EOF (state p).rest → x ≡ false → y ≡ is_at R_PAREN (state p).rest → y ≡ false →
    Expected (state p) (state q) COMMA w → z ≡ is_at R_PAREN (state q).rest → z ≡ false →
    Does n (asm.asm_piece allow_templates) (again a b) (state q) (state r) → (state r).left < (state p).left
piece_moved allow_templates p q r e f h i x k l d =
    turn_moved p r (piece_turned allow_templates p q r e f h i x k l d) (piece_moves allow_templates)

-- an operand after the word that says which way it goes
pub by_dir : {j : ℕ} (b : Bool) (n : Script Rule) {p r q : Stand} {v : Outcome} →
    On j (asm.reg_operand b) p r something → On j (finish ASM_REG_OPERAND done) r q v →
    On j (asm.by_way (asm.of_way (Some b)) n) p q v
by_dir true n f d = by_rule f d
by_dir false n f d = by_rule f d
