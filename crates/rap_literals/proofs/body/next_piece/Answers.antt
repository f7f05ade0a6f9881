use Rattle.std.proofs.Common.{Ok, arith, sym, ◌∙◌}
use Rattle.rap_lexer.proofs.EscapeGaps.{no_longer}
use Rattle.rap_lexer.specs.Escape.{is_gap}
use Rattle.rap_lexer.specs.declared.escape.Fault.TheVariants.{NulInCStr}
use Rattle.rap_literals.proofs.Pieces.{gap_continues, character_continues, fault_first, faulty_first, takes_one, within_limit, limit_of_byte}
use Rattle.rap_literals.proofs.body.next_piece.Goals as goal

pub returns-then-begins_gap-clause-reads : goal.returns-then-begins_gap-clause-reads
returns-then-begins_gap-clause-reads c = gap_continues c.args.mode c.args.first c.args.rest.now c.skip_gap.new.rest (sym c.begins_gap.ensures ∙ c.if-begins_gap.true) c.skip_gap.ensures

pub returns-then-begins_gap-clause-shorter : goal.returns-then-begins_gap-clause-shorter
returns-then-begins_gap-clause-shorter c = rw c.skip_gap.ensures (no_longer is_gap c.args.rest.now)

pub piece_of-requires : goal.piece_of-requires
piece_of-requires c = λ e. omega (arith, within_limit c.args.mode c.args.first c.args.rest.now _ c.in-Ok.c (sym c.begins_hex-is_hex.ensures ∙ e) c.in-Ok.ensures, limit_of_byte c.args.mode)

pub returns-in-Err-clause-reads : goal.returns-in-Err-clause-reads
returns-in-Err-clause-reads c = faulty_first c.args.mode c.args.first c.args.rest.now _ c.character.new.rest (sym c.begins_gap.ensures ∙ c.if-begins_gap.false) c.in-Err.ensures

pub returns-in-Err-clause-shorter : goal.returns-in-Err-clause-shorter
returns-in-Err-clause-shorter c = omega (arith, takes_one c.args.mode c.in-Err.ensures)

pub returns-then-is_nul-clause-reads : goal.returns-then-is_nul-clause-reads
returns-then-is_nul-clause-reads c = fault_first c.args.mode c.args.first c.args.rest.now (Ok c.in-Ok.c) NulInCStr _ (sym c.begins_gap.ensures ∙ c.if-begins_gap.false) c.in-Ok.ensures c.if-is_nul.ensures

pub returns-then-is_nul-clause-shorter : goal.returns-then-is_nul-clause-shorter
returns-then-is_nul-clause-shorter c = omega (arith, takes_one c.args.mode c.in-Ok.ensures)

pub returns-else-is_nul-clause-reads : goal.returns-else-is_nul-clause-reads
returns-else-is_nul-clause-reads c = character_continues c.args.mode c.args.first c.args.rest.now c.in-Ok.c _ _ (sym c.begins_gap.ensures ∙ c.if-begins_gap.false) c.in-Ok.ensures c.if-is_nul.ensures (rw c.begins_hex-is_hex.ensures at c.piece_of.ensures.bytes)

pub returns-else-is_nul-clause-within : goal.returns-else-is_nul-clause-within
returns-else-is_nul-clause-within c = c.piece_of.ensures.within c.args.mode (λ e. within_limit c.args.mode c.args.first c.args.rest.now _ c.in-Ok.c (sym c.begins_hex-is_hex.ensures ∙ e) c.in-Ok.ensures)

pub returns-else-is_nul-clause-shorter : goal.returns-else-is_nul-clause-shorter
returns-else-is_nul-clause-shorter c = omega (arith, takes_one c.args.mode c.in-Ok.ensures)
