use Rattle.std.proofs.Common.{refl, ◌∙◌}
use Rattle.memchr.specs.Find.{is_byte, is_byte2}
use Rattle.rap_lexer.specs.Class.{is_in}
use Rattle.rap_lexer.specs.declared.lexer.run.Class.TheVariants.{InLine, InString, InRawString, InBlock}
use Rattle.rap_lexer.proofs.Runs.{first_run}
use Rattle.rap_lexer.proofs.lexer.run.text_run.Goals as goal

pub returns-in-InLine : goal.returns-in-InLine
returns-in-InLine c = rw c.in-InLine.is (c.unwrap_or.ensures ∙ first_run (is_in InLine) (is_byte 10) c.args.bytes.now c.memchr.result (λ b. refl) c.memchr.ensures)

pub returns-in-InString : goal.returns-in-InString
returns-in-InString c = rw c.in-InString.is (c.unwrap_or-in-InString.ensures ∙ first_run (is_in InString) (is_byte2 34 92) c.args.bytes.now c.memchr2.result (λ b. refl) c.memchr2.ensures)

pub returns-in-InRawString : goal.returns-in-InRawString
returns-in-InRawString c = rw c.in-InRawString.is (c.unwrap_or-in-InRawString.ensures ∙ first_run (is_in InRawString) (is_byte 34) c.args.bytes.now c.memchr-in-InRawString.result (λ b. refl) c.memchr-in-InRawString.ensures)

pub returns-in-InBlock : goal.returns-in-InBlock
returns-in-InBlock c = rw c.in-InBlock.is (c.unwrap_or-in-InBlock.ensures ∙ first_run (is_in InBlock) (is_byte2 47 42) c.args.bytes.now c.memchr2-in-InBlock.result (λ b. refl) c.memchr2-in-InBlock.ensures)
