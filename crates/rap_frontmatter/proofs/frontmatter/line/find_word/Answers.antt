use Rattle.std.proofs.Common.{sym, ap, ◌∙◌, ◌-◌, length, arith}
use Rattle.std.proofs.lemmas.List.Sums.{prefix_len-le-length, suffix_len-le-length}
use Rattle.rap_frontmatter.specs.Script.{is_horizontal}
use Rattle.rap_frontmatter.proofs.ScriptLines.{all_blank, has_word}
use Rattle.rap_frontmatter.proofs.frontmatter.line.find_word.Goals as goal

pub returns-then-start-line : goal.returns-then-start-line
returns-then-start-line c = all_blank _ (sym c.count_blank_prefix-start.ensures ∙ c.if-start-line.true)

pub overflow_sub-result : goal.overflow_sub-result
overflow_sub-result c = omega (arith, suffix_len-le-length is_horizontal c.args.line.now)

pub returns : goal.returns
returns c = has_word _ _ _ c.count_blank_prefix-start.ensures (omega (arith, prefix_len-le-length is_horizontal c.args.line.now)) (ap (λ n. length c.args.line.now - n) c.count_blank_end.ensures)
