use Rattle.std.proofs.lemmas.Str.Pattern.{strip_prefix_char}
use Rattle.rap_literals.proofs.Numbers.{stripped}
use Rattle.rap_literals.proofs.digits.strip.Goals as goal

pub returns : goal.returns
returns c = stripped c.args.c c.args.text.now c.strip_prefix.result (strip_prefix_char c.args.c c.args.text.now c.strip_prefix.result c.strip_prefix.ensures.cases c.requires)
