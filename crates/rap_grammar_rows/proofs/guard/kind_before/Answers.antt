use Rattle.std.proofs.Common.{◌+◌, ◌∙◌, refl, arith}
use Rattle.rap_grammar_rows.proofs.Coming.{kind_within, kind_beyond}
use Rattle.rap_grammar_rows.proofs.guard.kind_before.Goals as goal

pub returns-then-further-end : goal.returns-then-further-end
returns-then-further-end c ks s =
    c.kind.ensures ∙
    kind_within c.args.input.now ks c.args.at c.args.end c.args.further (c.args.at + c.args.further) c.requires.start
    c.requires.end refl (omega arith) s

pub returns-else-further-end : goal.returns-else-further-end
returns-else-further-end c ks s =
    kind_beyond c.args.input.now ks c.args.at c.args.end c.args.further c.requires.start c.requires.end (omega arith) s
