use Rattle.std.proofs.Common.{◌≡◌, drop}
use Rattle.rap_grammar_table.specs.Known.{among}
use Rattle.rap_fields.proofs.rule.Step.has.Given as goal

-- of the kinds that are still to come the answer is that of all
abbrev pub invariant-loop-one : goal.invariant-loop-one
invariant-loop-one l = among (drop l.one-index l.one-items) l.fn.kind ≡ among l.self.kinds.now l.fn.kind
