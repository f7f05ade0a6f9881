use Rattle.std.proofs.Common.{rules}
use Rattle.rap_grammar_frame.proofs.Done.{marker_kept}
use Rattle.rap_grammar_facts.proofs.GenericParams.{level_bare_bound}
use Rattle.rap_grammar_generics.proofs.generic_params.type_bound.Goals as goal

pub complete-requires-clause-newest : goal.complete-requires-clause-newest
complete-requires-clause-newest g c =
    let k = marker_kept c.eat.new.self c.bare_bound.new.p c.in_ok-bare_bound.ensures.script level_bare_bound in
    search rules
