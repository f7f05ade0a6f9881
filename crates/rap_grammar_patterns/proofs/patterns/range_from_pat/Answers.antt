use Rattle.std.proofs.Common.{rules}
use Rattle.rap_grammar_frame.proofs.Done.{marker_kept}
use Rattle.rap_grammar_facts.proofs.Patterns.{level_atom_pat}
use Rattle.rap_grammar_patterns.proofs.patterns.range_from_pat.Goals as goal

pub complete-requires-2-clause-newest : goal.complete-requires-2-clause-newest
complete-requires-2-clause-newest g c =
    let k = marker_kept c.bump.new.self c.atom_pat.new.p c.in_ok-atom_pat.ensures.script (level_atom_pat _) in
    search rules
