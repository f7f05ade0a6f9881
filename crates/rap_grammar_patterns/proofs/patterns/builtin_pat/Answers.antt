use Rattle.std.proofs.Common.{rules}
use Rattle.rap_grammar_scripts.specs.Patterns.{builtin_pat}
use Rattle.rap_grammar_scripts.proofs.Ends.{gives}
use Rattle.rap_grammar_frame.proofs.Steps.{by_bump, by_bear, by_start, by_complete, by_rule, by_expect, by_eat, ate_as, not_ate_as}
use Rattle.rap_grammar_patterns.proofs.patterns.builtin_pat.Goals as goal

pub returns-then-branch-clause-script : goal.returns-then-branch-clause-script
unfolding builtin_pat
returns-then-branch-clause-script g c = by_start c.in_ok-m.ensures.state
    (by_bear (search rules) c.in_ok-bump_remap.ensures.state
    (by_bump (search rules) c.in_ok-bump.ensures.state
    (ate_as c.in_ok-eat_contextual_kw.ensures.state c.if-branch.true
    (by_expect c.in_ok-expect.ensures.state
    (by_rule c.in_ok-pattern.ensures.script
    (by_expect c.in_ok-expect-2.ensures.state
    (by_complete c.in_ok-cm.ensures.state.0 gives)))))))

pub returns-then-branch-2-clause-script : goal.returns-then-branch-2-clause-script
unfolding builtin_pat
returns-then-branch-2-clause-script g c = by_start c.in_ok-m.ensures.state
    (by_bear (search rules) c.in_ok-bump_remap.ensures.state
    (by_bump (search rules) c.in_ok-bump.ensures.state
    (not_ate_as c.in_ok-eat_contextual_kw.ensures.state c.if-branch.false
    (ate_as c.in_ok-eat_contextual_kw-2.ensures.state c.if-branch-2.true
    (by_expect c.in_ok-expect-3.ensures.state
    (by_rule c.in_ok-cfg_predicate.ensures.script
    (by_eat c.in_ok-eat.ensures.state
    (by_expect c.in_ok-expect-4.ensures.state
    (by_complete c.in_ok-cm-2.ensures.state.0 gives)))))))))
