use Rattle.rap_grammar_scripts.specs.GenericParams.{attributed_param}
use Rattle.rap_grammar_frame.proofs.Steps.{by_start, by_rule, to_end}
use Rattle.rap_grammar_facts.proofs.GenericParams.{grew_attributed_param, took_on_attributed_param}
use Rattle.rap_grammar_generics.proofs.generic_params.GenericParamElement.parse.Goals as goal

pub returns-clause-grew : goal.returns-clause-grew
unfolding attributed_param
returns-clause-grew g c =
    grew_attributed_param _ c.args.p.now c.generic_param.new.p
    (by_start c.in_ok-m.ensures.state
    (by_rule c.in_ok-outer_attrs.ensures.script
    (to_end c.in_ok-found.ensures.script)))

pub returns-clause-took : goal.returns-clause-took
unfolding attributed_param
returns-clause-took g c =
    took_on_attributed_param _ c.args.p.now c.generic_param.new.p
    (by_start c.in_ok-m.ensures.state
    (by_rule c.in_ok-outer_attrs.ensures.script
    (to_end c.in_ok-found.ensures.script)))
