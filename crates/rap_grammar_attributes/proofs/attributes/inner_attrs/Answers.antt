use Rattle.std.proofs.Common.{true, refl, sym, ◌∙◌, arith}
use Rattle.rap_events.specs.State.{state}
use Rattle.rap_grammar_scripts.specs.Attributes.{inner_attrs}
use Rattle.rap_grammar_scripts.specs.Exec.{Does}
use Rattle.rap_grammar_scripts.specs.Script.{something}
use Rattle.rap_grammar_scripts.proofs.Ends.{gives}
use Rattle.rap_grammar_frame.proofs.Steps.{then_by, else_by, by_rule, turn, last_turn, clash}
use Rattle.rap_grammar_facts.proofs.Attributes.{took_attr, grew_inner_attrs}
use Rattle.rap_grammar_attributes.proofs.attributes.inner_attrs.Goals as goal

pub attrs-preserved : goal.attrs-preserved
attrs-preserved g c =
    let t = took_attr true _ _ c.in_ok-attr.ensures.script in
    record {
      left = omega (arith, t.left, c.attrs.invariant.left);
      stays = λ e. absurd
          (clash (sym c.is_inner_attr_start.ensures ∙ c.attrs-test.true) (rw (c.attrs.invariant.stays e) e));
      script = turn c.attrs.invariant.script
          (then_by c.is_inner_attr_start.ensures c.attrs-test.true (by_rule c.in_ok-attr.ensures.script gives)) t.left;
    }

pub returns : goal.returns
unfolding inner_attrs
returns g c =
    let d : Does (g.G.Grammar.left c.args.g.now) inner_attrs something (state c.args.p.now) (state c.attrs.p) =
    last_turn c.attrs.invariant.script (else_by c.is_inner_attr_start.ensures c.attrs-test.false gives) refl in
    record { grew = grew_inner_attrs _ _ d; stays = c.attrs.invariant.stays; script = d }
