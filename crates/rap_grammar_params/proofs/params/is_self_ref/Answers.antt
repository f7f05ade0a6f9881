use Rattle.std.proofs.Common.{◌≡◌, ℕ, true, sym, ap, ◌∙◌}
use Rattle.rap_base.specs.TokenKind.{AMP, MUT_KW}
use Rattle.rap_events.specs.Composite.{is_at}
use Rattle.rap_events.specs.State.{state}
use Rattle.rap_grammar_scripts.specs.Params.{is_isolated_self}
use Rattle.rap_grammar_scripts.specs.Test.{holds}
use Rattle.rap_grammar_frame.proofs.Lookahead.{reach, past_ref}
use Rattle.rap_grammar_params.proofs.params.is_self_ref.Goals as goal

pub returns-then-at : goal.returns-then-at
returns-then-at c =
    let rs = (state c.args.p.now).rest in
    let amp : is_at AMP rs ≡ true = sym c.at.ensures ∙ c.if-at.true in
    let n = c.past-then-at.ensures.past ∙ ap (λ (k : ℕ). reach MUT_KW k rs) c.past.ensures.past in
    rw amp (c.is_isolated_self.ensures ∙ ap (λ (k : ℕ). holds (is_isolated_self k) rs) n ∙ sym (past_ref rs))
