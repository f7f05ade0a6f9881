use Rattle.std.proofs.Common.{◌≡◌, ◌≢◌, ℕ, ◌==◌, sym, ap, ◌∙◌}
use Rattle.std.proofs.lemmas.Bool.{eqb-true}
use Rattle.rap_base.specs.TokenKind.{EOF, IDENT}
use Rattle.rap_events.specs.State.{state, next_contextual, next}
use Rattle.rap_events.proofs.Records.{contextual_at-drop, kind_at-drop}
use Rattle.rap_events.proofs.Composites.{reads_as_contextual}
use Rattle.rap_events.proofs.parser.Parser.at_contextual_kw.Goals as goal

pub returns-clause-here : goal.returns-clause-here
unfolding state
returns-clause-here c =
    let s = c.args.self.now in
    let e : c.contextual_kind.result ≡ next_contextual (state s) = c.contextual_kind.ensures.contextual ∙ contextual_at-drop s.input.now s.pos in
    c.eq.ensures ∙ ap (λ (k : ℕ). k == c.args.kw) e

pub returns-clause-reads_as : goal.returns-clause-reads_as
unfolding state
returns-clause-reads_as c =
    let s = c.args.self.now in
    λ t.
    let kw : c.contextual_kind.result ≡ c.args.kw = eqb-true c.contextual_kind.result c.args.kw (sym c.eq.ensures ∙ t) in
    let e : next_contextual (state s) ≡ c.args.kw = sym (c.contextual_kind.ensures.contextual ∙ contextual_at-drop s.input.now s.pos) ∙ kw in
    let some : c.contextual_kind.result ≢ EOF = λ z. c.requires (sym kw ∙ z) in
    let ident : next (state s) ≡ IDENT = sym (kind_at-drop s.input.now s.pos) ∙ c.contextual_kind.ensures.identifier some in
    reads_as_contextual (state s).rest c.args.kw c.requires e ident
