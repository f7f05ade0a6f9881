use Rattle.std.proofs.Common.{◌≡◌, ◌≢◌, sym, ◌∙◌}
use Rattle.std.proofs.lemmas.Bool.{not-true, not-false, eqb-true, eqb-false}
use Rattle.rap_base.specs.TokenKind.{EOF}
use Rattle.rap_events.specs.State.{state, next}
use Rattle.rap_events.proofs.Skips.{rest_at_end, inside_some, inside_end, skipped_whole}
use Rattle.rap_events.proofs.parser.Parser.err_and_bump.Goals as goal
use Rattle.rap_events.proofs.parser.Parser.err_and_bump.Goals.{then-ne+in_ok-bump_any, else-ne}

pub returns-clause-state : goal.returns-clause-state
returns-clause-state c =
    let s0 = state c.args.self.now in
    let s1 = state c.start.new.self in
    let s2 = state c.error.new.self in
    let bytes = c.args.message.now in
    let done = c.in_ok-complete.ensures.state.0 in
    elim c.if-ne.branch [
      | then-ne+in_ok-bump_any w ↦
          let some : next s2 ≢ EOF = λ e. eqb-false c.current.result EOF (not-true _ (sym c.ne.ensures ∙ w.if-ne.true)) (c.current.ensures.kind ∙ e) in
          let s3 = state w.bump_any.new.self in
          skipped_whole s0 _ _ bytes (inside_some s0 s1 s2 s3 c.in_ok-marker.marker.pos.value bytes c.in_ok-marker.ensures.state c.in_ok-error.ensures.state some w.in_ok-bump_any.ensures.state) (rw (← w.self-is) done)
      | else-ne w ↦
          let over : next s2 ≡ EOF = sym c.current.ensures.kind ∙ eqb-true c.current.result EOF (not-false _ (sym c.ne.ensures ∙ w.if-ne.false)) in
          skipped_whole s0 s2 _ bytes (inside_end s0 s1 s2 c.in_ok-marker.marker.pos.value bytes c.in_ok-marker.ensures.state c.in_ok-error.ensures.state (rest_at_end c.error.new.self over)) (rw (← w.self-is) done)
    ]
