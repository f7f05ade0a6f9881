-- What a label takes.
use Rattle.std.proofs.Common.{◌≡◌, ℕ, List, true, ap, ◌∙◌, drop}
use Rattle.rap_base.specs.TokenKind.{COLON}
use Rattle.rap_events.specs.Composite.{is_at}
use Rattle.rap_events.specs.Record.{Record}
use Rattle.rap_events.specs.State.{State, NthAt, Opened}
use Rattle.rap_grammar_scripts.specs.Exec.{Ends}
use Rattle.rap_grammar_scripts.specs.Names.{lifetime}
use Rattle.rap_grammar_scripts.specs.Script.{something}
use Rattle.rap_grammar_scripts.specs.Stand.{Stand, stand}
use Rattle.rap_grammar_frame.proofs.Lookahead.{past_lifetime}

-- after the lifetime comes the colon that was seen
pub colon_left : {s t : State} {q : Stand} {m : ℕ} → Opened s t m →
    ((depth : ℕ) → Ends depth lifetime (stand t) q something) → NthAt s 1 COLON → is_at COLON q.rest ≡ true
colon_left o h e =
    ap (λ (x : List Record). is_at COLON x) (past_lifetime h ∙ ap (λ (x : List Record). drop 1 x) o.recorded.rest) ∙ e
