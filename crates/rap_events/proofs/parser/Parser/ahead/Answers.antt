use Rattle.std.proofs.Common.{◌≡◌, ℕ, ◌-◌, length, length-drop, drop, sym, ap, ◌∙◌, min}
use Rattle.std.proofs.lemmas.List.{drop-drop, drop_min}
use Rattle.rap_events.specs.State.{state}
use Rattle.rap_events.proofs.parser.Parser.ahead.Goals as goal

pub returns : goal.returns
unfolding state
returns c =
    let s = c.args.self.now in
    let left : s.len - s.pos ≡ length (drop s.pos s.input.now) = ap (λ (n : ℕ). n - s.pos) s.ends ∙ sym (length-drop s.pos s.input.now) in
    let e : c.min.result ≡ min c.args.n (length (drop s.pos s.input.now)) = c.min.ensures ∙ ap (λ (n : ℕ). min c.args.n n) left in
    rw e (sym (drop-drop (min c.args.n (length (drop s.pos s.input.now))) s.pos s.input.now) ∙ drop_min c.args.n (drop s.pos s.input.now))
