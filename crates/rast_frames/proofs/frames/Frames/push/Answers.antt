use Rattle.std.proofs.Common.{ℕ, List, ◌++◌, sym, ap, ◌∙◌, ◌-◌, drop, length, length-drop, arith}
use Rattle.std.proofs.lemmas.List.{take_all}
use Rattle.rast_frames.proofs.StreamLemmas.{comes}
use Rattle.rast_frames.specs.Reading.{Waiting}
use Rattle.rast_frames.proofs.frames.Frames.push.Goals as goal

pub returns-clause-come : goal.returns-clause-come
returns-clause-come c =
    let piece = c.args.piece.now in
    let compact = c.compact.new.self in
    let skip = ap (λ (w : Waiting). w.skip) c.compact.ensures.waiting in
    let bytes = ap (λ (w : Waiting). w.bytes) c.compact.ensures.waiting in
    let first = ap (λ (n : ℕ). drop n compact.bytes.items) c.compact.ensures.from in
    let rest = take_all (length piece - c.min-skipped.result) (drop c.min-skipped.result piece) (omega (arith, length-drop c.min-skipped.result piece)) in
    comes _ _ piece c.min-skipped.result
    (omega (arith, skip, c.min-skipped.ensures))
    (ap (λ (n : ℕ). drop n c.extend_from_slice.new.self.items) c.compact.ensures.from
    ∙ (c.in_ok-extend_from_slice.ensures.items ∙ (ap (λ (xs : List ℕ). compact.bytes.items ++ xs) rest ∙ ap (λ (xs : List ℕ). xs ++ drop c.min-skipped.result piece) (sym first ∙ bytes))))
    (omega (arith, skip))
