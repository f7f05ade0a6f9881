use Rattle.std.proofs.Common.{[], ap, arith, refl, take}
use Rattle.rast_frames.specs.Stream.{waiting}
use Rattle.rast_server.proofs.Runs.{begun, none_consumed, ran_dry, ran_on, ran_out, reported_since}
use Rattle.rast_server.proofs.run.run.Goals as goal

pub pieces-init : goal.pieces-init
pieces-init g c = (
  record {
    input = [];
    read = none_consumed (g.R.Read.remaining c.args.input.now);
    served = begun (g.W.Write.contents c.args.out.now) c.new-server.result (waiting c.new-frames.result) c.new-server.ensures.stage c.new-server.ensures.documents c.new-frames.ensures;
  },
  refl,
)

pub pieces-preserved : goal.pieces-preserved
pieces-preserved g c = (
  ran_on (g.W.Write.contents c.args.out.now) (g.W.Write.contents c.pieces.out) (g.W.Write.contents c.serve.new.out)
      (g.R.Read.remaining c.args.input.now) (g.R.Read.remaining c.pieces.input) (g.R.Read.remaining c.read_piece.new.input)
      c.pieces.server c.serve.new.server (waiting c.pieces.frames) (waiting c.serve.new.frames) (take c.in-Ok.count c.read_piece.new.piece) c.in-Ok-serve.next
      c.pieces.invariant.0 c.in-Ok.ensures.read (λ i h. c.in-Ok-serve.ensures (g.W.Write.contents c.args.out.now) i h) c.in-Read.is,
  c.pieces.invariant.1,
)

pub returns-then-is_empty-clause-run : goal.returns-then-is_empty-clause-run
returns-then-is_empty-clause-run g c = λ small.
    ran_dry (g.W.Write.contents c.args.out.now) (g.W.Write.contents c.pieces.out)
    (g.R.Read.remaining c.args.input.now) (g.R.Read.remaining c.pieces.input) (g.R.Read.remaining c.read_piece.new.input)
    c.pieces.server (waiting c.pieces.frames) c.read_piece.new.piece c.in-Ok.count c.status.result
    c.pieces.invariant.0 c.in-Ok.ensures.read c.if-count-eq0.true (c.in-Ok.ensures.end c.if-count-eq0.true (omega arith))
    (c.is_empty.ensures.0 c.if-is_empty.true) c.status.ensures.value

pub returns-then-is_empty-clause-silent : goal.returns-then-is_empty-clause-silent
returns-then-is_empty-clause-silent g c = λ small. c.pieces.invariant.1

pub returns-in-Exit-clause-status : goal.returns-in-Exit-clause-status
returns-in-Exit-clause-status g c =
    let ends = (
    ran_out (g.W.Write.contents c.args.out.now) (g.W.Write.contents c.pieces.out) (g.W.Write.contents c.serve.new.out)
    (g.R.Read.remaining c.args.input.now) (g.R.Read.remaining c.pieces.input) (g.R.Read.remaining c.read_piece.new.input)
    c.pieces.server c.serve.new.server (waiting c.pieces.frames) (waiting c.serve.new.frames) (take c.in-Ok.count c.read_piece.new.piece) c.in-Ok-serve.next c.in-Exit.status
    c.pieces.invariant.0 c.in-Ok.ensures.read (λ i h. c.in-Ok-serve.ensures (g.W.Write.contents c.args.out.now) i h) c.in-Exit.is
    ) in
    omega (arith, ends.1)

pub returns-in-Exit-clause-run : goal.returns-in-Exit-clause-run
returns-in-Exit-clause-run g c = λ small. (
    ran_out (g.W.Write.contents c.args.out.now) (g.W.Write.contents c.pieces.out) (g.W.Write.contents c.serve.new.out)
    (g.R.Read.remaining c.args.input.now) (g.R.Read.remaining c.pieces.input) (g.R.Read.remaining c.read_piece.new.input)
    c.pieces.server c.serve.new.server (waiting c.pieces.frames) (waiting c.serve.new.frames) (take c.in-Ok.count c.read_piece.new.piece) c.in-Ok-serve.next c.in-Exit.status
    c.pieces.invariant.0 c.in-Ok.ensures.read (λ i h. c.in-Ok-serve.ensures (g.W.Write.contents c.args.out.now) i h) c.in-Exit.is
    ).0

pub returns-in-Exit-clause-silent : goal.returns-in-Exit-clause-silent
returns-in-Exit-clause-silent g c = λ small. c.pieces.invariant.1

pub returns-in-Exit-clause-reported : goal.returns-in-Exit-clause-reported
returns-in-Exit-clause-reported g c = λ two.
    let ends = (
    ran_out (g.W.Write.contents c.args.out.now) (g.W.Write.contents c.pieces.out) (g.W.Write.contents c.serve.new.out)
    (g.R.Read.remaining c.args.input.now) (g.R.Read.remaining c.pieces.input) (g.R.Read.remaining c.read_piece.new.input)
    c.pieces.server c.serve.new.server (waiting c.pieces.frames) (waiting c.serve.new.frames) (take c.in-Ok.count c.read_piece.new.piece) c.in-Ok-serve.next c.in-Exit.status
    c.pieces.invariant.0 c.in-Ok.ensures.read (λ i h. c.in-Ok-serve.ensures (g.W.Write.contents c.args.out.now) i h) c.in-Exit.is
    ) in
    absurd (omega (arith, two, ends.1))

pub returns-in_default-clause-reported : goal.returns-in_default-clause-reported
returns-in_default-clause-reported g c =
    reported_since c.fail.result (g.V.Write.contents c.pieces.err) (g.V.Write.contents c.args.err.now) (g.V.Write.contents c.fail.new.err)
    (ap g.V.Write.contents c.pieces.invariant.1) c.fail.ensures.reported

pub returns-then-count-eq0-clause-reported : goal.returns-then-count-eq0-clause-reported
returns-then-count-eq0-clause-reported g c =
    reported_since c.fail-then-count-eq0.result (g.V.Write.contents c.pieces.err) (g.V.Write.contents c.args.err.now) (g.V.Write.contents c.fail-then-count-eq0.new.err)
    (ap g.V.Write.contents c.pieces.invariant.1) c.fail-then-count-eq0.ensures.reported

pub returns-in_default-serve-clause-reported : goal.returns-in_default-serve-clause-reported
returns-in_default-serve-clause-reported g c =
    reported_since c.fail-in_default-serve.result (g.V.Write.contents c.pieces.err) (g.V.Write.contents c.args.err.now) (g.V.Write.contents c.fail-in_default-serve.new.err)
    (ap g.V.Write.contents c.pieces.invariant.1) c.fail-in_default-serve.ensures.reported

pub returns-in-CannotWrite-clause-reported : goal.returns-in-CannotWrite-clause-reported
returns-in-CannotWrite-clause-reported g c =
    reported_since c.fail-in-CannotWrite.result (g.V.Write.contents c.pieces.err) (g.V.Write.contents c.args.err.now) (g.V.Write.contents c.fail-in-CannotWrite.new.err)
    (ap g.V.Write.contents c.pieces.invariant.1) c.fail-in-CannotWrite.ensures.reported

pub returns-in-Lost-clause-reported : goal.returns-in-Lost-clause-reported
returns-in-Lost-clause-reported g c =
    reported_since c.fail-in-Lost.result (g.V.Write.contents c.pieces.err) (g.V.Write.contents c.args.err.now) (g.V.Write.contents c.fail-in-Lost.new.err)
    (ap g.V.Write.contents c.pieces.invariant.1) c.fail-in-Lost.ensures.reported
