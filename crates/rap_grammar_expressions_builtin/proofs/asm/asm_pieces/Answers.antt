use Rattle.std.proofs.Common.{arith}
use Rattle.rap_grammar_frame.proofs.Steps.{turn}
use Rattle.rap_grammar_expressions_builtin.proofs.Lines.{piece_turned, piece_moved}
use Rattle.rap_grammar_expressions_builtin.proofs.asm.asm_pieces.Goals as goal

pub pieces-preserved : goal.pieces-preserved
pieces-preserved g c =
    let s = rw c.in-Some.is at c.in_ok-allow.ensures.script in
    let l =
    piece_moved _ _ _ _ c.at.ensures c.pieces-test.true c.at-in-pieces.ensures c.if-not-at.true
    c.in_ok-expect.ensures.state c.at-in-pieces-2.ensures c.if-at.false s in
    record {
      left = omega (arith, l, c.pieces.invariant.left);
      script =
          turn c.pieces.invariant.script
          (piece_turned _ _ _ _ c.at.ensures c.pieces-test.true c.at-in-pieces.ensures c.if-not-at.true
          c.in_ok-expect.ensures.state c.at-in-pieces-2.ensures c.if-at.false s) l;
    }

pub pieces-smaller : goal.pieces-smaller
pieces-smaller g c =
    piece_moved _ _ _ _ c.at.ensures c.pieces-test.true c.at-in-pieces.ensures c.if-not-at.true
    c.in_ok-expect.ensures.state c.at-in-pieces-2.ensures c.if-at.false (rw c.in-Some.is at c.in_ok-allow.ensures.script)
