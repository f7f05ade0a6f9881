use Rattle.rap_tests.proofs.frames.reads_a_byte_at_a_time.Goals as goal

pub pass-requires : goal.pass-requires
pass-requires c d = (8, d.in_ok-front.ensures)
