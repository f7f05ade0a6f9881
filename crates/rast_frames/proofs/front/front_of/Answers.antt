use Rattle.std.proofs.Common.{◌+◌, refl, inr, arith}
use Rattle.rast_frames.proofs.HeaderLemmas.{end_within}
use Rattle.rast_frames.proofs.front.front_of.Goals as goal

pub overflow_sub-bytes : goal.overflow_sub-bytes
overflow_sub-bytes c = omega (arith, end_within c.args.bytes.now c.in-Some.end c.in-Some.ensures)

pub returns-then-bytes-start : goal.returns-then-bytes-start
returns-then-bytes-start c =
    inr
    record {
      start = c.in-Some.end + 4;
      long = c.in-Ok.length;
      header = record { end = c.in-Some.end; first = c.in-Some.ensures; start_is = refl; says = c.in-Ok.ensures };
      small = c.if-length-limit.false;
      short = omega arith;
    }

pub returns-else-bytes-start : goal.returns-else-bytes-start
returns-else-bytes-start c = record {
  long = c.in-Ok.length;
  header = record { end = c.in-Some.end; first = c.in-Some.ensures; start_is = refl; says = c.in-Ok.ensures };
  small = c.if-length-limit.false;
  end_is = refl;
  within = omega (arith, end_within c.args.bytes.now c.in-Some.end c.in-Some.ensures);
}
