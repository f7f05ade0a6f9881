-- What follows of calls that do what a script does with no `Grammar`.
use Rattle.std.proofs.Common.{◌≡◌, ◌≤◌, true, arith}
use Rattle.rap_events.specs.State.{state}
use Rattle.rap_events.specs.declared.parser.Parser.{Parser}
use Rattle.rap_grammar_scripts.specs.Effects.{level}
use Rattle.rap_grammar_scripts.specs.Script.{Script, Outcome}
use Rattle.rap_grammar_scripts.specs.declared.rule.Rule.{Rule}
use Rattle.rap_grammar_frame.proofs.Done.{less_left, marker_kept}
use Rattle.rap_grammar_frame.proofs.Ended.{below_kept}
use Rattle.rap_grammar_facts.specs.Alone.{DoesAlone, DoesDeep}

pub alone_less_left : {s : Script Rule} {v : Outcome} (p q : Parser) → DoesAlone s v (state p) (state q) →
    (state q).left ≤ (state p).left
alone_less_left {s = s} {v = v} p q d = less_left {n = 0} {s = s} {v = v} p q (d.at 0)

pub alone_marker_kept : {s : Script Rule} {v : Outcome} (p q : Parser) → DoesAlone s v (state p) (state q) →
    level s ≡ true → (state q).marker ≡ (state p).marker
alone_marker_kept {s = s} {v = v} p q d h = marker_kept {n = 0} {s = s} {v = v} p q (d.at 0) h

pub alone_below_kept : {s : Script Rule} {v : Outcome} (p q : Parser) → DoesAlone s v (state p) (state q) →
    level s ≡ true → (state q).below ≡ (state p).below
alone_below_kept {s = s} {v = v} p q d h = below_kept {n = 0} {s = s} {v = v} p q (d.at 0) h

pub deep_less_left : {s : Script Rule} {v : Outcome} (p q : Parser) → DoesDeep s v (state p) (state q) →
    (state q).left ≤ (state p).left
deep_less_left {s = s} {v = v} p q d =
    less_left {n = (state p).left} {s = s} {v = v} p q (d.at (state p).left (omega arith))

pub deep_marker_kept : {s : Script Rule} {v : Outcome} (p q : Parser) → DoesDeep s v (state p) (state q) →
    level s ≡ true → (state q).marker ≡ (state p).marker
deep_marker_kept {s = s} {v = v} p q d h =
    marker_kept {n = (state p).left} {s = s} {v = v} p q (d.at (state p).left (omega arith)) h

-- what is so of calls of each script that leaves the open nodes as before
pub ruleset kept = (
  less_left,
  marker_kept,
  below_kept,
  alone_less_left,
  alone_marker_kept,
  alone_below_kept,
  deep_less_left,
  deep_marker_kept,
)
