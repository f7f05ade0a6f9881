-- What follows of calls that do what a script does: of the older open nodes, of a node that is ended, and of the tests
-- that held before.
use Rattle.std.proofs.Common.{◌≡◌, ◌<◌, ◌≤◌, ℕ, Bool, true, false, ◌&&◌, ◌||◌, Option, Some, arith}
use Rattle.rap_events.specs.Machine.{Stack, floor, push, top}
use Rattle.rap_events.specs.State.{state, next, calls}
use Rattle.rap_events.specs.declared.parser.Parser.{Parser}
use Rattle.rap_events.proofs.MachineLemmas.{Rooted, rooted}
use Rattle.rap_grammar_scripts.specs.Cost.{bill, paid}
use Rattle.rap_grammar_scripts.specs.Effects.{effect, leaves, ends_one, level}
use Rattle.rap_grammar_scripts.specs.Exec.{Does}
use Rattle.rap_grammar_scripts.specs.Kept.{nodes, Opens}
use Rattle.rap_grammar_scripts.specs.Moves.{Answer, sure, never, unclear, judge, moves, every_kind}
use Rattle.rap_grammar_scripts.specs.Script.{Script, Outcome}
use Rattle.rap_grammar_scripts.specs.Stand.{stand, marker_below, far_below}
use Rattle.rap_grammar_scripts.specs.Tally.{holds_at}
use Rattle.rap_grammar_scripts.specs.Test.{Test, holds}
use Rattle.rap_grammar_scripts.specs.declared.rule.Rule.{Rule}
use Rattle.rap_grammar_scripts.proofs.Cost.{costs_within}
use Rattle.rap_grammar_scripts.proofs.Effects.{does, found_at}
use Rattle.rap_grammar_scripts.proofs.Kept.{nodes_within}
use Rattle.rap_grammar_scripts.proofs.Moves.{Tells, judged, of_every, next_token, apart, left_so, right_so}
use Rattle.rap_grammar_frame.specs.Grew.{Ended}
use Rattle.rap_grammar_frame.proofs.Done.{leveled, marker_kept, moved, spent, told_by}

-- the nodes below the newest are as before
pub below_kept : {n : ℕ} {s : Script Rule} {v : Outcome} (p q : Parser) → Does n s v (state p) (state q) →
    level s ≡ true → (state q).below ≡ (state p).below
below_kept {n = n} {s = s} {v = v} p q d h = (leveled {n = n} {s = s} {v = v} (state p) (state q) h d).below

-- the newest marker is as before, where the rule takes no `Grammar`, or no more rules than tokens
pub any_marker_kept : {s : Script Rule} {v : Outcome} (p q : Parser) →
    ((depth : ℕ) → Does depth s v (state p) (state q)) → level s ≡ true → (state q).marker ≡ (state p).marker
any_marker_kept {s = s} {v = v} p q d h = marker_kept {n = 0} {s = s} {v = v} p q (d 0) h

pub deep_marker_kept : {s : Script Rule} {v : Outcome} (p q : Parser) →
    ((depth : ℕ) → (state p).left ≤ depth → Does depth s v (state p) (state q)) → level s ≡ true →
    (state q).marker ≡ (state p).marker
deep_marker_kept {s = s} {v = v} p q d h =
    marker_kept {n = (state p).left} {s = s} {v = v} p q (d (state p).left (omega arith)) h

-- the newest marker is gone
closed_so : (s b : Stack) (k m : Option ℕ) (n : ℕ) → Rooted s m → m ≡ Some n → k ≡ marker_below s →
    b ≡ far_below s → s ≡ push b k (top s)
unfolding top
closed_so floor b k m n r e i j = absurd cc
closed_so (push t l f) b k m n r e i j = cc

is_rooted : (p : Parser) → Rooted (state p).below (state p).marker
unfolding state
is_rooted p = rooted (calls p)

pub ended : {n : ℕ} {s : Script Rule} {v : Outcome} {m : ℕ} (room : ℕ) (p q : Parser) →
    Does n s v (state p) (state q) → holds_at (λ x. leaves room x && ends_one x) v (effect s) ≡ true →
    (state q).left < (state p).left → (state p).marker ≡ Some m → Ended (state p) (state q) room
ended {n = n} {s = s} {v = v} {m = m} room p q d h less e =
    let old = state p in
    let new = state q in
    let f =
    found_at (λ x. leaves room x && ends_one x) (effect s) v (stand old) (stand new) h
    (does n s (stand old) (stand new) v d.run) in
    let o : Opens 1 0 (stand old) (stand new) =
    nodes_within f.effect.nodes (nodes 1 0) (stand old) (stand new)
    (right_so (leaves room f.effect) (ends_one f.effect) f.holds) f.has.nodes in
    let t = told_by {n = n} {s = s} {v = v} old new d in
    record {
      input = t.input;
      left = less;
      count =
          spent room p q less
          (costs_within f.effect.events (bill (paid 255) (paid room)) (stand old) (stand new)
          (left_so (leaves room f.effect) (ends_one f.effect) f.holds) f.has.events);
      messages = t.messages;
      below = closed_so old.below new.below new.marker old.marker m (is_rooted p) e o.marker o.below;
    }

-- whether a kind of token says that a test does not hold
abbrev pub is_never : Answer → Bool
is_never sure = false
is_never never = true
is_never unclear = false

abbrev pub rules_out : Test → ℕ → Bool
rules_out h k = is_never (judge h k)

not_ruled_out : (a : Answer) (b x : Bool) → Tells a b → b ≡ true → is_never a || x ≡ true → x ≡ true
not_ruled_out sure b x t e h = h
not_ruled_out never b x t e h = absurd (apart e t)
not_ruled_out unclear b x t e h = h

-- a token was taken where a test held, as is computed for each kind of token of which it may hold
pub moved_where : {n : ℕ} {s : Script Rule} {v : Outcome} (h : Test) (p q : Parser) →
    Does n s v (state p) (state q) → every_kind (λ k. rules_out h k || moves s k) ≡ true →
    holds h (state p).rest ≡ true → (state q).left < (state p).left
moved_where {n = n} {s = s} {v = v} h p q d e t =
    let k = next (state p) in
    moved {n = n} {s = s} {v = v} p q d
    (not_ruled_out (judge h k) (holds h (state p).rest) (moves s k) (judged h (state p).rest) t
    (of_every (λ (j : ℕ). rules_out h j || moves s j) k e (next_token p)))
