-- What follows of calls that do what a script does: of the tokens left, the input, the messages, the open nodes and the
-- events.
use Rattle.std.proofs.Common.{◌≡◌, ◌<◌, ◌≤◌, ◌+◌, ◌*◌, ℕ, Bool, true, false, ◌&&◌, List, [], ◌∷◌, length, Some, refl, sym, subst, ◌∙◌, arith}
use Rattle.rap_events.specs.State.{State, state, next}
use Rattle.rap_events.specs.declared.parser.Parser.{Parser}
use Rattle.rap_grammar_scripts.specs.Cost.{Bill, bill, paid, Owes, Leaves, Costs, Pays, owing, leaving, says_bill}
use Rattle.rap_grammar_scripts.specs.Effects.{Effect, Has, effect, figure, figures, says, is_level, grows, leaves, level}
use Rattle.rap_grammar_scripts.specs.Exec.{Does, Obeys, exec, run_of}
use Rattle.rap_grammar_scripts.specs.Kept.{Tells, nodes, Opens, Undone}
use Rattle.rap_grammar_scripts.specs.Moves.{stays_so, moves, moves_unless, stays_of, no_outcome, is_nothing}
use Rattle.rap_grammar_scripts.specs.Script.{Script, Outcome, nothing, something, block, again}
use Rattle.rap_grammar_scripts.specs.Stand.{Stand, stand}
use Rattle.rap_grammar_scripts.specs.Tally.{holds_at, holds_always}
use Rattle.rap_grammar_scripts.specs.declared.rule.Rule.{Rule}
use Rattle.rap_grammar_scripts.specs.declared.rule.Rule.TheVariants as knot
use Rattle.rap_grammar_scripts.proofs.Cost.{costs_within}
use Rattle.rap_grammar_scripts.proofs.Effects.{does, rules_do, found, found_at, has_within}
use Rattle.rap_grammar_scripts.specs.Firsts.{takes_before}
use Rattle.rap_grammar_scripts.proofs.Firsts.{rule_moves}
use Rattle.rap_grammar_scripts.proofs.Kept.{told_within, nodes_within}
use Rattle.rap_grammar_scripts.proofs.Moves.{Stirs, stirred, stayed, stirs, onward, rules_onward, rules_stir, left_so, right_so}
use Rattle.rap_grammar_scripts.proofs.Tally.{Among, this_one, later_one}
use Rattle.rap_grammar_frame.specs.Grew.{Grew, Took}

-- no more tokens are left
pub less_left : {n : ℕ} {s : Script Rule} {v : Outcome} (p q : Parser) → Does n s v (state p) (state q) →
    (state q).left ≤ (state p).left
unfolding state
less_left {n = n} {s = s} {v = v} p q d =
    (onward (run_of n) (rules_onward n) s (stand (state p)) (stand (state q)) v d.run).fewer

-- the same where the rule takes no `Grammar`
pub any_less_left : {s : Script Rule} {v : Outcome} (p q : Parser) →
    ((depth : ℕ) → Does depth s v (state p) (state q)) → (state q).left ≤ (state p).left
any_less_left {s = s} {v = v} p q d = less_left {n = 0} {s = s} {v = v} p q (d 0)

any_told : (l : List (Outcome × Effect)) (v : Outcome) (p q : Stand) → Among Has l v p q → Tells false p q
any_told [] v p q a = elim a [ ]
any_told (e ∷ l) v p q (this_one i c) = told_within e.1.told false p q refl c.told
any_told (e ∷ l) v p q (later_one a) = any_told l v p q a

-- the input is the same, and no message is lost
pub record Told (old new : State) : Type 0 where
  pub input : new.input ≡ old.input
  pub messages : old.messages ≤ new.messages

pub told_by : {n : ℕ} {s : Script Rule} {v : Outcome} (old new : State) → Does n s v old new → Told old new
told_by {n = n} {s = s} {v = v} old new d =
    let t = any_told (effect s) v (stand old) (stand new) (does n s (stand old) (stand new) v d.run) in
    record { input = t.input; messages = t.messages }

-- the open nodes are as before
pub record Level (old new : State) : Type 0 where
  pub marker : new.marker ≡ old.marker
  pub below : new.below ≡ old.below

level_of : (x : Effect) (old new : State) → is_level x ≡ true → Has x (stand old) (stand new) → Level old new
level_of x old new h c =
    let o : Opens 0 0 (stand old) (stand new) = nodes_within x.nodes (nodes 0 0) (stand old) (stand new) h c.nodes in
    record { marker = o.marker; below = o.below }

pub leveled : {n : ℕ} {s : Script Rule} {v : Outcome} (old new : State) → level s ≡ true → Does n s v old new →
    Level old new
leveled {n = n} {s = s} {v = v} old new h d =
    let f = found is_level (effect s) v (stand old) (stand new) h (does n s (stand old) (stand new) v d.run) in
    level_of f.effect old new f.holds f.has

pub marker_kept : {n : ℕ} {s : Script Rule} {v : Outcome} (p q : Parser) → Does n s v (state p) (state q) →
    level s ≡ true → (state q).marker ≡ (state p).marker
marker_kept {n = n} {s = s} {v = v} p q d h = (leveled {n = n} {s = s} {v = v} (state p) (state q) h d).marker

-- a token was taken, as is computed for one of this kind
moved_of : {p q : Stand} → Stirs p q false → length q.rest < length p.rest
moved_of (stirred l) = l
moved_of (stayed e h) = absurd cc

pub moved : {n : ℕ} {s : Script Rule} {v : Outcome} (p q : Parser) → Does n s v (state p) (state q) →
    moves s (next (state p)) ≡ true → (state q).left < (state p).left
unfolding state
moved {n = n} {s = s} {v = v} p q d h =
    moved_of (stirs (run_of n) (stays_of 1) (rules_onward n) (rules_stir 1 n) s (stand (state p)) (stand (state q)) v
    no_outcome d.run h)

some_moved : {p q : Stand} (v : Outcome) → is_nothing v ≡ false → Stirs p q (is_nothing v) →
    length q.rest < length p.rest
some_moved v e (stirred l) = l
some_moved v e (stayed i h) = absurd (let x : true ≡ false = sym h ∙ e in cc)

pub moved_unless : {n : ℕ} {s : Script Rule} {v : Outcome} (p q : Parser) → Does n s v (state p) (state q) →
    is_nothing v ≡ false → moves_unless s (next (state p)) ≡ true → (state q).left < (state p).left
unfolding state
moved_unless {n = n} {s = s} {v = v} p q d e h =
    some_moved v e (stirs (run_of n) (stays_of 1) (rules_onward n) (rules_stir 1 n) s (stand (state p))
    (stand (state q)) v is_nothing d.run h)

-- today's words: so many events at most
grown : (k : ℕ) (p q : Parser) → Costs (bill (paid k) (paid 0)) (stand (state p)) (stand (state q)) →
    (state q).count + 256 * (state q).left ≤ (state p).count + 256 * (state p).left + k
unfolding state
grown k p q (owing h) = omega (arith, h.left, h.few)
grown k p q (leaving h) = omega (arith, h.left, h.few)

pub grew : {n : ℕ} {s : Script Rule} {v : Outcome} (k : ℕ) (p q : Parser) → Does n s v (state p) (state q) →
    holds_at (λ x. grows k x && is_level x) v (effect s) ≡ true → Grew (state p) (state q) k
grew {n = n} {s = s} {v = v} k p q d h =
    let old = state p in
    let new = state q in
    let f =
    found_at (λ x. grows k x && is_level x) (effect s) v (stand old) (stand new) h
    (does n s (stand old) (stand new) v d.run) in
    let l = level_of f.effect old new (right_so (grows k f.effect) (is_level f.effect) f.holds) f.has in
    let t = told_by {n = n} {s = s} {v = v} old new d in
    record {
      input = t.input;
      left = less_left {n = n} {s = s} {v = v} p q d;
      count =
          grown k p q
          (costs_within f.effect.events (bill (paid k) (paid 0)) (stand old) (stand new)
          (left_so (grows k f.effect) (is_level f.effect) f.holds) f.has.events);
      messages = t.messages;
      marker = l.marker;
      below = l.below;
    }

pub spent : (room : ℕ) (p q : Parser) → (state q).left < (state p).left →
    Costs (bill (paid 255) (paid room)) (stand (state p)) (stand (state q)) →
    (state q).count + 256 * (state q).left + room ≤ (state p).count + 256 * (state p).left
unfolding state
spent room p q l (owing h) = absurd (omega (arith, l, h.left))
spent room p q l (leaving h) = h.few

-- and tokens taken that left so much room
pub took : {n : ℕ} {s : Script Rule} {v : Outcome} (room : ℕ) (p q : Parser) → Does n s v (state p) (state q) →
    holds_at (λ x. leaves room x && is_level x) v (effect s) ≡ true → (state q).left < (state p).left →
    Took (state p) (state q) room
took {n = n} {s = s} {v = v} room p q d h less =
    let old = state p in
    let new = state q in
    let f =
    found_at (λ x. leaves room x && is_level x) (effect s) v (stand old) (stand new) h
    (does n s (stand old) (stand new) v d.run) in
    let l = level_of f.effect old new (right_so (leaves room f.effect) (is_level f.effect) f.holds) f.has in
    let t = told_by {n = n} {s = s} {v = v} old new d in
    record {
      input = t.input;
      left = less;
      count =
          spent room p q less
          (costs_within f.effect.events (bill (paid 255) (paid room)) (stand old) (stand new)
          (left_so (leaves room f.effect) (is_level f.effect) f.holds) f.has.events);
      messages = t.messages;
      marker = l.marker;
      below = l.below;
    }

pub rule_less : {n : ℕ} {v : Outcome} (c : Rule) (p q : Parser) → Obeys n c v (state p) (state q) →
    (state q).left ≤ (state p).left
unfolding state
rule_less {n = n} {v = v} c p q d = (rules_onward n c (stand (state p)) (stand (state q)) v d.run).fewer

-- the same of a recursive rule, whichever it is: at most twenty events where no token is taken, and 150 of room
each_is : (c : Rule) → holds_always (λ x. says x (figure false)) (figures c) ≡ true
each_is (knot.ExprBp r bp) = refl
each_is c = refl

rule_has : (n : ℕ) {v : Outcome} (c : Rule) (p q : Stand) → run_of n c p ≡ Some (q, v) → Has (figure false) p q
rule_has n {v = v} c p q e =
    let f = found (λ x. says x (figure false)) (figures c) v p q (each_is c) (rules_do n c p q v e) in
    has_within f.effect (figure false) p q f.holds f.has

pub rule_grew : {n : ℕ} {v : Outcome} (c : Rule) (p q : Parser) → Obeys n c v (state p) (state q) →
    Grew (state p) (state q) 20
rule_grew {n = n} {v = v} c p q d =
    let old = state p in
    let new = state q in
    let h = rule_has n {v = v} c (stand old) (stand new) d.run in
    record {
      input = h.told.input;
      left = rule_less {n = n} {v = v} c p q d;
      count =
          grown 20 p q
          (costs_within (bill (paid 20) (paid 150)) (bill (paid 20) (paid 0)) (stand old) (stand new) refl h.events);
      messages = h.told.messages;
      marker = h.nodes.marker;
      below = h.nodes.below;
    }

pub rule_took : {n : ℕ} {v : Outcome} (c : Rule) (p q : Parser) → Obeys n c v (state p) (state q) →
    takes_before c (next (state p)) ≡ true → Took (state p) (state q) 150
rule_took {n = n} {v = v} c p q d t =
    let old = state p in
    let new = state q in
    let h = rule_has n {v = v} c (stand old) (stand new) d.run in
    let less = rule_moves {n = n} c {v = v} p q d t in
    record {
      input = h.told.input;
      left = less;
      count =
          spent 150 p q less
          (costs_within (bill (paid 20) (paid 150)) (bill (paid 255) (paid 150)) (stand old) (stand new) refl
          h.events);
      messages = h.told.messages;
      marker = h.nodes.marker;
      below = h.nodes.below;
    }

-- nothing was done, as is computed of this outcome
undone_of : (x : Effect) (p q : Stand) → x.undone ≡ true → Has x p q → q ≡ p
undone_of x p q h c = let u : Undone true p q = subst (λ (b : Bool). Undone b p q) h c.undone in u

pub nothing_done : {n : ℕ} {s : Script Rule} {v : Outcome} (old new : State) → Does n s v old new →
    holds_at (λ x. x.undone) v (effect s) ≡ true → stand new ≡ stand old
nothing_done {n = n} {s = s} {v = v} old new d h =
    let f =
    found_at (λ x. x.undone) (effect s) v (stand old) (stand new) h (does n s (stand old) (stand new) v d.run) in
    undone_of f.effect (stand old) (stand new) f.holds f.has
