-- A script that was walked along a row runs over its tokens, to its tree.
use Rattle.std.proofs.Common.{◌≡◌, ℕ, true, false, ◌==◌, List, ◌∷◌, ◌++◌, subst, append_assoc}
use Rattle.rap_base.specs.TokenKind.{R_CURLY}
use Rattle.rap_events.proofs.Truth.{and_left, and_right}
use Rattle.rap_events.specs.Composite.{width}
use Rattle.rap_events.specs.Forest.{Forest}
use Rattle.rap_events.specs.LastToken.{last_after}
use Rattle.rap_events.specs.Record.{Record, next_kind}
use Rattle.rap_grammar_scripts.specs.Script.{Script, Outcome, Spot, Runs, gives, ends_else, last_under, takes, takes_any, bears, starts, follows, obeys, give, test, ends_with, token, any, bear, report, report_next, skip, start, precede, finish, extend, abandon, split_float, after, rule, loop}
use Rattle.rap_grammar_scripts.specs.Knot.{script_of}
use Rattle.rap_grammar_scripts.specs.declared.rule.Rule.{Rule}
use Rattle.rap_grammar_table.proofs.Built.{Built, base, empty, over, tree, At, with_own}
use Rattle.rap_grammar_table.specs.Known.{Place, Sees}
use Rattle.rap_grammar_table.proofs.Refusal.{stopped, word_of, Verdict, accepted}
use Rattle.rap_grammar_table.proofs.Refusal as refusal
use Rattle.rap_grammar_table.proofs.Hints.{Table}
use Rattle.rap_grammar_table.proofs.Walk.{walk, reads_rows, takes_part, parting, repeating, most_turns}
use Rattle.rap_grammar_table.proofs.Ways.{ends_otherwise, expose, is_token, is_some, is_bearer}
use Rattle.rap_grammar_table.proofs.Known.{same_number}
use Rattle.rap_grammar_table.proofs.LastsLaws.{last-⧺}
use Rattle.rap_grammar_table.proofs.Exposes.{tested_so}
use Rattle.rap_grammar_table.proofs.Pieces.{taking, reading, token_at, any_at, born_at, took_token, finishes_own, extends_own, abandons_own, precedes_own}
use Rattle.rap_grammar_table.proofs.Turns.{turned, all_at_once, Walker}
use Rattle.rap_grammar_table.proofs.Parts.{part_read, Walks}
use Rattle.rap_grammar_table.proofs.Values.{tree_of, value, values, spot_at, AreNodes, Stands, Comes, before, unbraced_at}
use Rattle.rap_grammar_table.proofs.Verdict.{by_try, provided_is, provided_so}

-- what a script has built does not matter for what stands of the row
stands_own : {t : Table} {l : List Record} {e : List Forest} {y : Forest} {s : At} {ks : List Record} →
    Stands t l e y s ks → (o : Built) (os : List Built) → Stands t l e y (with_own s o os) ks
stands_own st o os =
    record { left = st.left; left_is = st.left_is; made = st.made; nodes = st.nodes; facts = st.facts }

-- the last token is another
ends_otherwise_so : (e : List Forest) (ns : List ℕ × List ℕ) → AreNodes e ns → (f : Forest) (bs : List Forest)
    (kind : ℕ) (own : Built) → ends_otherwise kind ns.1 own ≡ true →
    (last_under (value f e own ∷ bs) == kind) ≡ false
ends_otherwise_so e ns n f bs kind base h = absurd cc
ends_otherwise_so e ns n f bs kind empty h = absurd cc
ends_otherwise_so e ns n f bs kind (over a k c) h = absurd cc
ends_otherwise_so e ns n f bs kind (tree a i) h =
    let k = last_under bs in
    let last = unbraced_at e ns i n (and_right (kind == R_CURLY) _ h) in
    rw (last-⧺ k (value f e a) (tree_of e i), same_number kind R_CURLY (and_left (kind == R_CURLY) _ h))
    (last.last (last_after k (value f e a)))

pub walks : (t : Table) (deep : ℕ) (g : List (List Place)) (l : List Record) (e : List Forest) (y f : Forest) (b : List Forest) →
    Sees g l → (a : Script Rule) (s : At) (k : Outcome → At → Verdict) (ks : List Record) → Stands t l e y s ks →
    walk (reads_rows deep t) t g a s k ≡ accepted → Comes t l e y f b k a (spot_at f b e s (ks ++ l))
walks t deep g l e y f b i (give v) s k ks st w =
    record { outcome = v; place = s; tokens = ks; so = w; stands = st; run = gives }
walks t deep g l e y f b i (test h a c) s k ks st w =
    tested_so t g l e y f b i h a c s k ks (λ q. walk (reads_rows deep t) t g a q k) (λ q. walk (reads_rows deep t) t g c q k)
    (λ q u v. walks t deep g l e y f b i a q k ks u v) (λ q u v. walks t deep g l e y f b i c q k ks u v) st w
walks t deep g l e y f b i (ends_with kind a c) s k ks st w =
    let stop = stopped (word_of (ends_with kind a c)) s.items in
    let go : Unit {0} → Verdict = λ u. walk (reads_rows deep t) t g c s k in
    before
    (λ z v r. ends_else
    (ends_otherwise_so e s.nodes st.nodes f (values f e b s.owns) kind s.own
    (provided_is (ends_otherwise kind s.nodes.1 s.own) stop go w)) r)
    (walks t deep g l e y f b i c s k ks st (provided_so (ends_otherwise kind s.nodes.1 s.own) stop go w))
walks t deep g l e y f b i (token kind a) s k ks st w =
    let go : At → Verdict = λ r. walk (reads_rows deep t) t g a r k in
    let x = taking t g l e y f b i (refusal.takes kind) (is_token t s.facts kind) go s ks st w in
    let here = token_at t s.facts kind x.good x.facts x.accepted_it in
    let z = walks t deep g l e y f b i a x.place k x.rest x.stands x.so in
    rw (x.tokens, append_assoc x.own x.rest l)
    (before
    (λ z v r. takes here.here (subst (λ (p : Spot). Runs script_of a p z v)
    (took_token t l e y f b (is_token t s.facts kind) go s ks x kind (width kind) here.past here.leaf_is) r)) z)
walks t deep g l e y f b i (any a) s k ks st w =
    let go : At → Verdict = λ r. walk (reads_rows deep t) t g a r k in
    let x = taking t g l e y f b i refusal.takes_any is_some go s ks st w in
    let here = any_at x.good x.accepted_it in
    let z = walks t deep g l e y f b i a x.place k x.rest x.stands x.so in
    rw (x.tokens, append_assoc x.own x.rest l)
    (before
    (λ z v r. takes_any here.some (subst (λ (p : Spot). Runs script_of a p z v)
    (took_token t l e y f b is_some go s ks x (next_kind (x.own ++ (x.rest ++ l))) 1 here.past here.leaf_is) r)) z)
walks t deep g l e y f b i (bear kind a) s k ks st w =
    let go : At → Verdict = λ r. walk (reads_rows deep t) t g a r k in
    let x = taking t g l e y f b i (refusal.bears kind) (is_bearer t s.facts kind) go s ks st w in
    let here = born_at t s.facts kind x.good x.facts x.accepted_it in
    let z = walks t deep g l e y f b i a x.place k x.rest x.stands x.so in
    rw (x.tokens, append_assoc x.own x.rest l)
    (before
    (λ z v r. bears here.here (subst (λ (p : Spot). Runs script_of a p z v)
    (took_token t l e y f b (is_bearer t s.facts kind) go s ks x kind 1 here.past here.leaf_is) r)) z)
walks t deep g l e y f b i (report bytes a) s k ks st w = absurd cc
walks t deep g l e y f b i (report_next bytes a) s k ks st w = absurd cc
walks t deep g l e y f b i (skip bytes a) s k ks st w = absurd cc
walks t deep g l e y f b i (start a) s k ks st w =
    before (λ z v r. starts r)
    (walks t deep g l e y f b i a (with_own s empty (s.own ∷ s.owns)) k ks (stands_own st empty (s.own ∷ s.owns)) w)
walks t deep g l e y f b i (precede a) s k ks st w =
    precedes_own t l e y f b a s k (λ q. walk (reads_rows deep t) t g a q k) (ks ++ l) s.own s.owns st.nodes
    (λ o os v. walks t deep g l e y f b i a (with_own s o os) k ks (stands_own st o os) v) w
walks t deep g l e y f b i (finish kind a) s k ks st w =
    finishes_own t l e y f b a kind s k (λ q. walk (reads_rows deep t) t g a q k) (ks ++ l) s.own s.owns
    (λ o os v. walks t deep g l e y f b i a (with_own s o os) k ks (stands_own st o os) v) w
walks t deep g l e y f b i (extend a) s k ks st w =
    extends_own t l e y f b a s k (λ q. walk (reads_rows deep t) t g a q k) (ks ++ l) s.own s.owns st.nodes
    (λ o os v. walks t deep g l e y f b i a (with_own s o os) k ks (stands_own st o os) v) w
walks t deep g l e y f b i (abandon a) s k ks st w =
    abandons_own t l e y f b a s k (λ q. walk (reads_rows deep t) t g a q k) (ks ++ l) s.own s.owns
    (λ o os v. walks t deep g l e y f b i a (with_own s o os) k ks (stands_own st o os) v) w
walks t deep g l e y f b i (split_float a c) s k ks st w = absurd cc
walks t deep g l e y f b i (after a n) s k ks st w =
    let all : Walks t a (λ g r m. walk (reads_rows deep t) t g a r m) =
    λ g l e y f b i s k ks st v. walks t deep g l e y f b i a s k ks st v
    in
    let x =
    by_try (takes_part t g a s)
    (λ u. expose t g s (λ q. parting (reads_rows deep t) a (λ g r m. walk (reads_rows deep t) t g a r m) t g q.items q
    (λ v r. walk (reads_rows deep t) t g (n v) r k)))
    (λ u. walk (reads_rows deep t) t g a s (λ v q. walk (reads_rows deep t) t g (n v) q k)) w
    (λ o. part_read t deep g l e y f b i a (λ g r m. walk (reads_rows deep t) t g a r m) all s
    (λ v r. walk (reads_rows deep t) t g (n v) r k) ks st o)
    (λ o. walks t deep g l e y f b i a s (λ v q. walk (reads_rows deep t) t g (n v) q k) ks st o)
    in
    before (λ z v r. follows x.run r) (walks t deep g l e y f b i (n x.outcome) x.place k x.tokens x.stands x.so)
walks t deep g l e y f b i (rule r n) s k ks st w =
    let x = reading t g l e y f b i r (λ v q. walk (reads_rows deep t) t g (n v) q k) s ks st w in
    before (λ z v m. obeys x.run m) (walks t deep g l e y f b i (n x.outcome) x.place k x.rest x.stands x.so)
walks t deep g l e y f b i (loop h c d) s k ks st w =
    let all : Walker t h (λ g i j r n. walk (reads_rows deep t) t g (h i j) r n) =
    λ g l e y f b i c d s k ks st v. walks t deep g l e y f b i (h c d) s k ks st v
    in
    turned t g l e y f b i h (λ c d q m. walk (reads_rows deep t) t g (h c d) q m)
    (λ on c d q m. repeating (λ g i j r n. walk (reads_rows deep t) t g (h i j) r n) t g on q.items c d q m)
    (λ c d q m js st v. walks t deep g l e y f b i (h c d) q m js st v)
    (all_at_once t g l e y f b i h (λ g i j r n. walk (reads_rows deep t) t g (h i j) r n) all) most_turns c d s k ks st w
