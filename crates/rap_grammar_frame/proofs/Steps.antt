-- What each call of the parser does of a script.
use Rattle.std.proofs.Common.{◌+◌, ◌≡◌, ◌≢◌, ◌<◌, ℕ, List, length, Bool, true, false, ◌&&◌, ◌||◌, Option, Some, None, drop, ◌==◌, refl, sym, ap, subst, ◌∙◌}
use Rattle.rap_base.specs.NodeKind.{FIELD_EXPR}
use Rattle.rap_base.specs.TokenKind.{EOF, COLON2, L_ANGLE, FLOAT_NUMBER}
use Rattle.rap_base.specs.TokenSet.{member}
use Rattle.rap_base.specs.declared.token_set.TokenSet.{TokenSet}
use Rattle.rap_events.specs.FloatSplit.{split_children, split_calls}
use Rattle.rap_events.specs.Record.{Record}
use Rattle.rap_events.specs.Composite.{is_at, width}
use Rattle.rap_events.specs.Cover.{first_may_bear}
use Rattle.rap_events.specs.Forest.{Forest, none, node, ◌⧺◌}
use Rattle.rap_events.specs.LastToken.{last_after, last_below, last_taken}
use Rattle.rap_events.specs.Machine.{Stack, floor, push}
use Rattle.rap_events.specs.State.{State, state, next, Opened, IsLast, Completed, Abandoned, Preceded, Extended, Bumped, Reported, SplitFloat, Ate, AteAs, Expected, Skipped, Recovered, but_last, last_children, expected, with_kind}
use Rattle.rap_events.specs.declared.parser.CompletedMarker.{CompletedMarker}
use Rattle.rap_events.specs.declared.parser.Parser.{Parser}
use Rattle.rap_grammar_scripts.specs.First.{is_path_name, is_path_start}
use Rattle.rap_grammar_scripts.proofs.Ends.{Loops, gives, passes, fails, ends_so, ends_else, takes, takes_any, bears, reports, reports_next, skips, starts, precedes, finishes, extends, abandons, splits_dotted, splits_whole, follows, obeys, turns, stops}
use Rattle.rap_grammar_scripts.specs.Exec.{Ends, Answers, exec, run_of}
use Rattle.rap_grammar_scripts.specs.Test.{Test, holds, comes}
use Rattle.rap_grammar_scripts.specs.Words.{of_like, done, if_some, reads_as, eat, eat_as, expect, recover, of_option, of_bool}
use Rattle.rap_grammar_scripts.specs.declared.rule.Rule.{Rule}
use Rattle.rap_grammar_scripts.specs.declared.rule.Rule.TheVariants as knot
use Rattle.rap_grammar_scripts.specs.declared.arguments.BlockLike.{BlockLike}
use Rattle.rap_grammar_scripts.specs.declared.arguments.BlockLike.TheVariants as like
use Rattle.rap_grammar_scripts.specs.declared.arguments.Restrictions.{Restrictions}
use Rattle.rap_grammar_scripts.specs.Script.{Script, Outcome, nothing, something, again, goes_on, forests, last_tree, last_kind, last_under, last_taken_at, newest, give, test, ends_with, token, any, bear, report, report_next, skip, start, precede, finish, extend, abandon, split_float, after, rule, loop}
use Rattle.rap_grammar_scripts.specs.Stand.{Stand, stand, taken, split_apart, reported, skipped_over, started, preceded, closed, finished, extended, abandoned, marker_below, forest_below, far_below, spot_at}

-- from a spot by a script of the grammar, with at most so many rules inside one another
abbrev pub On : ℕ → Script Rule → Stand → Stand → Outcome → Type 0
On depth s p q v = Ends depth s p q v

same_stand : {i i' r r' : List Record} {c c' m m' : ℕ} {k k' : Option ℕ} {f f' : Forest} {b b' : Stack} → i ≡ i' →
    r ≡ r' → c ≡ c' → m ≡ m' → k ≡ k' → f ≡ f' → b ≡ b' →
    (
    let x : Stand = record { input = i; rest = r; count = c; messages = m; marker = k; forest = f; below = b } in
    x
    ) ≡
    (record { input = i'; rest = r'; count = c'; messages = m'; marker = k'; forest = f'; below = b' })
same_stand e h l n o p q = cc

from_there : {j : ℕ} {s : Script Rule} {p r q : Stand} {v : Outcome} → p ≡ r → On j s r q v → On j s p q v
from_there {j = j} {s = s} {q = q} {v = v} e d = subst (λ (x : Stand). On j s x q v) (sym e) d

bumped : {s t : State} {k w : ℕ} → Bumped s t k w → taken k w (stand s) ≡ stand t
bumped b =
    same_stand (sym b.input) (sym b.rest) (sym b.count) (sym b.messages) (sym b.marker) (sym b.forest) (sym b.below)

reports_to : {s t : State} {bytes : List ℕ} → Reported s t bytes → reported bytes (stand s) ≡ stand t
reports_to b =
    same_stand (sym b.input) (sym b.rest) (sym b.count) (sym b.messages) (sym b.marker) (sym b.forest) (sym b.below)

pub skips_to : {s t : State} {bytes : List ℕ} → Skipped s t bytes → skipped_over bytes (stand s) ≡ stand t
skips_to b =
    same_stand (sym b.input) (sym b.rest) (sym b.counted) (sym b.messages) (sym b.marker) (sym b.forest) (sym b.below)

starts_to : {s t : State} {m : ℕ} → Opened s t m → started (stand s) ≡ stand t
starts_to b =
    let r = b.recorded in
    same_stand (sym r.input) (sym r.rest) (sym r.count) (sym r.messages) (sym b.numbered) (sym b.forest) (sym b.below)

-- a marker less, where this is the forest then
closes_to : (s t : State) (n : ℕ) (rs : List Record) {g : Forest} (f : Forest) → t.input ≡ s.input → t.rest ≡ rs →
    t.count ≡ s.count + n → t.messages ≡ s.messages → s.below ≡ push t.below t.marker g → f ≡ t.forest →
    closed n rs f (stand s) ≡ stand t
closes_to s t n rs f i r c m b e =
    same_stand (sym i) (sym r) (sym c) (sym m) (ap marker_below b) e (ap far_below b)

completes_to : {s t : State} {k : ℕ} → Completed s t k → finished k (stand s) ≡ stand t
completes_to {s = s} {t = t} {k = k} b =
    let r = b.recorded in
    closes_to s t 1 s.rest (node (forest_below s.below) k s.forest) r.input r.rest r.count r.messages b.below
    (ap (λ (x : Stack). node (forest_below x) k s.forest) b.below ∙ sym b.forest)

abandons_to : {s t : State} → Abandoned s t → abandoned (stand s) ≡ stand t
abandons_to {s = s} {t = t} b =
    let r = b.recorded in
    closes_to s t 1 s.rest (forest_below s.below ⧺ s.forest) r.input r.rest r.count r.messages b.below
    (ap (λ (x : Stack). forest_below x ⧺ s.forest) b.below ∙ sym b.forest)

precedes_to : {s t : State} {m k : ℕ} {cm : CompletedMarker} → IsLast s cm k → Preceded s t m cm.kind.value →
    preceded (stand s) ≡ stand t
precedes_to {s = s} h b =
    let r = b.recorded in
    same_stand (sym r.input) (sym r.rest) (sym r.count) (sym r.messages) (sym b.numbered)
    (ap last_tree h.forest ∙ ap (λ (x : ℕ). node none x (last_children s.forest)) (sym h.kind) ∙ sym b.forest)
    (sym b.below)

extends_to : {s t : State} {cm : CompletedMarker} → IsLast s cm cm.kind.value → Extended s t cm.kind.value →
    extended (stand s) ≡ stand t
extends_to {s = s} {t = t} h b =
    let r = b.recorded in
    closes_to s t 1 s.rest
    (node (forest_below s.below) (last_kind s.forest) (but_last s.forest ⧺ last_children s.forest)) r.input r.rest r.count r.messages b.below
    (ap
    (λ (x : Stack). node (forest_below x) (last_kind s.forest) (but_last s.forest ⧺ last_children s.forest))
    b.below
    ∙ ap (λ (x : ℕ). node (but_last t.forest) x (but_last s.forest ⧺ last_children s.forest)) (ap last_kind h.forest) ∙
    sym b.forest)

split_to : {s t : State} {dot : Bool} → SplitFloat s t dot → split_apart dot (stand s) ≡ stand t
split_to {s = s} {t = t} {dot = dot} b =
    closes_to s t (length (split_calls dot)) (drop 1 s.rest) (node (forest_below s.below) FIELD_EXPR (split_children s.forest dot)) b.input b.rest b.count b.messages
    b.below
    (ap (λ (x : Stack). node (forest_below x) FIELD_EXPR (split_children s.forest dot)) b.below ∙ sym b.forest)

pub by_bump : {j : ℕ} {s t : State} {k : ℕ} {n : Script Rule} {q : Stand} {v : Outcome} → is_at k s.rest ≡ true →
    Bumped s t k (width k) → On j n (stand t) q v → On j (token k n) (stand s) q v
by_bump e b d = takes e (from_there (bumped b) d)

pub by_any : {j : ℕ} {s t : State} {n : Script Rule} {q : Stand} {v : Outcome} → next s ≢ EOF →
    Bumped s t (next s) 1 → On j n (stand t) q v → On j (any n) (stand s) q v
by_any e b d = takes_any e (from_there (bumped b) d)

pub by_bear : {j : ℕ} {s t : State} {k : ℕ} {n : Script Rule} {q : Stand} {v : Outcome} →
    first_may_bear s.rest k ≡ true → Bumped s t k 1 → On j n (stand t) q v → On j (bear k n) (stand s) q v
by_bear e b d = bears e (from_there (bumped b) d)

pub by_report : {j : ℕ} {s t : State} {bytes : List ℕ} {n : Script Rule} {q : Stand} {v : Outcome} →
    Reported s t bytes → On j n (stand t) q v → On j (report bytes n) (stand s) q v
by_report b d = reports (from_there (reports_to b) d)

pub by_report_next : {j : ℕ} {s t : State} {bytes : List ℕ} {n : Script Rule} {q : Stand} {v : Outcome} →
    Reported s t (with_kind bytes (next s)) → On j n (stand t) q v → On j (report_next bytes n) (stand s) q v
by_report_next b d = reports_next (from_there (reports_to b) d)

pub by_skip : {j : ℕ} {s t : State} {bytes : List ℕ} {n : Script Rule} {q : Stand} {v : Outcome} →
    Skipped s t bytes → On j n (stand t) q v → On j (skip bytes n) (stand s) q v
by_skip b d = skips (from_there (skips_to b) d)

pub by_start : {j : ℕ} {s t : State} {m : ℕ} {n : Script Rule} {q : Stand} {v : Outcome} → Opened s t m →
    On j n (stand t) q v → On j (start n) (stand s) q v
by_start b d = starts (from_there (starts_to b) d)

pub by_complete : {j : ℕ} {s t : State} {k : ℕ} {n : Script Rule} {q : Stand} {v : Outcome} → Completed s t k →
    On j n (stand t) q v → On j (finish k n) (stand s) q v
by_complete b d = finishes (from_there (completes_to b) d)

pub by_abandon : {j : ℕ} {s t : State} {n : Script Rule} {q : Stand} {v : Outcome} → Abandoned s t →
    On j n (stand t) q v → On j (abandon n) (stand s) q v
by_abandon b d = abandons (from_there (abandons_to b) d)

pub by_precede : {j : ℕ} {s t : State} {m k : ℕ} {cm : CompletedMarker} {n : Script Rule} {q : Stand} {v : Outcome} →
    IsLast s cm k → Preceded s t m cm.kind.value → On j n (stand t) q v → On j (precede n) (stand s) q v
by_precede h b d = precedes (from_there (precedes_to h b) d)

pub by_extend : {j : ℕ} {s t : State} {cm : CompletedMarker} {n : Script Rule} {q : Stand} {v : Outcome} →
    IsLast s cm cm.kind.value → Extended s t cm.kind.value → On j n (stand t) q v → On j (extend n) (stand s) q v
by_extend h b d = extends (from_there (extends_to h b) d)

-- a float taken apart, which ends in a dot or not
pub by_split_dotted : {j : ℕ} {s t : State} {dot : Bool} {n m : Script Rule} {q : Stand} {v : Outcome} →
    next s ≡ FLOAT_NUMBER → SplitFloat s t dot → dot ≡ true → On j n (stand t) q v → On j (split_float n m) (stand s) q v
by_split_dotted {dot = true} e b h d = splits_dotted e b.decided (from_there (split_to b) d)
by_split_dotted {dot = false} e b h d = absurd cc

pub by_split_whole : {j : ℕ} {s t : State} {dot : Bool} {n m : Script Rule} {q : Stand} {v : Outcome} → next s ≡ FLOAT_NUMBER →
    SplitFloat s t dot → dot ≡ false → On j m (stand t) q v → On j (split_float n m) (stand s) q v
by_split_whole {dot = true} e b h d = absurd cc
by_split_whole {dot = false} e b h d = splits_whole e b.decided (from_there (split_to b) d)

-- a rule, and on as its outcome says
pub by_rule : {j : ℕ} {c : Script Rule} {n : Outcome → Script Rule} {p r q : Stand} {w v : Outcome} → On j c p r w →
    On j (n w) r q v → On j (after c n) p q v
by_rule h d = follows h d

-- a token of a kind, or the message that it is missing
pub by_expect : {j : ℕ} {s t : State} {k : ℕ} {b : Bool} {n : Script Rule} {q : Stand} {v : Outcome} → Expected s t k b →
    On j n (stand t) q v → On j (expect k n) (stand s) q v
by_expect {b = true} e d = passes (sym e.decided) (by_bump (sym e.decided) (e.token refl) d)
by_expect {b = false} e d = fails (sym e.decided) (by_report (e.not_token refl) d)

-- a token of a kind, if it comes next
pub by_eat : {j : ℕ} {s t : State} {k : ℕ} {b : Bool} {n : Script Rule} {q : Stand} {v : Outcome} → Ate s t k b →
    On j n (stand t) q v → On j (eat k n) (stand s) q v
by_eat {b = true} e d = passes (sym e.decided) (by_bump (sym e.decided) (e.token refl) d)
by_eat {b = false} e d = fails (sym e.decided) (from_there (ap stand (sym (e.not_token refl))) d)

-- a loop, as far as it has come between two parsers: from these flags to those
pub record Turns (depth : ℕ) (h : Bool → Bool → Script Rule) (a b c d : Bool) (o p : Parser) : Type 0 where
  pub same : exec (run_of depth) (loop h a b) (stand (state o)) ≡ exec (run_of depth) (loop h c d) (stand (state p))

come : {j : ℕ} {h : Bool → Bool → Script Rule} {a b c d : Bool} {o p : Parser} → Turns j h a b c d o p →
    Loops j h a b c d (stand (state o)) (stand (state p))
come t = record { same = t.same }

fewer : (p q : Parser) → (state q).left < (state p).left → length (state q).rest < length (state p).rest
unfolding state
fewer p q l = l

-- one turn more, which took a token
pub turn : {j : ℕ} {h : Bool → Bool → Script Rule} {a b c d e f : Bool} {o p q : Parser} → Turns j h a b c d o p →
    On j (h c d) (stand (state p)) (stand (state q)) (again e f) → (state q).left < (state p).left →
    Turns j h a b e f o q
turn {p = p} {q = q} t k l = record { same = (turns (come t) k (fewer p q l)).same }

-- the last turn
pub last_turn : {j : ℕ} {h : Bool → Bool → Script Rule} {a b c d : Bool} {o p : Parser} {q : Stand} {v : Outcome} →
    Turns j h a b c d o p → On j (h c d) (stand (state p)) q v → goes_on v ≡ false →
    On j (loop h a b) (stand (state o)) q v
last_turn t k e = stops (come t) k e

-- where a message keeps the next token out of an `ERROR`
pub by_recover : {j : ℕ} {s t : State} {bytes : List ℕ} {set : TokenSet} {kept : Bool}
    (first : ℕ → Bool) {n m : Script Rule} {q : Stand} {v : Outcome} → ((k : ℕ) → member set k ≡ first k) →
    Recovered s t bytes set kept → (kept ≡ true → On j n (stand t) q v) → (kept ≡ false → On j m (stand t) q v) →
    On j (recover bytes first n m) (stand s) q v
by_recover {s = s} {kept = true} first e r d f =
    passes (rw (← (e (next s))) (sym r.decided)) (by_report (r.reported refl) (d refl))
by_recover {s = s} {kept = false} first e r d f =
    fails (rw (← (e (next s))) (sym r.decided)) (by_skip (r.skipped refl) (f refl))

-- a rule at the end
pub to_end : {j : ℕ} {c : Script Rule} {p q : Stand} {v : Outcome} → On j c p q v → On j c p q v
to_end h = h

-- a test that is an equation of truth values
pub then_by : {j : ℕ} {h : Test} {a b : Script Rule} {p q : Stand} {v : Outcome} {t : Bool} → t ≡ holds h p.rest →
    t ≡ true → On j a p q v → On j (test h a b) p q v
then_by e f d = passes (sym e ∙ f) d

pub else_by : {j : ℕ} {h : Test} {a b : Script Rule} {p q : Stand} {v : Outcome} {t : Bool} → t ≡ holds h p.rest →
    t ≡ false → On j b p q v → On j (test h a b) p q v
else_by e f d = fails (sym e ∙ f) d

-- what a rule answers, by what is known of its result
pub answers_nothing : {j : ℕ} {A : Type 0} {c : Script Rule} {p q : Stand} {o : Option A} → o ≡ None →
    On j c p q (of_option o) → On j c p q nothing
answers_nothing {j = j} {c = c} {p = p} {q = q} e h = subst (λ (x : Option _). On j c p q (of_option x)) e h

pub answers_something : {j : ℕ} {A : Type 0} {c : Script Rule} {p q : Stand} {o : Option A} → (o ≡ None → ⊥) →
    On j c p q (of_option o) → On j c p q something
answers_something {o = None} e h = absurd (e refl)
answers_something {o = Some x} e h = h

-- a token of a kind came next and was taken, or none did
pub ate : {j : ℕ} {s t : State} {k : ℕ} {b : Bool} {n m : Script Rule} {q : Stand} {v : Outcome} → Ate s t k b → b ≡ true →
    On j n (stand t) q v → On j (test (comes 0 k) (token k n) m) (stand s) q v
ate a e d = passes (sym a.decided ∙ e) (by_bump (sym a.decided ∙ e) (a.token e) d)

pub not_ate : {j : ℕ} {s t : State} {k : ℕ} {b : Bool} {n m : Script Rule} {q : Stand} {v : Outcome} → Ate s t k b →
    b ≡ false → On j m (stand t) q v → On j (test (comes 0 k) (token k n) m) (stand s) q v
not_ate a e d = fails (sym a.decided ∙ e) (from_there (ap stand (sym (a.not_token e))) d)

pub clash : {b : Bool} → b ≡ true → b ≡ false → ⊥
clash e f = let x : true ≡ false = sym e ∙ f in cc

-- an expression through the knot
pub by_expression : {j : ℕ} {r : Restrictions} {bp : ℕ} {n : Outcome → Script Rule} {p u q : Stand}
    {w v : Outcome} → Answers j (knot.ExprBp r bp) p u w → On j (n w) u q v → On j (rule (knot.ExprBp r bp) n) p q v
by_expression h d = obeys h d

-- any other rule through the knot
pub by_part : {j : ℕ} (c : Rule) {n : Outcome → Script Rule} {p r q : Stand} {w v : Outcome} → Answers j c p r w →
    On j (n w) r q v → On j (rule c n) p q v
by_part c h d = obeys h d

pub by_kind : {b : Bool} {k n : ℕ} (f : ℕ → Bool) → b ≡ f k → k ≡ n → b ≡ f n
by_kind f e h = e ∙ ap f h

pub neither : {a b : Bool} → a ≡ false → b ≡ false → a || b ≡ false
neither e f = rw (e, f) refl

pub either : {a b : Bool} → (a ≡ false → b ≡ true) → a || b ≡ true
either {a = true} h = refl
either {a = false} h = h refl

pub both : {a b : Bool} → a ≡ true → b ≡ true → a && b ≡ true
both e f = rw (e, f) refl

pub not_both : {a b : Bool} → (a ≡ true → b ≡ false) → a && b ≡ false
not_both {a = true} h = h refl
not_both {a = false} h = refl

-- what a rule answers, by its truth value
pub answers_no : {j : ℕ} {c : Script Rule} {p q : Stand} {b : Bool} → b ≡ false → On j c p q (of_bool b) →
    On j c p q nothing
answers_no {b = true} e h = absurd cc
answers_no {b = false} e h = h

pub answers_yes : {j : ℕ} {c : Script Rule} {p q : Stand} {b : Bool} → b ≡ true → On j c p q (of_bool b) →
    On j c p q something
answers_yes {b = true} e h = h
answers_yes {b = false} e h = absurd cc

pub taken_expected : {j : ℕ} {s t : State} {k : ℕ} {b : Bool} {n m : Script Rule} {q : Stand} {v : Outcome} →
    Expected s t k b → b ≡ true → On j n (stand t) q v → On j (test (comes 0 k) (token k n) m) (stand s) q v
taken_expected a e d = passes (sym a.decided ∙ e) (by_bump (sym a.decided ∙ e) (a.token e) d)

pub lacking_expected : {j : ℕ} {s t : State} {k : ℕ} {b : Bool} {n m : Script Rule} {q : Stand} {v : Outcome} →
    Expected s t k b → b ≡ false → On j m (stand t) q v → On j (test (comes 0 k) n (report (expected k) m)) (stand s) q v
lacking_expected a e d = fails (sym a.decided ∙ e) (by_report (a.not_token e) d)

-- an expression, whether it reads like a block or not
pub some_expr : {j : ℕ} (e : BlockLike) {r : Restrictions} {bp : ℕ} {p q : Stand} →
    Answers j (knot.ExprBp r bp) p q (of_like e) →
    On j (rule (knot.ExprBp r bp) (λ v. if_some v done (give nothing))) p q something
some_expr like.Block h = by_expression h gives
some_expr like.NotBlock h = by_expression h gives

-- a truth value ends a loop
pub not_on : (b : Bool) → goes_on (of_bool b) ≡ false
not_on true = refl
not_on false = refl

first_of : {a b : Bool} → b ≡ false → a || b ≡ true → a ≡ true
first_of {a = true} e h = refl
first_of {a = false} e h = absurd (clash h e)

-- where a path begins with no `<` and no `::` was taken, a name comes next
pub name_left : {s t : State} {b : Bool} → Ate s t COLON2 b → b ≡ false → (next s == L_ANGLE) ≡ false →
    holds is_path_start s.rest ≡ true → is_path_name (next t) ≡ true
name_left {s = s} {t = t} a e l h =
    let n : is_at COLON2 s.rest ≡ false = sym a.decided ∙ e in
    let p : is_path_name (next s) ≡ true = first_of n (first_of l h) in
    subst (λ (x : State). is_path_name (next x) ≡ true) (sym (a.not_token e)) p

-- a test whose answer is a rule's outcome
pub decided : {j : ℕ} {h : Test} {a b : Script Rule} {p q : Stand} {v : Outcome} (t : Bool) → t ≡ holds h p.rest →
    (t ≡ true → On j a p q v) → (t ≡ false → On j b p q v) → On j (test h a b) p q v
decided true e y n = passes (sym e) (y refl)
decided false e y n = fails (sym e) (n refl)

-- a token of a kind, and on by one way, or by the other without it
pub by_eat_or : {j : ℕ} {s t : State} {k : ℕ} {b : Bool} {n m : Script Rule} {q : Stand} {v : Outcome} → Ate s t k b →
    (b ≡ true → On j n (stand t) q v) → (b ≡ false → On j m (stand t) q v) → On j (test (comes 0 k) (token k n) m) (stand s) q v
by_eat_or {b = true} a d e = ate a refl (d refl)
by_eat_or {b = false} a d e = not_ate a refl (e refl)

pub not_left : {a : Bool} (b : Bool) → a ≡ false → a && b ≡ false
not_left b e = rw e refl

-- an identifier that is read as a keyword, if one comes next
pub ate_as : {j : ℕ} {s t : State} {k : ℕ} {b : Bool} {n m : Script Rule} {q : Stand} {v : Outcome} → AteAs s t k b →
    b ≡ true → On j n (stand t) q v → On j (test (reads_as k) (bear k n) m) (stand s) q v
ate_as a e d = passes (both (a.bears e) (sym a.decided ∙ e)) (by_bear (a.bears e) (a.token e) d)

pub not_ate_as : {j : ℕ} {s t : State} {k : ℕ} {b : Bool} {n m : Script Rule} {q : Stand} {v : Outcome} → AteAs s t k b →
    b ≡ false → On j m (stand t) q v → On j (test (reads_as k) (bear k n) m) (stand s) q v
not_ate_as a e d = fails (not_both (λ _. sym a.decided ∙ e)) (from_there (ap stand (sym (a.not_token e))) d)

pub by_eat_as : {j : ℕ} {s t : State} {k : ℕ} {b : Bool} {n : Script Rule} {q : Stand} {v : Outcome} → AteAs s t k b →
    On j n (stand t) q v → On j (eat_as k n) (stand s) q v
by_eat_as {b = true} e d = ate_as e refl d
by_eat_as {b = false} e d = not_ate_as e refl d

-- the last token taken is what a parser says of itself
last_of_forests : (s : Stack) → last_under (forests s) ≡ last_below s
last_of_forests floor = refl
last_of_forests (push r m f) = ap (λ (k : ℕ). last_after k f) (last_of_forests r)

taken_at : (s : State) (k : ℕ) {l : ℕ} → l ≡ last_taken s → (last_taken_at (spot_at (stand s)) == k) ≡ (l == k)
taken_at s k e = ap (λ (n : ℕ). last_after n s.forest == k) (last_of_forests s.below) ∙ ap (λ (n : ℕ). n == k) (sym e)

-- the last token taken is of a kind, or not
pub ended_so : {j : ℕ} (s : State) {k l : ℕ} {a b : Script Rule} {q : Stand} {v : Outcome} → l ≡ last_taken s →
    (l == k) ≡ true → On j a (stand s) q v → On j (ends_with k a b) (stand s) q v
ended_so s {k = k} e h d = ends_so (taken_at s k e ∙ h) d

pub ended_else : {j : ℕ} (s : State) {k l : ℕ} {a b : Script Rule} {q : Stand} {v : Outcome} → l ≡ last_taken s →
    (l == k) ≡ false → On j b (stand s) q v → On j (ends_with k a b) (stand s) q v
ended_else s {k = k} e h d = ends_else (taken_at s k e ∙ h) d
