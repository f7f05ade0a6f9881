-- What a rule does with so many rules inside one another, it does where there may be more.
use Rattle.std.proofs.Common.{◌≡◌, ℕ, suc, ◌<◌, ◌≤◌, true, Option, None, Result, Ok, Err}
use Rattle.std.specs.Prelude.{IfOk}
use Rattle.rap_events.specs.State.{State, state, next}
use Rattle.rap_events.specs.declared.parser.CompletedMarker.{CompletedMarker}
use Rattle.rap_events.specs.declared.parser.Parser.{Parser}
use Rattle.rap_grammar_scripts.proofs.Ends.{answers, answers_more, gives, obeys}
use Rattle.rap_grammar_scripts.proofs.Exec.{runs, does_follow}
use Rattle.rap_grammar_scripts.specs.Exec.{Ends, Answers, Does, Obeys}
use Rattle.rap_grammar_scripts.specs.Expressions.{expr_bp}
use Rattle.rap_grammar_scripts.specs.First.{is_generic_arg_first}
use Rattle.rap_grammar_scripts.specs.GenericArgs.{generic_arg}
use Rattle.rap_grammar_scripts.specs.Knot.{script_of}
use Rattle.rap_grammar_scripts.specs.declared.arguments.Restrictions.{Restrictions}
use Rattle.rap_grammar_scripts.specs.declared.rule.Rule.{Rule}
use Rattle.rap_grammar_scripts.specs.declared.rule.Rule.TheVariants as knot
use Rattle.rap_grammar_scripts.specs.Script.{Script, Outcome, nothing, something, block, again, Runs}
use Rattle.rap_grammar_scripts.specs.Stand.{Stand, stand, spot_at}
use Rattle.rap_grammar_scripts.specs.Words.{of_expr}
use Rattle.rap_grammar.specs.Part.{Goes, part_of, option_of}
use Rattle.rap_grammar_scripts.specs.declared.arguments.BlockLike.{BlockLike}
use Rattle.rap_grammar_frame.specs.Rules.{Answered, Post}
use Rattle.rap_grammar_facts.proofs.Promised.{took_generic_arg}

-- what the two clauses of an expression say of its rule, where its result is returned as it is
pub expr_post : {E : Type 0} {n m : ℕ} → n < m → (r : Restrictions) (bp : ℕ) (old new : State) (res : Result (Option (CompletedMarker × BlockLike)) E) →
    IfOk res (Answered old new r.prefer_stmt bp) → IfOk res (λ e. Does n (expr_bp r bp) (of_expr e) old new) → IfOk res (Post m (knot.ExprBp r bp) old new)
unfolding script_of
expr_post l r bp old new (Ok e) answered made = (answered, answers (knot.ExprBp r bp) l made)
expr_post l r bp old new (Err x) answered made = made

-- what the knot promises of a generic argument follows from its script
pub generic_arg_post : {n m : ℕ} → n < m → (p q : Parser) → is_generic_arg_first (next (state p)) ≡ true →
    Does n generic_arg something (state p) (state q) → Post m knot.GenericArg (state p) (state q) None
unfolding script_of
generic_arg_post l p q first made = (took_generic_arg p q made first, answers knot.GenericArg l made)

pub more : (n m : ℕ) → n ≤ m → (c : Rule) (s t : State) (e : Option (CompletedMarker × BlockLike)) → Post n c s t e →
    Post m c s t e
more n m l c s t e h = (h.0, answers_more l h.1)

-- a rule's script with less depth
pub answers_so : (n m : ℕ) (c : Rule) (p q : Stand) (v : Outcome) → Ends n (script_of c) p q v → n < m → Answers m c p q v
answers_so n m c p q v h l = answers c l h

-- a script that ends so runs to there
pub ends_run : {n : ℕ} {s : Script Rule} {p q : Stand} {v : Outcome} → Ends n s p q v → Runs script_of s (spot_at p) (spot_at q) v
ends_run {n = n} {s = s} {p = p} {q = q} {v = v} d = runs n s p q v d.run

-- a parser goes along a rule's script, along a rule alone or as an option, and along any script that it follows
pub own_goes : {n : ℕ} {c : Rule} {v : Outcome} {old new : State} → Obeys (suc n) c v old new → Goes (script_of c) old new
own_goes {n = n} {c = c} {v = v} {old = old} {new = new} d =
    record { outcome = v; follows = record { run = runs n (script_of c) (stand old) (stand new) v d.run } }

pub part_goes : {n : ℕ} {c : Rule} {v : Outcome} {old new : State} → Obeys (suc n) c v old new → Goes (part_of c) old new
unfolding part_of
part_goes d = record { outcome = something; follows = record { run = ends_run (obeys d gives) } }

pub option_goes : {n : ℕ} {c : Rule} {v : Outcome} {old new : State} → Obeys (suc n) c v old new → Goes (option_of c) old new
unfolding option_of
option_goes {v = nothing} d = record { outcome = nothing; follows = record { run = ends_run (obeys d gives) } }
option_goes {v = something} d = record { outcome = something; follows = record { run = ends_run (obeys d gives) } }
option_goes {v = block} d = record { outcome = something; follows = record { run = ends_run (obeys d gives) } }
option_goes {v = again a b} d = record { outcome = something; follows = record { run = ends_run (obeys d gives) } }

pub goes : {n : ℕ} {s : Script Rule} {v : Outcome} {old new : State} → Does n s v old new → Goes s old new
goes {v = v} d = record { outcome = v; follows = does_follow d }
