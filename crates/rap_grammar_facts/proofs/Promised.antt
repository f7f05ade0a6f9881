-- What the knot promises of a recursive rule that is no expression follows from its script: what a rule records without
-- a token is reckoned for all of them, and before which kinds each takes one.
use Rattle.std.proofs.Common.{◌≡◌, ◌≢◌, ◌≤◌, ◌==◌, not, ℕ, suc, Bool, true, false, refl, ap, eqb-true, arith}
use Rattle.std.proofs.lemmas.Bool.Decides.{nat_tests}
use Rattle.rap_base.specs.TokenKind.{EOF, R_CURLY}
use Rattle.rap_events.specs.Record.{next_kind}
use Rattle.rap_events.specs.State.{state, next}
use Rattle.rap_events.specs.declared.parser.Parser.{Parser}
use Rattle.rap_grammar_scripts.specs.Control.{if_expr}
use Rattle.rap_grammar_scripts.specs.Exec.{Does, Obeys}
use Rattle.rap_grammar_scripts.specs.First.{is_type_first, is_generic_arg_first}
use Rattle.rap_grammar_scripts.specs.Firsts.{takes_before, rests_before, stops_items}
use Rattle.rap_grammar_scripts.specs.GenericArgs.{generic_arg}
use Rattle.rap_grammar_scripts.specs.GenericParams.{generic_param_list, where_clause}
use Rattle.rap_grammar_scripts.specs.Items.{item_or_macro}
use Rattle.rap_grammar_scripts.specs.Knot.{script_of}
use Rattle.rap_grammar_scripts.specs.Patterns.{pattern_r, pattern_single_r}
use Rattle.rap_grammar_scripts.specs.Recovery.{stops_type}
use Rattle.rap_grammar_scripts.specs.Script.{Outcome}
use Rattle.rap_grammar_scripts.specs.Stand.{stand}
use Rattle.rap_grammar_scripts.specs.Statements.{stmt}
use Rattle.rap_grammar_scripts.specs.Types.{type_with_bounds_cond}
use Rattle.rap_grammar_scripts.specs.declared.arguments.Semicolon.{Semicolon}
use Rattle.rap_grammar_scripts.specs.declared.rule.Rule.{Rule}
use Rattle.rap_grammar_scripts.specs.declared.rule.Rule.TheVariants as knot
use Rattle.rap_grammar_scripts.proofs.Ends.{answers}
use Rattle.rap_grammar_scripts.proofs.Firsts.{rule_rests}
use Rattle.rap_grammar_frame.specs.Grew.{Grew, Took}
use Rattle.rap_grammar_frame.specs.Room.{atom_room, list_room, element_room, type_room, pattern_room, single_pattern_room, statement_room}
use Rattle.rap_grammar_frame.specs.Rules.{IsType, IsItem, IsStatement, IsPattern, IsSinglePattern, IsArmPattern}
use Rattle.rap_grammar_frame.proofs.Done.{rule_grew, rule_took}

-- what does a rule's script obeys the rule
obeyed : {n : ℕ} {v : Outcome} (c : Rule) (p q : Parser) → Does n (script_of c) v (state p) (state q) →
    Obeys (suc n) c v (state p) (state q)
obeyed {n = n} {v = v} c p q d =
    answers {n = n} {m = suc n} c {p = stand (state p)} {q = stand (state q)} {v = v} (omega arith) d

grew_by : {n : ℕ} {v : Outcome} (c : Rule) (p q : Parser) → Does n (script_of c) v (state p) (state q) →
    Grew (state p) (state q) 20
grew_by {n = n} {v = v} c p q d = rule_grew {n = suc n} {v = v} c p q (obeyed {n = n} {v = v} c p q d)

took_by : {n : ℕ} {v : Outcome} (room : ℕ) (c : Rule) (p q : Parser) → Does n (script_of c) v (state p) (state q) →
    room ≤ 150 → takes_before c (next (state p)) ≡ true → Took (state p) (state q) room
took_by {n = n} {v = v} room c p q d r h =
    let k = rule_took {n = suc n} {v = v} c p q (obeyed {n = n} {v = v} c p q d) h in
    record {
      input = k.input;
      left = k.left;
      count = omega (arith, k.left, k.count, r);
      messages = k.messages;
      marker = k.marker;
      below = k.below;
    }

next_by : {n : ℕ} {v : Outcome} (c : Rule) (p q : Parser) → Does n (script_of c) v (state p) (state q) →
    rests_before c (next (state p)) ≡ true → next (state q) ≡ next (state p)
next_by {n = n} {v = v} c p q d h =
    ap next_kind (rule_rests {n = suc n} c {v = v} p q (obeyed {n = n} {v = v} c p q d) h)

by_truth : {A : Type 0} (b : Bool) → (b ≡ true → A) → (b ≡ false → A) → A
by_truth true f g = f refl
by_truth false f g = g refl

unequal : {a b : ℕ} → a ≢ b → (a == b) ≡ false
unequal {a = a} {b = b} h = by_truth (a == b) (λ e. absurd (h (eqb-true a b e))) (λ e. e)

goes_on : (a : Bool) (k : ℕ) → k ≢ EOF → (a ≡ true → k ≢ R_CURLY) → not (stops_items a k) ≡ true
goes_on true k e f = rw (unequal e, unequal (f refl)) refl
goes_on false k e f = rw (unequal e) refl

no_stop : (k : ℕ) → is_type_first k ≡ true → stops_type k ≡ false
no_stop k e = grind (arith, nat_tests)

pub reads_item : {n : ℕ} {v : Outcome} (a b : Bool) (p q : Parser) → Does n (item_or_macro a b) v (state p) (state q) →
    IsItem a (state p) (state q)
unfolding script_of
reads_item {n = n} {v = v} a b p q d =
    let c = knot.ItemOrMacro a b in
    record {
      grew = grew_by {n = n} {v = v} c p q d;
      took = λ e f. took_by {n = n} {v = v} statement_room c p q d (omega arith) (goes_on a (next (state p)) e f);
    }

pub reads_stmt : {n : ℕ} {v : Outcome} (a : Semicolon) (p q : Parser) → Does n (stmt a) v (state p) (state q) →
    IsStatement (state p) (state q)
unfolding script_of
reads_stmt {n = n} {v = v} a p q d =
    let c = knot.Stmt a in
    record {
      grew = grew_by {n = n} {v = v} c p q d;
      took = λ e. took_by {n = n} {v = v} statement_room c p q d (omega arith) (rw (unequal e) refl);
    }

pub reads_type : {n : ℕ} {v : Outcome} (a : Bool) (p q : Parser) →
    Does n (type_with_bounds_cond a) v (state p) (state q) → IsType (state p) (state q)
unfolding script_of
reads_type {n = n} {v = v} a p q d =
    let c = knot.TypeWithBoundsCond a in
    record {
      grew = grew_by {n = n} {v = v} c p q d;
      took =
          λ e. took_by {n = n} {v = v} type_room c p q d (omega arith) (rw (no_stop (next (state p)) e) refl);
      skips = λ e. took_by {n = n} {v = v} type_room c p q d (omega arith) (rw e refl);
    }

pub reads_pattern : {n : ℕ} {v : Outcome} (p q : Parser) → Does n (pattern_r false) v (state p) (state q) →
    IsPattern (state p) (state q)
unfolding script_of
reads_pattern {n = n} {v = v} p q d =
    record {
      grew = grew_by {n = n} {v = v} knot.Pattern p q d;
      took = λ e. took_by {n = n} {v = v} pattern_room knot.Pattern p q d (omega arith) (rw e refl);
      stays = next_by {n = n} {v = v} knot.Pattern p q d;
    }

pub reads_arm_pattern : {n : ℕ} {v : Outcome} (p q : Parser) → Does n (pattern_r true) v (state p) (state q) →
    IsArmPattern (state p) (state q)
unfolding script_of
reads_arm_pattern {n = n} {v = v} p q d =
    record {
      grew = grew_by {n = n} {v = v} knot.ArmPattern p q d;
      took = λ e. took_by {n = n} {v = v} pattern_room knot.ArmPattern p q d (omega arith) (rw e refl);
      stays = next_by {n = n} {v = v} knot.ArmPattern p q d;
    }

pub reads_single_pattern : {n : ℕ} {v : Outcome} (p q : Parser) →
    Does n (pattern_single_r false) v (state p) (state q) → IsSinglePattern (state p) (state q)
unfolding script_of
reads_single_pattern {n = n} {v = v} p q d =
    record {
      grew = grew_by {n = n} {v = v} knot.PatternSingle p q d;
      took = λ e. took_by {n = n} {v = v} single_pattern_room knot.PatternSingle p q d (omega arith) (rw e refl);
      stays = next_by {n = n} {v = v} knot.PatternSingle p q d;
    }

pub took_generic_arg : {n : ℕ} {v : Outcome} (p q : Parser) → Does n generic_arg v (state p) (state q) →
    is_generic_arg_first (next (state p)) ≡ true → Took (state p) (state q) element_room
unfolding script_of
took_generic_arg {n = n} {v = v} p q d h =
    took_by {n = n} {v = v} element_room knot.GenericArg p q d (omega arith) h

pub took_generic_param_list : {n : ℕ} {v : Outcome} (p q : Parser) → Does n generic_param_list v (state p) (state q) →
    Took (state p) (state q) list_room
unfolding script_of
took_generic_param_list {n = n} {v = v} p q d =
    took_by {n = n} {v = v} list_room knot.GenericParamList p q d (omega arith) refl

pub took_where_clause : {n : ℕ} {v : Outcome} (p q : Parser) → Does n where_clause v (state p) (state q) →
    Took (state p) (state q) list_room
unfolding script_of
took_where_clause {n = n} {v = v} p q d =
    took_by {n = n} {v = v} list_room knot.WhereClause p q d (omega arith) refl

pub took_if_expr : {n : ℕ} {v : Outcome} (p q : Parser) → Does n if_expr v (state p) (state q) →
    Took (state p) (state q) atom_room
unfolding script_of
took_if_expr {n = n} {v = v} p q d = took_by {n = n} {v = v} atom_room knot.IfExpr p q d (omega arith) refl

-- all of them
pub ruleset facts = (
  reads_item,
  reads_stmt,
  reads_type,
  reads_pattern,
  reads_arm_pattern,
  reads_single_pattern,
  took_generic_arg,
  took_generic_param_list,
  took_where_clause,
  took_if_expr,
)
