-- An expression after its attributes, and what was taken where there is none.
use Rattle.std.proofs.Common.{◌≡◌, ◌≢◌, ℕ, suc, Bool, true, false, not, ◌==◌, ◌||◌, List, Option, Some, None, length, refl, sym, ap, ◌∙◌, arith}
use Rattle.std.proofs.lemmas.Bool.Decides.{nat_tests}
use Rattle.rap_base.specs.TokenKind.{EOF, L_PAREN, L_CURLY, R_CURLY}
use Rattle.rap_base.specs.TokenSet.{member}
use Rattle.rap_base.specs.declared.token_set.TokenSet.{TokenSet}
use Rattle.rap_events.specs.Machine.{push, top}
use Rattle.rap_events.specs.State.{State, state, next, Opened, Abandoned, Recovered, but_last}
use Rattle.rap_events.specs.declared.parser.CompletedMarker.{CompletedMarker}
use Rattle.rap_events.specs.declared.parser.Parser.{Parser}
use Rattle.rap_grammar_scripts.specs.Exec.{Does, Obeys}
use Rattle.rap_grammar_scripts.specs.Expressions.{expr_bp}
use Rattle.rap_grammar_scripts.specs.First.{is_expr_first}
use Rattle.rap_grammar_scripts.specs.Knot.{script_of}
use Rattle.rap_grammar_scripts.specs.Recovery.{is_expr_recovery, stops_expr}
use Rattle.rap_grammar_scripts.specs.Script.{Outcome, nothing}
use Rattle.rap_grammar_scripts.specs.Words.{of_expr}
use Rattle.rap_grammar_scripts.specs.declared.arguments.BlockLike.{BlockLike}
use Rattle.rap_grammar_scripts.specs.declared.arguments.Restrictions.{Restrictions}
use Rattle.rap_grammar_scripts.specs.declared.rule.Rule.TheVariants as knot
use Rattle.rap_grammar_scripts.proofs.Firsts.{rule_rests}
use Rattle.rap_grammar_frame.specs.Grew.{Grew, Spent}
use Rattle.rap_grammar_frame.specs.Room.{marked_room}
use Rattle.rap_grammar_frame.specs.Rules.{Answered, AnsweredFrom, Missed}
use Rattle.rap_grammar_frame.proofs.Done.{rule_took}
use Rattle.rap_grammar_frame.proofs.Steps.{clash}

abbrev keeps : ℕ → Bool
keeps k = (k == L_CURLY) || ((k == R_CURLY) || is_expr_recovery k)

no_brace : (k : ℕ) → is_expr_first k ≡ false → k ≢ L_CURLY
no_brace k f e = clash (rw e refl) f

no_paren : (k : ℕ) → is_expr_first k ≡ false → k ≢ L_PAREN
no_paren k f e = clash (rw e refl) f

other : (k : ℕ) → k ≢ L_CURLY → k ≢ L_PAREN → stops_expr k ≡ false → keeps k ≡ false
other k b p s = grind (arith, nat_tests)

not_kept : (k : ℕ) → is_expr_first k ≡ false → stops_expr k ≡ false → keeps k ≡ false
not_kept k f s = other k (no_brace k f) (no_paren k f) s

no_end : (k : ℕ) → stops_expr k ≡ false → k ≢ EOF
no_end k s e = clash (rw e refl) s

-- a message takes the next token along unless that ends the search
pub spent_missing : {s t u : State} {bytes : List ℕ} {set : TokenSet} {kept : Bool} →
    ((k : ℕ) → member set k ≡ is_expr_recovery k) → is_expr_first (next s) ≡ false → Recovered s t bytes set kept →
    Abandoned t u →
    stops_expr (next s) ≡ false → Spent s u marked_room
spent_missing {s = s} {kept = true} first f r a h =
    let k : keeps (next s) ≡ true = rw (← (first (next s))) (sym r.decided) in
    absurd (clash k (not_kept (next s) f h))
spent_missing {s = s} {kept = false} first f r a h =
    let d = r.skipped refl in
    let l = d.less (no_end (next s) h) in
    record {
      left = omega (arith, l, a.recorded.left);
      count = omega (arith, l, d.count, a.recorded.left, a.recorded.count);
    }

-- what a rule takes where no expression was read, as is computed of its script
missed : {n : ℕ} {v : Outcome} (r : Restrictions) (bp : ℕ) (p q : Parser) →
    Does n (expr_bp r bp) v (state p) (state q) → Missed (state p) (state q)
unfolding state expr_bp script_of
missed {n = n} {v = v} r bp p q d =
    let obeys : Obeys (suc n) (knot.ExprBp r bp) v (state p) (state q) = record { run = d.run } in
    record {
      took = λ h.
          let t = rule_took {n = suc n} {v = v} (knot.ExprBp r bp) p q obeys (ap not h) in
          record {
            input = t.input;
            left = t.left;
            count = omega (arith, t.count);
            messages = t.messages;
            marker = t.marker;
            below = t.below;
          };
      stays = λ h. ap length (rule_rests {n = suc n} (knot.ExprBp r bp) {v = v} p q obeys h);
    }

-- an expression after its attributes
pub answered : {n : ℕ} (r : Restrictions) (bp : ℕ) (o : Option (CompletedMarker × BlockLike)) (p q : Parser)
    {s t : State} {m : ℕ} → Does n (expr_bp r bp) (of_expr o) (state p) (state q) → Opened (state p) s m →
    Grew s t 0 → AnsweredFrom t (state q) r.prefer_stmt bp o → Answered (state p) (state q) r.prefer_stmt bp o
answered r bp (Some e) p q d b a c =
    let x = c.0 in
    let below : push (state p).below (state p).marker (state p).forest ≡
    push (state q).below (state q).marker (but_last (state q).forest) = sym b.below ∙ sym a.below ∙ x.below in (
      record {
        took = record {
          input = x.input ∙ a.input ∙ b.recorded.input;
          left = omega (arith, b.recorded.left, a.left, x.left);
          count = omega (arith, b.recorded.left, b.recorded.count, a.left, a.count, x.count);
          messages = omega (arith, b.recorded.messages, a.messages, x.messages);
          marker = cc;
          below = cc;
        };
        last = x.last;
        one = cc;
      },
      c.1,
    )
answered {n = n} r bp None p q {t = t} d b a c =
    let below : push (state p).below (state p).marker (state p).forest ≡
    push (state q).below (state q).marker (top t.below) = sym b.below ∙ sym a.below ∙ c.below in (
      record {
        input = c.input ∙ a.input ∙ b.recorded.input;
        left = omega (arith, b.recorded.left, a.left, c.left);
        count = omega (arith, b.recorded.left, b.recorded.count, a.left, a.count, c.left, c.count);
        messages = omega (arith, b.recorded.messages, a.messages, c.messages);
        marker = cc;
        below = cc;
      },
      omega (arith, b.recorded.messages, a.messages, c.messages),
      missed {n = n} {v = nothing} r bp p q d,
    )
