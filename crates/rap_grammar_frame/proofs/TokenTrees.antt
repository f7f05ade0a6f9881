-- Lists of tokens in their brackets: what stands under the marker, and how the script goes over it.
use Rattle.std.proofs.Common.{◌≡◌, ℕ, Bool, true, false, ◌==◌, [], ◌∷◌, refl, sym, ap, subst, ◌∙◌, arith, if◌then◌else◌}
use Rattle.std.proofs.lemmas.Bool.Decides.{nat_tests}
use Rattle.rap_base.specs.TokenKind.{EOF, L_PAREN, R_PAREN, L_BRACK, R_BRACK, R_CURLY}
use Rattle.rap_base.specs.NodeKind.{TOKEN_TREE}
use Rattle.rap_base.specs.TokenTests.{is_l_delimiter, is_delimiter}
use Rattle.rap_events.specs.Record.{next_kind}
use Rattle.rap_events.specs.Composite.{is_at, width}
use Rattle.rap_events.specs.Fit.{Fit, Opens, begin, token, tree, partner}
use Rattle.rap_events.specs.Forest.{Forest, none, node, leaf}
use Rattle.rap_events.specs.State.{State, state, next, Opened, Bumped, Expected}
use Rattle.rap_events.specs.declared.parser.Parser.{Parser}
use Rattle.rap_grammar_scripts.specs.First.{one_of, is_bracket}
use Rattle.rap_grammar_scripts.specs.TokenTree.{tokens_turn, tokens_in, tokens_to, token_tree}
use Rattle.rap_grammar_scripts.specs.Script.{Outcome, something}
use Rattle.rap_grammar_scripts.specs.Stand.{Stand, stand}
use Rattle.rap_grammar_scripts.proofs.Balance.{one_wide}
use Rattle.rap_grammar_scripts.proofs.Ends.{gives, passes, fails}
use Rattle.rap_grammar_frame.proofs.Steps.{On, Turns, last_turn}

bracket_opens : (k : ℕ) → is_bracket k ≡ true → is_l_delimiter k ≡ true
bracket_opens k h = grind (arith, nat_tests)

no_delimiter : (k : ℕ) → is_bracket k ≡ false → (k == R_CURLY) ≡ false → one_of (R_PAREN ∷ R_BRACK ∷ []) k ≡ false →
    is_delimiter k ≡ false
no_delimiter k h i j = grind (arith, nat_tests)

-- an opening bracket
pub begun : {s t u : State} {m : ℕ} → Opened s t m → Bumped t u (next t) 1 → is_bracket (next s) ≡ true →
    Opens (next s) u.forest
begun {s = s} {t = t} {u = u} o b h =
    let n : next t ≡ next s = ap next_kind o.recorded.rest in
    let f : u.forest ≡ leaf none (next s) 1 =
    b.forest ∙ ap (λ (x : Forest). leaf x (next t) 1) o.forest ∙ ap (λ (x : ℕ). leaf none x 1) n in
    subst (λ (x : Forest). Opens (next s) x) (sym f) (begin (bracket_opens (next s) h))

-- a list in brackets, and any other token
pub more_tree : {k : ℕ} {f g x : Forest} → g ≡ node f TOKEN_TREE x → Opens k f → Opens k g
more_tree {k = k} e h = subst (λ (y : Forest). Opens k y) (sym e) (tree h)

pub more_token : {k : ℕ} {s t : State} → Bumped s t (next s) 1 → is_bracket (next s) ≡ false →
    (next s == R_CURLY) ≡ false → one_of (R_PAREN ∷ R_BRACK ∷ []) (next s) ≡ false → Opens k s.forest → Opens k t.forest
more_token {k = k} {s = s} b h i j o =
    subst (λ (y : Forest). Opens k y) (sym b.forest) (token o (no_delimiter (next s) h i j))

-- the closing bracket, unless a message says that it is missing
pub closed : {k ket : ℕ} {s t : State} {b : Bool} → Expected s t ket b → ket ≡ partner k →
    (s.messages ≡ 0 → Opens k s.forest) → t.messages ≡ 0 → Fit TOKEN_TREE t.forest
closed {k = k} {ket = ket} {s = s} e i h z = record {
  operation = λ j. absurd (omega arith);
  tree = λ j. record {
    bracket = k;
    inner = s.forest;
    opens = h (omega (arith, e.messages));
    closes =
        e.clean z ∙ ap (λ (x : ℕ). leaf s.forest x (width x)) i
        ∙ ap (λ (x : ℕ). leaf s.forest (partner k) x) (one_wide k);
  };
}

-- the script, by the bracket that comes next
by_opening : {j : ℕ} (a b : Bool) {p q : Stand} {v : Outcome} → (next_kind p.rest == L_PAREN) ≡ a →
    (next_kind p.rest == L_BRACK) ≡ b →
    On j (tokens_in (if a then R_PAREN else (if b then R_BRACK else R_CURLY))) p q v → On j token_tree p q v
unfolding token_tree
by_opening true b e i r = passes e r
by_opening false true e i r = fails e (passes i r)
by_opening false false e i r = fails e (fails i r)

pub by_bracket : {j ket : ℕ} {p q : Stand} {v : Outcome} → ket ≡ partner (next_kind p.rest) →
    On j (tokens_in ket) p q v → On j token_tree p q v
by_bracket {p = p} e d =
    by_opening (next_kind p.rest == L_PAREN) (next_kind p.rest == L_BRACK) refl refl (rw (← e) d)

at_end : {j : ℕ} (ket : ℕ) (p : Stand) (b : Bool) → is_at EOF p.rest ≡ b → (b ≡ false → is_at ket p.rest ≡ true) →
    On j (tokens_turn ket false false) p p something
at_end ket p true e f = passes e gives
at_end ket p false e f = fails e (passes (f refl) gives)

-- the end of the tokens: the closing bracket, or none is left
pub tokens_end : {j : ℕ} (ket : ℕ) {o p : Parser} → Turns j (tokens_turn ket) false false false false o p →
    (is_at EOF (state p).rest ≡ false → is_at ket (state p).rest ≡ true) →
    On j (tokens_to ket) (stand (state o)) (stand (state p)) something
unfolding tokens_to
tokens_end ket {p = p} k f = last_turn k (at_end ket (stand (state p)) (is_at EOF (state p).rest) refl f) refl
