-- Balanced tokens between two brackets become the node that nests as they do, without a message.
use Rattle.std.proofs.Common.{◌≡◌, ◌≢◌, ℕ, Bool, true, false, ◌==◌, List, [], ◌∷◌, ◌++◌, append_assoc, refl, ap, ◌∙◌, arith, if◌then◌else◌}
use Rattle.std.proofs.lemmas.Bool.Decides.{nat_tests}
use Rattle.rap_base.specs.TokenKind.{EOF, L_PAREN, R_PAREN, L_BRACK, R_BRACK, R_CURLY}
use Rattle.rap_base.specs.TokenTests.{is_l_delimiter, is_delimiter}
use Rattle.rap_events.specs.Record.{Record, next_kind}
use Rattle.rap_events.specs.Composite.{is_at, width}
use Rattle.rap_events.specs.Fit.{partner}
use Rattle.rap_events.specs.Forest.{Forest, none, leaf, ◌⧺◌, message_count}
use Rattle.rap_events.specs.State.{State}
use Rattle.rap_grammar_scripts.specs.Balanced.{ArePartners, Balanced, nothing_more, token_first, list_first, in_brackets, NestsAsBrackets}
use Rattle.rap_grammar_scripts.specs.First.{one_of, is_bracket}
use Rattle.rap_grammar_scripts.specs.TokenTree.{tokens_to, tokens_in, token_tree}
use Rattle.rap_grammar_scripts.specs.Knot.{script_of, Follows}
use Rattle.rap_grammar_scripts.specs.declared.rule.Rule.{Rule}
use Rattle.rap_grammar_scripts.specs.Script.{Script, Outcome, something, Spot, Runs, forests, gives, passes, fails, takes, takes_any, starts, finishes, follows, obeys, turns, stops}
use Rattle.rap_grammar_scripts.proofs.Forests.{⧺-assoc, message_count-⧺}
use Rattle.rap_grammar_scripts.proofs.OneEnd.{one_end}

wide : (a b : Bool) → width (if a then R_PAREN else (if b then R_BRACK else R_CURLY)) ≡ 1
wide true b = refl
wide false true = refl
wide false false = refl

-- a closing bracket is written with one token
pub one_wide : (k : ℕ) → width (partner k) ≡ 1
one_wide k = wide (k == L_PAREN) (k == L_BRACK)

-- from these tokens and this forest a script leads to those tokens and that forest, and the older forests stay
abbrev pub Leads : Script Rule → List Forest → List Record → Forest → List Record → Forest → Type 0
Leads s b rs f l g =
    Runs script_of s (record { rest = rs; forest = f; below = b })
    (record { rest = l; forest = g; below = b }) something

-- the tests of a turn: a closing bracket is one token, and no other token is one
abbrev one_of_three : Bool → Bool → ℕ
one_of_three a b = if a then R_PAREN else (if b then R_BRACK else R_CURLY)

closing : (a b : Bool) (rs : List Record) → is_at (one_of_three a b) rs ≡ (next_kind rs == one_of_three a b)
closing true b rs = refl
closing false true rs = refl
closing false false rs = refl

at_closing : (k : ℕ) (rs : List Record) → is_at (partner k) rs ≡ (next_kind rs == partner k)
at_closing k rs = closing (k == L_PAREN) (k == L_BRACK) rs

closes_nothing : (k j : ℕ) → is_delimiter j ≡ false → (j == partner k) ≡ false
closes_nothing k j h = grind (arith, nat_tests)

opens_only : (k j : ℕ) → is_l_delimiter j ≡ true → (j == partner k) ≡ false
opens_only k j h = grind (arith, nat_tests)

opening : (j : ℕ) → is_l_delimiter j ≡ true → is_bracket j ≡ true
opening j h = grind (arith, nat_tests)

not_opening : (j : ℕ) → is_delimiter j ≡ false → is_bracket j ≡ false
not_opening j h = grind (arith, nat_tests)

not_brace : (j : ℕ) → is_delimiter j ≡ false → (j == R_CURLY) ≡ false
not_brace j h = grind (arith, nat_tests)

not_unmatched : (j : ℕ) → is_delimiter j ≡ false → one_of (R_PAREN ∷ R_BRACK ∷ []) j ≡ false
not_unmatched j h = grind (arith, nat_tests)

not_end : (j : ℕ) → j ≢ EOF → (j == EOF) ≡ false
not_end j h = grind (arith, nat_tests)

opens_some : (j : ℕ) → is_l_delimiter j ≡ true → j ≢ EOF
opens_some j h = λ e. absurd (grind (arith, nat_tests))

closing_some : (k : ℕ) → (partner k == EOF) ≡ false
closing_some k = grind (arith, nat_tests)

same : (j : ℕ) → (j == j) ≡ true
same j = grind (arith, nat_tests)

met : (k : ℕ) (c : Record) (l : List Record) → c.kind ≡ partner k → is_at (partner k) (c ∷ l) ≡ true
met k c l e = at_closing k (c ∷ l) ∙ ap (λ (x : ℕ). x == partner k) e ∙ same (partner k)

not_over : (k : ℕ) (c : Record) → c.kind ≡ partner k → (c.kind == EOF) ≡ false
not_over k c e = ap (λ (x : ℕ). x == EOF) e ∙ closing_some k

by_opening : (a b : Bool) {p q : Spot} {v : Outcome} → (next_kind p.rest == L_PAREN) ≡ a →
    (next_kind p.rest == L_BRACK) ≡ b → Runs script_of (tokens_in (one_of_three a b)) p q v →
    Runs script_of token_tree p q v
unfolding token_tree
by_opening true b e i r = passes e r
by_opening false true e i r = fails e (passes i r)
by_opening false false e i r = fails e (fails i r)

-- the bracket that closes a list is the partner of the one that comes next
pub by_partner : {p q : Spot} {v : Outcome} → Runs script_of (tokens_in (partner (next_kind p.rest))) p q v →
    Runs script_of token_tree p q v
by_partner {p = p} r = by_opening (next_kind p.rest == L_PAREN) (next_kind p.rest == L_BRACK) refl refl r

-- a list in brackets, from what stands between them
list_way : {a c : Record} (ks : List Record) (t : Forest) → ArePartners a c →
    ((b : List Forest) (f : Forest) (l : List Record) →
    Leads (tokens_to (partner a.kind)) b (ks ++ c ∷ l) f (c ∷ l) (f ⧺ t)) →
    (b : List Forest) (f : Forest) (l : List Record) →
    Leads token_tree b (a ∷ (ks ++ c ∷ l)) f l (f ⧺ in_brackets a t c)
list_way {a = a} {c = c} ks t p d b f l =
    let here : is_at (partner a.kind) (c ∷ l) ≡ true = met a.kind c l p.closes in
    by_partner (starts (takes_any (opens_some a.kind p.opens)
    (follows (d (f ∷ b) (leaf none a.kind 1) l)
    (passes here (takes here (rw (one_wide a.kind, ← p.closes) (finishes gives)))))))

-- the tokens between two brackets
between : {ks : List Record} {t : Forest} → Balanced ks t → (k : ℕ) (c : Record) → c.kind ≡ partner k →
    (b : List Forest) (f : Forest) (l : List Record) → Leads (tokens_to (partner k)) b (ks ++ c ∷ l) f (c ∷ l) (f ⧺ t)
unfolding tokens_to script_of
between nothing_more k c e b f l = stops (fails (not_over k c e) (passes (met k c l e) gives)) refl
between (token_first {r = r} {ks = ks} {t = t} n d) k c e b f l =
    rw (← (⧺-assoc f (leaf none r.kind 1) t))
    (turns (fails (not_end r.kind n.some)
    (fails (at_closing k (r ∷ (ks ++ c ∷ l)) ∙ closes_nothing k r.kind n.inner)
    (fails (not_opening r.kind n.inner)
    (fails (not_brace r.kind n.inner)
    (fails (not_unmatched r.kind n.inner) (takes_any n.some gives))))))
    (between d k c e b (leaf f r.kind 1) l))
between (list_first {a = a} {c = z} {js = js} {ks = ks} {t = t} {u = u} p d x) k c e b f l =
    rw (append_assoc, ← (⧺-assoc f (in_brackets a t z) u))
    (turns (fails (not_end a.kind (opens_some a.kind p.opens))
    (fails (at_closing k (a ∷ (js ++ z ∷ (ks ++ c ∷ l))) ∙ opens_only k a.kind p.opens)
    (passes (opening a.kind p.opens)
    (obeys (list_way js t p (between d a.kind z p.closes) b f (ks ++ c ∷ l)) gives))))
    (between x k c e b (f ⧺ in_brackets a t z) l))

-- what is balanced has no message
no_message : {ks : List Record} {t : Forest} → Balanced ks t → message_count t ≡ 0
no_message nothing_more = refl
no_message (token_first {r = r} {t = t} n d) = omega (arith, message_count-⧺ (leaf none r.kind 1) t, no_message d)
no_message (list_first {a = a} {c = c} {t = t} {u = u} p d x) =
    omega (
      arith,
      message_count-⧺ (in_brackets a t c) u,
      message_count-⧺ (leaf none a.kind 1) t,
      no_message d,
      no_message x,
    )

-- so a list of balanced tokens in brackets becomes the node that nests as they do
pub balanced_way : {a c : Record} {ks : List Record} {t : Forest} → ArePartners a c → Balanced ks t →
    (b : List Forest) (f : Forest) (l : List Record) →
    Leads token_tree b (a ∷ (ks ++ c ∷ l)) f l (f ⧺ in_brackets a t c)
balanced_way {a = a} {c = c} {ks = ks} {t = t} p d b f l = list_way ks t p (between d a.kind c p.closes) b f l

-- without a message
pub balanced_clean : {ks : List Record} {t : Forest} (a c : Record) → Balanced ks t →
    message_count (in_brackets a t c) ≡ 0
balanced_clean {t = t} a c d = omega (arith, message_count-⧺ (leaf none a.kind 1) t, no_message d)

pub nests_as_brackets : {old new : State} {v : Outcome} → Follows token_tree v old new → NestsAsBrackets old new
nests_as_brackets {old = old} {new = new} h = record {
  nests = λ a c ks rs t p d e.
      let w : Leads token_tree (forests old.below) old.rest old.forest rs (old.forest ⧺ in_brackets a t c) =
      rw e (balanced_way p d (forests old.below) old.forest rs) in
      let s = one_end h.run w in
      (ap (λ (q : Spot). q.rest) s.spot, ap (λ (q : Spot). q.forest) s.spot, balanced_clean a c d);
}
