-- Balanced tokens in brackets, and a macro call in the place of an item, are in the table.
use Rattle.std.proofs.Common.{◌≡◌, ◌==◌, ◌||◌, ℕ, zero, suc, true, not, List, [], ◌∷◌, ◌++◌, Some, None, All, refl, subst, append_assoc, arith}
use Rattle.std.proofs.lemmas.Bool.{eqb-true}
use Rattle.rap_base.specs.NodeKind.{TOKEN_TREE}
use Rattle.rap_base.specs.TokenKind.{IDENT, L_BRACK, L_CURLY, L_PAREN, R_BRACK, R_CURLY, R_PAREN, SHEBANG}
use Rattle.rap_base.specs.TokenTests.{is_delimiter, is_token}
use Rattle.rap_events.specs.Forest.{Forest, none, node, leaf, ◌⧺◌}
use Rattle.rap_events.specs.Record.{Record, IsTokenRecord}
use Rattle.rap_small_grammar.specs.Derives.{Is, IsName}
use Rattle.rap_small_grammar.specs.MacroCall.{IsBracketed, IsMacroCall, brackets_around, called}
use Rattle.rap_grammar_scripts.specs.Balanced.{ArePartners, Balanced, IsNoBracket, in_brackets, list_first, nothing_more, token_first}
use Rattle.rap_grammar_table.specs.Rows.{grammar}
use Rattle.rap_grammar_table.specs.AttributeRows.{no_brackets, tree_in}
use Rattle.rap_grammar_table.specs.Category.{Item, TokenTree}
use Rattle.rap_small_grammar.specs.Inclusion.{HoldsBrackets, HoldsCall}
use Rattle.rap_grammar_table.specs.ItemRows.{call_words}
use Rattle.rap_grammar_table.specs.Known.{among}
use Rattle.rap_grammar_table.specs.Notation.{row, up_to}
use Rattle.rap_grammar_table.specs.Table.{Items, a_token, cat, choice, folded_none, nil, piece, row_at, tok}
use Rattle.rap_grammar_table.specs.Tops.{Makes}
use Rattle.rap_small_grammar.proofs.IncludedRows.{Has, Row, Turns, closes, done, ends_with, folds_up, makes, none_comes, one_way, opens, other_way, puts, puts_alone, puts_token, repeats, turns}
use Rattle.rap_grammar_table.proofs.Known.{by_or}
use Rattle.rap_grammar_table.proofs.ByKind.{among_up_to}
use Rattle.rap_grammar_table.proofs.NarrowLaws.{among_those}

-- each is of a token's kind
data AreTokens : List Record → Type 0 where
  no_token : AreTokens []
  one_token : {r : Record} {rs : List Record} → is_token r.kind ≡ true → AreTokens rs → AreTokens (r ∷ rs)

are_tokens : (rs : List Record) → All IsTokenRecord rs → AreTokens rs
are_tokens [] h = no_token
are_tokens (r ∷ rs) h =
    let first : IsTokenRecord r = h zero r (omega arith) in
    one_token first.token (are_tokens rs (λ j d below. h (suc j) d (omega arith)))

left : (ks js : List Record) → AreTokens (ks ++ js) → AreTokens ks
left [] js h = no_token
left (k ∷ ks) js (one_token e h) = one_token e (left ks js h)

right : (ks js : List Record) → AreTokens (ks ++ js) → AreTokens js
right [] js h = h
right (k ∷ ks) js (one_token e h) = right ks js h

later : {r : Record} {rs : List Record} → AreTokens (r ∷ rs) → AreTokens rs
later (one_token e h) = h

-- a token that is no bracket
no_bracket : (r : Record) → IsNoBracket r → is_token r.kind ≡ true → Has (tok no_brackets None) (r ∷ []) (leaf none r.kind 1)
no_bracket r n h =
    a_token
    (among_those (λ kind. not (is_delimiter kind)) (up_to SHEBANG) r.kind (among_up_to SHEBANG r.kind h n.some)
    (rw n.inner refl)) refl

-- such tokens and trees, in any order
abbrev any_token : Items
any_token = choice (piece (cat TokenTree) nil) (piece (tok no_brackets None) nil) nil

same_tree : (a c : Record) (t : Forest) (bra ket : ℕ) → a.kind ≡ bra → c.kind ≡ ket →
    node none TOKEN_TREE (leaf (leaf none bra 1 ⧺ t) ket 1) ≡ in_brackets a t c
same_tree a c t bra ket e f = rw (e, f) refl

tree_by : (a c : Record) {ks : List Record} {t : Forest} (n bra ket : ℕ) →
    row_at n (grammar TokenTree) ≡ Some (row (tree_in bra ket)) → a.kind ≡ bra → c.kind ≡ ket →
    Turns any_token nil ks t → Makes TokenTree (a ∷ (ks ++ c ∷ [])) (in_brackets a t c)
tree_by a c {ks = ks} {t = t} n bra ket h e f m =
    let first : Is a bra = record { kind_is = e } in
    let last : Is c ket = record { kind_is = f } in
    subst (λ (x : Forest). Makes TokenTree (a ∷ (ks ++ c ∷ [])) x) (same_tree a c t bra ket e f)
    (makes n h (opens (puts_token first (repeats m (puts_token last (closes done))))))

tree_of : {a c : Record} {ks : List Record} {t : Forest} → ArePartners a c → Turns any_token nil ks t →
    Makes TokenTree (a ∷ (ks ++ c ∷ [])) (in_brackets a t c)
tree_of {a = a} {c = c} p m =
    by_or (a.kind == L_PAREN || a.kind == L_CURLY) (a.kind == L_BRACK) p.opens
    (λ i. by_or (a.kind == L_PAREN) (a.kind == L_CURLY) i
    (λ h. let e = eqb-true a.kind L_PAREN h in tree_by a c 0 L_PAREN R_PAREN refl e (rw e at p.closes) m)
    (λ h. let e = eqb-true a.kind L_CURLY h in tree_by a c 2 L_CURLY R_CURLY refl e (rw e at p.closes) m))
    (λ h. let e = eqb-true a.kind L_BRACK h in tree_by a c 1 L_BRACK R_BRACK refl e (rw e at p.closes) m)

balanced_in : {ks : List Record} {t : Forest} → Balanced ks t → AreTokens ks → Turns any_token nil ks t
balanced_in nothing_more h = ends_with done
balanced_in (token_first {r = r} n d) (one_token e h) =
    turns (other_way (puts_alone (no_bracket r n e) done)) (balanced_in d h)
balanced_in (list_first {a = a} {c = c} {js = js} {ks = ks} {t = t} {u = u} p d e) (one_token x h) =
    let m : Turns any_token nil ((a ∷ (js ++ c ∷ [])) ++ ks) (in_brackets a t c ⧺ u) =
    turns (one_way (puts_alone (tree_of p (balanced_in d (left js (c ∷ ks) h))) done))
    (balanced_in e (later (right js (c ∷ ks) h))) in
    rw append_assoc at m

brackets_in : {ks : List Record} {t : Forest} → IsBracketed ks t → AreTokens ks → Makes TokenTree ks t
brackets_in (brackets_around {c = c} {ks = ks} p d) (one_token e h) = tree_of p (balanced_in d (left ks (c ∷ []) h))

pub brackets_hold : HoldsBrackets
brackets_hold ks t h d = brackets_in d (are_tokens ks h)

-- the name of a macro
call_name : (kinds : List ℕ) (r : Record) → IsName r → among kinds IDENT ≡ true →
    Has (tok kinds call_words) (r ∷ []) (leaf none r.kind 1)
call_name kinds r n h = a_token (rw n.kind h) (rw n.contextual refl)

puts_call_name : {kinds : List ℕ} {a : Record} {is : Items} {x y : Forest} {xs : List Forest} {js : List Record} →
    IsName a → among kinds IDENT ≡ true → Row is (leaf x IDENT 1) xs js y →
    Row (piece (tok kinds call_words) is) x xs (a ∷ js) y
puts_call_name {kinds = kinds} {a = a} n h r = puts (call_name kinds a n h) (rw n.kind r)

call_in : {ks : List Record} {t : Forest} → IsMacroCall ks t → AreTokens ks → Makes Item ks t
call_in (called {c = c} {ks = ks} n x o d i) (one_token e (one_token f (one_token g h))) =
    let m = balanced_in d (left ks (c ∷ []) h) in
    makes 17 refl
    (opens (none_comes (opens (opens (opens (puts_call_name n refl
    (closes (closes (closes (folds_up folded_none (puts_token x (one_way
    (opens (puts_token o (repeats m (puts_token i (closes (closes done))))))))))))))))))

pub call_holds : HoldsCall
call_holds ks t h d = call_in d (are_tokens ks h)
