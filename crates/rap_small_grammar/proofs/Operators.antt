-- What operands begin with, and operators that do not go on with it.
use Rattle.rap_events.proofs.Truth.{and_false}
use Rattle.std.proofs.Common.{◌≡◌, ◌≢◌, ℕ, List, [], ◌∷◌, Bool, true, false, refl, ◌==◌, ◌&&◌, ◌||◌}
use Rattle.std.proofs.lemmas.Bool.{eqb-true}
use Rattle.rap_base.specs.TokenKind.{AMP, MINUS, STAR, BANG, L_PAREN, L_CURLY, IF_KW, WHILE_KW, LOOP_KW}
use Rattle.rap_events.specs.Record.{Record, next_kind}
use Rattle.rap_events.specs.Composite.{begins_with}
use Rattle.rap_grammar_scripts.specs.First.{is_literal_first, is_path_name, one_of}
use Rattle.rap_grammar_ends.proofs.Differ.{differ}
use Rattle.rap_small_grammar.specs.Derives.{Touching}

-- a literal, a name, a parenthesis, or what begins a block, a condition or a loop: an expression without an operator
-- before it begins
abbrev pub is_atom : ℕ → Bool
is_atom k =
    is_literal_first k || (is_path_name k || one_of (L_PAREN ∷ L_CURLY ∷ IF_KW ∷ WHILE_KW ∷ LOOP_KW ∷ []) k)

-- the same, or an operator before an operand
abbrev pub is_operand : ℕ → Bool
is_operand k = is_atom k || one_of (AMP ∷ STAR ∷ BANG ∷ MINUS ∷ []) k

-- another token than the first of these
other_first : (k : ℕ) (ks : List ℕ) (rs : List Record) → (next_kind rs == k) ≡ false → begins_with (k ∷ ks) rs ≡ false
other_first k ks [] e = refl
other_first k [] (r ∷ rs) e = e
other_first k (j ∷ ks) (r ∷ rs) e = rw e refl

-- an operand's first token is no part of an operator but `&`, `*`, `!` and `-`
pub no_more : (k : ℕ) (ks : List ℕ) (rs : List Record) → is_operand (next_kind rs) ≡ true → is_operand k ≡ false →
    begins_with (k ∷ ks) rs ≡ false
no_more k ks rs h i = other_first k ks rs (differ is_operand (next_kind rs) k h i)

pub by_truth : {A : Type 0} (b : Bool) → (b ≡ true → A) → (b ≡ false → A) → A
by_truth true f g = f refl
by_truth false f g = g refl

-- the operator `&`, which an operand may begin with too
pub record One (k : ℕ) (os : List Record) : Type 0 where
  pub r : Record
  pub is : os ≡ r ∷ []
  pub kind : r.kind ≡ k

pub one : (k : ℕ) (os : List Record) → Touching (k ∷ []) os → One k os
one k [] h = absurd h
one k (r ∷ []) h = record { r = r; is = refl; kind = h }
one k (r ∷ s ∷ os) h = absurd h

both_never : (a b : Bool) → (a ≡ true → b ≡ true → ⊥) → a && b ≡ false
both_never true true h = absurd (h refl refl)
both_never true false h = refl
both_never false b h = refl

pub amp_apart : (r : Record) (rest : List Record) → (next_kind rest ≡ AMP → r.joint ≢ true) →
    r.joint && begins_with (AMP ∷ []) rest ≡ false
amp_apart r [] h = and_false r.joint
amp_apart r (s ∷ rest) h = both_never r.joint (s.kind == AMP) (λ e f. h (eqb-true s.kind AMP f) e)
