-- Tokens against the pieces of a row.
use Rattle.std.proofs.Common.{◌≡◌, ℕ, zero, suc, ◌+◌, ◌<◌, ◌≤◌, Bool, true, false, ◌&&◌, ◌||◌, ◌==◌, List, [], ◌∷◌, ◌++◌, drop, length, get_or, Option, refl, sym, ap, ◌∙◌, subst, arith, eq-eqb}
use Rattle.std.proofs.lemmas.Bool.{eqb-true}
use Rattle.rap_base.specs.TokenKind.{IDENT}
use Rattle.rap_events.proofs.Truth.{and_left, and_right}
use Rattle.rap_events.specs.Composite.{parts, width, width_of, begins_with, is_at, is_first}
use Rattle.rap_events.specs.Forest.{none, leaf}
use Rattle.rap_events.specs.Record.{Record, kind_at, contextual_at}
use Rattle.rap_grammar_rows.specs.Claims.{IsPiece}
use Rattle.rap_grammar_rows.specs.declared.shape.Shape.TheVariants.{Any}
use Rattle.rap_grammar_table.specs.Known.{among, within}
use Rattle.rap_grammar_table.specs.Table.{tok, word, comp, Touching, last_part, next_part, a_token, a_word, an_operator}

or_left_true : (a : Bool) → (true || a) ≡ true
or_left_true a = refl

or_right_true : (a b : Bool) → b ≡ true → (a || b) ≡ true
or_right_true true b h = refl
or_right_true false b h = h

pub among_at : (xs : List ℕ) (i k : ℕ) → i < length xs → get_or xs i 0 ≡ k → among xs k ≡ true
among_at [] i k h e = absurd (omega arith)
among_at (x ∷ xs) zero k h e = subst (λ (b : Bool). (b || among xs k) ≡ true) (sym (eq-eqb x k e)) refl
among_at (x ∷ xs) (suc i) k h e = or_right_true (x == k) (among xs k) (among_at xs i k (omega arith) e)

-- the token at a place
pub record Token (tokens : List Record) (at : ℕ) : Type 0 where
  pub record_at : Record
  pub there : drop at tokens ≡ record_at ∷ drop (suc at) tokens
  pub kind_is : record_at.kind ≡ kind_at tokens at
  pub word_is : record_at.contextual ≡ contextual_at tokens at

pub token_there : (tokens : List Record) (at : ℕ) → at < length tokens → Token tokens at
token_there [] at h = absurd (omega arith)
token_there (r ∷ rs) zero h = record { record_at = r; there = refl; kind_is = refl; word_is = refl }
token_there (r ∷ rs) (suc at) h =
    let t : Token rs at = token_there rs at (omega arith) in
    record { record_at = t.record_at; there = t.there; kind_is = t.kind_is; word_is = t.word_is }

after_one : (tokens : List Record) (at : ℕ) → drop (suc at) tokens ≡ drop (at + 1) tokens
after_one tokens at = let e : suc at ≡ at + 1 = omega arith in ap (λ (n : ℕ). drop n tokens) e

pub token_piece : (tokens : List Record) (at : ℕ) (kinds : List ℕ) (words : Option (List ℕ)) → at < length tokens →
    among kinds (kind_at tokens at) ≡ true → within words (contextual_at tokens at) ≡ true →
    IsPiece tokens (tok kinds words) at (at + 1) Any
token_piece tokens at kinds words h k w =
    let t : Token tokens at = token_there tokens at h in
    record {
      part = t.record_at ∷ [];
      is_part = t.there ∙ ap (λ (rs : List Record). t.record_at ∷ rs) (after_one tokens at);
      tree = leaf none t.record_at.kind 1;
      derives = a_token (ap (among kinds) t.kind_is ∙ k) (ap (within words) t.word_is ∙ w);
      fits = tt;
    }

pub word_piece : (tokens : List Record) (at kind : ℕ) → at < length tokens → kind_at tokens at ≡ IDENT →
    contextual_at tokens at ≡ kind → IsPiece tokens (word kind) at (at + 1) Any
word_piece tokens at kind h k w =
    let t : Token tokens at = token_there tokens at h in
    record {
      part = t.record_at ∷ [];
      is_part = t.there ∙ ap (λ (rs : List Record). t.record_at ∷ rs) (after_one tokens at);
      tree = leaf none kind 1;
      derives = a_word (t.kind_is ∙ k) (t.word_is ∙ w);
      fits = tt;
    }

-- the tokens of an operator
record Operator (ks : List ℕ) (rs : List Record) : Type 0 where
  part : List Record
  is_part : rs ≡ part ++ drop (length ks) rs
  touching : Touching ks part

operator_there : (k : ℕ) (ks : List ℕ) (rs : List Record) → begins_with (k ∷ ks) rs ≡ true → Operator (k ∷ ks) rs
operator_there k [] [] h = absurd cc
operator_there k (j ∷ ks) [] h = absurd cc
operator_there k [] (r ∷ rs) h = record { part = r ∷ []; is_part = refl; touching = last_part (eqb-true r.kind k h) }
operator_there k (j ∷ ks) (r ∷ rs) h =
    let more : (r.joint && begins_with (j ∷ ks) rs) ≡ true = and_right (r.kind == k) (r.joint && begins_with (j ∷ ks) rs) h in
    let o : Operator (j ∷ ks) rs = operator_there j ks rs (and_right r.joint (begins_with (j ∷ ks) rs) more) in
    record {
      part = r ∷ o.part;
      is_part = ap (λ (l : List Record). r ∷ l) o.is_part;
      touching =
          next_part (eqb-true r.kind k (and_left (r.kind == k) (r.joint && begins_with (j ∷ ks) rs) h))
          (and_left r.joint (begins_with (j ∷ ks) rs) more) o.touching;
    }

dropped : (n k m : ℕ) (rs : List Record) → m ≡ n + k → drop k (drop n rs) ≡ drop m rs
dropped zero k m rs e = let f : m ≡ k = omega arith in ap (λ (i : ℕ). drop i rs) (sym f)
dropped (suc n) zero zero [] e = refl
dropped (suc n) (suc k) zero [] e = absurd (omega arith)
dropped (suc n) zero (suc m) [] e = refl
dropped (suc n) (suc k) (suc m) [] e = refl
dropped (suc n) k zero (r ∷ rs) e = absurd (omega arith)
dropped (suc n) k (suc m) (r ∷ rs) e = let f : m ≡ n + k = omega arith in dropped n k m rs f

operator_of : (ks : List ℕ) (kind : ℕ) (tokens : List Record) (at end : ℕ) → ks ≡ parts kind → 1 < width_of ks →
    end ≡ at + width_of ks → is_first ks kind (drop at tokens) ≡ true → IsPiece tokens (comp kind) at end Any
operator_of [] kind tokens at end e w m h = absurd (omega arith)
operator_of (k ∷ ks) kind tokens at end e w m h =
    let o : Operator (k ∷ ks) (drop at tokens) = operator_there k ks (drop at tokens) h in
    record {
      part = o.part;
      is_part = o.is_part ∙ ap (λ (l : List Record). o.part ++ l) (dropped at (length (k ∷ ks)) end tokens m);
      tree = leaf none kind (width kind);
      derives = an_operator (subst (λ (l : List ℕ). Touching l o.part) e o.touching);
      fits = tt;
    }

pub operator_piece : (kind : ℕ) (tokens : List Record) (at end : ℕ) → 1 < width kind → end ≡ at + width kind →
    is_at kind (drop at tokens) ≡ true → IsPiece tokens (comp kind) at end Any
operator_piece kind tokens at end w m h = operator_of (parts kind) kind tokens at end refl w m h

-- the same where the parser's own tokens are looked at
pub operator_at : (op kind w at end : ℕ) (tokens rest : List Record) → op ≡ kind → w ≡ width op → 2 ≤ w →
    end ≡ at + w → rest ≡ tokens → is_at op (drop at rest) ≡ true → IsPiece tokens (comp kind) at end Any
operator_at op kind w at end tokens rest e v l m r h =
    subst (λ (k : ℕ). IsPiece tokens (comp k) at end Any) e
    (operator_piece op tokens at end (subst (λ (n : ℕ). 2 ≤ n) v l) (m ∙ ap (λ (n : ℕ). at + n) v)
    (subst (λ (rs : List Record). is_at op (drop at rs) ≡ true) r h))
