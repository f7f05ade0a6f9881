-- Runs of trivia in a text, and the texts of tokens as slices of it.
use Rattle.std.proofs.Common.{◌≡◌, refl, sym, ◌∙◌, ap, List, [], ◌∷◌, ◌++◌, ℕ, zero, suc, ◌+◌, ◌-◌, ◌<◌, true, append-nil, length, take, drop, arith}
use Rattle.std.specs.Prelude.{slice_range}
use Rattle.std.specs.List.{take_while}
use Rattle.std.proofs.lemmas.Bool.{cond-true}
use Rattle.std.proofs.lemmas.List.{drop_more, drop_at, take_at, length-append, take-append-drop}
use Rattle.std.proofs.lemmas.List.Sums.{take_while-cons, prefix_len-drop_yes}
use Rattle.rap_base.specs.TokenKind.{EOF}
use Rattle.rap_lexed.specs.LexedStr.{Token, joined, start_of, token_at}
use Rattle.rap_lexed.specs.StrStep.{str_token}
use Rattle.rap_lexed.specs.Trivia.{is_trivial, trivia_at, past_trivia, text_of}
use Rattle.rap_lexed.specs.Builder.{leaves_of}
use Rattle.rap_lexed.proofs.Joined.{joined-more}
use Rattle.rap_lexed.proofs.Tokens.{joined-append}

-- the text is what stands before a place, so many tokens from there on, and the rest
joined-parts : (ts : List Token) (i n : ℕ) → joined ts ≡ joined (take i ts) ++ (text_of ts i n ++ joined (drop n (drop i ts)))
joined-parts ts i n =
    ap joined (sym (take-append-drop i ts)) ∙ joined-append (take i ts) (drop i ts)
    ∙ ap (λ l. joined (take i ts) ++ l) (ap joined (sym (take-append-drop n (drop i ts))) ∙ joined-append (take n (drop i ts)) (drop n (drop i ts)))

start-more : (ts : List Token) (i n : ℕ) → start_of ts (i + n) - start_of ts i ≡ length (text_of ts i n)
start-more ts i n = omega (arith, ap length (joined-more ts i n), length-append (joined (take i ts)) (text_of ts i n))

-- the slice between two starts is the text of the tokens there
pub slice-text : (ts : List Token) (i n : ℕ) → slice_range (joined ts) (start_of ts i) (start_of ts (i + n)) ≡ text_of ts i n
slice-text ts i n =
    ap (λ l. take (start_of ts (i + n) - start_of ts i) (drop (start_of ts i) l)) (joined-parts ts i n)
    ∙ ap (take (start_of ts (i + n) - start_of ts i)) (drop_at (joined (take i ts)) (text_of ts i n ++ joined (drop n (drop i ts))) (start_of ts i) refl)
    ∙ take_at (text_of ts i n) (joined (drop n (drop i ts))) (start_of ts (i + n) - start_of ts i) (sym (start-more ts i n))

-- the text of one token
pub text-one : (ts : List Token) (i : ℕ) → i < length ts → text_of ts i 1 ≡ (token_at ts i).text
text-one ts i h = ap (λ l. joined (take 1 l)) (drop_more ts i (record { kind = EOF; text = [] }) h) ∙ append-nil (token_at ts i).text

pub trivia-more : (ts : List Token) (i : ℕ) → i < length ts → is_trivial (token_at ts i) ≡ true → leaves_of (trivia_at ts i) ≡ str_token (token_at ts i).kind (text_of ts i 1) ∷ leaves_of (trivia_at ts (i + 1))
trivia-more ts i h e =
    ap (λ l. leaves_of (take_while is_trivial l)) (drop_more ts i (record { kind = EOF; text = [] }) h)
    ∙ ap leaves_of (take_while-cons is_trivial (token_at ts i) (drop (i + 1) ts) ∙ cond-true (is_trivial (token_at ts i)) (token_at ts i ∷ trivia_at ts (i + 1)) [] e)
    ∙ ap (λ t. str_token (token_at ts i).kind t ∷ leaves_of (trivia_at ts (i + 1))) (sym (text-one ts i h))

take-cons : {X : Type 0} (n : ℕ) (x : X) (xs : List X) → 0 < n → take n (x ∷ xs) ≡ x ∷ take (n - 1) xs
take-cons zero x xs h = absurd (omega arith)
take-cons (suc n) x xs h = ap (λ m. x ∷ take m xs) (omega arith)

-- the first of some tokens from a place on
pub leaves-more : (ts : List Token) (i n : ℕ) → i < length ts → 0 < n → leaves_of (take n (drop i ts)) ≡ str_token (token_at ts i).kind (text_of ts i 1) ∷ leaves_of (take (n - 1) (drop (i + 1) ts))
leaves-more ts i n h some =
    ap (λ l. leaves_of (take n l)) (drop_more ts i (record { kind = EOF; text = [] }) h)
    ∙ ap leaves_of (take-cons n (token_at ts i) (drop (i + 1) ts) some)
    ∙ ap (λ t. str_token (token_at ts i).kind t ∷ leaves_of (take (n - 1) (drop (i + 1) ts))) (sym (text-one ts i h))

pub past-more : (ts : List Token) (i : ℕ) → i < length ts → is_trivial (token_at ts i) ≡ true → past_trivia ts (i + 1) ≡ past_trivia ts i
past-more ts i h e = omega (arith, prefix_len-drop_yes is_trivial ts i (record { kind = EOF; text = [] }) h e)
