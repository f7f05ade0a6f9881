-- Tokens and the text that they join to.
use Rattle.std.proofs.Common.{◌≡◌, ℕ, List, [], ◌∷◌, ◌++◌, ◌+◌, ◌-◌, ◌<◌, length, take, drop, slice_range, refl, ap, sym, ◌∙◌, arith, append-nil, append_assoc, length-append, take-append-drop}
use Rattle.std.proofs.lemmas.List.{take_more, drop_more, take_at, drop_at}
use Rattle.rap_lexed.specs.LexedStr.{Token, joined, start_of, token_at}

pub joined-append : (xs ys : List Token) → joined (xs ++ ys) ≡ joined xs ++ joined ys
joined-append [] ys = refl
joined-append (x ∷ xs) ys = ap (λ l. x.text ++ l) (joined-append xs ys) ∙ sym (append_assoc x.text (joined xs) (joined ys))

-- one token more
pub joined-take_more : (ts : List Token) (i : ℕ) → i < length ts → joined (take (i + 1) ts) ≡ joined (take i ts) ++ (token_at ts i).text
joined-take_more ts i h = ap joined (take_more ts i _ h) ∙ (joined-append (take i ts) (token_at ts i ∷ []) ∙ ap (λ l. joined (take i ts) ++ l) (append-nil (token_at ts i).text))

-- a token ends where the next begins
pub start_of_next : (ts : List Token) (i : ℕ) → i < length ts → start_of ts (i + 1) ≡ start_of ts i + length (token_at ts i).text
start_of_next ts i h = ap length (joined-take_more ts i h) ∙ length-append (joined (take i ts)) (token_at ts i).text

-- what follows the start of a token
pub joined-from_start : (ts : List Token) (i : ℕ) → drop (start_of ts i) (joined ts) ≡ joined (drop i ts)
joined-from_start ts i =
    let parts : joined ts ≡ joined (take i ts) ++ joined (drop i ts) = ap joined (sym (take-append-drop i ts)) ∙ joined-append (take i ts) (drop i ts) in
    ap (λ l. drop (start_of ts i) l) parts ∙ drop_at (joined (take i ts)) (joined (drop i ts)) (start_of ts i) refl

-- a token's text stands between its start and the next
pub text_between : (ts : List Token) (i : ℕ) → i < length ts → slice_range (joined ts) (start_of ts i) (start_of ts (i + 1)) ≡ (token_at ts i).text
text_between ts i h =
    let rest : drop (start_of ts i) (joined ts) ≡ (token_at ts i).text ++ joined (drop (i + 1) ts) = joined-from_start ts i ∙ ap joined (drop_more ts i _ h) in
    let long : start_of ts (i + 1) - start_of ts i ≡ length (token_at ts i).text = omega (arith, start_of_next ts i h) in
    ap (λ l. take (start_of ts (i + 1) - start_of ts i) l) rest ∙ take_at (token_at ts i).text (joined (drop (i + 1) ts)) _ (sym long)
