-- What a walk through tokens counts.
use Rattle.std.proofs.Common.{◌≡◌, ℕ, zero, suc, ◌+◌, ◌≤◌, ◌<◌, List, [], ◌∷◌, Bool, not, true, false, refl, ap, sym, ◌∙◌, arith, length, drop}
use Rattle.std.proofs.lemmas.Bool.{cond-true, cond-false}
use Rattle.std.proofs.lemmas.List.{drop_all, drop_more, take_all}
use Rattle.rap_lexed.specs.LexedStr.{Token, joined, start_of, token_at}
use Rattle.rap_lexed.specs.Trivia.{is_trivial}
use Rattle.rap_lexed.proofs.Tokens.{start_of_next}
use Rattle.rap_lexed.specs.Used.{end_after}

is_true : (b : Bool) → not b ≡ false → b ≡ true
is_true true h = refl
is_true false h = sym h

is_false : (b : Bool) → not b ≡ true → b ≡ false
is_false true h = sym h
is_false false h = refl

-- past a token of white space or a comment, and past any other, as many bytes less are left
past_trivial : (n : ℕ) (t : Token) (ts : List Token) → not (is_trivial t) ≡ false → end_after (suc n) (t ∷ ts) ≡ length t.text + end_after (suc n) ts
past_trivial n t ts h = ap (λ k. length t.text + k) (cond-true (is_trivial t) (end_after (suc n) ts) (end_after n ts) (is_true (is_trivial t) h))

past_significant : (n : ℕ) (t : Token) (ts : List Token) → not (is_trivial t) ≡ true → end_after (suc n) (t ∷ ts) ≡ length t.text + end_after n ts
past_significant n t ts h = ap (λ k. length t.text + k) (cond-false (is_trivial t) (end_after (suc n) ts) (end_after n ts) (is_false (is_trivial t) h))

-- one token on, the end stays where it is
pub walk_trivial : (ts : List Token) (i left next whole : ℕ) → i < length ts → 0 < left → not (is_trivial (token_at ts i)) ≡ false → next ≡ left → start_of ts i + end_after left (drop i ts) ≡ whole → start_of ts (i + 1) + end_after next (drop (i + 1) ts) ≡ whole
walk_trivial ts i zero next whole within some h same e = absurd (omega (arith, some))
walk_trivial ts i (suc n) next whole within some h same e =
    let here : end_after (suc n) (drop i ts) ≡ length (token_at ts i).text + end_after (suc n) (drop (i + 1) ts) =
    ap (λ l. end_after (suc n) l) (drop_more ts i _ within) ∙ past_trivial n (token_at ts i) (drop (i + 1) ts) h in
    let behind : end_after next (drop (i + 1) ts) ≡ end_after (suc n) (drop (i + 1) ts) = ap (λ k. end_after k (drop (i + 1) ts)) same in
    omega (arith, start_of_next ts i within, here, behind, e)

pub walk_significant : (ts : List Token) (i left next whole : ℕ) → i < length ts → 0 < left → not (is_trivial (token_at ts i)) ≡ true → next + 1 ≡ left → start_of ts i + end_after left (drop i ts) ≡ whole → start_of ts (i + 1) + end_after next (drop (i + 1) ts) ≡ whole
walk_significant ts i zero next whole within some h less e = absurd (omega (arith, some))
walk_significant ts i (suc n) next whole within some h less e =
    let same : next ≡ n = omega (arith, less) in
    let here : end_after (suc n) (drop i ts) ≡ length (token_at ts i).text + end_after n (drop (i + 1) ts) =
    ap (λ l. end_after (suc n) l) (drop_more ts i _ within) ∙ past_significant n (token_at ts i) (drop (i + 1) ts) h in
    let behind : end_after next (drop (i + 1) ts) ≡ end_after n (drop (i + 1) ts) = ap (λ k. end_after k (drop (i + 1) ts)) same in
    omega (arith, start_of_next ts i within, here, behind, e)

nothing_left : (left : ℕ) → end_after left [] ≡ 0
nothing_left zero = refl
nothing_left (suc n) = refl

-- past the last token, the end is that of the text
pub walked : (ts : List Token) (i left whole : ℕ) → length ts ≤ i → start_of ts i + end_after left (drop i ts) ≡ whole → start_of ts (length ts) ≡ whole
walked ts i left whole past e =
    let all : start_of ts i ≡ length (joined ts) = ap (λ l. length (joined l)) (take_all i ts past) in
    let ended : start_of ts (length ts) ≡ length (joined ts) = ap (λ l. length (joined l)) (take_all (length ts) ts (omega arith)) in
    let rest : end_after left (drop i ts) ≡ 0 = ap (λ l. end_after left l) (drop_all i ts past) ∙ nothing_left left in
    omega (arith, all, ended, rest, e)
