-- Numbers in decimal digits, the last ones apart.
use Rattle.std.proofs.Common.{◌≡◌, ℕ, ◌+◌, ◌<◌, ◌≤◌, ◌/◌, ◌%◌, List, [], ◌∷◌, ◌++◌, ap, sym, ◌∙◌, append_assoc, arith}
use Rattle.std.proofs.lemmas.Fmt.{decimal_digit, decimal_step}
use Rattle.std.specs.Fmt.{decimal}

-- a number of two digits, after a text
pub two_digits : (n : ℕ) (text : List ℕ) → 10 ≤ n → n < 100 → text ++ decimal n ≡ (text ++ ((48 + n / 10) ∷ [])) ++ ((48 + n % 10) ∷ [])
two_digits n text more less =
    ap (λ ds. text ++ ds) (decimal_step n more (omega arith) ∙ ap (λ ds. ds ++ ((48 + n % 10) ∷ [])) (decimal_digit (n / 10) (omega arith)))
    ∙ sym (append_assoc text ((48 + n / 10) ∷ []) ((48 + n % 10) ∷ []))

-- a number of three digits or four, after a text: its hundreds, and two digits
pub four_digits : (n : ℕ) (text : List ℕ) → 100 ≤ n → n < 10000 → text ++ decimal n ≡ ((text ++ decimal (n / 100)) ++ ((48 + n % 100 / 10) ∷ [])) ++ ((48 + n % 100 % 10) ∷ [])
four_digits n text more less =
    let tens : n % 100 / 10 ≡ n / 10 % 10 = omega arith in
    let ones : n % 100 % 10 ≡ n % 10 = omega arith in
    let hundreds : n / 10 / 10 ≡ n / 100 = omega arith in
    let step : decimal n ≡ decimal (n / 10) ++ ((48 + n % 10) ∷ []) = decimal_step n (omega arith) (omega arith) in
    let next : decimal (n / 10) ≡ decimal (n / 100) ++ ((48 + n / 10 % 10) ∷ []) =
    decimal_step (n / 10) (omega arith) (omega arith) ∙ ap (λ h. decimal h ++ ((48 + n / 10 % 10) ∷ [])) hundreds in
    rw (tens, ones, step, next) (sym (append_assoc text (decimal (n / 100) ++ ((48 + n / 10 % 10) ∷ [])) ((48 + n % 10) ∷ []))
    ∙ ap (λ ds. ds ++ ((48 + n % 10) ∷ [])) (sym (append_assoc text (decimal (n / 100)) ((48 + n / 10 % 10) ∷ []))))

one_more : (n : ℕ) (text : List ℕ) → 10 ≤ n → n < 100000000 → text ++ decimal n ≡ (text ++ decimal (n / 10)) ++ ((48 + n % 10) ∷ [])
one_more n text more less = ap (λ ds. text ++ ds) (decimal_step n more (omega arith)) ∙ sym (append_assoc text (decimal (n / 10)) ((48 + n % 10) ∷ []))

-- a number of five to eight digits, after a text: its ten thousands, and four digits
pub eight_digits : (n : ℕ) (text : List ℕ) → 10000 ≤ n → n < 100000000
    → text ++ decimal n
    ≡ ((((text ++ decimal (n / 10000)) ++ ((48 + n % 10000 / 1000) ∷ [])) ++ ((48 + n % 10000 / 100 % 10) ∷ [])) ++ ((48 + n % 10000 / 10 % 10) ∷ [])) ++ ((48 + n % 10000 % 10) ∷ [])
eight_digits n text more less =
    let d4 : n / 10 / 10 / 10 / 10 ≡ n / 10000 = omega arith in
    let m1 : n % 10000 % 10 ≡ n % 10 = omega arith in
    let m2 : n % 10000 / 10 % 10 ≡ n / 10 % 10 = omega arith in
    let m3 : n % 10000 / 100 % 10 ≡ n / 10 / 10 % 10 = omega arith in
    let m4 : n % 10000 / 1000 ≡ n / 10 / 10 / 10 % 10 = omega arith in
    let digit : ℕ → List ℕ = λ k. (48 + k) ∷ [] in
    rw (m1, m2, m3, m4, ← d4) (
    one_more n text (omega arith) (omega arith)
    ∙ ap (λ l. l ++ digit (n % 10)) (one_more (n / 10) text (omega arith) (omega arith))
    ∙ ap (λ l. (l ++ digit (n / 10 % 10)) ++ digit (n % 10)) (one_more (n / 10 / 10) text (omega arith) (omega arith))
    ∙ ap (λ l. ((l ++ digit (n / 10 / 10 % 10)) ++ digit (n / 10 % 10)) ++ digit (n % 10)) (one_more (n / 10 / 10 / 10) text (omega arith) (omega arith))
    )
