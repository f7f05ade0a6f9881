-- Parts of a range that are on one line.
use Rattle.std.proofs.Common.{◌≡◌, ℕ, zero, suc, ◌+◌, ◌-◌, ◌<◌, ◌≤◌, List, [], ◌∷◌, ◌++◌, refl, ap, sym, ◌∙◌, append_assoc, length, min, drop, arith}
use Rattle.std.specs.Prelude.{not}
use Rattle.std.specs.List.{prefix_len}
use Rattle.std.proofs.lemmas.Bool.{cond-true, cond-false, lt-ltb, le-ltb}
use Rattle.std.proofs.lemmas.List.Sums.{prefix_len-drop_all, prefix_len-le-length}
use Rattle.std.proofs.lemmas.List.{append-nil, length-drop}
use Rattle.rast_document.specs.Lines.{is_line_break, line_end}
use Rattle.rast_document.specs.Places.{position}
use Rattle.rast_document.specs.declared.encoding.Encoding.{Encoding}
use Rattle.rast_document.specs.declared.position.Position.{Position}
use Rattle.rast_answers.specs.declared.token_kind.Class.{Class}
use Rattle.rast_answers.specs.declared.tokens.Token.{Token}
use Rattle.rast_answers.specs.Tokens.{piece, pieces, place_of}

pub pieces_end : (e : Encoding) (s : List ℕ) (c : Class) (n start end : ℕ) → end ≤ start → pieces e s c n start end ≡ []
pieces_end e s c zero start end h = refl
pieces_end e s c (suc n) start end h = cond-false _ _ _ (le-ltb start end h)

pub pieces_more : (e : Encoding) (s : List ℕ) (c : Class) (n m start end : ℕ) → n ≡ m + 1 → start < end
    → pieces e s c n start end ≡ piece e s c start (min end (line_end s start)) ++ pieces e s c m (min end (line_end s start) + 1) end
pieces_more e s c zero m start end h low = absurd (omega (arith, h))
pieces_more e s c (suc n) m start end h low =
    let same : n ≡ m = omega (arith, h) in
    cond-true _ _ _ (lt-ltb start end low)
    ∙ ap (λ k. piece e s c start (min end (line_end s start)) ++ pieces e s c k (min end (line_end s start) + 1) end) same

-- past the text a line ends at once
pub line_past : (s : List ℕ) (i : ℕ) → length s ≤ i → line_end s i ≡ i
line_past s i h =
    let none : prefix_len (λ b. not (is_line_break b)) (drop i s) ≡ 0 = prefix_len-drop_all (λ b. not (is_line_break b)) s i h in
    omega (arith, none)

-- and else in it or at its end
pub end_within : (s : List ℕ) (i : ℕ) → i ≤ length s → line_end s i ≤ length s
end_within s i h = omega (arith, length-drop i s, prefix_len-le-length (λ b. not (is_line_break b)) (drop i s))

-- the position of an offset in the text
pub place_within : (e : Encoding) (s : List ℕ) (i : ℕ) → i ≤ length s → position e s i ≡ place_of e s i
place_within e s i h =
    let same : i ≡ min i (length s) = omega arith in
    ap (position e s) same

-- a part with a byte is a token
pub piece_some : (e : Encoding) (s : List ℕ) (c : Class) (start to n : ℕ) (p : Position) → start < to → p ≡ place_of e s start
    → p.character + n ≡ (place_of e s to).character
    → record { line = p.line; start = p.character; length = n; kind = c.kind; modifiers = c.modifiers } ∷ [] ≡ piece e s c start to
piece_some e s c start to n p low here there =
    let f : Position → ℕ → List Token = λ q m. record { line = q.line; start = q.character; length = m; kind = c.kind; modifiers = c.modifiers } ∷ [] in
    let begins : p.character ≡ (place_of e s start).character = ap (λ (q : Position). q.character) here in
    let count : n ≡ (place_of e s to).character - (place_of e s start).character = omega (arith, there, begins) in
    ap (λ q. f q n) here ∙ ap (f (place_of e s start)) count ∙ sym (cond-true _ _ _ (lt-ltb start to low))

-- and one without none
pub piece_none : (e : Encoding) (s : List ℕ) (c : Class) (start to : ℕ) → to ≤ start → piece e s c start to ≡ []
piece_none e s c start to h = cond-false _ _ _ (le-ltb start to h)

-- a step to the next line
pub step_line : (e : Encoding) (s : List ℕ) (c : Class) (n m at end to : ℕ) (ts more all : List Token) → n ≡ m + 1 → at < end
    → to ≡ min end (line_end s at) → more ≡ ts ++ piece e s c at to → ts ++ pieces e s c n at end ≡ all
    → more ++ pieces e s c m (to + 1) end ≡ all
step_line e s c n m at end to ts more all one low here added h =
    let first : pieces e s c n at end ≡ piece e s c at to ++ pieces e s c m (to + 1) end =
    pieces_more e s c n m at end one low ∙ ap (λ k. piece e s c at k ++ pieces e s c m (k + 1) end) (sym here) in
    ap (λ xs. xs ++ pieces e s c m (to + 1) end) added
    ∙ (append_assoc ts (piece e s c at to) (pieces e s c m (to + 1) end) ∙ (ap (λ xs. ts ++ xs) (sym first) ∙ h))

-- the last line
pub last_line : (e : Encoding) (s : List ℕ) (c : Class) (n at end : ℕ) (ts all : List Token) → end ≤ at
    → ts ++ pieces e s c n at end ≡ all → ts ≡ all
last_line e s c n at end ts all h all_is =
    sym (append-nil ts) ∙ (ap (λ xs. ts ++ xs) (sym (pieces_end e s c n at end h)) ∙ all_is)
