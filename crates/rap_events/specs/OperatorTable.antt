-- The operators that are written with more than one token, or stand between two expressions.
use Rattle.std.specs.Prelude.{ℕ, suc, zero, List, [], ◌∷◌}
use Rattle.rap_base.specs.TokenKind.{AMP, PIPE, PLUS, STAR, SLASH, CARET, PERCENT, DOT, COLON, EQ, BANG, MINUS, L_ANGLE, R_ANGLE, DOT2, DOT3, DOT2EQ, COLON2, EQ2, FAT_ARROW, NEQ, THIN_ARROW, LTEQ, GTEQ, PLUSEQ, MINUSEQ, PIPEEQ, AMPEQ, CARETEQ, SLASHEQ, STAREQ, PERCENTEQ, AMP2, PIPE2, SHL, SHR, SHLEQ, SHREQ, AS_KW}

-- Each token that an operator between two expressions begins with, and the operators that it begins, in the order in
-- which they are tried: the kind, the power, and the tokens behind the first one. `=>` has the power 0: it is no
-- operator, and hides the `=` that it begins with.
abbrev pub operators : List (ℕ × List (ℕ × ℕ × List ℕ))
operators =
    (PIPE, (PIPE2, 3, PIPE ∷ []) ∷ (PIPEEQ, 1, EQ ∷ []) ∷ (PIPE, 6, []) ∷ []) ∷
    (R_ANGLE, (SHREQ, 1, R_ANGLE ∷ EQ ∷ []) ∷ (SHR, 9, R_ANGLE ∷ []) ∷ (GTEQ, 5, EQ ∷ []) ∷ (R_ANGLE, 5, []) ∷ []) ∷
    (EQ, (EQ2, 5, EQ ∷ []) ∷ (FAT_ARROW, 0, R_ANGLE ∷ []) ∷ (EQ, 1, []) ∷ []) ∷
    (L_ANGLE, (LTEQ, 5, EQ ∷ []) ∷ (SHLEQ, 1, L_ANGLE ∷ EQ ∷ []) ∷ (SHL, 9, L_ANGLE ∷ []) ∷ (L_ANGLE, 5, []) ∷ []) ∷
    (PLUS, (PLUSEQ, 1, EQ ∷ []) ∷ (PLUS, 10, []) ∷ []) ∷
    (CARET, (CARETEQ, 1, EQ ∷ []) ∷ (CARET, 7, []) ∷ []) ∷
    (PERCENT, (PERCENTEQ, 1, EQ ∷ []) ∷ (PERCENT, 11, []) ∷ []) ∷
    (AMP, (AMPEQ, 1, EQ ∷ []) ∷ (AMP2, 4, AMP ∷ []) ∷ (AMP, 8, []) ∷ []) ∷
    (SLASH, (SLASHEQ, 1, EQ ∷ []) ∷ (SLASH, 11, []) ∷ []) ∷
    (STAR, (STAREQ, 1, EQ ∷ []) ∷ (STAR, 11, []) ∷ []) ∷
    (DOT, (DOT2EQ, 2, DOT ∷ EQ ∷ []) ∷ (DOT2, 2, DOT ∷ []) ∷ []) ∷
    (BANG, (NEQ, 5, EQ ∷ []) ∷ []) ∷
    (MINUS, (MINUSEQ, 1, EQ ∷ []) ∷ (MINUS, 10, []) ∷ []) ∷
    (AS_KW, (AS_KW, 12, []) ∷ []) ∷ []

-- the kinds of more than one token that stand between no expressions, each with its tokens
abbrev pub others : List (ℕ × List ℕ)
others =
    (DOT3, DOT ∷ DOT ∷ DOT ∷ []) ∷
    (COLON2, COLON ∷ COLON ∷ []) ∷
    (THIN_ARROW, MINUS ∷ R_ANGLE ∷ []) ∷ []

-- a kind of more than one token, before these
abbrev pub composite : ℕ → ℕ → List ℕ → List (ℕ × List ℕ) → List (ℕ × List ℕ)
composite kind first [] rows = rows
composite kind first (k ∷ ks) rows = (kind, first ∷ k ∷ ks) ∷ rows

abbrev pub composites_of : ℕ → List (ℕ × ℕ × List ℕ) → List (ℕ × List ℕ) → List (ℕ × List ℕ)
composites_of first [] rows = rows
composites_of first (op ∷ ops) rows = composite op.0 first op.2 (composites_of first ops rows)

abbrev pub composites_in : List (ℕ × List (ℕ × ℕ × List ℕ)) → List (ℕ × List ℕ)
composites_in [] = others
composites_in (group ∷ groups) = composites_of group.0 group.1 (composites_in groups)

-- each kind that is written with two or three tokens, and its tokens
abbrev pub composites : List (ℕ × List ℕ)
composites = composites_in operators

-- an operator with its power, before these
abbrev pub with_power : ℕ → ℕ → List (ℕ × ℕ) → List (ℕ × ℕ)
with_power kind zero rows = rows
with_power kind (suc n) rows = (kind, suc n) ∷ rows

abbrev pub powers_of : List (ℕ × ℕ × List ℕ) → List (ℕ × ℕ) → List (ℕ × ℕ)
powers_of [] rows = rows
powers_of (op ∷ ops) rows = with_power op.0 op.1 (powers_of ops rows)

abbrev pub powers_in : List (ℕ × List (ℕ × ℕ × List ℕ)) → List (ℕ × ℕ)
powers_in [] = []
powers_in (group ∷ groups) = powers_of group.1 (powers_in groups)

-- the operators between two expressions, each with its power
abbrev pub powers : List (ℕ × ℕ)
powers = powers_in operators
