-- The tests in the rows that must not hold, each with what may follow the row.
use Rattle.std.specs.Prelude.{ℕ, zero, suc, true, List, [], ◌∷◌}
use Rattle.rap_base.specs.TokenKind.{COLON, COLON2, R_PAREN, L_CURLY, L_ANGLE, LIFETIME_IDENT, IMPL_KW, FOR_KW, MUT_KW, AMP2, PIPE2, SHL}
use Rattle.rap_grammar_scripts.specs.First.{one_of}
use Rattle.rap_grammar_scripts.specs.Test.{Test, negated}
use Rattle.rap_grammar_scripts.specs.Words.{is_at, next_is, next_so}
use Rattle.rap_grammar_table.specs.GenericRows.{bounds_end}
use Rattle.rap_grammar_table.specs.ItemRows.{begins_params, no_impl_type, restricts}
use Rattle.rap_grammar_table.specs.Known.{Place, anything}
use Rattle.rap_grammar_table.specs.Notation.{of_kinds}
use Rattle.rap_grammar_table.specs.PatternRows.{is_lone_name}
use Rattle.rap_grammar_table.specs.TypeRows.{has_name, takes_for}

abbrev pub Guard : Type 0
Guard = Test × List (List Place)

abbrev pub guards : List Guard
guards =
    (negated takes_for, anything)
    ∷ (next_is COLON, anything)
    ∷ (next_so (one_of (LIFETIME_IDENT ∷ IMPL_KW ∷ FOR_KW ∷ [])), anything)
    ∷ (is_at COLON2, anything)
    ∷ (has_name, (of_kinds (R_PAREN ∷ []) ∷ []) ∷ [])
    ∷ (has_name, anything)
    ∷ (is_at SHL, anything)
    ∷ (is_at PIPE2, anything)
    ∷ (is_at AMP2, anything)
    ∷ (next_is L_ANGLE, anything)
    ∷ (restricts, anything)
    ∷ (no_impl_type, anything)
    ∷ (negated begins_params, anything)
    ∷ (next_is IMPL_KW, anything)
    ∷ (is_at MUT_KW, anything)
    ∷ (is_lone_name, anything)
    ∷ (next_is LIFETIME_IDENT, anything)
    ∷ (next_is L_CURLY, anything)
    ∷ (next_is COLON, bounds_end)
    ∷ []

abbrev pub guard_at : ℕ → List Guard → Guard
guard_at n [] = (is_at COLON2, anything)
guard_at zero (g ∷ gs) = g
guard_at (suc n) (g ∷ gs) = guard_at n gs
