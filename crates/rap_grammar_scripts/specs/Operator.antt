-- The operator after an operand that comes next.
use Rattle.std.specs.Prelude.{ℕ, List, [], ◌∷◌, Bool, true, if◌then◌else◌, ◌==◌, false}
use Rattle.rap_base.specs.TokenKind.{EOF}
use Rattle.rap_events.specs.Composite.{begins_with}
use Rattle.rap_events.specs.OperatorTable.{operators}
use Rattle.rap_events.specs.Record.{Record, next_kind}
use Rattle.rap_grammar_scripts.specs.declared.arguments.Restrictions.{Restrictions}

-- whether these tokens follow the first one, which comes next
abbrev pub goes_on_with : ℕ → List ℕ → List Record → Bool
goes_on_with first [] rs = true
goes_on_with first (k ∷ ks) rs = begins_with (first ∷ k ∷ ks) rs

-- the first of the operators that a token begins whose tokens come next
abbrev pub first_of : ℕ → List (ℕ × ℕ × List ℕ) → List Record → ℕ
first_of first [] rs = EOF
first_of first (op ∷ ops) rs = if goes_on_with first op.2 rs then op.0 else first_of first ops rs

abbrev pub operator_in : List (ℕ × List (ℕ × ℕ × List ℕ)) → ℕ → List Record → ℕ
operator_in [] kind rs = EOF
operator_in (row ∷ rows) kind rs = if row.0 == kind then first_of row.0 row.1 rs else operator_in rows kind rs

-- the operator that the tokens begin with, or else a kind of power 0
unfoldable pub operator_at : List Record → ℕ
operator_at rs = operator_in operators (next_kind rs) rs

-- the same restrictions, but for the end of a statement
abbrev pub operand_of : Restrictions → Restrictions
operand_of r = record { forbid_structs = r.forbid_structs; prefer_stmt = false }

-- the power at least of the operand of an operator before it: more than that of any operator between two
abbrev pub prefix_power : ℕ
prefix_power = 255
