-- Words of scripts.
use Rattle.std.specs.Prelude.{Bool, List, [], ◌∷◌, true, false, ℕ, ◌==◌, Option, Some, None}
use Rattle.rap_base.specs.TokenKind.{POUND, BUILTIN_KW, L_CURLY, R_CURLY}
use Rattle.rap_events.specs.OperatorTable.{powers}
use Rattle.rap_events.specs.State.{expected}
use Rattle.rap_events.specs.declared.parser.CompletedMarker.{CompletedMarker}
use Rattle.rap_grammar_scripts.specs.Script.{Script, after, rule, test, nothing, something, give, Outcome, block, again, token, bear, report, skip}
use Rattle.rap_grammar_scripts.specs.Test.{Test, kind_so, word_so, comes, borne, operator_so, also, or_else}
use Rattle.rap_grammar_scripts.specs.declared.arguments.BlockLike.{BlockLike}
use Rattle.rap_grammar_scripts.specs.declared.arguments.BlockLike.TheVariants as like

-- One word after another: a script reads in the order of its rule, from left to right.
infixr 3 ◌▸◌
abbrev pub ◌▸◌ : {P : Type 0} → (Script P → Script P) → Script P → Script P
w ▸ s = w s

-- another rule, whatever it returns, and on; the same through the knot of all rules
abbrev pub call : {P : Type 0} → Script P → Script P → Script P
call r s = after r (λ v. s)

abbrev pub recur : {P : Type 0} → P → Script P → Script P
recur p s = rule p (λ v. s)

-- the way of the first test that holds, or the last one where none does
abbrev pub choose : {P : Type 0} → List (Test × Script P) → Script P → Script P
choose [] s = s
choose (w ∷ ws) s = test w.0 w.1 (choose ws s)

-- a script that is run where its test holds: else there is nothing to do, or nothing is returned
abbrev pub optional : {P : Type 0} → Test → Script P → Script P
optional t s = test t s (give something)

abbrev pub only_if : {P : Type 0} → Test → Script P → Script P
only_if t s = test t s (give nothing)

-- the end of a rule that returns nothing
abbrev pub done : {P : Type 0} → Script P
done = give something

-- one of two ways, by whether there is something
abbrev pub if_some : {P : Type 0} → Outcome → Script P → Script P → Script P
if_some nothing s t = t
if_some something s t = s
if_some block s t = s
if_some (again a b) s t = s

-- whether an outcome is a node that reads like a block
abbrev pub is_block : Outcome → Bool
is_block nothing = false
is_block something = false
is_block block = true
is_block (again a b) = false

-- the next token is of this kind, or of such a kind; a token of this kind comes next, which may be written with several
abbrev pub next_is : ℕ → Test
next_is kind = kind_so 0 (λ k. k == kind)

abbrev pub next_so : (ℕ → Bool) → Test
next_so f = kind_so 0 f

abbrev pub is_at : ℕ → Test
is_at kind = comes 0 kind

-- the token after so many is of this kind, or may be read as this word
abbrev pub kind_is : ℕ → ℕ → Test
kind_is n kind = kind_so n (λ k. k == kind)

abbrev pub word_is : ℕ → ℕ → Test
word_is n word = word_so n (λ k. k == word)

-- the next token is an identifier that is read as this keyword
abbrev pub reads_as : ℕ → Test
reads_as kind = also (borne 0 kind) (word_is 0 kind)

-- `builtin#` comes next
abbrev pub starts_builtin : Test
starts_builtin = also (reads_as BUILTIN_KW) (comes 1 POUND)

-- a token of this kind if one comes next, and on
abbrev pub eat : {P : Type 0} → ℕ → Script P → Script P
eat kind s = test (is_at kind) (token kind s) s

-- an identifier that is read as this keyword if one comes next, as that keyword, and on
abbrev pub eat_as : {P : Type 0} → ℕ → Script P → Script P
eat_as kind s = test (reads_as kind) (bear kind s) s

-- a token of this kind, or the message that it is missing, and on
abbrev pub expect : {P : Type 0} → ℕ → Script P → Script P
expect kind s = test (is_at kind) (token kind s) (report (expected kind) s)

-- a message before a brace or a token that is kept, and else with the next token in an `ERROR`; and on, by one way or
-- the other
abbrev pub recover : {P : Type 0} → List ℕ → (ℕ → Bool) → Script P → Script P → Script P
recover bytes kept s t =
    test (or_else (next_is L_CURLY) (or_else (next_is R_CURLY) (next_so kept))) (report bytes s) (skip bytes t)

-- the way of the operator that comes next, if it is one of these
abbrev pub by_operator_of : {P : Type 0} → List (ℕ × ℕ) → (ℕ → Script P) → Script P
by_operator_of [] h = give something
by_operator_of (row ∷ rows) h = test (operator_so (λ op. row.0 == op)) (h row.0) (by_operator_of rows h)

-- the way of the operator that comes next; where none does, there is nothing to do
unfoldable pub by_operator : {P : Type 0} → (ℕ → Script P) → Script P
by_operator h = by_operator_of powers h

-- the outcome of an option and of a truth value
abbrev pub of_option : {A : Type 0} → Option A → Outcome
of_option None = nothing
of_option (Some a) = something

abbrev pub of_bool : Bool → Outcome
of_bool false = nothing
of_bool true = something

-- a node that reads like a block, or another
abbrev pub of_like : BlockLike → Outcome
of_like like.Block = block
of_like like.NotBlock = something

abbrev pub of_expr : Option (CompletedMarker × BlockLike) → Outcome
of_expr None = nothing
of_expr (Some e) = of_like e.1
