-- Kinds outside of those that a table speaks of.
use Rattle.std.proofs.Common.{◌≡◌, ◌≢◌, ℕ, ◌<◌, List, Option, Some, None, ap, ◌∙◌, arith}
use Rattle.std.specs.Prelude.{◌==◌, ◌&&◌, not, if◌then◌else◌, false, length, nat_lt}
use Rattle.std.proofs.lemmas.Bool.{cond-false}
use Rattle.std.proofs.lemmas.Grind.{common_steps}
use Rattle.rap_base.specs.NodeKind.{MODULE, IMPL, STMT_LIST, USE}
use Rattle.rap_base.specs.TokenKind.{AS_KW, BANG, COMMENT, IDENT, OUTER_DOC_COMMENT, WHITESPACE}
use Rattle.flat_tree.specs.declared.element.Element.{Element}
use Rattle.rast_answers.specs.Comments.{is_comment, is_continued_comment, last_of_comments, next_comment}
use Rattle.rast_answers.specs.Folds.{fold_at, fold_of_row, is_folded}
use Rattle.rast_answers.specs.Imports.{is_continued_import, last_import, last_of_imports}
use Rattle.rast_answers.specs.Kinds.{around, kind_at}
use Rattle.rast_answers.specs.Rows.{last_in_row}
use Rattle.rast_answers.specs.SymbolTable.{symbol_kind}
use Rattle.rast_answers.specs.Symbols.{symbol_at, symbol_named}
use Rattle.rast_answers.specs.TokenTable.{class_of, class_of_leaf}

before_symbols : (k outer : ℕ) → k < MODULE → symbol_kind k outer ≡ None
before_symbols k outer h = grind (arith, common_steps)

past_symbols : (k outer : ℕ) → IMPL < k → symbol_kind k outer ≡ None
past_symbols k outer h = grind (arith, common_steps)

-- what declares nothing, whatever is around it
pub no_symbol_before : (es : List Element) (i : ℕ) → kind_at es i < MODULE → symbol_at es i ≡ None
no_symbol_before es i h = ap (symbol_named es i) (before_symbols (kind_at es i) (kind_at es (around es i)) h)

pub no_symbol_past : (es : List Element) (i : ℕ) → IMPL < kind_at es i → symbol_at es i ≡ None
no_symbol_past es i h = ap (symbol_named es i) (past_symbols (kind_at es i) (kind_at es (around es i)) h)

white_space : (k node : ℕ) → k ≡ WHITESPACE → class_of_leaf k node ≡ None
white_space k node h = grind (arith, common_steps)

punctuation : (k node : ℕ) → k < AS_KW → k ≢ BANG → class_of_leaf k node ≡ None
punctuation k node h other = grind (arith, common_steps)

no_identifier : (k : ℕ) → k < AS_KW → (k == IDENT) ≡ false
no_identifier k h = grind (arith, common_steps)

-- what has no class, whatever is around it
pub white_space_no_class : (es : List Element) (i : ℕ) → kind_at es i ≡ WHITESPACE → class_of es i ≡ None
white_space_no_class es i h = cond-false _ _ _ (ap (λ k. k == IDENT) h) ∙ white_space (kind_at es i) (kind_at es (around es i)) h

pub punctuation_no_class : (es : List Element) (i : ℕ) → kind_at es i < AS_KW → kind_at es i ≢ BANG → class_of es i ≡ None
punctuation_no_class es i h other = cond-false _ _ _ (no_identifier (kind_at es i) h) ∙ punctuation (kind_at es i) (kind_at es (around es i)) h other

no_comments : (s : List ℕ) (es : List Element) (i : ℕ) → is_comment (kind_at es i) ≡ false → last_of_comments s es i ≡ None
no_comments s es i h =
    ap (λ b. if b && not (is_continued_comment s es i) then Some (last_in_row (next_comment s es) (length es) i) else None) h

no_imports : (s : List ℕ) (es : List Element) (i : ℕ) → (kind_at es i == USE) ≡ false → last_of_imports s es i ≡ None
no_imports s es i h =
    ap (λ b. if b && not (is_continued_import s es i) && nat_lt i (last_import s es i) then Some (last_import s es i) else None) h

no_fold : (s : List ℕ) (es : List Element) (i : ℕ) → is_folded (kind_at es i) ≡ false → is_comment (kind_at es i) ≡ false
    → (kind_at es i == USE) ≡ false → fold_at s es i ≡ None
no_fold s es i folded comment imported =
    cond-false _ _ _ folded
    ∙ ap (λ (o : Option ℕ). fold_of_row s es i o (last_of_imports s es i)) (no_comments s es i comment)
    ∙ ap (λ (o : Option ℕ). fold_of_row s es i None o) (no_imports s es i imported)

before_folded : (k : ℕ) → k < COMMENT → is_folded k ≡ false
before_folded k h = grind (arith, common_steps)

before_comments : (k : ℕ) → k < COMMENT → is_comment k ≡ false
before_comments k h = grind (arith, common_steps)

before_imports : (k : ℕ) → k < COMMENT → (k == USE) ≡ false
before_imports k h = grind (arith, common_steps)

between_folded : (k : ℕ) → OUTER_DOC_COMMENT < k → k < STMT_LIST → is_folded k ≡ false
between_folded k low high = grind (arith, common_steps)

between_comments : (k : ℕ) → OUTER_DOC_COMMENT < k → k < STMT_LIST → is_comment k ≡ false
between_comments k low high = grind (arith, common_steps)

between_imports : (k : ℕ) → OUTER_DOC_COMMENT < k → k < STMT_LIST → (k == USE) ≡ false
between_imports k low high = grind (arith, common_steps)

-- what begins no fold, whatever the text is
pub no_fold_before : (s : List ℕ) (es : List Element) (i : ℕ) → kind_at es i < COMMENT → fold_at s es i ≡ None
no_fold_before s es i h =
    no_fold s es i (before_folded (kind_at es i) h) (before_comments (kind_at es i) h) (before_imports (kind_at es i) h)

pub no_fold_between : (s : List ℕ) (es : List Element) (i : ℕ) → OUTER_DOC_COMMENT < kind_at es i → kind_at es i < STMT_LIST
    → fold_at s es i ≡ None
no_fold_between s es i low high =
    no_fold s es i (between_folded (kind_at es i) low high) (between_comments (kind_at es i) low high) (between_imports (kind_at es i) low high)
