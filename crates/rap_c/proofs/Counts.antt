-- How many steps, words and messages a text has at most.
use Rattle.std.proofs.Common.{◌≡◌, ℕ, ◌+◌, ◌-◌, ◌*◌, ◌^◌, ◌≤◌, List, [], ◌∷◌, ◌++◌, ap, length, length-append, arith, inl, inr}
use Rattle.std.specs.Prelude.{nat_lt}
use Rattle.std.proofs.Math.Nat.{min-le_left}
use Rattle.std.proofs.lemmas.Bool.{cases_lt, cond-true, cond-false, le-ltb, lt-ltb}
use Rattle.std.proofs.lemmas.List.{length-map}
use Rattle.rap_base.specs.declared.edition.Edition.{Edition}
use Rattle.rap_events.specs.Forest.{Forest}
use Rattle.rap_lexed.specs.ErrorSteps.{error_steps}
use Rattle.rap_lexed.specs.LexedStr.{AreTokens, Lexed, Message, Token}
use Rattle.rap_lexed.specs.StrForest.{str_flat}
use Rattle.rap_lexed.specs.StrStep.{StrStepValue, str_enter, str_exit, str_token, str_error}
use Rattle.rap_lexed.specs.Trivia.{with_trivia}
use Rattle.ra_ap_parser.specs.Headline.{IsParsed}
use Rattle.ra_ap_parser.specs.declared.entry_point.TopEntryPoint.{TopEntryPoint}
use Rattle.rap_ranged.proofs.FewReports.{few_errors}
use Rattle.rap_c.specs.Item.{counted, lexer_items, text_item, text_items}
use Rattle.rap_c.specs.Tree.{tree_items}
use Rattle.rap_c.specs.Words.{all_words, token_words, word_of, as_word, words_of}

at_most_counted : (n : ℕ) → counted n ≤ n
at_most_counted n = min-le_left n (2 ^ 64 - 1)

-- the lexer's messages
items_count : (ts : List Token) (ms : List Message) → length (lexer_items ts ms) ≡ length ms
items_count ts [] = omega arith
items_count ts (m ∷ ms) = omega (arith, items_count ts ms)

steps_count : (ts : List Token) (ms : List Message) → length (error_steps ts ms) ≡ length ms
steps_count ts [] = omega arith
steps_count ts (m ∷ ms) = omega (arith, steps_count ts ms)

-- in steps
pub few_items : (text : List ℕ) (edition : Edition) (entry : TopEntryPoint) (lexed : Lexed) (f : Forest) (n : ℕ) → IsParsed text edition entry lexed f → AreTokens lexed.tokens
    → n ≡ counted (length (tree_items lexed f)) → n ≤ 267 * (length text + 1)
few_items text edition entry lexed f n p tokens is =
    let ss : List StrStepValue = str_flat (with_trivia lexed.tokens f) in
    omega (
      arith,
      is,
      at_most_counted (length (tree_items lexed f)),
      length-append (text_items ss) (lexer_items lexed.tokens lexed.errors),
      length-map ss text_item,
      items_count lexed.tokens lexed.errors,
      few_errors text edition lexed p.lexing tokens,
      p.few_whole,
    )

-- in words
few_of_token : (kind bytes : ℕ) → length (token_words kind bytes) ≤ 2
few_of_token kind bytes = elim (cases_lt bytes 8191) [
  | inl low ↦ omega (arith, ap length (cond-true (nat_lt bytes 8191) (word_of 2 bytes kind ∷ []) (word_of 2 8191 kind ∷ as_word bytes ∷ []) (lt-ltb bytes 8191 low)))
  | inr high ↦ omega (arith, ap length (cond-false (nat_lt bytes 8191) (word_of 2 bytes kind ∷ []) (word_of 2 8191 kind ∷ as_word bytes ∷ []) (le-ltb bytes 8191 high)))
]

few_of_step : (s : StrStepValue) → length (words_of s) ≤ 3
few_of_step (str_enter kind) = omega arith
few_of_step str_exit = omega arith
few_of_step (str_token kind text) = omega (arith, few_of_token kind (length text))
few_of_step (str_error bytes pos) = omega arith

few_of_steps : (ss : List StrStepValue) → length (all_words ss) ≤ 3 * length ss
few_of_steps [] = omega arith
few_of_steps (s ∷ ss) = omega (arith, few_of_step s, few_of_steps ss, length-append (words_of s) (all_words ss))

pub few_words : (text : List ℕ) (edition : Edition) (entry : TopEntryPoint) (lexed : Lexed) (f : Forest) (n : ℕ) → IsParsed text edition entry lexed f → AreTokens lexed.tokens
    → n ≡ counted (length (all_words (str_flat (with_trivia lexed.tokens f) ++ error_steps lexed.tokens lexed.errors))) → n ≤ 801 * (length text + 1)
few_words text edition entry lexed f n p tokens is =
    let ss : List StrStepValue = str_flat (with_trivia lexed.tokens f) in
    let ls : List StrStepValue = error_steps lexed.tokens lexed.errors in
    omega (
      arith,
      is,
      at_most_counted (length (all_words (ss ++ ls))),
      few_of_steps (ss ++ ls),
      length-append ss ls,
      steps_count lexed.tokens lexed.errors,
      few_errors text edition lexed p.lexing tokens,
      p.few_whole,
    )
