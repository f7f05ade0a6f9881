-- An input that has the first of some tokens, and what is made of it.
use Rattle.std.proofs.Common.{◌≡◌, ℕ, ◌≤◌, List, [], ◌++◌, length, ap, subst, ◌∙◌}
use Rattle.rap_events.specs.Forest.{Forest, flat}
use Rattle.rap_events.specs.Record.{Record}
use Rattle.rast_print.specs.Listed.{step_lines}
use Rattle.rast_calls.specs.Listed.{IsKept, kept_lines}
use Rattle.rast_calls.specs.Made.{IsMade, pushed}
use Rattle.rast_calls.specs.declared.asked.Tokens.{Tokens}
use Rattle.rast_calls.specs.declared.asked.Way.{Way}
use Rattle.rast_calls.proofs.Pushing.{length_pushed}

-- the lines of the counts and those of the steps, one after the other
pub kept : (way : Way) (tokens : Tokens) (count len : ℕ) (input : List Record) (output : Forest) (none some lines : List ℕ)
    → count ≤ tokens.count → input ≡ pushed tokens.token tokens.every count → IsMade way input output
    → len ≡ length input → none ≡ [] → some ≡ none ++ kept_lines count len → lines ≡ some ++ step_lines (flat output)
    → IsKept way tokens lines
kept way tokens count len input output none some lines few is_pushed made is_len is_none is_some is =
    let same : len ≡ count = is_len ∙ (ap length is_pushed ∙ length_pushed tokens.token tokens.every count) in
    let counts : some ≡ kept_lines count count = is_some ∙ (ap (λ l. l ++ kept_lines count len) is_none ∙ ap (λ n. kept_lines count n) same) in
    record {
      count = count;
      few = few;
      output = output;
      made = subst (λ (rs : List Record). IsMade way rs output) is_pushed made;
      is = is ∙ ap (λ l. l ++ step_lines (flat output)) counts;
    }
