-- What a part of a row means.
use Rattle.std.specs.Prelude.{ℕ}
use Rattle.rap_grammar_rows.specs.Code.{sets, turns}
use Rattle.rap_grammar_rows.specs.Decode.{category_of, item_at, set_in, words_in, turn_in}
use Rattle.rap_grammar_rows.specs.Guards.{guards, guard_at}
use Rattle.rap_grammar_rows.specs.Rows.{all_parts}
use Rattle.rap_grammar_rows.specs.declared.part.Part.{Part}
use Rattle.rap_grammar_rows.specs.declared.part.Part.TheVariants as part
use Rattle.rap_grammar_table.specs.Table.{tok, word, comp, cat, Items, nil, begin, close, piece, choice, repeat, group, folds, way, unless}

-- the rest of a row from a place on
abbrev pub at_place : ℕ → Items
at_place n = item_at n all_parts

abbrev pub meaning : Part → Items
meaning part.End = nil
meaning (part.Start n) = begin (at_place n)
meaning (part.Close k n) = close k (at_place n)
meaning (part.Token s w n) = piece (tok (set_in s sets) (words_in w sets)) (at_place n)
meaning (part.Word k n) = piece (word k) (at_place n)
meaning (part.Operator k n) = piece (comp k) (at_place n)
meaning (part.Category c n) = piece (cat (category_of c)) (at_place n)
meaning (part.Choice a b n) = choice (at_place a) (at_place b) (at_place n)
meaning (part.Repeat a z n) = repeat (at_place a) (at_place z) (at_place n)
meaning (part.Group a n) = group (at_place a) (at_place n)
meaning (part.Folds k a n) = folds k (at_place a) (at_place n)
meaning (part.Turn t a n) =
    way (set_in (turn_in t turns).0 sets) (at_place a) (turn_in t turns).1 (at_place n)
meaning (part.Guard g n) = unless (guard_at g guards).0 (guard_at g guards).1 (at_place n)
