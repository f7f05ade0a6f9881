-- How much of a text an output is about.
use Rattle.std.specs.Prelude.{ℕ, zero, suc, ◌+◌, List, [], ◌∷◌, length, if◌then◌else◌}
use Rattle.rap_lexed.specs.LexedStr.{Token}
use Rattle.rap_lexed.specs.Trivia.{is_trivial}

-- how many bytes there are up to the end of the last of so many tokens that are no trivia
abbrev pub end_after : ℕ → List Token → ℕ
end_after zero ts = 0
end_after (suc n) [] = 0
end_after (suc n) (t ∷ ts) = length t.text + (if is_trivial t then end_after (suc n) ts else end_after n ts)
