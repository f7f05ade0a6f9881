-- Which tokens are contextual keywords of some edition. A lexed text keeps a list of them.
use Rattle.std.specs.Prelude.{◌≡◌, ℕ, Bool, false, ◌<◌, ◌≤◌, ◌+◌, ◌==◌, List, [], ◌∷◌, ◌++◌, if◌then◌else◌}
use Rattle.rap_lexer.specs.Common.{is_contextual}
use Rattle.rap_lexed.specs.Token.{Token}

-- a token is an identifier that is a contextual keyword of some edition
abbrev pub is_contextual_token : Token → Bool
is_contextual_token t = is_contextual t.kind t.text

-- none of the tokens from one number to another is one
abbrev pub ArePlain : (ℕ → Token) → ℕ → ℕ → Type 0
ArePlain token low high = (i : ℕ) → low ≤ i → i < high → is_contextual_token (token i) ≡ false

-- Numbers of tokens, in order: from a number on to the last of `count` tokens all that are such keywords are among them.
abbrev pub AreNoted : (ℕ → Token) → ℕ → ℕ → List ℕ → Type 0
AreNoted token from count [] = (from ≤ count) × ArePlain token from count
AreNoted token from count (n ∷ ns) = (from ≤ n) × (n < count) × ArePlain token from n × AreNoted token (n + 1) count ns

-- the numbers with one more, if its token is such a keyword
abbrev pub noted : List ℕ → ℕ → Bool → List ℕ
noted numbers number is_one = if is_one then numbers ++ number ∷ [] else numbers

-- the numbers, which are in order, past this one
abbrev pub past : List ℕ → ℕ → List ℕ
past [] number = []
past (n ∷ ns) number = if n == number then ns else n ∷ ns

-- one past the first of the numbers; without one, how many tokens there are
abbrev pub past_first : List ℕ → ℕ → ℕ
past_first [] count = count
past_first (n ∷ ns) count = n + 1
