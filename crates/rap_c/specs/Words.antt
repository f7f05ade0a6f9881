-- The steps of a tree over a text, in words of 32 bits.
use Rattle.std.specs.Prelude.{ℕ, ◌+◌, ◌*◌, ◌-◌, ◌^◌, List, [], ◌∷◌, ◌++◌, length, min, nat_lt, if◌then◌else◌}
use Rattle.rap_lexed.specs.StrStep.{StrStepValue, str_enter, str_exit, str_token, str_error}

-- The word of a step: bits 0 to 2 say what it is, bits 3 to 15 hold a number of bytes, and bits 16 to 31 a kind's number.
abbrev pub word_of : ℕ → ℕ → ℕ → ℕ
word_of what bytes kind = what + 8 * bytes + 65536 * kind

-- a number, or 2^32 - 1 if it is larger
abbrev pub as_word : ℕ → ℕ
as_word n = min n (2 ^ 32 - 1)

-- A token's word holds how many bytes it has. Where they are 8191 or more it holds 8191, and a second word their number.
abbrev pub token_words : ℕ → ℕ → List ℕ
token_words kind bytes = if nat_lt bytes 8191 then word_of 2 bytes kind ∷ [] else word_of 2 8191 kind ∷ as_word bytes ∷ []

-- After a message's word follow the message's position in bytes, and the number of its bytes.
abbrev pub words_of : StrStepValue → List ℕ
words_of (str_enter kind) = word_of 0 0 kind ∷ []
words_of str_exit = word_of 1 0 0 ∷ []
words_of (str_token kind text) = token_words kind (length text)
words_of (str_error bytes pos) = word_of 3 0 0 ∷ as_word pos ∷ as_word (length bytes) ∷ []

-- the bytes of a step's message
abbrev pub bytes_of : StrStepValue → List ℕ
bytes_of (str_enter kind) = []
bytes_of str_exit = []
bytes_of (str_token kind text) = []
bytes_of (str_error bytes pos) = bytes

-- the words of steps, one after another
abbrev pub all_words : List StrStepValue → List ℕ
all_words [] = []
all_words (x ∷ xs) = words_of x ++ all_words xs

-- the bytes of their messages, one after another
abbrev pub all_bytes : List StrStepValue → List ℕ
all_bytes [] = []
all_bytes (x ∷ xs) = bytes_of x ++ all_bytes xs
