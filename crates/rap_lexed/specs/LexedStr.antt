-- A text cut into tokens.
use Rattle.std.specs.Prelude.{◌≡◌, ◌↔◌, ℕ, ⊤, Bool, IsTrue, ◌==◌, if◌then◌else◌, Option, Some, None, ◌<◌, ◌≤◌, ◌+◌, ◌^◌, List, [], ◌∷◌, ◌++◌, length, take, drop, All, chars, slice_index, slice_index_or, slice_range, IsUtf8, IsCharBoundary}
use Rattle.std.specs.Borrow.{Bor}
use Rattle.std.specs.List.{AllByRecursion}
use Rattle.rap_lexer.specs.First.{First}
use Rattle.rap_lexer.specs.Lexeme.{with_remark}
use Rattle.rap_base.specs.TokenKind.{EOF, STRING}
use Rattle.rap_base.specs.declared.edition.Edition.{Edition}
use Rattle.rap_lexer.specs.declared.lexer.lexeme.Remark.{Remark}
use Rattle.rap_lexed.specs.Header.{IsHeader}
use Rattle.rap_lexed.specs.Reported.{ReportsOf, looks_open}
pub use Rattle.rap_lexed.specs.Token.{Token}

-- A message of the lexer: the number of the token that it is about, and the bytes of its text.
pub record Message : Type 0 where
  pub token : ℕ
  pub text : List ℕ

-- a token's number and a text, as a message
abbrev pub message_of_item : ℕ × Bor (List ℕ) → Message
message_of_item item = record { token = item.0; text = item.1.now }

-- A lexed text: its tokens in order, and its messages in the order of their tokens.
pub record Lexed : Type 0 where
  pub tokens : List Token
  pub errors : List Message

-- The tokens' texts, joined.
abbrev pub joined : List Token → List ℕ
joined [] = []
joined (t ∷ ts) = t.text ++ joined ts

-- Where the i-th token begins, in bytes; where there are i tokens, the end of the text.
abbrev pub start_of : List Token → ℕ → ℕ
start_of ts i = length (joined (take i ts))

-- The i-th token; past the last one an empty EOF.
abbrev pub token_at : List Token → ℕ → Token
token_at ts i = slice_index_or ts i (record { kind = EOF; text = [] })

-- What holds of the tokens of every lexed text: none is empty, each is text, and all of them are at most 4,294,967,295
-- bytes.
pub record AreTokens (ts : List Token) : Type 0 where
  pub full : All (λ t. 0 < length t.text) ts
  pub utf8 : All (λ t. IsUtf8 t.text) ts
  pub small : length (joined ts) < 2 ^ 32

-- One of the five tokens before the i-th is a string that looks open.
abbrev pub FollowsOpen : List Token → ℕ → Type 0
FollowsOpen ts i =
    (j : ℕ) × (j < i) × (i ≤ j + 5) × ((token_at ts j).kind ≡ STRING) × IsTrue (looks_open (token_at ts j).text)

-- the texts of the messages about the i-th token, in order
abbrev pub messages_of : List Message → ℕ → List (List ℕ)
messages_of [] i = []
messages_of (m ∷ ms) i = if m.token == i then m.text ∷ messages_of ms i else messages_of ms i

-- the text of the first message about the i-th token, if there is one
abbrev pub error_of : List Message → ℕ → Option (List ℕ)
error_of [] i = None
error_of (m ∷ ms) i = if m.token == i then Some m.text else error_of ms i

-- A token with this kind is the first of the text, `rest` follows it, and the messages are what is reported about it.
abbrev pub IsFirst : Edition → Bool → List ℕ → Token → List ℕ → List (List ℕ) → Type 0
IsFirst edition note text token rest messages =
    (remark : Remark) × First edition (chars text) (with_remark token.kind remark) (chars rest) ×
    ReportsOf note token.text remark messages

-- the messages are about the first `count` tokens, in the order of the tokens
abbrev pub AreInOrder : ℕ → List Message → Type 0
AreInOrder count [] = ⊤
AreInOrder count (m ∷ ms) = (m.token < count) × AllByRecursion (λ later. m.token ≤ later.token) ms × AreInOrder count ms

-- The tokens joined are the text, and each is whole characters. First stand the pieces of the script source, about
-- which nothing is reported; from there on each token is the first of what remains, and the messages are what is
-- reported about it, with a note where it follows a string that looks open.
pub record IsLexing (text : List ℕ) (edition : Edition) (lexed : Lexed) : Type 0 where
  pub whole : joined lexed.tokens ≡ text
  pub borders : (i : ℕ) → i ≤ length lexed.tokens → IsCharBoundary text (start_of lexed.tokens i)
  pub header : List Token
  pub is_header : IsHeader edition text header
  pub rest : List Token
  pub parts : lexed.tokens ≡ header ++ rest
  pub silent : (i : ℕ) → i < length header → messages_of lexed.errors i ≡ []
  pub each : (i : ℕ) → length header ≤ i → i < length lexed.tokens →
      (note : Bool) × (IsTrue note ↔ FollowsOpen lexed.tokens i) ×
      IsFirst edition note (drop (start_of lexed.tokens i) text) (token_at lexed.tokens i)
      (drop (start_of lexed.tokens (i + 1)) text) (messages_of lexed.errors i)
  pub ordered : AreInOrder (length lexed.tokens) lexed.errors

-- The text cut at the starts, its pieces with the kinds.
abbrev pub cut : List ℕ → List ℕ → List ℕ → List Token
cut text [] starts = []
cut text (k ∷ ks) starts =
    record { kind = k; text = slice_range text (slice_index starts 0) (slice_index starts 1) } ∷
    cut text ks (drop 1 starts)

-- The starts rise from 0 to the text's end, each at a border of characters, one more than there are tokens.
pub record AreStarts (text : List ℕ) (count : ℕ) (starts : List ℕ) : Type 0 where
  pub small : length text < 2 ^ 32
  pub utf8 : IsUtf8 text
  pub long : length starts ≡ count + 1
  pub begin : slice_index starts 0 ≡ 0
  pub finish : slice_index starts count ≡ length text
  pub rising : (i j : ℕ) → i < j → j ≤ count → slice_index starts i < slice_index starts j
  pub borders : (i : ℕ) → i ≤ count → IsCharBoundary text (slice_index starts i)
