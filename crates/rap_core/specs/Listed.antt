-- Places in a text: of tokens that the lexer has a message of, and of nodes of the tree.
use Rattle.std.specs.Prelude.{◌≡◌, ◌<◌, ℕ, zero, suc, ◌+◌, List, [], ◌∷◌, ◌++◌, All, Contains, length, map, nat_le, if◌then◌else◌, slice_index_or}
use Rattle.rap_events.specs.Forest.{Forest, used}
use Rattle.rap_grammar_ends.specs.StandsIn.{NodeAt}
use Rattle.rap_lexed.specs.LexedStr.{Lexed, Message, start_of, token_at}
use Rattle.rap_lexed.specs.Token.{Token}
use Rattle.rap_lexed.specs.Trivia.{is_trivial}
use Rattle.rap_core.specs.declared.listing.Place.{Place}
use Rattle.rap_core.specs.declared.listing.Places.{Places}

-- the lexer has a message of the token with this number
abbrev pub HasMessage : Lexed → ℕ → Type 0
HasMessage lexed token = (message : Message) × Contains lexed.errors message × (message.token ≡ token)

-- A place is that of a token that the lexer has a message of: its kind, and where it begins and ends.
pub record IsReported (lexed : Lexed) (place : Place) : Type 0 where
  pub token : ℕ
  pub within : token < length lexed.tokens
  pub message : HasMessage lexed token
  pub kind : place.kind ≡ (token_at lexed.tokens token).kind
  pub start : place.start ≡ start_of lexed.tokens token
  pub end : place.end ≡ start_of lexed.tokens (token + 1)

-- the place of the token with this number
abbrev pub token_place : List Token → ℕ → Place
token_place ts i = record { kind = (token_at ts i).kind; start = start_of ts i; end = start_of ts (i + 1) }

-- Of messages in the order of their tokens the numbers of the tokens from one on, each once.
abbrev pub numbers_reported : ℕ → List Message → List ℕ
numbers_reported from [] = []
numbers_reported from (m ∷ ms) =
    if nat_le from m.token then m.token ∷ numbers_reported (m.token + 1) ms else numbers_reported from ms

-- Of so many first tokens the numbers of those that the parser reads, in order: they are no trivia.
abbrev pub numbers_read : List Token → ℕ → List ℕ
numbers_read ts zero = []
numbers_read ts (suc n) = numbers_read ts n ++ (if is_trivial (token_at ts n) then [] else n ∷ [])

-- The number of the token that the parser reads after so many others; where there is none, how many tokens there are.
abbrev pub number_after : List Token → ℕ → ℕ
number_after ts before = slice_index_or (numbers_read ts (length ts)) before (length ts)

-- Where so many of the tokens that the parser reads end, behind so many others. None of them end where the next begins.
abbrev pub end_behind : List Token → ℕ → ℕ → ℕ
end_behind ts before zero = start_of ts (number_after ts before)
end_behind ts before (suc n) = start_of ts (number_after ts (before + n) + 1)

-- A place is that of a node of the tree: its kind, and where the first of its tokens begins and the last one ends. One
-- without tokens is where the next token begins.
pub record IsNodePlace (tokens : List Token) (tree : Forest) (place : Place) : Type 0 where
  pub before : ℕ
  pub children : Forest
  pub stands : NodeAt tree before place.kind children
  pub start : place.start ≡ start_of tokens (number_after tokens before)
  pub end : place.end ≡ end_behind tokens before (used children)

-- The places are those of all tokens that the lexer has a message of, each once, and of nodes of the tree.
pub record Lists (lexed : Lexed) (tree : Forest) (places : Places) : Type 0 where
  pub each_token : All (IsReported lexed) places.tokens.items
  pub all_tokens : places.tokens.items ≡ map (token_place lexed.tokens) (numbers_reported 0 lexed.errors)
  pub each_node : All (IsNodePlace lexed.tokens tree) places.nodes.items
