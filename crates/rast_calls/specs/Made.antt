-- Inputs of tokens that are pushed, and what is made of them.
use Rattle.std.specs.Prelude.{◌≡◌, ◌≢◌, ◌<◌, ◌%◌, ◌==◌, ℕ, zero, suc, Bool, true, false, if◌then◌else◌, List, [], ◌∷◌, ◌++◌, length}
use Rattle.rap_base.specs.Limits.{max_tokens}
use Rattle.rap_base.specs.TokenKind.{EOF, IDENT, L_CURLY}
use Rattle.rap_base.specs.TokenTests.{is_token}
use Rattle.rap_base.specs.declared.edition.Edition.TheVariants.{Edition2024}
use Rattle.rap_events.specs.Forest.{Forest}
use Rattle.rap_events.specs.Record.{Record, next_kind}
use Rattle.rap_grammar.specs.Part.{IsPrefixOf, part_script, asks_brace}
use Rattle.ra_ap_parser.specs.EntryScript.{IsOutputOf, IsPrefixOutputOf}
use Rattle.rast_calls.specs.declared.asked.Token.{Token}
use Rattle.rast_calls.specs.declared.asked.Token.TheVariants.{Kind, Ident}
use Rattle.rast_calls.specs.declared.asked.Tokens.{Tokens}
use Rattle.rast_calls.specs.declared.asked.Way.{Way}
use Rattle.rast_calls.specs.declared.asked.Way.TheVariants.{Top, Prefix, Node}
use Rattle.rast_calls.specs.declared.pushed.CallFault.{CallFault}
use Rattle.rast_calls.specs.declared.pushed.CallFault.TheVariants.{TextTooLong, TooManyTokens, NoBrace, NoToken, NoMemory}

-- a token that an input may have
abbrev pub CanPush : Token → Type 0
CanPush (Kind kind) = (is_token kind ≡ true) × (kind ≢ EOF)
CanPush (Ident kind) = is_token kind ≡ true

-- what the parser sees of a token that is pushed
abbrev pub record_of_token : Token → Bool → Record
record_of_token (Kind kind) joint = record { kind = kind; contextual = EOF; edition = Edition2024; joint = joint }
record_of_token (Ident kind) joint = record { kind = IDENT; contextual = kind; edition = Edition2024; joint = joint }

-- whether the token at a place touches the one after it: the first and every n-th after it do; at 0 none does
abbrev pub touches : ℕ → ℕ → Bool
touches every i = if every == 0 then false else (i % every == 0)

-- an input of n tokens
abbrev pub pushed : Token → ℕ → ℕ → List Record
pushed token every zero = []
pushed token every (suc n) = pushed token every n ++ record_of_token token (touches every n) ∷ []

-- what is made of an input
abbrev pub IsMade : Way → List Record → Forest → Type 0
IsMade (Top entry) input output = IsOutputOf entry input output
IsMade (Prefix entry) input output = IsPrefixOutputOf entry input output
IsMade (Node part) input output = (asks_brace part ≡ true → next_kind input ≡ L_CURLY) × IsPrefixOf (part_script part) input output

-- the node must begin with a brace, and the input does not
abbrev pub LacksBrace : Way → List Record → Type 0
LacksBrace (Top entry) input = ⊥
LacksBrace (Prefix entry) input = ⊥
LacksBrace (Node part) input = (asks_brace part ≡ true) × (next_kind input ≢ L_CURLY)

-- when a fault occurs for an input whose tokens were all pushed
abbrev pub ComesOfOutput : Way → List Record → CallFault → Type 0
ComesOfOutput way input TextTooLong = ⊥
ComesOfOutput way input TooManyTokens = max_tokens < length input
ComesOfOutput way input NoBrace = LacksBrace way input
ComesOfOutput way input NoToken = ⊥
ComesOfOutput way input NoMemory = Unit {0}

-- when a fault occurs while tokens are pushed
abbrev pub ComesOfInput : Tokens → CallFault → Type 0
ComesOfInput tokens TextTooLong = ⊥
ComesOfInput tokens TooManyTokens = ⊥
ComesOfInput tokens NoBrace = ⊥
ComesOfInput tokens NoToken = CanPush tokens.token → ⊥
ComesOfInput tokens NoMemory = Unit {0}
