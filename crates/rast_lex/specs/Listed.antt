-- The lines that the program prints.
use Rattle.std.specs.Prelude.{ℕ, zero, suc, ◌+◌, Bool, true, false, List, [], ◌∷◌, ◌++◌, Option, None, Some, codes, chars}
use Rattle.std.specs.Fmt.{decimal}
use Rattle.std.specs.declared.ops.Range.{Range}
use Rattle.rap_base.specs.Names.{name_of}
use Rattle.rap_events.specs.Record.{Record, kind_at, contextual_at, joint_at}
use Rattle.rap_frontmatter.specs.Refusal.{Refusal}
use Rattle.rap_frontmatter.specs.Script.{Script}
use Rattle.rap_lexed.specs.LexedStr.{Token, Message, token_at, start_of}
use Rattle.rast_common.specs.Message.{message_line}
use Rattle.rast_common.specs.Quote.{quoted}

-- the first `n` of these lines
abbrev pub lines : (ℕ → List ℕ) → ℕ → List ℕ
lines line zero = []
lines line (suc n) = lines line n ++ line n

-- two places with two dots between them
abbrev pub places : ℕ → ℕ → List ℕ
places start end = decimal start ++ (codes ".." ++ decimal end)

-- the line of the i-th token: its kind, its range in the text, and its text in quotes
abbrev pub token_line : List Token → ℕ → List ℕ
token_line ts i = name_of (token_at ts i).kind ++ (codes " " ++ (places (start_of ts i) (start_of ts (i + 1)) ++ (codes " " ++ (quoted (chars (token_at ts i).text) ++ codes "\n"))))

-- the lines of messages, each with the number of its token
abbrev pub message_lines : List Message → List ℕ
message_lines [] = []
message_lines (m ∷ ms) = message_line m.token m.text ++ message_lines ms

abbrev pub truth : Bool → List ℕ
truth true = codes "true"
truth false = codes "false"

-- the line of the i-th record: its kind, what it may be read as, and whether it touches the next one
abbrev pub record_line : List Record → ℕ → List ℕ
record_line rs i = name_of (kind_at rs i) ++ (codes " " ++ (name_of (contextual_at rs i) ++ (codes " " ++ (truth (joint_at rs i) ++ codes "\n"))))

-- the line of a text that is one token: its kind, and its last message, or a dash if it has none
abbrev pub single_line : ℕ → Option (List ℕ) → List ℕ
single_line kind None = name_of kind ++ codes " -\n"
single_line kind (Some message) = name_of kind ++ (codes " error " ++ (message ++ codes "\n"))

-- the line of a script's part: its range, if there is one
abbrev pub part_line : List ℕ → Option (Range ℕ) → List ℕ
part_line name None = name ++ codes " none\n"
part_line name (Some r) = name ++ (codes " " ++ (places r.start r.end ++ codes "\n"))

-- the lines of a text that is accepted as a script source: the ranges of its parts
abbrev pub script_lines : Script → List ℕ
script_lines s =
    codes "accepted\n"
    ++ (part_line (codes "shebang") s.shebang
    ++ (part_line (codes "open") s.opening
    ++ (part_line (codes "info") s.info
    ++ (part_line (codes "frontmatter") s.frontmatter
    ++ (part_line (codes "close") s.close
    ++ part_line (codes "content") (Some s.content))))))

-- spans, each after a space
abbrev pub shown_spans : List (Range ℕ) → List ℕ
shown_spans [] = []
shown_spans (r ∷ rs) = codes " " ++ (places r.start r.end ++ shown_spans rs)

-- the lines of a text that is refused: the message, the span that it is about, and those to show beside it
abbrev pub refusal_lines : Refusal → List ℕ
refusal_lines e =
    codes "refused " ++ (e.message
    ++ (codes "\nprimary " ++ (places e.primary.start e.primary.end
    ++ (codes "\nvisible" ++ (shown_spans e.visible ++ codes "\n")))))
