-- A token of a parser's input.
-- (Used in contracts between internal functions only; no public contract rests on it.)
use Rattle.rap_events.specs.Record.{Record}
use Rattle.rap_c.specs.declared.record.Token.{Token}

-- its record
abbrev pub record_in : Token → Record
record_in t = record { kind = t.kind; contextual = t.contextual_kind; edition = t.edition; joint = t.joint }
