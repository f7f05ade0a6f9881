use Rattle.std.proofs.Common.{rules, refl}
use Rattle.rast_calls.proofs.Holding.{holds_all, holds_first}
use Rattle.rast_calls.proofs.sink.list_held.Goals.{in-Ok+in_ok-push_str-in-Ok, in-Err-Refused-Full+in_ok-push_str-in-Err-Refused-Full}
use Rattle.rast_calls.proofs.sink.list_held.Goals as goal

pub returns-clause-held : goal.returns-clause-held
returns-clause-held c =
    elim c.match-parse_text.branch [
      | in-Ok+in_ok-push_str-in-Ok w ↦ rw (w.holder-is)
          (holds_all c.args.text.now c.args.edition c.args.entry c.args.count w.in-Ok.parsed.lexed w.in-Ok.parsed.whole _ c.parse_text.new.sink _ c.new.ensures.bytes refl w.in-Ok.ensures.parsed (search rules))
      | in-Err-Refused-Full+in_ok-push_str-in-Err-Refused-Full w ↦ rw (w.holder-is)
          (holds_first c.args.text.now c.args.edition c.args.entry c.args.count w.in-Err-Refused-Full.field-0 _ c.parse_text.new.sink _ c.new.ensures.bytes refl (search rules) w.in-Err-Refused-Full.ensures.left (search rules))
    ]
