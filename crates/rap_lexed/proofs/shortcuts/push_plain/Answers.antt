use Rattle.std.proofs.Common.{◌≡◌, ◌-◌, drop, length, slice_range, refl, arith}
use Rattle.std.proofs.lemmas.List.Elements.{All-drop, All-take}
use Rattle.rap_base.specs.TokenTests.{IsTokenKind}
use Rattle.rap_lexed.proofs.PlainRecords.{part-long, run-done}
use Rattle.rap_lexed.proofs.shortcuts.push_plain.Goals as goal
use Rattle.rap_lexed.proofs.shortcuts.push_plain.Goals.{After-push_kinds_in_room}

long : (c : After-push_kinds_in_room) → length (slice_range c.kinds.result.now c.args.from c.args.end) ≡ c.args.end - c.args.from
long c = part-long c.kinds.result.now c.args.from c.args.end c.requires.rising (omega (arith, c.requires.within, c.kinds.ensures.count))

pub push_kinds_in_room-requires : goal.push_kinds_in_room-requires
push_kinds_in_room-requires c = All-take IsTokenKind (c.args.end - c.args.from) (drop c.args.from c.kinds.result.now) (All-drop IsTokenKind c.args.from c.kinds.result.now c.kinds.ensures.tokens)

pub returns-clause-within : goal.returns-clause-within
returns-clause-within c = omega (arith, long c, c.push_kinds_in_room.ensures.taken)

pub returns-clause-last : goal.returns-clause-last
returns-clause-last c = λ some. omega (arith, some, long c, c.push_kinds_in_room.ensures.taken)

pub returns-clause-pushed : goal.returns-clause-pushed
returns-clause-pushed c =
    run-done c.args.lexed.now.tokens c.kinds.result.now (slice_range c.kinds.result.now c.args.from c.args.end) c.args.from c.args.end c.push_kinds_in_room.result c.args.edition
    c.kinds.ensures.kinds refl c.requires.rising c.requires.within c.push_kinds_in_room.ensures.taken c.push_kinds_in_room.ensures.floats c.requires.plain
    c.args.input.now c.push_kinds_in_room.new.self c.push_kinds_in_room.ensures.pushed
