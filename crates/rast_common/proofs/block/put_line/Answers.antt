use Rattle.std.proofs.Common.{◌≡◌, ◌+◌, ◌-◌, ◌*◌, ◌≤◌, ◌++◌, drop, take, ◌∙◌, ap, arith}
use Rattle.std.proofs.lemmas.List.{take-take}
use Rattle.std.specs.List.{slice_range}
use Rattle.rast_common.specs.Indented.{indent}
use Rattle.rast_common.proofs.Blocks.{added_two}
use Rattle.rast_common.proofs.Spelling.{spaces_are}
use Rattle.rast_common.proofs.block.put_line.Goals as goal

pub returns-then-len : goal.returns-then-len
returns-then-len g c =
    let text = c.args.text.now in
    let short : c.args.at - c.args.from ≤ c.args.from + 64 - c.args.from = omega arith in
    let few : c.args.levels ≤ 32 = omega arith in
    let part : take (c.args.at - c.args.from) (slice_range text c.args.from (c.args.from + 64)) ≡ slice_range text c.args.from c.args.at = take-take _ _ (drop c.args.from text) short in
    let spaces : take (2 * c.args.levels) c.as_bytes.result.now ≡ indent c.args.levels = rw c.as_bytes.ensures.value (spaces_are c.args.levels few) in
    added_two _ _ _ _ _ _
    (c.add_front.ensures ∙ ap (λ l. c.args.block.now ++ l) part)
    (c.add_front-then-len.ensures ∙ ap (λ l. c.add_front.new.self ++ l) spaces)
