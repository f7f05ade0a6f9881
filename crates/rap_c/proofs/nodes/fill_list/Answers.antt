use Rattle.std.proofs.Common.{refl, rules}
use Rattle.rap_ranged.proofs.Seats.{seated_tree_steps}
use Rattle.rap_c.specs.Listed.{rooms_of}
use Rattle.rap_c.proofs.Laid.{list_given, same_along}
use Rattle.rap_c.proofs.Wholes.{few_steps_in, short_front}
use Rattle.rap_c.proofs.nodes.fill_list.Goals as goal

pub returns : goal.returns
returns c =
    let ts = c.args.lexed.now.tokens in
    let output = c.args.output.now in
    let same = same_along _ c.new-filler.result c.walk.new.filler c.walk.ensures.taken in
    list_given ts output c.args.waiting.now c.args.end (rooms_of c.args.elements.now c.args.messages.now c.args.bytes.now) _ c.new-filler.result c.walk.new.filler _
    c.walk.ensures.one (seated_tree_steps ts output c.requires.tree c.walk.ensures.splits c.walk.ensures.touching)
    (few_steps_in ts output c.walk.ensures.tokens c.requires.few c.requires.used c.walk.ensures.few) (short_front ts output c.walk.ensures.tokens c.walk.ensures.front)
    c.requires.waits c.new-filler.ensures.start c.walk.ensures.taken
    (search (rules, same.elements)) (search (rules, same.messages)) (search (rules, same.bytes)) refl
