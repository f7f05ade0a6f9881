use Rattle.std.proofs.Common.{◌≡◌, ℕ, [], true, false, refl, ap, subst, sym, ◌∙◌}
use Rattle.rap_events.specs.Forest.{one_tree}
use Rattle.rap_c.specs.Listed.{IsListGiven, rooms_of}
use Rattle.rap_c.specs.declared.element.RapNodesAnswer.{RapNodesAnswer}
use Rattle.rap_c.proofs.SettledNodes.{list_or}
use Rattle.rap_c.proofs.prefix_nodes.fill_one_tree.Goals as goal

pub returns-then-is_one_tree : goal.returns-then-is_one_tree
returns-then-is_one_tree c =
    let ts = c.args.lexed.now.tokens in
    let output = c.args.output.now in
    let one : one_tree output ≡ true = sym c.is_one_tree.ensures ∙ c.if-is_one_tree.true in
    list_or (one_tree output) ts output _ _ _ true one
    (subst (λ (n : ℕ). IsListGiven ts output [] n (rooms_of c.args.elements.now c.args.messages.now c.args.bytes.now) (rooms_of c.fill_list.new.elements c.fill_list.new.messages c.fill_list.new.bytes) c.fill_list.result)
    c.used_bytes-used.ensures c.fill_list.ensures)

pub returns-else-is_one_tree : goal.returns-else-is_one_tree
returns-else-is_one_tree c =
    let ts = c.args.lexed.now.tokens in
    let output = c.args.output.now in
    let none : one_tree output ≡ false = sym c.is_one_tree.ensures ∙ c.if-is_one_tree.false in
    let numbers : ℕ → RapNodesAnswer = λ n. record { status = 1; elements = 0; messages = 0; message_bytes = 0; used = n } in
    list_or (one_tree output) ts output _ _ _ false none (record { untouched = refl; is = ap numbers c.used_bytes-used.ensures })
