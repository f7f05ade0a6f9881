use Rattle.rap_grammar_rows.proofs.Apart.{apart_push}
use Rattle.rap_grammar_rows.proofs.search.Search.smallest.Goals as goal
use Rattle.rap_grammar_rows.proofs.search.Search.smallest.Goals.{then-element-newest+then-is_begun+in_ok-push, else-element-newest}

pub nodes-preserved : goal.nodes-preserved
nodes-preserved c =
    elim c.if-element-newest.branch [
      | then-element-newest+then-is_begun+in_ok-push w ↦
          let node = w.node-node in
          rw (w.found-is, w.limit-is, w.in_ok-push.ensures.items)
          (apart_push c.args.tokens c.nodes.limit c.nodes.found.items node.result c.nodes.invariant node.ensures.0 node.ensures.1)
      | else-element-newest w ↦ rw (w.found-is, w.limit-is) c.nodes.invariant
    ]
