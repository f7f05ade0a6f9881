use Rattle.std.proofs.Common.{rules, ◌≡◌, List, ℕ, Some, string_bytes, subst}
use Rattle.rast_server.proofs.Documents.{on_ok}
use Rattle.rast_server.proofs.KeptTrees.{put_from, put_in, trees_put, trees_same}
use Rattle.rast_server.specs.Trees.{PutsIn}
use Rattle.rast_server.proofs.open_documents.Documents.insert.Goals as goal

pub invariant_of-self : goal.invariant_of-self
invariant_of-self c =
    let same : c.insert.new.self.entries ≡ c.self.inside.opened.entries = search rules in
    trees_same c.self.inside.opened c.insert.new.self c.self.inside.trees.kept.items same c.self.invariant

pub invariant_of-self-2 : goal.invariant_of-self-2
invariant_of-self-2 c =
    let puts : PutsIn (string_bytes c.in_ok-key.key) (Some c.args.opened) c.self.inside.opened c.insert.new.self
    = put_in (string_bytes c.in_ok-key.key) (Some c.args.opened) c.self.inside.opened c.insert.new.self (on_ok c.insert.result c.insert.ensures.updates (search rules)) in
    trees_put c.self.inside.opened c.insert.new.self c.args.uri.now (Some c.args.opened) c.self.inside.trees.kept.items c.forget.new.self.kept.items
    (subst (λ (u : List ℕ). PutsIn u (Some c.args.opened) c.self.inside.opened c.insert.new.self) c.in_ok-key.ensures.ok puts) c.forget.ensures.others c.self.invariant

pub returns-clause-puts : goal.returns-clause-puts
returns-clause-puts c =
    let puts : PutsIn (string_bytes c.in_ok-key.key) (Some c.args.opened) c.self.inside.opened c.insert.new.self
    = put_in (string_bytes c.in_ok-key.key) (Some c.args.opened) c.self.inside.opened c.insert.new.self (on_ok c.insert.result c.insert.ensures.updates (search rules)) in
    put_from c.args.uri.now (Some c.args.opened) c.args.self.now c.self.inside.opened c.insert.new.self c.self.view_is
    (subst (λ (u : List ℕ). PutsIn u (Some c.args.opened) c.self.inside.opened c.insert.new.self) c.in_ok-key.ensures.ok puts)
