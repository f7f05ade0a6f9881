use Rattle.std.proofs.Common.{rules, ◌≡◌, ◌∙◌, Some, ap, subst}
use Rattle.std.proofs.lemmas.Map.Steps.{set_value_same}
use Rattle.std.specs.BTreeMap.{get_by_text}
use Rattle.rast_server.proofs.Documents.{always_err}
use Rattle.rast_server.proofs.KeptTrees.{no_text, put_in, trees_put, trees_same}
use Rattle.rast_server.specs.Trees.{ChangesText, Map}
use Rattle.rast_server.proofs.open_documents.Documents.change.Goals as goal

pub invariant_of-self : goal.invariant_of-self
invariant_of-self c =
    let same : c.get_mut.follows.lender-at-none.entries ≡ c.self.inside.opened.entries = search rules in
    trees_same c.self.inside.opened c.get_mut.follows.lender-at-none c.self.inside.trees.kept.items same c.self.invariant

pub returns-in_err-opened-clause-why : goal.returns-in_err-opened-clause-why
returns-in_err-opened-clause-why c = rw (← c.self.view_is) (search rules)

pub invariant_of-self-in_err-change : goal.invariant_of-self-in_err-change
invariant_of-self-in_err-change c =
    let was : get_by_text c.self.inside.opened c.args.uri.now ≡ Some c.change.new.self = search rules in
    trees_same c.self.inside.opened (c.get_mut.follows.lender c.change.new.self) c.self.inside.trees.kept.items
    ((c.get_mut.follows.holds c.change.new.self).0 ∙ set_value_same _ c.self.inside.opened.entries c.change.new.self was) c.self.invariant

pub returns-in_err-change-clause-why : goal.returns-in_err-change-clause-why
returns-in_err-change-clause-why c =
    let was : get_by_text c.self.inside.opened c.args.uri.now ≡ Some c.in_ok-opened.opened.now = search rules in
    let why = no_text c.in_err-change.field-0.0 c.args.uri.now c.args.changes.now c.args.self.now c.in_ok-opened.opened.now (rw (← c.self.view_is) was) c.in_err-change.ensures.why in
    search rules

pub returns-in_err-change-clause-err : goal.returns-in_err-change-clause-err
returns-in_err-change-clause-err c =
    let was : get_by_text c.self.inside.opened c.args.uri.now ≡ Some c.change.new.self = search rules in
    always_err c.from_residual-in_err-change.result
    (((c.get_mut.follows.holds c.change.new.self).0 ∙ set_value_same _ c.self.inside.opened.entries c.change.new.self was) ∙ ap (λ (m : Map). m.entries) c.self.view_is)

pub invariant_of-self-2 : goal.invariant_of-self-2
invariant_of-self-2 c =
    let new : Map = c.get_mut.follows.lender c.change.new.self in
    trees_put c.self.inside.opened new c.args.uri.now (Some c.change.new.self) c.self.inside.trees.kept.items c.forget.new.self.kept.items
    (put_in c.args.uri.now (Some c.change.new.self) c.self.inside.opened new ((c.get_mut.follows.holds c.change.new.self).3 (search rules))) c.forget.ensures.others c.self.invariant

pub returns-clause-changes : goal.returns-clause-changes
returns-clause-changes c =
    let new : Map = c.get_mut.follows.lender c.change.new.self in
    let made : ChangesText c.args.uri.now c.args.version c.args.changes.now c.self.inside.opened new = record {
      before = c.in_ok-opened.opened.now;
      after = c.change.new.self;
      was = search rules;
      version_is = search rules;
      encoding = c.change.ensures.encoding;
      text = c.in_ok-change.ensures.ok;
      puts = put_in c.args.uri.now (Some c.change.new.self) c.self.inside.opened new ((c.get_mut.follows.holds c.change.new.self).3 (search rules));
    } in
    subst (λ (m : Map). ChangesText c.args.uri.now c.args.version c.args.changes.now m new) c.self.view_is made
