use Rattle.std.proofs.Common.{rules, ◌≡◌, List, Some, subst, string_bytes, sym}
use Rattle.std.specs.BTreeMap.{get_by_text}
use Rattle.rap_base.specs.declared.edition.Edition.TheVariants.{Edition2024}
use Rattle.flat_tree.specs.declared.element.Element.{Element}
use Rattle.rast_answers.specs.Listings.{AreElementsOf}
use Rattle.rast_document.specs.declared.document.Document.{Document}
use Rattle.rast_server.proofs.KeptTrees.{tree_of}
use Rattle.rast_server.proofs.open_documents.Documents.listing.Goals as goal

pub new-requires : goal.new-requires
new-requires c =
    let stands : get_by_text c.self.inside.opened c.args.uri.now ≡ Some c.in_ok-opened.opened.now = search rules in (
      Edition2024,
      subst (λ (es : List Element). AreElementsOf (string_bytes c.in_ok-opened.opened.now.document.text) Edition2024 es) (sym c.elements.ensures)
          (tree_of c.self.inside.opened c.args.uri.now c.in_ok-opened.opened.now c.in_ok-kept.kept.now c.self.inside.trees.kept.items c.self.invariant c.in_ok-kept.ensures.some stands),
    )

pub returns-clause-tree : goal.returns-clause-tree
returns-clause-tree c =
    let stands : get_by_text c.self.inside.opened c.args.uri.now ≡ Some c.in_ok-opened.opened.now = search rules in
    let kept = tree_of c.self.inside.opened c.args.uri.now c.in_ok-opened.opened.now c.in_ok-kept.kept.now c.self.inside.trees.kept.items c.self.invariant c.in_ok-kept.ensures.some stands in
    subst (λ (x : Document). AreElementsOf (string_bytes x.text) Edition2024 c.new.result.elements.now) (sym c.new.ensures.document)
    (subst (λ (es : List Element). AreElementsOf (string_bytes c.in_ok-opened.opened.now.document.text) Edition2024 es) (sym c.new.ensures.elements)
    (subst (λ (es : List Element). AreElementsOf (string_bytes c.in_ok-opened.opened.now.document.text) Edition2024 es) (sym c.elements.ensures) kept))
