use Rattle.std.proofs.Common.{List, Some, string_bytes, subst, sym}
use Rattle.serde_json.specs.View.{view}
use Rattle.rap_base.specs.declared.edition.Edition.TheVariants.{Edition2024}
use Rattle.flat_tree.specs.declared.element.Element.{Element}
use Rattle.rast_answers.specs.Listings.{AreElementsOf}
use Rattle.rast_answers.proofs.Kept.{elements_of_lists}
use Rattle.rast_document.specs.declared.document.Document.{Document}
use Rattle.rast_server.proofs.KeptTrees.{kept_at, kept_of}
use Rattle.rast_server.proofs.Limits.{given_at, of_get, why_at}
use Rattle.rast_server.proofs.server.result_of.Goals as goal

pub keep-requires : goal.keep-requires
keep-requires c =
    kept_at c.prepare.new.self c.args.uri.now c.get.result.now (Some c.into_elements.result) c.get.ensures
    (kept_of (string_bytes c.get.result.now.document.text) c.in-Ok.lists.elements.items c.into_elements.result (elements_of_lists _ _ _ _ c.in-Ok.ensures) c.into_elements.ensures)

pub returns-in-Some-clause-given : goal.returns-in-Some-clause-given
returns-in-Some-clause-given c =
    given_at c.answered.result c.args.documents.now c.args.uri.now c.args.method.now (view c.args.params.now) c.in-Some.listing.document.now c.in-Some.listing.elements.now
    (rw c.prepare.ensures at c.in-Some.ensures.document) c.in-Some.ensures.tree c.answered.ensures.given

pub returns-in-Some-clause-why : goal.returns-in-Some-clause-why
returns-in-Some-clause-why c =
    why_at c.answered.result c.args.documents.now c.args.uri.now c.args.method.now (view c.args.params.now) c.in-Some.listing.document.now c.in-Some.listing.elements.now
    (rw c.prepare.ensures at c.in-Some.ensures.document) c.in-Some.ensures.tree c.answered.ensures.why

pub answered-result-requires-clause-tree : goal.answered-result-requires-clause-tree
answered-result-requires-clause-tree c =
    subst (λ (x : Document). AreElementsOf (string_bytes x.text) Edition2024 c.listing-in-Ok.result.elements.now) (sym c.listing-in-Ok.ensures.document)
    (subst (λ (es : List Element). AreElementsOf (string_bytes c.get.result.now.document.text) Edition2024 es) (sym c.listing-in-Ok.ensures.elements)
    (elements_of_lists _ _ _ _ c.in-Ok.ensures))

pub returns-in-Ok-clause-given : goal.returns-in-Ok-clause-given
returns-in-Ok-clause-given c =
    let stands = of_get c.args.documents.now c.prepare.new.self c.args.uri.now c.get.result.now c.listing-in-Ok.result.document.now c.get.ensures c.prepare.ensures
    c.listing-in-Ok.ensures.document in
    let parsed : AreElementsOf (string_bytes c.listing-in-Ok.result.document.now.text) Edition2024 c.listing-in-Ok.result.elements.now
    = subst (λ (x : Document). AreElementsOf (string_bytes x.text) Edition2024 c.listing-in-Ok.result.elements.now) (sym c.listing-in-Ok.ensures.document)
    (subst (λ (es : List Element). AreElementsOf (string_bytes c.get.result.now.document.text) Edition2024 es) (sym c.listing-in-Ok.ensures.elements)
    (elements_of_lists _ _ _ _ c.in-Ok.ensures)) in
    given_at c.answered-result.result c.args.documents.now c.args.uri.now c.args.method.now (view c.args.params.now) c.listing-in-Ok.result.document.now
    c.listing-in-Ok.result.elements.now stands parsed c.answered-result.ensures.given

pub returns-in-Ok-clause-why : goal.returns-in-Ok-clause-why
returns-in-Ok-clause-why c =
    let stands = of_get c.args.documents.now c.prepare.new.self c.args.uri.now c.get.result.now c.listing-in-Ok.result.document.now c.get.ensures c.prepare.ensures
    c.listing-in-Ok.ensures.document in
    let parsed : AreElementsOf (string_bytes c.listing-in-Ok.result.document.now.text) Edition2024 c.listing-in-Ok.result.elements.now
    = subst (λ (x : Document). AreElementsOf (string_bytes x.text) Edition2024 c.listing-in-Ok.result.elements.now) (sym c.listing-in-Ok.ensures.document)
    (subst (λ (es : List Element). AreElementsOf (string_bytes c.get.result.now.document.text) Edition2024 es) (sym c.listing-in-Ok.ensures.elements)
    (elements_of_lists _ _ _ _ c.in-Ok.ensures)) in
    why_at c.answered-result.result c.args.documents.now c.args.uri.now c.args.method.now (view c.args.params.now) c.listing-in-Ok.result.document.now
    c.listing-in-Ok.result.elements.now stands parsed c.answered-result.ensures.why
