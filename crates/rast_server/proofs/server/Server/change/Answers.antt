use Rattle.std.proofs.Common.{rules, arith, ◌≡◌, Some, map}
use Rattle.std.proofs.lemmas.Int.{to_z-of_z}
use Rattle.serde_json.specs.View.{view}
use Rattle.rast_messages.specs.Params.{changes_in, said, uri_in, version_in}
use Rattle.rast_server.proofs.Documents.{always, done_first, kept_all, made, not_made}
use Rattle.rast_server.specs.Documents.{CannotChange, Changes}
use Rattle.rast_server.specs.declared.server.Server.{Server}
use Rattle.rast_server.proofs.server.Server.change.Goals as goal

pub returns-in_err-change-clause-why : goal.returns-in_err-change-clause-why
returns-in_err-change-clause-why c =
    let uri_is : uri_in (view c.args.params.now) ≡ Some c.in_ok-uri.uri.now = search rules in
    let changes_are : changes_in (view c.args.params.now) ≡ Some (map said c.in_ok-changes.changes.items) = search rules in
    let why : CannotChange (view c.args.params.now) c.args.self.now c.in_err-change.field-0.0
    = not_made (view c.args.params.now) c.args.self.now c.in_err-change.field-0.0 c.in_ok-uri.uri.now c.in_ok-changes.changes.items
    uri_is changes_are (rw c.as_slice.ensures.value at c.in_err-change.ensures.why) in
    search rules

pub returns-in_err-change-clause-err : goal.returns-in_err-change-clause-err
returns-in_err-change-clause-err c = kept_all _ c.from_residual-in_err-change.result c.in_err-change.ensures.err

pub returns-clause-changes : goal.returns-clause-changes
returns-clause-changes c =
    let new : Server = record { stage = c.args.self.now.stage; encoding = c.args.self.now.encoding; documents = c.republished.new.documents } in
    let uri_is : uri_in (view c.args.params.now) ≡ Some c.in_ok-uri.uri.now = search rules in
    let version_is : version_in (view c.args.params.now) ≡ Some c.in_ok-version.version = search rules in
    let changes_are : changes_in (view c.args.params.now) ≡ Some (map said c.in_ok-changes.changes.items) = search rules in
    always c.republished.result
    (made (view c.args.params.now) c.args.self.now new c.in_ok-uri.uri.now c.in_ok-version.version _ c.in_ok-changes.changes.items c.change.new.self
    uri_is changes_are version_is (grind (arith, to_z-of_z)) (rw c.as_slice.ensures.value at c.in_ok-change.ensures.changes) c.republished.ensures.same)

pub returns-clause-err : goal.returns-clause-err
returns-clause-err c =
    let new : Server = record { stage = c.args.self.now.stage; encoding = c.args.self.now.encoding; documents = c.republished.new.documents } in
    let uri_is : uri_in (view c.args.params.now) ≡ Some c.in_ok-uri.uri.now = search rules in
    let version_is : version_in (view c.args.params.now) ≡ Some c.in_ok-version.version = search rules in
    let changes_are : changes_in (view c.args.params.now) ≡ Some (map said c.in_ok-changes.changes.items) = search rules in
    let change : Changes (view c.args.params.now) c.args.self.now new
    = made (view c.args.params.now) c.args.self.now new c.in_ok-uri.uri.now c.in_ok-version.version _ c.in_ok-changes.changes.items c.change.new.self
    uri_is changes_are version_is (grind (arith, to_z-of_z)) (rw c.as_slice.ensures.value at c.in_ok-change.ensures.changes) c.republished.ensures.same in
    done_first _ c.republished.result c.republished.ensures.why change
