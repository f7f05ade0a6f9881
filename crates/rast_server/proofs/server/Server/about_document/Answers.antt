use Rattle.std.proofs.Common.{◌≡◌, Some, rules}
use Rattle.serde_json.specs.View.{view}
use Rattle.rast_messages.specs.Params.{uri_in}
use Rattle.rast_server.proofs.Limits.{gives, refuses}
use Rattle.rast_server.proofs.server.Server.about_document.Goals as goal

pub returns-clause-gives : goal.returns-clause-gives
returns-clause-gives c =
    let uri_is : uri_in (view c.args.params.now) ≡ Some c.in_ok-uri.uri.now = search rules in
    gives c.result_of.result c.args.self.now c.in_ok-uri.uri.now c.args.method.now (view c.args.params.now) uri_is c.result_of.ensures.given

pub returns-clause-why : goal.returns-clause-why
returns-clause-why c =
    let uri_is : uri_in (view c.args.params.now) ≡ Some c.in_ok-uri.uri.now = search rules in
    refuses c.result_of.result c.args.self.now c.in_ok-uri.uri.now c.args.method.now (view c.args.params.now) uri_is c.result_of.ensures.why
