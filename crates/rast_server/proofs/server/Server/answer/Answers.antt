use Rattle.std.proofs.Common.{refl}
use Rattle.serde_json.specs.View.{view}
use Rattle.rast_server.specs.Answered.IsAnswer.{response}
use Rattle.rast_server.proofs.Documents.{params_are, view-Null}
use Rattle.rast_server.proofs.Requests.{left, notified, requested, unfit, untold_of}
use Rattle.rast_server.proofs.server.Server.answer.Goals as goal

pub returns-in-Request-clause-answers : goal.returns-in-Request-clause-answers
returns-in-Request-clause-answers c =
    requested c.args.self.now c.reply.new.self c.args.content.now c.in-Request.method.now (view c.in-Ok.message) (view c.in-Request.id.now) _ c.reply.result
    c.in-Ok.ensures.ok.1 c.in-Request.ensures
    (params_are c.get.result c.unwrap_or-params.result _ (view c.in-Ok.message) c.unwrap_or-params.ensures c.get.ensures view-Null)
    c.reply.ensures.answers

pub returns-in-Request-clause-unanswered : goal.returns-in-Request-clause-unanswered
returns-in-Request-clause-unanswered c = left c.args.self.now c.reply.new.self c.args.content.now c.reply.result c.reply.ensures.err

pub returns-in-Notification-clause-answers : goal.returns-in-Notification-clause-answers
returns-in-Notification-clause-answers c =
    notified c.args.self.now c.take.new.self c.args.content.now c.in-Notification.method.now (view c.in-Ok.message) _ c.take.result
    c.in-Ok.ensures.ok.1 c.in-Notification.ensures
    (params_are c.get.result c.unwrap_or-params.result _ (view c.in-Ok.message) c.unwrap_or-params.ensures c.get.ensures view-Null)
    c.take.ensures.heeds

pub returns-in-Notification-clause-unanswered : goal.returns-in-Notification-clause-unanswered
returns-in-Notification-clause-unanswered c =
    untold_of c.args.self.now c.take.new.self c.args.content.now c.in-Notification.method.now (view c.in-Ok.message) _ c.take.result
    c.in-Ok.ensures.ok.1 c.in-Notification.ensures
    (params_are c.get.result c.unwrap_or-params.result _ (view c.in-Ok.message) c.unwrap_or-params.ensures c.get.ensures view-Null)
    c.take.ensures.untold

pub returns-in-Response-clause-answers : goal.returns-in-Response-clause-answers
returns-in-Response-clause-answers c = response (view c.in-Ok.message) c.in-Ok.ensures.ok.1 c.in-Response.ensures refl refl

pub returns-clause-answers : goal.returns-clause-answers
returns-clause-answers c =
    unfit c.args.self.now c.args.content.now (view c.in-Ok.message) c.in-Invalid.id c.no_message-fault.result c.in_ok-error-in-Invalid.field-0
    c.in-Ok.ensures.ok.1 c.in-Invalid.ensures.0 c.in-Invalid.ensures.1 c.no_message-fault.ensures c.in_ok-error-in-Invalid.ensures
