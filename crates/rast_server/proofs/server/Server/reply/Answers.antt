use Rattle.std.proofs.Common.{inl, refl, ap, ◌∙◌}
use Rattle.rast_messages.specs.Replies.{success_text}
use Rattle.rast_server.specs.declared.server.Server.{Server}
use Rattle.rast_server.proofs.server.Server.reply.Goals as goal

pub returns-clause-answers : goal.returns-clause-answers
returns-clause-answers c = λ plain. inl record {
  granted = c.in-Ok.granted;
  grants = c.in-Ok.ensures.grants;
  text_is = c.in-Ok-success.ensures plain ∙ ap (success_text _) c.as_str.ensures.value;
  stage = refl;
  encoding = refl;
  documents = ap (λ (s : Server). s.documents) c.request.ensures.same;
}
