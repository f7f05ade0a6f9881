use Rattle.std.proofs.Common.{encode_utf8_all, ap, sym, ◌∙◌}
use Rattle.std.proofs.lemmas.Str.{encodes-chars}
use Rattle.rap_lexer.proofs.lexer.cursor.Cursor.as_str.Goals as goal

pub returns-clause-text : goal.returns-clause-text
returns-clause-text c = sym (encodes-chars _ c.self.invariant) ∙ ap encode_utf8_all c.self.view_is
