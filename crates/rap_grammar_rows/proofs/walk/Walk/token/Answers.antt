use Rattle.std.proofs.Common.{◌+◌, ap, rules}
use Rattle.rap_grammar_rows.proofs.FactLeads.{went}
use Rattle.rap_grammar_rows.proofs.Leads.{piece_leads}
use Rattle.rap_grammar_rows.specs.Claims.{IsPiece, point}
use Rattle.rap_grammar_rows.specs.Code.{sets}
use Rattle.rap_grammar_rows.specs.Decode.{set_in, words_in}
use Rattle.rap_grammar_rows.specs.declared.shape.Shape.TheVariants.{Any}
use Rattle.rap_grammar_table.specs.Table.{tok}
use Rattle.rap_grammar_rows.proofs.walk.Walk.token.Goals as goal

there : (c : goal.After-go_on) → IsPiece c.args.input.now (tok (set_in c.args.kinds sets) (words_in c.args.words sets)) c.args.self.now.at (c.args.self.now.at + 1) Any
there c = search rules

pub returns : goal.returns
returns c =
    went c.args.input.now c.args.end (point c.args.self.now.place c.args.self.now.shape c.args.self.now.frames.items c.args.self.now.at)
    c.args.next c.go_on.new.self.place Any c.go_on.new.self.shape c.args.self.now.frames.items
    c.go_on.new.self.frames.items (c.args.self.now.at + 1) c.go_on.new.self.at
    (piece_leads c.args.input.now c.args.end c.args.self.now.place c.args.next (tok (set_in c.args.kinds sets) (words_in c.args.words sets)) c.args.self.now.shape Any c.args.self.now.frames.items c.args.self.now.at (c.args.self.now.at + 1) c.requires (there c))
    c.go_on.ensures.place c.go_on.ensures.shape (ap (λ v. v.items) c.go_on.ensures.frames) c.go_on.ensures.at
