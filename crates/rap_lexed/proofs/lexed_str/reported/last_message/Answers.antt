use Rattle.std.proofs.Common.{◌≡◌, ◌++◌, map, ap, sym, ◌∙◌}
use Rattle.rap_lexed.specs.About.{about}
use Rattle.rap_lexed.proofs.Messages.{last_text}
use Rattle.rap_lexed.proofs.lexed_str.reported.last_message.Goals as goal

pub returns-in-Some : goal.returns-in-Some
returns-in-Some c =
    let reported = c.in_ok-report.ensures in
    let all : c.report.new.errors.items ≡ about 0 reported.0 = reported.2 ∙ ap (λ l. l ++ about 0 reported.0) c.new-errors.ensures.items in
    let last = last_text 0 reported.0 c.pop.new.self.items c.in-Some.error (sym all ∙ c.in-Some.ensures.items) in
    (reported.0, reported.1, (map (λ m. m.text) c.pop.new.self.items, rw c.into_message.ensures last))
