use Rattle.std.proofs.Common.{sym, ◌∙◌, arith}
use Rattle.rap_frontmatter.proofs.ScriptLines.{first_feed, no_feed, line_whole, line_before_feed, line_before_return}
use Rattle.rap_frontmatter.proofs.frontmatter.line.first_line.Goals as goal
use Rattle.rap_frontmatter.proofs.frontmatter.line.first_line.Goals.{else-feed-gt0-via-then-feed-gt0+else-text-feed-eq13, else-feed-gt0-via-else-feed-gt0}

pub returns-in-None : goal.returns-in-None
returns-in-None c = line_whole _ (no_feed _ (sym c.find_line_feed.ensures ∙ c.in-None.is))

pub returns-then-text-feed-eq13 : goal.returns-then-text-feed-eq13
returns-then-text-feed-eq13 c =
    let h = first_feed _ _ (sym c.find_line_feed.ensures ∙ c.in-Some.is) in
    line_before_return _ _ h c.if-feed-gt0.true c.if-text-feed-eq13.true

pub returns-else-feed-gt0 : goal.returns-else-feed-gt0
returns-else-feed-gt0 c =
    let h = first_feed _ _ (sym c.find_line_feed.ensures ∙ c.in-Some.is) in
    elim c.else-feed-gt0.branch [
      | else-feed-gt0-via-then-feed-gt0+else-text-feed-eq13 w ↦ line_before_feed _ _ h (λ _. w.if-text-feed-eq13.false)
      | else-feed-gt0-via-else-feed-gt0 w ↦ line_before_feed _ _ h (λ l. absurd (omega arith))
    ]
