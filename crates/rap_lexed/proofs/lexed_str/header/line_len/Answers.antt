use Rattle.std.proofs.Common.{◌≡◌, sym, ◌∙◌, ℕ, List, subst, arith}
use Rattle.rap_frontmatter.specs.Script.{HasLine}
use Rattle.rap_frontmatter.proofs.ScriptLines.{first_feed, no_feed, line_whole, line_before_feed, line_before_return}
use Rattle.rap_lexed.proofs.lexed_str.header.line_len.Goals as goal
use Rattle.rap_lexed.proofs.lexed_str.header.line_len.Goals.{else-feed-gt0-via-then-feed-gt0+else-bytes-feed-eq13, else-feed-gt0-via-else-feed-gt0}

-- the bytes are the text's
moved : (bytes text : List ℕ) (len next : ℕ) → bytes ≡ text → HasLine bytes len next → HasLine text len next
moved bytes text len next e h = subst (λ (l : List ℕ). HasLine l len next) e h

pub returns-in-None : goal.returns-in-None
returns-in-None c = (_, moved _ _ _ _ c.as_bytes-bytes.ensures.value (line_whole _ (no_feed _ (sym c.find_line_feed.ensures ∙ c.in-None.is))))

pub returns-then-bytes-feed-eq13 : goal.returns-then-bytes-feed-eq13
returns-then-bytes-feed-eq13 c =
    let h = first_feed _ _ (sym c.find_line_feed.ensures ∙ c.in-Some.is) in
    (_, moved _ _ _ _ c.as_bytes-bytes.ensures.value (line_before_return _ _ h c.if-feed-gt0.true c.if-bytes-feed-eq13.true))

pub returns-else-feed-gt0 : goal.returns-else-feed-gt0
returns-else-feed-gt0 c =
    let h = first_feed _ _ (sym c.find_line_feed.ensures ∙ c.in-Some.is) in
    elim c.else-feed-gt0.branch [
      | else-feed-gt0-via-then-feed-gt0+else-bytes-feed-eq13 w ↦ (_, moved _ _ _ _ c.as_bytes-bytes.ensures.value (line_before_feed _ _ h (λ _. w.if-bytes-feed-eq13.false)))
      | else-feed-gt0-via-else-feed-gt0 w ↦ (_, moved _ _ _ _ c.as_bytes-bytes.ensures.value (line_before_feed _ _ h (λ l. absurd (omega arith))))
    ]
