use Rattle.std.proofs.Common.{sym, ap, ◌∙◌, eq-eqb}
use Rattle.std.specs.Prelude.{◌==◌}
use Rattle.std.proofs.lemmas.Bool.{both_ways}
use Rattle.rap_base.specs.TokenKind.{COMMENT}
use Rattle.rap_lexed.proofs.Tails.{begin-comment, begin-none, begin-ends, begin-more}
use Rattle.rap_lexed.proofs.shortcuts.attached.begin_after.Goals as goal
use Rattle.rap_lexed.proofs.shortcuts.attached.begin_after.Goals.{then-begin-i, else-begin-i}

pub returns-then-eq : goal.returns-then-eq
returns-then-eq c =
    begin-comment c.args.lexed.now.tokens c.args.start c.args.i c.args.begin c.requires.first c.requires.inside c.requires.begun
    (sym (ap (λ k. k == COMMENT) c.kind.ensures.kind) ∙ sym c.eq.ensures ∙ c.if-eq.true)

pub returns-then-ends_tail : goal.returns-then-ends_tail
returns-then-ends_tail c = elim c.if-begin-i.branch [
  | then-begin-i w ↦
      begin-none c.args.lexed.now.tokens c.args.start c.args.i c.args.begin c.requires.first c.requires.inside c.requires.begun
      (sym (ap (λ k. k == COMMENT) c.kind.ensures.kind) ∙ sym c.eq.ensures ∙ c.if-eq.false) w.if-begin-i.true
  | else-begin-i w ↦
      begin-ends c.args.lexed.now.tokens c.args.start c.args.i c.args.begin c.requires.first c.requires.inside c.requires.begun
      (sym w.ends_tail.ensures ∙ sym w.value-is ∙ c.if-ends_tail.true)
]

pub returns-else-ends_tail : goal.returns-else-ends_tail
returns-else-ends_tail c = elim c.if-begin-i.branch [
  | then-begin-i w ↦ absurd (both_ways c.if-begin-i.value c.if-ends_tail.false (w.value-is ∙ eq-eqb c.args.begin c.args.i w.if-begin-i.true))
  | else-begin-i w ↦
      begin-more c.args.lexed.now.tokens c.args.start c.args.i c.args.begin c.requires.first c.requires.inside c.requires.begun
      (sym (ap (λ k. k == COMMENT) c.kind.ensures.kind) ∙ sym c.eq.ensures ∙ c.if-eq.false) w.if-begin-i.false
      (sym w.ends_tail.ensures ∙ sym w.value-is ∙ c.if-ends_tail.false)
]
