use Rattle.std.proofs.Common.{◌≡◌, ◌∷◌, length, ap, sym, ◌∙◌, arith}
use Rattle.rap_lexer.specs.Class.{is_in}
use Rattle.rap_lexer.specs.Comment.{IsText}
use Rattle.rap_lexer.specs.declared.lexer.run.Class.TheVariants.{InBlock}
use Rattle.rap_lexer.proofs.Nesting.{Keeps, keeps_open, keeps_close, keeps_text, keeps_past, found, missing}
use Rattle.rap_lexer.proofs.Runs.{after_length}
use Rattle.rap_lexer.proofs.lexer.comment.eat_body.Goals as goal

pub body-preserved-then-eat_pair : goal.body-preserved-then-eat_pair
body-preserved-then-eat_pair c =
    let i = c.body.invariant in
    let k : Keeps c.body.depth c.args.cursor.now c.eat_text.new.cursor = rw c.eat_text.ensures (keeps_past _ _ _ i.keeps i.inside) in
    let e = c.if-eat_pair.ensures in
    record {
      inside = omega arith;
      room = omega (arith, ap length e, ap length c.eat_text.ensures, after_length (is_in InBlock) c.body.cursor);
      keeps = keeps_open _ _ _ _ k i.inside e;
    }

pub body-smaller-then-eat_pair : goal.body-smaller-then-eat_pair
body-smaller-then-eat_pair c = omega (arith, ap length c.if-eat_pair.ensures, ap length c.eat_text.ensures, after_length (is_in InBlock) c.body.cursor)

pub returns-then-depth-eq0 : goal.returns-then-depth-eq0
returns-then-depth-eq0 c =
    let i = c.body.invariant in
    let k : Keeps c.body.depth c.args.cursor.now c.eat_text.new.cursor = rw c.eat_text.ensures (keeps_past _ _ _ i.keeps i.inside) in
    found _ _ _ (keeps_close _ _ _ _ k i.inside (sym c.if-eat_pair.ensures.0 ∙ c.if-eat_pair-2.ensures)) c.if-depth-eq0.true

pub body-preserved-else-depth-eq0 : goal.body-preserved-else-depth-eq0
body-preserved-else-depth-eq0 c =
    let i = c.body.invariant in
    let k : Keeps c.body.depth c.args.cursor.now c.eat_text.new.cursor = rw c.eat_text.ensures (keeps_past _ _ _ i.keeps i.inside) in
    let e : c.eat_text.new.cursor ≡ 42 ∷ 47 ∷ c.eat_pair-else-eat_pair.new.self = sym c.if-eat_pair.ensures.0 ∙ c.if-eat_pair-2.ensures in
    record {
      inside = omega arith;
      room = omega (arith, ap length e, ap length c.eat_text.ensures, after_length (is_in InBlock) c.body.cursor);
      keeps = keeps_close _ _ _ _ k i.inside e;
    }

pub body-smaller-else-depth-eq0 : goal.body-smaller-else-depth-eq0
body-smaller-else-depth-eq0 c = omega (arith, ap length c.if-eat_pair.ensures.0, ap length c.if-eat_pair-2.ensures, ap length c.eat_text.ensures, after_length (is_in InBlock) c.body.cursor)

pub returns-in-None : goal.returns-in-None
returns-in-None c =
    let i = c.body.invariant in
    let k : Keeps c.body.depth c.args.cursor.now c.eat_text.new.cursor = rw c.eat_text.ensures (keeps_past _ _ _ i.keeps i.inside) in
    let a = sym c.if-eat_pair.ensures.0 in
    let b = sym c.if-eat_pair-2.ensures.0 in
    (c.in-None.ensures.taken.1, missing _ _ _ k i.inside (a ∙ (b ∙ c.in-None.ensures.taken.0)))

pub body-preserved : goal.body-preserved
body-preserved c =
    let i = c.body.invariant in
    let k : Keeps c.body.depth c.args.cursor.now c.eat_text.new.cursor = rw c.eat_text.ensures (keeps_past _ _ _ i.keeps i.inside) in
    let a = sym c.if-eat_pair.ensures.0 in
    let b = sym c.if-eat_pair-2.ensures.0 in
    let e : c.eat_text.new.cursor ≡ c.in-Some.field-0 ∷ c.bump.new.self = a ∙ (b ∙ c.in-Some.ensures.taken) in
    let m : IsText (c.in-Some.field-0 ∷ c.bump.new.self) = (λ rest f. c.if-eat_pair.ensures.1 rest (e ∙ f), λ rest f. c.if-eat_pair-2.ensures.1 rest (b ∙ (c.in-Some.ensures.taken ∙ f))) in
    record {
      inside = omega arith;
      room = omega (arith, ap length e, ap length c.eat_text.ensures, after_length (is_in InBlock) c.body.cursor);
      keeps = keeps_text _ _ _ _ _ k i.inside e m;
    }

pub body-smaller : goal.body-smaller
body-smaller c =
    let a = sym c.if-eat_pair.ensures.0 in
    let b = sym c.if-eat_pair-2.ensures.0 in
    let e : c.eat_text.new.cursor ≡ c.in-Some.field-0 ∷ c.bump.new.self = a ∙ (b ∙ c.in-Some.ensures.taken) in
    omega (arith, ap length e, ap length c.eat_text.ensures, after_length (is_in InBlock) c.body.cursor)
