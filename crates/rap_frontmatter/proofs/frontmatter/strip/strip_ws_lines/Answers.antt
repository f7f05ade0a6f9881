use Rattle.std.proofs.Common.{◌+◌, length, chars, refl, sym, ◌∙◌, arith}
use Rattle.std.proofs.lemmas.Iterator.{YieldsList-from_chars}
use Rattle.std.proofs.lemmas.Iterator.Consumers.{YieldsList-turn, YieldsList-end}
use Rattle.std.proofs.lemmas.List.{at_drop_all, length_push}
use Rattle.rap_frontmatter.proofs.ScriptBlank.{blank_from, ends_blank_lines, step_place, step_feed, step_plain, step_other, prefix_fits}
use Rattle.rap_frontmatter.proofs.frontmatter.strip.strip_ws_lines.Goals as goal

pub returns-then-not-is_rust_whitespace : goal.returns-then-not-is_rust_whitespace
returns-then-not-is_rust_whitespace c =
    let t = YieldsList-turn (YieldsList-from_chars c.args.input.now c.utf8.input cc) c.loop-c.yielded _ c.loop-c.yielded_by _ _ c.in-Some.c c.in-Some.is c.next.ensures.steps in
    ends_blank_lines _ _ (step_other _ _ _ _ _ t.0 t.1 c.loop-c.invariant.place refl _ _ (sym c.is_rust_whitespace.ensures ∙ c.if-not-is_rust_whitespace.true) c.loop-c.invariant.found)

pub overflow_add-at : goal.overflow_add-at
overflow_add-at c =
    let t = YieldsList-turn (YieldsList-from_chars c.args.input.now c.utf8.input cc) c.loop-c.yielded _ c.loop-c.yielded_by _ _ c.in-Some.c c.in-Some.is c.next.ensures.steps in
    let p = step_place _ _ _ _ _ t.0 t.1 c.loop-c.invariant.place c.len_utf8-at.ensures.value (length c.loop-c.yielded + 1) refl in
    omega (arith, p, prefix_fits c.args.input.now (length c.loop-c.yielded + 1) c.utf8.input)

pub loop-c-preserved-then-c-eq10 : goal.loop-c-preserved-then-c-eq10
loop-c-preserved-then-c-eq10 c =
    let t = YieldsList-turn (YieldsList-from_chars c.args.input.now c.utf8.input cc) c.loop-c.yielded _ c.loop-c.yielded_by _ _ c.in-Some.c c.in-Some.is c.next.ensures.steps in
    let n = length_push c.loop-c.yielded c.in-Some.c in
    let i = c.loop-c.invariant in
    let w = sym c.is_rust_whitespace.ensures ∙ c.if-not-is_rust_whitespace.false in
    record {
      place = step_place _ _ _ _ _ t.0 t.1 i.place c.len_utf8-at.ensures.value _ n;
      found = step_feed _ _ _ _ _ t.0 t.1 i.place c.len_utf8-at.ensures.value _ _ _ n w c.if-c-eq10.true i.found;
    }

pub loop-c-preserved : goal.loop-c-preserved
loop-c-preserved c =
    let t = YieldsList-turn (YieldsList-from_chars c.args.input.now c.utf8.input cc) c.loop-c.yielded _ c.loop-c.yielded_by _ _ c.in-Some.c c.in-Some.is c.next.ensures.steps in
    let n = length_push c.loop-c.yielded c.in-Some.c in
    let i = c.loop-c.invariant in
    let w = sym c.is_rust_whitespace.ensures ∙ c.if-not-is_rust_whitespace.false in
    record {
      place = step_place _ _ _ _ _ t.0 t.1 i.place c.len_utf8-at.ensures.value _ n;
      found = step_plain _ _ _ _ _ t.0 t.1 i.place c.len_utf8-at.ensures.value _ _ _ n w c.if-c-eq10.false i.found;
    }

pub returns : goal.returns
returns c =
    let t = YieldsList-end (YieldsList-from_chars c.args.input.now c.utf8.input cc) c.loop-c.yielded _ c.loop-c.yielded_by _ _ c.in-None.is c.next.ensures.steps in
    ends_blank_lines _ _ (sym (at_drop_all (blank_from c.loop-c.at c.loop-c.end) (chars c.args.input.now) (length c.loop-c.yielded) (omega (arith, t.1))) ∙ c.loop-c.invariant.found)
