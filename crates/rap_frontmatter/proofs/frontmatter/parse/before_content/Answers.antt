use Rattle.std.proofs.Common.{ℕ, List, ◌+◌, drop, sym, ap, subst, ◌∙◌, arith, IsCharBoundary}
use Rattle.rap_frontmatter.specs.ScriptPlaces.{HasDashes, HasNoDashes}
use Rattle.rap_frontmatter.specs.Refusal.{Refusal, IsRefused}
use Rattle.rap_frontmatter.proofs.ScriptLines.{span_from_ends}
use Rattle.rap_frontmatter.proofs.ScriptAccepted.{content_border, rest_border}
use Rattle.rap_frontmatter.proofs.ScriptRefused.{no_memory, twice_same, refused_twice}
use Rattle.rap_frontmatter.proofs.frontmatter.parse.before_content.Goals as goal

pub overflow_add-close : goal.overflow_add-close
overflow_add-close c =
    let q = c.requires in
    omega (arith, c.end.ensures, (rest_border _ _ _ _ q.opens _ _ _ q.enough q.closes c.utf8.raw).0)

pub overflow_add-content : goal.overflow_add-content
overflow_add-content c =
    let q = c.requires in
    omega (arith, c.end.ensures, (rest_border _ _ _ _ q.opens _ _ _ q.enough q.closes c.utf8.raw).0)

pub overflow_add-content-2 : goal.overflow_add-content-2
overflow_add-content-2 c =
    let q = c.requires in
    omega (arith, c.end.ensures, (content_border _ _ _ _ q.opens _ _ _ q.enough q.closes _ q.ends c.utf8.raw).0)

pub range_from-requires : goal.range_from-requires
range_from-requires c =
    let q = c.requires in
    let o = c.args.opening.now.dashes in
    let k = c.args.closing in
    λ _. subst (λ (j : ℕ). IsCharBoundary c.args.raw.now (j + k.close + o.len + c.args.line)) (sym c.end.ensures) (content_border _ _ _ _ q.opens _ _ _ q.enough q.closes _ q.ends c.utf8.raw)

pub returns-in_err-error-clause-refused : goal.returns-in_err-error-clause-refused
returns-in_err-error-clause-refused c =
    let q = c.requires in
    let o = c.args.opening.now.dashes in
    let k = c.args.closing in
    let raw = c.args.raw.now in
    let second = c.find_dashes-second.result in
    let below = c.range_from.ensures.value ∙ ap (λ j. drop (j + k.close + o.len + c.args.line) raw) c.end.ensures in
    let dashes = subst (λ (l : List ℕ). HasDashes l second.start second.len) below c.find_dashes-second.ensures in
    let refused = refused_twice raw _ _ _ q.opens _ _ _ q.enough q.closes _ q.ends second.start second.len dashes c.if-second-gt0.true in
    no_memory _ raw _ c.from_residual.ensures.1 refused

pub returns-then-second-gt0-clause-refused : goal.returns-then-second-gt0-clause-refused
returns-then-second-gt0-clause-refused c =
    let q = c.requires in
    let o = c.args.opening.now.dashes in
    let k = c.args.closing in
    let raw = c.args.raw.now in
    let second = c.find_dashes-second.result in
    let below = c.range_from.ensures.value ∙ ap (λ j. drop (j + k.close + o.len + c.args.line) raw) c.end.ensures in
    let dashes = subst (λ (l : List ℕ). HasDashes l second.start second.len) below c.find_dashes-second.ensures in
    let refused = refused_twice raw _ _ _ q.opens _ _ _ q.enough q.closes _ q.ends second.start second.len dashes c.if-second-gt0.true in
    let primary = span_from_ends _ _ (o.start + o.len + k.close + o.len + c.args.line + second.start) second.len (omega (arith, c.end.ensures)) (omega (arith, c.end.ensures, c.end-then-second-gt0.ensures)) in
    let close = span_from_ends _ _ (o.start + o.len + k.close) o.len (omega (arith, c.end.ensures)) (omega (arith, c.end.ensures)) in
    let same = c.in_ok-error.ensures ∙ twice_same _ _ _ _ _ _ primary c.span.ensures close in
    subst (λ (e : Refusal). IsRefused raw e) (sym same) refused

pub with_frontmatter-requires-clause-no_second : goal.with_frontmatter-requires-clause-no_second
with_frontmatter-requires-clause-no_second c =
    let below = c.range_from.ensures.value ∙ ap (λ j. drop (j + c.args.closing.close + c.args.opening.now.dashes.len + c.args.line) c.args.raw.now) c.end.ensures in
    let f = c.find_dashes-second.ensures in
    subst (λ (l : List ℕ). HasNoDashes l) below (record { fence = f.fence; none = omega (arith, f.size) })
