use Rattle.std.proofs.Common.{ℕ, List, sym, subst, arith}
use Rattle.rap_frontmatter.specs.Script.{Script, IsScript, AtBorders, FindsWord}
use Rattle.rap_frontmatter.proofs.ScriptAccepted.{line_cut, fenced_same, line_bound, content_border, accepts_fenced, fenced_borders}
use Rattle.rap_frontmatter.proofs.frontmatter.parse.with_frontmatter.Goals as goal

pub overflow_add-end : goal.overflow_add-end
overflow_add-end c =
    omega (arith, c.end-end.ensures, line_bound _ _ _ _ c.requires.opens _ _ _ c.requires.enough c.requires.closes c.utf8.raw)

pub slice_bounds-find_word-end : goal.slice_bounds-find_word-end
slice_bounds-find_word-end c =
    omega (arith, c.end-end.ensures, c.as_bytes.ensures.len, line_bound _ _ _ _ c.requires.opens _ _ _ c.requires.enough c.requires.closes c.utf8.raw)

pub overflow_add-result-4 : goal.overflow_add-result-4
overflow_add-result-4 c =
    omega (arith, c.end-end.ensures, (content_border _ _ _ _ c.requires.opens _ _ _ c.requires.enough c.requires.closes _ c.requires.ends c.utf8.raw).0)

pub invariant_of-result : goal.invariant_of-result
invariant_of-result c =
    let q = c.requires in
    let text = c.args.raw.now in
    let cut = line_cut text c.as_bytes.result.now c.end-end.result c.args.closing.line _ c.as_bytes.ensures.value c.end-end.ensures in
    let finds = subst (λ (l : List ℕ). FindsWord l c.find_word-info.result) cut c.find_word-info.ensures in
    let same = fenced_same text _ _ _ _ _ _ _ c.find_word-info.result _ _ _ c.span_to.ensures c.span.ensures c.moved.ensures c.end-end.ensures in
    subst (λ (s : Script). AtBorders s) (sym same) (fenced_borders text _ _ _ q.opens _ _ _ q.enough q.closes _ q.ends _ finds c.utf8.raw)

pub returns-clause-accepted : goal.returns-clause-accepted
returns-clause-accepted c =
    let q = c.requires in
    let text = c.args.raw.now in
    let cut = line_cut text c.as_bytes.result.now c.end-end.result c.args.closing.line _ c.as_bytes.ensures.value c.end-end.ensures in
    let finds = subst (λ (l : List ℕ). FindsWord l c.find_word-info.result) cut c.find_word-info.ensures in
    let same = fenced_same text _ _ _ _ _ _ _ c.find_word-info.result _ _ _ c.span_to.ensures c.span.ensures c.moved.ensures c.end-end.ensures in
    subst (λ (s : Script). IsScript text s) (sym same) (accepts_fenced text _ _ _ q.opens _ _ _ q.enough q.closes _ q.ends _ finds q.no_second)

pub returns-clause-borders : goal.returns-clause-borders
returns-clause-borders c =
    let q = c.requires in
    let text = c.args.raw.now in
    let cut = line_cut text c.as_bytes.result.now c.end-end.result c.args.closing.line _ c.as_bytes.ensures.value c.end-end.ensures in
    let finds = subst (λ (l : List ℕ). FindsWord l c.find_word-info.result) cut c.find_word-info.ensures in
    let same = fenced_same text _ _ _ _ _ _ _ c.find_word-info.result _ _ _ c.span_to.ensures c.span.ensures c.moved.ensures c.end-end.ensures in
    subst (λ (s : Script). AtBorders s) (sym same) (fenced_borders text _ _ _ q.opens _ _ _ q.enough q.closes _ q.ends _ finds c.utf8.raw)
