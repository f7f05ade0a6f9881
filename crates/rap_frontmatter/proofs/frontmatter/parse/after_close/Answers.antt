use Rattle.std.proofs.Common.{◌≡◌, ℕ, List, ◌+◌, eqb, take, drop, refl, sym, ap, subst, ◌∙◌, arith}
use Rattle.std.specs.List.{prefix_len, AllPass}
use Rattle.rap_frontmatter.specs.Script.{HasLine, HasWord, NoDash, is_horizontal, moved}
use Rattle.rap_frontmatter.specs.Refusal.{Refusal, IsRefused}
use Rattle.rap_frontmatter.proofs.ScriptLines.{starts_with_dashes, span_from_ends}
use Rattle.rap_frontmatter.proofs.ScriptFences.{tail_cut}
use Rattle.std.proofs.lemmas.List.{length-drop}
use Rattle.rap_frontmatter.proofs.ScriptParts.{blank_ending}
use Rattle.rap_frontmatter.proofs.ScriptAccepted.{rest_border}
use Rattle.rap_frontmatter.proofs.ScriptRefused.{no_memory, reported_same, refused_more, refused_word}
use Rattle.rap_frontmatter.proofs.frontmatter.parse.after_close.Goals as goal

pub overflow_add-end : goal.overflow_add-end
overflow_add-end c =
    let q = c.requires in
    omega (arith, c.end.ensures, (rest_border _ _ _ _ q.opens _ _ _ q.enough q.closes c.utf8.raw).0)

pub overflow_add-end-2 : goal.overflow_add-end-2
overflow_add-end-2 c =
    let q = c.requires in
    omega (arith, c.end.ensures, (rest_border _ _ _ _ q.opens _ _ _ q.enough q.closes c.utf8.raw).0)

pub slice_bounds-rest-count : goal.slice_bounds-rest-count
slice_bounds-rest-count c =
    let q = c.requires in
    omega (arith, c.end.ensures, c.as_bytes.ensures.len, (rest_border _ _ _ _ q.opens _ _ _ q.enough q.closes c.utf8.raw).0)

pub slice_bounds-rest-start : goal.slice_bounds-rest-start
slice_bounds-rest-start c =
    let q = c.requires in
    omega (arith, c.end.ensures, c.as_bytes.ensures.len, (rest_border _ _ _ _ q.opens _ _ _ q.enough q.closes c.utf8.raw).0)

pub overflow_add-end-then-extra-gt0 : goal.overflow_add-end-then-extra-gt0
overflow_add-end-then-extra-gt0 c =
    let q = c.requires in
    let o = c.args.opening.now.dashes in
    let k = c.args.closing in
    let raw = c.args.raw.now in
    let rest = o.start + o.len + k.close + o.len in
    let cut = tail_cut raw c.as_bytes.result.now (c.end.result + k.close + o.len) rest c.as_bytes.ensures.value (ap (λ j. j + k.close + o.len) c.end.ensures) in
    let extra = c.count_dashes-extra.result in
    let d = starts_with_dashes (drop rest raw) extra (c.count_dashes-extra.ensures ∙ ap (λ l. prefix_len (λ (b : ℕ). eqb b 45) l) cut) in
    omega (arith, c.end.ensures, d.inside, length-drop rest raw, (rest_border _ _ _ _ q.opens _ _ _ q.enough q.closes c.utf8.raw).0)

pub returns-in_err-error-clause-refused : goal.returns-in_err-error-clause-refused
returns-in_err-error-clause-refused c =
    let q = c.requires in
    let o = c.args.opening.now.dashes in
    let k = c.args.closing in
    let raw = c.args.raw.now in
    let rest = o.start + o.len + k.close + o.len in
    let cut = tail_cut raw c.as_bytes.result.now (c.end.result + k.close + o.len) rest c.as_bytes.ensures.value (ap (λ j. j + k.close + o.len) c.end.ensures) in
    let extra = c.count_dashes-extra.result in
    let d = starts_with_dashes (drop rest raw) extra (c.count_dashes-extra.ensures ∙ ap (λ l. prefix_len (λ (b : ℕ). eqb b 45) l) cut) in
    let refused = refused_more raw _ _ _ q.opens _ _ _ q.enough q.closes extra c.if-extra-gt0.true d in
    no_memory _ raw _ c.from_residual.ensures.1 refused

pub returns-then-extra-gt0-clause-refused : goal.returns-then-extra-gt0-clause-refused
returns-then-extra-gt0-clause-refused c =
    let q = c.requires in
    let o = c.args.opening.now.dashes in
    let k = c.args.closing in
    let raw = c.args.raw.now in
    let rest = o.start + o.len + k.close + o.len in
    let cut = tail_cut raw c.as_bytes.result.now (c.end.result + k.close + o.len) rest c.as_bytes.ensures.value (ap (λ j. j + k.close + o.len) c.end.ensures) in
    let extra = c.count_dashes-extra.result in
    let d = starts_with_dashes (drop rest raw) extra (c.count_dashes-extra.ensures ∙ ap (λ l. prefix_len (λ (b : ℕ). eqb b 45) l) cut) in
    let refused = refused_more raw _ _ _ q.opens _ _ _ q.enough q.closes extra c.if-extra-gt0.true d in
    let primary = span_from_ends _ _ rest extra (omega (arith, c.end.ensures)) (omega (arith, c.end.ensures)) in
    let same = c.in_ok-error.ensures ∙ reported_same _ _ _ _ _ _ refl primary c.span.ensures in
    subst (λ (e : Refusal). IsRefused raw e) (sym same) refused

pub returns-in_err-error-2-clause-refused : goal.returns-in_err-error-2-clause-refused
returns-in_err-error-2-clause-refused c =
    let q = c.requires in
    let o = c.args.opening.now.dashes in
    let k = c.args.closing in
    let raw = c.args.raw.now in
    let rest = o.start + o.len + k.close + o.len in
    let cut = tail_cut raw c.as_bytes.result.now (c.end.result + k.close + o.len) rest c.as_bytes.ensures.value (ap (λ j. j + k.close + o.len) c.end.ensures) in
    let extra = c.count_dashes-extra.result in
    let d = starts_with_dashes (drop rest raw) extra (c.count_dashes-extra.ensures ∙ ap (λ l. prefix_len (λ (b : ℕ). eqb b 45) l) cut) in
    let tail = c.first_line-tail.result in
    let line = subst (λ (l : List ℕ). HasLine l tail.len tail.next) cut c.first_line-tail.ensures in
    let word = subst (λ (l : List ℕ). HasWord (take tail.len l) c.in-Some.word) cut c.in-Some.ensures in
    let none : extra ≡ 0 = omega arith in
    let no_dash = subst (λ (m : ℕ). NoDash (drop m (drop rest raw))) none d.no_more in
    let refused = refused_word raw _ _ _ q.opens _ _ _ q.enough q.closes _ _ c.in-Some.word no_dash line word in
    no_memory _ raw _ c.from_residual-in_err-error-2.ensures.1 refused

pub returns-in-Some-clause-refused : goal.returns-in-Some-clause-refused
returns-in-Some-clause-refused c =
    let q = c.requires in
    let o = c.args.opening.now.dashes in
    let k = c.args.closing in
    let raw = c.args.raw.now in
    let rest = o.start + o.len + k.close + o.len in
    let cut = tail_cut raw c.as_bytes.result.now (c.end.result + k.close + o.len) rest c.as_bytes.ensures.value (ap (λ j. j + k.close + o.len) c.end.ensures) in
    let extra = c.count_dashes-extra.result in
    let d = starts_with_dashes (drop rest raw) extra (c.count_dashes-extra.ensures ∙ ap (λ l. prefix_len (λ (b : ℕ). eqb b 45) l) cut) in
    let tail = c.first_line-tail.result in
    let line = subst (λ (l : List ℕ). HasLine l tail.len tail.next) cut c.first_line-tail.ensures in
    let word = subst (λ (l : List ℕ). HasWord (take tail.len l) c.in-Some.word) cut c.in-Some.ensures in
    let none : extra ≡ 0 = omega arith in
    let no_dash = subst (λ (m : ℕ). NoDash (drop m (drop rest raw))) none d.no_more in
    let refused = refused_word raw _ _ _ q.opens _ _ _ q.enough q.closes _ _ c.in-Some.word no_dash line word in
    let primary = ap (λ j. moved (j + k.close + o.len) c.in-Some.word) c.end.ensures in
    let same = c.in_ok-error-2.ensures ∙ reported_same _ _ _ _ _ _ refl primary c.span-in-Some.ensures in
    subst (λ (e : Refusal). IsRefused raw e) (sym same) refused

pub before_content-requires-clause-ends : goal.before_content-requires-clause-ends
before_content-requires-clause-ends c =
    let q = c.requires in
    let o = c.args.opening.now.dashes in
    let k = c.args.closing in
    let raw = c.args.raw.now in
    let rest = o.start + o.len + k.close + o.len in
    let cut = tail_cut raw c.as_bytes.result.now (c.end.result + k.close + o.len) rest c.as_bytes.ensures.value (ap (λ j. j + k.close + o.len) c.end.ensures) in
    let tail = c.first_line-tail.result in
    let line = subst (λ (l : List ℕ). HasLine l tail.len tail.next) cut c.first_line-tail.ensures in
    let blank = subst (λ (l : List ℕ). AllPass is_horizontal (take tail.len l)) cut c.in_default.ensures in
    blank_ending (drop rest raw) tail.len tail.next line blank
