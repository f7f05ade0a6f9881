use Rattle.std.proofs.Common.{ℕ, List, ◌+◌, refl, sym, subst, ◌∙◌, arith}
use Rattle.rap_frontmatter.specs.Script.{HasFence, IsLongestFence, NoLineFeed}
use Rattle.rap_frontmatter.specs.ScriptPlaces.{HasClosing}
use Rattle.rap_frontmatter.specs.Refusal.{Refusal, IsRefused}
use Rattle.rap_frontmatter.proofs.ScriptLines.{span_from_ends}
use Rattle.rap_frontmatter.proofs.ScriptFences.{tail_cut}
use Rattle.rap_frontmatter.proofs.ScriptRefused.{no_memory, reported_same, refused_fewer, refused_close, refused_line}
use Rattle.rap_frontmatter.proofs.frontmatter.parse.after_opening.Goals as goal

pub after_close-requires-clause-closes : goal.after_close-requires-clause-closes
after_close-requires-clause-closes c =
    let o = c.args.opening.now.dashes in
    let raw = c.args.raw.now in
    let cut = tail_cut raw c.as_bytes.result.now c.end-end.result (o.start + o.len) c.as_bytes.ensures.value c.end-end.ensures in
    let k = c.in-At.closing in
    subst (λ (l : List ℕ). HasClosing o.len l k.line k.matter k.close) cut c.in-At.ensures

pub returns-in_err-error-in-TooShort-clause-refused : goal.returns-in_err-error-in-TooShort-clause-refused
returns-in_err-error-in-TooShort-clause-refused c =
    let o = c.args.opening.now.dashes in
    let raw = c.args.raw.now in
    let cut = tail_cut raw c.as_bytes.result.now c.end-end.result (o.start + o.len) c.as_bytes.ensures.value c.end-end.ensures in
    let found = c.in-TooShort.ensures in
    let longest = subst (λ (l : List ℕ). IsLongestFence c.in-TooShort.len l c.in-TooShort.place) cut found.2 in
    let refused = refused_fewer raw _ _ _ c.requires.opens c.in-TooShort.place c.in-TooShort.len c.requires.enough found.0 found.1 longest in
    no_memory _ raw _ c.from_residual.ensures.1 refused

pub returns-in_ok-error-in-TooShort-clause-refused : goal.returns-in_ok-error-in-TooShort-clause-refused
returns-in_ok-error-in-TooShort-clause-refused c =
    let o = c.args.opening.now.dashes in
    let raw = c.args.raw.now in
    let cut = tail_cut raw c.as_bytes.result.now c.end-end.result (o.start + o.len) c.as_bytes.ensures.value c.end-end.ensures in
    let found = c.in-TooShort.ensures in
    let longest = subst (λ (l : List ℕ). IsLongestFence c.in-TooShort.len l c.in-TooShort.place) cut found.2 in
    let refused = refused_fewer raw _ _ _ c.requires.opens c.in-TooShort.place c.in-TooShort.len c.requires.enough found.0 found.1 longest in
    let primary = span_from_ends _ _ (o.start + o.len + c.in-TooShort.place) c.in-TooShort.len (omega (arith, c.end-end.ensures)) (omega (arith, c.end-end.ensures)) in
    let same = c.in_ok-error-in-TooShort.ensures ∙ reported_same _ _ _ _ _ _ refl primary c.span.ensures in
    subst (λ (e : Refusal). IsRefused raw e) (sym same) refused

pub returns-in_err-unclosed-in-NoFence-clause-refused : goal.returns-in_err-unclosed-in-NoFence-clause-refused
returns-in_err-unclosed-in-NoFence-clause-refused c =
    let o = c.args.opening.now.dashes in
    let raw = c.args.raw.now in
    let cut = tail_cut raw c.as_bytes.result.now c.end-end.result (o.start + o.len) c.as_bytes.ensures.value c.end-end.ensures in
    let none = subst (λ (l : List ℕ). (p : ℕ) → ¬ HasFence 1 l p) cut c.in-NoFence.ensures in
    let refused = refused_close raw _ _ _ c.requires.opens c.requires.enough none in
    no_memory _ raw _ c.from_residual-in_err-unclosed-in-NoFence.ensures.1 refused

pub returns-in_ok-unclosed-in-NoFence-clause-refused : goal.returns-in_ok-unclosed-in-NoFence-clause-refused
returns-in_ok-unclosed-in-NoFence-clause-refused c =
    let o = c.args.opening.now.dashes in
    let raw = c.args.raw.now in
    let cut = tail_cut raw c.as_bytes.result.now c.end-end.result (o.start + o.len) c.as_bytes.ensures.value c.end-end.ensures in
    let none = subst (λ (l : List ℕ). (p : ℕ) → ¬ HasFence 1 l p) cut c.in-NoFence.ensures in
    let refused = refused_close raw _ _ _ c.requires.opens c.requires.enough none in
    subst (λ (e : Refusal). IsRefused raw e) (sym c.in_ok-unclosed-in-NoFence.ensures) refused

pub returns-in_err-unclosed-in-NoLine-clause-refused : goal.returns-in_err-unclosed-in-NoLine-clause-refused
returns-in_err-unclosed-in-NoLine-clause-refused c =
    let o = c.args.opening.now.dashes in
    let raw = c.args.raw.now in
    let cut = tail_cut raw c.as_bytes.result.now c.end-end.result (o.start + o.len) c.as_bytes.ensures.value c.end-end.ensures in
    let none = subst (λ (l : List ℕ). NoLineFeed l) cut c.in-NoLine.ensures in
    let refused = refused_line raw _ _ _ c.requires.opens c.requires.enough none in
    no_memory _ raw _ c.from_residual-in_err-unclosed-in-NoLine.ensures.1 refused

pub returns-in_ok-unclosed-in-NoLine-clause-refused : goal.returns-in_ok-unclosed-in-NoLine-clause-refused
returns-in_ok-unclosed-in-NoLine-clause-refused c =
    let o = c.args.opening.now.dashes in
    let raw = c.args.raw.now in
    let cut = tail_cut raw c.as_bytes.result.now c.end-end.result (o.start + o.len) c.as_bytes.ensures.value c.end-end.ensures in
    let none = subst (λ (l : List ℕ). NoLineFeed l) cut c.in-NoLine.ensures in
    let refused = refused_line raw _ _ _ c.requires.opens c.requires.enough none in
    subst (λ (e : Refusal). IsRefused raw e) (sym c.in_ok-unclosed-in-NoLine.ensures) refused
