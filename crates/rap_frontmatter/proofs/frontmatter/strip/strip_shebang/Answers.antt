use Rattle.std.proofs.Common.{◌≡◌, List, ℕ, ◌∷◌, get_or, drop, chars, sym, ap, subst, ◌∙◌, lit<}
use Rattle.std.proofs.lemmas.Str.Pattern.{starts_char}
use Rattle.std.proofs.lemmas.Bool.{false≢true}
use Rattle.rap_frontmatter.specs.Script.{HasLine}
use Rattle.rap_frontmatter.proofs.ScriptShebang.{attribute_from_byte, byte_from_attribute, after_marks}
use Rattle.rap_frontmatter.proofs.frontmatter.strip.strip_shebang.Goals as goal

pub returns-then-starts_with : goal.returns-then-starts_with
returns-then-starts_with c =
    let h = c.in_ok-rest.ensures.cases in
    let bracket : get_or c.trim_start.result.now 0 0 ≡ 91 = (starts_char 91 _ _ c.starts_with.ensures.cases (lit< tt) (lit< tt)).0 c.if-starts_with.true in
    let a = attribute_from_byte c.in_ok-rest.rest.now (ap (λ l. get_or l 0 0) (sym c.trim_start.ensures.trim) ∙ bracket) in
    λ s. let same : s.rest ≡ c.in_ok-rest.rest.now = sym (after_marks _ _ s.begins) ∙ (ap (λ n. drop n c.args.input.now) (sym h.1.0) ∙ sym h.2) in
    s.no_attribute a.white a.more (ap chars same ∙ a.split) a.blank

pub returns : goal.returns
returns c =
    let h = c.in_ok-rest.ensures.cases in
    let no_bracket = λ (e : get_or c.trim_start.result.now 0 0 ≡ 91). false≢true (sym c.if-starts_with.false ∙ (starts_char 91 _ _ c.starts_with.ensures.cases (lit< tt) (lit< tt)).1 e) in (
      record {
        rest = c.in_ok-rest.rest.now;
        begins = h.1.1 ∙ ap (λ l. 35 ∷ 33 ∷ l) (sym h.2);
        no_attribute = λ white more e p. no_bracket (ap (λ l. get_or l 0 0) c.trim_start.ensures.trim ∙ byte_from_attribute _ white more e p);
      },
      c.first_line.result.len,
      subst (λ (l : List ℕ). HasLine l c.first_line.result.len c.first_line.result.next) c.as_bytes.ensures.value c.first_line.ensures,
    )
