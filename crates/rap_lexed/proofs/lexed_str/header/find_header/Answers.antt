use Rattle.std.proofs.Common.{ℕ, List, inl, ap, sym}
use Rattle.std.specs.Option.{option_map}
use Rattle.rap_lexed.specs.Header.{pieces}
use Rattle.rap_lexed.proofs.Headers.{script_text, script_ends}
use Rattle.rap_lexed.proofs.lexed_str.header.find_header.Goals as goal

pub returns-in-Ok : goal.returns-in-Ok
returns-in-Ok c =
    let s = c.in-Ok.script in
    let accepted = c.in-Ok.ensures.accepted in
    let same = script_text c.args.text.now s accepted in
    record {
      header = inl (record { script = s; accepted = accepted; is = rw (c.script_header.ensures.shebang, c.script_header.ensures.frontmatter) (ap (λ (t : List ℕ). pieces t (option_map (λ r. r.end) s.shebang) (option_map (λ _. s.content.start) s.frontmatter)) (sym same)) });
      ends = rw (c.script_header.ensures.shebang, c.script_header.ensures.frontmatter) (script_ends c.args.text.now s accepted c.in-Ok.ensures.borders);
    }
