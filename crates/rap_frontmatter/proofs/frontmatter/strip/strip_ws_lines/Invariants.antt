use Rattle.std.proofs.Common.{◌≡◌, length, take, drop, None, chars, encode_utf8_all}
use Rattle.rap_frontmatter.proofs.ScriptBlank.{blank_from}
use Rattle.rap_frontmatter.proofs.frontmatter.strip.strip_ws_lines.Given as goal

abbrev pub invariant-loop-c : goal.invariant-loop-c
invariant-loop-c l =
    record {
      place : l.at ≡ length (encode_utf8_all (take (length l.yielded) (chars l.input)));
      found : blank_from l.at l.end (drop (length l.yielded) (chars l.input)) ≡ blank_from 0 None (chars l.input);
    }
