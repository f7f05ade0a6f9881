use Rattle.std.proofs.Common.{◌≡◌, length}
use denote.Text.{Utf8}
use denote.Shadow.{shadow}
use Rattle.rap_lexer.specs.Class.{is_in}
use Rattle.rap_lexer.specs.Run.{after_run}
use Rattle.rap_lexer.specs.declared.lexer.run.Class.TheVariants.{Hash}
use Rattle.rap_literals.proofs.suffixes.after_hashes.Given as goal

-- each rest is text, and ends where the text does
abbrev pub invariant-hashes : goal.invariant-hashes
invariant-hashes l = shadow (Utf8 l.rest) × (after_run (is_in Hash) l.rest ≡ after_run (is_in Hash) l.fn.text)

abbrev pub decreases-hashes : goal.decreases-hashes
decreases-hashes l = length l.rest
