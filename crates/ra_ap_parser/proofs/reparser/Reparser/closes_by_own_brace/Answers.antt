use Rattle.std.proofs.Common.{refl}
use Rattle.std.proofs.lemmas.Bool.{ne_eqb}
use Rattle.rap_base.specs.TokenKind.{R_CURLY}
use Rattle.ra_ap_parser.proofs.reparser.Reparser.closes_by_own_brace.Goals as goal

pub returns : goal.returns
returns c = record {
  list = λ before inner kind width. refl;
  block = λ before label inner width. refl;
  taken = λ before inner some kind width. refl;
  inner = λ before label some more kind width. refl;
  behind = λ before inner kind width text. refl;
  missing = λ before inner kind other width is_other. ne_eqb other R_CURLY is_other;
}
