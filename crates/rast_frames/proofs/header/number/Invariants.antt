use Rattle.std.proofs.Common.{◌≡◌, ◌<◌, length, take}
use Rattle.std.specs.Str.Parse.{AllDigits, digits_value}
use Rattle.rast_frames.specs.declared.header.TheConstants.{MAX_STATED}
use Rattle.rast_frames.proofs.header.number.Given as goal

abbrev pub invariant-digits : goal.invariant-digits
invariant-digits l = record {
  some : 0 < length l.digits;
  digits : AllDigits 10 (take l.byte-index l.digits);
  value : l.number ≡ digits_value 10 (take l.byte-index l.digits);
  small : l.number < MAX_STATED;
}
