use Rattle.std.proofs.Common.{◌∷◌, [], refl}
use Rattle.rap_base.specs.TokenKind.{L_ANGLE, EQ, WHITESPACE, IDENT, DOT, FLOAT_NUMBER, SEMICOLON}
use Rattle.rap_tests.proofs.KindLists.{All-tested}
use Rattle.rap_tests.proofs.events.push_comparison.Goals as goal

pub push_kinds_in_room-requires : goal.push_kinds_in_room-requires
push_kinds_in_room-requires c = All-tested (L_ANGLE ∷ EQ ∷ WHITESPACE ∷ IDENT ∷ DOT ∷ FLOAT_NUMBER ∷ SEMICOLON ∷ []) refl
