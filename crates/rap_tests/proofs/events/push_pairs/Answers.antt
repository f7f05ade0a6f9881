use Rattle.std.proofs.Common.{◌∷◌, [], refl}
use Rattle.rap_base.specs.TokenKind.{IDENT, COMMA}
use Rattle.rap_tests.proofs.KindLists.{All-tested}
use Rattle.rap_tests.proofs.events.push_pairs.Goals as goal

pub push_kinds_in_room-requires : goal.push_kinds_in_room-requires
push_kinds_in_room-requires c =
    All-tested
    (IDENT ∷ COMMA ∷ IDENT ∷ COMMA ∷ IDENT ∷ COMMA ∷ IDENT ∷ COMMA ∷ IDENT ∷ COMMA ∷
    IDENT ∷ COMMA ∷ IDENT ∷ COMMA ∷ IDENT ∷ COMMA ∷ IDENT ∷ COMMA ∷ []) refl
