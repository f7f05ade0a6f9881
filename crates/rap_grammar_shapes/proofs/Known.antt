-- Whether it is known what a script appends, and whether that may stand under a node of a kind.
use Rattle.std.specs.Prelude.{◌==◌, ◌&&◌, not, ℕ, Bool, true, false, [], ◌∷◌}
use Rattle.rap_base.specs.TokenKind.{ERROR}
use Rattle.rap_grammar_scripts.specs.Script.{Script}
use Rattle.rap_grammar_scripts.specs.declared.rule.Rule.{Rule}
use Rattle.rap_grammar_shapes.proofs.Content.{nothing, is_settled}
use Rattle.rap_grammar_shapes.proofs.Ends.{Contents, astray, contents, Ends, may_close, ends}

-- Whether all ends of a script are known, it leaves the open nodes as they were, and no ERROR is owed a message.
abbrev pub is_right : Contents → Bool
is_right astray = false
is_right (contents a []) = is_settled a
is_right (contents a (b ∷ os)) = false

abbrev pub all_right : Ends → Bool
all_right [] = true
all_right (e ∷ l) = is_right e.2 && all_right l

abbrev pub knows : Script Rule → Bool
knows s = all_right (ends s [] (contents nothing []))

-- Whether, besides, all that it has appended may stand under a node of a kind.
abbrev pub may_stand : ℕ → Contents → Bool
may_stand kind astray = false
may_stand kind (contents a []) = may_close kind a
may_stand kind (contents a (b ∷ os)) = false

abbrev pub all_stand : ℕ → Ends → Bool
all_stand kind [] = true
all_stand kind (e ∷ l) = may_stand kind e.2 && all_stand kind l

abbrev pub stands_under : ℕ → Script Rule → Bool
stands_under kind s = not (kind == ERROR) && all_stand kind (ends s [] (contents nothing []))
