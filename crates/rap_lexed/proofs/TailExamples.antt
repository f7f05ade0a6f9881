-- Attached tails and a tree with one, worked out by the definitions alone.
use Rattle.std.proofs.Common.{◌≡◌, refl, ℕ, List, [], ◌∷◌, ◌++◌, codes}
use Rattle.rap_base.specs.TokenKind.{COMMENT, IDENT, SEMICOLON, WHITESPACE}
use Rattle.rap_base.specs.NodeKind.{EXPR_STMT, FN, SOURCE_FILE, USE}
use Rattle.rap_events.specs.Forest.{Forest, none, node, leaf}
use Rattle.rap_lexed.specs.Attached.{attached_tail, before_tail}
use Rattle.rap_lexed.specs.StrForest.{str_none, str_node, str_leaf}
use Rattle.rap_lexed.specs.Token.{Token}
use Rattle.rap_lexed.specs.Trivia.{with_trivia}

abbrev comment : List ℕ → Token
comment text = record { kind = COMMENT; text = text }

-- white space of a line feed, of two, and of a blank with a line feed on either side
abbrev line_end : Token
line_end = record { kind = WHITESPACE; text = 0xa ∷ [] }

abbrev blank_line : Token
blank_line = record { kind = WHITESPACE; text = 0xa ∷ 0xa ∷ [] }

abbrev line_of_blanks : Token
line_of_blanks = record { kind = WHITESPACE; text = 0xa ∷ codes " " ++ 0xa ∷ [] }

abbrev a : Token
a = comment (codes "// a")

abbrev b : Token
b = comment (codes "/* b */")

-- without a blank line the tail begins at the farthest comment
all-comments : attached_tail FN (line_end ∷ a ∷ line_end ∷ b ∷ line_of_blanks ∷ []) ≡ a ∷ line_end ∷ b ∷ line_of_blanks ∷ []
all-comments = refl

-- a blank line ends it
below-blank-line : attached_tail FN (a ∷ blank_line ∷ line_end ∷ b ∷ line_end ∷ []) ≡ b ∷ line_end ∷ []
below-blank-line = refl

above-blank-line : before_tail FN (a ∷ blank_line ∷ line_end ∷ b ∷ line_end ∷ []) ≡ a ∷ blank_line ∷ line_end ∷ []
above-blank-line = refl

right-below-blank-line : attached_tail FN (a ∷ blank_line ∷ []) ≡ []
right-below-blank-line = refl

-- but not one right after `/**/`; after `/***/` it does
past-blank-line : attached_tail FN (a ∷ line_end ∷ comment (codes "/**/") ∷ blank_line ∷ []) ≡ a ∷ line_end ∷ comment (codes "/**/") ∷ blank_line ∷ []
past-blank-line = refl

not-past-blank-line : attached_tail FN (comment (codes "/***/") ∷ blank_line ∷ b ∷ []) ≡ b ∷ []
not-past-blank-line = refl

-- white space alone is no tail, and other nodes have none
no-comment : attached_tail FN (line_end ∷ []) ≡ []
no-comment = refl

no-item : attached_tail EXPR_STMT (a ∷ line_end ∷ []) ≡ []
no-item = refl

-- a file of two nodes that are a name and a semicolon, the second one with a tail
abbrev named : Forest → Forest
named before = node before USE (leaf (leaf none IDENT 1) SEMICOLON 1)

abbrev x : Token
x = record { kind = IDENT; text = codes "x" }

abbrev end : Token
end = record { kind = SEMICOLON; text = codes ";" }

in-its-node :
    with_trivia (x ∷ end ∷ a ∷ blank_line ∷ b ∷ x ∷ line_end ∷ end ∷ line_end ∷ []) (node none SOURCE_FILE (named (named none)))
    ≡ str_node str_none SOURCE_FILE
    (str_leaf
    (str_node
    (str_leaf (str_leaf (str_node str_none USE (str_leaf (str_leaf str_none IDENT (codes "x")) SEMICOLON (codes ";"))) COMMENT (codes "// a")) WHITESPACE (0xa ∷ 0xa ∷ []))
    USE
    (str_leaf (str_leaf (str_leaf (str_leaf str_none COMMENT (codes "/* b */")) IDENT (codes "x")) WHITESPACE (0xa ∷ [])) SEMICOLON (codes ";")))
    WHITESPACE (0xa ∷ []))
in-its-node = refl
