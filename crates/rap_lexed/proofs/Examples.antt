-- Texts with their trees, worked out by the definitions alone: the tokens are a lexing of the text, the parser reads
-- these records of them, and the forest over the records, with the trivia put back, is the tree that stands here.
-- Nothing of it comes from the program.
use Rattle.std.proofs.Common.{◌≡◌, ℕ, zero, suc, ◌+◌, ◌<◌, ◌≤◌, ◌==◌, List, [], ◌∷◌, ◌++◌, Bool, true, false, None, length, take, drop, length-append, refl, ap, sym, ◌∙◌, inl, arith, codes, nat_lt, slice_index}
use Rattle.std.specs.Prelude.{⊤}
use Rattle.std.proofs.Math.Seq.{drop-append-add}
use Rattle.std.specs.List.{list_any, list_all}
use Rattle.std.proofs.Math.Bool.{or-true}
use Rattle.std.proofs.lemmas.Bool.{eq-eqb, ltb-true}
use Rattle.std.proofs.lemmas.List.Folds.{list_any-append}
use Rattle.std.specs.Str.{IsAscii}
use Rattle.std.proofs.lemmas.Str.Ascii.{IsAscii-nil}
use Rattle.std.proofs.lemmas.Str.{IsAscii-append, IsCharBoundary-from_ascii, chars-IsAscii}
use Rattle.rap_events.proofs.Truth.{and_left, and_right}
use Rattle.rap_base.specs.NodeKind.{LITERAL, BIN_EXPR, REF_EXPR, PATH_EXPR, PATH, PATH_SEGMENT, NAME_REF}
use Rattle.rap_base.specs.TokenKind.{EOF, ERROR, IDENT, INT_NUMBER, WHITESPACE, PLUS, MINUS, AMP, AMP2, EQ, EQ2}
use Rattle.rap_base.specs.declared.edition.Edition.TheVariants.{Edition2024}
use Rattle.rap_events.specs.Cover.{covers}
use Rattle.rap_events.specs.Forest.{Forest, none, node, leaf, message, one_tree, used}
use Rattle.rap_events.specs.Record.{Record}
use Rattle.rap_lexer.specs.First.{First}
use Rattle.rap_lexer.specs.Lexeme.{plain}
use Rattle.rap_lexer.specs.Run.{next_is}
use Rattle.rap_lexer.specs.declared.lexer.lexeme.Remark.TheVariants.{Nothing}
use Rattle.rap_lexed.specs.Header.{IsHeader}
use Rattle.rap_lexed.specs.Input.{records}
use Rattle.rap_lexed.specs.LexedStr.{IsFirst, IsLexing, joined, start_of, token_at}
use Rattle.rap_lexed.specs.StrForest.{StrForest, str_none, str_node, str_leaf, str_message, str_joined, str_one_tree}
use Rattle.rap_lexed.specs.Token.{Token}
use Rattle.rap_lexed.specs.Trivia.{with_trivia}
use Rattle.rap_lexed.proofs.OpenStrings.{after_open, follows}
use lib.Utf8.{encode}
use Rattle.unicode_ident.proofs.Computing.{unicode_ident}

-- ---- What is shown of a text

-- A lexing of the text without messages, what the parser reads of it, and one tree over all of that, which is this tree
-- once the trivia are put back: one tree whose texts joined are the text.
abbrev Shown : List ℕ → List Token → List Record → Forest → StrForest → Type 0
Shown text ts input f s =
    IsLexing text Edition2024 (record { tokens = ts; errors = [] })
    × (records ts Edition2024 ≡ input)
    × (one_tree f ≡ true)
    × (covers input f ≡ true)
    × (used f ≡ length input)
    × (with_trivia ts f ≡ s)
    × (str_one_tree s ≡ true)
    × (str_joined s ≡ text)

-- ---- Lexings

ascii_cons : (b : ℕ) (bs : List ℕ) → b < 128 → IsAscii bs → (i : ℕ) → slice_index (b ∷ bs) i < 128
ascii_cons b bs h a zero = h
ascii_cons b bs h a (suc i) = a i

ascii : (bs : List ℕ) → list_all (λ b. nat_lt b 128) bs ≡ true → IsAscii bs
ascii [] h = IsAscii-nil
ascii (b ∷ bs) h = ascii_cons b bs (ltb-true b 128 (and_left _ _ h)) (ascii bs (and_right _ _ h))

-- each token is of ASCII characters, and the first of what remains
abbrev Splits : List Token → Type 0
Splits [] = ⊤
Splits (t ∷ ts) = (list_all (λ b. nat_lt b 128) t.text ≡ true) × First Edition2024 (joined (t ∷ ts)) (plain t.kind) (joined ts) × Splits ts

ascii_joined : (ts : List Token) → Splits ts → IsAscii (joined ts)
ascii_joined [] s = IsAscii-nil
ascii_joined (t ∷ ts) s = IsAscii-append t.text (joined ts) (ascii t.text s.0) (ascii_joined ts s.2)

past : (t : Token) (ts : List Token) (i : ℕ) → drop (start_of (t ∷ ts) (suc i)) (joined (t ∷ ts)) ≡ drop (start_of ts i) (joined ts)
past t ts i = ap (λ n. drop n (joined (t ∷ ts))) (length-append t.text (joined (take i ts))) ∙ drop-append-add t.text (joined ts) (start_of ts i)

first : (ts : List Token) (note : Bool) (i : ℕ) → Splits ts → i < length ts → IsFirst Edition2024 note (drop (start_of ts i) (joined ts)) (token_at ts i) (drop (start_of ts (suc i)) (joined ts)) []
first [] note i s h = absurd (omega arith)
first (t ∷ ts) note zero s h =
    rw (past t ts zero, chars-IsAscii (joined (t ∷ ts)) (ascii_joined (t ∷ ts) s), chars-IsAscii (joined ts) (ascii_joined ts s.2)) (Nothing, s.1, refl)
first (t ∷ ts) note (suc i) s h = rw (past t ts i, past t ts (suc i)) (first ts note i s.2 (omega arith))

start_within : (ts : List Token) (i : ℕ) → start_of ts i ≤ length (joined ts)
start_within ts zero = omega arith
start_within [] (suc i) = omega arith
start_within (t ∷ ts) (suc i) = omega (arith, start_within ts i, length-append t.text (joined (take i ts)), length-append t.text (joined ts))

plus_one : (i : ℕ) → i + 1 ≡ suc i
plus_one i = omega arith

no_feed : (xs white rest : List ℕ) → list_any (λ c. c == 10) xs ≡ false → xs ≡ white ++ 10 ∷ rest → ⊥
no_feed xs white rest h e =
    let t : true ≡ false = sym (list_any-append (λ c. c == 10) white (10 ∷ rest) ∙ or-true (list_any (λ c. c == 10) white)) ∙ (ap (list_any (λ c. c == 10)) (sym e) ∙ h) in
    absurd cc

not_first : (c : ℕ) (text rest : List ℕ) → next_is c text ≡ false → text ≡ c ∷ rest → ⊥
not_first c text rest h e = let t : (c == c) ≡ false = ap (next_is c) (sym e) ∙ h in let u : (c == c) ≡ true = eq-eqb c c refl in let z : true ≡ false = sym u ∙ t in absurd cc

-- no line feed, and neither a `#` nor a `-` at its beginning: no script
no_script : (text : List ℕ) → IsAscii text → list_any (λ c. c == 10) text ≡ false → next_is 35 text ≡ false → next_is 45 text ≡ false → IsHeader Edition2024 text []
no_script text ascii feed hash dash = inl (record {
  script = record { text = text; shebang = None; opening = None; info = None; frontmatter = None; close = None; content = record { start = 0; end = length text } };
  accepted = inl (record {
    opening = record {
      shebang = None;
      below = text;
      ends = λ s. not_first 35 text (33 ∷ s.rest) hash s.begins;
      splits = record { prefix = []; whole = refl; size = refl };
      fence = record {
        blank = None;
        n = 0;
        after = text;
        ends = λ n b. no_feed text b.white b.rest feed (sym (chars-IsAscii text ascii) ∙ b.split);
        splits = record { prefix = []; whole = refl; size = refl };
        no_more = λ rest e. not_first 45 text rest dash e;
      };
    };
    none = refl;
    is = refl;
  });
  is = refl;
})

-- the tokens of a text that is no script
lexing : (ts : List Token) → Splits ts → list_any (λ c. c == 10) (joined ts) ≡ false → next_is 35 (joined ts) ≡ false → next_is 45 (joined ts) ≡ false → IsLexing (joined ts) Edition2024 (record { tokens = ts; errors = [] })
lexing ts s feed hash dash = record {
  whole = refl;
  borders = λ i h. IsCharBoundary-from_ascii (joined ts) (start_of ts i) (ascii_joined ts s) (start_within ts i);
  header = [];
  is_header = no_script (joined ts) (ascii_joined ts s) feed hash dash;
  rest = ts;
  parts = refl;
  silent = λ i h. refl;
  each = λ i l h. (after_open (token_at ts) i, follows ts i, rw (plus_one i) (first ts _ i s h));
  ordered = tt;
}

-- ---- Tokens, records, and parts of trees

abbrev token : ℕ → List ℕ → Token
token kind text = record { kind = kind; text = text }

abbrev space : Token
space = token WHITESPACE (codes " ")

-- a token of this kind that touches the next one, and one that does not
abbrev joint : ℕ → Record
joint kind = record { kind = kind; contextual = EOF; edition = Edition2024; joint = true }

abbrev apart : ℕ → Record
apart kind = record { kind = kind; contextual = EOF; edition = Edition2024; joint = false }

abbrev name : Record
name = record { kind = IDENT; contextual = IDENT; edition = Edition2024; joint = false }

-- a number, and a path of one name, after a forest
abbrev number : Forest → Forest
number f = node f LITERAL (leaf none INT_NUMBER 1)

abbrev path : Forest → Forest
path f = node f PATH_EXPR (node none PATH (node none PATH_SEGMENT (node none NAME_REF (leaf none IDENT 1))))

-- the same with their texts
abbrev str_number : StrForest → List ℕ → StrForest
str_number f text = str_node f LITERAL (str_leaf str_none INT_NUMBER text)

abbrev str_path : StrForest → List ℕ → StrForest
str_path f text = str_node f PATH_EXPR (str_node str_none PATH (str_node str_none PATH_SEGMENT (str_node str_none NAME_REF (str_leaf str_none IDENT text))))

abbrev gap : StrForest → StrForest
gap f = str_leaf f WHITESPACE (codes " ")

-- ---- The texts

-- the empty text: an `ERROR` without tokens, and at 0 `expected expression`
abbrev nothing_tokens : List Token
nothing_tokens = []

nothing : Shown (codes "") nothing_tokens
    ([])
    (node none ERROR (message none (codes "expected expression")))
    (str_node str_none ERROR (str_message str_none (codes "expected expression") 0))
nothing =
    (lexing nothing_tokens tt refl refl refl, refl, refl, refl, refl, refl, refl, refl)

-- `2 3`: both in one `ERROR`, and no message
abbrev two_numbers_tokens : List Token
two_numbers_tokens = token INT_NUMBER (codes "2") ∷ space ∷ token INT_NUMBER (codes "3") ∷ []

two_numbers : Shown (codes "2 3") two_numbers_tokens
    (apart INT_NUMBER ∷ apart INT_NUMBER ∷ [])
    (node none ERROR (leaf (number none) INT_NUMBER 1))
    (str_node str_none ERROR (str_leaf (gap (str_number str_none (codes "2"))) INT_NUMBER (codes "3")))
unfolding unicode_ident
two_numbers =
    (lexing two_numbers_tokens (refl, (refl, refl), (refl, (refl, refl), (refl, (refl, refl), tt))) refl refl refl, refl, refl, refl, refl, refl, refl, refl)

-- `2 +`: an `ERROR` without tokens on the right, and at 3 `expected expression`
abbrev no_operand_tokens : List Token
no_operand_tokens = token INT_NUMBER (codes "2") ∷ space ∷ token PLUS (codes "+") ∷ []

no_operand : Shown (codes "2 +") no_operand_tokens
    (apart INT_NUMBER ∷ apart PLUS ∷ [])
    (node none BIN_EXPR (node (leaf (number none) PLUS 1) ERROR (message none (codes "expected expression"))))
    (str_node str_none BIN_EXPR (str_node (str_leaf (gap (str_number str_none (codes "2"))) PLUS (codes "+")) ERROR (str_message str_none (codes "expected expression") 3)))
unfolding unicode_ident
no_operand =
    (lexing no_operand_tokens (refl, (refl, refl), (refl, (refl, refl), (refl, (refl, refl), tt))) refl refl refl, refl, refl, refl, refl, refl, refl, refl)

-- `2 + ` with a space at its end: that stands before the `ERROR`, and the message at 4
abbrev no_operand_after_space_tokens : List Token
no_operand_after_space_tokens = token INT_NUMBER (codes "2") ∷ space ∷ token PLUS (codes "+") ∷ space ∷ []

no_operand_after_space : Shown (codes "2 + ") no_operand_after_space_tokens
    (apart INT_NUMBER ∷ apart PLUS ∷ [])
    (node none BIN_EXPR (node (leaf (number none) PLUS 1) ERROR (message none (codes "expected expression"))))
    (str_node str_none BIN_EXPR (str_node (gap (str_leaf (gap (str_number str_none (codes "2"))) PLUS (codes "+"))) ERROR (str_message str_none (codes "expected expression") 4)))
unfolding unicode_ident
no_operand_after_space =
    (lexing no_operand_after_space_tokens (refl, (refl, refl), (refl, (refl, refl), (refl, (refl, refl), (refl, (refl, refl), tt)))) refl refl refl, refl, refl, refl, refl, refl, refl, refl)

-- `2 + 2 == 5`: the sum on the left of `==`, which is one leaf over two tokens
abbrev sum_tokens : List Token
sum_tokens = token INT_NUMBER (codes "2") ∷ space ∷ token PLUS (codes "+") ∷ space ∷ token INT_NUMBER (codes "2") ∷ space ∷ token EQ (codes "=") ∷ token EQ (codes "=") ∷ space ∷ token INT_NUMBER (codes "5") ∷ []

sum : Shown (codes "2 + 2 == 5") sum_tokens
    (apart INT_NUMBER ∷ apart PLUS ∷ apart INT_NUMBER ∷ joint EQ ∷ apart EQ ∷ apart INT_NUMBER ∷ [])
    (node none BIN_EXPR (number (leaf (node none BIN_EXPR (number (leaf (number none) PLUS 1))) EQ2 2)))
    (str_node str_none BIN_EXPR (str_number (gap (str_leaf (gap (str_node str_none BIN_EXPR (str_number (gap (str_leaf (gap (str_number str_none (codes "2"))) PLUS (codes "+"))) (codes "2")))) EQ2 (codes "=="))) (codes "5")))
unfolding unicode_ident
sum =
    (lexing sum_tokens (refl, (refl, refl), (refl, (refl, refl), (refl, (refl, refl), (refl, (refl, refl), (refl, (refl, refl), (refl, (refl, refl), (refl, (refl, refl), (refl, (refl, refl), (refl, (refl, refl), (refl, (refl, refl), tt)))))))))) refl refl refl, refl, refl, refl, refl, refl, refl, refl)

-- ` x ` between two spaces: both stand inside the root
abbrev spaces_around_tokens : List Token
spaces_around_tokens = space ∷ token IDENT (codes "x") ∷ space ∷ []

spaces_around : Shown (codes " x ") spaces_around_tokens
    (name ∷ [])
    (node none PATH_EXPR (node none PATH (node none PATH_SEGMENT (node none NAME_REF (leaf none IDENT 1)))))
    (str_node str_none PATH_EXPR (gap (str_node (gap str_none) PATH (str_node str_none PATH_SEGMENT (str_node str_none NAME_REF (str_leaf str_none IDENT (codes "x")))))))
unfolding unicode_ident encode
spaces_around =
    (lexing spaces_around_tokens (refl, (refl, refl), (refl, (refl, refl), (refl, (refl, refl), tt))) refl refl refl, refl, refl, refl, refl, refl, refl, refl)

-- `a & &b`: the second `&` makes a reference
abbrev and_of_reference_tokens : List Token
and_of_reference_tokens = token IDENT (codes "a") ∷ space ∷ token AMP (codes "&") ∷ space ∷ token AMP (codes "&") ∷ token IDENT (codes "b") ∷ []

and_of_reference : Shown (codes "a & &b") and_of_reference_tokens
    (name ∷ apart AMP ∷ apart AMP ∷ name ∷ [])
    (node none BIN_EXPR (node (leaf (path none) AMP 1) REF_EXPR (path (leaf none AMP 1))))
    (str_node str_none BIN_EXPR (str_node (gap (str_leaf (gap (str_path str_none (codes "a"))) AMP (codes "&"))) REF_EXPR (str_path (str_leaf str_none AMP (codes "&")) (codes "b"))))
unfolding unicode_ident encode
and_of_reference =
    (lexing and_of_reference_tokens (refl, (refl, refl), (refl, (refl, refl), (refl, (refl, refl), (refl, (refl, refl), (refl, (refl, refl), (refl, (refl, refl), tt)))))) refl refl refl, refl, refl, refl, refl, refl, refl, refl)

-- `a &&b`: the two `&` touch, and are one leaf
abbrev lazy_and_tokens : List Token
lazy_and_tokens = token IDENT (codes "a") ∷ space ∷ token AMP (codes "&") ∷ token AMP (codes "&") ∷ token IDENT (codes "b") ∷ []

lazy_and : Shown (codes "a &&b") lazy_and_tokens
    (name ∷ joint AMP ∷ apart AMP ∷ name ∷ [])
    (node none BIN_EXPR (path (leaf (path none) AMP2 2)))
    (str_node str_none BIN_EXPR (str_path (str_leaf (gap (str_path str_none (codes "a"))) AMP2 (codes "&&")) (codes "b")))
unfolding unicode_ident encode
lazy_and =
    (lexing lazy_and_tokens (refl, (refl, refl), (refl, (refl, refl), (refl, (refl, refl), (refl, (refl, refl), (refl, (refl, refl), tt))))) refl refl refl, refl, refl, refl, refl, refl, refl, refl)

-- `a - b - c`: the first difference on the left
abbrev differences_tokens : List Token
differences_tokens = token IDENT (codes "a") ∷ space ∷ token MINUS (codes "-") ∷ space ∷ token IDENT (codes "b") ∷ space ∷ token MINUS (codes "-") ∷ space ∷ token IDENT (codes "c") ∷ []

differences : Shown (codes "a - b - c") differences_tokens
    (name ∷ apart MINUS ∷ name ∷ apart MINUS ∷ name ∷ [])
    (node none BIN_EXPR (path (leaf (node none BIN_EXPR (path (leaf (path none) MINUS 1))) MINUS 1)))
    (str_node str_none BIN_EXPR (str_path (gap (str_leaf (gap (str_node str_none BIN_EXPR (str_path (gap (str_leaf (gap (str_path str_none (codes "a"))) MINUS (codes "-"))) (codes "b")))) MINUS (codes "-"))) (codes "c")))
unfolding unicode_ident encode
differences =
    (lexing differences_tokens (refl, (refl, refl), (refl, (refl, refl), (refl, (refl, refl), (refl, (refl, refl), (refl, (refl, refl), (refl, (refl, refl), (refl, (refl, refl), (refl, (refl, refl), (refl, (refl, refl), tt))))))))) refl refl refl, refl, refl, refl, refl, refl, refl, refl)

-- `a = b = c`: the second assignment on the right
abbrev assignments_tokens : List Token
assignments_tokens = token IDENT (codes "a") ∷ space ∷ token EQ (codes "=") ∷ space ∷ token IDENT (codes "b") ∷ space ∷ token EQ (codes "=") ∷ space ∷ token IDENT (codes "c") ∷ []

assignments : Shown (codes "a = b = c") assignments_tokens
    (name ∷ apart EQ ∷ name ∷ apart EQ ∷ name ∷ [])
    (node none BIN_EXPR (node (leaf (path none) EQ 1) BIN_EXPR (path (leaf (path none) EQ 1))))
    (str_node str_none BIN_EXPR (str_node (gap (str_leaf (gap (str_path str_none (codes "a"))) EQ (codes "="))) BIN_EXPR (str_path (gap (str_leaf (gap (str_path str_none (codes "b"))) EQ (codes "="))) (codes "c"))))
unfolding unicode_ident encode
assignments =
    (lexing assignments_tokens (refl, (refl, refl), (refl, (refl, refl), (refl, (refl, refl), (refl, (refl, refl), (refl, (refl, refl), (refl, (refl, refl), (refl, (refl, refl), (refl, (refl, refl), (refl, (refl, refl), tt))))))))) refl refl refl, refl, refl, refl, refl, refl, refl, refl)
