-- Written by crates/rap_base/kinds from kinds.txt beside it: an edit here is lost.
-- The kinds of tokens, by their numbers.
use Rattle.std.specs.Prelude.{ℕ}

abbrev pub EOF : ℕ
EOF = 0

abbrev pub SEMICOLON : ℕ
SEMICOLON = 1

abbrev pub COMMA : ℕ
COMMA = 2

abbrev pub L_PAREN : ℕ
L_PAREN = 3

abbrev pub R_PAREN : ℕ
R_PAREN = 4

abbrev pub L_CURLY : ℕ
L_CURLY = 5

abbrev pub R_CURLY : ℕ
R_CURLY = 6

abbrev pub L_BRACK : ℕ
L_BRACK = 7

abbrev pub R_BRACK : ℕ
R_BRACK = 8

abbrev pub L_ANGLE : ℕ
L_ANGLE = 9

abbrev pub R_ANGLE : ℕ
R_ANGLE = 10

abbrev pub AT : ℕ
AT = 11

abbrev pub POUND : ℕ
POUND = 12

abbrev pub TILDE : ℕ
TILDE = 13

abbrev pub QUESTION : ℕ
QUESTION = 14

abbrev pub DOLLAR : ℕ
DOLLAR = 15

abbrev pub AMP : ℕ
AMP = 16

abbrev pub PIPE : ℕ
PIPE = 17

abbrev pub PLUS : ℕ
PLUS = 18

abbrev pub STAR : ℕ
STAR = 19

abbrev pub SLASH : ℕ
SLASH = 20

abbrev pub CARET : ℕ
CARET = 21

abbrev pub PERCENT : ℕ
PERCENT = 22

abbrev pub UNDERSCORE : ℕ
UNDERSCORE = 23

abbrev pub DOT : ℕ
DOT = 24

abbrev pub COLON : ℕ
COLON = 25

abbrev pub EQ : ℕ
EQ = 26

abbrev pub BANG : ℕ
BANG = 27

abbrev pub MINUS : ℕ
MINUS = 28

abbrev pub DOT2 : ℕ
DOT2 = 29

abbrev pub DOT3 : ℕ
DOT3 = 30

abbrev pub DOT2EQ : ℕ
DOT2EQ = 31

abbrev pub COLON2 : ℕ
COLON2 = 32

abbrev pub EQ2 : ℕ
EQ2 = 33

abbrev pub FAT_ARROW : ℕ
FAT_ARROW = 34

abbrev pub NEQ : ℕ
NEQ = 35

abbrev pub THIN_ARROW : ℕ
THIN_ARROW = 36

abbrev pub LTEQ : ℕ
LTEQ = 37

abbrev pub GTEQ : ℕ
GTEQ = 38

abbrev pub PLUSEQ : ℕ
PLUSEQ = 39

abbrev pub MINUSEQ : ℕ
MINUSEQ = 40

abbrev pub PIPEEQ : ℕ
PIPEEQ = 41

abbrev pub AMPEQ : ℕ
AMPEQ = 42

abbrev pub CARETEQ : ℕ
CARETEQ = 43

abbrev pub SLASHEQ : ℕ
SLASHEQ = 44

abbrev pub STAREQ : ℕ
STAREQ = 45

abbrev pub PERCENTEQ : ℕ
PERCENTEQ = 46

abbrev pub AMP2 : ℕ
AMP2 = 47

abbrev pub PIPE2 : ℕ
PIPE2 = 48

abbrev pub SHL : ℕ
SHL = 49

abbrev pub SHR : ℕ
SHR = 50

abbrev pub SHLEQ : ℕ
SHLEQ = 51

abbrev pub SHREQ : ℕ
SHREQ = 52

abbrev pub AS_KW : ℕ
AS_KW = 53

abbrev pub BREAK_KW : ℕ
BREAK_KW = 54

abbrev pub CONST_KW : ℕ
CONST_KW = 55

abbrev pub CONTINUE_KW : ℕ
CONTINUE_KW = 56

abbrev pub CRATE_KW : ℕ
CRATE_KW = 57

abbrev pub ELSE_KW : ℕ
ELSE_KW = 58

abbrev pub ENUM_KW : ℕ
ENUM_KW = 59

abbrev pub EXTERN_KW : ℕ
EXTERN_KW = 60

abbrev pub FALSE_KW : ℕ
FALSE_KW = 61

abbrev pub FN_KW : ℕ
FN_KW = 62

abbrev pub FOR_KW : ℕ
FOR_KW = 63

abbrev pub IF_KW : ℕ
IF_KW = 64

abbrev pub IMPL_KW : ℕ
IMPL_KW = 65

abbrev pub IN_KW : ℕ
IN_KW = 66

abbrev pub LET_KW : ℕ
LET_KW = 67

abbrev pub LOOP_KW : ℕ
LOOP_KW = 68

abbrev pub MATCH_KW : ℕ
MATCH_KW = 69

abbrev pub MOD_KW : ℕ
MOD_KW = 70

abbrev pub MOVE_KW : ℕ
MOVE_KW = 71

abbrev pub MUT_KW : ℕ
MUT_KW = 72

abbrev pub PUB_KW : ℕ
PUB_KW = 73

abbrev pub REF_KW : ℕ
REF_KW = 74

abbrev pub RETURN_KW : ℕ
RETURN_KW = 75

abbrev pub SELF_KW : ℕ
SELF_KW = 76

abbrev pub SELF_TYPE_KW : ℕ
SELF_TYPE_KW = 77

abbrev pub STATIC_KW : ℕ
STATIC_KW = 78

abbrev pub STRUCT_KW : ℕ
STRUCT_KW = 79

abbrev pub SUPER_KW : ℕ
SUPER_KW = 80

abbrev pub TRAIT_KW : ℕ
TRAIT_KW = 81

abbrev pub TRUE_KW : ℕ
TRUE_KW = 82

abbrev pub TYPE_KW : ℕ
TYPE_KW = 83

abbrev pub UNSAFE_KW : ℕ
UNSAFE_KW = 84

abbrev pub USE_KW : ℕ
USE_KW = 85

abbrev pub WHERE_KW : ℕ
WHERE_KW = 86

abbrev pub WHILE_KW : ℕ
WHILE_KW = 87

abbrev pub ABSTRACT_KW : ℕ
ABSTRACT_KW = 88

abbrev pub BECOME_KW : ℕ
BECOME_KW = 89

abbrev pub BOX_KW : ℕ
BOX_KW = 90

abbrev pub DO_KW : ℕ
DO_KW = 91

abbrev pub FINAL_KW : ℕ
FINAL_KW = 92

abbrev pub MACRO_KW : ℕ
MACRO_KW = 93

abbrev pub OVERRIDE_KW : ℕ
OVERRIDE_KW = 94

abbrev pub PRIV_KW : ℕ
PRIV_KW = 95

abbrev pub TYPEOF_KW : ℕ
TYPEOF_KW = 96

abbrev pub UNSIZED_KW : ℕ
UNSIZED_KW = 97

abbrev pub VIRTUAL_KW : ℕ
VIRTUAL_KW = 98

abbrev pub YIELD_KW : ℕ
YIELD_KW = 99

abbrev pub ASYNC_KW : ℕ
ASYNC_KW = 100

abbrev pub AWAIT_KW : ℕ
AWAIT_KW = 101

abbrev pub DYN_KW : ℕ
DYN_KW = 102

abbrev pub TRY_KW : ℕ
TRY_KW = 103

abbrev pub GEN_KW : ℕ
GEN_KW = 104

abbrev pub ASM_KW : ℕ
ASM_KW = 105

abbrev pub ATT_SYNTAX_KW : ℕ
ATT_SYNTAX_KW = 106

abbrev pub AUTO_KW : ℕ
AUTO_KW = 107

abbrev pub BIKESHED_KW : ℕ
BIKESHED_KW = 108

abbrev pub BUILTIN_KW : ℕ
BUILTIN_KW = 109

abbrev pub CFG_KW : ℕ
CFG_KW = 110

abbrev pub CFG_ATTR_KW : ℕ
CFG_ATTR_KW = 111

abbrev pub CLOBBER_ABI_KW : ℕ
CLOBBER_ABI_KW = 112

abbrev pub DEFAULT_KW : ℕ
DEFAULT_KW = 113

abbrev pub DEREF_KW : ℕ
DEREF_KW = 114

abbrev pub FORMAT_ARGS_KW : ℕ
FORMAT_ARGS_KW = 115

abbrev pub GLOBAL_ASM_KW : ℕ
GLOBAL_ASM_KW = 116

abbrev pub INCLUDE_BYTES_KW : ℕ
INCLUDE_BYTES_KW = 117

abbrev pub INLATEOUT_KW : ℕ
INLATEOUT_KW = 118

abbrev pub INOUT_KW : ℕ
INOUT_KW = 119

abbrev pub IS_KW : ℕ
IS_KW = 120

abbrev pub LABEL_KW : ℕ
LABEL_KW = 121

abbrev pub LATEOUT_KW : ℕ
LATEOUT_KW = 122

abbrev pub MACRO_RULES_KW : ℕ
MACRO_RULES_KW = 123

abbrev pub MAY_UNWIND_KW : ℕ
MAY_UNWIND_KW = 124

abbrev pub NAKED_ASM_KW : ℕ
NAKED_ASM_KW = 125

abbrev pub NOMEM_KW : ℕ
NOMEM_KW = 126

abbrev pub NORETURN_KW : ℕ
NORETURN_KW = 127

abbrev pub NOSTACK_KW : ℕ
NOSTACK_KW = 128

abbrev pub OFFSET_OF_KW : ℕ
OFFSET_OF_KW = 129

abbrev pub OPTIONS_KW : ℕ
OPTIONS_KW = 130

abbrev pub OUT_KW : ℕ
OUT_KW = 131

abbrev pub PATTERN_TYPE_KW : ℕ
PATTERN_TYPE_KW = 132

abbrev pub PRESERVES_FLAGS_KW : ℕ
PRESERVES_FLAGS_KW = 133

abbrev pub PURE_KW : ℕ
PURE_KW = 134

abbrev pub RAW_KW : ℕ
RAW_KW = 135

abbrev pub READONLY_KW : ℕ
READONLY_KW = 136

abbrev pub SAFE_KW : ℕ
SAFE_KW = 137

abbrev pub SYM_KW : ℕ
SYM_KW = 138

abbrev pub UNION_KW : ℕ
UNION_KW = 139

abbrev pub YEET_KW : ℕ
YEET_KW = 140

abbrev pub INT_NUMBER : ℕ
INT_NUMBER = 141

abbrev pub FLOAT_NUMBER : ℕ
FLOAT_NUMBER = 142

abbrev pub CHAR : ℕ
CHAR = 143

abbrev pub BYTE : ℕ
BYTE = 144

abbrev pub STRING : ℕ
STRING = 145

abbrev pub BYTE_STRING : ℕ
BYTE_STRING = 146

abbrev pub C_STRING : ℕ
C_STRING = 147

abbrev pub IDENT : ℕ
IDENT = 148

abbrev pub LIFETIME_IDENT : ℕ
LIFETIME_IDENT = 149

abbrev pub ERROR : ℕ
ERROR = 150

abbrev pub WHITESPACE : ℕ
WHITESPACE = 151

abbrev pub COMMENT : ℕ
COMMENT = 152

abbrev pub INNER_DOC_COMMENT : ℕ
INNER_DOC_COMMENT = 153

abbrev pub OUTER_DOC_COMMENT : ℕ
OUTER_DOC_COMMENT = 154

abbrev pub FRONTMATTER : ℕ
FRONTMATTER = 155

abbrev pub SHEBANG : ℕ
SHEBANG = 156
