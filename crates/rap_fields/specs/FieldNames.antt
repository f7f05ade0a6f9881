-- Written by crates/rap_base/fields from fields.txt beside it and the shapes of nodes: an edit here is lost.
-- The numbers of all fields, and their names in the order of the numbers.
use Rattle.std.specs.Prelude.{ℕ, List, [], ◌∷◌, codes, map}

abbrev pub ABI : ℕ
ABI = 1

abbrev pub AMP_TOKEN : ℕ
AMP_TOKEN = 2

abbrev pub ARG_LIST : ℕ
ARG_LIST = 3

abbrev pub ARGS : ℕ
ARGS = 4

abbrev pub ARMS : ℕ
ARMS = 5

abbrev pub AS_TOKEN : ℕ
AS_TOKEN = 6

abbrev pub ASM_DIR_SPEC : ℕ
ASM_DIR_SPEC = 7

abbrev pub ASM_OPERAND : ℕ
ASM_OPERAND = 8

abbrev pub ASM_OPERAND_EXPR : ℕ
ASM_OPERAND_EXPR = 9

abbrev pub ASM_OPTIONS : ℕ
ASM_OPTIONS = 10

abbrev pub ASM_PIECES : ℕ
ASM_PIECES = 11

abbrev pub ASM_REG_SPEC : ℕ
ASM_REG_SPEC = 12

abbrev pub ASM_TOKEN : ℕ
ASM_TOKEN = 13

abbrev pub ASSOC_ITEM_LIST : ℕ
ASSOC_ITEM_LIST = 14

abbrev pub ASSOC_ITEMS : ℕ
ASSOC_ITEMS = 15

abbrev pub ASYNC_TOKEN : ℕ
ASYNC_TOKEN = 16

abbrev pub AT_TOKEN : ℕ
AT_TOKEN = 17

abbrev pub ATT_SYNTAX_TOKEN : ℕ
ATT_SYNTAX_TOKEN = 18

abbrev pub ATTRS : ℕ
ATTRS = 19

abbrev pub AUTO_TOKEN : ℕ
AUTO_TOKEN = 20

abbrev pub AWAIT_TOKEN : ℕ
AWAIT_TOKEN = 21

abbrev pub BASE : ℕ
BASE = 22

abbrev pub BECOME_TOKEN : ℕ
BECOME_TOKEN = 23

abbrev pub BIKESHED_TOKEN : ℕ
BIKESHED_TOKEN = 24

abbrev pub BLOCK_EXPR : ℕ
BLOCK_EXPR = 25

abbrev pub BODY : ℕ
BODY = 26

abbrev pub BOUNDS : ℕ
BOUNDS = 27

abbrev pub BOX_TOKEN : ℕ
BOX_TOKEN = 28

abbrev pub BREAK_TOKEN : ℕ
BREAK_TOKEN = 29

abbrev pub BUILTIN_TOKEN : ℕ
BUILTIN_TOKEN = 30

abbrev pub CFG_ATTR_TOKEN : ℕ
CFG_ATTR_TOKEN = 31

abbrev pub CFG_PREDICATE : ℕ
CFG_PREDICATE = 32

abbrev pub CFG_PREDICATES : ℕ
CFG_PREDICATES = 33

abbrev pub CFG_TOKEN : ℕ
CFG_TOKEN = 34

abbrev pub CLOBBER_ABI_TOKEN : ℕ
CLOBBER_ABI_TOKEN = 35

abbrev pub COLON_TOKEN : ℕ
COLON_TOKEN = 36

abbrev pub COLONCOLON_TOKEN : ℕ
COLONCOLON_TOKEN = 37

abbrev pub COMMA_TOKEN : ℕ
COMMA_TOKEN = 38

abbrev pub CONDITION : ℕ
CONDITION = 39

abbrev pub CONST_ARG : ℕ
CONST_ARG = 40

abbrev pub CONST_TOKEN : ℕ
CONST_TOKEN = 41

abbrev pub CONTINUE_TOKEN : ℕ
CONTINUE_TOKEN = 42

abbrev pub CRATE_TOKEN : ℕ
CRATE_TOKEN = 43

abbrev pub DEFAULT_TOKEN : ℕ
DEFAULT_TOKEN = 44

abbrev pub DEFAULT_TYPE : ℕ
DEFAULT_TYPE = 45

abbrev pub DEFAULT_VAL : ℕ
DEFAULT_VAL = 46

abbrev pub DEREF_TOKEN : ℕ
DEREF_TOKEN = 47

abbrev pub DO_TOKEN : ℕ
DO_TOKEN = 48

abbrev pub DOC_COMMENTS : ℕ
DOC_COMMENTS = 49

abbrev pub DOT_TOKEN : ℕ
DOT_TOKEN = 50

abbrev pub DOTDOT_TOKEN : ℕ
DOTDOT_TOKEN = 51

abbrev pub DOTDOTDOT_TOKEN : ℕ
DOTDOTDOT_TOKEN = 52

abbrev pub DYN_TOKEN : ℕ
DYN_TOKEN = 53

abbrev pub ELSE_BRANCH : ℕ
ELSE_BRANCH = 54

abbrev pub ELSE_TOKEN : ℕ
ELSE_TOKEN = 55

abbrev pub END : ℕ
END = 56

abbrev pub ENUM_TOKEN : ℕ
ENUM_TOKEN = 57

abbrev pub EQ_TOKEN : ℕ
EQ_TOKEN = 58

abbrev pub EXCL_TOKEN : ℕ
EXCL_TOKEN = 59

abbrev pub EXPR : ℕ
EXPR = 60

abbrev pub EXPRS : ℕ
EXPRS = 61

abbrev pub EXTERN_ITEM_LIST : ℕ
EXTERN_ITEM_LIST = 62

abbrev pub EXTERN_ITEMS : ℕ
EXTERN_ITEMS = 63

abbrev pub EXTERN_TOKEN : ℕ
EXTERN_TOKEN = 64

abbrev pub FALSE_TOKEN : ℕ
FALSE_TOKEN = 65

abbrev pub FAT_ARROW_TOKEN : ℕ
FAT_ARROW_TOKEN = 66

abbrev pub FIELD_LIST : ℕ
FIELD_LIST = 67

abbrev pub FIELDS : ℕ
FIELDS = 68

abbrev pub FN_TOKEN : ℕ
FN_TOKEN = 69

abbrev pub FOR_BINDER : ℕ
FOR_BINDER = 70

abbrev pub FOR_TOKEN : ℕ
FOR_TOKEN = 71

abbrev pub FORMAT_ARGS_TOKEN : ℕ
FORMAT_ARGS_TOKEN = 72

abbrev pub FRONTMATTER_TOKEN : ℕ
FRONTMATTER_TOKEN = 73

abbrev pub GEN_TOKEN : ℕ
GEN_TOKEN = 74

abbrev pub GENERIC_ARG_LIST : ℕ
GENERIC_ARG_LIST = 75

abbrev pub GENERIC_ARGS : ℕ
GENERIC_ARGS = 76

abbrev pub GENERIC_PARAM_LIST : ℕ
GENERIC_PARAM_LIST = 77

abbrev pub GENERIC_PARAMS : ℕ
GENERIC_PARAMS = 78

abbrev pub GLOBAL_ASM_TOKEN : ℕ
GLOBAL_ASM_TOKEN = 79

abbrev pub GUARD : ℕ
GUARD = 80

abbrev pub IDENT_TOKEN : ℕ
IDENT_TOKEN = 81

abbrev pub IF_TOKEN : ℕ
IF_TOKEN = 82

abbrev pub IMPL_RESTRICTION : ℕ
IMPL_RESTRICTION = 83

abbrev pub IMPL_TOKEN : ℕ
IMPL_TOKEN = 84

abbrev pub IN_EXPR : ℕ
IN_EXPR = 85

abbrev pub IN_TOKEN : ℕ
IN_TOKEN = 86

abbrev pub INCLUDE_BYTES_TOKEN : ℕ
INCLUDE_BYTES_TOKEN = 87

abbrev pub INDEX : ℕ
INDEX = 88

abbrev pub INITIALIZER : ℕ
INITIALIZER = 89

abbrev pub INLATEOUT_TOKEN : ℕ
INLATEOUT_TOKEN = 90

abbrev pub INNER_DOC_COMMENT_TOKEN : ℕ
INNER_DOC_COMMENT_TOKEN = 91

abbrev pub INOUT_TOKEN : ℕ
INOUT_TOKEN = 92

abbrev pub INT_NUMBER_TOKEN : ℕ
INT_NUMBER_TOKEN = 93

abbrev pub IS_TOKEN : ℕ
IS_TOKEN = 94

abbrev pub ITEM_LIST : ℕ
ITEM_LIST = 95

abbrev pub ITEMS : ℕ
ITEMS = 96

abbrev pub ITERABLE : ℕ
ITERABLE = 97

abbrev pub L_ANGLE_TOKEN : ℕ
L_ANGLE_TOKEN = 98

abbrev pub L_BRACK_TOKEN : ℕ
L_BRACK_TOKEN = 99

abbrev pub L_CURLY_TOKEN : ℕ
L_CURLY_TOKEN = 100

abbrev pub L_PAREN_TOKEN : ℕ
L_PAREN_TOKEN = 101

abbrev pub LABEL : ℕ
LABEL = 102

abbrev pub LABEL_TOKEN : ℕ
LABEL_TOKEN = 103

abbrev pub LATEOUT_TOKEN : ℕ
LATEOUT_TOKEN = 104

abbrev pub LET_ELSE : ℕ
LET_ELSE = 105

abbrev pub LET_TOKEN : ℕ
LET_TOKEN = 106

abbrev pub LHS : ℕ
LHS = 107

abbrev pub LIFETIME : ℕ
LIFETIME = 108

abbrev pub LIFETIME_IDENT_TOKEN : ℕ
LIFETIME_IDENT_TOKEN = 109

abbrev pub LITERAL : ℕ
LITERAL = 110

abbrev pub LOOP_BODY : ℕ
LOOP_BODY = 111

abbrev pub LOOP_TOKEN : ℕ
LOOP_TOKEN = 112

abbrev pub MACRO_CALL : ℕ
MACRO_CALL = 113

abbrev pub MACRO_RULES_TOKEN : ℕ
MACRO_RULES_TOKEN = 114

abbrev pub MACRO_TOKEN : ℕ
MACRO_TOKEN = 115

abbrev pub MATCH_ARM_LIST : ℕ
MATCH_ARM_LIST = 116

abbrev pub MATCH_TOKEN : ℕ
MATCH_TOKEN = 117

abbrev pub MAY_UNWIND_TOKEN : ℕ
MAY_UNWIND_TOKEN = 118

abbrev pub META : ℕ
META = 119

abbrev pub METAS : ℕ
METAS = 120

abbrev pub MINUS_TOKEN : ℕ
MINUS_TOKEN = 121

abbrev pub MOD_TOKEN : ℕ
MOD_TOKEN = 122

abbrev pub MOVE_TOKEN : ℕ
MOVE_TOKEN = 123

abbrev pub MUT_RESTRICTION : ℕ
MUT_RESTRICTION = 124

abbrev pub MUT_TOKEN : ℕ
MUT_TOKEN = 125

abbrev pub NAKED_ASM_TOKEN : ℕ
NAKED_ASM_TOKEN = 126

abbrev pub NAME : ℕ
NAME = 127

abbrev pub NAME_REF : ℕ
NAME_REF = 128

abbrev pub NOMEM_TOKEN : ℕ
NOMEM_TOKEN = 129

abbrev pub NORETURN_TOKEN : ℕ
NORETURN_TOKEN = 130

abbrev pub NOSTACK_TOKEN : ℕ
NOSTACK_TOKEN = 131

abbrev pub OFFSET_OF_TOKEN : ℕ
OFFSET_OF_TOKEN = 132

abbrev pub OP_TOKEN : ℕ
OP_TOKEN = 133

abbrev pub OPTIONS_TOKEN : ℕ
OPTIONS_TOKEN = 134

abbrev pub OUT_EXPR : ℕ
OUT_EXPR = 135

abbrev pub OUT_TOKEN : ℕ
OUT_TOKEN = 136

abbrev pub OUTER_DOC_COMMENT_TOKEN : ℕ
OUTER_DOC_COMMENT_TOKEN = 137

abbrev pub PARAM_LIST : ℕ
PARAM_LIST = 138

abbrev pub PARAMS : ℕ
PARAMS = 139

abbrev pub PARENTHESIZED_ARG_LIST : ℕ
PARENTHESIZED_ARG_LIST = 140

abbrev pub PAT : ℕ
PAT = 141

abbrev pub PATH : ℕ
PATH = 142

abbrev pub PATH_TYPE : ℕ
PATH_TYPE = 143

abbrev pub PATS : ℕ
PATS = 144

abbrev pub PATTERN_TYPE_TOKEN : ℕ
PATTERN_TYPE_TOKEN = 145

abbrev pub PIPE_TOKEN : ℕ
PIPE_TOKEN = 146

abbrev pub POUND_TOKEN : ℕ
POUND_TOKEN = 147

abbrev pub PREDICATES : ℕ
PREDICATES = 148

abbrev pub PRESERVES_FLAGS_TOKEN : ℕ
PRESERVES_FLAGS_TOKEN = 149

abbrev pub PUB_TOKEN : ℕ
PUB_TOKEN = 150

abbrev pub PURE_TOKEN : ℕ
PURE_TOKEN = 151

abbrev pub QUALIFIER : ℕ
QUALIFIER = 152

abbrev pub QUESTION_MARK_TOKEN : ℕ
QUESTION_MARK_TOKEN = 153

abbrev pub R_ANGLE_TOKEN : ℕ
R_ANGLE_TOKEN = 154

abbrev pub R_BRACK_TOKEN : ℕ
R_BRACK_TOKEN = 155

abbrev pub R_CURLY_TOKEN : ℕ
R_CURLY_TOKEN = 156

abbrev pub R_PAREN_TOKEN : ℕ
R_PAREN_TOKEN = 157

abbrev pub RAW_TOKEN : ℕ
RAW_TOKEN = 158

abbrev pub READONLY_TOKEN : ℕ
READONLY_TOKEN = 159

abbrev pub RECEIVER : ℕ
RECEIVER = 160

abbrev pub RECORD_EXPR_FIELD_LIST : ℕ
RECORD_EXPR_FIELD_LIST = 161

abbrev pub RECORD_FIELD_LIST : ℕ
RECORD_FIELD_LIST = 162

abbrev pub RECORD_PAT_FIELD_LIST : ℕ
RECORD_PAT_FIELD_LIST = 163

abbrev pub REF_TOKEN : ℕ
REF_TOKEN = 164

abbrev pub RENAME : ℕ
RENAME = 165

abbrev pub REPEAT : ℕ
REPEAT = 166

abbrev pub REST_PAT : ℕ
REST_PAT = 167

abbrev pub RET_TYPE : ℕ
RET_TYPE = 168

abbrev pub RETURN_TOKEN : ℕ
RETURN_TOKEN = 169

abbrev pub RETURN_TYPE_SYNTAX : ℕ
RETURN_TYPE_SYNTAX = 170

abbrev pub RHS : ℕ
RHS = 171

abbrev pub SAFE_TOKEN : ℕ
SAFE_TOKEN = 172

abbrev pub SEGMENT : ℕ
SEGMENT = 173

abbrev pub SELF_PARAM : ℕ
SELF_PARAM = 174

abbrev pub SELF_TOKEN : ℕ
SELF_TOKEN = 175

abbrev pub SELF_TY : ℕ
SELF_TY = 176

abbrev pub SELF_TYPE_TOKEN : ℕ
SELF_TYPE_TOKEN = 177

abbrev pub SEMICOLON_TOKEN : ℕ
SEMICOLON_TOKEN = 178

abbrev pub SHEBANG_TOKEN : ℕ
SHEBANG_TOKEN = 179

abbrev pub SPREAD : ℕ
SPREAD = 180

abbrev pub STAR_TOKEN : ℕ
STAR_TOKEN = 181

abbrev pub START : ℕ
START = 182

abbrev pub STATEMENTS : ℕ
STATEMENTS = 183

abbrev pub STATIC_TOKEN : ℕ
STATIC_TOKEN = 184

abbrev pub STMT_LIST : ℕ
STMT_LIST = 185

abbrev pub STRING_TOKEN : ℕ
STRING_TOKEN = 186

abbrev pub STRUCT_TOKEN : ℕ
STRUCT_TOKEN = 187

abbrev pub SUPER_TOKEN : ℕ
SUPER_TOKEN = 188

abbrev pub SYM_TOKEN : ℕ
SYM_TOKEN = 189

abbrev pub TAIL_EXPR : ℕ
TAIL_EXPR = 190

abbrev pub TEMPLATE : ℕ
TEMPLATE = 191

abbrev pub THEN_BRANCH : ℕ
THEN_BRANCH = 192

abbrev pub THIN_ARROW_TOKEN : ℕ
THIN_ARROW_TOKEN = 193

abbrev pub TILDE_TOKEN : ℕ
TILDE_TOKEN = 194

abbrev pub TOKEN : ℕ
TOKEN = 195

abbrev pub TOKEN_TREE : ℕ
TOKEN_TREE = 196

abbrev pub TOKEN_TREES : ℕ
TOKEN_TREES = 197

abbrev pub TRAILING_WHERE_CLAUSE : ℕ
TRAILING_WHERE_CLAUSE = 198

abbrev pub TRAIT_ : ℕ
TRAIT_ = 199

abbrev pub TRAIT_TOKEN : ℕ
TRAIT_TOKEN = 200

abbrev pub TRUE_TOKEN : ℕ
TRUE_TOKEN = 201

abbrev pub TRY_BLOCK_MODIFIER : ℕ
TRY_BLOCK_MODIFIER = 202

abbrev pub TRY_TOKEN : ℕ
TRY_TOKEN = 203

abbrev pub TY : ℕ
TY = 204

abbrev pub TYPE_ANCHOR : ℕ
TYPE_ANCHOR = 205

abbrev pub TYPE_ARGS : ℕ
TYPE_ARGS = 206

abbrev pub TYPE_BOUND_LIST : ℕ
TYPE_BOUND_LIST = 207

abbrev pub TYPE_TOKEN : ℕ
TYPE_TOKEN = 208

abbrev pub UNDERSCORE_TOKEN : ℕ
UNDERSCORE_TOKEN = 209

abbrev pub UNION_TOKEN : ℕ
UNION_TOKEN = 210

abbrev pub UNSAFE_TOKEN : ℕ
UNSAFE_TOKEN = 211

abbrev pub USE_BOUND_GENERIC_ARGS : ℕ
USE_BOUND_GENERIC_ARGS = 212

abbrev pub USE_TOKEN : ℕ
USE_TOKEN = 213

abbrev pub USE_TREE : ℕ
USE_TREE = 214

abbrev pub USE_TREE_LIST : ℕ
USE_TREE_LIST = 215

abbrev pub USE_TREES : ℕ
USE_TREES = 216

abbrev pub VARIANT_LIST : ℕ
VARIANT_LIST = 217

abbrev pub VARIANTS : ℕ
VARIANTS = 218

abbrev pub VISIBILITY : ℕ
VISIBILITY = 219

abbrev pub VISIBILITY_INNER : ℕ
VISIBILITY_INNER = 220

abbrev pub WHERE_CLAUSE : ℕ
WHERE_CLAUSE = 221

abbrev pub WHERE_TOKEN : ℕ
WHERE_TOKEN = 222

abbrev pub WHILE_TOKEN : ℕ
WHILE_TOKEN = 223

abbrev pub YEET_TOKEN : ℕ
YEET_TOKEN = 224

abbrev pub YIELD_TOKEN : ℕ
YIELD_TOKEN = 225

-- no field has the number 0
abbrev pub numbered : List (List ℕ × ℕ)
numbered =
    (codes "", 0) ∷ (codes "abi", ABI) ∷ (codes "amp_token", AMP_TOKEN) ∷ (codes "arg_list", ARG_LIST) ∷
    (codes "args", ARGS) ∷ (codes "arms", ARMS) ∷ (codes "as_token", AS_TOKEN) ∷ (codes "asm_dir_spec", ASM_DIR_SPEC) ∷
    (codes "asm_operand", ASM_OPERAND) ∷ (codes "asm_operand_expr", ASM_OPERAND_EXPR) ∷
    (codes "asm_options", ASM_OPTIONS) ∷ (codes "asm_pieces", ASM_PIECES) ∷ (codes "asm_reg_spec", ASM_REG_SPEC) ∷
    (codes "asm_token", ASM_TOKEN) ∷ (codes "assoc_item_list", ASSOC_ITEM_LIST) ∷ (codes "assoc_items", ASSOC_ITEMS) ∷
    (codes "async_token", ASYNC_TOKEN) ∷ (codes "at_token", AT_TOKEN) ∷ (codes "att_syntax_token", ATT_SYNTAX_TOKEN) ∷
    (codes "attrs", ATTRS) ∷ (codes "auto_token", AUTO_TOKEN) ∷ (codes "await_token", AWAIT_TOKEN) ∷
    (codes "base", BASE) ∷ (codes "become_token", BECOME_TOKEN) ∷ (codes "bikeshed_token", BIKESHED_TOKEN) ∷
    (codes "block_expr", BLOCK_EXPR) ∷ (codes "body", BODY) ∷ (codes "bounds", BOUNDS) ∷
    (codes "box_token", BOX_TOKEN) ∷ (codes "break_token", BREAK_TOKEN) ∷ (codes "builtin_token", BUILTIN_TOKEN) ∷
    (codes "cfg_attr_token", CFG_ATTR_TOKEN) ∷ (codes "cfg_predicate", CFG_PREDICATE) ∷
    (codes "cfg_predicates", CFG_PREDICATES) ∷ (codes "cfg_token", CFG_TOKEN) ∷
    (codes "clobber_abi_token", CLOBBER_ABI_TOKEN) ∷ (codes "colon_token", COLON_TOKEN) ∷
    (codes "coloncolon_token", COLONCOLON_TOKEN) ∷ (codes "comma_token", COMMA_TOKEN) ∷ (codes "condition", CONDITION) ∷
    (codes "const_arg", CONST_ARG) ∷ (codes "const_token", CONST_TOKEN) ∷ (codes "continue_token", CONTINUE_TOKEN) ∷
    (codes "crate_token", CRATE_TOKEN) ∷ (codes "default_token", DEFAULT_TOKEN) ∷ (codes "default_type", DEFAULT_TYPE) ∷
    (codes "default_val", DEFAULT_VAL) ∷ (codes "deref_token", DEREF_TOKEN) ∷ (codes "do_token", DO_TOKEN) ∷
    (codes "doc_comments", DOC_COMMENTS) ∷ (codes "dot_token", DOT_TOKEN) ∷ (codes "dotdot_token", DOTDOT_TOKEN) ∷
    (codes "dotdotdot_token", DOTDOTDOT_TOKEN) ∷ (codes "dyn_token", DYN_TOKEN) ∷ (codes "else_branch", ELSE_BRANCH) ∷
    (codes "else_token", ELSE_TOKEN) ∷ (codes "end", END) ∷ (codes "enum_token", ENUM_TOKEN) ∷
    (codes "eq_token", EQ_TOKEN) ∷ (codes "excl_token", EXCL_TOKEN) ∷ (codes "expr", EXPR) ∷ (codes "exprs", EXPRS) ∷
    (codes "extern_item_list", EXTERN_ITEM_LIST) ∷ (codes "extern_items", EXTERN_ITEMS) ∷
    (codes "extern_token", EXTERN_TOKEN) ∷ (codes "false_token", FALSE_TOKEN) ∷
    (codes "fat_arrow_token", FAT_ARROW_TOKEN) ∷ (codes "field_list", FIELD_LIST) ∷ (codes "fields", FIELDS) ∷
    (codes "fn_token", FN_TOKEN) ∷ (codes "for_binder", FOR_BINDER) ∷ (codes "for_token", FOR_TOKEN) ∷
    (codes "format_args_token", FORMAT_ARGS_TOKEN) ∷ (codes "frontmatter_token", FRONTMATTER_TOKEN) ∷
    (codes "gen_token", GEN_TOKEN) ∷ (codes "generic_arg_list", GENERIC_ARG_LIST) ∷
    (codes "generic_args", GENERIC_ARGS) ∷ (codes "generic_param_list", GENERIC_PARAM_LIST) ∷
    (codes "generic_params", GENERIC_PARAMS) ∷ (codes "global_asm_token", GLOBAL_ASM_TOKEN) ∷ (codes "guard", GUARD) ∷
    (codes "ident_token", IDENT_TOKEN) ∷ (codes "if_token", IF_TOKEN) ∷ (codes "impl_restriction", IMPL_RESTRICTION) ∷
    (codes "impl_token", IMPL_TOKEN) ∷ (codes "in_expr", IN_EXPR) ∷ (codes "in_token", IN_TOKEN) ∷
    (codes "include_bytes_token", INCLUDE_BYTES_TOKEN) ∷ (codes "index", INDEX) ∷ (codes "initializer", INITIALIZER) ∷
    (codes "inlateout_token", INLATEOUT_TOKEN) ∷ (codes "inner_doc_comment_token", INNER_DOC_COMMENT_TOKEN) ∷
    (codes "inout_token", INOUT_TOKEN) ∷ (codes "int_number_token", INT_NUMBER_TOKEN) ∷ (codes "is_token", IS_TOKEN) ∷
    (codes "item_list", ITEM_LIST) ∷ (codes "items", ITEMS) ∷ (codes "iterable", ITERABLE) ∷
    (codes "l_angle_token", L_ANGLE_TOKEN) ∷ (codes "l_brack_token", L_BRACK_TOKEN) ∷
    (codes "l_curly_token", L_CURLY_TOKEN) ∷ (codes "l_paren_token", L_PAREN_TOKEN) ∷ (codes "label", LABEL) ∷
    (codes "label_token", LABEL_TOKEN) ∷ (codes "lateout_token", LATEOUT_TOKEN) ∷ (codes "let_else", LET_ELSE) ∷
    (codes "let_token", LET_TOKEN) ∷ (codes "lhs", LHS) ∷ (codes "lifetime", LIFETIME) ∷
    (codes "lifetime_ident_token", LIFETIME_IDENT_TOKEN) ∷ (codes "literal", LITERAL) ∷ (codes "loop_body", LOOP_BODY) ∷
    (codes "loop_token", LOOP_TOKEN) ∷ (codes "macro_call", MACRO_CALL) ∷
    (codes "macro_rules_token", MACRO_RULES_TOKEN) ∷ (codes "macro_token", MACRO_TOKEN) ∷
    (codes "match_arm_list", MATCH_ARM_LIST) ∷ (codes "match_token", MATCH_TOKEN) ∷
    (codes "may_unwind_token", MAY_UNWIND_TOKEN) ∷ (codes "meta", META) ∷ (codes "metas", METAS) ∷
    (codes "minus_token", MINUS_TOKEN) ∷ (codes "mod_token", MOD_TOKEN) ∷ (codes "move_token", MOVE_TOKEN) ∷
    (codes "mut_restriction", MUT_RESTRICTION) ∷ (codes "mut_token", MUT_TOKEN) ∷
    (codes "naked_asm_token", NAKED_ASM_TOKEN) ∷ (codes "name", NAME) ∷ (codes "name_ref", NAME_REF) ∷
    (codes "nomem_token", NOMEM_TOKEN) ∷ (codes "noreturn_token", NORETURN_TOKEN) ∷
    (codes "nostack_token", NOSTACK_TOKEN) ∷ (codes "offset_of_token", OFFSET_OF_TOKEN) ∷ (codes "op_token", OP_TOKEN) ∷
    (codes "options_token", OPTIONS_TOKEN) ∷ (codes "out_expr", OUT_EXPR) ∷ (codes "out_token", OUT_TOKEN) ∷
    (codes "outer_doc_comment_token", OUTER_DOC_COMMENT_TOKEN) ∷ (codes "param_list", PARAM_LIST) ∷
    (codes "params", PARAMS) ∷ (codes "parenthesized_arg_list", PARENTHESIZED_ARG_LIST) ∷ (codes "pat", PAT) ∷
    (codes "path", PATH) ∷ (codes "path_type", PATH_TYPE) ∷ (codes "pats", PATS) ∷
    (codes "pattern_type_token", PATTERN_TYPE_TOKEN) ∷ (codes "pipe_token", PIPE_TOKEN) ∷
    (codes "pound_token", POUND_TOKEN) ∷ (codes "predicates", PREDICATES) ∷
    (codes "preserves_flags_token", PRESERVES_FLAGS_TOKEN) ∷ (codes "pub_token", PUB_TOKEN) ∷
    (codes "pure_token", PURE_TOKEN) ∷ (codes "qualifier", QUALIFIER) ∷
    (codes "question_mark_token", QUESTION_MARK_TOKEN) ∷ (codes "r_angle_token", R_ANGLE_TOKEN) ∷
    (codes "r_brack_token", R_BRACK_TOKEN) ∷ (codes "r_curly_token", R_CURLY_TOKEN) ∷
    (codes "r_paren_token", R_PAREN_TOKEN) ∷ (codes "raw_token", RAW_TOKEN) ∷ (codes "readonly_token", READONLY_TOKEN) ∷
    (codes "receiver", RECEIVER) ∷ (codes "record_expr_field_list", RECORD_EXPR_FIELD_LIST) ∷
    (codes "record_field_list", RECORD_FIELD_LIST) ∷ (codes "record_pat_field_list", RECORD_PAT_FIELD_LIST) ∷
    (codes "ref_token", REF_TOKEN) ∷ (codes "rename", RENAME) ∷ (codes "repeat", REPEAT) ∷
    (codes "rest_pat", REST_PAT) ∷ (codes "ret_type", RET_TYPE) ∷ (codes "return_token", RETURN_TOKEN) ∷
    (codes "return_type_syntax", RETURN_TYPE_SYNTAX) ∷ (codes "rhs", RHS) ∷ (codes "safe_token", SAFE_TOKEN) ∷
    (codes "segment", SEGMENT) ∷ (codes "self_param", SELF_PARAM) ∷ (codes "self_token", SELF_TOKEN) ∷
    (codes "self_ty", SELF_TY) ∷ (codes "self_type_token", SELF_TYPE_TOKEN) ∷
    (codes "semicolon_token", SEMICOLON_TOKEN) ∷ (codes "shebang_token", SHEBANG_TOKEN) ∷ (codes "spread", SPREAD) ∷
    (codes "star_token", STAR_TOKEN) ∷ (codes "start", START) ∷ (codes "statements", STATEMENTS) ∷
    (codes "static_token", STATIC_TOKEN) ∷ (codes "stmt_list", STMT_LIST) ∷ (codes "string_token", STRING_TOKEN) ∷
    (codes "struct_token", STRUCT_TOKEN) ∷ (codes "super_token", SUPER_TOKEN) ∷ (codes "sym_token", SYM_TOKEN) ∷
    (codes "tail_expr", TAIL_EXPR) ∷ (codes "template", TEMPLATE) ∷ (codes "then_branch", THEN_BRANCH) ∷
    (codes "thin_arrow_token", THIN_ARROW_TOKEN) ∷ (codes "tilde_token", TILDE_TOKEN) ∷ (codes "token", TOKEN) ∷
    (codes "token_tree", TOKEN_TREE) ∷ (codes "token_trees", TOKEN_TREES) ∷
    (codes "trailing_where_clause", TRAILING_WHERE_CLAUSE) ∷ (codes "trait_", TRAIT_) ∷
    (codes "trait_token", TRAIT_TOKEN) ∷ (codes "true_token", TRUE_TOKEN) ∷
    (codes "try_block_modifier", TRY_BLOCK_MODIFIER) ∷ (codes "try_token", TRY_TOKEN) ∷ (codes "ty", TY) ∷
    (codes "type_anchor", TYPE_ANCHOR) ∷ (codes "type_args", TYPE_ARGS) ∷ (codes "type_bound_list", TYPE_BOUND_LIST) ∷
    (codes "type_token", TYPE_TOKEN) ∷ (codes "underscore_token", UNDERSCORE_TOKEN) ∷
    (codes "union_token", UNION_TOKEN) ∷ (codes "unsafe_token", UNSAFE_TOKEN) ∷
    (codes "use_bound_generic_args", USE_BOUND_GENERIC_ARGS) ∷ (codes "use_token", USE_TOKEN) ∷
    (codes "use_tree", USE_TREE) ∷ (codes "use_tree_list", USE_TREE_LIST) ∷ (codes "use_trees", USE_TREES) ∷
    (codes "variant_list", VARIANT_LIST) ∷ (codes "variants", VARIANTS) ∷ (codes "visibility", VISIBILITY) ∷
    (codes "visibility_inner", VISIBILITY_INNER) ∷ (codes "where_clause", WHERE_CLAUSE) ∷
    (codes "where_token", WHERE_TOKEN) ∷ (codes "while_token", WHILE_TOKEN) ∷ (codes "yeet_token", YEET_TOKEN) ∷
    (codes "yield_token", YIELD_TOKEN) ∷ []

abbrev pub names : List (List ℕ)
names = map (λ row. row.0) numbered
