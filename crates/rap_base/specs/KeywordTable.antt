-- Written by crates/rap_base/kinds from kinds.txt beside it: an edit here is lost.
-- The words that have a kind of their own.
use Rattle.std.specs.Prelude.{ℕ, List, [], ◌∷◌, codes}
use Rattle.rap_base.specs.TokenKind as token

-- the words that every edition reserves, each with its kind
abbrev pub reserved_ever : List (List ℕ × ℕ)
reserved_ever =
    (codes "as", token.AS_KW) ∷
    (codes "break", token.BREAK_KW) ∷
    (codes "const", token.CONST_KW) ∷
    (codes "continue", token.CONTINUE_KW) ∷
    (codes "crate", token.CRATE_KW) ∷
    (codes "else", token.ELSE_KW) ∷
    (codes "enum", token.ENUM_KW) ∷
    (codes "extern", token.EXTERN_KW) ∷
    (codes "false", token.FALSE_KW) ∷
    (codes "fn", token.FN_KW) ∷
    (codes "for", token.FOR_KW) ∷
    (codes "if", token.IF_KW) ∷
    (codes "impl", token.IMPL_KW) ∷
    (codes "in", token.IN_KW) ∷
    (codes "let", token.LET_KW) ∷
    (codes "loop", token.LOOP_KW) ∷
    (codes "match", token.MATCH_KW) ∷
    (codes "mod", token.MOD_KW) ∷
    (codes "move", token.MOVE_KW) ∷
    (codes "mut", token.MUT_KW) ∷
    (codes "pub", token.PUB_KW) ∷
    (codes "ref", token.REF_KW) ∷
    (codes "return", token.RETURN_KW) ∷
    (codes "self", token.SELF_KW) ∷
    (codes "Self", token.SELF_TYPE_KW) ∷
    (codes "static", token.STATIC_KW) ∷
    (codes "struct", token.STRUCT_KW) ∷
    (codes "super", token.SUPER_KW) ∷
    (codes "trait", token.TRAIT_KW) ∷
    (codes "true", token.TRUE_KW) ∷
    (codes "type", token.TYPE_KW) ∷
    (codes "unsafe", token.UNSAFE_KW) ∷
    (codes "use", token.USE_KW) ∷
    (codes "where", token.WHERE_KW) ∷
    (codes "while", token.WHILE_KW) ∷
    (codes "abstract", token.ABSTRACT_KW) ∷
    (codes "become", token.BECOME_KW) ∷
    (codes "box", token.BOX_KW) ∷
    (codes "do", token.DO_KW) ∷
    (codes "final", token.FINAL_KW) ∷
    (codes "macro", token.MACRO_KW) ∷
    (codes "override", token.OVERRIDE_KW) ∷
    (codes "priv", token.PRIV_KW) ∷
    (codes "typeof", token.TYPEOF_KW) ∷
    (codes "unsized", token.UNSIZED_KW) ∷
    (codes "virtual", token.VIRTUAL_KW) ∷
    (codes "yield", token.YIELD_KW) ∷
    []

-- the words reserved since the edition 2018
abbrev pub reserved_2018 : List (List ℕ × ℕ)
reserved_2018 =
    (codes "async", token.ASYNC_KW) ∷
    (codes "await", token.AWAIT_KW) ∷
    (codes "dyn", token.DYN_KW) ∷
    (codes "try", token.TRY_KW) ∷
    []

-- the words reserved since the edition 2024
abbrev pub reserved_2024 : List (List ℕ × ℕ)
reserved_2024 =
    (codes "gen", token.GEN_KW) ∷
    []

-- the words that are keywords only where the grammar expects them
abbrev pub contextual_ever : List (List ℕ × ℕ)
contextual_ever =
    (codes "asm", token.ASM_KW) ∷
    (codes "att_syntax", token.ATT_SYNTAX_KW) ∷
    (codes "auto", token.AUTO_KW) ∷
    (codes "bikeshed", token.BIKESHED_KW) ∷
    (codes "builtin", token.BUILTIN_KW) ∷
    (codes "cfg", token.CFG_KW) ∷
    (codes "cfg_attr", token.CFG_ATTR_KW) ∷
    (codes "clobber_abi", token.CLOBBER_ABI_KW) ∷
    (codes "default", token.DEFAULT_KW) ∷
    (codes "deref", token.DEREF_KW) ∷
    (codes "format_args", token.FORMAT_ARGS_KW) ∷
    (codes "global_asm", token.GLOBAL_ASM_KW) ∷
    (codes "include_bytes", token.INCLUDE_BYTES_KW) ∷
    (codes "inlateout", token.INLATEOUT_KW) ∷
    (codes "inout", token.INOUT_KW) ∷
    (codes "is", token.IS_KW) ∷
    (codes "label", token.LABEL_KW) ∷
    (codes "lateout", token.LATEOUT_KW) ∷
    (codes "macro_rules", token.MACRO_RULES_KW) ∷
    (codes "may_unwind", token.MAY_UNWIND_KW) ∷
    (codes "naked_asm", token.NAKED_ASM_KW) ∷
    (codes "nomem", token.NOMEM_KW) ∷
    (codes "noreturn", token.NORETURN_KW) ∷
    (codes "nostack", token.NOSTACK_KW) ∷
    (codes "offset_of", token.OFFSET_OF_KW) ∷
    (codes "options", token.OPTIONS_KW) ∷
    (codes "out", token.OUT_KW) ∷
    (codes "pattern_type", token.PATTERN_TYPE_KW) ∷
    (codes "preserves_flags", token.PRESERVES_FLAGS_KW) ∷
    (codes "pure", token.PURE_KW) ∷
    (codes "raw", token.RAW_KW) ∷
    (codes "readonly", token.READONLY_KW) ∷
    (codes "safe", token.SAFE_KW) ∷
    (codes "sym", token.SYM_KW) ∷
    (codes "union", token.UNION_KW) ∷
    (codes "yeet", token.YEET_KW) ∷
    []
