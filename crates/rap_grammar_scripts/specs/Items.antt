-- Items.
use Rattle.std.specs.Prelude.{Bool, [], ◌∷◌, not, if◌then◌else◌, codes, false}
use Rattle.rap_base.specs.TokenKind.{UNDERSCORE, IDENT, MUT_KW, CRATE_KW, UNION_KW, BANG, MACRO_RULES_KW, GLOBAL_ASM_KW, POUND, BUILTIN_KW, EXTERN_KW, USE_KW, MOD_KW, TYPE_KW, CONST_KW, STATIC_KW, STRUCT_KW, ENUM_KW, MACRO_KW, L_CURLY, FN_KW, TRAIT_KW, IMPL_KW, ERROR, SEMICOLON, R_CURLY, EOF, LET_KW}
use Rattle.rap_base.specs.NodeKind.{EXTERN_BLOCK}
use Rattle.rap_grammar_scripts.specs.Adt.{union, strukt, enum_}
use Rattle.rap_grammar_scripts.specs.Asm.{parse_asm_expr}
use Rattle.rap_grammar_scripts.specs.Attributes.{outer_attrs}
use Rattle.rap_grammar_scripts.specs.Blocks.{error_block, error_let_stmt}
use Rattle.rap_grammar_scripts.specs.Consts.{konst, static_}
use Rattle.rap_grammar_scripts.specs.First.{one_of, is_use_path_start}
use Rattle.rap_grammar_scripts.specs.Functions.{fn_}
use Rattle.rap_grammar_scripts.specs.Macros.{macro_rules, macro_def, macro_call}
use Rattle.rap_grammar_scripts.specs.Modifiers.{modifiers, found}
use Rattle.rap_grammar_scripts.specs.Modules.{extern_crate, mod_item, type_item, extern_item_list, has_extern, has_mods}
use Rattle.rap_grammar_scripts.specs.Paths.{use_path}
use Rattle.rap_grammar_scripts.specs.Script.{Script, token, bear, nothing, give, after, finish, report, skip, test, start, abandon}
use Rattle.rap_grammar_scripts.specs.Test.{Test, kind_so, comes, negated, also, told}
use Rattle.rap_grammar_scripts.specs.Traits.{trait_, impl_}
use Rattle.rap_grammar_scripts.specs.UseItem.{use_}
use Rattle.rap_grammar_scripts.specs.Visibility.{opt_visibility}
use Rattle.rap_grammar_scripts.specs.Words.{only_if, reads_as, starts_builtin, done, ◌▸◌, call, choose, next_is, if_some, optional, next_so, kind_is, word_is, is_at}
use Rattle.rap_grammar_scripts.specs.declared.rule.Rule.{Rule}

-- what follows the keyword of a constant or a static
abbrev pub is_named : Test
is_named = kind_so 1 (one_of (IDENT ∷ UNDERSCORE ∷ MUT_KW ∷ []))

unfoldable pub opt_extern_crate : Script Rule
opt_extern_crate = only_if (comes 1 CRATE_KW) extern_crate

unfoldable pub opt_named_const : Script Rule
opt_named_const = only_if is_named konst

unfoldable pub opt_static : Script Rule
opt_static = only_if is_named static_

-- an item that begins with an identifier
abbrev pub starts_union : Test
starts_union = also (reads_as UNION_KW) (kind_is 1 IDENT)

abbrev pub starts_macro_rules : Test
starts_macro_rules = also (reads_as MACRO_RULES_KW) (also (comes 1 BANG) (comes 2 IDENT))

abbrev pub starts_global_asm : Test
starts_global_asm = also starts_builtin (word_is 2 GLOBAL_ASM_KW)

unfoldable pub global_asm : Script Rule
global_asm = bear BUILTIN_KW ▸ token POUND ▸ bear GLOBAL_ASM_KW ▸ call parse_asm_expr ▸ done

unfoldable pub opt_item_by_name : Script Rule
opt_item_by_name =
    choose
    ((starts_union, union)
    ∷ (starts_macro_rules, macro_rules)
    ∷ (starts_global_asm, global_asm)
    ∷ [])
    (give nothing)

unfoldable pub opt_item_without_modifiers : Script Rule
opt_item_without_modifiers =
    choose
    ((next_is EXTERN_KW, opt_extern_crate)
    ∷ (next_is USE_KW, use_)
    ∷ (next_is MOD_KW, mod_item)
    ∷ (next_is TYPE_KW, type_item)
    ∷ (next_is STRUCT_KW, strukt)
    ∷ (next_is ENUM_KW, enum_)
    ∷ (next_is MACRO_KW, macro_def)
    ∷ (next_is CONST_KW, opt_named_const)
    ∷ (next_is STATIC_KW, opt_static)
    ∷ (next_is IDENT, opt_item_by_name)
    ∷ [])
    (give nothing)

-- a constant after modifiers: no block after `const`
unfoldable pub opt_const : Script Rule
opt_const = only_if (negated (kind_is 1 L_CURLY)) konst

unfoldable pub opt_extern_block : Bool → Script Rule
opt_extern_block has_extern = if has_extern then call extern_item_list ▸ finish EXTERN_BLOCK ▸ done else give nothing

-- an item after its modifiers
unfoldable pub opt_item_with_modifiers : Bool → Script Rule
opt_item_with_modifiers has_extern =
    choose
    ((next_is FN_KW, fn_)
    ∷ (next_is CONST_KW, opt_const)
    ∷ (next_is STATIC_KW, opt_static)
    ∷ (next_is TRAIT_KW, trait_)
    ∷ (next_is IMPL_KW, impl_)
    ∷ (next_is TYPE_KW, type_item)
    ∷ (next_is L_CURLY, opt_extern_block has_extern)
    ∷ [])
    (give nothing)

-- where no item follows what stands before one
unfoldable pub refuse : Bool → Bool → Script Rule
refuse has_visibility has_mods =
    if has_mods then report (codes "expected fn, trait or impl") ▸ finish ERROR ▸ done
    else if has_visibility then report (codes "expected an item") ▸ finish ERROR ▸ done
    else give nothing

unfoldable pub opt_modified_item : Bool → Bool → Script Rule
opt_modified_item has_visibility is_in_extern =
    after (modifiers is_in_extern) (λ v.
    after (opt_item_with_modifiers (has_extern v)) (λ w. if_some w done
    (refuse has_visibility (has_mods v))))

-- an item from the newest node on, if one comes next; nothing if none does
unfoldable pub opt_item : Bool → Script Rule
opt_item is_in_extern =
    after (opt_visibility false) (λ v.
    after opt_item_without_modifiers (λ w. if_some w done
    (opt_modified_item (found v) is_in_extern)))

-- a semicolon after an item
unfoldable pub after_item : Script Rule
after_item =
    optional (is_at SEMICOLON) (skip (codes "expected item, found `;`\nconsider removing this semicolon") ▸ done)

-- a macro call in the place of an item, or a path alone, whose node is open
unfoldable pub path_item : Script Rule
path_item = call use_path ▸ test (is_at BANG) macro_call (finish ERROR ▸ report (codes "expected an item") ▸ done)

-- a brace that closes nothing
unfoldable pub unmatched_brace : Script Rule
unmatched_brace = start ▸ report (codes "unmatched `}`") ▸ token R_CURLY ▸ finish ERROR ▸ done

-- where no item begins and no path
unfoldable pub missing_item : Bool → Script Rule
missing_item stop_on_r_curly =
    choose
    ((next_is L_CURLY, error_block (codes "expected an item"))
    ∷ (also (next_is R_CURLY) (told (not stop_on_r_curly)), unmatched_brace)
    ∷ (next_so (one_of (EOF ∷ R_CURLY ∷ [])), report (codes "expected an item") ▸ done)
    ∷ (next_is LET_KW, error_let_stmt (codes "expected an item"))
    ∷ [])
    (skip (codes "expected an item") ▸ done)

unfoldable pub macro_or_error : Bool → Script Rule
macro_or_error stop_on_r_curly = test is_use_path_start path_item (abandon ▸ missing_item stop_on_r_curly)

-- an item after its attributes, or what stands in its place
unfoldable pub marked_item : Bool → Bool → Script Rule
marked_item stop_on_r_curly is_in_extern =
    after (opt_item is_in_extern) (λ v. if_some v after_item (macro_or_error stop_on_r_curly))

-- an item, or a macro call in its place
unfoldable pub item_or_macro : Bool → Bool → Script Rule
item_or_macro stop_on_r_curly is_in_extern = start ▸ call outer_attrs ▸ marked_item stop_on_r_curly is_in_extern
