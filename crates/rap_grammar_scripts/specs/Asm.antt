-- Inline assembly.
-- In the Rust crate: `grammar/expressions/atom.rs`.
use Rattle.std.specs.Prelude.{Bool, true, false, if◌then◌else◌, Option, Some, None, codes, [], ◌∷◌}
use Rattle.rap_base.specs.Keyword.{is_any_identifier}
use Rattle.rap_base.specs.TokenKind.{EOF, L_PAREN, R_PAREN, L_CURLY, R_CURLY, COMMA, EQ, FAT_ARROW, STRING, CONST_KW, IN_KW, OUT_KW, LATEOUT_KW, INOUT_KW, INLATEOUT_KW, LABEL_KW, SYM_KW, CLOBBER_ABI_KW, OPTIONS_KW, PURE_KW, NOMEM_KW, READONLY_KW, PRESERVES_FLAGS_KW, NORETURN_KW, NOSTACK_KW, MAY_UNWIND_KW, ATT_SYNTAX_KW, RAW_KW}
use Rattle.rap_base.specs.NodeKind.{ASM_EXPR, ASM_CLOBBER_ABI, ASM_OPTIONS, ASM_OPTION, ASM_DIR_SPEC, ASM_OPERAND_EXPR, ASM_REG_OPERAND, ASM_OPERAND_NAMED, ASM_LABEL, ASM_CONST, ASM_SYM, ASM_REG_SPEC}
use Rattle.rap_events.specs.State.{expected}
use Rattle.rap_grammar_scripts.specs.Attributes.{outer_attrs}
use Rattle.rap_grammar_scripts.specs.Blocks.{block_expr}
use Rattle.rap_grammar_scripts.specs.Test.{Test, comes, also}
use Rattle.rap_grammar_scripts.specs.ThroughKnot.{expr}
use Rattle.rap_grammar_scripts.specs.First.{is_path_name}
use Rattle.rap_grammar_scripts.specs.Names.{name_any_identifier, name_ref_mod_path}
use Rattle.rap_grammar_scripts.specs.Paths.{type_path}
use Rattle.rap_grammar_scripts.specs.declared.rule.Rule.{Rule}
use Rattle.rap_grammar_scripts.specs.Script.{Script, Outcome, nothing, something, block, give, test, token, bear, report, skip, start, finish, abandon, after, loop, again}
use Rattle.rap_grammar_scripts.specs.Words.{done, if_some, reads_as, expect, ◌▸◌, call, choose, only_if, next_so, is_at}

-- a line of the assembly
unfoldable pub asm_template : Script Rule
asm_template = after expr (λ v. if_some v done (skip (codes "expected asm template") ▸ done))

-- where an operand lies: a register's name or its class, or a string
unfoldable pub reg_spec : Script Rule
reg_spec =
    choose
    ((next_so is_path_name, start ▸ call name_ref_mod_path ▸ finish ASM_REG_SPEC ▸ done)
    ∷ (is_at STRING, start ▸ token STRING ▸ finish ASM_REG_SPEC ▸ done)
    ∷ [])
    (skip (codes "expected register name") ▸ done)

unfoldable pub parse_reg : Script Rule
parse_reg = expect L_PAREN ▸ call reg_spec ▸ expect R_PAREN ▸ done

-- the names of ABIs; the list ends where none follows
abbrev pub clobber_turn : Bool → Bool → Script Rule
clobber_turn a b =
    choose
    ((is_at EOF, done)
    ∷ (is_at R_PAREN, token R_PAREN ▸ done)
    ∷ (is_at STRING, token STRING ▸ test (is_at R_PAREN) (token R_PAREN ▸ done) (expect COMMA ▸ give (again a b)))
    ∷ [])
    (report (expected STRING) ▸ done)

unfoldable pub clobber_abis : Script Rule
clobber_abis = loop clobber_turn false false

unfoldable pub parse_clobber_abi : Script Rule
parse_clobber_abi = expect L_PAREN ▸ clobber_abis

-- the name of an option
unfoldable pub flow_option : Script Rule
flow_option =
    choose
    ((reads_as NORETURN_KW, bear NORETURN_KW ▸ done)
    ∷ (reads_as NOSTACK_KW, bear NOSTACK_KW ▸ done)
    ∷ (reads_as MAY_UNWIND_KW, bear MAY_UNWIND_KW ▸ done)
    ∷ (reads_as ATT_SYNTAX_KW, bear ATT_SYNTAX_KW ▸ done)
    ∷ (reads_as RAW_KW, bear RAW_KW ▸ done)
    ∷ [])
    (give nothing)

unfoldable pub option_name : Script Rule
option_name =
    choose
    ((reads_as PURE_KW, bear PURE_KW ▸ done)
    ∷ (reads_as NOMEM_KW, bear NOMEM_KW ▸ done)
    ∷ (reads_as READONLY_KW, bear READONLY_KW ▸ done)
    ∷ (reads_as PRESERVES_FLAGS_KW, bear PRESERVES_FLAGS_KW ▸ done)
    ∷ [])
    flow_option

-- options; anything else is skipped
abbrev pub options_turn : Bool → Bool → Script Rule
options_turn a b =
    choose
    ((is_at EOF, done)
    ∷ (is_at R_PAREN, token R_PAREN ▸ done)
    ∷ [])
    (start ▸
    after option_name (λ v.
    if_some v (finish ASM_OPTION ▸ test (is_at R_PAREN) (token R_PAREN ▸ done) (expect COMMA ▸ give (again a b)))
    (skip (codes "expected asm option") ▸ abandon ▸ give (again a b))))

unfoldable pub asm_options : Script Rule
asm_options = loop options_turn false false

unfoldable pub parse_options : Script Rule
parse_options = expect L_PAREN ▸ asm_options

-- the name of an operand and its `=` come next; the name may be a keyword
abbrev pub starts_operand_name : Test
starts_operand_name = also (next_so is_any_identifier) (comes 1 EQ)

unfoldable pub operand_name : Script Rule
operand_name = only_if starts_operand_name (call name_any_identifier ▸ token EQ ▸ done)

-- The direction of a register operand as an outcome: none, in or out, both. The outcome `block` stands for both here.
abbrev pub one_way : Outcome
one_way = something

abbrev pub both_ways : Outcome
both_ways = block

abbrev pub of_way : Option Bool → Outcome
of_way None = nothing
of_way (Some true) = both_ways
of_way (Some false) = one_way

unfoldable pub dir_spec : Script Rule
dir_spec =
    start ▸
    choose
    ((is_at IN_KW, token IN_KW ▸ finish ASM_DIR_SPEC ▸ give one_way)
    ∷ (reads_as OUT_KW, bear OUT_KW ▸ finish ASM_DIR_SPEC ▸ give one_way)
    ∷ (reads_as LATEOUT_KW, bear LATEOUT_KW ▸ finish ASM_DIR_SPEC ▸ give one_way)
    ∷ (reads_as INOUT_KW, bear INOUT_KW ▸ finish ASM_DIR_SPEC ▸ give both_ways)
    ∷ (reads_as INLATEOUT_KW, bear INLATEOUT_KW ▸ finish ASM_DIR_SPEC ▸ give both_ways)
    ∷ [])
    (abandon ▸ give nothing)

-- a register and what is in it; where the value goes both ways, another place may be named for the way out
unfoldable pub reg_operand : Bool → Script Rule
reg_operand both =
    call parse_reg ▸ start ▸ call expr ▸
    (if both then
    test (is_at FAT_ARROW) (token FAT_ARROW ▸ call expr ▸ finish ASM_OPERAND_EXPR ▸ done)
    (finish ASM_OPERAND_EXPR ▸ done)
    else (finish ASM_OPERAND_EXPR ▸ done))

-- a path, which may stand in parentheses
unfoldable pub asm_sym : Script Rule
asm_sym = test (is_at L_PAREN) (token L_PAREN ▸ call type_path ▸ expect R_PAREN ▸ done) (call type_path ▸ done)

-- what follows a direction, and this script where there is none
abbrev pub by_way : Outcome → Script Rule → Script Rule
by_way nothing s = s
by_way something s = call (reg_operand false) ▸ finish ASM_REG_OPERAND ▸ done
by_way block s = call (reg_operand true) ▸ finish ASM_REG_OPERAND ▸ done
by_way (again a b) s = s

-- an operand without its name, if one comes next
unfoldable pub asm_operand : Script Rule
asm_operand =
    start ▸
    after dir_spec (λ way.
    by_way way
    (choose
    ((reads_as LABEL_KW, bear LABEL_KW ▸ call block_expr ▸ finish ASM_LABEL ▸ done)
    ∷ (is_at CONST_KW, token CONST_KW ▸ call expr ▸ finish ASM_CONST ▸ done)
    ∷ (reads_as SYM_KW, bear SYM_KW ▸ call asm_sym ▸ finish ASM_SYM ▸ done)
    ∷ [])
    (abandon ▸ give nothing)))

-- what stands in the place of an operand
unfoldable pub missing_operand : Script Rule
missing_operand =
    test (is_at L_CURLY) (report (codes "expected asm operand") ▸ call expr ▸ done)
    (skip (codes "expected asm operand") ▸ done)

-- no operand comes next: a template, where one may still follow, and else a message
unfoldable pub no_operand : Bool → Script Rule
no_operand allow_templates =
    if allow_templates then call asm_template ▸ give (again true false)
    else (call missing_operand ▸ test (is_at R_CURLY) done (give (again false false)))

-- whether templates may follow a name
abbrev pub templates_after : Bool → Outcome → Bool
templates_after allow_templates nothing = allow_templates
templates_after allow_templates something = false
templates_after allow_templates block = false
templates_after allow_templates (again a b) = false

-- an operand with its name, or what stands in its place, from its node on
unfoldable pub named_operand : Bool → Script Rule
named_operand allow_templates =
    after operand_name (λ named.
    after asm_operand (λ v.
    if_some v (finish ASM_OPERAND_NAMED ▸ give (again false false))
    (abandon ▸ no_operand (templates_after allow_templates named))))

-- what stands after a comma: the ABIs whose registers are lost, options, an operand, or a template
unfoldable pub asm_piece : Bool → Script Rule
asm_piece allow_templates =
    start ▸ call outer_attrs ▸
    choose
    ((
      reads_as CLOBBER_ABI_KW,
      bear CLOBBER_ABI_KW ▸ call parse_clobber_abi ▸ finish ASM_CLOBBER_ABI ▸ give (again false false),
    )
    ∷ (reads_as OPTIONS_KW, bear OPTIONS_KW ▸ call parse_options ▸ finish ASM_OPTIONS ▸ give (again false false))
    ∷ [])
    (named_operand allow_templates)

-- the next turn, if templates may follow or not, or the end
abbrev pub of_allow : Option Bool → Outcome
of_allow None = something
of_allow (Some allow_templates) = again allow_templates false

abbrev pub pieces_turn : Bool → Bool → Script Rule
pieces_turn allow_templates b =
    choose
    ((is_at EOF, done)
    ∷ (is_at R_PAREN, done)
    ∷ [])
    (expect COMMA ▸ test (is_at R_PAREN) done (asm_piece allow_templates))

unfoldable pub asm_pieces : Script Rule
asm_pieces = loop pieces_turn true false

-- inline assembly, after its name
unfoldable pub parse_asm_expr : Script Rule
parse_asm_expr = expect L_PAREN ▸ call asm_template ▸ call asm_pieces ▸ expect R_PAREN ▸ finish ASM_EXPR ▸ done
