-- How long symbols are.
use Rattle.std.proofs.Common.{◌≡◌, ℕ, ◌+◌, ◌≤◌, Bool, true, false, List, [], ◌∷◌, ◌++◌, OnOk, Result, Ok, Err, codes, length, slice_range, string_bytes, ap, append_assoc, arith}
use Rattle.std.specs.Prelude.{if◌then◌else◌}
use Rattle.std.proofs.lemmas.List.{length-append}
use Rattle.json.specs.Print.{escape}
use Rattle.rast_answers.specs.declared.symbols.Symbol.{Symbol}
use Rattle.rast_document.specs.declared.document.Document.{Document}
use Rattle.rast_server.specs.SymbolLengths.{opened_text, symbol_len}

-- the shorter the name, the shorter the symbol
opened_len : (d : Document) (x : Symbol) (name whole : List ℕ) → length (escape name) ≤ length (escape whole) → length (opened_text d x name) ≤ length (opened_text d x whole)
unfolding opened_text
opened_len d x name whole h = simp length-append (omega (arith, h, length-append (escape name) (34 ∷ []), length-append (escape whole) (34 ∷ [])))

comma_short : (b : Bool) → length (if b then [] else codes ",") ≤ 1
comma_short true = omega arith
comma_short false = omega arith

-- a part that opens a symbol
pub part_len : {A E : Type 0} (r : Result A E) (d : Document) (x : Symbol) (name cleared begun part : List ℕ) (is_first : Bool)
    → length (escape name) ≤ length (escape (slice_range (string_bytes d.text) x.name.start x.name.end)) → cleared ≡ [] → begun ≡ cleared ++ (if is_first then [] else codes ",")
    → OnOk r (part ≡ begun ++ opened_text d x name) → OnOk r (length part + 2 ≤ symbol_len d x)
part_len (Ok a) d x name cleared begun part is_first short none e h =
    omega (
      arith,
      ap length h,
      length-append begun (opened_text d x name),
      ap length e,
      length-append cleared (if is_first then [] else codes ","),
      ap length none,
      comma_short is_first,
      opened_len d x name _ short,
    )
part_len (Err e) d x name cleared begun part is_first short none e' h = tt

-- nine parts are written one after another
pub nine_parts : (j a b c d e f g h i j1 j2 j3 j4 j5 j6 j7 j8 j9 : List ℕ) → j1 ≡ j ++ a → j2 ≡ j1 ++ b → j3 ≡ j2 ++ c → j4 ≡ j3 ++ d → j5 ≡ j4 ++ e → j6 ≡ j5 ++ f
    → j7 ≡ j6 ++ g → j8 ≡ j7 ++ h → j9 ≡ j8 ++ i → j9 ≡ j ++ ((((((((a ++ b) ++ c) ++ d) ++ e) ++ f) ++ g) ++ h) ++ i)
nine_parts j a b c d e f g h i j1 j2 j3 j4 j5 j6 j7 j8 j9 e1 e2 e3 e4 e5 e6 e7 e8 e9 = rw (e9, e8, e7, e6, e5, e4, e3, e2, e1) (simp append_assoc)
