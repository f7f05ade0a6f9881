-- Characters that are tokens of their own.
use Rattle.std.proofs.Common.{◌≡◌, ℕ, List, ◌∷◌, ◌==◌, ◌||◌, false, nat_le, refl, ap}
use Rattle.std.specs.Str.{byte}
use Rattle.unicode_ident.specs.Ident.{is_xid_start}
use Rattle.rap_base.specs.declared.edition.Edition.{Edition}
use Rattle.rap_lexer.specs.Class.{is_in}
use Rattle.rap_lexer.specs.First.{First, single_kind}
use Rattle.rap_lexer.specs.Lexeme.{plain}
use Rattle.rap_lexer.specs.declared.lexer.run.Class.TheVariants.{White, Digit}

-- the character is a token of this kind, whatever follows it
abbrev Alone : ℕ → ℕ → Type 0
Alone c kind = (edition : Edition) (cs : List ℕ) → First edition (c ∷ cs) (plain kind) cs

-- an ASCII character that is in no class of a longer token's first characters
pub single : (c kind : ℕ) → is_in White c ≡ false → ((c == byte "_") || is_xid_start c) ≡ false → is_in Digit c ≡ false → (c == byte "/") ≡ false → (c == byte "'") ≡ false
    → (c == byte "\"") ≡ false → (c == byte "#") ≡ false → nat_le 0x80 c ≡ false → kind ≡ single_kind c → Alone c kind
single c kind white letter digit slash tick quote hash small is edition cs =
    let same : plain kind ≡ plain (single_kind c) = ap plain is in
    rw (white, letter, digit, slash, tick, quote, hash, small) (rw (slash, hash) at same, refl)
