-- White space.
use Rattle.std.specs.Prelude.{ℕ, Bool, ◌||◌, ◌&&◌, ◌==◌, nat_le}

-- white space in Rust: U+0009 to U+000D, U+0020, U+0085, U+200E, U+200F, U+2028, U+2029
abbrev pub is_rust_whitespace : ℕ → Bool
is_rust_whitespace c =
    (nat_le 0x9 c && nat_le c 0xd) || (c == 0x20) || (c == 0x85) || (c == 0x200e) || (c == 0x200f) || (c == 0x2028) ||
    (c == 0x2029)
