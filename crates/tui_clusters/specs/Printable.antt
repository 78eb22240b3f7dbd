-- Printable ASCII characters.
use Rattle.std.specs.Prelude.{ℕ, Bool, ◌&&◌, nat_le}

-- U+0020 to U+007E
abbrev pub is_printable : ℕ → Bool
is_printable byte = nat_le 32 byte && nat_le byte 126
