-- Blanks, at which lines may break.
use Rattle.std.specs.Prelude.{ℕ, Bool, List, [], ◌∷◌, nat_eq, ◌&&◌, ◌||◌, not, chars}
use Rattle.std.specs.Char.{is_whitespace}
use Rattle.std.specs.Cmp.Lexicographic.{pointwise}
use Rattle.std.specs.List.{list_all}

-- U+200B, the zero-width space, in UTF-8
abbrev pub zero_width_space : List ℕ
zero_width_space = 0xe2 ∷ 0x80 ∷ 0x8b ∷ []

-- U+00A0, the no-break space, in UTF-8
abbrev pub no_break_space : List ℕ
no_break_space = 0xc2 ∷ 0xa0 ∷ []

-- U+200B, or only white space that is not exactly U+00A0; an empty text is a blank too
unfoldable pub is_blank_text : List ℕ → Bool
is_blank_text text = pointwise nat_eq text zero_width_space || (list_all is_whitespace (chars text) && not (pointwise nat_eq text no_break_space))
