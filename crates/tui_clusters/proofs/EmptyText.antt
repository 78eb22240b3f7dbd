-- The clusters of the empty text.
use Rattle.std.proofs.Common.{◌≡◌, ℕ, List, [], ◌∷◌, ap, map, filter, length, true, arith}
use Rattle.std.specs.Prelude.{encode_utf8_all}
use Rattle.std.proofs.lemmas.Str.{chars-nil}
use Rattle.unicode_segmentation.specs.Grapheme.{graphemes, is_grapheme_break}
use Rattle.unicode_segmentation.specs.Segments.{segments, cut}
use Rattle.tui_clusters.specs.Shown.{clusters, is_shown}

pub graphemes-nil : graphemes true [] ≡ []
unfolding segments cut
graphemes-nil = ap (λ cs. map encode_utf8_all (cut (is_grapheme_break true) [] cs [])) chars-nil

pub clusters-nil : clusters [] ≡ []
clusters-nil = ap (filter is_shown) graphemes-nil

pub clusters-none : (text : List ℕ) → length text ≡ 0 → clusters text ≡ []
clusters-none [] e = clusters-nil
clusters-none (b ∷ bs) e = absurd (omega (arith, e))
