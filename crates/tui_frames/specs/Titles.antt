-- Where the titles of a block are placed.
use Rattle.std.specs.Prelude.{ℕ, ◌+◌, ◌-◌, min, Bool, true, false, ◌&&◌, List, map, filter, sum_by, unwrap_or}
use Rattle.std.specs.List.{list_any}
use Rattle.tui_cells.specs.Rect.{farthest_edge}
use Rattle.tui_text.specs.Line.{LineData}
use Rattle.tui_text.specs.Width.{line_width}
use Rattle.tui_text.specs.declared.alignment.Alignment.{Alignment}
use Rattle.tui_text.specs.declared.alignment.Alignment.TheVariants.{Left, Center, Right}
use Rattle.tui_frames.specs.Block.{BlockData, TitleData}
use Rattle.tui_frames.specs.declared.block.title.TitlePlace.{TitlePlace}
use Rattle.tui_frames.specs.declared.title_position.TitlePosition.{TitlePosition}
use Rattle.tui_frames.specs.declared.title_position.TitlePosition.TheVariants.{Top, Bottom}

-- whether two sides are the same
abbrev pub same_position : TitlePosition → TitlePosition → Bool
same_position Top Top = true
same_position Bottom Bottom = true
same_position _ _ = false

-- whether two alignments are the same
abbrev pub same_alignment : Alignment → Alignment → Bool
same_alignment Left Left = true
same_alignment Center Center = true
same_alignment Right Right = true
same_alignment _ _ = false

-- whether a title is on a side, by its own position, else by the block's
abbrev pub is_on : BlockData → TitlePosition → TitleData → Bool
is_on b position t = same_position (unwrap_or t.position b.title_position) position

-- whether it belongs in a place of that side, by its line's alignment, else by the block's
abbrev pub is_in : BlockData → TitlePlace → TitleData → Bool
is_in b place t = is_on b place.position t && same_alignment (unwrap_or t.line.alignment b.title_alignment) place.alignment

-- the lines of the titles in a place
abbrev pub titles_in : BlockData → TitlePlace → List TitleData → List LineData
titles_in b place titles = map (λ t. t.line) (filter (is_in b place) titles)

-- whether there is a title on a side
abbrev pub has_title : BlockData → TitlePosition → Bool
has_title b position = list_any (is_on b position) b.titles

-- the columns of a title, cut at 65535
abbrev pub title_width : LineData → ℕ
title_width line = min (line_width false line) farthest_edge

-- the columns of titles with one more for each
abbrev pub spaced : List LineData → ℕ
spaced ts = sum_by (λ t. title_width t + 1) ts

-- the columns of titles with one between two
abbrev pub total : List LineData → ℕ
total ts = spaced ts - 1
