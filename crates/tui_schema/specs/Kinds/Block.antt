-- Blocks: objects whose members may all be left out.
use Rattle.std.specs.Prelude.{List, [], Option, Some, unwrap_or, codes}
use Rattle.serde_json.specs.Data.{Data}
use Rattle.serde_json.specs.Find.{as_object}
use Rattle.tui_cells.specs.declared.style.Style.{Style}
use Rattle.tui_cells.specs.declared.merge_strategy.MergeStrategy.TheVariants.{Replace}
use Rattle.tui_text.specs.declared.alignment.Alignment.{Alignment}
use Rattle.tui_text.specs.declared.alignment.Alignment.TheVariants.{Left}
use Rattle.tui_frames.specs.Block.{BlockData, TitleData}
use Rattle.tui_frames.specs.Borders.{borders_of}
use Rattle.tui_frames.specs.BorderType.{symbols_of}
use Rattle.tui_frames.specs.Padding.{no_padding}
use Rattle.tui_frames.specs.declared.border_type.BorderType.{BorderType}
use Rattle.tui_frames.specs.declared.border_type.BorderType.TheVariants.{Plain}
use Rattle.tui_frames.specs.declared.borders.Borders.{Borders}
use Rattle.tui_frames.specs.declared.padding.Padding.{Padding}
use Rattle.tui_frames.specs.declared.title_position.TitlePosition.{TitlePosition}
use Rattle.tui_frames.specs.declared.title_position.TitlePosition.TheVariants.{Top}
use Rattle.tui_schema.specs.Kinds.Borders.{sides_of}
use Rattle.tui_json.specs.Members.{◌>>=◌, list_of, optional_member}
use Rattle.tui_json.specs.Named.{named_of}
use Rattle.tui_json.specs.Names.{merge_strategies}
use Rattle.tui_schema.specs.Kinds.Names.{alignments, border_types, title_positions}
use Rattle.tui_schema.specs.Kinds.Padding.{padding_of}
use Rattle.tui_schema.specs.Kinds.Shadow.{shadow_of}
use Rattle.tui_schema.specs.Kinds.Style.{style_member}
use Rattle.tui_schema.specs.Kinds.Title.{title_of}

-- the borders: their sides, kind and style
unfoldable pub borders_in : Data → Option (Borders × BorderType × Style)
borders_in d = do
  borders ← optional_member sides_of (codes "borders") d
  kind ← optional_member (named_of border_types) (codes "border_type") d
  style ← style_member (codes "border_style") d
  Some (unwrap_or borders (borders_of 0), unwrap_or kind Plain, style)

-- the style and the padding
unfoldable pub space_in : Data → Option (Style × Padding)
space_in d = do
  style ← style_member (codes "style") d
  padding ← optional_member padding_of (codes "padding") d
  Some (style, unwrap_or padding no_padding)

-- the titles, and their style, alignment and position
unfoldable pub titles_in : Data → Option (List TitleData × Style × Alignment × TitlePosition)
titles_in d = do
  titles ← optional_member (list_of title_of) (codes "titles") d
  style ← style_member (codes "title_style") d
  alignment ← optional_member (named_of alignments) (codes "title_alignment") d
  position ← optional_member (named_of title_positions) (codes "title_position") d
  Some (unwrap_or titles [], style, unwrap_or alignment Left, unwrap_or position Top)

unfoldable pub block_of : Data → Option BlockData
block_of d = do
  members ← as_object d
  borders ← borders_in d
  space ← space_in d
  titles ← titles_in d
  strategy ← optional_member (named_of merge_strategies) (codes "merge_borders") d
  shadow ← optional_member shadow_of (codes "shadow") d
  Some (record {
    titles = titles.0;
    title_style = titles.1;
    title_alignment = titles.2;
    title_position = titles.3;
    borders = borders.0;
    symbols = symbols_of borders.1;
    border_style = borders.2;
    style = space.0;
    padding = space.1;
    strategy = unwrap_or strategy Replace;
    shadow = shadow;
  })
