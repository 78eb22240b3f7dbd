-- A block as plain data.
use Rattle.std.specs.Prelude.{ℕ, List, [], map, Option, None, option_map}
use Rattle.tui_cells.specs.declared.merge_strategy.MergeStrategy.{MergeStrategy}
use Rattle.tui_cells.specs.declared.merge_strategy.MergeStrategy.TheVariants.{Replace}
use Rattle.tui_cells.specs.declared.style.Style.{Style}
use Rattle.tui_cells.specs.Style.{no_style}
use Rattle.tui_cells.specs.Symbols.{BorderData, border_data, plain_border}
use Rattle.tui_text.specs.Line.{LineData, line_data}
use Rattle.tui_text.specs.declared.alignment.Alignment.{Alignment}
use Rattle.tui_text.specs.declared.alignment.Alignment.TheVariants.{Left}
use Rattle.tui_frames.specs.Borders.{borders_of}
use Rattle.tui_frames.specs.Padding.{no_padding}
use Rattle.tui_frames.specs.Shadow.{ShadowData, shadow_data}
use Rattle.tui_frames.specs.declared.block.Block.{Block}
use Rattle.tui_frames.specs.declared.block.title.Title.{Title}
use Rattle.tui_frames.specs.declared.borders.Borders.{Borders}
use Rattle.tui_frames.specs.declared.padding.Padding.{Padding}
use Rattle.tui_frames.specs.declared.title_position.TitlePosition.{TitlePosition}
use Rattle.tui_frames.specs.declared.title_position.TitlePosition.TheVariants.{Top}

-- a title, and the side on which it is placed, if it has one of its own
pub record TitleData : Type 0 where
  pub line : LineData
  pub position : Option TitlePosition

-- a block as plain data
pub record BlockData : Type 0 where
  pub titles : List TitleData
  pub title_style : Style
  pub title_alignment : Alignment
  pub title_position : TitlePosition
  pub borders : Borders
  pub border_style : Style
  pub symbols : BorderData
  pub style : Style
  pub padding : Padding
  pub strategy : MergeStrategy
  pub shadow : Option ShadowData

-- a title of the code as plain data
abbrev pub title_data : Title → TitleData
title_data t = record { line = line_data t.line; position = t.position }

-- a block of the code as plain data
abbrev pub block_data : Block → BlockData
block_data b = record {
  titles = map title_data b.titles.items;
  title_style = b.title_style;
  title_alignment = b.title_alignment;
  title_position = b.title_position;
  borders = b.borders;
  border_style = b.border_style;
  symbols = border_data b.border_set;
  style = b.style;
  padding = b.padding;
  strategy = b.merge_borders;
  shadow = option_map shadow_data b.shadow;
}

-- a block with a set of borders and nothing else
abbrev pub block_of : ℕ → BlockData
block_of sides = record {
  titles = [];
  title_style = no_style;
  title_alignment = Left;
  title_position = Top;
  borders = borders_of sides;
  border_style = no_style;
  symbols = plain_border;
  style = no_style;
  padding = no_padding;
  strategy = Replace;
  shadow = None;
}
