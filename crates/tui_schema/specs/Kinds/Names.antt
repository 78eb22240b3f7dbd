-- The names that enums are read by.
use Rattle.std.specs.Prelude.{[], ◌∷◌, refl}
use Rattle.tui_bars.specs.RenderDirection as render_direction
use Rattle.tui_bars.specs.declared.render_direction.RenderDirection.{RenderDirection}
use Rattle.tui_bars.specs.declared.render_direction.RenderDirection.TheVariants.{LeftToRight, RightToLeft}
use Rattle.tui_frames.specs.BorderType as border_type
use Rattle.tui_frames.specs.TitlePosition as title_position
use Rattle.tui_frames.specs.declared.border_type.BorderType.{BorderType}
use Rattle.tui_frames.specs.declared.border_type.BorderType.TheVariants as borders
use Rattle.tui_frames.specs.declared.title_position.TitlePosition.{TitlePosition}
use Rattle.tui_frames.specs.declared.title_position.TitlePosition.TheVariants.{Top, Bottom}
use Rattle.tui_lists.specs.ListDirection as list_direction
use Rattle.tui_lists.specs.Orientation as orientation
use Rattle.tui_lists.specs.declared.direction.ListDirection.{ListDirection}
use Rattle.tui_lists.specs.declared.direction.ListDirection.TheVariants.{TopToBottom, BottomToTop}
use Rattle.tui_lists.specs.declared.scrollbar.orientation.ScrollbarOrientation.{ScrollbarOrientation}
use Rattle.tui_lists.specs.declared.scrollbar.orientation.ScrollbarOrientation.TheVariants.{VerticalRight, VerticalLeft, HorizontalBottom, HorizontalTop}
use Rattle.tui_para.specs.Size as size
use Rattle.tui_para.specs.declared.size.Size.{Size}
use Rattle.tui_para.specs.declared.size.Size.TheVariants.{Tiny, Small}
use Rattle.tui_text.specs.Alignment as alignment
use Rattle.tui_text.specs.declared.alignment.Alignment.{Alignment}
use Rattle.tui_text.specs.declared.alignment.Alignment.TheVariants.{Left, Center, Right}
use Rattle.tui_json.specs.Named.{Names}

-- the names of all alignments; the same for the enums below
abbrev pub alignments : Names Alignment
alignments = record {
  name = alignment.name_of;
  values = Left ∷ Center ∷ Right ∷ [];
  found = elim [ Left ↦ refl | Center ↦ refl | Right ↦ refl ];
}

abbrev pub border_types : Names BorderType
border_types = record {
  name = border_type.name_of;
  values = borders.Plain ∷ borders.Rounded ∷ borders.Double ∷ borders.Thick ∷ borders.LightDoubleDashed ∷ borders.HeavyDoubleDashed
      ∷ borders.LightTripleDashed ∷ borders.HeavyTripleDashed ∷ borders.LightQuadrupleDashed ∷ borders.HeavyQuadrupleDashed
      ∷ borders.QuadrantInside ∷ borders.QuadrantOutside ∷ [];
  found = elim [
    | borders.Plain ↦ refl
    | borders.Rounded ↦ refl
    | borders.Double ↦ refl
    | borders.Thick ↦ refl
    | borders.LightDoubleDashed ↦ refl
    | borders.HeavyDoubleDashed ↦ refl
    | borders.LightTripleDashed ↦ refl
    | borders.HeavyTripleDashed ↦ refl
    | borders.LightQuadrupleDashed ↦ refl
    | borders.HeavyQuadrupleDashed ↦ refl
    | borders.QuadrantInside ↦ refl
    | borders.QuadrantOutside ↦ refl
  ];
}

abbrev pub title_positions : Names TitlePosition
title_positions = record {
  name = title_position.name_of;
  values = Top ∷ Bottom ∷ [];
  found = elim [ Top ↦ refl | Bottom ↦ refl ];
}

abbrev pub list_directions : Names ListDirection
list_directions = record {
  name = list_direction.name_of;
  values = TopToBottom ∷ BottomToTop ∷ [];
  found = elim [ TopToBottom ↦ refl | BottomToTop ↦ refl ];
}

abbrev pub orientations : Names ScrollbarOrientation
orientations = record {
  name = orientation.name_of;
  values = VerticalRight ∷ VerticalLeft ∷ HorizontalBottom ∷ HorizontalTop ∷ [];
  found = elim [ VerticalRight ↦ refl | VerticalLeft ↦ refl | HorizontalBottom ↦ refl | HorizontalTop ↦ refl ];
}

abbrev pub render_directions : Names RenderDirection
render_directions = record {
  name = render_direction.name_of;
  values = LeftToRight ∷ RightToLeft ∷ [];
  found = elim [ LeftToRight ↦ refl | RightToLeft ↦ refl ];
}

abbrev pub sizes : Names Size
sizes = record {
  name = size.name_of;
  values = Tiny ∷ Small ∷ [];
  found = elim [ Tiny ↦ refl | Small ↦ refl ];
}
