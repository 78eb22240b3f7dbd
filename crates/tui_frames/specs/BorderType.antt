-- The names and the symbols of the kinds of borders.
use Rattle.std.specs.Prelude.{ℕ, List, codes}
use Rattle.tui_cells.specs.Symbols.{
  BorderData,
  double_border,
  heavy_double_dashed_border,
  heavy_quadruple_dashed_border,
  heavy_triple_dashed_border,
  light_double_dashed_border,
  light_quadruple_dashed_border,
  light_triple_dashed_border,
  plain_border,
  quadrant_inside_border,
  quadrant_outside_border,
  rounded_border,
  thick_border,
}
use Rattle.tui_frames.specs.declared.border_type.BorderType.{BorderType}
use Rattle.tui_frames.specs.declared.border_type.BorderType.TheVariants as kinds

-- the name of a variant
abbrev pub name_of : BorderType → List ℕ
name_of kinds.Plain = codes "Plain"
name_of kinds.Rounded = codes "Rounded"
name_of kinds.Double = codes "Double"
name_of kinds.Thick = codes "Thick"
name_of kinds.LightDoubleDashed = codes "LightDoubleDashed"
name_of kinds.HeavyDoubleDashed = codes "HeavyDoubleDashed"
name_of kinds.LightTripleDashed = codes "LightTripleDashed"
name_of kinds.HeavyTripleDashed = codes "HeavyTripleDashed"
name_of kinds.LightQuadrupleDashed = codes "LightQuadrupleDashed"
name_of kinds.HeavyQuadrupleDashed = codes "HeavyQuadrupleDashed"
name_of kinds.QuadrantInside = codes "QuadrantInside"
name_of kinds.QuadrantOutside = codes "QuadrantOutside"

-- the symbols of a kind
abbrev pub symbols_of : BorderType → BorderData
symbols_of kinds.Plain = plain_border
symbols_of kinds.Rounded = rounded_border
symbols_of kinds.Double = double_border
symbols_of kinds.Thick = thick_border
symbols_of kinds.LightDoubleDashed = light_double_dashed_border
symbols_of kinds.HeavyDoubleDashed = heavy_double_dashed_border
symbols_of kinds.LightTripleDashed = light_triple_dashed_border
symbols_of kinds.HeavyTripleDashed = heavy_triple_dashed_border
symbols_of kinds.LightQuadrupleDashed = light_quadruple_dashed_border
symbols_of kinds.HeavyQuadrupleDashed = heavy_quadruple_dashed_border
symbols_of kinds.QuadrantInside = quadrant_inside_border
symbols_of kinds.QuadrantOutside = quadrant_outside_border
