-- Settings in one sequence, as the writer sends them.
use Rattle.std.specs.Prelude.{ℕ, Bool, true, false, not, ◌&&◌, List, [], ◌∷◌, ◌++◌, codes, flat_map, if◌then◌else◌}
use Rattle.tui_cells.specs.declared.attributes.Attributes.{Attributes}
use Rattle.tui_cells.specs.declared.color.Color.{Color}
use Rattle.tui_terminal_model.specs.Pens.{background_added, has, has_name, marks_of}
use Rattle.tui_terminal_model.specs.Encoding.{csi, next_setting_text, setting_text}
use Rattle.tui_terminal_model.specs.Terminal.{Pen, Setting}

-- the pen of attributes whose colours are already converted to the depth
abbrev pub sent_pen : Attributes → Pen
sent_pen a = record { fg = a.fg; bg = a.bg; marks = marks_of a.modifier.bits }

-- what comes before a setting: the beginning of the sequence, or the separator
abbrev pub lead : Bool → List ℕ
lead true = codes ";"
lead false = csi

-- the bytes of some settings, in a sequence that has begun, or that begins with the first of them
abbrev pub settings_text : Bool → List Setting → List ℕ
settings_text begun [] = []
settings_text begun (s ∷ ss) = lead begun ++ (setting_text s ++ flat_map next_setting_text ss)

-- whether the sequence has begun after them
abbrev pub begun_after : Bool → List Setting → Bool
begun_after begun [] = begun
begun_after begun (s ∷ ss) = true

-- the end of a sequence, if it has begun
abbrev pub end_text : Bool → List ℕ
end_text begun = if begun then codes "m" else []

-- whether a modifier is set in the new bits and not in the old ones
abbrev pub is_added : ℕ → ℕ → ℕ → Bool
is_added was is one = not (has was one) && has is one

-- a background colour, if it has a name
abbrev pub named_added : Color → Color → List Setting
named_added was is = if has_name is then background_added was is else []
