-- Where a rejected input has the value that is not valid, and what that should be.
use Rattle.std.specs.Prelude.{ℕ, ◌++◌, Option, Some, None, codes}
use Rattle.serde_json.specs.Data.{Data}
use Rattle.tui_json.specs.Faults.{FaultData, WantedData, fault_of, inside_at, member_fault, no_parts, number, text, values, words}
use Rattle.tui_json.specs.Members.{elements_within}
use Rattle.tui_json.specs.Number.{within}
use Rattle.tui_json.specs.Text.{short}
use Rattle.tui_pager_run.specs.Input.{call_of}
use Rattle.tui_pager_run.specs.declared.bad_input.BadInput.{BadInput}
use Rattle.tui_pager_run.specs.declared.field.PagerField.{PagerField}
use Rattle.tui_pager_run.specs.declared.field.PagerField.TheVariants as fields

-- a field of the input
abbrev pub field_fault : PagerField → Data → Option FaultData
field_fault fields.Width = member_fault (number 12 200) (fault_of (within 12 200) (number 12 200) no_parts) (codes "width")
field_fault fields.Height = member_fault (number 5 100) (fault_of (within 5 100) (number 5 100) no_parts) (codes "height")
field_fault fields.Entries = member_fault some (fault_of (elements_within 0 1000) some no_parts) (codes "entries")
  where
    some : WantedData
    some = values 0 1000 (codes "values")
field_fault fields.Keys = member_fault some (fault_of (elements_within 0 1000) some no_parts) (codes "keys")
  where
    some : WantedData
    some = values 0 1000 (codes "values")
field_fault other = λ d. None

-- a field of an entry
abbrev pub entry_fault : PagerField → Data → Option FaultData
entry_fault fields.Title = member_fault (text 0 1000) (fault_of (short 1000) (text 0 1000) no_parts) (codes "title")
entry_fault fields.Body = member_fault (text 0 65536) (fault_of (short 65536) (text 0 65536) no_parts) (codes "body")
entry_fault other = λ d. None

-- a key or a size
abbrev pub a_step : WantedData
a_step = words (codes "`Up`, `Down`, `PageUp`, `PageDown`, `First`, `Last`, `LineUp`, `LineDown`, `BodyTop`, `BodyEnd`, "
    ++ codes "or `[columns, rows]` of 12 to 200 columns and 5 to 100 rows")

-- the value that is not valid
abbrev pub input_fault : BadInput → Data → Option FaultData
input_fault bad d = by_place bad.at bad.field
  where
    by_place : Option ℕ → PagerField → Option FaultData
    by_place None field = field_fault field d
    by_place (Some i) fields.Keys = inside_at (codes "keys") i (fault_of call_of a_step no_parts) d
    by_place (Some i) field = inside_at (codes "entries") i (entry_fault field) d
