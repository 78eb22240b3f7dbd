-- The initial value of a field, as plain data.
use Rattle.tui_form_lib.specs.Value.{value_data}
use Rattle.tui_form_run.specs.Input.{Filled}
use Rattle.tui_form_run.specs.declared.filled.Filled as code

-- whether the field is needed, and its initial value
abbrev pub filled_data : code.Filled → Filled
filled_data filled = (filled.is_needed, value_data filled.value)
