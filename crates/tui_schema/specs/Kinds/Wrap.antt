-- How lines are wrapped: an object with the member `trim`, and optionally `hyphens`.
use Rattle.std.specs.Prelude.{Option, Some, codes, unwrap_or, false}
use Rattle.serde_json.specs.Data.{Data}
use Rattle.serde_json.specs.Find.{as_bool}
use Rattle.tui_para.specs.declared.wrap.Wrap.{Wrap}
use Rattle.tui_json.specs.Members.{◌>>=◌, member, optional_member}

unfoldable pub wrap_of : Data → Option Wrap
wrap_of d = do
  trim ← member as_bool (codes "trim") d
  hyphens ← optional_member as_bool (codes "hyphens") d
  Some (record { trim = trim; hyphens = unwrap_or hyphens false })
