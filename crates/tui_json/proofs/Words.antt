-- How many values an array has.
use Rattle.std.proofs.Common.{◌≡◌, List, length, sym}
use Rattle.serde_json.specs.Events.{items_len}
use Rattle.serde_json.specs.View.{items_view}
use Rattle.serde_json.specs.declared.value.Value.{Value}
use Rattle.serde_json.proofs.Views.{items_len-items_view}

pub items_length : (vs : List Value) → length vs ≡ items_len (items_view vs)
items_length vs = sym (items_len-items_view vs)
