-- Where a rejected form has the value that is not valid, and what that should be.
use Rattle.std.specs.Prelude.{ℕ, Option, Some, None, codes, map}
use Rattle.std.specs.Option.{option_or}
use Rattle.serde_json.specs.Data.{Data}
use Rattle.serde_json.specs.Find.{as_bool, as_str}
use Rattle.tui_form_run.specs.Input.{name_text, texts_of}
use Rattle.tui_form_run.specs.Kinds.{kinds}
use Rattle.tui_form_run.specs.declared.bad_form.BadForm.{BadForm}
use Rattle.tui_form_run.specs.declared.field_kind.FieldKind.{FieldKind}
use Rattle.tui_form_run.specs.declared.field_kind.FieldKind.TheVariants.{Text, Choice, Check}
use Rattle.tui_form_run.specs.declared.key.FormKey.{FormKey}
use Rattle.tui_form_run.specs.declared.key.FormKey.TheVariants as keys
use Rattle.tui_json.specs.Faults.{FaultData, WantedData, elements_fault, fault_of, inside_at, member_fault, no_parts, not_allowed, number, optional_member_fault, text, values, words}
use Rattle.tui_json.specs.Members.{member}
use Rattle.tui_json.specs.Named.{listed_names, named_of}
use Rattle.tui_json.specs.Number.{within}
use Rattle.tui_json.specs.Objects.{object_of, objects_within}

-- ---- what the values are

abbrev pub a_string : WantedData
a_string = words (codes "a string")

abbrev pub string_fault : Data → Option FaultData
string_fault = fault_of as_str a_string no_parts

abbrev flag_fault : Data → Option FaultData
flag_fault = fault_of as_bool (words (codes "true or false")) no_parts

abbrev pub a_kind : WantedData
a_kind = words (listed_names (map kinds.name kinds.values))

abbrev some_texts : WantedData
some_texts = values 1 100 (codes "strings")

abbrev pub some_fields : WantedData
some_fields = values 1 64 (codes "objects")

abbrev pub object_fault : Data → Option FaultData
object_fault = fault_of object_of (words (codes "an object")) no_parts

-- ---- keys

-- a key of the form
abbrev pub key_fault : FormKey → Data → Option FaultData
key_fault keys.Title = member_fault a_string string_fault (codes "title")
key_fault keys.Fields = member_fault some_fields (fault_of (objects_within 1 64) some_fields (elements_fault object_fault)) (codes "fields")
key_fault other = λ d. None

-- the value of a field of a kind
abbrev pub value_fault : Option FieldKind → Data → Option FaultData
value_fault (Some Check) d = optional_member_fault flag_fault (codes "value") d
value_fault (Some Text) d = optional_member_fault string_fault (codes "value") d
value_fault (Some Choice) d = option_or (optional_member_fault string_fault (codes "value") d)
    (not_allowed (words (codes "one of the strings in `of`")) (codes "value") d)
value_fault None d = None

-- a key of a field
abbrev pub field_fault : FormKey → Data → Option FaultData
field_fault keys.Name d = option_or (member_fault (text 1 64) (fault_of name_text (text 1 64) no_parts) (codes "name") d)
    (not_allowed (words (codes "a name that no field before it has")) (codes "name") d)
field_fault keys.Label d = member_fault a_string string_fault (codes "label") d
field_fault keys.Kind d = member_fault a_kind (fault_of (named_of kinds) a_kind no_parts) (codes "kind") d
field_fault keys.Most d = optional_member_fault (fault_of (within 1 1000) (number 1 1000) no_parts) (codes "most") d
field_fault keys.Mask d = optional_member_fault flag_fault (codes "mask") d
field_fault keys.Needed d = optional_member_fault flag_fault (codes "needed") d
field_fault keys.Of d = member_fault some_texts (fault_of texts_of some_texts (elements_fault string_fault)) (codes "of") d
field_fault keys.Value d = value_fault (member (named_of kinds) (codes "kind") d) d
field_fault other d = None

-- the value that is not valid
abbrev pub form_fault : BadForm → Data → Option FaultData
form_fault bad d = by_place bad.at
  where
    by_place : Option ℕ → Option FaultData
    by_place None = key_fault bad.key d
    by_place (Some i) = inside_at (codes "fields") i (field_fault bad.key) d
