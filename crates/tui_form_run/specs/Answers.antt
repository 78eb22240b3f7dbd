-- The answers of a form as JSON.
use Rattle.std.specs.Prelude.{ℕ, List, [], ◌∷◌, ◌++◌, Result, Ok, Err}
use Rattle.json.specs.Json.{Json, Members, boolean, member, no_members, object, string}
use Rattle.json.specs.Print.{print}
use Rattle.json.specs.Token.{Token, key}
use Rattle.json.specs.Tree.{json_tokens}
use Rattle.tui_form_lib.specs.Field.{FieldData, Reply, answer_of, flag_reply, text_reply}
use Rattle.tui_io.specs.Causes.{WritesAll, WritesPrefix, Observed}
use Rattle.tui_io.specs.Texts.{newline}
use Rattle.tui_program.specs.Transcript.{Unwritten}
use Rattle.tui_program.specs.declared.stop.Stop.{Stop}
use Rattle.tui_program.specs.declared.stop.Stop.TheVariants as stop

-- a text as a string, and a checked or unchecked box as `true` or `false`
abbrev pub json_of : Reply → Json
json_of (text_reply text) = string text
json_of (flag_reply flag) = boolean flag

-- the members of an object: the name and the answer of each field, in order
abbrev pub members_of : List FieldData → Members
members_of [] = no_members
members_of (f ∷ fs) = member f.name (json_of (answer_of f.value)) (members_of fs)

-- the tokens of a field in it, and of the whole object
abbrev pub answer_tokens : FieldData → List Token
answer_tokens f = key f.name ∷ json_tokens (json_of (answer_of f.value))

abbrev pub answers_tokens : List FieldData → List Token
answers_tokens fields = json_tokens (object (members_of fields))

-- the text of that object, without spaces between its parts
abbrev pub answers_text : List FieldData → List ℕ
answers_text fields = print (answers_tokens fields)

-- and as a line
abbrev pub answers_line : List FieldData → List ℕ
answers_line fields = answers_text fields ++ newline

-- how the answers were written: as a line; or as the first part of it, if a write failed; or not at all, if memory ran
-- out
abbrev pub WritesAnswersLine : {R : Type 0} → List FieldData → Observed → Observed → Result (Unit {0}) (Stop R) → Type 0
WritesAnswersLine fields old new (Ok x) = WritesAll old new (answers_line fields)
WritesAnswersLine fields old new (Err stop.WriteFault) = WritesPrefix old new (answers_line fields)
WritesAnswersLine fields old new (Err stop.NoMemory) = Unwritten old new
WritesAnswersLine fields old new (Err other) = ⊥
