-- What is wrong with a value, in words.
use Rattle.std.specs.Prelude.{ℕ, List, [], ◌∷◌, ◌++◌, length, nat_le, Option, Some, None, codes, decimal, if◌then◌else◌}
use Rattle.serde_json.specs.Data.{Data, null, boolean, number, string, array, object}
use Rattle.serde_json.specs.Events.{items_len}
use Rattle.serde_json.specs.Written.{compact_text, has_float}
use Rattle.tui_json.specs.Faults as faults
use Rattle.tui_json.specs.Faults.{FaultData, StepData, WantedData, index, key}

-- a path and one more step: `.name` to a member, or `[i]` to a value of an array
abbrev pub with_step : List ℕ → StepData → List ℕ
with_step [] (key name) = name
with_step (c ∷ cs) (key name) = (c ∷ cs) ++ (codes "." ++ name)
with_step path (index i) = path ++ (codes "[" ++ (decimal i ++ codes "]"))

-- the path of these steps, the last one first, such as `fields[0].kind`
unfoldable pub path_text : List StepData → List ℕ
path_text [] = []
path_text (step ∷ before) = with_step (path_text before) step

-- the input itself has no path
abbrev pub place_text : List StepData → List ℕ
place_text [] = codes "the input"
place_text (step ∷ before) = path_text (step ∷ before)

abbrev pub wanted_text : WantedData → List ℕ
wanted_text (faults.words text) = text
wanted_text (faults.number least most) = codes "a whole number from " ++ (decimal least ++ (codes " to " ++ decimal most))
wanted_text (faults.text least most) = codes "a string of " ++ (decimal least ++ (codes " to " ++ (decimal most ++ codes " bytes")))
wanted_text (faults.values least most of) =
    codes "an array of " ++ (decimal least ++ (codes " to " ++ (decimal most ++ (codes " " ++ of))))

-- the longest string that is shown, in bytes
abbrev pub longest : ℕ
longest = 64

-- a value: `the string "a"`, `the number 5`, `true`, `null`, or how long it is
abbrev pub found_text : Data → List ℕ
found_text null = codes "null"
found_text (boolean b) = compact_text (boolean b)
found_text (number n) =
    if has_float (number n) then codes "a number with a fraction or an exponent" else codes "the number " ++ compact_text (number n)
found_text (string s) =
    if nat_le (length s) longest then codes "the string " ++ compact_text (string s) else codes "a string of " ++ (decimal (length s) ++ codes " bytes")
found_text (array ds) = codes "an array of length " ++ decimal (items_len ds)
found_text (object ms) = codes "an object"

-- where it is, what is wanted there, and what is there
unfoldable pub explanation : FaultData → List ℕ
explanation fault = by_found fault.found
  where
    by_found : Option Data → List ℕ
    by_found (Some d) = place_text fault.steps ++ (codes ": expected " ++ (wanted_text fault.wanted ++ (codes ", found " ++ found_text d)))
    by_found None = place_text fault.steps ++ (codes " is missing; expected " ++ wanted_text fault.wanted)
