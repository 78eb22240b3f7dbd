-- Destinations that are open at a place.
use Rattle.std.specs.Prelude.{◌≡◌, ℕ, List, Option, None, Some}
use Rattle.tui_io.specs.Causes.{Observed}
use Rattle.tui_system.specs.Places.{PlaceData, errors, file, output}
use Rattle.tui_system.specs.declared.opened.Opened.{Opened}
use Rattle.tui_system.specs.declared.opened.Opened.TheVariants as opened

-- a destination that is open at a place, with this content
abbrev pub IsOpened : {A : Type 0} → (A → Observed) → (A → PlaceData → Type 0) → PlaceData → Observed → Type 0
IsOpened {A} observed is_open_at place old = (a : A) × (observed a ≡ old) × is_open_at a place

-- the place of what a system has opened; `name_of` gives the name of a file
abbrev pub IsAtPlace : {W E F : Type 0} → (F → List ℕ) → Opened W E F → PlaceData → Type 0
IsAtPlace name_of (opened.Output sink) output = Unit {0}
IsAtPlace name_of (opened.Errors sink) errors = Unit {0}
IsAtPlace name_of (opened.File f) (file name) = name_of f ≡ name
IsAtPlace name_of other place = ⊥

-- what opening a place gives: something at this place; a file may fail to open
abbrev pub OpensAt : {W E F : Type 0} → (F → List ℕ) → PlaceData → Option (Opened W E F) → Type 0
OpensAt name_of place (Some opened) = IsAtPlace name_of opened place
OpensAt name_of (file name) None = Unit {0}
OpensAt name_of place None = ⊥

-- what is observable of it
abbrev pub opened_observed : {W E F : Type 0} → (W → Observed) → (E → Observed) → (F → Observed) → Opened W E F → Observed
opened_observed of_output of_errors of_file (opened.Output sink) = of_output sink
opened_observed of_output of_errors of_file (opened.Errors sink) = of_errors sink
opened_observed of_output of_errors of_file (opened.File f) = of_file f
