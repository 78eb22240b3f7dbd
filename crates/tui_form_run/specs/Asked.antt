-- What a run asks with: a form, and the files that the arguments name.
use Rattle.std.specs.Prelude.{◌≡◌, Result, Ok, Err, string_bytes}
use Rattle.tui_form_lib.specs.Form.{FormData, form_data}
use Rattle.tui_form_run.specs.Arguments.{Name}
use Rattle.tui_form_run.specs.Input.{form_of}
use Rattle.tui_form_run.specs.declared.arguments.FormFiles.{FormFiles}
use Rattle.tui_form_run.specs.declared.asked_form.AskedForm.{AskedForm}
use Rattle.tui_form_run.specs.declared.bad_form.BadForm.{BadForm}
use Rattle.tui_program.specs.Input.{MeansJson}
use Rattle.tui_system.specs.Commands.{Reader}

pub record Asked : Type 0 where
  pub files : FormFiles
  pub form : FormData

-- the code's type as plain data
abbrev pub asked_data : AskedForm → Asked
asked_data asked = record { files = asked.files; form = form_data asked.form }

abbrev pub IsAskedWith : Asked → AskedForm → Type 0
IsAskedWith input asked = input ≡ asked_data asked

-- a form, if there is one, with its files
abbrev pub with_files : FormFiles → Result FormData BadForm → Result Asked BadForm
with_files files (Ok form) = Ok (record { files = files; form = form })
with_files files (Err x) = Err x

-- what the program reads: a form in JSON
abbrev pub form_reader : Reader FormFiles Asked BadForm
form_reader = record { named = Name; file = λ files. string_bytes files.form; means = λ files. MeansJson (λ d. with_files files (form_of d)) }
