-- The format of the arguments that name a file.
use Rattle.std.proofs.Common.{◌≡◌, ℕ, List, [], ◌∷◌, length, codes, String, Global, string_bytes, sym, ap, ◌∙◌}
use Rattle.std.proofs.lemmas.List.{length-map}
use Rattle.tui_browse_run.specs.Arguments.{HaveFormat, NamesFile}
use Rattle.tui_browse_run.specs.declared.format.Format.{Format}
use Rattle.tui_browse_run.specs.declared.format.Format.TheVariants.{Entries, Text}
use Rattle.tui_program.specs.Arguments.{AreTexts}

count_of : (texts : List (List ℕ)) (arguments : List (String Global)) → AreTexts texts arguments → length arguments ≡ length texts
count_of texts arguments are = sym (length-map arguments string_bytes) ∙ ap length are

-- arguments that name a file have its format
pub format_of_named : (format : Format) (file : String Global) (arguments : List (String Global)) → NamesFile format file arguments → HaveFormat format arguments
format_of_named Entries file arguments named = count_of (string_bytes file ∷ []) arguments named
format_of_named Text file arguments named = (string_bytes file ∷ [], named, count_of (codes "--text" ∷ string_bytes file ∷ []) arguments named)
