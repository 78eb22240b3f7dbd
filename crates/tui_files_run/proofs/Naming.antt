-- The command that the arguments after `--folder` name.
use Rattle.std.proofs.Common.{◌≡◌, Bool, true, List, [], ◌∷◌, ◌++◌, Option, None, Some, String, Global, string_bytes, codes, option_to_list, IfSome, MatchOption, sym, subst, ◌∙◌}
use Rattle.tui_files_run.specs.Arguments.{AreNamed, ArePaths, Name}
use Rattle.tui_files_run.specs.declared.arguments.FilesCommand.{FilesCommand}

-- what was left, given the first of it and the others
joined : (first : Option (String Global)) (all rest : List (String Global)) → MatchOption first ((all ≡ []) × (rest ≡ [])) (λ word. all ≡ word ∷ rest) →
    option_to_list first ++ rest ≡ all
joined None all rest steps = steps.1 ∙ sym steps.0
joined (Some word) all rest steps = sym steps

pub after_option : (word : String Global) (folder : Option (String Global)) (arguments paths rest : List (String Global)) (named : Option FilesCommand) →
    arguments ≡ word ∷ paths → string_bytes word ≡ codes "--folder" → MatchOption folder ((paths ≡ []) × (rest ≡ [])) (λ word. paths ≡ word ∷ rest) →
    IfSome named (λ command. command.wants_folder ≡ true) → IfSome named (λ command. ArePaths command.folder command.chosen (option_to_list folder ++ rest)) →
    IfSome named (λ command. Name command arguments)
after_option word folder arguments paths rest None are is_option steps wants are_paths = tt
after_option word folder arguments paths rest (Some command) are is_option steps wants are_paths =
    subst (λ (b : Bool). AreNamed b command.folder command.chosen arguments) (sym wants)
    (word, paths, are, is_option, subst (ArePaths command.folder command.chosen) (joined folder paths rest steps) are_paths)
