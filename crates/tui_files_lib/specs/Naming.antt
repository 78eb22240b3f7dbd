-- Names as they are displayed.
use Rattle.std.specs.Prelude.{ℕ, List, [], ◌++◌, codes, map, string_bytes, if◌then◌else◌}
use Rattle.std.specs.Char.{is_control}
use Rattle.std.specs.Str.{chars, encode_utf8_all}
use Rattle.tui_files_lib.specs.declared.folders.EntryKind.{EntryKind}
use Rattle.tui_files_lib.specs.declared.folders.EntryKind.TheVariants.{Folder, File}
use Rattle.tui_files_lib.specs.declared.folders.Name.{Name}

-- U+FFFD replaces a control character
abbrev pub shown_char : ℕ → ℕ
shown_char c = if is_control c then 65533 else c

-- a text as it is displayed
abbrev pub without_controls : List ℕ → List ℕ
without_controls text = encode_utf8_all (map shown_char (chars text))

-- a slash follows a folder's name
abbrev pub kind_suffix : EntryKind → List ℕ
kind_suffix Folder = codes "/"
kind_suffix File = []

-- a name in the list
abbrev pub label_of : Name → List ℕ
label_of name = without_controls (string_bytes name.text) ++ kind_suffix name.kind
