-- The state of a browser, and how events change it.
use Rattle.std.specs.Prelude.{
  ◌≡◌,
  ◌⊎◌,
  ◌==◌,
  ◌&&◌,
  ℕ,
  ◌+◌,
  ◌-◌,
  min,
  Bool,
  true,
  false,
  not,
  List,
  [],
  ◌++◌,
  codes,
  length,
  Option,
  None,
  Some,
  option_map,
  slice_get,
  slice_index,
  string_bytes,
  unwrap_or,
  if◌then◌else◌,
}
use Rattle.std.specs.Option.{option_and_then}
use Rattle.std.specs.Path.{path_file_name, path_parent}
use Rattle.tui_app.specs.declared.app.Flow.{Flow}
use Rattle.tui_app.specs.declared.app.Flow.TheVariants.{Go}
use Rattle.tui_files_lib.specs.BrowserAction.{browsed, flow_after, flow_if_ignored, typing}
use Rattle.tui_files_lib.specs.Drawing.{selected_row}
use Rattle.tui_files_lib.specs.Naming.{without_controls}
use Rattle.tui_files_lib.specs.Rows.{IsInOrder, ListsNames, place_of, row_at, row_place}
use Rattle.tui_files_lib.specs.declared.actions.BrowserAction.{BrowserAction}
use Rattle.tui_files_lib.specs.declared.actions.BrowserAction.TheVariants.{GoIn, GoOut, ToggleHidden, BeginFilter, KeepFilter, DropFilter, Move}
use Rattle.tui_files_lib.specs.declared.actions.ListMotion.{ListMotion}
use Rattle.tui_files_lib.specs.declared.actions.ListMotion.TheVariants.{Down, Up, PageDown, PageUp, First, Last}
use Rattle.tui_files_lib.specs.declared.browser.Browser.{Browser}
use Rattle.tui_files_lib.specs.declared.folders.EntryKind.{EntryKind}
use Rattle.tui_files_lib.specs.declared.folders.Listing.{Listing}
use Rattle.tui_files_lib.specs.declared.folders.Name.{Name}
use Rattle.tui_files_lib.specs.declared.rows.NameRow.{NameRow}
use Rattle.tui_input.specs.State.{empty_input, text_of}
use Rattle.tui_input.specs.Taking.{is_handled, after_event}
use Rattle.tui_keys.specs.declared.event.Event.{Event}
use Rattle.tui_lists.specs.ListState.{default_state}
use Rattle.tui_lists.specs.declared.list.state.ListState.{ListState}

-- ---- what is selected

-- the name of a row
abbrev pub name_of : List Name → NameRow → Option Name
name_of names row = slice_get names row.place

-- the selected name, if there is one
abbrev pub selected_name : Browser → Option Name
selected_name b = option_and_then (name_of b.listing.names.items) (slice_get b.rows.items (selected_row b.state))

-- its index in the listing; 0 if none is selected
abbrev pub selected_place : Browser → ℕ
selected_place b = unwrap_or (option_map row_place (slice_get b.rows.items (selected_row b.state))) 0

-- what it leads to
abbrev pub selected_kind : Browser → Option EntryKind
selected_kind b = option_map (λ name. name.kind) (selected_name b)

-- the path of a name in a folder: a slash is between them, unless the folder ends in one
abbrev pub separator_after : List ℕ → List ℕ
separator_after folder = if slice_index folder (length folder - 1) == 47 then [] else codes "/"

abbrev pub path_of : List ℕ → List ℕ → List ℕ
path_of folder name = (folder ++ separator_after folder) ++ name

-- the selected path; the path of the folder if no name is selected
abbrev pub chosen_path : Browser → List ℕ
chosen_path b = unwrap_or (option_map (λ name. path_of (string_bytes b.folder) (string_bytes name.text)) (selected_name b)) (string_bytes b.folder)

-- a list's state with one of `rows` rows selected, at most the last one; none if there are no rows
abbrev pub selecting_in : ℕ → ℕ → ListState → ListState
selecting_in rows row s = if rows == 0 then default_state else record s { selected = Some (min row (rows - 1)) }

-- the row that a key goes to from the selected one
abbrev pub row_after : ListMotion → Browser → ℕ
row_after Down b = selected_row b.state + 1
row_after Up b = selected_row b.state - 1
row_after PageDown b = selected_row b.state + b.page
row_after PageUp b = selected_row b.state - b.page
row_after First b = 0
row_after Last b = length b.rows.items - 1

-- the list's state after a key
abbrev pub moved : ListMotion → Browser → ListState
moved motion b = selecting_in (length b.rows.items) (row_after motion b) b.state

-- ---- what an event asks for

-- the filter uses an event while it is typed
abbrev pub takes_event : Browser → Event → Bool
takes_event b event = b.is_typing && is_handled b.filter_text event

-- what any other event asks for
abbrev pub action : Browser → Event → BrowserAction
action b event = if b.is_typing then typing event else browsed (selected_kind b) event

-- how a session goes on after an event
abbrev pub flow_of : Browser → Event → Flow
flow_of b event = unwrap_or (flow_if_ignored event) (if takes_event b event then Go else flow_after (action b event))

-- ---- how a browser changes

-- The list is at its first row. The name at an index is selected if it is among the rows, and the first row otherwise.
abbrev pub IsListed : ℕ → Browser → Type 0
IsListed place b = b.state ≡ selecting_in (length b.rows.items) (row_at b.rows.items place) default_state

-- the filter is cleared
abbrev pub without_filter : Browser → Browser
without_filter b = record b { is_typing = false; filter_text = empty_input 255 }

-- the rows are the names of the listing that pass the filter
abbrev pub ListsWanted : Browser → Type 0
ListsWanted b = ListsNames b.hidden (text_of b.filter_text) b.listing.names.items b.rows.items

-- the names that pass the filter now are listed, and the one at an index is selected
pub record Narrows (place : ℕ) (old new : Browser) : Type 0 where
  pub stays : new ≡ record old { rows = new.rows; state = new.state; head = new.head }
  pub rows : ListsWanted new
  pub listed : IsListed place new

-- the names of another folder's listing are shown, and the given name is selected, if there is one
pub record ShowsListing (listing : Listing) (folder : List ℕ) (name : Option (List ℕ)) (old new : Browser) : Type 0 where
  pub folder_is : string_bytes new.folder ≡ folder
  pub title_is : string_bytes new.title ≡ without_controls folder
  pub order : IsInOrder listing new.listing
  pub narrows : Narrows (place_of new.listing.names.items name) (record (without_filter old) {
    folder = new.folder;
    title = new.title;
    listing = new.listing;
  }) new

-- which listings a folder may be read as, by its path; None if it can't be read
abbrev pub Lists : Type 1
Lists = List ℕ → Option Listing → Type 0

-- another folder is read and shown
pub record ShowsFolder (lists : Lists) (folder : List ℕ) (name : Option (List ℕ)) (old new : Browser) : Type 0 where
  pub listing : Listing
  pub read : lists folder (Some listing)
  pub shown : ShowsListing listing folder name old new

-- or it can't be read, and a message says so
pub record ReportsUnreadable (lists : Lists) (folder : List ℕ) (old new : Browser) : Type 0 where
  pub read : lists folder None
  pub stays : new ≡ record old { notice = new.notice }
  pub reported : string_bytes new.notice ≡ without_controls folder ++ codes " cannot be read"

abbrev pub Opens : Lists → List ℕ → Option (List ℕ) → Browser → Browser → Type 0
Opens lists folder name old new = ShowsFolder lists folder name old new ⊎ ReportsUnreadable lists folder old new

-- the parent of the folder is shown, and the folder is selected in it; nothing happens at the root
abbrev pub GoesOut : Lists → Option (List ℕ) → Option (List ℕ) → Browser → Browser → Type 0
GoesOut lists (Some parent) (Some name) old new = Opens lists parent (Some name) old new
GoesOut _ _ _ old new = new ≡ old

-- The action is performed. The selected name stays selected if it is still listed.
abbrev pub Performs : Lists → BrowserAction → Browser → Browser → Type 0
Performs lists GoIn old new = Opens lists (chosen_path old) None old new
Performs lists GoOut old new = GoesOut lists (path_parent (string_bytes old.folder)) (path_file_name (string_bytes old.folder)) old new
Performs lists ToggleHidden old new = Narrows (selected_place old) (record old { hidden = not old.hidden }) new
Performs lists BeginFilter old new = new ≡ record old { is_typing = true }
Performs lists KeepFilter old new = new ≡ record old { is_typing = false }
Performs lists DropFilter old new = Narrows (selected_place old) (without_filter old) new
Performs lists (Move motion) old new = new ≡ record old { state = moved motion old; head = new.head }
Performs lists _ old new = new ≡ old

-- The filter uses an event. If its text changes, the names are listed again, and the selected one stays selected if it
-- is still listed.
abbrev pub Takes : Event → Browser → Browser → Type 0
Takes event old new =
    let typed = record old { filter_text = after_event old.filter_text event } in
    ((length (text_of typed.filter_text) ≡ length (text_of old.filter_text)) × (new ≡ typed)) ⊎ Narrows (selected_place old) typed new

-- The message about a folder that could not be read is cleared. Then the filter uses the event, or the action is
-- performed.
pub record Handles (lists : Lists) (old : Browser) (event : Event) (new : Browser) : Type 0 where
  pub quiet : Browser
  pub stays : quiet ≡ record old { notice = quiet.notice }
  pub silent : string_bytes quiet.notice ≡ []
  pub takes : takes_event quiet event ≡ true → Takes event quiet new
  pub performs : takes_event quiet event ≡ false → Performs lists (action quiet event) quiet new

-- how a browser responds to an event: an event that does not concern it changes nothing
pub record Steps (lists : Lists) (old : Browser) (event : Event) (new : Browser) : Type 0 where
  pub ignored : (flow : Flow) → flow_if_ignored event ≡ Some flow → new ≡ old
  pub handles : flow_if_ignored event ≡ None → Handles lists old event new

-- At the start the names of the folder are listed except those that begin with a dot, and there is no message. A page
-- is one row until the first drawing.
pub record IsBegun (listing : Listing) (folder : List ℕ) (b : Browser) : Type 0 where
  pub folder_is : string_bytes b.folder ≡ folder
  pub title_is : string_bytes b.title ≡ without_controls folder
  pub order : IsInOrder listing b.listing
  pub rows : ListsWanted b
  pub listed : IsListed 0 b
  pub page : b.page ≡ 1
  pub hidden : b.hidden ≡ false
  pub filter_text : b.filter_text ≡ empty_input 255
  pub is_typing : b.is_typing ≡ false
  pub silent : string_bytes b.notice ≡ []

-- a browser at the start, with the listing that the folder was read as
pub record Begins (lists : Lists) (folder : List ℕ) (b : Browser) : Type 0 where
  pub listing : Listing
  pub read : lists folder (Some listing)
  pub shown : IsBegun listing folder b
