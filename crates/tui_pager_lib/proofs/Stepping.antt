-- The next state of a pager.
use Rattle.std.proofs.Common.{◌≡◌, ℕ, ◌-◌, ◌==◌, List, length, sym, ap, ◌∙◌, subst, Option, None, Some}
use Rattle.std.specs.Prelude.{map, if◌then◌else◌}
use Rattle.tui_lists.specs.ListItem.{heights_of}
use Rattle.tui_pager_lib.specs.Entry.{EntryData}
use Rattle.tui_pager_lib.specs.Laws.{SelectsEntry, IsSound}
use Rattle.tui_pager_lib.specs.Lines.{HaveLineStarts}
use Rattle.tui_pager_lib.specs.Screen.{body_lines, metrics_of, title_item}
use Rattle.tui_pager_lib.specs.Steps.{lines_at, max_line_in, max_line_of, scrolled, initial_state}
use Rattle.tui_pager_lib.specs.declared.state.PagerState.{PagerState}
use Rattle.tui_pager_lib.proofs.Sound.{count_heights}

-- the greatest first line, by the number of lines
pub most_is : (entries : List EntryData) (width height : ℕ) (selected : Option ℕ) (lines most : ℕ) → most ≡ max_line_in (height - 3) lines →
    lines ≡ lines_at (body_lines entries width) selected → most ≡ max_line_of (metrics_of entries width height) selected
most_is entries width height selected lines most m n = m ∙ ap (max_line_in (height - 3)) n

pub place_of : (entries : List EntryData) (width height : ℕ) (s : PagerState) → IsSound (metrics_of entries width height) s → SelectsEntry (length entries) s.selected
place_of entries width height s sound = subst (λ n. SelectsEntry n s.selected) (count_heights entries) sound.place

pub start_is : (entries : List EntryData) (width height count : ℕ) (place : Option ℕ) (s : PagerState) → count ≡ length entries →
    place ≡ (if count == 0 then None else Some 0) →
    s ≡ scrolled (heights_of (map title_item entries)) (height - 3) (record { selected = place; offset = 0; line = 0 }) →
    s ≡ initial_state (metrics_of entries width height)
start_is entries width height count place s c p e =
    let there : place ≡ (if length (heights_of (map title_item entries)) == 0 then None else Some 0) =
    p ∙ ap (λ n. if n == 0 then None else Some 0) (c ∙ sym (count_heights entries)) in
    e ∙ ap (λ o. scrolled (heights_of (map title_item entries)) (height - 3) (record { selected = o; offset = 0; line = 0 })) there

-- a state that is equal to the state of a sound pager is sound
pub sound_as : (entries : List EntryData) (width height : ℕ) (s t : PagerState) → s ≡ t → IsSound (metrics_of entries width height) t →
    IsSound (metrics_of entries width height) s
sound_as entries width height s t e sound = subst (IsSound (metrics_of entries width height)) (sym e) sound

-- the stored offsets stay valid
pub line_starts_as : (entries : List EntryData) (width kept : ℕ) (selected old : Option ℕ) (line_starts : List ℕ) → width ≡ kept → selected ≡ old →
    HaveLineStarts entries kept old line_starts → HaveLineStarts entries width selected line_starts
line_starts_as entries width kept selected old line_starts w o have =
    subst (λ n. HaveLineStarts entries n selected line_starts) (sym w) (subst (λ s. HaveLineStarts entries kept s line_starts) (sym o) have)
