-- The stored offsets at which the lines of the selected body start.
use Rattle.std.proofs.Common.{◌≡◌, ℕ, ◌-◌, ◌/◌, ◌<◌, true, List, [], ◌++◌, length, drop, Option, None, Some, Result, sym, ap, ◌∙◌, subst, arith}
use Rattle.std.specs.Prelude.{OnOk, slice_index}
use Rattle.std.proofs.lemmas.List.{get_or-map}
use Rattle.tui_cells.specs.Buffer.{Screen}
use Rattle.tui_cells.specs.Layers.{Painted}
use Rattle.tui_cells.specs.Style.{no_style}
use Rattle.tui_frames.specs.Block.{block_of}
use Rattle.tui_frames.specs.InBlock.{inner_of}
use Rattle.tui_para.specs.Rendering.{paragraph_layers, under_layers}
use Rattle.tui_line_places.specs.AfterLine.{IsFromLine, wrapped_lines}
use Rattle.tui_line_places.proofs.RestLayers.{rest_layers}
use Rattle.tui_text.specs.declared.alignment.Alignment.TheVariants.{Left}
use Rattle.tui_pager_lib.specs.Entry.{EntryData}
use Rattle.tui_pager_lib.specs.Laws.{SelectsEntry}
use Rattle.tui_pager_lib.specs.Lines.{AreWithin, HaveLineStarts, inner_width}
use Rattle.tui_pager_lib.specs.Screen.{body_area, body_lines, body_of, body_paragraph, body_height}
use Rattle.tui_pager_lib.specs.Steps.{lines_at}

-- there are as many offsets as lines
pub count_is : (entries : List EntryData) (width : ℕ) (selected : Option ℕ) (line_starts : List ℕ) → SelectsEntry (length entries) selected →
    HaveLineStarts entries width selected line_starts → length line_starts ≡ lines_at (body_lines entries width) selected
count_is entries width None line_starts there have = ap length have
count_is entries width (Some place) line_starts there have =
    let lines = λ (d : EntryData). body_height (width - width / 3 - 2) d.body in
    sym (have.count no_style Left) ∙ sym (get_or-map lines entries place (record { title = []; body = [] }) 0 there)

-- they are offsets of the body
pub within_of : (entries : List EntryData) (width : ℕ) (selected : Option ℕ) (body line_starts : List ℕ) → body ≡ body_of entries selected →
    HaveLineStarts entries width selected line_starts → AreWithin width body line_starts
within_of entries width None body line_starts e have = λ k lt. absurd (omega (arith, ap length have, lt))
within_of entries width (Some place) body line_starts e have = subst (λ b. AreWithin width b line_starts) (sym e) have.each

-- the rest of a body shows what the body shows from that line on
pub rest_drawn : {T E : Type 0} (result : Result T E) (width height line : ℕ) (body rest : List ℕ) (a b : Screen) →
    IsFromLine (inner_width width) true line body rest →
    OnOk result (Painted (paragraph_layers (body_paragraph rest 0) (body_area width height)) a b) →
    OnOk result (Painted (paragraph_layers (body_paragraph body line) (body_area width height)) a b)
rest_drawn result width height line body rest a b from ok =
    let clip = body_area width height in
    let area = inner_of (Some (block_of 15)) clip in
    let p = body_paragraph [] 0 in
    let wide : area.width ≡ inner_width width = omega arith in
    let lines : wrapped_lines no_style Left area.width true rest ≡ drop line (wrapped_lines no_style Left area.width true body) =
    subst (λ w. wrapped_lines no_style Left w true rest ≡ drop line (wrapped_lines no_style Left w true body)) (sym wide) (from.lines no_style Left) in
    subst (λ layers. OnOk result (Painted layers a b))
    (ap (λ layers. under_layers p.block p.style clip ++ layers) (rest_layers p true line body rest area lines)) ok

-- the text from an offset of a body on
pub rest_is : (width at line : ℕ) (body rest line_starts : List ℕ) → AreWithin width body line_starts → at < length line_starts → at ≡ line →
    rest ≡ drop (slice_index line_starts at) body → IsFromLine (inner_width width) true line body rest
rest_is width at line body rest line_starts within lt same e =
    subst (λ k. IsFromLine (inner_width width) true k body rest) same
    (subst (λ r. IsFromLine (inner_width width) true at body r) (sym e) (within at lt).from)
