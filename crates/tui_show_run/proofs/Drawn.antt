-- An output is unique.
use Rattle.std.proofs.Common.{◌≡◌, ℕ, ◌<◌, ◌++◌, length, flat_map, sym, ap, ap₂, ◌∙◌, arith}
use Rattle.tui_cells.specs.Buffer.{Screen}
use Rattle.tui_show_run.specs.Demo.Line.{demo_line}
use Rattle.tui_show_run.specs.Demo.Scene.{demo_scene, demo_wrap, one_line}
use Rattle.tui_show_run.specs.Demo.Text.{demo_text}
use Rattle.tui_para.specs.Wrapped.{IsUnique}
use Rattle.tui_para.specs.declared.wrap.Wrap.{Wrap}
use Rattle.tui_para.specs.WrappedText.{WrappedText, wrap_text}
use Rattle.tui_print.specs.Laws.{PrintIsUnique}
use Rattle.tui_rows.specs.RowLine.{row_line}
use Rattle.tui_scene.proofs.Drawn.{one_drawing}
use Rattle.tui_show_run.specs.Demo.{demo_offset}
use Rattle.tui_show_run.specs.Laws.{DemoIsUnique, OutputIsUnique}
use Rattle.tui_text.specs.Text.{TextData}
use Rattle.tui_text.specs.declared.alignment.Alignment.{Alignment}
use Rattle.tui_text.specs.declared.alignment.Alignment.TheVariants.{Left}

pub one_output : PrintIsUnique → OutputIsUnique
one_output prints s text other a b =
    let same = one_drawing s.width s.height s.items a.0 b.0 a.1 b.1 a.2 b.2 in
    let print = prints a.1 a.0 in
    let again = rw (same.0, same.1) at b.3 in
    print.2 other again ∙ sym (print.2 text a.3)

pub one_demo : ((w : ℕ) (way : Wrap) (alignment : Alignment) (text : TextData) → 0 < w →
    IsUnique (WrappedText w way alignment text) (wrap_text w way alignment text)) → DemoIsUnique
one_demo once n text other a b =
    let same = one_drawing 40 8 (demo_scene n) a.new b.new a.screen b.screen a.drawn b.drawn in
    let one = once 20 demo_wrap Left (one_line (demo_text n)) (omega arith) in
    let lists = one.alone b.has_lines.0 b.has_lines.1 ∙ sym (one.alone a.has_lines.0 a.has_lines.1) in
    let lines : b.lines ≡ a.lines = b.has_lines.2 ∙ (ap length lists ∙ sym a.has_lines.2) in
    b.text_is ∙ (ap₂ (λ (count : ℕ) (s : Screen). demo_line n (demo_offset n) count ++ flat_map row_line s.rows) lines same.0 ∙ sym a.text_is)
