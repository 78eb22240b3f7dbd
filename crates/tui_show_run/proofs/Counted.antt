-- The words have few lines, so their number is not cut off.
use Rattle.std.proofs.Common.{◌≡◌, ℕ, ◌≤◌, List, length, Result, Ok, IfOk, IfSome, subst, arith}
use Rattle.tui_frames.specs.InBlock.{beside}
use Rattle.tui_para.specs.Lines.{GlyphLine}
use Rattle.tui_para.specs.Paragraph.{ParagraphData, block_rows}
use Rattle.tui_para.specs.Wrapped.{IsUnique}
use Rattle.tui_para.specs.WrappedText.{WrappedText, wrap_text}
use Rattle.tui_clusters.specs.Width.{saturated}
use Rattle.tui_text.specs.declared.alignment.Alignment.TheVariants.{Left}
use Rattle.tui_show_run.specs.Demo.Scene.{HasLines, demo_paragraph, demo_wrap, one_line}
use Rattle.tui_show_run.specs.Demo.Text.{demo_text}
use Rattle.tui_show_run.proofs.Fewer.{length-wrap_text}
use Rattle.tui_show_run.proofs.Joined.{short_text}

-- what is known of the number of lines of a paragraph in 20 columns
abbrev CountsWrapped : {E : Type 0} → Result ℕ E → ParagraphData → Type 0
CountsWrapped count p =
    IfSome p.wrap (λ wrap. (lines : List GlyphLine) →
    WrappedText 20 wrap p.alignment p.text lines → count ≡ Ok (beside (saturated (length lines)) (block_rows p)))

pub counted : {E : Type 0} (n : ℕ) (count : Result ℕ E) (p : ParagraphData) → n ≤ 100000 → p ≡ demo_paragraph (demo_text n) →
    IsUnique (WrappedText 20 demo_wrap Left (one_line (demo_text n))) (wrap_text 20 demo_wrap Left (one_line (demo_text n))) →
    CountsWrapped count p → IfOk count (HasLines n)
counted n count p most is once counts =
    let lines = wrap_text 20 demo_wrap Left (one_line (demo_text n)) in
    let few = length-wrap_text 20 demo_wrap Left (demo_text n) in
    let whole : saturated (length lines) ≡ length lines = omega (arith, few, short_text n) in
    rw (subst (CountsWrapped count) is counts lines once.meets) (lines, once.meets, whole)
