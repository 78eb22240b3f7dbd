use Rattle.std.proofs.Common.{◌≤◌, ◌∙◌, Err, ap, arith, inl, inr, refl, subst}
use Rattle.std.specs.Prelude.{All}
use Rattle.serde_json.specs.View.{view}
use Rattle.tui_pages_lib.specs.Heights.{heights_of, max_lines}
use Rattle.tui_pages_lib.specs.Report.{ReportData, places_of, report_heights}
use Rattle.tui_pages_run.specs.Input.{input_data, report_in}
use Rattle.tui_pages_run.proofs.Bounds.{input_least}
use Rattle.tui_pages_run.proofs.TooTall.{first_is, none_is}
use Rattle.tui_pages_run.proofs.paged_report.read_report.Goals as goal

pub unreachable-requires : goal.unreachable-requires
unreachable-requires c =
    let least = input_least (view c.args.value.now) (input_data c.in_ok-input.input) c.in_ok-input.ensures in
    let small = rw c.in-Err-TooSmall.is at c.in-Err-TooSmall.field-0-is in
    elim (c.new-made.ensures.small.0 (c.in-Err-TooSmall.is ∙ ap (λ x. Err x) small)) [ inl wide ↦ omega arith | inr high ↦ omega arith ]

pub returns-in-Ok-clause-gives : goal.returns-in-Ok-clause-gives
unfolding report_in
returns-in-Ok-clause-gives c =
    let input = input_data c.in_ok-input.input in
    let heights = heights_of (places_of input.sheet.width input.columns) input.records in
    let bounded : All (λ lines. lines ≤ max_lines) heights =
    subst (λ (r : ReportData). All (λ lines. lines ≤ max_lines) (report_heights r)) c.in-Ok.ensures.ok c.in-Ok.ensures.bounded in
    rw (c.in_ok-input.ensures, none_is heights bounded, c.in-Ok.ensures.ok) refl

pub returns-in-Err-TooTall-clause-gives : goal.returns-in-Err-TooTall-clause-gives
unfolding report_in
returns-in-Err-TooTall-clause-gives c =
    let input = input_data c.in_ok-input.input in
    let heights = heights_of (places_of input.sheet.width input.columns) input.records in
    let place = c.in-Err-TooTall.place in
    let tall = rw c.in-Err-TooTall.is at c.in-Err-TooTall.field-0-is in
    rw (c.in_ok-input.ensures, first_is heights place (c.new-made.ensures.tall place (c.in-Err-TooTall.is ∙ ap (λ x. Err x) tall))) refl
