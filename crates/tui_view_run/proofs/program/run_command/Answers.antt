use Rattle.std.proofs.Common.{refl}
use Rattle.std.proofs.lemmas.Result.{err_from_is_err_and}
use Rattle.tui_view_run.proofs.Ending.{rows_run, unchanged}
use Rattle.tui_view_run.proofs.program.run_command.Goals as goal
use Rattle.tui_view_run.specs.Ends.{frames, rows}

pub returns-in_err-depth : goal.returns-in_err-depth
returns-in_err-depth g c =
    let p = err_from_is_err_and c.from_residual.result c.from_residual.ensures.1 in
    rw (p.1, p.2) (unchanged _ _ _ _ _)

pub returns-in_err-source-in-Rows : goal.returns-in_err-source-in-Rows
returns-in_err-source-in-Rows g c =
    let p = err_from_is_err_and c.from_residual-in_err-source-in-Rows.result c.from_residual-in_err-source-in-Rows.ensures.1 in
    rw (p.1, p.2) (unchanged _ _ _ _ _)

pub returns-in-Frames : goal.returns-in-Frames
returns-in-Frames g c =
    rw c.in-Frames.is (frames c.in_ok-depth.depth c.run_frames.result c.in_ok-depth.ensures c.run_frames.ensures refl)

pub returns-in_ok-source-in-Rows : goal.returns-in_ok-source-in-Rows
returns-in_ok-source-in-Rows g c =
    let opened = rw (c.input_name-name.ensures, c.in-Rows.is) at c.in_ok-source-in-Rows.ensures in
    let run = rows_run c.in_ok-depth.depth _ c.run_json.result c.run_json.ensures in
    rw c.in-Rows.is (rows c.in-Rows.field-0 c.in_ok-depth.depth _ _ c.run_json.result c.in_ok-depth.ensures opened run refl)
