use Rattle.std.proofs.Common.{◌∙◌}
use Rattle.tui_show_run.proofs.Showing.{demo_is}
use Rattle.tui_show_run.proofs.demo.drawn_demo.Goals as goal

pub demo_scene-requires-clause-text : goal.demo_scene-requires-clause-text
demo_scene-requires-clause-text c = c.as_str.ensures.value ∙ c.in_ok-text.ensures

pub returns : goal.returns
returns c =
    let demo = c.in_ok-demo in
    demo_is c.args.n demo.demo.lines c.first_offset.result _ _ c.in_ok-buffer.buffer _ c.requires.least demo.ensures.scene demo.ensures.lines
    c.in_ok-buffer.ensures.drawn c.first_offset.ensures c.in_ok-line.ensures
