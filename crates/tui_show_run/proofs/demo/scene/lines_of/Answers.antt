use Rattle.std.proofs.Common.{arith}
use Rattle.tui_show_run.specs.Demo.Scene.{demo_wrap, one_line}
use Rattle.tui_show_run.specs.Demo.Text.{demo_text}
use Rattle.tui_para.specs.Paragraph.{paragraph_data}
use Rattle.tui_text.specs.declared.alignment.Alignment.TheVariants.{Left}
use Rattle.tui_show_run.proofs.Counted.{counted}
use Rattle.tui_show_run.proofs.demo.scene.lines_of.Goals as goal

pub returns : goal.returns
returns c =
    let once = c.text_wraps_exactly_once.ensures 20 demo_wrap Left (one_line (demo_text c.args.n)) (omega arith) in
    counted c.args.n c.line_count.result (paragraph_data c.args.paragraph.now) c.requires.n c.requires.is once (c.line_count.ensures.wrapped (omega arith))
