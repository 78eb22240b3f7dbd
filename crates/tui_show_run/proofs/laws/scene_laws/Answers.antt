use Rattle.std.proofs.Common.{arith}
use Rattle.tui_scene.proofs.Drawn.{one_drawing}
use Rattle.tui_text.specs.declared.alignment.Alignment.TheVariants.{Left}
use Rattle.tui_show_run.specs.Demo.Scene.{demo_wrap, one_line}
use Rattle.tui_show_run.specs.Demo.Text.{demo_text}
use Rattle.tui_show_run.proofs.Drawn.{one_demo, one_output}
use Rattle.tui_show_run.proofs.Spaced.{demo_is_fewest}
use Rattle.tui_show_run.proofs.laws.scene_laws.Goals as goal

pub returns-clause-drawing : goal.returns-clause-drawing
returns-clause-drawing c = one_drawing

pub returns-clause-output : goal.returns-clause-output
returns-clause-output c = one_output c.print_laws.ensures.print

pub returns-clause-demo : goal.returns-clause-demo
returns-clause-demo c = one_demo c.text_wraps_exactly_once.ensures

pub returns-clause-fewest : goal.returns-clause-fewest
returns-clause-fewest c = demo_is_fewest (λ n. c.text_wraps_exactly_once.ensures 20 demo_wrap Left (one_line (demo_text n)) (omega arith))
