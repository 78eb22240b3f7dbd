use Rattle.std.proofs.Common.{length}
use Rattle.tui_json.proofs.explanation.+path_text.Given as goal

abbrev pub decreases-path_text : goal.decreases-path_text
decreases-path_text l = length l.steps.now
