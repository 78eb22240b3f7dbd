use Rattle.std.proofs.Common.{subst}
use Rattle.tui_files_lib.specs.Browsing.{Performs}
use Rattle.tui_files_lib.proofs.Handling.{handles_action, handles_taken}
use Rattle.tui_files_lib.proofs.files.FilesApp.handle.Goals as goal

pub returns-then-branch-clause-handles : goal.returns-then-branch-clause-handles
returns-then-branch-clause-handles g c =
    handles_taken (g.F.Folders.lists c.args.self.now.folders) c.args.self.now.browser c.clear.new.self c.args.event c.take.new.self.browser c.in_ok-take.field-0 c.clear.ensures.bytes
    c.in_ok-take.ensures.used c.in_ok-take.ensures.takes c.if-branch.true

pub returns-clause-handles : goal.returns-clause-handles
returns-clause-handles g c =
    handles_action (g.F.Folders.lists c.args.self.now.folders) c.args.self.now.browser c.clear.new.self c.args.event c.take.new.self.browser c.perform.new.self.browser c.in_ok-take.field-0
    c.action_for-action.result c.clear.ensures.bytes c.in_ok-take.ensures.used c.in_ok-take.ensures.stays c.if-branch.false c.action_for-action.ensures
    (subst (λ (folders : _). Performs (g.F.Folders.lists folders) c.action_for-action.result c.take.new.self.browser c.perform.new.self.browser) c.in_ok-take.ensures.folders c.in_ok-perform.ensures.performs)
