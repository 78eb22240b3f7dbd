use Rattle.std.proofs.Common.{ap, string_bytes}
use Rattle.tui_files_lib.proofs.Reading.{begins_read}
use Rattle.tui_files_lib.proofs.files.FilesApp.new.Goals as goal
use Rattle.tui_files_lib.specs.declared.files.FilesApp.{FilesApp}

pub returns-in_ok-read_head-in-Some-clause-begins : goal.returns-in_ok-read_head-in-Some-clause-begins
returns-in_ok-read_head-in-Some-clause-begins g c =
    begins_read (g.F.Folders.lists c.args.folders) c.args.folder.now (string_bytes c.in_ok-from_str-in-Some.field-0) c.in_ok-list.field-0 c.in-Some.listing
    c.in_ok-browser-in-Some.browser c.read_head.new.self.browser c.in_ok-list.ensures c.in-Some.is c.in_ok-from_str-in-Some.ensures.ok
    c.in_ok-browser-in-Some.ensures (ap (λ (app : FilesApp _). app.browser) c.in_ok-read_head-in-Some.ensures)
