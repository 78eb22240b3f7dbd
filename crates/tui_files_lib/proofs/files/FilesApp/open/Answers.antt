use Rattle.std.proofs.Common.{ap}
use Rattle.std.specs.Option.{option_copied}
use Rattle.tui_files_lib.proofs.Reading.{opens_read, opens_unread}
use Rattle.tui_files_lib.proofs.files.FilesApp.open.Goals as goal
use Rattle.tui_files_lib.specs.declared.files.FilesApp.{FilesApp}

pub returns-in_ok-read_head-in-Some-clause-opens : goal.returns-in_ok-read_head-in-Some-clause-opens
returns-in_ok-read_head-in-Some-clause-opens g c =
    opens_read (g.F.Folders.lists c.args.self.now.folders) _ c.as_str.result.now c.in_ok-listing.field-0 c.in-Some.listing (option_copied c.args.name)
    c.args.self.now.browser c.show.new.self c.read_head.new.self.browser c.as_str.ensures.value c.in_ok-listing.ensures c.in-Some.is
    c.in_ok-show-in-Some.ensures (ap (λ (app : FilesApp _). app.browser) c.in_ok-read_head-in-Some.ensures)

pub returns-in_ok-push_str-in-None-clause-opens : goal.returns-in_ok-push_str-in-None-clause-opens
returns-in_ok-push_str-in-None-clause-opens g c =
    opens_unread (g.F.Folders.lists c.args.self.now.folders) _ c.as_str.result.now c.as_str-in-None.result.now c.in_ok-listing.field-0 (option_copied c.args.name)
    c.args.self.now.browser c.in_ok-self-in-None.field-0 c.push_str.new.self c.as_str.ensures.value c.in_ok-listing.ensures c.in-None.is
    c.as_str-in-None.ensures.value c.in_ok-self-in-None.ensures c.in_ok-push_str-in-None.ensures.bytes
