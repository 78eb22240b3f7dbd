use Rattle.tui_browse_run.proofs.Naming.{format_of_named}
use Rattle.tui_browse_run.proofs.arguments.BrowseCommandSystemCommand.from_arguments.Goals as goal

pub returns-in_err-format-clause-none : goal.returns-in_err-format-clause-none
returns-in_err-format-clause-none c =
    let no_format = rw c.as_slice.ensures.value at c.in_err-format.ensures in
    λ none command named. no_format command.format (format_of_named command.format command.file c.args.arguments.items named)
