use Rattle.std.proofs.lemmas.Result.{err_from_is_err_and}
use Rattle.tui_system.proofs.commands.read_for_command.Goals as goal
use Rattle.tui_system.specs.Commands.{no_command, no_memory, unread, whole}

pub returns-in_err-command : goal.returns-in_err-command
returns-in_err-command g c =
    let p = err_from_is_err_and c.from_residual.result c.from_residual.ensures.1 in
    rw (p.1, p.2) (no_command c.in_err-command.field-0.0 c.in_err-command.ensures)

pub returns-in_err-source : goal.returns-in_err-source
returns-in_err-source g c =
    let p = err_from_is_err_and c.from_residual-in_err-source.result c.from_residual-in_err-source.ensures.1 in
    rw (p.1, p.2) no_memory

pub returns-in_err-bytes : goal.returns-in_err-bytes
returns-in_err-bytes g c =
    let p = err_from_is_err_and c.from_residual-in_err-bytes.result c.from_residual-in_err-bytes.ensures.1 in
    let source = g.S.Input.Source.observed c.in_ok-source.source in
    let opened = rw c.file.ensures at c.in_ok-source.ensures in
    rw (p.1, p.2) (unread c.in_ok-command.command _ c.in_err-bytes.field-0.0 c.in_ok-command.ensures opened (c.in_err-bytes.ensures source source))

pub returns : goal.returns
returns g c =
    let source = g.S.Input.Source.observed c.in_ok-source.source in
    let opened = rw c.file.ensures at c.in_ok-source.ensures in
    whole c.in_ok-command.command _ c.in_ok-bytes.bytes c.in_ok-command.ensures opened (c.in_ok-bytes.ensures source source)
