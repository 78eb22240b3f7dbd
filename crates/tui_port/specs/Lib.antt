pub use Rattle.tui_io.specs as outside
pub use Rattle.tui_print.specs as print
pub use Rattle.tui_rows.specs as rows
pub use Rattle.tui_schema.specs as schema
