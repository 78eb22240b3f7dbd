pub mod Order
pub mod Texts
pub use Rattle.tui_bars.specs as bars
pub use Rattle.tui_calendar.specs as calendar
pub use Rattle.tui_cells.specs as cells
pub use Rattle.tui_clusters.specs as clusters
pub use Rattle.tui_frames.specs as frames
pub use Rattle.tui_keys.specs as keys
pub use Rattle.tui_layout.specs as layout
pub use Rattle.tui_lists.specs as lists
pub use Rattle.tui_io.specs as outside
pub use Rattle.tui_pager_lib.specs as pager
pub use Rattle.tui_pages_lib.specs as pages
pub use Rattle.tui_panes_lib.specs as panes
pub use Rattle.tui_para.specs as para
pub use Rattle.tui_line_places.specs as places
pub use Rattle.tui_scene.specs as scene
pub use Rattle.tui_table.specs as table
pub use Rattle.tui_terminal.specs as terminal
pub use Rattle.tui_text.specs as text
pub use Rattle.tui_terminal_model.specs as tty
