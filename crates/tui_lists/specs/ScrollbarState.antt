-- A position of a content, one further on or back.
use Rattle.std.specs.Prelude.{◌+◌, ◌-◌, min}
use Rattle.tui_lists.specs.declared.scrollbar.direction.ScrollDirection.{ScrollDirection}
use Rattle.tui_lists.specs.declared.scrollbar.direction.ScrollDirection.TheVariants.{Forward, Backward}
use Rattle.tui_lists.specs.declared.scrollbar.state.ScrollbarState.{ScrollbarState}
use Rattle.tui_clusters.specs.Width.{saturated}

-- one position forward or back, within the content
abbrev pub scrolled : ScrollDirection → ScrollbarState → ScrollbarState
scrolled Forward s = record s { position = min (saturated (s.position + 1)) (s.content_length - 1) }
scrolled Backward s = record s { position = s.position - 1 }
