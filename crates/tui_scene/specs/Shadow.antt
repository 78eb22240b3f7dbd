-- Widgets without a shadow.
use Rattle.std.specs.Prelude.{◌≡◌, ℕ, IfSome, None, Option, Some}
use Rattle.tui_cells.specs.declared.rect.Rect.{Rect}
use Rattle.tui_cells.specs.Rect.{covers, intersection_of}
use Rattle.tui_frames.specs.Block.{BlockData}
use Rattle.tui_scene.specs.Item.{
  StatelessData,
  ItemData,
  PlacedData,
  bar_chart,
  block,
  clear,
  fill,
  gauge,
  line_gauge,
  list,
  logo,
  monthly,
  paragraph,
  placed_footprint,
  scrollbar,
  sparkline,
  stateless,
  table,
  tabs,
}

-- the block of a widget without a state, if it has one
abbrev pub stateless_block : StatelessData → Option BlockData
stateless_block clear = None
stateless_block (fill f) = None
stateless_block (block b) = Some b
stateless_block (paragraph p) = p.block
stateless_block (tabs t) = t.block
stateless_block (gauge g) = g.block
stateless_block (line_gauge g) = g.block
stateless_block (bar_chart c) = c.block
stateless_block (sparkline s) = s.block
stateless_block (monthly dates m) = m.block
stateless_block (logo size) = None

-- the block of a widget, if it has one
abbrev pub item_block : ItemData → Option BlockData
item_block (stateless w) = stateless_block w
item_block (list l s) = l.block
item_block (table t s) = t.block
item_block (scrollbar b s) = None

-- the widget has no block, or its block has no shadow
abbrev pub HasNoShadow : ItemData → Type 0
HasNoShadow item = IfSome (item_block item) (λ b. b.shadow ≡ None)

-- the footprint of a widget without a shadow is its clip
abbrev pub ClipIsFootprint : Type 0
ClipIsFootprint = (area : Rect) (p : PlacedData) → HasNoShadow p.item →
    (x y : ℕ) → placed_footprint area p x y ≡ covers (intersection_of p.area area) x y
