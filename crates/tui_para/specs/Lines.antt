-- Lines of graphemes, and the lines of text lines.
use Rattle.std.specs.Prelude.{◌≡◌, ◌⊎◌, ◌<◌, ℕ, Bool, true, false, List, [], ◌∷◌, ◌++◌, map, flat_map, Option, Some, None}
use Rattle.tui_text.specs.Grapheme.{Glyph, glyph_width}
use Rattle.tui_text.specs.declared.alignment.Alignment.{Alignment}
use Rattle.tui_text.specs.declared.alignment.Alignment.TheVariants.{Left, Center, Right}
use Rattle.tui_para.specs.Answers.{Answers}
use Rattle.tui_para.specs.Hyphens.{Wrapped}
use Rattle.tui_para.specs.Truncated.{Truncated}
use Rattle.tui_para.specs.declared.wrap.Wrap.{Wrap}

-- a line: its graphemes and its alignment
pub record GlyphLine : Type 0 where
  pub glyphs : List Glyph
  pub alignment : Alignment

-- a line of graphemes in an alignment
abbrev pub glyph_line : Alignment → List Glyph → GlyphLine
glyph_line alignment glyphs = record { glyphs = glyphs; alignment = alignment }

-- the lines of each text line: parts of it by R, one after another, with its alignment
abbrev pub LinesOfEach : (GlyphLine → List (List Glyph) → Type 0) → List GlyphLine → List GlyphLine → Type 0
LinesOfEach R [] lines = lines ≡ []
LinesOfEach R (t ∷ ts) lines =
    (parts : List (List Glyph)) × R t parts × ((rest : List GlyphLine) × LinesOfEach R ts rest × (lines ≡ map (glyph_line t.alignment) parts ++ rest))

-- the same, if a function gives the parts
abbrev pub lines_of_each : (GlyphLine → List (List Glyph)) → List GlyphLine → List GlyphLine
lines_of_each f ts = flat_map (λ t. map (glyph_line t.alignment) (f t)) ts

-- the text line is wrapped into these parts
abbrev pub WrapsLine : ℕ → Wrap → GlyphLine → List (List Glyph) → Type 0
WrapsLine w wrap t parts = Wrapped w wrap t.glyphs parts

-- whether a line begins at the left
abbrev pub is_left : Alignment → Bool
is_left Left = true
is_left Center = false
is_left Right = false

-- the text line is truncated to one line; the offset applies only if it is aligned to the left
abbrev pub TruncatesLine : ℕ → ℕ → GlyphLine → List (List Glyph) → Type 0
TruncatesLine w offset t parts = (line : List Glyph) × Truncated glyph_width w (is_left t.alignment) offset t.glyphs line × (parts ≡ line ∷ [])

-- the lines that R relates to something that is given, at a width above 0; no lines at width 0
abbrev pub LinesFrom : {X : Type 0} → (X → Type 0) → (X → List GlyphLine → Type 0) → ℕ → List GlyphLine → Type 0
LinesFrom {X} given R w lines = ((w ≡ 0) × (lines ≡ [])) ⊎ ((0 < w) × ((x : X) × given x × R x lines))

-- the lines that may come and those that are certain to come, if something of `given` comes
abbrev pub lines_from : {X : Type 0} → Answers X → (X → List GlyphLine → Type 0) → ℕ → Answers (List GlyphLine)
lines_from given R w = record { may = LinesFrom given.may R w; will = LinesFrom given.will R w }

-- the lines of one of the lists of text lines
abbrev pub LinesOf : (List GlyphLine → Type 0) → (GlyphLine → List (List Glyph) → Type 0) → ℕ → List GlyphLine → Type 0
LinesOf texts R w lines = LinesFrom texts (LinesOfEach R) w lines

-- The lines of the current text line and of those after it. First come the parts that are left of the current one, in
-- its alignment; `Begun` holds for these parts. Then come all parts of the others.
abbrev pub PartsThenLines : (Begun : List (List Glyph) → Type 0) → Alignment → (Whole : GlyphLine → List (List Glyph) → Type 0) → List GlyphLine →
    List GlyphLine → Type 0
PartsThenLines Begun alignment Whole others lines =
    (parts : List (List Glyph)) × Begun parts
    × ((rest : List GlyphLine) × LinesOfEach Whole others rest × (lines ≡ map (glyph_line alignment) parts ++ rest))

-- the text lines that are still given: none if the iterator has ended, else those for which `Given` holds
abbrev pub GivenUnlessDone : (done : Bool) → (Given : List GlyphLine → Type 0) → List GlyphLine → Type 0
GivenUnlessDone done Given lines = ((done ≡ true) × (lines ≡ [])) ⊎ ((done ≡ false) × Given lines)

-- Some lists of `Before` begin with this item: for each list of `After`, one that continues with it. Without an item,
-- the empty list is in `Before`.
abbrev pub SomeBegin : {A : Type 0} → (Before : List A → Type 0) → Option A → (After : List A → Type 0) → Type 0
SomeBegin Before None After = Before []
SomeBegin {A} Before (Some x) After = (xs : List A) → After xs → Before (x ∷ xs)

-- Each list of `Before` begins with this item and continues with a list of `After`. Without an item, each list of
-- `Before` is empty, and the empty list is in `After`.
abbrev pub EachBegins : {A : Type 0} → (Before : List A → Type 0) → Option A → (After : List A → Type 0) → Type 0
EachBegins {A} Before None After = (xs : List A) → Before xs → (xs ≡ []) × After []
EachBegins {A} Before (Some x) After = (xs : List A) → Before xs → (rest : List A) × (xs ≡ x ∷ rest) × After rest

-- one item is taken from the lists that may come and from those that are certain to come, or none is left
pub record IsTaken {A : Type 0} (first : Option A) (before after : Answers (List A)) : Type 0 where
  pub yields : SomeBegin before.may first after.may
  pub takes : EachBegins before.will first after.will

-- the same, if exactly these lists come
abbrev pub IsTakenOf : {A : Type 0} → Option A → (List A → Type 0) → (List A → Type 0) → Type 0
IsTakenOf first P Q = IsTaken first (record { may = P; will = P }) (record { may = Q; will = Q })
