-- Paragraphs in areas, and items side by side.
use Rattle.std.proofs.Common.{◌≡◌, ℕ, ◌+◌, ◌<◌, ◌≤◌, min, Option, None, List, [], ◌∷◌, length, map, drop, get_or}
use Rattle.std.proofs.Common.{Result, Ok, Err, sym, ap, ◌∙◌, subst, arith, inl, inr}
use Rattle.std.specs.Prelude.{OnErr, OnOk}
use Rattle.std.proofs.lemmas.Bool.{cases_lt}
use Rattle.std.proofs.lemmas.List.{drop_more, get_or-map, length-map}
use Rattle.tui_cells.specs.Buffer.{Screen}
use Rattle.tui_cells.specs.Layers.{KeptOutside, Layer, Painted, StayIn}
use Rattle.tui_cells.specs.Rect.{columns_from, covers, intersection_of}
use Rattle.tui_cells.specs.declared.rect.Rect.{Rect}
use Rattle.tui_cells.proofs.Painting.{KeptOutside-then, KeptOutside-weaker, Painted-kept, Painted-none, Painted-then}
use Rattle.tui_cells.proofs.Regions.{columns_out, outside_both}
use Rattle.tui_frames.specs.Block.{BlockData}
use Rattle.tui_frames.specs.Footprint.{footprint_if}
use Rattle.tui_layout.specs.declared.segment.Segment.{Segment}
use Rattle.tui_para.specs.Paragraph.{ParagraphData}
use Rattle.tui_para.specs.Rendering.{paragraph_layers}
use Rattle.tui_para.specs.Stays.{paragraph_stays}
use Rattle.tui_pages_lib.specs.Strokes.{side_by_side}
use Rattle.tui_pages_lib.proofs.Measured.{drop_past}

-- what a paragraph without a block does not change
pub kept_in : {T E : Type 0} (result : Result T E) (p : ParagraphData) (area : Rect) (a b : Screen) → p.block ≡ None →
    OnOk result (Painted (paragraph_layers p (intersection_of area a.area)) a b) →
    OnErr result (KeptOutside (footprint_if p.block (intersection_of area a.area)) a b) → KeptOutside (covers area) a b
kept_in (Ok x) p area a b none ok err =
    let clip = intersection_of area a.area in
    let stays : StayIn (covers clip) (paragraph_layers p clip) =
    subst (λ (o : Option BlockData). StayIn (footprint_if o clip) (paragraph_layers p clip)) none (paragraph_stays p clip) in
    KeptOutside-weaker (λ x y out. outside_both area a.area x y out) (Painted-kept stays ok)
kept_in (Err e) p area a b none ok err =
    let clip = intersection_of area a.area in
    KeptOutside-weaker (λ x y out. outside_both area a.area x y out)
    (subst (λ (o : Option BlockData). KeptOutside (footprint_if o clip) a b) none err)

-- one more item side by side, and none
pub beside_more : {A X : Type 0} (layers : Rect → Rect → X → List Layer) (look : A → X) (buffer rows area : Rect) (places : List Segment)
    (xs : List A) (i n : ℕ) (p : Segment) (x : A) (a b c : Screen) →
    n ≡ min (length places) (length xs) → i < n → a.area ≡ buffer →
    area ≡ columns_from rows (get_or places i p).start (get_or places i p).width →
    Painted (layers a.area area (look (get_or xs i x))) a b →
    Painted (side_by_side (layers buffer) rows (drop (i + 1) places) (drop (i + 1) (map look xs))) b c →
    Painted (side_by_side (layers buffer) rows (drop i places) (drop i (map look xs))) a c
unfolding side_by_side
beside_more layers look buffer rows area places xs i n p x a b c end h same e painted rest =
    let later = drop (i + 1) (map look xs) in
    let ps : drop i places ≡ get_or places i p ∷ drop (i + 1) places = drop_more places i p (omega arith) in
    let ys : drop i (map look xs) ≡ look (get_or xs i x) ∷ later =
    drop_more (map look xs) i (look x) (omega (arith, length-map xs look))
    ∙ ap (λ y. y ∷ later) (get_or-map look xs i x (look x) (omega arith)) in
    let here : Painted (layers buffer (columns_from rows (get_or places i p).start (get_or places i p).width) (look (get_or xs i x))) a b =
    subst (λ (r : Rect). Painted (layers buffer r (look (get_or xs i x))) a b) e
    (subst (λ (r : Rect). Painted (layers r area (look (get_or xs i x))) a b) same painted) in
    subst (λ qs. Painted (side_by_side (layers buffer) rows qs (drop i (map look xs))) a c) (sym ps)
    (subst (λ zs. Painted (side_by_side (layers buffer) rows (get_or places i p ∷ drop (i + 1) places) zs) a c) (sym ys)
    (Painted-then here rest))

beside_none : {X : Type 0} (layers : Rect → X → List Layer) (rows : Rect) (places : List Segment) (xs : List X) (a : Screen) → xs ≡ [] →
    Painted (side_by_side layers rows places xs) a a
unfolding side_by_side
beside_none layers rows [] xs a e = Painted-none a
beside_none layers rows (place ∷ places) [] a e = Painted-none a
beside_none layers rows (place ∷ places) (x ∷ xs) a e = absurd (let n = ap length e in omega arith)

pub beside_done : {A X : Type 0} (layers : Rect → X → List Layer) (look : A → X) (rows : Rect) (places : List Segment) (xs : List A) (i n : ℕ)
    (a : Screen) → n ≡ min (length places) (length xs) → n ≤ i →
    Painted (side_by_side layers rows (drop i places) (drop i (map look xs))) a a
unfolding side_by_side
beside_done layers look rows places xs i n a end h =
    elim (cases_lt i (length places)) [
      | inl more ↦
          beside_none layers rows (drop i places) (drop i (map look xs)) a (drop_past i (map look xs) (omega (arith, length-map xs look)))
      | inr done ↦
          subst (λ qs. Painted (side_by_side layers rows qs (drop i (map look xs))) a a) (sym (drop_past i places done)) (Painted-none a)
    ]

-- what changes nothing outside some columns of an area changes nothing outside the area
pub column_kept : (rows area : Rect) (start width : ℕ) (a b c : Screen) → KeptOutside (covers rows) a b → area ≡ columns_from rows start width →
    KeptOutside (covers area) b c → KeptOutside (covers rows) a c
column_kept rows area start width a b c before e k =
    KeptOutside-then before
    (KeptOutside-weaker (λ x y out. columns_out rows start width x y out) (subst (λ (r : Rect). KeptOutside (covers r) b c) e k))
