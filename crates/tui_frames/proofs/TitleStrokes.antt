-- Titles of a block in their columns, one more at a time.
use Rattle.std.proofs.Common.{
  ◌≡◌,
  ℕ,
  ◌+◌,
  ◌-◌,
  ◌/◌,
  ◌<◌,
  ◌≤◌,
  min,
  Bool,
  true,
  false,
  List,
  [],
  ◌∷◌,
  ◌++◌,
  drop,
  get_or,
  length,
  map,
  take,
  unwrap_or,
  nat_le,
  nat_lt,
  if◌then◌else◌,
  refl,
  ◌∙◌,
  ap,
  sym,
  subst,
  arith,
}
use Rattle.std.proofs.lemmas.Bool.Decides.{nat_tests}
use Rattle.std.proofs.lemmas.List.Sums.{sum_by-append}
use Rattle.tui_cells.specs.declared.rect.Rect.{Rect}
use Rattle.tui_cells.specs.Buffer.{Screen}
use Rattle.tui_cells.specs.Cell.{set_style}
use Rattle.tui_cells.specs.Layers.{Layer, Painted, StayIn}
use Rattle.tui_cells.specs.Rect.{columns_from, covers, intersection_of, is_empty}
use Rattle.tui_cells.specs.Stays.{StayIn-append, StayIn-stroke}
use Rattle.tui_cells.proofs.Painting.{Painted-empty, Painted-none, Painted-then}
use Rattle.tui_text.specs.Line.{LineData}
use Rattle.tui_text.specs.declared.alignment.Alignment.{Alignment}
use Rattle.tui_text.specs.declared.alignment.Alignment.TheVariants.{Left, Right}
use Rattle.tui_text.proofs.RowStays.{row_stays}
use Rattle.tui_frames.specs.Block.{BlockData, TitleData, title_data}
use Rattle.tui_frames.specs.Strokes.{title_layers, titles_cut, titles_from, titles_in_middle, titles_to_end}
use Rattle.tui_frames.specs.Titles.{is_in, spaced, title_width, titles_in, total}
use Rattle.tui_frames.specs.declared.block.title.TitlePlace.{TitlePlace}
use Rattle.tui_frames.specs.declared.block.title.Title.{Title}
use Rattle.tui_frames.proofs.TitleLists.{one_there, titles_in-from, titles_in-none, titles_in-parts}

-- without columns there are no cells
no_columns : (c strip : Rect) (column width : ℕ) → min width (strip.width - column) ≡ 0 → is_empty (intersection_of c (columns_from strip column width)) ≡ true
no_columns c strip column width e = grind (arith, nat_tests)

-- a title without columns does nothing
nothing_shown : (b : BlockData) (c strip : Rect) (column width : ℕ) (a : Alignment) (t : LineData) (s : Screen) → min width (strip.width - column) ≡ 0 →
    Painted (title_layers b c (columns_from strip column width) a t) s s
nothing_shown b c strip column width a t s e =
    let part = intersection_of c (columns_from strip column width) in
    let stays : StayIn (covers part) (title_layers b c (columns_from strip column width) a t) =
    StayIn-append (StayIn-stroke (covers part) (set_style b.title_style) (λ x y out. out)) (row_stays part a t) in
    Painted-empty part s stays (no_columns c strip column width e)

-- without room no title is shown
pub from_ended : (b : BlockData) (c strip : Rect) (column : ℕ) (ts : List LineData) (s : Screen) → strip.width ≤ column →
    Painted (titles_from b c strip column ts) s s
unfolding titles_from
from_ended b c strip column [] s le = Painted-none s
from_ended b c strip column (t ∷ ts) s le =
    Painted-then (nothing_shown b c strip column _ _ t s (omega arith)) (from_ended b c strip (column + title_width t + 1) ts s (omega arith))

pub cut_ended : (b : BlockData) (c strip : Rect) (cut column : ℕ) (ts : List LineData) (s : Screen) → strip.width ≤ column →
    Painted (titles_cut b c strip cut column ts) s s
unfolding titles_cut
cut_ended b c strip cut column [] s le = Painted-none s
cut_ended b c strip cut column (t ∷ ts) s le =
    Painted-then (nothing_shown b c strip column _ _ t s (omega arith))
    (cut_ended b c strip cut (column + (min (title_width t) (strip.width - column) - (cut - column)) + 1) ts s (omega arith))

-- a title that belongs in the place is painted from a column on
pub from_more : (b : BlockData) (c strip part : Rect) (column width next : ℕ) (a : Alignment) (p : TitlePlace) (t : TitleData) (old new : Screen) →
    is_in b p t ≡ true → width ≡ title_width t.line → part ≡ columns_from strip column width → a ≡ unwrap_or t.line.alignment Left → next ≡ column + width + 1 →
    Painted (title_layers b c part a t.line) old new →
    (ts : List LineData) (final : Screen) → Painted (titles_from b c strip next ts) new final →
    Painted (titles_from b c strip column (titles_in b p (t ∷ []) ++ ts)) old final
unfolding titles_from
from_more b c strip part column width next a p t old new here wide there aligned after painted ts final rest =
    let whole : Painted (titles_from b c strip column (t.line ∷ ts)) old final =
    Painted-then (rw (there, aligned, wide) at painted) (rw (after, wide) at rest) in
    subst (λ (ls : List LineData). Painted (titles_from b c strip column (ls ++ ts)) old final) (sym (one_there b p t here)) whole

-- likewise a title that is cut at both ends
pub cut_more : (b : BlockData) (c strip part : Rect) (cut column width shown next : ℕ) (a : Alignment) (p : TitlePlace) (t : TitleData) (old new : Screen) →
    is_in b p t ≡ true → width ≡ title_width t.line → shown ≡ min width (strip.width - column) - (cut - column) →
    part ≡ columns_from strip column shown → a ≡ (if nat_lt column cut then Right else Left) → next ≡ column + shown + 1 →
    Painted (title_layers b c part a t.line) old new →
    (ts : List LineData) (final : Screen) → Painted (titles_cut b c strip cut next ts) new final →
    Painted (titles_cut b c strip cut column (titles_in b p (t ∷ []) ++ ts)) old final
unfolding titles_cut
cut_more b c strip part cut column width shown next a p t old new here wide is there aligned after painted ts final rest =
    let whole : Painted (titles_cut b c strip cut column (t.line ∷ ts)) old final =
    Painted-then (rw (there, is, aligned, wide) at painted) (rw (after, is, wide) at rest) in
    subst (λ (ls : List LineData). Painted (titles_cut b c strip cut column (ls ++ ts)) old final) (sym (one_there b p t here)) whole

-- the titles of a place from one title on: that one, and then the others
pub one_more : (first then_ : List LineData → List Layer) (b : BlockData) (p : TitlePlace) (xs : List Title) (i : ℕ) (x d : Title) (old new final : Screen) →
    i < length xs → x ≡ get_or xs i d →
    ((ts : List LineData) (last : Screen) → Painted (then_ ts) new last → Painted (first (titles_in b p (title_data x ∷ []) ++ ts)) old last) →
    Painted (then_ (titles_in b p (map title_data (drop (i + 1) xs)))) new final →
    Painted (first (titles_in b p (map title_data (drop i xs)))) old final
one_more first then_ b p xs i x d old new final lt at painted rest =
    subst (λ (ts : List LineData). Painted (first ts) old final) (sym (titles_in-from b p xs i x d lt at)) (painted _ final rest)

-- past the last title nothing is left
pub from_done : (b : BlockData) (c strip : Rect) (column : ℕ) (p : TitlePlace) (xs : List Title) (i : ℕ) (s : Screen) → length xs ≤ i →
    Painted (titles_from b c strip column (titles_in b p (map title_data (drop i xs)))) s s
unfolding titles_from
from_done b c strip column p xs i s le = rw (titles_in-none b p xs i le) (Painted-none s)

pub cut_done : (b : BlockData) (c strip : Rect) (cut column : ℕ) (p : TitlePlace) (xs : List Title) (i : ℕ) (s : Screen) → length xs ≤ i →
    Painted (titles_cut b c strip cut column (titles_in b p (map title_data (drop i xs)))) s s
unfolding titles_cut
cut_done b c strip cut column p xs i s le = rw (titles_in-none b p xs i le) (Painted-none s)

-- a title that belongs in the place is painted to the left of those that follow it
pub before_more : (b : BlockData) (c strip part : Rect) (after width shown : ℕ) (a : Alignment) (p : TitlePlace) (t : TitleData) (old new : Screen) →
    is_in b p t ≡ true → width ≡ title_width t.line → shown ≡ min width (strip.width - after) →
    part ≡ columns_from strip (strip.width - after - shown) shown → a ≡ unwrap_or t.line.alignment Left →
    Painted (title_layers b c part a t.line) old new →
    (ts : List LineData) (first : Screen) → after ≡ spaced ts → Painted (titles_to_end b c strip ts) first old →
    Painted (titles_to_end b c strip (titles_in b p (t ∷ []) ++ ts)) first new
unfolding titles_to_end
before_more b c strip part after width shown a p t old new here wide is there aligned painted ts first following rest =
    let whole : Painted (titles_to_end b c strip (t.line ∷ ts)) first new = Painted-then rest (rw (there, is, aligned, wide, following) at painted) in
    subst (λ (ls : List LineData). Painted (titles_to_end b c strip (ls ++ ts)) first new) (sym (one_there b p t here)) whole

-- if there is no room before the titles that are painted, no other title is shown
pub end_ended : (b : BlockData) (c strip : Rect) (xs ts : List LineData) (old new : Screen) → strip.width ≤ spaced ts →
    Painted (titles_to_end b c strip ts) old new → Painted (titles_to_end b c strip (xs ++ ts)) old new
unfolding titles_to_end
end_ended b c strip [] ts old new le p = p
end_ended b c strip (x ∷ xs) ts old new le p =
    let more = sum_by-append (λ t. title_width t + 1) xs ts in
    Painted-then (end_ended b c strip xs ts old new le p) (nothing_shown b c strip _ _ _ x new (omega arith))

-- all titles of a place are those before one and those from it on
pub end_of_room : (b : BlockData) (c strip : Rect) (p : TitlePlace) (xs : List Title) (k : ℕ) (old new : Screen) →
    strip.width ≤ spaced (titles_in b p (map title_data (drop k xs))) → Painted (titles_to_end b c strip (titles_in b p (map title_data (drop k xs)))) old new →
    Painted (titles_to_end b c strip (titles_in b p (map title_data xs))) old new
end_of_room b c strip p xs k old new le painted =
    subst (λ (ts : List LineData). Painted (titles_to_end b c strip ts) old new) (sym (titles_in-parts b p xs k))
    (end_ended b c strip (titles_in b p (map title_data (take k xs))) (titles_in b p (map title_data (drop k xs))) old new le painted)

pub end_done : (b : BlockData) (c strip : Rect) (p : TitlePlace) (xs : List Title) (k : ℕ) (s : Screen) → length xs ≤ k →
    Painted (titles_to_end b c strip (titles_in b p (map title_data (drop k xs)))) s s
unfolding titles_to_end
end_done b c strip p xs k s le = rw (titles_in-none b p xs k le) (Painted-none s)

-- the titles of a place from one title on: those from the next one on, and then that one
pub end_more : (b : BlockData) (c strip : Rect) (p : TitlePlace) (xs : List Title) (m k after next : ℕ) (x d : Title) (first old new : Screen) →
    m < length xs → x ≡ get_or xs m d → k ≡ m + 1 →
    ((ts : List LineData) (s : Screen) → after ≡ spaced ts → Painted (titles_to_end b c strip ts) s old →
    Painted (titles_to_end b c strip (titles_in b p (title_data x ∷ []) ++ ts)) s new) →
    Painted (titles_to_end b c strip (titles_in b p (map title_data (drop k xs)))) first old →
    after ≡ spaced (titles_in b p (map title_data (drop k xs))) →
    Painted (titles_to_end b c strip (titles_in b p (map title_data (drop m xs)))) first new
end_more b c strip p xs m k after next x d first old new lt at more painted shown taken =
    let rest = titles_in b p (map title_data (drop k xs)) in
    let one : titles_in b p (map title_data (drop m xs)) ≡ titles_in b p (title_data x ∷ []) ++ rest = rw more (titles_in-from b p xs m x d lt at) in
    subst (λ (ts : List LineData). Painted (titles_to_end b c strip ts) first new) (sym one) (painted rest first taken shown)

pub end_taken : (b : BlockData) (p : TitlePlace) (xs : List Title) (m k after next : ℕ) (x d : Title) →
    m < length xs → x ≡ get_or xs m d → k ≡ m + 1 → next ≡ after + spaced (titles_in b p (title_data x ∷ [])) →
    after ≡ spaced (titles_in b p (map title_data (drop k xs))) → next ≡ spaced (titles_in b p (map title_data (drop m xs)))
end_taken b p xs m k after next x d lt at more here taken =
    let rest = titles_in b p (map title_data (drop k xs)) in
    let one : titles_in b p (map title_data (drop m xs)) ≡ titles_in b p (title_data x ∷ []) ++ rest = rw more (titles_in-from b p xs m x d lt at) in
    let all : spaced (titles_in b p (map title_data (drop m xs))) ≡ spaced (titles_in b p (title_data x ∷ [])) + spaced rest =
    ap spaced one ∙ sum_by-append (λ t. title_width t + 1) (titles_in b p (title_data x ∷ [])) rest in
    omega arith

-- titles in the middle that fit, and titles that do not
chosen : (fits : Bool) (xs ys : List Layer) → fits ≡ true → (if fits then xs else ys) ≡ xs
chosen true xs ys e = refl
chosen false xs ys e = cc

refused : (fits : Bool) (xs ys : List Layer) → fits ≡ false → (if fits then xs else ys) ≡ ys
refused true xs ys e = cc
refused false xs ys e = refl

does_fit : (m n : ℕ) → m ≤ n → nat_le m n ≡ true
does_fit m n le = grind (arith, nat_tests)

does_not_fit : (m n : ℕ) → n < m → nat_le m n ≡ false
does_not_fit m n lt = grind (arith, nat_tests)

pub middle_fits : (b : BlockData) (c strip : Rect) (ts : List LineData) (column all : ℕ) (old new : Screen) → all ≡ total ts → all ≤ strip.width →
    column ≡ (strip.width - all) / 2 → Painted (titles_from b c strip column ts) old new → Painted (titles_in_middle b c strip ts) old new
unfolding titles_in_middle
middle_fits b c strip ts column all old new e le half p =
    subst (λ (ls : List Layer). Painted ls old new)
    (ap (λ n. titles_from b c strip n ts) (half ∙ ap (λ n. (strip.width - n) / 2) e) ∙ sym (chosen _ _ _ (does_fit (total ts) strip.width (omega arith)))) p

pub middle_is_cut : (b : BlockData) (c strip : Rect) (ts : List LineData) (cut all : ℕ) (old new : Screen) → all ≡ total ts → strip.width < all →
    cut ≡ (all - strip.width) / 2 → Painted (titles_cut b c strip cut 0 ts) old new → Painted (titles_in_middle b c strip ts) old new
unfolding titles_in_middle
middle_is_cut b c strip ts cut all old new e lt half p =
    subst (λ (ls : List Layer). Painted ls old new)
    (ap (λ n. titles_cut b c strip n 0 ts) (half ∙ ap (λ n. (n - strip.width) / 2) e)
    ∙ sym (refused _ _ _ (does_not_fit (total ts) strip.width (omega arith)))) p
