-- What iterators may give, and what they are certain to give.
use Rattle.std.specs.Prelude.{◌≡◌, ℕ, suc, Bool, List, [], ◌∷◌, Option, Some, None, MatchOption}
use Rattle.std.specs.Iterator.{Count, Drains, IsFinite, Yields, size}
use Rattle.std.specs.Option.{option_map_or}
use Rattle.std.specs.declared.iter.Iterator.{Ghosts}
use Rattle.tui_text.specs.Grapheme.{Glyph, glyph_of}
use Rattle.tui_text.specs.declared.alignment.Alignment.{Alignment}
use Rattle.tui_text.specs.declared.grapheme.StyledGrapheme.{StyledGrapheme}
use Rattle.tui_para.specs.Answers.{Answers}
use Rattle.tui_para.specs.Lines.{GlyphLine, GivenUnlessDone}

-- the iterator may give items that R relates to these values, and then end
abbrev pub MayGive : {S A B : Type 0} → (S → Option A → S → Type 0) → (A → B → Type 0) → S → List B → Type 0
MayGive {S} gives R s [] = (t : S) × gives s None t
MayGive {S} {A} gives R s (y ∷ ys) = (x : A) × (t : S) × gives s (Some x) t × R x y × MayGive gives R t ys

-- whatever items the iterator gives, R relates them to these values, and it ends after the last one
abbrev pub WillGive : {S A B : Type 0} → (S → Option A → S → Type 0) → (A → B → Type 0) → S → List B → Type 0
WillGive {S} {A} gives R s [] = (x : A) (t : S) → gives s (Some x) t → ⊥
WillGive {S} {A} gives R s (y ∷ ys) = ((t : S) → gives s None t → ⊥) × ((x : A) (t : S) → gives s (Some x) t → R x y × WillGive gives R t ys)

-- a grapheme of the code as plain data
abbrev pub IsGlyph : StyledGrapheme → Glyph → Type 0
IsGlyph g glyph = glyph_of g ≡ glyph

-- an iterator over graphemes, with an alignment, may give this line
abbrev pub MayBe : {I : Type 0} → (I → Option StyledGrapheme → I → Type 0) → I × Alignment → GlyphLine → Type 0
MayBe gives x line = MayGive gives IsGlyph x.0 line.glyphs × (x.1 ≡ line.alignment)

-- an iterator over graphemes, with an alignment, is certain to give this line
abbrev pub WillBe : {I : Type 0} → (I → Option StyledGrapheme → I → Type 0) → I × Alignment → GlyphLine → Type 0
WillBe gives x line = WillGive gives IsGlyph x.0 line.glyphs × (x.1 ≡ line.alignment)

-- what an iterator over graphemes gives: nothing once it has ended
abbrev pub SourceGives : {I : Type 0} → (I → List Glyph → Type 0) → Option I → List Glyph → Type 0
SourceGives gives source glyphs = MatchOption source (glyphs ≡ []) (λ i. gives i glyphs)

-- the graphemes that an iterator may give, and those that it is certain to give
abbrev pub source_yields : {I : Type 0} → (I → Option StyledGrapheme → I → Type 0) → Option I → Answers (List Glyph)
source_yields gives source = record { may = SourceGives (MayGive gives IsGlyph) source; will = SourceGives (WillGive gives IsGlyph) source }

-- what an iterator over text lines gives, if `inner` is what their iterators give: nothing once it has ended
abbrev pub line_yields : {O I : Type 0} → (O → Option (I × Alignment) → O → Type 0) → (I → Option StyledGrapheme → I → Type 0) → Bool → O →
    Answers (List GlyphLine)
line_yields outer inner done o = record {
  may = GivenUnlessDone done (MayGive outer (MayBe inner) o);
  will = GivenUnlessDone done (WillGive outer (WillBe inner) o);
}

-- an iterator gave these graphemes and became the other one, or ended; if it had ended before, it gave none
abbrev pub SourceReads : {I : Type 0} → (I → Option StyledGrapheme → I → Type 0) → Option I → List StyledGrapheme → Option I → Type 0
SourceReads gives None taken left = (taken ≡ []) × (left ≡ None)
SourceReads gives (Some i) taken left = MatchOption left (Drains gives i taken) (λ j. Yields gives i taken j)

-- how many calls are needed at most until it has ended
abbrev pub source_left : {I : Type 0} → (I → Count) → Option I → ℕ
source_left left source = option_map_or (λ i. suc (size (left i))) source 0

-- The iterator may be called, and it ends. `Ghosts` holds its ghost members: when it may be called, what a call gives,
-- and how many items are left at most.
pub record Ready {I A : Type 0} (words : Ghosts I A) (i : I) : Type 0 where
  pub can_next : words.can_next i
  pub ends : IsFinite (words.remaining i)

-- the same for an iterator over iterators, and for each one that it may give
pub record AllReady {O I : Type 0} (outer : Ghosts O (I × Alignment)) (inner : Ghosts I StyledGrapheme) (o : O) : Type 0 where
  pub all : Ready outer o
  pub each : (xs : List (I × Alignment)) (t u : O) (x : I × Alignment) → Yields outer.next_gives o xs t →
      outer.next_gives t (Some x) u → Ready inner x.0
