-- What iterators give from one state on, and from a later one on.
use Rattle.std.proofs.Common.{◌≡◌, Bool, true, false, List, [], ◌∷◌, ◌++◌, Option, Some, None, map, refl, sym, ap, ◌∙◌, inl, inr, ⊎_elim, subst}
use Rattle.std.proofs.lemmas.Bool.{false≢true}
use Rattle.std.specs.Iterator.{Drains, MakesProgress, Yields}
use Rattle.std.specs.declared.iter.Iterator.{Ghosts}
use Rattle.tui_text.specs.Grapheme.{Glyph, glyph_of}
use Rattle.tui_text.specs.declared.alignment.Alignment.{Alignment}
use Rattle.tui_text.specs.declared.grapheme.StyledGrapheme.{StyledGrapheme}
use Rattle.tui_para.specs.Answers.{Answers, both}
use Rattle.tui_para.specs.Given.{AllReady, MayBe, MayGive, Ready, SourceGives, SourceReads, WillBe, WillGive, line_yields, source_yields}
use Rattle.tui_para.specs.Lines.{GlyphLine, glyph_line, GivenUnlessDone}

-- after a call that gives an item, the iterator and this item are ready
module _ {O I : Type 0} {outer : Ghosts O (I × Alignment)} {inner : Ghosts I StyledGrapheme} (o u : O) (x : I × Alignment) (r : AllReady outer inner o) (g : outer.next_gives o (Some x) u) where
  pub AllReady-step : MakesProgress outer.can_next outer.remaining o (Some x) u → AllReady outer inner u
  AllReady-step p = let on = p.on r.all.ends in record {
    all = record { can_next = on.0; ends = on.1 };
    each = λ xs t v y ys h. r.each (x ∷ xs) t v y (u, g, ys) h;
  }

  pub AllReady-first : Ready inner x.0
  AllReady-first = r.each [] o u x refl g

-- between two states iterators gave something: `back` turns what they give from the later state on into what they give
-- from the earlier one on
pub record Gave {X Y : Type 0} (k : Answers X) (back : Y → X) (l : Answers Y) : Type 0 where
  pub may : (y : Y) → l.may y → k.may (back y)
  pub will : (x : X) → k.will x → (y : Y) × (x ≡ back y) × l.will y

pub Gave-none : {X : Type 0} (k : Answers X) → Gave k (λ x. x) k
Gave-none k = record { may = λ y h. h; will = λ x h. (x, refl, h) }

pub Gave-then : {X Y Z : Type 0} (k : Answers X) (l : Answers Y) (m : Answers Z) (f : Y → X) (g : Z → Y) → Gave k f l → Gave l g m → Gave k (λ z. f (g z)) m
Gave-then k l m f g a b = record {
  may = λ z h. a.may (g z) (b.may z h);
  will = λ x h. (let (y, e, i) = a.will x h in let (z, d, j) = b.will y i in (z, e ∙ ap f d, j));
}

pub Gave-both : {X Y U V : Type 0} (k : Answers X) (l : Answers Y) (m : Answers U) (n : Answers V) (f : U → X) (g : V → Y) → Gave k f m → Gave l g n → Gave (both k l) (λ z. (f z.0, g z.1)) (both m n)
Gave-both k l m n f g a b = record {
  may = λ z h. (a.may z.0 h.0, b.may z.1 h.1);
  will = λ (x, y) h. (let (u, e, i) = a.will x h.0 in let (v, d, j) = b.will y h.1 in ((u, v), ap (λ t. (t, y)) e ∙ ap (λ t. (f u, t)) d, (i, j)));
}

-- the same for two, if what the first one gives is known
pub Gave-beside : {X Y V : Type 0} (k : Answers X) (l : Answers Y) (n : Answers V) (x : X) (g : V → Y) → k.may x → ((other : X) → k.will other → other ≡ x) → Gave l g n → Gave (both k l) (λ z. (x, g z)) n
Gave-beside k l n x g may one b = record {
  may = λ z h. (may, b.may z h);
  will = λ (other, y) h. (let (v, d, j) = b.will y h.1 in (v, ap (λ t. (t, y)) (one other h.0) ∙ ap (λ t. (x, t)) d, j));
}

module _ {S A B : Type 0} (gives : S → Option A → S → Type 0) (R T : A → B → Type 0) where
  abbrev items : S → Answers (List B)
  items s = record { may = MayGive gives R s; will = WillGive gives T s }

  -- an iterator gave an item
  Gave-one : (s t : S) (x : A) → gives s (Some x) t → Gave (items s) (λ z. z.0 ∷ z.1) (both (record { may = R x; will = T x }) (items t))
  Gave-one s t x step = record { may = λ z h. (x, t, step, h.0, h.1); will = will }
    where
      will : (ys : List B) → WillGive gives T s ys → (z : B × List B) × (ys ≡ z.0 ∷ z.1) × (T x z.0 × WillGive gives T t z.1)
      will [] h = absurd (h x t step)
      will (y ∷ ys) h = ((y, ys), refl, h.1 x t step)

  -- an iterator gave none
  Gave-end : (s t : S) → gives s None t → (ys : List B) → WillGive gives T s ys → ys ≡ []
  Gave-end s t step [] h = refl
  Gave-end s t step (y ∷ ys) h = absurd (h.0 t step)

module _ {S A B : Type 0} (gives : S → Option A → S → Type 0) (view : A → B) where
  abbrev seen : S → Answers (List B)
  seen = items gives (λ x y. view x ≡ y) (λ x y. view x ≡ y)

  Gave-some : (s t : S) (xs : List A) → Yields gives s xs t → Gave (seen s) (λ ys. map view xs ++ ys) (seen t)
  Gave-some s t [] e = subst (λ v. Gave (seen s) (λ ys. ys) (seen v)) e (Gave-none (seen s))
  Gave-some s t (x ∷ xs) (j, step, h) =
      let one : Answers B = record { may = λ (y : B). view x ≡ y; will = λ (y : B). view x ≡ y } in
      Gave-then (seen s) (both one (seen j)) (seen t) (λ z. z.0 ∷ z.1) (λ ys. (view x, map view xs ++ ys)) (Gave-one gives (λ x y. view x ≡ y) (λ x y. view x ≡ y) s j x step)
      (Gave-beside one (seen j) (seen t) (view x) (λ ys. map view xs ++ ys) refl (λ other e. sym e) (Gave-some j t xs h))

  Gave-all : (s : S) (xs : List A) → Drains gives s xs → Gave (seen s) (λ ys. map view xs ++ ys) (record { may = λ ys. ys ≡ []; will = λ ys. ys ≡ [] })
  Gave-all s xs (v, (t, h, step)) =
      Gave-then (seen s) (seen t) (record { may = λ ys. ys ≡ []; will = λ ys. ys ≡ [] }) (λ ys. map view xs ++ ys) (λ ys. ys) (Gave-some s t xs h) (record {
        may = λ ys e. subst (MayGive gives (λ x y. view x ≡ y) t) (sym e) (v, step);
        will = λ ys k. (ys, refl, Gave-end gives (λ x y. view x ≡ y) (λ x y. view x ≡ y) t v step ys k);
      })

-- an iterator over graphemes gave some, and may have ended
pub source_gave : {I : Type 0} (gives : I → Option StyledGrapheme → I → Type 0) (source left : Option I) (taken : List StyledGrapheme) → SourceReads gives source taken left →
    Gave (source_yields gives source) (λ glyphs. map glyph_of taken ++ glyphs) (source_yields gives left)
source_gave gives None left taken (none, same) =
    let from = source_yields gives None in
    subst (λ o. Gave from (λ glyphs. map glyph_of taken ++ glyphs) (source_yields gives o)) (sym same) (subst (λ k. Gave from (λ glyphs. map glyph_of k ++ glyphs) from) (sym none) (Gave-none from))
source_gave gives (Some i) None taken reads = Gave-all gives glyph_of i taken reads
source_gave gives (Some i) (Some j) taken reads = Gave-some gives glyph_of i j taken reads

pub source_ended : {I : Type 0} (G : I → List Glyph → Type 0) (source : Option I) (glyphs : List Glyph) → SourceGives G source glyphs → source ≡ None → glyphs ≡ []
source_ended G source glyphs h e = subst (λ o. SourceGives G o glyphs) e h

-- what an iterator over graphemes gave until it ended
module _ {I : Type 0} (gives : I → Option StyledGrapheme → I → Type 0) (source left : Option I) (taken : List StyledGrapheme) (reads : SourceReads gives source taken left) (ends : left ≡ None) where
  pub all_may : (source_yields gives source).may (map glyph_of taken ++ [])
  all_may = (source_gave gives source left taken reads).may [] (subst (λ o. (source_yields gives o).may []) (sym ends) refl)

  pub all_will : (glyphs : List Glyph) → (source_yields gives source).will glyphs → glyphs ≡ map glyph_of taken ++ []
  all_will glyphs h =
      let (rest, e, none) = (source_gave gives source left taken reads).will glyphs h in
      e ∙ ap (λ k. map glyph_of taken ++ k) (source_ended (WillGive gives (λ g y. glyph_of g ≡ y)) left rest none ends)

module _ {O I : Type 0} (outer : O → Option (I × Alignment) → O → Type 0) (inner : I → Option StyledGrapheme → I → Type 0) (o u : O) (done : Bool) (going : done ≡ false) where
  -- an iterator over text lines gave one
  pub line_gave : (i : I) (a : Alignment) → outer o (Some (i, a)) u →
      Gave (line_yields outer inner done o) (λ z. glyph_line a z.0 ∷ z.1) (both (source_yields inner (Some i)) (line_yields outer inner done u))
  line_gave i a step = record {
    may = λ z h. ⊎_elim (λ t. absurd (false≢true (sym going ∙ t.0))) (λ t. inr (going, ((i, a), u, step, (h.0, refl), t.1))) h.1;
    will = λ ts h. ⊎_elim (λ t. absurd (false≢true (sym going ∙ t.0))) (λ t. begins ts t.1) h;
  }
    where
      begins : (ts : List GlyphLine) → WillGive outer (WillBe inner) o ts →
          (z : List Glyph × List GlyphLine) × (ts ≡ glyph_line a z.0 ∷ z.1) × ((source_yields inner (Some i)).will z.0 × (line_yields outer inner done u).will z.1)
      begins [] h = absurd (h (i, a) u step)
      begins (t ∷ ts) h = let on = h.1 (i, a) u step in ((t.glyphs, ts), ap (λ (b : Alignment). glyph_line b t.glyphs ∷ ts) (sym on.0.1), (on.0.0, inr (going, on.1)))

  -- it gave none
  pub line_ended : outer o None u → Gave (line_yields outer inner done o) (λ ts. ts) (line_yields outer inner true u)
  line_ended step = record {
    may = λ ts h. ⊎_elim (λ t. inr (going, subst (MayGive outer (MayBe inner) o) (sym t.1) (u, step))) (λ t. absurd (false≢true (sym t.0))) h;
    will = λ ts h. ⊎_elim (λ t. absurd (false≢true (sym going ∙ t.0))) (λ t. (ts, refl, inl (refl, Gave-end outer (MayBe inner) (WillBe inner) o u step ts t.1))) h;
  }

pub will_stop : (T : List GlyphLine → Type 0) (done : Bool) → done ≡ true → (ts : List GlyphLine) → GivenUnlessDone done T ts → ts ≡ []
will_stop T done e ts h = ⊎_elim (λ z. z.1) (λ z. absurd (false≢true (sym z.0 ∙ e))) h
