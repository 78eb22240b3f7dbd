use Rattle.std.proofs.Common.{◌≡◌, ◌+◌, ◌++◌, [], ◌∷◌, List, Bool, true, false, cond, map, refl, ap, sym, ◌∙◌, rules, arith}
use Rattle.std.proofs.lemmas.List.{append-nil, append_assoc, map-append}
use Rattle.std.proofs.lemmas.List.Sums.{sum_by_push}
use Rattle.std.specs.Prelude.{sum_by}
use Rattle.tui_text.specs.Grapheme.{Glyph, glyph_of, glyph_width}
use Rattle.tui_text.specs.declared.grapheme.StyledGrapheme.{StyledGrapheme}
use Rattle.tui_para.specs.Truncation.{shown_of}
use Rattle.tui_para.specs.declared.truncating.truncation.Truncation.{Truncation}
use Rattle.tui_para.proofs.Sources.{Yields-append}
use Rattle.tui_para.proofs.truncating.refilling.refill.Goals as goal

same_if : (b : Bool) → cond {A = List Glyph} b [] [] ≡ []
same_if true = refl
same_if false = refl

-- at the end of the text line
read_all : (start truncation : Truncation) (read shown : List Glyph) → ((rest : List Glyph) → shown_of start (read ++ rest) ≡ shown ++ shown_of truncation rest) → shown ≡ shown_of start read
read_all start truncation read shown h =
    sym (ap (shown_of start) (sym (append-nil read)) ∙ (h [] ∙ (ap (λ k. shown ++ k) (same_if truncation.full) ∙ append-nil shown)))

-- if the line is full, whatever is left
read_rest : (start truncation : Truncation) (read shown rest : List Glyph) → truncation.full ≡ true → shown_of start (read ++ rest) ≡ shown ++ shown_of truncation rest →
    shown ≡ shown_of start (read ++ rest)
read_rest start truncation read shown rest full h = sym (h ∙ rw full (append-nil shown))

-- one more grapheme, of which this is shown
read_more : (start before after : Truncation) (taken : List StyledGrapheme) (x : StyledGrapheme) (shown more rest : List Glyph)
    → ((rest : List Glyph) → shown_of start (map glyph_of taken ++ rest) ≡ shown ++ shown_of before rest)
    → shown_of before (glyph_of x ∷ rest) ≡ more ++ shown_of after rest
    → shown_of start (map glyph_of (taken ++ x ∷ []) ++ rest) ≡ (shown ++ more) ++ shown_of after rest
read_more start before after taken x shown more rest h step =
    rw (map-append glyph_of taken (x ∷ []), append_assoc (map glyph_of taken) (glyph_of x ∷ []) rest, append_assoc shown more (shown_of after rest))
    (h (glyph_of x ∷ rest) ∙ ap (λ k. shown ++ k) step)

sum_more : (items : List StyledGrapheme) (x : StyledGrapheme) →
    sum_by glyph_width (map glyph_of (items ++ x ∷ [])) ≡ sum_by glyph_width (map glyph_of items) + glyph_width (glyph_of x)
sum_more items x = rw (map-append glyph_of items (x ∷ [])) (sum_by_push glyph_width (map glyph_of items) (glyph_of x))

pub returns-in_default-clause-line : goal.returns-in_default-clause-line
returns-in_default-clause-line g c =
    let (taken, yields, shows) = c.graphemes.invariant.read in
    (taken, (c.next.new.self, (c.graphemes.rest, yields, c.in_default.ensures.steps)), read_all c.args.start c.graphemes.truncation _ _ shows)

pub graphemes-preserved-in-Continue-1 : goal.graphemes-preserved-in-Continue-1
graphemes-preserved-in-Continue-1 g c =
    let x = c.in-Some.grapheme in
    let (taken, yields, shown) = c.graphemes.invariant.read in
    let on = c.in-Some.ensures.goes.on c.graphemes.invariant.ready.ends in
    let more = sum_more c.graphemes.shown.items x in
    let room = c.if-shows.ensures.room in
    let before = c.graphemes.invariant.columns in
    record {
      read = (
        taken ++ x ∷ [],
        Yields-append g.I.Iterator.next_gives c.args.line c.graphemes.rest c.next.new.self taken (x ∷ []) yields (c.next.new.self, c.in-Some.ensures.steps, refl),
        λ rest. rw (c.in_ok-push.ensures.items, map-append glyph_of c.graphemes.shown.items (x ∷ []))
            (read_more c.args.start c.graphemes.truncation c.shows.new.self taken x (map glyph_of c.graphemes.shown.items) (glyph_of x ∷ []) rest shown (c.if-shows.ensures.line rest)),
      );
      columns = rw c.in_ok-push.ensures.items (omega (arith, more, room, before));
      ready = record { can_next = on.0; ends = on.1 };
    }

pub graphemes-preserved : goal.graphemes-preserved
graphemes-preserved g c =
    let x = c.in-Some.grapheme in
    let (taken, yields, shown) = c.graphemes.invariant.read in
    let on = c.in-Some.ensures.goes.on c.graphemes.invariant.ready.ends in
    let room = c.if-shows.ensures.room in
    let before = c.graphemes.invariant.columns in
    record {
      read = (
        taken ++ x ∷ [],
        Yields-append g.I.Iterator.next_gives c.args.line c.graphemes.rest c.next.new.self taken (x ∷ []) yields (c.next.new.self, c.in-Some.ensures.steps, refl),
        λ rest. read_more c.args.start c.graphemes.truncation c.shows.new.self taken x (map glyph_of c.graphemes.shown.items) [] rest shown (c.if-shows.ensures.line rest)
            ∙ ap (λ k. k ++ shown_of c.shows.new.self rest) (append-nil (map glyph_of c.graphemes.shown.items)),
      );
      columns = omega (arith, room, before);
      ready = record { can_next = on.0; ends = on.1 };
    }

pub returns-clause-line : goal.returns-clause-line
returns-clause-line g c =
    let (taken, yields, shown) = c.graphemes.invariant.read in
    let (more, (last, (end, ended, stop))) = c.read_line.ensures in
    let full : c.graphemes.truncation.full ≡ true = search rules in (
      taken ++ more,
      (last, (end, Yields-append g.I.Iterator.next_gives c.args.line c.graphemes.rest end taken more yields ended, stop)),
      rw (map-append glyph_of taken more)
          (read_rest c.args.start c.graphemes.truncation (map glyph_of taken) (map glyph_of c.graphemes.shown.items) (map glyph_of more) full (shown (map glyph_of more))),
    )
