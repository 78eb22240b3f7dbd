-- The first line of a text, grapheme by grapheme.
use Rattle.std.proofs.Common.{◌≡◌, ℕ, Bool, true, false, cond, List, [], ◌∷◌, filter, Option, None, Some, refl, sym, ap, ◌∙◌, subst, ⊎_elim}
use Rattle.std.specs.Prelude.{MatchOption}
use Rattle.std.specs.Str.{IsUtf8}
use Rattle.unicode_segmentation.specs.Grapheme.{graphemes}
use Rattle.tui_clusters.specs.Shown.{is_shown}
use Rattle.tui_clusters.specs.Width.{width_of}
use Rattle.tui_para.specs.Counting.{Fits, after_piece, left_from, line_end, no_lines, read_in}
use Rattle.tui_para.specs.declared.counting.counter.Counter.{Counter}
use Rattle.tui_para.specs.declared.counting.line_end.LineEnd.{LineEnd}
use Rattle.tui_para.specs.declared.counting.line_end.LineEnd.TheVariants.{BeforeWord, WithinWord, AfterBlank}
use Rattle.tui_para.proofs.Greedy.{AllFit, all_fit-kept}
use Rattle.tui_para.proofs.InLine.{HasFirstLine, LineState, NextLineState, all_read, fits_in, line_state_first, line_state_step}
use Rattle.tui_line_places.specs.Next.{IsNextOf, IsNextShown}
use Rattle.tui_line_places.specs.declared.graphemes.Grapheme.{Grapheme}
use Rattle.tui_line_places.specs.declared.graphemes.Next.{Next}
use Rattle.tui_line_places.specs.declared.graphemes.Next.TheVariants as next
use Rattle.tui_line_places.specs.Places.{GoesOnInLine, line_clusters, shown_in}
use Rattle.tui_line_places.specs.Rests.{FirstThen, cluster_rule}
use Rattle.tui_line_places.proofs.Rests.{first_then}
use Rattle.tui_line_places.proofs.ShownClusters.{goes_on-refl, goes_on-then}

pub fit : (w : ℕ) (text : List ℕ) → AllFit width_of w (shown_in w text)
fit w text = all_fit-kept width_of w (filter is_shown (line_clusters (graphemes true text)))

-- nothing more is shown
pub nothing_more : (w : ℕ) (text : List ℕ) (found : Next) → ((g : Grapheme) → found ≡ next.Grapheme g → ⊥) → IsNextOf w text found → shown_in w text ≡ []
nothing_more w text (next.Grapheme g) over is = absurd (over g refl)
nothing_more w text (next.EndOfLine rest) over is = is.shown

-- the first line continues with `rest`, and its last word begins with `word`
pub record InLine (w : ℕ) (trim : Bool) (text word rest : List ℕ) (c : Counter) : Type 0 where
  pub goes_on : GoesOnInLine text rest
  pub word_on : GoesOnInLine text word
  pub line_state : LineState (cluster_rule w trim) c (shown_in w text) (shown_in w word) (shown_in w rest)

pub begun : (w : ℕ) (trim : Bool) (text : List ℕ) (c : Counter) → IsUtf8 text → c ≡ no_lines → InLine w trim text text text c
begun w trim text c u e = subst (InLine w trim text text text) (sym e) (record {
  goes_on = goes_on-refl text u;
  word_on = goes_on-refl text u;
  line_state = line_state_first (cluster_rule w trim) (shown_in w text) (shown_in w text);
})

module _ (w : ℕ) (trim : Bool) (text before rest : List ℕ) (c : Counter) (s : InLine w trim text before rest c) where
  pub fits : Fits w c
  fits = fits_in (cluster_rule w trim) c (shown_in w text) (shown_in w before) (shown_in w rest) s.line_state

  -- the text line has ended
  pub line_over : shown_in w rest ≡ [] → FirstThen (cluster_rule w trim) (shown_in w text) (shown_in w rest)
  line_over none =
      let R = cluster_rule w trim in
      subst (FirstThen R (shown_in w text)) (sym none) (⊎_elim
      (λ t. subst (λ ys. FirstThen R ys []) (sym t) (record { first = []; lines_are = refl }))
      (λ f. first_then R (shown_in w text) [] (fit w text) (subst (AllFit width_of w) none (fit w rest)) f)
      (all_read R c (shown_in w text) (shown_in w before) (shown_in w rest) s.line_state none))

  -- one more grapheme comes
  module _ (after word : List ℕ) (columns : ℕ) (blank : Bool) (n : IsNextShown w rest columns blank after) (word_is : word ≡ cond c.in_word before rest) where
    abbrev End : Option LineEnd
    End = line_end w trim (after_piece c blank) columns blank

    abbrev Now : Counter
    Now = read_in trim (after_piece c blank) columns blank

    word_goes_on : GoesOnInLine text word
    word_goes_on = subst (GoesOnInLine text) (sym word_is) (either c.in_word)
      where
        either : (b : Bool) → GoesOnInLine text (cond b before rest)
        either true = s.word_on
        either false = s.goes_on

    next_line_state : NextLineState (cluster_rule w trim) (shown_in w text) (shown_in w word) n.cluster (shown_in w after) End Now
    next_line_state =
        let R = cluster_rule w trim in
        let zs = shown_in w after in
        let here = subst (LineState R c (shown_in w text) (shown_in w before)) n.shown s.line_state in
        let shown_word : shown_in w word ≡ cond c.in_word (shown_in w before) (n.cluster ∷ zs) = ap (shown_in w) word_is ∙ either c.in_word in
        let on = line_state_step R c (shown_in w text) (shown_in w before) (shown_in w word) n.cluster zs refl shown_word here in
        let S = λ (k : ℕ) (b : Bool). NextLineState R (shown_in w text) (shown_in w word) n.cluster zs (line_end w trim (after_piece c b) k b) (read_in trim (after_piece c b) k b) in
        subst (λ (k : ℕ). S k blank) (sym n.width) (subst (S (width_of n.cluster)) (sym n.blank) on)
      where
        either : (b : Bool) → shown_in w (cond b before rest) ≡ cond b (shown_in w before) (n.cluster ∷ shown_in w after)
        either true = refl
        either false = n.shown

    -- the line continues
    pub line_goes : (found : Option LineEnd) (k : Counter) → ((end : LineEnd) → found ≡ Some end → ⊥) → found ≡ End → MatchOption found (k ≡ Now) (λ _. k ≡ after_piece c blank) → InLine w trim text word after k
    line_goes (Some end) k goes is now = absurd (goes end refl)
    line_goes None k goes is now = record {
      goes_on = goes_on-then text rest after s.goes_on n.goes_on;
      word_on = word_goes_on;
      line_state = subst (λ (t : Counter). LineState (cluster_rule w trim) t (shown_in w text) (shown_in w word) (shown_in w after)) (sym now)
          (subst (λ e. NextLineState (cluster_rule w trim) (shown_in w text) (shown_in w word) n.cluster (shown_in w after) e Now) (sym is) next_line_state);
    }

    -- the line ends
    pub left_on : (end : LineEnd) → GoesOnInLine text (left_from end word rest after)
    left_on BeforeWord = word_goes_on
    left_on WithinWord = s.goes_on
    left_on AfterBlank = goes_on-then text rest after s.goes_on n.goes_on

    shown_left : (end : LineEnd) → left_from end (shown_in w word) (n.cluster ∷ shown_in w after) (shown_in w after) ≡ shown_in w (left_from end word rest after)
    shown_left BeforeWord = refl
    shown_left WithinWord = sym n.shown
    shown_left AfterBlank = refl

    pub line_ends : (end : LineEnd) → Some end ≡ End → FirstThen (cluster_rule w trim) (shown_in w text) (shown_in w (left_from end word rest after))
    line_ends end some =
        let R = cluster_rule w trim in
        let front = subst (λ e. NextLineState R (shown_in w text) (shown_in w word) n.cluster (shown_in w after) e Now) (sym some) next_line_state in
        let left = left_from end word rest after in
        first_then R (shown_in w text) (shown_in w left) (fit w text) (fit w left) (subst (HasFirstLine R (shown_in w text)) (shown_left end) front)
