-- After a boundary the clusters of a text are those of the rest alone: no rule looks back past it.
use Rattle.std.proofs.Common.{◌≡◌, ◌≢◌, ℕ, zero, suc, Bool, true, false, not, ◌&&◌, ◌||◌, List, [], ◌∷◌, ◌++◌, map, take, drop, reverse, unwrap_or, refl, sym, ap, ap₂, ◌∙◌, arith, append-nil, append_assoc}
use Rattle.std.specs.List.{concat}
use Rattle.std.specs.Prelude.{if◌then◌else◌, encode_utf8_all}
use Rattle.std.specs.Str.{IsUtf8, chars, all_scalars}
use Rattle.std.proofs.lemmas.Bool.{and_parts}
use Rattle.std.proofs.lemmas.List.{drop-map, map-append, reverse-append, take-append-drop}
use Rattle.std.proofs.lemmas.List.Folds.{concat-append}
use Rattle.std.proofs.lemmas.Str.{chars-append, chars-encodes, encodes-append, encodes-chars, scalars-chars}
use Rattle.ucd_breaks.specs.GraphemeClusterBreak.{grapheme_cluster_break}
use Rattle.ucd_breaks.specs.declared.GraphemeClusterBreak.{GraphemeClusterBreak}
use Rattle.ucd_derived.specs.IndicConjunctBreak.{indic_conjunct_break}
use Rattle.ucd_derived.specs.declared.IndicConjunctBreak.{IndicConjunctBreak}
use Rattle.ucd_derived.specs.declared.IndicConjunctBreak.TheVariants as kinds
use Rattle.ucd_emoji.specs.Binary.{is_extended_pictographic}
use Rattle.unicode_segmentation.specs.Grapheme.{break_by_pair, ends_in_linker, is_consonant, joins_conjunct, is_extend, is_zwj, is_regional, ends_in_pictograph, joins_emoji, ends_in_half_flag, is_grapheme_break, graphemes}
use Rattle.unicode_segmentation.specs.Segments.{prepend, cut, segments}
use Rattle.tui_clusters.proofs.Controls.{is_control, is_joined, has_kind, conjunct_joined, control_alone}

-- no rule joins the character n, or one after it, because of the characters before n, which are listed nearest first
record Apart (before : List ℕ) (n : ℕ) : Type 0 where
  conjunct : indic_conjunct_break n ≡ kinds.Extend → ends_in_linker (map indic_conjunct_break before) ≡ false
  emoji : is_joined (grapheme_cluster_break n) ≡ true → ends_in_pictograph before ≡ false
  flag : is_regional (grapheme_cluster_break n) ≡ true → ends_in_half_flag before ≡ false

-- a boundary before a character that extends others comes after a control
after_control : (g h : GraphemeClusterBreak) (joins : Bool) → unwrap_or (break_by_pair true g h) (not joins) ≡ true → is_joined h ≡ true → is_control g ≡ true
after_control g h joins e j = grind arith

whole_flag : (g h : GraphemeClusterBreak) (others half : Bool) → unwrap_or (break_by_pair true g h) (not (others || (half && is_regional h))) ≡ true
    → is_regional h ≡ true → (is_control g || not half) ≡ true
whole_flag g h others half e r = grind arith

either : (x half : Bool) → (x || not half) ≡ true → (x ≡ true → half ≡ false) → half ≡ false
either true half e h = h refl
either false true e h = cc
either false false e h = refl

no_linker : (i : IndicConjunctBreak) (is : List IndicConjunctBreak) → has_kind i ≡ false → ends_in_linker (i ∷ is) ≡ false
unfolding ends_in_linker
no_linker kinds.None is h = refl
no_linker kinds.Extend is h = cc
no_linker kinds.Linker is h = cc
no_linker kinds.Consonant is h = cc

control_no_extend : (g : GraphemeClusterBreak) → is_control g ≡ true → (is_extend g ≡ false) × (is_regional g ≡ false)
control_no_extend g h = (grind arith, grind arith)

no_pictograph : (c : ℕ) (before : List ℕ) → is_control (grapheme_cluster_break c) ≡ true → ends_in_pictograph (c ∷ before) ≡ false
unfolding ends_in_pictograph
no_pictograph c before h =
    let alone = control_alone c h in
    let e = control_no_extend (grapheme_cluster_break c) h in
    rw (alone.1, e.0) refl

not_regional : (c : ℕ) (before : List ℕ) → is_regional (grapheme_cluster_break c) ≡ false → ends_in_half_flag (c ∷ before) ≡ false
unfolding ends_in_half_flag
not_regional c before h = rw h refl

-- no rule looks back past a boundary
apart : (before : List ℕ) (n : ℕ) (after : List ℕ) → is_grapheme_break true before (n ∷ after) ≡ true → Apart before n
unfolding is_grapheme_break ends_in_linker ends_in_pictograph ends_in_half_flag
apart [] n after e = record { conjunct = λ _. refl; emoji = λ _. refl; flag = λ _. refl }
apart (c ∷ before) n after e =
    let g = grapheme_cluster_break c in
    let h = grapheme_cluster_break n in
    let following = λ (j : is_joined h ≡ true). after_control g h _ e j in
    record {
      conjunct = λ x. no_linker _ _ (control_alone c (following (conjunct_joined n x))).0;
      emoji = λ j. no_pictograph c before (following j);
      flag = λ r. either (is_control g) _ (whole_flag g h _ (ends_in_half_flag (c ∷ before)) e r) (λ control. not_regional c before (control_no_extend g control).1);
    }

only_where : (b x : Bool) → (b ≡ true → x ≡ false) → (b && x) ≡ false
only_where true x h = h refl
only_where false x h = refl

extend_joined : (g : GraphemeClusterBreak) → is_extend g ≡ true → is_joined g ≡ true
extend_joined g h = grind arith

zwj_joined : (g : GraphemeClusterBreak) → is_zwj g ≡ true → is_joined g ≡ true
zwj_joined g h = grind arith

module _ (n : ℕ) (before : List ℕ) (a : Apart before n) where
  linker_same : (ks : List IndicConjunctBreak) → ends_in_linker (ks ++ map indic_conjunct_break (n ∷ before)) ≡ ends_in_linker (ks ++ map indic_conjunct_break (n ∷ []))
  unfolding ends_in_linker
  linker_same [] = first (indic_conjunct_break n) a.conjunct
    where
      first : (i : IndicConjunctBreak) → (i ≡ kinds.Extend → ends_in_linker (map indic_conjunct_break before) ≡ false)
          → ends_in_linker (i ∷ map indic_conjunct_break before) ≡ ends_in_linker (i ∷ [])
      first kinds.Linker h = refl
      first kinds.Extend h = h refl
      first kinds.Consonant h = refl
      first kinds.None h = refl
  linker_same (kinds.Linker ∷ ks) = refl
  linker_same (kinds.Extend ∷ ks) = linker_same ks
  linker_same (kinds.Consonant ∷ ks) = refl
  linker_same (kinds.None ∷ ks) = refl

  pictograph_same : (zs : List ℕ) → ends_in_pictograph (zs ++ n ∷ before) ≡ ends_in_pictograph (zs ++ n ∷ [])
  unfolding ends_in_pictograph
  pictograph_same [] =
      let g = grapheme_cluster_break n in
      ap (λ b. is_extended_pictographic n || b)
      (only_where (is_extend g) _ (λ e. a.emoji (extend_joined g e)) ∙ sym (only_where (is_extend g) false (λ _. refl)))
  pictograph_same (z ∷ zs) = ap (λ b. is_extended_pictographic z || (is_extend (grapheme_cluster_break z) && b)) (pictograph_same zs)

  flag_same : (zs : List ℕ) → ends_in_half_flag (zs ++ n ∷ before) ≡ ends_in_half_flag (zs ++ n ∷ [])
  unfolding ends_in_half_flag
  flag_same [] = first (is_regional (grapheme_cluster_break n)) (ends_in_half_flag before) a.flag
    where
      first : (b half : Bool) → (b ≡ true → half ≡ false) → (b && not half) ≡ (b && not false)
      first true half h = ap not (h refl)
      first false half h = refl
  flag_same (z ∷ zs) = ap (λ b. is_regional (grapheme_cluster_break z) && not b) (flag_same zs)

  conjunct_same : (zs : List ℕ) (next : ℕ) → joins_conjunct (zs ++ n ∷ before) next ≡ joins_conjunct (zs ++ n ∷ []) next
  conjunct_same zs next =
      let i = indic_conjunct_break in
      ap (λ b. b && is_consonant (i next))
      (ap ends_in_linker (map-append i zs (n ∷ before)) ∙ linker_same (map i zs) ∙ ap ends_in_linker (sym (map-append i zs (n ∷ []))))

  emoji_same : (zs : List ℕ) (next : ℕ) → joins_emoji (zs ++ n ∷ before) next ≡ joins_emoji (zs ++ n ∷ []) next
  unfolding ends_in_pictograph
  emoji_same [] next =
      let g = grapheme_cluster_break n in
      first (is_zwj g) (ends_in_pictograph before) (is_extended_pictographic next) (λ e. a.emoji (zwj_joined g e))
    where
      first : (b x y : Bool) → (b ≡ true → x ≡ false) → (b && x && y) ≡ (b && false && y)
      first true x y h = ap (λ t. t && y) (h refl)
      first false x y h = refl
  emoji_same (z ∷ zs) next = ap (λ t. is_zwj (grapheme_cluster_break z) && t && is_extended_pictographic next) (pictograph_same zs)

  -- so the characters before n don't matter
  break_same : (zs after : List ℕ) → is_grapheme_break true (zs ++ n ∷ before) after ≡ is_grapheme_break true (zs ++ n ∷ []) after
  unfolding is_grapheme_break
  break_same [] [] = refl
  break_same (z ∷ zs) [] = refl
  break_same [] (next ∷ after) =
      ap (λ t. unwrap_or (break_by_pair true (grapheme_cluster_break n) (grapheme_cluster_break next)) (not t))
      (ap₂ ◌||◌ (ap₂ ◌||◌ (conjunct_same [] next) (emoji_same [] next)) (ap (λ t. t && is_regional (grapheme_cluster_break next)) (flag_same [])))
  break_same (z ∷ zs) (next ∷ after) =
      ap (λ t. unwrap_or (break_by_pair true (grapheme_cluster_break z) (grapheme_cluster_break next)) (not t))
      (ap₂ ◌||◌ (ap₂ ◌||◌ (conjunct_same (z ∷ zs) next) (emoji_same (z ∷ zs) next)) (ap (λ t. t && is_regional (grapheme_cluster_break next)) (flag_same (z ∷ zs))))

  cut_same : (zs ys : List ℕ) → cut (is_grapheme_break true) (zs ++ n ∷ before) ys [] ≡ cut (is_grapheme_break true) (zs ++ n ∷ []) ys []
  unfolding cut
  cut_same zs [] = refl
  cut_same zs (y ∷ ys) =
      ap₂ (λ b rest. if b then (y ∷ []) ∷ rest else prepend (y ∷ []) rest) (break_same (y ∷ zs) (ys ++ [])) (cut_same (y ∷ zs) ys)

-- the characters before a boundary don't matter to the pieces after it
pub cut-fresh : (before ys : List ℕ) → is_grapheme_break true before ys ≡ true → cut (is_grapheme_break true) before ys [] ≡ cut (is_grapheme_break true) [] ys []
unfolding cut
cut-fresh before [] e = refl
cut-fresh before (n ∷ ys) e =
    let a = apart before n ys e in
    ap₂ (λ b rest. if b then (n ∷ []) ∷ rest else prepend (n ∷ []) rest) (break_same n before a [] (ys ++ [])) (cut_same n before a [] ys)

-- the characters that were read, the last one first
abbrev onto : List ℕ → List ℕ → List ℕ
onto [] before = before
onto (c ∷ cs) before = onto cs (c ∷ before)

onto-reverse : (cs before : List ℕ) → onto cs before ≡ reverse cs ++ before
onto-reverse [] before = refl
onto-reverse (c ∷ cs) before = onto-reverse cs (c ∷ before) ∙ sym (ap (λ r. r ++ before) (reverse-append (c ∷ []) cs) ∙ append_assoc (reverse cs) (c ∷ []) before)

cut_some : (before : List ℕ) (x : ℕ) (xs : List ℕ) → cut (is_grapheme_break true) before (x ∷ xs) [] ≢ []
unfolding cut
cut_some before x xs = picked (is_grapheme_break true (x ∷ before) (xs ++ [])) (cut (is_grapheme_break true) (x ∷ before) xs [])
  where
    picked : (b : Bool) (rest : List (List ℕ)) → (if b then (x ∷ []) ∷ rest else prepend (x ∷ []) rest) ≢ []
    picked true rest = λ e. cc
    picked false [] = λ e. cc
    picked false (r ∷ rest) = λ e. cc

picked-append : (b : Bool) (part : List ℕ) (ps qs : List (List ℕ)) → ps ≢ [] → (if b then part ∷ (ps ++ qs) else prepend part (ps ++ qs)) ≡ (if b then part ∷ ps else prepend part ps) ++ qs
picked-append true part ps qs some = refl
picked-append false part [] qs some = absurd (some refl)
picked-append false part (p ∷ ps) qs some = refl

-- no rule looks further ahead than one character
one_ahead : (before : List ℕ) (x : ℕ) (ys zs : List ℕ) → is_grapheme_break true before (x ∷ ys) ≡ is_grapheme_break true before (x ∷ zs)
unfolding is_grapheme_break
one_ahead [] x ys zs = refl
one_ahead (c ∷ before) x ys zs = refl

last_one : (x : ℕ) (before : List ℕ) → (x ∷ []) ∷ [] ≡ (if is_grapheme_break true (x ∷ before) [] then (x ∷ []) ∷ [] else prepend (x ∷ []) [])
unfolding is_grapheme_break
last_one x before = refl

-- at a boundary the pieces are those of both sides, where those after it are cut with knowledge of the characters
-- before it
cut-seam : (cs before ds : List ℕ) → is_grapheme_break true (onto cs before) ds ≡ true
    → cut (is_grapheme_break true) before (cs ++ ds) [] ≡ cut (is_grapheme_break true) before cs [] ++ cut (is_grapheme_break true) (onto cs before) ds []
unfolding cut
cut-seam [] before ds e = refl
cut-seam (x ∷ []) before ds e =
    let rest = cut (is_grapheme_break true) (x ∷ before) ds [] in
    ap (λ b. if b then (x ∷ []) ∷ rest else prepend (x ∷ []) rest) (ap (is_grapheme_break true (x ∷ before)) (append-nil ds) ∙ e)
    ∙ ap (λ p. p ++ rest) (last_one x before)
cut-seam (x ∷ y ∷ xs) before ds e =
    let rule = is_grapheme_break true in
    let following = cut rule (onto (y ∷ xs) (x ∷ before)) ds [] in
    ap₂ (λ b rest. if b then (x ∷ []) ∷ rest else prepend (x ∷ []) rest) (one_ahead (x ∷ before) y ((xs ++ ds) ++ []) (xs ++ [])) (cut-seam (y ∷ xs) (x ∷ before) ds e)
    ∙ picked-append (rule (x ∷ before) ((y ∷ xs) ++ [])) (x ∷ []) (cut rule (x ∷ before) (y ∷ xs) []) following (cut_some (x ∷ before) y xs)

-- if a text breaks after its first part, its clusters are those of both parts, each taken alone
pub graphemes-boundary : (text following : List ℕ) → IsUtf8 text → is_grapheme_break true (reverse (chars text)) (chars following) ≡ true
    → graphemes true (text ++ following) ≡ graphemes true text ++ graphemes true following
unfolding segments
graphemes-boundary text following u e =
    let rule = is_grapheme_break true in
    let read : onto (chars text) [] ≡ reverse (chars text) = onto-reverse (chars text) [] ∙ append-nil (reverse (chars text)) in
    let here : rule (onto (chars text) []) (chars following) ≡ true = ap (λ before. rule before (chars following)) read ∙ e in
    ap (λ cs. map encode_utf8_all (cut rule [] cs [])) (chars-append text following u)
    ∙ (ap (map encode_utf8_all)
    (cut-seam (chars text) [] (chars following) here ∙ ap (λ ps. cut rule [] (chars text) [] ++ ps) (cut-fresh (onto (chars text) []) (chars following) here))
    ∙ map-append encode_utf8_all (cut rule [] (chars text) []) (cut rule [] (chars following) []))

-- there is a boundary after the last character of the first text, whatever comes before that character
pub record IsApart (text following : List ℕ) : Type 0 where
  pub front : List ℕ
  pub last : ℕ
  pub is : chars text ≡ front ++ last ∷ []
  pub boundary : (before : List ℕ) → is_grapheme_break true (last ∷ before) (chars following) ≡ true

-- then the clusters are those of both sides
pub graphemes-apart : (text following : List ℕ) → IsUtf8 text → IsApart text following → graphemes true (text ++ following) ≡ graphemes true text ++ graphemes true following
graphemes-apart text following u a =
    graphemes-boundary text following u
    (ap (λ before. is_grapheme_break true before (chars following)) (ap reverse a.is ∙ reverse-append a.front (a.last ∷ [])) ∙ a.boundary (reverse a.front))

concat-prepend : (c : ℕ) (rest : List (List ℕ)) → concat (prepend (c ∷ []) rest) ≡ c ∷ concat rest
concat-prepend c [] = refl
concat-prepend c (p ∷ rest) = refl

-- the pieces joined together are the characters
concat-cut : (before cs : List ℕ) → concat (cut (is_grapheme_break true) before cs []) ≡ cs
unfolding cut
concat-cut before [] = refl
concat-cut before (c ∷ cs) = picked (is_grapheme_break true (c ∷ before) (cs ++ [])) (cut (is_grapheme_break true) (c ∷ before) cs []) (concat-cut (c ∷ before) cs)
  where
    picked : (b : Bool) (rest : List (List ℕ)) → concat rest ≡ cs → concat (if b then (c ∷ []) ∷ rest else prepend (c ∷ []) rest) ≡ c ∷ cs
    picked true rest e = ap (λ t. c ∷ t) e
    picked false rest e = concat-prepend c rest ∙ ap (λ t. c ∷ t) e

drop-prepend : (c k : ℕ) (ps : List (List ℕ)) → drop (suc k) (prepend (c ∷ []) ps) ≡ drop (suc k) ps
drop-prepend c zero [] = refl
drop-prepend c (suc k) [] = refl
drop-prepend c k (p ∷ ps) = refl

-- cut again, these pieces are the same
abbrev IsAsCut : List (List ℕ) → Type 0
IsAsCut ps = cut (is_grapheme_break true) [] (concat ps) [] ≡ ps

following_first : (c k : ℕ) (b : Bool) (rest : List (List ℕ)) → (b ≡ true → IsAsCut (drop k rest)) → IsAsCut (drop (suc k) rest)
    → IsAsCut (drop (suc k) (if b then (c ∷ []) ∷ rest else prepend (c ∷ []) rest))
following_first c k true rest h g = h refl
following_first c k false rest h g = rw (drop-prepend c k rest) g

-- after any piece come the pieces of the remaining characters
later : (before cs : List ℕ) (k : ℕ) → IsAsCut (drop (suc k) (cut (is_grapheme_break true) before cs []))
unfolding cut
later before [] k = refl
later before (c ∷ cs) zero =
    let rule = is_grapheme_break true in
    let fresh = λ (e : rule (c ∷ before) (cs ++ []) ≡ true).
    ap (λ t. cut rule [] t []) (concat-cut (c ∷ before) cs) ∙ sym (cut-fresh (c ∷ before) cs (ap (rule (c ∷ before)) (sym (append-nil cs)) ∙ e)) in
    following_first c zero _ (cut rule (c ∷ before) cs []) fresh (later (c ∷ before) cs zero)
later before (c ∷ cs) (suc k) = following_first c (suc k) _ (cut (is_grapheme_break true) (c ∷ before) cs []) (λ e. later (c ∷ before) cs k) (later (c ∷ before) cs (suc k))

cut-rest : (cs : List ℕ) (k : ℕ) → IsAsCut (drop k (cut (is_grapheme_break true) [] cs []))
cut-rest cs zero = ap (λ t. cut (is_grapheme_break true) [] t []) (concat-cut [] cs)
cut-rest cs (suc k) = later [] cs k

concat-encoded : (ps : List (List ℕ)) → concat (map encode_utf8_all ps) ≡ encode_utf8_all (concat ps)
concat-encoded [] = refl
concat-encoded (p ∷ ps) = ap (λ t. encode_utf8_all p ++ t) (concat-encoded ps) ∙ sym (encodes-append p (concat ps))

scalars-following : (cs ds : List ℕ) → all_scalars (cs ++ ds) ≡ true → all_scalars ds ≡ true
scalars-following [] ds h = h
scalars-following (c ∷ cs) ds h = scalars-following cs ds (and_parts _ _ h).1

module _ (text : List ℕ) (u : IsUtf8 text) (k : ℕ) where
  abbrev pieces : List (List ℕ)
  pieces = cut (is_grapheme_break true) [] (chars text) []

  chars-rest : chars (concat (map encode_utf8_all (drop k pieces))) ≡ concat (drop k pieces)
  chars-rest =
      let whole : chars text ≡ concat (take k pieces) ++ concat (drop k pieces) =
      sym (concat-cut [] (chars text)) ∙ ap concat (sym (take-append-drop k pieces)) ∙ concat-append (take k pieces) (drop k pieces) in
      ap chars (concat-encoded (drop k pieces))
      ∙ chars-encodes _ (scalars-following (concat (take k pieces)) _ (ap all_scalars (sym whole) ∙ scalars-chars text u))

  -- the clusters after any of them are the clusters of the remaining text
  pub graphemes-rest : graphemes true (concat (drop k (graphemes true text))) ≡ drop k (graphemes true text)
  unfolding segments
  graphemes-rest =
      let rule = is_grapheme_break true in
      let last = drop-map encode_utf8_all k pieces in
      ap (λ ps. map encode_utf8_all (cut rule [] (chars (concat ps)) [])) last
      ∙ ap (λ cs. map encode_utf8_all (cut rule [] cs [])) chars-rest
      ∙ ap (map encode_utf8_all) (cut-rest (chars text) k)
      ∙ sym last

-- the clusters joined together are the text
pub concat-graphemes : (text : List ℕ) → IsUtf8 text → concat (graphemes true text) ≡ text
unfolding segments
concat-graphemes text u = concat-encoded (cut (is_grapheme_break true) [] (chars text) []) ∙ ap encode_utf8_all (concat-cut [] (chars text)) ∙ encodes-chars text u
