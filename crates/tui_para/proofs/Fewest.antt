-- For words with single whitespace graphemes between them, no fewer lines are possible.
use Rattle.std.proofs.Common.{◌≡◌, ℕ, suc, ◌+◌, ◌-◌, ◌<◌, ◌≤◌, List, [], ◌∷◌, ◌++◌, length, Bool, true, false, refl, sym, ap, ◌∙◌, subst, arith, inl, inr, ⊎_elim}
use Rattle.std.specs.Prelude.{◌≢◌, ◌⊎◌, sum_by, not, nat_le, flat_map}
use Rattle.std.specs.List.{AllByRecursion}
use Rattle.std.proofs.lemmas.List.{append_assoc, append-nil, append_cancel_left}
use Rattle.std.proofs.lemmas.List.Sums.{sum_by-cons, sum_by-append}
use Rattle.std.proofs.lemmas.List.Elements.{All-from_recursion, recursion_from_All}
use Rattle.std.proofs.lemmas.Bool.{cases_lt, le-leb, cond-true}
use Rattle.tui_para.specs.Rule.{Rule, ends_piece}
use Rattle.tui_para.specs.Wrapped.{up_to, next_piece, after_break, ends_in, no_blank, begins, IsLine, IsNextLine, HasLines, WrapsKept, not_wider, line_start}
use Rattle.tui_para.specs.Division.{group_width, IsFewest, Spaced, SpacedWithin}
use Rattle.tui_para.proofs.Unique.{same_next, prefixes, ends_in-append}
use Rattle.tui_para.proofs.Parts.{lines_some}

-- a word doesn't end in whitespace
word_ends : {A : Type 0} (blank : A → Bool) (so_far : Bool) (v : List A) → (v ≢ []) ⊎ (so_far ≡ true) → up_to blank v ≡ v → ends_in (no_blank blank) so_far v ≡ true
word_ends blank so_far [] n e = grind arith
word_ends blank so_far (x ∷ v) n e = grind (arith, word_ends blank (not (blank x)) v)

-- no word is split
abbrev pub NoSplits : {A : Type 0} → Rule A → Type 0
NoSplits {A} rule = (x : A) → rule.split x ≡ false

-- the word before whitespace
word_front : {A : Type 0} (blank : A → Bool) (v rest : List A) → up_to blank v ≡ v → (rest ≡ []) ⊎ (begins blank rest ≡ true) → up_to blank (v ++ rest) ≡ v
word_front blank [] [] e h = refl
word_front blank [] (x ∷ rest) e h = grind arith
word_front blank (x ∷ v) rest e h = grind (arith, word_front blank v rest)

-- if no word is split, a piece is a word
piece_is_word : {A : Type 0} (rule : Rule A) → NoSplits rule → (xs : List A) → up_to (ends_piece rule) xs ≡ up_to rule.blank xs
piece_is_word rule never [] = refl
piece_is_word rule never (x ∷ xs) = let no = never x in let i = piece_is_word rule never xs in grind arith

-- what begins with a word doesn't begin with whitespace
next_piece_is : {A : Type 0} (rule : Rule A) → NoSplits rule → (xs : List A) → up_to rule.blank xs ≢ [] → next_piece rule xs ≡ up_to rule.blank xs
next_piece_is rule never [] n = refl
next_piece_is rule never (x ∷ xs) n = let i = piece_is_word rule never xs in grind arith

start_is : {A : Type 0} (blank : A → Bool) (trim : Bool) (xs : List A) → up_to blank xs ≢ [] → line_start blank trim xs ≡ xs
start_is blank false xs n = refl
start_is blank true [] n = refl
start_is blank true (x ∷ xs) n = grind arith

break_is : {A : Type 0} (rule : Rule A) (room : ℕ) (xs : List A) → up_to rule.blank xs ≢ [] → after_break rule room xs ≡ xs
break_is rule room [] n = refl
break_is rule room (x ∷ xs) n = grind arith

-- the first word of spaced words
spaced_first : {A : Type 0} (rule : Rule A) (v : List A) (vs : List (List A)) (xs : List A) → Spaced rule.blank rule.size (v ∷ vs) xs → (up_to rule.blank xs ≡ v) × (v ≢ [])
spaced_first rule v [] xs s = (ap (up_to rule.blank) s.1 ∙ s.0.1, s.0.0)
spaced_first rule v (u ∷ vs) xs s = (ap (up_to rule.blank) s.3 ∙ word_front rule.blank v (s.1 ∷ s.2) s.0.1 (inr s.4), s.0.0)

spaced_begins : {A : Type 0} (rule : Rule A) (v : List A) (vs : List (List A)) (xs : List A) → Spaced rule.blank rule.size (v ∷ vs) xs → up_to rule.blank xs ≢ []
spaced_begins rule v vs xs s = λ e. let f = spaced_first rule v vs xs s in f.1 (sym f.0 ∙ e)

-- a group of words stops, and others follow
record Stops {A : Type 0} (rule : Rule A) (room width : ℕ) (others : List (List A)) (after : List A) : Type 0 where
  b : A
  rest : List A
  next : List A
  more : List (List A)
  after_is : after ≡ b ∷ rest
  is_blank : rule.blank b ≡ true
  is_one : rule.size b ≡ 1
  others_are : others ≡ next ∷ more
  spaced : Spaced rule.blank rule.size (next ∷ more) rest
  wide : room < width + 1 + sum_by rule.size next

-- the group of words at the beginning that fit, also as graphemes
record Group {A : Type 0} (rule : Rule A) (room : ℕ) (words : List (List A)) (xs : List A) : Type 0 where
  group : List (List A)
  others : List (List A)
  line : List A
  after : List A
  words_are : words ≡ group ++ others
  some : 0 < length group
  joined : xs ≡ line ++ after
  same : sum_by rule.size line ≡ group_width rule.size group
  fits : group_width rule.size group ≤ room
  ends : ends_in (no_blank rule.blank) false line ≡ true
  stops : ((others ≡ []) × (after ≡ [])) ⊎ Stops rule room (group_width rule.size group) others after

group_more : {A : Type 0} (size : A → ℕ) (v : List A) (vs : List (List A)) → 0 < length vs → group_width size (v ∷ vs) ≡ sum_by size v + 1 + group_width size vs
group_more size v [] h = absurd (omega arith)
group_more size v (u ∷ vs) h = refl

first_group : {A : Type 0} (rule : Rule A) (room : ℕ) (v : List A) (vs : List (List A)) (xs : List A) → Spaced rule.blank rule.size (v ∷ vs) xs → sum_by rule.size v ≤ room → Group rule room (v ∷ vs) xs
first_group rule room v [] xs s h = record {
  group = v ∷ [];
  others = [];
  line = v;
  after = [];
  words_are = refl;
  some = omega arith;
  joined = s.1 ∙ sym (append-nil v);
  same = refl;
  fits = h;
  ends = word_ends rule.blank false v (inl s.0.0) s.0.1;
  stops = inl (refl, refl);
}
first_group rule room v (u ∷ vs) xs s h =
    ⊎_elim
    (λ wide. record {
      group = v ∷ [];
      others = u ∷ vs;
      line = v;
      after = s.1 ∷ s.2;
      words_are = refl;
      some = omega arith;
      joined = s.3;
      same = refl;
      fits = h;
      ends = word_ends rule.blank false v (inl s.0.0) s.0.1;
      stops = inr (record { b = s.1; rest = s.2; next = u; more = vs; after_is = refl; is_blank = s.4; is_one = s.5; others_are = refl; spaced = s.6; wide = wide });
    })
    (λ narrow.
    let g = first_group rule (room - sum_by rule.size v - 1) u vs s.2 s.6 (omega arith) in
    let more = group_more rule.size v g.group g.some in
    let a = sum_by-append rule.size v (s.1 ∷ g.line) in
    let b = sum_by-cons rule.size s.1 g.line in
    let one = s.5 in
    let same = g.same in
    let fits = g.fits in
    let e : ends_in (no_blank rule.blank) false (v ++ s.1 ∷ g.line) ≡ ends_in (no_blank rule.blank) false g.line = ends_in-append (no_blank rule.blank) false v (s.1 ∷ g.line) ∙ ap (λ t. ends_in (no_blank rule.blank) (not t) g.line) s.4 in
    record {
      group = v ∷ g.group;
      others = g.others;
      line = v ++ s.1 ∷ g.line;
      after = g.after;
      words_are = ap (λ t. v ∷ t) g.words_are;
      some = omega arith;
      joined = s.3 ∙ (ap (λ t. v ++ s.1 ∷ t) g.joined ∙ sym (append_assoc v (s.1 ∷ g.line) g.after));
      same = omega arith;
      fits = omega arith;
      ends = e ∙ g.ends;
      stops = ⊎_elim (λ n. inl n) (λ n. let wide = n.wide in inr (record { b = n.b; rest = n.rest; next = n.next; more = n.more; after_is = n.after_is; is_blank = n.is_blank; is_one = n.is_one; others_are = n.others_are; spaced = n.spaced; wide = omega arith })) g.stops;
    })
    (cases_lt room (sum_by rule.size v + 1 + sum_by rule.size u))

break_at : {A : Type 0} (rule : Rule A) (room : ℕ) (b : A) (xs : List A) → rule.blank b ≡ true → up_to rule.blank xs ≢ [] → after_break rule room (b ∷ xs) ≡ xs
break_at rule room b xs h n = grind (arith, break_is rule (room - rule.size b) xs n)

-- the first group is the first line
group_is_line : {A : Type 0} (rule : Rule A) → NoSplits rule → (v : List A) (vs : List (List A)) (xs : List A) → Spaced rule.blank rule.size (v ∷ vs) xs → (g : Group rule rule.width (v ∷ vs) xs) → (rest : List A) × IsNextLine rule xs g.line rest × Spaced rule.blank rule.size g.others rest
group_is_line rule never v vs xs s g =
    let start = start_is rule.blank rule.trim xs (spaced_begins rule v vs xs s) in
    let same = g.same in
    let fits = g.fits in
    let room = rule.width - sum_by rule.size g.line in
    ⊎_elim
    (λ n. ([], record { after = g.after; joined = start ∙ g.joined; line_is = record { fits = omega arith; breaks = inl n.1 }; rest_is = sym (ap (after_break rule room) n.1) }, rw n.0 refl))
    (λ t.
    let f = spaced_first rule t.next t.more t.rest t.spaced in
    let starts = spaced_begins rule t.next t.more t.rest t.spaced in
    let c : next_piece rule g.after ≡ t.b ∷ t.next = ap (next_piece rule) t.after_is ∙ (cond-true (rule.blank t.b) (t.b ∷ next_piece rule t.rest) (t.b ∷ up_to (ends_piece rule) t.rest) t.is_blank ∙ ap (λ z. t.b ∷ z) (next_piece_is rule never t.rest starts ∙ f.0)) in
    let n = ap (sum_by rule.size) c ∙ sum_by-cons rule.size t.b t.next in
    let one = t.is_one in
    let wide = t.wide in
    let line : IsLine rule g.line g.after = record { fits = omega arith; breaks = inr (inl (record { word_before = g.ends; next = ap (begins rule.blank) t.after_is ∙ t.is_blank; too_wide = omega arith })) } in
    let rest : t.rest ≡ after_break rule room g.after = sym (ap (after_break rule room) t.after_is ∙ break_at rule room t.b t.rest t.is_blank starts) in
    (t.rest, record { after = g.after; joined = start ∙ g.joined; line_is = line; rest_is = rest }, subst (λ z. Spaced rule.blank rule.size z t.rest) (sym t.others_are) t.spaced))
    g.stops

-- no word is wider than w
abbrev pub WordsFit : {A : Type 0} → (A → ℕ) → ℕ → List (List A) → Type 0
WordsFit size w words = AllByRecursion (λ v. sum_by size v ≤ w) words

others_fit : {A : Type 0} (size : A → ℕ) (w : ℕ) (ps qs words : List (List A)) → words ≡ ps ++ qs → WordsFit size w words → WordsFit size w qs
others_fit size w [] qs words e h = subst (WordsFit size w) e h
others_fit size w (p ∷ ps) qs [] e h = absurd (cc)
others_fit size w (p ∷ ps) qs (v ∷ words) e h = others_fit size w ps qs words (cc) h.1

-- a first line of spaced words, with the group of words in it
record FirstLine {A : Type 0} (rule : Rule A) (words : List (List A)) (rest : List A) : Type 0 where
  group : List (List A)
  others : List (List A)
  words_are : words ≡ group ++ others
  some : 0 < length group
  fits : group_width rule.size group ≤ rule.width
  spaced : Spaced rule.blank rule.size others rest
  stops : (others ≡ []) ⊎ ((next : List A) × (more : List (List A)) × (others ≡ next ∷ more) × (rule.width < group_width rule.size group + 1 + sum_by rule.size next))

first_line : {A : Type 0} (rule : Rule A) → NoSplits rule → (v : List A) (vs : List (List A)) (xs line rest : List A) → Spaced rule.blank rule.size (v ∷ vs) xs → sum_by rule.size v ≤ rule.width → IsNextLine rule xs line rest → FirstLine rule (v ∷ vs) rest
first_line rule never v vs xs line rest s h n =
    let g = first_group rule rule.width v vs xs s h in
    let i = group_is_line rule never v vs xs s g in
    let same = same_next rule xs xs g.line line i.0 rest refl i.1 n in
    record {
      group = g.group;
      others = g.others;
      words_are = g.words_are;
      some = g.some;
      fits = g.fits;
      spaced = subst (Spaced rule.blank rule.size g.others) same.1 i.2;
      stops = ⊎_elim (λ e. inl e.0) (λ t. inr (t.next, t.more, t.others_are, t.wide)) g.stops;
    }

first_is_narrow : {A : Type 0} (size : A → ℕ) (y : List A) (t : List (List A)) → sum_by size y ≤ group_width size (y ∷ t)
first_is_narrow size y [] = omega arith
first_is_narrow size y (u ∷ t) = omega arith

back_is_narrow : {A : Type 0} (size : A → ℕ) (a b : List (List A)) → group_width size b ≤ group_width size (a ++ b)
back_is_narrow size [] b = omega arith
back_is_narrow size (v ∷ []) [] = omega arith
back_is_narrow size (v ∷ []) (u ∷ b) = omega arith
back_is_narrow size (v ∷ u ∷ a) b = omega (arith, back_is_narrow size (u ∷ a) b)

one_more_is_wide : {A : Type 0} (size : A → ℕ) (p : List (List A)) (y : List A) (t : List (List A)) → 0 < length p → group_width size p + 1 + sum_by size y ≤ group_width size (p ++ y ∷ t)
one_more_is_wide size [] y t h = absurd (omega arith)
one_more_is_wide size (v ∷ []) y t h = omega (arith, first_is_narrow size y t)
one_more_is_wide size (v ∷ u ∷ p) y t h = omega (arith, one_more_is_wide size (u ∷ p) y t (omega arith))

not_nil : {A : Type 0} (ys : List A) (v : A) (vs : List A) → [] ≡ ys ++ v ∷ vs → ⊥
not_nil [] v vs e = cc
not_nil (y ∷ ys) v vs e = cc

-- the groups after the first have at least the words that are not in the first line
groups_left : {A : Type 0} (size : A → ℕ) (w : ℕ) (g ys p q all words : List (List A)) → g ++ all ≡ ys ++ words → words ≡ p ++ q → group_width size g ≤ w → 0 < length p → (q ≡ []) ⊎ ((next : List A) × (more : List (List A)) × (q ≡ next ∷ more) × (w < group_width size p + 1 + sum_by size next)) → (zs : List (List A)) × (all ≡ zs ++ q)
groups_left size w g ys p q all words e c fits some stops =
    let whole : g ++ all ≡ (ys ++ p) ++ q = e ∙ (ap (λ t. ys ++ t) c ∙ sym (append_assoc ys p q)) in
    ⊎_elim
    (λ s. ([], append_cancel_left g all q (whole ∙ ap (λ t. t ++ q) (sym s))))
    (⊎_elim
    (λ s. (s.0 ∷ s.1, s.3))
    (λ s. absurd (⊎_elim (λ n. cc) (λ n.
    let same : s.0 ≡ n.0 = cc in
    let size_same = ap (sum_by size) same in
    let wide = n.3 in
    let a = one_more_is_wide size p s.0 s.1 some in
    let b = back_is_narrow size ys (p ++ s.0 ∷ s.1) in
    let g_is = ap (group_width size) (s.2 ∙ append_assoc ys p (s.0 ∷ s.1)) in
    omega arith) stops)))
    (prefixes g all (ys ++ p) q whole)

-- a division of these words, and others before them, has at least as many groups as these words have lines
least : {A : Type 0} (rule : Rule A) → NoSplits rule → (gs : List (List (List A))) (ys words : List (List A)) (xs : List A) (lines : List (List A)) → flat_map (λ g. g) gs ≡ ys ++ words → AllByRecursion (λ g. group_width rule.size g ≤ rule.width) gs → Spaced rule.blank rule.size words xs → WordsFit rule.size rule.width words → HasLines rule xs lines → length lines ≤ length gs
least rule never gs ys words xs [] e f s k h = omega arith
least rule never gs ys [] xs (l ∷ ls) e f s k h = absurd (h.0 s)
least rule never [] ys (v ∷ vs) xs (l ∷ ls) e f s k h = absurd (not_nil ys v vs e)
least rule never (g ∷ gs) ys (v ∷ vs) xs (l ∷ ls) e f s k h =
    let i = first_line rule never v vs xs l h.1 s k.0 h.2 in
    let z = groups_left rule.size rule.width g ys i.group i.others (flat_map (λ t. t) gs) (v ∷ vs) e i.words_are f.0 i.some i.stops in
    let more = least rule never gs z.0 i.others h.1 ls z.1 f.1 i.spaced (others_fit rule.size rule.width i.group i.others (v ∷ vs) i.words_are k) h.3 in
    omega arith

-- the lines divide the words
record Divided {A : Type 0} (size : A → ℕ) (w : ℕ) (words lines : List (List A)) : Type 0 where
  groups : List (List (List A))
  in_order : flat_map (λ g. g) groups ≡ words
  fit : AllByRecursion (λ g. group_width size g ≤ w) groups
  count : length groups ≡ length lines

spaced_some : {A : Type 0} (rule : Rule A) (v : List A) (vs : List (List A)) (xs : List A) → Spaced rule.blank rule.size (v ∷ vs) xs → xs ≢ []
spaced_some rule v vs xs s = λ e. spaced_begins rule v vs xs s (ap (up_to rule.blank) e)

divided : {A : Type 0} (rule : Rule A) → NoSplits rule → (words : List (List A)) (xs : List A) (lines : List (List A)) → Spaced rule.blank rule.size words xs → WordsFit rule.size rule.width words → HasLines rule xs lines → Divided rule.size rule.width words lines
divided rule never [] xs [] s k h = record { groups = []; in_order = refl; fit = tt; count = refl }
divided rule never (v ∷ vs) xs [] s k h = absurd (spaced_some rule v vs xs s h)
divided rule never [] xs (l ∷ ls) s k h = absurd (h.0 s)
divided rule never (v ∷ vs) xs (l ∷ ls) s k h =
    let i = first_line rule never v vs xs l h.1 s k.0 h.2 in
    let d = divided rule never i.others h.1 ls i.spaced (others_fit rule.size rule.width i.group i.others (v ∷ vs) i.words_are k) h.3 in
    record { groups = i.group ∷ d.groups; in_order = ap (λ t. i.group ++ t) d.in_order ∙ sym i.words_are; fit = (i.fits, d.fit); count = ap suc d.count }

-- no grapheme of the text is wider than w
word_kept : {A : Type 0} (size : A → ℕ) (w : ℕ) (v xs : List A) → sum_by size v ≤ w → not_wider size w xs ≡ xs → not_wider size w (v ++ xs) ≡ v ++ xs
word_kept size w [] xs h e = e
word_kept size w (x ∷ v) xs h e =
    let c = sum_by-cons size x v in
    let t = le-leb (size x) w (omega arith) in
    cond-true (nat_le (size x) w) (x ∷ not_wider size w (v ++ xs)) (not_wider size w (v ++ xs)) t ∙ ap (λ z. x ∷ z) (word_kept size w v xs (omega arith) e)

all_are_kept : {A : Type 0} (rule : Rule A) (words : List (List A)) (xs : List A) → 0 < rule.width → Spaced rule.blank rule.size words xs → WordsFit rule.size rule.width words → not_wider rule.size rule.width xs ≡ xs
all_are_kept rule [] xs p s k = rw s refl
all_are_kept rule (v ∷ []) xs p s k =
    let e : xs ≡ v ++ [] = s.1 ∙ sym (append-nil v) in
    rw e (word_kept rule.size rule.width v [] k.0 refl)
all_are_kept rule (v ∷ u ∷ vs) xs p s k =
    let one = s.5 in
    let t = le-leb (rule.size s.1) rule.width (omega arith) in
    let rest : not_wider rule.size rule.width (s.1 ∷ s.2) ≡ s.1 ∷ s.2 = cond-true (nat_le (rule.size s.1) rule.width) (s.1 ∷ not_wider rule.size rule.width s.2) (not_wider rule.size rule.width s.2) t ∙ ap (λ z. s.1 ∷ z) (all_are_kept rule (u ∷ vs) s.2 p s.6 k.1) in
    rw s.3 (word_kept rule.size rule.width v (s.1 ∷ s.2) k.0 rest)

-- the lines are a division of the words, and no division has fewer groups
pub fewest : {A : Type 0} (rule : Rule A) → NoSplits rule → (words : List (List A)) (xs : List A) (lines : List (List A)) → 0 < rule.width → SpacedWithin rule.blank rule.size rule.width words xs →
    WrapsKept rule (not_wider rule.size rule.width xs) lines → IsFewest rule.size words rule.width (length lines)
fewest rule never [] xs lines p s h =
    let one : length lines ≡ 1 = ⊎_elim (λ n. ap length n.1) (λ n. absurd (n.0 (ap (not_wider rule.size rule.width) s.spaced))) h in
    record {
      divided = record { groups = [] ∷ []; in_order = refl; fit = All-from_recursion (λ g. group_width rule.size g ≤ rule.width) ([] ∷ []) (omega arith, tt); count = sym one; some = omega arith };
      least = λ n d. (let some = d.some in omega arith);
    }
fewest rule never (v ∷ vs) xs lines p r h =
    let s = r.spaced in
    let k : WordsFit rule.size rule.width (v ∷ vs) = recursion_from_All (λ word. sum_by rule.size word ≤ rule.width) (v ∷ vs) r.fit in
    let all = all_are_kept rule (v ∷ vs) xs p s k in
    let has : HasLines rule xs lines = ⊎_elim (λ n. absurd (spaced_some rule v vs xs s (sym all ∙ n.0))) (λ n. rw all at n.1) h in
    let d = divided rule never (v ∷ vs) xs lines s k has in
    let count = d.count in
    record {
      divided = record { groups = d.groups; in_order = d.in_order; fit = All-from_recursion (λ g. group_width rule.size g ≤ rule.width) d.groups d.fit; count = d.count; some = lines_some rule xs lines has (spaced_some rule v vs xs s) };
      least = λ n e. (let c = e.count in let l = least rule never e.groups [] (v ∷ vs) xs lines e.in_order (recursion_from_All (λ g. group_width rule.size g ≤ rule.width) e.groups e.fit) s k has in omega arith);
    }
