-- Titles of a block, one after another.
use Rattle.std.proofs.Common.{◌≡◌, ℕ, ◌+◌, ◌<◌, ◌≤◌, Bool, true, false, cond, List, [], ◌∷◌, ◌++◌, length, map, take, drop, get_or, refl, ◌∙◌, ap, sym}
use Rattle.std.specs.List.{filter, list_any}
use Rattle.std.proofs.lemmas.List.{map-append, take-append-drop}
use Rattle.std.proofs.lemmas.List.Elements.{filter-append}
use Rattle.tui_text.proofs.Elements.{none_from, seen_from}
use Rattle.tui_frames.specs.Block.{BlockData, TitleData, title_data}
use Rattle.tui_frames.specs.Titles.{is_in, titles_in}
use Rattle.tui_frames.specs.declared.block.title.TitlePlace.{TitlePlace}
use Rattle.tui_frames.specs.declared.block.title.Title.{Title}

-- a list whose first element passes a test has one that does
pub any_here : {A : Type 0} (test : A → Bool) (xs : List A) (x : A) (rest : List A) → xs ≡ x ∷ rest → test x ≡ true → list_any test xs ≡ true
any_here test xs x rest e passes = ap (list_any test) e ∙ rw passes refl

-- if it does not, the others decide
pub any_later : {A : Type 0} (test : A → Bool) (xs : List A) (x : A) (rest : List A) → xs ≡ x ∷ rest → test x ≡ false →
    list_any test xs ≡ list_any test rest
any_later test xs x rest e fails = ap (list_any test) e ∙ rw fails refl

-- the titles of a place among two lists, one after the other
titles_in-append : (b : BlockData) (p : TitlePlace) (xs ys : List TitleData) → titles_in b p (xs ++ ys) ≡ titles_in b p xs ++ titles_in b p ys
titles_in-append b p xs ys =
    ap (map (λ (t : TitleData). t.line)) (filter-append (is_in b p) xs ys)
    ∙ map-append (λ (t : TitleData). t.line) (filter (is_in b p) xs) (filter (is_in b p) ys)

-- one title, which belongs there or does not
pub one_there : (b : BlockData) (p : TitlePlace) (t : TitleData) → is_in b p t ≡ true → titles_in b p (t ∷ []) ≡ t.line ∷ []
one_there b p t e = one_if (is_in b p t) t e
  where
    one_if : (here : Bool) (t : TitleData) → here ≡ true → map (λ (u : TitleData). u.line) (cond here (t ∷ []) []) ≡ t.line ∷ []
    one_if true t e = refl
    one_if false t e = cc

-- the titles from one on are that one, if it belongs there, and the others
pub titles_in-from : (b : BlockData) (p : TitlePlace) (xs : List Title) (i : ℕ) (x d : Title) → i < length xs → x ≡ get_or xs i d →
    titles_in b p (map title_data (drop i xs)) ≡ titles_in b p (title_data x ∷ []) ++ titles_in b p (map title_data (drop (i + 1) xs))
titles_in-from b p xs i x d lt at =
    ap (titles_in b p) (seen_from title_data xs i x d lt at) ∙ titles_in-append b p (title_data x ∷ []) (map title_data (drop (i + 1) xs))

-- past the last title there is none
pub titles_in-none : (b : BlockData) (p : TitlePlace) (xs : List Title) (i : ℕ) → length xs ≤ i → titles_in b p (map title_data (drop i xs)) ≡ []
titles_in-none b p xs i le = ap (λ ts. titles_in b p (map title_data ts)) (none_from xs i le)

-- the titles before one, and those from it on
pub titles_in-parts : (b : BlockData) (p : TitlePlace) (xs : List Title) (k : ℕ) →
    titles_in b p (map title_data xs) ≡ titles_in b p (map title_data (take k xs)) ++ titles_in b p (map title_data (drop k xs))
titles_in-parts b p xs k =
    ap (λ ts. titles_in b p (map title_data ts)) (sym (take-append-drop k xs))
    ∙ (ap (titles_in b p) (map-append title_data (take k xs) (drop k xs)) ∙ titles_in-append b p (map title_data (take k xs)) (map title_data (drop k xs)))
