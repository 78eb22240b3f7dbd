-- One more line, and one more item.
use Rattle.std.proofs.Common.{◌≡◌, ℕ, ◌+◌, List, [], ◌∷◌, ◌++◌, map, refl, ◌∙◌, ap, ap₂, sym, arith}
use Rattle.std.specs.List.{range_with_len, repeat}
use Rattle.std.proofs.lemmas.List.{map_push}
use Rattle.std.proofs.lemmas.List.FromFn.{map-range_with_len_more}
use Rattle.tui_show_run.proofs.Joined.{again, length-repeat}
use Rattle.tui_show_run.specs.Demo.Scene.{demo_heights, demo_item, demo_items, item_lines}
use Rattle.tui_lists.specs.ListItem.{heights_of}
use Rattle.tui_text.specs.Line.{raw_line}
use Rattle.tui_show_run.specs.Demo.Text.{letter}

-- one more element with the same view
pub same_more : {A B : Type 0} (look : A → B) (old new : List A) (x : A) (y : B) (n : ℕ) → map look old ≡ repeat n (y ∷ []) → new ≡ old ++ x ∷ [] → look x ≡ y →
    map look new ≡ repeat (n + 1) (y ∷ [])
same_more look old new x y n before pushed is =
    again [] (map look old) (map look new) (y ∷ []) n before (ap (map look) pushed ∙ (map_push look old x ∙ ap (λ z. map look old ++ z ∷ []) is))

-- one more element made from a number
pub next_more : {A B : Type 0} (look : A → B) (make : ℕ → B) (old new : List A) (x : A) (n : ℕ) →
    map look old ≡ map make (range_with_len 0 n) → new ≡ old ++ x ∷ [] → look x ≡ make n →
    map look new ≡ map make (range_with_len 0 (n + 1))
next_more look make old new x n before pushed is =
    let with_last = map_push look old x ∙ ap (λ z. map look old ++ z ∷ []) is in
    ap (map look) pushed ∙ (with_last ∙ (ap (λ l. l ++ make n ∷ []) before ∙ sym (map-range_with_len_more make 0 n n (omega arith))))

heights_are : (numbers : List ℕ) → heights_of (map demo_item numbers) ≡ map item_lines numbers
heights_are [] = refl
heights_are (i ∷ numbers) = ap₂ ◌∷◌ (length-repeat (item_lines i) (raw_line (letter i ∷ []))) (heights_are numbers)

-- the items have the stated heights
pub heights_of-demo_items : (n : ℕ) → heights_of (demo_items n) ≡ demo_heights n
heights_of-demo_items n = heights_are (range_with_len 0 n)
