-- Runs of printable bytes, each set by one call.
use Rattle.std.proofs.Common.{◌≡◌, ℕ, ◌+◌, ◌-◌, ◌<◌, ◌≤◌, Bool, true, false, nat_le, List, [], ◌∷◌, ◌++◌, All, map, length, Some, None, option_map, if◌then◌else◌, refl, sym, ap, ap₂, subst, ◌∙◌, arith}
use Rattle.std.specs.List.{list_all}
use Rattle.std.proofs.lemmas.Bool.{and_parts}
use Rattle.std.proofs.lemmas.Bool.Decides.{nat_tests}
use Rattle.std.proofs.lemmas.List.Elements.{All-tail}
use Rattle.tui_cells.specs.declared.style.Style.{Style}
use Rattle.tui_cells.specs.Buffer.{Screen, look_at}
use Rattle.tui_cells.specs.Cell.{IsAllocationFree, Look, set_style, write}
use Rattle.tui_cells.specs.Layers.{KeptOutside, Layer, Painted, ascii_layers, at_place, layers_at, over}
use Rattle.tui_cells.specs.Rect.{covers}
use Rattle.tui_cells.proofs.Painting.{Painted-inside, Painted-none, Painted-then, layers_at-append}
use Rattle.tui_cells.proofs.RowWritingLaws.{ascii_stays}
use Rattle.tui_clusters.specs.Width.{width_of}
use Rattle.tui_clusters.specs.Shown.{one_byte}
use Rattle.tui_text.specs.Painting.{cells_at}
use Rattle.tui_clusters.specs.Printable.{is_printable}
use Rattle.tui_text.specs.Setting.{set_cluster, set_clusters, set_end}
use Rattle.tui_clusters.proofs.OneByte.{byte_width}
use Rattle.tui_text.proofs.Settings.{end_more, fits, pick_true}

-- the strokes of one byte as a grapheme, at a position of a buffer
byte_at : (x y u v b : ℕ) (style : Style) (c : Look) → u < 65535 → v < 65535 → width_of (b ∷ []) ≡ 1 →
    layers_at (set_cluster x y style (b ∷ [])) u v c ≡ layers_at (over (at_place x y) (write (b ∷ []) ∷ set_style style ∷ [])) u v c
byte_at x y u v b style c column row wide =
    let none : covers (cells_at (x + 1) y 0) u v ≡ false = grind (arith, nat_tests) in
    let same : covers (cells_at x y 1) u v ≡ at_place x y u v = grind (arith, nat_tests) in
    rw wide (rw none (rw same refl))

-- bytes in a room of columns, and what is set in the room after them
written_at : (x y room : ℕ) (style : Style) (run : List ℕ) (cs : List (List ℕ)) (after : List Layer) (u v : ℕ) (c : Look) → u < 65535 → v < 65535 →
    list_all is_printable run ≡ true → length run ≤ room → after ≡ set_clusters (x + length run) y (room - length run) style cs →
    layers_at (ascii_layers x y style run ++ after) u v c ≡ layers_at (set_clusters x y room style (map one_byte run ++ cs)) u v c
unfolding set_clusters ascii_layers
written_at x y room style [] cs after u v c column row e le is =
    ap (λ ls. layers_at ls u v c) (is ∙ ap₂ (λ n r. set_clusters n y r style cs) (let e : x + 0 ≡ x = omega arith in e) (let e : room - 0 ≡ room = omega arith in e))
written_at x y room style (b ∷ bs) cs after u v c column row e le is =
    let both = and_parts (is_printable b) _ e in
    let wide : width_of (b ∷ []) ≡ 1 = byte_width b both.0 in
    let rest = map one_byte bs ++ cs in
    let first = set_cluster x y style (b ∷ []) in
    let k = layers_at (over (at_place x y) (write (b ∷ []) ∷ set_style style ∷ [])) u v c in
    written_at (x + 1) y (room - 1) style bs cs after u v k column row both.1 (omega arith)
    (is ∙ ap₂ (λ n r. set_clusters n y r style cs) (let e : x + length (b ∷ bs) ≡ x + 1 + length bs = omega arith in e)
    (let e : room - length (b ∷ bs) ≡ room - 1 - length bs = omega arith in e))
    ∙ sym (ap (λ ls. layers_at ls u v c) (pick_true (nat_le (width_of (b ∷ [])) room) _ _ (fits (width_of (b ∷ [])) room (omega (arith, wide))))
    ∙ (layers_at-append first (set_clusters (x + width_of (b ∷ [])) y (room - width_of (b ∷ [])) style rest) u v c
    ∙ (ap (λ n. layers_at (set_clusters (x + n) y (room - n) style rest) u v (layers_at first u v c)) wide
    ∙ ap (layers_at (set_clusters (x + 1) y (room - 1) style rest) u v) (byte_at x y u v b style c column row wide))))

pub set_written : (x y room n : ℕ) (style : Style) (run : List ℕ) (cs all : List (List ℕ)) (a b final : Screen) →
    all ≡ map one_byte run ++ cs → list_all is_printable run ≡ true → length run ≤ room → n ≡ length run →
    Painted (ascii_layers x y style run) a b → Painted (set_clusters (x + n) y (room - n) style cs) b final → Painted (set_clusters x y room style all) a final
set_written x y room n style run cs all a b final e printable le len p q =
    rw e (Painted-inside
    (λ u v here c. written_at x y room style run cs _ u v c (grind (arith, nat_tests)) (grind (arith, nat_tests)) printable le
    (ap (λ m. set_clusters (x + m) y (room - m) style cs) len)) (Painted-then p q))

end_at : (x room : ℕ) (run : List ℕ) (cs : List (List ℕ)) → list_all is_printable run ≡ true → length run ≤ room →
    set_end (x + length run) (room - length run) cs ≡ set_end x room (map one_byte run ++ cs)
end_at x room [] cs e le = ap₂ (λ n r. set_end n r cs) (let e : x + 0 ≡ x = omega arith in e) (let e : room - 0 ≡ room = omega arith in e)
end_at x room (b ∷ bs) cs e le =
    let both = and_parts (is_printable b) _ e in
    let wide : width_of (b ∷ []) ≡ 1 = byte_width b both.0 in
    ap₂ (λ n r. set_end n r cs) (let e : x + length (b ∷ bs) ≡ x + 1 + length bs = omega arith in e)
    (let e : room - length (b ∷ bs) ≡ room - 1 - length bs = omega arith in e)
    ∙ (end_at (x + 1) (room - 1) bs cs both.1 (omega arith)
    ∙ end_more x room (x + 1) (room - 1) ((b ∷ []) ∷ map one_byte bs ++ cs) (b ∷ []) (map one_byte bs ++ cs) refl (omega (arith, wide)) (omega (arith, wide)) (omega (arith, wide)))

pub end_written : (x room n : ℕ) (run : List ℕ) (cs all : List (List ℕ)) → all ≡ map one_byte run ++ cs → list_all is_printable run ≡ true → length run ≤ room → n ≡ length run →
    set_end (x + n) (room - n) cs ≡ set_end x room all
end_written x room n run cs all e printable le len =
    ap (λ m. set_end (x + m) (room - m) cs) len ∙ (end_at x room run cs printable le ∙ ap (set_end x room) (sym e))

-- bytes in a room of columns change nothing outside it
pub kept_written : (x y room : ℕ) (style : Style) (run : List ℕ) (a b : Screen) → length run ≤ room → Painted (ascii_layers x y style run) a b →
    KeptOutside (covers (cells_at x y room)) a b
kept_written x y room style run a b le p = record { area = p.area; cells = λ u v out. p.cells u v ∙ same u v out (covers a.area u v) refl }
  where
    same : (u v : ℕ) → covers (cells_at x y room) u v ≡ false → (here : Bool) → covers a.area u v ≡ here →
        option_map (layers_at (ascii_layers x y style run) u v) (if here then Some (look_at a u v) else None) ≡ (if here then Some (look_at a u v) else None)
    same u v out true here = ap Some ((ascii_stays x y style run).cell u v (grind (arith, nat_tests)) (look_at a u v))
    same u v out false here = refl

pub allocation_free_after : (run : List ℕ) (cs all : List (List ℕ)) → all ≡ map one_byte run ++ cs → All IsAllocationFree all → All IsAllocationFree cs
allocation_free_after run cs all e allocation_free = after run (subst (λ ts. All IsAllocationFree ts) e allocation_free)
  where
    after : (bs : List ℕ) → All IsAllocationFree (map one_byte bs ++ cs) → All IsAllocationFree cs
    after [] allocation_free = allocation_free
    after (b ∷ bs) allocation_free = after bs (All-tail IsAllocationFree (b ∷ []) (map one_byte bs ++ cs) allocation_free)

-- no byte, and no cluster
pub none_written : (x y : ℕ) (style : Style) (run : List ℕ) (b : Screen) → length run ≡ 0 → Painted (ascii_layers x y style run) b b
unfolding ascii_layers
none_written x y style [] b e = Painted-none b
none_written x y style (r ∷ rs) b e = absurd (omega (arith, e))
