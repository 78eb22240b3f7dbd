-- The bytes that add to a pen, part by part.
use Rattle.std.proofs.Common.{◌≡◌, ℕ, ◌+◌, Bool, true, false, ◌&&◌, List, [], ◌∷◌, ◌++◌, flat_map, refl, sym, ap, ◌∙◌, append_assoc, arith}
use Rattle.std.specs.Prelude.{codes, decimal, if◌then◌else◌}
use Rattle.std.proofs.lemmas.List.{append-nil}
use Rattle.std.proofs.lemmas.Grind.{flat_map-append}
use Rattle.std.proofs.lemmas.List.Concat.{flat_map-cons}
use Rattle.std.proofs.lemmas.Bool.{cond-true, cond-false}
use Rattle.std.proofs.lemmas.Bool.Decides.{nat_tests}
use Rattle.tui_terminal_model.specs.Pens.{add_all}
use Rattle.tui_terminal_model.specs.Encoding.{csi, next_setting_text, setting_text, encoding}
use Rattle.tui_terminal_model.specs.Terminal.{Command, Setting, add, mark}
use Rattle.tui_terminal.specs.Adding.{begun_after, end_text, lead, settings_text}
use Rattle.tui_terminal.specs.Marks.{mark_if}
use Rattle.tui_terminal.proofs.Texts.{one_text}

-- a setting after others, and those after it
next_text : (s : Setting) (ss : List Setting) → codes ";" ++ (setting_text s ++ flat_map next_setting_text ss) ≡ flat_map next_setting_text (s ∷ ss)
next_text s ss = sym (flat_map-cons next_setting_text s ss ∙ append_assoc (codes ";") (setting_text s) (flat_map next_setting_text ss))

settings_more : (b : Bool) (xs ys : List Setting) → settings_text b xs ++ settings_text (begun_after b xs) ys ≡ settings_text b (xs ++ ys)
settings_more b [] ys = refl
settings_more b (x ∷ xs) [] = append-nil (settings_text b (x ∷ xs)) ∙ ap (settings_text b) (sym (append-nil (x ∷ xs)))
settings_more b (x ∷ xs) (y ∷ ys) =
    let f = flat_map next_setting_text in
    let following : f xs ++ (codes ";" ++ (setting_text y ++ f ys)) ≡ f (xs ++ y ∷ ys) =
    ap (λ (l : List ℕ). f xs ++ l) (next_text y ys) ∙ sym (flat_map-append next_setting_text xs (y ∷ ys)) in
    append_assoc (lead b) (setting_text x ++ f xs) _
    ∙ ap (λ (l : List ℕ). lead b ++ l) (append_assoc (setting_text x) (f xs) _ ∙ ap (λ (l : List ℕ). setting_text x ++ l) following)

begun_more : (b : Bool) (xs ys : List Setting) → begun_after (begun_after b xs) ys ≡ begun_after b (xs ++ ys)
begun_more b [] ys = refl
begun_more b (x ∷ xs) [] = refl
begun_more b (x ∷ xs) (y ∷ ys) = refl

-- a part, and the parts after it
pub part_text : (b c : Bool) (xs ys : List Setting) (text : List ℕ) → c ≡ begun_after b xs → text ≡ settings_text c ys → settings_text b xs ++ text ≡ settings_text b (xs ++ ys)
part_text b c xs ys text eb et =
    ap (λ (l : List ℕ). settings_text b xs ++ l) (et ∙ ap (λ (k : Bool). settings_text k ys) eb) ∙ settings_more b xs ys

pub part_begun : (b c d : Bool) (xs ys : List Setting) → c ≡ begun_after b xs → d ≡ begun_after c ys → d ≡ begun_after b (xs ++ ys)
part_begun b c d xs ys ec ed = ed ∙ (ap (λ (k : Bool). begun_after k ys) ec ∙ begun_more b xs ys)

-- a whole sequence
pub sequence_text : (ss : List Setting) (b : Bool) → b ≡ begun_after false ss → settings_text false ss ++ end_text b ≡ flat_map encoding (add_all ss)
unfolding encoding
sequence_text [] b e = ap end_text e
sequence_text (s ∷ ss) b e =
    let f = flat_map next_setting_text ss in
    ap (λ (k : Bool). settings_text false (s ∷ ss) ++ end_text k) e
    ∙ (append_assoc csi (setting_text s ++ f) (codes "m")
    ∙ (ap (λ (l : List ℕ). csi ++ l) (append_assoc (setting_text s) f (codes "m")) ∙ sym (one_text encoding (add s ss))))

-- ---- one setting, or none

pub mark_begins : (begun : Bool) (k : ℕ) (b : Bool) → b ≡ true → lead begun ++ decimal (k + 1) ≡ settings_text begun (mark_if k b)
mark_begins begun k b e =
    ap (λ (l : List ℕ). lead begun ++ l) (sym (append-nil (decimal (k + 1)))) ∙ sym (ap (settings_text begun) (cond-true b (mark k ∷ []) [] e))

pub mark_has_begun : (begun : Bool) (k : ℕ) (b : Bool) → b ≡ true → true ≡ begun_after begun (mark_if k b)
mark_has_begun begun k b e = sym (ap (begun_after begun) (cond-true b (mark k ∷ []) [] e))

pub mark_none : (begun : Bool) (k : ℕ) (b : Bool) → b ≡ false → [] ≡ settings_text begun (mark_if k b)
mark_none begun k b e = sym (ap (settings_text begun) (cond-false b (mark k ∷ []) [] e))

pub mark_not_begun : (begun : Bool) (k : ℕ) (b : Bool) → b ≡ false → begun ≡ begun_after begun (mark_if k b)
mark_not_begun begun k b e = sym (ap (begun_after begun) (cond-false b (mark k ∷ []) [] e))

-- a colour that differs, foreground or background
pub color_text : (begun same : Bool) (s : Setting) (text : List ℕ) → text ≡ setting_text s → same ≡ false →
    lead begun ++ text ≡ settings_text begun (if same then [] else s ∷ [])
color_text begun same s text is e =
    ap (λ (l : List ℕ). lead begun ++ l) (is ∙ sym (append-nil (setting_text s))) ∙ sym (ap (settings_text begun) (cond-false same [] (s ∷ []) e))

pub color_begun : (begun same : Bool) (s : Setting) → same ≡ false → true ≡ begun_after begun (if same then [] else s ∷ [])
color_begun begun same s e = sym (ap (begun_after begun) (cond-false same [] (s ∷ []) e))

pub color_same_text : (begun same : Bool) (s : Setting) → same ≡ true → [] ≡ settings_text begun (if same then [] else s ∷ [])
color_same_text begun same s e = sym (ap (settings_text begun) (cond-true same [] (s ∷ []) e))

pub color_same_begun : (begun same : Bool) (s : Setting) → same ≡ true → begun ≡ begun_after begun (if same then [] else s ∷ [])
color_same_begun begun same s e = sym (ap (begun_after begun) (cond-true same [] (s ∷ []) e))

-- settings that are left out, or not
pub kept_text : (begun b : Bool) (ss : List Setting) → b ≡ true → settings_text begun ss ≡ settings_text begun (if b then ss else [])
kept_text begun b ss e = sym (ap (settings_text begun) (cond-true b ss [] e))

pub kept_begun : (begun b : Bool) (ss : List Setting) → b ≡ true → begun_after begun ss ≡ begun_after begun (if b then ss else [])
kept_begun begun b ss e = sym (ap (begun_after begun) (cond-true b ss [] e))

pub dropped_text : (begun b : Bool) (ss : List Setting) → b ≡ false → [] ≡ settings_text begun (if b then ss else [])
dropped_text begun b ss e = sym (ap (settings_text begun) (cond-false b ss [] e))

pub dropped_begun : (begun b : Bool) (ss : List Setting) → b ≡ false → begun ≡ begun_after begun (if b then ss else [])
dropped_begun begun b ss e = sym (ap (begun_after begun) (cond-false b ss [] e))

-- ---- all that is added to a pen

pub added_text : (ms fs bs : List Setting) (b c d : Bool) (following : List Command) → b ≡ begun_after false ms → c ≡ begun_after b fs → d ≡ begun_after c bs →
    settings_text false ms ++ (settings_text b fs ++ (settings_text c bs ++ (end_text d ++ flat_map encoding following))) ≡ flat_map encoding (add_all (ms ++ (fs ++ bs)) ++ following)
added_text ms fs bs b c d following eb ec ed =
    let rest = end_text d ++ flat_map encoding following in
    let colors : settings_text b fs ++ settings_text c bs ≡ settings_text b (fs ++ bs) = part_text b c fs bs (settings_text c bs) ec refl in
    let all : settings_text false ms ++ settings_text b (fs ++ bs) ≡ settings_text false (ms ++ (fs ++ bs)) = part_text false b ms (fs ++ bs) _ eb refl in
    let begun : d ≡ begun_after false (ms ++ (fs ++ bs)) = part_begun false b d ms (fs ++ bs) eb (part_begun b c d fs bs ec ed) in
    ap (λ (l : List ℕ). settings_text false ms ++ l) (sym (append_assoc (settings_text b fs) (settings_text c bs) rest) ∙ ap (λ (l : List ℕ). l ++ rest) colors)
    ∙ (sym (append_assoc (settings_text false ms) (settings_text b (fs ++ bs)) rest)
    ∙ (ap (λ (l : List ℕ). l ++ rest) all
    ∙ (sym (append_assoc (settings_text false (ms ++ (fs ++ bs))) (end_text d) (flat_map encoding following))
    ∙ (ap (λ (l : List ℕ). l ++ flat_map encoding following) (sequence_text (ms ++ (fs ++ bs)) d begun)
    ∙ sym (flat_map-append encoding (add_all (ms ++ (fs ++ bs))) following)))))

-- nine marks, all of which stay
pub nine_stay : (a b c d e f g h k : Bool) →
    (((((((a && b) && c) && d) && e) && f) && g) && h) && k ≡ (a && (b && (c && (d && (e && (f && (g && (h && (k && true)))))))))
nine_stay a b c d e f g h k = grind (arith, nat_tests)
