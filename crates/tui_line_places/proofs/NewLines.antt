-- Where `lines` splits a text for the first time.
use Rattle.std.proofs.Common.{◌≡◌, ℕ, ◌+◌, ◌-◌, ◌==◌, Bool, true, false, cond, ◌||◌, List, [], ◌∷◌, ◌++◌, length, take, slice_index, refl, sym, ap, ◌∙◌, subst, inl, inr, ⊎_elim, arith, eqb-true, get_or-append-add, length-append, take_all}
use Rattle.std.specs.List.{list_any, slice_split, onto_first}
use Rattle.std.specs.Prelude.{◌⊎◌, if◌then◌else◌}
use Rattle.std.specs.Str.Lines.{lines, lines_of_parts, strip_carriage_return}
use Rattle.tui_clusters.proofs.LineEnds.{EndsInReturn}
use Rattle.tui_text.specs.Text.{text_lines}
use Rattle.std.proofs.lemmas.Bool.{cases_Bool, false≢true}
use Rattle.std.proofs.lemmas.Bool.Decides.{nat_tests}
use Rattle.std.proofs.lemmas.List.{append_assoc, take_more}

abbrev pub is_newline_byte : ℕ → Bool
is_newline_byte b = b == 10

-- these bytes hold no newline
abbrev pub OneLine : List ℕ → Type 0
OneLine bytes = list_any is_newline_byte bytes ≡ false

-- there is no newline, or the first one comes after the line, or after a carriage return that is not part of the line
pub data Newline (bytes line after : List ℕ) : Type 0 where
  none : bytes ≡ line → after ≡ [] → OneLine line → Newline bytes line after
  feed : bytes ≡ line ++ 10 ∷ after → (EndsInReturn line → ⊥) → OneLine line → Newline bytes line after
  both : bytes ≡ line ++ 13 ∷ 10 ∷ after → OneLine line → Newline bytes line after

abbrev parts : List ℕ → List (List ℕ)
parts bytes = slice_split is_newline_byte bytes

record FirstPart (bytes : List ℕ) : Type 0 where
  line : List ℕ
  one : OneLine line
  rest : ((bytes ≡ line) × (parts bytes ≡ line ∷ [])) ⊎ ((after : List ℕ) × (bytes ≡ line ++ 10 ∷ after) × (parts bytes ≡ line ∷ parts after))

first_part : (bytes : List ℕ) → FirstPart bytes
first_part [] = record { line = []; one = refl; rest = inl (refl, refl) }
first_part (b ∷ bytes) =
    ⊎_elim
    (λ yes_newline. record {
      line = [];
      one = refl;
      rest = inr (bytes, ap (λ x. x ∷ bytes) (eqb-true b 10 yes_newline), ap (λ x. cond x ([] ∷ parts bytes) (onto_first b (parts bytes))) yes_newline);
    })
    (λ other.
    let f = first_part bytes in
    let split : parts (b ∷ bytes) ≡ onto_first b (parts bytes) = ap (λ x. cond x ([] ∷ parts bytes) (onto_first b (parts bytes))) other in
    record {
      line = b ∷ f.line;
      one = ap (λ x. x || list_any is_newline_byte f.line) other ∙ f.one;
      rest = ⊎_elim
          (λ last. inl (ap (λ x. b ∷ x) last.0, split ∙ ap (onto_first b) last.1))
          (λ more. inr (more.0, ap (λ x. b ∷ x) more.1, split ∙ ap (onto_first b) more.2))
          f.rest;
    })
    (cases_Bool (b == 10))

some_parts : (bytes : List ℕ) → (p : List ℕ) × (ps : List (List ℕ)) × (parts bytes ≡ p ∷ ps)
some_parts [] = ([], [], refl)
some_parts (b ∷ bytes) =
    let (p, ps, e) = some_parts bytes in
    ⊎_elim
    (λ t. ([], parts bytes, ap (λ x. cond x ([] ∷ parts bytes) (onto_first b (parts bytes))) t))
    (λ t. (b ∷ p, ps, ap (λ x. cond x ([] ∷ parts bytes) (onto_first b (parts bytes))) t ∙ ap (onto_first b) e))
    (cases_Bool (b == 10))

first_of_parts : (line after : List ℕ) → lines_of_parts (line ∷ parts after) ≡ strip_carriage_return line ∷ lines after
first_of_parts line after =
    let (p, ps, e) = some_parts after in
    ap (λ x. lines_of_parts (line ∷ x)) e ∙ ap (λ x. strip_carriage_return line ∷ lines_of_parts x) (sym e)

ends_there : (front : List ℕ) → (slice_index (front ++ 13 ∷ []) (length (front ++ 13 ∷ []) - 1) == 13) ≡ true
ends_there front =
    let last : length (front ++ 13 ∷ []) - 1 ≡ length front + 0 = omega (arith, length-append front (13 ∷ [])) in
    ap (λ n. slice_index (front ++ 13 ∷ []) n == 13) last ∙ ap (λ x. x == 13) (get_or-append-add front (13 ∷ []) 0 0)

-- the line does or does not end in a carriage return
returned : (line : List ℕ) → ((strip_carriage_return line ≡ line) × (EndsInReturn line → ⊥))
    ⊎ ((front : List ℕ) × (line ≡ front ++ 13 ∷ []) × (strip_carriage_return line ≡ front))
returned [] = inl (refl, λ (front, e). absurd (let l = ap length e ∙ length-append front (13 ∷ []) in omega arith))
returned (b ∷ bytes) =
    let line = b ∷ bytes in
    ⊎_elim
    (λ t.
    let last : slice_index line (length line - 1) ≡ 13 = eqb-true _ 13 t in
    let size : length line ≡ length line - 1 + 1 = omega arith in
    let whole : line ≡ take (length line - 1) line ++ 13 ∷ [] =
    sym (take_all (length line) line (omega arith)) ∙ ap (λ n. take n line) size ∙ take_more line (length line - 1) 0 (omega arith)
    ∙ ap (λ x. take (length line - 1) line ++ x ∷ []) last in
    inr (take (length line - 1) line, whole, ap (λ x. if x then take (length line - 1) line else line) t))
    (λ t. inl (
      ap (λ x. if x then take (length line - 1) line else line) t,
      λ (front, e). absurd (false≢true (sym t ∙ (ap (λ x. slice_index x (length x - 1) == 13) e ∙ ends_there front))),
    ))
    (cases_Bool (slice_index line (length line - 1) == 13))

pub one_parts : (front back : List ℕ) → OneLine (front ++ back) → OneLine front × OneLine back
one_parts [] back h = (refl, h)
one_parts (b ∷ front) back h =
    ⊎_elim
    (λ t. absurd (false≢true (sym h ∙ ap (λ x. x || list_any is_newline_byte (front ++ back)) t)))
    (λ t.
    let rest = one_parts front back (sym (ap (λ x. x || list_any is_newline_byte (front ++ back)) t) ∙ h) in
    (ap (λ x. x || list_any is_newline_byte front) t ∙ rest.0, rest.1))
    (cases_Bool (b == 10))

some_bytes : (b : ℕ) (bytes : List ℕ) → (length (b ∷ bytes) == 0) ≡ false
some_bytes b bytes = grind (arith, nat_tests)

pub record FirstLine (bytes : List ℕ) : Type 0 where
  pub line : List ℕ
  pub after : List ℕ
  pub newline : Newline bytes line after
  pub lines_are : text_lines bytes ≡ line ∷ lines after

pub first_line : (bytes : List ℕ) → FirstLine bytes
first_line [] = record { line = []; after = []; newline = none refl refl refl; lines_are = refl }
first_line (b ∷ bytes) =
    let text = b ∷ bytes in
    let f = first_part text in
    ⊎_elim
    (λ last. record {
      line = text;
      after = [];
      newline = none refl refl (subst OneLine (sym last.0) f.one);
      lines_are = ap lines_of_parts (last.1 ∙ ap (λ x. x ∷ []) (sym last.0)) ∙ ap (λ t. if t then [] else text ∷ []) (some_bytes b bytes);
    })
    (λ more.
    let first = ap lines_of_parts more.2 ∙ first_of_parts f.line more.0 in
    ⊎_elim
    (λ r. record { line = f.line; after = more.0; newline = feed more.1 r.1 f.one; lines_are = first ∙ ap (λ x. x ∷ lines more.0) r.0 })
    (λ r. record {
      line = r.0;
      after = more.0;
      newline = both (more.1 ∙ ap (λ x. x ++ 10 ∷ more.0) r.1 ∙ append_assoc r.0 (13 ∷ []) (10 ∷ more.0)) (one_parts r.0 (13 ∷ []) (subst OneLine r.1 f.one)).0;
      lines_are = first ∙ ap (λ x. x ∷ lines more.0) r.2;
    })
    (returned f.line))
    f.rest
