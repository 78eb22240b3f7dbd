-- From one line on to the next.
use Rattle.std.proofs.Common.{◌≡◌, ℕ, ◌+◌, ◌-◌, ◌<◌, Bool, List, [], ◌∷◌, ◌++◌, drop, length, length-append, drop-drop, Option, None, Some, Bor, slice_index, get_or-append-add, refl, sym, ap, ◌∙◌, subst, ⊎_elim, arith}
use Rattle.std.specs.Prelude.{◌↔◌, IfSome, MatchOption}
use Rattle.std.specs.Str.{IsCharBoundary, IsUtf8}
use Rattle.std.proofs.lemmas.Bool.{cases_lt}
use Rattle.std.proofs.lemmas.List.{append_assoc, get_or_append_left, length-drop}
use Rattle.std.proofs.lemmas.Str.{IsCharBoundary-at_seam, IsCharBoundary-start}
use Rattle.std.proofs.Math.Seq.{drop-append_seam}
use Rattle.tui_cells.specs.Style.{no_style}
use Rattle.tui_text.specs.declared.alignment.Alignment.TheVariants.{Left}
use Rattle.tui_line_places.specs.AfterLine.{HasAtMostLines, HasLineCount, IsFromLine, BeginsLine, wrapped_lines}
use Rattle.tui_line_places.specs.Reading.{HasPassed}
use Rattle.tui_line_places.proofs.AfterLine.{has_line}

module _ (w : ℕ) (trim : Bool) (text : List ℕ) where
  pub from_first : IsFromLine w trim 0 text text
  from_first = record { front = []; whole = refl; lines = λ style alignment. refl }

  module _ (k : ℕ) (rest : List ℕ) (from : IsFromLine w trim k text rest) where
    pub from_next : (m : ℕ) (last : List ℕ) → IsFromLine w trim m rest last → IsFromLine w trim (k + m) text last
    from_next m last next = record {
      front = from.front ++ next.front;
      whole = from.whole ∙ ap (λ t. from.front ++ t) next.whole ∙ sym (append_assoc from.front next.front last);
      lines = λ style alignment.
          next.lines style alignment ∙ ap (drop m) (from.lines style alignment) ∙ drop-drop m k (wrapped_lines style alignment w trim text);
    }

    pub count_from : (n : ℕ) → 0 < n → HasLineCount w trim rest n → HasLineCount w trim text (k + n)
    count_from n some count = λ style alignment.
        let a = ap length (from.lines style alignment) ∙ length-drop k (wrapped_lines style alignment w trim text) in
        let b = count style alignment in
        omega arith

    pub more_lines : IsUtf8 rest → HasAtMostLines w trim text k → ⊥
    more_lines u most =
        let a = ap length (from.lines no_style Left) ∙ length-drop k (wrapped_lines no_style Left w trim text) in
        let b = has_line no_style Left w trim rest u in
        let c = most no_style Left in
        omega arith

    -- the offset at which the rest begins
    pub place_from : IsUtf8 rest → BeginsLine w trim text k (length text - length rest)
    place_from u =
        let size = ap length from.whole ∙ length-append from.front rest in
        let place : length text - length rest ≡ length from.front = omega arith in
        let here : drop (length text - length rest) text ≡ rest = ap (λ n. drop n text) place ∙ ap (drop (length from.front)) from.whole ∙ drop-append_seam from.front rest in
        record {
          boundary = subst (IsCharBoundary text) (sym place) (IsCharBoundary-at_seam text from.front rest from.whole u);
          from = subst (IsFromLine w trim k text) (sym here) from;
        }

-- what the clauses state about a result
abbrev pub Found : ℕ → Bool → List ℕ → ℕ → Option (Bor (List ℕ)) → Type 0
Found w trim text k found = MatchOption found (HasAtMostLines w trim text k) (λ rest. IsUtf8 rest.now × IsFromLine w trim k text rest.now)

module _ (w : ℕ) (trim : Bool) (text : List ℕ) (k : ℕ) where
  pub clause_past : (found : Option (Bor (List ℕ))) → Found w trim text k found → (found ≡ None) ↔ HasAtMostLines w trim text k
  clause_past None h = (λ _. h, λ _. refl)
  clause_past (Some rest) h = (λ e. cc, λ most. absurd (more_lines w trim text k rest.now h.1 h.0 most))

  pub clause_from : (found : Option (Bor (List ℕ))) → Found w trim text k found → IfSome found (λ rest. IsFromLine w trim k text rest.now)
  clause_from None h = tt
  clause_from (Some rest) h = h.1

  -- fewer lines than asked for
  pub too_few : (i : ℕ) (rest : List ℕ) → i < k → IsFromLine w trim i text rest → HasLineCount w trim rest 1 → HasAtMostLines w trim text k
  too_few i rest less from one = λ style alignment. let a = count_from w trim text i rest from 1 (omega arith) one style alignment in omega arith

module _ (w : ℕ) (trim : Bool) (text rest next : List ℕ) (v : IsUtf8 next) (on : IsFromLine w trim 1 rest next) where
  pub place_next : (places : List ℕ) → HasPassed w trim text places rest → HasPassed w trim text (places ++ (length text - length next) ∷ []) next
  place_next places h =
      let from = from_next w trim text h.passed rest h.from 1 next on in
      let place = length text - length next in
      let size = length-append places (place ∷ []) in
      let last : slice_index (places ++ place ∷ []) (length places) ≡ place = ap (λ n. slice_index (places ++ place ∷ []) n) (omega arith) ∙ get_or-append-add places (place ∷ []) 0 0 in
      let here : BeginsLine w trim text (h.passed + 1) place = place_from w trim text (h.passed + 1) next from v in
      record {
        passed = h.passed + 1;
        many = omega (arith, h.many);
        from = from;
        each = λ k less.
            ⊎_elim
            (λ before. subst (BeginsLine w trim text k) (sym (get_or_append_left places (place ∷ []) 0 k before)) (h.each k before))
            (λ at.
            let same : k ≡ length places = omega (arith, size) in
            let is_last : slice_index (places ++ place ∷ []) k ≡ place = ap (slice_index (places ++ place ∷ [])) same ∙ last in
            let line : h.passed + 1 ≡ k = omega (arith, h.many) in
            subst (BeginsLine w trim text k) (sym is_last) (subst (λ n. BeginsLine w trim text n place) line here))
            (cases_lt k (length places));
      }

pub first_place : (w : ℕ) (trim : Bool) (text : List ℕ) → IsUtf8 text → HasPassed w trim text (0 ∷ []) text
first_place w trim text u = record {
  passed = 0;
  many = refl;
  from = from_first w trim text;
  each = λ k less.
      let first : 0 ≡ k = omega arith in
      subst (λ n. BeginsLine w trim text n (slice_index (0 ∷ []) n)) first (record { boundary = IsCharBoundary-start text u; from = from_first w trim text });
}
