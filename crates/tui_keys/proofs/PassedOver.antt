-- Replies to queries of other programs yield no event.
use Rattle.std.proofs.Common.{◌≡◌, ◌≢◌, inl, inr, ℕ, ◌≤◌, Bool, true, false, List, [], ◌∷◌, ◌++◌, All, refl, sym, ap, subst, ◌∙◌, ◌==◌, if◌then◌else◌, arith}
use Rattle.std.proofs.lemmas.Bool.Decides.{nat_tests}
use Rattle.std.proofs.lemmas.List.Elements.{All-head, All-tail}
use Rattle.tui_keys.proofs.Alone.{opener_step}
use Rattle.tui_keys.proofs.Decoding.{joined, no_step}
use Rattle.tui_keys.proofs.Sending.{escape_read, escaped_step}
use Rattle.tui_keys.proofs.Texts.{escaped}
use Rattle.tui_keys.specs.declared.keys.KeyDecoder.{KeyDecoder}
use Rattle.tui_keys.specs.declared.keys.Pending.{Pending}
use Rattle.tui_keys.specs.declared.keys.Pending.TheVariants.{Nothing, Opened, Answer, AnswerEscape}
use Rattle.tui_keys.specs.Laws.{AnswersPassOver, AreRead, EndsAnswer, IsAnswerByte}
use Rattle.tui_keys.specs.Steps.{ends_answer, in_answer, nul, opens_answer, start, stepped, typed, waits}

-- outside a paste, in a reply
abbrev outside : Pending → KeyDecoder
outside pending = record { pasting = false; pending = pending }

abbrev IsAnswer : Pending → Type 0
IsAnswer p = (b : ℕ) → typed p b ≡ in_answer b

answer_step : (p : Pending) (b : ℕ) → IsAnswer p → b ≢ 0 → stepped (outside p) b ≡ in_answer b
unfolding stepped
answer_step p b same some =
    let e : (b == 0) ≡ false = grind (arith, nat_tests) in
    ap (λ (t : Bool). if t then nul (outside p) else typed p b) e ∙ same b

goes_on : (b : ℕ) → b ≢ 7 → b ≢ 27 → in_answer b ≡ waits Answer
unfolding in_answer
goes_on b bel esc = grind (arith, nat_tests)

bel_ends : in_answer 7 ≡ waits Nothing
unfolding in_answer
bel_ends = refl

esc_seen : in_answer 27 ≡ waits AnswerEscape
unfolding in_answer
esc_seen = refl

st_ends : stepped (outside AnswerEscape) 92 ≡ waits Nothing
unfolding stepped ends_answer
st_ends = refl

end_read : (p : Pending) (last : List ℕ) → IsAnswer p → EndsAnswer last → AreRead (outside p) last [] start
end_read p last same e = elim e [
  | inl bel ↦ subst (λ (l : List ℕ). AreRead (outside p) l [] start) (sym bel)
      (no_step (outside p) start 7 (answer_step p 7 same (omega arith) ∙ bel_ends))
  | inr st ↦ subst (λ (l : List ℕ). AreRead (outside p) l [] start) (sym st)
      (joined (outside p) (outside AnswerEscape) start (27 ∷ []) (92 ∷ []) [] []
      (no_step (outside p) (outside AnswerEscape) 27 (answer_step p 27 same (omega arith) ∙ esc_seen)) (no_step (outside AnswerEscape) start 92 st_ends))
]

text_read : (text : List ℕ) (p : Pending) (last : List ℕ) → IsAnswer p → All IsAnswerByte text → EndsAnswer last →
    AreRead (outside p) (text ++ last) [] start
text_read [] p last same all e = end_read p last same e
text_read (b ∷ bs) p last same all e =
    let here = All-head IsAnswerByte b bs all in
    joined (outside p) (outside Answer) start (b ∷ []) (bs ++ last) [] []
    (no_step (outside p) (outside Answer) b (answer_step p b same here.0 ∙ goes_on b here.1 here.2))
    (text_read bs Answer last (λ c. refl) (All-tail IsAnswerByte b bs all) e)

printable : (c : ℕ) → opens_answer c ≡ true → 32 ≤ c
printable c is = grind (arith, nat_tests)

no_bracket : (c : ℕ) → opens_answer c ≡ true → c ≢ 91
no_bracket c is = grind (arith, nat_tests)

no_ss3 : (c : ℕ) → opens_answer c ≡ true → c ≢ 79
no_ss3 c is = grind (arith, nat_tests)

pub answers_pass_over : AnswersPassOver
answers_pass_over c text last is all e =
    joined start escaped start (27 ∷ []) (c ∷ (text ++ last)) [] [] escape_read
    (joined escaped (outside (Opened c)) start (c ∷ []) (text ++ last) [] []
    (no_step escaped (outside (Opened c)) c (escaped_step c (printable c is) ∙ opener_step c (no_bracket c is) (no_ss3 c is) is))
    (text_read text (Opened c) last (λ b. refl) all e))
