-- Text in UTF-8 decodes to its characters.
use Rattle.std.proofs.Common.{◌≡◌, inl, inr, ℕ, ◌+◌, ◌-◌, ◌*◌, ◌/◌, ◌%◌, ◌≤◌, ◌<◌, Bool, true, false, List, [], ◌∷◌, map, None, Some, refl, sym, ap, subst, ◌∙◌, ◌==◌, if◌then◌else◌, arith}
use Rattle.std.proofs.lemmas.Bool.{cases_lt}
use Rattle.std.proofs.lemmas.Bool.Decides.{nat_tests}
use Rattle.std.proofs.lemmas.List.Elements.{All-head, All-tail}
use Rattle.std.specs.Prelude.{encode_utf8_all}
use Rattle.tui_keys.proofs.Decoding.{joined, no_step, nothing_read, one_step}
use Rattle.tui_keys.specs.declared.event.Event.{Event}
use Rattle.tui_keys.specs.declared.event.Event.TheVariants as events
use Rattle.tui_keys.specs.declared.keys.PartialCharacter.{PartialCharacter}
use Rattle.tui_keys.specs.declared.keys.KeyDecoder.{KeyDecoder}
use Rattle.tui_keys.specs.declared.keys.Pending.{Pending}
use Rattle.tui_keys.specs.declared.keys.Pending.TheVariants.{Escape, Character}
use Rattle.tui_keys.specs.declared.keys.Decoded.{Decoded}
use Rattle.tui_keys.specs.Laws.{AreRead, TextIsItself}
use Rattle.tui_keys.specs.Sent.{IsPlain}
use Rattle.tui_keys.specs.Steps.{after_escape, at_rest, ground, character_of, in_character, lead, nul, one, pasted, pasted_event, unchanged, stepped, character_event, waits}
use lib.Utf8.{encode, scalar, scalar_cases}

-- the step of a byte other than NUL, within a paste or not
abbrev moded : Bool → Decoded → Decoded
moded true s = pasted s
moded false s = s

choice : (q t : Bool) (keys : KeyDecoder) (s : Decoded) → t ≡ false → (if t then nul keys else if q then pasted s else s) ≡ moded q s
choice true true keys s e = grind (arith)
choice false true keys s e = grind (arith)
choice true false keys s e = refl
choice false false keys s e = refl

not_nul : (b : ℕ) → 0 < b → (b == 0) ≡ false
not_nul b low = grind (arith, nat_tests)

-- a character as an event, within a paste or not
abbrev seen : Bool → Bool → ℕ → Event
seen true alt c = pasted_event (character_event alt c)
seen false alt c = character_event alt c

seen_char : (q : Bool) (c : ℕ) → seen q false c ≡ events.Char c
seen_char true c = refl
seen_char false c = refl

-- in a character
abbrev within : Bool → PartialCharacter → KeyDecoder
within q p = record { pasting = q; pending = Character p }

moded_waits : (q : Bool) (p : Pending) → moded q (waits p) ≡ unchanged (record { pasting = q; pending = p })
moded_waits true p = refl
moded_waits false p = refl

moded_one : (q alt : Bool) (c : ℕ) → moded q (one (character_event alt c)) ≡ record { keys = at_rest q; first = None; second = Some (seen q alt c) }
moded_one true true c = refl
moded_one true false c = refl
moded_one false true c = refl
moded_one false false c = refl

-- the first bytes
lead_two : (alt : Bool) (b : ℕ) → 194 ≤ b → b < 224 → lead alt b ≡ waits (Character (record { alt = alt; left = 1; least = 128; code = b - 192 }))
unfolding lead
lead_two alt b low high = grind (arith, nat_tests)

lead_three : (alt : Bool) (b : ℕ) → 224 ≤ b → b < 240 → lead alt b ≡ waits (Character (record { alt = alt; left = 2; least = 2048; code = b - 224 }))
unfolding lead
lead_three alt b low high = grind (arith, nat_tests)

lead_four : (alt : Bool) (b : ℕ) → 240 ≤ b → b < 245 → lead alt b ≡ waits (Character (record { alt = alt; left = 3; least = 65536; code = b - 240 }))
unfolding lead
lead_four alt b low high = grind (arith, nat_tests)

-- the bytes after them
next_byte : (alt : Bool) (left least code b : ℕ) → 2 ≤ left → 128 ≤ b → b < 192 →
    in_character (record { alt = alt; left = left; least = least; code = code }) b
    ≡ waits (Character (record { alt = alt; left = left - 1; least = least; code = code % 32768 * 64 + (b - 128) }))
unfolding in_character
next_byte alt left least code b more low high = grind (arith, nat_tests)

last_byte : (alt : Bool) (least code b : ℕ) → 128 ≤ b → b < 192 →
    in_character (record { alt = alt; left = 1; least = least; code = code }) b ≡ one (character_of alt least (code % 32768 * 64 + (b - 128)))
unfolding in_character
last_byte alt least code b low high = grind (arith, nat_tests)

low_code : (alt : Bool) (least code : ℕ) → least ≤ code → code < 55296 → character_of alt least code ≡ character_event alt code
unfolding character_of
low_code true least code most low = grind (arith, nat_tests)
low_code false least code most low = grind (arith, nat_tests)

high_code : (alt : Bool) (least code : ℕ) → least ≤ code → 57344 ≤ code → code < 1114112 → character_of alt least code ≡ character_event alt code
unfolding character_of
high_code true least code most low high = grind (arith, nat_tests)
high_code false least code most low high = grind (arith, nat_tests)

character : (alt : Bool) (least code : ℕ) → least ≤ code → scalar code ≡ true → character_of alt least code ≡ character_event alt code
character alt least code most ok =
    elim (scalar_cases code ok) [ inl low ↦ low_code alt least code most low | inr high ↦ high_code alt least code most high.0 high.1 ]

-- steps from within a character
in_step : (q : Bool) (p : PartialCharacter) (b : ℕ) → 0 < b → stepped (within q p) b ≡ moded q (in_character p b)
unfolding stepped
in_step q p b low = choice q (b == 0) (within q p) (in_character p b) (not_nul b low)

next_step : (q alt : Bool) (left least code b : ℕ) → 2 ≤ left → 128 ≤ b → b < 192 →
    AreRead (within q (record { alt = alt; left = left; least = least; code = code })) (b ∷ []) []
    (within q (record { alt = alt; left = left - 1; least = least; code = code % 32768 * 64 + (b - 128) }))
next_step q alt left least code b more low high =
    no_step _ _ b (in_step q (record { alt = alt; left = left; least = least; code = code }) b (omega arith)
    ∙ ap (moded q) (next_byte alt left least code b more low high) ∙ moded_waits q _)

last_step : (q alt : Bool) (least code b c : ℕ) → 128 ≤ b → b < 192 → least ≤ c → scalar c ≡ true → code % 32768 * 64 + (b - 128) ≡ c →
    AreRead (within q (record { alt = alt; left = 1; least = least; code = code })) (b ∷ []) (seen q alt c ∷ []) (at_rest q)
last_step q alt least code b c low high most ok is =
    one_step _ _ b _ (in_step q (record { alt = alt; left = 1; least = least; code = code }) b (omega arith)
    ∙ ap (moded q) (last_byte alt least code b low high ∙ ap (λ (k : ℕ). one (character_of alt least k)) is ∙ ap one (character alt least c most ok))
    ∙ moded_one q alt c)

-- the decoder state in which a byte from 128 on begins a character
abbrev Leads : KeyDecoder → Bool → Bool → Type 0
Leads k q alt = (b : ℕ) → 128 ≤ b → stepped k b ≡ moded q (lead alt b)

first_step : (k : KeyDecoder) (q alt : Bool) (p : PartialCharacter) (b : ℕ) → Leads k q alt → 128 ≤ b → lead alt b ≡ waits (Character p) → AreRead k (b ∷ []) [] (within q p)
first_step k q alt p b leads low is = no_step k _ b (leads b low ∙ ap (moded q) is ∙ moded_waits q (Character p))

two_bytes : (k : KeyDecoder) (q alt : Bool) (a b c : ℕ) → Leads k q alt → 194 ≤ a → a < 224 → 128 ≤ b → b < 192 → 128 ≤ c → scalar c ≡ true →
    (a - 192) % 32768 * 64 + (b - 128) ≡ c → AreRead k (a ∷ b ∷ []) (seen q alt c ∷ []) (at_rest q)
two_bytes k q alt a b c leads a_low a_high b_low b_high most ok is =
    joined k _ _ (a ∷ []) (b ∷ []) [] _ (first_step k q alt _ a leads (omega arith) (lead_two alt a a_low a_high))
    (last_step q alt 128 (a - 192) b c b_low b_high most ok is)

three_bytes : (k : KeyDecoder) (q alt : Bool) (a b d c : ℕ) → Leads k q alt → 224 ≤ a → a < 240 → 128 ≤ b → b < 192 → 128 ≤ d → d < 192 → 2048 ≤ c →
    scalar c ≡ true → ((a - 224) % 32768 * 64 + (b - 128)) % 32768 * 64 + (d - 128) ≡ c → AreRead k (a ∷ b ∷ d ∷ []) (seen q alt c ∷ []) (at_rest q)
three_bytes k q alt a b d c leads a_low a_high b_low b_high d_low d_high most ok is =
    joined k _ _ (a ∷ []) (b ∷ d ∷ []) [] _ (first_step k q alt _ a leads (omega arith) (lead_three alt a a_low a_high))
    (joined _ _ _ (b ∷ []) (d ∷ []) [] _ (next_step q alt 2 2048 (a - 224) b (omega arith) b_low b_high)
    (last_step q alt 2048 _ d c d_low d_high most ok is))

four_bytes : (k : KeyDecoder) (q alt : Bool) (a b d e c : ℕ) → Leads k q alt → 240 ≤ a → a < 245 → 128 ≤ b → b < 192 → 128 ≤ d → d < 192 → 128 ≤ e → e < 192 →
    65536 ≤ c → scalar c ≡ true → (((a - 240) % 32768 * 64 + (b - 128)) % 32768 * 64 + (d - 128)) % 32768 * 64 + (e - 128) ≡ c →
    AreRead k (a ∷ b ∷ d ∷ e ∷ []) (seen q alt c ∷ []) (at_rest q)
four_bytes k q alt a b d e c leads a_low a_high b_low b_high d_low d_high e_low e_high most ok is =
    joined k _ _ (a ∷ []) (b ∷ d ∷ e ∷ []) [] _ (first_step k q alt _ a leads (omega arith) (lead_four alt a a_low a_high))
    (joined _ _ _ (b ∷ []) (d ∷ e ∷ []) [] _ (next_step q alt 3 65536 (a - 240) b (omega arith) b_low b_high)
    (joined _ _ _ (d ∷ []) (e ∷ []) [] _ (next_step q alt 2 65536 _ d (omega arith) d_low d_high)
    (last_step q alt 65536 _ e c e_low e_high most ok is)))

below : (c : ℕ) → scalar c ≡ true → c < 1114112
below c ok = elim (scalar_cases c ok) [ inl low ↦ omega arith | inr high ↦ high.1 ]

-- the UTF-8 bytes of a character
pub encode_one : (c : ℕ) → c < 128 → encode c ≡ c ∷ []
unfolding encode
encode_one c small = grind (arith, nat_tests)

encode_two : (c : ℕ) → 128 ≤ c → c < 2048 → encode c ≡ (192 + c / 64) ∷ (128 + c % 64) ∷ []
unfolding encode
encode_two c low high = grind (arith, nat_tests)

encode_three : (c : ℕ) → 2048 ≤ c → c < 65536 → encode c ≡ (224 + c / 4096) ∷ (128 + (c / 64) % 64) ∷ (128 + c % 64) ∷ []
unfolding encode
encode_three c low high = grind (arith, nat_tests)

encode_four : (c : ℕ) → 65536 ≤ c → encode c ≡ (240 + c / 262144) ∷ (128 + (c / 4096) % 64) ∷ (128 + (c / 64) % 64) ∷ (128 + c % 64) ∷ []
unfolding encode
encode_four c low = grind (arith, nat_tests)

encoded_two : (k : KeyDecoder) (q alt : Bool) (c : ℕ) → Leads k q alt → scalar c ≡ true → 128 ≤ c → c < 2048 → AreRead k (encode c) (seen q alt c ∷ []) (at_rest q)
encoded_two k q alt c leads ok low high =
    subst (λ (l : List ℕ). AreRead k l (seen q alt c ∷ []) (at_rest q)) (sym (encode_two c low high))
    (two_bytes k q alt (192 + c / 64) (128 + c % 64) c leads (omega arith) (omega arith) (omega arith) (omega arith) low ok (omega arith))

encoded_three : (k : KeyDecoder) (q alt : Bool) (c : ℕ) → Leads k q alt → scalar c ≡ true → 2048 ≤ c → c < 65536 →
    AreRead k (encode c) (seen q alt c ∷ []) (at_rest q)
encoded_three k q alt c leads ok low high =
    subst (λ (l : List ℕ). AreRead k l (seen q alt c ∷ []) (at_rest q)) (sym (encode_three c low high))
    (three_bytes k q alt (224 + c / 4096) (128 + (c / 64) % 64) (128 + c % 64) c leads (omega arith) (omega arith) (omega arith) (omega arith)
    (omega arith) (omega arith) low ok (omega arith))

encoded_four : (k : KeyDecoder) (q alt : Bool) (c : ℕ) → Leads k q alt → scalar c ≡ true → 65536 ≤ c → AreRead k (encode c) (seen q alt c ∷ []) (at_rest q)
encoded_four k q alt c leads ok low =
    let high = below c ok in
    subst (λ (l : List ℕ). AreRead k l (seen q alt c ∷ []) (at_rest q)) (sym (encode_four c low))
    (four_bytes k q alt (240 + c / 262144) (128 + (c / 4096) % 64) (128 + (c / 64) % 64) (128 + c % 64) c leads (omega arith) (omega arith) (omega arith)
    (omega arith) (omega arith) (omega arith) (omega arith) (omega arith) low ok (omega arith))

-- a character that needs more than one byte
encoded_long : (k : KeyDecoder) (q alt : Bool) (c : ℕ) → Leads k q alt → scalar c ≡ true → 128 ≤ c → AreRead k (encode c) (seen q alt c ∷ []) (at_rest q)
encoded_long k q alt c leads ok low = elim (cases_lt c 2048) [
  | inl two ↦ encoded_two k q alt c leads ok low two
  | inr three ↦ elim (cases_lt c 65536) [ inl under ↦ encoded_three k q alt c leads ok three under | inr four ↦ encoded_four k q alt c leads ok four ]
]

rest_leads : (q : Bool) → Leads (at_rest q) q false
unfolding stepped ground
rest_leads q b low =
    let e : ground b ≡ lead false b = grind (arith, nat_tests) in
    choice q (b == 0) (at_rest q) (ground b) (not_nul b (omega arith)) ∙ ap (moded q) e

pub plain_byte : (q : Bool) (b : ℕ) → 32 ≤ b → b < 127 → AreRead (at_rest q) (b ∷ []) (events.Char b ∷ []) (at_rest q)
unfolding stepped ground
plain_byte q b low high =
    let e : ground b ≡ one (events.Char b) = grind (arith, nat_tests) in
    let s : moded q (one (events.Char b)) ≡ record { keys = at_rest q; first = None; second = Some (seen q false b) } = moded_one q false b in
    one_step (at_rest q) (at_rest q) b (events.Char b) (choice q (b == 0) (at_rest q) (ground b) (not_nul b (omega arith)) ∙ ap (moded q) e ∙ s
    ∙ ap (λ (e : Event). record { keys = at_rest q; first = None; second = Some e }) (seen_char q b))

pub plain_read : (q : Bool) (c : ℕ) → IsPlain c → AreRead (at_rest q) (encode c) (events.Char c ∷ []) (at_rest q)
plain_read q c is = elim (cases_lt c 128) [
  | inl small ↦ subst (λ (l : List ℕ). AreRead (at_rest q) l (events.Char c ∷ []) (at_rest q)) (sym (encode_one c small))
      (plain_byte q c is.1 (omega (arith, is.2)))
  | inr long ↦ subst (λ (e : Event). AreRead (at_rest q) (encode c) (e ∷ []) (at_rest q)) (seen_char q c)
      (encoded_long (at_rest q) q false c (rest_leads q) is.0 long)
]

pub itself : TextIsItself
itself q [] all = nothing_read (at_rest q)
itself q (c ∷ cs) all =
    joined (at_rest q) (at_rest q) (at_rest q) (encode c) (encode_utf8_all cs) (events.Char c ∷ []) (map events.Char cs)
    (plain_read q c (All-head IsPlain c cs all)) (itself q cs (All-tail IsPlain c cs all))

-- after ESC
abbrev pub escaped : KeyDecoder
escaped = record { pasting = false; pending = Escape }

escape_leads : Leads escaped false true
unfolding stepped after_escape
escape_leads b low =
    let e : after_escape b ≡ lead true b = grind (arith, nat_tests) in
    choice false (b == 0) escaped (after_escape b) (not_nul b (omega arith)) ∙ e

pub alt_long : (c : ℕ) → scalar c ≡ true → 128 ≤ c → AreRead escaped (encode c) (events.Alt c ∷ []) (at_rest false)
alt_long c ok low = encoded_long escaped false true c escape_leads ok low
