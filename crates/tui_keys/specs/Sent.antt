-- The bytes that a terminal sends for an event: ECMA-48 for the sequences, xterm's control sequences (ctlseqs) for
-- keys, modifiers, pastes and sizes.
use Rattle.std.specs.Prelude.{ℕ, ◌+◌, ◌-◌, true, ◌≡◌, ◌≢◌, ◌≤◌, ◌||◌, List, [], ◌∷◌, ◌++◌, All, get_or, codes, decimal, if◌then◌else◌, ⊤}
use Rattle.std.specs.Char.{IsScalar, encode_utf8}
use Rattle.tui_keys.specs.declared.event.Event.{Event}
use Rattle.tui_keys.specs.declared.event.Event.TheVariants as events
use Rattle.tui_keys.specs.declared.event.Modifiers.{Modifiers}
use Rattle.tui_keys.specs.declared.event.Motion.{Motion}
use Rattle.tui_keys.specs.declared.event.Motion.TheVariants as motions

-- ESC and these bytes
abbrev pub escape : List ℕ → List ℕ
escape text = 27 ∷ text

-- a control sequence
abbrev pub csi : List ℕ → List ℕ
csi text = 27 ∷ 91 ∷ text

abbrev pub motion_text : Motion → List ℕ
motion_text motions.Up = codes "A"
motion_text motions.Down = codes "B"
motion_text motions.Right = codes "C"
motion_text motions.Left = codes "D"
motion_text motions.End = codes "F"
motion_text motions.Home = codes "H"

-- xterm's number of the modifiers that are held down: 1, plus 1 for Shift, 2 for Alt and 4 for Ctrl
abbrev pub modifier_number : Modifiers → ℕ
modifier_number m = 1 + (if m.shift then 1 else 0) + (if m.alt then 2 else 0) + (if m.ctrl then 4 else 0)

-- F1 to F12, after ESC
abbrev pub function_texts : List (List ℕ)
function_texts =
    codes "OP" ∷ codes "OQ" ∷ codes "OR" ∷ codes "OS" ∷ codes "[15~" ∷ codes "[17~" ∷ codes "[18~" ∷ codes "[19~" ∷ codes "[20~" ∷ codes "[21~"
    ∷ codes "[23~" ∷ codes "[24~" ∷ []

-- The table of the bytes that are sent for each event. For a letter with Ctrl it is the letter's number
-- in the alphabet.
unfoldable pub sent_for : Event → List ℕ
sent_for (events.Char c) = encode_utf8 c
sent_for events.Enter = 13 ∷ []
sent_for events.Tab = 9 ∷ []
sent_for events.BackTab = csi (codes "Z")
sent_for events.Backspace = 127 ∷ []
sent_for events.Esc = 27 ∷ []
sent_for events.Up = csi (codes "A")
sent_for events.Down = csi (codes "B")
sent_for events.Right = csi (codes "C")
sent_for events.Left = csi (codes "D")
sent_for events.End = csi (codes "F")
sent_for events.Home = csi (codes "H")
sent_for events.Insert = csi (codes "2~")
sent_for events.Delete = csi (codes "3~")
sent_for events.PageUp = csi (codes "5~")
sent_for events.PageDown = csi (codes "6~")
sent_for (events.F n) = escape (get_or function_texts (n - 1) [])
sent_for (events.Ctrl c) = (c - 96) ∷ []
sent_for (events.Alt c) = escape (encode_utf8 c)
sent_for (events.With m motion) = csi (codes "1;" ++ (decimal (modifier_number m) ++ motion_text motion))
sent_for events.PasteBegin = csi (codes "200~")
sent_for events.PasteEnd = csi (codes "201~")
sent_for (events.Resize columns rows) = csi (codes "8;" ++ (decimal rows ++ (codes ";" ++ (decimal columns ++ codes "t"))))
sent_for events.Tick = 0 ∷ []
sent_for events.Unknown = []

-- a character that is not an ASCII control character
abbrev pub IsPlain : ℕ → Type 0
IsPlain c = IsScalar c × (32 ≤ c) × (c ≢ 127)

abbrev pub IsNoneOf : List ℕ → ℕ → Type 0
IsNoneOf text c = All (λ (k : ℕ). c ≢ k) text

abbrev pub IsSize : ℕ → Type 0
IsSize n = (1 ≤ n) × (n ≤ 1000)

-- The number of `F` is from 1 to 12. The letter of `Ctrl` is lowercase and none of h, i, j and m. `With` has at least
-- one modifier. Columns and rows are from 1 to 1000.
abbrev pub IsBounded : Event → Type 0
IsBounded (events.F n) = (1 ≤ n) × (n ≤ 12)
IsBounded (events.Ctrl c) = (97 ≤ c) × (c ≤ 122) × IsNoneOf (codes "hijm") c
IsBounded (events.With m motion) = (m.shift || m.alt || m.ctrl) ≡ true
IsBounded (events.Resize columns rows) = IsSize columns × IsSize rows
IsBounded event = ⊤

-- An event whose bytes decode to it whatever follows them. Excluded are Esc, and Alt with a character that begins a
-- sequence or a reply. Pastes have a law of their own.
abbrev pub IsUnambiguous : Event → Type 0
IsUnambiguous (events.Char c) = IsPlain c
IsUnambiguous (events.Alt c) = IsPlain c × IsNoneOf (codes "[O]PX^_") c
IsUnambiguous events.Esc = ⊥
IsUnambiguous events.PasteBegin = ⊥
IsUnambiguous events.PasteEnd = ⊥
IsUnambiguous events.Unknown = ⊥
IsUnambiguous event = IsBounded event

-- an event whose bytes decode to it if they are all of a read
abbrev pub IsUnambiguousAlone : Event → Type 0
IsUnambiguousAlone events.Esc = ⊤
IsUnambiguousAlone (events.Alt c) = IsPlain c × IsNoneOf (codes "[O") c
IsUnambiguousAlone event = IsUnambiguous event
