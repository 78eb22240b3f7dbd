-- Two texts, one after another.
use Rattle.std.proofs.Common.{◌≡◌, ◌≢◌, ℕ, List, ◌++◌, flat_map, Result, Ok, Err, refl}
use Rattle.std.specs.Io.KnownBytes.{Appends}
use Rattle.tui_app.specs.Trace.{WriteFailed, Traced}
use Rattle.tui_cells.specs.Buffer.{IsFilled, IsScreen, Screen}
use Rattle.tui_cells.specs.Cell.{blank}
use Rattle.tui_display.proofs.Taking.{WriteFailed-after, Traced-then, part_of}
use Rattle.tui_display.specs.Session.{IsInFull}
use Rattle.tui_io.specs.Causes.{HasFailed, TakesPrefix, Observed, Writes}
use Rattle.tui_terminal_model.specs.Calls.{IsFull}
use Rattle.tui_terminal_model.specs.Encoding.{encoding}
use Rattle.tui_terminal_model.specs.declared.cursor.Cursor.TheVariants.{Hidden}
use Rattle.tui_terminal_model.specs.declared.output.Output.{Output}
use Rattle.tui_terminal_laws.proofs.Screens.{full_law}
use Rattle.tui_terminal_laws.specs.Sending.{full}

-- the first one is written completely
pub writes_then : {F : Type 0} (a b c : Observed) (result : Result (Unit {0}) F) (xs ys : List ℕ) → Appends a.bytes b.bytes xs → b.io_errors ≡ a.io_errors → Writes b c result ys →
    Writes a c result (xs ++ ys)
writes_then a b c (Ok u) xs ys taken same w =
    let all : Traced a c (xs ++ ys) = Traced-then (record { taken = taken; io_errors = same }) (record { taken = w.ok.0; io_errors = w.ok.1 }) in
    record { ok = (all.taken, all.io_errors); failed = tt }
writes_then a b c (Err e) xs ys taken same w =
    let all : WriteFailed a c (xs ++ ys) = WriteFailed-after (record { taken = taken; io_errors = same }) (record { part = w.failed.0; io_errors = w.failed.1 }) in
    record { ok = tt; failed = (all.part, all.io_errors) }

-- a new screen in full, after a blank one
pub sent_in_full : {F : Type 0} (o : Output) (old blanks new : Screen) (a b c : Observed) (result : Result (Unit {0}) F) → new.area ≢ old.area → IsFilled old.area blank blanks →
    (cleared whole : List ℕ) → IsFull o Hidden blanks cleared → IsFull o Hidden new whole → Appends a.bytes b.bytes cleared → b.io_errors ≡ a.io_errors → Writes b c result whole →
    (text : List ℕ) × IsInFull o old new text × Writes a c result text
sent_in_full o old blanks new a b c result other filled cleared whole cleared_is whole_is taken same w = (
  cleared ++ whole,
  record { other = other; blanks = blanks; cleared = cleared; whole = whole; filled = filled; cleared_is = cleared_is; whole_is = whole_is; text_is = refl },
  writes_then a b c result cleared whole taken same w,
)

-- writing the blank screen failed
pub broken_in_full : {F : Type 0} (o : Output) (old blanks new : Screen) (a b : Observed) (e : F) → new.area ≢ old.area → IsFilled old.area blank blanks → IsScreen new →
    (cleared : List ℕ) → IsFull o Hidden blanks cleared → TakesPrefix a.bytes b.bytes cleared × HasFailed a b →
    (text : List ℕ) × IsInFull o old new text × Writes {T = Unit {0}} a b (Err e) text
broken_in_full o old blanks new a b e other filled shape cleared cleared_is w =
    let whole = flat_map encoding (full o Hidden new) in (
      cleared ++ whole,
      record { other = other; blanks = blanks; cleared = cleared; whole = whole; filled = filled; cleared_is = cleared_is; whole_is = full_law o Hidden new shape tt; text_is = refl },
      record { ok = tt; failed = (part_of a.bytes b.bytes cleared whole w.0, w.1) },
    )
