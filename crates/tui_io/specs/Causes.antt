-- When a read or a write fails, and what a sequence of them has read or written.
use Rattle.std.specs.Prelude.{◌≡◌, ℕ, ◌+◌, ◌-◌, ◌^◌, ◌≤◌, ◌<◌, min, List, length, take, Option, Result, Bool, true, false, OnOk, OnErr}
use Rattle.std.specs.Io.KnownBytes.{Appends, Consumes, Keeps}

-- What can be observed of a source or a sink: the bytes that are left to read or that were written, if they are known,
-- and the number of failed calls.
pub record Observed : Type 0 where
  pub bytes : Option (List ℕ)
  pub io_errors : ℕ

-- the largest value of a counter
abbrev pub last_count : ℕ
last_count = 2 ^ 64 - 1

-- a counter after one more event; it saturates
abbrev pub counted : ℕ → ℕ
counted n = min (n + 1) last_count

-- A counter was incremented, or has reached its largest value.
pub record Rose (before now : ℕ) : Type 0 where
  pub later : before ≤ now
  pub once : now ≡ counted before

-- A call failed: the count of I/O errors rose.
abbrev pub HasFailed : Observed → Observed → Type 0
HasFailed old new = Rose old.io_errors new.io_errors

-- The count of I/O errors before and after a call. `Ok` leaves it unchanged; after `Err` it has risen, or has reached
-- its largest value.
pub record HasCause {T E : Type 0} (before now : ℕ) (result : Result T E) : Type 0 where
  pub ok : OnOk result (now ≡ before)
  pub failed : OnErr result (Rose before now)

-- A source yielded some bytes, at least `least` and at most `most` of them.
pub record ReadsBetween (old new : Option (List ℕ)) (least most : ℕ) : Type 0 where
  pub bytes : List ℕ
  pub taken : Consumes old new bytes
  pub enough : least ≤ length bytes
  pub within : length bytes ≤ most

-- A sink took a proper prefix of these bytes.
pub record TakesPrefix (old new : Option (List ℕ)) (bytes : List ℕ) : Type 0 where
  pub count : ℕ
  pub short : count < length bytes
  pub taken : Appends old new (take count bytes)

-- The bytes of a sink before and after a sequence of writes. `ok_so_far` says whether no write had failed before, `still_ok`
-- whether none has failed after them.
abbrev pub SinkTakes : Option (List ℕ) → Option (List ℕ) → Bool → Bool → List ℕ → Type 0
SinkTakes old new true true bytes = Appends old new bytes
SinkTakes old new true false bytes = TakesPrefix old new bytes
SinkTakes old new false true bytes = ⊥
SinkTakes old new false false bytes = Keeps old new

-- The count of I/O errors before and after such writes.
abbrev pub ErrorsCounted : ℕ → ℕ → Bool → Bool → Type 0
ErrorsCounted before now true true = now ≡ before
ErrorsCounted before now true false = Rose before now
ErrorsCounted before now false true = ⊥
ErrorsCounted before now false false = now ≡ before

-- The effect of writing these bytes, where no write follows a failed one.
pub record WritesIf (old new : Observed) (ok_so_far still_ok : Bool) (bytes : List ℕ) : Type 0 where
  pub sent : SinkTakes old.bytes new.bytes ok_so_far still_ok bytes
  pub cause : ErrorsCounted old.io_errors new.io_errors ok_so_far still_ok

-- All of the bytes were written.
abbrev pub WritesAll : Observed → Observed → List ℕ → Type 0
WritesAll old new bytes = WritesIf old new true true bytes

-- A write failed: a proper prefix of the bytes was written.
abbrev pub WritesPrefix : Observed → Observed → List ℕ → Type 0
WritesPrefix old new bytes = WritesIf old new true false bytes

-- The effect of writing these bytes: `Ok` exactly if the sink took them all, else a proper prefix of them.
pub record Writes {T E : Type 0} (old new : Observed) (result : Result T E) (bytes : List ℕ) : Type 0 where
  pub ok : OnOk result (Appends old.bytes new.bytes bytes × (new.io_errors ≡ old.io_errors))
  pub failed : OnErr result (TakesPrefix old.bytes new.bytes bytes × HasFailed old new)
