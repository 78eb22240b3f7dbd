-- What a stop writes.
use Rattle.std.proofs.Common.{◌≡◌, ℕ, List, [], Option, Some, None, ◌∙◌, arith, inl, inr}
use Rattle.std.proofs.lemmas.List.{append-nil}
use Rattle.std.specs.Io.KnownBytes.{Appends, Keeps}
use Rattle.tui_io.specs.Causes.{Observed, TakesPrefix}
use Rattle.tui_program.specs.Stops.{WritesLine}
use Rattle.tui_program.specs.Transcript.{Unwritten}
use Rattle.tui_program.specs.declared.stop.Stop.{Stop}

nothing_appended : (a b : Option (List ℕ)) → Appends a b [] → Keeps a b
nothing_appended None b h = tt
nothing_appended (Some xs) None h = absurd h
nothing_appended (Some xs) (Some ys) h = h ∙ append-nil xs

no_prefix : (a b : Option (List ℕ)) → TakesPrefix a b [] → ⊥
no_prefix a b h = let short = h.short in omega arith

-- a stop without a line writes nothing
pub without_line : {R : Type 0} (stopped : Stop R) {old new : Observed} {e : Stop R} → WritesLine [] stopped old new e → (e ≡ stopped) × Unwritten old new
without_line stopped {old} {new} h = elim h [
  | inl written ↦ (written.0, record { held = nothing_appended old.bytes new.bytes written.1.sent; quiet = written.1.cause })
  | inr failed ↦ absurd (no_prefix old.bytes new.bytes failed.1.sent)
]
