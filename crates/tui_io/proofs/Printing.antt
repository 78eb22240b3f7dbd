-- Several pieces, written one after another.
use Rattle.std.proofs.Common.{◌≡◌, ℕ, List, [], ◌++◌, Bool, true, false, Result, Ok, Err, refl, sym, ap, ◌∙◌, append_assoc}
use Rattle.std.proofs.lemmas.List.{append-nil}
use Rattle.std.specs.Prelude.{is_ok}
use Rattle.tui_io.specs.Causes.{WritesIf, WritesPrefix, Observed, Writes}
use Rattle.tui_io.specs.Prints.{PrintState, Passes, Prints}
use Rattle.tui_io.proofs.Outside.{WritesIf-then, Appends-none, Keeps-self}

-- nothing is written
WritesIf-off : (a b : Observed) (s t : List ℕ) → WritesIf a b false false s → WritesIf a b false false t
WritesIf-off a b s t k = record { sent = k.sent; cause = k.cause }

pub WritesIf-none : (a : Observed) (p : Bool) → WritesIf a a p p []
WritesIf-none a true = record { sent = Appends-none a.bytes; cause = refl }
WritesIf-none a false = record { sent = Keeps-self a.bytes; cause = refl }

Passes-after : (a b c : Observed) (p q r : Bool) (x y z s t : List ℕ) →
    Passes a b p q x y s → Passes b c q r y z t → Passes a c p r x z (s ++ t)
Passes-after a b c true true true x y z s t k l = (
  k.0 ++ l.0,
  WritesIf-then k.1 l.1,
  sym (append_assoc x s t) ∙ (ap (λ (m : List ℕ). m ++ t) k.2 ∙ (append_assoc k.0 y t ∙ (ap (λ (m : List ℕ). k.0 ++ m) l.2 ∙ sym (append_assoc k.0 l.0 z)))),
)
Passes-after a b c true true false x y z s t k l =
    let e : k.0 ++ (y ++ t) ≡ x ++ (s ++ t) = sym (append_assoc k.0 y t) ∙ (ap (λ (m : List ℕ). m ++ t) (sym k.2) ∙ append_assoc x s t) in
    let all : WritesPrefix a c (k.0 ++ (y ++ t)) = WritesIf-then k.1 l in
    rw e at all
Passes-after a b c true false true x y z s t k l = absurd l
Passes-after a b c true false false x y z s t k l =
    let all : WritesPrefix a c ((x ++ s) ++ t) = WritesIf-then k l in
    rw append_assoc at all
Passes-after a b c false true r x y z s t k l = absurd k
Passes-after a b c false false true x y z s t k l = absurd l
Passes-after a b c false false false x y z s t k l = WritesIf-then k l

-- some bytes are added, and then some more
pub Prints-then : {a b c : Observed} {x y z : PrintState} {s t : List ℕ} →
    Prints a b x y s → Prints b c y z t → Prints a c x z (s ++ t)
Prints-then {a} {b} {c} {x} {y} {z} {s} {t} k l =
    record { passed = Passes-after a b c x.ok_so_far y.ok_so_far z.ok_so_far x.bytes y.bytes z.bytes s t k.passed l.passed }

end_after : (a b c : Observed) (p q r : Bool) (x y s : List ℕ) →
    Passes a b p q x y s → WritesIf b c q r y → WritesIf a c p r (x ++ s)
end_after a b c true true r x y s k l = rw k.2 (WritesIf-then k.1 l)
end_after a b c true false true x y s k l = absurd l.cause
end_after a b c true false false x y s k l =
    let all : WritesPrefix a c ((x ++ s) ++ []) = WritesIf-then k (WritesIf-off b c y [] l) in
    rw append-nil at all
end_after a b c false true r x y s k l = absurd k
end_after a b c false false true x y s k l = absurd l.cause
end_after a b c false false false x y s k l = WritesIf-off a c (s ++ y) (x ++ s) (WritesIf-then k l)

-- the buffered bytes are written at the end
pub Prints-end : {a b c : Observed} {r : Bool} {x y : PrintState} {s : List ℕ} →
    Prints a b x y s → WritesIf b c y.ok_so_far r y.bytes → WritesIf a c x.ok_so_far r (x.bytes ++ s)
Prints-end {a} {b} {c} {r} {x} {y} {s} k l = end_after a b c x.ok_so_far y.ok_so_far r x.bytes y.bytes s k.passed l

-- `Ok` means that no write has failed
pub Writes-writes_if : {T E : Type 0} {a b : Observed} {s : List ℕ} (r : Result T E) → Writes a b r s → WritesIf a b true (is_ok r) s
Writes-writes_if (Ok x) w = record { sent = w.ok.0; cause = w.ok.1 }
Writes-writes_if (Err e) w = record { sent = w.failed.0; cause = w.failed.1 }

WritesIf-writes : {T E : Type 0} {a b : Observed} {s : List ℕ} (r : Result T E) → WritesIf a b true (is_ok r) s → Writes a b r s
WritesIf-writes (Ok x) p = record { ok = (p.sent, p.cause); failed = tt }
WritesIf-writes (Err e) p = record { ok = tt; failed = (p.sent, p.cause) }

-- a `Print` from `new` to `end`
pub Prints-writes : {T E : Type 0} {a b c : Observed} {x y : PrintState} {s : List ℕ} {r : Result T E} → x ≡ record { bytes = []; ok_so_far = true } →
    Prints a b x y s → WritesIf b c y.ok_so_far (is_ok r) y.bytes → Writes a c r s
Prints-writes {r = r} new k l = WritesIf-writes r (rw new at (Prints-end k l))

-- nothing is written
pub added : (a : Observed) (p : Bool) (x y s : List ℕ) → y ≡ x ++ s → Passes a a p p x y s
added a true x y s e = ([], WritesIf-none a true, sym e)
added a false x y s e = WritesIf-off a a [] s (WritesIf-none a false)

-- the buffered bytes are written together with the bytes after them
pub put_with : (a b : Observed) (p q : Bool) (x s : List ℕ) → WritesIf a b p q (x ++ s) → Passes a b p q x [] s
put_with a b true true x s k = (x ++ s, k, sym (append-nil (x ++ s)))
put_with a b true false x s k = k
put_with a b false true x s k = absurd k.cause
put_with a b false false x s k = WritesIf-off a b (x ++ s) s k

-- no bytes are added
pub Prints-none : (a : Observed) (x : PrintState) → Prints a a x x []
Prints-none a x = record { passed = added a x.ok_so_far x.bytes x.bytes [] (sym (append-nil x.bytes)) }
