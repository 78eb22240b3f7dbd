-- Several reads or writes, one after another.
use Rattle.std.proofs.Common.{◌≡◌, ℕ, ◌+◌, ◌-◌, Bool, true, false, ◌≤◌, List, [], ◌++◌, length, take, drop, Option, Some, None, refl, sym, ap, ◌∙◌, append_assoc, arith}
use Rattle.std.proofs.lemmas.List.{take-append-le, take-append-drop, drop-take, take-take, append-nil, drop-drop, take_at, take_all, length-take, length-drop, length-append, nil_from_length}
use Rattle.std.proofs.Math.Seq.{take-append-add}
use Rattle.std.specs.Io.KnownBytes.{Appends, Consumes, Keeps}
use Rattle.tui_io.specs.Causes.{TakesPrefix, SinkTakes, ErrorsCounted, WritesIf, Observed}

-- some bytes, and then some more
pub take_more : (a n : ℕ) (xs : List ℕ) → take a xs ++ take n (drop a xs) ≡ take (a + n) xs
take_more a n xs =
    rw (← drop-take a n xs, ← take-take a (a + n) xs (omega arith)) (take-append-drop a (take (a + n) xs))

-- the value of `&xs[a..]`
pub part_from : (a : ℕ) (xs : List ℕ) → take (length xs - a) (drop a xs) ≡ drop a xs
part_from a xs = take_all (length xs - a) (drop a xs) (omega (arith, length-drop a xs))

pub Appends-none : (a : Option (List ℕ)) → Appends a a []
Appends-none None = tt
Appends-none (Some xs) = sym (append-nil xs)

pub Appends-then : (a b c : Option (List ℕ)) (xs ys : List ℕ) → Appends a b xs → Appends b c ys → Appends a c (xs ++ ys)
Appends-then None b c xs ys p q = tt
Appends-then (Some zs) None c xs ys p q = absurd p
Appends-then (Some zs) (Some bs) None xs ys p q = absurd q
Appends-then (Some zs) (Some bs) (Some cs) xs ys p q = q ∙ ap (λ (l : List ℕ). l ++ ys) p ∙ append_assoc zs xs ys

pub Appends-keeps : (a b c : Option (List ℕ)) (xs : List ℕ) → Appends a b xs → Keeps b c → Appends a c xs
Appends-keeps None b c xs p q = tt
Appends-keeps (Some zs) None c xs p q = absurd p
Appends-keeps (Some zs) (Some bs) None xs p q = absurd q
Appends-keeps (Some zs) (Some bs) (Some cs) xs p q = q ∙ p

pub Consumes-then : (a b c : Option (List ℕ)) (xs ys : List ℕ) → Consumes a b xs → Consumes b c ys → Consumes a c (xs ++ ys)
Consumes-then None b c xs ys p q = tt
Consumes-then (Some zs) None c xs ys p q = absurd p
Consumes-then (Some zs) (Some bs) None xs ys p q = absurd q
Consumes-then (Some zs) (Some bs) (Some cs) xs ys p q = p ∙ ap (λ (l : List ℕ). xs ++ l) q ∙ sym (append_assoc xs ys cs)

pub read_part : (a m : ℕ) (bytes copied into : List ℕ) → copied ≡ take m (drop a bytes) → m ≤ length (drop a bytes) → drop a bytes ≡ take m (copied ++ drop m into) ++ drop (a + m) bytes
read_part a m bytes copied into e le =
    let len : length copied ≡ m = ap length e ∙ omega (arith, length-take m (drop a bytes)) in
    rw (take_at copied (drop m into) m len, e) (sym (ap (λ (l : List ℕ). take m (drop a bytes) ++ l) (sym (drop-drop m a bytes)) ∙ take-append-drop m (drop a bytes)))

pub read_end : (a m : ℕ) (bytes : List ℕ) → length (drop a bytes) ≤ m → drop (a + m) bytes ≡ []
read_end a m bytes le = nil_from_length (drop (a + m) bytes) (omega (arith, length-drop (a + m) bytes, length-drop a bytes))

pub Keeps-self : (a : Option (List ℕ)) → Keeps a a
Keeps-self None = tt
Keeps-self (Some xs) = refl

Keeps-then : (a b c : Option (List ℕ)) → Keeps a b → Keeps b c → Keeps a c
Keeps-then None b c s t = tt
Keeps-then (Some xs) None c s t = absurd s
Keeps-then (Some xs) (Some ys) None s t = absurd t
Keeps-then (Some xs) (Some ys) (Some zs) s t = t ∙ s

-- all of the first bytes were taken, and a proper prefix of the rest
TakesPrefix-after : (a b c : Option (List ℕ)) (xs ys : List ℕ) → Appends a b xs → TakesPrefix b c ys → TakesPrefix a c (xs ++ ys)
TakesPrefix-after a b c xs ys s t = record {
  count = length xs + t.count;
  short = let less = t.short in omega (arith, length-append xs ys);
  taken = rw take-append-add (Appends-then a b c xs (take t.count ys) s t.taken);
}

-- a proper prefix of the first bytes was taken, and then nothing
TakesPrefix-keeps : (a b c : Option (List ℕ)) (xs ys : List ℕ) → TakesPrefix a b xs → Keeps b c → TakesPrefix a c (xs ++ ys)
TakesPrefix-keeps a b c xs ys s t =
    let less = s.short in
    let within : s.count ≤ length xs = omega arith in
    record {
      count = s.count;
      short = omega (arith, length-append xs ys);
      taken = rw (take-append-le s.count xs ys within) (Appends-keeps a b c (take s.count xs) s.taken t);
    }

SinkTakes-then : (a b c : Option (List ℕ)) (p q r : Bool) (xs ys : List ℕ) → SinkTakes a b p q xs → SinkTakes b c q r ys → SinkTakes a c p r (xs ++ ys)
SinkTakes-then a b c true true true xs ys s t = Appends-then a b c xs ys s t
SinkTakes-then a b c true true false xs ys s t = TakesPrefix-after a b c xs ys s t
SinkTakes-then a b c true false true xs ys s t = absurd t
SinkTakes-then a b c true false false xs ys s t = TakesPrefix-keeps a b c xs ys s t
SinkTakes-then a b c false true r xs ys s t = absurd s
SinkTakes-then a b c false false true xs ys s t = absurd t
SinkTakes-then a b c false false false xs ys s t = Keeps-then a b c s t

ErrorsCounted-then : (f g h : ℕ) (p q r : Bool) → ErrorsCounted f g p q → ErrorsCounted g h q r → ErrorsCounted f h p r
ErrorsCounted-then f g h true true true s t = t ∙ s
ErrorsCounted-then f g h true true false s t = rw s at t
ErrorsCounted-then f g h true false true s t = absurd t
ErrorsCounted-then f g h true false false s t = rw (← t) at s
ErrorsCounted-then f g h false true r s t = absurd s
ErrorsCounted-then f g h false false true s t = absurd t
ErrorsCounted-then f g h false false false s t = t ∙ s

-- two pieces, one after another
pub WritesIf-then : {a b c : Observed} {p q r : Bool} {xs ys : List ℕ} → WritesIf a b p q xs → WritesIf b c q r ys → WritesIf a c p r (xs ++ ys)
WritesIf-then {a} {b} {c} {p} {q} {r} {xs} {ys} s t = record {
  sent = SinkTakes-then a.bytes b.bytes c.bytes p q r xs ys s.sent t.sent;
  cause = ErrorsCounted-then a.io_errors b.io_errors c.io_errors p q r s.cause t.cause;
}
