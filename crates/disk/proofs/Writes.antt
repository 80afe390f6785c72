-- A read and a write, case by case.
use Rattle.std.proofs.Common.{◌≡◌, ℕ, ◌<◌, true, false, List, [], length, get_or, Some, None, Ok, Err, Result, ap, ◌∙◌, arith}
use Rattle.std.proofs.lemmas.Bool.{lt-ltb}
use Rattle.std.proofs.lemmas.Bool.Decides.{nat_tests}
use Rattle.refusal.specs.declared.Refusal.{Refusal}
use Rattle.refusal.specs.Refusals.{darkened}
use Rattle.disk.specs.Device.{Device, bar, answer, filled, written, write_answer, cut, replaced}

-- nothing bars a call on a block of a powered disk
pub bar_free : (n : ℕ) (d : Device) → d.powered ≡ true → n < length d.blocks → bar n d ≡ None
unfolding bar
bar_free n d p h = rw (p, lt-ltb n (length d.blocks) h)

pub bar_dark : (n : ℕ) (d : Device) → d.powered ≡ false → bar n d ≡ Some darkened
unfolding bar
bar_dark n d p = rw p

pub read_free : (n : ℕ) (d : Device) (old : List ℕ) → bar n d ≡ None → filled n d old ≡ get_or d.blocks n []
unfolding filled
read_free n d old f = grind (arith, nat_tests)

-- a read that is barred leaves the buffer
pub read_barred : (n : ℕ) (d : Device) (old : List ℕ) (e : Refusal) → bar n d ≡ Some e → filled n d old ≡ old
unfolding filled
read_barred n d old e f = grind (arith, nat_tests)

-- a write with charge
pub write_paid : (n : ℕ) (v : List ℕ) (d : Device) → bar n d ≡ None → 0 < d.charge → (write_answer n d ≡ Ok tt) × (written n v d ≡ replaced n v d)
unfolding written write_answer
write_paid n v d f h = grind (arith, nat_tests)

-- a write without
pub write_spent : (n : ℕ) (v : List ℕ) (d : Device) → bar n d ≡ None → d.charge ≡ 0 → (write_answer n d ≡ Err darkened) × (written n v d ≡ cut d)
unfolding written write_answer
write_spent n v d f h = grind (arith, nat_tests)

-- a write that is barred leaves the disk
pub write_barred : (n : ℕ) (v : List ℕ) (d : Device) (e : Refusal) → bar n d ≡ Some e → (write_answer n d ≡ Err e) × (written n v d ≡ d)
unfolding written write_answer
write_barred n v d e f = (grind (arith, nat_tests), grind (arith, nat_tests))

-- a read of a block of a powered disk
pub read_done : (n : ℕ) (d : Device) (old out : List ℕ) (r : Result Unit Refusal) → d.powered ≡ true → n < length d.blocks → r ≡ answer (bar n d) → out ≡ filled n d old → (r ≡ Ok tt) × (out ≡ get_or d.blocks n [])
read_done n d old out r p h a f = let b = bar_free n d p h in (a ∙ ap answer b, f ∙ read_free n d old b)

pub read_granted : {X : Type 0} (n : ℕ) (d : Device) (r : Result Unit Refusal) (e : Refusal) → d.powered ≡ true → n < length d.blocks → r ≡ answer (bar n d) → r ≡ Err e → X
read_granted n d r e p h a f = let g : r ≡ Ok tt = a ∙ ap answer (bar_free n d p h) in let z : ◌≡◌ {A = ℕ} 0 1 = cc in absurd (omega arith)
