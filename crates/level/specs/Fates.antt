-- What became of a slot's last transaction, as a level tells it and as a number.
use Rattle.std.specs.Prelude.{◌≡◌, ℕ, refl}
use Rattle.theory.specs.Slots.{Slot, committed, undone, running, fate_of}
use Rattle.level.specs.declared.level.Fate.{Fate}
use Rattle.level.specs.declared.level.Fate.TheVariants as fate

abbrev pub fate_number : Fate → ℕ
fate_number fate.Committed = 0
fate_number fate.Undone = 1
fate_number fate.Running = 2

abbrev pub told : {Op : Type 0} → Slot Op → Fate
told committed = fate.Committed
told undone = fate.Undone
told (running us) = fate.Running

-- the number is the one that the theory gives the slot
pub told_number : {Op : Type 0} (s : Slot Op) → fate_number (told s) ≡ fate_of s
told_number committed = refl
told_number undone = refl
told_number (running us) = refl
