-- What a disk means, and what each call answers and leaves.
use Rattle.std.specs.Prelude.{◌≡◌, ℕ, ◌-◌, ◌≤◌, Bool, true, false, cond, List, [], ◌∷◌, length, Some, None, Ok, Err, Option, Result, ◌==◌, nat_lt, slice_index_or, slice_set}
use Rattle.refusal.specs.declared.Reason.TheVariants.{OutOfRange}
use Rattle.refusal.specs.declared.Refusal.{Refusal}
use Rattle.refusal.specs.Refusals.{refusal, darkened}

-- the blocks, the number of writes left before power goes, and whether there is power now
pub record Device : Type 0 where
  pub blocks : List (List ℕ)
  pub charge : ℕ
  pub powered : Bool

-- each of the lists has that length
abbrev pub Each : ℕ → List (List ℕ) → Type 0
Each z [] = Unit {0}
Each z (x ∷ xs) = (length x ≡ z) × Each z xs

-- what every disk is: 8 to 4,096 blocks of 256 bytes
pub record Formed (d : Device) : Type 0 where
  pub least : 8 ≤ length d.blocks
  pub most : length d.blocks ≤ 4096
  pub even : Each 256 d.blocks

-- why a read or a write of block n is refused at once: no power, then a block beyond the last
unfoldable pub bar : ℕ → Device → Option Refusal
bar n d = cond d.powered (cond (nat_lt n (length d.blocks)) None (Some (refusal OutOfRange 0 n))) (Some darkened)

abbrev pub answer : Option Refusal → Result Unit Refusal
answer None = Ok tt
answer (Some e) = Err e

-- a buffer after a read of block n
unfoldable pub filled : ℕ → Device → List ℕ → List ℕ
filled n d old = elim (bar n d) [ None ↦ slice_index_or d.blocks n [] | Some e ↦ old ]

-- the write that finds the charge used up makes the disk dark and changes no block
abbrev pub cut : Device → Device
cut d = record { blocks = d.blocks; charge = 0; powered = false }

abbrev pub replaced : ℕ → List ℕ → Device → Device
replaced n v d = record { blocks = slice_set d.blocks n v; charge = d.charge - 1; powered = true }

-- what a write of v to block n leaves
unfoldable pub written : ℕ → List ℕ → Device → Device
written n v d = elim (bar n d) [ None ↦ cond (d.charge == 0) (cut d) (replaced n v d) | Some e ↦ d ]

-- and what it answers
unfoldable pub write_answer : ℕ → Device → Result Unit Refusal
write_answer n d = elim (bar n d) [ None ↦ cond (d.charge == 0) (Err darkened) (Ok tt) | Some e ↦ Err e ]

-- power is always accepted
abbrev pub powered_up : ℕ → Device → Device
powered_up c d = record { blocks = d.blocks; charge = c; powered = true }
