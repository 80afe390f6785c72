-- The slot table: a byte for each transaction slot, and zeros after them.
use Rattle.std.specs.Prelude.{◌≡◌, ℕ, ◌+◌, ◌-◌, ◌<◌, ◌≤◌, min, Bool, true, cond, ◌&&◌, List, map, length, take, drop, is_some, unwrap_or, Some, None, Option, ◌==◌, nat_le, slice_set}
use Rattle.std.specs.List.{list_all}
use Rattle.number.specs.Zeros.{zeros}
use Rattle.level.specs.declared.slots.SlotState.{SlotState}
use Rattle.level.specs.declared.slots.SlotState.TheVariants.{Committed, Undone, Running}

-- the slot that the byte b stands for, where a slot has at most m records
abbrev pub slot_of : ℕ → ℕ → Option SlotState
slot_of m b = cond (b == 0) (Some Committed) (cond (b == 255) (Some Undone) (cond (nat_le b (m + 1)) (Some (Running (b - 1))) None))

abbrev pub slot_byte : SlotState → ℕ
slot_byte Committed = 0
slot_byte Undone = 255
slot_byte (Running k) = k + 1

-- it has at most m records
abbrev pub Within : ℕ → SlotState → Type 0
Within m Committed = Unit {0}
Within m Undone = Unit {0}
Within m (Running k) = k ≤ m

-- the byte that is written for a slot: its own, where it has no more records than a slot of a level
pub record ByteOf (s : SlotState) (b : ℕ) : Type 0 where
  pub value : b ≡ min (slot_byte s) 255
  pub fits : Within 64 s → b ≡ slot_byte s

-- each byte is that of a slot
abbrev pub all_slots : ℕ → List ℕ → Bool
all_slots m bs = list_all (λ b. is_some (slot_of m b)) bs

-- the bytes of t slots of at most m records, and zeros
abbrev pub table_ok : ℕ → ℕ → List ℕ → Bool
table_ok t m bs = nat_le t (length bs) && (all_slots m (take t bs) && zeros (drop t bs))

abbrev pub table_slots : ℕ → ℕ → List ℕ → List SlotState
table_slots t m bs = map (λ b. unwrap_or (slot_of m b) Committed) (take t bs)

-- a table with slot i changed to s is a table, and the other slots are as they were
abbrev pub Kept : ℕ → SlotState → List ℕ → List ℕ → Type 0
Kept i s old new = (t m : ℕ) → i < t → m ≤ 64 → Within m s → table_ok t m old ≡ true → (table_ok t m new ≡ true) × (table_slots t m new ≡ slice_set (table_slots t m old) i s)
