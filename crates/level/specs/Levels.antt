-- A level's slots as its places hold them: the slot table says which slots run and with how many undo records, and each live record stands in a place of its own.
-- How a record is read is each level's own.
use Rattle.std.specs.Prelude.{ℕ, zero, suc, ◌+◌, List, [], ◌∷◌, Some, None, Option}
use Rattle.theory.specs.Slots.{Slot, committed, undone, running}
use Rattle.level.specs.declared.slots.SlotState.{SlotState}
use Rattle.level.specs.declared.slots.SlotState.TheVariants.{Committed, Undone, Running}

-- what was looked for, or the first place that is outside the layout
pub data Found (A : Type 0) : Type 0 where
  bad : (place : ℕ) → Found A
  good : A → Found A

-- how many undo records a slot has that count; what lies beyond them is stale and free
abbrev pub live : SlotState → ℕ
live Committed = 0
live Undone = 0
live (Running k) = k

module _ {Op : Type 0} where
  -- one record more, of a slot whose earlier ones were found
  abbrev pub with_record : Found (List Op) → Option Op → ℕ → Found (List Op)
  with_record (bad p) o place = bad p
  with_record (good us) None place = bad place
  with_record (good us) (Some op) place = good (op ∷ us)

  abbrev pub as_running : Found (List Op) → Found (Slot Op)
  as_running (bad p) = bad p
  as_running (good us) = good (running us)

  abbrev pub both : Found (Slot Op) → Found (List (Slot Op)) → Found (List (Slot Op))
  both (bad p) r = bad p
  both (good x) (bad p) = bad p
  both (good x) (good xs) = good (x ∷ xs)

-- `at ps t j` reads undo record j of slot t, which stands in place `place t j`
module _ {Op : Type 0} (at : List (List ℕ) → ℕ → ℕ → Option Op) (place : ℕ → ℕ → ℕ) where
  -- the first k undo records of slot t, newest first
  abbrev pub undos : List (List ℕ) → ℕ → ℕ → Found (List Op)
  undos ps t zero = good []
  undos ps t (suc j) = with_record (undos ps t j) (at ps t j) (place t j)

  abbrev pub slot_in : List (List ℕ) → ℕ → SlotState → Found (Slot Op)
  slot_in ps t Committed = good committed
  slot_in ps t Undone = good undone
  slot_in ps t (Running k) = as_running (undos ps t k)

  -- the slots from t on
  abbrev pub slots_in : List (List ℕ) → ℕ → List SlotState → Found (List (Slot Op))
  slots_in ps t [] = good []
  slots_in ps t (x ∷ xs) = both (slot_in ps t x) (slots_in ps (t + 1) xs)
