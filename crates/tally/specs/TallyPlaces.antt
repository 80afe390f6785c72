-- The tally level as the places of a store hold it: place 0 is the slot table, places 1 to 128 are the undo records of eight slots, sixteen each,
-- and places 129 and 130 are the counters.
use Rattle.std.specs.Prelude.{◌≡◌, ℕ, ◌+◌, ◌/◌, ◌%◌, ◌^◌, ◌≤◌, cond, ◌&&◌, List, [], ◌∷◌, ◌++◌, length, Some, None, Option, nat_le, slice_index, slice_index_or, slice_set}
use Rattle.number.specs.declared.Code.{Code}
use Rattle.disk.specs.Runs.{Write}
use Rattle.store.specs.Meaning.{Content, Stage, idle, grouped, dark, due}
use Rattle.level.specs.Calls.{Standing, below_of, read_on}
use Rattle.place.specs.Writes.{shown}
use Rattle.theory.specs.Machine.{Reading, damaged, intact}
use Rattle.theory.specs.Slots.{Slot}
use Rattle.level.specs.declared.slots.SlotState.TheVariants.{Running}
use Rattle.level.specs.SlotTable.{slot_byte, table_ok, table_slots}
use Rattle.level.specs.Records.{reading_record, record_bytes, record_place}
use Rattle.level.specs.Levels.{Found, bad, good, slots_in}
use Rattle.tally.specs.declared.TallyOp.{TallyOp}
use Rattle.tally.specs.declared.TallyOp.TheVariants.{Add}
use Rattle.tally.specs.Tallies.{inverse_amount}
use Rattle.tally.specs.Codes.{tally_code, tally_undo}
use Rattle.tally.specs.CounterBytes.{reading_counters, written_at}

abbrev pub as_undo : Option Code → Option TallyOp
as_undo None = None
as_undo (Some c) = tally_undo c

-- undo record j of slot t
abbrev pub undo_at : List (List ℕ) → ℕ → ℕ → Option TallyOp
undo_at ps t j = as_undo (reading_record (slice_index_or ps (record_place 16 t j) []))

abbrev pub counters_of : List (List ℕ) → List ℕ
counters_of ps = reading_counters (slice_index_or ps 129 []) ++ reading_counters (slice_index_or ps 130 [])

abbrev pub told : ℕ → List ℕ → Found (List (Slot TallyOp)) → Reading TallyOp (List ℕ)
told layer counters (bad p) = damaged layer p
told layer counters (good slots) = intact counters slots

-- what the places say
abbrev pub tally_reading : ℕ → List (List ℕ) → Reading TallyOp (List ℕ)
tally_reading layer ps = cond (table_ok 8 16 (slice_index_or ps 0 [])) (told layer (counters_of ps) (slots_in undo_at (record_place 16) ps 0 (table_slots 8 16 (slice_index_or ps 0 [])))) (damaged layer 0)

-- the place of a counter, and that place with an amount added to the counter
abbrev pub counter_place : ℕ → ℕ
counter_place c = 129 + c / 16

abbrev pub value_at : List (List ℕ) → ℕ → ℕ
value_at ps c = slice_index (reading_counters (slice_index_or ps (counter_place c) [])) (c % 16)

abbrev pub added : List (List ℕ) → ℕ → ℕ → List ℕ
added ps c n = written_at (c % 16) ((value_at ps c + n) % 2 ^ 32) (slice_index_or ps (counter_place c) [])

-- the writes of an add on slot t, which has k records, and of taking back record k of it
abbrev pub add_writes : List (List ℕ) → ℕ → ℕ → ℕ → ℕ → List Write
add_writes ps t k c n =
    (0, slice_set (slice_index_or ps 0 []) t (slot_byte (Running (k + 1))))
    ∷ (record_place 16 t k, record_bytes (tally_code (Add c (inverse_amount n))))
    ∷ (counter_place c, added ps c n)
    ∷ []

abbrev pub undo_writes : List (List ℕ) → ℕ → ℕ → ℕ → ℕ → List Write
undo_writes ps t k c n = (0, slice_set (slice_index_or ps 0 []) t (slot_byte (Running k))) ∷ (counter_place c, added ps c n) ∷ []

-- a store that has room for the level. A premise of each promise, and no fact of a type: the level owns no store, and the store that a call is passed may be any.
pub record Roomy (m : Content) : Type 0 where
  pub stage : m.stage ≡ idle
  pub places : 131 ≤ length (shown m)
  pub limit : 3 ≤ m.shape.limit

-- a store in use by nobody else, with places and puts enough for the level, says what its places say; recovery's damage below comes first
abbrev pub at_rest : ℕ → Stage → Reading TallyOp (List ℕ) → Reading TallyOp (List ℕ)
at_rest layer idle r = r
at_rest layer (grouped w p) r = damaged layer 0
at_rest layer (dark f) r = read_on f r
at_rest layer (due f) r = read_on f r

abbrev pub reading_of : ℕ → Content → Reading TallyOp (List ℕ)
reading_of layer m = cond (nat_le 131 (length (shown m)) && nat_le 3 m.shape.limit) (at_rest layer m.stage (tally_reading layer (shown m))) (damaged layer 0)

abbrev pub standing : ℕ → Content → Standing TallyOp (List ℕ)
standing layer m = record { below = below_of m.stage; reading = reading_of layer m }
