-- The undo records of a running slot of the tally level.
use Rattle.std.specs.Prelude.{◌≡◌, ℕ}
use Rattle.level.specs.declared.turns.Plan.{Plan}
use Rattle.level.specs.declared.running.RunningSlot.{RunningSlot}
use Rattle.tally.specs.declared.entry.Entry.{Entry}

-- eight slots of sixteen records
abbrev pub tally_plan : ℕ → Plan
tally_plan l = record { layer = l; slots = 8; records = 16 }

pub record OfTally (p : Plan) : Type 0 where
  pub slots : p.slots ≡ 8
  pub records : p.records ≡ 16

-- record k of the slot
pub record EntryOf (found : RunningSlot) (k : ℕ) (e : Entry) : Type 0 where
  pub layer : e.layer ≡ found.plan.layer
  pub table : e.found.table ≡ found.found.table
  pub slot : e.found.number ≡ found.found.number
  pub index : e.index ≡ k
