use Rattle.std.proofs.Common.{slice_set, ap₂}
use Rattle.level.proofs.Tabled.{slot_set_byte}
use Rattle.level.proofs.slots.set_slot.Goals as goal

pub returns-then-at-lt64-clause-kept : goal.returns-then-at-lt64-clause-kept
returns-then-at-lt64-clause-kept c = slot_set_byte c.args.t c.args.slot c.args.bytes.now _ (ap₂ (slice_set c.args.bytes.now) c.from-at.ensures c.from.ensures.value)
