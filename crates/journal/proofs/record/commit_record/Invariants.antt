use Rattle.std.proofs.Common.{◌≡◌, length}
use Rattle.journal.proofs.Writing.{Holds, so_far}
use Rattle.journal.proofs.record.commit_record.Given as goal

abbrev pub invariant-loop-p : goal.invariant-loop-p
invariant-loop-p l = (length l.record ≡ 256) × Holds (so_far l.p-items l.p-index) l.end l.record
