use Rattle.std.proofs.Common.{◌≡◌, true, length}
use Rattle.journal.proofs.Loading.{Loading}
use Rattle.journal.proofs.restore.load_frames.Given as goal

abbrev pub invariant-loop-turn : goal.invariant-loop-turn
invariant-loop-turn g l = (length l.p-items ≡ length l.initial.p-items) × ((g.D.Disk.means l.disk).powered ≡ true → Loading (g.D.Disk.means l.disk).blocks l.initial.p-items l.p-items l.turn)
