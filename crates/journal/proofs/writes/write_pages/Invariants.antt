use Rattle.disk.proofs.Runs.{Underway}
use Rattle.journal.specs.Layout.{writes_to}
use Rattle.journal.specs.Entries.{entries}
use Rattle.journal.proofs.writes.write_pages.Given as goal

abbrev pub invariant-loop-turn : goal.invariant-loop-turn
invariant-loop-turn g l = Underway (writes_to l.side 0 (entries l.p-items)) (g.D.Disk.means l.initial.disk) l.turn (g.D.Disk.means l.disk)
