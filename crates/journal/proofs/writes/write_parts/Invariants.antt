use Rattle.std.proofs.Common.{take, Ok}
use Rattle.disk.proofs.Runs.{Ran}
use Rattle.journal.specs.Layout.{all_writes}
use Rattle.journal.proofs.writes.write_parts.Given as goal

abbrev pub invariant-loop-part : goal.invariant-loop-part
invariant-loop-part g l = Ran (all_writes (take l.part-index l.parts) l.group) (g.D.Disk.means l.initial.disk) (g.D.Disk.means l.disk) (Ok tt)
