use Rattle.std.proofs.Common.{◌≤◌, length, take}
use Rattle.disk.specs.Runs.{stored, Inside}
use Rattle.store.specs.Meaning.{Content}
use Rattle.place.specs.Writes.{shown, listed, Begun}
use Rattle.place.proofs.put_all.Given as goal

abbrev pub invariant-loop-write : goal.invariant-loop-write
invariant-loop-write g l = (m : Content) → Begun m (shown m) 0 (g.S.Store.means l.initial.s) → Inside (length (shown m)) (listed g.C.Fill.bytes l.writes) → length l.writes ≤ m.shape.limit → Begun m (stored (take l.write-index (listed g.C.Fill.bytes l.writes)) (shown m)) l.write-index (g.S.Store.means l.s)
