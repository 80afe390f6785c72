-- A group's pages as writes.
use Rattle.std.specs.Prelude.{List, [], ◌∷◌}
use Rattle.disk.specs.Runs.{Write}
use Rattle.journal.specs.declared.group.Pending.{Pending}

abbrev pub entries : List Pending → List Write
entries [] = []
entries (p ∷ ps) = (p.page, p.bytes) ∷ entries ps
