-- The pages that writes are to.
use Rattle.std.specs.Prelude.{ℕ, List, [], ◌∷◌}
use Rattle.disk.specs.Runs.{Write}

-- the numbers of the pages written
abbrev pub names : List Write → List ℕ
names [] = []
names (w ∷ ws) = w.0 ∷ names ws
