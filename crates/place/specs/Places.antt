-- Places: the parts of 64 bytes of a store's cells, one after the other.
use Rattle.std.specs.Prelude.{ℕ, zero, suc, ◌*◌, ◌/◌, ◌%◌, cond, List, [], ◌∷◌, ◌++◌, take, drop, ◌==◌}
use Rattle.std.specs.List.{flat_map}
use Rattle.store.specs.Meaning.{Cells}

-- how many places a cell of that size has: four of 256 bytes, one of 64
abbrev pub fold : ℕ → ℕ
fold z = cond (z == 256) 4 1

-- the first k parts of 64 bytes
abbrev pub parts : ℕ → List ℕ → List (List ℕ)
parts zero v = []
parts (suc k) v = take 64 v ∷ parts k (drop 64 v)

-- the places of cells of z bytes
abbrev pub places : ℕ → Cells → List (List ℕ)
places z c = flat_map (parts (fold z)) c

-- the cell of place p, and the byte of it at which the place begins
abbrev pub cell_of : ℕ → ℕ → ℕ
cell_of z p = p / fold z

abbrev pub start_of : ℕ → ℕ → ℕ
start_of z p = 64 * (p % fold z)

-- a cell with the 64 bytes from there on replaced
abbrev pub replaced : ℕ → List ℕ → List ℕ → List ℕ
replaced a u v = take a v ++ (u ++ drop 64 (drop a v))
