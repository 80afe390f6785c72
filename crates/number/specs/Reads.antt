-- What the reader of a number promises of each byte that it goes on by.
use Rattle.std.specs.Prelude.{◌≡◌, ℕ, ◌-◌, ◌<◌, ◌≤◌, List, Option, Some, None}
use Rattle.number.specs.declared.Group.{Group}
use Rattle.number.specs.declared.Group.TheVariants.{Last, More}
use Rattle.number.specs.Leb.{lebs, reading_in, room}
use Rattle.number.specs.Bytes.{Sound}

-- o is what stands before the rest of bs, read in at most k + 1 bytes
pub record Got (k : ℕ) (bs : List ℕ) (o : Option (ℕ × List ℕ)) : Type 0 where
  pub value : o ≡ reading_in k bs
  pub sound : Sound (λ n. n < room k) (lebs k) bs o

-- what the byte b is, where at most k may come after it; None where it has bits past the 32nd
abbrev pub Grouped : ℕ → ℕ → Option Group → Type 0
Grouped k b (Some (Last n)) = (n ≡ b) × (b < 128) × (k ≡ 0 → b ≤ 15)
Grouped k b (Some (More low)) = (low ≡ b - 128) × (128 ≤ b) × (0 < k)
Grouped k b None = (15 < b) × (k ≡ 0)
