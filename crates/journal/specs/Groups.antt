-- The pages that an open group has put, as writes to pages in the order of their first put.
use Rattle.std.specs.Prelude.{◌≡◌, ℕ, zero, suc, cond, List, [], ◌∷◌, Some, None, Ok, Err, Option, Result, ◌==◌, ◌≢◌}
use Rattle.disk.specs.Runs.{Write}

-- the first write of the page is at i
abbrev pub First : ℕ → List Write → ℕ → Type 0
First page [] i = ⊥
First page (w ∷ ws) zero = w.0 ≡ page
First page (w ∷ ws) (suc i) = (w.0 ≢ page) × First page ws i

abbrev pub Absent : ℕ → List Write → Type 0
Absent page [] = Unit {0}
Absent page (w ∷ ws) = (w.0 ≢ page) × Absent page ws

-- what a group has put to a page
abbrev pub looked_up : ℕ → List Write → Option (List ℕ)
looked_up n [] = None
looked_up n (w ∷ ws) = cond (w.0 == n) (Some w.1) (looked_up n ws)

-- one put more: a page that was put before keeps its place
abbrev pub remembered : ℕ → List ℕ → List Write → List Write
remembered n v [] = (n, v) ∷ []
remembered n v (w ∷ ws) = cond (w.0 == n) ((n, v) ∷ ws) (w ∷ remembered n v ws)

-- what a reader read that could read, and left so
abbrev pub told : {E : Type 0} → Result Unit E → List ℕ → Option (List ℕ)
told (Ok x) ns = Some ns
told (Err e) ns = None
