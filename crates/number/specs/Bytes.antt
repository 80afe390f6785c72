-- What a reader answers of the bytes before it, and what a writer leaves of a buffer, whatever is read and written.
use Rattle.std.specs.Prelude.{◌≡◌, ℕ, ◌+◌, ◌<◌, ◌≤◌, List, ◌++◌, length, take, drop, Some, None, Option, ◌≢◌}
use Rattle.std.specs.Borrow.{Bor}

-- an answer, with the bytes that are left in place of the reference to them
abbrev pub held : {A : Type 0} → Option (A × Bor (List ℕ)) → Option (A × List ℕ)
held None = None
held (Some (x, rest)) = Some (x, rest.now)

-- what is read is fit, and its bytes stand first
abbrev pub Sound : {A : Type 0} → (A → Type 0) → (A → List ℕ) → List ℕ → Option (A × List ℕ) → Type 0
Sound fit bytes bs None = Unit {0}
Sound fit bytes bs (Some (x, rest)) = fit x × (bs ≡ bytes x ++ rest)

-- the same, and nothing is read only where no fit thing's bytes stand first
abbrev pub Exact : {A : Type 0} → (A → Type 0) → (A → List ℕ) → List ℕ → Option (A × List ℕ) → Type 0
Exact {A} fit bytes bs None = (x : A) (rest : List ℕ) → fit x → bs ≢ bytes x ++ rest
Exact {A} fit bytes bs (Some (x, rest)) = fit x × (bs ≡ bytes x ++ rest)

-- the bytes bs stand in `new` from `at` on, up to the end that is answered, and all else is as in `old`;
-- or there is no room for them, and nothing is changed
abbrev pub Written : List ℕ → ℕ → List ℕ → List ℕ → Option ℕ → Type 0
Written bs at old new None = (length old < at + length bs) × (new ≡ old)
Written bs at old new (Some end) = (end ≡ at + length bs) × (end ≤ length old) × (new ≡ take at old ++ (bs ++ drop end old))
