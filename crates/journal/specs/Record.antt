-- The commit record: a number k, 0 to 6, then k different page numbers, then zeros to the end of its block.
use Rattle.std.specs.Prelude.{◌≡◌, ℕ, zero, suc, ◌-◌, ◌<◌, ◌≤◌, Bool, true, false, cond, not, ◌&&◌, List, [], ◌∷◌, ◌++◌, length, replicate, Some, None, Option, ◌==◌, nat_le, nat_lt}
use Rattle.std.specs.List.{AllByRecursion}
use Rattle.number.specs.Leb.{leb_all, reading}
use Rattle.number.specs.Zeros.{zeros}

-- the record that names these pages
unfoldable pub record_of : List ℕ → List ℕ
record_of ps = leb_all (length ps ∷ ps) ++ replicate (256 - length (leb_all (length ps ∷ ps))) 0

-- the empty record
abbrev pub blank : List ℕ
blank = record_of []

abbrev pub member : ℕ → List ℕ → Bool
member n [] = false
member n (x ∷ xs) = cond (x == n) true (member n xs)

-- one page more: it is one of the store's, and was not named before
abbrev pub page_next : ℕ → List ℕ → Option (ℕ × List ℕ) → (List ℕ → List ℕ → Option (List ℕ)) → Option (List ℕ)
page_next cells seen None more = None
page_next cells seen (Some (p, rest)) more = cond (nat_lt p cells && not (member p seen)) (more (seen ++ p ∷ []) rest) None

-- k pages more, then zeros
unfoldable pub pages_from : ℕ → ℕ → List ℕ → List ℕ → Option (List ℕ)
pages_from zero cells seen bs = cond (zeros bs) (Some seen) None
pages_from (suc k) cells seen bs = page_next cells seen (reading bs) (pages_from k cells)

abbrev pub counted : ℕ → Option (ℕ × List ℕ) → Option (List ℕ)
counted cells None = None
counted cells (Some (k, rest)) = cond (nat_le k 6) (pages_from k cells [] rest) None

-- the pages that a block names as a commit record of a store of so many cells, or none where it is damaged
unfoldable pub named : ℕ → List ℕ → Option (List ℕ)
named cells bs = counted cells (reading bs)

-- different pages of a store of so many cells
abbrev pub Different : ℕ → List ℕ → Type 0
Different cells [] = Unit {0}
Different cells (p ∷ ps) = (p < cells) × (member p ps ≡ false) × Different cells ps

-- pages of a store of so many cells
abbrev pub Below : ℕ → List ℕ → Type 0
Below cells [] = Unit {0}
Below cells (p ∷ ps) = (p < cells) × Below cells ps

-- The law of the record: of 256 bytes exactly those are read that name at most six different pages of the store, then zeros; all else is damage.
pub record Exactly (cells : ℕ) : Type 0 where
  pub written : (ps : List ℕ) → length ps ≤ 6 → Different cells ps → named cells (record_of ps) ≡ Some ps
  pub read : (bs ps : List ℕ) → AllByRecursion (λ b. b < 256) bs → length bs ≡ 256 → named cells bs ≡ Some ps → (bs ≡ record_of ps) × (length ps ≤ 6) × Different cells ps
