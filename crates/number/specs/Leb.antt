-- Numbers below 2^32 as bytes, unsigned LEB128 in the shortest form: seven bits to a byte, the lowest first,
-- and 128 added to each byte that another follows.
use Rattle.std.specs.Prelude.{ℕ, zero, suc, ◌+◌, ◌-◌, ◌*◌, ◌/◌, ◌%◌, cond, leb as leb≤, List, [], ◌∷◌, ◌++◌, Some, None, Option, ◌==◌, nat_lt}

-- n in at most k + 1 bytes
unfoldable pub lebs : ℕ → ℕ → List ℕ
lebs zero n = n ∷ []
lebs (suc k) n = cond (nat_lt n 128) (n ∷ []) ((128 + n % 128) ∷ lebs k (n / 128))

-- n below 2^32: at most five bytes
unfoldable pub leb : ℕ → List ℕ
leb n = lebs 4 n

-- how many groups of seven bits hold n below 2^35: the length of `leb n`
abbrev pub groups_of : ℕ → ℕ
groups_of n = cond (nat_lt n 0x80) 1 (cond (nat_lt n 0x4000) 2 (cond (nat_lt n 0x20_0000) 3 (cond (nat_lt n 0x1000_0000) 4 5)))

-- the numbers one after the other
abbrev pub leb_all : List ℕ → List ℕ
leb_all [] = []
leb_all (n ∷ ns) = leb n ++ leb_all ns

-- a byte of 128 and more before the number n; where n is 0 the form is not the shortest
abbrev pub carried : ℕ → Option (ℕ × List ℕ) → Option (ℕ × List ℕ)
carried b None = None
carried b (Some (n, rest)) = cond (n == 0) None (Some (b - 128 + 128 * n, rest))

-- the number that the bytes begin with and what follows it, in at most k + 1 bytes, the last of four bits
unfoldable pub reading_in : ℕ → List ℕ → Option (ℕ × List ℕ)
reading_in k [] = None
reading_in zero (b ∷ bs) = cond (leb≤ b 15) (Some (b, bs)) None
reading_in (suc k) (b ∷ bs) = cond (nat_lt b 128) (Some (b, bs)) (carried b (reading_in k bs))

-- the number that the bytes begin with and what follows it; `reading (leb n ++ rest)` is n and rest
unfoldable pub reading : List ℕ → Option (ℕ × List ℕ)
reading bs = reading_in 4 bs

-- what fits k + 1 bytes of which the last has four bits: room 4 is 2^32
abbrev pub room : ℕ → ℕ
room zero = 16
room (suc k) = 128 * room k
