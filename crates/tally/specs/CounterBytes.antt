-- Counters as bytes: four bytes each, lowest first, one counter after the other. Sixteen counters fill a place of 64 bytes.
use Rattle.std.specs.Prelude.{◌≡◌, ℕ, ◌+◌, ◌*◌, ◌/◌, ◌%◌, ◌^◌, ◌<◌, ◌≤◌, cond, List, [], ◌∷◌, ◌++◌, length, take, drop, replicate, Some, None, Option, nat_lt, slice_index, slice_set}
use Rattle.std.specs.List.{AllByRecursion}
use Rattle.tally.specs.Laws.{GoodCounters}

abbrev pub counter_bytes : ℕ → List ℕ
counter_bytes n = n % 256 ∷ n / 256 % 256 ∷ n / 65536 % 256 ∷ n / 16777216 % 256 ∷ []

abbrev pub counters_bytes : List ℕ → List ℕ
counters_bytes [] = []
counters_bytes (n ∷ ns) = counter_bytes n ++ counters_bytes ns

-- the counter that four bytes hold
abbrev pub counter_of : ℕ → ℕ → ℕ → ℕ → ℕ
counter_of a b c d = a + b * 256 + c * 65536 + d * 16777216

-- the counters that bytes hold, four by four
abbrev pub reading_counters : List ℕ → List ℕ
reading_counters [] = []
reading_counters (a ∷ []) = []
reading_counters (a ∷ b ∷ []) = []
reading_counters (a ∷ b ∷ c ∷ []) = []
reading_counters (a ∷ b ∷ c ∷ d ∷ bs) = counter_of a b c d ∷ reading_counters bs

-- the counter whose lowest byte is byte p
abbrev pub counter_from : List ℕ → ℕ → ℕ
counter_from bs p = counter_of (slice_index bs p) (slice_index bs (p + 1)) (slice_index bs (p + 2)) (slice_index bs (p + 3))

-- counter i of a place
abbrev pub counter_at : ℕ → List ℕ → Option ℕ
counter_at i bs = cond (nat_lt i 16) (Some (slice_index (reading_counters bs) i)) None

-- bytes in which the four of counter i are those of v, and the others as they were
abbrev pub with_counter : ℕ → ℕ → List ℕ → List ℕ
with_counter i v bs = take (4 * i) bs ++ (counter_bytes v ++ drop 4 (drop (4 * i) bs))

-- a place after a write of counter i, which has no effect beyond the last
abbrev pub written_at : ℕ → ℕ → List ℕ → List ℕ
written_at i v bs = cond (nat_lt i 16) (with_counter i v bs) bs

-- Laws.
abbrev pub CountersReadBack : Type 0
CountersReadBack = (ns : List ℕ) → AllByRecursion (λ n. n < 2 ^ 32) ns → reading_counters (counters_bytes ns) ≡ ns

abbrev pub BytesReadBack : Type 0
BytesReadBack = (k : ℕ) (bs : List ℕ) → length bs ≡ 4 * k → AllByRecursion (λ b. b < 256) bs → counters_bytes (reading_counters bs) ≡ bs

-- a counter that changes changes its four bytes alone
abbrev pub OneCounterChanges : Type 0
OneCounterChanges = (ns : List ℕ) (i v : ℕ) → i < length ns → counters_bytes (slice_set ns i v) ≡ with_counter i v (counters_bytes ns)

-- and its bytes alone change it
abbrev pub ItsBytesChangeOne : Type 0
ItsBytesChangeOne = (bs : List ℕ) (i v : ℕ) → 4 * i + 4 ≤ length bs → v < 2 ^ 32 → reading_counters (with_counter i v bs) ≡ slice_set (reading_counters bs) i v

-- what is read is below 2^32, and what is written are bytes
abbrev pub CountersFit : Type 0
CountersFit = (bs : List ℕ) → AllByRecursion (λ b. b < 256) bs → AllByRecursion (λ n. n < 2 ^ 32) (reading_counters bs)

abbrev pub BytesFit : Type 0
BytesFit = (ns : List ℕ) → (length (counters_bytes ns) ≡ 4 * length ns) × AllByRecursion (λ b. b < 256) (counters_bytes ns)

-- two runs of bytes, the first with whole counters
abbrev pub ReadInParts : Type 0
ReadInParts = (k : ℕ) (xs ys : List ℕ) → length xs ≡ 4 * k → (length (reading_counters xs) ≡ k) × (reading_counters (xs ++ ys) ≡ reading_counters xs ++ reading_counters ys)

-- two places hold the 32 counters of a good state
abbrev pub PlacesAreGood : Type 0
PlacesAreGood = (xs ys : List ℕ) → length xs ≡ 64 → length ys ≡ 64 → AllByRecursion (λ b. b < 256) xs → AllByRecursion (λ b. b < 256) ys → GoodCounters (reading_counters xs ++ reading_counters ys)

-- places of zeros hold the empty state
abbrev pub ZerosAreEmpty : Type 0
ZerosAreEmpty = reading_counters (replicate 64 0) ++ reading_counters (replicate 64 0) ≡ replicate 32 0

abbrev pub ZerosAreZeros : Type 0
ZerosAreZeros = (reading_counters (replicate 64 0) ≡ replicate 16 0) × (counters_bytes (replicate 16 0) ≡ replicate 64 0)

pub record CounterLaws : Type 0 where
  pub counters_read_back : CountersReadBack
  pub bytes_read_back : BytesReadBack
  pub one_counter_changes : OneCounterChanges
  pub its_bytes_change_one : ItsBytesChangeOne
  pub counters_fit : CountersFit
  pub bytes_fit : BytesFit
  pub read_in_parts : ReadInParts
  pub places_are_good : PlacesAreGood
  pub zeros_are_empty : ZerosAreEmpty
  pub zeros_are_zeros : ZerosAreZeros
