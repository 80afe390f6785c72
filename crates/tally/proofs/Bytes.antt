-- The laws of counters and their bytes.
use Rattle.std.proofs.Common.{◌≡◌, ℕ, zero, suc, ◌+◌, ◌-◌, ◌*◌, ◌/◌, ◌%◌, ◌^◌, ◌<◌, ◌≤◌, List, [], ◌∷◌, ◌++◌, map, length, get_or, take, drop, sym, refl, ap, ◌∙◌, ap₂, arith, length-append}
use Rattle.std.specs.List.{AllByRecursion}
use Rattle.std.specs.Int.{w32, from_le_bytes}
use Rattle.std.specs.Simd.{first_chunks}
use Rattle.std.proofs.lemmas.Nat.{from_le_bytes-to_le_bytes_4, le_bytes_4}
use Rattle.std.proofs.lemmas.List.{get_or-map}
use Rattle.std.proofs.ByRecursion.{All-append}
use Rattle.tally.specs.CounterBytes.{counter_bytes, counters_bytes, counter_of, counter_from, reading_counters, with_counter, CountersReadBack, BytesReadBack, OneCounterChanges, ItsBytesChangeOne, CountersFit, ReadInParts, PlacesAreGood, CounterLaws}

-- one counter and its four bytes
pub counter_back : (n : ℕ) → n < 2 ^ 32 → counter_of (n % 256) (n / 256 % 256) (n / 65536 % 256) (n / 16777216 % 256) ≡ n
counter_back n h = from_le_bytes-to_le_bytes_4 n h

each_small : (a b c d : ℕ) → a < 256 → b < 256 → c < 256 → d < 256 → (i : ℕ) → get_or (a ∷ b ∷ c ∷ d ∷ []) i 0 < 256
each_small a b c d p q r s zero = p
each_small a b c d p q r s (suc zero) = q
each_small a b c d p q r s (suc (suc zero)) = r
each_small a b c d p q r s (suc (suc (suc zero))) = s
each_small a b c d p q r s (suc (suc (suc (suc i)))) = omega arith

pub bytes_back : (a b c d : ℕ) → a < 256 → b < 256 → c < 256 → d < 256 → counter_bytes (counter_of a b c d) ≡ a ∷ b ∷ c ∷ d ∷ []
bytes_back a b c d p q r s = le_bytes_4 (a ∷ b ∷ c ∷ d ∷ []) (counter_of a b c d) refl (each_small a b c d p q r s) refl

counter_fits : (a b c d : ℕ) → a < 256 → b < 256 → c < 256 → d < 256 → counter_of a b c d < 2 ^ 32
counter_fits a b c d p q r s = omega arith

-- four bytes on
step_first : (i a b c d : ℕ) (bs : List ℕ) → get_or (a ∷ b ∷ c ∷ d ∷ bs) (4 * suc i) 0 ≡ get_or bs (4 * i) 0
step_first i a b c d bs =
    let e : 4 * suc i ≡ suc (suc (suc (suc (4 * i)))) = omega arith in
    ap (λ j. get_or (a ∷ b ∷ c ∷ d ∷ bs) j 0) e

step_at : (i k a b c d : ℕ) (bs : List ℕ) → get_or (a ∷ b ∷ c ∷ d ∷ bs) (4 * suc i + k) 0 ≡ get_or bs (4 * i + k) 0
step_at i k a b c d bs =
    let e : 4 * suc i + k ≡ suc (suc (suc (suc (4 * i + k)))) = omega arith in
    ap (λ j. get_or (a ∷ b ∷ c ∷ d ∷ bs) j 0) e

step_with : (i v a b c d : ℕ) (bs : List ℕ) → with_counter (suc i) v (a ∷ b ∷ c ∷ d ∷ bs) ≡ a ∷ b ∷ c ∷ d ∷ with_counter i v bs
step_with i v a b c d bs =
    let e : 4 * suc i ≡ suc (suc (suc (suc (4 * i)))) = omega arith in
    ap (λ j. take j (a ∷ b ∷ c ∷ d ∷ bs) ++ (counter_bytes v ++ drop 4 (drop j (a ∷ b ∷ c ∷ d ∷ bs)))) e

pub counters_read_back : CountersReadBack
counters_read_back [] g = refl
counters_read_back (n ∷ ns) g = ap₂ ◌∷◌ (counter_back n g.0) (counters_read_back ns g.1)

pub bytes_read_back : BytesReadBack
bytes_read_back k [] e g = refl
bytes_read_back k (a ∷ []) e g = absurd (omega arith)
bytes_read_back k (a ∷ b ∷ []) e g = absurd (omega arith)
bytes_read_back k (a ∷ b ∷ c ∷ []) e g = absurd (omega arith)
bytes_read_back k (a ∷ b ∷ c ∷ d ∷ bs) e g =
    let l : length bs ≡ 4 * (k - 1) = omega arith in
    ap₂ ◌++◌ (bytes_back a b c d g.0 g.1.0 g.1.1.0 g.1.1.1.0) (bytes_read_back (k - 1) bs l g.1.1.1.1)

pub one_counter_changes : OneCounterChanges
one_counter_changes [] i v h = absurd (omega arith)
one_counter_changes (n ∷ ns) zero v h = refl
one_counter_changes (n ∷ ns) (suc i) v h =
    let l : i < length ns = omega arith in
    let rest = one_counter_changes ns i v l in
    ap (λ t. counter_bytes n ++ t) rest ∙ sym (step_with i v (n % 256) (n / 256 % 256) (n / 65536 % 256) (n / 16777216 % 256) (counters_bytes ns))

pub its_bytes_change_one : ItsBytesChangeOne
its_bytes_change_one [] i v h g = absurd (omega arith)
its_bytes_change_one (a ∷ []) i v h g = absurd (omega arith)
its_bytes_change_one (a ∷ b ∷ []) i v h g = absurd (omega arith)
its_bytes_change_one (a ∷ b ∷ c ∷ []) i v h g = absurd (omega arith)
its_bytes_change_one (a ∷ b ∷ c ∷ d ∷ bs) zero v h g = ap (λ n. n ∷ reading_counters bs) (counter_back v g)
its_bytes_change_one (a ∷ b ∷ c ∷ d ∷ bs) (suc i) v h g =
    let l : 4 * i + 4 ≤ length bs = omega arith in
    ap reading_counters (step_with i v a b c d bs) ∙ ap (λ t. counter_of a b c d ∷ t) (its_bytes_change_one bs i v l g)

pub counters_fit : CountersFit
counters_fit [] g = tt
counters_fit (a ∷ []) g = tt
counters_fit (a ∷ b ∷ []) g = tt
counters_fit (a ∷ b ∷ c ∷ []) g = tt
counters_fit (a ∷ b ∷ c ∷ d ∷ bs) g = (counter_fits a b c d g.0 g.1.0 g.1.1.0 g.1.1.1.0, counters_fit bs g.1.1.1.1)

bytes_long : (ns : List ℕ) → length (counters_bytes ns) ≡ 4 * length ns
bytes_long [] = refl
bytes_long (n ∷ ns) = let e = bytes_long ns in omega arith

bytes_small : (ns : List ℕ) → AllByRecursion (λ b. b < 256) (counters_bytes ns)
bytes_small [] = tt
bytes_small (n ∷ ns) = (omega arith, (omega arith, (omega arith, (omega arith, bytes_small ns))))

pub read_in_parts : ReadInParts
read_in_parts k [] ys e = (omega arith, refl)
read_in_parts k (a ∷ []) ys e = absurd (omega arith)
read_in_parts k (a ∷ b ∷ []) ys e = absurd (omega arith)
read_in_parts k (a ∷ b ∷ c ∷ []) ys e = absurd (omega arith)
read_in_parts k (a ∷ b ∷ c ∷ d ∷ xs) ys e =
    let l : length xs ≡ 4 * (k - 1) = omega arith in
    let rest = read_in_parts (k - 1) xs ys l in
    let long = rest.0 in
    (omega arith, ap (λ t. counter_of a b c d ∷ t) rest.1)

pub places_are_good : PlacesAreGood
places_are_good xs ys p q g h =
    let m = (read_in_parts 16 xs [] p).0 in
    let n = (read_in_parts 16 ys [] q).0 in
    (simp length-append (omega arith), All-append (λ n. n < 2 ^ 32) (reading_counters xs) (reading_counters ys) (counters_fit xs g) (counters_fit ys h))

pub counter_laws : CounterLaws
counter_laws = record {
  counters_read_back = counters_read_back;
  bytes_read_back = bytes_read_back;
  one_counter_changes = one_counter_changes;
  its_bytes_change_one = its_bytes_change_one;
  counters_fit = counters_fit;
  bytes_fit = λ ns. (bytes_long ns, bytes_small ns);
  read_in_parts = read_in_parts;
  places_are_good = places_are_good;
  zeros_are_empty = refl;
  zeros_are_zeros = (refl, refl);
}

-- counter i is the one whose lowest byte is byte 4 * i
pub counter_is : (bs : List ℕ) (i : ℕ) → 4 * i + 4 ≤ length bs → get_or (reading_counters bs) i 0 ≡ counter_from bs (4 * i)
counter_is [] i h = absurd (omega arith)
counter_is (a ∷ []) i h = absurd (omega arith)
counter_is (a ∷ b ∷ []) i h = absurd (omega arith)
counter_is (a ∷ b ∷ c ∷ []) i h = absurd (omega arith)
counter_is (a ∷ b ∷ c ∷ d ∷ bs) zero h = refl
counter_is (a ∷ b ∷ c ∷ d ∷ bs) (suc i) h =
    let l : 4 * i + 4 ≤ length bs = omega arith in
    let rest = counter_is bs i l in
    let e₀ = step_first i a b c d bs in
    let e₁ = step_at i 1 a b c d bs in
    let e₂ = step_at i 2 a b c d bs in
    let e₃ = step_at i 3 a b c d bs in
    cc

-- whole counters, read four bytes at a time
pub chunks_read : (k : ℕ) (bs : List ℕ) → length bs ≡ 4 * k → map (from_le_bytes w32) (first_chunks 4 k bs) ≡ reading_counters bs
chunks_read zero [] e = refl
chunks_read zero (b ∷ bs) e = absurd (omega arith)
chunks_read (suc k) [] e = absurd (omega arith)
chunks_read (suc k) (a ∷ []) e = absurd (omega arith)
chunks_read (suc k) (a ∷ b ∷ []) e = absurd (omega arith)
chunks_read (suc k) (a ∷ b ∷ c ∷ []) e = absurd (omega arith)
chunks_read (suc k) (a ∷ b ∷ c ∷ d ∷ bs) e =
    let l : length bs ≡ 4 * k = omega arith in
    ap₂ ◌∷◌ (omega arith) (chunks_read k bs l)

chunks_long : (k : ℕ) (bs : List ℕ) → length (first_chunks 4 k bs) ≡ k
chunks_long zero bs = refl
chunks_long (suc k) bs = ap suc (chunks_long k (drop 4 bs))

-- and counter i of them
pub chunk_at : (k : ℕ) (bs : List ℕ) (i : ℕ) → length bs ≡ 4 * k → i < k → from_le_bytes w32 (get_or (first_chunks 4 k bs) i []) ≡ get_or (reading_counters bs) i 0
chunk_at k bs i e h = sym (get_or-map (from_le_bytes w32) (first_chunks 4 k bs) i [] 0 (omega (arith, chunks_long k bs))) ∙ ap (λ l. get_or l i 0) (chunks_read k bs e)
