-- The round trip of a number through its bytes, and how many these are. Assumes nothing.
use Rattle.std.proofs.Common.{◌≡◌, ℕ, zero, suc, ◌+◌, ◌-◌, ◌*◌, ◌/◌, ◌%◌, ◌^◌, ◌<◌, ◌≤◌, eqb, ltb, leb as leb≤, List, [], ◌∷◌, ◌++◌, length, Some, None, Option, sym, refl, ap, ◌∙◌, subst, ⊎_elim, arith}
use Rattle.std.proofs.lemmas.Bool.Decides.{nat_tests}
use Rattle.std.proofs.lemmas.Bool.{cond-true, cond-false, cond_both, lt-ltb, le-ltb, le-leb, lt-leb, ne_eqb, eq-eqb, cases_lt, cases_eq}
use Rattle.std.proofs.lemmas.Option.{none-some}
use Rattle.std.specs.List.{AllByRecursion}
use Rattle.number.specs.Bytes.{Sound, Exact}
use Rattle.number.specs.Leb.{lebs, leb, groups_of, carried, reading_in, reading, room}

pub lebs_small : (k n : ℕ) → n < 128 → lebs k n ≡ n ∷ []
unfolding lebs
lebs_small zero n h = refl
lebs_small (suc k) n h = cond-true (ltb n 128) _ _ (lt-ltb n 128 h)

pub lebs_large : (k n : ℕ) → 128 ≤ n → lebs (suc k) n ≡ (128 + n % 128) ∷ lebs k (n / 128)
unfolding lebs
lebs_large k n h = cond-false (ltb n 128) _ _ (le-ltb n 128 h)

-- what one byte more reads
pub reads_last : (k b : ℕ) (bs : List ℕ) → b < 128 → reading_in (suc k) (b ∷ bs) ≡ Some (b, bs)
unfolding reading_in
reads_last k b bs h = cond-true (ltb b 128) _ _ (lt-ltb b 128 h)

pub reads_more : (k b : ℕ) (bs : List ℕ) → 128 ≤ b → reading_in (suc k) (b ∷ bs) ≡ carried b (reading_in k bs)
unfolding reading_in
reads_more k b bs h = cond-false (ltb b 128) _ _ (le-ltb b 128 h)

pub carries : (b n : ℕ) (rest : List ℕ) → 0 < n → carried b (Some (n, rest)) ≡ Some (b - 128 + 128 * n, rest)
carries b n rest h = cond-false (eqb n 0) _ _ (ne_eqb n 0 (λ e. omega arith))

pub reading_lebs : (k n : ℕ) (rest : List ℕ) → n < room k → reading_in k (lebs k n ++ rest) ≡ Some (n, rest)
unfolding reading_in lebs
reading_lebs zero n rest h = cond-true (leb≤ n 15) _ _ (le-leb n 15 (omega arith))
reading_lebs (suc k) n rest h =
    ⊎_elim
    (λ lo. ap (λ l. reading_in (suc k) (l ++ rest)) (lebs_small (suc k) n lo) ∙ reads_last k n rest lo)
    (λ hi.
    let whole : 128 + n % 128 - 128 + 128 * (n / 128) ≡ n = omega arith in
    ap (λ l. reading_in (suc k) (l ++ rest)) (lebs_large k n hi)
    ∙ reads_more k (128 + n % 128) (lebs k (n / 128) ++ rest) (omega arith)
    ∙ ap (carried (128 + n % 128)) (reading_lebs k (n / 128) rest (omega arith))
    ∙ carries (128 + n % 128) (n / 128) rest (omega arith)
    ∙ ap (λ x. Some (x, rest)) whole)
    (cases_lt n 128)

-- what is written is read again, whatever follows it
pub reading_leb : (n : ℕ) (rest : List ℕ) → n < 2 ^ 32 → reading (leb n ++ rest) ≡ Some (n, rest)
unfolding reading leb
reading_leb n rest h = reading_lebs 4 n rest h

room_above : (k : ℕ) → 16 ≤ room k
room_above zero = omega arith
room_above (suc k) = omega (arith, room_above k)

-- a byte below 128 is a number by itself
pub sound_last : (k b : ℕ) (bs : List ℕ) → b < 128 → (b < room (suc k)) × (b ∷ bs ≡ lebs (suc k) b ++ bs)
sound_last k b bs h = (omega (arith, room_above k), sym (ap (λ l. l ++ bs) (lebs_small (suc k) b h)))

-- one byte more before what is read
pub sound_more : (j b m : ℕ) (bs after : List ℕ) → 128 ≤ b → b < 256 → 0 < m → m < room j → bs ≡ lebs j m ++ after
    → (b - 128 + 128 * m < room (suc j)) × (b ∷ bs ≡ lebs (suc j) (b - 128 + 128 * m) ++ after)
sound_more j b m bs after lo hi some lt e =
    let n = b - 128 + 128 * m in
    let q : n / 128 ≡ m = omega arith in
    let r : 128 + n % 128 ≡ b = omega arith in
    (omega arith, sym (ap (λ l. l ++ after) (lebs_large j n (omega arith)) ∙ ap (λ x. x ∷ (lebs j (n / 128) ++ after)) r ∙ ap (λ x. b ∷ (lebs j x ++ after)) q ∙ ap (λ l. b ∷ l) (sym e)))

lebs_short : (k n : ℕ) → length (lebs k n) ≤ k + 1
unfolding lebs
lebs_short zero n = omega arith
lebs_short (suc k) n = cond_both (ltb n 128) (n ∷ []) ((128 + n % 128) ∷ lebs k (n / 128)) (λ l. length l ≤ suc k + 1) (λ e. omega arith) (λ e. omega (arith, lebs_short k (n / 128)))

pub lebs_some : (k n : ℕ) → 0 < length (lebs k n)
unfolding lebs
lebs_some zero n = omega arith
lebs_some (suc k) n = cond_both (ltb n 128) (n ∷ []) ((128 + n % 128) ∷ lebs k (n / 128)) (λ l. 0 < length l) (λ e. omega arith) (λ e. omega arith)

pub leb_short : (n : ℕ) → length (leb n) ≤ 5
unfolding leb
leb_short n = lebs_short 4 n

pub leb_some : (n : ℕ) → 0 < length (leb n)
unfolding leb
leb_some n = lebs_some 4 n

-- by how large the number is: seven bits more for each byte more
pub length_leb : (n : ℕ) → length (leb n) ≡ groups_of n
unfolding leb lebs
length_leb n = grind (arith, nat_tests)

-- a reader that finds again what is written, and whose answers are sound, answers exactly
pub exact_from : {A : Type 0} (fit : A → Type 0) (bytes : A → List ℕ) (read : List ℕ → Option (A × List ℕ))
    → ((x : A) (rest : List ℕ) → fit x → read (bytes x ++ rest) ≡ Some (x, rest))
    → (bs : List ℕ) (o : Option (A × List ℕ)) → o ≡ read bs → Sound fit bytes bs o → Exact fit bytes bs o
exact_from fit bytes read again bs None value sound = λ x rest f e. none-some (x, rest) (value ∙ ap read e ∙ again x rest f)
exact_from fit bytes read again bs (Some (x, rest)) value sound = sound

-- the parts of what is read
same_read : (b n : ℕ) (bs rest : List ℕ) → ◌≡◌ {A = Option (ℕ × List ℕ)} (Some (b, bs)) (Some (n, rest)) → (b ≡ n) × (bs ≡ rest)
same_read b n bs rest e =
    let p : ◌≡◌ {A = ℕ × List ℕ} (b, bs) (n, rest) = cc in
    (ap (λ (q : ℕ × List ℕ). q.0) p, ap (λ (q : ℕ × List ℕ). q.1) p)

-- one byte more before what was read, from what it was read as
carried_from : (k b n : ℕ) (bs rest : List ℕ) → 128 ≤ b → b < 256 → (o : Option (ℕ × List ℕ))
    → ((m : ℕ) (after : List ℕ) → o ≡ Some (m, after) → (m < room k) × (bs ≡ lebs k m ++ after))
    → carried b o ≡ Some (n, rest) → (n < room (suc k)) × (b ∷ bs ≡ lebs (suc k) n ++ rest)
carried_from k b n bs rest lo hi None inner e = absurd (none-some (n, rest) e)
carried_from k b n bs rest lo hi (Some (m, after)) inner e =
    ⊎_elim
    (λ z. absurd (none-some (n, rest) (sym (cond-true (eqb m 0) None (Some (b - 128 + 128 * m, after)) (eq-eqb m 0 z)) ∙ e)))
    (λ z.
    let up : 0 < m = omega arith in
    let same = same_read (b - 128 + 128 * m) n after rest (sym (carries b m after up) ∙ e) in
    let was = inner m after refl in
    let got = sound_more k b m bs after lo hi up was.0 was.1 in
    (subst (λ x. x < room (suc k)) same.0 got.0, got.1 ∙ ap (λ x. lebs (suc k) x ++ after) same.0 ∙ ap (λ l. lebs (suc k) n ++ l) same.1))
    (cases_eq m 0)

-- what is read of bytes is a number whose own bytes stand first
from_reading_in : (k : ℕ) (bs : List ℕ) → AllByRecursion (λ b. b < 256) bs → (n : ℕ) (rest : List ℕ) → reading_in k bs ≡ Some (n, rest)
    → (n < room k) × (bs ≡ lebs k n ++ rest)
unfolding reading_in lebs
from_reading_in zero [] all n rest e = absurd (none-some (n, rest) e)
from_reading_in (suc k) [] all n rest e = absurd (none-some (n, rest) e)
from_reading_in zero (b ∷ bs) all n rest e =
    ⊎_elim
    (λ lo.
    let same = same_read b n bs rest (sym (cond-true (leb≤ b 15) (Some (b, bs)) None (le-leb b 15 (omega arith))) ∙ e) in
    (omega (arith, same.0), ap (λ x. x ∷ bs) same.0 ∙ ap (λ l. n ∷ l) same.1))
    (λ hi. absurd (none-some (n, rest) (sym (cond-false (leb≤ b 15) (Some (b, bs)) None (lt-leb b 15 hi)) ∙ e)))
    (cases_lt b 16)
from_reading_in (suc k) (b ∷ bs) all n rest e =
    ⊎_elim
    (λ lo.
    let same = same_read b n bs rest (sym (reads_last k b bs lo) ∙ e) in
    let got = sound_last k b bs lo in
    (subst (λ x. x < room (suc k)) same.0 got.0, got.1 ∙ ap (λ x. lebs (suc k) x ++ bs) same.0 ∙ ap (λ l. lebs (suc k) n ++ l) same.1))
    (λ hi. carried_from k b n bs rest hi all.0 (reading_in k bs) (λ m after f. from_reading_in k bs all.1 m after f) (sym (reads_more k b bs hi) ∙ e))
    (cases_lt b 128)

pub from_reading : (bs : List ℕ) → AllByRecursion (λ b. b < 256) bs → (n : ℕ) (rest : List ℕ) → reading bs ≡ Some (n, rest)
    → (n < 2 ^ 32) × (bs ≡ leb n ++ rest)
unfolding reading leb
from_reading bs all n rest e = from_reading_in 4 bs all n rest e
