-- The blocks of two banks: how many, which bytes each is, and what a write to one of them leaves.
use Rattle.std.specs.Prelude.{◌≡◌, ℕ, zero, suc, ◌+◌, ◌*◌, ◌/◌, ◌%◌, ◌<◌, ◌≤◌, cond, Bool, None, List, [], ◌∷◌, ◌++◌, length, take, drop, replicate, ◌==◌, ◌≢◌, bit_xor, slice_index_or, slice_set, refl}
use Rattle.std.proofs.Common.{sym, ap, ◌∙◌, ⊎_elim, arith}
use Rattle.std.specs.Int.Bits.{xor_assoc, xor_self, xor_zero_r}
use Rattle.std.proofs.lemmas.List.{map-append, take-map, drop-map, length-map}
use Rattle.std.proofs.lemmas.Bool.Decides.{nat_tests}
use Rattle.std.proofs.lemmas.Bool.{cases_eq}
use Rattle.disk.specs.Device.{Each, Formed}
use Rattle.disk.specs.Layout.{blocks_of, inverted, alternated, banks_of, device}
use Rattle.disk.specs.Sizes.{bank_refusal}
use Rattle.disk.specs.Blocks.{both, over, length_blocks, each_blocks, getD_blocks, set_blocks, blocks_replicate}

pub inverted_twice : (xs : List ℕ) → inverted (inverted xs) ≡ xs
unfolding inverted
inverted_twice [] = refl
inverted_twice (x ∷ xs) =
    both (λ y ys. y ∷ ys) (xor_assoc x 255 255 ∙ ap (bit_xor x) (xor_self 255) ∙ xor_zero_r x) (inverted_twice xs)

pub length_inverted : (xs : List ℕ) → length (inverted xs) ≡ length xs
unfolding inverted
length_inverted xs = length-map xs (λ b. bit_xor b 255)

pub inverted_part : (a : ℕ) (m : List ℕ) → inverted (take 256 (drop a m)) ≡ take 256 (drop a (inverted m))
unfolding inverted
inverted_part a m =
    sym (take-map (λ b. bit_xor b 255) 256 (drop a m)) ∙ ap (take 256) (sym (drop-map (λ b. bit_xor b 255) a m))

-- a block that is written inverted is read as it was
pub inverted_over : (a : ℕ) (v m : List ℕ) → inverted (over a (inverted v) m) ≡ over a v (inverted m)
unfolding inverted
inverted_over a v m =
    let f = λ (b : ℕ). bit_xor b 255 in
    map-append f (take a m) _
    ∙ both (λ x y. x ++ y) (sym (take-map f a m))
    (map-append f (inverted v) _ ∙ both (λ x y. x ++ y) (inverted_twice v) (sym (drop-map f (a + 256) m)))

pub inverted_replicate : (n : ℕ) → inverted (replicate n 255) ≡ replicate n 0
unfolding inverted
inverted_replicate zero = refl
inverted_replicate (suc n) = both (λ y ys. y ∷ ys) (xor_self 255) (inverted_replicate n)

pub length_alternated : (xs ys : List (List ℕ)) → length xs ≡ length ys → length (alternated xs ys) ≡ 2 * length xs
unfolding alternated
length_alternated [] ys h = refl
length_alternated (x ∷ xs) [] h = absurd (omega arith)
length_alternated (x ∷ xs) (y ∷ ys) h = omega (arith, length_alternated xs ys (omega arith))

pub each_alternated : (z : ℕ) (xs ys : List (List ℕ)) → Each z xs → Each z ys → Each z (alternated xs ys)
unfolding alternated
each_alternated z [] ys p q = tt
each_alternated z (x ∷ xs) [] p q = tt
each_alternated z (x ∷ xs) (y ∷ ys) p q = (p.0, (q.0, each_alternated z xs ys p.1 q.1))

pub getD_even : (k i : ℕ) (xs ys : List (List ℕ)) (d : List ℕ) → i ≡ 2 * k → length xs ≡ length ys → slice_index_or (alternated xs ys) i d ≡ slice_index_or xs k d
unfolding alternated
getD_even k i [] ys d e h = refl
getD_even k i (x ∷ xs) [] d e h = absurd (omega arith)
getD_even zero zero (x ∷ xs) (y ∷ ys) d e h = refl
getD_even zero (suc i) (x ∷ xs) (y ∷ ys) d e h = absurd (omega arith)
getD_even (suc k) zero (x ∷ xs) (y ∷ ys) d e h = absurd (omega arith)
getD_even (suc k) (suc zero) (x ∷ xs) (y ∷ ys) d e h = absurd (omega arith)
getD_even (suc k) (suc (suc i)) (x ∷ xs) (y ∷ ys) d e h = getD_even k i xs ys d (omega arith) (omega arith)

pub getD_odd : (k i : ℕ) (xs ys : List (List ℕ)) (d : List ℕ) → i ≡ 2 * k + 1 → length xs ≡ length ys → slice_index_or (alternated xs ys) i d ≡ slice_index_or ys k d
unfolding alternated
getD_odd k i [] [] d e h = refl
getD_odd k i [] (y ∷ ys) d e h = absurd (omega arith)
getD_odd k i (x ∷ xs) [] d e h = absurd (omega arith)
getD_odd k zero (x ∷ xs) (y ∷ ys) d e h = absurd (omega arith)
getD_odd zero (suc zero) (x ∷ xs) (y ∷ ys) d e h = refl
getD_odd zero (suc (suc i)) (x ∷ xs) (y ∷ ys) d e h = absurd (omega arith)
getD_odd (suc k) (suc zero) (x ∷ xs) (y ∷ ys) d e h = absurd (omega arith)
getD_odd (suc k) (suc (suc i)) (x ∷ xs) (y ∷ ys) d e h = getD_odd k i xs ys d (omega arith) (omega arith)

pub set_even : (k i : ℕ) (xs ys : List (List ℕ)) (v : List ℕ) → i ≡ 2 * k → length xs ≡ length ys → alternated (slice_set xs k v) ys ≡ slice_set (alternated xs ys) i v
unfolding alternated
set_even k i [] ys v e h = refl
set_even k i (x ∷ xs) [] v e h = absurd (omega arith)
set_even zero zero (x ∷ xs) (y ∷ ys) v e h = refl
set_even zero (suc i) (x ∷ xs) (y ∷ ys) v e h = absurd (omega arith)
set_even (suc k) zero (x ∷ xs) (y ∷ ys) v e h = absurd (omega arith)
set_even (suc k) (suc zero) (x ∷ xs) (y ∷ ys) v e h = absurd (omega arith)
set_even (suc k) (suc (suc i)) (x ∷ xs) (y ∷ ys) v e h = ap (λ l. x ∷ y ∷ l) (set_even k i xs ys v (omega arith) (omega arith))

pub set_odd : (k i : ℕ) (xs ys : List (List ℕ)) (v : List ℕ) → i ≡ 2 * k + 1 → length xs ≡ length ys → alternated xs (slice_set ys k v) ≡ slice_set (alternated xs ys) i v
unfolding alternated
set_odd k i [] ys v e h = refl
set_odd k i (x ∷ xs) [] v e h = absurd (omega arith)
set_odd k zero (x ∷ xs) (y ∷ ys) v e h = absurd (omega arith)
set_odd zero (suc zero) (x ∷ xs) (y ∷ ys) v e h = refl
set_odd zero (suc (suc i)) (x ∷ xs) (y ∷ ys) v e h = absurd (omega arith)
set_odd (suc k) (suc zero) (x ∷ xs) (y ∷ ys) v e h = absurd (omega arith)
set_odd (suc k) (suc (suc i)) (x ∷ xs) (y ∷ ys) v e h = ap (λ l. x ∷ y ∷ l) (set_odd k i xs ys v (omega arith) (omega arith))

pub alternated_replicate : (n : ℕ) (b : List ℕ) → alternated (replicate n b) (replicate n b) ≡ replicate (2 * n) b
unfolding alternated
alternated_replicate zero b = refl
alternated_replicate (suc n) b =
    let to : suc (suc (2 * n)) ≡ 2 * suc n = omega arith in
    ap (λ l. b ∷ b ∷ l) (alternated_replicate n b) ∙ ap (λ i. replicate i b) to

-- the lists of blocks of the two banks are equally long
same_count : (h : ℕ) (f s : List ℕ) → length (blocks_of h f) ≡ length (blocks_of h s)
same_count h f s = length_blocks h f ∙ sym (length_blocks h s)

pub length_banks : (h : ℕ) (f s : List ℕ) → length (banks_of h f s) ≡ 2 * h
length_banks h f s =
    length_alternated (blocks_of h (inverted f)) (blocks_of h (inverted s)) (same_count h (inverted f) (inverted s))
    ∙ ap (λ n. 2 * n) (length_blocks h (inverted f))

pub each_banks : (h : ℕ) (f s : List ℕ) → length f ≡ 256 * h → length s ≡ 256 * h → Each 256 (banks_of h f s)
each_banks h f s p q =
    each_alternated 256 (blocks_of h (inverted f)) (blocks_of h (inverted s))
    (each_blocks h (inverted f) (length_inverted f ∙ p)) (each_blocks h (inverted s) (length_inverted s ∙ q))

pub even_block : (h n : ℕ) (f s : List ℕ) → n % 2 ≡ 0 → n < 2 * h → inverted (take 256 (drop (256 * (n / 2)) f)) ≡ slice_index_or (banks_of h f s) n []
even_block h n f s e l =
    inverted_part (256 * (n / 2)) f ∙ sym (getD_blocks h (n / 2) (inverted f) (omega arith))
    ∙ sym (getD_even (n / 2) n (blocks_of h (inverted f)) (blocks_of h (inverted s)) [] (omega arith) (same_count h (inverted f) (inverted s)))

pub odd_block : (h n : ℕ) (f s : List ℕ) → (n % 2 ≢ 0) → n < 2 * h → inverted (take 256 (drop (256 * (n / 2)) s)) ≡ slice_index_or (banks_of h f s) n []
odd_block h n f s e l =
    inverted_part (256 * (n / 2)) s ∙ sym (getD_blocks h (n / 2) (inverted s) (omega arith))
    ∙ sym (getD_odd (n / 2) n (blocks_of h (inverted f)) (blocks_of h (inverted s)) [] (omega arith) (same_count h (inverted f) (inverted s)))

-- block n, read from the bank that its parity chooses
pub bank_block : (h n : ℕ) (f s m : List ℕ) → m ≡ cond (n % 2 == 0) f s → n < 2 * h → inverted (take 256 (drop (256 * (n / 2)) m)) ≡ slice_index_or (banks_of h f s) n []
bank_block h n f s m e l =
    ⊎_elim
    (λ (even : n % 2 ≡ 0). let q : m ≡ f = grind (arith, nat_tests) in ap (λ x. inverted (take 256 (drop (256 * (n / 2)) x))) q ∙ even_block h n f s even l)
    (λ (odd : n % 2 ≡ 0 → ⊥). let q : m ≡ s = grind (arith, nat_tests) in ap (λ x. inverted (take 256 (drop (256 * (n / 2)) x))) q ∙ odd_block h n f s odd l)
    (cases_eq (n % 2) 0)

-- a bank with block k written over
one_bank : (h k : ℕ) (m v : List ℕ) → k < h → length m ≡ 256 * h → length v ≡ 256
    → blocks_of h (inverted (over (256 * k) (inverted v) m)) ≡ slice_set (blocks_of h (inverted m)) k v
one_bank h k m v l p w =
    ap (blocks_of h) (inverted_over (256 * k) v m) ∙ set_blocks h k (inverted m) v l (length_inverted m ∙ p) w

pub even_write : (h n : ℕ) (f s v : List ℕ) → n % 2 ≡ 0 → n < 2 * h → length f ≡ 256 * h → length v ≡ 256
    → banks_of h (over (256 * (n / 2)) (inverted v) f) s ≡ slice_set (banks_of h f s) n v
even_write h n f s v e l p w =
    ap (λ x. alternated x (blocks_of h (inverted s))) (one_bank h (n / 2) f v (omega arith) p w)
    ∙ set_even (n / 2) n (blocks_of h (inverted f)) (blocks_of h (inverted s)) v (omega arith) (same_count h (inverted f) (inverted s))

pub odd_write : (h n : ℕ) (f s v : List ℕ) → (n % 2 ≢ 0) → n < 2 * h → length s ≡ 256 * h → length v ≡ 256
    → banks_of h f (over (256 * (n / 2)) (inverted v) s) ≡ slice_set (banks_of h f s) n v
odd_write h n f s v e l p w =
    ap (alternated (blocks_of h (inverted f))) (one_bank h (n / 2) s v (omega arith) p w)
    ∙ set_odd (n / 2) n (blocks_of h (inverted f)) (blocks_of h (inverted s)) v (omega arith) (same_count h (inverted f) (inverted s))

-- banks of nothing but FF hold nothing but zeros
pub blank_banks : (h : ℕ) → banks_of h (replicate (256 * h) 255) (replicate (256 * h) 255) ≡ replicate (2 * h) (replicate 256 0)
blank_banks h =
    let blank = ap (blocks_of h) (inverted_replicate (256 * h)) ∙ blocks_replicate h 0 in
    both alternated blank blank ∙ alternated_replicate h (replicate 256 0)

-- what is known of two lengths that are not refused
pub sized_banks : (a b : ℕ) → bank_refusal a b ≡ None → (a ≡ 256 * (a / 256)) × (b ≡ a) × (4 ≤ a / 256) × (a / 256 ≤ 2048)
sized_banks a b h = (grind (arith, nat_tests), grind (arith, nat_tests), grind (arith, nat_tests), grind (arith, nat_tests))

pub formed_banks : (f s : List ℕ) → bank_refusal (length f) (length s) ≡ None → (c : ℕ) (p : Bool) → Formed (device (banks_of (length f / 256) f s) c p)
formed_banks f s h c p =
    let z = sized_banks (length f) (length s) h in
    let n = length_banks (length f / 256) f s in
    record {
      least = omega arith;
      most = omega arith;
      even = each_banks (length f / 256) f s z.0 (z.1 ∙ z.0);
    }
