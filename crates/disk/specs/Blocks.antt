-- The blocks of a memory: how many, which bytes each is, and what a write to one of them leaves.
use Rattle.std.specs.Prelude.{◌≡◌, ℕ, zero, suc, ◌+◌, ◌-◌, ◌*◌, ◌<◌, ◌≤◌, List, [], ◌∷◌, ◌++◌, ◌/◌, Bool, length, take, drop, replicate, None, slice_index_or, slice_set, refl}
use Rattle.std.proofs.Common.{sym, ap, ◌∙◌, arith}
use borrow.Rule.Slice.PartMut.{put_mid}
use Rattle.std.proofs.lemmas.List.{drop-drop, drop-take, take-take, take_at, drop_at, take-append-le, drop-append-le, length-take-le, length-drop, length-append, take-replicate, drop-replicate}
use Rattle.std.proofs.lemmas.Bool.Decides.{nat_tests}
use Rattle.disk.specs.Device.{Each, Formed}
use Rattle.disk.specs.Layout.{blocks_of, device}
use Rattle.disk.specs.Sizes.{size_refusal}

-- two equations at once
pub both : {X Y Z : Type 0} (f : X → Y → Z) {a b : X} {c d : Y} → a ≡ b → c ≡ d → f a c ≡ f b d
both f p q = cc

pub length_blocks : (n : ℕ) (m : List ℕ) → length (blocks_of n m) ≡ n
unfolding blocks_of
length_blocks zero m = refl
length_blocks (suc n) m = ap suc (length_blocks n (drop 256 m))

pub each_blocks : (n : ℕ) (m : List ℕ) → length m ≡ 256 * n → Each 256 (blocks_of n m)
unfolding blocks_of
each_blocks zero m h = tt
each_blocks (suc n) m h =
    (length-take-le 256 m (omega arith), each_blocks n (drop 256 m) (length-drop 256 m ∙ omega arith))

pub getD_blocks : (n k : ℕ) (m : List ℕ) → k < n → slice_index_or (blocks_of n m) k [] ≡ take 256 (drop (256 * k) m)
unfolding blocks_of
getD_blocks zero k m h = absurd (omega arith)
getD_blocks (suc n) zero m h = refl
getD_blocks (suc n) (suc k) m h =
    let to : 256 + 256 * k ≡ 256 * suc k = omega arith in
    getD_blocks n k (drop 256 m) (omega arith) ∙ ap (take 256) (drop-drop (256 * k) 256 m ∙ ap (λ i. drop i m) to)

-- a memory with v written over the 256 bytes from a on
abbrev pub over : ℕ → List ℕ → List ℕ → List ℕ
over a v m = take a m ++ (v ++ drop (a + 256) m)

pub length_over : (a : ℕ) (v m : List ℕ) → length v ≡ 256 → a + 256 ≤ length m → length (over a v m) ≡ length m
length_over a v m w h =
    simp (length-append, length-drop) (omega (arith, length-take-le a m (omega arith)))

-- after a write to `memory[a..a + 256]`
pub put_over : (a : ℕ) (m v : List ℕ) → put_mid a (a + 256 - a) m v ≡ over a v m
put_over a m v =
    let to : a + (a + 256 - a) ≡ a + 256 = omega arith in
    ap (λ l. take a m ++ (v ++ l)) (drop-drop (a + 256 - a) a m ∙ ap (λ n. drop n m) to)

pub over_front : (k : ℕ) (m v : List ℕ) → 256 * suc k ≤ length m → take 256 (over (256 * suc k) v m) ≡ take 256 m
over_front k m v h =
    take-append-le 256 (take (256 * suc k) m) _ (omega (arith, length-take-le (256 * suc k) m h)) ∙ take-take 256 (256 * suc k) m (omega arith)

pub over_rest : (k : ℕ) (m v : List ℕ) → 256 * suc k ≤ length m → drop 256 (over (256 * suc k) v m) ≡ over (256 * k) v (drop 256 m)
over_rest k m v h =
    let to : 256 * suc k ≡ 256 + 256 * k = omega arith in
    let on : 256 + (256 * k + 256) ≡ 256 * suc k + 256 = omega arith in
    drop-append-le 256 (take (256 * suc k) m) _ (omega (arith, length-take-le (256 * suc k) m h))
    ∙ both (λ x y. x ++ (v ++ y))
    (ap (λ i. drop 256 (take i m)) to ∙ drop-take 256 (256 * k) m)
    (sym (drop-drop (256 * k + 256) 256 m ∙ ap (λ i. drop i m) on))

-- a write over the bytes of block k replaces that block, and no other
pub set_blocks : (n k : ℕ) (m v : List ℕ) → k < n → length m ≡ 256 * n → length v ≡ 256 → blocks_of n (over (256 * k) v m) ≡ slice_set (blocks_of n m) k v
unfolding blocks_of
set_blocks zero k m v h l w = absurd (omega arith)
set_blocks (suc n) zero m v h l w =
    both (λ x y. x ∷ blocks_of n y) (take_at v (drop 256 m) 256 w) (drop_at v (drop 256 m) 256 w)
set_blocks (suc n) (suc k) m v h l w =
    both (λ x y. x ∷ y) (over_front k m v (omega arith))
    (ap (blocks_of n) (over_rest k m v (omega arith)) ∙ set_blocks n k (drop 256 m) v (omega arith) (length-drop 256 m ∙ omega arith) w)

pub blocks_replicate : (n b : ℕ) → blocks_of n (replicate (256 * n) b) ≡ replicate n (replicate 256 b)
unfolding blocks_of
blocks_replicate zero b = refl
blocks_replicate (suc n) b =
    let to : 256 * suc n - 256 ≡ 256 * n = omega arith in
    both (λ x y. x ∷ y) (take-replicate 256 (256 * suc n) b (omega arith))
    (ap (blocks_of n) (drop-replicate 256 (256 * suc n) b ∙ ap (λ i. replicate i b) to) ∙ blocks_replicate n b)

-- what is known of a size that is not refused
pub sized : (len : ℕ) → size_refusal len ≡ None → (len ≡ 256 * (len / 256)) × (8 ≤ len / 256) × (len / 256 ≤ 4096)
sized len h = (grind (arith, nat_tests), grind (arith, nat_tests), grind (arith, nat_tests))

pub formed_blocks : (len : ℕ) (m : List ℕ) → len ≡ length m → size_refusal len ≡ None → (c : ℕ) (p : Bool) → Formed (device (blocks_of (len / 256) m) c p)
formed_blocks len m l h c p =
    let s = sized len h in
    let n = length_blocks (len / 256) m in
    record {
      least = omega arith;
      most = omega arith;
      even = each_blocks (len / 256) m (sym l ∙ s.0);
    }
