-- Two banks that make a disk: where its blocks lie, and what is left after one of the banks is written over.
use Rattle.std.proofs.Common.{◌≡◌, ◌≢◌, ℕ, ◌+◌, ◌*◌, ◌/◌, ◌%◌, ◌<◌, ◌≤◌, List, [], map, length, take, drop, get_or, set, None, cond, Vec, Global, vec_len, vec_items, sym, ap, ◌∙◌, ⊎_elim, arith}
use Rattle.std.proofs.lemmas.Bool.{cases_eq}
use Rattle.std.proofs.lemmas.List.{map-set, get_or-map, get_or-set_same, get_or-set_other, length-map}
use Rattle.disk.specs.Layout.{inverted, banks_of, bank, banked}
use Rattle.disk.specs.Sizes.{bank_refusal}
use Rattle.disk.specs.Blocks.{both, over}
use Rattle.std.specs.Prelude.{◌==◌}
use Rattle.disk.specs.Banks.{length_banks, bank_block, even_write, odd_write, sized_banks}

-- what two banks owe so that they make a disk
abbrev pub Fit : List (Vec ℕ Global) → Type 0
Fit ms = bank_refusal (length (bank ms 0)) (length (bank ms 1)) ≡ None

-- a bank, as the code picks it
pub picked : (ms : List (Vec ℕ Global)) (k : ℕ) (d : Vec ℕ Global) → k < length ms → vec_items (get_or ms k d) ≡ bank ms k
picked ms k d h = sym (get_or-map vec_items ms k d [] h)

pub picked_len : (ms : List (Vec ℕ Global)) (k : ℕ) (d : Vec ℕ Global) → k < length ms → vec_len (get_or ms k d) ≡ length (bank ms k)
picked_len ms k d h = (get_or ms k d).ok.0 ∙ ap length (picked ms k d h)

set_at : (ms : List (Vec ℕ Global)) (k : ℕ) (x : Vec ℕ Global) → k < length ms → bank (set ms k x) k ≡ vec_items x
set_at ms k x h =
    ap (λ l. get_or l k []) (map-set vec_items ms k x)
    ∙ get_or-set_same (map vec_items ms) k (vec_items x) [] (omega (arith, length-map ms vec_items))

set_beside : (ms : List (Vec ℕ Global)) (k j : ℕ) (x : Vec ℕ Global) → j ≢ k → bank (set ms k x) j ≡ bank ms j
set_beside ms k j x h = ap (λ l. get_or l j []) (map-set vec_items ms k x) ∙ get_or-set_other (map vec_items ms) k j (vec_items x) [] h

length_set : (ms : List (Vec ℕ Global)) (k j : ℕ) (x : Vec ℕ Global) → k < length ms → length (vec_items x) ≡ length (bank ms k) → length (bank (set ms k x) j) ≡ length (bank ms j)
length_set ms k j x h l =
    ⊎_elim
    (λ (e : j ≡ k). rw e (ap length (set_at ms k x h) ∙ l))
    (λ (o : j ≡ k → ⊥). ap length (set_beside ms k j x o))
    (cases_eq j k)

-- a bank written over, and as long as it was: the two still make a disk
pub still_fit : (ms : List (Vec ℕ Global)) (k : ℕ) (x : Vec ℕ Global) → k < length ms → length (vec_items x) ≡ length (bank ms k) → Fit ms → Fit (set ms k x)
still_fit ms k x h l f = both bank_refusal (length_set ms k 0 x h l) (length_set ms k 1 x h l) ∙ f

module _ (ms : List (Vec ℕ Global)) (n : ℕ) (fit : Fit ms) (inside : n < length (banked ms)) where
  within : (n < 2 * (length (bank ms 0) / 256)) × (length (bank ms 0) ≡ 256 * (length (bank ms 0) / 256)) × (length (bank ms 1) ≡ 256 * (length (bank ms 0) / 256))
  within =
      let z = sized_banks (length (bank ms 0)) (length (bank ms 1)) fit in
      let l = length_banks (length (bank ms 0) / 256) (bank ms 0) (bank ms 1) in
      (omega arith, omega arith, omega arith)

  -- the bytes of block n are there
  pub has_block : 256 * (n / 2) + 256 ≤ length (bank ms (n % 2))
  has_block =
      let w = within in
      ⊎_elim
      (λ (e : n % 2 ≡ 0). rw e (omega arith))
      (λ (o : n % 2 ≡ 0 → ⊥). let e : n % 2 ≡ 1 = omega arith in rw e (omega arith))
      (cases_eq (n % 2) 0)

  pub read_banked : inverted (take 256 (drop (256 * (n / 2)) (bank ms (n % 2)))) ≡ get_or (banked ms) n []
  read_banked =
      let chosen : bank ms (n % 2) ≡ cond (n % 2 == 0) (bank ms 0) (bank ms 1) = ⊎_elim (λ (e : n % 2 ≡ 0). rw e) (λ (o : n % 2 ≡ 0 → ⊥). let e : n % 2 ≡ 1 = omega arith in rw e) (cases_eq (n % 2) 0) in
      bank_block (length (bank ms 0) / 256) n (bank ms 0) (bank ms 1) (bank ms (n % 2)) chosen within.0

  module _ (two : length ms ≡ 2) (x : Vec ℕ Global) (v : List ℕ) (long : length v ≡ 256) where
    set_even : n % 2 ≡ 0 → vec_items x ≡ over (256 * (n / 2)) (inverted v) (bank ms 0) → length (vec_items x) ≡ length (bank ms 0) → banked (set ms 0 x) ≡ set (banked ms) n v
    set_even e b l =
        ap (λ h. banks_of (h / 256) (bank (set ms 0 x) 0) (bank (set ms 0 x) 1)) (length_set ms 0 0 x (omega arith) l)
        ∙ both (banks_of (length (bank ms 0) / 256)) (set_at ms 0 x (omega arith) ∙ b) (set_beside ms 0 1 x (λ q. omega arith))
        ∙ even_write (length (bank ms 0) / 256) n (bank ms 0) (bank ms 1) v e within.0 within.1 long

    set_odd : n % 2 ≢ 0 → vec_items x ≡ over (256 * (n / 2)) (inverted v) (bank ms 1) → length (vec_items x) ≡ length (bank ms 1) → banked (set ms 1 x) ≡ set (banked ms) n v
    set_odd o b l =
        ap (λ h. banks_of (h / 256) (bank (set ms 1 x) 0) (bank (set ms 1 x) 1)) (length_set ms 1 0 x (omega arith) l)
        ∙ both (banks_of (length (bank ms 0) / 256)) (set_beside ms 1 0 x (λ q. omega arith)) (set_at ms 1 x (omega arith) ∙ b)
        ∙ odd_write (length (bank ms 0) / 256) n (bank ms 0) (bank ms 1) v o within.0 within.2 long

    -- block n written over in its bank
    pub set_banked : vec_items x ≡ over (256 * (n / 2)) (inverted v) (bank ms (n % 2)) → length (vec_items x) ≡ length (bank ms (n % 2)) → banked (set ms (n % 2) x) ≡ set (banked ms) n v
    set_banked b l =
        ⊎_elim
        (λ (e : n % 2 ≡ 0). rw e (set_even e (rw e at b) (rw e at l)))
        (λ (o : n % 2 ≡ 0 → ⊥). let e : n % 2 ≡ 1 = omega arith in rw e (set_odd o (rw e at b) (rw e at l)))
        (cases_eq (n % 2) 0)

pub ruleset of_banks = (length_banks, picked, picked_len, has_block, read_banked, set_banked, still_fit)
