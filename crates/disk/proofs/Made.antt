-- A new disk: its size is not refused, and it holds nothing but zeros.
use Rattle.std.proofs.Common.{◌≡◌, ℕ, ◌*◌, ◌/◌, ◌%◌, List, replicate, None, Some, Ok, Option, refl, ap, ◌∙◌, arith}
use Rattle.std.proofs.lemmas.Bool.Decides.{nat_tests}
use Rattle.refusal.specs.declared.Refusal.{Refusal}
use Rattle.disk.specs.Device.{answer}
use Rattle.disk.specs.Layout.{blocks_of, banks_of}
use Rattle.disk.specs.Sizes.{odd_refusal}
use Rattle.disk.specs.Blocks.{both, blocks_replicate}
use Rattle.disk.specs.Banks.{blank_banks}
use Rattle.disk.proofs.Counts.{even_count}

pub none_from_ok : (o : Option Refusal) → Ok tt ≡ answer o → o ≡ None
none_from_ok None h = refl
none_from_ok (Some e) h = cc

pub zero_blocks : (n len : ℕ) (m : List ℕ) → len ≡ 256 * n → m ≡ replicate (256 * n) 0 → blocks_of (len / 256) m ≡ replicate n (replicate 256 0)
zero_blocks n len m l z = let h : len / 256 ≡ n = omega arith in both blocks_of h z ∙ blocks_replicate n 0

zero_halves : (k len : ℕ) (f s : List ℕ) → len ≡ 256 * k → f ≡ replicate (256 * k) 255 → s ≡ replicate (256 * k) 255 → banks_of (len / 256) f s ≡ replicate (2 * k) (replicate 256 0)
zero_halves k len f s l y z = let h : len / 256 ≡ k = omega arith in ap (λ i. banks_of i f s) h ∙ both (banks_of k) y z ∙ blank_banks k

pub zero_banks : (n len : ℕ) (f s : List ℕ) → odd_refusal n ≡ None → len ≡ 128 * n → f ≡ replicate (128 * n) 255 → s ≡ replicate (128 * n) 255
    → banks_of (len / 256) f s ≡ replicate n (replicate 256 0)
zero_banks n len f s e l y z =
    let even : n % 2 ≡ 0 = grind (arith, nat_tests) in
    let h : 128 * n ≡ 256 * (n / 2) = omega arith in
    zero_halves (n / 2) len f s (l ∙ h) (rw h at y) (rw h at z) ∙ ap (λ i. replicate i (replicate 256 0)) (even_count n e)

pub ruleset of_zeros = (none_from_ok, zero_blocks, zero_banks)
