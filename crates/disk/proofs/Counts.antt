-- What is known of a size that is not refused.
use Rattle.std.proofs.Common.{◌≡◌, ℕ, ◌*◌, ◌/◌, ◌≤◌, None, arith}
use Rattle.std.proofs.lemmas.Bool.Decides.{nat_tests}
use Rattle.disk.specs.Sizes.{count_refusal, odd_refusal}

pub counted : (n : ℕ) → count_refusal n ≡ None → (8 ≤ n) × (n ≤ 4096)
counted n h = (grind (arith, nat_tests), grind (arith, nat_tests))

pub even_count : (n : ℕ) → odd_refusal n ≡ None → 2 * (n / 2) ≡ n
even_count n h = grind (arith, nat_tests)
