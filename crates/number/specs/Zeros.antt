-- Bytes that are all zero.
use Rattle.std.specs.Prelude.{◌≡◌, ℕ, zero, suc, Bool, true, List, [], ◌∷◌, length, replicate, ◌==◌}
use Rattle.std.specs.List.{list_all}
use Rattle.std.proofs.Math.Path.{refl, ap}
use Rattle.std.proofs.Common.{◌∙◌}
use Rattle.std.proofs.lemmas.Bool.{and_parts, eqb-true}

-- each byte is zero
abbrev pub zeros : List ℕ → Bool
zeros bs = list_all (λ b. b == 0) bs

pub zeros_replicate : (n : ℕ) → zeros (replicate n 0) ≡ true
zeros_replicate zero = refl
zeros_replicate (suc n) = zeros_replicate n

pub zeros_from : (bs : List ℕ) → zeros bs ≡ true → bs ≡ replicate (length bs) 0
zeros_from [] e = refl
zeros_from (b ∷ bs) e =
    let p = and_parts (b == 0) (zeros bs) e in
    ap (λ x. x ∷ bs) (eqb-true b 0 p.0) ∙ ap (λ l. 0 ∷ l) (zeros_from bs p.1)
