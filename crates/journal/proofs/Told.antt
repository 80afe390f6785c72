-- What a number read says, where none is damage.
use Rattle.std.proofs.Common.{◌≡◌, ℕ, Bool, true, false, is_ok, refl, List, Bor, Some, None, Ok, Err, Option, ap, sym, ◌∙◌, arith}
use Rattle.std.specs.Option.{ok_or}
use Rattle.std.specs.Bool.{then_some}
use Rattle.number.specs.Bytes.{held}

module _ {E : Type 0} (e : E) where
  pub read_some : (r : Option (ℕ × Bor (List ℕ))) (o : Option (ℕ × List ℕ)) (p : ℕ) (rest : Bor (List ℕ)) → held r ≡ o → ok_or r e ≡ Ok (p, rest) → Some (p, rest.now) ≡ o
  read_some None o p rest h q = absurd (let z : ◌≡◌ {A = ℕ} 0 1 = cc in omega arith)
  read_some (Some x) o p rest h q = let same : x ≡ (p, rest) = cc in ap (λ (y : ℕ × Bor (List ℕ)). Some (y.0, y.1.now)) (sym same) ∙ h

  pub read_none : (r : Option (ℕ × Bor (List ℕ))) (o : Option (ℕ × List ℕ)) (f : E) → held r ≡ o → ok_or r e ≡ Err f → None ≡ o
  read_none None o f h q = h
  read_none (Some x) o f h q = absurd (let z : ◌≡◌ {A = ℕ} 0 1 = cc in omega arith)

-- a test as an answer
pub told_test : {E : Type 0} (e : E) (t : Bool) → is_ok (ok_or (then_some t (tt {0})) e) ≡ t
told_test e true = refl
told_test e false = refl
