-- What the writer of a code knows. Assumes nothing.
use Rattle.std.proofs.Common.{◌≡◌, ℕ, suc, ◌+◌, ◌≤◌, true, leb as leb≤, List, [], ◌∷◌, ◌++◌, length, set, Some, None, Option, sym, ap, ◌∙◌, subst, arith}
use Rattle.std.proofs.lemmas.List.{length-append, length-set}
use Rattle.std.proofs.lemmas.Bool.{leb-true}
use Rattle.number.specs.declared.Code.{Code}
use Rattle.number.specs.Bytes.{Written}
use Rattle.number.specs.Codes.{kind_number, kind_of, numbers, code_bytes}
use Rattle.number.specs.Leb.{leb}
use Rattle.number.specs.Parts.{one_or_two}
use Rattle.number.proofs.Written.{written_byte, written_then, written_last}

pub with_none : (p : ℕ × Option ℕ) → p.1 ≡ None → one_or_two p ≡ leb p.0
with_none (n, o) e = ap (λ x. one_or_two (n, x)) e

pub with_some : (p : ℕ × Option ℕ) (m : ℕ) → p.1 ≡ Some m → one_or_two p ≡ leb p.0 ++ leb m
with_some (n, o) m e = ap (λ x. one_or_two (n, x)) e

first_within : (p : ℕ × Option ℕ) → length (leb p.0) ≤ length (one_or_two p)
first_within (n, None) = omega arith
first_within (n, Some m) = omega (arith, length-append (leb n) (leb m))

-- the parts of a code, and room for it
pub record Begun (c : Code) (p : ℕ × Option ℕ) (k at : ℕ) (old : List ℕ) : Type 0 where
  pub parts : one_or_two p ≡ numbers c
  pub first : k ≡ kind_number (kind_of c)
  pub room : at + suc (length (numbers c)) ≤ length old

pub begun : (c : Code) (p : ℕ × Option ℕ) (k at len : ℕ) (old : List ℕ) → one_or_two p ≡ numbers c → k ≡ kind_number (kind_of c)
    → len ≡ length (code_bytes c) → true ≡ leb≤ (at + len) (length old) → Begun c p k at old
begun c p k at len old parts first is room = record {
  parts = parts;
  first = first;
  room = omega (arith, leb-true (at + len) (length old) (sym room));
}

-- the kind's byte
started : (c : Code) (p : ℕ × Option ℕ) (k at : ℕ) (old : List ℕ) → Begun c p k at old → Written (k ∷ []) at old (set old at k) (Some (at + 1))
started c p k at old b = written_byte k at old (omega (arith, b.room))

-- there is room for the first number
pub not_broken : (c : Code) (p : ℕ × Option ℕ) (k at : ℕ) (old new : List ℕ) → Begun c p k at old → Written (leb p.0) (at + 1) (set old at k) new None → ⊥
not_broken c p k at old new b w = omega (arith, w.0, length-set old at k, first_within p, ap length b.parts, b.room)

whole : (c : Code) (p : ℕ × Option ℕ) (k at : ℕ) (old : List ℕ) (bs : List ℕ) → Begun c p k at old → one_or_two p ≡ bs → k ∷ bs ≡ code_bytes c
whole c p k at old bs b e = ap (λ l. k ∷ l) (sym e ∙ b.parts) ∙ ap (λ x. x ∷ numbers c) b.first

pub one_written : (c : Code) (p : ℕ × Option ℕ) (k at e : ℕ) (old new : List ℕ) → Begun c p k at old → p.1 ≡ None
    → Written (leb p.0) (at + 1) (set old at k) new (Some e) → Written (code_bytes c) at old new (Some e)
one_written c p k at e old new b none w =
    subst (λ l. Written l at old new (Some e)) (whole c p k at old (leb p.0) b (with_none p none))
    (written_then (k ∷ []) (leb p.0) at old (set old at k) new (at + 1) e (started c p k at old b) w)

pub two_written : (c : Code) (p : ℕ × Option ℕ) (k at m e : ℕ) (old mid new : List ℕ) (r : Option ℕ) → Begun c p k at old → p.1 ≡ Some m
    → Written (leb p.0) (at + 1) (set old at k) mid (Some e) → Written (leb m) e mid new r → Written (code_bytes c) at old new r
two_written c p k at m e old mid new r b some w v =
    let is : k ∷ (leb p.0 ++ leb m) ≡ code_bytes c = whole c p k at old (leb p.0 ++ leb m) b (with_some p m some) in
    let front = written_then (k ∷ []) (leb p.0) at old (set old at k) mid (at + 1) e (started c p k at old b) w in
    subst (λ l. Written l at old new r) is
    (written_last (k ∷ leb p.0) (leb m) at old mid new e r front (omega (arith, ap length is, b.room)) v)
