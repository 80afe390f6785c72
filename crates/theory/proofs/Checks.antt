-- What a check says that does not refuse.
use Rattle.std.proofs.Common.{◌≡◌, ℕ, zero, suc, ◌+◌, Bool, true, false, cond, not, ◌&&◌, eqb, List, [], ◌∷◌, map, get_or, Some, None, Option, sym, refl, ap, inl, inr, arith}
use Rattle.std.proofs.lemmas.Bool.{eqb-false, ne_eqb, or_parts}
use Rattle.refusal.specs.declared.Refusal.{Refusal}
use Rattle.theory.specs.Theory.{Lock, Theory}
use Rattle.theory.specs.Slots.{Slot, slot_at, is_running, committed, undone, running}
use Rattle.theory.specs.Machine.{Limits, View, Outcome, refuse_if, refuses, checked, clash, rival, stuck, granted, refused}
use Rattle.theory.proofs.Log.{Entry, In, by_test, mine}

test_none : {A : Type 0} (v : Bool) (a : A) (o : Option A) → cond v (Some a) o ≡ None → (v ≡ false) × (o ≡ None)
test_none true a o h = let z : ◌≡◌ {A = ℕ} 0 1 = cc in absurd (omega arith)
test_none false a o h = (refl, h)

pub never : {A : Type 0} {C : Type 0} (q : Refusal) (g : A) → refused q ≡ granted g → C
never q g e = let z : ◌≡◌ {A = ℕ} 0 1 = cc in absurd (omega arith)

module _ {Op State : Type 0} where
  -- What holds where a check refuses, and where the rest decides, holds of the checked outcome.
  pub refuse_keeps : {A : Type 0} (P : Outcome Op State A → Type 0) (test : Bool) (r : Refusal) (v : View Op State) (checks : List (Option Refusal)) (o : Outcome Op State A)
      → P (refuses r v) → (test ≡ false → P (checked checks v o)) → P (checked (refuse_if test r ∷ checks) v o)
  refuse_keeps P true r v checks o p k = p
  refuse_keeps P false r v checks o p k = k refl

module _ {Op Answer : Type 0} (th : Theory Op Answer) where
  abbrev pub locks_of : List (Entry Op Answer) → List Lock
  locks_of = map (λ e. th.lock e.what.op)

  -- no entry of a slot whose locks do not clash conflicts
  pub unclashed : (m : Lock) (f : Entry Op Answer) (log : List (Entry Op Answer)) → In f log → clash th m (locks_of (mine f.what.slot log)) ≡ false → th.conflict m (th.lock f.what.op) ≡ false
  unclashed m f [] i h = elim i [ ]
  unclashed m f (x ∷ log) i h =
      by_test (λ v. clash th m (locks_of (cond v (x ∷ mine f.what.slot log) (mine f.what.slot log))) ≡ false → th.conflict m (th.lock f.what.op) ≡ false) (eqb x.what.slot f.what.slot)
      (λ e k. let p = or_parts (th.conflict m (th.lock x.what.op)) (clash th m (locks_of (mine f.what.slot log))) k in elim i [ inl q ↦ rw q p.0 | inr j ↦ unclashed m f log j p.1 ])
      (λ e k. elim i [ inl q ↦ absurd (eqb-false x.what.slot f.what.slot e (ap (λ z. z.what.slot) (sym q))) | inr j ↦ unclashed m f log j k ])
      h

  pub no_rival : (t : ℕ) (m : Lock) (i : ℕ) (locks : List (List Lock)) → rival th t m i locks ≡ None → (j : ℕ) → (i + j ≡ t → ⊥) → clash th m (get_or locks j []) ≡ false
  no_rival t m i [] h j n = refl
  no_rival t m i (x ∷ locks) h zero n =
      let p = (test_none (not (eqb i t) && clash th m x) i (rival th t m (suc i) locks) h).0 in
      let e : eqb i t ≡ false = ne_eqb i t (λ k. n (omega arith)) in
      rw e at p
  no_rival t m i (x ∷ locks) h (suc j) n = no_rival t m (suc i) locks (test_none (not (eqb i t) && clash th m x) i (rival th t m (suc i) locks) h).1 j (λ e. n (omega arith))

module _ {Op Answer : Type 0} (th : Theory Op Answer) (lim : Limits Op th.State) where
  pub none_stuck : (i : ℕ) (xs : List (Slot Op)) → stuck th lim i xs ≡ None → (u : ℕ) → is_running (slot_at xs u) ≡ false
  none_stuck i [] h u = refl
  none_stuck i (committed ∷ xs) h zero = refl
  none_stuck i (committed ∷ xs) h (suc u) = none_stuck (suc i) xs h u
  none_stuck i (undone ∷ xs) h zero = refl
  none_stuck i (undone ∷ xs) h (suc u) = none_stuck (suc i) xs h u
  none_stuck i (running undos ∷ xs) h zero = let z : ◌≡◌ {A = ℕ} 0 1 = cc in absurd (omega arith)
  none_stuck i (running undos ∷ xs) h (suc u) = let z : ◌≡◌ {A = ℕ} 0 1 = cc in absurd (omega arith)
