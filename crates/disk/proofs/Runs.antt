-- Runs of block writes: one write more, two runs in a row, and the law of a run.
use Rattle.std.proofs.Common.{◌≡◌, ℕ, suc, ◌+◌, ◌-◌, ◌<◌, ◌≤◌, true, ◌⊎◌, List, [], ◌∷◌, ◌++◌, length, get_or, take, drop, set, None, Ok, Err, Result, sym, refl, ap, ◌∙◌, subst, inl, inr, ⊎_elim, arith, length-set, take-append-drop}
use Rattle.std.proofs.lemmas.Bool.{cases_lt}
use Rattle.std.proofs.lemmas.Bool.Decides.{nat_tests}
use Rattle.std.proofs.lemmas.List.{take_more, take_all}
use Rattle.refusal.specs.declared.Refusal.{Refusal}
use Rattle.refusal.specs.Refusals.{darkened}
use Rattle.disk.specs.Device.{Device, bar, written, write_answer, replaced}
use Rattle.disk.specs.Runs.{Write, going, ran, ran_answer, Inside, Lasts}
use Rattle.disk.proofs.Writes.{bar_free, write_paid, write_spent}

clash : {X : Type 0} {f : Refusal} {r : Result Unit Refusal} → r ≡ Ok tt → r ≡ Err f → X
clash p q = let z : ◌≡◌ {A = ℕ} 0 1 = cc in absurd (omega arith)

pub answers : (r : Result Unit Refusal) → (r ≡ Ok tt) ⊎ ((e : Refusal) × (r ≡ Err e))
answers (Ok x) = inl refl
answers (Err e) = inr (e, refl)

-- the first write of a run
pub ran_first : (w : Write) (ws : List Write) (d : Device) → write_answer w.0 d ≡ Ok tt → (ran (w ∷ ws) d ≡ ran ws (written w.0 w.1 d)) × (ran_answer (w ∷ ws) d ≡ ran_answer ws (written w.0 w.1 d))
unfolding ran ran_answer
ran_first w ws d e = (ap (λ r. going r (ran ws (written w.0 w.1 d)) (written w.0 w.1 d)) e, ap (λ r. going r (ran_answer ws (written w.0 w.1 d)) r) e)

pub ran_stopped : (w : Write) (ws : List Write) (d : Device) (f : Refusal) → write_answer w.0 d ≡ Err f → (ran (w ∷ ws) d ≡ written w.0 w.1 d) × (ran_answer (w ∷ ws) d ≡ Err f)
unfolding ran ran_answer
ran_stopped w ws d f e = (ap (λ r. going r (ran ws (written w.0 w.1 d)) (written w.0 w.1 d)) e, ap (λ r. going r (ran_answer ws (written w.0 w.1 d)) r) e)

pub ran_none : (d : Device) → (ran [] d ≡ d) × (ran_answer [] d ≡ Ok tt)
unfolding ran ran_answer
ran_none d = (refl, refl)

-- a run that was granted, and another after it
pub ran_on : (xs ys : List Write) (d : Device) → ran_answer xs d ≡ Ok tt → (ran (xs ++ ys) d ≡ ran ys (ran xs d)) × (ran_answer (xs ++ ys) d ≡ ran_answer ys (ran xs d))
ran_on [] ys d g = (ap (ran ys) (sym (ran_none d).0), ap (ran_answer ys) (sym (ran_none d).0))
ran_on (x ∷ xs) ys d g =
    ⊎_elim
    (λ e.
    let f = ran_first x xs d e in
    let l = ran_first x (xs ++ ys) d e in
    let h = ran_on xs ys (written x.0 x.1 d) (sym f.1 ∙ g) in
    (l.0 ∙ h.0 ∙ ap (ran ys) (sym f.0), l.1 ∙ h.1 ∙ ap (ran_answer ys) (sym f.0)))
    (λ e. clash g (ran_stopped x xs d e.0 e.1).1)
    (answers (write_answer x.0 d))

-- a run that was refused: nothing after it is done
pub ran_off : (xs ys : List Write) (d : Device) (f : Refusal) → ran_answer xs d ≡ Err f → (ran (xs ++ ys) d ≡ ran xs d) × (ran_answer (xs ++ ys) d ≡ Err f)
ran_off [] ys d f g = clash (ran_none d).1 g
ran_off (x ∷ xs) ys d f g =
    ⊎_elim
    (λ e.
    let k = ran_first x xs d e in
    let l = ran_first x (xs ++ ys) d e in
    let h = ran_off xs ys (written x.0 x.1 d) f (sym k.1 ∙ g) in
    (l.0 ∙ h.0 ∙ sym k.0, l.1 ∙ h.1))
    (λ e.
    let k = ran_stopped x xs d e.0 e.1 in
    let l = ran_stopped x (xs ++ ys) d e.0 e.1 in
    (l.0 ∙ sym k.0, l.1 ∙ sym k.1 ∙ g))
    (answers (write_answer x.0 d))

-- one write
pub ran_one : (w : Write) (d : Device) → (ran (w ∷ []) d ≡ written w.0 w.1 d) × (ran_answer (w ∷ []) d ≡ write_answer w.0 d)
ran_one w d =
    ⊎_elim
    (λ e. let f = ran_first w [] d e in let n = ran_none (written w.0 w.1 d) in (f.0 ∙ n.0, f.1 ∙ n.1 ∙ sym e))
    (λ e. let f = ran_stopped w [] d e.0 e.1 in (f.0, f.1 ∙ sym e.1))
    (answers (write_answer w.0 d))

-- a loop over a run: the first i writes were granted, and this is where they lead
pub record Underway (ws : List Write) (d : Device) (i : ℕ) (now : Device) : Type 0 where
  pub here : now ≡ ran (take i ws) d
  pub fine : ran_answer (take i ws) d ≡ Ok tt

pub underway_none : (ws : List Write) (d : Device) → Underway ws d 0 d
underway_none ws d = record { here = sym (ran_none d).0; fine = (ran_none d).1 }

module _ (ws : List Write) (d now after : Device) (i : ℕ) (w : Write) (within : i < length ws) (is : get_or ws i w ≡ w) (u : Underway ws d i now) (left : after ≡ written w.0 w.1 now) where
  split : take (i + 1) ws ≡ take i ws ++ w ∷ []
  split = take_more ws i w within ∙ ap (λ x. take i ws ++ x ∷ []) is

  whole : ws ≡ (take i ws ++ w ∷ []) ++ drop (i + 1) ws
  whole = sym (take-append-drop (i + 1) ws) ∙ ap (λ l. l ++ drop (i + 1) ws) split

  one : (ran (take i ws ++ w ∷ []) d ≡ written w.0 w.1 now) × (ran_answer (take i ws ++ w ∷ []) d ≡ write_answer w.0 now)
  one =
      let a = ran_on (take i ws) (w ∷ []) d u.fine in
      let b = ran_one w now in
      (a.0 ∙ ap (ran (w ∷ [])) (sym u.here) ∙ b.0, a.1 ∙ ap (ran_answer (w ∷ [])) (sym u.here) ∙ b.1)

  pub underway_more : write_answer w.0 now ≡ Ok tt → Underway ws d (i + 1) after
  underway_more g = record { here = left ∙ sym one.0 ∙ ap (λ l. ran l d) (sym split); fine = ap (λ l. ran_answer l d) split ∙ one.1 ∙ g }

  -- the write at which the run ends
  pub underway_stop : (f : Refusal) → write_answer w.0 now ≡ Err f → (after ≡ ran ws d) × (ran_answer ws d ≡ Err f)
  underway_stop f g =
      let o = ran_off (take i ws ++ w ∷ []) (drop (i + 1) ws) d f (one.1 ∙ g) in
      (left ∙ sym one.0 ∙ sym o.0 ∙ ap (λ l. ran l d) (sym whole), ap (λ l. ran_answer l d) whole ∙ o.1)

pub underway_all : (ws : List Write) (d now : Device) (i : ℕ) → length ws ≤ i → Underway ws d i now → (now ≡ ran ws d) × (ran_answer ws d ≡ Ok tt)
underway_all ws d now i h u = let e = take_all i ws h in (u.here ∙ ap (λ l. ran l d) e, ap (λ l. ran_answer l d) (sym e) ∙ u.fine)

pub inside_set : (ws : List Write) (b : List (List ℕ)) (n : ℕ) (v : List ℕ) → Inside (length b) ws → Inside (length (set b n v)) ws
inside_set ws b n v h = rw (length-set b n v) h

-- one write paid, and the law of the rest
paid : (w : Write) (ws : List Write) (d : Device) → 0 < d.charge → ran (w ∷ ws) d ≡ ran ws (replaced w.0 w.1 d) → ran_answer (w ∷ ws) d ≡ ran_answer ws (replaced w.0 w.1 d) → Lasts ws (replaced w.0 w.1 d) → Lasts (w ∷ ws) d
paid w ws d some l a h =
    let one : suc (d.charge - 1) ≡ d.charge = omega arith in
    let n : d.charge - 1 - length ws ≡ d.charge - length (w ∷ ws) = omega arith in
    record {
      leaves = grind (arith, nat_tests, h.leaves);
      answers = grind (arith, nat_tests, h.answers);
    }

-- a run that ends at its first write
stopped : (w : Write) (ws : List Write) (d : Device) → bar w.0 d ≡ None → d.charge ≡ 0 → Lasts (w ∷ ws) d
stopped w ws d free zero_left =
    let o = write_spent w.0 w.1 d free zero_left in
    let f = ran_stopped w ws d darkened o.0 in
    record {
      leaves = grind (arith, nat_tests, f.0, o.1);
      answers = grind (arith, nat_tests, f.1);
    }

-- the law of a run
pub lasts : (ws : List Write) (d : Device) → d.powered ≡ true → Inside (length d.blocks) ws → Lasts ws d
lasts [] d p i = record { leaves = grind (arith, nat_tests, (ran_none d).0); answers = grind (arith, nat_tests, (ran_none d).1) }
lasts (w ∷ ws) d p i =
    let free = bar_free w.0 d p i.0 in
    ⊎_elim
    (λ some.
    let o = write_paid w.0 w.1 d free some in
    let f = ran_first w ws d o.0 in
    let h = lasts ws (replaced w.0 w.1 d) refl (inside_set ws d.blocks w.0 w.1 i.1) in
    paid w ws d some (f.0 ∙ ap (ran ws) o.1) (f.1 ∙ ap (ran_answer ws) o.1) h)
    (λ none. stopped w ws d free (omega arith))
    (cases_lt 0 d.charge)

-- a run that was made
pub record Ran (ws : List Write) (d now : Device) (r : Result Unit Refusal) : Type 0 where
  pub after : now ≡ ran ws d
  pub answer : r ≡ ran_answer ws d

pub then_run : {xs ys : List Write} {d mid now : Device} {r s : Result Unit Refusal} → Ran xs d mid r → r ≡ Ok tt → Ran ys mid now s → Ran (xs ++ ys) d now s
then_run {xs} {ys} {d} x g y =
    let o = ran_on xs ys d (sym x.answer ∙ g) in
    record { after = y.after ∙ ap (ran ys) x.after ∙ sym o.0; answer = y.answer ∙ ap (ran_answer ys) x.after ∙ sym o.1 }

pub then_stop : {xs : List Write} {d mid : Device} {r : Result Unit Refusal} {f : Refusal} (ys : List Write) → Ran xs d mid r → r ≡ Err f → Ran (xs ++ ys) d mid (Err f)
then_stop {xs} {d} {mid} {r} {f} ys x g =
    let o = ran_off xs ys d f (sym x.answer ∙ g) in
    record { after = x.after ∙ sym o.0; answer = sym o.1 }

pub one_write : {d now : Device} {r : Result Unit Refusal} (n : ℕ) (v : List ℕ) → now ≡ written n v d → r ≡ write_answer n d → Ran ((n, v) ∷ []) d now r
one_write {d} n v l a = let o = ran_one (n, v) d in record { after = l ∙ sym o.0; answer = a ∙ sym o.1 }

pub as_run : {xs ys : List Write} {d now : Device} {r : Result Unit Refusal} → xs ≡ ys → Ran xs d now r → Ran ys d now r
as_run {d = d} {now = now} {r = r} e x = subst (λ (l : List Write). Ran l d now r) e x
