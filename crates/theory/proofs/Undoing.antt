-- Runs of undoing: put together, extended by one step at their end, and what the whole of the undoing comes to.
use Rattle.std.proofs.Common.{◌≡◌, ℕ, zero, suc, ◌<◌, false, List, [], ◌∷◌, ◌++◌, length, set, None, Option, sym, refl, ap, ◌∙◌, subst, inl, inr, arith}
use lib.ListN.{get_or-eq_default}
use Rattle.std.proofs.lemmas.Bool.{true≢false, false≢true, cases_eq, cases_lt}
use Rattle.theory.specs.Theory.{Theory, Takes}
use Rattle.theory.specs.Slots.{Slot, slot_at, is_running, closed, IdleBelow, AllIdle, undo_records, undo_slot, undo_slots, Undoing, committed, undone, running, stop, skip, undo_record, close_slot}
use Rattle.theory.proofs.Explains.{at_set, after_records}

module _ {Op : Type 0} where
  pub idle_below_0 : (xs : List (Slot Op)) → IdleBelow 0 xs
  idle_below_0 xs u h = absurd (omega arith)

  pub idle_below_next : (t : ℕ) (xs : List (Slot Op)) → IdleBelow t xs → is_running (slot_at xs t) ≡ false → IdleBelow (suc t) xs
  idle_below_next t xs h k u j = elim (cases_eq u t) [ inl e ↦ subst (λ v. is_running (slot_at xs v) ≡ false) (sym e) k | inr n ↦ h u (omega arith) ]

  pub idle_below_set : (t : ℕ) (xs : List (Slot Op)) (x : Slot Op) → t < length xs → IdleBelow t xs → is_running x ≡ false → IdleBelow (suc t) (set xs t x)
  idle_below_set t xs x k h e = at_set (λ u y. u < suc t → is_running y ≡ false) xs t x k (λ _. e) (λ u n j. h u (omega arith))

  pub idle_below_all : (xs : List (Slot Op)) → IdleBelow (length xs) xs → AllIdle xs
  idle_below_all xs h u = elim (cases_lt u (length xs)) [ inl k ↦ h u k | inr k ↦ ap is_running (get_or-eq_default xs committed k) ]

module _ {Op Answer : Type 0} (th : Theory Op Answer) where
  skipped : {x : Slot Op} {s m s' : th.State} {xs ys zs : List (Slot Op)} → is_running x ≡ false → ((s'' : th.State) (ws : List (Slot Op)) → Undoing th m ys s'' ws → Undoing th s xs s'' ws)
      → Undoing th m (x ∷ ys) s' zs → Undoing th s (x ∷ xs) s' zs
  skipped h more stop = skip h (more _ _ stop)
  skipped h more (skip k v) = skip h (more _ _ v)
  skipped h more (undo_record k v) = absurd (true≢false h)
  skipped h more (close_slot v) = absurd (true≢false h)

  -- one run after another
  pub undoing_then : {s m s' : th.State} {xs ys zs : List (Slot Op)} → Undoing th s xs m ys → Undoing th m ys s' zs → Undoing th s xs s' zs
  undoing_then stop v = v
  undoing_then (skip h u) v = skipped h (λ s'' ws w. undoing_then u w) v
  undoing_then (undo_record k u) v = undo_record k (undoing_then u v)
  undoing_then (close_slot u) v = close_slot (undoing_then u v)

  not_committed : {undos : List Op} {C : Type 0} → committed ≡ running undos → C
  not_committed e = absurd (false≢true (ap is_running e))

  pub undo_at : (t : ℕ) (s m : th.State) (xs : List (Slot Op)) (undo : Op) (undos : List Op) (a : Answer) (redo : Option Op) → IdleBelow t xs → slot_at xs t ≡ running (undo ∷ undos) → Takes th s undo m a redo
      → Undoing th s xs m (set xs t (running undos))
  undo_at t s m [] undo undos a redo h e k = not_committed e
  undo_at zero s m (x ∷ xs) undo undos a redo h e k = subst (λ y. Undoing th s (y ∷ xs) m (running undos ∷ xs)) (sym e) (undo_record k stop)
  undo_at (suc t) s m (x ∷ xs) undo undos a redo h e k = skip (h 0 (omega arith)) (undo_at t s m xs undo undos a redo (λ u j. h (suc u) (omega arith)) e k)

  pub close_at : (t : ℕ) (s : th.State) (xs : List (Slot Op)) → IdleBelow t xs → slot_at xs t ≡ running [] → Undoing th s xs s (set xs t undone)
  close_at t s [] h e = not_committed e
  close_at zero s (x ∷ xs) h e = subst (λ y. Undoing th s (y ∷ xs) s (undone ∷ xs)) (sym e) (close_slot stop)
  close_at (suc t) s (x ∷ xs) h e = skip (h 0 (omega arith)) (close_at t s xs (λ u j. h (suc u) (omega arith)) e)

  -- A run goes on by one record of slot t, or by its close.
  pub undoing_record : (s₀ : th.State) (xs₀ : List (Slot Op)) (t : ℕ) (s m : th.State) (xs : List (Slot Op)) (undo : Op) (undos : List Op) (a : Answer) (redo : Option Op) → Undoing th s₀ xs₀ s xs → IdleBelow t xs
      → slot_at xs t ≡ running (undo ∷ undos) → Takes th s undo m a redo → Undoing th s₀ xs₀ m (set xs t (running undos))
  undoing_record s₀ xs₀ t s m xs undo undos a redo u h e k = undoing_then u (undo_at t s m xs undo undos a redo h e k)

  pub undoing_close : (s₀ : th.State) (xs₀ : List (Slot Op)) (t : ℕ) (s : th.State) (xs : List (Slot Op)) → Undoing th s₀ xs₀ s xs → IdleBelow t xs → slot_at xs t ≡ running [] → Undoing th s₀ xs₀ s (set xs t undone)
  undoing_close s₀ xs₀ t s xs u h e = undoing_then u (close_at t s xs h e)

  -- The same for a run on one slot alone.
  pub slot_undoing_record : (s₀ : th.State) (x₀ : Slot Op) (s m : th.State) (undo : Op) (undos : List Op) (a : Answer) (redo : Option Op) → Undoing th s₀ (x₀ ∷ []) s (running (undo ∷ undos) ∷ []) → Takes th s undo m a redo
      → Undoing th s₀ (x₀ ∷ []) m (running undos ∷ [])
  slot_undoing_record s₀ x₀ s m undo undos a redo u k = undoing_then u (undo_record k stop)

  pub slot_undoing_close : (s₀ : th.State) (x₀ : Slot Op) (s : th.State) → Undoing th s₀ (x₀ ∷ []) s (running [] ∷ []) → Undoing th s₀ (x₀ ∷ []) s (undone ∷ [])
  slot_undoing_close s₀ x₀ s u = undoing_then u (close_slot stop)

  -- A run on slot t alone is a run on the whole list, where no slot below t runs.
  beside : {s s' : th.State} {xs xs' : List (Slot Op)} (rest : List (Slot Op)) → Undoing th s xs s' xs' → Undoing th s (xs ++ rest) s' (xs' ++ rest)
  beside rest stop = stop
  beside rest (skip h u) = skip h (beside rest u)
  beside rest (undo_record k u) = undo_record k (beside rest u)
  beside rest (close_slot u) = close_slot (beside rest u)

  pub slot_undoing_at : (t : ℕ) (xs : List (Slot Op)) (s s' : th.State) (x : Slot Op) → t < length xs → IdleBelow t xs → Undoing th s (slot_at xs t ∷ []) s' (x ∷ []) → Undoing th s xs s' (set xs t x)
  slot_undoing_at t [] s s' x k h u = absurd (omega arith)
  slot_undoing_at zero (y ∷ xs) s s' x k h u = beside xs u
  slot_undoing_at (suc t) (y ∷ xs) s s' x k h u = skip (h 0 (omega arith)) (slot_undoing_at t xs s s' x (omega arith) (λ v j. h (suc v) (omega arith)) u)

  -- A step of recovery's loop: slot t is undone.
  pub undoing_next : (s₀ : th.State) (xs₀ : List (Slot Op)) (t : ℕ) (s s' : th.State) (xs : List (Slot Op)) → Undoing th s₀ xs₀ s xs → t < length xs → IdleBelow t xs → Undoing th s (slot_at xs t ∷ []) s' (undone ∷ [])
      → Undoing th s₀ xs₀ s' (set xs t undone) × IdleBelow (suc t) (set xs t undone)
  undoing_next s₀ xs₀ t s s' xs u k h v = (undoing_then u (slot_undoing_at t xs s s' undone k h v), idle_below_set t xs undone k h refl)

  -- the whole of the undoing, seen from a step further on
  one_record : {s m : th.State} {undo : Op} {a : Answer} {redo : Option Op} (undos : List Op) → Takes th s undo m a redo → undo_records th s (undo ∷ undos) ≡ undo_records th m undos
  one_record undos k = rw (k, undo_records)

  idle_first : (x : Slot Op) → is_running x ≡ false → (s : th.State) (xs : List (Slot Op)) → undo_slots th s (x ∷ xs) ≡ ((undo_slots th s xs).0, x ∷ (undo_slots th s xs).1)
  idle_first committed h s xs = refl
  idle_first undone h s xs = refl
  idle_first (running undos) h s xs = absurd (true≢false h)

  -- A run leads to where the whole of the undoing leads.
  pub undoing_same : {s s' : th.State} {xs xs' : List (Slot Op)} → Undoing th s xs s' xs' → undo_slots th s xs ≡ undo_slots th s' xs'
  undoing_same stop = refl
  undoing_same {s = s} {s' = s'} (skip {x = x} {xs = ys} {xs' = ys'} h u) = idle_first x h s ys ∙ ap (λ p. (p.0, x ∷ p.1)) (undoing_same u) ∙ sym (idle_first x h s' ys')
  undoing_same (undo_record {undos = undos} {xs = ys} k u) = ap (after_records th ys) (one_record undos k) ∙ undoing_same u
  undoing_same (close_slot u) = undoing_same u

  pub undoing_slot : {s s' : th.State} {x x' : Slot Op} → Undoing th s (x ∷ []) s' (x' ∷ []) → undo_slot th s x ≡ undo_slot th s' x'
  undoing_slot stop = refl
  undoing_slot (skip h stop) = refl
  undoing_slot (undo_record {undos = undos} k u) = ap (λ p. (p.0, closed p.1)) (one_record undos k) ∙ undoing_slot u
  undoing_slot (close_slot u) = undoing_slot u

  -- where nothing is left to undo, and where a record does not apply
  pub idle_undone : (s : th.State) (xs : List (Slot Op)) → AllIdle xs → undo_slots th s xs ≡ (s, xs)
  idle_undone s [] h = refl
  idle_undone s (x ∷ xs) h = idle_first x (h 0) s xs ∙ ap (λ p. (p.0, x ∷ p.1)) (idle_undone s xs (λ u. h (suc u)))

  no_record : (s : th.State) (undo : Op) (undos : List Op) → th.apply s undo ≡ None → undo_records th s (undo ∷ undos) ≡ (s, undo ∷ undos)
  no_record s undo undos k = rw (k, undo_records)

  pub slot_stuck : (s : th.State) (undo : Op) (undos : List Op) → th.apply s undo ≡ None → undo_slot th s (running (undo ∷ undos)) ≡ (s, running (undo ∷ undos))
  slot_stuck s undo undos k = ap (λ p. (p.0, closed p.1)) (no_record s undo undos k)

  pub slots_stuck : (t : ℕ) (s : th.State) (xs : List (Slot Op)) (undo : Op) (undos : List Op) → IdleBelow t xs → slot_at xs t ≡ running (undo ∷ undos) → th.apply s undo ≡ None → undo_slots th s xs ≡ (s, xs)
  slots_stuck t s [] undo undos h e k = refl
  slots_stuck zero s (x ∷ xs) undo undos h e k = subst (λ y. undo_slots th s (y ∷ xs) ≡ (s, y ∷ xs)) (sym e) (ap (after_records th xs) (no_record s undo undos k))
  slots_stuck (suc t) s (x ∷ xs) undo undos h e k = idle_first x (h 0 (omega arith)) s xs ∙ ap (λ p. (p.0, x ∷ p.1)) (slots_stuck t s xs undo undos (λ u j. h (suc u) (omega arith)) e k)
