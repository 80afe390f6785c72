-- How code shows that a call is a step of the machine: by what the call would answer and leave, or by where power cut it.
use Rattle.std.proofs.Common.{◌≡◌, ℕ, zero, suc, ◌+◌, ◌-◌, true, false, leb, List, [], ◌∷◌, length, get_or, set, replicate, Some, None, sym, refl, ap, ◌∙◌, subst, ap₂, arith}
use Rattle.std.proofs.lemmas.Bool.{true≢false, false≢true}
use Rattle.refusal.specs.declared.Reason.TheVariants.{Damaged}
use Rattle.refusal.specs.declared.Refusal.{Refusal}
use Rattle.refusal.specs.Refusals.{refusal, darkened}
use Rattle.theory.specs.Theory.{Lock, Done, Theory, Takes}
use Rattle.theory.specs.Slots.{Slot, slot_at, is_running, undos_of, fate_of, recorded, IdleBelow, AllIdle, undo_slot, Undoing, committed, undone, running}
use Rattle.theory.specs.Machine.{Limits, View, Call, Reply, Gives, Outcome, reading, grants, refuses, checked, rival, stuck, undoes, recovered, outcome, changes, one_group, Steps, damaged, intact, ready, dark, due, Begin, Perform, Commit, Abort, Recover, Fate, refused, not_done, done, abort_stopped, recover_stopped, damage_stays, powered, cut}
use Rattle.theory.proofs.Undoing.{undoing_same, undoing_slot, idle_undone, slot_stuck, slots_stuck}

further : (i t : ℕ) → suc i + t ≡ i + suc t
further i t = omega arith

from_0 : (t : ℕ) → 0 + t ≡ t
from_0 t = omega arith

module _ {Op Answer : Type 0} (th : Theory Op Answer) (lim : Limits Op th.State) where
  pub steps_by : (v : View Op th.State) (c : Call Op) (reply : Reply (Gives Answer c)) (v' : View Op th.State) → (outcome th lim v c).reply ≡ reply → (outcome th lim v c).view ≡ v' → Steps th lim v c reply v'
  steps_by v c reply v' p q = subst (λ x. Steps th lim v c reply x) q (subst (λ x. Steps th lim v c x (outcome th lim v c).view) p powered)

  pub steps_as : (v : View Op th.State) (c : Call Op) (o : Outcome Op th.State (Gives Answer c)) → outcome th lim v c ≡ o → Steps th lim v c o.reply o.view
  steps_as v c o e = steps_by v c o.reply o.view (ap (λ x. x.reply) e) (ap (λ x. x.view) e)

  -- A call of one group that would be granted, cut before the group was done, and after.
  pub cut_before : (v : View Op th.State) (c : Call Op) (g : Gives Answer c) (v' : View Op th.State) → one_group th lim (reading v) c ≡ true → outcome th lim v c ≡ grants g v' → Steps th lim v c (refused darkened) (dark (reading v))
  cut_before v c g v' o e = cut (not_done {g = g} o (ap (λ x. x.reply) e))

  pub cut_after : (v : View Op th.State) (c : Call Op) (g : Gives Answer c) (v' : View Op th.State) → one_group th lim (reading v) c ≡ true → outcome th lim v c ≡ grants g v' → Steps th lim v c (refused darkened) (dark (reading v'))
  cut_after v c g v' o e = subst (λ x. Steps th lim v c (refused darkened) (dark (reading x))) (ap (λ x. x.view) e) (cut (done {g = g} o (ap (λ x. x.reply) e)))

  -- an operation with an inverse is one group
  pub perform_one_group : (s : th.State) (slots : List (Slot Op)) (t : ℕ) (op : Op) (s' : th.State) (a : Answer) (undo : Op) → Takes th s op s' a (Some undo) → one_group th lim (intact s slots) (Perform t op) ≡ true
  perform_one_group s slots t op s' a undo k = let q : changes th lim (intact s slots) op ≡ true = rw (k, changes) refl in q

  pub recover_damaged : (layer place : ℕ) → outcome th lim (due (damaged layer place)) Recover ≡ refuses (refusal Damaged layer place) (due (damaged layer place))
  recover_damaged layer place = refl

  pub damage_cut : (layer place : ℕ) → Steps th lim (due (damaged layer place)) Recover (refused darkened) (dark (damaged layer place))
  damage_cut layer place = cut damage_stays

  -- the refusal where the newest record of slot t, with n older ones, does not apply
  abbrev pub record_damaged : (t n : ℕ) → Refusal
  record_damaged t n = refusal Damaged lim.layer (lim.record_place t n)

  same_place : (i t n : ℕ) → i ≡ t → record_damaged i (suc n - 1) ≡ record_damaged t n
  same_place i t n e = ap₂ record_damaged e (omega arith)

  module _ (s : th.State) (slots : List (Slot Op)) (locks : List (List Lock)) (t : ℕ) (low : leb lim.slots t ≡ false) where
    pub begin_grants : is_running (slot_at slots t) ≡ false → outcome th lim (ready s slots locks) (Begin t) ≡ grants tt (ready s (set slots t (running [])) locks)
    begin_grants h = rw (low, h) refl

    pub commit_grants : is_running (slot_at slots t) ≡ true → outcome th lim (ready s slots locks) (Commit t) ≡ grants tt (ready s (set slots t committed) (set locks t []))
    commit_grants h = rw (low, h) refl

    pub perform_grants : (op : Op) (d : Done th.State Op Answer) → is_running (slot_at slots t) ≡ true → lim.beyond op ≡ false → leb lim.room (length (get_or locks t [])) ≡ false → rival th t (th.lock op) 0 locks ≡ None
        → th.apply s op ≡ Some d → lim.full s slots op ≡ false
        → outcome th lim (ready s slots locks) (Perform t op) ≡ grants d.answer (ready d.next (set slots t (running (recorded d.undo (undos_of (slot_at slots t))))) (set locks t (th.lock op ∷ get_or locks t [])))
    perform_grants op d h k l m e f = rw (low, h, k, l, m, e, f) refl

    pub fate_grants : outcome th lim (ready s slots locks) (Fate t) ≡ grants (fate_of (slot_at slots t)) (ready s slots locks)
    fate_grants = rw low refl

    aborts_by : is_running (slot_at slots t) ≡ true → outcome th lim (ready s slots locks) (Abort t) ≡ undoes th lim s slots locks t (undo_slot th s (slot_at slots t))
    aborts_by h = rw (low, h) refl

    pub abort_grants : is_running (slot_at slots t) ≡ true → (s' : th.State) → Undoing th s (slot_at slots t ∷ []) s' (undone ∷ []) → outcome th lim (ready s slots locks) (Abort t) ≡ grants tt (ready s' (set slots t undone) (set locks t []))
    abort_grants h s' u = aborts_by h ∙ ap (undoes th lim s slots locks t) (undoing_slot th u)

    pub abort_stuck : is_running (slot_at slots t) ≡ true → (s' : th.State) (undo : Op) (undos : List Op) → Undoing th s (slot_at slots t ∷ []) s' (running (undo ∷ undos) ∷ []) → th.apply s' undo ≡ None
        → outcome th lim (ready s slots locks) (Abort t) ≡ refuses (record_damaged t (length undos)) (ready s' (set slots t (running (undo ∷ undos))) locks)
    abort_stuck h s' undo undos u e = aborts_by h ∙ ap (undoes th lim s slots locks t) (undoing_slot th u ∙ slot_stuck th s' undo undos e) ∙ ap (λ q. refuses q (ready s' (set slots t (running (undo ∷ undos))) locks)) (same_place t t (length undos) refl)

    pub abort_cut : is_running (slot_at slots t) ≡ true → (s' : th.State) (x : Slot Op) → Undoing th s (slot_at slots t ∷ []) s' (x ∷ []) → Steps th lim (ready s slots locks) (Abort t) (refused darkened) (dark (intact s' (set slots t x)))
    abort_cut h s' x u = cut (abort_stopped h u)

  all_idle_free : (i : ℕ) (xs : List (Slot Op)) → AllIdle xs → stuck th lim i xs ≡ None
  all_idle_free i [] h = refl
  all_idle_free i (committed ∷ xs) h = all_idle_free (suc i) xs (λ u. h (suc u))
  all_idle_free i (undone ∷ xs) h = all_idle_free (suc i) xs (λ u. h (suc u))
  all_idle_free i (running undos ∷ xs) h = absurd (true≢false (h 0))

  stuck_at : (i t : ℕ) (xs : List (Slot Op)) (undo : Op) (undos : List Op) → IdleBelow t xs → slot_at xs t ≡ running (undo ∷ undos) → stuck th lim i xs ≡ Some (record_damaged (i + t) (length undos))
  stuck_at i t [] undo undos h e = absurd (false≢true (ap is_running e))
  stuck_at i zero (x ∷ xs) undo undos h e = subst (λ y. stuck th lim i (y ∷ xs) ≡ Some (record_damaged (i + 0) (length undos))) (sym e) (ap Some (same_place i (i + 0) (length undos) (omega arith)))
  stuck_at i (suc t) (committed ∷ xs) undo undos h e = stuck_at (suc i) t xs undo undos (λ u j. h (suc u) (omega arith)) e ∙ ap (λ n. Some (record_damaged n (length undos))) (further i t)
  stuck_at i (suc t) (undone ∷ xs) undo undos h e = stuck_at (suc i) t xs undo undos (λ u j. h (suc u) (omega arith)) e ∙ ap (λ n. Some (record_damaged n (length undos))) (further i t)
  stuck_at i (suc t) (running us ∷ xs) undo undos h e = absurd (true≢false (h 0 (omega arith)))

  module _ (s : th.State) (slots : List (Slot Op)) (s' : th.State) (slots' : List (Slot Op)) (u : Undoing th s slots s' slots') where
    pub recover_grants : AllIdle slots' → outcome th lim (due (intact s slots)) Recover ≡ grants tt (ready s' slots' (replicate lim.slots []))
    recover_grants h = ap (recovered th lim) (undoing_same th u ∙ idle_undone th s' slots' h) ∙ ap (λ q. checked (q ∷ []) (due (intact s' slots')) (grants tt (ready s' slots' (replicate lim.slots [])))) (all_idle_free 0 slots' h)

    pub recover_stuck : (t : ℕ) (undo : Op) (undos : List Op) → IdleBelow t slots' → slot_at slots' t ≡ running (undo ∷ undos) → th.apply s' undo ≡ None
        → outcome th lim (due (intact s slots)) Recover ≡ refuses (record_damaged t (length undos)) (due (intact s' slots'))
    recover_stuck t undo undos h e k =
        ap (recovered th lim) (undoing_same th u ∙ slots_stuck th t s' slots' undo undos h e k)
        ∙ ap (λ q. checked (q ∷ []) (due (intact s' slots')) (grants tt (ready s' slots' (replicate lim.slots [])))) (stuck_at 0 t slots' undo undos h e ∙ ap (λ n. Some (record_damaged n (length undos))) (from_0 t))

    pub recover_cut : Steps th lim (due (intact s slots)) Recover (refused darkened) (dark (intact s' slots'))
    recover_cut = cut (recover_stopped u)
