-- Recovery keeps the invariant, and is granted.
use Rattle.std.proofs.Common.{◌≡◌, ℕ, suc, List, [], ◌∷◌, ◌++◌, length, set, replicate, Some, None, Option, sym, refl, ap, ◌∙◌, subst, append_assoc}
use lib.ListN.{length-replicate}
use Rattle.std.proofs.lemmas.List.{set_at}
use Rattle.refusal.specs.declared.Refusal.{Refusal}
use Rattle.theory.specs.Theory.{Theory, Lawful}
use Rattle.theory.specs.Slots.{Slot, slot_at, is_running, undos_of, fates, AllIdle, undo_records, undo_slots, Undoing, committed, undone, running}
use Rattle.theory.specs.Machine.{Limits, Reading, Outcome, checked, stuck, recovered, recovers, damaged, intact, ready, due, Recover, granted}
use Rattle.theory.specs.History.{History, has, resolve}
use Rattle.theory.proofs.Log.{Entry, mine, others, nothing_left}
use Rattle.theory.proofs.Explains.{replicate_default, idle_free, Explains, explains_undo_slot, at_length, after_records, undo_steps}
use Rattle.theory.proofs.Resolve.{resolve_in_doubt, resolve_running, resolve_accepted}
use Rattle.theory.proofs.Checks.{none_stuck}
use Rattle.theory.proofs.Invariant.{OnlyDoubted, Ready, Away, AwayReading, Kept}
use Rattle.theory.proofs.Away.{away_undone, whole}

module _ {Op Answer : Type 0} (th : Theory Op Answer) (lim : Limits Op th.State) (law : Lawful th) where
  -- Recovery where power holds.
  pub recovered_ready : (hist : History Op Answer) (s : th.State) (slots : List (Slot Op)) → Away th lim law hist s slots → OnlyDoubted hist → AllIdle slots
      → Ready th lim law (resolve (fates slots) hist.in_doubt hist) s slots (replicate lim.slots [])
  recovered_ready hist s slots a k idle =
      let empty : a.log ≡ [] = nothing_left a.log (λ u. idle_free (mine u a.log) (slot_at slots u) (idle u) (a.explains.matches u)) in
      record {
        base = a.base;
        log = [];
        runs = a.runs;
        explains = subst (λ l. Explains th law a.base l s slots) empty a.explains;
        accepted = resolve_accepted (fates slots) hist.in_doubt hist k.1;
        running = λ u. ap (has u) (resolve_running (fates slots) hist.in_doubt hist k.0) ∙ sym (idle u);
        no_doubt = resolve_in_doubt (fates slots) hist.in_doubt hist;
        locked = λ u. replicate_default lim.slots u [];
        size = a.size;
        room = length-replicate lim.slots [];
      }

  pub keep_recover : (hist : History Op Answer) (r : Reading Op th.State) → AwayReading th lim law hist r → OnlyDoubted hist → Kept th lim law hist Recover (recovers th lim r)
  keep_recover hist (damaged layer place) a k = elim a [ ]
  keep_recover hist (intact s slots) a k = go (undo_slots th s slots) (undo_steps th slots s)
    where
      go : (p : th.State × List (Slot Op)) → Undoing th s slots p.0 p.1 → Kept th lim law hist Recover (recovered th lim p)
      go p u = ends (stuck th lim 0 p.1) refl
        where
          there : Away th lim law hist p.0 p.1
          there = away_undone th lim law hist s p.0 slots p.1 a (whole th lim law a.base s p.0 a.log slots p.1 a.explains u)

          result : Option Refusal → Outcome Op th.State (Unit {0})
          result q = checked (q ∷ []) (due (intact p.0 p.1)) (record { reply = granted tt; view = ready p.0 p.1 (replicate lim.slots []) })

          ends : (q : Option Refusal) → stuck th lim 0 p.1 ≡ q → Kept th lim law hist Recover (result q)
          ends None e = recovered_ready hist p.0 p.1 there k (none_stuck th lim 0 p.1 e)
          ends (Some f) e = (there, k)

  -- Every undo record that recovery meets applies.
  pub all_undone : (base : th.State) (front xs : List (Slot Op)) (log : List (Entry Op Answer)) (s : th.State) → Explains th law base log s (front ++ xs) → (i : ℕ) → stuck th lim i (undo_slots th s xs).1 ≡ None
  all_undone base front [] log s d i = refl
  all_undone base front (committed ∷ xs) log s d i = all_undone base (front ++ (committed ∷ [])) xs log s (rw append_assoc d) (suc i)
  all_undone base front (undone ∷ xs) log s d i = all_undone base (front ++ (undone ∷ [])) xs log s (rw append_assoc d) (suc i)
  all_undone base front (running undos ∷ xs) log s d i =
      let all = front ++ (running undos ∷ xs) in
      let here : slot_at all (length front) ≡ running undos = at_length th law front (running undos) xs in
      let u = explains_undo_slot th law base log s all d (length front) (ap is_running here) in
      let e : set all (length front) undone ≡ front ++ (undone ∷ xs) = set_at front (running undos) xs undone (length front) refl in
      let q : undo_records th s undos ≡ (u.0, []) = ap (λ x. undo_records th s (undos_of x)) (sym here) ∙ u.2 in
      let rest = all_undone base (front ++ (undone ∷ [])) xs (others (length front) log) u.0 (rw append_assoc (rw e at u.1)) (suc i) in
      subst (λ p. stuck th lim i (after_records th xs p).1 ≡ None) (sym q) rest
