-- A ready manager: what a granted call does to the invariant.
use Rattle.std.proofs.Common.{◌≡◌, ℕ, ◌<◌, true, false, not, eqb, leb, List, [], ◌∷◌, ◌++◌, length, get_or, set, Some, None, sym, refl, ap, ◌∙◌, subst, inl, inr, arith, length-set}
use Rattle.std.proofs.lemmas.List.{get_or-set_same, get_or-set_other}
use Rattle.std.proofs.lemmas.Bool.{false≢true, eq-eqb, ne_eqb, cases_eq, leb-false}
use Rattle.theory.specs.Theory.{Lock, Done, Theory, Lawful}
use Rattle.theory.specs.Slots.{Slot, slot_at, is_running, undos_of, recorded, closed, undo_records, undo_slot, committed, undone, running}
use Rattle.theory.specs.Machine.{Limits, clash, rival}
use Rattle.theory.specs.History.{History, has, without, of_slot, of_others, start, accept, discard, commit_last}
use Rattle.theory.specs.Serial.{all_of}
use Rattle.theory.proofs.Log.{mine, others, plain, kept_plain, mine_others, own_others, Replays}
use Rattle.theory.proofs.Explains.{running_open, running_within, at_set, explains_begin, explains_perform, explains_commit, explains_undo_slot}
use Rattle.theory.proofs.Runs.{all_of_append, Runs, runs_append, replays_runs}
use Rattle.theory.proofs.Resolve.{has_without, has_not_without, has_start, has_started}
use Rattle.theory.proofs.Checks.{locks_of, unclashed, no_rival}
use Rattle.theory.proofs.Invariant.{Ready, Away}
use Rattle.theory.proofs.Away.{ready_away}

module _ {Op Answer : Type 0} (th : Theory Op Answer) (lim : Limits Op th.State) (law : Lawful th) where
  slot_undone : (s m : th.State) (x : Slot Op) → is_running x ≡ true → undo_records th s (undos_of x) ≡ (m, []) → undo_slot th s x ≡ (m, undone)
  slot_undone s m committed h e = absurd (false≢true h)
  slot_undone s m undone h e = absurd (false≢true h)
  slot_undone s m (running undos) h e = ap (λ p. (p.0, closed p.1)) e

  module _ (hist : History Op Answer) (s : th.State) (slots : List (Slot Op)) (locks : List (List Lock)) (r : Ready th lim law hist s slots locks) where
    pub within : (t : ℕ) → leb lim.slots t ≡ false → t < length slots
    within t h = rw r.size (leb-false lim.slots t h)

    -- what commit and abort do to the manager's own part
    pub ended_running : (t : ℕ) (x : Slot Op) → t < length slots → is_running x ≡ false → (u : ℕ) → has u (without t hist.running) ≡ is_running (slot_at (set slots t x) u)
    ended_running t x k h = at_set (λ u y. has u (without t hist.running) ≡ is_running y) slots t x k (has_not_without t hist.running ∙ sym h) (λ u n. has_without u t hist.running n ∙ r.running u)

    pub ended_locked : (t : ℕ) → t < length slots → (u : ℕ) → get_or (set locks t []) u [] ≡ locks_of th (mine u (others t r.log))
    ended_locked t k u = elim (cases_eq u t) [
      | inl e ↦ subst (λ z. get_or (set locks t []) z [] ≡ locks_of th (mine z (others t r.log))) (sym e) (get_or-set_same locks t [] [] (rw (r.room ∙ sym r.size) k) ∙ ap (locks_of th) (sym (own_others t r.log)))
      | inr n ↦ get_or-set_other locks t u [] [] n ∙ r.locked u ∙ ap (locks_of th) (sym (mine_others u t r.log n))
    ]

    pub committed_runs : (t : ℕ) (m : th.State) → Replays th r.base (mine t r.log) m → Runs th th.empty (all_of (hist.committed ++ (of_slot t hist.accepted ∷ []))) m
    committed_runs t m p =
        subst (λ l. Runs th th.empty l m) (sym (all_of_append hist.committed (of_slot t hist.accepted) ∙ ap (λ l. all_of hist.committed ++ l) (ap (of_slot t) r.accepted ∙ kept_plain (λ x. eqb x.slot t) r.log)))
        (runs_append th th.empty r.base m (all_of hist.committed) (plain (mine t r.log)) r.runs (replays_runs th r.base m (mine t r.log) p))

    pub ready_begin : (t : ℕ) → t < length slots → is_running (slot_at slots t) ≡ false → Ready th lim law (start t hist) s (set slots t (running [])) locks
    ready_begin t k idle = record {
      base = r.base;
      log = r.log;
      runs = r.runs;
      explains = explains_begin th law r.base r.log s slots r.explains t k idle;
      accepted = r.accepted;
      running = at_set (λ u x. has u (hist.running ++ (t ∷ [])) ≡ is_running x) slots t (running []) k (has_started t hist.running) (λ u n. has_start u t hist.running n ∙ r.running u);
      no_doubt = r.no_doubt;
      locked = r.locked;
      size = length-set slots t (running []) ∙ r.size;
      room = r.room;
    }

    unfoldable pub ready_perform : (t : ℕ) (op : Op) (d : Done th.State Op Answer) → is_running (slot_at slots t) ≡ true → rival th t (th.lock op) 0 locks ≡ None → th.apply s op ≡ Some d
        → Ready th lim law (accept t op d.answer hist) d.next (set slots t (running (recorded d.undo (undos_of (slot_at slots t))))) (set locks t (th.lock op ∷ get_or locks t []))
    ready_perform t op d h free e =
        let k = running_within slots t h in
        record {
          base = r.base;
          log = record { what = record { slot = t; op = op; answer = d.answer }; undo = d.undo } ∷ r.log;
          runs = r.runs;
          explains = explains_perform th law r.base r.log s slots r.explains t op d.answer d.undo d.next h
              (λ f i n. unclashed th (th.lock op) f r.log i (subst (λ l. clash th (th.lock op) l ≡ false) (r.locked f.what.slot) (no_rival th t (th.lock op) 0 locks free f.what.slot (λ q. n (omega arith))))) e;
          accepted = ap (λ l. l ++ (record { slot = t; op = op; answer = d.answer } ∷ [])) r.accepted;
          running = at_set (λ u x. has u hist.running ≡ is_running x) slots t (running (recorded d.undo (undos_of (slot_at slots t)))) k (r.running t ∙ h) (λ u n. r.running u);
          no_doubt = r.no_doubt;
          locked = λ u. elim (cases_eq u t) [
            | inl q ↦ subst (λ z. get_or (set locks t (th.lock op ∷ get_or locks t [])) z [] ≡ locks_of th (mine z (record { what = record { slot = t; op = op; answer = d.answer }; undo = d.undo } ∷ r.log))) (sym q)
                (rw (eq-eqb t t refl) (get_or-set_same locks t _ [] (rw (r.room ∙ sym r.size) k) ∙ ap (λ l. th.lock op ∷ l) (r.locked t)))
            | inr n ↦ rw (ne_eqb t u (λ w. n (sym w))) (get_or-set_other locks t u _ [] n ∙ r.locked u)
          ];
          size = length-set slots t _ ∙ r.size;
          room = length-set locks t _ ∙ r.room;
        }

    pub ready_commit : (t : ℕ) → is_running (slot_at slots t) ≡ true → Ready th lim law (commit_last t hist) s (set slots t committed) (set locks t [])
    ready_commit t h =
        let k = running_within slots t h in
        let d = explains_commit th law r.base r.log s slots r.explains t h in
        record {
          base = d.0;
          log = others t r.log;
          runs = committed_runs t d.0 d.1;
          explains = d.2;
          accepted = ap (of_others t) r.accepted ∙ kept_plain (λ x. not (eqb x.slot t)) r.log;
          running = ended_running t committed k refl;
          no_doubt = r.no_doubt;
          locked = ended_locked t k;
          size = length-set slots t committed ∙ r.size;
          room = length-set locks t [] ∙ r.room;
        }

    pub ready_abort : (t : ℕ) → is_running (slot_at slots t) ≡ true → (m : th.State) × (undo_slot th s (slot_at slots t) ≡ (m, undone)) × Ready th lim law (discard t hist) m (set slots t undone) (set locks t [])
    ready_abort t h =
        let k = running_within slots t h in
        let d = explains_undo_slot th law r.base r.log s slots r.explains t h in (
          d.0,
          slot_undone s d.0 (slot_at slots t) h d.2,
          record {
            base = r.base;
            log = others t r.log;
            runs = r.runs;
            explains = d.1;
            accepted = ap (of_others t) r.accepted ∙ kept_plain (λ x. not (eqb x.slot t)) r.log;
            running = ended_running t undone k refl;
            no_doubt = r.no_doubt;
            locked = ended_locked t k;
            size = length-set slots t undone ∙ r.size;
            room = length-set locks t [] ∙ r.room;
          },
        )

    pub ready_dark : Away th lim law hist s slots
    ready_dark = ready_away th lim law hist s slots locks r s slots r.log r.explains (λ u. running_open (slot_at slots u)) r.size
