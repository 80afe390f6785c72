-- Each call on a ready manager keeps the invariant, where power holds and where it cuts the call after some steps.
use Rattle.std.proofs.Common.{◌≡◌, ℕ, suc, ◌<◌, true, false, cond, not, leb, List, [], ◌∷◌, ◌++◌, length, get_or, take, drop, set, Some, None, Option, sym, refl, ap, ◌∙◌, subst, length-set, take-append-drop, drop-cons}
use Rattle.std.proofs.lemmas.List.{get_or-set_same, set_split}
use Rattle.std.proofs.lemmas.Bool.{false≢true, not-false}
use Rattle.refusal.specs.declared.Reason.TheVariants.{OutOfRange, WrongState, LimitReached, IndexFull}
use Rattle.refusal.specs.Refusals.{darkened}
use Rattle.theory.specs.Theory.{Lock, Done, Theory, Lawful}
use Rattle.theory.specs.Slots.{Slot, slot_at, is_running, fates, Undoing, committed, running}
use Rattle.theory.specs.Machine.{Limits, Call, Gives, Outcome, reading, checked, rival, by_manager, rivalled, begins, applies, performs, commits, undoes, aborts, tells, ready, Begin, Perform, Commit, Abort, Fate, granted, refused}
use Rattle.theory.specs.History.{History, has, without, doubt, resolve, enter}
use Rattle.theory.specs.Serial.{all_of}
use Rattle.theory.proofs.Explains.{is_committed, running_open, running_within, at_set, Explains, explains_begin, UndoneTo, undoing}
use Rattle.theory.proofs.Runs.{Runs}
use Rattle.theory.proofs.Resolve.{has_without, has_not_without, resolve_one}
use Rattle.theory.proofs.Checks.{never, refuse_keeps}
use Rattle.theory.proofs.Invariant.{Ready, Away, AwayReading, Kept}
use Rattle.theory.proofs.Away.{doubted, ready_away}
use Rattle.theory.proofs.Ready.{within, ready_begin, ready_perform, ready_commit, ready_abort}

module _ {Op Answer : Type 0} (th : Theory Op Answer) (lim : Limits Op th.State) (law : Lawful th) where
  module _ (hist : History Op Answer) (s : th.State) (slots : List (Slot Op)) (locks : List (List Lock)) (r : Ready th lim law hist s slots locks) where
    inside : (t : ℕ) → leb lim.slots t ≡ false → t < length slots
    inside = within th lim law hist s slots locks r

    -- A ready manager's calls where power holds.
    abbrev After : (c : Call Op) → Outcome Op th.State (Gives Answer c) → Type 0
    After c o = Kept th lim law hist c o

    pub keep_begin : (t : ℕ) → After (Begin t) (begins th lim s slots locks t)
    keep_begin t =
        refuse_keeps (After (Begin t)) (leb lim.slots t) (by_manager th lim OutOfRange t) (ready s slots locks) _ _ r λ k.
        refuse_keeps (After (Begin t)) (is_running (slot_at slots t)) (by_manager th lim WrongState t) (ready s slots locks) _ _ r λ idle.
        ready_begin th lim law hist s slots locks r t (inside t k) idle

    pub keep_perform : (t : ℕ) (op : Op) → After (Perform t op) (performs th lim s slots locks t op)
    keep_perform t op =
        refuse_keeps (After (Perform t op)) (leb lim.slots t) (by_manager th lim OutOfRange t) (ready s slots locks) _ _ r λ k.
        refuse_keeps (After (Perform t op)) (not (is_running (slot_at slots t))) (by_manager th lim WrongState t) (ready s slots locks) _ _ r λ h.
        refuse_keeps (After (Perform t op)) (lim.beyond op) (by_manager th lim OutOfRange (th.lock op).number) (ready s slots locks) _ _ r λ _.
        refuse_keeps (After (Perform t op)) (leb lim.room (length (get_or locks t []))) (by_manager th lim LimitReached t) (ready s slots locks) _ _ r λ _.
        alone (not-false _ h) (rival th t (th.lock op) 0 locks) refl
      where
        applied : is_running (slot_at slots t) ≡ true → rival th t (th.lock op) 0 locks ≡ None → (o : Option (Done th.State Op Answer)) → th.apply s op ≡ o → After (Perform t op) (applies th lim s slots locks t op o)
        applied h free None e = r
        applied h free (Some d) e = refuse_keeps (After (Perform t op)) (lim.full s slots op) (by_manager th lim IndexFull lim.capacity) (ready s slots locks) _ _ r λ _. ready_perform th lim law hist s slots locks r t op d h free e

        alone : is_running (slot_at slots t) ≡ true → (q : Option ℕ) → rival th t (th.lock op) 0 locks ≡ q → After (Perform t op) (checked (rivalled th lim q ∷ []) (ready s slots locks) (applies th lim s slots locks t op (th.apply s op)))
        alone h None e = applied h e (th.apply s op) refl
        alone h (Some u) e = r

    pub keep_commit : (t : ℕ) → After (Commit t) (commits th lim s slots locks t)
    keep_commit t =
        refuse_keeps (After (Commit t)) (leb lim.slots t) (by_manager th lim OutOfRange t) (ready s slots locks) _ _ r λ k.
        refuse_keeps (After (Commit t)) (not (is_running (slot_at slots t))) (by_manager th lim WrongState t) (ready s slots locks) _ _ r λ h.
        ready_commit th lim law hist s slots locks r t (not-false _ h)

    pub keep_abort : (t : ℕ) → After (Abort t) (aborts th lim s slots locks t)
    keep_abort t =
        refuse_keeps (After (Abort t)) (leb lim.slots t) (by_manager th lim OutOfRange t) (ready s slots locks) _ _ r λ k.
        refuse_keeps (After (Abort t)) (not (is_running (slot_at slots t))) (by_manager th lim WrongState t) (ready s slots locks) _ _ r λ h.
        let a = ready_abort th lim law hist s slots locks r t (not-false _ h) in
        subst (λ p. After (Abort t) (undoes th lim s slots locks t p)) (sym a.1) a.2

    pub keep_fate : (t : ℕ) → After (Fate t) (tells th lim s slots locks t)
    keep_fate t = refuse_keeps (After (Fate t)) (leb lim.slots t) (by_manager th lim OutOfRange t) (ready s slots locks) _ _ r λ k. r

    -- One group that power cut after it was done.
    abbrev Left : (c : Call Op) → Outcome Op th.State (Gives Answer c) → Type 0
    Left c o = (g : Gives Answer c) → o.reply ≡ granted g → AwayReading th lim law (enter c (refused darkened) [] hist) (reading o.view)

    still_open : (t : ℕ) (x : Slot Op) → t < length slots → is_committed x ≡ false → (u : ℕ) → is_running (slot_at slots u) ≡ true → is_committed (slot_at (set slots t x) u) ≡ false
    still_open t x k h = at_set (λ u y. is_running (slot_at slots u) ≡ true → is_committed y ≡ false) slots t x k (λ _. h) (λ u n. running_open (slot_at slots u))

    pub left_begin : (t : ℕ) → Left (Begin t) (begins th lim s slots locks t)
    left_begin t =
        refuse_keeps (Left (Begin t)) (leb lim.slots t) (by_manager th lim OutOfRange t) (ready s slots locks) _ _ (never (by_manager th lim OutOfRange t)) λ k.
        refuse_keeps (Left (Begin t)) (is_running (slot_at slots t)) (by_manager th lim WrongState t) (ready s slots locks) _ _ (never (by_manager th lim WrongState t)) λ idle g e.
        ready_away th lim law hist s slots locks r s (set slots t (running [])) r.log
        (explains_begin th law r.base r.log s slots r.explains t (inside t k) idle)
        (still_open t (running []) (inside t k) refl) (length-set slots t (running []) ∙ r.size)

    pub left_perform : (t : ℕ) (op : Op) → Left (Perform t op) (performs th lim s slots locks t op)
    unfolding ready_perform
    left_perform t op =
        refuse_keeps (Left (Perform t op)) (leb lim.slots t) (by_manager th lim OutOfRange t) (ready s slots locks) _ _ (never _) λ k.
        refuse_keeps (Left (Perform t op)) (not (is_running (slot_at slots t))) (by_manager th lim WrongState t) (ready s slots locks) _ _ (never _) λ h.
        refuse_keeps (Left (Perform t op)) (lim.beyond op) (by_manager th lim OutOfRange (th.lock op).number) (ready s slots locks) _ _ (never _) λ _.
        refuse_keeps (Left (Perform t op)) (leb lim.room (length (get_or locks t []))) (by_manager th lim LimitReached t) (ready s slots locks) _ _ (never _) λ _.
        alone (inside t k) (not-false _ h) (rival th t (th.lock op) 0 locks) refl
      where
        applied : t < length slots → is_running (slot_at slots t) ≡ true → rival th t (th.lock op) 0 locks ≡ None → (o : Option (Done th.State Op Answer)) → th.apply s op ≡ o → Left (Perform t op) (applies th lim s slots locks t op o)
        applied k h free None e = never _
        applied k h free (Some d) e =
            refuse_keeps (Left (Perform t op)) (lim.full s slots op) (by_manager th lim IndexFull lim.capacity) (ready s slots locks) _ _ (never _) λ _ g q.
            let next = ready_perform th lim law hist s slots locks r t op d h free e in
            ready_away th lim law hist s slots locks r d.next _ next.log next.explains (still_open t _ k refl) next.size

        alone : t < length slots → is_running (slot_at slots t) ≡ true → (q : Option ℕ) → rival th t (th.lock op) 0 locks ≡ q → Left (Perform t op) (checked (rivalled th lim q ∷ []) (ready s slots locks) (applies th lim s slots locks t op (th.apply s op)))
        alone k h None e = applied k h e (th.apply s op) refl
        alone k h (Some u) e = never _

    pub left_commit : (t : ℕ) → Left (Commit t) (commits th lim s slots locks t)
    left_commit t =
        refuse_keeps (Left (Commit t)) (leb lim.slots t) (by_manager th lim OutOfRange t) (ready s slots locks) _ _ (never _) λ k.
        refuse_keeps (Left (Commit t)) (not (is_running (slot_at slots t))) (by_manager th lim WrongState t) (ready s slots locks) _ _ (never _) λ h g e.
        counted (inside t k) (not-false _ h)
      where
        counted : t < length slots → is_running (slot_at slots t) ≡ true → Away th lim law (doubt t hist) s (set slots t committed)
        counted k h =
            let next = ready_commit th lim law hist s slots locks r t h in
            subst (λ v. Away th lim law (cond v (doubted t hist) hist) s (set slots t committed)) (sym (r.running t ∙ h)) (record {
              base = next.base;
              log = next.log;
              runs = subst (λ ts. Runs th th.empty (all_of (resolve (fates (set slots t committed)) (ts ++ (t ∷ [])) (doubted t hist)).committed) next.base) (sym r.no_doubt)
                  (subst (λ l. Runs th th.empty (all_of l) next.base) (sym (resolve_one (set slots t committed) t (ap is_committed (get_or-set_same slots t committed committed k)) (doubted t hist))) next.runs);
              explains = next.explains;
              unclosed = at_set (λ u x. has u (without t hist.running) ≡ true → is_committed x ≡ false) slots t committed k
                  (λ q. absurd (false≢true (sym (has_not_without t hist.running) ∙ q)))
                  (λ u n q. running_open (slot_at slots u) (sym (r.running u) ∙ sym (has_without u t hist.running n) ∙ q));
              size = next.size;
            })

    -- Abort that power cut after any step.
    pub left_abort : (t : ℕ) (s' : th.State) (x : Slot Op) → is_running (slot_at slots t) ≡ true → Undoing th s (slot_at slots t ∷ []) s' (x ∷ []) → Away th lim law hist s' (set slots t x)
    left_abort t s' x h u =
        let k = running_within slots t h in
        let was : take t slots ++ (slot_at slots t ∷ drop (suc t) slots) ≡ slots = ap (λ l. take t slots ++ l) (sym (drop-cons slots t committed k)) ∙ take-append-drop t slots in
        let d = undoing th law r.base u (take t slots) (drop (suc t) slots) r.log (subst (λ l. Explains th law r.base r.log s l) (sym was) r.explains) in
        let e = subst (λ l. UndoneTo th law r.base l s' (set slots t x)) was (subst (λ l. UndoneTo th law r.base (take t slots ++ (slot_at slots t ∷ drop (suc t) slots)) s' l) (sym (set_split slots t x k)) d) in
        ready_away th lim law hist s slots locks r s' (set slots t x) e.log e.explains (λ v q. e.alike.same v ∙ running_open (slot_at slots v) q) (sym e.alike.size ∙ r.size)
