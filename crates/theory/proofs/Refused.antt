-- What a call on a ready manager answers where a check refuses it, the checks before that one having passed.
use Rattle.std.proofs.Common.{◌≡◌, ℕ, true, false, leb, List, [], length, get_or, Some, None, refl}
use Rattle.refusal.specs.declared.Reason.TheVariants.{OutOfRange, WrongState, LimitReached, Conflict, IndexFull}
use Rattle.theory.specs.Theory.{Lock, Done, Theory}
use Rattle.theory.specs.Slots.{Slot, slot_at, is_running}
use Rattle.theory.specs.Machine.{unfit_reason, Limits, refuses, rival, by_manager, outcome, ready, Begin, Perform, Commit, Abort, Fate}

module _ {Op Answer : Type 0} (th : Theory Op Answer) (lim : Limits Op th.State) (s : th.State) (slots : List (Slot Op)) (locks : List (List Lock)) (t : ℕ) where
  module _ (high : leb lim.slots t ≡ true) where
    pub begin_no_slot : outcome th lim (ready s slots locks) (Begin t) ≡ refuses (by_manager th lim OutOfRange t) (ready s slots locks)
    begin_no_slot = rw high refl

    pub perform_no_slot : (op : Op) → outcome th lim (ready s slots locks) (Perform t op) ≡ refuses (by_manager th lim OutOfRange t) (ready s slots locks)
    perform_no_slot op = rw high refl

    pub commit_no_slot : outcome th lim (ready s slots locks) (Commit t) ≡ refuses (by_manager th lim OutOfRange t) (ready s slots locks)
    commit_no_slot = rw high refl

    pub abort_no_slot : outcome th lim (ready s slots locks) (Abort t) ≡ refuses (by_manager th lim OutOfRange t) (ready s slots locks)
    abort_no_slot = rw high refl

    pub fate_no_slot : outcome th lim (ready s slots locks) (Fate t) ≡ refuses (by_manager th lim OutOfRange t) (ready s slots locks)
    fate_no_slot = rw high refl

  module _ (low : leb lim.slots t ≡ false) where
    pub begin_not_idle : is_running (slot_at slots t) ≡ true → outcome th lim (ready s slots locks) (Begin t) ≡ refuses (by_manager th lim WrongState t) (ready s slots locks)
    begin_not_idle h = rw (low, h) refl

    pub perform_not_running : (op : Op) → is_running (slot_at slots t) ≡ false → outcome th lim (ready s slots locks) (Perform t op) ≡ refuses (by_manager th lim WrongState t) (ready s slots locks)
    perform_not_running op h = rw (low, h) refl

    pub commit_not_running : is_running (slot_at slots t) ≡ false → outcome th lim (ready s slots locks) (Commit t) ≡ refuses (by_manager th lim WrongState t) (ready s slots locks)
    commit_not_running h = rw (low, h) refl

    pub abort_not_running : is_running (slot_at slots t) ≡ false → outcome th lim (ready s slots locks) (Abort t) ≡ refuses (by_manager th lim WrongState t) (ready s slots locks)
    abort_not_running h = rw (low, h) refl

    module _ (op : Op) (runs : is_running (slot_at slots t) ≡ true) where
      pub perform_no_number : lim.beyond op ≡ true → outcome th lim (ready s slots locks) (Perform t op) ≡ refuses (by_manager th lim OutOfRange (th.lock op).number) (ready s slots locks)
      perform_no_number k = rw (low, runs, k) refl

      module _ (within : lim.beyond op ≡ false) where
        pub perform_no_room : leb lim.room (length (get_or locks t [])) ≡ true → outcome th lim (ready s slots locks) (Perform t op) ≡ refuses (by_manager th lim LimitReached t) (ready s slots locks)
        perform_no_room k = rw (low, runs, within, k) refl

        module _ (free : leb lim.room (length (get_or locks t [])) ≡ false) where
          pub perform_conflict : (u : ℕ) → rival th t (th.lock op) 0 locks ≡ Some u → outcome th lim (ready s slots locks) (Perform t op) ≡ refuses (by_manager th lim Conflict u) (ready s slots locks)
          perform_conflict u k = rw (low, runs, within, free, k) refl

          pub perform_unfit : rival th t (th.lock op) 0 locks ≡ None → th.apply s op ≡ None
              → outcome th lim (ready s slots locks) (Perform t op) ≡ refuses (by_manager th lim (unfit_reason (lim.unfit op)) (th.lock op).number) (ready s slots locks)
          perform_unfit k e = rw (low, runs, within, free, k, e) refl

          pub perform_too_full : (d : Done th.State Op Answer) → rival th t (th.lock op) 0 locks ≡ None → th.apply s op ≡ Some d → lim.full s slots op ≡ true
              → outcome th lim (ready s slots locks) (Perform t op) ≡ refuses (by_manager th lim IndexFull lim.capacity) (ready s slots locks)
          perform_too_full d k e f = rw (low, runs, within, free, k, e, f) refl
