-- A call is refused as dark exactly if the manager is dark after it.
use Rattle.std.proofs.Common.{◌≡◌, ℕ, suc, Bool, false, not, leb, List, [], ◌∷◌, length, get_or, Some, None, Option, sym, refl}
use Rattle.refusal.specs.declared.Reason.TheVariants.{OutOfRange, WrongState, LimitReached, IndexFull}
use Rattle.refusal.specs.declared.Refusal.{Refusal}
use Rattle.theory.specs.Theory.{Lock, Done, Theory}
use Rattle.theory.specs.Slots.{Slot, slot_at, is_running, undo_slot, undo_slots, committed, undone, running}
use Rattle.theory.specs.Machine.{Unfit, unfit_reason, Limits, View, Call, Reply, Gives, is_dark, refused_dark, Outcome, refuse_if, dark_view, checked, rival, by_manager, no_slot, not_running, rivalled, stuck, applies, outcome, Steps, DarkIsAnswered, present, absent, damaged, intact, ready, dark, due, Begin, Perform, Commit, Abort, Power, Recover, Fate, powered, cut}
use Rattle.theory.proofs.Checks.{refuse_keeps}

unfit_not_dark : (u : Unfit) → is_dark (unfit_reason u) ≡ false
unfit_not_dark present = refl
unfit_not_dark absent = refl

module _ {Op Answer : Type 0} (th : Theory Op Answer) (lim : Limits Op th.State) where
  abbrev Agrees : (A : Type 0) → Outcome Op th.State A → Type 0
  Agrees A o = refused_dark o.reply ≡ dark_view o.view

  stuck_agrees : (i : ℕ) (xs : List (Slot Op)) (v : View Op th.State) (o : Outcome Op th.State (Unit {0})) → dark_view v ≡ false → Agrees (Unit {0}) o → Agrees (Unit {0}) (checked (stuck th lim i xs ∷ []) v o)
  stuck_agrees i [] v o h k = k
  stuck_agrees i (committed ∷ xs) v o h k = stuck_agrees (suc i) xs v o h k
  stuck_agrees i (undone ∷ xs) v o h k = stuck_agrees (suc i) xs v o h k
  stuck_agrees i (running undos ∷ xs) v o h k = sym h

  module _ (s : th.State) (slots : List (Slot Op)) (locks : List (List Lock)) where
    -- a check of a ready manager, which never refuses as dark
    passes : (A : Type 0) (test : Bool) (r : Refusal) (checks : List (Option Refusal)) (o : Outcome Op th.State A) → is_dark r.reason ≡ false → Agrees A (checked checks (ready s slots locks) o)
        → Agrees A (checked (refuse_if test r ∷ checks) (ready s slots locks) o)
    passes A test r checks o h k = refuse_keeps (Agrees A) test r (ready s slots locks) checks o h (λ _. k)

    on_running : (A : Type 0) (t : ℕ) (checks : List (Option Refusal)) (o : Outcome Op th.State A) → Agrees A (checked checks (ready s slots locks) o)
        → Agrees A (checked (no_slot th lim t ∷ not_running th lim slots t ∷ checks) (ready s slots locks) o)
    on_running A t checks o k = passes A (leb lim.slots t) (by_manager th lim OutOfRange t) _ o refl (passes A (not (is_running (slot_at slots t))) (by_manager th lim WrongState t) checks o refl k)

    applied : (t : ℕ) (op : Op) (d : Option (Done th.State Op Answer)) → Agrees Answer (applies th lim s slots locks t op d)
    applied t op None = unfit_not_dark (lim.unfit op)
    applied t op (Some d) = passes Answer (lim.full s slots op) (by_manager th lim IndexFull lim.capacity) _ _ refl refl

    alone : (t : ℕ) (op : Op) (q : Option ℕ) → Agrees Answer (checked (rivalled th lim q ∷ []) (ready s slots locks) (applies th lim s slots locks t op (th.apply s op)))
    alone t op None = applied t op (th.apply s op)
    alone t op (Some u) = refl

    ready_agrees : (c : Call Op) → Agrees (Gives Answer c) (outcome th lim (ready s slots locks) c)
    ready_agrees (Begin t) = passes (Unit {0}) (leb lim.slots t) (by_manager th lim OutOfRange t) _ _ refl (passes (Unit {0}) (is_running (slot_at slots t)) (by_manager th lim WrongState t) _ _ refl refl)
    ready_agrees (Perform t op) =
        on_running Answer t _ _
        (passes Answer (lim.beyond op) (by_manager th lim OutOfRange (th.lock op).number) _ _ refl
        (passes Answer (leb lim.room (length (get_or locks t []))) (by_manager th lim LimitReached t) _ _ refl
        (alone t op (rival th t (th.lock op) 0 locks))))
    ready_agrees (Commit t) = on_running (Unit {0}) t _ _ refl
    ready_agrees (Abort t) = on_running (Unit {0}) t _ _ (stuck_agrees t ((undo_slot th s (slot_at slots t)).1 ∷ []) _ _ refl refl)
    ready_agrees (Power c) = refl
    ready_agrees Recover = refl
    ready_agrees (Fate t) = passes ℕ (leb lim.slots t) (by_manager th lim OutOfRange t) _ _ refl refl

  agrees : (v : View Op th.State) (c : Call Op) → Agrees (Gives Answer c) (outcome th lim v c)
  agrees (ready s slots locks) c = ready_agrees s slots locks c
  agrees (dark r) (Begin t) = refl
  agrees (dark r) (Perform t op) = refl
  agrees (dark r) (Commit t) = refl
  agrees (dark r) (Abort t) = refl
  agrees (dark r) (Power c) = refl
  agrees (dark r) Recover = refl
  agrees (dark r) (Fate t) = refl
  agrees (due r) (Begin t) = refl
  agrees (due r) (Perform t op) = refl
  agrees (due r) (Commit t) = refl
  agrees (due r) (Abort t) = refl
  agrees (due r) (Power c) = refl
  agrees (due (damaged layer place)) Recover = refl
  agrees (due (intact s slots)) Recover = stuck_agrees 0 (undo_slots th s slots).1 _ _ refl refl
  agrees (due r) (Fate t) = refl

  pub dark_answered : DarkIsAnswered th lim
  dark_answered v c reply v' k = go k
    where
      go : {x y : View Op th.State} {d : Call Op} {q : Reply (Gives Answer d)} → Steps th lim x d q y → refused_dark q ≡ dark_view y
      go (powered {v = x} {c = d}) = agrees x d
      go (cut j) = refl
