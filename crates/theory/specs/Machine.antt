-- The transaction manager over a level: what each call answers and leaves, where power holds and where it goes.
use Rattle.std.specs.Prelude.{◌≡◌, ℕ, suc, ◌-◌, Bool, true, false, cond, not, ◌&&◌, ◌||◌, List, [], ◌∷◌, length, replicate, Some, None, Ok, Err, Option, Result, ◌==◌, nat_le, slice_index_or, slice_set}
use Rattle.refusal.specs.declared.Reason.{Reason}
use Rattle.refusal.specs.declared.Reason.TheVariants.{Dark, RecoveryDue, OutOfRange, WrongState, LimitReached, Conflict, KeyPresent, KeyAbsent, IndexFull, Damaged, Unreadable, WrongSize}
use Rattle.refusal.specs.declared.Refusal.{Refusal}
use Rattle.refusal.specs.Refusals.{refusal, darkened}
use Rattle.theory.specs.Theory.{Lock, Done, Theory}
use Rattle.theory.specs.Slots.{Slot, committed, undone, running, slot_at, is_running, undos_of, fate_of, recorded, undo_slot, undo_slots, Undoing}

-- Why an operation does not apply: its key is there, or is not.
pub data Unfit : Type 0 where
  present : Unfit
  absent : Unfit

abbrev pub unfit_reason : Unfit → Reason
unfit_reason present = KeyPresent
unfit_reason absent = KeyAbsent

-- What a level's limits and layout add to its theory.
pub record Limits (Op State : Type 0) : Type 0 where
  -- the level's layer, the disk being 0; its manager is the next
  pub layer : ℕ
  pub slots : ℕ
  -- how many operations a transaction may have
  pub room : ℕ
  -- whether the operation's number is beyond the last
  pub beyond : Op → Bool
  pub unfit : Op → Unfit
  -- whether the level is too full for the operation, and the place that the refusal then has
  pub full : State → List (Slot Op) → Op → Bool
  pub capacity : ℕ
  -- the place of undo record j of slot t, the oldest being record 0
  pub record_place : (t j : ℕ) → ℕ

-- What the blocks of the disk say of the level: its state and slots, or damage, by the layer that finds it and the place.
pub data Reading (Op State : Type 0) : Type 0 where
  damaged : (layer place : ℕ) → Reading Op State
  intact : State → List (Slot Op) → Reading Op State

-- The manager. Ready, it has for each slot the locks of its transaction, newest first. Dark, or with recovery due, it has none.
pub data View (Op State : Type 0) : Type 0 where
  ready : State → (slots : List (Slot Op)) → (locks : List (List Lock)) → View Op State
  dark : Reading Op State → View Op State
  due : Reading Op State → View Op State

-- A call; t is the number of a slot.
pub data Call (Op : Type 0) : Type 0 where
  Begin : (t : ℕ) → Call Op
  Perform : (t : ℕ) → Op → Call Op
  Commit : (t : ℕ) → Call Op
  Abort : (t : ℕ) → Call Op
  Power : (charge : ℕ) → Call Op
  Recover : Call Op
  Fate : (t : ℕ) → Call Op

pub data Reply (A : Type 0) : Type 0 where
  granted : A → Reply A
  refused : Refusal → Reply A

-- the reply that a result of the code is
abbrev pub replied : {A : Type 0} → Result A Refusal → Reply A
replied (Ok a) = granted a
replied (Err r) = refused r

-- What a granted call answers: an operation its answer, fate a number, the others nothing more.
abbrev pub Gives : {Op : Type 0} → Type 0 → Call Op → Type 0
Gives Answer (Begin t) = Unit {0}
Gives Answer (Perform t op) = Answer
Gives Answer (Commit t) = Unit {0}
Gives Answer (Abort t) = Unit {0}
Gives Answer (Power c) = Unit {0}
Gives Answer Recover = Unit {0}
Gives Answer (Fate t) = ℕ

abbrev pub is_dark : Reason → Bool
is_dark Dark = true
is_dark RecoveryDue = false
is_dark OutOfRange = false
is_dark WrongState = false
is_dark LimitReached = false
is_dark Conflict = false
is_dark KeyPresent = false
is_dark KeyAbsent = false
is_dark IndexFull = false
is_dark Damaged = false
is_dark Unreadable = false
is_dark WrongSize = false

abbrev pub refused_dark : {A : Type 0} → Reply A → Bool
refused_dark (granted a) = false
refused_dark (refused r) = is_dark r.reason

pub record Outcome (Op State A : Type 0) : Type 0 where
  pub reply : Reply A
  pub view : View Op State

abbrev pub refuse_if : Bool → Refusal → Option Refusal
refuse_if test r = cond test (Some r) None

module _ {Op State : Type 0} where
  -- what the blocks say, whatever the manager's phase
  abbrev pub reading : View Op State → Reading Op State
  reading (ready s slots locks) = intact s slots
  reading (dark r) = r
  reading (due r) = r

  abbrev pub dark_view : View Op State → Bool
  dark_view (ready s slots locks) = false
  dark_view (dark r) = true
  dark_view (due r) = false

  abbrev pub grants : {A : Type 0} → A → View Op State → Outcome Op State A
  grants a v = record { reply = granted a; view = v }

  abbrev pub refuses : {A : Type 0} → Refusal → View Op State → Outcome Op State A
  refuses r v = record { reply = refused r; view = v }

  -- the outcome, unless a check refuses: the first that does decides, and leaves the view as given
  abbrev pub checked : {A : Type 0} → List (Option Refusal) → View Op State → Outcome Op State A → Outcome Op State A
  checked [] v o = o
  checked (None ∷ checks) v o = checked checks v o
  checked (Some r ∷ checks) v o = refuses r v

module _ {Op Answer : Type 0} (th : Theory Op Answer) where
  -- whether one of the locks conflicts with l
  abbrev pub clash : Lock → List Lock → Bool
  clash l [] = false
  clash l (x ∷ xs) = th.conflict l x || clash l xs

  -- the lowest slot other than t, counted from i, that has a lock in conflict with l
  abbrev pub rival : ℕ → Lock → ℕ → List (List Lock) → Option ℕ
  rival t l i [] = None
  rival t l i (x ∷ xs) = cond (not (i == t) && clash l x) (Some i) (rival t l (suc i) xs)

module _ {Op Answer : Type 0} (th : Theory Op Answer) (lim : Limits Op th.State) where
  -- A new stack: recovery is due, the state is empty and all slots are committed.
  abbrev pub fresh : View Op th.State
  fresh = due (intact th.empty (replicate lim.slots committed))

  -- a refusal by the manager itself
  abbrev pub by_manager : Reason → ℕ → Refusal
  by_manager reason place = refusal reason (suc lim.layer) place

  -- The checks of a call on a ready manager.
  abbrev pub no_slot : ℕ → Option Refusal
  no_slot t = refuse_if (nat_le lim.slots t) (by_manager OutOfRange t)

  abbrev pub not_idle : List (Slot Op) → ℕ → Option Refusal
  not_idle slots t = refuse_if (is_running (slot_at slots t)) (by_manager WrongState t)

  abbrev pub not_running : List (Slot Op) → ℕ → Option Refusal
  not_running slots t = refuse_if (not (is_running (slot_at slots t))) (by_manager WrongState t)

  abbrev pub no_number : Op → Option Refusal
  no_number op = refuse_if (lim.beyond op) (by_manager OutOfRange (th.lock op).number)

  abbrev pub no_room : List (List Lock) → ℕ → Option Refusal
  no_room locks t = refuse_if (nat_le lim.room (length (slice_index_or locks t []))) (by_manager LimitReached t)

  abbrev pub rivalled : Option ℕ → Option Refusal
  rivalled None = None
  rivalled (Some u) = Some (by_manager Conflict u)

  abbrev pub too_full : th.State → List (Slot Op) → Op → Option Refusal
  too_full s slots op = refuse_if (lim.full s slots op) (by_manager IndexFull lim.capacity)

  -- The slots, counted from i, after undoing: one that still runs has a newest record that does not apply.
  abbrev pub stuck : ℕ → List (Slot Op) → Option Refusal
  stuck i [] = None
  stuck i (committed ∷ xs) = stuck (suc i) xs
  stuck i (undone ∷ xs) = stuck (suc i) xs
  stuck i (running undos ∷ xs) = Some (refusal Damaged lim.layer (lim.record_place i (length undos - 1)))

  -- The calls on a ready manager.
  module _ (s : th.State) (slots : List (Slot Op)) (locks : List (List Lock)) where
    abbrev pub stay : View Op th.State
    stay = ready s slots locks

    abbrev pub begins : ℕ → Outcome Op th.State (Unit {0})
    begins t = checked (no_slot t ∷ not_idle slots t ∷ []) stay (grants tt (ready s (slice_set slots t (running [])) locks))

    abbrev pub applies : ℕ → Op → Option (Done th.State Op Answer) → Outcome Op th.State Answer
    applies t op None = refuses (by_manager (unfit_reason (lim.unfit op)) (th.lock op).number) stay
    applies t op (Some d) =
        checked (too_full s slots op ∷ []) stay
        (grants d.answer (ready d.next (slice_set slots t (running (recorded d.undo (undos_of (slot_at slots t))))) (slice_set locks t (th.lock op ∷ slice_index_or locks t []))))

    abbrev pub performs : ℕ → Op → Outcome Op th.State Answer
    performs t op =
        checked (no_slot t ∷ not_running slots t ∷ no_number op ∷ no_room locks t ∷ rivalled (rival th t (th.lock op) 0 locks) ∷ []) stay
        (applies t op (th.apply s op))

    abbrev pub commits : ℕ → Outcome Op th.State (Unit {0})
    commits t = checked (no_slot t ∷ not_running slots t ∷ []) stay (grants tt (ready s (slice_set slots t committed) (slice_set locks t [])))

    abbrev pub undoes : ℕ → th.State × Slot Op → Outcome Op th.State (Unit {0})
    undoes t u = checked (stuck t (u.1 ∷ []) ∷ []) (ready u.0 (slice_set slots t u.1) locks) (grants tt (ready u.0 (slice_set slots t u.1) (slice_set locks t [])))

    abbrev pub aborts : ℕ → Outcome Op th.State (Unit {0})
    aborts t = checked (no_slot t ∷ not_running slots t ∷ []) stay (undoes t (undo_slot th s (slot_at slots t)))

    abbrev pub tells : ℕ → Outcome Op th.State ℕ
    tells t = checked (no_slot t ∷ []) stay (grants (fate_of (slot_at slots t)) stay)

  -- Recovery where it is due.
  abbrev pub recovered : th.State × List (Slot Op) → Outcome Op th.State (Unit {0})
  recovered u = checked (stuck 0 u.1 ∷ []) (due (intact u.0 u.1)) (grants tt (ready u.0 u.1 (replicate lim.slots [])))

  abbrev pub recovers : Reading Op th.State → Outcome Op th.State (Unit {0})
  recovers (damaged layer place) = refuses (refusal Damaged layer place) (due (damaged layer place))
  recovers (intact s slots) = recovered (undo_slots th s slots)

  -- What a call answers and leaves where power holds until its end.
  abbrev pub outcome : View Op th.State → (c : Call Op) → Outcome Op th.State (Gives Answer c)
  outcome (ready s slots locks) (Begin t) = begins s slots locks t
  outcome (ready s slots locks) (Perform t op) = performs s slots locks t op
  outcome (ready s slots locks) (Commit t) = commits s slots locks t
  outcome (ready s slots locks) (Abort t) = aborts s slots locks t
  outcome (ready s slots locks) (Power c) = grants tt (due (intact s slots))
  outcome (ready s slots locks) Recover = refuses (by_manager WrongState 0) (ready s slots locks)
  outcome (ready s slots locks) (Fate t) = tells s slots locks t
  outcome (dark r) (Begin t) = refuses darkened (dark r)
  outcome (dark r) (Perform t op) = refuses darkened (dark r)
  outcome (dark r) (Commit t) = refuses darkened (dark r)
  outcome (dark r) (Abort t) = refuses darkened (dark r)
  outcome (dark r) (Power c) = grants tt (due r)
  outcome (dark r) Recover = refuses darkened (dark r)
  outcome (dark r) (Fate t) = refuses darkened (dark r)
  outcome (due r) (Begin t) = refuses (by_manager RecoveryDue 0) (due r)
  outcome (due r) (Perform t op) = refuses (by_manager RecoveryDue 0) (due r)
  outcome (due r) (Commit t) = refuses (by_manager RecoveryDue 0) (due r)
  outcome (due r) (Abort t) = refuses (by_manager RecoveryDue 0) (due r)
  outcome (due r) (Power c) = grants tt (due r)
  outcome (due r) Recover = recovers r
  outcome (due r) (Fate t) = refuses (by_manager RecoveryDue 0) (due r)

  -- whether the operation writes: one that only reads opens no group of the store below
  abbrev pub changes : Reading Op th.State → Op → Bool
  changes (damaged layer place) op = false
  changes (intact s slots) op = elim (th.apply s op) [ None ↦ false | Some d ↦ elim d.undo [ None ↦ false | Some undo ↦ true ] ]

  -- Begin, commit and an operation that writes are one group of the store below.
  abbrev pub one_group : Reading Op th.State → Call Op → Bool
  one_group r (Begin t) = true
  one_group r (Perform t op) = changes r op
  one_group r (Commit t) = true
  one_group r (Abort t) = false
  one_group r (Power c) = false
  one_group r Recover = false
  one_group r (Fate t) = false

  -- What the blocks may say after a call that found the disk powered and in which power went. A call that a check refuses writes nothing, so it is
  -- not cut. A group is done wholly or not at all; abort and recover stop after any of their steps.
  pub data Cut : View Op th.State → Call Op → Reading Op th.State → Type 0 where
    not_done : {v : View Op th.State} {c : Call Op} {g : Gives Answer c} → one_group (reading v) c ≡ true → (outcome v c).reply ≡ granted g → Cut v c (reading v)
    done : {v : View Op th.State} {c : Call Op} {g : Gives Answer c} → one_group (reading v) c ≡ true → (outcome v c).reply ≡ granted g → Cut v c (reading (outcome v c).view)
    abort_stopped : {s s' : th.State} {slots : List (Slot Op)} {locks : List (List Lock)} {t : ℕ} {x : Slot Op} → is_running (slot_at slots t) ≡ true → Undoing th s (slot_at slots t ∷ []) s' (x ∷ [])
        → Cut (ready s slots locks) (Abort t) (intact s' (slice_set slots t x))
    recover_stopped : {s s' : th.State} {slots slots' : List (Slot Op)} → Undoing th s slots s' slots' → Cut (due (intact s slots)) Recover (intact s' slots')
    -- while the store below recovers, before the damage is found
    damage_stays : {layer place : ℕ} → Cut (due (damaged layer place)) Recover (damaged layer place)

  -- A call on a manager with the view v may answer so and leave the view v': as where power holds, or, cut, refused as dark and with a dark manager.
  pub data Steps : View Op th.State → (c : Call Op) → Reply (Gives Answer c) → View Op th.State → Type 0 where
    powered : {v : View Op th.State} {c : Call Op} → Steps v c (outcome v c).reply (outcome v c).view
    cut : {v : View Op th.State} {c : Call Op} {r : Reading Op th.State} → Cut v c r → Steps v c (refused darkened) (dark r)

  -- A call is refused as dark exactly if the manager is dark after it.
  abbrev pub DarkIsAnswered : Type 0
  DarkIsAnswered = (v : View Op th.State) (c : Call Op) (reply : Reply (Gives Answer c)) (v' : View Op th.State) → Steps v c reply v' → refused_dark reply ≡ dark_view v'
