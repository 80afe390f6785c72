-- What a level means, and what each of its calls answers and leaves.
use Rattle.std.specs.Prelude.{◌≡◌, ℕ, cond, ◌⊎◌, List, [], ◌∷◌, length, Some, None, Ok, Err, Option, Result, ◌≢◌, nat_le, slice_set}
use Rattle.refusal.specs.declared.Reason.{Reason}
use Rattle.refusal.specs.declared.Reason.TheVariants as reason
use Rattle.refusal.specs.declared.Refusal.{Refusal}
use Rattle.refusal.specs.Refusals.{refusal, darkened}
use Rattle.store.specs.Meaning.{Finding, sound, damaged, Stage, idle, grouped, dark, due}
use Rattle.theory.specs.Theory.{Theory, Done}
use Rattle.theory.specs.Slots.{Slot, committed, undone, running, slot_at, is_running, undos_of}
use Rattle.theory.specs.Machine.{Limits, Reading, intact, unfit_reason}
use Rattle.theory.specs.Machine as machine
use Rattle.level.specs.declared.level.Fate.{Fate}
use Rattle.level.specs.declared.slots.Ending.{Ending}
use Rattle.level.specs.declared.slots.Ending.TheVariants as ending
use Rattle.level.specs.Fates.{told}

-- limits of so many slots with so many undo records each
pub record Sized {Op State : Type 0} (lim : Limits Op State) (slots records : ℕ) : Type 0 where
  pub slots_are : lim.slots ≡ slots
  pub room_is : lim.room ≡ records

-- where the store below stands
pub data Below : Type 0 where
  usable : Below
  unpowered : Below
  unrecovered : Below

abbrev pub below_of : Stage → Below
below_of idle = usable
below_of (grouped w p) = usable
below_of (dark f) = unpowered
below_of (due f) = unrecovered

-- a level: where its store stands, and what the store's durable places say
pub record Standing (Op State : Type 0) : Type 0 where
  pub below : Below
  pub reading : Reading Op State

-- the damage of the store below comes before that of the level
abbrev pub read_on : {Op State : Type 0} → Finding → Reading Op State → Reading Op State
read_on sound r = r
read_on (damaged l p) r = machine.damaged l p

-- what a call on an intact level does: it refuses, answers without writing, or answers and leaves another state and slots
pub data Does (Op State A : Type 0) : Type 0 where
  refuses : Refusal → Does Op State A
  answers : A → Does Op State A
  leaves : A → State → List (Slot Op) → Does Op State A

abbrev pub ended_as : {Op : Type 0} → Ending → Slot Op
ended_as ending.Commit = committed
ended_as ending.Undo = undone

module _ {Op Answer : Type 0} (th : Theory Op Answer) (lim : Limits Op th.State) (s : th.State) (slots : List (Slot Op)) where
  abbrev pub by_level : {A : Type 0} → Reason → ℕ → Does Op th.State A
  by_level why place = refuses (refusal why lim.layer place)

  -- opens an idle slot
  abbrev pub opens : ℕ → Does Op th.State Unit
  opens t = cond (nat_le lim.slots t) (by_level reason.OutOfRange t) (cond (is_running (slot_at slots t)) (by_level reason.WrongState t) (leaves tt s (slice_set slots t (running []))))

  -- ends a running slot
  abbrev pub closes : ℕ → Ending → Does Op th.State Unit
  closes t how = cond (nat_le lim.slots t) (by_level reason.OutOfRange t) (cond (is_running (slot_at slots t)) (leaves tt s (slice_set slots t (ended_as how))) (by_level reason.WrongState t))

  -- an operation that applies
  abbrev pub takes : ℕ → Done th.State Op Answer → Does Op th.State Answer
  takes t d = elim d.undo [ None ↦ answers d.answer | Some undo ↦ leaves d.answer d.next (slice_set slots t (running (undo ∷ undos_of (slot_at slots t)))) ]

  abbrev pub applied : ℕ → Op → Option (Done th.State Op Answer) → Does Op th.State Answer
  applied t op None = by_level (unfit_reason (lim.unfit op)) (th.lock op).number
  applied t op (Some d) = cond (lim.full s slots op) (by_level reason.IndexFull lim.capacity) (takes t d)

  -- an operation on a running slot that has room for one undo record more
  abbrev pub applies : ℕ → Op → Does Op th.State Answer
  applies t op =
      cond (nat_le lim.slots t) (by_level reason.OutOfRange t)
      (cond (is_running (slot_at slots t))
      (cond (lim.beyond op) (by_level reason.OutOfRange (th.lock op).number)
      (cond (nat_le lim.room (length (undos_of (slot_at slots t)))) (by_level reason.LimitReached t) (applied t op (th.apply s op))))
      (by_level reason.WrongState t))

  -- the newest undo record of a slot, applied and removed
  abbrev pub takes_back : ℕ → List Op → Does Op th.State Unit
  takes_back t [] = by_level reason.WrongState t
  takes_back t (undo ∷ undos) = elim (th.apply s undo) [ None ↦ by_level reason.Damaged (lim.record_place t (length undos)) | Some d ↦ leaves tt d.next (slice_set slots t (running undos)) ]

  abbrev pub undoes : ℕ → Does Op th.State Unit
  undoes t = cond (nat_le lim.slots t) (by_level reason.OutOfRange t) (takes_back t (undos_of (slot_at slots t)))

  abbrev pub tells : ℕ → Does Op th.State Fate
  tells t = cond (nat_le lim.slots t) (by_level reason.OutOfRange t) (answers (told (slot_at slots t)))

-- how a call ends that does this: where power goes, the level is as before or as after the call
abbrev pub Ends : {Op State A : Type 0} → Does Op State A → State → List (Slot Op) → Standing Op State → Result A Refusal → Standing Op State → Type 0
Ends (refuses e) s ss m r after = (r ≡ Err e) × (after ≡ m)
Ends (answers a) s ss m r after = (r ≡ Ok a) × (after ≡ m)
Ends (leaves a s' ss') s ss m (Ok x) after = (x ≡ a) × (after ≡ record { below = usable; reading = intact s' ss' })
Ends (leaves a s' ss') s ss m (Err e) after = (e ≡ darkened) × ((after ≡ record { below = unpowered; reading = intact s ss }) ⊎ (after ≡ record { below = unpowered; reading = intact s' ss' }))

-- a call on a level in whatever state: no power, then recovery due; nothing is said of a level outside its layout, which only recovery finds
abbrev pub Meets : {Op State A : Type 0} → ℕ → (State → List (Slot Op) → Does Op State A) → Below → Reading Op State → Standing Op State → Result A Refusal → Standing Op State → Type 0
Meets layer does unpowered r m x after = (x ≡ Err darkened) × (after ≡ m)
Meets layer does unrecovered r m x after = (x ≡ Err (refusal reason.RecoveryDue layer 0)) × (after ≡ m)
Meets layer does usable (machine.damaged l p) m x after = Unit {0}
Meets layer does usable (intact s ss) m x after = Ends (does s ss) s ss m x after

abbrev pub Outcome : {Op State A : Type 0} → ℕ → (State → List (Slot Op) → Does Op State A) → Standing Op State → Result A Refusal → Standing Op State → Type 0
Outcome layer does m r after = Meets layer does m.below m.reading m r after

-- power leaves what the places say, and recovery is due
abbrev pub Powered : {Op State : Type 0} → Standing Op State → Standing Op State → Type 0
Powered m after = after ≡ record { below = unrecovered; reading = m.reading }

abbrev pub WithinLayout : {Op State : Type 0} → Reading Op State → Type 0
WithinLayout (machine.damaged l p) = ⊥
WithinLayout (intact s slots) = Unit {0}

abbrev pub DamagedAs : {Op State : Type 0} → Reading Op State → Refusal → Type 0
DamagedAs (machine.damaged l p) e = e ≡ refusal reason.Damaged l p
DamagedAs (intact s slots) e = ⊥

-- recovery finds content of the layout, or the first damage, and changes nothing that the places say; power may go in it
abbrev pub Finds : {Op State : Type 0} → Below → Reading Op State → Standing Op State → Result Unit Refusal → Standing Op State → Type 0
Finds unpowered reading m r after = (r ≡ Err darkened) × (after ≡ m)
Finds unrecovered reading m (Ok x) after = WithinLayout reading × (after ≡ record { below = usable; reading = reading })
Finds unrecovered reading m (Err e) after = ((e ≡ darkened) × (after ≡ record { below = unpowered; reading = reading })) ⊎ (DamagedAs reading e × (after.reading ≡ reading) × (after.below ≢ unpowered))
Finds usable reading m (Ok x) after = WithinLayout reading × (after ≡ m)
Finds usable reading m (Err e) after = DamagedAs reading e × (after ≡ m)

abbrev pub Recovers : {Op State : Type 0} → Standing Op State → Result Unit Refusal → Standing Op State → Type 0
Recovers m r after = Finds m.below m.reading m r after
