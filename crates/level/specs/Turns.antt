-- The calls of a level on the places of its store: what they refuse, and the places that they write as one group.
use Rattle.std.specs.Prelude.{◌≡◌, ℕ, ◌<◌, Bool, true, false, cond, List, [], ◌∷◌, length, Some, None, Ok, Err, Option, Result, nat_le, slice_index_or, slice_set}
use Rattle.refusal.specs.declared.Reason.TheVariants as reason
use Rattle.refusal.specs.declared.Refusal.{Refusal}
use Rattle.refusal.specs.Refusals.{refusal}
use Rattle.disk.specs.Runs.{Write, stored}
use Rattle.store.specs.declared.Needs.TheVariants as needs
use Rattle.store.specs.Meaning.{Content, idle, phase_of, phase_bar}
use Rattle.place.specs.Writes.{shown, Ended}
use Rattle.level.specs.declared.running.RunningSlot.{RunningSlot}
use Rattle.level.specs.declared.slots.SlotState.{SlotState}
use Rattle.level.specs.declared.slots.SlotState.TheVariants.{Committed, Undone, Running}
use Rattle.level.specs.declared.slots.Ending.TheVariants as ending
use Rattle.level.specs.declared.turns.Change.{Change}
use Rattle.level.specs.declared.turns.Change.TheVariants as change
use Rattle.level.specs.declared.turns.Located.{Located}
use Rattle.level.specs.SlotTable.{slot_byte, Within, table_ok, table_slots}

-- the level cannot be used: no power, or recovery is due
abbrev pub barred_below : ℕ → Content → Option Refusal
barred_below layer m = phase_bar needs.Idle (phase_of m.stage) layer

abbrev pub table_of : Content → List ℕ
table_of m = slice_index_or (shown m) 0 []

-- an idle store whose first place is a table of n slots with at most k records each; the store is the caller's, so no value of the level holds this fact
pub record HasTable (n k : ℕ) (m : Content) : Type 0 where
  pub stage : m.stage ≡ idle
  pub first : 0 < length (shown m)
  pub table : table_ok n k (table_of m) ≡ true

-- slot t of a table of n slots with at most k records each
abbrev pub state_of : ℕ → ℕ → ℕ → Content → SlotState
state_of n k t m = slice_index_or (table_slots n k (table_of m)) t Committed

abbrev pub located : ℕ → ℕ → ℕ → ℕ → Content → Result Located Refusal
located layer n k t m = cond (nat_le n t) (Err (refusal reason.OutOfRange layer t)) (Ok (record { table = table_of m; number = t; slot = state_of n k t m }))

-- a slot of n, with at most k records
abbrev pub LocatedWithin : ℕ → ℕ → Located → Type 0
LocatedWithin n k l = (l.number < n) × Within k l.slot

-- why a call that needs a running slot is refused
abbrev pub unless_running : ℕ → ℕ → SlotState → Option Refusal
unless_running layer t Committed = Some (refusal reason.WrongState layer t)
unless_running layer t Undone = Some (refusal reason.WrongState layer t)
unless_running layer t (Running k) = None

abbrev pub not_running : ℕ → ℕ → ℕ → ℕ → Content → Option Refusal
not_running layer n k t m = cond (nat_le n t) (Some (refusal reason.OutOfRange layer t)) (unless_running layer t (state_of n k t m))

-- slot t of a table of n slots runs, and was read whole
pub record IsRunning (n k t : ℕ) (m : Content) (s : RunningSlot) : Type 0 where
  pub inside : t < n
  pub table : s.found.table ≡ table_of m
  pub number : s.found.number ≡ t
  pub state : state_of n k t m ≡ Running s.records

abbrev pub FoundRunning : ℕ → ℕ → ℕ → ℕ → Content → Result RunningSlot Refusal → Type 0
FoundRunning layer n k t m (Ok s) = IsRunning n k t m s
FoundRunning layer n k t m (Err e) = not_running layer n k t m ≡ Some e

-- a call on the places: a refusal, or writes to be made as one group
pub data Turn : Type 0 where
  refuses : Refusal → Turn
  writes : List Write → Turn

abbrev pub Turned : {X : Type 0} → Turn → Content → Result X Refusal → Content → Type 0
Turned (refuses e) m r after = (r ≡ Err e) × (after ≡ m)
Turned (writes ws) m r after = Ended (stored ws (shown m)) m r after

-- whether a slot can be opened or closed, and what it is then
abbrev pub allows : Change → SlotState → Bool
allows change.Open Committed = true
allows change.Open Undone = true
allows change.Open (Running k) = false
allows (change.Close e) Committed = false
allows (change.Close e) Undone = false
allows (change.Close e) (Running k) = true

abbrev pub changed : Change → SlotState
changed change.Open = Running 0
changed (change.Close ending.Commit) = Committed
changed (change.Close ending.Undo) = Undone

abbrev pub changes : ℕ → ℕ → ℕ → ℕ → Change → Content → Turn
changes layer n k t c m =
    cond (nat_le n t) (refuses (refusal reason.OutOfRange layer t))
    (cond (allows c (state_of n k t m)) (writes ((0, slice_set (table_of m) t (slot_byte (changed c))) ∷ [])) (refuses (refusal reason.WrongState layer t)))
