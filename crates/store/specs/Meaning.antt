-- What a store means, and what each call answers and leaves.
-- A store is an array of cells that is changed by atomic groups of puts.
use Rattle.std.specs.Prelude.{◌≡◌, ℕ, ◌+◌, ◌-◌, ◌*◌, ◌/◌, ◌^◌, ◌<◌, ◌≤◌, cond, ◌⊎◌, List, ◌++◌, length, take, replicate, Some, None, Ok, Err, Option, Result, nat_lt, slice_set}
use Rattle.refusal.specs.declared.Phase.{Phase}
use Rattle.refusal.specs.declared.Phase.TheVariants as phase
use Rattle.refusal.specs.declared.Reason.TheVariants as reason
use Rattle.refusal.specs.declared.Refusal.{Refusal}
use Rattle.refusal.specs.Refusals.{refusal, darkened}
use Rattle.disk.specs.Device.{Each}
use Rattle.store.specs.declared.Shape.{Shape}
use Rattle.store.specs.declared.Needs.{Needs}
use Rattle.store.specs.declared.Needs.TheVariants as needs

-- the bytes of the cells
abbrev pub Cells : Type 0
Cells = List (List ℕ)

-- what recovery will find: content of the layout, or the first damage, by layer and place
pub data Finding : Type 0 where
  sound : Finding
  damaged : (layer place : ℕ) → Finding

-- where a store stands; an open group has its working content and the puts so far
pub data Stage : Type 0 where
  idle : Stage
  grouped : (working : Cells) (puts : ℕ) → Stage
  dark : (finds : Finding) → Stage
  due : (finds : Finding) → Stage

-- the durable content is what survives power
pub record Content : Type 0 where
  pub shape : Shape
  pub durable : Cells
  pub stage : Stage

pub data Call : Type 0 where
  begin : Call
  get : (n : ℕ) → Call
  put : (n : ℕ) (v : List ℕ) → Call
  commit : Call
  abort : Call
  power : (charge : ℕ) → Call
  recover : Call

abbrev pub phase_of : Stage → Phase
phase_of idle = phase.Idle
phase_of (grouped w p) = phase.Open
phase_of (dark f) = phase.Dark
phase_of (due f) = phase.Due

-- the content that a get reads: that of the open group, else the durable one
abbrev pub working : Content → Cells
working m = elim m.stage [ idle ↦ m.durable | grouped w p ↦ w | dark f ↦ m.durable | due f ↦ m.durable ]

-- a store in use is sound
abbrev pub finding : Stage → Finding
finding idle = sound
finding (grouped w p) = sound
finding (dark f) = f
finding (due f) = f

abbrev pub with_stage : Stage → Content → Content
with_stage s m = record { shape = m.shape; durable = m.durable; stage = s }

-- the first refusal of two
abbrev pub or_else : Option Refusal → Option Refusal → Option Refusal
or_else (Some e) o = Some e
or_else None o = o

-- why a call that needs the store to stand so is refused: no power, recovery due, then the wrong state
abbrev pub phase_bar : Needs → Phase → ℕ → Option Refusal
phase_bar needs.Idle phase.Idle l = None
phase_bar needs.Idle phase.Open l = Some (refusal reason.WrongState l 0)
phase_bar needs.Idle phase.Dark l = Some darkened
phase_bar needs.Idle phase.Due l = Some (refusal reason.RecoveryDue l 0)
phase_bar needs.Open phase.Idle l = Some (refusal reason.WrongState l 0)
phase_bar needs.Open phase.Open l = None
phase_bar needs.Open phase.Dark l = Some darkened
phase_bar needs.Open phase.Due l = Some (refusal reason.RecoveryDue l 0)
phase_bar needs.Live phase.Idle l = None
phase_bar needs.Live phase.Open l = None
phase_bar needs.Live phase.Dark l = Some darkened
phase_bar needs.Live phase.Due l = Some (refusal reason.RecoveryDue l 0)
phase_bar needs.Due phase.Idle l = Some (refusal reason.WrongState l 0)
phase_bar needs.Due phase.Open l = Some (refusal reason.WrongState l 0)
phase_bar needs.Due phase.Dark l = Some darkened
phase_bar needs.Due phase.Due l = None

abbrev pub barring : Needs → Content → Option Refusal
barring n m = phase_bar n (phase_of m.stage) m.shape.layer

abbrev pub found : Finding → Option Refusal
found sound = None
found (damaged l p) = Some (refusal reason.Damaged l p)

-- cell n is there
abbrev pub within : ℕ → Shape → Option Refusal
within n s = cond (nat_lt n s.cells) None (Some (refusal reason.OutOfRange s.layer n))

-- the open group takes one put more
abbrev pub room : Stage → Shape → Option Refusal
room idle s = None
room (grouped w p) s = cond (nat_lt p s.limit) None (Some (refusal reason.LimitReached s.layer s.limit))
room (dark f) s = None
room (due f) s = None

-- why a call is refused at once: the first that applies
unfoldable pub bar : Call → Content → Option Refusal
bar begin m = barring needs.Idle m
bar (get n) m = or_else (barring needs.Live m) (within n m.shape)
bar (put n v) m = or_else (barring needs.Open m) (or_else (within n m.shape) (room m.stage m.shape))
bar commit m = barring needs.Open m
bar abort m = barring needs.Open m
bar (power c) m = None
bar recover m = or_else (barring needs.Due m) (found (finding m.stage))

-- one cell of the working content changed; a cell takes its first bytes of the buffer
abbrev pub put_into : ℕ → List ℕ → Content → Content
put_into n v m = elim m.stage [ idle ↦ m | grouped w p ↦ with_stage (grouped (slice_set w n (take m.shape.size v)) (p + 1)) m | dark f ↦ m | due f ↦ m ]

-- what a granted call leaves
unfoldable pub next : Call → Content → Content
next begin m = with_stage (grouped m.durable 0) m
next (get n) m = m
next (put n v) m = put_into n v m
next commit m = record { shape = m.shape; durable = working m; stage = idle }
next abort m = with_stage idle m
next (power c) m = with_stage (due (finding m.stage)) m
next recover m = with_stage idle m

-- the same content without power
abbrev pub dimmed : Content → Content
dimmed m = with_stage (dark (finding m.stage)) m

-- the calls in which power can go: a read writes nothing
abbrev pub Writes : Call → Type 0
Writes begin = Unit {0}
Writes (get n) = ⊥
Writes (put n v) = Unit {0}
Writes commit = Unit {0}
Writes abort = Unit {0}
Writes (power c) = ⊥
Writes recover = Unit {0}

-- what is left where power goes in a call: the durable content of before or, of a commit, the whole working content
pub data Left : Call → Content → Content → Type 0 where
  undone : {k : Call} {m after : Content} → Writes k → bar k m ≡ None → after ≡ dimmed m → Left k m after
  done : {m after : Content} → bar commit m ≡ None → after ≡ dimmed (next commit m) → Left commit m after
  searching : {m after : Content} (l p : ℕ) → m.stage ≡ due (damaged l p) → after ≡ dimmed m → Left recover m after

-- a granted call: nothing bars it
pub record Granted (k : Call) (m after : Content) : Type 0 where
  pub free : bar k m ≡ None
  pub leaves : after ≡ next k m

-- a refused one: barred, and then nothing changes; or cut, and then the disk is dark
pub data Refused (k : Call) (m : Content) (e : Refusal) (after : Content) : Type 0 where
  barred : bar k m ≡ Some e → after ≡ m → Refused k m e after
  cut : e ≡ darkened → Left k m after → Refused k m e after

abbrev pub Outcome : {X : Type 0} → Call → Content → Result X Refusal → Content → Type 0
Outcome k m (Ok x) after = Granted k m after
Outcome k m (Err e) after = Refused k m e after

-- a buffer of 256 bytes holds a cell, then zeros
abbrev pub padded : List ℕ → List ℕ
padded v = v ++ replicate (256 - length v) 0

-- a buffer after a get: filled where it is granted, else as it was
abbrev pub Filled : {X : Type 0} → Result X Refusal → List ℕ → List ℕ → List ℕ → Type 0
Filled (Ok x) v before after = after ≡ v
Filled (Err e) v before after = after ≡ before

-- cells of the store's number and size
pub record Fitting (s : Shape) (c : Cells) : Type 0 where
  pub count : length c ≡ s.cells
  pub even : Each s.size c

abbrev pub Grouping : Shape → Stage → Type 0
Grouping s idle = Unit {0}
Grouping s (grouped w p) = Fitting s w × (p ≤ s.limit)
Grouping s (dark f) = Unit {0}
Grouping s (due f) = Unit {0}

-- what every store is: cells of 64 or 256 bytes, fewer than 2^32 times 64 bytes in all
pub record Formed (m : Content) : Type 0 where
  pub size : (m.shape.size ≡ 64) ⊎ (m.shape.size ≡ 256)
  pub small : m.shape.cells * (m.shape.size / 64) < 2 ^ 32
  pub durable : Fitting m.shape m.durable
  pub group : Grouping m.shape m.stage
