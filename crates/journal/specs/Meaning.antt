-- A journal as a store: what it means, worked out from the blocks alone but for the open group.
use Rattle.std.specs.Prelude.{◌≡◌, ℕ, ◌+◌, ◌*◌, ◌<◌, ◌≤◌, Bool, true, false, List, [], ◌∷◌, length, Some, None, Ok, Err, Option, Result}
use Rattle.refusal.specs.declared.Refusal.{Refusal}
use Rattle.refusal.specs.declared.Reason.TheVariants.{Damaged}
use Rattle.refusal.specs.Refusals.{refusal, darkened}
use Rattle.disk.specs.Device.{Device}
use Rattle.disk.specs.Runs.{Write, stored, ran, ran_answer}
use Rattle.store.specs.declared.Shape.{Shape}
use Rattle.store.specs.Meaning.{Cells, Finding, sound, damaged, Stage, idle, grouped, dark, due, Content}
use Rattle.journal.specs.declared.state.Mode.{Mode}
use Rattle.journal.specs.declared.state.Mode.TheVariants.{Due, Idle, Open}
use Rattle.journal.specs.Record.{Different}
use Rattle.journal.specs.Names.{names}
use Rattle.journal.specs.Layout.{cells_of, naming, durable, commit_writes, recover_writes}
use Rattle.journal.specs.Groups.{looked_up}

abbrev pub shape_of : List (List ℕ) → Shape
shape_of b = record { layer = 1; cells = cells_of b; size = 256; limit = 6 }

-- a commit record that cannot be read is damage of block 0
abbrev pub finding_of : Option (List ℕ) → Finding
finding_of None = damaged 1 0
finding_of (Some ps) = sound

abbrev pub live : Mode → Finding → Cells → Stage
live Due f w = due f
live Idle f w = idle
live (Open p) f w = grouped w p

abbrev pub staged : Bool → Mode → Finding → Cells → Stage
staged true m f w = live m f w
staged false m f w = dark f

-- a journal by whether its disk has power, its blocks, its mode and its group
abbrev pub content : Bool → List (List ℕ) → Mode → List Write → Content
content on b m ws = record { shape = shape_of b; durable = durable b; stage = staged on m (finding_of (naming b)) (stored ws (durable b)) }

-- a journal by its disk, its mode and its group
abbrev pub meaning : Device → Mode → List Write → Content
meaning d m ws = content d.powered d.blocks m ws

-- the puts of the open group so far
abbrev pub puts_of : Mode → ℕ
puts_of Due = 0
puts_of Idle = 0
puts_of (Open p) = p

-- what the open group has put to a page
abbrev pub pended : Mode → ℕ → List Write → Option (List ℕ)
pended Due n ws = None
pended Idle n ws = None
pended (Open p) n ws = looked_up n ws

-- each page put has the bytes of a block
abbrev pub Sized : List Write → Type 0
Sized [] = Unit {0}
Sized (w ∷ ws) = (length w.1 ≡ 256) × Sized ws

-- an open group: different pages of the store's, no more than were put
pub record Grouped (b : List (List ℕ)) (ws : List Write) (p : ℕ) : Type 0 where
  pub different : Different (cells_of b) (names ws)
  pub sized : Sized ws
  pub few : length ws ≤ p
  pub most : p ≤ 6

-- in use, the commit record is empty
abbrev pub RecordBlank : Bool → List (List ℕ) → Mode → Type 0
RecordBlank true b Due = Unit {0}
RecordBlank true b Idle = naming b ≡ Some []
RecordBlank true b (Open p) = naming b ≡ Some []
RecordBlank false b m = Unit {0}

abbrev pub Opened : List (List ℕ) → Mode → List Write → Type 0
Opened b Due ws = Unit {0}
Opened b Idle ws = Unit {0}
Opened b (Open p) ws = Grouped b ws p

-- what ties a journal to its disk
pub record Whole (on : Bool) (b : List (List ℕ)) (m : Mode) (ws : List Write) : Type 0 where
  pub record_blank : RecordBlank on b m
  pub opened : Opened b m ws

abbrev pub Wholly : Device → Mode → List Write → Type 0
Wholly d m ws = Whole d.powered d.blocks m ws

-- the disk after a commit, exactly: in use with a group open, the group's writes were made up to the first that power cut
abbrev pub committed : Bool → Mode → List Write → Device → Device
committed true Due ws d = d
committed true Idle ws d = d
committed true (Open p) ws d = ran (commit_writes ws) d
committed false m ws d = d

-- the disk after a recovery
abbrev pub recovered : Bool → Mode → Device → Device
recovered true Due d = ran (recover_writes (naming d.blocks) d.blocks) d
recovered true Idle d = d
recovered true (Open p) d = d
recovered false m d = d

-- what recovery answers of a powered disk
abbrev pub recover_answer : Option (List ℕ) → Device → Result Unit Refusal
recover_answer None d = Err (refusal Damaged 1 0)
recover_answer (Some ps) d = ran_answer (recover_writes (Some ps) d.blocks) d

-- The law of a commit of k pages, by the charge it finds: it makes 2k + 2 writes, of which the first k, the frames, change nothing that recovery finds,
-- and the next, the record, changes all of it at once. With charge for all writes it is granted, else power goes.
pub record ByCharge (ws : List Write) (d : Device) (r : Result Unit Refusal) (after : Device) : Type 0 where
  pub count : 0 < length ws → length (commit_writes ws) ≡ 2 * length ws + 2
  pub old : 0 < length ws → d.charge ≤ length ws → durable after.blocks ≡ durable d.blocks
  pub new : length ws < d.charge → durable after.blocks ≡ stored ws (durable d.blocks)
  pub granted : 2 * length ws + 2 ≤ d.charge → r ≡ Ok tt
  pub refused : 0 < length ws → d.charge < 2 * length ws + 2 → r ≡ Err darkened

abbrev pub Lawfully : Bool → Mode → List Write → Device → Result Unit Refusal → Device → Type 0
Lawfully true Due ws d r after = Unit {0}
Lawfully true Idle ws d r after = Unit {0}
Lawfully true (Open p) ws d r after = ByCharge ws d r after
Lawfully false m ws d r after = Unit {0}
