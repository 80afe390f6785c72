-- Places read, and places written as one group.
use Rattle.std.specs.Prelude.{◌≡◌, ℕ, ◌≤◌, ◌⊎◌, List, map, length, Ok, Err, Result}
use Rattle.refusal.specs.declared.Refusal.{Refusal}
use Rattle.refusal.specs.Refusals.{darkened}
use Rattle.disk.specs.Runs.{Write, Inside}
use Rattle.store.specs.Meaning.{Cells, Content, idle, grouped, dark, sound, Outcome, commit, abort}
use Rattle.place.specs.declared.PlaceWrite.{PlaceWrite}
use Rattle.place.specs.Places.{places}

-- the places of what is durable
abbrev pub shown : Content → List (List ℕ)
shown m = places m.shape.size m.durable

-- the writes of values that fill places, as places and bytes
abbrev pub listed : {C : Type 0} → (C → List ℕ) → List (PlaceWrite C) → List Write
listed f ws = map (λ w. (w.place, f w.content)) ws

-- an idle store takes these writes as one group
pub record Ready (ws : List Write) (m : Content) : Type 0 where
  pub stage : m.stage ≡ idle
  pub inside : Inside (length (shown m)) ws
  pub few : length ws ≤ m.shape.limit

-- idle, with those places, otherwise as m
pub record Landed (ps : List (List ℕ)) (m after : Content) : Type 0 where
  pub stage : after.stage ≡ idle
  pub shape : after.shape ≡ m.shape
  pub places : shown after ≡ ps

-- without power, sound, with those places, otherwise as m
pub record Dimmed (ps : List (List ℕ)) (m after : Content) : Type 0 where
  pub stage : after.stage ≡ dark sound
  pub shape : after.shape ≡ m.shape
  pub places : shown after ≡ ps

-- how a group ends that was to leave the places ps: all is written, or power went and all or nothing is
abbrev pub Ended : {X : Type 0} → List (List ℕ) → Content → Result X Refusal → Content → Type 0
Ended ps m (Ok x) after = Landed ps m after
Ended ps m (Err e) after = (e ≡ darkened) × (Dimmed (shown m) m after ⊎ Dimmed ps m after)

-- a group begun at m that has put k cells: its working content has those places
pub record Begun (m : Content) (ps : List (List ℕ)) (k : ℕ) (a : Content) : Type 0 where
  pub cells : Cells
  pub stage : a.stage ≡ grouped cells k
  pub shape : a.shape ≡ m.shape
  pub durable : a.durable ≡ m.durable
  pub places : places m.shape.size cells ≡ ps

-- the puts of a group begun at m, which were to leave those places
abbrev pub Tried : {X : Type 0} → Content → List (List ℕ) → ℕ → Result X Refusal → Content → Type 0
Tried m ps k (Ok x) a = Begun m ps k a
Tried m ps k (Err e) a = (e ≡ darkened) × Dimmed (shown m) m a

-- a group aborted, whatever the abort answers
pub record Dropped (m after : Content) : Type 0 where
  pub answer : Result Unit Refusal
  pub outcome : Outcome abort m answer after

-- the end of a group: committed after puts that were granted, else dropped, and the refusal returned
abbrev pub Closed : Result Unit Refusal → Content → Result Unit Refusal → Content → Type 0
Closed (Ok x) m r after = Outcome commit m r after
Closed (Err e) m r after = (r ≡ Err e) × Dropped m after
