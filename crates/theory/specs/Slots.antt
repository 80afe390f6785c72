-- Transaction slots, and how running ones are undone: by their undo records, the newest first.
use Rattle.std.specs.Prelude.{◌≡◌, ℕ, ◌<◌, Bool, true, false, cond, List, [], ◌∷◌, map, Some, None, Option, slice_index_or}
use Rattle.theory.specs.Theory.{Theory, Takes}

-- A slot is idle, its last transaction committed (so a new one too) or undone, or it is running with its undo records, newest first. An undo record is an inverse operation.
pub data Slot (Op : Type 0) : Type 0 where
  committed : Slot Op
  undone : Slot Op
  running : List Op → Slot Op

-- Fates, by the numbers that scripts print.
abbrev pub fate_committed : ℕ
fate_committed = 0

abbrev pub fate_undone : ℕ
fate_undone = 1

abbrev pub fate_running : ℕ
fate_running = 2

module _ {Op : Type 0} where
  -- the slot with number t
  abbrev pub slot_at : List (Slot Op) → ℕ → Slot Op
  slot_at slots t = slice_index_or slots t committed

  abbrev pub is_running : Slot Op → Bool
  is_running committed = false
  is_running undone = false
  is_running (running undos) = true

  abbrev pub undos_of : Slot Op → List Op
  undos_of committed = []
  undos_of undone = []
  undos_of (running undos) = undos

  -- what became of the slot's last transaction
  abbrev pub fate_of : Slot Op → ℕ
  fate_of committed = fate_committed
  fate_of undone = fate_undone
  fate_of (running undos) = fate_running

  abbrev pub fates : List (Slot Op) → List ℕ
  fates = map fate_of

  -- one undo record more, if the operation has an inverse
  abbrev pub recorded : Option Op → List Op → List Op
  recorded None undos = undos
  recorded (Some undo) undos = undo ∷ undos

  -- a slot with no undo record left is closed as undone
  abbrev pub closed : List Op → Slot Op
  closed [] = undone
  closed (undo ∷ undos) = running (undo ∷ undos)

  -- no slot below t runs
  abbrev pub IdleBelow : ℕ → List (Slot Op) → Type 0
  IdleBelow t slots = (u : ℕ) → u < t → is_running (slot_at slots u) ≡ false

  abbrev pub AllIdle : List (Slot Op) → Type 0
  AllIdle slots = (u : ℕ) → is_running (slot_at slots u) ≡ false

module _ {Op Answer : Type 0} (th : Theory Op Answer) where
  -- Undo records are applied as far as they apply: the state then, and the records that are left.
  abbrev pub undo_records : th.State → List Op → th.State × List Op
  undo_records s [] = (s, [])
  undo_records s (undo ∷ undos) = elim (th.apply s undo) [ None ↦ (s, undo ∷ undos) | Some d ↦ undo_records d.next undos ]

  abbrev pub undo_slot : th.State → Slot Op → th.State × Slot Op
  undo_slot s committed = (s, committed)
  undo_slot s undone = (s, undone)
  undo_slot s (running undos) = ((undo_records s undos).0, closed (undo_records s undos).1)

  -- Every running slot is undone, the first of the list first, up to a record that does not apply.
  abbrev pub undo_slots : th.State → List (Slot Op) → th.State × List (Slot Op)
  undo_slots s [] = (s, [])
  undo_slots s (x ∷ xs) = let one = undo_slot s x in let rest = undo_slots one.0 xs in cond (is_running one.1) (one.0, one.1 ∷ xs) (rest.0, one.1 ∷ rest.1)

  -- The same, stopped after any step: a record applied and dropped, or a slot closed.
  pub data Undoing : th.State → List (Slot Op) → th.State → List (Slot Op) → Type 0 where
    stop : {s : th.State} {xs : List (Slot Op)} → Undoing s xs s xs
    skip : {s s' : th.State} {x : Slot Op} {xs xs' : List (Slot Op)} → is_running x ≡ false → Undoing s xs s' xs' → Undoing s (x ∷ xs) s' (x ∷ xs')
    undo_record : {s m s' : th.State} {undo : Op} {undos : List Op} {xs xs' : List (Slot Op)} {a : Answer} {redo : Option Op} → Takes th s undo m a redo → Undoing m (running undos ∷ xs) s' xs'
        → Undoing s (running (undo ∷ undos) ∷ xs) s' xs'
    close_slot : {s s' : th.State} {xs xs' : List (Slot Op)} → Undoing s (undone ∷ xs) s' xs' → Undoing s (running [] ∷ xs) s' xs'
