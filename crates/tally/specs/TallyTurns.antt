-- What an operation and an undo do on the places of a store.
use Rattle.std.specs.Prelude.{◌≡◌, ℕ, ◌-◌, cond, ◌⊎◌, List, Some, None, Ok, Err, Option, Result, ◌==◌, nat_le}
use Rattle.refusal.specs.declared.Reason.TheVariants as reason
use Rattle.refusal.specs.declared.Refusal.{Refusal}
use Rattle.refusal.specs.Refusals.{refusal, darkened}
use Rattle.disk.specs.Runs.{Write, stored}
use Rattle.store.specs.Meaning.{Content}
use Rattle.place.specs.Writes.{shown, Landed, Dimmed}
use Rattle.level.specs.declared.slots.SlotState.{SlotState}
use Rattle.level.specs.declared.slots.SlotState.TheVariants.{Committed, Undone, Running}
use Rattle.level.specs.Records.{record_place}
use Rattle.level.specs.Turns.{Turn, refuses, writes, state_of}
use Rattle.tally.specs.declared.TallyOp.{TallyOp}
use Rattle.tally.specs.declared.TallyOp.TheVariants.{Add, Read}
use Rattle.tally.specs.declared.TallyAnswer.{TallyAnswer}
use Rattle.tally.specs.declared.TallyAnswer.TheVariants.{Added, Value}
use Rattle.tally.specs.TallyPlaces.{undo_at, value_at, add_writes, undo_writes}

-- an operation on the places: a refusal, a value that was read, or writes to be made as one group
pub data Act : Type 0 where
  refused : Refusal → Act
  value : ℕ → Act
  written : List Write → Act

abbrev pub Acted : Act → Content → Result TallyAnswer Refusal → Content → Type 0
Acted (refused e) m r after = (r ≡ Err e) × (after ≡ m)
Acted (value v) m r after = (r ≡ Ok (Value v)) × (after ≡ m)
Acted (written ws) m (Ok a) after = (a ≡ Added) × Landed (stored ws (shown m)) m after
Acted (written ws) m (Err e) after = (e ≡ darkened) × (Dimmed (shown m) m after ⊎ Dimmed (stored ws (shown m)) m after)

abbrev pub counter_of : TallyOp → ℕ
counter_of (Add c n) = c
counter_of (Read c) = c

-- on a slot that has k records
abbrev pub performs : TallyOp → ℕ → ℕ → Content → Act
performs (Add c n) t k m = written (add_writes (shown m) t k c n)
performs (Read c) t k m = value (value_at (shown m) c)

abbrev pub on_slot : ℕ → ℕ → TallyOp → Content → SlotState → Act
on_slot layer t op m Committed = refused (refusal reason.WrongState layer t)
on_slot layer t op m Undone = refused (refusal reason.WrongState layer t)
on_slot layer t op m (Running k) = cond (nat_le 32 (counter_of op)) (refused (refusal reason.OutOfRange layer (counter_of op))) (cond (nat_le 16 k) (refused (refusal reason.LimitReached layer t)) (performs op t k m))

abbrev pub apply_act : ℕ → ℕ → TallyOp → Content → Act
apply_act layer t op m = cond (nat_le 8 t) (refused (refusal reason.OutOfRange layer t)) (on_slot layer t op m (state_of 8 16 t m))

-- an undo record, if it can be read
abbrev pub loaded : ℕ → ℕ → ℕ → Option TallyOp → Result TallyOp Refusal
loaded layer t j None = Err (refusal reason.Damaged layer (record_place 16 t j))
loaded layer t j (Some op) = Ok op

abbrev pub takes_back : ℕ → ℕ → ℕ → Content → Result TallyOp Refusal → Turn
takes_back layer t j m (Err e) = refuses e
takes_back layer t j m (Ok (Add c n)) = writes (undo_writes (shown m) t j c n)
takes_back layer t j m (Ok (Read c)) = refuses (refusal reason.Damaged layer (record_place 16 t j))

abbrev pub undo_slot : ℕ → ℕ → Content → SlotState → Turn
undo_slot layer t m Committed = refuses (refusal reason.WrongState layer t)
undo_slot layer t m Undone = refuses (refusal reason.WrongState layer t)
undo_slot layer t m (Running k) = cond (k == 0) (refuses (refusal reason.WrongState layer t)) (cond (nat_le 17 k) (refuses (refusal reason.Damaged layer 0)) (takes_back layer t (k - 1) m (loaded layer t (k - 1) (undo_at (shown m) t (k - 1)))))

abbrev pub undo_turn : ℕ → ℕ → Content → Turn
undo_turn layer t m = cond (nat_le 8 t) (refuses (refusal reason.OutOfRange layer t)) (undo_slot layer t m (state_of 8 16 t m))
