-- What a call does where its slot does not run.
use Rattle.std.proofs.Common.{◌≡◌, ℕ, Bool, true, false, cond, Some, Option, ap}
use Rattle.std.proofs.lemmas.Option.{none-some, same_Some}
use Rattle.refusal.specs.declared.Refusal.{Refusal}
use Rattle.store.specs.Meaning.{Content}
use Rattle.level.specs.declared.slots.SlotState.{SlotState}
use Rattle.level.specs.declared.slots.SlotState.TheVariants.{Committed, Undone, Running}
use Rattle.level.specs.Turns.{refuses, state_of, unless_running, not_running}
use Rattle.tally.specs.declared.TallyOp.{TallyOp}
use Rattle.tally.specs.TallyTurns.{refused, on_slot, apply_act, undo_slot, undo_turn}

-- a call that is refused where its number is beyond the last slot or its slot does not run
by_slot : {A : Type 0} (refuse : Refusal → A) (b : Bool) (a e : Refusal) (o : Option Refusal) (x : A) → (o ≡ Some e → x ≡ refuse e) → cond b (Some a) o ≡ Some e → cond b (refuse a) x ≡ refuse e
by_slot refuse true a e o x h k = ap refuse (same_Some a e k)
by_slot refuse false a e o x h k = h k

apply_by_state : (layer t : ℕ) (op : TallyOp) (m : Content) (s : SlotState) (e : Refusal) → unless_running layer t s ≡ Some e → on_slot layer t op m s ≡ refused e
apply_by_state layer t op m Committed e k = ap refused (same_Some _ e k)
apply_by_state layer t op m Undone e k = ap refused (same_Some _ e k)
apply_by_state layer t op m (Running n) e k = absurd (none-some e k)

undo_by_state : (layer t : ℕ) (m : Content) (s : SlotState) (e : Refusal) → unless_running layer t s ≡ Some e → undo_slot layer t m s ≡ refuses e
undo_by_state layer t m Committed e k = ap refuses (same_Some _ e k)
undo_by_state layer t m Undone e k = ap refuses (same_Some _ e k)
undo_by_state layer t m (Running n) e k = absurd (none-some e k)

pub apply_refused : (layer t : ℕ) (op : TallyOp) (m : Content) (e : Refusal) → not_running layer 8 16 t m ≡ Some e → apply_act layer t op m ≡ refused e
apply_refused layer t op m e k = by_slot refused _ _ e _ _ (apply_by_state layer t op m (state_of 8 16 t m) e) k

pub undo_refused : (layer t : ℕ) (m : Content) (e : Refusal) → not_running layer 8 16 t m ≡ Some e → undo_turn layer t m ≡ refuses e
undo_refused layer t m e k = by_slot refuses _ _ e _ _ (undo_by_state layer t m (state_of 8 16 t m) e) k
