-- The tally level's reading of its places, when one call's writes are made.
use Rattle.std.proofs.Common.{◌≡◌, ℕ, ◌+◌, ◌<◌, ◌≤◌, true, List, [], ◌++◌, length, get_or, take, set, sym, ap, ◌∙◌, subst, ⊎_elim, arith, get_or-set_other, get_or-set_same}
use Rattle.std.proofs.lemmas.List.{length-map, length-take-le}
use Rattle.std.proofs.lemmas.Bool.{cases_Bool, cond-true, cond-false}
use Rattle.theory.specs.Machine.{damaged, intact}
use Rattle.theory.specs.Slots.{Slot, slot_at}
use Rattle.level.specs.declared.slots.SlotState.{SlotState}
use Rattle.level.specs.declared.slots.SlotState.TheVariants.{Committed, Undone, Running}
use Rattle.level.specs.SlotTable.{slot_byte, Within, table_ok, table_slots}
use Rattle.level.specs.Records.{reading_record, record_place}
use Rattle.level.specs.Levels.{Found, bad, good, live, slot_in, slots_in}
use Rattle.level.proofs.Live.{slots_at, slots_set}
use Rattle.level.proofs.Tabled.{slot_set, slot_found, slot_same as byte_same, table_parts}
use Rattle.tally.specs.declared.TallyOp.{TallyOp}
use Rattle.tally.specs.CounterBytes.{reading_counters}
use Rattle.tally.specs.TallyPlaces.{as_undo, undo_at, counters_of, told, tally_reading}

-- an intact reading, part by part
pub record Intact (ps : List (List ℕ)) (s : List ℕ) (ss : List (Slot TallyOp)) : Type 0 where
  pub table : table_ok 8 16 (get_or ps 0 []) ≡ true
  pub slots : slots_in undo_at (record_place 16) ps 0 (table_slots 8 16 (get_or ps 0 [])) ≡ good ss
  pub counters : counters_of ps ≡ s

clash : {X : Type 0} {l p : ℕ} {s : List ℕ} {ss : List (Slot TallyOp)} → damaged l p ≡ intact s ss → X
clash e = let z : ◌≡◌ {A = ℕ} 0 1 = cc in absurd (omega arith)

told_good : (layer : ℕ) (c s : List ℕ) (f : Found (List (Slot TallyOp))) (ss : List (Slot TallyOp)) → told layer c f ≡ intact s ss → (f ≡ good ss) × (c ≡ s)
told_good layer c s (bad p) ss e = clash e
told_good layer c s (good x) ss e = (ap good (cc), cc)

pub intact_of : (layer : ℕ) (ps : List (List ℕ)) (s : List ℕ) (ss : List (Slot TallyOp)) → tally_reading layer ps ≡ intact s ss → Intact ps s ss
intact_of layer ps s ss e =
    let f = slots_in undo_at (record_place 16) ps 0 (table_slots 8 16 (get_or ps 0 [])) in
    ⊎_elim
    (λ t. let k = told_good layer (counters_of ps) s f ss (sym (cond-true (table_ok 8 16 (get_or ps 0 [])) (told layer (counters_of ps) f) (damaged layer 0) t) ∙ e) in record { table = t; slots = k.0; counters = k.1 })
    (λ n. clash (sym (cond-false (table_ok 8 16 (get_or ps 0 [])) (told layer (counters_of ps) f) (damaged layer 0) n) ∙ e))
    (cases_Bool (table_ok 8 16 (get_or ps 0 [])))

pub reading_from : (layer : ℕ) (ps : List (List ℕ)) (s : List ℕ) (ss : List (Slot TallyOp)) → Intact ps s ss → tally_reading layer ps ≡ intact s ss
reading_from layer ps s ss k =
    let f = slots_in undo_at (record_place 16) ps 0 (table_slots 8 16 (get_or ps 0 [])) in
    cond-true (table_ok 8 16 (get_or ps 0 [])) (told layer (counters_of ps) f) (damaged layer 0) k.table
    ∙ ap (told layer (counters_of ps)) k.slots ∙ ap (λ c. intact c ss) k.counters

within_live : (m : ℕ) (x : SlotState) → Within m x → live x ≤ m
within_live m Committed w = omega arith
within_live m Undone w = omega arith
within_live m (Running k) w = w

module _ (ps : List (List ℕ)) (s : List ℕ) (ss : List (Slot TallyOp)) (k : Intact ps s ss) where
  many : length (table_slots 8 16 (get_or ps 0 [])) ≡ 8
  many = length-map (take 8 (get_or ps 0 [])) _ ∙ length-take-le 8 (get_or ps 0 []) (table_parts 8 16 (get_or ps 0 []) k.table).room

  pub slot_within : (t : ℕ) → t < 8 → Within 16 (get_or (table_slots 8 16 (get_or ps 0 [])) t Committed)
  slot_within t h = (byte_same 16 (get_or (get_or ps 0 []) t 0) (get_or (table_slots 8 16 (get_or ps 0 [])) t Committed) (slot_found 8 16 t (get_or ps 0 []) h k.table)).1

  -- the slot of a number, as the table and the records say
  pub slot_here : (t : ℕ) → t < 8 → slot_in undo_at (record_place 16) ps t (get_or (table_slots 8 16 (get_or ps 0 [])) t Committed) ≡ good (slot_at ss t)
  slot_here t h =
      let z : 0 + t ≡ t = omega arith in
      subst (λ u. slot_in undo_at (record_place 16) ps u (get_or (table_slots 8 16 (get_or ps 0 [])) t Committed) ≡ good (slot_at ss t)) z
      (slots_at undo_at (record_place 16) ps 0 t (table_slots 8 16 (get_or ps 0 [])) ss k.slots (rw many h))

  -- places in which slot t alone is changed
  pub one_slot : (qs : List (List ℕ)) (t : ℕ) (x : SlotState) (z : Slot TallyOp) (s' : List ℕ) → t < 8 → get_or qs 0 [] ≡ set (get_or ps 0 []) t (slot_byte x) → Within 16 x
      → slot_in undo_at (record_place 16) qs t x ≡ good z → ((n j : ℕ) → n < 8 → (n ≡ t → ⊥) → j < 16 → undo_at ps n j ≡ undo_at qs n j) → counters_of qs ≡ s' → Intact qs s' (set ss t z)
  one_slot qs t x z s' h e w here apart c =
      let kept = slot_set t x (get_or ps 0 []) 8 16 h (omega arith) w k.table in
      let zero_on : 0 + t ≡ t = omega arith in
      let all = slots_set undo_at (record_place 16) ps qs 0 t (table_slots 8 16 (get_or ps 0 [])) ss x z k.slots (rw many h)
      (ap (λ u. slot_in undo_at (record_place 16) qs u x) zero_on ∙ here)
      (λ n j l d m.
      let small : n < 8 = subst (λ y. n < y) many l in
      let y : 0 + n ≡ n = omega arith in
      let lo : live (get_or (table_slots 8 16 (get_or ps 0 [])) n Committed) ≤ 16 = within_live 16 _ (slot_within n small) in
      subst (λ u. undo_at ps u j ≡ undo_at qs u j) (sym y) (apart n j small d (omega arith))) in
      record {
        table = ap (table_ok 8 16) e ∙ kept.0;
        slots = ap (λ b. slots_in undo_at (record_place 16) qs 0 (table_slots 8 16 b)) e ∙ ap (slots_in undo_at (record_place 16) qs 0) kept.1 ∙ all;
        counters = c;
      }

-- the table alone is written
module _ (ps : List (List ℕ)) (v : List ℕ) where
  pub other_places : (p : ℕ) → 0 < p → get_or (set ps 0 v) p [] ≡ get_or ps p []
  other_places p h = get_or-set_other ps 0 p v [] (λ e. omega arith)

pub table_written : (ps : List (List ℕ)) (s : List ℕ) (ss : List (Slot TallyOp)) (t : ℕ) (x : SlotState) (z : Slot TallyOp) → Intact ps s ss → t < 8 → 0 < length ps → live x ≡ 0 → Within 16 x
    → ((qs : List (List ℕ)) → slot_in undo_at (record_place 16) qs t x ≡ good z) → Intact (set ps 0 (set (get_or ps 0 []) t (slot_byte x))) s (set ss t z)
table_written ps s ss t x z k h some none w here =
    let v = set (get_or ps 0 []) t (slot_byte x) in
    one_slot ps s ss k (set ps 0 v) t x z s h (get_or-set_same ps 0 v [] some) w (here (set ps 0 v))
    (λ n j l d m. ap (λ b. as_undo (reading_record b)) (sym (other_places ps v (record_place 16 n j) (omega arith))))
    (ap (λ b. reading_counters b ++ reading_counters (get_or (set ps 0 v) 130 [])) (other_places ps v 129 (omega arith)) ∙ ap (λ b. reading_counters (get_or ps 129 []) ++ reading_counters b) (other_places ps v 130 (omega arith)) ∙ k.counters)
