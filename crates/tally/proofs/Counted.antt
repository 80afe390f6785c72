-- The tally level's places after an add and after an undo.
use Rattle.std.proofs.Common.{◌≡◌, ℕ, ◌+◌, ◌-◌, ◌/◌, ◌%◌, ◌^◌, ◌<◌, ◌≤◌, ltb, List, [], ◌∷◌, ◌++◌, length, get_or, set, Some, None, sym, ap, ◌∙◌, subst, ⊎_elim, arith, length-set, get_or-set_other, get_or-set_same}
use Rattle.std.proofs.lemmas.List.{get_or_append_left, get_or-append_right, set-append_left, set-append_right}
use Rattle.std.proofs.lemmas.Bool.{cases_lt, cond-true, lt-ltb}
use Rattle.disk.specs.Device.{Each}
use Rattle.disk.specs.Runs.{stored}
use Rattle.theory.specs.Slots.{Slot, running, slot_at}
use Rattle.level.specs.declared.slots.SlotState.{SlotState}
use Rattle.level.specs.declared.slots.SlotState.TheVariants.{Committed, Running}
use Rattle.level.specs.SlotTable.{slot_byte, table_slots}
use Rattle.level.specs.Records.{reading_record, record_bytes, record_place}
use Rattle.level.specs.Levels.{good, as_running, undos, slot_in}
use Rattle.level.proofs.Live.{undos_same, undos_more, running_found}
use Rattle.level.proofs.Recorded.{record_back}
use Rattle.place.proofs.Laid.{each_at}
use Rattle.tally.specs.declared.TallyOp.{TallyOp}
use Rattle.tally.specs.declared.TallyOp.TheVariants.{Add}
use Rattle.tally.specs.Tallies.{inverse_amount, counted}
use Rattle.tally.specs.Codes.{tally_code}
use Rattle.tally.specs.CounterBytes.{reading_counters, written_at, with_counter}
use Rattle.tally.specs.TallyPlaces.{as_undo, undo_at, counters_of, counter_place, value_at, added, add_writes, undo_writes}
use Rattle.tally.proofs.Bytes.{its_bytes_change_one, read_in_parts}
use Rattle.tally.proofs.Slotted.{Intact, one_slot, slot_here}

module _ (ps : List (List ℕ)) (long : 131 ≤ length ps) (even : Each 64 ps) (c n : ℕ) (h : c < 32) where
  low : List ℕ
  low = reading_counters (get_or ps 129 [])

  high : List ℕ
  high = reading_counters (get_or ps 130 [])

  low_size : length (reading_counters (get_or ps 129 [])) ≡ 16
  low_size = (read_in_parts 16 (get_or ps 129 []) [] (each_at 64 ps 129 even (omega arith))).0

  -- the value read is the counter's
  pub value_is : value_at ps c ≡ get_or (counters_of ps) c 0
  value_is =
      ⊎_elim
      (λ lo.
      let q : c / 16 ≡ 0 = omega arith in
      let r : c % 16 ≡ c = omega arith in
      ap (λ x. get_or (reading_counters (get_or ps (129 + x) [])) (c % 16) 0) q ∙ ap (λ x. get_or (reading_counters (get_or ps 129 [])) x 0) r
      ∙ sym (get_or_append_left (reading_counters (get_or ps 129 [])) (reading_counters (get_or ps 130 [])) 0 c (omega (arith, low_size))))
      (λ hi.
      let q : c / 16 ≡ 1 = omega arith in
      let r : c % 16 ≡ c - 16 = omega arith in
      ap (λ x. get_or (reading_counters (get_or ps (129 + x) [])) (c % 16) 0) q ∙ ap (λ x. get_or (reading_counters (get_or ps 130 [])) x 0) r
      ∙ sym (get_or-append_right (reading_counters (get_or ps 129 [])) (reading_counters (get_or ps 130 [])) 16 c 0 low_size hi))
      (cases_lt c 16)

  v : ℕ
  v = (value_at ps c + n) % 2 ^ 32

  -- the place written, read again
  place_read : (p : ℕ) → p < 131 → 129 ≤ p → reading_counters (written_at (c % 16) ((value_at ps c + n) % 2 ^ 32) (get_or ps p [])) ≡ set (reading_counters (get_or ps p [])) (c % 16) ((value_at ps c + n) % 2 ^ 32)
  place_read p a b =
      let size = each_at 64 ps p even (omega arith) in
      let w = (value_at ps c + n) % 2 ^ 32 in
      ap reading_counters (cond-true (ltb (c % 16) 16) (with_counter (c % 16) w (get_or ps p [])) (get_or ps p []) (lt-ltb (c % 16) 16 (omega arith)))
      ∙ its_bytes_change_one (get_or ps p []) (c % 16) w (omega (arith, size)) (omega arith)

  pub counters_added : (qs : List (List ℕ)) → get_or qs (counter_place c) [] ≡ added ps c n → ((p : ℕ) → 129 ≤ p → p < 131 → (p ≡ counter_place c → ⊥) → get_or qs p [] ≡ get_or ps p []) → counters_of qs ≡ counted (counters_of ps) c n
  counters_added qs e o =
      let w = (value_at ps c + n) % 2 ^ 32 in
      let last : set (counters_of ps) c w ≡ counted (counters_of ps) c n = ap (λ x. set (counters_of ps) c ((x + n) % 2 ^ 32)) value_is in
      ⊎_elim
      (λ lo.
      let q : c / 16 ≡ 0 = omega arith in
      let r : c % 16 ≡ c = omega arith in
      let here : get_or qs 129 [] ≡ written_at (c % 16) w (get_or ps 129 []) = subst (λ x. get_or qs (129 + x) [] ≡ written_at (c % 16) w (get_or ps (129 + x) [])) q e in
      ap (λ b. reading_counters b ++ reading_counters (get_or qs 130 [])) here
      ∙ ap (λ b. reading_counters (written_at (c % 16) w (get_or ps 129 [])) ++ reading_counters b) (o 130 (omega arith) (omega arith) (λ z. omega arith))
      ∙ ap (λ l. l ++ reading_counters (get_or ps 130 [])) (place_read 129 (omega arith) (omega arith) ∙ ap (λ i. set (reading_counters (get_or ps 129 [])) i w) r)
      ∙ sym (set-append_left (reading_counters (get_or ps 129 [])) (reading_counters (get_or ps 130 [])) c w (omega (arith, low_size)))
      ∙ last)
      (λ hi.
      let q : c / 16 ≡ 1 = omega arith in
      let r : c % 16 ≡ c - 16 = omega arith in
      let here : get_or qs 130 [] ≡ written_at (c % 16) w (get_or ps 130 []) = subst (λ x. get_or qs (129 + x) [] ≡ written_at (c % 16) w (get_or ps (129 + x) [])) q e in
      ap (λ b. reading_counters b ++ reading_counters (get_or qs 130 [])) (o 129 (omega arith) (omega arith) (λ z. omega arith))
      ∙ ap (λ b. reading_counters (get_or ps 129 []) ++ reading_counters b) here
      ∙ ap (λ l. reading_counters (get_or ps 129 []) ++ l) (place_read 130 (omega arith) (omega arith) ∙ ap (λ i. set (reading_counters (get_or ps 130 [])) i w) r)
      ∙ sym (set-append_right (reading_counters (get_or ps 129 [])) (reading_counters (get_or ps 130 [])) 16 c w low_size hi)
      ∙ last)
      (cases_lt c 16)

-- three places written
module _ (ps : List (List ℕ)) (a r p : ℕ) (x y z : List ℕ) where
  pub third : p < length ps → get_or (set (set (set ps a x) r y) p z) p [] ≡ z
  third h = get_or-set_same (set (set ps a x) r y) p z [] (rw (length-set (set ps a x) r y, length-set ps a x) h)

  pub second : (r ≡ p → ⊥) → r < length ps → get_or (set (set (set ps a x) r y) p z) r [] ≡ y
  second d h = get_or-set_other (set (set ps a x) r y) p r z [] d ∙ get_or-set_same (set ps a x) r y [] (rw (length-set ps a x) h)

  pub first : (a ≡ p → ⊥) → (a ≡ r → ⊥) → a < length ps → get_or (set (set (set ps a x) r y) p z) a [] ≡ x
  first d e h = get_or-set_other (set (set ps a x) r y) p a z [] d ∙ get_or-set_other (set ps a x) r a y [] e ∙ get_or-set_same ps a x [] h

  pub none_of : (q : ℕ) → (q ≡ a → ⊥) → (q ≡ r → ⊥) → (q ≡ p → ⊥) → get_or (set (set (set ps a x) r y) p z) q [] ≡ get_or ps q []
  none_of q d e f = get_or-set_other (set (set ps a x) r y) p q z [] f ∙ get_or-set_other (set ps a x) r q y [] e ∙ get_or-set_other ps a q x [] d

module _ (ps : List (List ℕ)) (s : List ℕ) (ss : List (Slot TallyOp)) (i : Intact ps s ss) (long : 131 ≤ length ps) (even : Each 64 ps) (t k c n : ℕ) (ht : t < 8) (hk : k < 16) (hc : c < 32) where
  -- the records of a running slot
  pub records_of : (j : ℕ) (us : List TallyOp) → get_or (table_slots 8 16 (get_or ps 0 [])) t Committed ≡ Running j → slot_at ss t ≡ running us → undos undo_at (record_place 16) ps t j ≡ good us
  records_of j us e f = running_found us (undos undo_at (record_place 16) ps t j) (ap (λ (x : SlotState). slot_in undo_at (record_place 16) ps t x) (sym e) ∙ slot_here ps s ss i t ht ∙ ap good f)

  -- an add: one record more
  pub add_intact : (us : List TallyOp) → get_or (table_slots 8 16 (get_or ps 0 [])) t Committed ≡ Running k → slot_at ss t ≡ running us
      → Intact (stored (add_writes ps t k c n) ps) (counted s c n) (set ss t (running (Add c (inverse_amount n) ∷ us)))
  add_intact us e f =
      let r = record_place 16 t k in
      let p = counter_place c in
      let qs = stored (add_writes ps t k c n) ps in
      let op = Add c (inverse_amount n) in
      let code = tally_code (Add c (inverse_amount n)) in
      let other = none_of ps 0 r p (set (get_or ps 0 []) t (slot_byte (Running (k + 1)))) (record_bytes code) (added ps c n) in
      let old = records_of k us e f in
      let same = undos_same undo_at (record_place 16) ps qs t k (λ j l. ap (λ b. as_undo (reading_record b)) (sym (other (record_place 16 t j) (λ z. omega arith) (λ z. omega arith) (λ z. omega arith)))) in
      let here : undo_at qs t k ≡ Some op =
      ap (λ b. as_undo (reading_record b)) (second ps 0 r p (set (get_or ps 0 []) t (slot_byte (Running (k + 1)))) (record_bytes code) (added ps c n) (λ z. omega arith) (omega arith))
      ∙ ap as_undo (record_back code (omega arith, omega arith)) ∙ cond-true (ltb c 32) (Some op) None (lt-ltb c 32 hc) in
      one_slot ps s ss i qs t (Running (k + 1)) (running (op ∷ us)) (counted s c n) ht
      (first ps 0 r p (set (get_or ps 0 []) t (slot_byte (Running (k + 1)))) (record_bytes code) (added ps c n) (λ z. omega arith) (λ z. omega arith) (omega arith)) (omega arith)
      (ap as_running (undos_more undo_at (record_place 16) qs t k us op (sym same ∙ old) here))
      (λ m j l d w. ap (λ b. as_undo (reading_record b)) (sym (other (record_place 16 m j) (λ z. omega arith) (λ z. omega (arith, apart m j z l d w)) (λ z. omega arith))))
      (counters_added ps long even c n hc qs (third ps 0 r p (set (get_or ps 0 []) t (slot_byte (Running (k + 1)))) (record_bytes code) (added ps c n) (omega arith)) (λ q lo hi d. other q (λ z. omega arith) (λ z. omega arith) d) ∙ ap (λ x. counted x c n) i.counters)
    where
      apart : (m j : ℕ) → record_place 16 m j ≡ record_place 16 t k → m < 8 → (m ≡ t → ⊥) → j < 16 → ◌≡◌ {A = ℕ} 0 1
      apart m j z l d w = absurd (d (omega arith))

-- two places written
module _ (ps : List (List ℕ)) (a p : ℕ) (x z : List ℕ) where
  second_of_two : p < length ps → get_or (set (set ps a x) p z) p [] ≡ z
  second_of_two h = get_or-set_same (set ps a x) p z [] (rw (length-set ps a x) h)

  first_of_two : (a ≡ p → ⊥) → a < length ps → get_or (set (set ps a x) p z) a [] ≡ x
  first_of_two d h = get_or-set_other (set ps a x) p a z [] d ∙ get_or-set_same ps a x [] h

  neither : (q : ℕ) → (q ≡ a → ⊥) → (q ≡ p → ⊥) → get_or (set (set ps a x) p z) q [] ≡ get_or ps q []
  neither q d f = get_or-set_other (set ps a x) p q z [] f ∙ get_or-set_other ps a q x [] d

module _ (ps : List (List ℕ)) (s : List ℕ) (ss : List (Slot TallyOp)) (i : Intact ps s ss) (long : 131 ≤ length ps) (even : Each 64 ps) (t k c n : ℕ) (ht : t < 8) (hk : k < 16) (hc : c < 32) where
  -- an undo: the newest record, which is this add, is taken back
  pub undo_intact : (us : List TallyOp) → undos undo_at (record_place 16) ps t k ≡ good us → Intact (stored (undo_writes ps t k c n) ps) (counted s c n) (set ss t (running us))
  undo_intact us e =
      let p = counter_place c in
      let qs = stored (undo_writes ps t k c n) ps in
      let x = set (get_or ps 0 []) t (slot_byte (Running k)) in
      let other = neither ps 0 p x (added ps c n) in
      let same = undos_same undo_at (record_place 16) ps qs t k (λ j l. ap (λ b. as_undo (reading_record b)) (sym (other (record_place 16 t j) (λ z. omega arith) (λ z. omega arith)))) in
      one_slot ps s ss i qs t (Running k) (running us) (counted s c n) ht
      (first_of_two ps 0 p x (added ps c n) (λ z. omega arith) (omega arith)) (omega arith)
      (ap as_running (sym same ∙ e))
      (λ m j l d w. ap (λ b. as_undo (reading_record b)) (sym (other (record_place 16 m j) (λ z. omega arith) (λ z. omega arith))))
      (counters_added ps long even c n hc qs (second_of_two ps 0 p x (added ps c n) (omega arith)) (λ q lo hi d. other q (λ z. omega arith) d) ∙ ap (λ y. counted y c n) i.counters)
