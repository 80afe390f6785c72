-- The slots of a level when one of them changes: its live undo records decide, and the others stay.
use Rattle.std.proofs.Common.{◌≡◌, ℕ, zero, suc, ◌+◌, ◌<◌, List, [], ◌∷◌, length, get_or, set, Some, None, Option, sym, refl, ap, ◌∙◌, subst, add-one, arith}
use Rattle.theory.specs.Slots.{Slot, committed, running}
use Rattle.level.specs.declared.slots.SlotState.{SlotState}
use Rattle.level.specs.declared.slots.SlotState.TheVariants.{Committed, Undone, Running}
use Rattle.level.specs.Levels.{Found, bad, good, live, with_record, as_running, both, undos, slot_in, slots_in}

clash : {X A : Type 0} {p : ℕ} {a : A} → bad p ≡ good a → X
clash e = let z : ◌≡◌ {A = ℕ} 0 1 = cc in absurd (omega arith)

good_same : {A : Type 0} {a b : A} → good a ≡ good b → a ≡ b
good_same e = cc

module _ {Op : Type 0} where
  -- a record found in a slot that was found
  pub record Last (us : List Op) (older : Found (List Op)) (o : Option Op) : Type 0 where
    pub op : Op
    pub rest : List Op
    pub all : us ≡ op ∷ rest
    pub before : older ≡ good rest
    pub here : o ≡ Some op

  last_of : (us : List Op) (f : Found (List Op)) (o : Option Op) (place : ℕ) → with_record f o place ≡ good us → Last us f o
  last_of us (bad p) o place e = clash e
  last_of us (good rest) None place e = clash e
  last_of us (good rest) (Some op) place e = record { op = op; rest = rest; all = sym (good_same e); before = refl; here = refl }

  pub running_found : (us : List Op) (f : Found (List Op)) → as_running f ≡ good (running us) → f ≡ good us
  running_found us (bad p) e = clash e
  running_found us (good vs) e = let s : running vs ≡ running us = good_same e in let t : vs ≡ us = cc in ap good t

  record Parts (ss : List (Slot Op)) (f : Found (Slot Op)) (g : Found (List (Slot Op))) : Type 0 where
    one : Slot Op
    rest : List (Slot Op)
    all : ss ≡ one ∷ rest
    first : f ≡ good one
    others : g ≡ good rest

  parts_of : (ss : List (Slot Op)) (f : Found (Slot Op)) (g : Found (List (Slot Op))) → both f g ≡ good ss → Parts ss f g
  parts_of ss (bad p) g e = clash e
  parts_of ss (good x) (bad p) e = clash e
  parts_of ss (good x) (good xs) e = record { one = x; rest = xs; all = sym (good_same e); first = refl; others = refl }

module _ {Op : Type 0} (at : List (List ℕ) → ℕ → ℕ → Option Op) (place : ℕ → ℕ → ℕ) where
  -- places that agree where a slot's live records stand
  pub undos_same : (ps qs : List (List ℕ)) (t k : ℕ) → ((j : ℕ) → j < k → at ps t j ≡ at qs t j) → undos at place ps t k ≡ undos at place qs t k
  undos_same ps qs t zero h = refl
  undos_same ps qs t (suc k) h =
      ap (λ f. with_record f (at ps t k) (place t k)) (undos_same ps qs t k (λ j l. h j (omega arith)))
      ∙ ap (λ o. with_record (undos at place qs t k) o (place t k)) (h k (omega arith))

  pub slot_same : (ps qs : List (List ℕ)) (t : ℕ) (x : SlotState) → ((j : ℕ) → j < live x → at ps t j ≡ at qs t j) → slot_in at place ps t x ≡ slot_in at place qs t x
  slot_same ps qs t Committed h = refl
  slot_same ps qs t Undone h = refl
  slot_same ps qs t (Running k) h = ap as_running (undos_same ps qs t k h)

  pub slots_same : (ps qs : List (List ℕ)) (t : ℕ) (xs : List SlotState) → ((i j : ℕ) → i < length xs → j < live (get_or xs i Committed) → at ps (t + i) j ≡ at qs (t + i) j) → slots_in at place ps t xs ≡ slots_in at place qs t xs
  slots_same ps qs t [] h = refl
  slots_same ps qs t (x ∷ xs) h =
      let z : t + 0 ≡ t = omega arith in
      let first = slot_same ps qs t x (λ j l. subst (λ u. at ps u j ≡ at qs u j) z (h 0 j (omega arith) l)) in
      let rest = slots_same ps qs (t + 1) xs (λ i j l m. let s : t + suc i ≡ t + 1 + i = omega arith in subst (λ u. at ps u j ≡ at qs u j) s (h (suc i) j (omega arith) m)) in
      ap (λ f. both f (slots_in at place ps (t + 1) xs)) first ∙ ap (both (slot_in at place qs t x)) rest

  pub slots_length : (ps : List (List ℕ)) (t : ℕ) (xs : List SlotState) (ss : List (Slot Op)) → slots_in at place ps t xs ≡ good ss → length ss ≡ length xs
  slots_length ps t [] ss e = ap length (sym (good_same e))
  slots_length ps t (x ∷ xs) ss e = let p = parts_of ss (slot_in at place ps t x) (slots_in at place ps (t + 1) xs) e in ap length p.all ∙ ap suc (slots_length ps (t + 1) xs p.rest p.others)

  -- the slot of a number
  pub slots_at : (ps : List (List ℕ)) (t i : ℕ) (xs : List SlotState) (ss : List (Slot Op)) → slots_in at place ps t xs ≡ good ss → i < length xs → slot_in at place ps (t + i) (get_or xs i Committed) ≡ good (get_or ss i committed)
  slots_at ps t i [] ss e h = absurd (omega arith)
  slots_at ps t zero (x ∷ xs) ss e h =
      let p = parts_of ss (slot_in at place ps t x) (slots_in at place ps (t + 1) xs) e in
      let z : t + 0 ≡ t = omega arith in
      ap (λ u. slot_in at place ps u x) z ∙ p.first ∙ ap (λ l. good (get_or l 0 committed)) (sym p.all)
  slots_at ps t (suc i) (x ∷ xs) ss e h =
      let p = parts_of ss (slot_in at place ps t x) (slots_in at place ps (t + 1) xs) e in
      let z : t + suc i ≡ t + 1 + i = omega arith in
      ap (λ u. slot_in at place ps u (get_or xs i Committed)) z ∙ slots_at ps (t + 1) i xs p.rest p.others (omega arith) ∙ ap (λ l. good (get_or l (suc i) committed)) (sym p.all)

  -- one slot changed, the live records of the others as they were
  pub slots_set : (ps qs : List (List ℕ)) (t i : ℕ) (xs : List SlotState) (ss : List (Slot Op)) (x : SlotState) (s : Slot Op) → slots_in at place ps t xs ≡ good ss → i < length xs → slot_in at place qs (t + i) x ≡ good s
      → ((n j : ℕ) → n < length xs → (n ≡ i → ⊥) → j < live (get_or xs n Committed) → at ps (t + n) j ≡ at qs (t + n) j) → slots_in at place qs t (set xs i x) ≡ good (set ss i s)
  slots_set ps qs t i [] ss x s e h c o = absurd (omega arith)
  slots_set ps qs t zero (y ∷ xs) ss x s e h c o =
      let p = parts_of ss (slot_in at place ps t y) (slots_in at place ps (t + 1) xs) e in
      let z : t + 0 ≡ t = omega arith in
      let rest = slots_same ps qs (t + 1) xs (λ n j l m. let w : t + suc n ≡ t + 1 + n = omega arith in subst (λ u. at ps u j ≡ at qs u j) w (o (suc n) j (omega arith) (λ q. omega arith) m)) in
      ap (λ f. both f (slots_in at place qs (t + 1) xs)) (ap (λ u. slot_in at place qs u x) (sym z) ∙ c)
      ∙ ap (both (good s)) (sym rest ∙ p.others) ∙ ap (λ l. good (set l 0 s)) (sym p.all)
  slots_set ps qs t (suc i) (y ∷ xs) ss x s e h c o =
      let p = parts_of ss (slot_in at place ps t y) (slots_in at place ps (t + 1) xs) e in
      let z : t + 0 ≡ t = omega arith in
      let w : t + suc i ≡ t + 1 + i = omega arith in
      let first = slot_same ps qs t y (λ j l. subst (λ u. at ps u j ≡ at qs u j) z (o 0 j (omega arith) (λ q. omega arith) l)) in
      let rest = slots_set ps qs (t + 1) i xs p.rest x s p.others (omega arith) (ap (λ u. slot_in at place qs u x) (sym w) ∙ c) (λ n j l d m. let v : t + suc n ≡ t + 1 + n = omega arith in subst (λ u. at ps u j ≡ at qs u j) v (o (suc n) j (omega arith) (λ q. d (omega arith)) m)) in
      ap (λ f. both f (slots_in at place qs (t + 1) (set xs i x))) (sym first ∙ p.first) ∙ ap (both (good p.one)) rest ∙ ap (λ l. good (set l (suc i) s)) (sym p.all)

  -- one undo record more, and one less
  pub undos_more : (ps : List (List ℕ)) (t k : ℕ) (us : List Op) (op : Op) → undos at place ps t k ≡ good us → at ps t k ≡ Some op → undos at place ps t (k + 1) ≡ good (op ∷ us)
  undos_more ps t k us op e h = ap (undos at place ps t) (add-one k) ∙ ap (λ f. with_record f (at ps t k) (place t k)) e ∙ ap (λ o. with_record (good us) o (place t k)) h

  pub undos_less : (ps : List (List ℕ)) (t k : ℕ) (us : List Op) → undos at place ps t (suc k) ≡ good us → Last us (undos at place ps t k) (at ps t k)
  undos_less ps t k us e = last_of us (undos at place ps t k) (at ps t k) (place t k) e

  pub undos_length : (ps : List (List ℕ)) (t k : ℕ) (us : List Op) → undos at place ps t k ≡ good us → length us ≡ k
  undos_length ps t zero us e = ap length (sym (good_same e))
  undos_length ps t (suc k) us e = let l = undos_less ps t k us e in ap length l.all ∙ ap suc (undos_length ps t k l.rest l.before)
