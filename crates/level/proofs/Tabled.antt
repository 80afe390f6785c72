-- Slots through their bytes, and a slot table read, changed and new. Assumes nothing.
use Rattle.std.proofs.Common.{◌≡◌, ℕ, zero, suc, ◌+◌, ◌-◌, ◌<◌, ◌≤◌, min, Bool, true, false, ◌&&◌, leb, List, [], ◌∷◌, map, length, get_or, take, drop, set, replicate, is_some, unwrap_or, Some, None, Option, sym, refl, ap, ◌∙◌, subst, arith}
use Rattle.std.proofs.lemmas.List.{length-set, length-take, map-set, drop-set-lt, get_or-map, get_or-take, take-replicate, drop-replicate}
use Rattle.std.proofs.lemmas.List.Elements.{All-set, All-replicate}
use Rattle.std.proofs.lemmas.List.Sums.{AllPass-from_list_all, list_all-from_AllPass}
use Rattle.std.proofs.lemmas.Bool.{and_parts, and_from, leb-true, le-leb, both_ways}
use Rattle.std.proofs.lemmas.Bool.Decides.{nat_tests}
use Rattle.number.specs.Zeros.{zeros, zeros_replicate}
use Rattle.level.specs.declared.slots.SlotState.{SlotState}
use Rattle.level.specs.declared.slots.SlotState.TheVariants.{Committed, Undone, Running}
use Rattle.level.specs.SlotTable.{slot_of, slot_byte, Within, all_slots, table_ok, table_slots, Kept}

-- the slot that is written is read again
pub slot_back : (m : ℕ) (s : SlotState) → m ≤ 64 → Within m s → slot_of m (slot_byte s) ≡ Some s
slot_back m Committed h w = refl
slot_back m Undone h w = refl
slot_back m (Running k) h w = let same : k + 1 - 1 ≡ k = omega arith in grind (arith, nat_tests)

-- the slot that is read has the byte that it was read from
pub slot_same : (m b : ℕ) (s : SlotState) → slot_of m b ≡ Some s → (slot_byte s ≡ b) × Within m s
slot_same m b Committed e = (grind (arith, nat_tests), tt)
slot_same m b Undone e = (grind (arith, nat_tests), tt)
slot_same m b (Running k) e = (grind (arith, nat_tests), grind (arith, nat_tests))

pub slot_byte_fits : (m : ℕ) (s : SlotState) → m ≤ 64 → Within m s → min (slot_byte s) 255 ≡ slot_byte s
slot_byte_fits m Committed h w = refl
slot_byte_fits m Undone h w = refl
slot_byte_fits m (Running k) h w = omega arith

some_is : (s : SlotState) (o : Option SlotState) → is_some o ≡ true → o ≡ Some (unwrap_or o s)
some_is s None e = absurd (both_ways false refl e)
some_is s (Some x) e = refl

take_set_in : (t : ℕ) (bs : List ℕ) (i b : ℕ) → take t (set bs i b) ≡ set (take t bs) i b
take_set_in zero [] i b = refl
take_set_in zero (x ∷ xs) zero b = refl
take_set_in zero (x ∷ xs) (suc i) b = refl
take_set_in (suc t) [] i b = refl
take_set_in (suc t) (x ∷ xs) zero b = refl
take_set_in (suc t) (x ∷ xs) (suc i) b = ap (λ l. x ∷ l) (take_set_in t xs i b)

all_slots_set : (m : ℕ) (bs : List ℕ) (i b : ℕ) → is_some (slot_of m b) ≡ true → all_slots m bs ≡ true → all_slots m (set bs i b) ≡ true
all_slots_set m bs i b some all = list_all-from_AllPass _ _ (All-set (λ x. is_some (slot_of m x) ≡ true) bs i b some (AllPass-from_list_all _ bs all))

-- the parts of a table
pub record Parts (t m : ℕ) (bs : List ℕ) : Type 0 where
  pub room : t ≤ length bs
  pub slots : all_slots m (take t bs) ≡ true
  pub rest : zeros (drop t bs) ≡ true

pub table_parts : (t m : ℕ) (bs : List ℕ) → table_ok t m bs ≡ true → Parts t m bs
table_parts t m bs ok =
    let p = and_parts (leb t (length bs)) (all_slots m (take t bs) && zeros (drop t bs)) ok in
    let q = and_parts (all_slots m (take t bs)) (zeros (drop t bs)) p.1 in
    record { room = leb-true t (length bs) p.0; slots = q.0; rest = q.1 }

pub table_from : (t m : ℕ) (bs : List ℕ) → Parts t m bs → table_ok t m bs ≡ true
table_from t m bs p =
    and_from (leb t (length bs)) (all_slots m (take t bs) && zeros (drop t bs)) (le-leb t (length bs) p.room)
    (and_from (all_slots m (take t bs)) (zeros (drop t bs)) p.slots p.rest)

some_true : (s : SlotState) (o : Option SlotState) → o ≡ Some s → is_some o ≡ true
some_true s o e = ap is_some e

-- one slot changed
pub slot_set : (i : ℕ) (s : SlotState) (bs : List ℕ) → Kept i s bs (set bs i (slot_byte s))
slot_set i s bs t m h few within ok =
    let b = slot_byte s in
    let p = table_parts t m bs ok in
    let back : slot_of m b ≡ Some s = slot_back m s few within in
    let f : ℕ → SlotState = λ b. unwrap_or (slot_of m b) Committed in (
      table_from t m (set bs i b) (record {
        room = omega (arith, length-set bs i b, p.room);
        slots = ap (all_slots m) (take_set_in t bs i b) ∙ all_slots_set m (take t bs) i b (some_true s (slot_of m b) back) p.slots;
        rest = ap zeros (drop-set-lt t bs i b h) ∙ p.rest;
      }),
      ap (map f) (take_set_in t bs i b) ∙ map-set f (take t bs) i b ∙ ap (λ o. set (map f (take t bs)) i (unwrap_or o Committed)) back,
    )

-- the same of the byte that the code writes
pub slot_set_byte : (i : ℕ) (s : SlotState) (bs new : List ℕ) → new ≡ set bs i (min (slot_byte s) 255) → Kept i s bs new
slot_set_byte i s bs new e t m h few within ok =
    let is : new ≡ set bs i (slot_byte s) = e ∙ ap (set bs i) (slot_byte_fits m s few within) in
    subst (λ l. (table_ok t m l ≡ true) × (table_slots t m l ≡ set (table_slots t m bs) i s)) (sym is) (slot_set i s bs t m h few within ok)

-- a slot of a table, by its byte
pub slot_found : (n m i : ℕ) (bs : List ℕ) → i < n → table_ok n m bs ≡ true → slot_of m (get_or bs i 0) ≡ Some (get_or (table_slots n m bs) i Committed)
slot_found n m i bs h ok =
    let p = table_parts n m bs ok in
    let long : i < length (take n bs) = omega (arith, length-take n bs, p.room) in
    let f : ℕ → SlotState = λ b. unwrap_or (slot_of m b) Committed in
    let at : get_or (take n bs) i 0 ≡ get_or bs i 0 = get_or-take n bs i 0 h in
    ap (slot_of m) (sym at) ∙ some_is Committed (slot_of m (get_or (take n bs) i 0)) (AllPass-from_list_all (λ b. is_some (slot_of m b)) (take n bs) p.slots i 0 long)
    ∙ ap Some (sym (get_or-map f (take n bs) i 0 Committed long))

-- a table that is cut where its slots end
pub table_cut : (t m : ℕ) (bs front rest : List ℕ) (r : Bool) → t ≤ length bs → front ≡ take t bs → rest ≡ drop t bs → r ≡ (all_slots m front && zeros rest) → r ≡ table_ok t m bs
table_cut t m bs front rest r room f g e =
    e ∙ ap (λ l. all_slots m l && zeros rest) f ∙ ap (λ l. all_slots m (take t bs) && zeros l) g
    ∙ ap (λ x. x && (all_slots m (take t bs) && zeros (drop t bs))) (sym (le-leb t (length bs) room))

slots_replicate : (m n : ℕ) → all_slots m (replicate n 0) ≡ true
slots_replicate m n = list_all-from_AllPass _ _ (All-replicate (λ b. is_some (slot_of m b) ≡ true) n 0 refl)

fresh_slots : (m n : ℕ) → map (λ b. unwrap_or (slot_of m b) Committed) (replicate n 0) ≡ replicate n Committed
fresh_slots m zero = refl
fresh_slots m (suc n) = ap (λ l. Committed ∷ l) (fresh_slots m n)

-- a new table
pub table_fresh : (n m : ℕ) → n ≤ 64 → (table_ok n m (replicate 64 0) ≡ true) × (table_slots n m (replicate 64 0) ≡ replicate n Committed)
table_fresh n m h =
    let front : take n (replicate 64 0) ≡ replicate n 0 = take-replicate n 64 0 h in (
      table_from n m (replicate 64 0) (record {
        room = h;
        slots = ap (all_slots m) front ∙ slots_replicate m n;
        rest = ap zeros (drop-replicate n 64 0) ∙ zeros_replicate (64 - n);
      }),
      ap (map (λ b. unwrap_or (slot_of m b) Committed)) front ∙ fresh_slots m n,
    )
