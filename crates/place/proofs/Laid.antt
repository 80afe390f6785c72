-- The laws of the layout: where a place lies in the cells, and what writing it changes.
use Rattle.std.proofs.Common.{◌≡◌, ℕ, zero, suc, ◌+◌, ◌-◌, ◌*◌, ◌/◌, ◌%◌, ◌<◌, ◌≤◌, eqb, ◌⊎◌, List, [], ◌∷◌, ◌++◌, length, get_or, take, drop, set, replicate, sym, refl, ap, ◌∙◌, subst, inl, inr, ⊎_elim, mod-lt, mod-eq_of_lt, suc-mul, div-lt_iff_lt-mul, zero-mul, arith, take-add}
use Rattle.std.proofs.Math.Nat.{div-eq-sub-div, mod-eq-sub-mod, div-eq_of_lt}
use Rattle.std.specs.List.{flat_map}
use Rattle.std.proofs.lemmas.Bool.{cases_lt, cond_both}
use Rattle.std.proofs.lemmas.List.{length-append, length-drop, length-take-le, drop-drop, take_at, drop_at, drop-append-le, take-append-le, append_assoc, get_or_append_left, get_or-append_right, set-append_left, set-append_right}
use Rattle.disk.specs.Device.{Each}
use Rattle.store.specs.Meaning.{Cells, padded}
use Rattle.place.specs.Places.{fold, parts, places, cell_of, start_of, replaced}

pub length_parts : (k : ℕ) (v : List ℕ) → length (parts k v) ≡ k
length_parts zero v = refl
length_parts (suc k) v = ap suc (length_parts k (drop 64 v))

pub length_spread : (k : ℕ) (c : Cells) → length (flat_map (parts k) c) ≡ length c * k
length_spread k [] = sym (zero-mul k)
length_spread k (v ∷ c) =
    let a = length-append (parts k v) (flat_map (parts k) c) in
    let b = length_parts k v in
    let d = length_spread k c in
    let e = suc-mul (length c) k in
    omega arith

pub getD_parts : (k : ℕ) (v : List ℕ) (i : ℕ) → i < k → get_or (parts k v) i [] ≡ take 64 (drop (64 * i) v)
getD_parts zero v i h = absurd (omega arith)
getD_parts (suc k) v zero h = refl
getD_parts (suc k) v (suc i) h =
    let e : 64 + 64 * i ≡ 64 * suc i = omega arith in
    getD_parts k (drop 64 v) i (omega arith) ∙ ap (take 64) (drop-drop (64 * i) 64 v ∙ ap (λ n. drop n v) e)

-- a place past the first cell is one of the others
step_div : (k p : ℕ) → 0 < k → k ≤ p → p / k ≡ suc ((p - k) / k)
step_div k p h l = let e = div-eq-sub-div h l in omega arith

-- the place as its cell has it
abbrev seen : ℕ → Cells → ℕ → List ℕ
seen k c p = take 64 (drop (64 * (p % k)) (get_or c (p / k) []))

seen_near : (k : ℕ) (v : List ℕ) (c : Cells) (p : ℕ) → p < k → seen k (v ∷ c) p ≡ take 64 (drop (64 * p) v)
seen_near k v c p l =
    let d = div-eq_of_lt l in
    let e = mod-eq_of_lt l in
    cc

seen_far : (k : ℕ) (v : List ℕ) (c : Cells) (p : ℕ) → 0 < k → k ≤ p → seen k (v ∷ c) p ≡ seen k c (p - k)
seen_far k v c p z l =
    let d = step_div k p z l in
    let e = mod-eq-sub-mod l in
    cc

fewer : (k n p : ℕ) → k ≤ p → p < suc n * k → p - k < n * k
fewer k n p l h = let e = suc-mul n k in omega arith

pub getD_spread : (k : ℕ) (c : Cells) (p : ℕ) → 0 < k → p < length c * k → get_or (flat_map (parts k) c) p [] ≡ take 64 (drop (64 * (p % k)) (get_or c (p / k) []))
getD_spread k [] p z h = let e = zero-mul k in absurd (omega arith)
getD_spread k (v ∷ c) p z h =
    let n = length_parts k v in
    ⊎_elim
    (λ l. get_or_append_left (parts k v) (flat_map (parts k) c) [] p (omega arith) ∙ getD_parts k v p l ∙ sym (seen_near k v c p l))
    (λ l. get_or-append_right (parts k v) (flat_map (parts k) c) k p [] n l ∙ getD_spread k c (p - k) z (fewer k (length c) p l h) ∙ sym (seen_far k v c p z l))
    (cases_lt p k)

-- one part of a cell replaced
pub set_parts : (k : ℕ) (v u : List ℕ) (i : ℕ) → i < k → length v ≡ 64 * k → length u ≡ 64 → parts k (replaced (64 * i) u v) ≡ set (parts k v) i u
set_parts zero v u i h n m = absurd (omega arith)
set_parts (suc k) v u zero h n m =
    let a = take_at u (drop 64 v) 64 m in
    let b = drop_at u (drop 64 v) 64 m in
    cc
set_parts (suc k) v u (suc i) h n m =
    let a : 64 * suc i ≡ 64 + 64 * i = omega arith in
    let first : take (64 * suc i) v ≡ take 64 v ++ take (64 * i) (drop 64 v) = ap (λ x. take x v) a ∙ take-add 64 (64 * i) v in
    let rest : drop (64 * suc i) v ≡ drop (64 * i) (drop 64 v) = ap (λ x. drop x v) a ∙ sym (drop-drop (64 * i) 64 v) in
    let joined = append_assoc (take 64 v) (take (64 * i) (drop 64 v)) (u ++ drop 64 (drop (64 * i) (drop 64 v))) in
    let whole : replaced (64 * suc i) u v ≡ take 64 v ++ replaced (64 * i) u (drop 64 v) = cc in
    let left : length v - 64 ≡ 64 * k = omega arith in
    let l : length (take 64 v) ≡ 64 = length-take-le 64 v (omega arith) in
    let head = take_at (take 64 v) (replaced (64 * i) u (drop 64 v)) 64 l in
    let tail = drop_at (take 64 v) (replaced (64 * i) u (drop 64 v)) 64 l in
    let others = set_parts k (drop 64 v) u i (omega arith) (length-drop 64 v ∙ left) m in
    cc

-- the cell of a place with the place replaced, among its cells
abbrev put_in : ℕ → Cells → ℕ → List ℕ → Cells
put_in k c p u = set c (p / k) (replaced (64 * (p % k)) u (get_or c (p / k) []))

put_near : (k : ℕ) (v : List ℕ) (c : Cells) (p : ℕ) (u : List ℕ) → p < k → put_in k (v ∷ c) p u ≡ replaced (64 * p) u v ∷ c
put_near k v c p u l =
    let d = div-eq_of_lt l in
    let e = mod-eq_of_lt l in
    cc

put_far : (k : ℕ) (v : List ℕ) (c : Cells) (p : ℕ) (u : List ℕ) → 0 < k → k ≤ p → put_in k (v ∷ c) p u ≡ v ∷ put_in k c (p - k) u
put_far k v c p u z l =
    let d = step_div k p z l in
    let e = mod-eq-sub-mod l in
    cc

pub set_spread : (k : ℕ) (c : Cells) (p : ℕ) (u : List ℕ) → 0 < k → p < length c * k → Each (64 * k) c → length u ≡ 64 → flat_map (parts k) (put_in k c p u) ≡ set (flat_map (parts k) c) p u
set_spread k [] p u z h e n = let x = zero-mul k in absurd (omega arith)
set_spread k (v ∷ c) p u z h e n =
    let m = length_parts k v in
    ⊎_elim
    (λ l.
    let a = put_near k v c p u l in
    let b = set_parts k v u p l e.0 n in
    let d = set-append_left (parts k v) (flat_map (parts k) c) p u (omega arith) in
    cc)
    (λ l.
    let a = put_far k v c p u z l in
    let b = set_spread k c (p - k) u z (fewer k (length c) p l h) e.1 n in
    let d = set-append_right (parts k v) (flat_map (parts k) c) k p u m l in
    cc)
    (cases_lt p k)

each_append : (z : ℕ) (xs ys : List (List ℕ)) → Each z xs → Each z ys → Each z (xs ++ ys)
each_append z [] ys h k = k
each_append z (x ∷ xs) ys h k = (h.0, each_append z xs ys h.1 k)

each_part : (k : ℕ) (v : List ℕ) → length v ≡ 64 * k → Each 64 (parts k v)
each_part zero v h = tt
each_part (suc k) v h = let left : length v - 64 ≡ 64 * k = omega arith in (length-take-le 64 v (omega arith), each_part k (drop 64 v) (length-drop 64 v ∙ left))

pub each_spread : (k : ℕ) (c : Cells) → Each (64 * k) c → Each 64 (flat_map (parts k) c)
each_spread k [] e = tt
each_spread k (v ∷ c) e = each_append 64 (parts k v) (flat_map (parts k) c) (each_part k v e.0) (each_spread k c e.1)

pub each_at : (z : ℕ) (c : List (List ℕ)) (n : ℕ) → Each z c → n < length c → length (get_or c n []) ≡ z
each_at z [] n e h = absurd (omega arith)
each_at z (v ∷ c) zero e h = e.0
each_at z (v ∷ c) (suc n) e h = each_at z c n e.1 (omega arith)

-- the same, by the size of the cells
pub fold_some : (z : ℕ) → 0 < fold z
fold_some z = cond_both (eqb z 256) 4 1 (λ n. 0 < n) (λ e. omega arith) (λ e. omega arith)

pub fold_few : (z : ℕ) → fold z ≤ 4
fold_few z = cond_both (eqb z 256) 4 1 (λ n. n ≤ 4) (λ e. omega arith) (λ e. omega arith)

pub fold_size : (z : ℕ) → (z ≡ 64) ⊎ (z ≡ 256) → 64 * fold z ≡ z
fold_size z (inl e) = rw e
fold_size z (inr e) = rw e

pub fold_is : (z : ℕ) → (z ≡ 64) ⊎ (z ≡ 256) → fold z ≡ z / 64
fold_is z (inl e) = rw e
fold_is z (inr e) = rw e

pub place_count : (z : ℕ) (c : Cells) → length (places z c) ≡ length c * fold z
place_count z c = length_spread (fold z) c

module _ (z : ℕ) (c : Cells) (p : ℕ) (h : p < length (places z c)) where
  within : p < length c * fold z
  within = subst (λ n. p < n) (place_count z c) h

  -- a place lies in one of the cells
  pub cell_within : cell_of z p < length c
  cell_within = (div-lt_iff_lt-mul (fold_some z)).1 within

  -- the bytes of a place
  pub place_at : get_or (places z c) p [] ≡ take 64 (drop (start_of z p) (get_or c (cell_of z p) []))
  place_at = getD_spread (fold z) c p (fold_some z) within

  -- a place written in its cell is the place written
  pub place_set : (u : List ℕ) → (z ≡ 64) ⊎ (z ≡ 256) → Each z c → length u ≡ 64 → places z (set c (cell_of z p) (replaced (start_of z p) u (get_or c (cell_of z p) []))) ≡ set (places z c) p u
  place_set u s e n = set_spread (fold z) c p u (fold_some z) within (subst (λ n. Each n c) (sym (fold_size z s)) e) n

-- every place has 64 bytes
pub place_even : (z : ℕ) (c : Cells) → (z ≡ 64) ⊎ (z ≡ 256) → Each z c → Each 64 (places z c)
place_even z c s e = each_spread (fold z) c (subst (λ n. Each n c) (sym (fold_size z s)) e)

-- a place ends within its cell
pub start_within : (z p : ℕ) → (z ≡ 64) ⊎ (z ≡ 256) → start_of z p + 64 ≤ z
start_within z p s = let a = mod-lt p (fold_some z) in let b = fold_size z s in omega arith

-- what a buffer holds of a cell
pub read_padded : (v : List ℕ) (a : ℕ) → a + 64 ≤ length v → take 64 (drop a (padded v)) ≡ take 64 (drop a v)
read_padded v a h =
    let t : List ℕ = replicate (256 - length v) 0 in
    ap (take 64) (drop-append-le a v t (omega arith)) ∙ take-append-le 64 (drop a v) t (omega (arith, length-drop a v, h))

pub length_replaced : (v u : List ℕ) (a : ℕ) → a ≤ length v → length (replaced a u v) ≡ a + (length u + (length v - a - 64))
length_replaced v u a h = omega (arith, length-append (take a v) (u ++ drop 64 (drop a v)), length-append u (drop 64 (drop a v)), length-take-le a v h, length-drop a v, length-drop 64 (drop a v))

-- a place written in the buffer is written in the cell
pub put_padded : (v u : List ℕ) (a z : ℕ) → length v ≡ z → length u ≡ 64 → a + 64 ≤ z → take z (replaced a u (padded v)) ≡ replaced a u v
put_padded v u a z m n h =
    let t : List ℕ = replicate (256 - length v) 0 in
    let first = take-append-le a v t (omega arith) in
    let rest = drop-append-le a v t (omega arith) in
    let past = drop-append-le 64 (drop a v) t (omega (arith, length-drop a v, m, h)) in
    let inner = append_assoc u (drop 64 (drop a v)) t in
    let outer = append_assoc (take a v) (u ++ drop 64 (drop a v)) t in
    let one : replaced a u (padded v) ≡ replaced a u v ++ t = cc in
    ap (take z) one ∙ take_at (replaced a u v) t z (omega (arith, length_replaced v u a (omega arith), m, n, h))
