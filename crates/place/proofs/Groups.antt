-- Reads of places, and groups of writes, from what the store's calls leave.
use Rattle.std.proofs.Common.{◌≡◌, ℕ, zero, suc, ◌+◌, ◌-◌, ◌*◌, ◌/◌, ◌^◌, ◌<◌, ◌≤◌, min, ◌⊎◌, List, [], ◌∷◌, ◌++◌, length, get_or, take, drop, set, Ok, Err, Result, sym, refl, ap, ◌∙◌, subst, inl, inr, ⊎_elim, div-lt_iff_lt-mul, arith}
use Rattle.std.proofs.lemmas.List.{take_more, take_all, length-map, get_or-map, length-set}
use Rattle.refusal.specs.declared.Refusal.{Refusal}
use Rattle.refusal.specs.Refusals.{darkened}
use Rattle.disk.specs.Runs.{Write, stored, Inside}
use Rattle.store.specs.declared.Shape.{Shape}
use Rattle.store.specs.Meaning.{Cells, Content, idle, working, padded, bar, Outcome, Granted, Refused, Filled, Fitting, Formed}
use Rattle.store.specs.Meaning as call
use Rattle.store.proofs.Clients.{Group, Cut, begun, begin_lost, begin_barred, put_on, put_cut, abort_dark, ended, group_fits, working_fits, working_grouped, get_free, get_free_idle, get_answer, get_granted, get_within}
use Rattle.store.proofs.Clients as client
use Rattle.place.specs.declared.PlaceWrite.{PlaceWrite}
use Rattle.place.specs.Places.{fold, places, cell_of, start_of, replaced}
use Rattle.place.specs.Writes.{shown, listed, Landed, Dimmed, Ended, Begun, Tried, Closed}
use Rattle.place.proofs.Laid.{fold_some, fold_is, place_count, place_at, place_set, cell_within, start_within, each_at, read_padded, put_padded, length_replaced}

-- how many places a store has: the product does not reach the bound
pub counted : (m : Content) → Formed m → length (shown m) ≡ min (m.shape.cells * fold m.shape.size) (2 ^ 32 - 1)
counted m x =
    let z = m.shape.size in
    let per = fold_is z x.size in
    let same : m.shape.cells * fold z ≡ m.shape.cells * (z / 64) = ap (λ n. m.shape.cells * n) per in
    let long : length (shown m) ≡ m.shape.cells * fold z = place_count z m.durable ∙ ap (λ n. n * fold z) x.durable.count in
    let small = x.small in
    omega arith

-- the bytes of a place that a get has brought into the buffer
pub place_read : {m : Content} {n a : ℕ} {b : List ℕ} (p : ℕ) → Formed m → n ≡ cell_of m.shape.size p → a ≡ start_of m.shape.size p → Granted (call.get n) m m → b ≡ padded (get_or (working m) n []) → take 64 (drop a b) ≡ get_or (places m.shape.size (working m)) p []
place_read {m} {n} {a} {b} p x en ea o eb =
    let z = m.shape.size in
    let w = working m in
    let fits = working_fits m x in
    let l : n < length w = subst (λ y. n < y) (sym fits.count) (get_within m n o.free) in
    let h : p < length (places z w) = subst (λ y. p < y) (sym (place_count z w)) ((div-lt_iff_lt-mul (fold_some z)).0 (subst (λ y. y < length w) en l)) in
    let long = each_at z w n fits.even l in
    let room : a + 64 ≤ length (get_or w n []) = subst (λ y. a + 64 ≤ y) (sym long) (subst (λ y. y + 64 ≤ z) (sym ea) (start_within z p x.size)) in
    let e = read_padded (get_or w n []) a room in
    let q = place_at z w p h in
    cc

-- the get of a place that an idle store has is granted
pub never_idle : {m : Content} {n : ℕ} {e : Refusal} {X : Type 0} (p : ℕ) → Formed m → n ≡ cell_of m.shape.size p → Refused (call.get n) m e m → m.stage ≡ idle → p < length (shown m) → X
never_idle {m} {n} {e} p x en o i h =
    let l : n < m.shape.cells = subst (λ y. n < y) x.durable.count (subst (λ y. y < length m.durable) (sym en) (cell_within m.shape.size m.durable p h)) in
    let z : ◌≡◌ {A = Result Unit Refusal} (Err e) (Ok tt) = get_granted m n (Err e) (get_free_idle m n i l) o in
    absurd cc

pub refused_buffer : (r : Result Unit Refusal) (y : Refusal) (v before : List ℕ) → r ≡ Err y → Filled r v before before
refused_buffer r y v before a = subst (λ (x : Result Unit Refusal). Filled x v before before) (sym a) refl

-- the open group, by cells
opened : {m a : Content} {ps : List (List ℕ)} {k : ℕ} (h : Begun m ps k a) → Group m h.cells k a
opened h = record { stage = h.stage; shape = h.shape; durable = h.durable }

dimmed_of : {m a : Content} (c : Cells) → Cut c m a → Dimmed (places m.shape.size c) m a
dimmed_of c k = record { stage = k.stage; shape = k.shape; places = let s = k.shape in let d = k.durable in cc }

-- a part that fills the room of 64 bytes that it is given has 64
pub length_filled : {a : ℕ} (v u c : List ℕ) → length v ≡ 256 → a ≤ 192 → c ≡ replaced a u v → length c ≡ 256 → length u ≡ 64
length_filled {a} v u c n h is e = omega (arith, length_replaced v u a (omega arith), ap length is)

module _ {m a : Content} {ps : List (List ℕ)} {k n at : ℕ} (p : ℕ) (x : Formed a) (en : n ≡ cell_of a.shape.size p) (ea : at ≡ start_of a.shape.size p) (h : Begun m ps k a) (i : p < length ps) where
  size : (m.shape.size ≡ 64) ⊎ (m.shape.size ≡ 256)
  size = subst (λ (s : Shape). (s.size ≡ 64) ⊎ (s.size ≡ 256)) h.shape x.size

  fits : Fitting m.shape h.cells
  fits = group_fits x (opened h)

  in_places : p < length (places m.shape.size h.cells)
  in_places = subst (λ l. p < length l) (sym h.places) i

  cell_is : n ≡ cell_of m.shape.size p
  cell_is = let e = h.shape in cc

  start_is : at ≡ start_of m.shape.size p
  start_is = let e = h.shape in cc

  in_cells : n < length h.cells
  in_cells = subst (λ y. y < length h.cells) (sym cell_is) (cell_within m.shape.size h.cells p in_places)

  there : n < m.shape.cells
  there = subst (λ y. n < y) fits.count in_cells

  -- the get of a write is granted
  pub never_refused : {e : Refusal} {X : Type 0} → Refused (call.get n) a e a → X
  never_refused {e} o =
      let free = get_free a n h.cells k h.stage (subst (λ (s : Shape). n < s.cells) (sym h.shape) there) in
      let z : ◌≡◌ {A = Result Unit Refusal} (Err e) (Ok tt) = get_granted a n (Err e) free o in
      absurd cc

  -- one place more is written
  pub placed : (b : Content) (f v u : List ℕ) (r : Result Unit Refusal) → k < m.shape.limit → f ≡ padded (get_or (working a) n []) → v ≡ replaced at u f → length u ≡ 64 → Outcome (call.put n v) a r b → Tried m (set ps p u) (k + 1) r b
  placed b f v u (Err e) j ef ev lu o = let l = put_cut (opened h) there j o in (l.0, dimmed_of m.durable l.1)
  placed b f v u (Ok y) j ef ev lu o =
      let z = m.shape.size in
      let c = h.cells in
      let q = put_on (opened h) o in
      let long = each_at z c n fits.even in_cells in
      let w = working_grouped a c k h.stage in
      let e = start_is in
      let buffer : v ≡ replaced (start_of z p) u (padded (get_or c n [])) = cc in
      let put : take z v ≡ replaced (start_of z p) u (get_or c n []) = ap (take z) buffer ∙ put_padded (get_or c n []) u (start_of z p) z long lu (start_within z p size) in
      record {
        cells = set c n (take z v);
        stage = q.stage;
        shape = q.shape;
        durable = q.durable;
        places = let s = place_set z c p in_places u size fits.even lu in let d = cell_is in let l = h.places in cc;
      }

-- a group just begun
pub begins : {m a : Content} → Granted call.begin m a → Begun m (shown m) 0 a
begins {m} g = let h = begun g in record { cells = m.durable; stage = h.stage; shape = h.shape; durable = h.durable; places = refl }

-- the writes in order, one more
stored_append : (xs ys : List Write) (s : List (List ℕ)) → stored (xs ++ ys) s ≡ stored ys (stored xs s)
stored_append [] ys s = refl
stored_append (x ∷ xs) ys s = stored_append xs ys (set s x.0 x.1)

pub length_stored : (ws : List Write) (s : List (List ℕ)) → length (stored ws s) ≡ length s
length_stored [] s = refl
length_stored (w ∷ ws) s = length_stored ws (set s w.0 w.1) ∙ length-set s w.0 w.1

inside_at : (n : ℕ) (ws : List Write) (i : ℕ) (d : Write) → Inside n ws → i < length ws → (get_or ws i d).0 < n
inside_at n [] i d p h = absurd (omega arith)
inside_at n (w ∷ ws) zero d p h = p.0
inside_at n (w ∷ ws) (suc i) d p h = inside_at n ws i d p.1 (omega arith)

pub length_listed : {C : Type 0} (f : C → List ℕ) (ws : List (PlaceWrite C)) → length (listed f ws) ≡ length ws
length_listed f ws = length-map ws (λ x. (x.place, f x.content))

module _ {C : Type 0} (f : C → List ℕ) (ws : List (PlaceWrite C)) (i : ℕ) (w : PlaceWrite C) (l : i < length ws) (is : w ≡ get_or ws i w) (s : List (List ℕ)) where
  within : i < length (listed f ws)
  within = omega (arith, length_listed f ws, l)

  item : get_or (listed f ws) i (w.place, f w.content) ≡ (w.place, f w.content)
  item = get_or-map (λ x. (x.place, f x.content)) ws i w (w.place, f w.content) l ∙ ap (λ x. (x.place, f x.content)) (sym is)

  pub stored_more : set (stored (take i (listed f ws)) s) w.place (f w.content) ≡ stored (take (i + 1) (listed f ws)) s
  stored_more =
      let d : Write = (w.place, f w.content) in
      let e : take (i + 1) (listed f ws) ≡ take i (listed f ws) ++ d ∷ [] = take_more (listed f ws) i d within ∙ ap (λ x. take i (listed f ws) ++ x ∷ []) item in
      sym (ap (λ x. stored x s) e ∙ stored_append (take i (listed f ws)) (d ∷ []) s)

  pub next_inside : Inside (length s) (listed f ws) → w.place < length (stored (take i (listed f ws)) s)
  next_inside h =
      let p : (get_or (listed f ws) i (w.place, f w.content)).0 < length s = inside_at (length s) (listed f ws) i (w.place, f w.content) h within in
      subst (λ n. w.place < n) (sym (length_stored (take i (listed f ws)) s)) (subst (λ (x : Write). x.0 < length s) item p)

-- all writes are done
pub stored_all : {C : Type 0} (f : C → List ℕ) (ws : List (PlaceWrite C)) (i : ℕ) (s : List (List ℕ)) → length ws ≤ i → stored (take i (listed f ws)) s ≡ stored (listed f ws) s
stored_all f ws i s h = ap (λ x. stored x s) (take_all i (listed f ws) (omega (arith, length_listed f ws)))

pub same_group : {m a : Content} {k : ℕ} {ps : List (List ℕ)} (qs : List (List ℕ)) → ps ≡ qs → Begun m ps k a → Begun m qs k a
same_group qs e h = record { cells = h.cells; stage = h.stage; shape = h.shape; durable = h.durable; places = h.places ∙ e }

pub whole_group : {m a : Content} {k : ℕ} {ps : List (List ℕ)} (qs : List (List ℕ)) (n : ℕ) → ps ≡ qs → k ≡ n → Begun m ps k a → Begun m qs n a
whole_group {m} {a} qs n e f h = subst (λ k. Begun m qs k a) f (same_group qs e h)

-- a refusal relayed
pub relayed : {m a : Content} {e : Refusal} (ps : List (List ℕ)) (k : ℕ) (r : Result Unit Refusal) (y : Refusal) → r ≡ Err y → y ≡ e → (e ≡ darkened) × Dimmed (shown m) m a → Tried m ps k r a
relayed {m} {a} {e} ps k r y p q t = subst (λ (x : Result Unit Refusal). Tried m ps k x a) (sym (p ∙ ap Err q)) t

-- how a whole group ends
pub begin_fails : {m a : Content} {e : Refusal} {ps : List (List ℕ)} → m.stage ≡ idle → Refused call.begin m e a → (e ≡ darkened) × (Dimmed (shown m) m a ⊎ Dimmed ps m a)
begin_fails {m} i o = let l = begin_lost i o in (l.0, inl (dimmed_of m.durable l.1))

landed_of : {m a : Content} (c : Cells) → client.Landed c m a → Landed (places m.shape.size c) m a
landed_of c k = record { stage = k.stage; shape = k.shape; places = let s = k.shape in let d = k.durable in cc }

closed_of : (m d : Content) (ps : List (List ℕ)) (c : Cells) (r : Result Unit Refusal) → places m.shape.size c ≡ ps → client.Closed c m r d → Ended ps m r d
closed_of m d ps c (Ok x) e o = subst (λ l. Landed l m d) e (landed_of c o)
closed_of m d ps c (Err y) e o = (o.0, ⊎_elim (λ k. inl (dimmed_of m.durable k)) (λ k. inr (subst (λ l. Dimmed l m d) e (dimmed_of c k))) o.1)

pub closes : (m b d : Content) (ps : List (List ℕ)) (k : ℕ) (t r : Result Unit Refusal) → Tried m ps k t b → Closed t b r d → Ended ps m r d
closes m b d ps k (Ok x) r h o = closed_of m d ps h.cells r h.places (ended d r (opened h) o)
closes m b d ps k (Err e) r h o =
    let same = abort_dark b d o.1.answer h.1.stage o.1.outcome in
    subst (λ (x : Result Unit Refusal). Ended ps m x d) (sym o.0) (h.0, inl (subst (λ (y : Content). Dimmed (shown m) m y) (sym same) h.1))
