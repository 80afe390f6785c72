-- Entries stored in a list one after the other: what they leave alone, and what they hide. Assumes nothing.
use Rattle.std.specs.Prelude.{◌≡◌, ℕ, zero, suc, ◌+◌, ◌<◌, ◌≤◌, true, ◌≢◌, List, [], ◌∷◌, ◌++◌, length, get_or, take, drop, set, ◌==◌, slice_index_or, slice_set, refl}
use Rattle.std.proofs.Common.{sym, ◌∙◌, ap, ⊎_elim, arith, length-set, get_or-set_same, get_or-set_other}
use Rattle.std.proofs.lemmas.List.{set-set, drop-set-lt, drop-set-add, set_comm}
use Rattle.std.proofs.lemmas.Bool.{cases_eq, eq-eqb, ne_eqb, cond-true, cond-false, true≢false}
use Rattle.disk.specs.Runs.{Write, stored, Inside}
use Rattle.journal.specs.Record.{member}
use Rattle.journal.specs.Names.{names}
use Rattle.journal.specs.Layout.{framed, frame_writes, page_writes}

pub stored_append : (xs ys : List Write) (b : List (List ℕ)) → stored (xs ++ ys) b ≡ stored ys (stored xs b)
stored_append [] ys b = refl
stored_append (x ∷ xs) ys b = stored_append xs ys (slice_set b x.0 x.1)

pub length_stored : (ws : List Write) (b : List (List ℕ)) → length (stored ws b) ≡ length b
length_stored [] b = refl
length_stored (w ∷ ws) b = length_stored ws (slice_set b w.0 w.1) ∙ length-set b w.0 w.1

-- none of the writes is to n
abbrev pub Avoids : ℕ → List Write → Type 0
Avoids n [] = Unit {0}
Avoids n (w ∷ ws) = (n ≢ w.0) × Avoids n ws

pub stored_other : (n : ℕ) (ws : List Write) (b : List (List ℕ)) → Avoids n ws → slice_index_or (stored ws b) n [] ≡ slice_index_or b n []
stored_other n [] b a = refl
stored_other n (w ∷ ws) b a = stored_other n ws (slice_set b w.0 w.1) a.1 ∙ get_or-set_other b w.0 n w.1 [] a.0

-- writes below n leave the rest
pub stored_low : (n : ℕ) (ws : List Write) (b : List (List ℕ)) → Inside n ws → drop n (stored ws b) ≡ drop n b
stored_low n [] b i = refl
stored_low n (w ∷ ws) b i = stored_low n ws (slice_set b w.0 w.1) i.1 ∙ drop-set-lt n b w.0 w.1 i.0

-- an entry that is stored again later is hidden
pub hidden : (p : ℕ) (v : List ℕ) (ws : List Write) (c : List (List ℕ)) → member p (names ws) ≡ true → stored ws (slice_set c p v) ≡ stored ws c
hidden p v [] c m = absurd (true≢false (sym m))
hidden p v (w ∷ ws) c m =
    ⊎_elim
    (λ same. ap (stored ws) (ap (λ n. set (slice_set c n v) w.0 w.1) (sym same) ∙ set-set c w.0 v w.1))
    (λ other.
    let rest : member p (names ws) ≡ true = sym (cond-false (w.0 == p) true (member p (names ws)) (ne_eqb w.0 p other)) ∙ m in
    ap (stored ws) (set_comm c p w.0 v w.1 (λ e. other (sym e))) ∙ hidden p v ws (slice_set c w.0 w.1) rest)
    (cases_eq w.0 p)

-- all that xs write is written by ws too
abbrev pub Covered : List Write → List Write → Type 0
Covered [] ws = Unit {0}
Covered (x ∷ xs) ws = (member x.0 (names ws) ≡ true) × Covered xs ws

pub absorbed : (xs ws : List Write) (c : List (List ℕ)) → Covered xs ws → stored ws (stored xs c) ≡ stored ws c
absorbed [] ws c k = refl
absorbed (x ∷ xs) ws c k = absorbed xs ws (slice_set c x.0 x.1) k.1 ∙ hidden x.0 x.1 ws c k.0

pub member_here : (n : ℕ) (ns : List ℕ) → member n (n ∷ ns) ≡ true
member_here n ns = cond-true (n == n) true (member n ns) (eq-eqb n n refl)

member_there : (n x : ℕ) (ns : List ℕ) → member n ns ≡ true → member n (x ∷ ns) ≡ true
member_there n x ns h = ⊎_elim (λ e. cond-true (x == n) true (member n ns) (eq-eqb x n e)) (λ e. cond-false (x == n) true (member n ns) (ne_eqb x n e) ∙ h) (cases_eq x n)

covered_more : (xs : List Write) (w : Write) (ws : List Write) → Covered xs ws → Covered xs (w ∷ ws)
covered_more [] w ws k = tt
covered_more (x ∷ xs) w ws k = (member_there x.0 w.0 (names ws) k.0, covered_more xs w ws k.1)

pub covered_take : (n : ℕ) (ws : List Write) → Covered (take n ws) ws
covered_take zero ws = tt
covered_take (suc n) [] = tt
covered_take (suc n) (w ∷ ws) = (member_here w.0 (names ws), covered_more (take n ws) w ws (covered_take n ws))

-- the pages
pub pages_stored : (ws : List Write) (b : List (List ℕ)) → drop 7 (stored (page_writes ws) b) ≡ stored ws (drop 7 b)
pages_stored [] b = refl
pages_stored (w ∷ ws) b = pages_stored ws (slice_set b (7 + w.0) w.1) ∙ ap (stored ws) (drop-set-add 7 b w.0 w.1)

pub pages_avoid : (n : ℕ) (ws : List Write) → n < 7 → Avoids n (page_writes ws)
pages_avoid n [] h = tt
pages_avoid n (w ∷ ws) h = ((λ e. omega arith), pages_avoid n ws h)

pub take_pages : (n : ℕ) (ws : List Write) → take n (page_writes ws) ≡ page_writes (take n ws)
take_pages zero ws = refl
take_pages (suc n) [] = refl
take_pages (suc n) (w ∷ ws) = ap (λ l. (7 + w.0, w.1) ∷ l) (take_pages n ws)

-- the frames
pub frames_low : (i : ℕ) (ws : List Write) → i + length ws ≤ 6 → Inside 7 (frame_writes i ws)
frames_low i [] h = tt
frames_low i (w ∷ ws) h = (omega arith, frames_low (i + 1) ws (omega arith))

pub frames_avoid : (n i : ℕ) (ws : List Write) → n ≤ i → Avoids n (frame_writes i ws)
frames_avoid n i [] h = tt
frames_avoid n i (w ∷ ws) h = ((λ e. omega arith), frames_avoid n (i + 1) ws (omega arith))

pub framed_same : (i : ℕ) (ps : List ℕ) (a b : List (List ℕ)) → i + length ps ≤ 6 → ((n : ℕ) → 0 < n → n < 7 → slice_index_or a n [] ≡ slice_index_or b n []) → framed i ps a ≡ framed i ps b
framed_same i [] a b h s = refl
framed_same i (p ∷ ps) a b h s = let e = s (1 + i) (omega arith) (omega arith) in ap (λ v. (p, v) ∷ framed (i + 1) ps a) e ∙ ap (λ l. (p, slice_index_or b (1 + i) []) ∷ l) (framed_same (i + 1) ps a b (omega arith) s)

pub framed_written : (i : ℕ) (ws : List Write) (b : List (List ℕ)) → i + length ws < length b → framed i (names ws) (stored (frame_writes i ws) b) ≡ ws
framed_written i [] b h = refl
framed_written i (w ∷ ws) b h =
    let c = set b (1 + i) w.1 in
    let l : length c ≡ length b = length-set b (1 + i) w.1 in
    let e : get_or (stored (frame_writes (i + 1) ws) c) (1 + i) [] ≡ w.1 = stored_other (1 + i) (frame_writes (i + 1) ws) c (frames_avoid (1 + i) (i + 1) ws (omega arith)) ∙ get_or-set_same b (1 + i) w.1 [] (omega arith) in
    ap (λ v. (w.0, v) ∷ framed (i + 1) (names ws) (stored (frame_writes (i + 1) ws) c)) e ∙ ap (λ r. w ∷ r) (framed_written (i + 1) ws c (omega arith))
