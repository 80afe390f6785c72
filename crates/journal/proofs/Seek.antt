-- Where a page's write is in a group, and what a put there changes. Assumes nothing.
use Rattle.std.proofs.Common.{◌≡◌, ℕ, zero, suc, ◌<◌, ◌≤◌, Bool, true, false, cond, eqb, ltb, List, [], ◌∷◌, ◌++◌, length, get_or, set, Some, None, Option, MatchOption, is_some, sym, refl, ap, ◌∙◌, arith}
use Rattle.std.proofs.lemmas.Bool.{eq-eqb, ne_eqb, eqb-true, eqb-false, ltb-false, cond-true, cond-false}
use Rattle.std.proofs.lemmas.List.Quantifiers.{position-Some}
use Rattle.std.proofs.lemmas.List.Sums.{fails_before_first}
use Rattle.std.specs.List.{position, position_or_len}
use Rattle.disk.specs.Runs.{Write}
use Rattle.journal.specs.declared.group.Pending.{Pending}
use Rattle.journal.specs.Record.{member}
use Rattle.journal.specs.Names.{names}
use Rattle.journal.specs.Entries.{entries}
use Rattle.journal.specs.Groups.{First, Absent, looked_up, remembered}

-- the writes of a group's pages, at a place and with a page more
pub entries_append : (xs ys : List Pending) → entries (xs ++ ys) ≡ entries xs ++ entries ys
entries_append [] ys = refl
entries_append (x ∷ xs) ys = ap (λ l. (x.page, x.bytes) ∷ l) (entries_append xs ys)

pub entries_set : (xs : List Pending) (i : ℕ) (x : Pending) → entries (set xs i x) ≡ set (entries xs) i (x.page, x.bytes)
entries_set [] i x = refl
entries_set (y ∷ xs) zero x = refl
entries_set (y ∷ xs) (suc i) x = ap (λ l. (y.page, y.bytes) ∷ l) (entries_set xs i x)

pub entries_at : (xs : List Pending) (i : ℕ) (d : Pending) → get_or (entries xs) i (d.page, d.bytes) ≡ ((get_or xs i d).page, (get_or xs i d).bytes)
entries_at [] i d = refl
entries_at (x ∷ xs) zero d = refl
entries_at (x ∷ xs) (suc i) d = entries_at xs i d

pub length_entries : (xs : List Pending) → length (entries xs) ≡ length xs
length_entries [] = refl
length_entries (x ∷ xs) = ap suc (length_entries xs)

-- what the search for a page finds
found : (page : ℕ) (xs : List Pending) (i : ℕ) (d : Pending) → i < length xs → ((get_or xs i d).page ≡ page) → ((k : ℕ) → k < i → (get_or xs k d).page ≡ page → ⊥) → First page (entries xs) i
found page [] i d h e before = absurd (omega arith)
found page (x ∷ xs) zero d h e before = e
found page (x ∷ xs) (suc i) d h e before = (before 0 (omega arith), found page xs i d (omega arith) e (λ k l. before (suc k) (omega arith)))

missing : (page : ℕ) (xs : List Pending) (d : Pending) → ((k : ℕ) → k < length xs → (get_or xs k d).page ≡ page → ⊥) → Absent page (entries xs)
missing page [] d other = tt
missing page (x ∷ xs) d other = (other 0 (omega arith), missing page xs d (λ k l. other (suc k) (omega arith)))

pub sought : (page : ℕ) (xs : List Pending) (r : Option ℕ) → r ≡ position (λ (p : Pending). eqb p.page page) xs → MatchOption r (Absent page (entries xs)) (λ i. First page (entries xs) i)
sought page xs (Some i) e =
    let d : Pending = record { page = 0; bytes = [] } in
    let t = position-Some (λ (p : Pending). eqb p.page page) xs i d (sym e) in
    found page xs i d t.0 (eqb-true (get_or xs i d).page page t.1) (λ k h. eqb-false (get_or xs k d).page page (t.2 k h))
sought page xs None e =
    let d : Pending = record { page = 0; bytes = [] } in
    let p : Pending → Bool = λ x. eqb x.page page in
    let none : (b : Bool) → None ≡ cond b (Some (position_or_len p xs)) None → b ≡ false = elim [ true ↦ (λ q. let z : ◌≡◌ {A = ℕ} 0 1 = cc in absurd (omega arith)) | false ↦ (λ q. refl) ] in
    let past : length xs ≤ position_or_len p xs = ltb-false (position_or_len p xs) (length xs) (none (ltb (position_or_len p xs) (length xs)) e) in
    missing page xs d (λ k h. eqb-false (get_or xs k d).page page (fails_before_first p xs k d (omega arith)))

pub first_within : (page : ℕ) (ws : List Write) (i : ℕ) → First page ws i → i < length ws
first_within page [] i f = absurd f
first_within page (w ∷ ws) zero f = omega arith
first_within page (w ∷ ws) (suc i) f = omega (arith, first_within page ws i f.1)

-- the write at the place found is the page's
pub first_page : (page : ℕ) (ws : List Write) (i : ℕ) (d : Write) → First page ws i → (get_or ws i d).0 ≡ page
first_page page [] i d f = absurd f
first_page page (w ∷ ws) zero d f = f
first_page page (w ∷ ws) (suc i) d f = first_page page ws i d f.1

module _ {A : Type 0} (n page : ℕ) (x y : A) where
  hit : n ≡ page → cond (eqb n page) x y ≡ x
  hit e = cond-true (eqb n page) x y (eq-eqb n page e)

  miss : (n ≡ page → ⊥) → cond (eqb n page) x y ≡ y
  miss e = cond-false (eqb n page) x y (ne_eqb n page e)

pub absent_member : (page : ℕ) (ws : List Write) → Absent page ws → member page (names ws) ≡ false
absent_member page [] a = refl
absent_member page (w ∷ ws) a = miss w.0 page _ _ a.0 ∙ absent_member page ws a.1

pub first_member : (page : ℕ) (ws : List Write) (i : ℕ) → First page ws i → member page (names ws) ≡ true
first_member page [] i f = absurd f
first_member page (w ∷ ws) zero f = hit w.0 page _ _ f
first_member page (w ∷ ws) (suc i) f = miss w.0 page _ _ f.0 ∙ first_member page ws i f.1

pub absent_looked : (page : ℕ) (ws : List Write) → Absent page ws → looked_up page ws ≡ None
absent_looked page [] a = refl
absent_looked page (w ∷ ws) a = miss w.0 page _ _ a.0 ∙ absent_looked page ws a.1

pub first_looked : (page : ℕ) (ws : List Write) (i : ℕ) (d : Write) → First page ws i → looked_up page ws ≡ Some (get_or ws i d).1
first_looked page [] i d f = absurd f
first_looked page (w ∷ ws) zero d f = hit w.0 page _ _ f
first_looked page (w ∷ ws) (suc i) d f = miss w.0 page _ _ f.0 ∙ first_looked page ws i d f.1

pub push_remembered : (page : ℕ) (bytes : List ℕ) (ws : List Write) → Absent page ws → ws ++ (page, bytes) ∷ [] ≡ remembered page bytes ws
push_remembered page bytes [] a = refl
push_remembered page bytes (w ∷ ws) a = ap (λ l. w ∷ l) (push_remembered page bytes ws a.1) ∙ sym (miss w.0 page _ _ a.0)

pub set_remembered : (page : ℕ) (bytes : List ℕ) (ws : List Write) (i : ℕ) → First page ws i → set ws i (page, bytes) ≡ remembered page bytes ws
set_remembered page bytes [] i f = absurd f
set_remembered page bytes (w ∷ ws) zero f = sym (hit w.0 page _ _ f)
set_remembered page bytes (w ∷ ws) (suc i) f = ap (λ l. w ∷ l) (set_remembered page bytes ws i f.1) ∙ sym (miss w.0 page _ _ f.0)

pub sought_member : (page : ℕ) (ws : List Write) (r : Option ℕ) → MatchOption r (Absent page ws) (λ i. First page ws i) → is_some r ≡ member page (names ws)
sought_member page ws (Some i) f = sym (first_member page ws i f)
sought_member page ws None a = sym (absent_member page ws a)

-- a group has as many pages as writes
pub size_of : (xs : List Pending) (ws : List Write) → entries xs ≡ ws → length xs ≡ length ws
size_of xs ws e = sym (length_entries xs) ∙ ap length e
