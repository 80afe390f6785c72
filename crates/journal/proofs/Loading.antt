-- Frames read into the group that names their pages, one at each turn. Assumes nothing.
use Rattle.std.proofs.Common.{◌≡◌, ℕ, zero, suc, ◌+◌, ◌<◌, ◌≤◌, List, [], ◌∷◌, ◌++◌, length, get_or, take, set, sym, refl, ap, ◌∙◌, add-one, arith}
use Rattle.std.proofs.lemmas.List.{take_all, take_more_set}
use Rattle.journal.specs.declared.group.Pending.{Pending}
use Rattle.journal.specs.Names.{names}
use Rattle.journal.specs.Layout.{framed}
use Rattle.journal.specs.Entries.{entries}
use Rattle.journal.proofs.Seek.{entries_set, length_entries}
use Rattle.journal.proofs.Writing.{length_pages_named}

names_set : (xs : List Pending) (i : ℕ) (d : Pending) (v : List ℕ) → names (entries (set xs i (record { page = (get_or xs i d).page; bytes = v }))) ≡ names (entries xs)
names_set [] i d v = refl
names_set (y ∷ xs) zero d v = refl
names_set (y ∷ xs) (suc i) d v = ap (λ l. y.page ∷ l) (names_set xs i d v)

page_name : (xs : List Pending) (i : ℕ) (d : Pending) → i < length xs → (get_or xs i d).page ≡ get_or (names (entries xs)) i 0
page_name [] i d h = absurd (omega arith)
page_name (y ∷ xs) zero d h = refl
page_name (y ∷ xs) (suc i) d h = page_name xs i d (omega arith)

framed_last : (j i : ℕ) (ns : List ℕ) (b : List (List ℕ)) → i < length ns → framed j (take (suc i) ns) b ≡ framed j (take i ns) b ++ (get_or ns i 0, get_or b (1 + (j + i)) []) ∷ []
framed_last j i [] b h = absurd (omega arith)
framed_last j zero (n ∷ ns) b h = let z : j ≡ j + 0 = omega arith in ap (λ k. (n, get_or b (1 + k) []) ∷ []) z
framed_last j (suc i) (n ∷ ns) b h =
    let z : j + 1 + i ≡ j + suc i = omega arith in
    ap (λ l. (n, get_or b (1 + j) []) ∷ l) (framed_last (j + 1) i ns b (omega arith) ∙ ap (λ k. framed (j + 1) (take i ns) b ++ (get_or ns i 0, get_or b (1 + k) []) ∷ []) z)

-- the first i frames were read
pub record Loading (b : List (List ℕ)) (old now : List Pending) (i : ℕ) : Type 0 where
  pub same : names (entries now) ≡ names (entries old)
  pub front : take i (entries now) ≡ framed 0 (take i (names (entries old))) b

pub loading_none : (b : List (List ℕ)) (old : List Pending) → Loading b old old 0
loading_none b old = record { same = refl; front = refl }

pub loading_length : {b : List (List ℕ)} {old now : List Pending} {i : ℕ} → Loading b old now i → length now ≡ length old
loading_length {b} {old} {now} l = sym (length_pages_named now) ∙ ap length l.same ∙ length_pages_named old

pub loading_more : (b : List (List ℕ)) (old now : List Pending) (i : ℕ) (d : Pending) (x : Pending) → i < length now → Loading b old now i → x ≡ record { page = (get_or now i d).page; bytes = get_or b (1 + i) [] } → Loading b old (set now i x) (i + 1)
loading_more b old now i d x h l e =
    let len = loading_length l in
    let z : 0 + i ≡ i = omega arith in
    let name : (get_or now i d).page ≡ get_or (names (entries old)) i 0 = page_name now i d h ∙ ap (λ n. get_or n i 0) l.same in
    record {
      same = ap (λ y. names (entries (set now i y))) e ∙ names_set now i d (get_or b (1 + i) []) ∙ l.same;
      front =
          ap (λ y. take (i + 1) (entries (set now i y))) e
          ∙ ap (take (i + 1)) (entries_set now i (record { page = (get_or now i d).page; bytes = get_or b (1 + i) [] }))
          ∙ take_more_set (entries now) i ((get_or now i d).page, get_or b (1 + i) []) (omega (arith, length_entries now))
          ∙ ap (λ f. f ++ ((get_or now i d).page, get_or b (1 + i) []) ∷ []) l.front
          ∙ ap (λ n. framed 0 (take i (names (entries old))) b ++ (n, get_or b (1 + i) []) ∷ []) name
          ∙ ap (λ k. framed 0 (take i (names (entries old))) b ++ (get_or (names (entries old)) i 0, get_or b (1 + k) []) ∷ []) (sym z)
          ∙ sym (framed_last 0 i (names (entries old)) b (omega (arith, length_pages_named old)))
          ∙ ap (λ k. framed 0 (take k (names (entries old))) b) (sym (add-one i));
    }

pub loading_all : (b : List (List ℕ)) (old now : List Pending) (i : ℕ) → length old ≤ i → Loading b old now i → entries now ≡ framed 0 (names (entries old)) b
loading_all b old now i h l =
    sym (take_all i (entries now) (omega (arith, length_entries now, loading_length l)))
    ∙ l.front ∙ ap (λ n. framed 0 n b) (take_all i (names (entries old)) (omega (arith, length_pages_named old)))
