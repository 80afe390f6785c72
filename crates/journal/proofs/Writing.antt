-- Numbers written one after the other into a block of zeros. Assumes nothing.
use Rattle.std.proofs.Common.{◌≡◌, ℕ, zero, suc, ◌+◌, ◌-◌, ◌*◌, ◌<◌, ◌≤◌, List, [], ◌∷◌, ◌++◌, length, get_or, take, drop, replicate, Some, None, Option, IsSome, sym, refl, ap, ◌∙◌, append_assoc, arith, length-append}
use lib.ListN.{length-replicate}
use Rattle.std.proofs.lemmas.List.{take_at, drop_at, take_more, take_all, drop-replicate, drop-drop}
use Rattle.number.specs.Leb.{leb, lebs, leb_all}
use Rattle.number.specs.Bytes.{Written}
use Rattle.number.proofs.Numbers.{leb_short}
use Rattle.journal.specs.declared.group.Pending.{Pending}
use Rattle.disk.specs.Runs.{Write}
use Rattle.journal.specs.Record.{record_of}
use Rattle.journal.proofs.Seek.{entries_append}
use Rattle.journal.specs.Names.{names}
use Rattle.journal.specs.Entries.{entries}

-- these numbers stand first, and zeros after them
pub record Holds (ns : List ℕ) (end : ℕ) (out : List ℕ) : Type 0 where
  pub text : out ≡ leb_all ns ++ replicate (256 - end) 0
  pub at : end ≡ length (leb_all ns)
  pub short : end ≤ 5 * length ns

pub leb_all_append : (xs ys : List ℕ) → leb_all (xs ++ ys) ≡ leb_all xs ++ leb_all ys
leb_all_append [] ys = refl
leb_all_append (x ∷ xs) ys = ap (λ l. leb x ++ l) (leb_all_append xs ys) ∙ sym (append_assoc (leb x) (leb_all xs) (leb_all ys))

append_none : (xs : List ℕ) → xs ++ [] ≡ xs
append_none [] = refl
append_none (x ∷ xs) = ap (λ l. x ∷ l) (append_none xs)

pub holds_none : Holds [] 0 (replicate 256 0)
holds_none = record { text = refl; at = refl; short = omega arith }

pub holds_size : (ns : List ℕ) (end : ℕ) (out : List ℕ) → length ns ≤ 7 → Holds ns end out → length out ≡ 256
holds_size ns end out few h = ap length h.text ∙ length-append (leb_all ns) (replicate (256 - end) 0) ∙ (let z = length-replicate {A = ℕ} (256 - end) 0 in omega (arith, h.at, h.short))

module _ (ns : List ℕ) (n end : ℕ) (out : List ℕ) (few : length ns ≤ 7) (h : Holds ns end out) where
  size : length out ≡ 256
  size = holds_size ns end out few h

  -- there is always room
  pub holds_fits : (new : List ℕ) → Written (leb n) end out new None → ⊥
  holds_fits new w = omega (arith, w.0, size, leb_short n, h.short)

  pub holds_more : (new : List ℕ) (next : ℕ) → Written (leb n) end out new (Some next) → Holds (ns ++ n ∷ []) next new
  holds_more new next w =
      let whole : leb_all (ns ++ n ∷ []) ≡ leb_all ns ++ leb n = leb_all_append ns (n ∷ []) ∙ ap (λ l. leb_all ns ++ l) (append_none (leb n)) in
      let front : take end out ≡ leb_all ns = ap (take end) h.text ∙ take_at (leb_all ns) (replicate (256 - end) 0) end (sym h.at) in
      let past : drop end out ≡ replicate (256 - end) 0 = ap (drop end) h.text ∙ drop_at (leb_all ns) (replicate (256 - end) 0) end (sym h.at) in
      let left : 256 - end - length (leb n) ≡ 256 - next = omega (arith, w.0) in
      let sum : end + length (leb n) ≡ next = sym w.0 in
      let back : drop next out ≡ replicate (256 - next) 0 = ap (λ k. drop k out) (sym sum) ∙ sym (drop-drop (length (leb n)) end out) ∙ ap (drop (length (leb n))) past ∙ drop-replicate (length (leb n)) (256 - end) 0 ∙ ap (λ k. replicate k 0) left in
      record {
        text = w.2 ∙ ap (λ l. l ++ (leb n ++ drop next out)) front ∙ ap (λ l. leb_all ns ++ (leb n ++ l)) back ∙ sym (append_assoc (leb_all ns) (leb n) (replicate (256 - next) 0)) ∙ ap (λ l. l ++ replicate (256 - next) 0) (sym whole);
        at = w.0 ∙ ap (λ k. k + length (leb n)) h.at ∙ sym (length-append (leb_all ns) (leb n)) ∙ ap length (sym whole);
        short = omega (arith, w.0, leb_short n, h.short, length-append ns (n ∷ []));
      }

pub names_append : (xs ys : List Write) → names (xs ++ ys) ≡ names xs ++ names ys
names_append [] ys = refl
names_append (x ∷ xs) ys = ap (λ l. x.0 ∷ l) (names_append xs ys)

pub length_pages_named : (xs : List Pending) → length (names (entries xs)) ≡ length xs
length_pages_named [] = refl
length_pages_named (x ∷ xs) = ap suc (length_pages_named xs)

-- the count and the first i pages
abbrev pub so_far : List Pending → ℕ → List ℕ
so_far ps i = length ps ∷ names (entries (take i ps))

pub so_far_more : (ps : List Pending) (i : ℕ) (d : Pending) → i < length ps → so_far ps (i + 1) ≡ so_far ps i ++ (get_or ps i d).page ∷ []
so_far_more ps i d h = ap (λ l. length ps ∷ l) (ap (λ l. names (entries l)) (take_more ps i d h) ∙ ap names (entries_append (take i ps) (get_or ps i d ∷ [])) ∙ names_append (entries (take i ps)) _)

pub length_so_far : (ps : List Pending) (i : ℕ) → length ps ≤ 6 → length (so_far ps i) ≤ 7
length_so_far ps i h = omega (arith, length_pages_named (take i ps), bounded i ps)
  where
    bounded : (i : ℕ) (xs : List Pending) → length (take i xs) ≤ length xs
    bounded zero xs = omega arith
    bounded (suc i) [] = omega arith
    bounded (suc i) (x ∷ xs) = omega (arith, bounded i xs)

pub record_held : (ps : List Pending) (i end : ℕ) (out : List ℕ) → length ps ≤ i → Holds (so_far ps i) end out → out ≡ record_of (names (entries ps))
unfolding record_of
record_held ps i end out h k =
    let all : so_far ps i ≡ length (names (entries ps)) ∷ names (entries ps) = ap (λ l. length ps ∷ names (entries l)) (take_all i ps h) ∙ ap (λ n. n ∷ names (entries ps)) (sym (length_pages_named ps)) in
    k.text ∙ ap (λ n. leb_all (so_far ps i) ++ replicate (256 - n) 0) k.at ∙ ap (λ l. leb_all l ++ replicate (256 - length (leb_all l)) 0) all

-- so a number always goes in
pub holds_some : (ns : List ℕ) (n end : ℕ) (out : List ℕ) → length ns ≤ 7 → Holds ns end out → (new : List ℕ) (r : Option ℕ) → Written (leb n) end out new r → IsSome r
holds_some ns n end out few h new (Some k) w = refl
holds_some ns n end out few h new None w = absurd (holds_fits ns n end out few h new w)

-- the empty record is all zeros
pub blank_is : replicate 256 0 ≡ record_of []
unfolding record_of leb lebs
blank_is = refl
