-- A commit record that can be read is one that could have been written. Assumes nothing.
use Rattle.std.proofs.Common.{◌≡◌, ℕ, zero, suc, ◌+◌, ◌-◌, ◌^◌, ◌<◌, ◌≤◌, true, false, not, ◌&&◌, eqb, ltb, leb, List, [], ◌∷◌, ◌++◌, length, replicate, Some, None, Option, sym, refl, ap, ◌∙◌, subst, ⊎_elim, append_assoc, arith, length-append}
use lib.ListN.{length-replicate}
use Rattle.std.proofs.lemmas.Bool.{cases_Bool, cases_eq, eq-eqb, ne_eqb, ltb-true, leb-true, cond-true, cond-false, and_parts, not-true, true≢false, both_ways}
use Rattle.std.specs.List.{AllByRecursion}
use Rattle.number.specs.Leb.{leb_all, reading}
use Rattle.number.specs.Leb as number
use Rattle.number.proofs.Numbers.{from_reading}
use Rattle.number.specs.Zeros.{zeros, zeros_from}
use Rattle.journal.specs.Record.{record_of, member, page_next, pages_from, counted, named, Different, Exactly}
use Rattle.journal.specs.Stored.{member_here}
use Rattle.journal.specs.Records.{named_back}

none_some : {X A : Type 0} {a : A} → None ≡ Some a → X
none_some e = let z : ◌≡◌ {A = ℕ} 0 1 = cc in absurd (omega arith)

all_after : (xs ys : List ℕ) → AllByRecursion (λ b. b < 256) (xs ++ ys) → AllByRecursion (λ b. b < 256) ys
all_after [] ys a = a
all_after (x ∷ xs) ys a = all_after xs ys a.1

-- pages none of which was seen before, each different from those before it
Fresh : ℕ → List ℕ → List ℕ → Type 0
Fresh cells seen [] = Unit {0}
Fresh cells seen (p ∷ ps) = (p < cells) × (member p seen ≡ false) × Fresh cells (seen ++ p ∷ []) ps

member_more : (x p : ℕ) (ns : List ℕ) → member x ns ≡ true → member x (ns ++ p ∷ []) ≡ true
member_more x p [] m = absurd (true≢false (sym m))
member_more x p (n ∷ ns) m =
    ⊎_elim
    (λ e. cond-true (eqb n x) true (member x (ns ++ p ∷ [])) (eq-eqb n x e))
    (λ e. cond-false (eqb n x) true (member x (ns ++ p ∷ [])) (ne_eqb n x e) ∙ member_more x p ns (sym (cond-false (eqb n x) true (member x ns) (ne_eqb n x e)) ∙ m))
    (cases_eq n x)

member_end : (p : ℕ) (ns : List ℕ) → member p (ns ++ p ∷ []) ≡ true
member_end p [] = member_here p []
member_end p (n ∷ ns) =
    ⊎_elim (λ e. cond-true (eqb n p) true (member p (ns ++ p ∷ [])) (eq-eqb n p e)) (λ e. cond-false (eqb n p) true (member p (ns ++ p ∷ [])) (ne_eqb n p e) ∙ member_end p ns) (cases_eq n p)

fresh_apart : (cells : ℕ) (seen ps : List ℕ) (x : ℕ) → Fresh cells seen ps → member x seen ≡ true → member x ps ≡ false
unfolding Fresh
fresh_apart cells seen [] x f m = refl
fresh_apart cells seen (p ∷ ps) x f m =
    ⊎_elim
    (λ e. absurd (both_ways (member p seen) f.1 (subst (λ y. member y seen ≡ true) (sym e) m)))
    (λ e. cond-false (eqb p x) true (member x ps) (ne_eqb p x e) ∙ fresh_apart cells (seen ++ p ∷ []) ps x f.2 (member_more x p seen m))
    (cases_eq p x)

fresh_different : (cells : ℕ) (seen ps : List ℕ) → Fresh cells seen ps → Different cells ps
unfolding Fresh
fresh_different cells seen [] f = tt
fresh_different cells seen (p ∷ ps) f = (f.0, fresh_apart cells (seen ++ p ∷ []) ps p f.2 (member_end p seen), fresh_different cells (seen ++ p ∷ []) ps f.2)

-- what was read: these pages, and zeros after them
record Pages (cells k : ℕ) (seen bs ps : List ℕ) : Type 0 where
  pages : List ℕ
  zeros : ℕ
  all : ps ≡ seen ++ pages
  count : length pages ≡ k
  text : bs ≡ leb_all pages ++ replicate zeros 0
  fresh : Fresh cells seen pages

record Step (cells : ℕ) (seen : List ℕ) (k : ℕ) (bs ps : List ℕ) : Type 0 where
  page : ℕ
  rest : List ℕ
  small : page < cells
  new : member page seen ≡ false
  read : reading bs ≡ Some (page, rest)
  more : pages_from k cells (seen ++ page ∷ []) rest ≡ Some ps

step_of : (cells : ℕ) (seen : List ℕ) (k : ℕ) (bs ps : List ℕ) (o : Option (ℕ × List ℕ)) → reading bs ≡ o → page_next cells seen o (pages_from k cells) ≡ Some ps → Step cells seen k bs ps
step_of cells seen k bs ps None q e = none_some e
step_of cells seen k bs ps (Some (p, rest)) q e =
    ⊎_elim
    (λ t.
    let both = and_parts (ltb p cells) (not (member p seen)) t in
    record { page = p; rest = rest; small = ltb-true p cells both.0; new = not-true (member p seen) both.1; read = q; more = sym (cond-true (ltb p cells && not (member p seen)) (pages_from k cells (seen ++ p ∷ []) rest) None t) ∙ e })
    (λ f. none_some (sym (cond-false (ltb p cells && not (member p seen)) (pages_from k cells (seen ++ p ∷ []) rest) None f) ∙ e))
    (cases_Bool (ltb p cells && not (member p seen)))

append_none : (xs : List ℕ) → xs ++ [] ≡ xs
append_none [] = refl
append_none (x ∷ xs) = ap (λ l. x ∷ l) (append_none xs)

some_same : {xs ys : List ℕ} → Some xs ≡ Some ys → xs ≡ ys
some_same q = cc

pages_of : (cells k : ℕ) (seen bs ps : List ℕ) → AllByRecursion (λ b. b < 256) bs → pages_from k cells seen bs ≡ Some ps → Pages cells k seen bs ps
unfolding pages_from Fresh
pages_of cells zero seen bs ps a e =
    ⊎_elim
    (λ t. record { pages = []; zeros = length bs; all = sym (some_same (sym (cond-true (zeros bs) (Some seen) None t) ∙ e)) ∙ sym (append_none seen); count = refl; text = zeros_from bs t; fresh = tt })
    (λ f. none_some (sym (cond-false (zeros bs) (Some seen) None f) ∙ e))
    (cases_Bool (zeros bs))
pages_of cells (suc k) seen bs ps a e =
    let n = step_of cells seen k bs ps (reading bs) refl e in
    let first = (from_reading bs a n.page n.rest n.read).1 in
    let r = pages_of cells k (seen ++ n.page ∷ []) n.rest ps (all_after (number.leb n.page) n.rest (subst (AllByRecursion (λ b. b < 256)) first a)) n.more in
    record {
      pages = n.page ∷ r.pages;
      zeros = r.zeros;
      all = r.all ∙ append_assoc seen (n.page ∷ []) r.pages;
      count = ap suc r.count;
      text = first ∙ ap (λ l. number.leb n.page ++ l) r.text ∙ sym (append_assoc (number.leb n.page) (leb_all r.pages) (replicate r.zeros 0));
      fresh = (n.small, n.new, r.fresh);
    }

-- a whole block
record_text : (k zeros : ℕ) (bs ps : List ℕ) → length bs ≡ 256 → bs ≡ leb_all (k ∷ ps) ++ replicate zeros 0 → length ps ≡ k → bs ≡ record_of ps
unfolding record_of
record_text k zeros bs ps l t c =
    let size : length (leb_all (k ∷ ps)) + zeros ≡ 256 = let s = ap length t ∙ length-append (leb_all (k ∷ ps)) (replicate zeros 0) in let z = length-replicate {A = ℕ} zeros 0 in omega arith in
    let left : zeros ≡ 256 - length (leb_all (k ∷ ps)) = omega arith in
    t ∙ ap (λ n. leb_all (k ∷ ps) ++ replicate n 0) left ∙ ap (λ n. leb_all (n ∷ ps) ++ replicate (256 - length (leb_all (n ∷ ps))) 0) (sym c)

read_exactly : (cells : ℕ) (bs ps : List ℕ) → AllByRecursion (λ b. b < 256) bs → length bs ≡ 256 → named cells bs ≡ Some ps → (bs ≡ record_of ps) × (length ps ≤ 6) × Different cells ps
unfolding named
read_exactly cells bs ps a l e = go (reading bs) refl e
  where
    go : (o : Option (ℕ × List ℕ)) → reading bs ≡ o → counted cells o ≡ Some ps → (bs ≡ record_of ps) × (length ps ≤ 6) × Different cells ps
    go None q h = none_some h
    go (Some (k, rest)) q h =
        ⊎_elim
        (λ t.
        let first = (from_reading bs a k rest q).1 in
        let r = pages_of cells k [] rest ps (all_after (number.leb k) rest (subst (AllByRecursion (λ b. b < 256)) first a)) (sym (cond-true (leb k 6) (pages_from k cells [] rest) None t) ∙ h) in
        let c : length ps ≡ k = ap length r.all ∙ r.count in
        let text : bs ≡ leb_all (k ∷ ps) ++ replicate r.zeros 0 = first ∙ ap (λ x. number.leb k ++ x) r.text ∙ sym (append_assoc (number.leb k) (leb_all r.pages) (replicate r.zeros 0)) ∙ ap (λ x. (number.leb k ++ leb_all x) ++ replicate r.zeros 0) (sym r.all) in
        (record_text k r.zeros bs ps l text c, omega (arith, leb-true k 6 t), subst (Different cells) (sym r.all) (fresh_different cells [] r.pages r.fresh)))
        (λ f. none_some (sym (cond-false (leb k 6) (pages_from k cells [] rest) None f) ∙ h))
        (cases_Bool (leb k 6))

pub exactly : (cells : ℕ) → cells ≤ 2 ^ 32 → Exactly cells
exactly cells few = record { written = λ ps short d. named_back cells ps few short d; read = read_exactly cells }
