-- The commit record: what is written is read back, and what is read names pages that are there. Assumes nothing.
use Rattle.std.specs.Prelude.{◌≡◌, ℕ, zero, suc, ◌+◌, ◌-◌, ◌^◌, ◌<◌, ◌≤◌, true, false, cond, not, ◌&&◌, ◌⊎◌, List, [], ◌∷◌, ◌++◌, length, replicate, is_ok, Some, None, Ok, Err, Option, Result, ◌==◌, ◌≢◌, nat_le, nat_lt}
use Rattle.std.proofs.Math.Path.{refl, ap, subst}
use Rattle.std.proofs.Common.{sym, ◌∙◌, append_assoc, inl, inr, arith, length-append}
use Rattle.std.proofs.Math.Logic.{⊎_elim}
use Rattle.std.proofs.lemmas.Bool.{cases_eq, cases_Bool, eq-eqb, ne_eqb, lt-ltb, le-ltb, ltb-true, le-leb, lt-leb, leb-true, cond-true, cond-false, and_parts, true≢false, both_ways}
use Rattle.number.specs.Leb.{leb_all, reading}
use Rattle.number.specs.Leb as number
use Rattle.number.proofs.Numbers.{reading_leb}
use Rattle.number.specs.Zeros.{zeros, zeros_replicate}
use Rattle.journal.specs.Record.{record_of, member, page_next, pages_from, counted, named, Different, Below}
use Rattle.journal.specs.Groups.{told}
use Rattle.journal.specs.Stored.{member_here}

-- membership
pub member_tail : (n x : ℕ) (ns : List ℕ) → member n (x ∷ ns) ≡ false → (x ≢ n) × (member n ns ≡ false)
member_tail n x ns m =
    ⊎_elim
    (λ e. absurd (true≢false (sym (cond-true (x == n) true (member n ns) (eq-eqb x n e)) ∙ m)))
    (λ e. (e, sym (cond-false (x == n) true (member n ns) (ne_eqb x n e)) ∙ m))
    (cases_eq x n)

member_not : (n x : ℕ) (ns : List ℕ) → (x ≢ n) → member n ns ≡ false → member n (x ∷ ns) ≡ false
member_not n x ns o m = cond-false (x == n) true (member n ns) (ne_eqb x n o) ∙ m

pub member_last : (n p : ℕ) (ns : List ℕ) → member n (ns ++ p ∷ []) ≡ true → (member n ns ≡ true) ⊎ (p ≡ n)
member_last n p [] m = ⊎_elim (λ e. inr e) (λ e. absurd (true≢false (sym m ∙ cond-false (p == n) true false (ne_eqb p n e)))) (cases_eq p n)
member_last n p (x ∷ ns) m =
    ⊎_elim
    (λ e. inl (cond-true (x == n) true (member n ns) (eq-eqb x n e)))
    (λ e.
    let rest : member n (ns ++ p ∷ []) ≡ true = sym (cond-false (x == n) true (member n (ns ++ p ∷ [])) (ne_eqb x n e)) ∙ m in
    ⊎_elim (λ l. inl (cond-false (x == n) true (member n ns) (ne_eqb x n e) ∙ l)) (λ r. inr r) (member_last n p ns rest))
    (cases_eq x n)

-- one page more
pub different_more : (cells n : ℕ) (ps : List ℕ) → Different cells ps → n < cells → member n ps ≡ false → Different cells (ps ++ n ∷ [])
different_more cells n [] d h m = (h, refl, tt)
different_more cells n (p ∷ ps) d h m =
    let t = member_tail n p ps m in
    let apart : member p (ps ++ n ∷ []) ≡ false =
    ⊎_elim
    (λ yes'. ⊎_elim (λ l. absurd (both_ways (member p ps) d.1 l)) (λ e. absurd (t.0 (sym e))) (member_last p n ps yes'))
    (λ f. f)
    (cases_Bool (member p (ps ++ n ∷ []))) in
    (d.0, apart, different_more cells n ps d.2 h t.1)

pub different_below : (cells : ℕ) (ps : List ℕ) → Different cells ps → Below cells ps
different_below cells [] d = tt
different_below cells (p ∷ ps) d = (d.0, different_below cells ps d.2)

-- none of ps was seen
Apart : List ℕ → List ℕ → Type 0
Apart seen ps = (x : ℕ) → member x seen ≡ true → member x ps ≡ false

module _ (cells : ℕ) (few : cells ≤ 2 ^ 32) (n : ℕ) where
  -- the pages that a record names are read back
  pages_back : (ps seen : List ℕ) → Different cells ps → Apart seen ps → pages_from (length ps) cells seen (leb_all ps ++ replicate n 0) ≡ Some (seen ++ ps)
  unfolding pages_from Apart
  pages_back [] seen d a = cond-true (zeros (replicate n 0)) (Some seen) None (zeros_replicate n) ∙ ap Some (sym (append_none seen))
    where
      append_none : (xs : List ℕ) → xs ++ [] ≡ xs
      append_none [] = refl
      append_none (x ∷ xs) = ap (λ l. x ∷ l) (append_none xs)
  pages_back (p ∷ ps) seen d a =
      let tail = leb_all ps ++ replicate n 0 in
      let first : reading (leb_all (p ∷ ps) ++ replicate n 0) ≡ Some (p, tail) = ap reading (append_assoc (number.leb p) (leb_all ps) (replicate n 0)) ∙ reading_leb p tail (omega (arith, d.0)) in
      let new : member p seen ≡ false = ⊎_elim (λ t. absurd (both_ways (member p (p ∷ ps)) (a p t) (member_here p ps))) (λ f. f) (cases_Bool (member p seen)) in
      let more = pages_back ps (seen ++ p ∷ []) d.2 (λ x m. ⊎_elim (λ l. (member_tail x p ps (a x l)).1) (λ e. subst (λ y. member y ps ≡ false) e d.1) (member_last x p seen m)) in
      ap (λ o. page_next cells seen o (pages_from (length ps) cells)) first
      ∙ cond-true (nat_lt p cells && not (member p seen)) (pages_from (length ps) cells (seen ++ p ∷ []) tail) None (ap (λ t. t && not (member p seen)) (lt-ltb p cells d.0) ∙ ap not new)
      ∙ more ∙ ap Some (append_assoc seen (p ∷ []) ps)

pub named_back : (cells : ℕ) (ps : List ℕ) → cells ≤ 2 ^ 32 → length ps ≤ 6 → Different cells ps → named cells (record_of ps) ≡ Some ps
unfolding named record_of Apart
named_back cells ps few short d =
    let z = 256 - length (leb_all (length ps ∷ ps)) in
    let tail = leb_all ps ++ replicate z 0 in
    let first : reading (record_of ps) ≡ Some (length ps, tail) = ap reading (append_assoc (number.leb (length ps)) (leb_all ps) (replicate z 0)) ∙ reading_leb (length ps) tail (omega arith) in
    ap (counted cells) first
    ∙ cond-true (nat_le (length ps) 6) (pages_from (length ps) cells [] tail) None (le-leb (length ps) 6 short)
    ∙ pages_back cells few z ps [] d (λ x m. absurd (true≢false (sym m)))

-- a page that was read
record Next (cells : ℕ) (seen : List ℕ) (k : ℕ) (ps : List ℕ) : Type 0 where
  page : ℕ
  rest : List ℕ
  small : page < cells
  more : pages_from k cells (seen ++ page ∷ []) rest ≡ Some ps

none_some : {X : Type 0} {ps : List ℕ} → None ≡ Some ps → X
none_some e = let z : ◌≡◌ {A = ℕ} 0 1 = cc in absurd (omega arith)

next_of : (cells : ℕ) (seen : List ℕ) (k : ℕ) (ps : List ℕ) (o : Option (ℕ × List ℕ)) → page_next cells seen o (pages_from k cells) ≡ Some ps → Next cells seen k ps
next_of cells seen k ps None e = none_some e
next_of cells seen k ps (Some (p, rest)) e =
    ⊎_elim
    (λ t.
    record { page = p; rest = rest; small = ltb-true p cells (and_parts (nat_lt p cells) (not (member p seen)) t).0; more = sym (cond-true (nat_lt p cells && not (member p seen)) (pages_from k cells (seen ++ p ∷ []) rest) None t) ∙ e })
    (λ f. none_some (sym (cond-false (nat_lt p cells && not (member p seen)) (pages_from k cells (seen ++ p ∷ []) rest) None f) ∙ e))
    (cases_Bool (nat_lt p cells && not (member p seen)))

pub below_push : (cells p : ℕ) (ps : List ℕ) → Below cells ps → p < cells → Below cells (ps ++ p ∷ [])
below_push cells p [] b h = (h, tt)
below_push cells p (x ∷ ps) b h = (b.0, below_push cells p ps b.1 h)

pages_are : (cells k : ℕ) (seen bs ps : List ℕ) → pages_from k cells seen bs ≡ Some ps → Below cells seen → (length ps ≡ length seen + k) × Below cells ps
unfolding pages_from
pages_are cells zero seen bs ps e b =
    ⊎_elim
    (λ t. let same : seen ≡ ps = some_same (sym (cond-true (zeros bs) (Some seen) None t) ∙ e) in subst (λ l. (length l ≡ length seen + 0) × Below cells l) same (omega arith, b))
    (λ f. none_some (sym (cond-false (zeros bs) (Some seen) None f) ∙ e))
    (cases_Bool (zeros bs))
  where
    some_same : {xs ys : List ℕ} → Some xs ≡ Some ys → xs ≡ ys
    some_same q = cc
pages_are cells (suc k) seen bs ps e b =
    let n = next_of cells seen k ps (reading bs) e in
    let r = pages_are cells k (seen ++ n.page ∷ []) n.rest ps n.more (below_push cells n.page seen b n.small) in
    (omega (arith, r.0, length-append seen (n.page ∷ [])), r.1)

-- what a record names: at most six pages that are there
pub named_are : (cells : ℕ) (bs ps : List ℕ) → named cells bs ≡ Some ps → (length ps ≤ 6) × Below cells ps
unfolding named
named_are cells bs ps e = go (reading bs) e
  where
    go : (o : Option (ℕ × List ℕ)) → counted cells o ≡ Some ps → (length ps ≤ 6) × Below cells ps
    go None q = none_some q
    go (Some (k, rest)) q =
        ⊎_elim
        (λ t.
        let r = pages_are cells k [] rest ps (sym (cond-true (nat_le k 6) (pages_from k cells [] rest) None t) ∙ q) tt in
        (omega (arith, r.0, leb-true k 6 t), r.1))
        (λ f. none_some (sym (cond-false (nat_le k 6) (pages_from k cells [] rest) None f) ∙ q))
        (cases_Bool (nat_le k 6))

-- the steps of a reader
pub pages_end : {E : Type 0} (k cells : ℕ) (seen bs : List ℕ) (r : Result Unit E) → k ≡ 0 → is_ok r ≡ zeros bs → told r seen ≡ pages_from k cells seen bs
unfolding pages_from
pages_end zero cells seen bs (Ok x) e q = sym (cond-true (zeros bs) (Some seen) None (sym q))
pages_end zero cells seen bs (Err x) e q = sym (cond-false (zeros bs) (Some seen) None (sym q))
pages_end (suc k) cells seen bs r e q = absurd (omega arith)

pub pages_unread : (k cells : ℕ) (seen bs : List ℕ) → (k ≢ 0) → None ≡ reading bs → None ≡ pages_from k cells seen bs
unfolding pages_from
pages_unread zero cells seen bs h e = absurd (h refl)
pages_unread (suc k) cells seen bs h e = ap (λ o. page_next cells seen o (pages_from k cells)) e

pages_step : (k cells p : ℕ) (seen bs rest : List ℕ) → (k ≢ 0) → Some (p, rest) ≡ reading bs → pages_from k cells seen bs ≡ cond (nat_lt p cells && not (member p seen)) (pages_from (k - 1) cells (seen ++ p ∷ []) rest) None
unfolding pages_from
pages_step zero cells p seen bs rest h e = absurd (h refl)
pages_step (suc k) cells p seen bs rest h e = let one : k ≡ suc k - 1 = omega arith in ap (λ o. page_next cells seen o (pages_from k cells)) (sym e) ∙ ap (λ j. cond (nat_lt p cells && not (member p seen)) (pages_from j cells (seen ++ p ∷ []) rest) None) one

module _ (k cells p : ℕ) (seen bs rest : List ℕ) (some : k ≡ 0 → ⊥) (e : Some (p, rest) ≡ reading bs) where
  pub pages_beyond : cells ≤ p → None ≡ pages_from k cells seen bs
  pages_beyond h = sym (pages_step k cells p seen bs rest some e ∙ ap (λ t. cond (t && not (member p seen)) (pages_from (k - 1) cells (seen ++ p ∷ []) rest) None) (le-ltb p cells h))

  pub pages_twice : p < cells → member p seen ≡ true → None ≡ pages_from k cells seen bs
  pages_twice h m = sym (pages_step k cells p seen bs rest some e ∙ ap (λ t. cond (t && not (member p seen)) (pages_from (k - 1) cells (seen ++ p ∷ []) rest) None) (lt-ltb p cells h) ∙ ap (λ t. cond (not t) (pages_from (k - 1) cells (seen ++ p ∷ []) rest) None) m)

  pub pages_more : p < cells → member p seen ≡ false → pages_from (k - 1) cells (seen ++ p ∷ []) rest ≡ pages_from k cells seen bs
  pages_more h m = sym (pages_step k cells p seen bs rest some e ∙ ap (λ t. cond (t && not (member p seen)) (pages_from (k - 1) cells (seen ++ p ∷ []) rest) None) (lt-ltb p cells h) ∙ ap (λ t. cond (not t) (pages_from (k - 1) cells (seen ++ p ∷ []) rest) None) m)

pub named_unread : (cells : ℕ) (bs : List ℕ) → None ≡ reading bs → None ≡ named cells bs
unfolding named
named_unread cells bs e = ap (counted cells) e

pub named_many : (cells k : ℕ) (bs rest : List ℕ) → Some (k, rest) ≡ reading bs → 6 < k → None ≡ named cells bs
unfolding named
named_many cells k bs rest e h = sym (ap (counted cells) (sym e) ∙ cond-false (nat_le k 6) (pages_from k cells [] rest) None (lt-leb k 6 h))

pub named_counted : (cells k : ℕ) (bs rest : List ℕ) → Some (k, rest) ≡ reading bs → k ≤ 6 → pages_from k cells [] rest ≡ named cells bs
unfolding named
named_counted cells k bs rest e h = sym (ap (counted cells) (sym e) ∙ cond-true (nat_le k 6) (pages_from k cells [] rest) None (le-leb k 6 h))
