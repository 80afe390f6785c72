-- The table is its own mirror image, and marks what the rule lists: each by one test that is computed over the whole table. Assumes nothing.
use Rattle.std.proofs.Common.{◌≡◌, ℕ, zero, suc, ◌<◌, ◌≤◌, Bool, true, false, ◌&&◌, ◌||◌, eqb, leb, [], length, get_or, sym, refl, ap, ◌∙◌, ⊎_elim, arith}
use Rattle.std.proofs.lemmas.List.{get_or_past}
use Rattle.std.proofs.lemmas.Bool.{and_parts, cases_lt, leb-true}
use Rattle.std.proofs.lemmas.Bool.Decides.{nat_tests}
use Rattle.number.specs.declared.Kind.{Kind}
use Rattle.number.specs.declared.Kind.TheVariants as kind
use Rattle.number.specs.Codes.{kind_number}
use Rattle.theory.specs.Theory.{Lock}
use Rattle.level.specs.Conflict.{marks, mark, clash, in_conflict, pairs, listed, TableSymmetric, AsListed}

abbrev same : Bool → Bool → Bool
same true y = y
same false true = false
same false false = true

same_true : (x y : Bool) → same x y ≡ true → x ≡ y
same_true true true e = refl
same_true true false e = sym e
same_true false true e = e
same_true false false e = refl

-- what holds below n
abbrev every : ℕ → (ℕ → Bool) → Bool
every zero f = true
every (suc n) f = f n && every n f

every_at : (n : ℕ) (f : ℕ → Bool) → every n f ≡ true → (k : ℕ) → k < n → f k ≡ true
every_at zero f e k h = absurd (omega arith)
every_at (suc n) f e k h =
    let p = and_parts (f n) (every n f) e in
    ⊎_elim (λ below. every_at n f p.1 k below) (λ above. let is : k ≡ n = omega arith in ap f is ∙ p.0) (cases_lt k n)

-- all marks at once, each against its mirror image
mirrored : every 7 (λ a. every 7 (λ b. same (mark a b) (mark b a))) ≡ true
mirrored = refl

rows_short : every 7 (λ a. leb (length (get_or marks a [])) 7) ≡ true
rows_short = refl

inside : (a b : ℕ) → a < 7 → b < 7 → mark a b ≡ mark b a
inside a b h k = same_true (mark a b) (mark b a) (every_at 7 (λ b. same (mark a b) (mark b a)) (every_at 7 (λ a. every 7 (λ b. same (mark a b) (mark b a))) mirrored a h) b k)

row_short : (a : ℕ) → length (get_or marks a []) ≤ 7
row_short a =
    ⊎_elim
    (λ h. leb-true (length (get_or marks a [])) 7 (every_at 7 (λ a. leb (length (get_or marks a [])) 7) rows_short a h))
    (λ h. omega (arith, ap length (get_or_past marks a [] h)))
    (cases_lt a 7)

-- no mark past the last row, and none past the last column
past_row : (a b : ℕ) → 7 ≤ a → mark a b ≡ false
past_row a b h = ap (λ row. get_or row b false) (get_or_past marks a [] h)

past_column : (a b : ℕ) → 7 ≤ b → mark a b ≡ false
past_column a b h = get_or_past (get_or marks a []) b false (omega (arith, row_short a))

pub table_symmetric : TableSymmetric
table_symmetric a b =
    ⊎_elim
    (λ h. ⊎_elim (λ k. inside a b h k) (λ k. past_column a b k ∙ sym (past_row b a k)) (cases_lt b 7))
    (λ h. past_row a b h ∙ sym (past_column b a h))
    (cases_lt a 7)

pub clash_symmetric : (a b : ℕ) → clash a b ≡ clash b a
clash_symmetric zero zero = refl
clash_symmetric zero (suc b) = refl
clash_symmetric (suc a) zero = refl
clash_symmetric (suc a) (suc b) = table_symmetric a b

pub conflict_symmetric : (x y : Lock) → in_conflict x y ≡ in_conflict y x
conflict_symmetric x y =
    let turned : eqb x.number y.number ≡ eqb y.number x.number = grind (arith, nat_tests) in
    ap (λ e. e && clash x.kind y.kind) turned ∙ ap (λ e. eqb y.number x.number && e) (clash_symmetric x.kind y.kind)

abbrev each : (Kind → Bool) → Bool
each f = f kind.Put && (f kind.Del && (f kind.Get && (f kind.Add && (f kind.Read && (f kind.Set && f kind.Load)))))

each_at : (f : Kind → Bool) → each f ≡ true → (k : Kind) → f k ≡ true
each_at f e kind.Put = grind arith
each_at f e kind.Del = grind arith
each_at f e kind.Get = grind arith
each_at f e kind.Add = grind arith
each_at f e kind.Read = grind arith
each_at f e kind.Set = grind arith
each_at f e kind.Load = grind arith

abbrev agree : Kind → Kind → Bool
agree a b = same (clash (kind_number a) (kind_number b)) (listed (kind_number a) (kind_number b) pairs || listed (kind_number b) (kind_number a) pairs)

pub as_listed : AsListed
as_listed a b = same_true _ _ (each_at (agree a) (each_at (λ a. each (agree a)) refl a) b)
