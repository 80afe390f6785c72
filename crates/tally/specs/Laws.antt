-- The laws of the tally level, under any table of conflicts that has an add and a read of one counter in conflict.
use Rattle.std.specs.Prelude.{◌≡◌, ℕ, zero, suc, ◌+◌, ◌%◌, ◌^◌, ◌<◌, Bool, true, false, ◌&&◌, ◌||◌, List, [], ◌∷◌, length, replicate, Some, None, Option, ◌==◌, ◌≢◌, slice_index, slice_index_or, refl}
use Rattle.std.proofs.Common.{sym, ap, ap₂, subst, ◌∙◌, arith, length-set}
use Rattle.std.proofs.Math.Dec.{eqb-zero-suc, eqb-suc-zero, eqb-suc-suc}
use Rattle.std.specs.List.{AllByRecursion}
use Rattle.theory.specs.Theory.{Lock, Done, Lawful}
use Rattle.tally.specs.declared.TallyOp.{TallyOp}
use Rattle.tally.specs.declared.TallyOp.TheVariants.{Add, Read}
use Rattle.tally.specs.declared.TallyAnswer.{TallyAnswer}
use Rattle.tally.specs.declared.TallyAnswer.TheVariants.{Added, Value}
use Rattle.tally.specs.Tallies.{inverse_amount, counted, tally_apply, add_lock, read_lock, tally_lock, tally_theory, Symmetric, Marks, add_with_read, tally_conflict}

abbrev pub Below : ℕ → Type 0
Below n = n < 2 ^ 32

-- 32 counters, each below 2^32
abbrev pub GoodCounters : List ℕ → Type 0
GoodCounters s = (length s ≡ 32) × AllByRecursion Below s

pub zeros_below : (k : ℕ) → AllByRecursion Below (replicate k 0)
zeros_below zero = tt
zeros_below (suc k) = (omega arith, zeros_below k)

pub counted_below : (s : List ℕ) (c n : ℕ) → AllByRecursion Below s → AllByRecursion Below (counted s c n)
counted_below [] c n g = tt
counted_below (x ∷ s) zero n g = (omega arith, g.1)
counted_below (x ∷ s) (suc c) n g = (g.0, counted_below s c n g.1)

-- the inverse takes an add back
pub counted_back : (s : List ℕ) (c n : ℕ) → AllByRecursion Below s → counted (counted s c n) c (inverse_amount n) ≡ s
counted_back [] c n g = refl
counted_back (x ∷ s) zero n g =
    let b : x < 2 ^ 32 = g.0 in
    let e : ((x + n) % 2 ^ 32 + inverse_amount n) % 2 ^ 32 ≡ x = omega arith in
    ap (λ y. y ∷ s) e
counted_back (x ∷ s) (suc c) n g = ap (λ t. x ∷ t) (counted_back s c n g.1)

-- two adds in either order
pub counted_comm : (s : List ℕ) (c n d m : ℕ) → counted (counted s c n) d m ≡ counted (counted s d m) c n
counted_comm [] c n d m = refl
counted_comm (x ∷ s) zero n zero m =
    let e : ((x + n) % 2 ^ 32 + m) % 2 ^ 32 ≡ ((x + m) % 2 ^ 32 + n) % 2 ^ 32 = omega arith in
    ap (λ y. y ∷ s) e
counted_comm (x ∷ s) zero n (suc d) m = refl
counted_comm (x ∷ s) (suc c) n zero m = refl
counted_comm (x ∷ s) (suc c) n (suc d) m = ap (λ t. x ∷ t) (counted_comm s c n d m)

-- an add leaves the other counters
pub counted_other : (s : List ℕ) (c n d : ℕ) → (c ≢ d) → slice_index (counted s c n) d ≡ slice_index s d
counted_other [] c n d ne = refl
counted_other (x ∷ s) zero n zero ne = absurd (ne refl)
counted_other (x ∷ s) zero n (suc d) ne = refl
counted_other (x ∷ s) (suc c) n zero ne = refl
counted_other (x ∷ s) (suc c) n (suc d) ne = counted_other s c n d (λ e. ne (ap suc e))

-- what a step says, part by part
abbrev next_of : Option (Done (List ℕ) TallyOp TallyAnswer) → List ℕ
next_of None = []
next_of (Some d) = d.next

abbrev undo_of : Option (Done (List ℕ) TallyOp TallyAnswer) → Option TallyOp
undo_of None = None
undo_of (Some d) = d.undo

abbrev answer_of : Option (Done (List ℕ) TallyOp TallyAnswer) → TallyAnswer
answer_of None = Added
answer_of (Some d) = d.answer

-- an operation leads to s', answers a and has the inverse u
abbrev Gives : List ℕ → TallyOp → List ℕ → TallyAnswer → Option TallyOp → Type 0
Gives s op s' a u = tally_apply s op ≡ Some (record { next = s'; answer = a; undo = u })

built : (s s' : List ℕ) (a : TallyAnswer) (op : TallyOp) (u : Option TallyOp) → next_of (tally_apply s op) ≡ s' → answer_of (tally_apply s op) ≡ a → undo_of (tally_apply s op) ≡ u → Gives s op s' a u
built s s' a (Add c n) u p q r = λ i. Some (record { next = p i; answer = q i; undo = r i })
built s s' a (Read c) u p q r = λ i. Some (record { next = p i; answer = q i; undo = r i })

good_law : (s s' : List ℕ) (a : TallyAnswer) (op : TallyOp) (u : Option TallyOp) → GoodCounters s → Gives s op s' a u → GoodCounters s'
good_law s s' a (Add c n) u g k = subst GoodCounters (ap next_of k) (length-set s c _ ∙ g.0, counted_below s c n g.1)
good_law s s' a (Read c) u g k = subst GoodCounters (ap next_of k) g

inverse_law : (s s' : List ℕ) (a : TallyAnswer) (op undo : TallyOp) → GoodCounters s → Gives s op s' a (Some undo) → (b : TallyAnswer) × (u : Option TallyOp) × Gives s' undo s b u
inverse_law s s' a (Add c n) undo g k =
    let q : Some (Add c (inverse_amount n)) ≡ Some undo = ap undo_of k in
    let r : Add c (inverse_amount n) ≡ undo = cc in
    let p : counted s c n ≡ s' = ap next_of k in
    let e : counted s' c (inverse_amount n) ≡ s = subst (λ t. counted t c (inverse_amount n) ≡ s) p (counted_back s c n g.1) in
    (Added, _, subst (λ o. Gives s' o s Added (undo_of (tally_apply s' o))) r (built s' s Added (Add c (inverse_amount n)) _ e refl refl))
inverse_law s s' a (Read c) undo g k = let q : None ≡ Some undo = ap undo_of k in let z : ◌≡◌ {A = ℕ} 0 1 = cc in absurd (omega arith)

reads_law : (s s' : List ℕ) (a : TallyAnswer) (op : TallyOp) → Gives s op s' a None → s' ≡ s
reads_law s s' a (Add c n) k = let q : Some (Add c (inverse_amount n)) ≡ None = ap undo_of k in let z : ◌≡◌ {A = ℕ} 0 1 = cc in absurd (omega arith)
reads_law s s' a (Read c) k = sym (ap next_of k)

module _ (conflict : Lock → Lock → Bool) (symmetric : Symmetric conflict) (marks : Marks conflict) where
  -- an add and a read that do not conflict are of two counters
  apart : (c d : ℕ) → conflict (add_lock c) (read_lock d) ≡ false → c ≢ d
  apart c d h e =
      let m : conflict (add_lock c) (read_lock d) ≡ true = subst (λ x. conflict (add_lock c) (read_lock x) ≡ true) e (marks c) in
      let z : ◌≡◌ {A = ℕ} 0 1 = cc in
      omega arith

  commute_law : (s m s' : List ℕ) (a a' : TallyAnswer) (op op' : TallyOp) (u u' : Option TallyOp) → conflict (tally_lock op) (tally_lock op') ≡ false → Gives s op m a u → Gives m op' s' a' u'
      → (n : List ℕ) × Gives s op' n a' u' × Gives n op s' a u
  commute_law s m s' a a' (Add c x) (Add d y) u u' h k l =
      let p : counted s c x ≡ m = ap next_of k in
      let q : counted m d y ≡ s' = ap next_of l in
      let e : counted (counted s d y) c x ≡ s' = counted_comm s d y c x ∙ (ap (λ t. counted t d y) p ∙ q) in
      (counted s d y, built s _ a' (Add d y) u' refl (ap answer_of l) (ap undo_of l), built _ s' a (Add c x) u e (ap answer_of k) (ap undo_of k))
  commute_law s m s' a a' (Add c x) (Read d) u u' h k l =
      let p : counted s c x ≡ m = ap next_of k in
      let q : m ≡ s' = ap next_of l in
      let same : slice_index_or s d 0 ≡ slice_index_or m d 0 = sym (counted_other s c x d (apart c d h)) ∙ ap (λ t. slice_index t d) p in
      (s, built s s a' (Read d) u' refl (ap Value same ∙ ap answer_of l) (ap undo_of l), built s s' a (Add c x) u (p ∙ q) (ap answer_of k) (ap undo_of k))
  commute_law s m s' a a' (Read d) (Add c x) u u' h k l =
      let p : s ≡ m = ap next_of k in
      let q : counted m c x ≡ s' = ap next_of l in
      let e : counted s c x ≡ s' = ap (λ t. counted t c x) p ∙ q in
      let same : slice_index_or (counted s c x) d 0 ≡ slice_index_or s d 0 = counted_other s c x d (apart c d (symmetric (add_lock c) (read_lock d) ∙ h)) in
      (counted s c x, built s _ a' (Add c x) u' refl (ap answer_of l) (ap undo_of l), built _ s' a (Read d) u e (ap Value same ∙ ap answer_of k) (ap undo_of k))
  commute_law s m s' a a' (Read c) (Read d) u u' h k l =
      let p : s ≡ m = ap next_of k in
      (s, built s s a' (Read d) u' refl (ap (λ t. Value (slice_index t d)) p ∙ ap answer_of l) (ap undo_of l), built s s' a (Read c) u (p ∙ ap next_of l) (ap answer_of k) (ap undo_of k))

  pub tally_lawful : Lawful (tally_theory conflict)
  tally_lawful = record {
    Good = GoodCounters;
    good_empty = (refl, zeros_below 32);
    good_next = λ {s} {s'} {op} {a} {undo} g k. good_law s s' a op undo g k;
    inverse = λ {s} {s'} {op} {undo} {a} g k. inverse_law s s' a op undo g k;
    reads = λ {s} {s'} {op} {a} g k. reads_law s s' a op k;
    commute = λ {s} {m} {s'} {op} {op'} {a} {a'} {undo} {undo'} g h k l. commute_law s m s' a a' op op' undo undo' h k l;
    symmetric = symmetric;
  }

-- the level's own rows have what is asked of a table
eqb_sym : (a b : ℕ) → (a == b) ≡ (b == a)
eqb_sym zero zero = refl
eqb_sym zero (suc b) = eqb-zero-suc b ∙ sym (eqb-suc-zero b)
eqb_sym (suc a) zero = eqb-suc-zero a ∙ sym (eqb-zero-suc a)
eqb_sym (suc a) (suc b) = eqb-suc-suc a b ∙ (eqb_sym a b ∙ sym (eqb-suc-suc b a))

eqb_same : (a : ℕ) → (a == a) ≡ true
eqb_same zero = refl
eqb_same (suc a) = eqb-suc-suc a a ∙ eqb_same a

or_comm : (a b : Bool) → (a || b) ≡ (b || a)
or_comm true true = refl
or_comm true false = refl
or_comm false true = refl
or_comm false false = refl

pub tally_symmetric : Symmetric tally_conflict
tally_symmetric x y = ap₂ ◌&&◌ (eqb_sym x.number y.number) (or_comm (add_with_read x y) (add_with_read y x))

pub tally_marks : Marks tally_conflict
tally_marks c = ap (λ b. b && true) (eqb_same c)
