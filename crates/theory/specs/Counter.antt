-- A small level to try the theory on: one counter modulo 2^32, with add and read.
use Rattle.std.specs.Prelude.{◌≡◌, ℕ, ◌+◌, ◌-◌, ◌*◌, ◌%◌, ◌<◌, Bool, true, false, ◌&&◌, ◌||◌, Some, None, Option, ◌==◌, refl}
use Rattle.std.proofs.Common.{sym, ap, ap₂, subst, ◌∙◌, arith}
use Rattle.theory.specs.Theory.{Lock, Done, Theory, Takes, Lawful}
use Rattle.theory.specs.Machine.{Limits, absent}
use Rattle.theory.specs.declared.CounterOp.{CounterOp}
use Rattle.theory.specs.declared.CounterOp.TheVariants.{Add, Read}

abbrev pub counter_apply : ℕ → CounterOp → Option (Done ℕ CounterOp ℕ)
counter_apply s (Add n) = Some (record { next = (s + n) % 4294967296; answer = 0; undo = Some (Add ((4294967296 - n % 4294967296) % 4294967296)) })
counter_apply s Read = Some (record { next = s; answer = s; undo = None })

abbrev pub counter_lock : CounterOp → Lock
counter_lock (Add n) = record { kind = 4; number = 0 }
counter_lock Read = record { kind = 5; number = 0 }

abbrev pub counter_theory : Theory CounterOp ℕ
counter_theory = record {
  State = ℕ;
  empty = 0;
  apply = counter_apply;
  lock = counter_lock;
  conflict = λ x y. (x.kind == 4 && y.kind == 5) || (x.kind == 5 && y.kind == 4);
}

abbrev pub counter_limits : Limits CounterOp ℕ
counter_limits = record {
  layer = 2;
  slots = 2;
  room = 4;
  beyond = λ op. false;
  unfit = λ op. absent;
  full = λ s slots op. false;
  capacity = 240;
  record_place = λ t j. 1 + 4 * t + j;
}

abbrev next_of : Option (Done ℕ CounterOp ℕ) → ℕ
next_of None = 0
next_of (Some d) = d.next

abbrev undo_of : Option (Done ℕ CounterOp ℕ) → Option CounterOp
undo_of None = None
undo_of (Some d) = d.undo

abbrev answer_of : Option (Done ℕ CounterOp ℕ) → ℕ
answer_of None = 0
answer_of (Some d) = d.answer

-- what a step says, part by part
built : (s s' a : ℕ) (op : CounterOp) (u : Option CounterOp) → next_of (counter_apply s op) ≡ s' → answer_of (counter_apply s op) ≡ a → undo_of (counter_apply s op) ≡ u → Takes counter_theory s op s' a u
built s s' a (Add n) u p q r = λ i. Some (record { next = p i; answer = q i; undo = r i })
built s s' a Read u p q r = λ i. Some (record { next = p i; answer = q i; undo = r i })

inverse_law : (s s' a : ℕ) (op undo : CounterOp) → s < 4294967296 → Takes counter_theory s op s' a (Some undo) → (b : ℕ) × (u : Option CounterOp) × Takes counter_theory s' undo s b u
inverse_law s s' a (Add n) undo g k =
    let p : (s + n) % 4294967296 ≡ s' = ap next_of k in
    let q : Some (Add ((4294967296 - n % 4294967296) % 4294967296)) ≡ Some undo = ap undo_of k in
    let r : Add ((4294967296 - n % 4294967296) % 4294967296) ≡ undo = cc in
    let e : (s' + (4294967296 - n % 4294967296) % 4294967296) % 4294967296 ≡ s = omega arith in
    (0, _, subst (λ o. Takes counter_theory s' o s 0 (undo_of (counter_apply s' o))) r (built s' s 0 (Add ((4294967296 - n % 4294967296) % 4294967296)) _ e refl refl))
inverse_law s s' a Read undo g k = let q : None ≡ Some undo = ap undo_of k in let z : ◌≡◌ {A = ℕ} 0 1 = cc in absurd (omega arith)

good_law : (s s' a : ℕ) (op : CounterOp) (u : Option CounterOp) → s < 4294967296 → Takes counter_theory s op s' a u → s' < 4294967296
good_law s s' a (Add n) u g k = let p : (s + n) % 4294967296 ≡ s' = ap next_of k in omega arith
good_law s s' a Read u g k = let p : s ≡ s' = ap next_of k in omega arith

reads_law : (s s' a : ℕ) (op : CounterOp) → Takes counter_theory s op s' a None → s' ≡ s
reads_law s s' a (Add n) k = let q : Some (Add ((4294967296 - n % 4294967296) % 4294967296)) ≡ None = ap undo_of k in let z : ◌≡◌ {A = ℕ} 0 1 = cc in absurd (omega arith)
reads_law s s' a Read k = sym (ap next_of k)

commute_law : (s m s' a a' : ℕ) (op op' : CounterOp) (u u' : Option CounterOp) → counter_theory.conflict (counter_lock op) (counter_lock op') ≡ false → Takes counter_theory s op m a u → Takes counter_theory m op' s' a' u'
    → (n : ℕ) × Takes counter_theory s op' n a' u' × Takes counter_theory n op s' a u
commute_law s m s' a a' (Add x) (Add y) u u' h k l =
    let p : (s + x) % 4294967296 ≡ m = ap next_of k in
    let q : (m + y) % 4294967296 ≡ s' = ap next_of l in
    ((s + y) % 4294967296, built s _ a' (Add y) u' refl (ap answer_of l) (ap undo_of l), built _ s' a (Add x) u (omega arith) (ap answer_of k) (ap undo_of k))
commute_law s m s' a a' (Add x) Read u u' h k l = let z : ◌≡◌ {A = ℕ} 0 1 = cc in absurd (omega arith)
commute_law s m s' a a' Read (Add y) u u' h k l = let z : ◌≡◌ {A = ℕ} 0 1 = cc in absurd (omega arith)
commute_law s m s' a a' Read Read u u' h k l =
    let p : s ≡ m = ap next_of k in
    (s, built s s a' Read u' refl (p ∙ ap answer_of l) (ap undo_of l), built s s' a Read u (p ∙ ap next_of l) (ap answer_of k) (ap undo_of k))

and_comm : (a b : Bool) → (a && b) ≡ (b && a)
and_comm true true = refl
and_comm true false = refl
and_comm false true = refl
and_comm false false = refl

or_comm : (a b : Bool) → (a || b) ≡ (b || a)
or_comm true true = refl
or_comm true false = refl
or_comm false true = refl
or_comm false false = refl

pub counter_lawful : Lawful counter_theory
counter_lawful = record {
  Good = λ s. s < 4294967296;
  good_empty = omega arith;
  good_next = λ {s} {s'} {op} {a} {undo} g k. good_law s s' a op undo g k;
  inverse = λ {s} {s'} {op} {undo} {a} g k. inverse_law s s' a op undo g k;
  reads = λ {s} {s'} {op} {a} g k. reads_law s s' a op k;
  commute = λ {s} {m} {s'} {op} {op'} {a} {a'} {undo} {undo'} g h k l. commute_law s m s' a a' op op' undo undo' h k l;
  symmetric = λ x y. or_comm (x.kind == 4 && y.kind == 5) (x.kind == 5 && y.kind == 4) ∙ ap₂ ◌||◌ (and_comm (x.kind == 5) (y.kind == 4)) (and_comm (x.kind == 4) (y.kind == 5));
}
