-- How a log explains the state and the slots that the blocks say, and what each step of a call does to that.
use Rattle.std.proofs.Common.{◌≡◌, ℕ, zero, suc, ◌<◌, Bool, true, false, cond, not, eqb, ◌≢◌, List, [], ◌∷◌, ◌++◌, length, get_or, set, replicate, Some, None, Option, sym, refl, ap, ◌∙◌, subst, inl, inr, append_assoc, append-nil, length-set}
use lib.ListN.{get_or-eq_default}
use Rattle.std.proofs.lemmas.List.{get_or-set_same, get_or-set_other, set_at}
use Rattle.std.proofs.lemmas.Bool.{true≢false, false≢true, eqb-true, eqb-false, eq-eqb, ne_eqb, not-true, cases_eq, cases_lt}
use Rattle.std.proofs.lemmas.List.Elements.{filter-append}
use Rattle.theory.specs.Theory.{Done, Theory, Takes, Lawful}
use Rattle.theory.specs.Slots.{Slot, slot_at, is_running, undos_of, recorded, closed, undo_records, undo_slots, Undoing, committed, undone, running, stop, skip, undo_record, close_slot}
use Rattle.theory.proofs.Log.{Entry, In, in_append, in_kept, mine, others, all_undos, popped, mine_others, own_others, Own, own_mine, own_popped, mine_own, mine_foreign, in_popped, Replays, replays_append, Apart, good_replays, partition, records_undo, record_undoes}

pub replicate_default : {A : Type 0} (n u : ℕ) (a : A) → get_or (replicate n a) u a ≡ a
replicate_default zero u a = refl
replicate_default (suc n) zero a = refl
replicate_default (suc n) (suc u) a = replicate_default n u a

module _ {Op : Type 0} where
  abbrev pub is_committed : Slot Op → Bool
  is_committed committed = true
  is_committed undone = false
  is_committed (running undos) = false

  pub running_open : (x : Slot Op) → is_running x ≡ true → is_committed x ≡ false
  running_open committed h = absurd (false≢true h)
  running_open undone h = refl
  running_open (running undos) h = refl

  pub running_within : (xs : List (Slot Op)) (t : ℕ) → is_running (slot_at xs t) ≡ true → t < length xs
  running_within xs t h = elim (cases_lt t (length xs)) [ inl k ↦ k | inr k ↦ absurd (false≢true (sym (ap is_running (get_or-eq_default xs committed k)) ∙ h)) ]

  pub at_set : (Q : ℕ → Slot Op → Type 0) (xs : List (Slot Op)) (t : ℕ) (x : Slot Op) → t < length xs → Q t x → ((u : ℕ) → u ≢ t → Q u (slot_at xs u)) → (u : ℕ) → Q u (slot_at (set xs t x) u)
  at_set Q xs t x k here there u =
      elim (cases_eq u t) [
        | inl e ↦ subst (λ v. Q v (slot_at (set xs t x) v)) (sym e) (subst (Q t) (sym (get_or-set_same xs t x committed k)) here)
        | inr n ↦ subst (Q u) (sym (get_or-set_other xs t u x committed n)) (there u n)
      ]

  -- the slots are as many as before, and the same ones are committed
  pub record Alike (xs ys : List (Slot Op)) : Type 0 where
    pub size : length xs ≡ length ys
    pub same : (u : ℕ) → is_committed (slot_at ys u) ≡ is_committed (slot_at xs u)

  pub alike_refl : (xs : List (Slot Op)) → Alike xs xs
  alike_refl xs = record { size = refl; same = λ u. refl }

  pub alike_trans : (xs ys zs : List (Slot Op)) → Alike xs ys → Alike ys zs → Alike xs zs
  alike_trans xs ys zs a b = record { size = a.size ∙ b.size; same = λ u. b.same u ∙ a.same u }

  pub alike_set : (xs : List (Slot Op)) (t : ℕ) (x : Slot Op) → is_running (slot_at xs t) ≡ true → is_committed x ≡ false → Alike xs (set xs t x)
  alike_set xs t x h k = record {
    size = sym (length-set xs t x);
    same = at_set (λ u y. is_committed y ≡ is_committed (slot_at xs u)) xs t x (running_within xs t h) (k ∙ sym (running_open (slot_at xs t) h)) (λ u n. refl);
  }

module _ {Op Answer : Type 0} where
  -- a slot beside its entries in the log
  abbrev pub Matches : List (Entry Op Answer) → Slot Op → Type 0
  Matches own committed = own ≡ []
  Matches own undone = own ≡ []
  Matches own (running undos) = undos ≡ all_undos own

  pub idle_free : (own : List (Entry Op Answer)) (x : Slot Op) → is_running x ≡ false → Matches own x → own ≡ []
  idle_free own committed h m = m
  idle_free own undone h m = m
  idle_free own (running undos) h m = absurd (true≢false h)

  running_undos : (own : List (Entry Op Answer)) (x : Slot Op) → is_running x ≡ true → Matches own x → undos_of x ≡ all_undos own
  running_undos own committed h m = absurd (false≢true h)
  running_undos own undone h m = absurd (false≢true h)
  running_undos own (running undos) h m = m

module _ {Op Answer : Type 0} (th : Theory Op Answer) (law : Lawful th) where
  pub record Explains (b : th.State) (log : List (Entry Op Answer)) (s : th.State) (slots : List (Slot Op)) : Type 0 where
    pub good : law.Good b
    pub replays : Replays th b log s
    pub apart : Apart th log
    pub matches : (t : ℕ) → Matches (mine t log) (slot_at slots t)

  module _ (b : th.State) (log : List (Entry Op Answer)) (s : th.State) (slots : List (Slot Op)) (d : Explains b log s slots) where
    pub explains_begin : (t : ℕ) → t < length slots → is_running (slot_at slots t) ≡ false → Explains b log s (set slots t (running []))
    explains_begin t k idle = record {
      good = d.good;
      replays = d.replays;
      apart = d.apart;
      matches = at_set (λ u x. Matches (mine u log) x) slots t (running []) k (ap all_undos (sym (idle_free (mine t log) (slot_at slots t) idle (d.matches t)))) (λ u n. d.matches u);
    }

    pub explains_perform : (t : ℕ) (op : Op) (a : Answer) (undo : Option Op) (s' : th.State) → is_running (slot_at slots t) ≡ true
        → ((f : Entry Op Answer) → In f log → f.what.slot ≢ t → th.conflict (th.lock op) (th.lock f.what.op) ≡ false)
        → Takes th s op s' a undo
        → Explains b (record { what = record { slot = t; op = op; answer = a }; undo = undo } ∷ log) s' (set slots t (running (recorded undo (undos_of (slot_at slots t)))))
    explains_perform t op a undo s' h free k = record {
      good = d.good;
      replays = (s, d.replays, k);
      apart = λ x y i j n. elim i [
        | inl p ↦ elim j [
          | inl q ↦ absurd (n (ap (λ z. z.what.slot) p ∙ sym (ap (λ z. z.what.slot) q)))
          | inr q ↦ subst (λ z. th.conflict (th.lock z.what.op) (th.lock y.what.op) ≡ false) (sym p) (free y q (λ w. n (ap (λ z. z.what.slot) p ∙ sym w)))
        ]
        | inr p ↦ elim j [
          | inl q ↦ subst (λ z. th.conflict (th.lock x.what.op) (th.lock z.what.op) ≡ false) (sym q) (law.symmetric _ _ ∙ free x p (λ w. n (w ∙ sym (ap (λ z. z.what.slot) q))))
          | inr q ↦ d.apart x y p q n
        ]
      ];
      matches = at_set (λ u x. Matches (mine u (record { what = record { slot = t; op = op; answer = a }; undo = undo } ∷ log)) x) slots t (running (recorded undo (undos_of (slot_at slots t)))) (running_within slots t h)
          (rw (eq-eqb t t refl) (ap (recorded undo) (running_undos (mine t log) (slot_at slots t) h (d.matches t))))
          (λ u n. rw (ne_eqb t u (λ w. n (sym w))) (d.matches u));
    }

    -- slot t's operations below those of the others
    pub explains_commit : (t : ℕ) → is_running (slot_at slots t) ≡ true → (m : th.State) × Replays th b (mine t log) m × Explains m (others t log) s (set slots t committed)
    explains_commit t h =
        let p = partition th law b s (λ e. eqb e.what.slot t) (λ e. not (eqb e.what.slot t)) log d.good (λ e. refl)
        (λ e f i j x y. d.apart f e j i (λ w. eqb-false f.what.slot t (not-true _ y) (w ∙ eqb-true e.what.slot t x))) d.replays in (
          p.0,
          p.1,
          record {
            good = good_replays th law b p.0 (mine t log) d.good p.1;
            replays = p.2;
            apart = λ x y i j. d.apart x y (in_kept _ x log i).0 (in_kept _ y log j).0;
            matches = at_set (λ u x. Matches (mine u (others t log)) x) slots t committed (running_within slots t h) (own_others t log) (λ u n. subst (λ l. Matches l (slot_at slots u)) (sym (mine_others u t log n)) (d.matches u));
          },
        )

    -- slot t's operations above those of the others
    above : (t : ℕ) → (m : th.State) × Replays th b (others t log) m × Replays th m (mine t log) s
    above t =
        partition th law b s (λ e. not (eqb e.what.slot t)) (λ e. eqb e.what.slot t) log d.good (λ e. twice (eqb e.what.slot t))
        (λ e f i j x y. d.apart f e j i (λ w. eqb-false e.what.slot t (not-true _ x) (sym w ∙ eqb-true f.what.slot t y))) d.replays
      where
        twice : (v : Bool) → v ≡ not (not v)
        twice true = refl
        twice false = refl

    pub explains_undo_slot : (t : ℕ) → is_running (slot_at slots t) ≡ true → (m : th.State) × Explains b (others t log) m (set slots t undone) × (undo_records th s (undos_of (slot_at slots t)) ≡ (m, []))
    explains_undo_slot t h =
        let p = above t in (
          p.0,
          record {
            good = d.good;
            replays = p.1;
            apart = λ x y i j. d.apart x y (in_kept _ x log i).0 (in_kept _ y log j).0;
            matches = at_set (λ u x. Matches (mine u (others t log)) x) slots t undone (running_within slots t h) (own_others t log) (λ u n. subst (λ l. Matches l (slot_at slots u)) (sym (mine_others u t log n)) (d.matches u));
          },
          ap (undo_records th s) (running_undos (mine t log) (slot_at slots t) h (d.matches t)) ∙ records_undo th law p.0 s (mine t log) (good_replays th law b p.0 (others t log) d.good p.1) p.2,
        )

    pub explains_close_slot : (t : ℕ) → slot_at slots t ≡ running [] → Explains b (others t log) s (set slots t undone)
    explains_close_slot t h =
        let u = explains_undo_slot t (ap is_running h) in
        let e : u.0 ≡ s = ap (λ z. z.0) (sym u.2 ∙ ap (λ x. undo_records th s (undos_of x)) h) in
        subst (λ z. Explains b (others t log) z (set slots t undone)) e u.1

    pub explains_undo_record : (t : ℕ) (n : Op) (undos : List Op) (m : th.State) (a : Answer) (undo : Option Op) → slot_at slots t ≡ running (n ∷ undos) → Takes th s n m a undo
        → (l : List (Entry Op Answer)) × Explains b l m (set slots t (running undos))
    explains_undo_record t n undos m a undo h k =
        let p = above t in
        let own = mine t log in
        let here : n ∷ undos ≡ all_undos own = subst (λ x. Matches own x) h (d.matches t) in
        let o = record_undoes th law p.0 m s n undos a undo own (good_replays th law b p.0 (others t log) d.good p.1) p.2 here k in
        let l = popped own ++ others t log in
        let owned : Own t (popped own) = own_popped t own (own_mine t log) in
        let mine_t : mine t l ≡ popped own = filter-append (λ e. eqb e.what.slot t) (popped own) (others t log) ∙ ap (λ z. z ++ mine t (others t log)) (mine_own t (popped own) owned) ∙ ap (λ z. popped own ++ z) (own_others t log) ∙ append-nil (popped own) in (
          l,
          record {
            good = d.good;
            replays = replays_append th b p.0 m (others t log) (popped own) p.1 o.0;
            apart = λ x y i j. d.apart x y (inside t x i) (inside t y j);
            matches = at_set (λ u x. Matches (mine u l) x) slots t (running undos) (running_within slots t (ap is_running h))
                (o.1 ∙ ap all_undos (sym mine_t))
                (λ u w. subst (λ z. Matches z (slot_at slots u)) (sym (filter-append (λ e. eqb e.what.slot u) (popped own) (others t log) ∙ ap (λ z. z ++ mine u (others t log)) (mine_foreign u t (popped own) w owned) ∙ mine_others u t log w)) (d.matches u));
          },
        )
      where
        inside : (t : ℕ) (x : Entry Op Answer) → In x (popped (mine t log) ++ others t log) → In x log
        inside t x i = elim (in_append x (popped (mine t log)) (others t log) i) [ inl j ↦ (in_kept _ x log (in_popped x (mine t log) j)).0 | inr j ↦ (in_kept _ x log j).0 ]

  -- after some steps of undoing
  pub record UndoneTo (b : th.State) (xs : List (Slot Op)) (s' : th.State) (ys : List (Slot Op)) : Type 0 where
    pub log : List (Entry Op Answer)
    pub explains : Explains b log s' ys
    pub alike : Alike xs ys

  pub at_length : (front : List (Slot Op)) (x : Slot Op) (rest : List (Slot Op)) → slot_at (front ++ (x ∷ rest)) (length front) ≡ x
  at_length [] x rest = refl
  at_length (y ∷ front) x rest = at_length front x rest

  later : (b s' : th.State) (xs ys zs : List (Slot Op)) → Alike xs ys → UndoneTo b ys s' zs → UndoneTo b xs s' zs
  later b s' xs ys zs a u = record { log = u.log; explains = u.explains; alike = alike_trans xs ys zs a u.alike }

  pub undoing : (b : th.State) {s s' : th.State} {xs xs' : List (Slot Op)} → Undoing th s xs s' xs' → (front rest : List (Slot Op)) (log : List (Entry Op Answer))
      → Explains b log s (front ++ (xs ++ rest)) → UndoneTo b (front ++ (xs ++ rest)) s' (front ++ (xs' ++ rest))
  undoing b {xs = xs} stop front rest log d = record { log = log; explains = d; alike = alike_refl (front ++ (xs ++ rest)) }
  undoing b {s' = s'} (skip {x = x} {xs = ys} {xs' = ys'} h u) front rest log d =
      let e : (l : List (Slot Op)) → (front ++ (x ∷ [])) ++ l ≡ front ++ (x ∷ l) = append_assoc front (x ∷ []) in
      let r = undoing b u (front ++ (x ∷ [])) rest log (rw e d) in
      subst (λ l. UndoneTo b l s' (front ++ (x ∷ (ys' ++ rest)))) (e (ys ++ rest)) (subst (λ l. UndoneTo b ((front ++ (x ∷ [])) ++ (ys ++ rest)) s' l) (e (ys' ++ rest)) r)
  undoing b {s = s} {s' = s'} {xs' = xs'} (undo_record {m = m} {undo = n} {undos = undos} {xs = ys} {a = a} {redo = undo} k u) front rest log d =
      let all = front ++ (running (n ∷ undos) ∷ (ys ++ rest)) in
      let here : slot_at all (length front) ≡ running (n ∷ undos) = at_length front (running (n ∷ undos)) (ys ++ rest) in
      let e : set all (length front) (running undos) ≡ front ++ (running undos ∷ (ys ++ rest)) = set_at front (running (n ∷ undos)) (ys ++ rest) (running undos) (length front) refl in
      let o = explains_undo_record b log s all d (length front) n undos m a undo here k in
      let r = undoing b u front rest o.0 (rw e at o.1) in
      later b s' all (front ++ (running undos ∷ (ys ++ rest))) (front ++ (xs' ++ rest)) (subst (λ l. Alike all l) e (alike_set all (length front) (running undos) (ap is_running here) refl)) r
  undoing b {s = s} {s' = s'} {xs' = xs'} (close_slot {xs = ys} u) front rest log d =
      let all = front ++ (running [] ∷ (ys ++ rest)) in
      let here : slot_at all (length front) ≡ running [] = at_length front (running []) (ys ++ rest) in
      let e : set all (length front) undone ≡ front ++ (undone ∷ (ys ++ rest)) = set_at front (running []) (ys ++ rest) undone (length front) refl in
      let r = undoing b u front rest (others (length front) log) (rw e at (explains_close_slot b log s all d (length front) here)) in
      later b s' all (front ++ (undone ∷ (ys ++ rest))) (front ++ (xs' ++ rest)) (subst (λ l. Alike all l) e (alike_set all (length front) undone (ap is_running here) refl)) r

-- The whole of the undoing is a run of its steps.
module _ {Op Answer : Type 0} (th : Theory Op Answer) where
  -- what follows once a slot's records are undone as far as they apply
  abbrev pub after_records : List (Slot Op) → th.State × List Op → th.State × List (Slot Op)
  after_records xs p = let rest = undo_slots th p.0 xs in cond (is_running (closed p.1)) (p.0, closed p.1 ∷ xs) (rest.0, closed p.1 ∷ rest.1)

  record_steps : (xs : List (Slot Op)) → ((s : th.State) → Undoing th s xs (undo_slots th s xs).0 (undo_slots th s xs).1) → (undos : List Op) (s : th.State)
      → Undoing th s (running undos ∷ xs) (undo_slots th s (running undos ∷ xs)).0 (undo_slots th s (running undos ∷ xs)).1
  record_steps xs rest [] s = close_slot (skip refl (rest s))
  record_steps xs rest (n ∷ undos) s = go (record_steps xs rest undos) (th.apply s n) refl
    where
      Reached : th.State × List Op → Type 0
      Reached p = Undoing th s (running (n ∷ undos) ∷ xs) (after_records xs p).0 (after_records xs p).1

      go : ((m : th.State) → Undoing th m (running undos ∷ xs) (undo_slots th m (running undos ∷ xs)).0 (undo_slots th m (running undos ∷ xs)).1) → (o : Option (Done th.State Op Answer)) → th.apply s n ≡ o
          → Reached (undo_records th s (n ∷ undos))
      go more None e = let q : undo_records th s (n ∷ undos) ≡ (s, n ∷ undos) = rw (e, undo_records) in subst Reached (sym q) stop
      go more (Some d) e = let q : undo_records th s (n ∷ undos) ≡ undo_records th d.next undos = rw (e, undo_records) in subst Reached (sym q) (undo_record e (more d.next))

  pub undo_steps : (xs : List (Slot Op)) (s : th.State) → Undoing th s xs (undo_slots th s xs).0 (undo_slots th s xs).1
  undo_steps [] s = stop
  undo_steps (committed ∷ xs) s = skip refl (undo_steps xs s)
  undo_steps (undone ∷ xs) s = skip refl (undo_steps xs s)
  undo_steps (running undos ∷ xs) s = record_steps xs (undo_steps xs) undos s
