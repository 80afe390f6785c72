-- A log of operations, the newest first, that explains a state: what it replays to, and that the operations of some slots can be moved below
-- or above those of the others.
use Rattle.std.proofs.Common.{◌≡◌, ℕ, Bool, true, false, cond, not, eqb, ◌≢◌, ◌⊎◌, List, [], ◌∷◌, ◌++◌, Some, None, filter, Option, sym, refl, ap, ◌∙◌, subst, inl, inr, append-nil}
use Rattle.std.proofs.lemmas.Bool.{true≢false, false≢true, eqb-true, eq-eqb, ne_eqb, not-true}
use Rattle.std.proofs.lemmas.List.Elements.{filter-append}
use Rattle.theory.specs.Theory.{Done, Theory, Takes, Lawful}
use Rattle.theory.specs.Slots.{recorded, undo_records}
use Rattle.theory.specs.History.{Accepted}

-- an accepted operation and its inverse
pub record Entry (Op Answer : Type 0) : Type 0 where
  pub what : Accepted Op Answer
  pub undo : Option Op

abbrev pub In : {A : Type 0} → A → List A → Type 0
In a [] = ⊥
In a (x ∷ xs) = (a ≡ x) ⊎ In a xs

pub in_append : {A : Type 0} (a : A) (xs ys : List A) → In a (xs ++ ys) → In a xs ⊎ In a ys
in_append a [] ys i = inr i
in_append a (x ∷ xs) ys (inl e) = inl (inl e)
in_append a (x ∷ xs) ys (inr i) = elim (in_append a xs ys i) [ inl j ↦ inl (inr j) | inr j ↦ inr j ]

-- by a test's answer, with the equation
pub by_test : (P : Bool → Type 0) (b : Bool) → (b ≡ true → P true) → (b ≡ false → P false) → P b
by_test P true yes' no' = yes' refl
by_test P false yes' no' = no' refl

pub in_kept : {A : Type 0} (p : A → Bool) (a : A) (xs : List A) → In a (filter p xs) → In a xs × (p a ≡ true)
in_kept p a [] i = elim i [ ]
in_kept p a (x ∷ xs) i =
    by_test (λ b. In a (cond b (x ∷ filter p xs) (filter p xs)) → ((a ≡ x) ⊎ In a xs) × (p a ≡ true)) (p x)
    (λ e j. elim j [ inl q ↦ (inl q, ap p q ∙ e) | inr k ↦ let r = in_kept p a xs k in (inr r.0, r.1) ])
    (λ e j. let r = in_kept p a xs j in (inr r.0, r.1))
    i

-- where r keeps only what p keeps
pub kept_within : {A : Type 0} (p r : A → Bool) (xs : List A) → ((x : A) → r x ≡ true → p x ≡ true) → filter r (filter p xs) ≡ filter r xs
kept_within p r [] h = refl
kept_within {A} p r (x ∷ xs) h =
    by_test (λ b. filter r (cond b (x ∷ filter p xs) (filter p xs)) ≡ filter r (x ∷ xs)) (p x)
    (λ e. ap (λ l. cond (r x) (x ∷ l) l) (kept_within p r xs h))
    (λ e. kept_within p r xs h ∙ sym (shut (r x) (λ f. e' e f)))
  where
    e' : p x ≡ false → r x ≡ true → ⊥
    e' e f = true≢false (sym (h x f) ∙ e)

    shut : (b : Bool) → (b ≡ true → ⊥) → cond b (x ∷ filter r xs) (filter r xs) ≡ filter r xs
    shut true k = absurd (k refl)
    shut false k = refl

pub kept_none : {A : Type 0} (p r : A → Bool) (xs : List A) → ((x : A) → p x ≡ true → r x ≡ false) → filter r (filter p xs) ≡ []
kept_none p r [] h = refl
kept_none {A} p r (x ∷ xs) h =
    by_test (λ b. filter r (cond b (x ∷ filter p xs) (filter p xs)) ≡ []) (p x)
    (λ e. rw (h x e) (kept_none p r xs h))
    (λ e. kept_none p r xs h)

module _ {Op Answer : Type 0} where
  abbrev pub mine : ℕ → List (Entry Op Answer) → List (Entry Op Answer)
  mine t = filter (λ e. eqb e.what.slot t)

  abbrev pub others : ℕ → List (Entry Op Answer) → List (Entry Op Answer)
  others t = filter (λ e. not (eqb e.what.slot t))

  abbrev pub all_undos : List (Entry Op Answer) → List Op
  all_undos [] = []
  all_undos (e ∷ log) = recorded e.undo (all_undos log)

  -- the operations in order of acceptance
  abbrev pub plain : List (Entry Op Answer) → List (Accepted Op Answer)
  plain [] = []
  plain (e ∷ log) = plain log ++ (e.what ∷ [])

  -- without the newest entry that has an inverse, and what stands above it
  abbrev pub popped : List (Entry Op Answer) → List (Entry Op Answer)
  popped [] = []
  popped (e ∷ log) = elim e.undo [ None ↦ popped log | Some n ↦ log ]

  pub kept_plain : (p : Accepted Op Answer → Bool) (log : List (Entry Op Answer)) → filter p (plain log) ≡ plain (filter (λ e. p e.what) log)
  kept_plain p [] = refl
  kept_plain p (e ∷ log) = filter-append p (plain log) (e.what ∷ []) ∙ ap (λ l. l ++ filter p (e.what ∷ [])) (kept_plain p log) ∙ last (p e.what)
    where
      last : (b : Bool) → plain (filter (λ x. p x.what) log) ++ cond b (e.what ∷ []) [] ≡ plain (cond b (e ∷ filter (λ x. p x.what) log) (filter (λ x. p x.what) log))
      last true = refl
      last false = mathlib.Core.List.append-nil (plain (filter (λ x. p x.what) log))

  pub mine_others : (u t : ℕ) (log : List (Entry Op Answer)) → u ≢ t → mine u (others t log) ≡ mine u log
  mine_others u t log h = kept_within (λ e. not (eqb e.what.slot t)) (λ e. eqb e.what.slot u) log (λ e q. ap not (ne_eqb e.what.slot t (λ k. h (sym (eqb-true e.what.slot u q) ∙ k))))

  pub own_others : (t : ℕ) (log : List (Entry Op Answer)) → mine t (others t log) ≡ []
  own_others t log = kept_none (λ e. not (eqb e.what.slot t)) (λ e. eqb e.what.slot t) log (λ e q. not-true _ q)

  -- what is all of slot t
  abbrev pub Own : ℕ → List (Entry Op Answer) → Type 0
  Own t [] = Unit {0}
  Own t (e ∷ log) = (e.what.slot ≡ t) × Own t log

  pub own_mine : (t : ℕ) (log : List (Entry Op Answer)) → Own t (mine t log)
  own_mine t [] = tt
  own_mine t (e ∷ log) = by_test (λ b. Own t (cond b (e ∷ mine t log) (mine t log))) (eqb e.what.slot t) (λ q. (eqb-true e.what.slot t q, own_mine t log)) (λ q. own_mine t log)

  pub own_popped : (t : ℕ) (log : List (Entry Op Answer)) → Own t log → Own t (popped log)
  own_popped t [] o = tt
  own_popped t (e ∷ log) o = elim e.undo as (λ u. Own t (elim u [ None ↦ popped log | Some n ↦ log ])) [ None ↦ own_popped t log o.1 | Some n ↦ o.1 ]

  pub mine_own : (t : ℕ) (log : List (Entry Op Answer)) → Own t log → mine t log ≡ log
  mine_own t [] o = refl
  mine_own t (e ∷ log) o = rw (eq-eqb e.what.slot t o.0) (ap (λ l. e ∷ l) (mine_own t log o.1))

  pub mine_foreign : (u t : ℕ) (log : List (Entry Op Answer)) → u ≢ t → Own t log → mine u log ≡ []
  mine_foreign u t [] h o = refl
  mine_foreign u t (e ∷ log) h o = rw (ne_eqb e.what.slot u (λ k. h (sym k ∙ o.0))) (mine_foreign u t log h o.1)

  pub in_popped : (e : Entry Op Answer) (log : List (Entry Op Answer)) → In e (popped log) → In e log
  in_popped e [] i = i
  in_popped e (x ∷ log) i = (elim x.undo as (λ u. In e (elim u [ None ↦ popped log | Some n ↦ log ]) → (e ≡ x) ⊎ In e log) [ None ↦ λ j. inr (in_popped e log j) | Some n ↦ λ j. inr j ]) i

  pub nothing_left : (log : List (Entry Op Answer)) → ((u : ℕ) → mine u log ≡ []) → log ≡ []
  nothing_left [] h = refl
  nothing_left (e ∷ log) h = absurd (mathlib.Core.List.cons-ne-nil e (mine e.what.slot log) (rw (eq-eqb e.what.slot e.what.slot refl) at (h e.what.slot)))

module _ {Op Answer : Type 0} (th : Theory Op Answer) where
  -- from b the log leads to s, with the answers and inverses of its entries
  abbrev pub Replays : th.State → List (Entry Op Answer) → th.State → Type 0
  Replays b [] s = b ≡ s
  Replays b (e ∷ log) s = (m : th.State) × Replays b log m × Takes th m e.what.op s e.what.answer e.undo

  pub replays_append : (b m s : th.State) (low high : List (Entry Op Answer)) → Replays b low m → Replays m high s → Replays b (high ++ low) s
  replays_append b m s low [] r e = subst (λ x. Replays b low x) e r
  replays_append b m s low (e ∷ high) r k = (k.0, replays_append b m k.0 low high r k.1, k.2)

  -- entries of different slots do not conflict
  abbrev pub Apart : List (Entry Op Answer) → Type 0
  Apart log = (e f : Entry Op Answer) → In e log → In f log → e.what.slot ≢ f.what.slot → th.conflict (th.lock e.what.op) (th.lock f.what.op) ≡ false

  pub takes_once : (s m n : th.State) (op : Op) (a b : Answer) (u w : Option Op) → Takes th s op m a u → Takes th s op n b w → m ≡ n
  takes_once s m n op a b u w p q = ap (next_or m) (sym p ∙ q)
    where
      next_or : th.State → Option (Done th.State Op Answer) → th.State
      next_or x None = x
      next_or x (Some d) = d.next

  module _ (law : Lawful th) where
    pub good_replays : (b s : th.State) (log : List (Entry Op Answer)) → law.Good b → Replays b log s → law.Good s
    good_replays b s [] g e = subst law.Good e g
    good_replays b s (e ∷ log) g r = law.good_next (good_replays b r.0 log g r.1) r.2

    -- an operation moved below a log that it does not conflict with
    sink : (b m s : th.State) (e : Entry Op Answer) (log : List (Entry Op Answer)) → law.Good b → Replays b log m → Takes th m e.what.op s e.what.answer e.undo
        → ((f : Entry Op Answer) → In f log → th.conflict (th.lock f.what.op) (th.lock e.what.op) ≡ false)
        → (n : th.State) × Takes th b e.what.op n e.what.answer e.undo × Replays n log s
    sink b m s e [] g r k free = (s, subst (λ x. Takes th x e.what.op s e.what.answer e.undo) (sym r) k, refl)
    sink b m s e (f ∷ log) g r k free =
        let c = law.commute (good_replays b r.0 log g r.1) (free f (inl refl)) r.2 k in
        let i = sink b r.0 c.0 e log g r.1 c.1 (λ x j. free x (inr j)) in
        (i.0, i.1, (c.0, i.2, c.2))

    -- What p keeps can be moved below the rest.
    pub partition : (b s : th.State) (p q : Entry Op Answer → Bool) (log : List (Entry Op Answer)) → law.Good b → ((e : Entry Op Answer) → q e ≡ not (p e))
        → ((e f : Entry Op Answer) → In e log → In f log → p e ≡ true → q f ≡ true → th.conflict (th.lock f.what.op) (th.lock e.what.op) ≡ false)
        → Replays b log s → (m : th.State) × Replays b (filter p log) m × Replays m (filter q log) s
    partition b s p q [] g both free r = (b, refl, r)
    partition b s p q (e ∷ log) g both free r = go (partition b r.0 p q log g both (λ x y j k. free x y (inr j) (inr k)) r.1) (p e) (q e) refl refl (both e)
      where
        go : (m : th.State) × Replays b (filter p log) m × Replays m (filter q log) r.0 → (v w : Bool) → p e ≡ v → q e ≡ w → w ≡ not v
            → (m : th.State) × Replays b (cond v (e ∷ filter p log) (filter p log)) m × Replays m (cond w (e ∷ filter q log) (filter q log)) s
        go i true true pe qe h = absurd (true≢false h)
        go i true false pe qe h =
            let k = sink i.0 r.0 s e (filter q log) (good_replays b i.0 (filter p log) g i.1) i.2 r.2 (λ f j. let w = in_kept q f log j in free e f (inl refl) (inr w.0) pe w.1) in
            (k.0, (i.0, i.1, k.1), k.2)
        go i false true pe qe h = (i.0, i.1, (r.0, i.2, r.2))
        go i false false pe qe h = absurd (false≢true h)

    -- A slot's operations on top are undone by their inverses.
    pub records_undo : (m s : th.State) (log : List (Entry Op Answer)) → law.Good m → Replays m log s → undo_records th s (all_undos log) ≡ (m, [])
    records_undo m s [] g r = ap (λ x. (x, [])) (sym r)
    records_undo m s (e ∷ log) g r = go (records_undo m r.0 log g r.1) e.undo r.2
      where
        go : undo_records th r.0 (all_undos log) ≡ (m, []) → (u : Option Op) → Takes th r.0 e.what.op s e.what.answer u → undo_records th s (recorded u (all_undos log)) ≡ (m, [])
        go i None k = rw (law.reads (good_replays m r.0 log g r.1) k) i
        go i (Some n) k = rw (law.inverse (good_replays m r.0 log g r.1) k).2 i

    pub record_undoes : (b m s : th.State) (n : Op) (undos : List Op) (a : Answer) (u : Option Op) (log : List (Entry Op Answer)) → law.Good b → Replays b log s → n ∷ undos ≡ all_undos log → Takes th s n m a u
        → Replays b (popped log) m × (undos ≡ all_undos (popped log))
    record_undoes b m s n undos a u [] g r e k = absurd (mathlib.Core.List.cons-ne-nil n undos e)
    record_undoes b m s n undos a u (x ∷ log) g r e k = go (λ f l. record_undoes b m r.0 n undos a u log g r.1 f l) x.undo r.2 e
      where
        go : (n ∷ undos ≡ all_undos log → Takes th r.0 n m a u → Replays b (popped log) m × (undos ≡ all_undos (popped log)))
            → (w : Option Op) → Takes th r.0 x.what.op s x.what.answer w → n ∷ undos ≡ recorded w (all_undos log)
            → Replays b (elim w [ None ↦ popped log | Some y ↦ log ]) m × (undos ≡ all_undos (elim w [ None ↦ popped log | Some y ↦ log ]))
        go i None h f = i f (rw (law.reads (good_replays b r.0 log g r.1) h) at k)
        go i (Some y) h f =
            let v = law.inverse (good_replays b r.0 log g r.1) h in
            let same : y ≡ n = cc in
            let undoes' : Takes th s n r.0 v.0 v.1 = subst (λ z. Takes th s z r.0 v.0 v.1) same v.2 in
            (subst (λ z. Replays b log z) (takes_once s r.0 m n v.0 a v.1 u undoes' k) r.1, cc)
