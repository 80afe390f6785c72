-- What holds between the history and the manager after every call, and that the law follows from it.
use Rattle.std.proofs.Common.{◌≡◌, ℕ, Bool, true, false, cond, eqb, List, [], ◌∷◌, ◌++◌, length, get_or, Some, filter, sym, refl, ap, ◌∙◌, subst, inl, inr}
use lib.ListN.{length-replicate}
use Rattle.std.proofs.lemmas.Bool.{false≢true, eqb-false}
use Rattle.theory.specs.Theory.{Lock, Theory, Lawful}
use Rattle.theory.specs.Slots.{Slot, slot_at, is_running, fates, committed}
use Rattle.theory.specs.Machine.{Limits, Reading, View, Call, Gives, Outcome, fresh, damaged, intact, ready, dark, due}
use Rattle.theory.specs.History.{Event, History, has, empty_history, of_slots, of_running, resolve, enter, history}
use Rattle.theory.specs.Serial.{all_of, operations, after, AnswersAreSerial, Serial, fates_told}
use Rattle.theory.proofs.Log.{Entry, In, by_test, mine, plain, kept_plain}
use Rattle.theory.proofs.Explains.{replicate_default, is_committed, idle_free, Explains}
use Rattle.theory.proofs.Runs.{operations_append, Runs, runs_append, runs_front, replays_runs, runs_after, runs_answers}
use Rattle.theory.proofs.Resolve.{resolve_extends}
use Rattle.theory.proofs.Checks.{locks_of}

kept_all : {A : Type 0} (p : A → Bool) (xs : List A) → ((x : A) → In x xs → p x ≡ true) → filter p xs ≡ xs
kept_all p [] h = refl
kept_all p (x ∷ xs) h = rw (h x (inl refl)) (ap (λ l. x ∷ l) (kept_all p xs (λ y i. h y (inr i))))

in_mine : {Op Answer : Type 0} (e : Entry Op Answer) (log : List (Entry Op Answer)) → In e log → In e (mine e.what.slot log)
in_mine e (x ∷ log) i =
    by_test (λ v. In e (cond v (x ∷ mine e.what.slot log) (mine e.what.slot log))) (eqb x.what.slot e.what.slot)
    (λ q. elim i [ inl k ↦ inl k | inr k ↦ inr (in_mine e log k) ])
    (λ q. elim i [ inl k ↦ absurd (eqb-false x.what.slot e.what.slot q (ap (λ z. z.what.slot) (sym k))) | inr k ↦ in_mine e log k ])
in_mine e [] i = elim i [ ]

module _ {Op Answer : Type 0} where
  -- after power, what is left in the history is in doubt
  abbrev pub OnlyDoubted : History Op Answer → Type 0
  OnlyDoubted hist = (hist.running ≡ []) × (of_slots hist.in_doubt hist.accepted ≡ hist.accepted)

module _ {Op Answer : Type 0} (th : Theory Op Answer) (lim : Limits Op th.State) (law : Lawful th) where
  pub record Ready (hist : History Op Answer) (s : th.State) (slots : List (Slot Op)) (locks : List (List Lock)) : Type 0 where
    pub base : th.State
    pub log : List (Entry Op Answer)
    pub runs : Runs th th.empty (all_of hist.committed) base
    pub explains : Explains th law base log s slots
    pub accepted : hist.accepted ≡ plain log
    pub running : (u : ℕ) → has u hist.running ≡ is_running (slot_at slots u)
    pub no_doubt : hist.in_doubt ≡ []
    pub locked : (u : ℕ) → get_or locks u [] ≡ locks_of th (mine u log)
    pub size : length slots ≡ lim.slots
    pub room : length locks ≡ lim.slots

  -- Dark or due: the state is that of the history as resolving by the present slots would leave it, and then a log of the slots that run.
  pub record Away (hist : History Op Answer) (s : th.State) (slots : List (Slot Op)) : Type 0 where
    pub base : th.State
    pub log : List (Entry Op Answer)
    pub runs : Runs th th.empty (all_of (resolve (fates slots) hist.in_doubt hist).committed) base
    pub explains : Explains th law base log s slots
    pub unclosed : (u : ℕ) → has u hist.running ≡ true → is_committed (slot_at slots u) ≡ false
    pub size : length slots ≡ lim.slots

  abbrev pub AwayReading : History Op Answer → Reading Op th.State → Type 0
  AwayReading hist (damaged layer place) = ⊥
  AwayReading hist (intact s slots) = Away hist s slots

  abbrev pub Invariant : History Op Answer → View Op th.State → Type 0
  Invariant hist (ready s slots locks) = Ready hist s slots locks
  Invariant hist (dark r) = AwayReading hist r
  Invariant hist (due r) = AwayReading hist r × OnlyDoubted hist

  -- the invariant after a call with this outcome
  abbrev pub Kept : History Op Answer → (c : Call Op) → Outcome Op th.State (Gives Answer c) → Type 0
  Kept hist c o = Invariant (enter c o.reply (fates_told th c o.reply o.view) hist) o.view

  -- what the law says of the answers, from this
  serial_away : (hist : History Op Answer) (s : th.State) (slots : List (Slot Op)) → Away hist s slots → AnswersAreSerial th hist
  serial_away hist s slots a =
      let e = resolve_extends slots hist.in_doubt hist in
      let f = runs_front th th.empty a.base (all_of hist.committed) e.0 (subst (λ l. Runs th th.empty l a.base) e.1 a.runs) in
      runs_answers th th.empty f.0 (all_of hist.committed) f.1

  -- while ready, all accepted operations that are not committed are those of running transactions
  running_all : (hist : History Op Answer) (s : th.State) (slots : List (Slot Op)) (locks : List (List Lock)) (h : Ready hist s slots locks) → of_running hist ≡ plain h.log
  running_all hist s slots locks h =
      ap (of_slots hist.running) h.accepted ∙ kept_plain (λ x. has x.slot hist.running) h.log
      ∙ ap plain (kept_all (λ e. has e.what.slot hist.running) h.log (λ e i. runs_on e i (has e.what.slot hist.running) (h.running e.what.slot)))
    where
      runs_on : (e : Entry Op Answer) → In e h.log → (v : Bool) → v ≡ is_running (slot_at slots e.what.slot) → v ≡ true
      runs_on e i true q = refl
      runs_on e i false q =
          let t = e.what.slot in
          absurd (subst (λ l. In e l) (idle_free (mine t h.log) (slot_at slots t) (sym q) (h.explains.matches t)) (in_mine e h.log i))

  pub serial : (past : List (Event Op Answer)) (v : View Op th.State) → Invariant (history past) v → Serial th past v
  serial past (ready s slots locks) h = record {
    state_is_serial = subst (λ l. after th th.empty l ≡ Some s) (operations_append (all_of (history past).committed) (of_running (history past)))
        (subst (λ l. after th th.empty (operations (all_of (history past).committed ++ l)) ≡ Some s) (sym (running_all (history past) s slots locks h))
        (runs_after th th.empty s (all_of (history past).committed ++ plain h.log) (runs_append th th.empty h.base s (all_of (history past).committed) (plain h.log) h.runs (replays_runs th h.base s h.log h.explains.replays))));
    answers_are_serial = runs_answers th th.empty h.base (all_of (history past).committed) h.runs;
  }
  serial past (dark (damaged layer place)) h = elim h [ ]
  serial past (dark (intact s slots)) h = record { state_is_serial = tt; answers_are_serial = serial_away (history past) s slots h }
  serial past (due (damaged layer place)) h = elim h.0 [ ]
  serial past (due (intact s slots)) h = record { state_is_serial = tt; answers_are_serial = serial_away (history past) s slots h.0 }

  pub at_first : Invariant empty_history (fresh th lim)
  at_first = (
    record {
      base = th.empty;
      log = [];
      runs = refl;
      explains = record { good = law.good_empty; replays = refl; apart = λ e f i j n. elim i [ ]; matches = λ t. rw (replicate_default {A = Slot Op} lim.slots t committed) refl };
      unclosed = λ u h. absurd (false≢true h);
      size = length-replicate lim.slots committed;
    },
    (refl, refl),
  )
