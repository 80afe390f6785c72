-- The history: which transactions committed, in which order, and which run, by calls and answers alone.
use Rattle.std.specs.Prelude.{ℕ, Bool, false, cond, not, ◌||◌, List, [], ◌∷◌, ◌++◌, filter, ◌==◌, nat_eq, slice_index_or}
use Rattle.theory.specs.Slots.{fate_committed}
use Rattle.theory.specs.Machine.{Call, Begin, Perform, Commit, Abort, Power, Recover, Fate, Reply, granted, refused, Gives, is_dark}

-- A call with its answer and, if it is a granted recover, the fates that it leaves.
pub record Event (Op Answer : Type 0) : Type 0 where
  pub call : Call Op
  pub reply : Reply (Gives Answer call)
  pub fates : List ℕ

-- An accepted operation with the slot of its transaction and its answer.
pub record Accepted (Op Answer : Type 0) : Type 0 where
  pub slot : ℕ
  pub op : Op
  pub answer : Answer

pub record History (Op Answer : Type 0) : Type 0 where
  -- the committed transactions in commit order, each by its operations in order of acceptance
  pub committed : List (List (Accepted Op Answer))
  -- the slots of the running transactions
  pub running : List ℕ
  -- the slots of those whose commit was refused as dark, in the order of these refusals
  pub in_doubt : List ℕ
  -- the operations of the running transactions and of those in doubt, in order of acceptance
  pub accepted : List (Accepted Op Answer)

abbrev pub has : ℕ → List ℕ → Bool
has t [] = false
has t (x ∷ xs) = t == x || has t xs

abbrev pub without : ℕ → List ℕ → List ℕ
without t = filter (λ x. not (x == t))

module _ {Op Answer : Type 0} where
  abbrev pub empty_history : History Op Answer
  empty_history = record { committed = []; running = []; in_doubt = []; accepted = [] }

  -- the operations of slot t, and those of the others
  abbrev pub of_slot : ℕ → List (Accepted Op Answer) → List (Accepted Op Answer)
  of_slot t = filter (λ x. nat_eq x.slot t)

  abbrev pub of_others : ℕ → List (Accepted Op Answer) → List (Accepted Op Answer)
  of_others t = filter (λ x. not (x.slot == t))

  -- the operations of the slots ts
  abbrev pub of_slots : List ℕ → List (Accepted Op Answer) → List (Accepted Op Answer)
  of_slots ts = filter (λ x. has x.slot ts)

  -- the operations of the running transactions, in order of acceptance
  abbrev pub of_running : History Op Answer → List (Accepted Op Answer)
  of_running h = of_slots h.running h.accepted

  abbrev pub start : ℕ → History Op Answer → History Op Answer
  start t h = record { committed = h.committed; running = h.running ++ (t ∷ []); in_doubt = h.in_doubt; accepted = h.accepted }

  abbrev pub accept : ℕ → Op → Answer → History Op Answer → History Op Answer
  accept t op a h = record { committed = h.committed; running = h.running; in_doubt = h.in_doubt; accepted = h.accepted ++ (record { slot = t; op = op; answer = a } ∷ []) }

  abbrev pub discard : ℕ → History Op Answer → History Op Answer
  discard t h = record { committed = h.committed; running = without t h.running; in_doubt = h.in_doubt; accepted = of_others t h.accepted }

  abbrev pub commit_last : ℕ → History Op Answer → History Op Answer
  commit_last t h = record { committed = h.committed ++ (of_slot t h.accepted ∷ []); running = without t h.running; in_doubt = h.in_doubt; accepted = of_others t h.accepted }

  -- a commit that was refused as dark, which counts only for a running transaction
  abbrev pub doubt : ℕ → History Op Answer → History Op Answer
  doubt t h = cond (has t h.running) (record { committed = h.committed; running = without t h.running; in_doubt = h.in_doubt ++ (t ∷ []); accepted = h.accepted }) h

  -- power ends the running ones, save those in doubt
  abbrev pub discard_running : History Op Answer → History Op Answer
  discard_running h = record { committed = h.committed; running = []; in_doubt = h.in_doubt; accepted = of_slots h.in_doubt h.accepted }

  -- recovery resolves those in doubt by their fates, one after the other: a committed one comes last, another is discarded
  abbrev pub resolve : List ℕ → List ℕ → History Op Answer → History Op Answer
  resolve fates [] h = record { committed = h.committed; running = h.running; in_doubt = []; accepted = h.accepted }
  resolve fates (t ∷ ts) h = resolve fates ts (cond (slice_index_or fates t fate_committed == fate_committed) (commit_last t h) (discard t h))

  -- the history with one call more, its answer, and the fates told with it
  abbrev pub enter : (c : Call Op) → Reply (Gives Answer c) → List ℕ → History Op Answer → History Op Answer
  enter (Begin t) (granted g) fates h = start t h
  enter (Begin t) (refused r) fates h = h
  enter (Perform t op) (granted a) fates h = accept t op a h
  enter (Perform t op) (refused r) fates h = h
  enter (Commit t) (granted g) fates h = commit_last t h
  enter (Commit t) (refused r) fates h = cond (is_dark r.reason) (doubt t h) h
  enter (Abort t) (granted g) fates h = discard t h
  enter (Abort t) (refused r) fates h = h
  enter (Power c) (granted g) fates h = discard_running h
  enter (Power c) (refused r) fates h = h
  enter Recover (granted g) fates h = resolve fates h.in_doubt h
  enter Recover (refused r) fates h = h
  enter (Fate t) (granted n) fates h = h
  enter (Fate t) (refused r) fates h = h

  -- The history of a list of events, the newest first.
  abbrev pub history : List (Event Op Answer) → History Op Answer
  history [] = empty_history
  history (e ∷ past) = enter e.call e.reply e.fates (history past)
