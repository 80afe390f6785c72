-- The law: take any list of begins, operations, commits, aborts, power calls, recoveries and questions of fate, with power going at any write.
-- A manager, new at first and worked by this list alone, is serial after every call, granted or refused.
use Rattle.std.specs.Prelude.{◌≡◌, ℕ, List, [], ◌∷◌, ◌++◌, map, Some, None, Option}
use Rattle.theory.specs.Theory.{Theory}
use Rattle.theory.specs.Slots.{fates}
use Rattle.theory.specs.Machine.{Limits, Reading, View, ready, dark, due, Call, Begin, Perform, Commit, Abort, Power, Recover, Fate, Reply, granted, refused, Gives, fresh, outcome, Steps}
use Rattle.theory.specs.History.{Event, Accepted, History, of_running, history}

-- one list after the other
abbrev pub all_of : {A : Type 0} → List (List A) → List A
all_of [] = []
all_of (x ∷ xs) = x ++ all_of xs

module _ {Op Answer : Type 0} where
  abbrev pub operations : List (Accepted Op Answer) → List Op
  operations = map (λ x. x.op)

  abbrev pub answered : List (Accepted Op Answer) → List Answer
  answered = map (λ x. x.answer)

  -- the operations of all committed transactions, in commit order
  abbrev pub in_commit_order : History Op Answer → List (Accepted Op Answer)
  in_commit_order h = all_of h.committed

abbrev pub behind : {A : Type 0} → A → Option (List A) → Option (List A)
behind a None = None
behind a (Some rest) = Some (a ∷ rest)

module _ {Op Answer : Type 0} (th : Theory Op Answer) where
  -- what operations give from a state, one after the other: the state after the last, or None where one does not apply
  abbrev pub after : th.State → List Op → Option th.State
  after s [] = Some s
  after s (op ∷ ops) = elim (th.apply s op) [ None ↦ None | Some d ↦ after d.next ops ]

  -- how they answer
  abbrev pub answers : th.State → List Op → Option (List Answer)
  answers s [] = Some []
  answers s (op ∷ ops) = elim (th.apply s op) [ None ↦ None | Some d ↦ behind d.answer (answers d.next ops) ]

  -- While the manager is ready, the level's state is what the committed transactions in commit order and then the running ones' accepted
  -- operations in order of acceptance give from the empty state.
  abbrev pub StateIsSerial : History Op Answer → View Op th.State → Type 0
  StateIsSerial h (ready s slots locks) = after th.empty (operations (in_commit_order h) ++ operations (of_running h)) ≡ Some s
  StateIsSerial h (dark r) = Unit {0}
  StateIsSerial h (due r) = Unit {0}

  -- Each accepted operation of a committed transaction was answered as the committed ones, run alone in commit order, answer it.
  abbrev pub AnswersAreSerial : History Op Answer → Type 0
  AnswersAreSerial h = answers th.empty (operations (in_commit_order h)) ≡ Some (answered (in_commit_order h))

  pub record Serial (past : List (Event Op Answer)) (v : View Op th.State) : Type 0 where
    pub state_is_serial : StateIsSerial (history past) v
    pub answers_are_serial : AnswersAreSerial (history past)

  abbrev pub fates_in : View Op th.State → List ℕ
  fates_in (ready s slots locks) = fates slots
  fates_in (dark r) = []
  fates_in (due r) = []

  -- the fates that a granted recover leaves; with another call none are told
  abbrev pub fates_told : (c : Call Op) → Reply (Gives Answer c) → View Op th.State → List ℕ
  fates_told (Begin t) reply v = []
  fates_told (Perform t op) reply v = []
  fates_told (Commit t) reply v = []
  fates_told (Abort t) reply v = []
  fates_told (Power c) reply v = []
  fates_told Recover (granted g) v = fates_in v
  fates_told Recover (refused r) v = []
  fates_told (Fate t) reply v = []

  -- a call that was answered so and left the view v
  abbrev pub event : (c : Call Op) → Reply (Gives Answer c) → View Op th.State → Event Op Answer
  event c reply v = record { call = c; reply = reply; fates = fates_told c reply v }

module _ {Op Answer : Type 0} (th : Theory Op Answer) (lim : Limits Op th.State) where
  -- The view is that of a manager, new at first and worked by these events alone, the newest first.
  pub data Worked : List (Event Op Answer) → View Op th.State → Type 0 where
    new : Worked [] (fresh th lim)
    call : {past : List (Event Op Answer)} {v v' : View Op th.State} {c : Call Op} {reply : Reply (Gives Answer c)} → Worked past v → Steps th lim v c reply v' → Worked (event th c reply v' ∷ past) v'

  -- The law.
  abbrev pub WorkedIsSerial : Type 0
  WorkedIsSerial = (past : List (Event Op Answer)) (v : View Op th.State) → Worked past v → Serial th past v

  -- It speaks of every list of calls, the newest first: each can be worked.
  abbrev pub EveryListIsWorked : Type 0
  EveryListIsWorked = (calls : List (Call Op)) → (past : List (Event Op Answer)) × (v : View Op th.State) × Worked past v × (map (λ e. e.call) past ≡ calls)

  -- The law as one call carries it: the list of events grows by the call with its answer, and is serial with it.
  abbrev pub GoesOn : View Op th.State → (c : Call Op) → Reply (Gives Answer c) → View Op th.State → Type 0
  GoesOn v c reply v' = (past : List (Event Op Answer)) → Worked past v → Worked (event th c reply v' ∷ past) v' × Serial th (event th c reply v' ∷ past) v'

  -- Recovery of such a manager is granted where power holds: it finds no damage, and each undo record applies.
  abbrev pub RecoveryIsGranted : Type 0
  RecoveryIsGranted = (past : List (Event Op Answer)) (r : Reading Op th.State) → Worked past (due r) → (outcome th lim (due r) Recover).reply ≡ granted tt
