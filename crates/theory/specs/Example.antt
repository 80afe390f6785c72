-- Two computed runs of the counter's manager in which power goes, each a run of the machine, with its history. Events are written oldest first.
use Rattle.std.specs.Prelude.{◌≡◌, ℕ, List, [], ◌∷◌}
use Rattle.refusal.specs.declared.Reason.{Reason}
use Rattle.refusal.specs.declared.Reason.TheVariants.{RecoveryDue, OutOfRange, WrongState, LimitReached, Conflict}
use Rattle.refusal.specs.declared.Refusal.{Refusal}
use Rattle.refusal.specs.Refusals.{refusal, darkened}
use Rattle.theory.specs.Theory.{Lock}
use Rattle.theory.specs.Slots.{Slot, committed, undone, running}
use Rattle.theory.specs.Machine.{View, ready, Call, Begin, Perform, Commit, Abort, Power, Recover, Fate, Reply, granted, refused, Gives}
use Rattle.theory.specs.History.{Event, Accepted, history}
use Rattle.theory.specs.Serial.{Worked, Serial}
use Rattle.theory.specs.Counter.{counter_theory, counter_limits}
use Rattle.theory.specs.declared.CounterOp.{CounterOp}
use Rattle.theory.specs.declared.CounterOp.TheVariants.{Add, Read}

abbrev reversed_onto : List (Event CounterOp ℕ) → List (Event CounterOp ℕ) → List (Event CounterOp ℕ)
reversed_onto later [] = later
reversed_onto later (e ∷ past) = reversed_onto (e ∷ later) past

abbrev newest_first : List (Event CounterOp ℕ) → List (Event CounterOp ℕ)
newest_first = reversed_onto []

abbrev seen : (c : Call CounterOp) → Reply (Gives ℕ c) → List ℕ → Event CounterOp ℕ
seen c reply fates = record { call = c; reply = reply; fates = fates }

abbrev plain : (c : Call CounterOp) → Reply (Gives ℕ c) → Event CounterOp ℕ
plain c reply = seen c reply []

-- the manager's layer is 3
abbrev by_3 : Reason → ℕ → Refusal
by_3 reason place = refusal reason 3 place

abbrev accepted : ℕ → CounterOp → ℕ → Accepted CounterOp ℕ
accepted t op a = record { slot = t; op = op; answer = a }

-- Slot 1 may not read what slot 0 has added to. Slot 0's commit is cut after its group was done, and slot 1's commit comes when the disk is dark.
-- Recovery is cut once, after slot 1's undo record was applied. Then slot 1 works again.
abbrev pub cut_commit : List (Event CounterOp ℕ)
cut_commit = newest_first (
    plain (Begin 0) (refused (by_3 RecoveryDue 0))
    ∷ seen Recover (granted tt) (0 ∷ 0 ∷ [])
    ∷ plain (Begin 0) (granted tt)
    ∷ plain (Begin 1) (granted tt)
    ∷ plain (Perform 0 (Add 5)) (granted 0)
    ∷ plain (Perform 1 (Add 7)) (granted 0)
    ∷ plain (Perform 1 Read) (refused (by_3 Conflict 0))
    ∷ plain (Commit 0) (refused darkened)
    ∷ plain (Commit 1) (refused darkened)
    ∷ plain (Power 9) (granted tt)
    ∷ plain Recover (refused darkened)
    ∷ plain (Power 9) (granted tt)
    ∷ seen Recover (granted tt) (0 ∷ 1 ∷ [])
    ∷ plain (Fate 1) (granted 1)
    ∷ plain (Begin 1) (granted tt)
    ∷ plain (Perform 1 (Add 1)) (granted 0)
    ∷ plain (Perform 1 Read) (granted 6)
    ∷ plain (Perform 1 (Add 4294967295)) (granted 0)
    ∷ plain (Perform 1 Read) (granted 5)
    ∷ []
    )

abbrev adds : Lock
adds = record { kind = 4; number = 0 }

abbrev reads : Lock
reads = record { kind = 5; number = 0 }

abbrev pub cut_commit_view : View CounterOp ℕ
cut_commit_view = ready 5 (committed ∷ running (Add 1 ∷ Add 4294967295 ∷ []) ∷ []) ([] ∷ (reads ∷ adds ∷ reads ∷ adds ∷ []) ∷ [])

-- The history has slot 0's transaction committed and slot 1's first one discarded, and the law leaves no state but 5.
abbrev pub CutCommitIsCovered : Type 0
CutCommitIsCovered =
    Worked counter_theory counter_limits cut_commit cut_commit_view
    × ((history cut_commit).committed ≡ (accepted 0 (Add 5) 0 ∷ []) ∷ [])
    × ((s : ℕ) (slots : List (Slot CounterOp)) (locks : List (List Lock)) → Serial counter_theory cut_commit (ready s slots locks) → s ≡ 5)

-- An operation is cut after its group was done, its transaction's commit is called twice on the dark disk, power comes twice, and recovery is cut
-- twice; a begin is cut after it was done; an abort is cut after its close; then four reads fill slot 0, a fifth operation is refused, and it commits.
abbrev pub cut_again : List (Event CounterOp ℕ)
cut_again = newest_first (
    seen Recover (granted tt) (0 ∷ 0 ∷ [])
    ∷ plain (Begin 0) (granted tt)
    ∷ plain (Perform 0 (Add 3)) (granted 0)
    ∷ plain (Perform 0 (Add 4)) (refused darkened)
    ∷ plain (Commit 0) (refused darkened)
    ∷ plain (Commit 0) (refused darkened)
    ∷ plain (Power 2) (granted tt)
    ∷ plain (Power 3) (granted tt)
    ∷ plain Recover (refused darkened)
    ∷ plain (Power 9) (granted tt)
    ∷ plain Recover (refused darkened)
    ∷ plain (Power 9) (granted tt)
    ∷ seen Recover (granted tt) (1 ∷ 0 ∷ [])
    ∷ plain (Begin 2) (refused (by_3 OutOfRange 2))
    ∷ plain (Begin 1) (refused darkened)
    ∷ plain (Power 9) (granted tt)
    ∷ seen Recover (granted tt) (1 ∷ 1 ∷ [])
    ∷ plain Recover (refused (by_3 WrongState 0))
    ∷ plain (Commit 1) (refused (by_3 WrongState 1))
    ∷ plain (Begin 0) (granted tt)
    ∷ plain (Perform 0 (Add 9)) (granted 0)
    ∷ plain (Abort 0) (refused darkened)
    ∷ plain (Fate 0) (refused darkened)
    ∷ plain (Power 0) (granted tt)
    ∷ seen Recover (granted tt) (1 ∷ 1 ∷ [])
    ∷ plain (Begin 0) (granted tt)
    ∷ plain (Perform 0 Read) (granted 0)
    ∷ plain (Perform 0 Read) (granted 0)
    ∷ plain (Perform 0 Read) (granted 0)
    ∷ plain (Perform 0 Read) (granted 0)
    ∷ plain (Perform 0 (Add 1)) (refused (by_3 LimitReached 0))
    ∷ plain (Commit 0) (granted tt)
    ∷ []
    )

abbrev pub CutAgainIsCovered : Type 0
CutAgainIsCovered =
    Worked counter_theory counter_limits cut_again (ready 0 (committed ∷ undone ∷ []) ([] ∷ [] ∷ []))
    × ((history cut_again).committed ≡ (accepted 0 Read 0 ∷ accepted 0 Read 0 ∷ accepted 0 Read 0 ∷ accepted 0 Read 0 ∷ []) ∷ [])
