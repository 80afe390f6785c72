-- The reasons for a refusal by their numbers, and a refusal by its parts.
use Rattle.std.specs.Prelude.{ℕ, List, ◌∷◌, ◌++◌, decimal}
use Rattle.refusal.specs.declared.Reason.{Reason}
use Rattle.refusal.specs.declared.Reason.TheVariants.{Dark, RecoveryDue, OutOfRange, WrongState, LimitReached, Conflict, KeyPresent, KeyAbsent, IndexFull, Damaged, Unreadable, WrongSize}
use Rattle.refusal.specs.declared.Refusal.{Refusal}

-- the number that a script prints for a reason
abbrev pub number : Reason → ℕ
number Dark = 1
number RecoveryDue = 2
number OutOfRange = 3
number WrongState = 4
number LimitReached = 5
number Conflict = 6
number KeyPresent = 7
number KeyAbsent = 8
number IndexFull = 9
number Damaged = 11
number Unreadable = 12
number WrongSize = 13

abbrev pub refusal : Reason → ℕ → ℕ → Refusal
refusal r l p = record { reason = r; layer = l; place = p }

-- a refusal as it prints: the reason's number, the layer and the place in decimal, with a space (byte 32) between them
abbrev pub refusal_text : Refusal → List ℕ
refusal_text r = decimal (number r.reason) ++ (32 ∷ decimal r.layer) ++ (32 ∷ decimal r.place)

-- the one refusal that comes from every layer alike: the disk is dark after the call
abbrev pub darkened : Refusal
darkened = refusal Dark 0 0
