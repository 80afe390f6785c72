-- The tally level, its limits left out: counters modulo 2^32, with add and read.
use Rattle.std.specs.Prelude.{◌≡◌, ℕ, ◌+◌, ◌-◌, ◌*◌, ◌%◌, ◌^◌, Bool, true, false, ◌&&◌, ◌||◌, List, replicate, Some, None, Option, ◌==◌, nat_le, slice_index, slice_set}
use Rattle.number.specs.declared.Kind.TheVariants as kind
use Rattle.number.specs.Codes.{kind_number}
use Rattle.theory.specs.Theory.{Lock, Done, Theory}
use Rattle.theory.specs.Machine.{Limits, absent}
use Rattle.theory.specs.Serial.{WorkedIsSerial, RecoveryIsGranted}
use Rattle.tally.specs.declared.TallyOp.{TallyOp}
use Rattle.tally.specs.declared.TallyOp.TheVariants.{Add, Read}
use Rattle.tally.specs.declared.TallyAnswer.{TallyAnswer}
use Rattle.tally.specs.declared.TallyAnswer.TheVariants.{Added, Value}

-- the amount that takes n back
abbrev pub inverse_amount : ℕ → ℕ
inverse_amount n = (2 ^ 32 - n % 2 ^ 32) % 2 ^ 32

-- Counter c with n added to it. A counter beyond the last reads 0 and stays, since range checks are limits.
abbrev pub counted : List ℕ → ℕ → ℕ → List ℕ
counted s c n = slice_set s c ((slice_index s c + n) % 2 ^ 32)

abbrev pub tally_apply : List ℕ → TallyOp → Option (Done (List ℕ) TallyOp TallyAnswer)
tally_apply s (Add c n) = Some (record { next = counted s c n; answer = Added; undo = Some (Add c (inverse_amount n)) })
tally_apply s (Read c) = Some (record { next = s; answer = Value (slice_index s c); undo = None })

abbrev pub add_lock : ℕ → Lock
add_lock c = record { kind = kind_number kind.Add; number = c }

abbrev pub read_lock : ℕ → Lock
read_lock c = record { kind = kind_number kind.Read; number = c }

abbrev pub tally_lock : TallyOp → Lock
tally_lock (Add c n) = add_lock c
tally_lock (Read c) = read_lock c

-- The level under any table of conflicts.
abbrev pub tally_theory : (Lock → Lock → Bool) → Theory TallyOp TallyAnswer
tally_theory conflict = record {
  State = List ℕ;
  empty = replicate 32 0;
  apply = tally_apply;
  lock = tally_lock;
  conflict = conflict;
}

-- What the laws ask of the table: it is symmetric, and has an add in conflict with a read of the same counter.
abbrev pub Symmetric : (Lock → Lock → Bool) → Type 0
Symmetric conflict = (x y : Lock) → conflict x y ≡ conflict y x

abbrev pub Marks : (Lock → Lock → Bool) → Type 0
Marks conflict = (c : ℕ) → conflict (add_lock c) (read_lock c) ≡ true

-- The rows of the table that concern the tally level: an add and a read of one counter.
abbrev pub add_with_read : Lock → Lock → Bool
add_with_read x y = x.kind == kind_number kind.Add && y.kind == kind_number kind.Read

abbrev pub tally_conflict : Lock → Lock → Bool
tally_conflict x y = x.number == y.number && (add_with_read x y || add_with_read y x)

-- The limits, at the layer that the level has in its stack.
abbrev pub beyond_last : TallyOp → Bool
beyond_last op = nat_le 32 (tally_lock op).number

abbrev pub tally_limits : ℕ → Limits TallyOp (List ℕ)
tally_limits layer = record {
  layer = layer;
  slots = 8;
  room = 16;
  beyond = beyond_last;
  -- every operation applies, and the level is never full
  unfit = λ op. absent;
  full = λ s slots op. false;
  capacity = 0;
  record_place = λ t j. 1 + 16 * t + j;
}

-- Under every such table, and whatever the limits, each history of the level's manager is serial, and recovery with power is granted.
abbrev pub TallyIsSerial : Type 0
TallyIsSerial = (conflict : Lock → Lock → Bool) → Symmetric conflict → Marks conflict → (limits : Limits TallyOp (List ℕ)) → WorkedIsSerial (tally_theory conflict) limits

abbrev pub TallyRecovers : Type 0
TallyRecovers = (conflict : Lock → Lock → Bool) → Symmetric conflict → Marks conflict → (limits : Limits TallyOp (List ℕ)) → RecoveryIsGranted (tally_theory conflict) limits
