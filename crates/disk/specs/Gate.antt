-- What a call has to pass before it reaches a block, by the writes that are left: none where the disk is dark.
use Rattle.std.specs.Prelude.{ℕ, ◌-◌, cond, Some, None, Ok, Err, Option, Result, ◌==◌, nat_lt}
use Rattle.refusal.specs.declared.Reason.TheVariants.{OutOfRange}
use Rattle.refusal.specs.declared.Refusal.{Refusal}
use Rattle.refusal.specs.Refusals.{refusal, darkened}

-- the charge of a disk with power
abbrev pub charged : Option ℕ → Result ℕ Refusal
charged None = Err darkened
charged (Some c) = Ok c

-- the charge, where a call reaches block n of so many; it does not without power, nor to a block beyond the last
abbrev pub admitted : ℕ → ℕ → Option ℕ → Result ℕ Refusal
admitted n count None = Err darkened
admitted n count (Some c) = cond (nat_lt n count) (Ok c) (Err (refusal OutOfRange 0 n))

-- what a write of such a charge answers
abbrev pub paid : Result ℕ Refusal → Result Unit Refusal
paid (Ok c) = cond (c == 0) (Err darkened) (Ok tt)
paid (Err e) = Err e

-- and what it leaves: the charge less one, or power goes; a write that does not reach its block takes nothing
abbrev pub kept : Option ℕ → Result ℕ Refusal → Option ℕ
kept left (Ok c) = cond (c == 0) None (Some (c - 1))
kept left (Err e) = left

abbrev pub spent : ℕ → ℕ → Option ℕ → Result Unit Refusal
spent n count left = paid (admitted n count left)

abbrev pub left_after : ℕ → ℕ → Option ℕ → Option ℕ
left_after n count left = kept left (admitted n count left)
