-- A run of block writes: one after the other, up to the first that is refused.
use Rattle.std.specs.Prelude.{◌≡◌, ℕ, ◌-◌, ◌<◌, true, false, cond, List, [], ◌∷◌, length, take, Ok, Err, Result, nat_le, slice_set}
use Rattle.refusal.specs.declared.Refusal.{Refusal}
use Rattle.refusal.specs.Refusals.{darkened}
use Rattle.disk.specs.Device.{Device, written, write_answer}

-- a write: where, and the bytes
abbrev pub Write : Type 0
Write = ℕ × List ℕ

-- the blocks with these writes done, in order
abbrev pub stored : List Write → List (List ℕ) → List (List ℕ)
stored [] b = b
stored (w ∷ ws) b = stored ws (slice_set b w.0 w.1)

-- what follows an answer: more where it was granted, else the end
abbrev pub going : {A : Type 0} → Result Unit Refusal → A → A → A
going (Ok x) more end = more
going (Err e) more end = end

-- what a run leaves
unfoldable pub ran : List Write → Device → Device
ran [] d = d
ran (w ∷ ws) d = going (write_answer w.0 d) (ran ws (written w.0 w.1 d)) (written w.0 w.1 d)

-- and what it answers
unfoldable pub ran_answer : List Write → Device → Result Unit Refusal
ran_answer [] d = Ok tt
ran_answer (w ∷ ws) d = going (write_answer w.0 d) (ran_answer ws (written w.0 w.1 d)) (write_answer w.0 d)

-- every write is to one of n blocks
abbrev pub Inside : ℕ → List Write → Type 0
Inside n [] = Unit {0}
Inside n (w ∷ ws) = (w.0 < n) × Inside n ws

-- the law of a run on a powered disk, of which it writes blocks that are there: with a charge for all of it, all is done;
-- else as many writes are done as the charge has, and the disk is dark
abbrev pub all_done : List Write → Device → Device
all_done ws d = record { blocks = stored ws d.blocks; charge = d.charge - length ws; powered = true }

abbrev pub cut_short : List Write → Device → Device
cut_short ws d = record { blocks = stored (take d.charge ws) d.blocks; charge = 0; powered = false }

pub record Lasts (ws : List Write) (d : Device) : Type 0 where
  pub leaves : ran ws d ≡ cond (nat_le (length ws) d.charge) (all_done ws d) (cut_short ws d)
  pub answers : ran_answer ws d ≡ cond (nat_le (length ws) d.charge) (Ok tt) (Err darkened)
