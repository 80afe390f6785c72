-- Which sizes a disk may have, and which refusal answers a wrong one.
use Rattle.std.specs.Prelude.{◌≡◌, ℕ, ◌+◌, ◌*◌, ◌/◌, ◌%◌, cond, ◌&&◌, Some, None, Ok, Err, Option, Result, ◌==◌, nat_le}
use Rattle.refusal.specs.declared.Reason.TheVariants.{WrongSize}
use Rattle.refusal.specs.declared.Refusal.{Refusal}
use Rattle.refusal.specs.Refusals.{refusal}
use Rattle.disk.specs.declared.sizes.NewError.{NewError}
use Rattle.disk.specs.declared.sizes.NewError.TheVariants.{Refused, NoMemory}

abbrev pub wrong : ℕ → Refusal
wrong place = refusal WrongSize 0 place

-- the first of two refusals
abbrev pub first_of : Option Refusal → Option Refusal → Option Refusal
first_of None next = next
first_of (Some e) next = Some e

-- a memory has whole blocks
abbrev pub part_refusal : ℕ → Option Refusal
part_refusal len = cond (len % 256 == 0) None (Some (wrong len))

-- a disk has 8 to 4,096 blocks
abbrev pub count_refusal : ℕ → Option Refusal
count_refusal n = cond (nat_le 8 n && nat_le n 4096) None (Some (wrong n))

-- what is wrong with the length of a memory
abbrev pub size_refusal : ℕ → Option Refusal
size_refusal len = first_of (part_refusal len) (count_refusal (len / 256))

-- the second of two banks is as long as the first
abbrev pub unequal_refusal : ℕ → ℕ → Option Refusal
unequal_refusal a b = cond (a == b) None (Some (wrong b))

-- what is wrong with the lengths of two banks
abbrev pub bank_refusal : ℕ → ℕ → Option Refusal
bank_refusal a b =
    first_of (part_refusal a) (first_of (part_refusal b) (first_of (count_refusal (a / 256 + b / 256)) (unequal_refusal a b)))

-- an odd count of blocks would leave the second bank one block short
abbrev pub odd_refusal : ℕ → Option Refusal
odd_refusal n = cond (n % 2 == 0) None (Some (wrong (n / 2 * 256)))

-- what making a disk answers: a disk of which P holds, that refusal if there is one, or no memory
abbrev pub Made : {D : Type 0} → Option Refusal → (D → Type 0) → Result D NewError → Type 0
Made o P (Ok d) = (o ≡ None) × P d
Made o P (Err (Refused e)) = o ≡ Some e
Made o P (Err NoMemory) = o ≡ None
