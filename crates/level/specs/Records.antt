-- Undo records: a code, and zeros to the end of its 64 bytes.
use Rattle.std.specs.Prelude.{◌≡◌, ℕ, ◌+◌, ◌-◌, ◌*◌, cond, List, ◌++◌, length, replicate, Some, None, Option, ◌≢◌}
use Rattle.number.specs.declared.Code.{Code}
use Rattle.number.specs.Zeros.{zeros}
use Rattle.number.specs.Codes.{code_bytes, reading_code, Small}

abbrev pub record_bytes : Code → List ℕ
record_bytes c = code_bytes c ++ replicate (64 - length (code_bytes c)) 0

-- a code that was read, where nothing but zeros follows it
abbrev pub alone : Option (Code × List ℕ) → Option Code
alone None = None
alone (Some (c, rest)) = cond (zeros rest) (Some c) None

abbrev pub reading_record : List ℕ → Option Code
reading_record bs = alone (reading_code bs)

-- the bytes are those of the record that is read, and of no record where none is
abbrev pub Exact : List ℕ → Option Code → Type 0
Exact bs None = (c : Code) → Small c → bs ≢ record_bytes c
Exact bs (Some c) = Small c × (bs ≡ record_bytes c)

-- the place of record j of slot t, where each slot has m of them: they follow the slot table
abbrev pub record_place : ℕ → ℕ → ℕ → ℕ
record_place m t j = 1 + m * t + j
