-- Numbers and codes with their bytes, and bytes that are no number: one table.
use Rattle.std.specs.Prelude.{◌≡◌, ℕ, List, [], ◌∷◌, None}
use Rattle.number.specs.declared.Code.{Code}
use Rattle.number.specs.declared.Code.TheVariants as code
use Rattle.number.specs.Codes.{code_bytes}
use Rattle.number.specs.Leb.{leb_all, reading}

-- what bytes are an example of
pub data Sample : Type 0 where
  numbers : List ℕ → Sample
  operation : Code → Sample
  no_number : Sample

abbrev pub examples : List (Sample × List ℕ)
examples =
    (numbers (0 ∷ []), 0x00 ∷ [])
    ∷ (numbers (127 ∷ []), 0x7F ∷ [])
    ∷ (numbers (128 ∷ []), 0x80 ∷ 0x01 ∷ [])
    ∷ (numbers (4294967295 ∷ []), 0xFF ∷ 0xFF ∷ 0xFF ∷ 0xFF ∷ 0x0F ∷ [])
    -- not the shortest form of 0
    ∷ (no_number, 0x80 ∷ 0x00 ∷ [])
    -- 2^33 - 1
    ∷ (no_number, 0xFF ∷ 0xFF ∷ 0xFF ∷ 0xFF ∷ 0x1F ∷ [])
    -- the start of a journal's commit record for the two pages 5 and 300
    ∷ (numbers (2 ∷ 5 ∷ 300 ∷ []), 0x02 ∷ 0x05 ∷ 0xAC ∷ 0x02 ∷ [])
    -- the inverse of deleting key 300 with value 7
    ∷ (operation (code.Put 300 7), 0x01 ∷ 0xAC ∷ 0x02 ∷ 0x07 ∷ [])
    -- the inverse of adding 1 to counter 3
    ∷ (operation (code.Add 3 4294967295), 0x04 ∷ 0x03 ∷ 0xFF ∷ 0xFF ∷ 0xFF ∷ 0xFF ∷ 0x0F ∷ [])
    ∷ []

-- what an example says
abbrev pub Holds : Sample × List ℕ → Type 0
Holds (numbers ns, bs) = leb_all ns ≡ bs
Holds (operation c, bs) = code_bytes c ≡ bs
Holds (no_number, bs) = reading bs ≡ None
