-- How the blocks of a disk lie in its memory.
use Rattle.std.specs.Prelude.{ℕ, zero, suc, ◌/◌, Bool, List, [], ◌∷◌, length, map, take, drop, Option, is_some, unwrap_or, bit_xor, slice_index_or, Vec, vec_len, vec_items}
use Rattle.std.specs.Global.{Global}
use Rattle.disk.specs.Device.{Device}

-- the first n parts of 256 bytes
unfoldable pub blocks_of : ℕ → List ℕ → List (List ℕ)
blocks_of zero m = []
blocks_of (suc n) m = take 256 m ∷ blocks_of n (drop 256 m)

-- the blocks of a whole memory
abbrev pub blocks_in : Vec ℕ Global → List (List ℕ)
blocks_in m = blocks_of (vec_len m / 256) (vec_items m)

-- every bit of every byte turned
unfoldable pub inverted : List ℕ → List ℕ
inverted bytes = map (λ b. bit_xor b 255) bytes

-- one of the first, one of the second, and so on while both last
unfoldable pub alternated : List (List ℕ) → List (List ℕ) → List (List ℕ)
alternated [] ys = []
alternated (x ∷ xs) [] = []
alternated (x ∷ xs) (y ∷ ys) = x ∷ y ∷ alternated xs ys

-- the blocks of two banks of n blocks each: the even ones stand inverted in the first, the odd ones in the second
abbrev pub banks_of : ℕ → List ℕ → List ℕ → List (List ℕ)
banks_of n first second = alternated (blocks_of n (inverted first)) (blocks_of n (inverted second))

-- the bytes of one of several memories
abbrev pub bank : List (Vec ℕ Global) → ℕ → List ℕ
bank ms k = slice_index_or (map vec_items ms) k []

-- the blocks of two memories
abbrev pub banked : List (Vec ℕ Global) → List (List ℕ)
banked ms = banks_of (length (bank ms 0) / 256) (bank ms 0) (bank ms 1)

abbrev pub device : List (List ℕ) → ℕ → Bool → Device
device b c p = record { blocks = b; charge = c; powered = p }

-- a disk with those blocks and so many writes left; none are where it is dark
abbrev pub supplied : List (List ℕ) → Option ℕ → Device
supplied b left = device b (unwrap_or left 0) (is_some left)
