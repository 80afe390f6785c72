-- Which locks conflict: two about the same number, of kinds that the table marks.
use Rattle.std.specs.Prelude.{◌≡◌, ℕ, zero, suc, Bool, true, false, ◌&&◌, ◌||◌, List, [], ◌∷◌, ◌==◌, slice_index_or}
use Rattle.number.specs.declared.Kind.{Kind}
use Rattle.number.specs.Codes.{kind_number}
use Rattle.theory.specs.Theory as theory
use Rattle.level.specs.declared.conflict.Lock.{Lock}

-- a row and a column for each kind, by number: put, del, get, add, read, set, load
abbrev pub marks : List (List Bool)
marks =
    (true ∷ true ∷ true ∷ false ∷ false ∷ false ∷ false ∷ [])
    ∷ (true ∷ true ∷ true ∷ false ∷ false ∷ false ∷ false ∷ [])
    ∷ (true ∷ true ∷ false ∷ false ∷ false ∷ false ∷ false ∷ [])
    ∷ (false ∷ false ∷ false ∷ false ∷ true ∷ false ∷ false ∷ [])
    ∷ (false ∷ false ∷ false ∷ true ∷ false ∷ false ∷ false ∷ [])
    ∷ (false ∷ false ∷ false ∷ false ∷ false ∷ true ∷ true ∷ [])
    ∷ (false ∷ false ∷ false ∷ false ∷ false ∷ true ∷ false ∷ [])
    ∷ []

-- the mark at a row and a column counted from 0; there is none outside the table
abbrev pub mark : ℕ → ℕ → Bool
mark a b = slice_index_or (slice_index_or marks a []) b false

-- of kinds by their numbers, which begin at 1
abbrev pub clash : ℕ → ℕ → Bool
clash zero b = false
clash (suc a) zero = false
clash (suc a) (suc b) = mark a b

abbrev pub in_conflict : theory.Lock → theory.Lock → Bool
in_conflict x y = x.number == y.number && clash x.kind y.kind

abbrev pub lock_of : Lock → theory.Lock
lock_of l = record { kind = kind_number l.kind; number = l.number }

abbrev pub TableSymmetric : Type 0
TableSymmetric = (a b : ℕ) → mark a b ≡ mark b a

abbrev pub Symmetric : Type 0
Symmetric = (x y : theory.Lock) → in_conflict x y ≡ in_conflict y x

-- put (1) conflicts with put, del (2) and get (3); del with del and get; add (4) with read (5); set (6) with set and load (7)
abbrev pub pairs : List (ℕ × ℕ)
pairs = (1, 1) ∷ (1, 2) ∷ (1, 3) ∷ (2, 2) ∷ (2, 3) ∷ (4, 5) ∷ (6, 6) ∷ (6, 7) ∷ []

abbrev pub listed : ℕ → ℕ → List (ℕ × ℕ) → Bool
listed a b [] = false
listed a b (p ∷ ps) = (a == p.0 && b == p.1) || listed a b ps

-- these pairs are marked, and the same exchanged, and no other
abbrev pub AsListed : Type 0
AsListed = (a b : Kind) → clash (kind_number a) (kind_number b) ≡ (listed (kind_number a) (kind_number b) pairs || listed (kind_number b) (kind_number a) pairs)
