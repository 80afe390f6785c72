-- What the parts of the reader and of the writer of a code promise.
use Rattle.std.specs.Prelude.{◌≡◌, ℕ, List, ◌++◌, Some, None, Option}
use Rattle.number.specs.declared.Kind.{Kind}
use Rattle.number.specs.declared.Code.{Code}
use Rattle.number.specs.declared.Code.TheVariants as code
use Rattle.number.specs.Codes.{kind_of, Small}
use Rattle.number.specs.Leb.{leb}

-- a code's numbers and what follows them
abbrev pub numbers_then : Code → List ℕ → List ℕ
numbers_then (code.Put key value) rest = leb key ++ (leb value ++ rest)
numbers_then (code.Del key) rest = leb key ++ rest
numbers_then (code.Get key) rest = leb key ++ rest
numbers_then (code.Add counter amount) rest = leb counter ++ (leb amount ++ rest)
numbers_then (code.Read counter) rest = leb counter ++ rest
numbers_then (code.Set cell) rest = leb cell ++ rest
numbers_then (code.Load cell) rest = leb cell ++ rest

-- what is read is of the kind, and its numbers are n and what stands first of bs
abbrev pub Follows : Kind → ℕ → List ℕ → Option (Code × List ℕ) → Type 0
Follows k n bs None = Unit {0}
Follows k n bs (Some (c, rest)) = (kind_of c ≡ k) × Small c × (leb n ++ bs ≡ numbers_then c rest)

-- one number or two
abbrev pub one_or_two : ℕ × Option ℕ → List ℕ
one_or_two (n, None) = leb n
one_or_two (n, Some m) = leb n ++ leb m
