-- Operations as bytes, as undo records hold them: a byte for the kind, and then the numbers of the operation.
use Rattle.std.specs.Prelude.{ℕ, ◌^◌, ◌<◌, cond, List, [], ◌∷◌, ◌++◌, Some, None, Option, Result, ◌==◌}
use Rattle.std.specs.Option.{ok_or}
use Rattle.number.specs.declared.Kind.{Kind}
use Rattle.number.specs.declared.Kind.TheVariants as kind
use Rattle.number.specs.declared.UnknownKind.{UnknownKind}
use Rattle.number.specs.declared.Code.{Code}
use Rattle.number.specs.declared.Code.TheVariants as code
use Rattle.number.specs.Leb.{leb, reading}

abbrev pub kind_number : Kind → ℕ
kind_number kind.Put = 1
kind_number kind.Del = 2
kind_number kind.Get = 3
kind_number kind.Add = 4
kind_number kind.Read = 5
kind_number kind.Set = 6
kind_number kind.Load = 7

abbrev pub kind_of : Code → Kind
kind_of (code.Put key value) = kind.Put
kind_of (code.Del key) = kind.Del
kind_of (code.Get key) = kind.Get
kind_of (code.Add counter amount) = kind.Add
kind_of (code.Read counter) = kind.Read
kind_of (code.Set cell) = kind.Set
kind_of (code.Load cell) = kind.Load

-- the bytes of a code's numbers
abbrev pub numbers : Code → List ℕ
numbers (code.Put key value) = leb key ++ leb value
numbers (code.Del key) = leb key
numbers (code.Get key) = leb key
numbers (code.Add counter amount) = leb counter ++ leb amount
numbers (code.Read counter) = leb counter
numbers (code.Set cell) = leb cell
numbers (code.Load cell) = leb cell

abbrev pub code_bytes : Code → List ℕ
code_bytes c = kind_number (kind_of c) ∷ numbers c

-- the numbers of a code fit four bytes of memory
abbrev pub Small : Code → Type 0
Small (code.Put key value) = (key < 2 ^ 32) × (value < 2 ^ 32)
Small (code.Del key) = key < 2 ^ 32
Small (code.Get key) = key < 2 ^ 32
Small (code.Add counter amount) = (counter < 2 ^ 32) × (amount < 2 ^ 32)
Small (code.Read counter) = counter < 2 ^ 32
Small (code.Set cell) = cell < 2 ^ 32
Small (code.Load cell) = cell < 2 ^ 32

abbrev pub kind_at : ℕ → Option Kind
kind_at b =
    cond (b == 1) (Some kind.Put) (cond (b == 2) (Some kind.Del) (cond (b == 3) (Some kind.Get) (cond (b == 4) (Some kind.Add)
    (cond (b == 5) (Some kind.Read) (cond (b == 6) (Some kind.Set) (cond (b == 7) (Some kind.Load) None))))))

-- the kind of that number, or the byte that is no kind's
abbrev pub kind_or_byte : ℕ → Result Kind UnknownKind
kind_or_byte b = ok_or (kind_at b) (record { 0 = b })

-- goes on with what was read
abbrev pub then_read : {A B : Type 0} → Option (A × List ℕ) → (A → List ℕ → Option (B × List ℕ)) → Option (B × List ℕ)
then_read None next = None
then_read (Some (x, rest)) next = next x rest

-- the code of a kind whose first number is n
abbrev pub code_of : Kind → ℕ → List ℕ → Option (Code × List ℕ)
code_of kind.Put n bs = then_read (reading bs) (λ value rest. Some (code.Put n value, rest))
code_of kind.Del n bs = Some (code.Del n, bs)
code_of kind.Get n bs = Some (code.Get n, bs)
code_of kind.Add n bs = then_read (reading bs) (λ amount rest. Some (code.Add n amount, rest))
code_of kind.Read n bs = Some (code.Read n, bs)
code_of kind.Set n bs = Some (code.Set n, bs)
code_of kind.Load n bs = Some (code.Load n, bs)

abbrev pub with_kind : Option Kind → List ℕ → Option (Code × List ℕ)
with_kind None bs = None
with_kind (Some k) bs = then_read (reading bs) (code_of k)

-- the code that the bytes begin with and what follows it; `reading_code (code_bytes c ++ rest)` is c and rest
unfoldable pub reading_code : List ℕ → Option (Code × List ℕ)
reading_code [] = None
reading_code (b ∷ bs) = with_kind (kind_at b) bs
