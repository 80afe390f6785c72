-- The round trip of a code through the bytes of an undo record. Assumes nothing.
use Rattle.std.proofs.Common.{◌≡◌, ℕ, ◌-◌, true, List, ◌++◌, length, drop, replicate, Some, None, IsSome, Option, sym, refl, ap, ◌∙◌, subst, ⊎_elim, arith}
use Rattle.std.proofs.lemmas.List.{length-append, length-replicate, drop-replicate}
use Rattle.std.proofs.lemmas.Option.{none-some, same_Some}
use Rattle.std.proofs.lemmas.Bool.{cond-true, cond-false, cases_Bool}
use Rattle.number.specs.declared.Code.{Code}
use Rattle.number.specs.Bytes as number
use Rattle.number.specs.Zeros.{zeros, zeros_replicate, zeros_from}
use Rattle.number.specs.Codes.{code_bytes, reading_code, Small}
use Rattle.number.proofs.Coded.{reading_code_bytes, code_short}
use Rattle.level.specs.Records.{record_bytes, alone, reading_record, Exact}

-- what is written is read again
pub record_back : (c : Code) → Small c → reading_record (record_bytes c) ≡ Some c
record_back c small =
    let n = 64 - length (code_bytes c) in
    ap alone (reading_code_bytes c (replicate n 0) small) ∙ cond-true (zeros (replicate n 0)) (Some c) None (zeros_replicate n)

pub length_record : (c : Code) → length (record_bytes c) ≡ 64
length_record c =
    let n = 64 - length (code_bytes c) in
    omega (arith, length-append (code_bytes c) (replicate n 0), length-replicate {A = ℕ} n 0, code_short c)

-- a code and zeros, 64 bytes in all
whole : (bs : List ℕ) (c : Code) (rest : List ℕ) → length bs ≡ 64 → bs ≡ code_bytes c ++ rest → zeros rest ≡ true → bs ≡ record_bytes c
whole bs c rest long e z =
    let left : length rest ≡ 64 - length (code_bytes c) = omega (arith, length-append (code_bytes c) rest, ap length e) in
    e ∙ ap (λ l. code_bytes c ++ l) (zeros_from rest z ∙ ap (λ n. replicate n 0) left)

-- what is read of 64 bytes is a record whose bytes they are
sound : (bs : List ℕ) (o : Option (Code × List ℕ)) (c : Code) → length bs ≡ 64 → number.Exact Small code_bytes bs o → Some c ≡ alone o → Exact bs (Some c)
sound bs None c long exact e = absurd (none-some c (sym e))
sound bs (Some (d, rest)) c long exact e =
    ⊎_elim
    (λ z.
    let is : c ≡ d = same_Some c d (e ∙ cond-true (zeros rest) (Some d) None z) in
    subst (λ x. Exact bs (Some x)) (sym is) (exact.0, whole bs d rest long exact.1 z))
    (λ z. absurd (none-some c (sym (e ∙ cond-false (zeros rest) (Some d) None z))))
    (cases_Bool (zeros rest))

pub record_exact : (bs : List ℕ) (o : Option (Code × List ℕ)) (r : Option Code) → length bs ≡ 64 → o ≡ reading_code bs → number.Exact Small code_bytes bs o → r ≡ alone o → Exact bs r
record_exact bs o None long value exact e = λ c small is. none-some c (e ∙ ap alone value ∙ ap reading_record is ∙ record_back c small)
record_exact bs o (Some c) long value exact e = sound bs o c long exact e

-- a code written over zeros
pub record_written : (c : Code) (old new : List ℕ) (r : Option ℕ) → old ≡ replicate 64 0 → number.Written (code_bytes c) 0 old new r → new ≡ record_bytes c
record_written c old new None e w = absurd (omega (arith, ap length e, length-replicate {A = ℕ} 64 0, code_short c))
record_written c old new (Some end) e w =
    let is : end ≡ length (code_bytes c) = omega arith in
    w.2 ∙ ap (λ l. code_bytes c ++ drop end l) e ∙ ap (λ l. code_bytes c ++ l) (drop-replicate end 64 0) ∙ ap (λ n. code_bytes c ++ replicate (64 - n) 0) is

-- so there is always room
pub record_fits : (c : Code) (old new : List ℕ) (r : Option ℕ) → old ≡ replicate 64 0 → number.Written (code_bytes c) 0 old new r → IsSome r
record_fits c old new (Some end) e w = refl
record_fits c old new None e w = absurd (omega (arith, ap length e, length-replicate {A = ℕ} 64 0, code_short c))
