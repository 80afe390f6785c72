-- The round trip of a code through its bytes, and what its reader knows. Assumes nothing.
use Rattle.std.proofs.Common.{◌≡◌, ℕ, ◌^◌, ◌<◌, ◌≤◌, List, [], ◌∷◌, ◌++◌, length, Some, None, Option, sym, refl, ap, ◌∙◌, subst, append_assoc, arith}
use Rattle.std.specs.Prelude.{Result}
use Rattle.std.specs.Option.{ok_or}
use Rattle.std.specs.Result.{result_ok}
use Rattle.std.proofs.lemmas.List.{length-append}
use Rattle.std.proofs.lemmas.Bool.Decides.{nat_tests}
use Rattle.number.specs.declared.Kind.{Kind}
use Rattle.number.specs.declared.Kind.TheVariants as kind
use Rattle.number.specs.declared.UnknownKind.{UnknownKind}
use Rattle.number.specs.declared.Code.{Code}
use Rattle.number.specs.declared.Code.TheVariants as code
use Rattle.number.specs.Bytes.{Sound, Exact}
use Rattle.number.specs.Codes.{kind_number, kind_of, numbers, code_bytes, Small, kind_at, kind_or_byte, then_read, code_of, with_kind, reading_code}
use Rattle.number.specs.Leb.{leb, reading}
use Rattle.number.specs.Parts.{Follows, numbers_then}
use Rattle.number.proofs.Numbers.{reading_leb, leb_short, exact_from}

-- the first number of a code
first_read : (k : Kind) (n : ℕ) (rest : List ℕ) → n < 2 ^ 32 → then_read (reading (leb n ++ rest)) (code_of k) ≡ code_of k n rest
first_read k n rest h = ap (λ o. then_read o (code_of k)) (reading_leb n rest h)

-- what is written is read again, whatever follows it
pub reading_code_bytes : (c : Code) (rest : List ℕ) → Small c → reading_code (code_bytes c ++ rest) ≡ Some (c, rest)
unfolding reading_code
reading_code_bytes (code.Put key value) rest h =
    ap (λ l. then_read (reading l) (code_of kind.Put)) (append_assoc (leb key) (leb value) rest) ∙ first_read kind.Put key (leb value ++ rest) h.0
    ∙ ap (λ o. then_read o (λ v after. Some (code.Put key v, after))) (reading_leb value rest h.1)
reading_code_bytes (code.Del key) rest h = first_read kind.Del key rest h
reading_code_bytes (code.Get key) rest h = first_read kind.Get key rest h
reading_code_bytes (code.Add counter amount) rest h =
    ap (λ l. then_read (reading l) (code_of kind.Add)) (append_assoc (leb counter) (leb amount) rest) ∙ first_read kind.Add counter (leb amount ++ rest) h.0
    ∙ ap (λ o. then_read o (λ v after. Some (code.Add counter v, after))) (reading_leb amount rest h.1)
reading_code_bytes (code.Read counter) rest h = first_read kind.Read counter rest h
reading_code_bytes (code.Set cell) rest h = first_read kind.Set cell rest h
reading_code_bytes (code.Load cell) rest h = first_read kind.Load cell rest h

two_short : (n m : ℕ) → length (leb n ++ leb m) ≤ 10
two_short n m = omega (arith, length-append (leb n) (leb m), leb_short n, leb_short m)

pub code_short : (c : Code) → length (code_bytes c) ≤ 11
code_short (code.Put key value) = omega (arith, two_short key value)
code_short (code.Del key) = omega (arith, leb_short key)
code_short (code.Get key) = omega (arith, leb_short key)
code_short (code.Add counter amount) = omega (arith, two_short counter amount)
code_short (code.Read counter) = omega (arith, leb_short counter)
code_short (code.Set cell) = omega (arith, leb_short cell)
code_short (code.Load cell) = omega (arith, leb_short cell)

kind_from : (b : ℕ) (k : Kind) → Some k ≡ kind_at b → b ≡ kind_number k
kind_from b kind.Put e = grind (arith, nat_tests)
kind_from b kind.Del e = grind (arith, nat_tests)
kind_from b kind.Get e = grind (arith, nat_tests)
kind_from b kind.Add e = grind (arith, nat_tests)
kind_from b kind.Read e = grind (arith, nat_tests)
kind_from b kind.Set e = grind (arith, nat_tests)
kind_from b kind.Load e = grind (arith, nat_tests)

-- the kind that a byte was read as
pub kind_read : (b : ℕ) {o : Option Kind} {r : Result Kind UnknownKind} → o ≡ result_ok r → r ≡ kind_or_byte b → o ≡ kind_at b
kind_read b e f = e ∙ ap result_ok f ∙ go (kind_at b)
  where
    unknown : UnknownKind
    unknown = record { 0 = b }

    go : (o : Option Kind) → result_ok (ok_or o unknown) ≡ o
    go None = refl
    go (Some k) = refl

together : (c : Code) (rest : List ℕ) → numbers_then c rest ≡ numbers c ++ rest
together (code.Put key value) rest = sym (append_assoc (leb key) (leb value) rest)
together (code.Del key) rest = refl
together (code.Get key) rest = refl
together (code.Add counter amount) rest = sym (append_assoc (leb counter) (leb amount) rest)
together (code.Read counter) rest = refl
together (code.Set cell) rest = refl
together (code.Load cell) rest = refl

-- what the reader of a code knows: its answer, and that this is sound
pub record Coded (bs : List ℕ) (o : Option (Code × List ℕ)) : Type 0 where
  pub value : o ≡ reading_code bs
  pub sound : Sound Small code_bytes bs o

pub coded_empty : Coded [] None
unfolding reading_code
coded_empty = record { value = refl; sound = tt }

pub coded_no_kind : (b : ℕ) (bs : List ℕ) → None ≡ kind_at b → Coded (b ∷ bs) None
unfolding reading_code
coded_no_kind b bs e = record { value = ap (λ o. with_kind o bs) e; sound = tt }

pub coded_no_number : (b : ℕ) (bs : List ℕ) (k : Kind) → Some k ≡ kind_at b → None ≡ reading bs → Coded (b ∷ bs) None
unfolding reading_code
coded_no_number b bs k e f = record { value = ap (λ o. then_read o (code_of k)) f ∙ ap (λ o. with_kind o bs) e; sound = tt }

-- the kind and the first number, and then the rest of the code
pub coded_then : (b : ℕ) (bs : List ℕ) (k : Kind) (n : ℕ) (after : List ℕ) (o : Option (Code × List ℕ))
    → Some k ≡ kind_at b → Some (n, after) ≡ reading bs → bs ≡ leb n ++ after → o ≡ code_of k n after → Follows k n after o → Coded (b ∷ bs) o
unfolding reading_code
coded_then b bs k n after None e f is value sound = record { value = value ∙ ap (λ o. then_read o (code_of k)) f ∙ ap (λ o. with_kind o bs) e; sound = tt }
coded_then b bs k n after (Some (c, rest)) e f is value sound = record {
  value = value ∙ ap (λ o. then_read o (code_of k)) f ∙ ap (λ o. with_kind o bs) e;
  sound = (sound.1, ap (λ x. x ∷ bs) (kind_from b k e ∙ ap kind_number (sym sound.0)) ∙ ap (λ l. kind_number (kind_of c) ∷ l) (is ∙ sound.2 ∙ together c rest));
}

-- the same of the bytes as the code has them
pub coded_at : {bytes bs : List ℕ} {o : Option (Code × List ℕ)} → bytes ≡ bs → Coded bs o → Coded bytes o
coded_at {o = o} e k = subst (λ l. Coded l o) (sym e) k

-- all that the reader promises
abbrev pub Known : List ℕ → Option (Code × List ℕ) → Type 0
Known bs o = record {
  value : o ≡ reading_code bs;
  exact : Exact Small code_bytes bs o;
  back : (c : Code) (rest : List ℕ) → Small c → bs ≡ code_bytes c ++ rest → o ≡ Some (c, rest);
}

pub known : {bs : List ℕ} {o : Option (Code × List ℕ)} → Coded bs o → Known bs o
known {bs = bs} {o = o} k = record {
  value = k.value;
  exact = exact_from Small code_bytes reading_code reading_code_bytes bs o k.value k.sound;
  back = λ c rest small e. k.value ∙ ap reading_code e ∙ reading_code_bytes c rest small;
}
