-- What one byte more leaves of a number to be written, and writes one after the other. Assumes nothing.
use Rattle.std.proofs.Common.{◌≡◌, ℕ, zero, suc, ◌+◌, ◌-◌, ◌*◌, ◌/◌, ◌%◌, ◌^◌, ◌<◌, ◌≤◌, true, leb as leb≤, List, [], ◌∷◌, ◌++◌, length, take, drop, set, Some, None, Option, sym, refl, ap, ◌∙◌, append_assoc, add-one, arith, ⊎_elim}
use Rattle.std.proofs.lemmas.Bool.{leb-true, cases_lt}
use Rattle.std.proofs.lemmas.List.{take_more_set, drop-drop, set_split, take_all, take_at, drop_at, length-append, length-take-le, length-drop}
use Rattle.std.proofs.lemmas.Slice.{take-put_mid, drop-put_mid}
use borrow.Rule.Slice.PartMut.{put_mid, same_len_mid}
use Rattle.number.specs.Bytes.{Written}
use Rattle.number.specs.Leb.{lebs, leb}
use Rattle.number.proofs.Numbers.{lebs_small, lebs_large, lebs_some, leb_some}

-- what fits k + 1 bytes
abbrev full : ℕ → ℕ
full zero = 128
full (suc k) = 128 * full k

-- the first i of these bytes, and then the bytes of what is left, are the bytes of n
pub record Going (n left i : ℕ) (front : List ℕ) : Type 0 where
  pub more : ℕ
  pub fits : left < full more
  pub whole : take i front ++ lebs more left ≡ leb n
  pub reach : i + length (lebs more left) ≡ length (leb n)

pub start : (n : ℕ) (front : List ℕ) → n < 2 ^ 32 → Going n n 0 front
unfolding leb
start n front h = record { more = 4; fits = omega arith; whole = refl; reach = omega arith }

-- one byte more, where it is not the last
pub again : (n left i : ℕ) (front : List ℕ) → i < length front → i + 1 < length (leb n) → Going n left i front
    → Going n (left / 128) (i + 1) (set front i (left % 128 + 128))
again n left i front within more g = go g.more g.fits g.whole g.reach
  where
    go : (k : ℕ) → left < full k → take i front ++ lebs k left ≡ leb n → i + length (lebs k left) ≡ length (leb n)
        → Going n (left / 128) (i + 1) (set front i (left % 128 + 128))
    go zero fits whole reach = absurd (omega (arith, ap length (lebs_small 0 left fits)))
    go (suc k) fits whole reach = record {
      more = k;
      fits = omega arith;
      whole = ap (λ l. l ++ lebs k (left / 128)) (take_more_set front i (left % 128 + 128) within ∙ ap (λ x. take i front ++ x ∷ []) swap)
          ∙ append_assoc (take i front) _ _ ∙ ap (λ l. take i front ++ l) (sym cut) ∙ whole;
      reach = omega (arith, ap length cut);
    }
      where
        large : 128 ≤ left
        large = ⊎_elim (λ lo. absurd (omega (arith, ap length (lebs_small (suc k) left lo)))) (λ hi. hi) (cases_lt left 128)

        cut : lebs (suc k) left ≡ (128 + left % 128) ∷ lebs k (left / 128)
        cut = lebs_large k left large

        swap : left % 128 + 128 ≡ 128 + left % 128
        swap = omega arith

-- what is left for the last byte fits it
pub last_fits : {n left i : ℕ} {front : List ℕ} → length (leb n) ≤ i + 1 → Going n left i front → left < 128
last_fits {n = n} {left = left} {i = i} {front = front} end g = go g.more g.fits g.reach
  where
    go : (k : ℕ) → left < full k → i + length (lebs k left) ≡ length (leb n) → left < 128
    go zero fits reach = fits
    go (suc k) fits reach =
        ⊎_elim (λ lo. lo) (λ hi. absurd (omega (arith, ap length (lebs_large k left hi), lebs_some k (left / 128)))) (cases_lt left 128)

-- n takes len bytes, and there is room for them
pub record Place (n at len : ℕ) (old : List ℕ) : Type 0 where
  pub is : len ≡ length (leb n)
  pub room : at + len ≤ length old

pub place : {n at len : ℕ} {old : List ℕ} → len ≡ length (leb n) → true ≡ leb≤ (at + len) (length old) → Place n at len old
place {at = at} {len = len} {old = old} is room = record { is = is; room = leb-true (at + len) (length old) (sym room) }

-- the part of `old` that holds all bytes but the last
pub part_long : {n at len : ℕ} {old : List ℕ} → Place n at len old → length (take (at + len - 1 - at) (drop at old)) + 1 ≡ length (leb n)
part_long {n = n} {at = at} {len = len} {old = old} p =
    omega (arith, p.is, p.room, leb_some n, length-drop at old, length-take-le (at + len - 1 - at) (drop at old) (omega (arith, p.room, length-drop at old)))

-- the last byte is in reach
pub inside : {n at len : ℕ} {old : List ℕ} (front : List ℕ) → Place n at len old → length front + 1 ≡ length (leb n)
    → at + len - 1 < length (put_mid at (at + len - 1 - at) old front)
inside {n = n} {at = at} {len = len} {old = old} front p long =
    let m = at + len - 1 - at in
    omega (arith, p.is, p.room, leb_some n, same_len_mid at m old front (omega (arith, p.is, leb_some n, long, part_long p)))

-- the front put in its place, and the last byte behind it
pub done : (n at len left i : ℕ) (old front : List ℕ) → Place n at len old → length front + 1 ≡ length (leb n) → length front ≤ i → Going n left i front
    → Written (leb n) at old (set (put_mid at (at + len - 1 - at) old front) (at + len - 1) left) (Some (at + len))
done n at len left i old front p long all g =
    let m = at + len - 1 - at in
    let e = at + len - 1 in
    let now = put_mid at m old front in
    let before : take e now ≡ take at old ++ front = take-put_mid at m old front e (omega (arith, p.is)) (omega (arith, p.room)) in
    let step : suc e ≡ at + len = omega (arith, p.is, leb_some n) in
    let after : drop (suc e) now ≡ drop (at + len) old =
    drop-put_mid at m old front (suc e) (omega (arith, p.is, leb_some n)) (omega (arith, p.room)) (omega (arith, p.is)) ∙ ap (λ j. drop j old) step in
    let whole : front ++ left ∷ [] ≡ leb n =
    ap (λ l. l ++ left ∷ []) (sym (take_all i front all)) ∙ ap (λ l. take i front ++ l) (sym (lebs_small g.more left (last_fits (omega arith) g))) ∙ g.whole in (
      ap (λ l. at + l) p.is,
      p.room,
      set_split now e left (inside front p long)
          ∙ ap (λ l. l ++ left ∷ drop (suc e) now) before ∙ ap (λ l. (take at old ++ front) ++ left ∷ l) after
          ∙ append_assoc (take at old) front _
          ∙ ap (λ l. take at old ++ l) (sym (append_assoc front (left ∷ []) _) ∙ ap (λ l. l ++ drop (at + len) old) whole),
    )

-- one byte
pub written_byte : (b at : ℕ) (old : List ℕ) → at < length old → Written (b ∷ []) at old (set old at b) (Some (at + 1))
written_byte b at old h = (omega arith, omega arith, set_split old at b h ∙ ap (λ i. take at old ++ (b ∷ drop i old)) (sym (add-one at)))

pub written_length : (bs : List ℕ) (at : ℕ) (old mid : List ℕ) (m : ℕ) → Written bs at old mid (Some m) → length mid ≡ length old
written_length bs at old mid m w =
    ap length w.2 ∙ length-append (take at old) (bs ++ drop m old)
    ∙ omega (arith, length-append bs (drop m old), length-take-le at old (omega arith), length-drop m old)

-- what is written after what was written
pub written_then : (bs cs : List ℕ) (at : ℕ) (old mid new : List ℕ) (m e : ℕ) → Written bs at old mid (Some m) → Written cs m mid new (Some e)
    → Written (bs ++ cs) at old new (Some e)
written_then bs cs at old mid new m e w v =
    let front = take at old ++ bs in
    let is : mid ≡ front ++ drop m old = w.2 ∙ sym (append_assoc (take at old) bs (drop m old)) in
    let long : length front ≡ m = omega (arith, length-append (take at old) bs, length-take-le at old (omega arith)) in
    let same : length mid ≡ length old = written_length bs at old mid m w in
    let before : take m mid ≡ front = ap (take m) is ∙ take_at front (drop m old) m long in
    let after : drop m mid ≡ drop m old = ap (drop m) is ∙ drop_at front (drop m old) m long in
    let far : drop e mid ≡ drop e old =
    ap (λ i. drop i mid) v.0 ∙ sym (drop-drop (length cs) m mid) ∙ ap (drop (length cs)) after ∙ drop-drop (length cs) m old ∙ ap (λ i. drop i old) (sym v.0) in (
      omega (arith, length-append bs cs),
      omega arith,
      v.2 ∙ ap (λ l. l ++ (cs ++ drop e mid)) before ∙ ap (λ l. front ++ (cs ++ l)) far ∙ append_assoc (take at old) bs (cs ++ drop e old)
          ∙ ap (λ l. take at old ++ l) (sym (append_assoc bs cs (drop e old))),
    )

-- the same where there was room for both: then the second is written too
pub written_last : (bs cs : List ℕ) (at : ℕ) (old mid new : List ℕ) (m : ℕ) (r : Option ℕ) → Written bs at old mid (Some m)
    → at + length (bs ++ cs) ≤ length old → Written cs m mid new r → Written (bs ++ cs) at old new r
written_last bs cs at old mid new m None w room v =
    absurd (omega (arith, length-append bs cs, written_length bs at old mid m w))
written_last bs cs at old mid new m (Some e) w room v = written_then bs cs at old mid new m e w v
