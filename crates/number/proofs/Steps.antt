-- What the reader of a number knows after one byte. Assumes nothing.
use Rattle.std.proofs.Common.{◌≡◌, ℕ, zero, suc, ◌+◌, ◌-◌, ◌*◌, ◌^◌, ◌<◌, ◌≤◌, leb as leb≤, List, [], ◌∷◌, Some, None, Option, sym, refl, ap, ◌∙◌, subst, arith}
use Rattle.std.proofs.lemmas.Bool.{cond-true, cond-false, le-leb, lt-leb}
use Rattle.number.specs.Leb.{lebs, carried, reading_in, room}
use Rattle.number.specs.Reads.{Got}
use Rattle.number.proofs.Numbers.{reads_last, reads_more, carries, sound_last, sound_more}

-- what the reader of three bytes and one of four bits can give
pub room_below : (k : ℕ) → k ≤ 3 → room k ≤ 2 ^ 25
room_below zero h = omega arith
room_below (suc zero) h = omega arith
room_below (suc (suc zero)) h = omega arith
room_below (suc (suc (suc zero))) h = omega arith
room_below (suc (suc (suc (suc k)))) h = absurd (omega arith)

pub got_none : (k : ℕ) → Got k [] None
unfolding reading_in
got_none zero = record { value = refl; sound = tt }
got_none (suc k) = record { value = refl; sound = tt }

pub got_top : (k b : ℕ) (bs : List ℕ) → k ≡ 0 → 15 < b → Got k (b ∷ bs) None
unfolding reading_in
got_top zero b bs z h = record { value = sym (cond-false (leb≤ b 15) _ _ (lt-leb b 15 h)); sound = tt }
got_top (suc k) b bs z h = absurd (omega arith)

last : (k b : ℕ) (bs : List ℕ) → b < 128 → (k ≡ 0 → b ≤ 15) → Got k (b ∷ bs) (Some (b, bs))
unfolding reading_in lebs
last zero b bs h top = record {
  value = sym (cond-true (leb≤ b 15) _ _ (le-leb b 15 (top refl)));
  sound = (omega (arith, top refl), refl);
}
last (suc k) b bs h top = record { value = sym (reads_last k b bs h); sound = sound_last k b bs h }

pub got_last : (k b n : ℕ) (bs : List ℕ) → n ≡ b → b < 128 → (k ≡ 0 → b ≤ 15) → Got k (b ∷ bs) (Some (n, bs))
got_last k b n bs is h top = subst (λ x. Got k (b ∷ bs) (Some (x, bs))) (sym is) (last k b bs h top)

pub got_break : (j b : ℕ) (bs : List ℕ) → 128 ≤ b → Got j bs None → Got (suc j) (b ∷ bs) None
got_break j b bs h g = record { value = sym (reads_more j b bs h ∙ sym (ap (carried b) g.value)); sound = tt }

pub got_zero : (j b n : ℕ) (bs after : List ℕ) → 128 ≤ b → n ≡ 0 → Got j bs (Some (n, after)) → Got (suc j) (b ∷ bs) None
got_zero j b n bs after h z g = record {
  value = sym (reads_more j b bs h ∙ sym (ap (carried b) g.value) ∙ ap (λ m. carried b (Some (m, after))) z);
  sound = tt;
}

pub got_more : (j b m n : ℕ) (bs after : List ℕ) → 128 ≤ b → b < 256 → 0 < m → n ≡ b - 128 + 128 * m → Got j bs (Some (m, after))
    → Got (suc j) (b ∷ bs) (Some (n, after))
got_more j b m n bs after lo hi some is g = subst (λ x. Got (suc j) (b ∷ bs) (Some (x, after))) (sym is) (record {
  value = sym (reads_more j b bs lo ∙ sym (ap (carried b) g.value) ∙ carries b m after some);
  sound = sound_more j b m bs after lo hi some g.sound.0 g.sound.1;
})

-- the same of the bytes and the count as the code has them
pub got_at : {j k : ℕ} {bs bytes : List ℕ} {o : Option (ℕ × List ℕ)} → j ≡ k → bytes ≡ bs → Got j bs o → Got k bytes o
got_at {k = k} {bs = bs} {o = o} e f g = subst (λ l. Got k l o) (sym f) (subst (λ x. Got x bs o) e g)
