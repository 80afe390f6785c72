-- What resolving the transactions in doubt does to a history.
use Rattle.std.proofs.Common.{◌≡◌, ℕ, Bool, true, false, cond, not, ◌||◌, eqb, ◌≢◌, List, [], ◌∷◌, ◌++◌, get_or, filter, sym, refl, ap, ◌∙◌, subst, ap₂, inl, inr, append_assoc, append-nil}
use lib.ListN.{get_or-map}
use Rattle.std.proofs.lemmas.Bool.{eqb-true, eqb-false, eq-eqb, ne_eqb, not-true, cases_eq}
use Rattle.theory.specs.Slots.{Slot, slot_at, fate_of, fates, committed, undone, running}
use Rattle.theory.specs.History.{Accepted, History, has, without, of_slot, of_others, of_slots, discard, commit_last, resolve}
use Rattle.theory.specs.Serial.{all_of}
use Rattle.theory.proofs.Log.{by_test, kept_within, kept_none}
use Rattle.theory.proofs.Explains.{is_committed, Alike}
use Rattle.theory.proofs.Runs.{all_of_append}

-- membership of slots
pub has_append : (u : ℕ) (xs ys : List ℕ) → has u (xs ++ ys) ≡ (has u xs || has u ys)
has_append u [] ys = refl
has_append u (x ∷ xs) ys = by_test (λ v. (v || has u (xs ++ ys)) ≡ ((v || has u xs) || has u ys)) (eqb u x) (λ e. refl) (λ e. has_append u xs ys)

pub has_without : (u t : ℕ) (xs : List ℕ) → u ≢ t → has u (without t xs) ≡ has u xs
has_without u t [] n = refl
has_without u t (x ∷ xs) n =
    by_test (λ v. has u (cond (not v) (x ∷ without t xs) (without t xs)) ≡ (eqb u x || has u xs)) (eqb x t)
    (λ e. has_without u t xs n ∙ sym (ap (λ v. v || has u xs) (ne_eqb u x (λ k. n (k ∙ eqb-true x t e)))))
    (λ e. ap (λ v. eqb u x || v) (has_without u t xs n))

pub has_not_without : (t : ℕ) (xs : List ℕ) → has t (without t xs) ≡ false
has_not_without t [] = refl
has_not_without t (x ∷ xs) =
    by_test (λ v. has t (cond (not v) (x ∷ without t xs) (without t xs)) ≡ false) (eqb x t)
    (λ e. has_not_without t xs)
    (λ e. rw (ne_eqb t x (λ k. eqb-false x t e (sym k))) (has_not_without t xs))

pub has_start : (u t : ℕ) (xs : List ℕ) → u ≢ t → has u (xs ++ (t ∷ [])) ≡ has u xs
has_start u t xs n = has_append u xs (t ∷ []) ∙ ap (λ v. has u xs || (v || false)) (ne_eqb u t n) ∙ or_no (has u xs)
  where
    or_no : (v : Bool) → (v || false) ≡ v
    or_no true = refl
    or_no false = refl

pub has_started : (t : ℕ) (xs : List ℕ) → has t (xs ++ (t ∷ [])) ≡ true
has_started t xs = has_append t xs (t ∷ []) ∙ ap (λ v. has t xs || (v || false)) (eq-eqb t t refl) ∙ or_yes (has t xs)
  where
    or_yes : (v : Bool) → (v || true) ≡ true
    or_yes true = refl
    or_yes false = refl

-- the test that resolving makes
resolve_test : {Op : Type 0} (slots : List (Slot Op)) (t : ℕ) → eqb (get_or (fates slots) t 0) 0 ≡ is_committed (slot_at slots t)
resolve_test {Op} slots t = ap (λ n. eqb n 0) (get_or-map fate_of slots t committed) ∙ zero_is (slot_at slots t)
  where
    zero_is : (x : Slot Op) → eqb (fate_of x) 0 ≡ is_committed x
    zero_is committed = refl
    zero_is undone = refl
    zero_is (running undos) = refl

module _ {Op Answer : Type 0} where
  slot_of_others : (u t : ℕ) (xs : List (Accepted Op Answer)) → u ≢ t → of_slot u (of_others t xs) ≡ of_slot u xs
  slot_of_others u t xs h = kept_within (λ e. not (eqb e.slot t)) (λ e. eqb e.slot u) xs (λ e q. ap not (ne_eqb e.slot t (λ k. h (sym (eqb-true e.slot u q) ∙ k))))

  own_of_others : (t : ℕ) (xs : List (Accepted Op Answer)) → of_slot t (of_others t xs) ≡ []
  own_of_others t xs = kept_none (λ e. not (eqb e.slot t)) (λ e. eqb e.slot t) xs (λ e q. not-true _ q)

  abbrev one_resolved : List (Slot Op) → ℕ → History Op Answer → History Op Answer
  one_resolved slots t hist = cond (is_committed (slot_at slots t)) (commit_last t hist) (discard t hist)

  resolve_next : (slots : List (Slot Op)) (t : ℕ) (ts : List ℕ) (hist : History Op Answer) → resolve (fates slots) (t ∷ ts) hist ≡ resolve (fates slots) ts (one_resolved slots t hist)
  resolve_next slots t ts hist = ap (λ v. resolve (fates slots) ts (cond v (commit_last t hist) (discard t hist))) (resolve_test slots t)

  pub resolve_alike : (xs ys : List (Slot Op)) → Alike xs ys → (ts : List ℕ) (hist : History Op Answer) → resolve (fates ys) ts hist ≡ resolve (fates xs) ts hist
  resolve_alike xs ys a [] hist = refl
  resolve_alike xs ys a (t ∷ ts) hist =
      resolve_next ys t ts hist ∙ ap (λ v. resolve (fates ys) ts (cond v (commit_last t hist) (discard t hist))) (a.same t) ∙ resolve_alike xs ys a ts (one_resolved xs t hist) ∙ sym (resolve_next xs t ts hist)

  pub resolve_extends : (slots : List (Slot Op)) (ts : List ℕ) (hist : History Op Answer) → (more : List (Accepted Op Answer)) × (all_of (resolve (fates slots) ts hist).committed ≡ all_of hist.committed ++ more)
  resolve_extends slots [] hist = ([], sym (append-nil (all_of hist.committed)))
  resolve_extends slots (t ∷ ts) hist =
      by_test (λ v. (more : List (Accepted Op Answer)) × (all_of (resolve (fates slots) ts (cond v (commit_last t hist) (discard t hist))).committed ≡ all_of hist.committed ++ more)) (eqb (get_or (fates slots) t 0) 0)
      (λ e. let r = resolve_extends slots ts (commit_last t hist) in (of_slot t hist.accepted ++ r.0, r.1 ∙ ap (λ l. l ++ r.0) (all_of_append hist.committed (of_slot t hist.accepted)) ∙ append_assoc (all_of hist.committed) (of_slot t hist.accepted) r.0))
      (λ e. resolve_extends slots ts (discard t hist))

  -- only the operations of the slots in doubt matter
  pub resolve_same : (fs : List ℕ) (ts : List ℕ) (hist hist' : History Op Answer) → hist.committed ≡ hist'.committed → ((u : ℕ) → has u ts ≡ true → of_slot u hist.accepted ≡ of_slot u hist'.accepted) → (resolve fs ts hist).committed ≡ (resolve fs ts hist').committed
  resolve_same fs [] hist hist' e h = e
  resolve_same fs (t ∷ ts) hist hist' e h =
      by_test (λ v. (resolve fs ts (cond v (commit_last t hist) (discard t hist))).committed ≡ (resolve fs ts (cond v (commit_last t hist') (discard t hist'))).committed) (eqb (get_or fs t 0) 0)
      (λ q. resolve_same fs ts (commit_last t hist) (commit_last t hist') (ap₂ (λ x y. x ++ (y ∷ [])) e (h t (ap (λ v. v || has t ts) (eq-eqb t t refl)))) rest)
      (λ q. resolve_same fs ts (discard t hist) (discard t hist') e rest)
    where
      rest : (u : ℕ) → has u ts ≡ true → of_slot u (of_others t hist.accepted) ≡ of_slot u (of_others t hist'.accepted)
      rest u k = elim (cases_eq u t) [
        | inl w ↦ subst (λ z. of_slot z (of_others t hist.accepted) ≡ of_slot z (of_others t hist'.accepted)) (sym w) (own_of_others t hist.accepted ∙ sym (own_of_others t hist'.accepted))
        | inr w ↦ slot_of_others u t hist.accepted w ∙ h u (by_test (λ v. (v || has u ts) ≡ true) (eqb u t) (λ z. refl) (λ z. k)) ∙ sym (slot_of_others u t hist'.accepted w)
      ]

  -- one more slot that is not committed adds nothing
  pub resolve_undone : (slots : List (Slot Op)) (t : ℕ) → is_committed (slot_at slots t) ≡ false → (ts : List ℕ) (hist : History Op Answer) → (resolve (fates slots) (ts ++ (t ∷ [])) hist).committed ≡ (resolve (fates slots) ts hist).committed
  resolve_undone slots t n [] hist = rw (resolve_test slots t ∙ n) refl
  resolve_undone slots t n (u ∷ ts) hist = resolve_undone slots t n ts (cond (eqb (get_or (fates slots) u 0) 0) (commit_last u hist) (discard u hist))

  pub resolve_one : (slots : List (Slot Op)) (t : ℕ) → is_committed (slot_at slots t) ≡ true → (hist : History Op Answer) → (resolve (fates slots) (t ∷ []) hist).committed ≡ hist.committed ++ (of_slot t hist.accepted ∷ [])
  resolve_one slots t y hist = rw (resolve_test slots t ∙ y) refl

  pub resolve_in_doubt : (fs ts : List ℕ) (hist : History Op Answer) → (resolve fs ts hist).in_doubt ≡ []
  resolve_in_doubt fs [] hist = refl
  resolve_in_doubt fs (t ∷ ts) hist = resolve_in_doubt fs ts (cond (eqb (get_or fs t 0) 0) (commit_last t hist) (discard t hist))

  pub resolve_running : (fs ts : List ℕ) (hist : History Op Answer) → hist.running ≡ [] → (resolve fs ts hist).running ≡ []
  resolve_running fs [] hist e = e
  resolve_running fs (t ∷ ts) hist e =
      by_test (λ v. (resolve fs ts (cond v (commit_last t hist) (discard t hist))).running ≡ []) (eqb (get_or fs t 0) 0)
      (λ q. resolve_running fs ts (commit_last t hist) (ap (without t) e))
      (λ q. resolve_running fs ts (discard t hist) (ap (without t) e))

  -- without those of slot t, the operations are of the slots ts
  abbrev Within : List ℕ → ℕ → List (Accepted Op Answer) → Type 0
  Within ts t xs = of_slots ts (of_others t xs) ≡ of_others t xs

  pub resolve_accepted : (fs ts : List ℕ) (hist : History Op Answer) → of_slots ts hist.accepted ≡ hist.accepted → (resolve fs ts hist).accepted ≡ []
  resolve_accepted fs [] hist e = sym e ∙ nothing hist.accepted
    where
      nothing : (xs : List (Accepted Op Answer)) → filter (λ x. false) xs ≡ []
      nothing [] = refl
      nothing (x ∷ xs) = nothing xs
  resolve_accepted fs (t ∷ ts) hist e =
      by_test (λ v. (resolve fs ts (cond v (commit_last t hist) (discard t hist))).accepted ≡ []) (eqb (get_or fs t 0) 0)
      (λ q. resolve_accepted fs ts (commit_last t hist) rest)
      (λ q. resolve_accepted fs ts (discard t hist) rest)
    where
      both : (xs : List (Accepted Op Answer)) → Within ts t (of_slots (t ∷ ts) xs)
      both [] = refl
      both (x ∷ xs) =
          by_test (λ v. Within ts t (cond (v || has x.slot ts) (x ∷ of_slots (t ∷ ts) xs) (of_slots (t ∷ ts) xs))) (eqb x.slot t)
          (λ q. rw q (both xs))
          (λ q. by_test (λ w. Within ts t (cond w (x ∷ of_slots (t ∷ ts) xs) (of_slots (t ∷ ts) xs))) (has x.slot ts)
          (λ h. rw (q, h) (ap (λ l. x ∷ l) (both xs)))
          (λ h. both xs))

      rest : Within ts t hist.accepted
      rest = subst (Within ts t) e (both hist.accepted)
