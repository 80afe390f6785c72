-- A manager that is dark or due: what power, and calls on a dark manager, do to the invariant.
use Rattle.std.proofs.Common.{◌≡◌, ℕ, true, false, cond, eqb, List, [], ◌∷◌, ◌++◌, length, sym, refl, ◌∙◌, subst, inl, inr, append-nil}
use Rattle.std.proofs.lemmas.Bool.{false≢true, eqb-true, cases_eq}
use Rattle.refusal.specs.Refusals.{darkened}
use Rattle.theory.specs.Theory.{Lock, Theory, Lawful}
use Rattle.theory.specs.Slots.{Slot, slot_at, is_running, fates, Undoing}
use Rattle.theory.specs.Machine.{Limits, Reading, Call, damaged, intact, Begin, Perform, Commit, Abort, Power, Recover, Fate, refused}
use Rattle.theory.specs.History.{History, has, without, doubt, discard_running, resolve, enter}
use Rattle.theory.specs.Serial.{all_of}
use Rattle.theory.proofs.Log.{Entry, by_test, kept_within}
use Rattle.theory.proofs.Explains.{is_committed, Explains, UndoneTo, undoing}
use Rattle.theory.proofs.Runs.{Runs}
use Rattle.theory.proofs.Resolve.{has_without, has_not_without, resolve_alike, resolve_same, resolve_undone}
use Rattle.theory.proofs.Invariant.{OnlyDoubted, Ready, Away, AwayReading}

module _ {Op Answer : Type 0} where
  -- the transaction of slot t put in doubt
  abbrev pub doubted : ℕ → History Op Answer → History Op Answer
  doubted t hist = record { committed = hist.committed; running = without t hist.running; in_doubt = hist.in_doubt ++ (t ∷ []); accepted = hist.accepted }

module _ {Op Answer : Type 0} (th : Theory Op Answer) (lim : Limits Op th.State) (law : Lawful th) where
  -- A ready manager that goes dark, with a log over the same committed transactions.
  pub ready_away : (hist : History Op Answer) (s : th.State) (slots : List (Slot Op)) (locks : List (List Lock)) (r : Ready th lim law hist s slots locks) (s' : th.State) (slots' : List (Slot Op)) (log : List (Entry Op Answer))
      → Explains th law r.base log s' slots' → ((u : ℕ) → is_running (slot_at slots u) ≡ true → is_committed (slot_at slots' u) ≡ false) → length slots' ≡ lim.slots → Away th lim law hist s' slots'
  ready_away hist s slots locks r s' slots' log d o n = record {
    base = r.base;
    log = log;
    runs = subst (λ ts. Runs th th.empty (all_of (resolve (fates slots') ts hist).committed) r.base) (sym r.no_doubt) r.runs;
    explains = d;
    unclosed = λ u h. o u (sym (r.running u) ∙ h);
    size = n;
  }

  -- A commit that is refused as dark.
  pub away_doubt : (hist : History Op Answer) (s : th.State) (slots : List (Slot Op)) (t : ℕ) → Away th lim law hist s slots → Away th lim law (doubt t hist) s slots
  away_doubt hist s slots t a =
      by_test (λ v. Away th lim law (cond v (doubted t hist) hist) s slots) (has t hist.running)
      (λ h. record {
        base = a.base;
        log = a.log;
        runs = subst (λ l. Runs th th.empty (all_of l) a.base) (sym (resolve_undone slots t (a.unclosed t h) hist.in_doubt (doubted t hist) ∙ resolve_same (fates slots) hist.in_doubt (doubted t hist) hist refl (λ u k. refl))) a.runs;
        explains = a.explains;
        unclosed = λ u k. elim (cases_eq u t) [ inl e ↦ absurd (false≢true (sym (has_not_without t hist.running) ∙ subst (λ z. has z (without t hist.running) ≡ true) e k)) | inr n ↦ a.unclosed u (sym (has_without u t hist.running n) ∙ k) ];
        size = a.size;
      })
      (λ h. a)

  -- Any call on a dark manager, and any call that power cuts before its first step.
  pub away_dark : (c : Call Op) (hist : History Op Answer) (s : th.State) (slots : List (Slot Op)) → Away th lim law hist s slots → Away th lim law (enter c (refused darkened) [] hist) s slots
  away_dark (Begin t) hist s slots a = a
  away_dark (Perform t op) hist s slots a = a
  away_dark (Commit t) hist s slots a = away_doubt hist s slots t a
  away_dark (Abort t) hist s slots a = a
  away_dark (Power c) hist s slots a = a
  away_dark Recover hist s slots a = a
  away_dark (Fate t) hist s slots a = a

  pub away_power : (hist : History Op Answer) (s : th.State) (slots : List (Slot Op)) → Away th lim law hist s slots → Away th lim law (discard_running hist) s slots × OnlyDoubted (discard_running hist)
  away_power hist s slots a = (
    record {
      base = a.base;
      log = a.log;
      runs = subst (λ l. Runs th th.empty (all_of l) a.base) (sym (resolve_same (fates slots) hist.in_doubt (discard_running hist) hist refl
          (λ u h. kept_within (λ x. has x.slot hist.in_doubt) (λ x. eqb x.slot u) hist.accepted (λ x q. rw (eqb-true x.slot u q) h)))) a.runs;
      explains = a.explains;
      unclosed = λ u h. absurd (false≢true h);
      size = a.size;
    },
    (refl, kept_within (λ x. has x.slot hist.in_doubt) (λ x. has x.slot hist.in_doubt) hist.accepted (λ x q. q)),
  )

  pub away_undone : (hist : History Op Answer) (s s' : th.State) (slots slots' : List (Slot Op)) (a : Away th lim law hist s slots) → UndoneTo th law a.base slots s' slots' → Away th lim law hist s' slots'
  away_undone hist s s' slots slots' a u = record {
    base = a.base;
    log = u.log;
    runs = subst (λ k. Runs th th.empty (all_of k.committed) a.base) (sym (resolve_alike slots slots' u.alike hist.in_doubt hist)) a.runs;
    explains = u.explains;
    unclosed = λ x h. u.alike.same x ∙ a.unclosed x h;
    size = sym u.alike.size ∙ a.size;
  }

  pub whole : (base s s' : th.State) (log : List (Entry Op Answer)) (slots slots' : List (Slot Op)) → Explains th law base log s slots → Undoing th s slots s' slots' → UndoneTo th law base slots s' slots'
  whole base s s' log slots slots' d u =
      subst (λ l. UndoneTo th law base slots s' l) (append-nil slots')
      (subst (λ l. UndoneTo th law base l s' (slots' ++ [])) (append-nil slots) (undoing th law base u [] [] log (subst (λ l. Explains th law base log s l) (sym (append-nil slots)) d)))

  pub away_any : (c : Call Op) (hist : History Op Answer) (r : Reading Op th.State) → AwayReading th lim law hist r → AwayReading th lim law (enter c (refused darkened) [] hist) r
  away_any c hist (damaged layer place) a = elim a [ ]
  away_any c hist (intact s slots) a = away_dark c hist s slots a

  pub power_keeps : (hist : History Op Answer) (r : Reading Op th.State) → AwayReading th lim law hist r → AwayReading th lim law (discard_running hist) r × OnlyDoubted (discard_running hist)
  power_keeps hist (damaged layer place) a = elim a [ ]
  power_keeps hist (intact s slots) a = away_power hist s slots a
