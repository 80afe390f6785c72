-- Every history of a manager is serial.
use Rattle.std.proofs.Common.{◌≡◌, true, List, [], ◌∷◌, replicate, sym, refl, ap, subst}
use Rattle.std.proofs.lemmas.Bool.{false≢true}
use Rattle.refusal.specs.declared.Refusal.{Refusal}
use Rattle.refusal.specs.Refusals.{darkened}
use Rattle.theory.specs.Theory.{Theory, Lawful}
use Rattle.theory.specs.Slots.{undo_slots}
use Rattle.theory.specs.Machine.{Limits, Reading, View, Call, Reply, Gives, reading, checked, fresh, recovers, outcome, one_group, Cut, Steps, damaged, intact, ready, dark, due, Begin, Perform, Commit, Abort, Power, Recover, Fate, granted, refused, not_done, done, abort_stopped, recover_stopped, damage_stays, powered, cut}
use Rattle.theory.specs.History.{Event, History, enter, history}
use Rattle.theory.specs.Serial.{Serial, fates_told, event, Worked, EveryListIsWorked, GoesOn, RecoveryIsGranted, new, call}
use Rattle.theory.proofs.Invariant.{AwayReading, Invariant, Kept, serial, at_first}
use Rattle.theory.proofs.Away.{away_power, away_undone, whole, away_any, power_keeps}
use Rattle.theory.proofs.Ready.{ready_dark}
use Rattle.theory.proofs.Calls.{keep_begin, keep_perform, keep_commit, keep_abort, keep_fate, left_begin, left_perform, left_commit, left_abort}
use Rattle.theory.proofs.Recovery.{keep_recover, all_undone}

module _ {Op Answer : Type 0} (th : Theory Op Answer) (lim : Limits Op th.State) (law : Lawful th) where
  away_of : (hist : History Op Answer) (v : View Op th.State) → Invariant th lim law hist v → AwayReading th lim law hist (reading v)
  away_of hist (ready s slots locks) h = ready_dark th lim law hist s slots locks h
  away_of hist (dark r) h = h
  away_of hist (due r) h = h.0

  -- One group that was done before power went.
  done_keeps : (hist : History Op Answer) (v : View Op th.State) (c : Call Op) (g : Gives Answer c) → one_group th lim (reading v) c ≡ true → (outcome th lim v c).reply ≡ granted g → Invariant th lim law hist v
      → AwayReading th lim law (enter c (refused darkened) [] hist) (reading (outcome th lim v c).view)
  done_keeps hist (ready s slots locks) (Begin t) g o e h = left_begin th lim law hist s slots locks h t g e
  done_keeps hist (ready s slots locks) (Perform t op) g o e h = left_perform th lim law hist s slots locks h t op g e
  done_keeps hist (ready s slots locks) (Commit t) g o e h = left_commit th lim law hist s slots locks h t g e
  done_keeps hist (dark r) (Begin t) g o e h = h
  done_keeps hist (dark r) (Perform t op) g o e h = h
  done_keeps hist (dark r) (Commit t) g o e h = away_any th lim law (Commit t) hist r h
  done_keeps hist (due r) (Begin t) g o e h = h.0
  done_keeps hist (due r) (Perform t op) g o e h = h.0
  done_keeps hist (due r) (Commit t) g o e h = away_any th lim law (Commit t) hist r h.0
  done_keeps hist v (Abort t) g o e h = absurd (false≢true o)
  done_keeps hist v (Power c) g o e h = absurd (false≢true o)
  done_keeps hist v Recover g o e h = absurd (false≢true o)
  done_keeps hist v (Fate t) g o e h = absurd (false≢true o)

  cut_keeps : (hist : History Op Answer) {v : View Op th.State} {c : Call Op} {r : Reading Op th.State} → Cut th lim v c r → Invariant th lim law hist v → AwayReading th lim law (enter c (refused darkened) [] hist) r
  cut_keeps hist (not_done {v = v} {c = c} o e) h = away_any th lim law c hist (reading v) (away_of hist v h)
  cut_keeps hist (done {v = v} {c = c} {g = g} o e) h = done_keeps hist v c g o e h
  cut_keeps hist (abort_stopped {s = s} {s' = s'} {slots = slots} {locks = locks} {t = t} {x = x} k u) h = left_abort th lim law hist s slots locks h t s' x k u
  cut_keeps hist (recover_stopped {s = s} {s' = s'} {slots = slots} {slots' = slots'} u) h = away_undone th lim law hist s s' slots slots' h.0 (whole th lim law h.0.base s s' h.0.log slots slots' h.0.explains u)
  cut_keeps hist damage_stays h = h.0

  powered_keeps : (hist : History Op Answer) (v : View Op th.State) (c : Call Op) → Invariant th lim law hist v → Kept th lim law hist c (outcome th lim v c)
  powered_keeps hist (ready s slots locks) (Begin t) h = keep_begin th lim law hist s slots locks h t
  powered_keeps hist (ready s slots locks) (Perform t op) h = keep_perform th lim law hist s slots locks h t op
  powered_keeps hist (ready s slots locks) (Commit t) h = keep_commit th lim law hist s slots locks h t
  powered_keeps hist (ready s slots locks) (Abort t) h = keep_abort th lim law hist s slots locks h t
  powered_keeps hist (ready s slots locks) (Power c) h = away_power th lim law hist s slots (ready_dark th lim law hist s slots locks h)
  powered_keeps hist (ready s slots locks) Recover h = h
  powered_keeps hist (ready s slots locks) (Fate t) h = keep_fate th lim law hist s slots locks h t
  powered_keeps hist (dark r) (Begin t) h = h
  powered_keeps hist (dark r) (Perform t op) h = h
  powered_keeps hist (dark r) (Commit t) h = away_any th lim law (Commit t) hist r h
  powered_keeps hist (dark r) (Abort t) h = h
  powered_keeps hist (dark r) (Power c) h = power_keeps th lim law hist r h
  powered_keeps hist (dark r) Recover h = h
  powered_keeps hist (dark r) (Fate t) h = h
  powered_keeps hist (due r) (Begin t) h = h
  powered_keeps hist (due r) (Perform t op) h = h
  powered_keeps hist (due r) (Commit t) h = h
  powered_keeps hist (due r) (Abort t) h = h
  powered_keeps hist (due r) (Power c) h = power_keeps th lim law hist r h.0
  powered_keeps hist (due r) Recover h = keep_recover th lim law hist r h.0 h.1
  powered_keeps hist (due r) (Fate t) h = h

  fates_untold : (c : Call Op) (q : Refusal) (v : View Op th.State) → fates_told th c (refused q) v ≡ []
  fates_untold (Begin t) q v = refl
  fates_untold (Perform t op) q v = refl
  fates_untold (Commit t) q v = refl
  fates_untold (Abort t) q v = refl
  fates_untold (Power c) q v = refl
  fates_untold Recover q v = refl
  fates_untold (Fate t) q v = refl

  always : {past : List (Event Op Answer)} {v : View Op th.State} → Worked th lim past v → Invariant th lim law (history past) v
  always new = at_first th lim law
  always (call {past = past} {v = v} {v' = v'} {c = c} {reply = reply} w s) = step s (always w)
    where
      step : {x y : View Op th.State} {d : Call Op} {q : Reply (Gives Answer d)} → Steps th lim x d q y → Invariant th lim law (history past) x → Invariant th lim law (enter d q (fates_told th d q y) (history past)) y
      step (powered {v = x} {c = d}) h = powered_keeps (history past) x d h
      step (cut {c = d} {r = r} k) h = subst (λ f. AwayReading th lim law (enter d (refused darkened) f (history past)) r) (sym (fates_untold d darkened (dark r))) (cut_keeps (history past) k h)

  pub worked_serial : (past : List (Event Op Answer)) (v : View Op th.State) → Worked th lim past v → Serial th past v
  worked_serial past v w = serial th lim law past v (always w)

  pub goes_on : (v : View Op th.State) (c : Call Op) (reply : Reply (Gives Answer c)) (v' : View Op th.State) → Steps th lim v c reply v' → GoesOn th lim v c reply v'
  goes_on v c reply v' k past w = (call w k, worked_serial (event th c reply v' ∷ past) v' (call w k))

  pub recovery_granted : RecoveryIsGranted th lim
  recovery_granted past r w = go r (always w).0
    where
      go : (q : Reading Op th.State) → AwayReading th lim law (history past) q → (recovers th lim q).reply ≡ granted tt
      go (damaged layer place) a = elim a [ ]
      go (intact s slots) a =
          let u = undo_slots th s slots in
          ap (λ q. (checked (q ∷ []) (due (intact u.0 u.1)) (record { reply = granted tt; view = ready u.0 u.1 (replicate lim.slots []) })).reply) (all_undone th lim law a.base [] slots a.log s a.explains 0)

-- A new manager has the empty list of events behind it.
pub worked_new : {Op Answer : Type 0} (th : Theory Op Answer) (lim : Limits Op th.State) (v : View Op th.State) → v ≡ fresh th lim → Worked th lim [] v
worked_new th lim v e = subst (λ x. Worked th lim [] x) (sym e) new

-- Each list of calls can be worked, with no law asked.
pub every_list : {Op Answer : Type 0} (th : Theory Op Answer) (lim : Limits Op th.State) → EveryListIsWorked th lim
every_list th lim [] = ([], fresh th lim, new, refl)
every_list th lim (c ∷ calls) =
    let w = every_list th lim calls in
    let o = outcome th lim w.1 c in
    (event th c o.reply o.view ∷ w.0, o.view, call w.2 powered, ap (λ l. c ∷ l) w.3)
