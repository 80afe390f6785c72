-- The calls of a journal as those of a store, but for commit and recover. Assumes nothing.
use Rattle.std.specs.Prelude.{◌≡◌, ℕ, zero, suc, ◌+◌, ◌-◌, ◌<◌, ◌≤◌, Bool, true, false, cond, ◌⊎◌, List, [], ◌∷◌, ◌++◌, length, get_or, drop, set, replicate, Some, None, Ok, Err, Option, Result, ◌==◌, nat_lt, slice_index_or, slice_set, refl}
use Rattle.std.proofs.Common.{sym, ◌∙◌, subst, inl, inr, ⊎_elim, arith, length-set, length-drop, get_or-set_same, get_or-set_other}
use Rattle.std.proofs.Math.Path.{ap}
use Rattle.std.proofs.lemmas.List.{set-set, take_all, get_or-drop, set_comm}
use Rattle.std.proofs.lemmas.Bool.{cases_eq, eq-eqb, ne_eqb, lt-ltb, le-ltb, cond-true, cond-false, true≢false}
use Rattle.refusal.specs.declared.Reason.TheVariants as reason
use Rattle.refusal.specs.declared.Refusal.{Refusal}
use Rattle.refusal.specs.Refusals.{refusal}
use Rattle.disk.specs.Device.{Each, answer}
use Rattle.disk.specs.Runs.{Write, stored}
use Rattle.store.specs.declared.Needs.{Needs}
use Rattle.store.specs.declared.Needs.TheVariants as needs
use Rattle.store.specs.Meaning.{Content, Call, phase_of, phase_bar, barring, bar, next, Granted, Refused, barred, Outcome, Filled, working, or_else, within, room, Fitting, Formed}
use Rattle.store.specs.Meaning as call
use Rattle.journal.specs.declared.state.Mode.{Mode}
use Rattle.journal.specs.declared.state.Mode.TheVariants.{Due, Idle, Open}
use Rattle.journal.specs.Record.{member, Different}
use Rattle.journal.specs.Names.{names}
use Rattle.journal.specs.Layout.{cells_of, naming, durable, framed, overlaid}
use Rattle.journal.specs.Groups.{looked_up, remembered}
use Rattle.journal.specs.Meaning.{content, finding_of, puts_of, Sized, Grouped, RecordBlank, Opened, Whole, pended}
use Rattle.journal.specs.Stored.{length_stored}
use Rattle.journal.specs.Records.{different_more, named_are}
use Rattle.journal.specs.Protocol.{durable_at}

clash : {X A : Type 0} {o : Option A} {a : A} → o ≡ Some a → o ≡ None → X
clash p q = let z : ◌≡◌ {A = ℕ} 0 1 = cc in absurd (omega arith)

-- what an answer says
pub answer_err : (o : Option Refusal) (e : Refusal) → Err e ≡ answer o → o ≡ Some e
answer_err None e q = let z : ◌≡◌ {A = ℕ} 0 1 = cc in absurd (omega arith)
answer_err (Some f) e q = cc

pub answer_ok : (o : Option Refusal) (x : Unit) → Ok x ≡ answer o → o ≡ None
answer_ok None x q = refl
answer_ok (Some f) x q = let z : ◌≡◌ {A = ℕ} 0 1 = cc in absurd (omega arith)

module _ (on : Bool) (b : List (List ℕ)) (mode : Mode) (ws : List Write) where
  -- a call whose phase is wrong
  pub refused_phase : (k : Call) (n : Needs) (e : Refusal) → (barring n (content on b mode ws) ≡ Some e → bar k (content on b mode ws) ≡ Some e) → Err e ≡ answer (barring n (content on b mode ws)) → Refused k (content on b mode ws) e (content on b mode ws)
  refused_phase k n e h q = barred (h (answer_err (barring n (content on b mode ws)) e q)) refl

-- the phase is the first thing that bars a call
pub first_begin : (m : Content) (e : Refusal) → barring needs.Idle m ≡ Some e → bar call.begin m ≡ Some e
unfolding bar
first_begin m e h = h

pub first_get : (m : Content) (n : ℕ) (e : Refusal) → barring needs.Live m ≡ Some e → bar (call.get n) m ≡ Some e
unfolding bar
first_get m n e h = ap (λ o. or_else o (within n m.shape)) h

pub first_put : (m : Content) (n : ℕ) (v : List ℕ) (e : Refusal) → barring needs.Open m ≡ Some e → bar (call.put n v) m ≡ Some e
unfolding bar
first_put m n v e h = ap (λ o. or_else o (or_else (within n m.shape) (room m.stage m.shape))) h

pub first_commit : (m : Content) (e : Refusal) → barring needs.Open m ≡ Some e → bar call.commit m ≡ Some e
unfolding bar
first_commit m e h = h

pub first_abort : (m : Content) (e : Refusal) → barring needs.Open m ≡ Some e → bar call.abort m ≡ Some e
unfolding bar
first_abort m e h = h

pub first_recover : (m : Content) (e : Refusal) → barring needs.Due m ≡ Some e → bar call.recover m ≡ Some e
unfolding bar
first_recover m e h = ap (λ o. or_else o (call.found (call.finding m.stage))) h

-- where the phase is right, power is on and the mode is known
pub record Stands (on : Bool) (mode mode' : Mode) : Type 0 where
  pub lit : on ≡ true
  pub at : mode ≡ mode'

module _ (b : List (List ℕ)) (ws : List Write) where
  pub stands_idle : (on : Bool) (mode : Mode) → barring needs.Idle (content on b mode ws) ≡ None → Stands on mode Idle
  stands_idle true Idle h = record { lit = refl; at = refl }
  stands_idle true Due h = absurd (let z : ◌≡◌ {A = ℕ} 0 1 = cc in omega arith)
  stands_idle true (Open p) h = absurd (let z : ◌≡◌ {A = ℕ} 0 1 = cc in omega arith)
  stands_idle false mode h = absurd (let z : ◌≡◌ {A = ℕ} 0 1 = cc in omega arith)

  pub stands_open : (on : Bool) (mode : Mode) → barring needs.Open (content on b mode ws) ≡ None → Stands on mode (Open (puts_of mode))
  stands_open true (Open p) h = record { lit = refl; at = refl }
  stands_open true Due h = absurd (let z : ◌≡◌ {A = ℕ} 0 1 = cc in omega arith)
  stands_open true Idle h = absurd (let z : ◌≡◌ {A = ℕ} 0 1 = cc in omega arith)
  stands_open false mode h = absurd (let z : ◌≡◌ {A = ℕ} 0 1 = cc in omega arith)

  pub stands_due : (on : Bool) (mode : Mode) → barring needs.Due (content on b mode ws) ≡ None → Stands on mode Due
  stands_due true Due h = record { lit = refl; at = refl }
  stands_due true (Open p) h = absurd (let z : ◌≡◌ {A = ℕ} 0 1 = cc in omega arith)
  stands_due true Idle h = absurd (let z : ◌≡◌ {A = ℕ} 0 1 = cc in omega arith)
  stands_due false mode h = absurd (let z : ◌≡◌ {A = ℕ} 0 1 = cc in omega arith)

  pub stands_live : (on : Bool) (mode : Mode) → barring needs.Live (content on b mode ws) ≡ None → Stands on mode Idle ⊎ Stands on mode (Open (puts_of mode))
  stands_live true Idle h = inl (record { lit = refl; at = refl })
  stands_live true (Open p) h = inr (record { lit = refl; at = refl })
  stands_live true Due h = absurd (let z : ◌≡◌ {A = ℕ} 0 1 = cc in omega arith)
  stands_live false mode h = absurd (let z : ◌≡◌ {A = ℕ} 0 1 = cc in omega arith)

-- begin
pub begun : (on : Bool) (b : List (List ℕ)) (mode : Mode) (ws none : List Write) → Stands on mode Idle → none ≡ [] → Granted call.begin (content on b mode ws) (content on b (Open 0) none)
unfolding bar next
begun on b mode ws none s e =
    subst (λ (x : Bool). Granted call.begin (content x b mode ws) (content x b (Open 0) none)) (sym s.lit)
    (subst (λ (x : Mode). Granted call.begin (content true b x ws) (content true b (Open 0) none)) (sym s.at)
    (subst (λ (x : List Write). Granted call.begin (content true b Idle ws) (content true b (Open 0) x)) (sym e) (record { free = refl; leaves = refl })))

pub begun_whole : (on : Bool) (b : List (List ℕ)) (mode : Mode) (ws none : List Write) → Stands on mode Idle → none ≡ [] → Whole on b mode ws → Whole on b (Open 0) none
begun_whole on b mode ws none s e w =
    record { record_blank = go on mode s.lit s.at w.record_blank; opened = subst (λ (x : List Write). Grouped b x 0) (sym e) (record { different = tt; sized = tt; few = omega arith; most = omega arith }) }
  where
    go : (on : Bool) (mode : Mode) → on ≡ true → mode ≡ Idle → RecordBlank on b mode → RecordBlank on b (Open 0)
    go true Idle p q t = t
    go true Due p q t = absurd (let z : ◌≡◌ {A = ℕ} 0 1 = cc in omega arith)
    go true (Open k) p q t = t
    go false mode p q t = tt

-- abort
pub aborted : (on : Bool) (b : List (List ℕ)) (mode : Mode) (ws : List Write) (p : ℕ) → Stands on mode (Open p) → Granted call.abort (content on b mode ws) (content on b Idle ws)
unfolding bar next
aborted on b mode ws p s =
    subst (λ (x : Bool). Granted call.abort (content x b mode ws) (content x b Idle ws)) (sym s.lit)
    (subst (λ (x : Mode). Granted call.abort (content true b x ws) (content true b Idle ws)) (sym s.at) (record { free = refl; leaves = refl }))

pub aborted_whole : (on : Bool) (b : List (List ℕ)) (mode : Mode) (ws : List Write) (p : ℕ) → Stands on mode (Open p) → Whole on b mode ws → Whole on b Idle ws
aborted_whole on b mode ws p s w = record { record_blank = go on mode s.at w.record_blank; opened = tt }
  where
    go : (on : Bool) (mode : Mode) → mode ≡ Open p → RecordBlank on b mode → RecordBlank on b Idle
    go true Idle q t = t
    go true Due q t = absurd (let z : ◌≡◌ {A = ℕ} 0 1 = cc in omega arith)
    go true (Open k) q t = t
    go false mode q t = tt

-- power
pub powered : (on : Bool) (b : List (List ℕ)) (mode : Mode) (ws : List Write) (c : ℕ) → RecordBlank on b mode → content true b Due ws ≡ next (call.power c) (content on b mode ws)
unfolding next
powered true b Due ws c w = refl
powered true b Idle ws c w = ap (λ (x : call.Finding). record { shape = (content true b Due ws).shape; durable = durable b; stage = call.due x }) (ap finding_of w)
powered true b (Open p) ws c w = ap (λ (x : call.Finding). record { shape = (content true b Due ws).shape; durable = durable b; stage = call.due x }) (ap finding_of w)
powered false b mode ws c w = refl

-- put: what the working content becomes
stored_comm : (n : ℕ) (v : List ℕ) (ws : List Write) (c : List (List ℕ)) → member n (names ws) ≡ false → stored ws (slice_set c n v) ≡ slice_set (stored ws c) n v
stored_comm n v [] c m = refl
stored_comm n v (w ∷ ws) c m =
    ⊎_elim
    (λ e. absurd (true≢false (sym (cond-true (w.0 == n) true (member n (names ws)) (eq-eqb w.0 n e)) ∙ m)))
    (λ e. ap (stored ws) (set_comm c n w.0 v w.1 (λ q. e (sym q))) ∙ stored_comm n v ws (slice_set c w.0 w.1) (sym (cond-false (w.0 == n) true (member n (names ws)) (ne_eqb w.0 n e)) ∙ m))
    (cases_eq w.0 n)

pub remembered_stored : (cells n : ℕ) (v : List ℕ) (ws : List Write) (c : List (List ℕ)) → Different cells (names ws) → stored (remembered n v ws) c ≡ slice_set (stored ws c) n v
remembered_stored cells n v [] c d = refl
remembered_stored cells n v (w ∷ ws) c d =
    ⊎_elim
    (λ e.
    let apart : member n (names ws) ≡ false = subst (λ x. member x (names ws) ≡ false) e d.1 in
    ap (λ l. stored l c) (cond-true (w.0 == n) ((n, v) ∷ ws) (w ∷ remembered n v ws) (eq-eqb w.0 n e))
    ∙ stored_comm n v ws c apart
    ∙ sym (set-set (stored ws c) n w.1 v)
    ∙ ap (λ l. set l n v) (sym (stored_comm n w.1 ws c apart))
    ∙ ap (λ x. set (stored ws (slice_set c x w.1)) n v) (sym e))
    (λ e. ap (λ l. stored l c) (cond-false (w.0 == n) ((n, v) ∷ ws) (w ∷ remembered n v ws) (ne_eqb w.0 n e)) ∙ remembered_stored cells n v ws (slice_set c w.0 w.1) d.2)
    (cases_eq w.0 n)

names_remembered : (n : ℕ) (v : List ℕ) (ws : List Write) → (names (remembered n v ws) ≡ names ws) ⊎ ((member n (names ws) ≡ false) × (names (remembered n v ws) ≡ names ws ++ n ∷ []))
names_remembered n v [] = inr (refl, refl)
names_remembered n v (w ∷ ws) =
    ⊎_elim
    (λ e. inl (ap names (cond-true (w.0 == n) ((n, v) ∷ ws) (w ∷ remembered n v ws) (eq-eqb w.0 n e)) ∙ ap (λ x. x ∷ names ws) (sym e)))
    (λ e.
    let open_up : names (remembered n v (w ∷ ws)) ≡ w.0 ∷ names (remembered n v ws) = ap names (cond-false (w.0 == n) ((n, v) ∷ ws) (w ∷ remembered n v ws) (ne_eqb w.0 n e)) in
    ⊎_elim
    (λ same. inl (open_up ∙ ap (λ l. w.0 ∷ l) same))
    (λ new. inr (cond-false (w.0 == n) true (member n (names ws)) (ne_eqb w.0 n e) ∙ new.0, open_up ∙ ap (λ l. w.0 ∷ l) new.1))
    (names_remembered n v ws))
    (cases_eq w.0 n)

sized_remembered : (n : ℕ) (v : List ℕ) (ws : List Write) → length v ≡ 256 → Sized ws → Sized (remembered n v ws)
sized_remembered n v [] l s = (l, tt)
sized_remembered n v (w ∷ ws) l s =
    ⊎_elim
    (λ e. subst Sized (sym (cond-true (w.0 == n) ((n, v) ∷ ws) (w ∷ remembered n v ws) (eq-eqb w.0 n e))) (l, s.1))
    (λ e. subst Sized (sym (cond-false (w.0 == n) ((n, v) ∷ ws) (w ∷ remembered n v ws) (ne_eqb w.0 n e))) (s.0, sized_remembered n v ws l s.1))
    (cases_eq w.0 n)

length_remembered : (n : ℕ) (v : List ℕ) (ws : List Write) → length (remembered n v ws) ≤ length ws + 1
length_remembered n v [] = omega arith
length_remembered n v (w ∷ ws) =
    ⊎_elim
    (λ e. omega (arith, ap length (cond-true (w.0 == n) ((n, v) ∷ ws) (w ∷ remembered n v ws) (eq-eqb w.0 n e))))
    (λ e. omega (arith, ap length (cond-false (w.0 == n) ((n, v) ∷ ws) (w ∷ remembered n v ws) (ne_eqb w.0 n e)), length_remembered n v ws))
    (cases_eq w.0 n)

pub grouped_put : (b : List (List ℕ)) (ws : List Write) (p n : ℕ) (v : List ℕ) → Grouped b ws p → n < cells_of b → length v ≡ 256 → p < 6 → Grouped b (remembered n v ws) (p + 1)
grouped_put b ws p n v g h l few = record {
  different = ⊎_elim (λ same. subst (Different (cells_of b)) (sym same) g.different) (λ new. subst (Different (cells_of b)) (sym new.1) (different_more (cells_of b) n (names ws) g.different h new.0)) (names_remembered n v ws);
  sized = sized_remembered n v ws l g.sized;
  few = omega (arith, length_remembered n v ws, g.few);
  most = omega arith;
}

module _ (b : List (List ℕ)) (ws : List Write) (p n : ℕ) (v : List ℕ) where
  pub put_granted : n < cells_of b → p < 6 → length v ≡ 256 → Grouped b ws p → Granted (call.put n v) (content true b (Open p) ws) (content true b (Open (p + 1)) (remembered n v ws))
  unfolding bar next
  put_granted h few l g = record {
    free = ap (λ t. or_else (cond t None (Some (refusal reason.OutOfRange 1 n))) (cond (nat_lt p 6) None (Some (refusal reason.LimitReached 1 6)))) (lt-ltb n (cells_of b) h) ∙ ap (λ t. cond t None (Some (refusal reason.LimitReached 1 6))) (lt-ltb p 6 few);
    leaves = ap (λ (x : call.Cells). record { shape = (content true b (Open p) ws).shape; durable = durable b; stage = call.grouped x (p + 1) }) (remembered_stored (cells_of b) n v ws (durable b) g.different ∙ ap (set (stored ws (durable b)) n) (sym (take_all 256 v (omega (arith, l)))));
  }

  pub put_beyond : cells_of b ≤ n → bar (call.put n v) (content true b (Open p) ws) ≡ Some (refusal reason.OutOfRange 1 n)
  unfolding bar
  put_beyond h = ap (λ t. or_else (cond t None (Some (refusal reason.OutOfRange 1 n))) (cond (nat_lt p 6) None (Some (refusal reason.LimitReached 1 6)))) (le-ltb n (cells_of b) h)

  pub put_full : n < cells_of b → 6 ≤ p → bar (call.put n v) (content true b (Open p) ws) ≡ Some (refusal reason.LimitReached 1 6)
  unfolding bar
  put_full h full = ap (λ t. or_else (cond t None (Some (refusal reason.OutOfRange 1 n))) (cond (nat_lt p 6) None (Some (refusal reason.LimitReached 1 6)))) (lt-ltb n (cells_of b) h) ∙ ap (λ t. cond t None (Some (refusal reason.LimitReached 1 6))) (le-ltb p 6 full)

-- get: what the group has put, else the page itself
pub looked_none : (n : ℕ) (ws : List Write) (c : List (List ℕ)) → None ≡ looked_up n ws → slice_index_or (stored ws c) n [] ≡ slice_index_or c n []
looked_none n [] c e = refl
looked_none n (w ∷ ws) c e =
    ⊎_elim
    (λ q. let z : None ≡ Some w.1 = e ∙ cond-true (w.0 == n) (Some w.1) (looked_up n ws) (eq-eqb w.0 n q) in clash z refl)
    (λ q. looked_none n ws (slice_set c w.0 w.1) (e ∙ cond-false (w.0 == n) (Some w.1) (looked_up n ws) (ne_eqb w.0 n q)) ∙ get_or-set_other c w.0 n w.1 [] (λ x. q (sym x)))
    (cases_eq w.0 n)

absent_looked : (n : ℕ) (ws : List Write) → member n (names ws) ≡ false → None ≡ looked_up n ws
absent_looked n [] m = refl
absent_looked n (w ∷ ws) m =
    ⊎_elim
    (λ q. absurd (true≢false (sym (cond-true (w.0 == n) true (member n (names ws)) (eq-eqb w.0 n q)) ∙ m)))
    (λ q. absent_looked n ws (sym (cond-false (w.0 == n) true (member n (names ws)) (ne_eqb w.0 n q)) ∙ m) ∙ sym (cond-false (w.0 == n) (Some w.1) (looked_up n ws) (ne_eqb w.0 n q)))
    (cases_eq w.0 n)

some_same : {x y : List ℕ} → Some x ≡ Some y → x ≡ y
some_same e = cc

pub looked_some : (cells n : ℕ) (v : List ℕ) (ws : List Write) (c : List (List ℕ)) → Different cells (names ws) → Sized ws → n < length c → Some v ≡ looked_up n ws → (slice_index_or (stored ws c) n [] ≡ v) × (length v ≡ 256)
looked_some cells n v [] c d s h e = clash refl e
looked_some cells n v (w ∷ ws) c d s h e =
    ⊎_elim
    (λ q.
    let is : v ≡ w.1 = some_same (e ∙ cond-true (w.0 == n) (Some w.1) (looked_up n ws) (eq-eqb w.0 n q)) in
    let apart : None ≡ looked_up n ws = subst (λ x. None ≡ looked_up x ws) q (absent_looked w.0 ws d.1) in
    (looked_none n ws (slice_set c w.0 w.1) apart ∙ ap (λ x. get_or (slice_set c x w.1) n []) q ∙ get_or-set_same c n w.1 [] h ∙ sym is, ap length is ∙ s.0))
    (λ q. looked_some cells n v ws (slice_set c w.0 w.1) d.2 s.1 (rw (length-set c w.0 w.1) h) (e ∙ cond-false (w.0 == n) (Some w.1) (looked_up n ws) (ne_eqb w.0 n q)))
    (cases_eq w.0 n)

pub get_granted : (on : Bool) (b : List (List ℕ)) (mode : Mode) (ws : List Write) (n : ℕ) → barring needs.Live (content on b mode ws) ≡ None → n < cells_of b → Granted (call.get n) (content on b mode ws) (content on b mode ws)
unfolding bar next
get_granted on b mode ws n l h = record { free = ap (λ o. or_else o (within n (content on b mode ws).shape)) l ∙ cond-true (nat_lt n (cells_of b)) None (Some (refusal reason.OutOfRange 1 n)) (lt-ltb n (cells_of b) h); leaves = refl }

pub get_beyond : (on : Bool) (b : List (List ℕ)) (mode : Mode) (ws : List Write) (n : ℕ) → barring needs.Live (content on b mode ws) ≡ None → cells_of b ≤ n → bar (call.get n) (content on b mode ws) ≡ Some (refusal reason.OutOfRange 1 n)
unfolding bar
get_beyond on b mode ws n l h = ap (λ o. or_else o (within n (content on b mode ws).shape)) l ∙ cond-false (nat_lt n (cells_of b)) None (Some (refusal reason.OutOfRange 1 n)) (le-ltb n (cells_of b) h)

-- a whole block fills the buffer
append_none : (xs : List ℕ) → xs ++ [] ≡ xs
append_none [] = refl
append_none (x ∷ xs) = ap (λ l. x ∷ l) (append_none xs)

pub padded_whole : (v : List ℕ) → length v ≡ 256 → call.padded v ≡ v
padded_whole v h = ap (λ n. v ++ replicate (256 - n) 0) h ∙ append_none v

-- the sizes of what is stored
pub each_at : (z : ℕ) (xs : List (List ℕ)) (i : ℕ) → Each z xs → i < length xs → length (slice_index_or xs i []) ≡ z
each_at z [] i e h = absurd (omega arith)
each_at z (x ∷ xs) zero e h = e.0
each_at z (x ∷ xs) (suc i) e h = each_at z xs i e.1 (omega arith)

each_set : (z : ℕ) (xs : List (List ℕ)) (i : ℕ) (v : List ℕ) → Each z xs → length v ≡ z → Each z (slice_set xs i v)
each_set z [] i v e l = tt
each_set z (x ∷ xs) zero v e l = (l, e.1)
each_set z (x ∷ xs) (suc i) v e l = (e.0, each_set z xs i v e.1 l)

each_stored : (ws : List Write) (xs : List (List ℕ)) → Sized ws → Each 256 xs → Each 256 (stored ws xs)
each_stored [] xs s e = e
each_stored (w ∷ ws) xs s e = each_stored ws (slice_set xs w.0 w.1) s.1 (each_set 256 xs w.0 w.1 e s.0)

each_drop : (n : ℕ) (xs : List (List ℕ)) → Each 256 xs → Each 256 (drop n xs)
each_drop zero xs e = e
each_drop (suc n) [] e = tt
each_drop (suc n) (x ∷ xs) e = each_drop n xs e.1

sized_framed : (i : ℕ) (ps : List ℕ) (b : List (List ℕ)) → Each 256 b → i + length ps < length b → Sized (framed i ps b)
sized_framed i [] b e h = tt
sized_framed i (p ∷ ps) b e h = (each_at 256 b (1 + i) e (omega arith), sized_framed (i + 1) ps b e (omega arith))

pub durable_fits : (b : List (List ℕ)) → 8 ≤ length b → Each 256 b → Fitting (content true b Idle []).shape (durable b)
unfolding durable
durable_fits b l e = go (naming b) refl
  where
    rest : length (drop 7 b) ≡ length b - 7
    rest = length-drop 7 b

    go : (o : Option (List ℕ)) → naming b ≡ o → Fitting (content true b Idle []).shape (overlaid o b)
    go None q = record { count = rest; even = each_drop 7 b e }
    go (Some ps) q =
        let few = (named_are (cells_of b) (slice_index_or b 0 []) ps q).0 in
        record { count = length_stored (framed 0 ps b) (drop 7 b) ∙ rest; even = each_stored (framed 0 ps b) (drop 7 b) (sized_framed 0 ps b e (omega arith)) (each_drop 7 b e) }

pub journal_formed : (on : Bool) (b : List (List ℕ)) (mode : Mode) (ws : List Write) → 8 ≤ length b → length b ≤ 4096 → Each 256 b → Whole on b mode ws → Formed (content on b mode ws)
journal_formed on b mode ws l m e w = record {
  size = inr refl;
  small = omega arith;
  durable = fits;
  group = go on mode w.opened;
}
  where
    fits : Fitting (content true b Idle []).shape (durable b)
    fits = durable_fits b l e

    go : (on : Bool) (mode : Mode) → Opened b mode ws → call.Grouping (content on b mode ws).shape (content on b mode ws).stage
    go true Due o = tt
    go true Idle o = tt
    go true (Open p) o = (record { count = length_stored ws (durable b) ∙ fits.count; even = each_stored ws (durable b) o.sized fits.even }, o.most)
    go false mode o = tt

-- what a get finds
module _ (b : List (List ℕ)) (ws : List Write) (n : ℕ) (l : 8 ≤ length b) (e : Each 256 b) (h : n < cells_of b) where
  page_at : naming b ≡ Some [] → slice_index_or (durable b) n [] ≡ slice_index_or b (7 + n) []
  page_at q = ap (λ c. get_or c n []) (durable_at b [] q) ∙ get_or-drop 7 b n []

  block_size : length (slice_index_or b (7 + n) []) ≡ 256
  block_size = each_at 256 b (7 + n) e (omega arith)

  whole_block : (x : List ℕ) → x ≡ slice_index_or b (7 + n) [] → call.padded x ≡ slice_index_or b (7 + n) []
  whole_block x q = ap call.padded q ∙ padded_whole (slice_index_or b (7 + n) []) block_size

  pub got_block : (on : Bool) (mode : Mode) → barring needs.Live (content on b mode ws) ≡ None → Whole on b mode ws → None ≡ pended mode n ws → call.padded (slice_index_or (working (content on b mode ws)) n []) ≡ slice_index_or b (7 + n) []
  got_block true Idle live w o = whole_block (slice_index_or (durable b) n []) (page_at w.record_blank)
  got_block true (Open p) live w o = whole_block (slice_index_or (stored ws (durable b)) n []) (looked_none n ws (durable b) o ∙ page_at w.record_blank)
  got_block true Due live w o = absurd (let z : ◌≡◌ {A = ℕ} 0 1 = cc in omega arith)
  got_block false mode live w o = absurd (let z : ◌≡◌ {A = ℕ} 0 1 = cc in omega arith)

  pub got_page : (v : List ℕ) (on : Bool) (mode : Mode) → barring needs.Live (content on b mode ws) ≡ None → Whole on b mode ws → Some v ≡ pended mode n ws → call.padded (slice_index_or (working (content on b mode ws)) n []) ≡ v
  got_page v true Idle live w o = clash refl o
  got_page v true (Open p) live w o =
      let fits = (durable_fits b l e).count in
      let k = looked_some (cells_of b) n v ws (durable b) w.opened.different w.opened.sized (omega (arith, fits)) o in
      ap call.padded k.0 ∙ padded_whole v k.1
  got_page v true Due live w o = clash refl o
  got_page v false mode live w o = absurd (let z : ◌≡◌ {A = ℕ} 0 1 = cc in omega arith)

pub live_on : (on : Bool) (b : List (List ℕ)) (mode : Mode) (ws : List Write) → barring needs.Live (content on b mode ws) ≡ None → on ≡ true
live_on true b mode ws h = refl
live_on false b mode ws h = absurd (let z : ◌≡◌ {A = ℕ} 0 1 = cc in omega arith)

pub get_filled : (m : Content) (n : ℕ) (r : Result Unit Refusal) (v old out : List ℕ) → Granted (call.get n) m m → r ≡ Ok tt → out ≡ v → Outcome (call.get n) m r m × Filled r v old out
get_filled m n (Ok x) v old out g e f = (g, f)
get_filled m n (Err x) v old out g e f = absurd (let z : ◌≡◌ {A = ℕ} 0 1 = cc in omega arith)

-- a put that the open group takes
pub put_call : (on : Bool) (b : List (List ℕ)) (mode : Mode) (ws now : List Write) (n : ℕ) (v : List ℕ) → Stands on mode (Open (puts_of mode)) → Whole on b mode ws → n < cells_of b → puts_of mode < 6 → length v ≡ 256 → now ≡ remembered n v ws
    → Granted (call.put n v) (content on b mode ws) (content on b (Open (puts_of mode + 1)) now) × Whole on b (Open (puts_of mode + 1)) now
put_call true b (Open p) ws now n v s w h few l e =
    subst (λ (x : List Write). Granted (call.put n v) (content true b (Open p) ws) (content true b (Open (p + 1)) x) × Whole true b (Open (p + 1)) x) (sym e)
    (put_granted b ws p n v h few l w.opened, record { record_blank = w.record_blank; opened = grouped_put b ws p n v w.opened h l few })
put_call true b Due ws now n v s w h few l e = absurd (let q = s.at in let z : ◌≡◌ {A = ℕ} 0 1 = cc in omega arith)
put_call true b Idle ws now n v s w h few l e = absurd (let q = s.at in let z : ◌≡◌ {A = ℕ} 0 1 = cc in omega arith)
put_call false b mode ws now n v s w h few l e = absurd (let q = s.lit in let z : ◌≡◌ {A = ℕ} 0 1 = cc in omega arith)

-- one that it does not
pub put_refused : (on : Bool) (b : List (List ℕ)) (mode : Mode) (ws : List Write) (n : ℕ) (v : List ℕ) (e : Refusal) → Stands on mode (Open (puts_of mode)) → bar (call.put n v) (content true b (Open (puts_of mode)) ws) ≡ Some e → Refused (call.put n v) (content on b mode ws) e (content on b mode ws)
put_refused true b (Open p) ws n v e s h = barred h refl
put_refused true b Due ws n v e s h = absurd (let q = s.at in let z : ◌≡◌ {A = ℕ} 0 1 = cc in omega arith)
put_refused true b Idle ws n v e s h = absurd (let q = s.at in let z : ◌≡◌ {A = ℕ} 0 1 = cc in omega arith)
put_refused false b mode ws n v e s h = absurd (let q = s.lit in let z : ◌≡◌ {A = ℕ} 0 1 = cc in omega arith)

pub opened_at : (on : Bool) (b : List (List ℕ)) (mode : Mode) (ws : List Write) → Stands on mode (Open (puts_of mode)) → Whole on b mode ws → Grouped b ws (puts_of mode)
opened_at on b (Open p) ws s w = w.opened
opened_at on b Due ws s w = absurd (let q = s.at in let z : ◌≡◌ {A = ℕ} 0 1 = cc in omega arith)
opened_at on b Idle ws s w = absurd (let q = s.at in let z : ◌≡◌ {A = ℕ} 0 1 = cc in omega arith)
