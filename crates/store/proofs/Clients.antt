-- What a client of any store needs: a call that nothing bars is granted, or power went and the store is dark.
use Rattle.std.proofs.Common.{◌≡◌, ℕ, ◌+◌, ◌<◌, ◌≤◌, cond, ◌⊎◌, List, take, set, Some, None, Ok, Err, Option, Result, sym, refl, ap, ◌∙◌, subst, inl, inr, ⊎_elim, arith}
use Rattle.std.proofs.lemmas.Bool.{lt-ltb, le-ltb, cases_lt}
use Rattle.refusal.specs.declared.Reason.TheVariants as reason
use Rattle.refusal.specs.declared.Refusal.{Refusal}
use Rattle.refusal.specs.Refusals.{refusal, darkened}
use Rattle.disk.specs.Device.{answer}
use Rattle.store.specs.declared.Needs.TheVariants as needs
use Rattle.store.specs.Meaning.{Cells, Stage, Finding, barring, or_else, within, idle, grouped, dark, sound, Content, Call, working, finding, dimmed, with_stage, bar, next, Left, undone, done, Granted, Refused, barred, cut, Outcome, Fitting, Grouping, Formed}
use Rattle.store.specs.Meaning as call

clash : {X A : Type 0} {o : Option A} {a : A} → o ≡ Some a → o ≡ None → X
clash p q = let z : ◌≡◌ {A = ℕ} 0 1 = cc in absurd (omega arith)

-- the refusal of a call that nothing bars
pub lost : {k : Call} {m : Content} {e : Refusal} {after : Content} → bar k m ≡ None → Refused k m e after → (e ≡ darkened) × Left k m after
lost free (barred b s) = clash b free
lost free (cut p l) = (p, l)

-- when nothing bars a call
pub begin_free : (m : Content) → m.stage ≡ idle → bar call.begin m ≡ None
unfolding bar
begin_free m i = rw i

pub get_free_idle : (m : Content) (n : ℕ) → m.stage ≡ idle → n < m.shape.cells → bar (call.get n) m ≡ None
unfolding bar
get_free_idle m n i h = rw (i, lt-ltb n m.shape.cells h)

pub get_free : (m : Content) (n : ℕ) (w : Cells) (p : ℕ) → m.stage ≡ grouped w p → n < m.shape.cells → bar (call.get n) m ≡ None
unfolding bar
get_free m n w p g h = rw (g, lt-ltb n m.shape.cells h)

pub put_free : (m : Content) (n : ℕ) (v : List ℕ) (w : Cells) (p : ℕ) → m.stage ≡ grouped w p → n < m.shape.cells → p < m.shape.limit → bar (call.put n v) m ≡ None
unfolding bar
put_free m n v w p g h k = rw (g, lt-ltb n m.shape.cells h, lt-ltb p m.shape.limit k)

pub commit_free : (m : Content) (w : Cells) (p : ℕ) → m.stage ≡ grouped w p → bar call.commit m ≡ None
unfolding bar
commit_free m w p g = rw g

pub abort_barred : (m : Content) → m.stage ≡ dark sound → bar call.abort m ≡ Some darkened
unfolding bar
abort_barred m d = rw d

-- the content that a get reads
pub working_idle : (m : Content) → m.stage ≡ idle → working m ≡ m.durable
working_idle m i = let P : Stage → Cells = λ s. elim s [ idle ↦ m.durable | grouped w p ↦ w | dark f ↦ m.durable | call.due f ↦ m.durable ] in ap P i

pub working_grouped : (m : Content) (w : Cells) (p : ℕ) → m.stage ≡ grouped w p → working m ≡ w
working_grouped m w p g = let P : Stage → Cells = λ s. elim s [ idle ↦ m.durable | grouped w p ↦ w | dark f ↦ m.durable | call.due f ↦ m.durable ] in ap P g

working_dark : (m : Content) (x : Finding) → m.stage ≡ dark x → working m ≡ m.durable
working_dark m x d = let P : Stage → Cells = λ s. elim s [ idle ↦ m.durable | grouped w p ↦ w | dark f ↦ m.durable | call.due f ↦ m.durable ] in ap P d

working_due : (m : Content) (x : Finding) → m.stage ≡ call.due x → working m ≡ m.durable
working_due m x d = let P : Stage → Cells = λ s. elim s [ idle ↦ m.durable | grouped w p ↦ w | dark f ↦ m.durable | call.due f ↦ m.durable ] in ap P d

-- a get is never cut: it answers what bars it
pub get_answer : (m : Content) (n : ℕ) (r : Result Unit Refusal) → Outcome (call.get n) m r m → r ≡ answer (bar (call.get n) m)
get_answer m n (Ok x) o = ap answer (sym o.free)
get_answer m n (Err e) o = ap answer (sym (why o))
  where
    never : Left (call.get n) m m → ⊥
    never (undone w f s) = w

    why : Refused (call.get n) m e m → bar (call.get n) m ≡ Some e
    why (barred b s) = b
    why (cut p l) = absurd (never l)

-- so a get that nothing bars is granted
pub get_granted : (m : Content) (n : ℕ) (r : Result Unit Refusal) → bar (call.get n) m ≡ None → Outcome (call.get n) m r m → r ≡ Ok tt
get_granted m n r f o = get_answer m n r o ∙ ap answer f

-- a sound store without power, of that durable content, otherwise as m
pub record Cut (c : Cells) (m after : Content) : Type 0 where
  pub stage : after.stage ≡ dark sound
  pub shape : after.shape ≡ m.shape
  pub durable : after.durable ≡ c

-- an idle one
pub record Landed (c : Cells) (m after : Content) : Type 0 where
  pub stage : after.stage ≡ idle
  pub shape : after.shape ≡ m.shape
  pub durable : after.durable ≡ c

-- an open group, begun at m, with that working content after p puts
pub record Group (m : Content) (w : Cells) (p : ℕ) (a : Content) : Type 0 where
  pub stage : a.stage ≡ grouped w p
  pub shape : a.shape ≡ m.shape
  pub durable : a.durable ≡ m.durable

-- how a group that was to leave w ends
abbrev pub Closed : {X : Type 0} → Cells → Content → Result X Refusal → Content → Type 0
Closed w m (Ok x) a = Landed w m a
Closed w m (Err e) a = (e ≡ darkened) × (Cut m.durable m a ⊎ Cut w m a)

pub cut_of : (m after : Content) → finding m.stage ≡ sound → after ≡ dimmed m → Cut m.durable m after
cut_of m after f e = record { stage = ap (λ x. x.stage) e ∙ ap dark f; shape = ap (λ x. x.shape) e; durable = ap (λ x. x.durable) e }

pub begun : {m a : Content} → Granted call.begin m a → Group m m.durable 0 a
unfolding next
begun g = let e = g.leaves in record { stage = ap (λ x. x.stage) e; shape = ap (λ x. x.shape) e; durable = ap (λ x. x.durable) e }

pub begin_lost : {m a : Content} {e : Refusal} → m.stage ≡ idle → Refused call.begin m e a → (e ≡ darkened) × Cut m.durable m a
begin_lost {m} {a} i r = let l = lost (begin_free m i) r in (l.0, only l.1)
  where
    only : Left call.begin m a → Cut m.durable m a
    only (undone w f s) = cut_of m a (ap finding i) s

-- a begin that is barred
pub begin_barred : {m a : Content} {e f : Refusal} → bar call.begin m ≡ Some f → Refused call.begin m e a → (e ≡ f) × (a ≡ m)
begin_barred b (barred c s) = (cc, s)
begin_barred b (cut p (undone w f s)) = clash b f

pub begin_not : {m a : Content} {f : Refusal} {X : Type 0} → bar call.begin m ≡ Some f → Granted call.begin m a → X
begin_not b g = clash b g.free

-- one put more
pub put_on : {m a b : Content} {w : Cells} {p n : ℕ} {v : List ℕ} → Group m w p a → Granted (call.put n v) a b → Group m (set w n (take m.shape.size v)) (p + 1) b
unfolding next
put_on {m} {a} {b} {w} {p} {n} {v} h g =
    let P : Stage → Content = λ s. elim s [ idle ↦ a | grouped w p ↦ with_stage (grouped (set w n (take a.shape.size v)) (p + 1)) a | dark f ↦ a | call.due f ↦ a ] in
    let e : b ≡ with_stage (grouped (set w n (take a.shape.size v)) (p + 1)) a = g.leaves ∙ ap P h.stage in
    record {
      stage = ap (λ x. x.stage) e ∙ ap (λ x. grouped (set w n (take x.size v)) (p + 1)) h.shape;
      shape = ap (λ x. x.shape) e ∙ h.shape;
      durable = ap (λ x. x.durable) e ∙ h.durable;
    }

-- a put that nothing bars, refused
pub put_cut : {m a b : Content} {w : Cells} {p n : ℕ} {v : List ℕ} {e : Refusal} → Group m w p a → n < m.shape.cells → p < m.shape.limit → Refused (call.put n v) a e b → (e ≡ darkened) × Cut m.durable m b
put_cut {m} {a} {b} {w} {p} {n} {v} h i j x =
    let free = put_free a n v w p h.stage (subst (λ s. n < s.cells) (sym h.shape) i) (subst (λ s. p < s.limit) (sym h.shape) j) in
    let l = lost free x in
    let k = only l.1 in
    (l.0, record { stage = k.stage; shape = k.shape ∙ h.shape; durable = k.durable ∙ h.durable })
  where
    only : Left (call.put n v) a b → Cut a.durable a b
    only (undone y f s) = cut_of a b (ap finding h.stage) s

-- an abort in the dark changes nothing
pub abort_dark : (b d : Content) (r : Result Unit Refusal) → b.stage ≡ dark sound → Outcome call.abort b r d → d ≡ b
abort_dark b d (Ok x) k o = clash (abort_barred b k) o.free
abort_dark b d (Err e) k o = still o
  where
    still : Refused call.abort b e d → d ≡ b
    still (barred y s) = s
    still (cut p (undone y f s)) = clash (abort_barred b k) f

pub abort_cut : {c : Cells} {m b : Content} (d : Content) (r : Result Unit Refusal) → Cut c m b → Outcome call.abort b r d → Cut c m d
abort_cut {c} {m} {b} d r k o = subst (λ (x : Content). Cut c m x) (sym (abort_dark b d r k.stage o)) k

-- a put that nothing bars, refused, and the abort after it
pub put_lost : {m a b : Content} {w : Cells} {p n : ℕ} {v : List ℕ} {e : Refusal} (d : Content) (r : Result Unit Refusal) → Group m w p a → n < m.shape.cells → p < m.shape.limit → Refused (call.put n v) a e b → Outcome call.abort b r d → (e ≡ darkened) × Cut m.durable m d
put_lost d r h i j x o = let l = put_cut h i j x in (l.0, abort_cut d r l.1 o)

-- how a commit ends a group
pub ended : {m a : Content} {w : Cells} {p : ℕ} (b : Content) (r : Result Unit Refusal) → Group m w p a → Outcome call.commit a r b → Closed w m r b
unfolding next
ended {m} {a} {w} {p} b (Ok x) h o =
    let e = o.leaves in
    record { stage = ap (λ x. x.stage) e; shape = ap (λ x. x.shape) e ∙ h.shape; durable = ap (λ x. x.durable) e ∙ working_grouped a w p h.stage }
ended {m} {a} {w} {p} b (Err e) h o = let l = lost (commit_free a w p h.stage) o in (l.0, ways l.1)
  where
    ways : Left call.commit a b → Cut m.durable m b ⊎ Cut w m b
    ways (undone y f s) = let k = cut_of a b (ap finding h.stage) s in inl (record { stage = k.stage; shape = k.shape ∙ h.shape; durable = k.durable ∙ h.durable })
    ways (done f s) =
        let k = cut_of (next call.commit a) b refl s in
        inr (record { stage = k.stage; shape = k.shape ∙ h.shape; durable = k.durable ∙ working_grouped a w p h.stage })

-- the working content of a formed store has its shape
pub group_fits : {m a : Content} {w : Cells} {p : ℕ} → Formed a → Group m w p a → Fitting m.shape w
group_fits {m} {a} {w} {p} f h =
    let k : Fitting a.shape w = (subst (λ (s : Stage). Grouping a.shape s) h.stage f.group).0 in
    subst (λ s. Fitting s w) h.shape k

-- the content that a get reads has the store's shape
pub working_fits : (m : Content) → Formed m → Fitting m.shape (working m)
working_fits m f = go m.stage refl
  where
    go : (s : Stage) → m.stage ≡ s → Fitting m.shape (working m)
    go idle e = subst (λ w. Fitting m.shape w) (sym (working_idle m e)) f.durable
    go (grouped w p) e = subst (λ w. Fitting m.shape w) (sym (working_grouped m w p e)) (group_fits {m = m} f (record { stage = e; shape = refl; durable = refl }))
    go (dark x) e = subst (λ w. Fitting m.shape w) (sym (working_dark m x e)) f.durable
    go (call.due x) e = subst (λ w. Fitting m.shape w) (sym (working_due m x e)) f.durable

-- a get that nothing bars is of a cell that is there
never_none : {X : Type 0} (o : Option Refusal) (e : Refusal) → or_else o (Some e) ≡ None → X
never_none (Some x) e h = clash refl h
never_none None e h = clash refl h

pub get_within : (m : Content) (n : ℕ) → bar (call.get n) m ≡ None → n < m.shape.cells
unfolding bar
get_within m n f = ⊎_elim (λ l. l) past (cases_lt n m.shape.cells)
  where
    past : m.shape.cells ≤ n → n < m.shape.cells
    past l =
        let o = barring needs.Live m in
        let e : or_else o (within n m.shape) ≡ or_else o (Some (refusal reason.OutOfRange m.shape.layer n)) = ap (λ b. or_else o (cond b None (Some (refusal reason.OutOfRange m.shape.layer n)))) (le-ltb n m.shape.cells l) in
        never_none o (refusal reason.OutOfRange m.shape.layer n) (sym e ∙ f)
