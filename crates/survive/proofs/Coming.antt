-- What a commit, power and a recovery leave, one after the other.
use Rattle.std.proofs.Common.{◌≡◌, ℕ, ◌⊎◌, None, Ok, Err, Result, refl, ap, ◌∙◌, inl, inr, ⊎_elim}
use Rattle.refusal.specs.declared.Refusal.{Refusal}
use Rattle.store.specs.Meaning.{Cells, Content, idle, grouped, due, sound, finding, dimmed, bar, next, Left, undone, searching, Outcome}
use Rattle.store.specs.Meaning as call
use Rattle.store.proofs.Clients.{lost, cut_of, Closed, ended}
use Rattle.survive.specs.Promise.{Revived, Kept, Survived}

-- nothing bars the recovery of a sound store
recover_free : (m : Content) → m.stage ≡ due sound → bar call.recover m ≡ None
unfolding bar
recover_free m s = rw s

dimmed_by : {m after : Content} → Left call.recover m after → after ≡ dimmed m
dimmed_by (undone w f e) = e
dimmed_by (searching l p s e) = e

recovers : (m : Content) (r : Result Unit Refusal) (after : Content) → m.stage ≡ due sound → Outcome call.recover m r after → Revived m r after
unfolding next
recovers m (Ok x) after s o =
    let e = o.leaves in
    record { shape = ap (λ (c : Content). c.shape) e; durable = ap (λ (c : Content). c.durable) e; back = ap (λ (c : Content). c.stage) e }
recovers m (Err e) after s o =
    let l = lost (recover_free m s) o in
    let k = cut_of m after (ap finding s) (dimmed_by l.1) in
    record { shape = k.shape; durable = k.durable; back = (l.0, k.stage) }

-- power, then recovery
pub revives : (c : ℕ) (m lit : Content) (r : Result Unit Refusal) (after : Content) → finding m.stage ≡ sound → lit ≡ next (call.power c) m → Outcome call.recover lit r after → Revived m r after
unfolding next
revives c m lit r after h e o =
    let v = recovers lit r after (ap (λ (c : Content). c.stage) e ∙ ap due h) o in
    record { shape = v.shape ∙ ap (λ (c : Content). c.shape) e; durable = v.durable ∙ ap (λ (c : Content). c.durable) e; back = v.back }

-- a commit of an open group, whatever the charge: sound, and old or new
pub record Ended (m : Content) (w : Cells) (r : Result Unit Refusal) (after : Content) : Type 0 where
  pub shape : after.shape ≡ m.shape
  pub durable : (after.durable ≡ m.durable) ⊎ (after.durable ≡ w)
  pub finds : finding after.stage ≡ sound
  pub granted : Kept (Ok r) w after.durable

ends : (m : Content) (w : Cells) (r : Result Unit Refusal) (after : Content) → Closed w m r after → Ended m w r after
ends m w (Ok x) after k = record { shape = k.shape; durable = inr k.durable; finds = ap finding k.stage; granted = k.durable }
ends m w (Err e) after k =
    ⊎_elim
    (λ c. record { shape = c.shape; durable = inl c.durable; finds = ap finding c.stage; granted = k.0 })
    (λ c. record { shape = c.shape; durable = inr c.durable; finds = ap finding c.stage; granted = k.0 })
    k.1

pub commit_ends : (m : Content) (w : Cells) (p : ℕ) (r : Result Unit Refusal) (after : Content) → m.stage ≡ grouped w p → Outcome call.commit m r after → Ended m w r after
commit_ends m w p r after s o = ends m w r after (ended {m = m} {a = m} after r (record { stage = s; shape = refl; durable = refl }) o)

-- a commit, then power and recovery
pub survives : {m mid after : Content} {w : Cells} {a : Result Unit Refusal} → Ended m w a mid → Revived mid (Ok tt) after → Survived m w (Ok a) after
survives e v = record { shape = v.shape ∙ e.shape; durable = rw v.durable e.durable; back = v.back; granted = rw v.durable e.granted }

-- the same where power goes again in the recovery
pub survives_cut : {m mid after : Content} {w : Cells} {a : Result Unit Refusal} {e : Refusal} → Ended m w a mid → Revived mid (Err e) after → Survived m w (Err e) after
survives_cut e v = record { shape = v.shape ∙ e.shape; durable = rw v.durable e.durable; back = v.back; granted = tt }
