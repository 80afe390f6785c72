-- A group that is open stays open through granted puts.
use Rattle.std.proofs.Common.{◌≡◌, ℕ, List, Ok, Err, Result, refl, ap}
use Rattle.refusal.specs.declared.Phase.TheVariants.{Open}
use Rattle.refusal.specs.declared.Refusal.{Refusal}
use Rattle.std.specs.Prelude.{OnOk}
use Rattle.store.specs.Meaning.{Cells, Content, Stage, idle, grouped, dark, due, next, phase_of, Granted, Outcome}
use Rattle.store.specs.Meaning as call
use Rattle.store.proofs.Clients.{begun, put_on}

pub begun_open : {m after : Content} → Granted call.begin m after → phase_of after.stage ≡ Open
begun_open o = ap phase_of (begun o).stage

-- an open group has its working content and its puts
pub open_group : (s : Stage) → phase_of s ≡ Open → (w : Cells) × (p : ℕ) × (s ≡ grouped w p)
open_group idle h = absurd cc
open_group (grouped w p) h = (w, p, refl)
open_group (dark f) h = absurd cc
open_group (due f) h = absurd cc

pub put_open : {m after : Content} {n : ℕ} {v : List ℕ} → phase_of m.stage ≡ Open → Granted (call.put n v) m after → phase_of after.stage ≡ Open
put_open {m} h o =
    let g = open_group m.stage h in
    ap phase_of (put_on {m = m} {w = g.0} {p = g.1} (record { stage = g.2; shape = refl; durable = refl }) o).stage

-- a granted commit leaves no group open
pub commit_idle : (m after : Content) (r : Result Unit Refusal) → Outcome call.commit m r after → OnOk r (after.stage ≡ idle)
unfolding next
commit_idle m after (Ok x) o = ap (λ (c : Content). c.stage) o.leaves
commit_idle m after (Err e) o = _
