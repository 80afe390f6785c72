-- What the first check of a call says of where the journal stands.
use Rattle.std.proofs.Common.{◌≡◌, List, None, Some, Ok, Err, Result, ap, ◌∙◌}
use Rattle.refusal.specs.declared.Phase.{Phase}
use Rattle.refusal.specs.declared.Refusal.{Refusal}
use Rattle.disk.specs.Device.{Device, answer}
use Rattle.disk.specs.Runs.{Write}
use Rattle.store.specs.declared.Needs.{Needs}
use Rattle.store.specs.declared.Needs.TheVariants as needs
use Rattle.store.specs.Meaning.{Call, Outcome, phase_of, phase_bar, barring, bar}
use Rattle.journal.specs.declared.state.Mode.{Mode}
use Rattle.journal.specs.declared.state.Mode.TheVariants.{Open}
use Rattle.journal.specs.Meaning.{meaning, puts_of}
use Rattle.journal.specs.Stages.{answer_ok, refused_phase, Stands, stands_open}

module _ (d : Device) (m : Mode) (ws : List Write) (ph : Phase) (at : ph ≡ phase_of (meaning d m ws).stage) (n : Needs) where
  pub denied : (e : Refusal) → Err e ≡ answer (phase_bar n ph 1) → Err e ≡ answer (barring n (meaning d m ws))
  denied e q = q ∙ ap (λ x. answer (phase_bar n x 1)) at

  pub admitted : (x : Unit) → Ok x ≡ answer (phase_bar n ph 1) → barring n (meaning d m ws) ≡ None
  admitted x q = answer_ok (barring n (meaning d m ws)) x (q ∙ ap (λ y. answer (phase_bar n y 1)) at)

  -- such a call is refused, and nothing changes
  pub turned_away : {X : Type 0} (k : Call) (result : Result X Refusal) (e f : Refusal) → ((o : Refusal) → barring n (meaning d m ws) ≡ Some o → bar k (meaning d m ws) ≡ Some o) → result ≡ Err f → f ≡ e → Err e ≡ answer (phase_bar n ph 1) → Outcome k (meaning d m ws) result (meaning d m ws)
  turned_away k result e f first is same q = rw (is, same) (refused_phase d.powered d.blocks m ws k n e (first e) (denied e q))

-- a call that needs an open group and was let through
pub group_open : (d : Device) (m : Mode) (ws : List Write) (ph : Phase) → ph ≡ phase_of (meaning d m ws).stage → (x : Unit) → Ok x ≡ answer (phase_bar needs.Open ph 1) → Stands d.powered m (Open (puts_of m))
group_open d m ws ph at x q = stands_open d.blocks ws d.powered m (admitted d m ws ph at needs.Open x q)
