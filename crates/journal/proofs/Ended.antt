-- A commit and a recovery, once their first check let them through: what they leave, answer and keep.
use Rattle.std.proofs.Common.{◌≡◌, List, None, Result, refl, ap, ◌∙◌}
use Rattle.refusal.specs.declared.Refusal.{Refusal}
use Rattle.disk.specs.Device.{Device, Formed}
use Rattle.disk.specs.Runs.{Write, ran, ran_answer}
use Rattle.store.specs.declared.Needs.TheVariants as needs
use Rattle.store.specs.Meaning.{barring}
use Rattle.store.specs.Meaning as call
use Rattle.journal.specs.declared.state.Mode.{Mode}
use Rattle.journal.specs.declared.state.Mode.TheVariants.{Idle, Due}
use Rattle.journal.specs.declared.writes.Part.{Part}
use Rattle.journal.specs.Layout.{naming, recover_writes, commit_order, writes_of}
use Rattle.journal.specs.Meaning.{meaning, Wholly, Lawfully, committed, recovered, recover_answer}
use Rattle.journal.specs.Stages.{Stands, stands_open, stands_due}
use Rattle.journal.proofs.Turns.{all_parts}
use Rattle.journal.proofs.Commits.{Ends, commit_call, commit_disk, recover_call}

pub due_on : (d : Device) (m : Mode) (ws : List Write) → barring needs.Due (meaning d m ws) ≡ None → Stands d.powered m Due
due_on d m ws free = stands_due d.blocks ws d.powered m free

module _ (d : Device) (m : Mode) (ws : List Write) (f : Formed d) (after : Device) (r : Result Unit Refusal) where
  pub record Committed : Type 0 where
    pub ends : Ends call.commit (meaning d m ws) m Idle ws after r
    pub by_charge : Lawfully d.powered m ws d r after
    pub disk : after ≡ committed d.powered m ws d

  pub commits : Wholly d m ws → barring needs.Open (meaning d m ws) ≡ None → (ps : List Part) → ps ≡ commit_order → after ≡ ran (writes_of ps ws) d → r ≡ ran_answer (writes_of ps ws) d → Committed
  commits w free ps order a b =
      let ok = stands_open d.blocks ws d.powered m free in
      let all = ap (λ l. writes_of l ws) order ∙ all_parts ws in
      let a' = a ∙ ap (λ l. ran l d) all in
      let b' = b ∙ ap (λ l. ran_answer l d) all in
      let k = commit_call d d.powered m ws after r refl f ok w a' b' in
      record { ends = k.0; by_charge = k.1; disk = commit_disk d d.powered m ws after ok a' }

  -- the group then holds what the recovery read
  pub recovers : (now : List Write) → barring needs.Due (meaning d m ws) ≡ None → after ≡ ran (recover_writes (naming d.blocks) d.blocks) d → r ≡ recover_answer (naming d.blocks) d → Ends call.recover (meaning d m ws) m Idle now after r × (after ≡ recovered d.powered m d)
  recovers now free a b = recover_call d d.powered m ws now after r refl f (due_on d m ws free) a b
