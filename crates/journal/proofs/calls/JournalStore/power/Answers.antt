use Rattle.std.proofs.Common.{ap, ◌∙◌}
use Rattle.disk.specs.Device.{Device}
use Rattle.journal.specs.declared.state.Mode.TheVariants.{Due}
use Rattle.journal.specs.Meaning.{content}
use Rattle.journal.specs.Stages.{powered}
use Rattle.journal.proofs.calls.JournalStore.power.Goals as goal

pub returns : goal.returns
returns g c =
    let j = c.args.self.now in
    let d = g.D.Disk.means j.disk in
    record {
      outcome = ap (λ (x : Device). content x.powered x.blocks Due j.group) c.power.ensures ∙ powered d.powered d.blocks j.mode j.group c.args.charge j.whole.record_blank;
      disk = c.power.ensures;
    }
