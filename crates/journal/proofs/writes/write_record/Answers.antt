use Rattle.std.proofs.Common.{ap, ◌∙◌}
use Rattle.disk.specs.Device.{written}
use Rattle.disk.proofs.Runs.{one_write}
use Rattle.journal.specs.Names.{names}
use Rattle.journal.specs.Record.{record_of}
use Rattle.journal.proofs.writes.write_record.Goals as goal

pub returns : goal.returns
returns g c =
    let d = g.D.Disk.means c.args.disk.now in
    let k = one_write 0 (record_of (names c.args.group.now)) (c.write.ensures.after ∙ ap (λ v. written 0 v d) c.commit_record.ensures) c.write.ensures.answer in
    record { after = k.after; answer = k.answer }
