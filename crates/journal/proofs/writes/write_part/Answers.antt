use Rattle.std.proofs.Common.{[], sym, ap, ◌∙◌}
use Rattle.disk.specs.Device.{written}
use Rattle.disk.specs.Runs.{ran, ran_answer}
use Rattle.disk.proofs.Runs.{one_write}
use Rattle.journal.specs.Record.{record_of}
use Rattle.journal.specs.Layout.{part_writes}
use Rattle.journal.proofs.Writing.{blank_is}
use Rattle.journal.proofs.writes.write_part.Goals as goal

pub returns-in-EmptyRecord : goal.returns-in-EmptyRecord
returns-in-EmptyRecord g c =
    let d = g.D.Disk.means c.args.disk.now in
    let ws = c.args.group.now in
    let k = one_write 0 (record_of []) (c.write.ensures.after ∙ ap (λ v. written 0 v d) blank_is) c.write.ensures.answer in
    record {
      after = k.after ∙ ap (λ p. ran (part_writes p ws) d) (sym c.in-EmptyRecord.is);
      answer = k.answer ∙ ap (λ p. ran_answer (part_writes p ws) d) (sym c.in-EmptyRecord.is);
    }
