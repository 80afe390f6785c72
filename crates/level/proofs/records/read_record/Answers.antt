use Rattle.std.proofs.Common.{Some, ap, ◌∙◌, arith}
use Rattle.level.specs.Records.{alone, reading_record}
use Rattle.level.proofs.Recorded.{record_exact, record_back}
use Rattle.level.proofs.records.read_record.Goals as goal

pub returns-clause-exact : goal.returns-clause-exact
returns-clause-exact c =
    let read = c.in_ok-code.ensures in
    record_exact c.args.bytes.now (Some (c.in_ok-code.code, c.in_ok-code.rest.now)) c.alone.result (omega arith) read.value read.exact c.alone.ensures

pub returns-clause-back : goal.returns-clause-back
returns-clause-back c d small is = c.alone.ensures ∙ ap alone c.in_ok-code.ensures.value ∙ ap reading_record is ∙ record_back d small
