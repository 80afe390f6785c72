use Rattle.tally.proofs.Bytes.{counter_laws}
use Rattle.tally.proofs.counter_bytes_stand.Goals as goal

pub returns : goal.returns
returns c = counter_laws
