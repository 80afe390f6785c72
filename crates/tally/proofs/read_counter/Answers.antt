use Rattle.std.proofs.Common.{arith}
use Rattle.std.proofs.lemmas.Grind.{common_steps}
use Rattle.std.proofs.lemmas.Bool.Decides.{nat_tests}
use Rattle.tally.proofs.Bytes.{chunk_at}
use Rattle.tally.proofs.read_counter.Goals as goal

pub returns : goal.returns
returns c = grind (arith, common_steps, nat_tests, chunk_at 16 c.args.bytes.now c.args.i (omega arith))
