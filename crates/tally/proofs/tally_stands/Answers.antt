use Rattle.theory.proofs.Law.{worked_serial, recovery_granted}
use Rattle.tally.specs.Tallies.{tally_theory}
use Rattle.tally.specs.Laws.{tally_lawful, tally_symmetric, tally_marks}
use Rattle.tally.proofs.tally_stands.Goals as goal

pub returns : goal.returns
returns c = record {
  serial = λ conflict symmetric marks limits. worked_serial (tally_theory conflict) limits (tally_lawful conflict symmetric marks);
  recovers = λ conflict symmetric marks limits. recovery_granted (tally_theory conflict) limits (tally_lawful conflict symmetric marks);
  symmetric = tally_symmetric;
  marks = tally_marks;
}
