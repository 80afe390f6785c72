use Rattle.theory.proofs.Examples.{cut_commit_covered, cut_again_covered}
use Rattle.theory.proofs.examples_stand.Goals as goal

pub returns : goal.returns
returns c = (cut_commit_covered, cut_again_covered)
