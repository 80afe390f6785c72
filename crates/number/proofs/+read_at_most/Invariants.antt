use Rattle.number.proofs.+read_at_most.Given as goal

abbrev pub decreases-read_at_most : goal.decreases-read_at_most
decreases-read_at_most l = l.left
