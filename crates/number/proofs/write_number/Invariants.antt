use Rattle.number.proofs.Written.{Going}
use Rattle.number.proofs.write_number.Given as goal

abbrev pub invariant-loop-byte : goal.invariant-loop-byte
invariant-loop-byte l = Going l.n l.left l.byte-index l.byte-items
