-- The examples, row by row. Assumes nothing.
use Rattle.std.specs.List.{AllByRecursion}
use Rattle.std.proofs.Common.{refl}
use Rattle.number.specs.Examples.{examples, Holds}
use Rattle.number.specs.Leb.{lebs, leb, reading_in, reading}

pub all_hold : AllByRecursion Holds examples
unfolding lebs leb reading_in reading
all_hold = (refl, (refl, (refl, (refl, (refl, (refl, (refl, (refl, (refl, tt)))))))))
