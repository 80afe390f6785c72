use Rattle.std.proofs.Common.{arith}
use Rattle.place.proofs.Groups.{counted}
use Rattle.place.proofs.count.Goals as goal

pub returns : goal.returns
returns g c = grind (arith, counted _ (g.met.S.Store.formed c.args.s.now))
