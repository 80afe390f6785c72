use Rattle.theory.proofs.Law.{worked_serial, every_list}
use Rattle.theory.proofs.serial_stands.Goals as goal

pub returns : goal.returns
returns g c = record {
  serial = worked_serial g.L.Theoretical.theory g.L.Theoretical.limits g.L.Theoretical.laws;
  worked = every_list g.L.Theoretical.theory g.L.Theoretical.limits;
}
