use Rattle.theory.proofs.Law.{recovery_granted}
use Rattle.theory.proofs.Darkness.{dark_answered}
use Rattle.theory.proofs.recovery_stands.Goals as goal

pub returns : goal.returns
returns g c = record {
  granted = recovery_granted g.L.Theoretical.theory g.L.Theoretical.limits g.L.Theoretical.laws;
  dark = dark_answered g.L.Theoretical.theory g.L.Theoretical.limits;
}
