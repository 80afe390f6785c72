use Rattle.survive.proofs.Coming.{revives}
use Rattle.survive.proofs.revive.Goals as goal

pub returns : goal.returns
returns g c = λ h. revives c.args.charge _ _ c.recover.result _ h c.power.ensures.outcome c.recover.ensures.outcome
