use Rattle.powercut.proofs.Opening.{open_group}
use Rattle.powercut.proofs.case.recover_twice.Goals as goal

pub returns-in-Ok : goal.returns-in-Ok
returns-in-Ok g c = λ h. let o = open_group _ h in (c.in-Ok.ensures o.0 o.1 o.2).back
