use Rattle.powercut.proofs.Opening.{begun_open}
use Rattle.powercut.proofs.content.open_group.Goals as goal

pub returns-in-Ok : goal.returns-in-Ok
returns-in-Ok g c = c.in-Ok.ensures (begun_open c.in_ok-token.ensures.outcome)
