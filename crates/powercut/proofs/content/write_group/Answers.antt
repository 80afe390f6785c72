use Rattle.powercut.proofs.Opening.{commit_idle}
use Rattle.powercut.proofs.content.write_group.Goals as goal

pub returns : goal.returns
returns g c = commit_idle _ _ _ c.commit.ensures.outcome
