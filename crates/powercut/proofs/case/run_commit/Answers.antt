use Rattle.powercut.proofs.Opening.{open_group}
use Rattle.powercut.proofs.case.run_commit.Goals as goal

pub returns : goal.returns
returns g c = let o = open_group _ c.in_ok-token.ensures in (c.in_ok-answer.ensures o.0 o.1 o.2).back
