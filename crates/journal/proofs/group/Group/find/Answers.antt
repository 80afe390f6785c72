use Rattle.std.proofs.Common.{rules, List, MatchOption, subst}
use Rattle.disk.specs.Runs.{Write}
use Rattle.journal.specs.Groups.{First, Absent}
use Rattle.journal.proofs.Seek.{sought}
use Rattle.journal.proofs.group.Group.find.Goals as goal

pub returns : goal.returns
returns c = subst (λ (ws : List Write). MatchOption c.position_of.result (Absent c.args.page ws) (λ i. First c.args.page ws i)) c.self.view_is (sought c.args.page _ _ (search rules))
