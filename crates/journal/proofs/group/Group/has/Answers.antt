use Rattle.std.proofs.Common.{◌∙◌}
use Rattle.journal.proofs.Seek.{sought_member}
use Rattle.journal.proofs.group.Group.has.Goals as goal

pub returns : goal.returns
returns c = c.is_some.ensures ∙ sought_member c.args.page c.args.self.now c.find.result c.find.ensures
