use Rattle.std.proofs.Common.{◌∙◌, arith}
use Rattle.journal.proofs.Seek.{size_of, push_remembered}
use Rattle.journal.proofs.group.Group.put.Goals as goal

pub add-requires : goal.add-requires
add-requires c = omega (arith, size_of _ _ c.self.view_is, c.self.inside.pages.ok.0)

pub returns-in-None-2-clause-room : goal.returns-in-None-2-clause-room
returns-in-None-2-clause-room c h = absurd (omega (arith, size_of _ _ c.self.view_is, c.self.inside.pages.ok.0))

pub returns-in-None-clause-pages : goal.returns-in-None-clause-pages
returns-in-None-clause-pages c = c.add.ensures ∙ push_remembered c.args.page c.args.bytes.now c.args.self.now c.in-None.ensures
