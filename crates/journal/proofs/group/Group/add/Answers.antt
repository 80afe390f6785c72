use Rattle.std.proofs.Common.{List, [], ◌∷◌, ◌++◌, ◌∙◌, ap, arith}
use Rattle.disk.specs.Runs.{Write}
use Rattle.journal.specs.Entries.{entries}
use Rattle.journal.proofs.Seek.{size_of, entries_append}
use Rattle.journal.proofs.group.Group.add.Goals as goal

pub push_reserved-requires : goal.push_reserved-requires
push_reserved-requires c = omega (arith, size_of _ _ c.self.view_is, c.self.inside.pages.ok.0, c.self.invariant.0)

pub invariant_of-self : goal.invariant_of-self
invariant_of-self c = (
  omega (arith, c.push_reserved.ensures.capacity, c.self.invariant.0),
  omega (arith, size_of _ _ c.self.view_is, c.self.inside.pages.ok.0, c.push_reserved.ensures.len),
)

pub returns : goal.returns
returns c =
    ap entries c.push_reserved.ensures.items
    ∙ entries_append c.self.inside.pages.items _
    ∙ ap (λ (ws : List Write). ws ++ (c.args.page, c.args.bytes.now) ∷ []) c.self.view_is
