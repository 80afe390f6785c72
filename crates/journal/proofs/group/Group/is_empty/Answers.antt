use Rattle.std.proofs.Common.{◌≡◌, nat_eq, length, vec_len, ap, ◌∙◌, arith}
use Rattle.journal.proofs.Seek.{size_of}
use Rattle.journal.proofs.group.Group.is_empty.Goals as goal

pub returns : goal.returns
returns c =
    let e : vec_len c.self.inside.pages ≡ length c.args.self.now = omega (arith, size_of _ _ c.self.view_is, c.self.inside.pages.ok.0) in
    c.is_empty.ensures ∙ ap (λ n. nat_eq n 0) e
