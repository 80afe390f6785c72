use Rattle.std.proofs.Common.{◌≡◌, get_or, Some, ◌∙◌, sym, ap, subst, arith}
use Rattle.disk.specs.Runs.{Write}
use Rattle.journal.specs.declared.group.Pending.{Pending}
use Rattle.journal.specs.Groups.{First, looked_up}
use Rattle.journal.specs.Entries.{entries}
use Rattle.journal.proofs.Seek.{size_of, entries_at, first_within, first_looked, absent_looked}
use Rattle.journal.proofs.group.Group.get.Goals as goal

pub returns-in_err-i : goal.returns-in_err-i
returns-in_err-i c = rw c.from_residual.ensures (sym (absent_looked c.args.page c.args.self.now c.in_err-i.ensures))

pub index-requires : goal.index-requires
index-requires c = omega (arith, first_within _ _ _ c.in_ok-i.ensures, size_of _ _ c.self.view_is, c.self.inside.pages.ok.0)

pub returns : goal.returns
returns c =
    let xs = c.self.inside.pages.items in
    let i = c.in_ok-i.i in
    let d = c.index.result.now in
    let at : (get_or (entries xs) i (d.page, d.bytes)).1 ≡ (get_or xs i d).bytes = ap (λ (w : Write). w.1) (entries_at xs i d) in
    ap (λ (p : Pending). Some p.bytes) c.index.ensures ∙ ap Some (sym at) ∙ sym (first_looked c.args.page (entries xs) i (d.page, d.bytes) (subst (λ ws. First c.args.page ws i) (sym c.self.view_is) c.in_ok-i.ensures)) ∙ ap (looked_up c.args.page) c.self.view_is
