use Rattle.std.proofs.Common.{List, set, ◌∙◌, sym, ap, subst, arith}
use Rattle.disk.specs.Runs.{Write}
use Rattle.journal.specs.declared.group.Pending.{Pending}
use Rattle.journal.specs.Groups.{First, remembered}
use Rattle.journal.specs.Entries.{entries}
use Rattle.journal.proofs.Seek.{size_of, entries_at, entries_set, first_within, first_page, set_remembered}
use Rattle.journal.proofs.group.Group.replace.Goals as goal

pub index_mut-requires : goal.index_mut-requires
index_mut-requires c = omega (arith, first_within _ _ _ c.requires, size_of _ _ c.self.view_is, c.self.inside.pages.ok.0)

pub returns : goal.returns
returns c =
    let xs = c.self.inside.pages.items in
    let i = c.args.i in
    let d = c.index_mut.result.now in
    let f = subst (λ (ws : List Write). First c.args.page ws i) (sym c.self.view_is) c.requires in
    let number = ap (λ (p : Pending). p.page) c.index_mut.ensures.value ∙ sym (ap (λ (w : Write). w.0) (entries_at xs i d)) ∙ first_page c.args.page (entries xs) i (d.page, d.bytes) f in
    entries_set xs i (record { page = d.page; bytes = c.args.bytes.now })
    ∙ ap (λ n. set (entries xs) i (n, c.args.bytes.now)) number
    ∙ set_remembered c.args.page c.args.bytes.now (entries xs) i f
    ∙ ap (remembered c.args.page c.args.bytes.now) c.self.view_is
