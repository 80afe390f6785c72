use Rattle.std.proofs.Common.{sym, ap, ◌∙◌}
use Rattle.std.proofs.lemmas.Bool.{leb-true, leb-false}
use Rattle.std.proofs.lemmas.Result.{err_from_is_err_and}
use Rattle.journal.specs.Names.{names}
use Rattle.journal.specs.Groups.{told}
use Rattle.journal.specs.Record.{pages_from}
use Rattle.journal.specs.Records.{named_unread, named_many, named_counted}
use Rattle.journal.proofs.Told.{read_some, read_none}
use Rattle.journal.proofs.record.read_record.Goals as goal

pub returns-in_err-count : goal.returns-in_err-count
returns-in_err-count c =
    let r = err_from_is_err_and c.from_residual.result c.from_residual.ensures.1 in
    let none = read_none _ _ _ _ c.read_number.ensures.value (sym c.ok_or.ensures.value ∙ c.in_err-count.was) in
    ap (λ x. told x (names c.clear.new.self)) r.1 ∙ named_unread c.args.cells c.args.block.now none

pub returns-then-not-nameable : goal.returns-then-not-nameable
returns-then-not-nameable c =
    let some = read_some _ _ _ _ _ c.read_number.ensures.value (sym c.ok_or.ensures.value ∙ c.in_ok-count.was) in
    named_many c.args.cells c.in_ok-count.count c.args.block.now c.in_ok-count.rest.now some (leb-false c.in_ok-count.count 6 (sym c.if-not-nameable.ensures))

pub returns : goal.returns
returns c =
    let some = read_some _ _ _ _ _ c.read_number.ensures.value (sym c.ok_or.ensures.value ∙ c.in_ok-count.was) in
    c.read_pages.ensures ∙ ap (λ l. pages_from c.in_ok-count.count c.args.cells (names l) c.in_ok-count.rest.now) c.clear.ensures
    ∙ named_counted c.args.cells c.in_ok-count.count c.args.block.now c.in_ok-count.rest.now some (leb-true c.in_ok-count.count 6 (sym c.if-not-nameable.ensures))
