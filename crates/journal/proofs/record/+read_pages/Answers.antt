use Rattle.std.proofs.Common.{◌≡◌, ◌-◌, [], ◌∷◌, ◌++◌, is_ok, sym, ap, ◌∙◌}
use Rattle.std.specs.Option.{ok_or}
use Rattle.std.proofs.lemmas.Result.{err_from_is_err_and}
use Rattle.journal.specs.Names.{names}
use Rattle.journal.specs.Groups.{told}
use Rattle.journal.specs.Record.{pages_from}
use Rattle.journal.specs.Records.{pages_end, pages_unread, pages_beyond, pages_twice, pages_more}
use Rattle.journal.proofs.Told.{read_some, read_none, told_test}
use Rattle.journal.proofs.Writing.{names_append}
use Rattle.journal.proofs.record.+read_pages.Goals as goal

pub returns-then-left-eq0 : goal.returns-then-left-eq0
returns-then-left-eq0 t c =
    let q = ap is_ok (c.ok_or.ensures.value ∙ ap (λ o. ok_or o (record {})) c.then_some.ensures) ∙ told_test _ c.only_zeros.result ∙ c.only_zeros.ensures in
    pages_end c.args.left c.args.cells (names c.args.group.now) c.args.bytes.now c.ok_or.result c.if-left-eq0.true q

pub returns-in_err-page : goal.returns-in_err-page
returns-in_err-page t c =
    let r = err_from_is_err_and c.from_residual.result c.from_residual.ensures.1 in
    let none = read_none _ _ _ _ c.read_number.ensures.value (sym c.ok_or-2.ensures.value ∙ c.in_err-page.was) in
    ap (λ x. told x (names c.args.group.now)) r.1 ∙ pages_unread c.args.left c.args.cells _ c.args.bytes.now c.if-left-eq0.false none

pub returns-then-page-cells : goal.returns-then-page-cells
returns-then-page-cells t c =
    let some = read_some _ _ _ _ _ c.read_number.ensures.value (sym c.ok_or-2.ensures.value ∙ c.in_ok-page.was) in
    pages_beyond c.args.left c.args.cells c.in_ok-page.page _ c.args.bytes.now c.in_ok-page.rest.now c.if-left-eq0.false some c.if-page-cells.true

pub returns-then-has : goal.returns-then-has
returns-then-has t c =
    let some = read_some _ _ _ _ _ c.read_number.ensures.value (sym c.ok_or-2.ensures.value ∙ c.in_ok-page.was) in
    pages_twice c.args.left c.args.cells c.in_ok-page.page _ c.args.bytes.now c.in_ok-page.rest.now c.if-left-eq0.false some c.if-page-cells.false (sym c.if-has.ensures)

pub returns : goal.returns
returns t c =
    let left = c.args.left in
    let cells = c.args.cells in
    let page = c.in_ok-page.page in
    let some = read_some _ _ _ _ _ c.read_number.ensures.value (sym c.ok_or-2.ensures.value ∙ c.in_ok-page.was) in
    let seen : names c.add.new.self ≡ names c.args.group.now ++ page ∷ [] = ap names c.add.ensures ∙ names_append c.args.group.now _ in
    c.read_pages.ensures ∙ ap (λ l. pages_from (left - 1) cells l c.in_ok-page.rest.now) seen
    ∙ pages_more left cells page _ c.args.bytes.now c.in_ok-page.rest.now c.if-left-eq0.false some c.if-page-cells.false (sym c.if-has.ensures)
