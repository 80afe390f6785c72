use Rattle.std.proofs.Common.{◌<◌, ◌≤◌, List, [], length, get_or, sym, ap, ◌∙◌, arith}
use Rattle.std.proofs.lemmas.Result.{err_from_is_err_and}
use Rattle.disk.specs.Device.{written, write_answer}
use Rattle.disk.specs.Runs.{Write, ran, ran_answer}
use Rattle.disk.proofs.Runs.{underway_none, underway_more, underway_stop, underway_all}
use Rattle.journal.specs.declared.group.Pending.{Pending}
use Rattle.journal.specs.Layout.{writes_to, block_at}
use Rattle.journal.specs.Entries.{entries}
use Rattle.journal.proofs.Seek.{length_entries}
use Rattle.journal.proofs.Turns.{length_writes, page_write}
use Rattle.journal.proofs.writes.write_pages.Goals as goal

pub loop-turn-init : goal.loop-turn-init
loop-turn-init g c = underway_none _ _

pub returns-in_err-write : goal.returns-in_err-write
returns-in_err-write g c =
    let ps = c.deref-p-items.result.now in
    let i = c.loop-turn.turn in
    let p : Pending = get_or ps i (record { page = 0; bytes = [] }) in
    let at = block_at c.args.side i p.page in
    let ws = writes_to c.args.side 0 (entries ps) in
    let now = g.D.Disk.means c.loop-turn.disk in
    let left = c.write.ensures.after ∙ ap (λ n. written n p.bytes now) c.block.ensures in
    let said = ap (λ n. write_answer n now) (sym c.block.ensures) ∙ sym c.write.ensures.answer ∙ c.in_err-write.was in
    let within : i < length ws = omega (arith, length_writes c.args.side 0 (entries ps), length_entries ps, c.loop-turn-test.true) in
    let o = underway_stop ws (g.D.Disk.means c.args.disk.now) now _ i (at, p.bytes) within (page_write c.args.side i ps _ _ c.loop-turn-test.true) c.loop-turn.invariant left _ said in
    let r = err_from_is_err_and c.from_residual.result c.from_residual.ensures.1 in
    let same = ap entries c.deref-p-items.ensures.value ∙ c.group.view_is in
    let d = g.D.Disk.means c.args.disk.now in
    record { after = o.0 ∙ ap (λ (l : List Write). ran (writes_to c.args.side 0 l) d) same; answer = rw (r.1, r.2) (sym o.1 ∙ ap (λ (l : List Write). ran_answer (writes_to c.args.side 0 l) d) same) }

pub loop-turn-preserved : goal.loop-turn-preserved
loop-turn-preserved g c =
    let ps = c.deref-p-items.result.now in
    let i = c.loop-turn.turn in
    let p : Pending = get_or ps i (record { page = 0; bytes = [] }) in
    let at = block_at c.args.side i p.page in
    let ws = writes_to c.args.side 0 (entries ps) in
    let now = g.D.Disk.means c.loop-turn.disk in
    let left = c.write.ensures.after ∙ ap (λ n. written n p.bytes now) c.block.ensures in
    let said = ap (λ n. write_answer n now) (sym c.block.ensures) ∙ sym c.write.ensures.answer ∙ c.in_ok-write.was in
    let within : i < length ws = omega (arith, length_writes c.args.side 0 (entries ps), length_entries ps, c.loop-turn-test.true) in
    underway_more ws (g.D.Disk.means c.args.disk.now) now _ i (at, p.bytes) within (page_write c.args.side i ps _ _ c.loop-turn-test.true) c.loop-turn.invariant left said

pub returns : goal.returns
returns g c =
    let ps = c.deref-p-items.result.now in
    let ws = writes_to c.args.side 0 (entries ps) in
    let all : length ws ≤ c.loop-turn.turn = omega (arith, length_writes c.args.side 0 (entries ps), length_entries ps, c.loop-turn-test.false) in
    let o = underway_all ws _ _ _ all c.loop-turn.invariant in
    let same = ap entries c.deref-p-items.ensures.value ∙ c.group.view_is in
    let d = g.D.Disk.means c.args.disk.now in
    record { after = o.0 ∙ ap (λ (l : List Write). ran (writes_to c.args.side 0 l) d) same; answer = sym o.1 ∙ ap (λ (l : List Write). ran_answer (writes_to c.args.side 0 l) d) same }
