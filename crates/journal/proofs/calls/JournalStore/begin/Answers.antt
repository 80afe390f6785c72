use Rattle.std.proofs.lemmas.Result.{err_from_is_err_and}
use Rattle.store.specs.Meaning.{phase_bar}
use Rattle.store.specs.Meaning as call
use Rattle.store.specs.declared.Needs.TheVariants as needs
use Rattle.journal.specs.Stages.{first_begin, stands_idle, begun}
use Rattle.journal.proofs.Admits.{admitted, turned_away}
use Rattle.journal.proofs.calls.JournalStore.begin.Goals as goal

pub returns-in_err-check_phase-clause-outcome : goal.returns-in_err-check_phase-clause-outcome
returns-in_err-check_phase-clause-outcome g c =
    let j = c.args.self.now in
    let d = g.D.Disk.means j.disk in
    let r = err_from_is_err_and c.from_residual.result c.from_residual.ensures.1 in
    turned_away d j.mode j.group _ c.standing.ensures needs.Idle call.begin _ _ _ (first_begin _) r.1 r.2 c.in_err-check_phase.ensures

pub returns-clause-outcome : goal.returns-clause-outcome
returns-clause-outcome g c =
    let j = c.args.self.now in
    let d = g.D.Disk.means j.disk in
    let ok = stands_idle d.blocks j.group d.powered j.mode (admitted d j.mode j.group _ c.standing.ensures needs.Idle _ c.in_ok-check_phase.ensures) in
    begun d.powered d.blocks j.mode j.group _ ok c.clear.ensures
