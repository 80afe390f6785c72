use Rattle.std.proofs.Common.{refl}
use Rattle.std.proofs.lemmas.Result.{err_from_is_err_and}
use Rattle.store.specs.Meaning.{phase_bar}
use Rattle.store.specs.Meaning as call
use Rattle.store.specs.declared.Needs.TheVariants as needs
use Rattle.journal.specs.Stages.{first_abort, aborted}
use Rattle.journal.proofs.Admits.{turned_away, group_open}
use Rattle.journal.proofs.calls.JournalStore.abort.Goals as goal

pub returns-in_err-check_phase : goal.returns-in_err-check_phase
returns-in_err-check_phase g c =
    let j = c.args.self.now in
    let d = g.D.Disk.means j.disk in
    let r = err_from_is_err_and c.from_residual.result c.from_residual.ensures.1 in
    record {
      outcome = turned_away d j.mode j.group _ c.standing.ensures needs.Open call.abort _ _ _ (first_abort _) r.1 r.2 c.in_err-check_phase.ensures;
      disk = refl;
    }

pub returns : goal.returns
returns g c =
    let j = c.args.self.now in
    let d = g.D.Disk.means j.disk in
    let ok = group_open d j.mode j.group _ c.standing.ensures _ c.in_ok-check_phase.ensures in
    record {
      outcome = aborted d.powered d.blocks j.mode j.group _ ok;
      disk = refl;
    }
