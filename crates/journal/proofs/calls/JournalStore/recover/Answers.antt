use Rattle.std.proofs.Common.{Ok, Err, sym, ◌∙◌, arith}
use Rattle.std.proofs.lemmas.Result.{err_from_is_err_and}
use Rattle.store.specs.Meaning.{phase_bar}
use Rattle.store.specs.Meaning as call
use Rattle.store.specs.declared.Needs.TheVariants as needs
use Rattle.journal.specs.Layout.{cells_of}
use Rattle.journal.proofs.Exactness.{exactly}
use Rattle.journal.specs.Stages.{first_recover, answer_err}
use Rattle.journal.proofs.Commits.{recover_barred}
use Rattle.journal.proofs.Admits.{denied, admitted, turned_away}
use Rattle.journal.proofs.Ended.{due_on, recovers}
use Rattle.journal.proofs.calls.JournalStore.recover.Goals as goal

pub returns-in_err-check_phase : goal.returns-in_err-check_phase
returns-in_err-check_phase g c =
    let j = c.args.self.now in
    let d = g.D.Disk.means j.disk in
    let r = err_from_is_err_and c.from_residual.result c.from_residual.ensures.1 in
    let said = denied d j.mode j.group _ c.standing.ensures needs.Due _ c.in_err-check_phase.ensures in
    record {
      outcome = turned_away d j.mode j.group _ c.standing.ensures needs.Due call.recover _ _ _ (first_recover _) r.1 r.2 c.in_err-check_phase.ensures;
      disk = recover_barred d d.powered d.blocks j.mode j.group _ (answer_err _ _ said);
      exact = exactly (cells_of d.blocks) (omega (arith, (g.met.D.Disk.formed j.disk).most));
    }

pub returns-in_err-restore : goal.returns-in_err-restore
returns-in_err-restore g c =
    let j = c.args.self.now in
    let d = g.D.Disk.means j.disk in
    let f = g.met.D.Disk.formed j.disk in
    let free = admitted d j.mode j.group _ c.standing.ensures needs.Due _ c.in_ok-check_phase.ensures in
    let on = (due_on d j.mode j.group free).lit in
    let k = recovers d j.mode j.group f (g.D.Disk.means c.restore.new.disk) (Err c.in_err-restore.field-0.0) c.restore.new.group free (c.restore.ensures.after on) (sym c.in_err-restore.was ∙ c.restore.ensures.answer on) in
    let r = err_from_is_err_and c.from_residual-in_err-restore.result c.from_residual-in_err-restore.ensures.1 in
    record { outcome = rw (r.1, r.2) k.0.outcome; disk = k.1; exact = exactly (cells_of d.blocks) (omega (arith, f.most)) }

pub invariant_of-self-2 : goal.invariant_of-self-2
invariant_of-self-2 g c =
    let j = c.args.self.now in
    let d = g.D.Disk.means j.disk in
    let f = g.met.D.Disk.formed j.disk in
    let free = admitted d j.mode j.group _ c.standing.ensures needs.Due _ c.in_ok-check_phase.ensures in
    let on = (due_on d j.mode j.group free).lit in
    let k = recovers d j.mode j.group f (g.D.Disk.means c.restore.new.disk) (Ok tt) c.restore.new.group free (c.restore.ensures.after on) (sym c.in_ok-restore.was ∙ c.restore.ensures.answer on) in
    record { whole = k.0.stays }

pub returns : goal.returns
returns g c =
    let j = c.args.self.now in
    let d = g.D.Disk.means j.disk in
    let f = g.met.D.Disk.formed j.disk in
    let free = admitted d j.mode j.group _ c.standing.ensures needs.Due _ c.in_ok-check_phase.ensures in
    let on = (due_on d j.mode j.group free).lit in
    let k = recovers d j.mode j.group f (g.D.Disk.means c.restore.new.disk) (Ok tt) c.restore.new.group free (c.restore.ensures.after on) (sym c.in_ok-restore.was ∙ c.restore.ensures.answer on) in
    record { outcome = k.0.outcome; disk = k.1; exact = exactly (cells_of d.blocks) (omega (arith, f.most)) }
