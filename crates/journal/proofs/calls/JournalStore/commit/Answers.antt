use Rattle.std.proofs.Common.{Ok, Err, sym, ◌∙◌}
use Rattle.std.proofs.lemmas.Result.{err_from_is_err_and}
use Rattle.store.specs.Meaning.{phase_bar}
use Rattle.store.specs.Meaning as call
use Rattle.store.specs.declared.Needs.TheVariants as needs
use Rattle.journal.specs.Stages.{first_commit, answer_err}
use Rattle.journal.proofs.Commits.{commit_barred}
use Rattle.journal.proofs.Admits.{denied, admitted, turned_away}
use Rattle.journal.proofs.Ended.{commits}
use Rattle.journal.proofs.calls.JournalStore.commit.Goals as goal

pub returns-in_err-check_phase : goal.returns-in_err-check_phase
returns-in_err-check_phase g c =
    let j = c.args.self.now in
    let d = g.D.Disk.means j.disk in
    let r = err_from_is_err_and c.from_residual.result c.from_residual.ensures.1 in
    let said = denied d j.mode j.group _ c.standing.ensures needs.Open _ c.in_err-check_phase.ensures in
    record {
      outcome = turned_away d j.mode j.group _ c.standing.ensures needs.Open call.commit _ _ _ (first_commit _) r.1 r.2 c.in_err-check_phase.ensures;
      disk = (commit_barred d d.powered d.blocks j.mode j.group c.from_residual.result _ (answer_err _ _ said)).0;
      by_charge = (commit_barred d d.powered d.blocks j.mode j.group c.from_residual.result _ (answer_err _ _ said)).1;
    }

pub invariant_of-self : goal.invariant_of-self
invariant_of-self g c =
    let j = c.args.self.now in
    let d = g.D.Disk.means j.disk in
    let free = admitted d j.mode j.group _ c.standing.ensures needs.Open _ c.in_ok-check_phase.ensures in
    let k = commits d j.mode j.group (g.met.D.Disk.formed j.disk) (g.D.Disk.means c.write_parts.new.disk) (Err c.in_err-write_parts.field-0.0) j.whole free _ c.commit_parts.ensures c.write_parts.ensures.after (sym c.in_err-write_parts.was ∙ c.write_parts.ensures.answer) in
    record { whole = k.ends.stays }

pub returns-in_err-write_parts : goal.returns-in_err-write_parts
returns-in_err-write_parts g c =
    let j = c.args.self.now in
    let d = g.D.Disk.means j.disk in
    let free = admitted d j.mode j.group _ c.standing.ensures needs.Open _ c.in_ok-check_phase.ensures in
    let k = commits d j.mode j.group (g.met.D.Disk.formed j.disk) (g.D.Disk.means c.write_parts.new.disk) (Err c.in_err-write_parts.field-0.0) j.whole free _ c.commit_parts.ensures c.write_parts.ensures.after (sym c.in_err-write_parts.was ∙ c.write_parts.ensures.answer) in
    let r = err_from_is_err_and c.from_residual-in_err-write_parts.result c.from_residual-in_err-write_parts.ensures.1 in
    record { outcome = rw (r.1, r.2) k.ends.outcome; disk = k.disk; by_charge = rw (r.1, r.2) k.by_charge }

pub invariant_of-self-2 : goal.invariant_of-self-2
invariant_of-self-2 g c =
    let j = c.args.self.now in
    let d = g.D.Disk.means j.disk in
    let free = admitted d j.mode j.group _ c.standing.ensures needs.Open _ c.in_ok-check_phase.ensures in
    let k = commits d j.mode j.group (g.met.D.Disk.formed j.disk) (g.D.Disk.means c.write_parts.new.disk) (Ok tt) j.whole free _ c.commit_parts.ensures c.write_parts.ensures.after (sym c.in_ok-write_parts.was ∙ c.write_parts.ensures.answer) in
    record { whole = k.ends.stays }

pub returns : goal.returns
returns g c =
    let j = c.args.self.now in
    let d = g.D.Disk.means j.disk in
    let free = admitted d j.mode j.group _ c.standing.ensures needs.Open _ c.in_ok-check_phase.ensures in
    let k = commits d j.mode j.group (g.met.D.Disk.formed j.disk) (g.D.Disk.means c.write_parts.new.disk) (Ok tt) j.whole free _ c.commit_parts.ensures c.write_parts.ensures.after (sym c.in_ok-write_parts.was ∙ c.write_parts.ensures.answer) in
    record { outcome = k.ends.outcome; disk = k.disk; by_charge = k.by_charge }
