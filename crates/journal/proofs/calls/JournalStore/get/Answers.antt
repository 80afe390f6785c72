use Rattle.std.proofs.Common.{◌+◌, ◌<◌, Some, sym, refl, ap, ◌∙◌, arith}
use Rattle.std.proofs.lemmas.Result.{err_from_is_err_and}
use Rattle.disk.proofs.Writes.{read_done}
use Rattle.store.specs.Meaning.{phase_bar, Outcome, Filled, barring, barred}
use Rattle.store.specs.Meaning as call
use Rattle.store.specs.declared.Needs.TheVariants as needs
use Rattle.journal.specs.Layout.{cells_of}
use Rattle.journal.specs.Meaning.{meaning, pended}
use Rattle.journal.specs.Stages.{first_get, live_on, get_granted, get_beyond, get_filled, got_block, got_page}
use Rattle.journal.proofs.Admits.{admitted, turned_away}
use Rattle.journal.proofs.calls.JournalStore.get.Goals as goal

pub returns-in_err-check_phase : goal.returns-in_err-check_phase
returns-in_err-check_phase g c =
    let j = c.args.self.now in
    let d = g.D.Disk.means j.disk in
    let r = err_from_is_err_and c.from_residual.result c.from_residual.ensures.1 in
    record {
      outcome = turned_away d j.mode j.group _ c.standing.ensures needs.Live (call.get c.args.n) _ _ _ (first_get _ _) r.1 r.2 c.in_err-check_phase.ensures;
      buffer = rw r.1 refl;
    }

pub returns-in_err-page : goal.returns-in_err-page
returns-in_err-page g c =
    let j = c.args.self.now in
    let d = g.D.Disk.means j.disk in
    let live = admitted d j.mode j.group _ c.standing.ensures needs.Live _ c.in_ok-check_phase.ensures in
    let r = err_from_is_err_and c.from_residual-in_err-page.result c.from_residual-in_err-page.ensures.1 in
    let why = get_beyond d.powered d.blocks j.mode j.group c.args.n live c.in_err-page.ensures.1 in
    record { outcome = rw (r.1, r.2) (barred (why ∙ ap Some (sym c.in_err-page.ensures.0)) refl); buffer = rw r.1 refl }

pub returns-in-Some : goal.returns-in-Some
returns-in-Some g c =
    let j = c.args.self.now in
    let d = g.D.Disk.means j.disk in
    let f = g.met.D.Disk.formed j.disk in
    let live = admitted d j.mode j.group _ c.standing.ensures needs.Live _ c.in_ok-check_phase.ensures in
    let h : c.args.n < cells_of d.blocks = c.in_ok-page.ensures.1 in
    record {
      outcome = get_granted d.powered d.blocks j.mode j.group c.args.n live h;
      buffer = sym (got_page d.blocks j.group c.args.n f.least f.even h c.in-Some.bytes.now d.powered j.mode live j.whole (c.in-Some.ensures ∙ ap (λ p. pended j.mode p j.group) c.in_ok-page.ensures.0));
    }

pub returns-in-None : goal.returns-in-None
returns-in-None g c =
    let j = c.args.self.now in
    let n = c.args.n in
    let d = g.D.Disk.means j.disk in
    let f = g.met.D.Disk.formed j.disk in
    let live = admitted d j.mode j.group _ c.standing.ensures needs.Live _ c.in_ok-check_phase.ensures in
    let h : n < cells_of d.blocks = c.in_ok-page.ensures.1 in
    let on = live_on d.powered d.blocks j.mode j.group live in
    let got = read_done (7 + n) d _ c.read.new.out c.read.result on (omega (arith, f.least)) c.read.ensures.answer c.read.ensures.buffer in
    let granted = get_granted d.powered d.blocks j.mode j.group n live h in
    let k = get_filled (meaning d j.mode j.group) n c.read.result _ c.args.out.now c.read.new.out granted got.0
    (got.1 ∙ sym (got_block d.blocks j.group n f.least f.even h d.powered j.mode live j.whole (c.in-None.ensures ∙ ap (λ p. pended j.mode p j.group) c.in_ok-page.ensures.0))) in
    record { outcome = k.0; buffer = k.1 }
