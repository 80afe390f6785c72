use Rattle.journal.specs.Meaning.{puts_of}
use Rattle.std.proofs.Common.{is_ok, ◌<◌, cond, Some, sym, refl, ap, ◌∙◌, arith}
use Rattle.std.proofs.lemmas.Result.{err_from_is_err_and}
use Rattle.journal.specs.Groups.{remembered}
use Rattle.refusal.specs.declared.Reason.TheVariants.{LimitReached}
use Rattle.refusal.specs.Refusals.{refusal}
use Rattle.journal.specs.Layout.{cells_of}
use Rattle.store.specs.Meaning.{phase_bar}
use Rattle.store.specs.Meaning as call
use Rattle.store.specs.declared.Needs.TheVariants as needs
use Rattle.journal.specs.Stages.{first_put, put_beyond, put_full, put_refused, put_call}
use Rattle.journal.proofs.Admits.{turned_away, group_open}
use Rattle.journal.proofs.calls.JournalStore.put.Goals as goal

pub returns-in_err-check_phase : goal.returns-in_err-check_phase
returns-in_err-check_phase g c =
    let j = c.args.self.now in
    let d = g.D.Disk.means j.disk in
    let r = err_from_is_err_and c.from_residual.result c.from_residual.ensures.1 in
    record {
      outcome = turned_away d j.mode j.group _ c.standing.ensures needs.Open (call.put c.args.n c.args.v.now) _ _ _ (first_put _ _ _) r.1 r.2 c.in_err-check_phase.ensures;
      disk = refl;
    }

pub returns-in_err-page : goal.returns-in_err-page
returns-in_err-page g c =
    let j = c.args.self.now in
    let d = g.D.Disk.means j.disk in
    let ok = group_open d j.mode j.group _ c.standing.ensures _ c.in_ok-check_phase.ensures in
    let r = err_from_is_err_and c.from_residual-in_err-page.result c.from_residual-in_err-page.ensures.1 in
    let why = put_beyond d.blocks j.group (puts_of j.mode) c.args.n c.args.v.now c.in_err-page.ensures.1 in
    record { outcome = rw (r.1, r.2) (put_refused d.powered d.blocks j.mode j.group c.args.n c.args.v.now c.in_err-page.field-0.0 ok (why ∙ ap Some (sym c.in_err-page.ensures.0))); disk = refl }

pub returns-then-puts-ge-LIMIT : goal.returns-then-puts-ge-LIMIT
returns-then-puts-ge-LIMIT g c =
    let j = c.args.self.now in
    let d = g.D.Disk.means j.disk in
    let ok = group_open d j.mode j.group _ c.standing.ensures _ c.in_ok-check_phase.ensures in
    let h : c.args.n < cells_of d.blocks = c.in_ok-page.ensures.1 in
    let why = put_full d.blocks j.group (puts_of j.mode) c.args.n c.args.v.now h (omega (arith, c.puts-puts.ensures, c.if-puts-ge-LIMIT.true)) in
    record {
      outcome = put_refused d.powered d.blocks j.mode j.group c.args.n c.args.v.now c.new.result ok (why ∙ ap (λ x. Some (refusal LimitReached 1 x)) (sym c.from.ensures) ∙ ap Some (sym c.new.ensures));
      disk = refl;
    }

pub invariant_of-self : goal.invariant_of-self
invariant_of-self g c =
    let j = c.args.self.now in
    let d = g.D.Disk.means j.disk in
    let ok = group_open d j.mode j.group _ c.standing.ensures _ c.in_ok-check_phase.ensures in
    let h : c.args.n < cells_of d.blocks = c.in_ok-page.ensures.1 in
    let few : puts_of j.mode < 6 = omega (arith, c.puts-puts.ensures, c.if-puts-ge-LIMIT.false) in
    let now = c.put.ensures.pages ∙ ap (λ r. cond (is_ok r) (remembered c.in_ok-page.page c.args.v.now j.group) j.group) c.unwrap.ensures ∙ ap (λ p. remembered p c.args.v.now j.group) c.in_ok-page.ensures.0 in
    record { whole = rw c.puts-puts.ensures (put_call d.powered d.blocks j.mode j.group c.put.new.self c.args.n c.args.v.now ok j.whole h few c.told-v now).1 }

pub returns : goal.returns
returns g c =
    let j = c.args.self.now in
    let d = g.D.Disk.means j.disk in
    let ok = group_open d j.mode j.group _ c.standing.ensures _ c.in_ok-check_phase.ensures in
    let h : c.args.n < cells_of d.blocks = c.in_ok-page.ensures.1 in
    let few : puts_of j.mode < 6 = omega (arith, c.puts-puts.ensures, c.if-puts-ge-LIMIT.false) in
    let now = c.put.ensures.pages ∙ ap (λ r. cond (is_ok r) (remembered c.in_ok-page.page c.args.v.now j.group) j.group) c.unwrap.ensures ∙ ap (λ p. remembered p c.args.v.now j.group) c.in_ok-page.ensures.0 in
    record { outcome = rw c.puts-puts.ensures (put_call d.powered d.blocks j.mode j.group c.put.new.self c.args.n c.args.v.now ok j.whole h few c.told-v now).0; disk = refl }
