use Rattle.std.proofs.Common.{arith, rules}
use Rattle.tally.proofs.Refused.{undo_refused}
use Rattle.tally.proofs.acts.undo_newest.Goals as goal

pub returns-in_err-found-clause-turned : goal.returns-in_err-found-clause-turned
returns-in_err-found-clause-turned g c roomy ok =
    let m = g.S.Store.means c.args.store.now in
    let why = (rw c.plan.ensures at c.in_err-found.ensures.found) (record { stage = roomy.stage; first = omega (arith, roomy.places); table = ok }) in
    rw (undo_refused c.args.layer c.args.t m c.in_err-found.field-0.0 why) (search rules)
