use Rattle.std.proofs.Common.{arith, rules}
use Rattle.tally.proofs.Refused.{apply_refused}
use Rattle.tally.proofs.acts.apply_op.Goals as goal

pub returns-in_err-found-clause-acted : goal.returns-in_err-found-clause-acted
returns-in_err-found-clause-acted g c roomy ok =
    let m = g.S.Store.means c.args.store.now in
    let why = (rw c.plan.ensures at c.in_err-found.ensures.found) (record { stage = roomy.stage; first = omega (arith, roomy.places); table = ok }) in
    rw (apply_refused c.args.layer c.args.t c.args.op m c.in_err-found.field-0.0 why) (search rules)
