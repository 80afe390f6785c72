use Rattle.std.proofs.Common.{◌≤◌, length, arith}
use Rattle.std.proofs.lemmas.Result.{err_from_is_err_and}
use Rattle.place.proofs.Groups.{length_listed, begins, begin_fails, closes}
use Rattle.place.proofs.write_group.Goals as goal

pub returns-in_err-token-clause-outcome : goal.returns-in_err-token-clause-outcome
returns-in_err-token-clause-outcome g c =
    let p = err_from_is_err_and c.from_residual.result c.from_residual.ensures.1 in
    λ r. rw (p.1, p.2) (begin_fails r.stage c.in_err-token.ensures.outcome)

pub returns-clause-outcome : goal.returns-clause-outcome
returns-clause-outcome g c = λ r.
    let few : length c.args.writes.now ≤ (g.S.Store.means c.args.s.now).shape.limit = omega (arith, r.few, length_listed g.C.Fill.bytes c.args.writes.now) in
    closes _ _ _ _ _ _ _ (c.put_all-tried.ensures (g.S.Store.means c.args.s.now) (begins c.in_ok-token.ensures.outcome) r.inside few) c.end_group.ensures
