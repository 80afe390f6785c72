use Rattle.std.proofs.lemmas.Result.{err_from_is_err_and}
use Rattle.survive.proofs.Coming.{commit_ends, survives, survives_cut}
use Rattle.survive.proofs.survive.Goals as goal

pub returns-in_err-revive : goal.returns-in_err-revive
returns-in_err-revive g c =
    let r = err_from_is_err_and c.from_residual.result c.from_residual.ensures.1 in
    λ w p s.
    let e = commit_ends _ w p c.commit-answer.result _ s c.commit-answer.ensures.outcome in
    rw (r.1, r.2) (survives_cut e (c.in_err-revive.ensures e.finds))

pub returns : goal.returns
returns g c = λ w p s.
    let e = commit_ends _ w p c.commit-answer.result _ s c.commit-answer.ensures.outcome in
    survives e (c.in_ok-revive.ensures e.finds)
