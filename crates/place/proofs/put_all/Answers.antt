use Rattle.std.proofs.Common.{◌+◌, subst, arith}
use Rattle.std.proofs.lemmas.Result.{err_from_is_err_and}
use Rattle.place.specs.Writes.{shown, Begun}
use Rattle.place.proofs.Groups.{stored_more, next_inside}
use Rattle.place.proofs.put_all.Goals as goal

pub loop-write-preserved : goal.loop-write-preserved
loop-write-preserved g c =
    let ws = c.args.writes.now in
    let i = c.loop-write.write-index in
    let done = next_inside g.C.Fill.bytes ws i _ c.loop-write-test.true c.write-item.is in
    λ m h inside few.
    subst (λ ps. Begun m ps (i + 1) (g.S.Store.means c.put_place.new.s)) (stored_more g.C.Fill.bytes ws i _ c.loop-write-test.true c.write-item.is (shown m)) (c.in_ok-put_place.ensures m _ _ (c.loop-write.invariant m h inside few) (done (shown m) inside) (omega arith))

pub returns-in_err-put_place : goal.returns-in_err-put_place
returns-in_err-put_place g c =
    let p = err_from_is_err_and c.from_residual.result c.from_residual.ensures.1 in
    let done = next_inside g.C.Fill.bytes c.args.writes.now c.loop-write.write-index _ c.loop-write-test.true c.write-item.is in
    λ m h inside few.
    rw (p.1, p.2) (c.in_err-put_place.ensures m _ _ (c.loop-write.invariant m h inside few) (done (shown m) inside) (omega arith))
