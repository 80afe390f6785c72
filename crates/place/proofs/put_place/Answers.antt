use Rattle.place.proofs.Groups.{never_refused, placed, length_filled}
use Rattle.place.proofs.put_place.Goals as goal

pub returns-in_err-get : goal.returns-in_err-get
returns-in_err-get g c = λ m ps k h i j. never_refused c.args.write.now.place (g.met.S.Store.formed c.args.s.now) c.of-spot.ensures.cell c.of-spot.ensures.start h i c.in_err-get.ensures.outcome

pub returns : goal.returns
returns g c =
    let u = g.C.Fill.bytes c.args.write.now.content in
    let long = length_filled _ u _ c.get.array_long c.of-spot.result.fits c.fill.ensures c.fill.array_long in
    λ m ps k h i j.
    placed c.args.write.now.place (g.met.S.Store.formed c.args.s.now) c.of-spot.ensures.cell c.of-spot.ensures.start h i _ _ _ u c.put.result j c.in_ok-get.ensures.buffer c.fill.ensures long c.put.ensures.outcome
