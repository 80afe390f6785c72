use Rattle.std.proofs.Common.{[], get_or, Err, refl, ap, ◌∙◌, arith}
use Rattle.std.proofs.lemmas.Grind.{common_steps}
use Rattle.store.proofs.Clients.{get_answer, working_idle}
use Rattle.place.specs.Places.{places}
use Rattle.place.proofs.Groups.{place_read, never_idle}
use Rattle.place.proofs.read_place.Goals as goal

pub returns-in_err-get-clause-answers : goal.returns-in_err-get-clause-answers
returns-in_err-get-clause-answers g c = grind (arith, common_steps, get_answer _ _ (Err c.in_err-get.field-0.0) c.in_err-get.ensures.outcome)

pub returns-in_err-get-clause-granted : goal.returns-in_err-get-clause-granted
returns-in_err-get-clause-granted g c = never_idle c.args.p (g.met.S.Store.formed c.args.s.now) c.of-spot.ensures.cell c.in_err-get.ensures.outcome

pub returns-clause-buffer : goal.returns-clause-buffer
returns-clause-buffer g c =
    c.read.ensures ∙ place_read c.args.p (g.met.S.Store.formed c.args.s.now) c.of-spot.ensures.cell c.of-spot.ensures.start c.in_ok-get.ensures.outcome c.in_ok-get.ensures.buffer

pub returns-clause-granted : goal.returns-clause-granted
returns-clause-granted g c = λ i l.
    let m = g.S.Store.means c.args.s.now in
    (refl, returns-clause-buffer g c ∙ ap (λ w. get_or (places m.shape.size w) c.args.p []) (working_idle m i))
