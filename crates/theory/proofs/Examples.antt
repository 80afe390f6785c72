-- The example runs, call by call.
use Rattle.std.proofs.Common.{◌≡◌, [], ◌∷◌, Some, refl}
use Rattle.theory.specs.Slots.{skip, undo_record, close_slot, stop, committed, undone}
use Rattle.theory.specs.Machine.{fresh, Begin, Perform, Commit, Abort, Power, Recover, Fate, powered, cut, done, abort_stopped, recover_stopped, ready}
use Rattle.theory.specs.Serial.{Worked, new, call}
use Rattle.theory.specs.Counter.{counter_theory, counter_limits}
use Rattle.theory.specs.Example.{cut_commit, cut_commit_view, CutCommitIsCovered, cut_again, CutAgainIsCovered}
use Rattle.theory.specs.declared.CounterOp.TheVariants.{Add, Read}

made : Worked counter_theory counter_limits cut_commit cut_commit_view
made =
    let w0 : Worked counter_theory counter_limits [] (fresh counter_theory counter_limits) = new in
    let w1 = call {c = Begin 0} w0 powered in
    let w2 = call {c = Recover} w1 powered in
    let w3 = call {c = Begin 0} w2 powered in
    let w4 = call {c = Begin 1} w3 powered in
    let w5 = call {c = Perform 0 (Add 5)} w4 powered in
    let w6 = call {c = Perform 1 (Add 7)} w5 powered in
    let w7 = call {c = Perform 1 Read} w6 powered in
    let w8 = call {c = Commit 0} w7 (cut (done {g = tt} refl refl)) in
    let w9 = call {c = Commit 1} w8 powered in
    let w10 = call {c = Power 9} w9 powered in
    let w11 = call {c = Recover} w10 (cut (recover_stopped (skip refl (undo_record refl stop)))) in
    let w12 = call {c = Power 9} w11 powered in
    let w13 = call {c = Recover} w12 powered in
    let w14 = call {c = Fate 1} w13 powered in
    let w15 = call {c = Begin 1} w14 powered in
    let w16 = call {c = Perform 1 (Add 1)} w15 powered in
    let w17 = call {c = Perform 1 Read} w16 powered in
    let w18 = call {c = Perform 1 (Add 4294967295)} w17 powered in
    call {c = Perform 1 Read} w18 powered

pub cut_commit_covered : CutCommitIsCovered
cut_commit_covered = (made, refl, λ s slots locks k. let e : Some 5 ≡ Some s = k.state_is_serial in cc)

again_made : Worked counter_theory counter_limits cut_again (ready 0 (committed ∷ undone ∷ []) ([] ∷ [] ∷ []))
again_made =
    let w0 : Worked counter_theory counter_limits [] (fresh counter_theory counter_limits) = new in
    let w1 = call {c = Recover} w0 powered in
    let w2 = call {c = Begin 0} w1 powered in
    let w3 = call {c = Perform 0 (Add 3)} w2 powered in
    let w4 = call {c = Perform 0 (Add 4)} w3 (cut (done {g = 0} refl refl)) in
    let w5 = call {c = Commit 0} w4 powered in
    let w6 = call {c = Commit 0} w5 powered in
    let w7 = call {c = Power 2} w6 powered in
    let w8 = call {c = Power 3} w7 powered in
    let w9 = call {c = Recover} w8 (cut (recover_stopped (undo_record refl stop))) in
    let w10 = call {c = Power 9} w9 powered in
    let w11 = call {c = Recover} w10 (cut (recover_stopped (undo_record refl (close_slot stop)))) in
    let w12 = call {c = Power 9} w11 powered in
    let w13 = call {c = Recover} w12 powered in
    let w14 = call {c = Begin 2} w13 powered in
    let w15 = call {c = Begin 1} w14 (cut (done {g = tt} refl refl)) in
    let w16 = call {c = Power 9} w15 powered in
    let w17 = call {c = Recover} w16 powered in
    let w18 = call {c = Recover} w17 powered in
    let w19 = call {c = Commit 1} w18 powered in
    let w20 = call {c = Begin 0} w19 powered in
    let w21 = call {c = Perform 0 (Add 9)} w20 powered in
    let w22 = call {c = Abort 0} w21 (cut (abort_stopped refl (undo_record refl (close_slot stop)))) in
    let w23 = call {c = Fate 0} w22 powered in
    let w24 = call {c = Power 0} w23 powered in
    let w25 = call {c = Recover} w24 powered in
    let w26 = call {c = Begin 0} w25 powered in
    let w27 = call {c = Perform 0 Read} w26 powered in
    let w28 = call {c = Perform 0 Read} w27 powered in
    let w29 = call {c = Perform 0 Read} w28 powered in
    let w30 = call {c = Perform 0 Read} w29 powered in
    let w31 = call {c = Perform 0 (Add 1)} w30 powered in
    call {c = Commit 0} w31 powered

pub cut_again_covered : CutAgainIsCovered
cut_again_covered = (again_made, refl)
