use Rattle.std.proofs.Common.{◌≡◌}
use Rattle.refusal.specs.declared.Phase.TheVariants.{Open}
use Rattle.store.specs.Meaning.{phase_of}
use Rattle.powercut.proofs.content.put_all.Given as goal

abbrev pub invariant-loop-page : goal.invariant-loop-page
invariant-loop-page g l = phase_of (g.S.Store.means l.initial.store).stage ≡ Open → phase_of (g.S.Store.means l.store).stage ≡ Open
