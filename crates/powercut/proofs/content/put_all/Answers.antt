use Rattle.powercut.proofs.Opening.{put_open}
use Rattle.powercut.proofs.content.put_all.Goals as goal

pub loop-page-preserved : goal.loop-page-preserved
loop-page-preserved g c = λ h. put_open (c.loop-page.invariant h) c.in_ok-put.ensures.outcome
