use Rattle.std.proofs.Common.{◌≡◌, ◌+◌, ◌<◌, List, [], length, get_or, vec_len, refl, ap, ◌∙◌, arith, length-set}
use Rattle.std.proofs.lemmas.List.{with_items_is}
use Rattle.disk.specs.Runs.{Write}
use Rattle.disk.proofs.Writes.{read_done, read_granted}
use Rattle.journal.specs.declared.group.Pending.{Pending}
use Rattle.journal.specs.Names.{names}
use Rattle.journal.specs.Entries.{entries}
use Rattle.journal.specs.Layout.{framed}
use Rattle.journal.proofs.Loading.{loading_more, loading_all}
use Rattle.journal.proofs.restore.load_frames.Goals as goal

pub returns-in_err-read : goal.returns-in_err-read
returns-in_err-read g c p =
    let d = g.D.Disk.means c.args.disk.now in
    let i = c.loop-turn.turn in
    let h : 1 + i < length d.blocks = omega (arith, (g.met.D.Disk.formed c.args.disk.now).least, c.group.invariant.1, c.deref_mut-p-items.ensures.len, c.loop-turn.invariant.0) in
    read_granted (1 + i) d c.read.result _ p h c.read.ensures.answer c.in_err-read.was

pub loop-turn-preserved : goal.loop-turn-preserved
loop-turn-preserved g c =
    let d = g.D.Disk.means c.args.disk.now in
    let i = c.loop-turn.turn in
    let now = c.loop-turn.p-items in
    let e : Pending = record { page = 0; bytes = [] } in
    let inside : i < length now = omega (arith, c.loop-turn-test.true, c.loop-turn.invariant.0) in
    let h : 1 + i < length d.blocks = omega (arith, (g.met.D.Disk.formed c.args.disk.now).least, c.group.invariant.1, c.deref_mut-p-items.ensures.len, c.loop-turn.invariant.0) in (
      length-set now i _ ∙ c.loop-turn.invariant.0,
      λ p.
          let got = read_done (1 + i) d _ c.read.new.out c.read.result p h c.read.ensures.answer c.read.ensures.buffer in
          loading_more d.blocks c.deref_mut-p-items.result.now now i e _ inside (c.loop-turn.invariant.1 p)
          (ap (λ v. record { page = (get_or now i e).page; bytes = v }) got.1),
    )

pub returns : goal.returns
returns g c p =
    let d = g.D.Disk.means c.args.disk.now in
    let old = c.deref_mut-p-items.result.now in
    let same = ap entries c.deref_mut-p-items.ensures.value ∙ c.group.view_is in
    let long : length c.loop-turn.p-items ≡ vec_len c.group.inside.pages = c.loop-turn.invariant.0 ∙ c.deref_mut-p-items.ensures.len in
    let back = ap entries (with_items_is c.group.inside.pages c.loop-turn.p-items long) in
    (refl, back ∙ loading_all d.blocks old c.loop-turn.p-items c.loop-turn.turn (omega (arith, c.loop-turn-test.false, c.loop-turn.invariant.0)) (c.loop-turn.invariant.1 p) ∙ ap (λ (l : List Write). framed 0 (names l) d.blocks) same)
