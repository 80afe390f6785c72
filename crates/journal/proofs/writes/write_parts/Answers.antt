use Rattle.std.proofs.Common.{◌+◌, length, drop, sym, refl, ap, ◌∙◌}
use Rattle.std.proofs.lemmas.Result.{err_from_is_err_and}
use Rattle.std.proofs.lemmas.List.{nil_from_length}
use Rattle.std.proofs.lemmas.Bool.{eqb-true, eqb-false}
use Rattle.disk.specs.Runs.{ran, ran_answer}
use Rattle.disk.proofs.Runs.{Ran, as_run, ran_none, then_run, then_stop}
use Rattle.journal.specs.declared.writes.Part.TheVariants.{Frames}
use Rattle.journal.specs.Layout.{all_writes, writes_of}
use Rattle.journal.proofs.Turns.{one_more, one_left, some_writes}
use Rattle.journal.proofs.writes.write_parts.Goals as goal

pub returns-then-is_empty : goal.returns-then-is_empty
returns-then-is_empty g c =
    let ws = c.args.group.now in
    let e = nil_from_length ws (eqb-true (length ws) 0 (sym c.if-is_empty.ensures)) in
    let d = g.D.Disk.means c.args.disk.now in
    record {
      after = sym (ran_none d).0 ∙ ap (λ l. ran (writes_of c.args.parts.now l) d) (sym e);
      answer = sym (ran_none d).1 ∙ ap (λ l. ran_answer (writes_of c.args.parts.now l) d) (sym e);
    }

pub loop-part-init : goal.loop-part-init
loop-part-init g c = let d = g.D.Disk.means c.args.disk.now in record { after = sym (ran_none d).0; answer = sym (ran_none d).1 }

pub returns-in_err-write_part : goal.returns-in_err-write_part
returns-in_err-write_part g c =
    let ws = c.args.group.now in
    let ps = c.args.parts.now in
    let i = c.loop-part.part-index in
    let p : Ran _ _ _ _ = record { after = c.write_part.ensures.after; answer = c.write_part.ensures.answer } in
    let b = then_run c.loop-part.invariant refl (then_stop (all_writes (drop (i + 1) ps) ws) p c.in_err-write_part.was) in
    let k = as_run (one_left ps i Frames ws c.loop-part-test.true ∙ some_writes ps ws (eqb-false (length ws) 0 (sym c.if-is_empty.ensures))) b in
    let r = err_from_is_err_and c.from_residual.result c.from_residual.ensures.1 in
    record { after = k.after; answer = rw (r.1, r.2) k.answer }

pub loop-part-preserved : goal.loop-part-preserved
loop-part-preserved g c =
    let p : Ran _ _ _ _ = record { after = c.write_part.ensures.after; answer = sym c.in_ok-write_part.was ∙ c.write_part.ensures.answer } in
    as_run (one_more c.args.parts.now c.loop-part.part-index Frames c.args.group.now c.loop-part-test.true) (then_run c.loop-part.invariant refl p)
