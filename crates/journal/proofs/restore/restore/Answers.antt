use Rattle.std.proofs.Common.{◌≡◌, ◌-◌, ◌<◌, true, take, drop, length, Err, ap, ◌∙◌, arith}
use Rattle.std.proofs.lemmas.Result.{err_from_is_err_and}
use Rattle.disk.proofs.Runs.{Ran, as_run}
use Rattle.disk.proofs.Writes.{read_done, read_granted}
use Rattle.journal.specs.Record.{named}
use Rattle.journal.specs.Names.{names}
use Rattle.journal.specs.Layout.{naming, commit_order, writes_of}
use Rattle.journal.proofs.Restoring.{restored_damaged, restored}
use Rattle.journal.proofs.restore.restore.Goals as goal

pub returns-in_err-read : goal.returns-in_err-read
returns-in_err-read g c =
    let d = g.D.Disk.means c.args.disk.now in
    let h : 0 < length d.blocks = omega (arith, (g.met.D.Disk.formed c.args.disk.now).least) in
    record {
      after = λ p. read_granted 0 d c.read.result _ p h c.read.ensures.answer c.in_err-read.was;
      answer = λ p. read_granted 0 d c.read.result _ p h c.read.ensures.answer c.in_err-read.was;
    }

pub returns-in_err-read_record : goal.returns-in_err-read_record
returns-in_err-read_record g c =
    let d = g.D.Disk.means c.args.disk.now in
    let h : 0 < length d.blocks = omega (arith, (g.met.D.Disk.formed c.args.disk.now).least) in
    let r = err_from_is_err_and c.from_residual-in_err-read_record.result c.from_residual-in_err-read_record.ensures.1 in
    let k = λ (p : d.powered ≡ true).
    let got = read_done 0 d _ c.read.new.out c.read.result p h c.read.ensures.answer c.read.ensures.buffer in
    restored_damaged (naming d.blocks) d (c.in_err-read_record.ensures ∙ ap (λ n. named n c.read.new.out) c.pages_of.ensures ∙ ap (named (length d.blocks - 7)) got.1) in
    record { after = λ p. (k p).after; answer = λ p. r.1 ∙ ap Err r.2 ∙ (k p).answer }

pub returns : goal.returns
returns g c =
    let d = g.D.Disk.means c.args.disk.now in
    let h : 0 < length d.blocks = omega (arith, (g.met.D.Disk.formed c.args.disk.now).least) in
    let ps = names c.read_record.new.group in
    let k = λ (p : d.powered ≡ true).
    let got = read_done 0 d _ c.read.new.out c.read.result p h c.read.ensures.answer c.read.ensures.buffer in
    let run : Ran _ _ _ _ = record { after = c.write_parts.ensures.after; answer = c.write_parts.ensures.answer } in
    let same = ap (λ l. writes_of (take 2 (drop 2 l)) c.load_frames.new.group) c.commit_parts.ensures ∙ ap (writes_of (drop 2 commit_order)) (c.load_frames.ensures p).1 in
    restored (naming d.blocks) ps d _ _ (c.in_ok-read_record.ensures ∙ ap (λ n. named n c.read.new.out) c.pages_of.ensures ∙ ap (named (length d.blocks - 7)) got.1) (as_run same run) in
    record { after = λ p. (k p).after; answer = λ p. (k p).answer }
