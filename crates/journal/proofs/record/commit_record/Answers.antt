use Rattle.std.proofs.Common.{◌≡◌, ◌+◌, ◌≤◌, List, [], ◌∷◌, ◌++◌, length, replicate, sym, ap, ◌∙◌, subst, arith}
use Rattle.number.specs.Leb.{leb}
use Rattle.number.specs.Bytes.{Written}
use Rattle.disk.specs.Runs.{Write}
use Rattle.journal.specs.declared.group.Pending.{Pending}
use Rattle.journal.specs.Names.{names}
use Rattle.journal.specs.Record.{record_of}
use Rattle.journal.specs.Entries.{entries}
use Rattle.journal.proofs.Writing.{Holds, holds_none, holds_some, holds_size, holds_more, so_far, so_far_more, length_so_far, record_held}
use Rattle.journal.proofs.record.commit_record.Goals as goal

pub unwrap-end-requires : goal.unwrap-end-requires
unwrap-end-requires c = holds_some [] c.len.result 0 _ (omega arith) holds_none _ _ c.write_number.ensures

pub loop-p-init : goal.loop-p-init
loop-p-init c =
    let w = subst (λ r. Written (leb c.len.result) 0 (replicate 256 0) c.write_number.new.out r) c.unwrap-end.ensures c.write_number.ensures in
    let h = holds_more [] c.len.result 0 _ (omega arith) holds_none _ _ w in
    let e : c.len.result ≡ length c.deref-p-items.result.now = c.len.ensures ∙ sym c.deref-p-items.ensures.len in
    let k = subst (λ n. Holds (n ∷ []) c.unwrap-end.result c.write_number.new.out) e h in
    (holds_size _ _ _ (omega arith) k, k)

pub unwrap-end-requires-in-loop-p : goal.unwrap-end-requires-in-loop-p
unwrap-end-requires-in-loop-p c =
    let ps = c.deref-p-items.result.now in
    let i = c.loop-p.p-index in
    let few : length ps ≤ 6 = omega (arith, c.deref-p-items.ensures.len, c.group.invariant.1) in
    holds_some (so_far ps i) c.from.result c.loop-p.end _ (length_so_far ps i few) c.loop-p.invariant.1 _ _ c.write_number-in-loop-p.ensures

pub loop-p-preserved : goal.loop-p-preserved
loop-p-preserved c =
    let ps = c.deref-p-items.result.now in
    let i = c.loop-p.p-index in
    let d : Pending = record { page = 0; bytes = [] } in
    let few : length ps ≤ 6 = omega (arith, c.deref-p-items.ensures.len, c.group.invariant.1) in
    let w = subst (λ r. Written (leb c.from.result) c.loop-p.end c.loop-p.record c.write_number-in-loop-p.new.out r) c.unwrap-end-in-loop-p.ensures c.write_number-in-loop-p.ensures in
    let h = holds_more (so_far ps i) c.from.result c.loop-p.end _ (length_so_far ps i few) c.loop-p.invariant.1 _ _ w in
    let e = so_far_more ps i d c.loop-p-test.true ∙ ap (λ n. so_far ps i ++ n ∷ []) (sym c.from.ensures) in
    let k = subst (λ l. Holds l c.unwrap-end-in-loop-p.result c.write_number-in-loop-p.new.out) (sym e) h in
    (holds_size _ _ _ (length_so_far ps (i + 1) few) k, k)

pub returns : goal.returns
returns c =
    let same = ap entries c.deref-p-items.ensures.value ∙ c.group.view_is in
    record_held c.deref-p-items.result.now c.loop-p.p-index c.loop-p.end c.loop-p.record c.loop-p-test.false c.loop-p.invariant.1
    ∙ ap (λ (l : List Write). record_of (names l)) same
