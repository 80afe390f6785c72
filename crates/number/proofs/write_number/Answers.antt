use Rattle.std.proofs.Common.{◌≡◌, ◌+◌, length, arith}
use Rattle.number.specs.Leb.{leb}
use Rattle.number.proofs.Written.{place, start, again, last_fits, part_long, done}
use Rattle.number.proofs.write_number.Goals as goal
use Rattle.number.proofs.write_number.Goals.{After-loop-byte}

pub loop-byte-init : goal.loop-byte-init
loop-byte-init c = start c.args.n _ (omega arith)

pub loop-byte-preserved : goal.loop-byte-preserved
loop-byte-preserved c =
    let long = part_long (place c.number_len-len.ensures c.if-not-has_room.ensures) in
    again c.args.n c.loop-byte.left c.loop-byte.byte-index c.loop-byte.byte-items (omega arith) (omega arith) c.loop-byte.invariant

front_long : (c : After-loop-byte) → length c.loop-byte.byte-items + 1 ≡ length (leb c.args.n)
front_long c = let long = part_long (place c.number_len-len.ensures c.if-not-has_room.ensures) in omega arith

pub overflow_cast-out : goal.overflow_cast-out
overflow_cast-out c = let fits = last_fits (omega (arith, front_long (goal.at.overflow_cast-out c).After-loop-byte)) c.loop-byte.invariant in omega arith

pub returns : goal.returns
returns c =
    done c.args.n c.args.at c.number_len-len.result c.loop-byte.left c.loop-byte.byte-index c.args.out.now c.loop-byte.byte-items
    (place c.number_len-len.ensures c.if-not-has_room.ensures) (front_long (goal.at.returns c).After-loop-byte) (omega arith) c.loop-byte.invariant
