use Rattle.std.proofs.Common.{ap, ◌∙◌}
use Rattle.number.specs.Codes.{kind_number}
use Rattle.number.proofs.Coding.{Begun, begun, two_written}
use Rattle.number.proofs.write_code.Goals as goal
use Rattle.number.proofs.write_code.Goals.{After-write_number}

ready : (c : After-write_number) → Begun c.args.code c.numbers-first.result c.from.result c.args.at c.args.out.now
ready c =
    begun c.args.code c.numbers-first.result c.from.result c.args.at c.len.result c.args.out.now
    c.numbers-first.ensures (c.from.ensures ∙ ap kind_number c.kind.ensures) c.len.ensures c.if-not-has_room.ensures

pub returns-in-Some : goal.returns-in-Some
returns-in-Some c =
    two_written c.args.code c.numbers-first.result c.from.result c.args.at c.in-Some.second c.in_ok-end.end c.args.out.now
    c.write_number.new.out c.write_number-in-Some.new.out c.write_number-in-Some.result
    (ready (goal.at.returns-in-Some c).After-write_number) c.in-Some.is c.in_ok-end.ensures c.write_number-in-Some.ensures
