use Rattle.std.proofs.Common.{◌≡◌, ◌++◌, take, drop}
use Rattle.disk.specs.Layout.{inverted}
use Rattle.disk.proofs.blocks.invert.Given as goal

-- the bytes before the index are turned, and the others are as they were
abbrev pub invariant-loop-byte : goal.invariant-loop-byte
invariant-loop-byte l = l.block ≡ inverted (take l.byte-index l.initial.block) ++ drop l.byte-index l.initial.block
