use Rattle.std.proofs.Common.{refl, rules}
use lib.Bits.{bit_xor}
use Rattle.std.proofs.lemmas.List.Edits.{map_over_more}
use Rattle.std.proofs.lemmas.List.{take_all, drop_all}
use Rattle.disk.specs.Layout.{inverted}
use Rattle.disk.proofs.blocks.invert.Goals as goal

pub loop-byte-init : goal.loop-byte-init
unfolding inverted
loop-byte-init c = refl

pub loop-byte-preserved : goal.loop-byte-preserved
unfolding inverted
loop-byte-preserved c = search (rules, map_over_more (λ b. bit_xor b 255))

pub returns : goal.returns
unfolding inverted
returns c = search (rules, take_all, drop_all)
