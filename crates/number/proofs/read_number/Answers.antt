use Rattle.std.proofs.Common.{◌^◌, ◌<◌, ap, ◌∙◌}
use Rattle.number.specs.Bytes.{held}
use Rattle.number.specs.Leb.{leb, reading}
use Rattle.number.proofs.Numbers.{reading_leb, exact_from}
use Rattle.number.proofs.read_number.Goals as goal

pub returns : goal.returns
unfolding reading leb
returns c =
    let got = c.read_at_most.ensures in
    record {
      value = got.value;
      exact = exact_from (λ n. n < 2 ^ 32) leb reading reading_leb c.args.bytes.now (held c.read_at_most.result) got.value got.sound;
      back = λ n rest lt e. got.value ∙ ap reading e ∙ reading_leb n rest lt;
    }
