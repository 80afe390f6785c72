use Rattle.std.proofs.Common.{◌≡◌, ◌<◌, length, get_or, sym, subst, arith, ltb-false, ltb-true}
use Rattle.std.proofs.lemmas.List.{nil_from_length}
use Rattle.std.proofs.lemmas.Slice.{first_rest}
use Rattle.number.specs.Bytes.{held}
use Rattle.number.proofs.Coded.{Coded, coded_empty, coded_no_kind, coded_no_number, coded_then, coded_at, known, kind_read}
use Rattle.number.proofs.read_code.Goals as goal

pub returns-in_default : goal.returns-in_default
returns-in_default c =
    let none : length c.args.bytes.now ≡ 0 = omega (arith, ltb-true) in
    known (coded_at (nil_from_length c.args.bytes.now none) coded_empty)

pub returns-in_err-kind : goal.returns-in_err-kind
returns-in_err-kind c =
    let bytes = c.args.bytes.now in
    let some : 0 < length bytes = omega (arith, ltb-false) in
    let none = coded_no_kind _ _ (kind_read (get_or bytes 0 0) c.in_err-kind.ensures.value c.try_from.ensures) in
    known (subst (λ r. Coded bytes (held r)) (sym c.from_residual.ensures) (coded_at (first_rest bytes 0 some) none))

pub returns-in_err-first : goal.returns-in_err-first
returns-in_err-first c =
    let bytes = c.args.bytes.now in
    let some : 0 < length bytes = omega (arith, ltb-false) in
    let kind = kind_read (get_or bytes 0 0) c.in_ok-kind.ensures.value c.try_from.ensures in
    let none = coded_no_number _ _ _ kind c.in_err-first.ensures.value in
    known (subst (λ r. Coded bytes (held r)) (sym c.from_residual-in_err-first.ensures) (coded_at (first_rest bytes 0 some) none))

pub returns : goal.returns
returns c =
    let bytes = c.args.bytes.now in
    let some : 0 < length bytes = omega (arith, ltb-false) in
    let kind = kind_read (get_or bytes 0 0) c.in_ok-kind.ensures.value c.try_from.ensures in
    let got = c.in_ok-first.ensures in
    known (coded_at (first_rest bytes 0 some)
    (coded_then _ _ _ c.in_ok-first.first _ (held c.finish_code.result) kind got.value got.exact.1 c.finish_code.ensures.value c.finish_code.ensures.sound))
