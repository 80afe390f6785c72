use Rattle.std.proofs.Common.{◌≡◌, ℕ, suc, ◌+◌, ◌-◌, ◌*◌, ◌<◌, ◌≤◌, Some, sym, refl, subst, ◌∙◌, arith}
use Rattle.std.proofs.lemmas.List.{nil_from_length}
use Rattle.number.specs.declared.Group.{Group}
use Rattle.number.specs.declared.Group.TheVariants.{More}
use Rattle.number.specs.Bytes.{held}
use Rattle.number.specs.Reads.{Got, Grouped}
use Rattle.number.proofs.Steps.{room_below, got_none, got_top, got_last, got_break, got_zero, got_more, got_at}
use Rattle.number.proofs.+read_at_most.Goals as goal

pub returns-in_err-byte : goal.returns-in_err-byte
returns-in_err-byte t c =
    subst (λ r. Got c.args.left c.args.bytes.now (held r)) (sym c.from_residual.ensures)
    (got_at refl (nil_from_length c.args.bytes.now c.in_err-byte.ensures.cases) (got_none c.args.left))

pub returns-in_err-n : goal.returns-in_err-n
returns-in_err-n t c =
    let is = c.in_err-n.ensures in
    subst (λ r. Got c.args.left c.args.bytes.now (held r)) (sym c.from_residual-in_err-n.ensures)
    (got_at refl c.in_ok-byte.ensures.cases.0 (got_top c.args.left _ _ is.1 is.0))

pub returns-in-Last : goal.returns-in-Last
returns-in-Last t c =
    let is = subst (λ g. Grouped c.args.left c.in_ok-byte.byte.now (Some g)) c.in-Last.is c.in_ok-n.ensures in
    got_at refl c.in_ok-byte.ensures.cases.0 (got_last c.args.left _ c.from.result _ (c.from.ensures ∙ is.0) is.1 is.2)

-- a byte that another follows
record Step (k byte low : ℕ) : Type 0 where
  high : 128 ≤ byte
  is : low ≡ byte - 128
  back : suc (k - 1) ≡ k

step : {k byte low : ℕ} {group : Group} → Grouped k byte (Some group) → group ≡ More low → Step k byte low
step {k = k} {byte = byte} {low = low} is e =
    let more : Grouped k byte (Some (More low)) = subst (λ g. Grouped k byte (Some g)) e is in
    record { high = more.1; is = more.0; back = omega (arith, more.2) }

pub returns-in_err-high-in-More : goal.returns-in_err-high-in-More
returns-in_err-high-in-More t c =
    let s = step c.in_ok-n.ensures c.in-More.is in
    subst (λ r. Got c.args.left c.args.bytes.now (held r)) (sym c.from_residual-in_err-high-in-More.ensures)
    (got_at s.back c.in_ok-byte.ensures.cases.0 (got_break (c.args.left - 1) _ _ s.high c.in_err-high-in-More.ensures))

pub joined-requires : goal.joined-requires
joined-requires t c =
    let s = step c.in_ok-n.ensures c.in-More.is in
    let byte : c.in_ok-byte.byte.now < 256 = omega arith in
    let at : c.args.left - 1 ≤ 3 = omega arith in
    (omega (arith, byte, s.is), omega (arith, room_below (c.args.left - 1) at, c.in_ok-high-in-More.ensures.sound.0))

pub returns-in_err-n-in-More : goal.returns-in_err-n-in-More
returns-in_err-n-in-More t c =
    let s = step c.in_ok-n.ensures c.in-More.is in
    subst (λ r. Got c.args.left c.args.bytes.now (held r)) (sym c.from_residual-in_err-n-in-More.ensures)
    (got_at s.back c.in_ok-byte.ensures.cases.0 (got_zero (c.args.left - 1) _ _ _ _ s.high c.in_err-n-in-More.ensures c.in_ok-high-in-More.ensures))

pub returns-in_ok-n-in-More : goal.returns-in_ok-n-in-More
returns-in_ok-n-in-More t c =
    let s = step c.in_ok-n.ensures c.in-More.is in
    let byte : c.in_ok-byte.byte.now < 256 = omega arith in
    let m = c.in_ok-high-in-More.high in
    let is : c.in_ok-n-in-More.n ≡ c.in_ok-byte.byte.now - 128 + 128 * m = omega (arith, s.is, c.in_ok-n-in-More.ensures.1) in
    got_at s.back c.in_ok-byte.ensures.cases.0
    (got_more (c.args.left - 1) _ m c.in_ok-n-in-More.n _ _ s.high byte c.in_ok-n-in-More.ensures.0 is c.in_ok-high-in-More.ensures)
