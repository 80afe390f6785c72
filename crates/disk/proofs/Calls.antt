-- What a call answers and leaves, by what the writes that are left let through.
use Rattle.std.proofs.Common.{◌≡◌, ℕ, ◌<◌, List, [], length, get_or, set, Some, None, Ok, Err, Option, arith}
use Rattle.std.proofs.lemmas.Bool.Decides.{nat_tests}
use Rattle.std.proofs.lemmas.Result.{err_from_is_err_and}
use Rattle.refusal.specs.declared.Refusal.{Refusal}
use Rattle.disk.specs.Device.{answer, bar, filled, written, write_answer}
use Rattle.disk.specs.Gate.{admitted, spent, left_after}
use Rattle.disk.specs.Layout.{supplied}

pub some_from_err : (o : Option Refusal) (e : Refusal) → Err e ≡ answer o → o ≡ Some e
some_from_err None e h = cc
some_from_err (Some f) e h = cc

module _ (n count : ℕ) (b : List (List ℕ)) (left : Option ℕ) (many : count ≡ length b) where
  pub read_within : (c : ℕ) → Ok c ≡ admitted n count left → n < length b
  read_within c h = grind (arith, nat_tests)

  pub read_answers : (c : ℕ) → Ok c ≡ admitted n count left → Ok tt ≡ answer (bar n (supplied b left))
  unfolding bar
  read_answers c h = grind (arith, nat_tests)

  pub read_fills : (c : ℕ) (old : List ℕ) → Ok c ≡ admitted n count left → filled n (supplied b left) old ≡ get_or b n []
  unfolding bar filled
  read_fills c old h = grind (arith, nat_tests)

  pub refused_answers : (e : Refusal) → Err e ≡ admitted n count left → Err e ≡ answer (bar n (supplied b left))
  unfolding bar
  refused_answers e h = grind (arith, nat_tests)

  pub refused_fills : (e : Refusal) (old : List ℕ) → Err e ≡ admitted n count left → old ≡ filled n (supplied b left) old
  unfolding bar filled
  refused_fills e old h = grind (arith, nat_tests)

  pub write_within : Ok tt ≡ spent n count left → n < length b
  write_within h = grind (arith, nat_tests)

  pub write_answers : Ok tt ≡ spent n count left → Ok tt ≡ write_answer n (supplied b left)
  unfolding bar write_answer
  write_answers h = grind (arith, nat_tests)

  pub write_leaves : (v : List ℕ) → Ok tt ≡ spent n count left → supplied (set b n v) (left_after n count left) ≡ written n v (supplied b left)
  unfolding bar written
  write_leaves v h = grind (arith, nat_tests)

  pub unwritten_answers : (e : Refusal) → Err e ≡ spent n count left → Err e ≡ write_answer n (supplied b left)
  unfolding bar write_answer
  unwritten_answers e h = grind (arith, nat_tests)

  pub unwritten_leaves : (e : Refusal) (v : List ℕ) → Err e ≡ spent n count left → supplied b (left_after n count left) ≡ written n v (supplied b left)
  unfolding bar written
  unwritten_leaves e v h = grind (arith, nat_tests)

-- what a disk's read and write cite
pub ruleset of_reads = (err_from_is_err_and, read_within, read_answers, read_fills, refused_answers, refused_fills)

pub ruleset of_writes = (err_from_is_err_and, write_within, write_answers, write_leaves, unwritten_answers, unwritten_leaves)
