-- What the record read says of the recovery to make. Assumes nothing.
use Rattle.std.proofs.Common.{◌≡◌, ℕ, ◌+◌, List, [], ◌∷◌, drop, get_or, Some, None, Err, Option, Result, sym, ap, ◌∙◌}
use Rattle.journal.proofs.Turns.{last_parts}
use Rattle.refusal.specs.declared.Refusal.{Refusal}
use Rattle.refusal.specs.declared.Reason.TheVariants.{Damaged}
use Rattle.refusal.specs.Refusals.{refusal}
use Rattle.disk.specs.Device.{Device}
use Rattle.disk.specs.Runs.{ran, ran_answer}
use Rattle.disk.proofs.Runs.{Ran, ran_none}
use Rattle.journal.specs.Layout.{framed, recover_writes, commit_order, writes_of}
use Rattle.journal.specs.Meaning.{recover_answer}

-- a recovery as it was made
pub record Restored (o : Option (List ℕ)) (d now : Device) (r : Result Unit Refusal) : Type 0 where
  pub after : now ≡ ran (recover_writes o d.blocks) d
  pub answer : r ≡ recover_answer o d

pub restored_damaged : (o : Option (List ℕ)) (d : Device) → None ≡ o → Restored o d d (Err (refusal Damaged 1 0))
restored_damaged o d e =
    record { after = sym (ran_none d).0 ∙ ap (λ x. ran (recover_writes x d.blocks) d) e; answer = ap (λ x. recover_answer x d) e }

pub restored : (o : Option (List ℕ)) (ps : List ℕ) (d after : Device) (r : Result Unit Refusal) → Some ps ≡ o → Ran (writes_of (drop 2 commit_order) (framed 0 ps d.blocks)) d after r → Restored o d after r
restored o [] d after r e k =
    record { after = k.after ∙ ap (λ x. ran (recover_writes x d.blocks) d) e; answer = k.answer ∙ ap (λ x. recover_answer x d) e }
restored o (p ∷ ps) d after r e k =
    let same = last_parts (p, get_or d.blocks (1 + 0) []) (framed (0 + 1) ps d.blocks) in
    record {
      after = k.after ∙ ap (λ x. ran x d) same ∙ ap (λ x. ran (recover_writes x d.blocks) d) e;
      answer = k.answer ∙ ap (λ x. ran_answer x d) same ∙ ap (λ x. recover_answer x d) e;
    }
