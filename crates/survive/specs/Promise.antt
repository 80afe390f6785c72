-- What stands of a store when power has gone and come back.
use Rattle.std.specs.Prelude.{◌≡◌, ◌⊎◌, Ok, Err, Result}
use Rattle.refusal.specs.declared.Refusal.{Refusal}
use Rattle.refusal.specs.Refusals.{darkened}
use Rattle.store.specs.Meaning.{Cells, Content, Stage, idle, dark, sound}

-- where a store stands that was given power: in use, or dark once more and to be recovered
abbrev pub Back : {X : Type 0} → Result X Refusal → Stage → Type 0
Back (Ok x) s = s ≡ idle
Back (Err e) s = (e ≡ darkened) × (s ≡ dark sound)

-- power back: the durable content is that of before, whether recovery was granted or cut
pub record Revived (m : Content) (r : Result Unit Refusal) (after : Content) : Type 0 where
  pub shape : after.shape ≡ m.shape
  pub durable : after.durable ≡ m.durable
  pub back : Back r after.stage

-- a commit that was granted stands; the only other answer is that power went
abbrev pub Kept : Result (Result Unit Refusal) Refusal → Cells → Cells → Type 0
Kept (Ok (Ok x)) w d = d ≡ w
Kept (Ok (Err e)) w d = e ≡ darkened
Kept (Err e) w d = Unit {0}

-- a group with the working content w was committed, and power came back: the durable content is that of before or the whole of w
pub record Survived (m : Content) (w : Cells) (r : Result (Result Unit Refusal) Refusal) (after : Content) : Type 0 where
  pub shape : after.shape ≡ m.shape
  pub durable : (after.durable ≡ m.durable) ⊎ (after.durable ≡ w)
  pub back : Back r after.stage
  pub granted : Kept r w after.durable
