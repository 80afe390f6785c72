-- What a level means, its limits left out, and the laws that it keeps.
use Rattle.std.specs.Prelude.{◌≡◌, ℕ, Bool, false, Some, None, Option}

-- What is locked for an accepted operation until its transaction ends: the operation's kind and the number that it is about.
pub record Lock : Type 0 where
  pub kind : ℕ
  pub number : ℕ

-- What an operation that applies gives: the state after it, its answer and its inverse. An operation that only reads has no inverse.
pub record Done (State Op Answer : Type 0) : Type 0 where
  pub next : State
  pub answer : Answer
  pub undo : Option Op

pub record Theory (Op Answer : Type 0) : Type 1 where
  pub State : Type 0
  pub empty : State
  -- None where the operation does not apply
  pub apply : State → Op → Option (Done State Op Answer)
  pub lock : Op → Lock
  pub conflict : Lock → Lock → Bool

-- In state s the operation applies, leads to s', answers a and has the inverse undo.
abbrev pub Takes : {Op Answer : Type 0} (th : Theory Op Answer) → th.State → Op → th.State → Answer → Option Op → Type 0
Takes th s op s' a undo = th.apply s op ≡ Some (record { next = s'; answer = a; undo = undo })

-- The two laws, inverse and commute, with what they rest on. They are asked of a set of states that has the empty one and each that an operation leads to from it.
pub record Lawful {Op Answer : Type 0} (th : Theory Op Answer) : Type 1 where
  pub Good : th.State → Type 0
  pub good_empty : Good th.empty
  pub good_next : {s s' : th.State} {op : Op} {a : Answer} {undo : Option Op} → Good s → Takes th s op s' a undo → Good s'
  -- Where an operation applies, its inverse applies to the result and gives the state back.
  pub inverse : {s s' : th.State} {op undo : Op} {a : Answer} → Good s → Takes th s op s' a (Some undo) → (b : Answer) × (redo : Option Op) × Takes th s' undo s b redo
  -- An operation with no inverse changes no state.
  pub reads : {s s' : th.State} {op : Op} {a : Answer} → Good s → Takes th s op s' a None → s' ≡ s
  -- Two operations that do not conflict and apply in one order apply in the other too, with the same state, answers and inverses.
  pub commute : {s m s' : th.State} {op op' : Op} {a a' : Answer} {undo undo' : Option Op} → Good s → th.conflict (th.lock op) (th.lock op') ≡ false → Takes th s op m a undo → Takes th m op' s' a' undo'
      → (n : th.State) × Takes th s op' n a' undo' × Takes th n op s' a undo
  pub symmetric : (x y : Lock) → th.conflict x y ≡ th.conflict y x
