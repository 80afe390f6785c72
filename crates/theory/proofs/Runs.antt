-- Runs of operations with their answers.
use Rattle.std.proofs.Common.{◌≡◌, List, [], ◌∷◌, ◌++◌, Some, Option, sym, refl, ap, ◌∙◌, subst, append_assoc, append-nil}
use Rattle.theory.specs.Theory.{Theory, Takes}
use Rattle.theory.specs.History.{Accepted}
use Rattle.theory.specs.Serial.{all_of, operations, answered, behind, after, answers}
use Rattle.theory.proofs.Log.{Entry, plain, Replays}

pub all_of_append : {A : Type 0} (xs : List (List A)) (x : List A) → all_of (xs ++ (x ∷ [])) ≡ all_of xs ++ x
all_of_append [] x = append-nil x
all_of_append (y ∷ xs) x = ap (λ l. y ++ l) (all_of_append xs x) ∙ sym (append_assoc y (all_of xs) x)

module _ {Op Answer : Type 0} where
  pub operations_append : (xs ys : List (Accepted Op Answer)) → operations (xs ++ ys) ≡ operations xs ++ operations ys
  operations_append [] ys = refl
  operations_append (x ∷ xs) ys = ap (λ l. x.op ∷ l) (operations_append xs ys)

module _ {Op Answer : Type 0} (th : Theory Op Answer) where
  -- from s the operations apply in their order, each with the answer beside it, and lead to s'
  abbrev pub Runs : th.State → List (Accepted Op Answer) → th.State → Type 0
  Runs s [] s' = s ≡ s'
  Runs s (x ∷ xs) s' = (m : th.State) × (undo : Option Op) × Takes th s x.op m x.answer undo × Runs m xs s'

  pub runs_append : (s m s' : th.State) (xs ys : List (Accepted Op Answer)) → Runs s xs m → Runs m ys s' → Runs s (xs ++ ys) s'
  runs_append s m s' [] ys e r = subst (λ z. Runs z ys s') (sym e) r
  runs_append s m s' (x ∷ xs) ys k r = (k.0, k.1, k.2, runs_append k.0 m s' xs ys k.3 r)

  pub runs_front : (s s' : th.State) (xs ys : List (Accepted Op Answer)) → Runs s (xs ++ ys) s' → (m : th.State) × Runs s xs m
  runs_front s s' [] ys r = (s, refl)
  runs_front s s' (x ∷ xs) ys r = let f = runs_front r.0 s' xs ys r.3 in (f.0, (r.0, r.1, r.2, f.1))

  pub replays_runs : (b s : th.State) (log : List (Entry Op Answer)) → Replays th b log s → Runs b (plain log) s
  replays_runs b s [] e = e
  replays_runs b s (e ∷ log) r = runs_append b r.0 s (plain log) (e.what ∷ []) (replays_runs b r.0 log r.1) (s, e.undo, r.2, refl)

  pub runs_after : (s s' : th.State) (xs : List (Accepted Op Answer)) → Runs s xs s' → after th s (operations xs) ≡ Some s'
  runs_after s s' [] e = ap Some e
  runs_after s s' (x ∷ xs) r = rw r.2 (runs_after r.0 s' xs r.3)

  pub runs_answers : (s s' : th.State) (xs : List (Accepted Op Answer)) → Runs s xs s' → answers th s (operations xs) ≡ Some (answered xs)
  runs_answers s s' [] e = refl
  runs_answers s s' (x ∷ xs) r = rw r.2 (ap (behind x.answer) (runs_answers r.0 s' xs r.3))
