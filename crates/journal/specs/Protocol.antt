-- What recovery finds after each write of a commit and of a recovery. Assumes nothing.
use Rattle.std.specs.Prelude.{◌≡◌, ℕ, zero, suc, ◌+◌, ◌-◌, ◌<◌, ◌≤◌, ◌⊎◌, List, [], ◌∷◌, ◌++◌, length, take, drop, Some, slice_index_or, slice_set, refl}
use Rattle.std.proofs.Math.Path.{sym, ap}
use Rattle.std.proofs.Common.{◌∙◌, subst, arith, get_or-set_same}
use Rattle.std.proofs.Math.Logic.{inl, inr, ⊎_elim}
use Rattle.std.proofs.Math.ListN.{length-set, length-append}
use Rattle.std.proofs.Math.Seq.{get_or-set_other, take-append-add}
use Rattle.std.proofs.lemmas.List.{take_all, drop-set-lt, take-append-le}
use Rattle.std.proofs.lemmas.Bool.{cases_lt}
use Rattle.disk.specs.Runs.{Write, stored, Inside}
use Rattle.journal.specs.Record.{record_of, blank, named, Different}
use Rattle.journal.specs.Names.{names}
use Rattle.journal.specs.Layout.{framed, overlaid, cells_of, naming, durable, frame_writes, page_writes, copy_writes}
use Rattle.journal.specs.Stored.{stored_append, length_stored, Avoids, stored_other, stored_low, absorbed, covered_take, pages_stored, pages_avoid, take_pages, frames_low, frames_avoid, framed_same, framed_written}
use Rattle.journal.specs.Records.{named_back, named_are}

pub durable_at : (b : List (List ℕ)) (ps : List ℕ) → naming b ≡ Some ps → durable b ≡ stored (framed 0 ps b) (drop 7 b)
unfolding durable
durable_at b ps e = ap (λ o. overlaid o b) e

pub names_framed : (i : ℕ) (ps : List ℕ) (b : List (List ℕ)) → names (framed i ps b) ≡ ps
names_framed i [] b = refl
names_framed i (p ∷ ps) b = ap (λ l. p ∷ l) (names_framed (i + 1) ps b)

pub length_framed : (i : ℕ) (ps : List ℕ) (b : List (List ℕ)) → length (framed i ps b) ≡ length ps
length_framed i [] b = refl
length_framed i (p ∷ ps) b = ap suc (length_framed (i + 1) ps b)

pub length_pages : (ws : List Write) → length (page_writes ws) ≡ length ws
length_pages [] = refl
length_pages (w ∷ ws) = ap suc (length_pages ws)

pub length_frames : (i : ℕ) (ws : List Write) → length (frame_writes i ws) ≡ length ws
length_frames i [] = refl
length_frames i (w ∷ ws) = ap suc (length_frames (i + 1) ws)

pub length_names : (ws : List Write) → length (names ws) ≡ length ws
length_names [] = refl
length_names (w ∷ ws) = ap suc (length_names ws)

-- the record of a block list of the same length and first block
same_naming : (a b : List (List ℕ)) → length a ≡ length b → slice_index_or a 0 [] ≡ slice_index_or b 0 [] → naming a ≡ naming b
same_naming a b l f = ap (λ n. named (n - 7) (slice_index_or a 0 [])) l ∙ ap (named (cells_of b)) f

-- these blocks hold the same durable content as before, and a record that can be read
pub record Kept (content : List (List ℕ)) (b : List (List ℕ)) : Type 0 where
  pub same : durable b ≡ content
  pub named_now : List ℕ
  pub reads : naming b ≡ Some named_now

-- copying the frames over the pages they are named for
module _ (b : List (List ℕ)) (ps : List ℕ) (e : naming b ≡ Some ps) (long : 7 ≤ length b) (small : length b ≤ 4096) where
  short : length ps ≤ 6
  short = (named_are (cells_of b) (slice_index_or b 0 []) ps e).0

  ws : List Write
  ws = framed 0 ps b

  partly : ℕ → List (List ℕ)
  partly m = stored (take m (page_writes ws)) b

  first_kept : (m n : ℕ) → n < 7 → slice_index_or (partly m) n [] ≡ slice_index_or b n []
  unfolding partly ws
  first_kept m n h = stored_other n (take m (page_writes ws)) b (subst (Avoids n) (sym (take_pages m ws)) (pages_avoid n (take m ws) h))

  partly_named : (m : ℕ) → naming (partly m) ≡ Some ps
  unfolding partly ws
  partly_named m = same_naming (partly m) b (length_stored (take m (page_writes ws)) b) (first_kept m 0 (omega arith)) ∙ e

  partly_kept : (m : ℕ) → Kept (durable b) (partly m)
  unfolding partly ws
  partly_kept m =
      let frames : framed 0 ps (partly m) ≡ ws = framed_same 0 ps (partly m) b (omega (arith, short)) (λ n lo hi. first_kept m n hi) in
      let pages : drop 7 (partly m) ≡ stored (take m ws) (drop 7 b) = ap (λ l. drop 7 (stored l b)) (take_pages m ws) ∙ pages_stored (take m ws) b in
      record {
        same = durable_at (partly m) ps (partly_named m) ∙ ap (λ l. stored l (drop 7 (partly m))) frames ∙ ap (stored ws) pages ∙ absorbed (take m ws) ws (drop 7 b) (covered_take m ws) ∙ sym (durable_at b ps e);
        named_now = ps;
        reads = partly_named m;
      }

  emptied : List (List ℕ)
  emptied = slice_set (stored (page_writes ws) b) 0 blank

  emptied_named : naming emptied ≡ Some []
  unfolding emptied ws
  emptied_named =
      let l = length_stored (page_writes ws) b in
      ap (λ n. named (n - 7) (slice_index_or emptied 0 [])) (length-set (stored (page_writes ws) b) 0 blank ∙ l)
      ∙ ap (named (cells_of b)) (get_or-set_same (stored (page_writes ws) b) 0 blank [] (omega arith))
      ∙ named_back (cells_of b) [] (omega arith) (omega arith) tt

  emptied_same : durable emptied ≡ durable b
  unfolding emptied ws
  emptied_same =
      durable_at emptied [] emptied_named
      ∙ drop-set-lt 7 (stored (page_writes ws) b) 0 blank (omega arith)
      ∙ pages_stored ws b
      ∙ sym (durable_at b ps e)

  pub copied_all : (naming (stored (copy_writes (framed 0 ps b)) b) ≡ Some []) × (durable (stored (copy_writes (framed 0 ps b)) b) ≡ durable b)
  unfolding emptied ws
  copied_all =
      let whole = stored_append (page_writes ws) ((0, blank) ∷ []) b in
      (ap naming whole ∙ emptied_named, ap durable whole ∙ emptied_same)

  pub copied_part : (n : ℕ) → Kept (durable b) (stored (take n (copy_writes (framed 0 ps b))) b)
  unfolding partly ws
  copied_part n =
      ⊎_elim
      (λ all. let done = copied_all in rw (take_all n (copy_writes ws) all) (record { same = done.1; named_now = []; reads = done.0 }))
      (λ part. rw (take-append-le n (page_writes ws) ((0, blank) ∷ []) (omega (arith, length-append (page_writes ws) ((0, blank) ∷ [])))) (partly_kept n))
      (swapped (cases_lt n (length (copy_writes ws))))
    where
      swapped : {A B : Type 0} → A ⊎ B → B ⊎ A
      swapped (inl x) = inr x
      swapped (inr x) = inl x

-- a commit
module _ (b : List (List ℕ)) (ws : List Write) (e : naming b ≡ Some []) (long : 7 ≤ length b) (small : length b ≤ 4096) (few : length ws ≤ 6) (diff : Different (cells_of b) (names ws)) where
  start : durable b ≡ drop 7 b
  start = durable_at b [] e

  low : (n : ℕ) (xs : List Write) → Inside 7 xs → Inside 7 (take n xs)
  low zero xs i = tt
  low (suc n) [] i = tt
  low (suc n) (x ∷ xs) i = (i.0, low n xs i.1)

  apart : (n k : ℕ) (xs : List Write) → Avoids k xs → Avoids k (take n xs)
  apart zero k xs a = tt
  apart (suc n) k [] a = tt
  apart (suc n) k (x ∷ xs) a = (a.0, apart n k xs a.1)

  -- while frames are written, the old content stands
  frames_part : (n : ℕ) → (naming (stored (take n (frame_writes 0 ws)) b) ≡ Some []) × (durable (stored (take n (frame_writes 0 ws)) b) ≡ durable b)
  frames_part n =
      let c = stored (take n (frame_writes 0 ws)) b in
      let reads : naming c ≡ Some [] = same_naming c b (length_stored (take n (frame_writes 0 ws)) b) (stored_other 0 (take n (frame_writes 0 ws)) b (apart n 0 (frame_writes 0 ws) (frames_avoid 0 0 ws (omega arith)))) ∙ e in
      (reads, durable_at c [] reads ∙ stored_low 7 (take n (frame_writes 0 ws)) b (low n (frame_writes 0 ws) (frames_low 0 ws (omega arith))) ∙ sym start)

  sealed : List (List ℕ)
  sealed = slice_set (stored (frame_writes 0 ws) b) 0 (record_of (names ws))

  sealed_length : length sealed ≡ length b
  unfolding sealed
  sealed_length = length-set (stored (frame_writes 0 ws) b) 0 (record_of (names ws)) ∙ length_stored (frame_writes 0 ws) b

  sealed_named : naming sealed ≡ Some (names ws)
  unfolding sealed
  sealed_named =
      ap (λ n. named (n - 7) (slice_index_or sealed 0 [])) sealed_length
      ∙ ap (named (cells_of b)) (get_or-set_same (stored (frame_writes 0 ws) b) 0 (record_of (names ws)) [] (omega (arith, length_stored (frame_writes 0 ws) b)))
      ∙ named_back (cells_of b) (names ws) (omega arith) (omega (arith, length_names ws)) diff

  sealed_framed : framed 0 (names ws) sealed ≡ ws
  unfolding sealed
  sealed_framed =
      framed_same 0 (names ws) sealed (stored (frame_writes 0 ws) b) (omega (arith, length_names ws)) (λ n lo hi. get_or-set_other (stored (frame_writes 0 ws) b) 0 n (record_of (names ws)) [] (λ z. omega arith))
      ∙ framed_written 0 ws b (omega arith)

  -- from the record on, the new content stands
  sealed_new : durable sealed ≡ stored ws (durable b)
  unfolding sealed
  sealed_new =
      durable_at sealed (names ws) sealed_named
      ∙ ap (λ l. stored l (drop 7 sealed)) sealed_framed
      ∙ ap (stored ws) (drop-set-lt 7 (stored (frame_writes 0 ws) b) 0 (record_of (names ws)) (omega arith) ∙ stored_low 7 (frame_writes 0 ws) b (frames_low 0 ws (omega arith)) ∙ sym start)

  sealed_part : (n : ℕ) → Kept (stored ws (durable b)) (stored (take n (copy_writes ws)) sealed)
  sealed_part n =
      let k = copied_part sealed (names ws) sealed_named (omega (arith, sealed_length)) (omega (arith, sealed_length)) n in
      let k' : Kept (durable sealed) (stored (take n (copy_writes ws)) sealed) = subst (λ l. Kept (durable sealed) (stored (take n (copy_writes l)) sealed)) sealed_framed k in
      record { same = k'.same ∙ sealed_new; named_now = k'.named_now; reads = k'.reads }

  sealed_all : (naming (stored (copy_writes ws) sealed) ≡ Some []) × (durable (stored (copy_writes ws) sealed) ≡ stored ws (durable b))
  sealed_all =
      let k = copied_all sealed (names ws) sealed_named (omega (arith, sealed_length)) (omega (arith, sealed_length)) in
      let k' = subst (λ l. (naming (stored (copy_writes l) sealed) ≡ Some []) × (durable (stored (copy_writes l) sealed) ≡ durable sealed)) sealed_framed k in
      (k'.0, k'.1 ∙ sealed_new)

  pub commit_old : (n : ℕ) → n ≤ length ws → (naming (stored (take n (frame_writes 0 ws ++ (0, record_of (names ws)) ∷ copy_writes ws)) b) ≡ Some []) × (durable (stored (take n (frame_writes 0 ws ++ (0, record_of (names ws)) ∷ copy_writes ws)) b) ≡ durable b)
  commit_old n h = rw (take-append-le n (frame_writes 0 ws) ((0, record_of (names ws)) ∷ copy_writes ws) (omega (arith, length_frames 0 ws))) (frames_part n)

  pub commit_new : (n : ℕ) → length ws < n → Kept (stored ws (durable b)) (stored (take n (frame_writes 0 ws ++ (0, record_of (names ws)) ∷ copy_writes ws)) b)
  unfolding sealed
  commit_new n h =
      let m = n - length ws - 1 in
      let f = frame_writes 0 ws in
      let rest = (0, record_of (names ws)) ∷ copy_writes ws in
      let is : n ≡ length f + suc m = omega (arith, length_frames 0 ws) in
      let cut : take n (f ++ rest) ≡ f ++ (0, record_of (names ws)) ∷ take m (copy_writes ws) = ap (λ k. take k (f ++ rest)) is ∙ take-append-add f rest (suc m) in
      let all : stored (take n (f ++ rest)) b ≡ stored (take m (copy_writes ws)) sealed = ap (λ l. stored l b) cut ∙ stored_append f ((0, record_of (names ws)) ∷ take m (copy_writes ws)) b in
      rw all (sealed_part m)

  pub commit_all : (naming (stored (frame_writes 0 ws ++ (0, record_of (names ws)) ∷ copy_writes ws) b) ≡ Some []) × (durable (stored (frame_writes 0 ws ++ (0, record_of (names ws)) ∷ copy_writes ws) b) ≡ stored ws (durable b))
  unfolding sealed
  commit_all =
      let all = stored_append (frame_writes 0 ws) ((0, record_of (names ws)) ∷ copy_writes ws) b in
      (ap naming all ∙ sealed_all.0, ap durable all ∙ sealed_all.1)
