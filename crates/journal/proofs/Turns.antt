-- The writes of a group's pages, one at each turn of a loop, and the parts of a commit, one after the other. Assumes nothing.
use Rattle.std.proofs.Common.{◌≡◌, ℕ, zero, suc, ◌+◌, ◌<◌, List, [], ◌∷◌, ◌++◌, length, get_or, take, drop, sym, refl, ap, ◌∙◌, append_assoc, arith}
use Rattle.std.proofs.lemmas.List.{take_more, drop_more, take-append-drop}
use Rattle.disk.specs.Runs.{Write}
use Rattle.journal.specs.declared.writes.Side.{Side}
use Rattle.journal.specs.declared.writes.Side.TheVariants.{Frames, Pages}
use Rattle.journal.specs.declared.writes.Part.{Part}
use Rattle.journal.specs.declared.group.Pending.{Pending}
use Rattle.journal.specs.Entries.{entries}
use Rattle.journal.specs.Names.{names}
use Rattle.journal.specs.Record.{record_of, blank}
use Rattle.journal.proofs.Seek.{length_entries, entries_at}
use Rattle.journal.specs.Layout.{block_at, writes_to, frame_writes, page_writes, copy_writes, commit_writes, commit_order, part_writes, all_writes, writes_of}

pub length_writes : (s : Side) (i : ℕ) (ws : List Write) → length (writes_to s i ws) ≡ length ws
length_writes s i [] = refl
length_writes s i (w ∷ ws) = ap suc (length_writes s (i + 1) ws)

-- the write of turn j
pub write_at : (s : Side) (i j : ℕ) (ws : List Write) (d w : Write) → j < length ws → get_or (writes_to s i ws) j w ≡ (block_at s (i + j) (get_or ws j d).0, (get_or ws j d).1)
write_at s i j [] d w h = absurd (omega arith)
write_at s i zero (x ∷ ws) d w h = let z : i + 0 ≡ i = omega arith in ap (λ k. (block_at s k x.0, x.1)) (sym z)
write_at s i (suc j) (x ∷ ws) d w h = let z : i + 1 + j ≡ i + suc j = omega arith in write_at s (i + 1) j ws d w (omega arith) ∙ ap (λ k. (block_at s k (get_or ws j d).0, (get_or ws j d).1)) z

pub to_frames : (i : ℕ) (ws : List Write) → writes_to Frames i ws ≡ frame_writes i ws
to_frames i [] = refl
to_frames i (w ∷ ws) = ap (λ l. (1 + i, w.1) ∷ l) (to_frames (i + 1) ws)

pub to_pages : (i : ℕ) (ws : List Write) → writes_to Pages i ws ≡ page_writes ws
to_pages i [] = refl
to_pages i (w ∷ ws) = ap (λ l. (7 + w.0, w.1) ∷ l) (to_pages (i + 1) ws)

pub turn_write : (s : Side) (j : ℕ) (ws : List Write) (d w : Write) → j < length ws → get_or (writes_to s 0 ws) j w ≡ (block_at s j (get_or ws j d).0, (get_or ws j d).1)
turn_write s j ws d w h = let z : 0 + j ≡ j = omega arith in write_at s 0 j ws d w h ∙ ap (λ k. (block_at s k (get_or ws j d).0, (get_or ws j d).1)) z

append_none : {A : Type 0} (xs : List A) → xs ++ [] ≡ xs
append_none [] = refl
append_none (x ∷ xs) = ap (λ l. x ∷ l) (append_none xs)

all_append : (ps qs : List Part) (ws : List Write) → all_writes (ps ++ qs) ws ≡ all_writes ps ws ++ all_writes qs ws
all_append [] qs ws = refl
all_append (p ∷ ps) qs ws = ap (λ l. part_writes p ws ++ l) (all_append ps qs ws) ∙ sym (append_assoc (part_writes p ws) (all_writes ps ws) (all_writes qs ws))

-- a loop over the parts
module _ (ps : List Part) (i : ℕ) (d : Part) (ws : List Write) (h : i < length ps) where
  pub one_more : all_writes (take i ps) ws ++ part_writes (get_or ps i d) ws ≡ all_writes (take (i + 1) ps) ws
  one_more =
      ap (λ l. all_writes (take i ps) ws ++ l) (sym (append_none (part_writes (get_or ps i d) ws)))
      ∙ sym (all_append (take i ps) (get_or ps i d ∷ []) ws)
      ∙ ap (λ l. all_writes l ws) (sym (take_more ps i d h))

  -- what is left after a part
  pub one_left : all_writes (take i ps) ws ++ (part_writes (get_or ps i d) ws ++ all_writes (drop (i + 1) ps) ws) ≡ all_writes ps ws
  one_left =
      sym (all_append (take i ps) (get_or ps i d ∷ drop (i + 1) ps) ws)
      ∙ ap (λ l. all_writes (take i ps ++ l) ws) (sym (drop_more ps i d h))
      ∙ ap (λ l. all_writes l ws) (take-append-drop i ps)

pub some_writes : (ps : List Part) (ws : List Write) → (length ws ≡ 0 → ⊥) → all_writes ps ws ≡ writes_of ps ws
some_writes ps [] h = absurd (h refl)
some_writes ps (w ∷ ws) h = refl

-- what a commit and a recovery write
pub all_parts : (ws : List Write) → writes_of commit_order ws ≡ commit_writes ws
all_parts [] = refl
all_parts (w ∷ ws) = ap (λ l. l ++ (0, record_of (names (w ∷ ws))) ∷ (writes_to Pages 0 (w ∷ ws) ++ (0, blank) ∷ [])) (to_frames 0 (w ∷ ws)) ∙ ap (λ l. frame_writes 0 (w ∷ ws) ++ (0, record_of (names (w ∷ ws))) ∷ (l ++ (0, blank) ∷ [])) (to_pages 0 (w ∷ ws))

pub last_parts : (w : Write) (ws : List Write) → writes_of (drop 2 commit_order) (w ∷ ws) ≡ copy_writes (w ∷ ws)
last_parts w ws = ap (λ l. l ++ (0, blank) ∷ []) (to_pages 0 (w ∷ ws))

-- the write of a page of a group
pub page_write : (s : Side) (j : ℕ) (ps : List Pending) (d : Pending) (w : Write) → j < length ps → get_or (writes_to s 0 (entries ps)) j w ≡ (block_at s j (get_or ps j d).page, (get_or ps j d).bytes)
page_write s j ps d w h =
    turn_write s j (entries ps) (d.page, d.bytes) w (omega (arith, length_entries ps))
    ∙ ap (λ (x : Write). (block_at s j x.0, x.1)) (entries_at ps j d)
