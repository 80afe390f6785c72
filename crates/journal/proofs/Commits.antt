-- A journal's commit and recovery as those of a store: from the block writes to the content that stands. Assumes nothing.
use Rattle.std.proofs.Common.{◌≡◌, ℕ, ◌+◌, ◌-◌, ◌*◌, ◌<◌, ◌≤◌, Bool, true, false, leb, List, [], ◌∷◌, ◌++◌, length, get_or, take, Some, None, Ok, Err, Option, Result, sym, refl, ap, ◌∙◌, subst, ⊎_elim, arith, length-append}
use Rattle.std.proofs.lemmas.Bool.{cases_lt, le-leb, lt-leb, cond-true, cond-false}
use Rattle.refusal.specs.declared.Reason.TheVariants as reason
use Rattle.refusal.specs.declared.Refusal.{Refusal}
use Rattle.refusal.specs.Refusals.{refusal, darkened}
use Rattle.disk.specs.Device.{Device, Formed}
use Rattle.disk.specs.Runs.{Write, stored, Inside, ran, ran_answer, all_done, cut_short, Lasts}
use Rattle.disk.proofs.Runs.{lasts, ran_none}
use Rattle.store.specs.Meaning.{Content, Outcome, Left, undone, done, Granted, Refused, barred, cut, bar, barring, next, dimmed}
use Rattle.store.specs.Meaning as call
use Rattle.journal.specs.declared.state.Mode.{Mode}
use Rattle.journal.specs.declared.state.Mode.TheVariants.{Due, Idle, Open}
use Rattle.journal.specs.Record.{Different, Below, record_of, blank}
use Rattle.journal.specs.Names.{names}
use Rattle.journal.specs.Layout.{framed, cells_of, naming, durable, frame_writes, page_writes, copy_writes, commit_writes, recover_writes}
use Rattle.journal.specs.Meaning.{content, shape_of, finding_of, puts_of, Grouped, Whole, recover_answer, ByCharge, Lawfully, committed, recovered}
use Rattle.journal.specs.Stored.{length_stored}
use Rattle.journal.specs.Stages.{Stands}
use Rattle.store.specs.declared.Needs.TheVariants as needs
use Rattle.journal.specs.Records.{different_below, named_are}
use Rattle.journal.specs.Protocol.{copied_all, copied_part, commit_old, commit_new, commit_all, length_frames, length_pages, names_framed}

-- the blocks written are there
inside_append : (n : ℕ) (xs ys : List Write) → Inside n xs → Inside n ys → Inside n (xs ++ ys)
inside_append n [] ys i j = j
inside_append n (x ∷ xs) ys i j = (i.0, inside_append n xs ys i.1 j)

inside_frames : (n i : ℕ) (ws : List Write) → i + length ws < n → Inside n (frame_writes i ws)
inside_frames n i [] h = tt
inside_frames n i (w ∷ ws) h = (omega arith, inside_frames n (i + 1) ws (omega arith))

inside_pages : (n : ℕ) (ws : List Write) → Below (n - 7) (names ws) → Inside n (page_writes ws)
inside_pages n [] b = tt
inside_pages n (w ∷ ws) b = (omega (arith, b.0), inside_pages n ws b.1)

inside_copy : (n : ℕ) (ws : List Write) → 8 ≤ n → Below (n - 7) (names ws) → Inside n (copy_writes ws)
inside_copy n ws h b = inside_append n (page_writes ws) ((0, blank) ∷ []) (inside_pages n ws b) (omega arith, tt)

-- a dark journal with that durable content
dark_content : (b c : List (List ℕ)) (mode : Mode) (ws : List Write) (cells : List (List ℕ)) (ps : List ℕ) → length c ≡ length b → durable c ≡ cells → naming c ≡ Some ps
    → content false c mode ws ≡ record { shape = shape_of b; durable = cells; stage = call.dark call.sound }
dark_content b c mode ws cells ps l d n =
    ap (λ (k : ℕ). record { shape = record { layer = 1; cells = k - 7; size = 256; limit = 6 }; durable = durable c; stage = call.dark (finding_of (naming c)) }) l
    ∙ ap (λ (x : call.Cells). record { shape = shape_of b; durable = x; stage = call.dark (finding_of (naming c)) }) d
    ∙ ap (λ (o : Option (List ℕ)). record { shape = shape_of b; durable = cells; stage = call.dark (finding_of o) }) n

idle_content : (b c : List (List ℕ)) (ws : List Write) (cells : List (List ℕ)) → length c ≡ length b → durable c ≡ cells → content true c Idle ws ≡ record { shape = shape_of b; durable = cells; stage = call.idle }
idle_content b c ws cells l d =
    ap (λ (k : ℕ). record { shape = record { layer = 1; cells = k - 7; size = 256; limit = 6 }; durable = durable c; stage = call.idle }) l
    ∙ ap (λ (x : call.Cells). record { shape = shape_of b; durable = x; stage = call.idle }) d

grouped_on : (b c : List (List ℕ)) (ws : List Write) (p : ℕ) → length c ≡ length b → Grouped b ws p → Grouped c ws p
grouped_on b c ws p l g = record { different = subst (λ (k : ℕ). Different (k - 7) (names ws)) (sym l) g.different; sized = g.sized; few = g.few; most = g.most }

-- how a call that makes a run of writes ends
abbrev pub mode_after : Mode → Mode → Result Unit Refusal → Mode
mode_after old new (Ok x) = new
mode_after old new (Err e) = old

pub record Ends (k : call.Call) (m : Content) (old new : Mode) (ws : List Write) (after : Device) (r : Result Unit Refusal) : Type 0 where
  pub outcome : Outcome k m r (content after.powered after.blocks (mode_after old new r) ws)
  pub stays : Whole after.powered after.blocks (mode_after old new r) ws

-- the two ways in which a run of writes ends
module _ (k : call.Call) (m : Content) (old new : Mode) (ws : List Write) (d : Device) (run : List Write) where
  ends_with : (after : Device) (r : Result Unit Refusal) (after' : Device) (r' : Result Unit Refusal) → after ≡ after' → r ≡ r' → Ends k m old new ws after' r' → Ends k m old new ws after r
  ends_with after r after' r' a b e = subst (λ (x : Device). Ends k m old new ws x r) (sym a) (subst (λ (y : Result Unit Refusal). Ends k m old new ws after' y) (sym b) e)

  ends_by : (after : Device) (r : Result Unit Refusal) → Lasts run d → after ≡ ran run d → r ≡ ran_answer run d
      → (length run ≤ d.charge → Ends k m old new ws (all_done run d) (Ok tt))
      → (d.charge < length run → Ends k m old new ws (cut_short run d) (Err darkened))
      → Ends k m old new ws after r
  ends_by after r l a q full short =
      ⊎_elim
      (λ h.
      let t = lt-leb (length run) d.charge h in
      ends_with after r (cut_short run d) (Err darkened) (a ∙ l.leaves ∙ cond-false (leb (length run) d.charge) (all_done run d) (cut_short run d) t) (q ∙ l.answers ∙ cond-false (leb (length run) d.charge) (Ok tt) (Err darkened) t) (short h))
      (λ h.
      let t = le-leb (length run) d.charge h in
      ends_with after r (all_done run d) (Ok tt) (a ∙ l.leaves ∙ cond-true (leb (length run) d.charge) (all_done run d) (cut_short run d) t) (q ∙ l.answers ∙ cond-true (leb (length run) d.charge) (Ok tt) (Err darkened) t) (full h))
      (cases_lt d.charge (length run))

-- a commit
module _ (d : Device) (w : Write) (ws : List Write) (p : ℕ) (f : Formed d) (on : d.powered ≡ true) (e : naming d.blocks ≡ Some []) (g : Grouped d.blocks (w ∷ ws) p) where
  b : List (List ℕ)
  b = d.blocks

  all : List Write
  all = w ∷ ws

  run : List Write
  run = commit_writes (w ∷ ws)

  commit_inside : Inside (length d.blocks) (commit_writes (w ∷ ws))
  commit_inside =
      inside_append (length d.blocks) (frame_writes 0 (w ∷ ws)) ((0, record_of (names (w ∷ ws))) ∷ copy_writes (w ∷ ws))
      (inside_frames (length d.blocks) 0 (w ∷ ws) (omega (arith, f.least, g.few, g.most)))
      (omega (arith, f.least), inside_copy (length d.blocks) (w ∷ ws) f.least (different_below (cells_of d.blocks) (names (w ∷ ws)) g.different))

  free : bar call.commit (content true d.blocks (Open p) (w ∷ ws)) ≡ None
  unfolding bar
  free = refl

  long : 7 ≤ length d.blocks
  long = omega (arith, f.least)

  few : length (w ∷ ws) ≤ 6
  few = omega (arith, g.few, g.most)

  full : Ends call.commit (content true d.blocks (Open p) (w ∷ ws)) (Open p) Idle (w ∷ ws) (all_done (commit_writes (w ∷ ws)) d) (Ok tt)
  unfolding next
  full =
      let now = commit_all d.blocks (w ∷ ws) e long f.most few g.different in
      let c = stored (commit_writes (w ∷ ws)) d.blocks in
      let l = length_stored (commit_writes (w ∷ ws)) d.blocks in
      record {
        outcome = record { free = free; leaves = idle_content d.blocks c (w ∷ ws) (stored (w ∷ ws) (durable d.blocks)) l now.1 };
        stays = record { record_blank = now.0; opened = tt };
      }

  short : Ends call.commit (content true d.blocks (Open p) (w ∷ ws)) (Open p) Idle (w ∷ ws) (cut_short (commit_writes (w ∷ ws)) d) (Err darkened)
  unfolding next
  short =
      let c = stored (take d.charge (commit_writes (w ∷ ws))) d.blocks in
      let l : length c ≡ length d.blocks = length_stored (take d.charge (commit_writes (w ∷ ws))) d.blocks in
      let stays : Whole false c (Open p) (w ∷ ws) = record { record_blank = tt; opened = grouped_on d.blocks c (w ∷ ws) p l g } in
      ⊎_elim
      (λ new.
      let k = commit_new d.blocks (w ∷ ws) e long f.most few g.different d.charge new in
      record { outcome = cut refl (done free (dark_content d.blocks c (Open p) (w ∷ ws) (stored (w ∷ ws) (durable d.blocks)) k.named_now l k.same k.reads)); stays = stays })
      (λ old.
      let k = commit_old d.blocks (w ∷ ws) e long f.most few g.different d.charge old in
      record { outcome = cut refl (undone tt free (dark_content d.blocks c (Open p) (w ∷ ws) (durable d.blocks) [] l k.1 k.0)); stays = stays })
      (cases_lt (length (w ∷ ws)) d.charge)

  commit_some : (after : Device) (r : Result Unit Refusal) → after ≡ ran (commit_writes (w ∷ ws)) d → r ≡ ran_answer (commit_writes (w ∷ ws)) d → Ends call.commit (content true d.blocks (Open p) (w ∷ ws)) (Open p) Idle (w ∷ ws) after r
  commit_some after r a q = ends_by call.commit (content true d.blocks (Open p) (w ∷ ws)) (Open p) Idle (w ∷ ws) d (commit_writes (w ∷ ws)) after r (lasts (commit_writes (w ∷ ws)) d on commit_inside) a q (λ h. full) (λ h. short)

pub commit_ends : (d : Device) (ws : List Write) (p : ℕ) (after : Device) (r : Result Unit Refusal) → Formed d → d.powered ≡ true → naming d.blocks ≡ Some [] → Grouped d.blocks ws p → after ≡ ran (commit_writes ws) d → r ≡ ran_answer (commit_writes ws) d → Ends call.commit (content true d.blocks (Open p) ws) (Open p) Idle ws after r
unfolding bar next
commit_ends d [] p after r f on e g a q =
    ends_with call.commit (content true d.blocks (Open p) []) (Open p) Idle [] d [] after r (all_done [] d) (Ok tt) (a ∙ one) (q ∙ (ran_none d).1)
    (record { outcome = record { free = refl; leaves = refl }; stays = record { record_blank = e; opened = tt } })
  where
    z : d.charge - 0 ≡ d.charge
    z = omega arith

    one : ran [] d ≡ all_done [] d
    one = (ran_none d).0 ∙ ap (λ (x : Bool). record { blocks = d.blocks; charge = d.charge; powered = x }) on ∙ ap (λ (n : ℕ). record { blocks = d.blocks; charge = n; powered = true }) (sym z)
commit_ends d (w ∷ ws) p after r f on e g a q = commit_some d w ws p f on e g after r a q

-- a recovery that copies frames
module _ (d : Device) (n : ℕ) (ns : List ℕ) (ws : List Write) (f : Formed d) (on : d.powered ≡ true) (e : naming d.blocks ≡ Some (n ∷ ns)) where
  restore_inside : Inside (length d.blocks) (copy_writes (framed 0 (n ∷ ns) d.blocks))
  restore_inside = inside_copy (length d.blocks) (framed 0 (n ∷ ns) d.blocks) f.least (subst (Below (cells_of d.blocks)) (sym (names_framed 0 (n ∷ ns) d.blocks)) (named_are (cells_of d.blocks) (get_or d.blocks 0 []) (n ∷ ns) e).1)

  due_free : bar call.recover (content true d.blocks Due ws) ≡ None
  unfolding bar
  due_free = ap (λ (o : Option (List ℕ)). call.found (finding_of o)) e

  restore_long : 7 ≤ length d.blocks
  restore_long = omega (arith, f.least)

  restore_full : Ends call.recover (content true d.blocks Due ws) Due Idle ws (all_done (copy_writes (framed 0 (n ∷ ns) d.blocks)) d) (Ok tt)
  unfolding next
  restore_full =
      let now = copied_all d.blocks (n ∷ ns) e restore_long f.most in
      let run = copy_writes (framed 0 (n ∷ ns) d.blocks) in
      record {
        outcome = record { free = due_free; leaves = idle_content d.blocks (stored run d.blocks) ws (durable d.blocks) (length_stored run d.blocks) now.1 };
        stays = record { record_blank = now.0; opened = tt };
      }

  restore_short : Ends call.recover (content true d.blocks Due ws) Due Idle ws (cut_short (copy_writes (framed 0 (n ∷ ns) d.blocks)) d) (Err darkened)
  unfolding next
  restore_short =
      let run = copy_writes (framed 0 (n ∷ ns) d.blocks) in
      let c = stored (take d.charge run) d.blocks in
      let k = copied_part d.blocks (n ∷ ns) e restore_long f.most d.charge in
      let same = dark_content d.blocks c Due ws (durable d.blocks) k.named_now (length_stored (take d.charge run) d.blocks) k.same k.reads in
      let before : record { shape = shape_of d.blocks; durable = durable d.blocks; stage = call.dark call.sound } ≡ dimmed (content true d.blocks Due ws) = ap (λ (o : Option (List ℕ)). record { shape = shape_of d.blocks; durable = durable d.blocks; stage = call.dark (finding_of o) }) (sym e) in
      record { outcome = cut refl (undone tt due_free (same ∙ before)); stays = record { record_blank = tt; opened = tt } }

  restore_some : (after : Device) (r : Result Unit Refusal) → after ≡ ran (copy_writes (framed 0 (n ∷ ns) d.blocks)) d → r ≡ ran_answer (copy_writes (framed 0 (n ∷ ns) d.blocks)) d → Ends call.recover (content true d.blocks Due ws) Due Idle ws after r
  restore_some after r a q = ends_by call.recover (content true d.blocks Due ws) Due Idle ws d (copy_writes (framed 0 (n ∷ ns) d.blocks)) after r (lasts (copy_writes (framed 0 (n ∷ ns) d.blocks)) d on restore_inside) a q (λ h. restore_full) (λ h. restore_short)

-- a recovery, by what the record says
pub restore_ends : (d : Device) (ws : List Write) (after : Device) (r : Result Unit Refusal) (o : Option (List ℕ)) → Formed d → d.powered ≡ true → naming d.blocks ≡ o → after ≡ ran (recover_writes o d.blocks) d → r ≡ recover_answer o d → Ends call.recover (content true d.blocks Due ws) Due Idle ws after r
unfolding bar next
restore_ends d ws after r None f on e a q =
    ends_with call.recover (content true d.blocks Due ws) Due Idle ws d [] after r (record { blocks = d.blocks; charge = d.charge; powered = true }) (Err (refusal reason.Damaged 1 0)) (a ∙ (ran_none d).0 ∙ ap (λ (x : Bool). record { blocks = d.blocks; charge = d.charge; powered = x }) on) q
    (record { outcome = barred (ap (λ (o : Option (List ℕ)). call.found (finding_of o)) e) refl; stays = record { record_blank = tt; opened = tt } })
restore_ends d ws after r (Some []) f on e a q =
    ends_with call.recover (content true d.blocks Due ws) Due Idle ws d [] after r (record { blocks = d.blocks; charge = d.charge; powered = true }) (Ok tt) (a ∙ (ran_none d).0 ∙ ap (λ (x : Bool). record { blocks = d.blocks; charge = d.charge; powered = x }) on) (q ∙ (ran_none d).1)
    (record { outcome = record { free = ap (λ (o : Option (List ℕ)). call.found (finding_of o)) e; leaves = refl }; stays = record { record_blank = e; opened = tt } })
restore_ends d ws after r (Some (n ∷ ns)) f on e a q = restore_some d n ns ws f on e after r a q

-- the law of a commit by the charge it finds
length_commit : (w : Write) (ws : List Write) → length (commit_writes (w ∷ ws)) ≡ 2 * length (w ∷ ws) + 2
length_commit w ws =
    let f = length_frames 0 (w ∷ ws) in
    let p = length_pages (w ∷ ws) in
    let a = length-append (frame_writes 0 (w ∷ ws)) ((0, record_of (names (w ∷ ws))) ∷ copy_writes (w ∷ ws)) in
    let s = length-append (page_writes (w ∷ ws)) ((0, blank) ∷ []) in
    omega (arith, f, p, a, s)

pub commit_by_charge : (d : Device) (ws : List Write) (p : ℕ) (after : Device) (r : Result Unit Refusal) → Formed d → d.powered ≡ true → naming d.blocks ≡ Some [] → Grouped d.blocks ws p → after ≡ ran (commit_writes ws) d → r ≡ ran_answer (commit_writes ws) d → ByCharge ws d r after
commit_by_charge d [] p after r f on e g a q = record {
  count = λ h. absurd (omega arith);
  old = λ h. absurd (omega arith);
  new = λ h. ap (λ (x : Device). durable x.blocks) (a ∙ (ran_none d).0);
  granted = λ h. q ∙ (ran_none d).1;
  refused = λ h. absurd (omega arith);
}
commit_by_charge d (w ∷ ws) p after r f on e g a q =
    let run = commit_writes (w ∷ ws) in
    let l = lasts run d on (commit_inside d w ws p f on e g) in
    let c = length_commit w ws in
    let lo = long d w ws p f on e g in
    let fe = few d w ws p f on e g in
    record {
      count = λ h. c;
      old = λ h k.
          let t = lt-leb (length run) d.charge (omega (arith, c)) in
          ap (λ (x : Device). durable x.blocks) (a ∙ l.leaves ∙ cond-false (leb (length run) d.charge) (all_done run d) (cut_short run d) t)
          ∙ (commit_old d.blocks (w ∷ ws) e lo f.most fe g.different d.charge k).1;
      new = λ k.
          ⊎_elim
          (λ h.
          let t = lt-leb (length run) d.charge h in
          ap (λ (x : Device). durable x.blocks) (a ∙ l.leaves ∙ cond-false (leb (length run) d.charge) (all_done run d) (cut_short run d) t)
          ∙ (commit_new d.blocks (w ∷ ws) e lo f.most fe g.different d.charge k).same)
          (λ h.
          let t = le-leb (length run) d.charge h in
          ap (λ (x : Device). durable x.blocks) (a ∙ l.leaves ∙ cond-true (leb (length run) d.charge) (all_done run d) (cut_short run d) t)
          ∙ (commit_all d.blocks (w ∷ ws) e lo f.most fe g.different).1)
          (cases_lt d.charge (length run));
      granted = λ h. q ∙ l.answers ∙ cond-true (leb (length run) d.charge) (Ok tt) (Err darkened) (le-leb (length run) d.charge (omega (arith, c)));
      refused = λ h k. q ∙ l.answers ∙ cond-false (leb (length run) d.charge) (Ok tt) (Err darkened) (lt-leb (length run) d.charge (omega (arith, c)));
    }

-- a recovery leaves whatever it read in the group, which then is not open
restore_any : (d : Device) (ws now : List Write) (after : Device) (r : Result Unit Refusal) → Formed d → d.powered ≡ true → after ≡ ran (recover_writes (naming d.blocks) d.blocks) d → r ≡ recover_answer (naming d.blocks) d → Ends call.recover (content true d.blocks Due ws) Due Idle now after r
restore_any d ws now after r f q a b = restore_ends d now after r (naming d.blocks) f q refl a b

-- the calls themselves, in whatever state the journal stands
pub commit_call : (d : Device) (on : Bool) (mode : Mode) (ws : List Write) (after : Device) (r : Result Unit Refusal) → d.powered ≡ on → Formed d → Stands on mode (Open (puts_of mode)) → Whole on d.blocks mode ws → after ≡ ran (commit_writes ws) d → r ≡ ran_answer (commit_writes ws) d
    → Ends call.commit (content on d.blocks mode ws) mode Idle ws after r × Lawfully on mode ws d r after
commit_call d true (Open p) ws after r q f s w a b = (commit_ends d ws p after r f q w.record_blank w.opened a b, commit_by_charge d ws p after r f q w.record_blank w.opened a b)
commit_call d true Due ws after r q f s w a b = absurd (let k = s.at in let z : ◌≡◌ {A = ℕ} 0 1 = cc in omega arith)
commit_call d true Idle ws after r q f s w a b = absurd (let k = s.at in let z : ◌≡◌ {A = ℕ} 0 1 = cc in omega arith)
commit_call d false mode ws after r q f s w a b = absurd (let k = s.lit in let z : ◌≡◌ {A = ℕ} 0 1 = cc in omega arith)

pub commit_disk : (d : Device) (on : Bool) (mode : Mode) (ws : List Write) (after : Device) → Stands on mode (Open (puts_of mode)) → after ≡ ran (commit_writes ws) d → after ≡ committed on mode ws d
commit_disk d true (Open p) ws after s a = a
commit_disk d true Due ws after s a = absurd (let k = s.at in let z : ◌≡◌ {A = ℕ} 0 1 = cc in omega arith)
commit_disk d true Idle ws after s a = absurd (let k = s.at in let z : ◌≡◌ {A = ℕ} 0 1 = cc in omega arith)
commit_disk d false mode ws after s a = absurd (let k = s.lit in let z : ◌≡◌ {A = ℕ} 0 1 = cc in omega arith)

pub commit_barred : (d : Device) (on : Bool) (b : List (List ℕ)) (mode : Mode) (ws : List Write) (r : Result Unit Refusal) (e : Refusal) → barring needs.Open (content on b mode ws) ≡ Some e → (d ≡ committed on mode ws d) × Lawfully on mode ws d r d
commit_barred d true b (Open p) ws r e h = absurd (let z : ◌≡◌ {A = ℕ} 0 1 = cc in omega arith)
commit_barred d true b Due ws r e h = (refl, tt)
commit_barred d true b Idle ws r e h = (refl, tt)
commit_barred d false b mode ws r e h = (refl, tt)

pub recover_call : (d : Device) (on : Bool) (mode : Mode) (ws now : List Write) (after : Device) (r : Result Unit Refusal) → d.powered ≡ on → Formed d → Stands on mode Due → after ≡ ran (recover_writes (naming d.blocks) d.blocks) d → r ≡ recover_answer (naming d.blocks) d
    → Ends call.recover (content on d.blocks mode ws) mode Idle now after r × (after ≡ recovered on mode d)
recover_call d true Due ws now after r q f s a b = (restore_any d ws now after r f q a b, a)
recover_call d true (Open p) ws now after r q f s a b = absurd (let k = s.at in let z : ◌≡◌ {A = ℕ} 0 1 = cc in omega arith)
recover_call d true Idle ws now after r q f s a b = absurd (let k = s.at in let z : ◌≡◌ {A = ℕ} 0 1 = cc in omega arith)
recover_call d false mode ws now after r q f s a b = absurd (let k = s.lit in let z : ◌≡◌ {A = ℕ} 0 1 = cc in omega arith)

pub recover_barred : (d : Device) (on : Bool) (b : List (List ℕ)) (mode : Mode) (ws : List Write) (e : Refusal) → barring needs.Due (content on b mode ws) ≡ Some e → d ≡ recovered on mode d
recover_barred d true b Due ws e h = absurd (let z : ◌≡◌ {A = ℕ} 0 1 = cc in omega arith)
recover_barred d true b (Open p) ws e h = refl
recover_barred d true b Idle ws e h = refl
recover_barred d false b mode ws e h = refl
