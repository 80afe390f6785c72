-- Where the journal keeps what: block 0 is the commit record, blocks 1 to 6 are frames, page p is block 7 + p.
use Rattle.std.specs.Prelude.{ℕ, ◌+◌, ◌-◌, List, [], ◌∷◌, ◌++◌, length, drop, Some, None, Option, slice_index_or}
use Rattle.disk.specs.Runs.{Write, stored}
use Rattle.journal.specs.Names.{names}
use Rattle.journal.specs.Record.{named, record_of, blank}
use Rattle.journal.specs.declared.writes.Side.{Side}
use Rattle.journal.specs.declared.writes.Side.TheVariants as side
use Rattle.journal.specs.declared.writes.Part.{Part}
use Rattle.journal.specs.declared.writes.Part.TheVariants as part

-- frame i on hold the bytes of these pages
abbrev pub framed : ℕ → List ℕ → List (List ℕ) → List Write
framed i [] b = []
framed i (p ∷ ps) b = (p, slice_index_or b (1 + i) []) ∷ framed (i + 1) ps b

-- the pages as recovery leaves them: the frames that the commit record names are copied over them
abbrev pub overlaid : Option (List ℕ) → List (List ℕ) → List (List ℕ)
overlaid None b = drop 7 b
overlaid (Some ps) b = stored (framed 0 ps b) (drop 7 b)

-- how many pages there are
abbrev pub cells_of : List (List ℕ) → ℕ
cells_of b = length b - 7

-- the commit record of these blocks
abbrev pub naming : List (List ℕ) → Option (List ℕ)
naming b = named (cells_of b) (slice_index_or b 0 [])

-- the durable content of a journal is worked out from the blocks alone
unfoldable pub durable : List (List ℕ) → List (List ℕ)
durable b = overlaid (naming b) b

-- the writes of a commit of these pages: the frames, the record that names them, the pages, the empty record
abbrev pub frame_writes : ℕ → List Write → List Write
frame_writes i [] = []
frame_writes i (w ∷ ws) = (1 + i, w.1) ∷ frame_writes (i + 1) ws

abbrev pub page_writes : List Write → List Write
page_writes [] = []
page_writes (w ∷ ws) = (7 + w.0, w.1) ∷ page_writes ws

abbrev pub copy_writes : List Write → List Write
copy_writes ws = page_writes ws ++ (0, blank) ∷ []

abbrev pub commit_writes : List Write → List Write
commit_writes [] = []
commit_writes (w ∷ ws) = frame_writes 0 (w ∷ ws) ++ (0, record_of (names (w ∷ ws))) ∷ copy_writes (w ∷ ws)

-- the writes of a recovery: none where the record names no page
abbrev pub recover_writes : Option (List ℕ) → List (List ℕ) → List Write
recover_writes None b = []
recover_writes (Some []) b = []
recover_writes (Some (p ∷ ps)) b = copy_writes (framed 0 (p ∷ ps) b)

-- where a page of a group is written: into the frame of its turn, or into its own block
abbrev pub block_at : Side → ℕ → ℕ → ℕ
block_at side.Frames i p = 1 + i
block_at side.Pages i p = 7 + p

abbrev pub writes_to : Side → ℕ → List Write → List Write
writes_to s i [] = []
writes_to s i (w ∷ ws) = (block_at s i w.0, w.1) ∷ writes_to s (i + 1) ws

-- the parts of a commit in their order: the frames, the record that names their pages, the pages, the empty record
abbrev pub commit_order : List Part
commit_order = part.Frames ∷ part.Record ∷ part.Pages ∷ part.EmptyRecord ∷ []

-- the writes of each part
abbrev pub part_writes : Part → List Write → List Write
part_writes part.Frames ws = writes_to side.Frames 0 ws
part_writes part.Record ws = (0, record_of (names ws)) ∷ []
part_writes part.Pages ws = writes_to side.Pages 0 ws
part_writes part.EmptyRecord ws = (0, blank) ∷ []

-- these parts, one after the other
abbrev pub all_writes : List Part → List Write → List Write
all_writes [] ws = []
all_writes (p ∷ ps) ws = part_writes p ws ++ all_writes ps ws

-- these parts of a commit of a group: nothing for no pages
abbrev pub writes_of : List Part → List Write → List Write
writes_of ps [] = []
writes_of ps (w ∷ ws) = all_writes ps (w ∷ ws)
