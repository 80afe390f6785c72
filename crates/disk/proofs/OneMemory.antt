-- A memory that makes a disk: where its blocks lie, and what is left after one of them is written over.
use Rattle.std.proofs.Common.{◌≡◌, ℕ, ◌+◌, ◌*◌, ◌/◌, ◌<◌, ◌≤◌, List, [], length, take, drop, get_or, set, None, sym, ◌∙◌, arith}
use Rattle.disk.specs.Layout.{blocks_of}
use Rattle.disk.specs.Sizes.{size_refusal}
use Rattle.disk.specs.Blocks.{over, length_blocks, getD_blocks, set_blocks, sized}

module _ (n len : ℕ) (m : List ℕ) (long : len ≡ length m) (fit : size_refusal len ≡ None) (inside : n < length (blocks_of (len / 256) m)) where
  within : (n < len / 256) × (len ≡ 256 * (len / 256))
  within =
      let z = sized len fit in
      let l = length_blocks (len / 256) m in
      (omega arith, omega arith)

  -- the bytes of block n are there
  pub has_block : 256 * n + 256 ≤ len
  has_block = let w = within in omega arith

  pub read_block : take 256 (drop (256 * n) m) ≡ get_or (blocks_of (len / 256) m) n []
  read_block = sym (getD_blocks (len / 256) n m within.0)

  pub set_block : (v : List ℕ) → length v ≡ 256 → blocks_of (len / 256) (over (256 * n) v m) ≡ set (blocks_of (len / 256) m) n v
  set_block v w = set_blocks (len / 256) n m v within.0 (sym long ∙ within.1) w

pub ruleset of_memory = (has_block, read_block, set_block)
