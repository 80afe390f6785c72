-- Operations of the tally level as codes, and codes as undo records.
use Rattle.std.specs.Prelude.{◌≡◌, ◌<◌, cond, Some, None, Option, nat_lt}
use Rattle.number.specs.declared.Code.{Code}
use Rattle.number.specs.declared.Code.TheVariants as coded
use Rattle.tally.specs.declared.TallyOp.{TallyOp}
use Rattle.tally.specs.declared.TallyOp.TheVariants.{Add, Read}

abbrev pub tally_code : TallyOp → Code
tally_code (Add c n) = coded.Add c n
tally_code (Read c) = coded.Read c

-- the undo record that a code is: an add to one of the counters
abbrev pub tally_undo : Code → Option TallyOp
tally_undo (coded.Put k v) = None
tally_undo (coded.Del k) = None
tally_undo (coded.Get k) = None
tally_undo (coded.Add c n) = cond (nat_lt c 32) (Some (Add c n)) None
tally_undo (coded.Read c) = None
tally_undo (coded.Set n) = None
tally_undo (coded.Load n) = None

-- an operation that may stand in an undo record
abbrev pub Recordable : TallyOp → Type 0
Recordable (Add c n) = c < 32
Recordable (Read c) = ⊥

-- an operation's code, which is read back where it may stand in an undo record
pub record CodeOf (op : TallyOp) (c : Code) : Type 0 where
  pub value : c ≡ tally_code op
  pub back : Recordable op → tally_undo c ≡ Some op
