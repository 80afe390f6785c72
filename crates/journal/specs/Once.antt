-- What ties a journal to its disk is a fact with one proof at most, as an invariant of a type has to be.
use Rattle.std.specs.Prelude.{◌≡◌, ℕ, ◌<◌, Bool, true, false, List, [], ◌∷◌, length, Some}
use Rattle.std.specs.Coded.{Coded-set, coded_ℕ, coded_bool, coded_list, coded_option, ×_prop, Unit-prop, le_prop}
use Rattle.disk.specs.Device.{Device}
use Rattle.disk.specs.Runs.{Write}
use Rattle.journal.specs.declared.state.Mode.{Mode}
use Rattle.journal.specs.declared.state.Mode.TheVariants.{Due, Idle, Open}
use Rattle.journal.specs.Record.{member, Different}
use Rattle.journal.specs.Layout.{naming}
use Rattle.journal.specs.Meaning.{Sized, Grouped, RecordBlank, Opened, Wholly}

pub Different-prop : (cells : ℕ) (ps : List ℕ) → IsProp (Different cells ps)
Different-prop cells [] = Unit-prop
Different-prop cells (p ∷ ps) =
    let below : IsProp (p < cells) = le_prop in
    let absent : IsProp (member p ps ≡ false) = Coded-set coded_bool (member p ps) false in
    let rest : IsProp (Different cells ps) = Different-prop cells ps in
    Prim.hlevel (below, absent, rest)

pub Sized-prop : (ws : List Write) → IsProp (Sized ws)
Sized-prop [] = Unit-prop
Sized-prop (w ∷ ws) = ×_prop (Coded-set coded_ℕ (length w.1) 256) (Sized-prop ws)

pub RecordBlank-prop : (on : Bool) (b : List (List ℕ)) (m : Mode) → IsProp (RecordBlank on b m)
RecordBlank-prop true b Due = Unit-prop
RecordBlank-prop true b Idle = Coded-set (coded_option (coded_list coded_ℕ)) (naming b) (Some [])
RecordBlank-prop true b (Open p) = Coded-set (coded_option (coded_list coded_ℕ)) (naming b) (Some [])
RecordBlank-prop false b m = Unit-prop

pub Grouped-prop : (b : List (List ℕ)) (ws : List Write) (p : ℕ) → IsProp (Grouped b ws p)
Grouped-prop b ws p = Prim.hlevel (Different-prop, Sized-prop, le_prop)

pub Opened-prop : (b : List (List ℕ)) (m : Mode) (ws : List Write) → IsProp (Opened b m ws)
Opened-prop b Due ws = Unit-prop
Opened-prop b Idle ws = Unit-prop
Opened-prop b (Open p) ws = Grouped-prop b ws p

pub Wholly-prop : (d : Device) (m : Mode) (ws : List Write) → IsProp (Wholly d m ws)
Wholly-prop d m ws = Prim.hlevel (RecordBlank-prop, Opened-prop)
