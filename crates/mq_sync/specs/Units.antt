-- Units of a channel, their order, and the settlement of a unit in doubt.
use Rattle.std.specs.Prelude.{ℕ, ◌≡◌, ◌<◌, ◌≤◌, ◌⊎◌, Bool, ◌==◌, ◌&&◌, if◌then◌else◌, List, ◌++◌, codes}
use Rattle.std.specs.Fmt.{decimal}
use Rattle.mq_sync.specs.declared.unit.Unit.{Unit as Luw}
use Rattle.mq_sync.specs.declared.unit.Settle.{Settle}
use Rattle.mq_sync.specs.declared.unit.Settle.TheVariants.{Commit, Backout}

abbrev pub unit_named : ℕ → ℕ → Luw
unit_named session n = record { session = session; n = n }

-- the name that stands for no unit
abbrev pub no_unit : Luw
no_unit = unit_named 0 0

-- s.n
abbrev pub unit_text : Luw → List ℕ
unit_text u = decimal u.session ++ codes "." ++ decimal u.n

abbrev pub same_unit : Luw → Luw → Bool
same_unit a b = (a.session == b.session) && (a.n == b.n)

-- units of a sender rise by session, and in a session by number
abbrev pub Below : Luw → Luw → Type 0
Below a b = (a.session < b.session) ⊎ ((a.session ≡ b.session) × (a.n < b.n))

abbrev pub Upto : Luw → Luw → Type 0
Upto a b = (a.session < b.session) ⊎ ((a.session ≡ b.session) × (a.n ≤ b.n))

-- a unit in doubt against the last unit that its receiver committed
abbrev pub settlement : Luw → Luw → Settle
settlement in_doubt last = if same_unit in_doubt last then Commit else Backout
