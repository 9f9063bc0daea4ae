-- What one channel's ends know, what its frames tell, and the facts that each step of a channel keeps.
use Rattle.std.specs.Prelude.{ℕ, ◌≡◌, ◌≢◌, ◌<◌, ◌≤◌, ◌⊎◌, Bool, true, false, List, [], ◌∷◌, length, Option, Some, slice_get, if◌then◌else◌}
use Rattle.mq_message.specs.declared.message.Dest.{Dest}
use Rattle.mq_message.specs.declared.message.Message.{Message}
use Rattle.mq_sync.specs.declared.unit.Unit.{Unit as Luw}
use Rattle.mq_sync.specs.Units.{unit_named, Upto, same_unit}
pub use Rattle.mq_base.specs.Members.{Mem}

-- what a message frame carries
pub record Letter : Type 0 where
  pub dest : Dest
  pub message : Message

-- What a frame tells. Places of messages in their unit are counted from 0.
pub data Tale : Type 0 where
  Binds : (session last : ℕ) → (force : Bool) → Tale
  Sends : (unit : Luw) → (place : ℕ) → (letter : Letter) → Tale
  Ends : (unit : Luw) → (count last : ℕ) → Tale
  Tells : (session : ℕ) → (unit : Luw) → (last : ℕ) → Tale
  Acks : (unit : Luw) → Tale
  Errs : (unit : Luw) → Tale

-- A sender's end: the hardened session, the units begun in it, the unit that it holds, whether that was prepared, and
-- the units that an operator has backed out.
pub record Near : Type 0 where
  pub session : ℕ
  pub begun : ℕ
  pub holds : Option Luw
  pub doubt : Bool
  pub undone : Luw → Bool

-- A receiver's end: the hardened session, closed or not, the last unit; bound or not, the latest unit begun since then
-- and its messages so far; what is owed.
pub record Far : Type 0 where
  pub session : ℕ
  pub closed : Bool
  pub unit : Luw
  pub bound : Bool
  pub latest : ℕ
  pub kept : List Letter
  pub owes : Option Tale

-- the receiver takes nothing of this session any more
abbrev pub Dead : Far → ℕ → Type 0
Dead r s = (s < r.session) ⊎ ((s ≡ r.session) × (r.closed ≡ true))

-- the latest unit that the sender has begun
abbrev pub now : Near → Luw
now s = unit_named s.session s.begun

-- what the units are, with one more
abbrev pub given : (Luw → List Letter) → Luw → List Letter → Luw → List Letter
given content u letters v = if same_unit v u then letters else content v

abbrev pub marked : (Luw → Bool) → Luw → Luw → Bool
marked f u v = if same_unit v u then true else f v

-- The facts. `content` is what each unit has; `f` and `b` are all that was ever offered, to the receiver and to the
-- sender: any of it may come at any time, again, late or never.
pub record Sound (s : Near) (r : Far) (content : Luw → List Letter) (f b : List Tale) : Type 0 where
  -- no session is above the sender's hardened one
  pub sessions : r.session ≤ s.session
  pub binds : (x last : ℕ) (force : Bool) → Mem (Binds x last force) f → x ≤ s.session
  -- a message is its unit's, in every copy
  pub msgs : (u : Luw) (i : ℕ) (l : Letter) → Mem (Sends u i l) f → (1 ≤ u.n) × Upto u (now s) × (slice_get (content u) i ≡ Some l)
  pub ends : (u : Luw) (k last : ℕ) → Mem (Ends u k last) f → (1 ≤ u.n) × Upto u (now s) × (k ≡ length (content u))
  -- each unit whose END was ever offered is in doubt, or an operator backed it out, or the receiver is past it, or the
  -- receiver takes nothing of its session any more
  pub fate : (u : Luw) (k last : ℕ) → Mem (Ends u k last) f → ((s.holds ≡ Some u) × (s.doubt ≡ true)) ⊎ ((s.undone u ≡ true) ⊎ (Upto u r.unit ⊎ Dead r u.session))
  pub held : (u : Luw) → s.holds ≡ Some u → (1 ≤ u.n) × Upto u (now s) × Upto r.unit u
  pub taken : (u : Luw) → s.holds ≡ Some u → s.doubt ≡ false → (u ≡ now s) × (r.unit ≢ u)
  pub last : Upto r.unit (now s)
  pub last_session : r.unit.session ≤ r.session
  -- ACK says that the receiver committed the unit; ERR that it didn't, and closed its session
  pub acks_owed : (u : Luw) → r.owes ≡ Some (Acks u) → Upto u r.unit
  pub acks : (u : Luw) → Mem (Acks u) b → Upto u r.unit
  pub errs_owed : (u : Luw) → r.owes ≡ Some (Errs u) → Dead r u.session × (r.unit ≢ u)
  pub errs : (u : Luw) → Mem (Errs u) b → Dead r u.session × (r.unit ≢ u)
  -- STATUS of the sender's present session names the receiver's last unit until the sender begins a unit in it
  pub status_owed : (x : ℕ) (u : Luw) (last : ℕ) → r.owes ≡ Some (Tells x u last) → (x ≤ r.session) × (x ≡ s.session → s.begun ≡ 0 → u ≡ r.unit)
  pub status : (x : ℕ) (u : Luw) (last : ℕ) → Mem (Tells x u last) b → (x ≤ r.session) × (x ≡ s.session → s.begun ≡ 0 → u ≡ r.unit)
  pub bound : r.bound ≡ true → (r.closed ≡ false) × Upto r.unit (unit_named r.session r.latest)
  -- what is kept of a unit that isn't committed came as a message of it
  pub kept : r.bound ≡ true → r.unit ≢ unit_named r.session r.latest → (i : ℕ) (l : Letter) → slice_get r.kept i ≡ Some l → Mem (Sends (unit_named r.session r.latest) i l) f
