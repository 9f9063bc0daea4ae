-- A scenario in which managers stand alone, and what an event of one is.
use Rattle.std.specs.Prelude.{ℕ, ◌≡◌, ◌==◌, ◌+◌, ◌⊎◌, Bool, false, [], None, Some}
use Rattle.mq_message.specs.declared.message.Ident.{Ident}
use Rattle.mq_sc_parse.specs.declared.command.Command.{Command}
use Rattle.mq_sc_parse.specs.declared.command.Command.TheVariants as commands
use Rattle.mq_history.specs.declared.acts.Act.TheVariants as acts
use Rattle.mq_history.specs.declared.calls.Actor.{Actor}
use Rattle.mq_history.specs.declared.calls.Actor.TheVariants as actors
use Rattle.mq_history.specs.declared.calls.Call.{Call}
use Rattle.mq_history.specs.declared.calls.Call.TheVariants as calls
use Rattle.mq_history.specs.declared.scenario.Scenario.{Scenario}
use Rattle.mq_calls.specs.State.{Plain, Running, Noted}
use Rattle.mq_calls.specs.State.Running.{Up, Down}
use Rattle.mq_spec_node.specs.Node.{Node}
use Rattle.mq_spec_network.specs.Ledger as ledgers
use Rattle.mq_spec_network.specs.Ledger.{Ledger, users_at}
use Rattle.mq_law_manager.specs.Facts.{IsSound, IsFrozen}
use Rattle.mq_law_events.specs.Local.{Leads, side_of, sheet_of}
use Rattle.mq_law_events.specs.Tied.{IsTold, IsFresh, IsSame, IsElse}
use Rattle.mq_law_events.specs.Posting.{IsTimed}
use Rattle.mq_law_found.specs.Finds.{IsNoted}

-- no channel's cable
abbrev pub IsAlone : Scenario → Type 0
IsAlone s = s.cables ≡ []

-- a manager that is up has its facts; one that is down what is left of them
abbrev pub IsState : Running → Plain → Type 0
IsState Up p = IsSound p
IsState (Down noted starts) p = IsFrozen p

-- a manager that is down as its stopped write has left it, whatever a clock, an armed cut and stopped restarts have done since
abbrev pub as_left : Plain → Plain
as_left p = record p { running = Up; moment = 0; log = record { length = 0; armed = 0 } }

-- One that is down with a note: the ledger has the call as stopped of which the note is. It is one that the ledger's post of the call follows,
-- or one of these others: a network's ends leave such, a manager alone none.
abbrev pub IsNotedAt : (ledgers.Stopped → Noted → Plain → Type 0) → ℕ → Running → Plain → Ledger → Type 0
IsNotedAt E m Up p l = Unit {0}
IsNotedAt E m (Down None starts) p l = Unit {0}
IsNotedAt E m (Down (Some n) starts) p l = (s : ledgers.Stopped) × ((users_at m l).cut ≡ Some s) × (IsNoted m s n p ⊎ E s n (as_left p))

-- no other notes
abbrev pub NoOther : ledgers.Stopped → Noted → Plain → Type 0
NoOther s n p = ⊥

-- A manager and the ledger, between two events: what holds with channels and without.
pub record IsAt (E : ledgers.Stopped → Noted → Plain → Type 0) (m : ℕ) (given : Ident → Bool) (n : Node) (l : Ledger) : Type 0 where
  pub told : IsTold m n.manager l
  pub fresh : IsFresh given n.manager
  pub number : n.manager.given.number ≡ m + 1
  pub timed : IsTimed m n.manager l
  pub state : IsState n.manager.running n.manager
  pub noted : IsNotedAt E m n.manager.running n.manager l

-- and what holds beside of a manager without channels
pub record IsBare (n : Node) : Type 0 where
  pub ends : n.own.ends ≡ []
  pub batches : n.manager.channels.batches ≡ []

-- an event, and what is posted of it
pub record Became (E : ledgers.Stopped → Noted → Plain → Type 0) (m : ℕ) (given : Ident → Bool) (n : Node) (l : Ledger) (next : Node) (k : Ledger) : Type 0 where
  pub now : Ident → Bool
  pub leads : Leads m (side_of n.manager given) (sheet_of m l) (side_of next.manager now) (sheet_of m k)
  pub known : (i : Ident) → (i.manager == n.manager.given.number) ≡ false → now i ≡ given i
  pub same : IsSame n.manager next.manager
  pub other : IsElse m l k
  pub at : IsAt E m now next k

-- What is a manager's own: no stop, no restart, and nothing of a channel's end: its turn, its timeout, a command on it.
abbrev pub IsOwnCommand : Command → Type 0
IsOwnCommand (commands.Operate op) = ⊥
IsOwnCommand _ = Unit {0}

abbrev pub IsOwnTurn : Actor → Type 0
IsOwnTurn (actors.Sender cable) = ⊥
IsOwnTurn (actors.Receiver cable) = ⊥
IsOwnTurn _ = Unit {0}

abbrev pub IsOwnCall : Actor → Call → Type 0
IsOwnCall actor (calls.Act (acts.Obey c)) = IsOwnCommand c
IsOwnCall actor (calls.Act acts.Crash) = ⊥
IsOwnCall actor (calls.Act acts.Restart) = ⊥
IsOwnCall actor calls.Turn = IsOwnTurn actor
IsOwnCall actor calls.Timeout = ⊥
IsOwnCall actor _ = Unit {0}
