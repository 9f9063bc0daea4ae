-- Over a disk that tells its bytes, no restart in a phase was from a log that was changed from outside.
use Rattle.std.proofs.Common.{ℕ, List, [], ◌∷◌, ap, subst, sym, inl, inr}
use Rattle.std.specs.Prelude.{Result, Ok, Err}
use Rattle.mq_base.specs.declared.want.NoMemory.{NoMemory}
use Rattle.mq_history.specs.declared.calls.Call.{Call}
use Rattle.mq_history.specs.declared.calls.Call.TheVariants as calls
use Rattle.mq_spec_node.specs.Terms.{Actor, Entry}
use Rattle.mq_spec_node.specs.Words.{NodeValue, NoneForeign}
use Rattle.mq_acts.specs.from_events.States.{NodeState, IsKept}
use Rattle.mq_acts.specs.Restarts.{StaysOwn}
use Rattle.mq_acts.specs.Serving.{AreTurns}
use Rattle.mq_acts.proofs.OwnLaws.{IsNoRestart, NoRestarts, grows_own}
use Rattle.mq_takes.specs.from_turn_parts.{Turn}
use Rattle.mq_takes.specs.from_turn_parts.TurnVariants as turns
use Rattle.mq_split.specs.Took.{EndState}
use Rattle.mq_shared.specs.Events.{Made, Stayed, TimeTried, TurnTried}

-- nothing, and one after the other
pub own_same : (tells : Type 0) (a : List Entry) → tells → StaysOwn a a
own_same tells a is none = none

pub own_then : (tells : Type 0) (a b c : List Entry) → (tells → StaysOwn a b) → StaysOwn b c → tells → StaysOwn a c
own_then tells a b c first more is none = more (first is none)

-- trigger turns are no restarts
none_behind : (es : List Entry) → AreTurns es → NoRestarts es
none_behind [] are = tt
none_behind (e ∷ es) are = (subst IsNoRestart (sym are.0) tt, none_behind es are.1)

made_own : (who : Actor) (what : Call) (old new : NodeState) → IsNoRestart what → IsKept new → Made who what old new → StaysOwn old.history.entries new.history.entries
made_own who what old new other kept m = grows_own old new (m.entry ∷ m.behind) kept m.went.grows (subst IsNoRestart (sym m.call) other, none_behind m.behind m.turns)

stayed_own : (old new : NodeState) → Stayed old new → StaysOwn old.history.entries new.history.entries
stayed_own old new s none = subst NoneForeign (sym (ap (λ (v : NodeValue). v.history.entries) s.same)) none

-- so a turn, and a timeout
pub turn_own : (none full : Type 0) (a b : EndState) (old new : NodeState) (r : Result Turn NoMemory) → IsKept new → TurnTried none full a old r b new → StaysOwn old.history.entries new.history.entries
turn_own none full a b old new (Ok turns.Changed) kept (x, done) = made_own _ calls.Turn old new tt kept x.made
turn_own none full a b old new (Ok turns.Still) kept x = stayed_own old new x.stayed
turn_own none full a b old new (Err e) kept (inl x) = stayed_own old new x.stayed
turn_own none full a b old new (Err e) kept (inr x) = made_own _ calls.Turn old new tt kept x.made

pub time_own : (cable : ℕ) (old new : NodeState) (t : Turn) → IsKept new → TimeTried cable old t new → StaysOwn old.history.entries new.history.entries
time_own cable old new turns.Changed kept x = made_own _ calls.Timeout old new tt kept x
time_own cable old new turns.Still kept x = stayed_own old new x
