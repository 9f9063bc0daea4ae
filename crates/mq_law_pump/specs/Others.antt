-- What others do to a queue that one channel's sender has open: they add no row to it, and free none.
use Rattle.std.specs.Prelude.{◌≡◌, ◌≤◌, ℕ, Bool, true, false, not, List, [], ◌∷◌, Option, Some, None, Ok}
use Rattle.std.specs.Str.{bytes_eq}
use Rattle.mq_message.specs.declared.message.Message.{Message}
use Rattle.mq_message.specs.declared.place.Holder.TheVariants as holders
use Rattle.mq_queue.specs.declared.row.Row.{Row}
use Rattle.mq_objects.specs.declared.object.Definitions.{Definitions}
use Rattle.mq_resolve.specs.Resolved.{resolve}
use Rattle.mq_resolve.specs.declared.route.Route.{Route}
use Rattle.mq_calls.specs.State.{Change, Given}
use Rattle.mq_calls.specs.State.Change.{ForgetAll, Hold, Place, Release, Seize, Unseize}
use Rattle.mq_calls.specs.State.Which.{Among, HeldBy}
use Rattle.mq_calls.specs.Steps.{Part}
use Rattle.mq_spec_manager.specs.Put.{queue_at}
use Rattle.mq_spec_manager.specs.Agents.{names_of}
use Rattle.mq_spec_node.specs.Deeds.{Deed}
use Rattle.mq_law_idle.specs.Counts.{free_in, held_in}
use Rattle.mq_law_seized.specs.Each.{all_of, parts_of_all}

-- a change that adds no row to the queue, and holds and frees none of it, where only this channel's batch has rows there; and leaves it open
abbrev pub adds_none : (channel queue : List ℕ) → Change → Bool
adds_none channel queue (Place other m) = not (bytes_eq queue other)
adds_none channel queue (Hold (Among other idents) by_) = not (bytes_eq queue other)
adds_none channel queue (Hold which by_) = false
adds_none channel queue (Release (HeldBy (holders.Batch other)) counted) = not (bytes_eq channel other)
adds_none channel queue (Release which counted) = false
adds_none channel queue (Seize s) = false
adds_none channel queue (Unseize other) = not (bytes_eq channel other)
adds_none channel queue ForgetAll = false
adds_none channel queue _ = true

abbrev pub all_add_none : (channel queue : List ℕ) → List Change → Bool
all_add_none channel queue cs = all_of (adds_none channel queue) cs

abbrev pub parts_add_none : (channel queue : List ℕ) → List Part → Bool
parts_add_none channel queue parts = parts_of_all (adds_none channel queue) parts

-- no more rows are free, and held, than were
pub record NoMore (rows before : List Row) : Type 0 where
  pub free : free_in rows ≤ free_in before
  pub held : held_in rows ≤ held_in before

-- a deed that adds none
abbrev pub EachAddsNone : (channel queue : List ℕ) → Option Deed → Type 0
EachAddsNone channel queue None = Unit {0}
EachAddsNone channel queue (Some d) = parts_add_none channel queue d.parts ≡ true

-- A message that comes is put elsewhere: its names lead to another queue, in these definitions.
abbrev pub GoesElsewhere : (queue : List ℕ) → Definitions → Given → Message → Type 0
GoesElsewhere queue d g m = (route : Route) → resolve d g.name (names_of m.route).queue (names_of m.route).qmgr ≡ Ok route → bytes_eq queue (queue_at route.end) ≡ false

abbrev pub AllGoElsewhere : (queue : List ℕ) → Definitions → Given → List Message → Type 0
AllGoElsewhere queue d g [] = Unit {0}
AllGoElsewhere queue d g (m ∷ ms) = GoesElsewhere queue d g m × AllGoElsewhere queue d g ms
