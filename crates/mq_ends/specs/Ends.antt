-- The ends of units: what a connection's unit leaves, item by item.
use Rattle.std.specs.Prelude.{◌≡◌, ℕ, ◌+◌, ◌-◌, ◌≤◌, ◌==◌, not, Bool, true, false, List, [], ◌∷◌, length, filter, Option, Some, None, Result, Ok}
use Rattle.mq_disk.specs.declared.cutter.Stop.{Stop}
use Rattle.mq_calls.specs.Words.{Reason, Ident, Plain, Step, Do, Among, unit_need, change_connection, released_in}
use Rattle.mq_calls.specs.declared.answers.Answer.{Answer}
use Rattle.mq_calls.specs.declared.state.Item.{Item}
use Rattle.mq_calls.specs.declared.state.Connection.{Connection}
use Rattle.mq_calls.specs.declared.records.LogRecord.{LogRecord}
use Rattle.mq_calls.specs.declared.answers.Answer.TheVariants as answers
use Rattle.mq_calls.specs.declared.state.Item.TheVariants.{Put, Take}
use Rattle.mq_spec_manager.specs.Words.{backout_part}
use Rattle.mq_core.specs.from_handles.Seats.{emptied}
use Rattle.mq_core.specs.from_place.States.{change_state, unpended, on_queues}
use Rattle.mq_core.specs.Views.{PartsValue}
use Rattle.mq_core.specs.Writes.{ended_part}
use Rattle.mq_core.specs.Ties.{IsReady}
use Rattle.mq_core.specs.Placing.{with_states, put_in_place, put_each, take_each}
use Rattle.mq_core.specs.Forced.{IsForced}
use Rattle.mq_core.specs.Calls.{at_number}

-- the steps of a connection's unit
abbrev pub commit_at : ℕ → Bool → Plain → Step Reason (Answer (Unit {0}))
commit_at number ends p = at_number number p (λ c. Do (answers.Ok tt) (ended_part ends c ∷ []))

abbrev pub back_at : ℕ → Plain → Step Reason (Answer (Unit {0}))
back_at number p = at_number number p (λ c. Do (answers.Ok tt) (backout_part c ∷ []))

-- a record was forced, or there was none and nothing has changed
abbrev pub IfForced : Option LogRecord → PartsValue → Result (Unit {0}) Stop → PartsValue → Type 0
IfForced None x result y = (result ≡ Ok tt) × (y ≡ x)
IfForced (Some r) x result y = IsForced r x result y

-- the unit is empty, and what it needed is given back
abbrev pub ended_unit : ℕ → Connection → PartsValue → PartsValue
ended_unit number c x = record x {
  desk = record { live = change_connection number emptied x.desk.live; last = x.desk.last };
  log = record x.log { reserved = x.log.reserved - unit_need c.unit };
  body = record { bytes = []; room = x.body.room + length x.body.bytes - unit_need c.unit };
}

-- what the unit needs is reserved, and there is memory for it
pub record HasRoom (c : Connection) (x : PartsValue) : Type 0 where
  pub log : unit_need c.unit ≤ x.log.reserved
  pub body : unit_need c.unit ≤ x.body.room + length x.body.bytes

-- the puts of a unit can be placed, one behind the other
abbrev pub AreReady : List Item → PartsValue → Type 0
AreReady [] x = Unit {0}
AreReady (Put queue m ∷ items) x = IsReady queue m x × AreReady items (put_in_place queue m x)
AreReady (Take queue ident persistent ∷ items) x = AreReady items x

-- the connection ends too, or not
abbrev pub left_if : Bool → ℕ → PartsValue → PartsValue
left_if true number x = record x { desk = record { live = filter (λ (c : Connection). not (c.number == number)) x.desk.live; last = x.desk.last } }
left_if false number x = x

-- a commit: what the unit held goes, its puts are placed
abbrev pub settled : ℕ → Bool → Connection → PartsValue → PartsValue
settled number ends c x = left_if ends number (put_each c.unit (take_each c.unit (ended_unit number c x)))

-- a backout: what the unit held is free again at its place, its puts wait no longer
abbrev pub unpended_at : List ℕ → PartsValue → PartsValue
unpended_at queue x = with_states (change_state queue unpended x.queues.states) x

abbrev pub freed_at : List ℕ → Ident → PartsValue → PartsValue
freed_at queue ident x = with_states (on_queues (released_in (Among queue (ident ∷ [])) true) x.queues.states) x

abbrev pub backed_each : List Item → PartsValue → PartsValue
backed_each [] x = x
backed_each (Put queue m ∷ items) x = backed_each items (unpended_at queue x)
backed_each (Take queue ident persistent ∷ items) x = backed_each items (freed_at queue ident x)

abbrev pub backed : ℕ → Connection → PartsValue → PartsValue
backed number c x = backed_each c.unit (ended_unit number c x)
