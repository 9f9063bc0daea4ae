-- What is done to one connection: what `apply` of a manager's changes does to it.
use Rattle.std.specs.List.{list_any}
use Rattle.mq_calls.specs.declared.state.Item.TheVariants.{Put, Take}
use Rattle.std.specs.Prelude.{ℕ, Bool, false, ◌+◌, ◌-◌, ◌==◌, not, List, [], ◌∷◌, ◌++◌, length, take, filter, Some}
use Rattle.mq_calls.specs.Words.{Place, Ident, same_ident, change_handle}
use Rattle.mq_calls.specs.declared.answers.Appl.{Appl}
use Rattle.mq_calls.specs.declared.state.Item.{Item}
use Rattle.mq_calls.specs.declared.state.Handle.{Handle}
use Rattle.mq_calls.specs.declared.state.Connection.{Connection}
use Rattle.mq_handles.specs.Rising.{AreRising, AreBelow, handle_number}

-- the numbers of a connection's handles rise, up to the last one given
pub record HasHandles (handles : List Handle) (last : ℕ) : Type 0 where
  pub rising : AreRising handle_number handles
  pub below : AreBelow handle_number (last + 1) handles

-- a new connection
abbrev pub connection_of : ℕ → Appl → Connection
connection_of number appl = record { number = number; appl = appl; handles = []; last_handle = 0; unit = [] }

-- with a handle more; without one
abbrev pub opened : Handle → Connection → Connection
opened h c = record c { handles = c.handles ++ h ∷ []; last_handle = c.last_handle + 1 }

abbrev pub closed : ℕ → Connection → Connection
closed handle c = record c { handles = filter (λ (h : Handle). not (h.number == handle)) c.handles }

-- a handle's cursor stands at a place
abbrev pub at_place : Place → Handle → Handle
at_place place h = record h { cursor = Some place }

abbrev pub cursor_set : ℕ → Place → Connection → Connection
cursor_set handle place c = record c { handles = change_handle handle (at_place place) c.handles }

-- with an item more in its unit; with none
abbrev pub pended : Item → Connection → Connection
pended item c = record c { unit = c.unit ++ item ∷ [] }

-- without the last one
abbrev pub given_up : Connection → Connection
given_up c = record c { unit = take (length c.unit - 1) c.unit }

abbrev pub emptied : Connection → Connection
emptied c = record c { unit = [] }

-- an uncommitted put of an ident; a connection's unit has one
abbrev pub puts_ident : Ident → Item → Bool
puts_ident ident (Put queue message) = same_ident ident message.ident
puts_ident ident (Take queue other persistent) = false

abbrev pub has_put : Ident → Connection → Bool
has_put ident c = list_any (puts_ident ident) c.unit
