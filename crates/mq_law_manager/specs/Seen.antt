-- What each change does to the view.
use Rattle.std.specs.Prelude.{ℕ, ◌+◌, Bool, not, ◌&&◌, List, [], ◌∷◌, ◌++◌, Some, None}
use Rattle.mq_message.specs.declared.place.Holder.{Holder}
use Rattle.mq_message.specs.declared.message.Ident.{Ident}
use Rattle.mq_message.specs.declared.message.Message.{Message}
use Rattle.mq_queue.specs.declared.row.Row.{Row}
use Rattle.mq_queue.specs.Rows.{is_free}
use Rattle.mq_objects.specs.Names.{local_of}
use Rattle.mq_sync.specs.declared.data.SenderData.{SenderData}
use Rattle.mq_calls.specs.State.{Plain, Change, Which}
use Rattle.mq_calls.specs.declared.state.Batch.{Batch}
use Rattle.mq_calls.specs.declared.state.Item.{Item}
use Rattle.mq_calls.specs.State.Change.{Place as Places, Try, Leave, Hold, Release, Connect, Disconnect, OpenHandle, CloseHandle, SetCursor, Pend, EndUnit, MakeStale, CountIdent, ChangeObjects, Renew, DropQueue, SwitchOn, Serve, SetSender, SetReceiver, Undoubt, Seize, Unseize, AddBatch, DropBatch, SetBound, SetMoment, ForgetAll}
use Rattle.mq_calls.specs.Changes.{apply, lane_of, new_row, selects, retag_if, release_if, less_ident}
use Rattle.mq_spec_manager.specs.Agents.{is_unborn}
use Rattle.mq_calls.specs.declared.records.Add.{Add}
use Rattle.mq_law_manager.specs.View.{View, Taken, view, at_name, at_number, inserted, kept_all, retagged_all, puts_in, takes_in}

abbrev pub goes_if : Which → List ℕ → Row → Bool
goes_if which name row = not (selects which name row)

abbrev pub held_if : Which → Holder → List ℕ → Row → Row
held_if which by name row = retag_if (selects which name row && is_free row) (Some by) row

abbrev pub freed_if : Which → Bool → List ℕ → Row → Row
freed_if which counted name row = release_if (selects which name row && not (is_free row)) counted row

abbrev pub with_rows : (List ℕ → List Row) → View → View
with_rows rows v = record v { rows = rows }

abbrev pub row_for : List ℕ → Message → Plain → Row
row_for name m p = new_row (lane_of (local_of name p.definitions) m.md.priority) ((view p).arrivals name + 1) m

abbrev pub place_in : List ℕ → Row → View → View
place_in name row v = record v { rows = inserted name row v.rows; arrivals = at_name name (v.arrivals name + 1) v.arrivals }

abbrev pub empty_in : List ℕ → View → View
empty_in name v = record v { rows = at_name name [] v.rows; arrivals = at_name name 0 v.arrivals }

abbrev pub pend_in : ℕ → Item → View → View
pend_in n item v = record v { puts = at_number n (v.puts n ++ puts_in (item ∷ [])) v.puts; takes = at_number n (v.takes n ++ takes_in (item ∷ [])) v.takes }

abbrev pub end_in : ℕ → View → View
end_in n v = record v { puts = at_number n [] v.puts; takes = at_number n [] v.takes }

abbrev pub given_in : Plain → View → View
given_in p v = record v { unborn = λ i. is_unborn i p }

abbrev pub drop_in : List ℕ → View → View
drop_in channel v = record v { batch = at_name channel None v.batch }

abbrev pub add_in : Batch → View → View
add_in b v = record v { batch = at_name b.channel (Some b) v.batch }

abbrev pub doubt_in : List ℕ → SenderData → View → View
doubt_in channel d v = record v { doubt = at_name channel d.in_doubt v.doubt }

abbrev pub less_in : Ident → View → View
less_in ident v = record v { doubt = λ c. less_ident ident (v.doubt c) }

abbrev pub forget_in : View → View
forget_in v = record v { puts = λ n. []; takes = λ n. []; batch = λ c. None }

-- (of a connection that begins and of an item that pends the laws ask more: they are new, live)
abbrev pub seen : Change → Plain → View → View
seen (Places name m) p v = place_in name (row_for name m p) v
seen (Try name priority) p v = v
seen (Leave which) p v = with_rows (kept_all (goes_if which) v.rows) v
seen (Hold which by) p v = with_rows (retagged_all (held_if which by) v.rows) v
seen (Release which counted) p v = with_rows (retagged_all (freed_if which counted) v.rows) v
seen (Connect c) p v = v
seen (Disconnect number) p v = end_in number v
seen (OpenHandle number h) p v = v
seen (CloseHandle number handle) p v = v
seen (SetCursor number handle place) p v = v
seen (Pend number item) p v = pend_in number item v
seen (EndUnit number) p v = end_in number v
seen (MakeStale step) p v = v
seen CountIdent p v = given_in (apply CountIdent p) v
seen (ChangeObjects change) p v = v
seen (Renew name) p v = empty_in name v
seen (DropQueue name) p v = empty_in name v
seen (SwitchOn name) p v = v
seen (Serve name) p v = v
seen (SetSender channel d) p v = doubt_in channel d v
seen (SetReceiver channel d) p v = v
seen (Undoubt ident) p v = less_in ident v
seen (Seize s) p v = v
seen (Unseize channel) p v = v
seen (AddBatch b) p v = add_in b v
seen (DropBatch channel) p v = drop_in channel v
seen (SetBound channel bound) p v = v
seen (SetMoment moment) p v = v
seen ForgetAll p v = forget_in v

-- a unit that is at its end item by item: what is left of its puts and of its gets
abbrev pub with_unit : ℕ → List Add → List Taken → View → View
with_unit n ps ts v = record v { puts = at_number n ps v.puts; takes = at_number n ts v.takes }

-- a change of which what is said holds always
abbrev pub AsksNothing : Change → Type 0
AsksNothing (Connect c) = ⊥
AsksNothing (Pend number item) = ⊥
AsksNothing _ = Unit {0}
