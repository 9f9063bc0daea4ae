-- What changes the ends of channels alone.
use Rattle.std.proofs.Common.{◌≡◌, ◌≤◌, Bool, true, false, List, [], ◌∷◌, refl, ap, arith, sym, ◌∙◌}
use Rattle.std.specs.Prelude.{Option, Some, None, Ok, map, not, ◌&&◌}
use Rattle.std.proofs.lemmas.List.{append-nil}
use Rattle.mq_calls.specs.Words.{Ident, Holder, Row, Which, held_in, released_in, retag_if, release_if, retag, selects, is_free, same_ident, Plain, Running, Change, ManagerValue, Wants, MeetsDone, silent, apply_all}
use Rattle.mq_calls.specs.declared.deltas.Did.{Did}
use Rattle.mq_calls.specs.State.{Queue as StateQueue}
use Rattle.mq_calls.specs.declared.state.Seizure.{Seizure}
use Rattle.mq_place.specs.States.{on_queues}
use Rattle.mq_core.specs.declared.parts.ChannelEnds.{ChannelEnds}
use Rattle.mq_core.specs.Views.{PartsValue, plain_of, frozen_of, channels_of}
use Rattle.mq_core.specs.Ties.{Tied, mode_is_up, one_if, times_in_rows, EndsReady}
use Rattle.mq_core.specs.Placing.{with_states}
use Rattle.mq_core.proofs.ForceLaws.{queues_on, tied_where, tied_on}
use Rattle.mq_core.proofs.MeetLaws.{running_up}

unfoldable pub with_ends : ChannelEnds → PartsValue → PartsValue
with_ends e x = record x { ends = e }

pub tied_ends : (e : ChannelEnds) (x : PartsValue) → (EndsReady x.ends x.log.spare → EndsReady e x.log.spare) → Tied x → Tied (with_ends e x)
unfolding with_ends
tied_ends e x same t = tied_where [] [] e x.log x.body x.mode x (λ u. let w = t.up u in record { live = w.live; settled = w.settled; ends = same w.ends; room = w.room; body = w.body }) t.reserved t.within t.max t

-- so who has seized which queue
unfoldable pub seized : List Seizure → PartsValue → PartsValue
seized s x = record x { ends = record x.ends { seizures = s } }

pub seized_tied : (s : List Seizure) (x : PartsValue) → Tied x → Tied (seized s x)
unfolding with_ends seized
seized_tied s x t = tied_ends (record x.ends { seizures = s }) x (λ w. record { log = w.log; rows = w.rows; senders = w.senders; receivers = w.receivers; seats = w.seats }) t

with_running : PartsValue → ChannelEnds → Running → Plain
with_running x e r = record (plain_of x) { running = r; channels = channels_of e }

-- while it is up, nothing else changes
pub ends_view : (e : ChannelEnds) (x : PartsValue) → mode_is_up x.mode ≡ true → plain_of (with_ends e x) ≡ record (plain_of x) { channels = channels_of e }
unfolding with_running with_ends
ends_view e x up = ap (with_running x e) (running_up (frozen_of x) (frozen_of (with_ends e x)) x.mode up)

-- changes without a write, of which nothing is told
pub quiet_as : (F : Type 0) {T : Type 0} (wants : Wants) (v new : ManagerValue) (reply : T) (changes : List Change)
    → new.plain ≡ apply_all changes v.plain → new.delta ≡ [] → new.stopped ≡ None → new.faults ≡ v.faults → MeetsDone {F = F} wants v reply (silent changes ∷ []) (Ok reply) new
quiet_as F wants v new reply changes plain told stopped faults =
    (refl, (λ some. some), omega (arith, faults), (λ i. record { plain = plain i; delta = told i; stopped = stopped i; faults = new.faults }))

-- Rows of queues are retagged, and ends of channels change with them.
times_retag : (i : Ident) (g : Row → Row) → ((row : Row) → (g row).message.ident ≡ row.message.ident) → (rows : List Row) → times_in_rows i (retag g rows) ≡ times_in_rows i rows
times_retag i g same [] = refl
times_retag i g same (row ∷ rows) = let here = ap (λ (k : Ident). one_if (same_ident k i)) (same row) in let rest = times_retag i g same rows in omega (arith, here, rest)

pub held_ident : (b : Bool) (by : Option Holder) (row : Row) → (retag_if b by row).message.ident ≡ row.message.ident
held_ident true by row = refl
held_ident false by row = refl

pub times_held : (i : Ident) (which : Which) (by : Holder) (q : StateQueue) → times_in_rows i (held_in which by q).rows ≡ times_in_rows i q.rows
times_held i which by q = times_retag i (λ (row : Row). retag_if (selects which q.name row && is_free row) (Some by) row) (λ row. held_ident (selects which q.name row && is_free row) (Some by) row) q.rows

pub freed_ident : (b : Bool) (row : Row) → (release_if b false row).message.ident ≡ row.message.ident
freed_ident true row = refl
freed_ident false row = refl

pub times_freed : (i : Ident) (which : Which) (q : StateQueue) → times_in_rows i (released_in which false q).rows ≡ times_in_rows i q.rows
times_freed i which q = times_retag i (λ (row : Row). release_if (selects which q.name row && not (is_free row)) false row) (λ row. freed_ident (selects which q.name row && not (is_free row)) row) q.rows

unfoldable pub with_rows : (StateQueue → StateQueue) → ChannelEnds → PartsValue → PartsValue
with_rows f e x = record (with_states (on_queues f x.queues.states) x) { ends = e }

pub tied_rows : (f : StateQueue → StateQueue) → ((q : StateQueue) → (f q).name ≡ q.name) → ((i : Ident) (q : StateQueue) → times_in_rows i (f q).rows ≤ times_in_rows i q.rows) → (e : ChannelEnds) (x : PartsValue)
    → (EndsReady x.ends x.log.spare → EndsReady e x.log.spare) → Tied x → Tied (with_rows f e x)
unfolding with_rows with_ends
tied_rows f named times e x same t = tied_ends e (with_states (on_queues f x.queues.states) x) same (tied_on f named times [] [] x t)

with_running_rows : PartsValue → ChannelEnds → Running → List StateQueue → Plain
with_running_rows x e r qs = record (plain_of x) { running = r; queues = qs; channels = channels_of e }

pub rows_view : (f : StateQueue → StateQueue) (e : ChannelEnds) (x : PartsValue) → mode_is_up x.mode ≡ true → plain_of (with_rows f e x) ≡ record (plain_of x) { queues = map f (plain_of x).queues; channels = channels_of e }
unfolding with_running_rows with_rows
rows_view f e x up = λ i. with_running_rows x e (running_up (frozen_of x) (frozen_of (with_rows f e x)) x.mode up i) (queues_on f x.queues.states i)

-- changes without a write, of which this is told
pub free_as : (F : Type 0) {T : Type 0} (wants : Wants) (v new : ManagerValue) (reply : T) (value : T) (changes : List Change) (delta : List Did)
    → value ≡ reply → new.plain ≡ apply_all changes v.plain → new.delta ≡ delta → new.stopped ≡ None → new.faults ≡ v.faults
    → MeetsDone {F = F} wants v reply (record { forced = None; changes = changes; delta = delta } ∷ []) (Ok value) new
free_as F wants v new reply value changes delta is plain told stopped faults =
    let all = told ∙ sym (append-nil delta) in
    (is, (λ some. some), omega (arith, faults), (λ i. record { plain = plain i; delta = all i; stopped = stopped i; faults = new.faults }))
