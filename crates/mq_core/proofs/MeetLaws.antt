-- How the steps of calls are met: by a live connection's number, and without a write.
use Rattle.std.proofs.Common.{◌≡◌, ℕ, ◌+◌, true, List, [], ◌∷◌, refl, ap, arith, sym, subst, ◌∙◌}
use Rattle.std.specs.Prelude.{Option, Some, None, Ok, Err, IsSome, IfSome}
use Rattle.std.proofs.lemmas.Bool.Decides.{nat_tests}
use Rattle.mq_calls.specs.Words.{Reason, Route, Plain, Running, Change, Part, Step, Do, ManagerValue, Wants, MeetsAs, MeetsDone, Meets, untouched, is_up, silent, apply_all, connection_at, handle_at, change_connection, with_connection}
use Rattle.mq_calls.specs.declared.answers.Answer.{Answer}
use Rattle.mq_calls.specs.declared.answers.Hobj.{Hobj}
use Rattle.mq_calls.specs.declared.answers.Open.{Open}
use Rattle.mq_calls.specs.declared.state.Connection.{Connection}
use Rattle.mq_calls.specs.declared.state.Handle.{Handle}
use Rattle.mq_calls.specs.State.Change.{CloseHandle}
use Rattle.mq_spec_manager.specs.Words.{for_connection, for_handle, live_or, close_handle, close_up, new_handle, open_step}
use Rattle.mq_calls.specs.declared.answers.Answer.TheVariants as answers
use Rattle.mq_calls.specs.declared.commands.Halt.TheVariants as halts
use Rattle.mq_trigger.specs.from_handles.Desks.{Desk}
use Rattle.mq_trigger.specs.from_handles.Seats.{opened}
use Rattle.mq_core.specs.declared.parts.Mode.{Mode}
use Rattle.mq_core.specs.declared.parts.Mode.TheVariants as modes
use Rattle.mq_core.specs.Views.{PartsValue, plain_of, frozen_of, running_of}
use Rattle.mq_core.specs.Ties.{mode_is_up}
use Rattle.mq_core.specs.Calls.{at_number, HasHandle, open_at}
use Rattle.mq_core.proofs.SeatLaws.{number_is}

pub some_is : {X : Type 0} (o : Option X) → IsSome o → (x : X) × (o ≡ Some x)
some_is None h = absurd cc
some_is (Some x) h = (x, refl)

pub if_some : {X : Type 0} (P : X → Type 0) (o : Option X) (x : X) → o ≡ Some x → IfSome o P → P x
if_some P o x e h = subst (λ o. IfSome o P) e h

pub some_of : {X : Type 0} (P : X → Type 0) (o : Option X) (x : X) → o ≡ Some x → P x → IfSome o P
some_of P o x e h = subst (λ o. IfSome o P) (sym e) h

-- a call of a live connection
pub done_at : {T : Type 0} (wants : Wants) (v new : ManagerValue) (number : ℕ) (c : Connection) (call : Connection → Step Reason T) (reply : T) (parts : List Part)
    → connection_at number v.plain.connections ≡ Some c → call c ≡ Do reply parts → MeetsDone {F = Reason} wants v reply parts (Ok reply) new → MeetsAs wants v (at_number number v.plain call) (Ok reply) new
done_at wants v new number c call reply parts e is h =
    subst (λ o. MeetsAs wants v (for_connection (live_or o) call) (Ok reply) new) (sym e) (subst (λ s. MeetsAs wants v s (Ok reply) new) (sym is) h)

-- changes without a write
pub quiet_done : {T : Type 0} (wants : Wants) (v new : ManagerValue) (reply : T) (changes : List Change)
    → new.plain ≡ apply_all changes v.plain → new.delta ≡ [] → new.stopped ≡ None → new.faults ≡ v.faults → MeetsDone {F = Reason} wants v reply (silent changes ∷ []) (Ok reply) new
quiet_done wants v new reply changes plain told stopped faults =
    (refl, (λ some. some), omega (arith, faults), (λ i. record { plain = plain i; delta = told i; stopped = stopped i; faults = new.faults }))

-- while it is up, nothing of the connections shows in that
pub mode_up : (frozen : Plain) (m : Mode) → is_up (running_of frozen m) ≡ true → mode_is_up m ≡ true
mode_up frozen modes.Up e = refl
mode_up frozen (modes.Down write starts read) e = absurd cc

pub running_up : (old new : Plain) (m : Mode) → mode_is_up m ≡ true → running_of new m ≡ running_of old m
running_up old new modes.Up e = refl
running_up old new (modes.Down write starts read) e = absurd cc

with_running : PartsValue → Desk → Running → Plain
with_running x d r = record (plain_of x) { running = r; connections = d.live; numbers = record { incarnation = x.incarnation; idents = x.idents; connections = d.last } }

with_desk : Desk → Plain → Plain
with_desk d p = record p { connections = d.live; numbers = record p.numbers { connections = d.last } }

pub desk_view : (x : PartsValue) (d : Desk) → mode_is_up x.mode ≡ true → plain_of (record x { desk = d }) ≡ record (plain_of x) { connections = d.live; numbers = record (plain_of x).numbers { connections = d.last } }
unfolding with_running
desk_view x d up = ap (with_running x d) (running_up (frozen_of x) (frozen_of (record x { desk = d })) x.mode up)

changed_desk : (Connection → Connection) → PartsValue → ℕ → Plain
changed_desk f x number = record (plain_of x) { connections = change_connection number f x.desk.live }

with_change : ℕ → (Connection → Connection) → Plain → Plain
with_change number f p = with_connection number f p

-- one connection is changed
pub changed_view : (x : PartsValue) (p : Plain) (number : ℕ) (c : Connection) (f : Connection → Connection) → mode_is_up x.mode ≡ true → plain_of x ≡ p → connection_at number x.desk.live ≡ Some c
    → plain_of (record x { desk = record { live = change_connection number f x.desk.live; last = x.desk.last } }) ≡ with_connection c.number f p
unfolding changed_desk with_change
changed_view x p number c f up e found =
    desk_view x (record { live = change_connection number f x.desk.live; last = x.desk.last }) up
    ∙ ap (changed_desk f x) (sym (number_is number x.desk.live c found))
    ∙ ap (with_change c.number f) e

-- a handle that is found has the number
pub handle_number_is : (n : ℕ) (hs : List Handle) (h : Handle) → handle_at n hs ≡ Some h → h.number ≡ n
handle_number_is n [] h e = absurd cc
handle_number_is n (k ∷ hs) h e = grind (arith, nat_tests, handle_number_is n hs h)

close_step : ℕ → ℕ → Step Reason (Answer (Unit {0}))
close_step number handle = Do (answers.Ok tt) (silent (CloseHandle number handle ∷ []) ∷ [])

pub closes_as : (ho : Hobj) (c : Connection) → HasHandle ho c → close_up ho c ≡ Do (answers.Ok tt) (silent (CloseHandle c.number ho.number ∷ []) ∷ [])
unfolding close_step
closes_as ho c h =
    let found = some_is (handle_at ho.number c.handles) h in
    ap (λ o. for_handle o (close_handle c)) found.1 ∙ ap (close_step c.number) (handle_number_is ho.number c.handles found.0 found.1)

-- an MQOPEN that is done
pub opened_as : (v new : ManagerValue) (number : ℕ) (how : Open) (route : Route) (c : Connection) (ho : Hobj) → connection_at number v.plain.connections ≡ Some c → ho.number ≡ c.last_handle + 1
    → new.plain ≡ with_connection c.number (opened (new_handle how route c)) v.plain → new.delta ≡ [] → new.stopped ≡ None → new.faults ≡ v.faults
    → Meets v (open_at number how route v.plain) (Ok (answers.Ok ho)) new
opened_as v new number how route c ho e n plain told stopped faults =
    subst (λ o. Meets v (for_connection (live_or o) (λ d. open_step d how route)) (Ok (answers.Ok ho)) new) (sym e)
    (ap (λ (k : ℕ). let o : Hobj = record { number = k } in answers.Ok o) n, (λ some. some), omega (arith, faults), (λ i. record { plain = plain i; delta = told i; stopped = stopped i; faults = new.faults }))

-- want of memory of a live connection's call
pub wanting_at : {T : Type 0} (v new : ManagerValue) (number : ℕ) (c : Connection) (call : Connection → Step Reason T) (reply : T) (parts : List Part)
    → connection_at number v.plain.connections ≡ Some c → call c ≡ Do reply parts → new ≡ untouched v → Meets v (at_number number v.plain call) (Err halts.NoMemory) new
wanting_at v new number c call reply parts e is h =
    subst (λ o. Meets v (for_connection (live_or o) call) (Err halts.NoMemory) new) (sym e) (subst (λ s. Meets v s (Err halts.NoMemory) new) (sym is) h)
