-- A monitor's turn: what its get would find, and what it comes to.
use Rattle.std.proofs.Common.{◌≡◌, ℕ, ◌+◌, ◌^◌, ◌<◌, ◌≤◌, nat_le, refl, sym, ap, subst, ◌∙◌, List, [], ◌∷◌, length, Bool, true, false, ◌||◌, cond, not, arith}
use Rattle.std.proofs.lemmas.Bool.Decides.{nat_tests}
use Rattle.std.specs.Prelude.{Option, Some, None, Result, Ok, Err, ◌==◌, ◌&&◌, find}
use Rattle.mq_base.specs.declared.want.NoMemory.{NoMemory as Want}
use Rattle.mq_calls.specs.declared.answers.Answer.TheVariants as answers
use Rattle.mq_calls.specs.declared.answers.GetAnswer.{GetAnswer}
use Rattle.mq_calls.specs.declared.answers.GetAnswer.TheVariants as get_answers
use Rattle.mq_codes.specs.declared.reason.Reason.TheVariants as reasons
use Rattle.mq_history.specs.declared.calls.Actor.TheVariants as actors
use Rattle.mq_history.specs.declared.calls.Call.TheVariants as calls
use Rattle.mq_history.specs.declared.calls.Reply.TheVariants as replies
use Rattle.mq_queue.specs.declared.row.Row.{Row}
use Rattle.mq_calls.specs.Words.{handle_at}
use Rattle.mq_calls.specs.declared.state.Connection.{Connection}
use Rattle.mq_calls.specs.declared.state.Handle.{Handle}
use Rattle.mq_spec_manager.specs.Words.{connected, for_connection, for_handle, get_found, get_handle, get_scanned, get_tests, get_up, got, got_answer, is_left, is_too_long, mqget, queue_at, room_tests, scanned, with_row, expired_parts}
use Rattle.mq_spec_node.specs.Terms.{Call, Choice, Runs, NoMemory, Stopped, Entry, Got, Hconn, Hobj, Part, Plain, Reason, Reply, Step, Refuse, Do}
use Rattle.mq_spec_node.specs.Words.{CanCome, IsReplayed, Monitor, Node, Own, begins, call_of, done, get_deed, gets_nothing, monitor_deed, monitor_call, monitor_get, monitor_idle, monitor_in, node_of, told}
use Rattle.mq_events.specs.from_law_counts.Counts.{IsCountedCall}
use Rattle.mq_events.specs.declared.outcome.Outcome.{Outcome}
use Rattle.mq_events.specs.Outcomes.{Ends, EndsAs}
use Rattle.mq_law_manager.proofs.ShortSteps.{tested_all}
use Rattle.mq_events.specs.States.{NodeState, IsKept, entry_of, finished, node_in, value_of}
use Rattle.mq_events.specs.Counts.{IsNode, KeepsCounts}
use Rattle.mq_events.specs.Events.{Adds, MayAct, Stays}
use Rattle.mq_events.proofs.StepLaws.{Asked, Roomed, ends_from, roomed_asked, room_same, stamp_same}
use Rattle.mq_events.proofs.CountLaws.{aside_kept, counted_more, counted_still}
use Rattle.mq_events.proofs.RiseLaws.{risen_more, risen_still}
use Rattle.mq_watch.specs.declared.getting.Monitored.{Monitored}
use Rattle.mq_watch.specs.declared.getting.Monitored.TheVariants as monitors
use Rattle.mq_watch.specs.declared.getting.Watched.{Watched}
use Rattle.mq_watch.specs.Looks.{fits, handle_or, row_fits, seat_or}
use Rattle.mq_watch.specs.Turns.{Gets, Turns, get_of, is_refused, monitored, refused_reply, watched_at, watched_by}

pub monitor_found : (number : ℕ) (ms : List Monitor) → find (λ (m : Monitor). m.number == number) ms ≡ monitor_in number ms
monitor_found number [] = refl
monitor_found number (m ∷ ms) = ap (cond (m.number == number) (Some m)) (monitor_found number ms)

-- Where it gets.
at_none : (hc : Option Hconn) (ho : Option Hobj) → watched_at hc ho ≡ None → monitor_call hc ho ≡ None
at_none None ho e = refl
at_none (Some hc) None e = refl
at_none (Some hc) (Some ho) e = absurd cc

next_none : (m : Option Monitor) → watched_by m ≡ None → call_of m ≡ None
next_none None e = refl
next_none (Some m) e = at_none m.connection m.handle e

at_some : (hc : Option Hconn) (ho : Option Hobj) (w : Watched) → watched_at hc ho ≡ Some w → monitor_call hc ho ≡ Some (get_of w)
at_some None ho w e = absurd cc
at_some (Some hc) None w e = absurd cc
at_some (Some hc) (Some ho) w e = ap (λ (x : Watched). Some (get_of x)) (watched_is (record { connection = hc; queue = ho }) w e)
  where
    watched_is : (a b : Watched) → Some a ≡ Some b → a ≡ b
    watched_is a b e = cc

next_some : (m : Option Monitor) (w : Watched) → watched_by m ≡ Some w → call_of m ≡ Some (get_of w)
next_some None w e = absurd cc
next_some (Some m) w e = at_some m.connection m.handle w e

-- What the get is, where a message that fits is there: refused, or an answer of that message.
abbrev Shape : Step Reason GetAnswer → Type 0
Shape (Refuse reason) = Unit {0}
Shape (Do get_answers.NotYet parts) = ⊥
Shape (Do (get_answers.Done (answers.Ok g)) parts) = Unit {0}
Shape (Do (get_answers.Done (answers.Warning reason g)) parts) = ⊥
Shape (Do (get_answers.Done (answers.Failed reason)) parts) = ⊥

abbrev Nothing : Own → Step Reason GetAnswer → Type 0
Nothing own step = gets_nothing (get_deed own step) ≡ true

not_long : (b : Bool) → (b && true) ≡ false → b ≡ false
not_long true e = absurd cc
not_long false e = refl

answer_shape : (b : Bool) (g : Got) (parts : List Part) → b ≡ false → Shape (Do (get_answers.Done (got_answer b g)) parts)
answer_shape true g parts e = absurd cc
answer_shape false g parts e = tt

module _ (p : Plain) (c : Connection) (h : Handle) (before : List Part) where
  row_shape : (row : Row) (b : Bool) → is_left monitor_get row.message ≡ b → not b ≡ true → Shape (with_row b monitor_get c h (queue_at h.leads) row before)
  row_shape row true is e = absurd cc
  row_shape row false is e = answer_shape (is_too_long monitor_get row.message) (got monitor_get.room row.message) _ (not_long (is_too_long monitor_get row.message) is)

  found_shape : (o : Option Row) → row_fits o ≡ true → Shape (get_found monitor_get None p c h before o)
  found_shape None e = absurd cc
  found_shape (Some row) e = row_shape row (is_left monitor_get row.message) refl e

  row_nothing : (own : Own) (row : Row) (b : Bool) → not b ≡ false → Nothing own (with_row b monitor_get c h (queue_at h.leads) row before)
  row_nothing own row true e = refl
  row_nothing own row false e = absurd cc

  found_nothing : (own : Own) (o : Option Row) → row_fits o ≡ false → Nothing own (get_found monitor_get None p c h before o)
  found_nothing own None e = refl
  found_nothing own (Some row) e = row_nothing own row (is_left monitor_get row.message) e

module _ (p : Plain) (c : Connection) where
  handle_shape : (o : Option Handle) → handle_or p o ≡ true → Shape (for_handle o (get_handle monitor_get None p c))
  handle_shape None e = absurd cc
  handle_shape (Some h) e =
      let s = scanned monitor_get h p in
      tested_all Shape (λ r. tt) (get_tests monitor_get p c h) (get_scanned monitor_get None p c h s)
      (tested_all Shape (λ r. tt) (room_tests monitor_get c s p) (get_found monitor_get None p c h (expired_parts (queue_at h.leads) s.expired) s.found) (found_shape p c h (expired_parts (queue_at h.leads) s.expired) s.found e))

  handle_nothing : (own : Own) (o : Option Handle) → handle_or p o ≡ false → Nothing own (for_handle o (get_handle monitor_get None p c))
  handle_nothing own None e = refl
  handle_nothing own (Some h) e =
      let s = scanned monitor_get h p in
      tested_all (Nothing own) (λ r. refl) (get_tests monitor_get p c h) (get_scanned monitor_get None p c h s)
      (tested_all (Nothing own) (λ r. refl) (room_tests monitor_get c s p) (get_found monitor_get None p c h (expired_parts (queue_at h.leads) s.expired) s.found) (found_nothing p c h (expired_parts (queue_at h.leads) s.expired) own s.found e))

seat_shape : (ho : Hobj) (p : Plain) (r : Result Connection Reason) → seat_or ho p r ≡ true → Shape (for_connection r (get_up ho monitor_get None p))
seat_shape ho p (Err reason) e = absurd cc
seat_shape ho p (Ok c) e = handle_shape p c (handle_at ho.number c.handles) e

seat_nothing : (ho : Hobj) (p : Plain) (own : Own) (r : Result Connection Reason) → seat_or ho p r ≡ false → Nothing own (for_connection r (get_up ho monitor_get None p))
seat_nothing ho p own (Err reason) e = refl
seat_nothing ho p own (Ok c) e = handle_nothing p c own (handle_at ho.number c.handles) e

abbrev step_of : Watched → Plain → Step Reason GetAnswer
step_of w p = mqget w.connection w.queue monitor_get None p

-- What it comes to.
abbrev Refused : Own → Plain → Step Reason GetAnswer → Plain → Type 0
Refused own p step q = (q ≡ p) × Nothing own step

true_false : true ≡ false → ⊥
true_false e = absurd cc

refused_by : (reason : Reason) (own : Own) (p q : Plain) (reply : Reply) (c : Choice) → CanCome (told (replies.Got (answers.Failed reason)) own) c (node_of p own) → reply ≡ (done (told (replies.Got (answers.Failed reason)) own) c (node_of p own)).reply
    → q ≡ (done (told (replies.Got (answers.Failed reason)) own) c (node_of p own)).next.manager → (q ≡ p) × (is_refused c reply ≡ true)
refused_by reason own p q reply Runs can r m = (m, ap refused_reply r)
refused_by reason own p q reply NoMemory can r m = absurd can
refused_by reason own p q reply (Stopped by part left) can r m = absurd can.0

never_refused : (c : Choice) (reply : Reply) (g : Got) (parts : List Part) (own : Own) (n : Node) → reply ≡ (done (record { wanting = Some (replies.Got (answers.Failed reasons.StorageNotAvailable)); reply = replies.Got (answers.Ok g); parts = parts; pushed = None; received = []; own = own }) c n).reply → is_refused c reply ≡ false
never_refused Runs reply g parts own n r = ap refused_reply r
never_refused NoMemory reply g parts own n r = refl
never_refused (Stopped by part left) reply g parts own n r = refl

pub was_refused : (own : Own) (p q : Plain) (step : Step Reason GetAnswer) (o : Outcome) → Shape step → EndsAs (get_deed own step) (node_of p own) (Ok (Some o)) q → is_refused o.choice o.reply ≡ true → Refused own p step q
was_refused own p q (Refuse reason) o sh c is = ((refused_by reason own p q o.reply o.choice c.can c.reply c.manager).0, refl)
was_refused own p q (Do get_answers.NotYet parts) o sh c is = absurd sh
was_refused own p q (Do (get_answers.Done (answers.Ok g)) parts) o sh c is = absurd (true_false (sym is ∙ never_refused o.choice o.reply g parts own (node_of p own) c.reply))
was_refused own p q (Do (get_answers.Done (answers.Warning reason g)) parts) o sh c is = absurd sh
was_refused own p q (Do (get_answers.Done (answers.Failed reason)) parts) o sh c is = absurd sh

pub was_got : (own : Own) (p q : Plain) (step : Step Reason GetAnswer) (o : Outcome) → Shape step → EndsAs (get_deed own step) (node_of p own) (Ok (Some o)) q → is_refused o.choice o.reply ≡ false → gets_nothing (get_deed own step) ≡ false
was_got own p q (Refuse reason) o sh c is = absurd (true_false (sym (refused_by reason own p q o.reply o.choice c.can c.reply c.manager).1 ∙ is))
was_got own p q (Do get_answers.NotYet parts) o sh c is = absurd sh
was_got own p q (Do (get_answers.Done (answers.Ok g)) parts) o sh c is = refl
was_got own p q (Do (get_answers.Done (answers.Warning reason g)) parts) o sh c is = absurd sh
was_got own p q (Do (get_answers.Done (answers.Failed reason)) parts) o sh c is = absurd sh

never_waits : (own : Own) (p q : Plain) (step : Step Reason GetAnswer) → Shape step → EndsAs (get_deed own step) (node_of p own) (Ok None) q → ⊥
never_waits own p q (Refuse reason) sh c = c
never_waits own p q (Do get_answers.NotYet parts) sh c = sh
never_waits own p q (Do (get_answers.Done (answers.Ok g)) parts) sh c = c
never_waits own p q (Do (get_answers.Done (answers.Warning reason g)) parts) sh c = c
never_waits own p q (Do (get_answers.Done (answers.Failed reason)) parts) sh c = c

-- As a turn of the node.
same_stays : (s : NodeState) → Stays s s
same_stays s = record { same = refl; marks = refl; faults = omega arith }

pub unwatched : (k : ℕ) (s : NodeState) → None ≡ watched_by (monitor_in k s.own.monitors) → Turns k s (Ok monitors.Idle) s
unwatched k s e = record { stays = same_stays s; idle = ap (λ (o : Option Call). gets_nothing (monitor_deed k o (node_in s))) (next_none (monitor_in k s.own.monitors) (sym e)) }

idle_at : (k : ℕ) (s : NodeState) (w : Watched) → watched_by (monitor_in k s.own.monitors) ≡ Some w → monitor_idle k (node_in s) ≡ gets_nothing (get_deed s.own (step_of w s.manager.plain))
idle_at k s w e = ap (λ (o : Option Call). gets_nothing (monitor_deed k o (node_in s))) (next_some (monitor_in k s.own.monitors) w e)

pub unfit : (k : ℕ) (s : NodeState) (w : Watched) → Some w ≡ watched_by (monitor_in k s.own.monitors) → fits w.connection w.queue s.manager.plain ≡ false → Turns k s (Ok monitors.Idle) s
unfit k s w e f = record { stays = same_stays s; idle = idle_at k s w (sym e) ∙ seat_nothing w.queue s.manager.plain s.own (connected w.connection s.manager.plain) f }

pub short_turn : (k : ℕ) (s t : NodeState) (x : Result Monitored Want) (y : Want) → x ≡ Err y → Stays s t → Turns k s x t
short_turn k s t x y e h = let T : Result Monitored Want → Type 0 = λ z. Turns k s z t in subst T (sym e) h

no_second : (a b : Bool) → (a || b) ≡ false → b ≡ false
no_second true b h = absurd cc
no_second false b h = h

below : (n m : ℕ) → nat_le n m ≡ false → m < n
below n m h = grind (arith, nat_tests)

module _ (k : ℕ) (s r a : NodeState) (w : Watched) (e : Roomed s r) (h : Asked r a) (seat : watched_by (monitor_in k s.own.monitors) ≡ Some w) (fit : fits w.connection w.queue s.manager.plain ≡ true) where
  shape : Shape (step_of w s.manager.plain)
  shape = seat_shape w.queue s.manager.plain (connected w.connection s.manager.plain) fit

  ends_at : (x : Result (Option Outcome) Want) → Ends (get_of w) r.manager x a.manager → Ends (get_of w) s.manager x a.manager
  ends_at x n = ends_from s r (get_of w) x a.manager e n

  stays_at : a.manager.plain ≡ s.manager.plain → s.manager.faults ≤ a.manager.faults → Stays s a
  stays_at same le =
      let E : NodeState → Type 0 = λ x. Stays s x in
      subst E (sym (roomed_asked s r a e h)) (record { same = ap (λ (p : Plain). record (value_of s) { node = node_of p s.own }) same; marks = refl; faults = le })

  kept_at : IsKept s → a.manager.plain ≡ s.manager.plain → IsKept a
  kept_at kept same =
      let V : Plain → Type 0 = λ p. IsReplayed (record (value_of s) { node = node_of p s.own }) in
      subst IsKept (sym (roomed_asked s r a e h)) (subst V (sym same) kept)

  pub room_left : 1 ≤ r.room → 0 < a.room
  room_left more = let same = room_same r a h in omega (arith, more, same)

  pub stamp_left : MayAct s → a.stamp < 2 ^ 60
  stamp_left may =
      let low : s.stamp < 2 ^ 60 = below (2 ^ 60) s.stamp (no_second (nat_le (2 ^ 48) (length s.history.entries)) (nat_le (2 ^ 60) s.stamp) may) in
      subst (λ (n : ℕ). n < 2 ^ 60) (sym (stamp_same s r a e h)) low

  pub waits_turn : Ends (get_of w) r.manager (Ok None) a.manager → ⊥
  waits_turn n = never_waits s.own s.manager.plain a.manager.plain (step_of w s.manager.plain) shape ((ends_at (Ok None) n).ends 0 (actors.Monitor k) s.own)

  pub refused_kept : (o : Outcome) → IsKept s → Ends (get_of w) r.manager (Ok (Some o)) a.manager → is_refused o.choice o.reply ≡ true → IsKept a
  refused_kept o kept n is = kept_at kept (was_refused s.own s.manager.plain a.manager.plain (step_of w s.manager.plain) o shape ((ends_at (Ok (Some o)) n).ends 0 (actors.Monitor k) s.own) is).0

  pub refused_turn : (o : Outcome) → Ends (get_of w) r.manager (Ok (Some o)) a.manager → is_refused o.choice o.reply ≡ true → Turns k s (Ok monitors.Idle) a
  refused_turn o n is =
      let it = was_refused s.own s.manager.plain a.manager.plain (step_of w s.manager.plain) o shape ((ends_at (Ok (Some o)) n).ends 0 (actors.Monitor k) s.own) is in
      record { stays = stays_at it.0 (ends_at (Ok (Some o)) n).later; idle = idle_at k s w seat ∙ it.1 }

  got_turn : (f : NodeState) (o : Outcome) (begun : Option ℕ) → Ends (get_of w) r.manager (Ok (Some o)) a.manager → is_refused o.choice o.reply ≡ false → begun ≡ begins a.own.scripts a.history.entries o.reply → f ≡ finished (actors.Monitor k) (get_of w) o a → Gets k begun s f
  got_turn f o begun n is b z =
      let same : f ≡ finished (actors.Monitor k) (get_of w) o (record s { manager = a.manager; room = r.room }) = z ∙ ap (finished (actors.Monitor k) (get_of w) o) (roomed_asked s r a e h) in
      let entry : Entry = entry_of (s.stamp + 1) (actors.Monitor k) (get_of w) o in
      let A : NodeState → Type 0 = λ x. Adds (actors.Monitor k) (get_of w) entry s x in
      record {
        entry = entry;
        call = get_of w;
        adds = subst A (sym same) (record { grows = record { given = refl; history = refl }; actor = refl; call = refl; marks = refl; faults = (ends_at (Ok (Some o)) n).later; rose = (ends_at (Ok (Some o)) n).rose });
        next = sym (next_some (monitor_in k s.own.monitors) w seat);
        finds = idle_at k s w seat ∙ was_got s.own s.manager.plain a.manager.plain (step_of w s.manager.plain) o shape ((ends_at (Ok (Some o)) n).ends 0 (actors.Monitor k) s.own) is;
        script = sym (b ∙ ap (λ (x : NodeState). begins x.own.scripts x.history.entries o.reply) (roomed_asked s r a e h));
      }

  pub got_did : (f : NodeState) (o : Outcome) (begun : Option ℕ) → Ends (get_of w) r.manager (Ok (Some o)) a.manager → is_refused o.choice o.reply ≡ false → begun ≡ begins a.own.scripts a.history.entries o.reply → f ≡ finished (actors.Monitor k) (get_of w) o a → Turns k s (Ok (monitored begun)) f
  got_did f o None n is b z = got_turn f o None n is b z
  got_did f o (Some script) n is b z = got_turn f o (Some script) n is b z

-- What holds of a node holds behind the turn.
call_counted : (hc : Option Hconn) (ho : Option Hobj) (call : Call) → Some call ≡ monitor_call hc ho → IsCountedCall call
call_counted None ho call e = absurd cc
call_counted (Some hc) None call e = absurd cc
call_counted (Some hc) (Some ho) call e = subst IsCountedCall (sym (call_is call (calls.Mqget hc ho monitor_get None) e)) tt
  where
    call_is : (a b : Call) → Some a ≡ Some b → a ≡ b
    call_is a b e = cc

next_counted : (m : Option Monitor) (call : Call) → Some call ≡ call_of m → IsCountedCall call
next_counted None call e = absurd cc
next_counted (Some m) call e = call_counted m.connection m.handle call e

got_counted : (k : ℕ) (begun : Option ℕ) (s t : NodeState) → IsNode s → IsKept t → KeepsCounts s t → Gets k begun s t → IsNode t
got_counted k begun s t n l c h = record { kept = l; counted = counted_more (actors.Monitor k) h.call h.entry s t n.kept l (next_counted (monitor_in k s.own.monitors) h.call h.next) n.counted c h.adds; risen = risen_more (actors.Monitor k) h.call h.entry s t n.risen h.adds; aside = aside_kept s t n.aside c }

pub turned_node : (k : ℕ) (s : NodeState) (r : Result Monitored Want) (t : NodeState) → IsNode s → IsKept t → KeepsCounts s t → Turns k s r t → IsNode t
turned_node k s (Ok monitors.Idle) t n l c h = record { kept = l; counted = counted_still s t n.counted c h.stays; risen = risen_still s t n.risen h.stays; aside = aside_kept s t n.aside c }
turned_node k s (Ok (monitors.Started script)) t n l c h = got_counted k (Some script) s t n l c h
turned_node k s (Ok monitors.Got) t n l c h = got_counted k None s t n l c h
turned_node k s (Err e) t n l c h = record { kept = l; counted = counted_still s t n.counted c h; risen = risen_still s t n.risen h; aside = aside_kept s t n.aside c }
