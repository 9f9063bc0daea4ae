-- The ledger's connections have numbers of their own, up to the last that was given.
use Rattle.std.proofs.Common.{ℕ, ◌≡◌, ◌≤◌, ◌+◌, Bool, true, false, not, List, [], ◌∷◌, ◌++◌, refl, ap, sym, subst, ◌∙◌, inl, inr, arith}
use Rattle.std.specs.Prelude.{Option, Some, None, Result, Ok, Err, ◌==◌, if◌then◌else◌, filter, slice_get}
use Rattle.std.proofs.lemmas.Bool.Decides.{nat_tests}
use Rattle.mq_base.specs.Members.{Chain, Mem}
use Rattle.mq_codes.specs.declared.reason.Reason.{Reason}
use Rattle.mq_message.specs.declared.message.Ident.{Ident}
use Rattle.mq_message.specs.declared.message.Md.{Md}
use Rattle.mq_message.specs.declared.message.Message.{Message}
use Rattle.mq_queue.specs.declared.row.Row.{Row}
use Rattle.mq_objects.specs.declared.object.LocalQueue.{LocalQueue}
use Rattle.mq_objects.specs.declared.object.Process.{Process}
use Rattle.mq_objects.specs.Names.{local_of, process_of}
use Rattle.mq_resolve.specs.declared.route.Route.{Route}
use Rattle.mq_calls.specs.declared.answers.Answer.TheVariants as answers
use Rattle.mq_calls.specs.declared.answers.Appl.{Appl}
use Rattle.mq_calls.specs.declared.answers.Get.{Get}
use Rattle.mq_calls.specs.declared.answers.Hconn.{Hconn}
use Rattle.mq_calls.specs.declared.answers.Hobj.{Hobj}
use Rattle.mq_calls.specs.declared.answers.Open.{Open}
use Rattle.mq_calls.specs.declared.deltas.Did.{Did}
use Rattle.mq_calls.specs.declared.deltas.Did.TheVariants as did
use Rattle.mq_calls.specs.declared.state.Connection.{Connection}
use Rattle.mq_calls.specs.declared.state.Handle.{Handle}
use Rattle.mq_calls.specs.declared.state.Item.{Item}
use Rattle.mq_calls.specs.declared.state.Item.TheVariants.{Put, Take}
use Rattle.mq_message.specs.declared.message.Dest.{Dest}
use Rattle.mq_sc_parse.specs.declared.command.Command.{Command}
use Rattle.mq_sc_parse.specs.declared.command.Command.TheVariants as commands
use Rattle.mq_history.specs.declared.acts.Act.TheVariants as acts
use Rattle.mq_history.specs.declared.acts.Acted.{Acted}
use Rattle.mq_history.specs.declared.acts.Acted.TheVariants as acted
use Rattle.mq_history.specs.declared.calls.Call.{Call}
use Rattle.mq_history.specs.declared.calls.Call.TheVariants as calls
use Rattle.mq_history.specs.declared.calls.Entry.{Entry}
use Rattle.mq_history.specs.declared.calls.Reply.{Reply}
use Rattle.mq_history.specs.declared.calls.Reply.TheVariants as replies
use Rattle.mq_spec_manager.specs.Moves.{bare_if}
use Rattle.mq_calls.specs.State.{Plain}
use Rattle.mq_calls.specs.Changes.{change_connection}
use Rattle.mq_spec_network.specs.Terms.{names_of, handle_at, handle_route, is_destructive}
use Rattle.mq_spec_network.specs.Ledger as ledgers
use Rattle.mq_spec_network.specs.Ledger.{Ledger, Users}
use Rattle.mq_law_manager.proofs.Lists.{bool_case, mem_append}
use Rattle.mq_law_manager.proofs.Removals.{mem_filter}
use Rattle.mq_law_turns.proofs.from_law_rows.Lists.{map_mem, mem_map}
use Rattle.mq_law_turns.specs.from_law_events.Tied.{IsTold, connections_told}
use Rattle.mq_law_turns.proofs.from_law_events.Taking.{gone_users}
use Rattle.mq_law_turns.proofs.from_law_events.Telling.{here_changed}
use Rattle.mq_law_turns.specs.from_law_receipts.Receipts.{AreNumbered}
use Rattle.mq_law_deeds.specs.Numbers.{AreCounted, AreCountedAt, IsNext, numbers_of}

-- Lists of connections

same_numbers : (k : ℕ) (f : Connection → Connection) (cs : List Connection) → ((c : Connection) → (f c).number ≡ c.number) → numbers_of (change_connection k f cs) ≡ numbers_of cs
same_numbers k f [] same = refl
same_numbers k f (c ∷ cs) same = bool_case (c.number == k) (λ t. numbers_of (if t then f c ∷ cs else c ∷ change_connection k f cs) ≡ c.number ∷ numbers_of cs)
    (λ e. ap (λ x. x ∷ numbers_of cs) (same c)) (λ e. ap (λ (xs : List ℕ). c.number ∷ xs) (same_numbers k f cs same))

less : (a b c : ℕ) → a ≤ b → b ≤ c → a ≤ c
less a b c h k = omega arith

pub higher : (n k : ℕ) (ns : List ℕ) → n ≤ k → AreCounted n ns → AreCounted k ns
higher n k ns le h = record { apart = h.apart; upto = λ j m. less j n k (h.upto j m) le }

none : (n : ℕ) → AreCounted n []
none n = record { apart = tt; upto = λ k m. absurd m }

not_new : (a b n : ℕ) → a ≤ n → b ≡ n + 1 → (a == b) ≡ false
not_new a b n le e = grind (arith, nat_tests, e)

pushed_apart : (new n : ℕ) (ns : List ℕ) → new ≡ n + 1 → ((k : ℕ) → Mem k ns → k ≤ n) → Chain (λ (a b : ℕ). (a == b) ≡ false) ns → Chain (λ (a b : ℕ). (a == b) ≡ false) (ns ++ new ∷ [])
pushed_apart new n [] e le a = (λ y m. absurd m, tt)
pushed_apart new n (x ∷ xs) e le a = (
  λ y m. elim (mem_append y xs (new ∷ []) m) [ inl k ↦ a.0 y k | inr k ↦ elim k [ inl q ↦ ap (λ z. x == z) q ∙ not_new x new n (le x (inl refl)) e | inr q ↦ absurd q ] ],
  pushed_apart new n xs e (λ k m. le k (inr m)) a.1,
)

push : (new n k : ℕ) (ns : List ℕ) → new ≡ n + 1 → n + 1 ≤ k → AreCounted n ns → AreCounted k (ns ++ new ∷ [])
push new n k ns e le h = record {
  apart = pushed_apart new n ns e h.upto h.apart;
  upto = λ j m. elim (mem_append j ns (new ∷ []) m) [ inl q ↦ before j n k (h.upto j q) le | inr q ↦ elim q [ inl r ↦ at j new n k r e le | inr r ↦ absurd r ] ];
}
  where
    before : (j n k : ℕ) → j ≤ n → n + 1 ≤ k → j ≤ k
    before j n k a b = omega arith

    at : (j new n k : ℕ) → j ≡ new → new ≡ n + 1 → n + 1 ≤ k → j ≤ k
    at j new n k a b c = omega arith

numbers_pushed : (cs : List Connection) (c : Connection) → numbers_of (cs ++ c ∷ []) ≡ numbers_of cs ++ c.number ∷ []
numbers_pushed [] c = refl
numbers_pushed (x ∷ xs) c = ap (λ (ns : List ℕ). x.number ∷ ns) (numbers_pushed xs c)

filtered_mem : (test : Connection → Bool) (cs : List Connection) (k : ℕ) → Mem k (numbers_of (filter test cs)) → Mem k (numbers_of cs)
filtered_mem test cs k n = let r = map_mem (λ (c : Connection). c.number) k (filter test cs) n in
    subst (λ (j : ℕ). Mem j (numbers_of cs)) (sym r.2) (mem_map (λ (c : Connection). c.number) r.0 cs (mem_filter r.0 test cs r.1).0)

filtered_apart : (test : Connection → Bool) (cs : List Connection) → Chain (λ (a b : ℕ). (a == b) ≡ false) (numbers_of cs) → Chain (λ (a b : ℕ). (a == b) ≡ false) (numbers_of (filter test cs))
filtered_apart test [] a = tt
filtered_apart test (c ∷ cs) a = bool_case (test c) (λ t. Chain (λ (a b : ℕ). (a == b) ≡ false) (numbers_of (if t then c ∷ filter test cs else filter test cs)))
    (λ e. (λ y n. a.0 y (filtered_mem test cs y n), filtered_apart test cs a.1)) (λ e. filtered_apart test cs a.1)

-- A manager in the ledger

raised : (n k m : ℕ) (l : Ledger) → n ≤ k → AreCountedAt n m l → AreCountedAt k m l
raised n k m l le h = record { users = h.users; used = h.used; counted = higher n k (numbers_of h.users.connections) le h.counted }

same_users : (n m : ℕ) (l k : Ledger) → k.users ≡ l.users → AreCountedAt n m l → AreCountedAt n m k
same_users n m l k e h = record { users = h.users; used = ap (λ (us : List Users). slice_get us m) e ∙ h.used; counted = h.counted }

with_users : (n m : ℕ) (f : Users → Users) (l : Ledger) (h : AreCountedAt n m l) (k : ℕ) → AreCounted k (numbers_of (f h.users).connections) → AreCountedAt k m (ledgers.with_users m f l)
with_users n m f l h k c = record { users = f h.users; used = here_changed m f l.users h.users h.used; counted = c }

on_one : (n m : ℕ) (hc : Hconn) (f : Connection → Connection) (l : Ledger) → ((c : Connection) → (f c).number ≡ c.number) → AreCountedAt n m l → AreCountedAt n m (ledgers.on_connection m hc f l)
on_one n m hc f l same h = with_users n m (λ u. record u { connections = change_connection hc.number f u.connections }) l h n (subst (AreCounted n) (sym (same_numbers hc.number f h.users.connections same)) h.counted)

-- What posts change beside connections

take_if_users : (t : Bool) (m : ℕ) (i : Ident) (l : Ledger) → (ledgers.take_if t m i l).users ≡ l.users
take_if_users true m i l = refl
take_if_users false m i l = refl

take_users : (m : ℕ) (i : Ident) (l : Ledger) → (ledgers.take m i l).users ≡ l.users
take_users m i l = take_if_users (ledgers.is_placed_at i (ledgers.places_at m l)) m i l

got_users : (m : ℕ) (i : Ident) (l : Ledger) → (ledgers.take_got m i l).users ≡ l.users
got_users m i l = take_users m i (record l { got = i ∷ l.got })

taken_users : (m : ℕ) (items : List Item) (l : Ledger) → (ledgers.take_items m items l).users ≡ l.users
taken_users m [] l = refl
taken_users m (Put q x ∷ items) l = taken_users m items l
taken_users m (Take q i lasting ∷ items) l = taken_users m items (ledgers.take_got m i l) ∙ got_users m i l

placed_users : (m : ℕ) (items : List Item) (l : Ledger) → (ledgers.place_items m items l).users ≡ l.users
placed_users m [] l = refl
placed_users m (Put q x ∷ items) l = placed_users m items (ledgers.place m q x l)
placed_users m (Take q i lasting ∷ items) l = placed_users m items l

when_users : (t : Bool) (f : Ledger → Ledger) (l : Ledger) → (f l).users ≡ l.users → (ledgers.when t f l).users ≡ l.users
when_users true f l e = e
when_users false f l e = refl

moved_users : (m : ℕ) (x : Message) (r : Result Route Reason) (l : Ledger) → (ledgers.moved_to m x r l).users ≡ l.users
moved_users m x (Err reason) l = refl
moved_users m x (Ok route) l = refl

row_users : (m : ℕ) (to : Dest) (bare : Bool) (o : Option Row) (l : Ledger) → (ledgers.move_row m to bare o l).users ≡ l.users
row_users m to bare None l = refl
row_users m to bare (Some row) l = moved_users m (bare_if bare row.message) (ledgers.resolved_at m to.queue to.qmgr l) l

move_users : (m : ℕ) (d : Did) (l : Ledger) → (ledgers.move m d l).users ≡ l.users
move_users m (did.Moved from i q to bare) l = row_users m to bare (ledgers.row_in i (ledgers.places_at m l).queues) l
move_users m d l = refl

all_moved_users : (m : ℕ) (ds : List Did) (l : Ledger) → (ledgers.move_all m ds l).users ≡ l.users
all_moved_users m [] l = refl
all_moved_users m (d ∷ ds) l = all_moved_users m ds (ledgers.move m d l) ∙ move_users m d l

routed_users : (m : ℕ) (x : Message) (r : Result Route Reason) (l : Ledger) → (ledgers.place_routed m x r l).users ≡ l.users
routed_users m x (Err reason) l = refl
routed_users m x (Ok route) l = refl

received_users : (m : ℕ) (channel : List ℕ) (x : Message) (o : Option Reason) (l : Ledger) → (ledgers.place_received m channel x o l).users ≡ l.users
received_users m channel x None l = routed_users m x (ledgers.resolved_at m (names_of x.route).queue (names_of x.route).qmgr l) l
received_users m channel x (Some reason) l = refl

list_users : (m : ℕ) (channel : List ℕ) (ds : List Did) (first : Ledger) (ms : List Message) (l : Ledger) → (ledgers.place_list m channel ds first ms l).users ≡ l.users
list_users m channel ds first [] l = refl
list_users m channel ds first (x ∷ ms) l =
    let own = ledgers.own_row first x in let dead = ledgers.dead_reason x.ident ds in
    list_users m channel ds first ms (ledgers.when (ledgers.is_admitted first x) (ledgers.place_received m channel own dead) l)
    ∙ when_users (ledgers.is_admitted first x) (ledgers.place_received m channel own dead) l (received_users m channel own dead l)

receive_users : (m : ℕ) (o : Option (List ℕ)) (ms : List Message) (ds : List Did) (l : Ledger) → (ledgers.receive_if m o ms ds l).users ≡ l.users
receive_users m None ms ds l = refl
receive_users m (Some channel) ms ds l = list_users m channel ds l ms (ledgers.take_everywhere (ledgers.idents_of ms) l)

trigger_by_users : (m : ℕ) (i : Ident) (q : LocalQueue) (o : Option Process) (to : Option LocalQueue) (l : Ledger) → (ledgers.trigger_by m i q o to l).users ≡ l.users
trigger_by_users m i q None to l = refl
trigger_by_users m i q (Some process) None l = refl
trigger_by_users m i q (Some process) (Some to) l = refl

trigger_for_users : (m : ℕ) (o : Option Ident) (q : Option LocalQueue) (l : Ledger) → (ledgers.trigger_for m o q l).users ≡ l.users
trigger_for_users m None q l = refl
trigger_for_users m (Some i) None l = refl
trigger_for_users m (Some i) (Some q) l = trigger_by_users m i q (process_of q.process (ledgers.places_at m l).definitions) (local_of q.initiation_queue (ledgers.places_at m l).definitions) l

trigger_users : (m : ℕ) (reply : Reply) (ds : List Did) (l : Ledger) → (ledgers.trigger m reply ds l).users ≡ l.users
trigger_users m (replies.Triggered queue) ds l = trigger_for_users m (ledgers.first_placed ds) (local_of queue (ledgers.places_at m l).definitions) l
trigger_users m reply ds l = refl

obey_users : (m : ℕ) (c : Command) (l : Ledger) → (ledgers.obey m c l).users ≡ l.users
obey_users m (commands.Objects c) l = refl
obey_users m (commands.Operate op) l = refl
obey_users m (commands.ShowStatus name any_end) l = refl

-- Posts on connections

when_kept : (n m : ℕ) (t : Bool) (f : Ledger → Ledger) (l : Ledger) → AreCountedAt n m l → AreCountedAt n m (f l) → AreCountedAt n m (ledgers.when t f l)
when_kept n m true f l h k = k
when_kept n m false f l h k = h

commit_kept : (n m : ℕ) (hc : Hconn) (l : Ledger) → AreCountedAt n m l → AreCountedAt n m (ledgers.commit m hc l)
commit_kept n m hc l h =
    let items : List Item = ledgers.unit_of (ledgers.connection_of m hc l) in
    let k : Ledger = ledgers.place_items m items (ledgers.take_items m items l) in
    on_one n m hc (λ c. record c { unit = [] }) k (λ c. refl) (same_users n m l k (placed_users m items (ledgers.take_items m items l) ∙ taken_users m items l) h)

disconnect_kept : (n m : ℕ) (hc : Hconn) (l : Ledger) → AreCountedAt n m l → AreCountedAt n m (ledgers.disconnect m hc l)
disconnect_kept n m hc l h = with_users n m (λ u. record u { connections = filter (λ (c : Connection). not (c.number == hc.number)) u.connections }) l h n (record {
  apart = filtered_apart (λ (c : Connection). not (c.number == hc.number)) h.users.connections h.counted.apart;
  upto = λ k i. h.counted.upto k (filtered_mem (λ (c : Connection). not (c.number == hc.number)) h.users.connections k i);
})

connect_kept : (n k m : ℕ) (qmgr : List ℕ) (appl : Appl) (reply : Reply) (l : Ledger) → IsNext (calls.Mqconn qmgr appl) reply n k → AreCountedAt n m l → AreCountedAt k m (ledgers.connect_if m appl reply l)
connect_kept n k m qmgr appl (replies.Connected (answers.Ok hc)) l e h =
    with_users n m (λ u. record u { connections = u.connections ++ record { number = hc.number; appl = appl; handles = []; last_handle = 0; unit = [] } ∷ [] }) l h k
    (subst (AreCounted k) (sym (numbers_pushed h.users.connections (record { number = hc.number; appl = appl; handles = []; last_handle = 0; unit = [] }))) (push hc.number n k (numbers_of h.users.connections) e.0 e.1 h.counted))
connect_kept n k m qmgr appl (replies.Connected (answers.Warning reason hc)) l e h = raised n k m l e h
connect_kept n k m qmgr appl (replies.Connected (answers.Failed reason)) l e h = raised n k m l e h
connect_kept n k m qmgr appl (replies.Opened x) l e h = raised n k m l e h
connect_kept n k m qmgr appl (replies.Ended x) l e h = raised n k m l e h
connect_kept n k m qmgr appl (replies.Put x) l e h = raised n k m l e h
connect_kept n k m qmgr appl (replies.Got x) l e h = raised n k m l e h
connect_kept n k m qmgr appl (replies.Acted x) l e h = raised n k m l e h
connect_kept n k m qmgr appl replies.Changed l e h = raised n k m l e h
connect_kept n k m qmgr appl replies.Tried l e h = raised n k m l e h
connect_kept n k m qmgr appl (replies.Triggered q) l e h = raised n k m l e h
connect_kept n k m qmgr appl (replies.Stopped by_) l e h = raised n k m l e h

open_kept : (n m : ℕ) (hc : Hconn) (how : Open) (ho : Hobj) (r : Result Route Reason) (l : Ledger) → AreCountedAt n m l → AreCountedAt n m (ledgers.open_to m hc how ho r l)
open_kept n m hc how ho (Err reason) l h = h
open_kept n m hc how ho (Ok route) l h = on_one n m hc (ledgers.opened_by how ho route) l (λ c. refl) h

open_if_kept : (n m : ℕ) (hc : Hconn) (name qmgr : List ℕ) (how : Open) (reply : Reply) (l : Ledger) → AreCountedAt n m l → AreCountedAt n m (ledgers.open_if m hc name qmgr how reply l)
open_if_kept n m hc name qmgr how (replies.Opened (answers.Ok ho)) l h = open_kept n m hc how ho (ledgers.resolved_at m name qmgr l) l h
open_if_kept n m hc name qmgr how reply l h = h

close_if_kept : (n m : ℕ) (hc : Hconn) (ho : Hobj) (reply : Reply) (l : Ledger) → AreCountedAt n m l → AreCountedAt n m (ledgers.close_if m hc ho reply l)
close_if_kept n m hc ho (replies.Ended (answers.Ok value)) l h = on_one n m hc (ledgers.close ho) l (λ c. refl) h
close_if_kept n m hc ho reply l h = h

put_row_kept : (n m : ℕ) (sync : Bool) (hc : Hconn) (q : List ℕ) (x : Message) (l : Ledger) → AreCountedAt n m l → AreCountedAt n m (ledgers.put_row sync m hc q x l)
put_row_kept n m true hc q x l h = on_one n m hc (λ c. record c { unit = c.unit ++ Put q x ∷ [] }) l (λ c. refl) h
put_row_kept n m false hc q x l h = same_users n m l (ledgers.place m q x l) refl h

put_by_kept : (n m : ℕ) (sync : Bool) (hc : Hconn) (c : Connection) (route : Route) (i : Ident) (md : Md) (body : List ℕ) (l : Ledger) → AreCountedAt n m l → AreCountedAt n m (ledgers.put_by sync m hc c route i md body l)
put_by_kept n m sync hc c route i md body l h = put_row_kept n m sync hc _ _ l h

put_kept : (n m : ℕ) (sync : Bool) (hc : Hconn) (ho : Hobj) (c : Option Connection) (i : Option Ident) (md : Md) (body : List ℕ) (l : Ledger) → AreCountedAt n m l → AreCountedAt n m (ledgers.put sync m hc ho c i md body l)
put_kept n m sync hc ho None i md body l h = h
put_kept n m sync hc ho (Some c) None md body l h = h
put_kept n m sync hc ho (Some c) (Some i) md body l h = through (handle_at ho.number c.handles)
  where
    through : (o : Option Handle) → AreCountedAt n m (ledgers.put_through sync m hc c o i md body l)
    through None = h
    through (Some x) = put_by_kept n m sync hc c (handle_route x) i md body l h

put1_kept : (n m : ℕ) (sync : Bool) (hc : Hconn) (name qmgr : List ℕ) (c : Option Connection) (i : Option Ident) (md : Md) (body : List ℕ) (l : Ledger) → AreCountedAt n m l → AreCountedAt n m (ledgers.put1 sync m hc name qmgr c i md body l)
put1_kept n m sync hc name qmgr None i md body l h = h
put1_kept n m sync hc name qmgr (Some c) None md body l h = h
put1_kept n m sync hc name qmgr (Some c) (Some i) md body l h = by_route (ledgers.resolved_at m name qmgr l)
  where
    by_route : (r : Result Route Reason) → AreCountedAt n m (ledgers.put1_by sync m hc c r i md body l)
    by_route (Err reason) = h
    by_route (Ok route) = put_by_kept n m sync hc c route i md body l h

get_row_kept : (n m : ℕ) (sync : Bool) (hc : Hconn) (i : Ident) (l : Ledger) → AreCountedAt n m l → AreCountedAt n m (ledgers.get_row sync m hc i l)
get_row_kept n m true hc i l h = on_one n m hc (λ c. record c { unit = c.unit ++ Take [] i false ∷ [] }) l (λ c. refl) h
get_row_kept n m false hc i l h = same_users n m l (ledgers.take_got m i l) (got_users m i l) h

get_kept : (n m : ℕ) (get : Get) (hc : Hconn) (i : Option Ident) (l : Ledger) → AreCountedAt n m l → AreCountedAt n m (ledgers.get_by get m hc i l)
get_kept n m get hc None l h = h
get_kept n m get hc (Some i) l h = bool_case (is_destructive get.take) (λ t. AreCountedAt n m (if t then ledgers.get_row get.sync m hc i l else l)) (λ e. get_row_kept n m get.sync hc i l h) (λ e. h)

pub stopped : (n k m : ℕ) (l : Ledger) → AreCountedAt n m l → AreCountedAt k m (ledgers.stop m l)
stopped n k m l h =
    let w = with_users n m (λ u. record u { connections = [] }) l h k (none k) in
    same_users k m (ledgers.with_users m (λ u. record u { connections = [] }) l) (ledgers.stop m l) refl w

stop_if_kept : (n m : ℕ) (reply : Reply) (l : Ledger) → AreCountedAt n m l → AreCountedAt n m (ledgers.stop_if reply m l)
stop_if_kept n m (replies.Acted acted.Done) l h = stopped n n m l h
stop_if_kept n m reply l h = h

-- ALL POSTS
post_kept : (n k m : ℕ) (call : Call) (reply : Reply) (ms : List Message) (ds : List Did) (l : Ledger) → IsNext call reply n k → AreCountedAt n m l → AreCountedAt k m (ledgers.post_call m call reply ms ds l)
post_kept n k m (calls.Mqconn qmgr appl) reply ms ds l e h = connect_kept n k m qmgr appl reply l e h
post_kept n k m (calls.Mqdisc hc) reply ms ds l e h = raised n k m _ e (when_kept n m (ledgers.is_ended reply) (λ x. ledgers.disconnect m hc (ledgers.commit m hc x)) l h (disconnect_kept n m hc (ledgers.commit m hc l) (commit_kept n m hc l h)))
post_kept n k m (calls.Mqopen hc name qmgr how) reply ms ds l e h = raised n k m _ e (open_if_kept n m hc name qmgr how reply l h)
post_kept n k m (calls.Mqclose hc ho) reply ms ds l e h = raised n k m _ e (close_if_kept n m hc ho reply l h)
post_kept n k m (calls.Mqput hc ho md body sync) reply ms ds l e h = raised n k m _ e (put_kept n m sync hc ho (ledgers.connection_of m hc l) (ledgers.sent_ident reply ds) md body l h)
post_kept n k m (calls.Mqput1 hc name qmgr md body sync) reply ms ds l e h = raised n k m _ e (put1_kept n m sync hc name qmgr (ledgers.connection_of m hc l) (ledgers.sent_ident reply ds) md body l h)
post_kept n k m (calls.Mqget hc ho get until) reply ms ds l e h = raised n k m _ e (get_kept n m get hc (ledgers.got_ident reply ds) l h)
post_kept n k m (calls.Mqcmit hc) reply ms ds l e h = raised n k m _ e (when_kept n m (ledgers.is_ended reply) (ledgers.commit m hc) l h (commit_kept n m hc l h))
post_kept n k m (calls.Mqback hc) reply ms ds l e h = raised n k m _ e (when_kept n m (ledgers.is_ended reply) (ledgers.back_out m hc) l h (on_one n m hc (λ c. record c { unit = [] }) l (λ c. refl) h))
post_kept n k m (calls.Act (acts.Obey c)) reply ms ds l e h = raised n k m _ e (when_kept n m (ledgers.is_obeyed reply) (ledgers.obey m c) l h (same_users n m l (ledgers.obey m c l) (obey_users m c l) h))
post_kept n k m (calls.Act acts.Crash) reply ms ds l e h = raised n k m _ e (stop_if_kept n m reply l h)
post_kept n k m (calls.Act acts.Restart) reply ms ds l e h = raised n k m l e h
post_kept n k m (calls.Act (acts.Cut x)) reply ms ds l e h = raised n k m l e h
post_kept n k m (calls.Act (acts.Clock by_)) reply ms ds l e h = with_users n m _ l h k (higher n k (numbers_of h.users.connections) e h.counted)
post_kept n k m calls.Turn reply ms ds l e h = raised n k m _ e (same_users n m l (ledgers.receive_if m (ledgers.received_on ds) ms ds (ledgers.move_all m ds l)) (receive_users m (ledgers.received_on ds) ms ds (ledgers.move_all m ds l) ∙ all_moved_users m ds l) h)
post_kept n k m calls.Timeout reply ms ds l e h = raised n k m l e h
post_kept n k m calls.Trigger reply ms ds l e h = raised n k m _ e (same_users n m l (ledgers.trigger m reply ds l) (trigger_users m reply ds l) h)

pub calls_kept : (n k m : ℕ) (call : Call) (reply : Reply) (ms : List Message) (ds : List Did) (l : Ledger) → IsNext call reply n k → AreCountedAt n m l → AreCountedAt k m (ledgers.post_call m call reply ms ds (ledgers.take_all_gone m ds l))
calls_kept n k m call reply ms ds l e h = post_kept n k m call reply ms ds (ledgers.take_all_gone m ds l) e (same_users n m l (ledgers.take_all_gone m ds l) (gone_users m ds l) h)

-- a write that is stopped
pub cut_kept : (n k m : ℕ) (e : Entry) (l : Ledger) → n ≤ k → AreCountedAt n m l → AreCountedAt k m (ledgers.cut m e l)
cut_kept n k m e l le h =
    let gone : Ledger = ledgers.take_all_gone m e.effect.delta l in
    let g = same_users n m l gone (gone_users m e.effect.delta l) h in
    let f : Users → Users = λ u. record u { cut = Some (record { entry = e; moment = u.moment }) } in
    same_users k m (ledgers.with_users m f gone) (ledgers.cut m e l) refl (with_users n m f gone g k (higher n k (numbers_of g.users.connections) le g.counted))

-- What the manager has is what the ledger tells

told_numbers : (cs : List Connection) → numbers_of (connections_told cs) ≡ numbers_of cs
told_numbers [] = refl
told_numbers (c ∷ cs) = ap (λ (ns : List ℕ). c.number ∷ ns) (told_numbers cs)

from_numbers : (cs : List Connection) → Chain (λ (a b : ℕ). (a == b) ≡ false) (numbers_of cs) → AreNumbered cs
from_numbers [] a = tt
from_numbers (c ∷ cs) a = (λ y n. a.0 y.number (mem_map (λ (x : Connection). x.number) y cs n), from_numbers cs a.1)

pub numbered : (n m : ℕ) (p : Plain) (l : Ledger) → IsTold m p l → AreCountedAt n m l → AreNumbered p.connections
numbered n m p l t h =
    let same : h.users ≡ t.users = some_is h.users t.users (sym h.used ∙ t.used) in
    from_numbers p.connections (subst (λ ns. Chain (λ (a b : ℕ). (a == b) ≡ false) ns) (ap (λ (u : Users). numbers_of u.connections) same ∙ ap numbers_of t.connections ∙ told_numbers p.connections) h.counted.apart)
  where
    some_is : (x y : Users) → Some x ≡ Some y → x ≡ y
    some_is x y e = cc
