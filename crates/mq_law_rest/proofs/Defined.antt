-- In a ledger definitions change by accepted commands alone, and so keep to values that commands give.
use Rattle.std.proofs.Common.{ℕ, zero, suc, ◌≡◌, Bool, true, false, List, [], ◌∷◌, map, refl, ap, sym, subst, ◌∙◌, inl, inr}
use Rattle.std.specs.Prelude.{if◌then◌else◌, Option, Some, None, Result, Ok, Err, slice_get}
use Rattle.mq_base.specs.Members.{Mem}
use Rattle.mq_codes.specs.declared.reason.Reason.{Reason}
use Rattle.mq_message.specs.declared.message.Dest.{Dest}
use Rattle.mq_message.specs.declared.message.Ident.{Ident}
use Rattle.mq_message.specs.declared.message.Md.{Md}
use Rattle.mq_message.specs.declared.message.Message.{Message}
use Rattle.mq_queue.specs.declared.row.Row.{Row}
use Rattle.mq_objects.specs.declared.object.Definitions.{Definitions}
use Rattle.mq_objects.specs.declared.object.LocalQueue.{LocalQueue}
use Rattle.mq_objects.specs.declared.object.Process.{Process}
use Rattle.mq_objects.specs.declared.command.Command.{Command as ObjectCommand}
use Rattle.mq_resolve.specs.declared.route.Route.{Route}
use Rattle.mq_sc_apply.specs.Commands.{after as planned_after, plan}
use Rattle.mq_sc_apply.specs.Uses.{nothing_used}
use Rattle.mq_sc_apply.specs.declared.answers.Plan.{Plan}
use Rattle.mq_sc_apply.specs.declared.answers.Plan.TheVariants as plans
use Rattle.mq_sc_parse.specs.declared.command.Command.{Command}
use Rattle.mq_sc_parse.specs.declared.command.Command.TheVariants as commands
use Rattle.mq_calls.specs.declared.commands.ScRefusal.{ScRefusal}
use Rattle.mq_calls.specs.declared.answers.Answer.TheVariants as answers
use Rattle.mq_calls.specs.declared.answers.Appl.{Appl}
use Rattle.mq_calls.specs.declared.answers.Get.{Get}
use Rattle.mq_calls.specs.declared.answers.Hconn.{Hconn}
use Rattle.mq_calls.specs.declared.answers.Hobj.{Hobj}
use Rattle.mq_calls.specs.declared.answers.Open.{Open}
use Rattle.mq_calls.specs.declared.choices.Return.TheVariants.{Comes, Fails}
use Rattle.mq_calls.specs.declared.deltas.Did.{Did}
use Rattle.mq_calls.specs.declared.deltas.Did.TheVariants as did
use Rattle.mq_calls.specs.declared.state.Connection.{Connection}
use Rattle.mq_calls.specs.declared.state.Handle.{Handle}
use Rattle.mq_calls.specs.declared.state.Item.{Item}
use Rattle.mq_calls.specs.declared.state.Item.TheVariants.{Put, Take}
use Rattle.mq_spec_manager.specs.Commands.{definitions_after}
use Rattle.mq_spec_manager.specs.Get.{is_destructive}
use Rattle.mq_spec_manager.specs.Moves.{bare_if}
use Rattle.mq_history.specs.declared.acts.Act.TheVariants as acts
use Rattle.mq_history.specs.declared.acts.Acted.TheVariants as acted
use Rattle.mq_history.specs.declared.calls.Call.{Call}
use Rattle.mq_history.specs.declared.calls.Call.TheVariants as calls
use Rattle.mq_history.specs.declared.calls.Chance.{Chance}
use Rattle.mq_history.specs.declared.calls.Chance.TheVariants as chances
use Rattle.mq_history.specs.declared.calls.Entry.{Entry}
use Rattle.mq_history.specs.declared.calls.Reply.{Reply}
use Rattle.mq_history.specs.declared.calls.Reply.TheVariants as replies
use Rattle.mq_history.specs.declared.story.ManagerPlaces.{ManagerPlaces}
use Rattle.mq_spec_network.specs.Ledger as ledgers
use Rattle.mq_spec_network.specs.Ledger.{Ledger, Stopped, Users, change_at, with_places, with_users}
use Rattle.mq_spec_network.specs.Story.{Line}
use Rattle.mq_law_image.specs.Values.{AreObjectTexts, IsCommandText}
use Rattle.mq_law_image.proofs.Valued.{changed_text, command_text}
use Rattle.mq_law_rest.specs.Values.{AllCutTexts, AllTexts, IsCutText, IsTextCall, IsTextOf, IsTextual, LeavesTexts}

-- WHAT CHANGES NO DEFINITIONS
leaves_self : (l : Ledger) → LeavesTexts l l
leaves_self l = record { texts = refl; cuts = refl }

leaves_then : (a b c : Ledger) → LeavesTexts a b → LeavesTexts b c → LeavesTexts a c
leaves_then a b c x y = record { texts = y.texts ∙ x.texts; cuts = y.cuts ∙ x.cuts }

same_at : {A B : Type 0} (key : A → B) (m : ℕ) (f : A → A) (xs : List A) → ((x : A) → key (f x) ≡ key x) → map key (change_at m f xs) ≡ map key xs
same_at key m f [] h = refl
same_at key zero f (x ∷ xs) h = ap (λ ys. ys ∷ map key xs) (h x)
same_at key (suc m) f (x ∷ xs) h = ap (λ ys. key x ∷ ys) (same_at key m f xs h)

places_leave : (m : ℕ) (f : ManagerPlaces → ManagerPlaces) (l : Ledger) → ((p : ManagerPlaces) → (f p).definitions ≡ p.definitions) → LeavesTexts l (with_places m f l)
places_leave m f l h = record { texts = same_at (λ (p : ManagerPlaces). p.definitions) m f l.places h; cuts = refl }

users_leave : (m : ℕ) (f : Users → Users) (l : Ledger) → ((u : Users) → (f u).cut ≡ u.cut) → LeavesTexts l (with_users m f l)
users_leave m f l h = record { texts = refl; cuts = same_at (λ (u : Users). u.cut) m f l.users h }

place_leaves : (m : ℕ) (name : List ℕ) (message : Message) (l : Ledger) → LeavesTexts l (ledgers.place m name message l)
place_leaves m name message l = places_leave m (ledgers.place_at name message) l (λ p. refl)

take_from_leaves : (m : ℕ) (i : Ident) (l : Ledger) → LeavesTexts l (ledgers.take_from m i l)
take_from_leaves m i l = places_leave m _ l (λ p. refl)

take_if_leaves : (b : Bool) (m : ℕ) (i : Ident) (l : Ledger) → LeavesTexts l (ledgers.take_if b m i l)
take_if_leaves true m i l = let r = take_from_leaves m i l in record { texts = r.texts; cuts = r.cuts }
take_if_leaves false m i l = leaves_self l

take_leaves : (m : ℕ) (i : Ident) (l : Ledger) → LeavesTexts l (ledgers.take m i l)
take_leaves m i l = take_if_leaves (ledgers.is_placed_at i (ledgers.places_at m l)) m i l

take_got_leaves : (m : ℕ) (i : Ident) (l : Ledger) → LeavesTexts l (ledgers.take_got m i l)
take_got_leaves m i l = let r = take_leaves m i (record l { got = i ∷ l.got }) in record { texts = r.texts; cuts = r.cuts }

lose_leaves : (m : ℕ) (l : Ledger) → LeavesTexts l (ledgers.lose m l)
lose_leaves m l = places_leave m _ l (λ p. refl)

on_leaves : (m : ℕ) (hc : Hconn) (f : Connection → Connection) (l : Ledger) → LeavesTexts l (ledgers.on_connection m hc f l)
on_leaves m hc f l = users_leave m _ l (λ u. refl)

when_leaves : (b : Bool) (f : Ledger → Ledger) (l : Ledger) → LeavesTexts l (f l) → LeavesTexts l (ledgers.when b f l)
when_leaves true f l h = h
when_leaves false f l h = leaves_self l

open_leaves : (m : ℕ) (hc : Hconn) (how : Open) (ho : Hobj) (r : Result Route Reason) (l : Ledger) → LeavesTexts l (ledgers.open_to m hc how ho r l)
open_leaves m hc how ho (Err reason) l = leaves_self l
open_leaves m hc how ho (Ok route) l = on_leaves m hc (ledgers.opened_by how ho route) l

put_row_leaves : (sync : Bool) (m : ℕ) (hc : Hconn) (queue : List ℕ) (message : Message) (l : Ledger) → LeavesTexts l (ledgers.put_row sync m hc queue message l)
put_row_leaves true m hc queue message l = on_leaves m hc _ l
put_row_leaves false m hc queue message l = place_leaves m queue message l

through_leaves : (sync : Bool) (m : ℕ) (hc : Hconn) (c : Connection) (o : Option Handle) (i : Ident) (md : Md) (body : List ℕ) (l : Ledger) → LeavesTexts l (ledgers.put_through sync m hc c o i md body l)
through_leaves sync m hc c None i md body l = leaves_self l
through_leaves sync m hc c (Some h) i md body l = put_row_leaves sync m hc _ _ l

put_leaves : (sync : Bool) (m : ℕ) (hc : Hconn) (ho : Hobj) (o : Option Connection) (i : Option Ident) (md : Md) (body : List ℕ) (l : Ledger) → LeavesTexts l (ledgers.put sync m hc ho o i md body l)
put_leaves sync m hc ho None i md body l = leaves_self l
put_leaves sync m hc ho (Some c) None md body l = leaves_self l
put_leaves sync m hc ho (Some c) (Some i) md body l = through_leaves sync m hc c _ i md body l

put1_by_leaves : (sync : Bool) (m : ℕ) (hc : Hconn) (c : Connection) (r : Result Route Reason) (i : Ident) (md : Md) (body : List ℕ) (l : Ledger) → LeavesTexts l (ledgers.put1_by sync m hc c r i md body l)
put1_by_leaves sync m hc c (Err reason) i md body l = leaves_self l
put1_by_leaves sync m hc c (Ok route) i md body l = put_row_leaves sync m hc _ _ l

put1_leaves : (sync : Bool) (m : ℕ) (hc : Hconn) (name qmgr : List ℕ) (o : Option Connection) (i : Option Ident) (md : Md) (body : List ℕ) (l : Ledger) → LeavesTexts l (ledgers.put1 sync m hc name qmgr o i md body l)
put1_leaves sync m hc name qmgr None i md body l = leaves_self l
put1_leaves sync m hc name qmgr (Some c) None md body l = leaves_self l
put1_leaves sync m hc name qmgr (Some c) (Some i) md body l = put1_by_leaves sync m hc c _ i md body l

get_row_leaves : (sync : Bool) (m : ℕ) (hc : Hconn) (i : Ident) (l : Ledger) → LeavesTexts l (ledgers.get_row sync m hc i l)
get_row_leaves true m hc i l = on_leaves m hc _ l
get_row_leaves false m hc i l = take_got_leaves m i l

get_leaves : (get : Get) (m : ℕ) (hc : Hconn) (o : Option Ident) (l : Ledger) → LeavesTexts l (ledgers.get_by get m hc o l)
get_leaves get m hc None l = leaves_self l
get_leaves get m hc (Some i) l = either (is_destructive get.take)
  where
    either : (b : Bool) → LeavesTexts l (if b then ledgers.get_row get.sync m hc i l else l)
    either true = get_row_leaves get.sync m hc i l
    either false = leaves_self l

take_items_leave : (m : ℕ) (items : List Item) (l : Ledger) → LeavesTexts l (ledgers.take_items m items l)
take_items_leave m [] l = leaves_self l
take_items_leave m (Put queue message ∷ items) l = take_items_leave m items l
take_items_leave m (Take queue i persistent ∷ items) l = leaves_then l (ledgers.take_got m i l) (ledgers.take_items m items (ledgers.take_got m i l)) (take_got_leaves m i l) (take_items_leave m items (ledgers.take_got m i l))

place_items_leave : (m : ℕ) (items : List Item) (l : Ledger) → LeavesTexts l (ledgers.place_items m items l)
place_items_leave m [] l = leaves_self l
place_items_leave m (Put queue message ∷ items) l = leaves_then l (ledgers.place m queue message l) (ledgers.place_items m items (ledgers.place m queue message l)) (place_leaves m queue message l) (place_items_leave m items (ledgers.place m queue message l))
place_items_leave m (Take queue i persistent ∷ items) l = place_items_leave m items l

back_leaves : (m : ℕ) (hc : Hconn) (l : Ledger) → LeavesTexts l (ledgers.back_out m hc l)
back_leaves m hc l = on_leaves m hc _ l

commit_leaves : (m : ℕ) (hc : Hconn) (l : Ledger) → LeavesTexts l (ledgers.commit m hc l)
commit_leaves m hc l =
    let items : List Item = ledgers.unit_of (ledgers.connection_of m hc l) in
    let a : Ledger = ledgers.take_items m items l in
    let b : Ledger = ledgers.place_items m items a in
    leaves_then l b (ledgers.back_out m hc b) (leaves_then l a b (take_items_leave m items l) (place_items_leave m items a)) (back_leaves m hc b)

disconnect_leaves : (m : ℕ) (hc : Hconn) (l : Ledger) → LeavesTexts l (ledgers.disconnect m hc l)
disconnect_leaves m hc l = users_leave m _ l (λ u. refl)

gone_leaves : (m : ℕ) (d : Did) (l : Ledger) → LeavesTexts l (ledgers.take_gone m d l)
gone_leaves m (did.Removed queue i why) l = when_leaves (ledgers.is_taken why) (ledgers.take m i) l (take_leaves m i l)
gone_leaves m d l = leaves_self l

all_gone_leave : (m : ℕ) (ds : List Did) (l : Ledger) → LeavesTexts l (ledgers.take_all_gone m ds l)
all_gone_leave m [] l = leaves_self l
all_gone_leave m (d ∷ ds) l = leaves_then l (ledgers.take_gone m d l) (ledgers.take_all_gone m ds (ledgers.take_gone m d l)) (gone_leaves m d l) (all_gone_leave m ds (ledgers.take_gone m d l))

moved_leaves : (m : ℕ) (message : Message) (r : Result Route Reason) (l : Ledger) → LeavesTexts l (ledgers.moved_to m message r l)
moved_leaves m message (Err reason) l = leaves_self l
moved_leaves m message (Ok route) l = let k : Ledger = ledgers.take_from m message.ident l in leaves_then l k _ (take_from_leaves m message.ident l) (place_leaves m _ _ k)

move_row_leaves : (m : ℕ) (to : Dest) (bare : Bool) (o : Option Row) (l : Ledger) → LeavesTexts l (ledgers.move_row m to bare o l)
move_row_leaves m to bare None l = leaves_self l
move_row_leaves m to bare (Some row) l = moved_leaves m (bare_if bare row.message) _ l

move_leaves : (m : ℕ) (d : Did) (l : Ledger) → LeavesTexts l (ledgers.move m d l)
move_leaves m (did.Moved from i queue to bare) l = move_row_leaves m to bare _ l
move_leaves m d l = leaves_self l

move_all_leave : (m : ℕ) (ds : List Did) (l : Ledger) → LeavesTexts l (ledgers.move_all m ds l)
move_all_leave m [] l = leaves_self l
move_all_leave m (d ∷ ds) l = leaves_then l (ledgers.move m d l) (ledgers.move_all m ds (ledgers.move m d l)) (move_leaves m d l) (move_all_leave m ds (ledgers.move m d l))

same_map : (f : ManagerPlaces → ManagerPlaces) (ps : List ManagerPlaces) → ((p : ManagerPlaces) → (f p).definitions ≡ p.definitions) → map (λ (p : ManagerPlaces). p.definitions) (map f ps) ≡ map (λ (p : ManagerPlaces). p.definitions) ps
same_map f [] h = refl
same_map f (p ∷ ps) h = (λ i. h p i ∷ same_map f ps h i)

everywhere_leaves : (is : List Ident) (l : Ledger) → LeavesTexts l (ledgers.take_everywhere is l)
everywhere_leaves is l = record { texts = same_map _ l.places (λ p. refl); cuts = refl }

routed_leaves : (m : ℕ) (message : Message) (r : Result Route Reason) (l : Ledger) → LeavesTexts l (ledgers.place_routed m message r l)
routed_leaves m message (Err reason) l = leaves_self l
routed_leaves m message (Ok route) l = place_leaves m _ _ l

received_leaves : (m : ℕ) (channel : List ℕ) (message : Message) (o : Option Reason) (l : Ledger) → LeavesTexts l (ledgers.place_received m channel message o l)
received_leaves m channel message None l = routed_leaves m message _ l
received_leaves m channel message (Some reason) l = place_leaves m _ _ l

list_leaves : (m : ℕ) (channel : List ℕ) (ds : List Did) (before : Ledger) (ms : List Message) (l : Ledger) → LeavesTexts l (ledgers.place_list m channel ds before ms l)
list_leaves m channel ds before [] l = leaves_self l
list_leaves m channel ds before (message ∷ ms) l =
    let f : Ledger → Ledger = ledgers.place_received m channel (ledgers.own_row before message) (ledgers.dead_reason message.ident ds) in
    let k : Ledger = ledgers.when (ledgers.is_admitted before message) f l in
    leaves_then l k (ledgers.place_list m channel ds before ms k) (when_leaves (ledgers.is_admitted before message) f l (received_leaves m channel (ledgers.own_row before message) (ledgers.dead_reason message.ident ds) l)) (list_leaves m channel ds before ms k)

receive_leaves : (m : ℕ) (o : Option (List ℕ)) (ms : List Message) (ds : List Did) (l : Ledger) → LeavesTexts l (ledgers.receive_if m o ms ds l)
receive_leaves m None ms ds l = leaves_self l
receive_leaves m (Some channel) ms ds l =
    let k : Ledger = ledgers.take_everywhere (ledgers.idents_of ms) l in
    leaves_then l k (ledgers.place_list m channel ds l ms k) (everywhere_leaves (ledgers.idents_of ms) l) (list_leaves m channel ds l ms k)

trigger_by_leaves : (m : ℕ) (i : Ident) (q : LocalQueue) (o : Option Process) (to : Option LocalQueue) (l : Ledger) → LeavesTexts l (ledgers.trigger_by m i q o to l)
trigger_by_leaves m i q None to l = leaves_self l
trigger_by_leaves m i q (Some process) None l = leaves_self l
trigger_by_leaves m i q (Some process) (Some to) l = place_leaves m _ _ l

trigger_for_leaves : (m : ℕ) (o : Option Ident) (q : Option LocalQueue) (l : Ledger) → LeavesTexts l (ledgers.trigger_for m o q l)
trigger_for_leaves m None q l = leaves_self l
trigger_for_leaves m (Some i) None l = leaves_self l
trigger_for_leaves m (Some i) (Some q) l = trigger_by_leaves m i q _ _ l

trigger_leaves : (m : ℕ) (r : Reply) (ds : List Did) (l : Ledger) → LeavesTexts l (ledgers.trigger m r ds l)
trigger_leaves m (replies.Triggered queue) ds l = trigger_for_leaves m _ _ l
trigger_leaves m r ds l = leaves_self l

stop_leaves : (m : ℕ) (l : Ledger) → LeavesTexts l (ledgers.stop m l)
stop_leaves m l = let k : Ledger = with_users m (λ u. record u { connections = [] }) l in leaves_then l k (ledgers.lose m k) (users_leave m _ l (λ u. refl)) (lose_leaves m k)

stop_if_leaves : (r : Reply) (m : ℕ) (l : Ledger) → LeavesTexts l (ledgers.stop_if r m l)
stop_if_leaves (replies.Acted acted.Done) m l = stop_leaves m l
stop_if_leaves r m l = leaves_self l

connect_leaves : (m : ℕ) (appl : Appl) (r : Reply) (l : Ledger) → LeavesTexts l (ledgers.connect_if m appl r l)
connect_leaves m appl (replies.Connected (answers.Ok hc)) l = users_leave m _ l (λ u. refl)
connect_leaves m appl r l = leaves_self l

opened_leaves : (m : ℕ) (hc : Hconn) (name qmgr : List ℕ) (how : Open) (r : Reply) (l : Ledger) → LeavesTexts l (ledgers.open_if m hc name qmgr how r l)
opened_leaves m hc name qmgr how (replies.Opened (answers.Ok ho)) l = open_leaves m hc how ho _ l
opened_leaves m hc name qmgr how r l = leaves_self l

close_leaves : (m : ℕ) (hc : Hconn) (ho : Hobj) (r : Reply) (l : Ledger) → LeavesTexts l (ledgers.close_if m hc ho r l)
close_leaves m hc ho (replies.Ended (answers.Ok value)) l = on_leaves m hc (ledgers.close ho) l
close_leaves m hc ho r l = leaves_self l

-- WHAT AN ACCEPTED COMMAND CHANGES
planned_texts : (c : ObjectCommand) (d : Definitions) (r : Result Plan ScRefusal) → plan c [] d nothing_used ≡ r → IsCommandText c → AreObjectTexts d → AreObjectTexts (planned_after r d)
planned_texts c d (Ok (plans.Change planned)) e k h = changed_text planned.change d (command_text c [] d nothing_used planned e k h) h
planned_texts c d (Ok (plans.Show shown)) e k h = h
planned_texts c d (Err refusal) e k h = h

after_texts : (c : ObjectCommand) (d : Definitions) → IsCommandText c → AreObjectTexts d → AreObjectTexts (definitions_after c d)
after_texts c d k h = planned_texts c d (plan c [] d nothing_used) refl k h

changed_at : (c : ObjectCommand) (m : ℕ) (ps : List ManagerPlaces) → IsCommandText c → AllTexts (map (λ (p : ManagerPlaces). p.definitions) ps)
    → AllTexts (map (λ (p : ManagerPlaces). p.definitions) (change_at m (λ p. record p { definitions = definitions_after c p.definitions }) ps))
changed_at c m [] k h = tt
changed_at c zero (p ∷ ps) k h = (after_texts c p.definitions k h.0, h.1)
changed_at c (suc m) (p ∷ ps) k h = (h.0, changed_at c m ps k h.1)

textual : (l k : Ledger) → LeavesTexts l k → IsTextual l → IsTextual k
textual l k s h = record { texts = subst AllTexts (sym s.texts) h.texts; cuts = subst AllCutTexts (sym s.cuts) h.cuts }

obeyed : (m : ℕ) (c : Command) (l : Ledger) → IsTextOf c → IsTextual l → IsTextual (ledgers.obey m c l)
obeyed m (commands.Objects c) l k h = record { texts = changed_at c m l.places k h.texts; cuts = h.cuts }
obeyed m (commands.Operate op) l k h = h
obeyed m (commands.ShowStatus name any_end) l k h = h

when_textual : (b : Bool) (f : Ledger → Ledger) (l : Ledger) → IsTextual (f l) → IsTextual l → IsTextual (ledgers.when b f l)
when_textual true f l h g = h
when_textual false f l h g = g

-- EACH ENTRY
called : (m : ℕ) (c : Call) (r : Reply) (ms : List Message) (ds : List Did) (l : Ledger) → IsTextCall c → IsTextual l → IsTextual (ledgers.post_call m c r ms ds l)
called m (calls.Mqconn qmgr appl) r ms ds l k h = textual l _ (connect_leaves m appl r l) h
called m (calls.Mqdisc hc) r ms ds l k h = textual l _ (when_leaves (ledgers.is_ended r) (λ x. ledgers.disconnect m hc (ledgers.commit m hc x)) l (leaves_then l (ledgers.commit m hc l) (ledgers.disconnect m hc (ledgers.commit m hc l)) (commit_leaves m hc l) (disconnect_leaves m hc (ledgers.commit m hc l)))) h
called m (calls.Mqopen hc name qmgr how) r ms ds l k h = textual l _ (opened_leaves m hc name qmgr how r l) h
called m (calls.Mqclose hc ho) r ms ds l k h = textual l _ (close_leaves m hc ho r l) h
called m (calls.Mqput hc ho md body sync) r ms ds l k h = textual l _ (put_leaves sync m hc ho _ _ md body l) h
called m (calls.Mqput1 hc name qmgr md body sync) r ms ds l k h = textual l _ (put1_leaves sync m hc name qmgr _ _ md body l) h
called m (calls.Mqget hc ho get until) r ms ds l k h = textual l _ (get_leaves get m hc _ l) h
called m (calls.Mqcmit hc) r ms ds l k h = textual l _ (when_leaves (ledgers.is_ended r) (ledgers.commit m hc) l (commit_leaves m hc l)) h
called m (calls.Mqback hc) r ms ds l k h = textual l _ (when_leaves (ledgers.is_ended r) (ledgers.back_out m hc) l (back_leaves m hc l)) h
called m (calls.Act (acts.Obey c)) r ms ds l k h = when_textual (ledgers.is_obeyed r) (ledgers.obey m c) l (obeyed m c l k h) h
called m (calls.Act acts.Crash) r ms ds l k h = textual l _ (stop_if_leaves r m l) h
called m (calls.Act acts.Restart) r ms ds l k h = h
called m (calls.Act (acts.Cut n)) r ms ds l k h = h
called m (calls.Act (acts.Clock by_)) r ms ds l k h = textual l _ (users_leave m _ l (λ u. refl)) h
called m calls.Turn r ms ds l k h = textual l _ (leaves_then l (ledgers.move_all m ds l) _ (move_all_leave m ds l) (receive_leaves m (ledgers.received_on ds) ms ds (ledgers.move_all m ds l))) h
called m calls.Timeout r ms ds l k h = h
called m calls.Trigger r ms ds l k h = textual l _ (trigger_leaves m r ds l) h

post_textual : (m : ℕ) (e : Entry) (ds : List Did) (l : Ledger) → IsTextCall e.call → IsTextual l → IsTextual (ledgers.post m e ds l)
post_textual m e ds l k h = called m e.call e.reply e.effect.received ds (ledgers.take_all_gone m ds l) k (textual l (ledgers.take_all_gone m ds l) (all_gone_leave m ds l) h)

cut_at : (m : ℕ) (f : Users → Users) (us : List Users) → ((u : Users) → IsCutText (f u).cut) → AllCutTexts (map (λ (u : Users). u.cut) us) → AllCutTexts (map (λ (u : Users). u.cut) (change_at m f us))
cut_at m f [] k h = tt
cut_at zero f (u ∷ us) k h = (k u, h.1)
cut_at (suc m) f (u ∷ us) k h = (h.0, cut_at m f us k h.1)

users_textual : (m : ℕ) (f : Users → Users) (l : Ledger) → ((u : Users) → IsCutText (f u).cut) → IsTextual l → IsTextual (with_users m f l)
users_textual m f l k h = record { texts = h.texts; cuts = cut_at m f l.users k h.cuts }

cut_textual : (m : ℕ) (e : Entry) (l : Ledger) → IsTextCall e.call → IsTextual l → IsTextual (ledgers.cut m e l)
cut_textual m e l k h =
    let a : Ledger = ledgers.take_all_gone m e.effect.delta l in
    let b : Ledger = with_users m (λ u. record u { cut = Some (record { entry = e; moment = u.moment }) }) a in
    textual b (ledgers.lose m b) (lose_leaves m b) (users_textual m (λ u. record u { cut = Some (record { entry = e; moment = u.moment }) }) a (λ u. k) (textual l a (all_gone_leave m e.effect.delta l) h))

at_moment_leaves : (m moment : ℕ) (l : Ledger) → LeavesTexts l (ledgers.at_moment m moment l)
at_moment_leaves m moment l = users_leave m _ l (λ u. refl)

-- the call whose write a restart finds
cut_there : (m : ℕ) (us : List Users) → AllCutTexts (map (λ (u : Users). u.cut) us) → IsCutText (ledgers.users_or (slice_get us m)).cut
cut_there m [] h = tt
cut_there zero (u ∷ us) h = h.0
cut_there (suc m) (u ∷ us) h = cut_there m us h.1

found_textual : (m : ℕ) (o : Option Stopped) (ds : List Did) (l : Ledger) → IsCutText o → IsTextual l → IsTextual (ledgers.found m o ds l)
found_textual m None ds l k h = h
found_textual m (Some s) ds l k h =
    let a : Ledger = ledgers.at_moment m s.moment l in
    let b : Ledger = ledgers.post m s.entry ds a in
    textual b _ (at_moment_leaves m (ledgers.users_at m l).moment b) (post_textual m s.entry ds a k (textual l a (at_moment_leaves m s.moment l) h))

up_textual : (m : ℕ) (l : Ledger) → IsTextual l → IsTextual (ledgers.up_again m l)
up_textual m l h = let a : Ledger = with_users m (λ u. record u { cut = None }) l in textual a (ledgers.stop m a) (stop_leaves m a) (users_textual m (λ u. record u { cut = None }) l (λ u. tt) h)

comes_textual : (m : ℕ) (chance : Chance) (ds : List Did) (l : Ledger) → IsTextual l → IsTextual (ledgers.come_up m chance ds l)
comes_textual m (chances.Restart (Comes true started)) ds l h = up_textual m (ledgers.found m (ledgers.users_at m l).cut ds l) (found_textual m (ledgers.users_at m l).cut ds l (cut_there m l.users h.cuts) h)
comes_textual m (chances.Restart (Comes false started)) ds l h = up_textual m l h
comes_textual m (chances.Restart (Fails fault in_write left)) ds l h = h
comes_textual m (chances.Call choice) ds l h = h
comes_textual m (chances.Foreign image length left) ds l h = h

returned_textual : (m : ℕ) (r : Reply) (chance : Chance) (ds : List Did) (l : Ledger) → IsTextual l → IsTextual (ledgers.returned m r chance ds l)
returned_textual m (replies.Acted acted.Done) chance ds l h = comes_textual m chance ds l h
returned_textual m r chance ds l h = h

posted_textual : (m : ℕ) (e : Entry) (r : Reply) (l : Ledger) → IsTextCall e.call → IsTextual l → IsTextual (ledgers.posted m e r l)
posted_textual m e (replies.Stopped by_) l k h = cut_textual m e l k h
posted_textual m e r l k h = returned_textual m r e.chance e.effect.delta (ledgers.post m e e.effect.delta l) (post_textual m e e.effect.delta l k h)

pub story_textual : (p : List Line) (l : Ledger) → ((x : Line) → Mem x p → IsTextCall x.entry.call) → IsTextual l → IsTextual (ledgers.ledger l p)
story_textual [] l k h = h
story_textual (x ∷ p) l k h = story_textual p (ledgers.posted x.manager x.entry x.entry.reply l) (λ y m. k y (inr m)) (posted_textual x.manager x.entry x.entry.reply l (k x (inl refl)) h)

-- WHAT IT SAYS OF ONE MANAGER
pub texts_there : (m : ℕ) (ps : List ManagerPlaces) (p : ManagerPlaces) → slice_get ps m ≡ Some p → AllTexts (map (λ (q : ManagerPlaces). q.definitions) ps) → AreObjectTexts p.definitions
texts_there m [] p e h = absurd (none_some e)
  where
    none_some : None ≡ Some p → ⊥
    none_some k = cc
texts_there zero (q ∷ ps) p e h = subst (λ (x : ManagerPlaces). AreObjectTexts x.definitions) (same e) h.0
  where
    same : Some q ≡ Some p → q ≡ p
    same k = cc
texts_there (suc m) (q ∷ ps) p e h = texts_there m ps p e h.1
