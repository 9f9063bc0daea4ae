-- Commands, stops, restarts, cuts, clock advances and trigger turns of a manager without channels.
use Rattle.std.proofs.Common.{ℕ, ◌≡◌, Bool, true, false, not, List, [], ◌∷◌, refl, ap, sym, subst, ◌∙◌, inl, inr, map, ◌⊎◌}
use Rattle.std.specs.Prelude.{Option, Some, None, Result, Ok, Err, ◌==◌, ◌+◌, min, if◌then◌else◌, slice_get, nat_lt, filter}
use Rattle.mq_message.specs.declared.message.Ident.{Ident}
use Rattle.mq_frame.specs.declared.frame.Seen.{Seen}
use Rattle.mq_objects.specs.declared.object.Object.{Object}
use Rattle.mq_objects.specs.declared.object.Object.TheVariants as objects
use Rattle.mq_objects.specs.declared.object.LocalQueue.{LocalQueue}
use Rattle.mq_objects.specs.declared.object.Channel.{Channel}
use Rattle.mq_objects.specs.declared.object.ChannelKind.TheVariants as kinds
use Rattle.mq_objects.specs.declared.command.Command.{Command}
use Rattle.mq_objects.specs.declared.object.ChannelKind.{ChannelKind}
use Rattle.mq_objects.specs.declared.object.Process.{Process}
use Rattle.mq_codes.specs.declared.reason.Reason.{Reason}
use Rattle.mq_objects.specs.Names.{Queues, space_of, name_of, is_transmission, is_object, object_in, local_of, locals_of, locals_in, channel_of, as_local, process_of}
use Rattle.mq_sc_apply.specs.declared.answers.Plan.{Plan}
use Rattle.mq_sc_apply.specs.declared.answers.Plan.TheVariants as plans
use Rattle.mq_sc_apply.specs.Commands.{plan}
use Rattle.mq_sc_parse.specs.declared.command.Command.TheVariants as lines
use Rattle.mq_sc_parse.specs.declared.command.Op.{Op}
use Rattle.mq_sc_parse.specs.declared.command.Op.TheVariants as ops
use Rattle.mq_calls.specs.declared.choices.Choice.{Choice}
use Rattle.mq_calls.specs.declared.choices.Return.{Return}
use Rattle.mq_calls.specs.declared.choices.Return.TheVariants.{Comes, Fails}
use Rattle.mq_calls.specs.declared.commands.Shown.{Shown}
use Rattle.mq_calls.specs.declared.commands.ScRefusal.{ScRefusal}
use Rattle.mq_calls.specs.declared.commands.ScRefusal.TheVariants as refusals
use Rattle.mq_calls.specs.declared.commands.RestartFault.TheVariants as faults
use Rattle.mq_calls.specs.declared.deltas.Did.{Did}
use Rattle.mq_calls.specs.declared.records.LogRecord.{LogRecord}
use Rattle.mq_calls.specs.declared.records.LogRecord.TheVariants as records
use Rattle.mq_history.specs.declared.acts.Acted.TheVariants as acted
use Rattle.mq_history.specs.declared.acts.Act.TheVariants as acts
use Rattle.mq_history.specs.declared.acts.OpRefusal.{OpRefusal}
use Rattle.mq_history.specs.declared.acts.OpRefusal.TheVariants as op_refusals
use Rattle.mq_history.specs.declared.calls.Actor.{Actor}
use Rattle.mq_history.specs.declared.calls.Call.TheVariants as calls
use Rattle.mq_history.specs.declared.calls.Chance.{Chance}
use Rattle.mq_history.specs.declared.calls.Chance.TheVariants as chances
use Rattle.mq_history.specs.declared.calls.Entry.{Entry}
use Rattle.mq_history.specs.declared.calls.Reply.{Reply}
use Rattle.mq_history.specs.declared.calls.Reply.TheVariants as replies
use Rattle.mq_calls.specs.State.{Plain, Given, Running, Noted, LogState}
use Rattle.mq_calls.specs.State.Running.{Up, Down}
use Rattle.mq_calls.specs.Reads.{is_up, stored}
use Rattle.mq_calls.specs.Images.{begun, lasting, raised}
use Rattle.mq_calls.specs.Steps.{delta_of, Step, Part, when, refusal, refused_or, logged, do_part}
use Rattle.mq_calls.specs.Steps.Step.{Refuse, Do}
use Rattle.mq_spec_manager.specs.Commands.{command, planned_step, object_part, uses_of}
use Rattle.mq_spec_manager.specs.Stops.{stop_at, restart_at, restarted, redone, redone_delta, grown, last_moment}
use Rattle.mq_spec_manager.specs.Triggers.{Never, first_due, trigger_turn, trigger_at, serve, serve_by, serve_into, put_trigger, takes_it}
use Rattle.mq_history.specs.declared.calls.Actor.TheVariants as actors
use Rattle.mq_spec_node.specs.Node.{Node, Own, sender_named, as_sender, as_receiver, end_in}
use Rattle.mq_spec_node.specs.Deeds.{Deed, told, parts_of, CanCome, begun_anew}
use Rattle.mq_spec_node.specs.Happens.{turn_up, timeout_by, sender_turn, receiver_turn, timeout_of, IsDeed, IsReturn, RunsAlone, crashed, done_or, remembering, command_deed, where_up, trigger_deed, trigger_deed_of}
use Rattle.mq_spec_node.specs.Happens.{restarted as node_restarted}
use Rattle.mq_spec_node.specs.Operators as operators
use Rattle.mq_spec_node.specs.Status.{show_status, shown, status_line, is_asked}
use Rattle.mq_spec_node.specs.Replays.{IsOwn}
use Rattle.mq_spec_network.specs.Ledger as ledgers
use Rattle.mq_spec_network.specs.Ledger.{Ledger, Users, posted, take_all_gone, users_at}
use Rattle.mq_spec_network.specs.Story.{Mem}
use Rattle.mq_law_story.proofs.from_law_rows.Lists.{bool_case, name_self}
use Rattle.mq_law_manager.specs.Facts.{AreOnce, IsSound, IsFrozen}
use Rattle.mq_law_manager.proofs.Commanding.{command_keeps}
use Rattle.mq_law_manager.proofs.StockCommands.{command_stocked}
use Rattle.mq_law_manager.proofs.Ending.{joined, sound_still, stop_sound, restart_sound}
use Rattle.mq_law_events.specs.Tied.{IsTold, IsFresh, Follow}
use Rattle.mq_law_events.specs.Posting.{StepFollows, IsTimed}
use Rattle.mq_law_events.proofs.Telling.{here_changed, else_users, else_then}
use Rattle.mq_law_events.proofs.Locals.{stays_leads}
use Rattle.mq_law_events.proofs.Locals.{behind as leads_behind}
use Rattle.mq_law_events.proofs.Taking.{gone_users}
use Rattle.mq_law_events.specs.Local.{side_of, sheet_of}
use Rattle.mq_law_events.proofs.Events as events
use Rattle.mq_law_manager.proofs.ShortSteps as shorts
use Rattle.mq_law_events.proofs.Halting as halting
use Rattle.mq_law_events.proofs.Getting.{none_behind}
use Rattle.mq_law_events.proofs.Serving.{serves, post_served}
use Rattle.mq_law_story.proofs.from_law_seen.Bridges.{name_back}
use Rattle.mq_law_manager.specs.Kept.{StepKeeps, AllKeep}
use Rattle.mq_law_manager.proofs.Handling.{trigger_turn_keeps}
use Rattle.mq_law_manager.proofs.Stocks.{trigger_stocked}
use Rattle.mq_law_events.proofs.Sounds.{restart_fresh}
use Rattle.mq_law_events.proofs.Stopping.{stops_so, stop_follows, restart_follows}
use Rattle.mq_law_events.proofs.Calling.{objects_follow, shown_follow}
use Rattle.mq_law_found.proofs.Obeying.{commands_noted}
use Rattle.mq_law_found.specs.Finds.{IsNoted}
use Rattle.mq_law_one.specs.Alone.{IsState, IsNotedAt, IsAt, Became, NoOther, as_left}
use Rattle.mq_law_one.proofs.Noting.{serve_noted}
use Rattle.mq_law_one.proofs.Happening.{Deeded, deed_of_parts, entry_of, became, nothing, quiet_happens, step_happens, Fits, fits_by}
use Rattle.mq_law_one.proofs.Calls.{Happens}

-- Commands on objects

command_follows : (m : ℕ) (given : Ident → Bool) (p : Plain) (l : Ledger) (c : Command) → IsFresh given p → IsTold m p l → IsSound p → StepFollows m given p l (λ reply ds k. ledgers.obey m (lines.Objects c) k) (command c p)
command_follows m given p l c f t h = events.tested_follows m given p l (λ reply ds k. ledgers.obey m (lines.Objects c) k) (when (not (is_up p.running)) refusals.Down ∷ []) (planned_step (plan c p.given.name p.definitions (uses_of p)) p.definitions)
    (λ e. go (plan c p.given.name p.definitions (uses_of p)) refl)
  where
    go : (r : Result Plan ScRefusal) → plan c p.given.name p.definitions (uses_of p) ≡ r → StepFollows m given p l (λ reply ds k. ledgers.obey m (lines.Objects c) k) (planned_step r p.definitions)
    go (Ok (plans.Change planned)) e =
        let r : Option LogRecord = Some (records.Objects planned.change) in
        events.from_logged m given r p (do_part (object_part planned p.definitions) p) l (ledgers.obey m (lines.Objects c) l)
        (objects_follow m given (logged r p) l c planned (events.fresh_logged given r p f) (events.told_logged m r p l t) h.stocked.rows e)
    go (Ok (plans.Show shown)) e = shown_follow m given p l c shown f t e
    go (Err refusal) e = tt

command_down : (c : Command) (p : Plain) → is_up p.running ≡ false → (reason : ScRefusal) × (command c p ≡ Refuse reason)
command_down c p e = (refusals.Down, ap (λ t. refused_or (refusal (when (not t) refusals.Down ∷ [])) (planned_step (plan c p.given.name p.definitions (uses_of p)) p.definitions)) e)

command_step : {E : ledgers.Stopped → Noted → Plain → Type 0} (m : ℕ) (given : Ident → Bool) (n : Node) (l : Ledger) (e : Entry) (actor : Actor) (choice : Choice) (c : Command) (step : Step ScRefusal Shown) → IsAt E m given n l → Fits m given n.manager l (λ reply ds k. ledgers.obey m (lines.Objects c) k) (calls.Act (acts.Obey (lines.Objects c))) step → CanCome (command_deed n.own step) choice n
    → Deeded E m given n l e actor (calls.Act (acts.Obey (lines.Objects c))) choice (command_deed n.own step)
command_step {E} m given n l e actor choice c (Refuse reason) a fit can = quiet_happens m given n l e actor (calls.Act (acts.Obey (lines.Objects c))) choice (replies.Acted (acted.Sc reason)) a (λ x. refl) can
command_step {E} m given n l e actor choice c (Do shown parts) a fit can =
    step_happens ScRefusal m given n l e actor (calls.Act (acts.Obey (lines.Objects c))) choice None (λ (s : Shown). replies.Acted (acted.Shown s)) (λ reply ds k. ledgers.obey m (lines.Objects c) k) shown parts a fit.0 fit.1 fit.2 fit.3 fit.4 fit.5 (λ ds. refl) (λ r z. absurd cc) can

pub command_happens : {E : ledgers.Stopped → Noted → Plain → Type 0} (m : ℕ) (given : Ident → Bool) (n : Node) (l : Ledger) (e : Entry) (actor : Actor) (choice : Choice) (c : Command) → IsAt E m given n l → CanCome (command_deed n.own (command c n.manager)) choice n
    → Deeded E m given n l e actor (calls.Act (acts.Obey (lines.Objects c))) choice (command_deed n.own (command c n.manager))
command_happens {E} m given n l e actor choice c a can =
    let p : Plain = n.manager in
    command_step m given n l e actor choice c (command c p) a
    (fits_by m given p l (λ reply ds k. ledgers.obey m (lines.Objects c) k) (calls.Act (acts.Obey (lines.Objects c))) (command c p) a.state
    (λ h. (command_follows m given p l c a.fresh a.told h, halting.step_stops m given p l (command c p) a.fresh a.told (shorts.command_short c p), joined (command c p) p h (command_keeps c p h.stocked.rows h.facts) (command_stocked c p h.stocked)))
    (λ h k. commands_noted m p c h)
    (command_down c p)) can

-- Commands on ends of channels, of which there are none

no_end : (channel : List ℕ) (c : Option Channel) → operators.end_defined channel c [] ≡ None
no_end channel None = refl
no_end channel (Some c) = go c.kind
  where
    go : (k : ChannelKind) → operators.end_of_kind channel k [] ≡ None
    go (kinds.Sender batch retry xmitq) = refl
    go (kinds.Receiver dead) = refl

operated_up : (op : Op) (n : Node) → n.own.ends ≡ [] → operators.operate_up op n ≡ told (replies.Acted (acted.Op op_refusals.NotFound)) n.own
operated_up (ops.Start channel) n e = ap (λ o. operators.start_end o n) (ap (operators.end_defined channel (channel_of channel n.manager.definitions)) e ∙ no_end channel (channel_of channel n.manager.definitions))
operated_up (ops.Stop channel) n e = ap (λ o. operators.stop_end o n) (ap (operators.end_defined channel (channel_of channel n.manager.definitions)) e ∙ no_end channel (channel_of channel n.manager.definitions))
operated_up (ops.Reset channel seqnum) n e = ap (λ o. operators.reset_end seqnum o n) (ap (operators.end_defined channel (channel_of channel n.manager.definitions)) e ∙ no_end channel (channel_of channel n.manager.definitions))
operated_up (ops.Resolve channel settle) n e = ap (λ es. operators.resolve_end settle (sender_named channel es) n) e

pub operated_is : (op : Op) (n : Node) → n.own.ends ≡ [] → (r : OpRefusal) × (operators.operate op n ≡ told (replies.Acted (acted.Op r)) n.own)
operated_is op n e = go (is_up n.manager.running)
  where
    go : (t : Bool) → (r : OpRefusal) × (operators.tested (when (not t) op_refusals.Down ∷ []) n.own (operators.operate_up op n) ≡ told (replies.Acted (acted.Op r)) n.own)
    go true = (op_refusals.NotFound, operated_up op n e)
    go false = (op_refusals.Down, refl)

pub operate_happens : {E : ledgers.Stopped → Noted → Plain → Type 0} (m : ℕ) (given : Ident → Bool) (n : Node) (l : Ledger) (e : Entry) (actor : Actor) (choice : Choice) (op : Op) → IsAt E m given n l → n.own.ends ≡ [] → CanCome (operators.operate op n) choice n
    → Deeded E m given n l e actor (calls.Act (acts.Obey (lines.Operate op))) choice (operators.operate op n)
operate_happens {E} m given n l e actor choice op a none can =
    let d = operated_is op n none in
    subst (λ x. Deeded E m given n l e actor (calls.Act (acts.Obey (lines.Operate op))) choice x) (sym d.1)
    (quiet_happens m given n l e actor (calls.Act (acts.Obey (lines.Operate op))) choice (replies.Acted (acted.Op d.0)) a (λ x. refl) (subst (λ x. CanCome x choice n) d.1 can))

-- DISPLAY CHSTATUS: an answer alone
abbrev IsQuietAnswer : ℕ → Entry → List ℕ → Bool → Ledger → Own → Deed → Type 0
IsQuietAnswer m e name any_end l own d = (r : Reply) × (d ≡ told r own)
    × ((c : Choice) → posted m (entry_of e (calls.Act (acts.Obey (lines.ShowStatus name any_end))) (chances.Call c) r [] []) r l ≡ l)

shown_quiet : (m : ℕ) (e : Entry) (name : List ℕ) (any_end : Bool) (l : Ledger) (own : Own) (any : Bool) (text : List (List ℕ)) → IsQuietAnswer m e name any_end l own (shown own any text)
shown_quiet m e name any_end l own true [] = (replies.Acted (acted.Shown (record { lines = [] })), refl, (λ c. refl))
shown_quiet m e name any_end l own true (t ∷ ts) = (replies.Acted (acted.Shown (record { lines = t ∷ ts })), refl, (λ c. refl))
shown_quiet m e name any_end l own false [] = (replies.Acted (acted.Sc refusals.Missing), refl, (λ c. refl))
shown_quiet m e name any_end l own false (t ∷ ts) = (replies.Acted (acted.Shown (record { lines = t ∷ ts })), refl, (λ c. refl))

pub status_happens : {E : ledgers.Stopped → Noted → Plain → Type 0} (m : ℕ) (given : Ident → Bool) (n : Node) (l : Ledger) (e : Entry) (actor : Actor) (choice : Choice) (name : List ℕ) (any_end : Bool) → IsAt E m given n l → CanCome (show_status name any_end n) choice n
    → Deeded E m given n l e actor (calls.Act (acts.Obey (lines.ShowStatus name any_end))) choice (show_status name any_end n)
status_happens {E} m given n l e actor choice name any_end a can =
    let d = shown_is (is_up n.manager.running) in
    subst (λ x. Deeded E m given n l e actor (calls.Act (acts.Obey (lines.ShowStatus name any_end))) choice x) (sym d.1)
    (quiet_happens m given n l e actor (calls.Act (acts.Obey (lines.ShowStatus name any_end))) choice d.0 a d.2 (subst (λ x. CanCome x choice n) d.1 can))
  where
    shown_is : (up : Bool) → IsQuietAnswer m e name any_end l n.own (if up then shown n.own any_end (map (status_line n.manager) (filter (is_asked name any_end) n.own.ends)) else told (replies.Acted (acted.Sc refusals.Down)) n.own)
    shown_is true = shown_quiet m e name any_end l n.own any_end (map (status_line n.manager) (filter (is_asked name any_end) n.own.ends))
    shown_is false = (replies.Acted (acted.Sc refusals.Down), refl, (λ c. refl))

-- A manager beside its moment, its log and whether it runs

same_sound : (p : Plain) (r : Running) (t : ℕ) (g : LogState) → IsSound p → IsSound (record p { running = r; moment = t; log = g })
same_sound p r t g h = record { facts = h.facts; named = h.named; stocked = record { once = h.stocked.once; placed = h.stocked.placed; rows = h.stocked.rows; puts = h.stocked.puts; routed = h.stocked.routed } }

same_frozen : (p : Plain) (r : Running) (t : ℕ) (g : LogState) → IsFrozen p → IsFrozen (record p { running = r; moment = t; log = g })
same_frozen p r t g h = record { still = h.still; named = h.named; stocked = record { once = h.stocked.once; placed = h.stocked.placed; rows = h.stocked.rows; puts = h.stocked.puts; routed = h.stocked.routed } }

same_state : (r s : Running) (p : Plain) (t : ℕ) (g : LogState) → is_up r ≡ is_up s → IsState r p → IsState s (record p { running = s; moment = t; log = g })
same_state Up Up p t g e h = same_sound p Up t g h
same_state (Down x y) (Down z w) p t g e h = same_frozen p (Down z w) t g h
same_state Up (Down z w) p t g e h = absurd cc
same_state (Down x y) Up p t g e h = absurd cc

-- a note stays with the call that the ledger has as stopped
still : (E : ledgers.Stopped → Noted → Plain → Type 0) (m : ℕ) (x : ledgers.Stopped) (n : Noted) (p : Plain) (s : Running) (moment : ℕ) (g : LogState) → IsNoted m x n p ⊎ E x n (as_left p) → IsNoted m x n (record p { running = s; moment = moment; log = g }) ⊎ E x n (as_left p)
still E m x n p s moment g (inl h) = inl (record { followed = h.followed; sound = h.sound; quiet = h.quiet })
still E m x n p s moment g (inr h) = inr h

still_noted : (E : ledgers.Stopped → Noted → Plain → Type 0) (m : ℕ) (r : Running) (p : Plain) (l k : Ledger) (s : Running) (moment : ℕ) (g : LogState) → (users_at m k).cut ≡ (users_at m l).cut → IsNotedAt E m r p l → IsNotedAt E m r (record p { running = s; moment = moment; log = g }) k
still_noted E m Up p l k s moment g e h = tt
still_noted E m (Down None starts) p l k s moment g e h = tt
still_noted E m (Down (Some n) starts) p l k s moment g e h = (h.0, e ∙ h.1, still E m h.0 n p s moment g h.2)

more_noted : (E : ledgers.Stopped → Noted → Plain → Type 0) (m : ℕ) (noted : Option Noted) (starts more : ℕ) (p : Plain) (l : Ledger) → IsNotedAt E m (Down noted starts) p l → IsNotedAt E m (Down noted more) p l
more_noted E m None starts more p l h = tt
more_noted E m (Some n) starts more p l h = h

-- it runs or not, with another log: nothing is posted
pub aside_happens : {E : ledgers.Stopped → Noted → Plain → Type 0} (m : ℕ) (given : Ident → Bool) (n : Node) (l : Ledger) (own : Own) (s : Running) (g : LogState) → IsAt E m given n l → is_up n.manager.running ≡ is_up s → IsNotedAt E m s n.manager l
    → Became E m given n l (record { manager = record n.manager { running = s; log = g }; own = own }) l
aside_happens {E} m given n l own s g a up noted =
    let p : Plain = n.manager in
    record {
      now = given;
      leads = stays_leads m (side_of p given) (sheet_of m l);
      known = λ i z. refl;
      same = record { given = refl; senders = refl; receivers = refl; batches = refl };
      other = record { places = λ b z. refl; users = λ b z. refl };
      at = record {
        told = record { places = a.told.places; placed = a.told.placed; shelved = a.told.shelved; name = a.told.name; definitions = a.told.definitions; users = a.told.users; used = a.told.used; connections = a.told.connections };
        fresh = a.fresh;
        number = a.number;
        timed = record { users = a.timed.users; used = a.timed.used; moment = a.timed.moment };
        state = same_state p.running s p p.moment g up a.state;
        noted = still_noted E m s p l l s p.moment g refl noted;
      };
    }

pub clock_happens : {E : ledgers.Stopped → Noted → Plain → Type 0} (m : ℕ) (given : Ident → Bool) (n : Node) (l : Ledger) (by_ : ℕ) → IsAt E m given n l
    → Became E m given n l (record n { manager = record n.manager { moment = min (n.manager.moment + by_) last_moment } }) (ledgers.with_users m (λ (u : Users). record u { moment = min (u.moment + by_) last_moment }) l)
clock_happens {E} m given n l by_ a =
    let p : Plain = n.manager in
    let f : Users → Users = λ u. record u { moment = min (u.moment + by_) last_moment } in
    record {
      now = given;
      leads = stays_leads m (side_of p given) (sheet_of m l);
      known = λ i z. refl;
      same = record { given = refl; senders = refl; receivers = refl; batches = refl };
      other = else_users m f l;
      at = record {
        told = record { places = a.told.places; placed = a.told.placed; shelved = a.told.shelved; name = a.told.name; definitions = a.told.definitions; users = f a.told.users; used = here_changed m f l.users a.told.users a.told.used; connections = a.told.connections };
        fresh = a.fresh;
        number = a.number;
        timed = record { users = f a.timed.users; used = here_changed m f l.users a.timed.users a.timed.used; moment = ap (λ t. min (t + by_) last_moment) a.timed.moment };
        state = same_state p.running p.running p (min (p.moment + by_) last_moment) p.log refl a.state;
        noted = still_noted E m p.running p l (ledgers.with_users m f l) p.running (min (p.moment + by_) last_moment) p.log
            (ap (λ o. (ledgers.users_or o).cut) (here_changed m f l.users a.timed.users a.timed.used) ∙ sym (ap (λ o. (ledgers.users_or o).cut) a.timed.used)) a.noted;
      };
    }

-- A stop, by whether the manager runs
crash_as : {E : ledgers.Stopped → Noted → Plain → Type 0} (m : ℕ) (given : Ident → Bool) (n : Node) (l : Ledger) (e : Entry) (choice : Choice) → IsAt E m given n l → n.manager.channels.batches ≡ [] → (r : Running) → n.manager.running ≡ r
    → Became E m given n l (crashed (stop_at r n.manager) n).next (posted m (entry_of e (calls.Act acts.Crash) (chances.Call choice) (crashed (stop_at r n.manager) n).reply (crashed (stop_at r n.manager) n).delta (crashed (stop_at r n.manager) n).received) (crashed (stop_at r n.manager) n).reply l)
crash_as {E} m given n l e choice a none Up z =
    let p : Plain = n.manager in
    let sound : IsSound p = subst (λ r. IsState r p) z a.state in
    became m given n l (crashed (stop_at Up p) n).next (ledgers.stop m l) a
    (subst (λ (q : Plain). Follow m given p l (record q { running = Down None 0 }) (ledgers.stop m l)) (sym (stops_so p none)) (stop_follows m given p l (Down None 0) a.fresh a.told none))
    (sound_still _ (subst (λ r. IsSound (stop_at r p).next) z (stop_sound p sound))) tt
crash_as {E} m given n l e choice a none (Down noted starts) z = nothing m given n l n.own a

pub crash_happens : {E : ledgers.Stopped → Noted → Plain → Type 0} (m : ℕ) (given : Ident → Bool) (n : Node) (l : Ledger) (e : Entry) (stamp : ℕ) (actor : Actor) (chance : Chance) (seen : Seen) → IsAt E m given n l → n.manager.channels.batches ≡ [] → RunsAlone chance → Happens E m given n l e stamp actor (calls.Act acts.Crash) chance seen
crash_happens {E} m given n l e stamp actor (chances.Restart choice) seen a none can = absurd can
crash_happens {E} m given n l e stamp actor (chances.Foreign image length left) seen a none can = absurd can
crash_happens {E} m given n l e stamp actor (chances.Call choice) seen a none can = crash_as m given n l e choice a none n.manager.running refl

-- A restart
abbrev clear : Users → Users
clear u = record u { cut = None }

comes_up : {E : ledgers.Stopped → Noted → Plain → Type 0} (m : ℕ) (given : Ident → Bool) (n : Node) (l : Ledger) (noted : Option Noted) (starts started : ℕ) → IsAt E m given n l → n.manager.channels.batches ≡ [] → n.manager.running ≡ Down noted starts
    → Became E m given n l (begun_anew (restarted false started noted n.manager) n.own) (ledgers.up_again m l)
comes_up {E} m given n l noted starts started a none z =
    let p : Plain = n.manager in
    let l0 : Ledger = ledgers.with_users m clear l in
    let used : slice_get l0.users m ≡ Some (clear a.told.users) = here_changed m clear l.users a.told.users a.told.used in
    let t0 : IsTold m p l0 = record { places = a.told.places; placed = a.told.placed; shelved = a.told.shelved; name = a.told.name; definitions = a.told.definitions; users = clear a.told.users; used = used; connections = a.told.connections } in
    let f = restart_follows m given p l0 started (grown started p) t0 none (restart_fresh given p started (grown started p) a.fresh) in
    let frozen : IsFrozen p = subst (λ r. IsState r p) z a.state in
    let kept = f.kept (clear a.told.users) f.told.users used f.told.used in
    record {
      now = f.now;
      leads = f.leads;
      known = f.known;
      same = f.same;
      other = else_then m l l0 (ledgers.up_again m l) (else_users m clear l) f.other;
      at = record {
        told = f.told;
        fresh = f.fresh;
        number = ap (λ (g : Given). g.number) f.same.given ∙ a.number;
        timed = record { users = f.told.users; used = f.told.used; moment = kept.moment ∙ told_moment m p l a.told a.timed ∙ sym f.steady };
        state = restart_sound started noted p frozen;
        noted = tt;
      };
    }
  where
    told_moment : (m : ℕ) (p : Plain) (l : Ledger) (t : IsTold m p l) → IsTimed m p l → t.users.moment ≡ p.moment
    told_moment m p l t w = ap (λ o. (ledgers.users_or o).moment) (sym t.used ∙ w.used) ∙ w.moment

-- one that is stopped in its own write
fails_in : {E : ledgers.Stopped → Noted → Plain → Type 0} (m : ℕ) (given : Ident → Bool) (n : Node) (l : Ledger) (noted : Option Noted) (starts left : ℕ) → IsAt E m given n l → n.manager.running ≡ Down noted starts
    → Became E m given n l (record n { manager = record n.manager { running = Down noted (starts + 1); log = record n.manager.log { armed = left } } }) l
fails_in {E} m given n l noted starts left a z = aside_happens m given n l n.own (Down noted (starts + 1)) (record n.manager.log { armed = left }) a (ap is_up z)
    (more_noted E m noted starts (starts + 1) n.manager l (subst (λ r. IsNotedAt E m r n.manager l) z a.noted))

-- One that finds the stopped write: it does what the note says, and then comes up.
comes_back : {E : ledgers.Stopped → Noted → Plain → Type 0} (m : ℕ) (given : Ident → Bool) (n : Node) (l : Ledger) (noted : Noted) (starts started : ℕ) → IsAt E m given n l → n.manager.channels.batches ≡ [] → (x : (s : ledgers.Stopped) × ((users_at m l).cut ≡ Some s) × IsNoted m s noted n.manager) → n.manager.running ≡ Down (Some noted) starts
    → Became E m given n l (begun_anew (restarted true started (Some noted) n.manager) n.own)
    (ledgers.come_up m (chances.Restart (Comes true started)) (redone_delta true (Some noted) n.manager) (take_all_gone m (redone_delta true (Some noted) n.manager) l))
comes_back {E} m given n l noted starts started a none x z =
    let p : Plain = n.manager in
    let ds : List Did = redone_delta true (Some noted) p in
    let r : Plain = redone noted p in
    let k1 : Ledger = ledgers.found m (Some x.0) ds (take_all_gone m ds l) in
    let l0 : Ledger = ledgers.with_users m clear k1 in
    let end : Ledger = ledgers.stop m l0 in
    let f1 : Follow m given p l r k1 = x.2.followed given p.running p.moment p.log l a.fresh a.told in
    let used : slice_get l0.users m ≡ Some (clear f1.told.users) = here_changed m clear k1.users f1.told.users f1.told.used in
    let t0 : IsTold m r l0 = record { places = f1.told.places; placed = f1.told.placed; shelved = f1.told.shelved; name = f1.told.name; definitions = f1.told.definitions; users = clear f1.told.users; used = used; connections = f1.told.connections } in
    let next : Plain = restarted true started (Some noted) p in
    let same : begun r.given (raised started (lasting r)) (grown started r) r.moment ≡ next = λ i. begun (f1.same.given i) (raised started (lasting r)) (grown started r) (f1.steady i) in
    let f2 : Follow m f1.now r l0 next end = subst (λ (q : Plain). Follow m f1.now r l0 q end) same (restart_follows m f1.now r l0 started (grown started r) t0 (f1.same.batches ∙ none) (restart_fresh f1.now r started (grown started r) f1.fresh)) in
    let kept1 = f1.kept a.timed.users f1.told.users a.timed.used f1.told.used in
    let kept2 = f2.kept (clear f1.told.users) f2.told.users used f2.told.used in
    let cut_ : (ledgers.users_at m (take_all_gone m ds l)).cut ≡ Some x.0 = ap (λ us. (ledgers.users_or (slice_get us m)).cut) (gone_users m ds l) ∙ x.1 in
    let whole : ledgers.up_again m k1 ≡ ledgers.up_again m (ledgers.found m (ledgers.users_at m (take_all_gone m ds l)).cut ds (take_all_gone m ds l)) =
    ap (λ o. ledgers.up_again m (ledgers.found m o ds (take_all_gone m ds l))) (sym cut_) in
    subst (λ k. Became E m given n l (begun_anew next n.own) k) whole (record {
      now = f2.now;
      leads = leads_behind m (side_of p given) (side_of r f1.now) (side_of next f2.now) (sheet_of m l) (sheet_of m k1) (sheet_of m end) f1.leads f2.leads;
      known = λ i e. f2.known i (ap (λ (g : Given). i.manager == g.number) f1.same.given ∙ e) ∙ f1.known i e;
      same = record {
        given = f2.same.given ∙ f1.same.given;
        senders = f2.same.senders ∙ f1.same.senders;
        receivers = f2.same.receivers ∙ f1.same.receivers;
        batches = f2.same.batches ∙ f1.same.batches;
      };
      other = else_then m l k1 end f1.other (else_then m k1 l0 end (else_users m clear k1) f2.other);
      at = record {
        told = f2.told;
        fresh = f2.fresh;
        number = ap (λ (g : Given). g.number) (f2.same.given ∙ f1.same.given) ∙ a.number;
        timed = record { users = f2.told.users; used = f2.told.used; moment = kept2.moment ∙ kept1.moment ∙ a.timed.moment ∙ sym f1.steady ∙ sym f2.steady };
        state = x.2.sound started p.running p.moment p.log;
        noted = tt;
      };
    })

restart_as : (m : ℕ) (given : Ident → Bool) (n : Node) (l : Ledger) (e : Entry) → IsAt NoOther m given n l → n.manager.channels.batches ≡ [] → (r : Running) → n.manager.running ≡ r → (choice : Return) → IsReturn (chances.Restart choice) r n.manager
    → Became NoOther m given n l (node_restarted (restart_at r choice n.manager) n).next (posted m (entry_of e (calls.Act acts.Restart) (chances.Restart choice) (node_restarted (restart_at r choice n.manager) n).reply (node_restarted (restart_at r choice n.manager) n).delta (node_restarted (restart_at r choice n.manager) n).received) (node_restarted (restart_at r choice n.manager) n).reply l)
restart_as m given n l e a none Up z choice can = nothing m given n l n.own a
restart_as m given n l e a none (Down None starts) z (Comes true started) can = absurd can.0.0
restart_as m given n l e a none (Down (Some noted) starts) z (Comes true started) can = comes_back m given n l noted starts started a none (of_call (subst (λ r. IsNotedAt NoOther m r n.manager l) z a.noted)) z
  where
    of_call : IsNotedAt NoOther m (Down (Some noted) starts) n.manager l → (s : ledgers.Stopped) × ((users_at m l).cut ≡ Some s) × IsNoted m s noted n.manager
    of_call h = (h.0, h.1, only h.2)
      where
        only : IsNoted m h.0 noted n.manager ⊎ ⊥ → IsNoted m h.0 noted n.manager
        only (inl x) = x
        only (inr x) = absurd x
restart_as m given n l e a none (Down noted starts) z (Comes false started) can = comes_up m given n l noted starts started a none z
restart_as m given n l e a none (Down noted starts) z (Fails faults.Up in_write left) can = absurd can.0
restart_as m given n l e a none (Down noted starts) z (Fails faults.NoMemory in_write left) can = absurd can.1
restart_as m given n l e a none (Down noted starts) z (Fails faults.Disk true left) can = fails_in m given n l noted starts left a z
restart_as m given n l e a none (Down noted starts) z (Fails faults.Disk false left) can = aside_happens m given n l n.own n.manager.running (record n.manager.log { armed = left }) a refl a.noted
restart_as m given n l e a none (Down noted starts) z (Fails faults.Cut true left) can = fails_in m given n l noted starts left a z
restart_as m given n l e a none (Down noted starts) z (Fails faults.Cut false left) can = aside_happens m given n l n.own n.manager.running (record n.manager.log { armed = left }) a refl a.noted
restart_as m given n l e a none (Down noted starts) z (Fails (faults.BadLog place) true left) can = absurd can.0
restart_as m given n l e a none (Down noted starts) z (Fails (faults.BadLog place) false left) can = aside_happens m given n l n.own n.manager.running (record n.manager.log { armed = left }) a refl a.noted

pub restart_happens : (m : ℕ) (given : Ident → Bool) (n : Node) (l : Ledger) (e : Entry) (stamp : ℕ) (actor : Actor) (chance : Chance) (seen : Seen) → IsAt NoOther m given n l → n.manager.channels.batches ≡ [] → IsReturn chance n.manager.running n.manager → IsOwn chance
    → Happens NoOther m given n l e stamp actor (calls.Act acts.Restart) chance seen
restart_happens m given n l e stamp actor (chances.Call choice) seen a none can own = absurd can
restart_happens m given n l e stamp actor (chances.Foreign image length left) seen a none can own = absurd own
restart_happens m given n l e stamp actor (chances.Restart choice) seen a none can own = restart_as m given n l e a none n.manager.running refl choice can

-- A trigger turn

local_mem : (q : LocalQueue) (os : List Object) → Mem q (locals_in os) → Mem (objects.Local q) os
local_mem q [] n = absurd n
local_mem q (objects.Local x ∷ os) (inl e) = inl (ap (λ z. objects.Local z) e)
local_mem q (objects.Local x ∷ os) (inr n) = inr (local_mem q os n)
local_mem q (objects.Alias x ∷ os) n = inr (local_mem q os n)
local_mem q (objects.Remote x ∷ os) n = inr (local_mem q os n)
local_mem q (objects.Channel x ∷ os) n = inr (local_mem q os n)
local_mem q (objects.Process x ∷ os) n = inr (local_mem q os n)

found_there : (q : LocalQueue) (os : List Object) → AreOnce os → Mem (objects.Local q) os → object_in Queues q.name os ≡ Some (objects.Local q)
found_there q [] once n = absurd n
found_there q (o ∷ os) once (inl e) = ap (λ t. if t then Some o else object_in Queues q.name os) (ap (is_object Queues q.name) (sym e) ∙ name_self q.name) ∙ ap (λ z. Some z) (sym e)
found_there q (o ∷ os) once (inr n) = ap (λ t. if t then Some o else object_in Queues q.name os) (other o (once.0 (objects.Local q) n)) ∙ found_there q os once.1 n
  where
    other : (o : Object) → is_object (space_of o) (name_of o) (objects.Local q) ≡ false → is_object Queues q.name o ≡ false
    other (objects.Local x) e = name_back q.name x.name ∙ e
    other (objects.Alias x) e = name_back q.name x.name ∙ e
    other (objects.Remote x) e = name_back q.name x.name ∙ e
    other (objects.Channel x) e = refl
    other (objects.Process x) e = refl

due_mem : (q : LocalQueue) (qs : List LocalQueue) (p : Plain) → first_due qs p ≡ Some q → Mem q qs
due_mem q [] p e = absurd cc
due_mem q (x ∷ qs) p e = bool_case (nat_lt 0 (stored x.name p).due) (λ t. (if t then Some x else first_due qs p) ≡ Some q → Mem q (x ∷ qs)) (λ z w. inl (sym (some_queue w))) (λ z w. inr (due_mem q qs p w)) e
  where
    some_queue : Some x ≡ Some q → x ≡ q
    some_queue w = cc

due_found : (p : Plain) (q : LocalQueue) → AreOnce p.definitions.objects → first_due (locals_of p.definitions) p ≡ Some q → local_of q.name p.definitions ≡ Some q
due_found p q once e = ap as_local (found_there q p.definitions.objects once (local_mem q p.definitions.objects (due_mem q (locals_of p.definitions) p e)))

-- what is told of it takes nothing
served_gone : (m : ℕ) (p : Plain) (l : Ledger) (q : LocalQueue) (o : Option Process) (i : Option LocalQueue) → take_all_gone m (serve_by q o i p).delta l ≡ l
served_gone m p l q None i = refl
served_gone m p l q (Some process) None = refl
served_gone m p l q (Some process) (Some i) = usage (is_transmission i.usage)
  where
    into : (o : Option Reason) → take_all_gone m (put_trigger o q process i p).delta l ≡ l
    into None = refl
    into (Some reason) = refl

    usage : (b : Bool) → take_all_gone m (serve_into b q process i p).delta l ≡ l
    usage true = refl
    usage false = into (takes_it i p)

abbrev part_of : LocalQueue → Plain → Part
part_of q p = serve_by q (process_of q.process p.definitions) (local_of q.initiation_queue p.definitions) p

trigger_as : {E : ledgers.Stopped → Noted → Plain → Type 0} (m : ℕ) (given : Ident → Bool) (n : Node) (l : Ledger) (e : Entry) (actor : Actor) (choice : Choice) → IsAt E m given n l → (r : Running) → n.manager.running ≡ r → (o : Option LocalQueue) → first_due (locals_of n.manager.definitions) n.manager ≡ o
    → IsDeed (where_up r (trigger_deed_of o n)) (chances.Call choice) n
    → Became E m given n l (remembering actor calls.Trigger (done_or (where_up r (trigger_deed_of o n)) choice n)).next
    (posted m (entry_of e calls.Trigger (chances.Call choice) (done_or (where_up r (trigger_deed_of o n)) choice n).reply (done_or (where_up r (trigger_deed_of o n)) choice n).delta (done_or (where_up r (trigger_deed_of o n)) choice n).received) (done_or (where_up r (trigger_deed_of o n)) choice n).reply l)
trigger_as {E} m given n l e actor choice a (Down noted starts) z o d can = absurd can
trigger_as {E} m given n l e actor choice a Up z None d can = absurd can
trigger_as {E} m given n l e actor choice a Up z (Some q) d can =
    let p : Plain = n.manager in
    let part : Part = part_of q p in
    let sound : IsSound p = subst (λ r. IsState r p) z a.state in
    let turn : trigger_turn p ≡ Do true (part ∷ []) = (λ i. trigger_at (is_up (z i)) p) ∙ ap (λ x. serve x p) d in
    let post : Bool → List Did → Ledger → Ledger = λ reply ds k. ledgers.trigger m (replies.Triggered q.name) ds k in
    let there : local_of q.name (ledgers.places_at m l).definitions ≡ Some q = ap (λ x. local_of q.name x) (ap (λ o. (ledgers.places_or o).definitions) a.told.placed ∙ a.told.definitions) ∙ due_found p q sound.stocked.once d in
    let posts : post true (delta_of (part ∷ [])) (take_all_gone m (delta_of (part ∷ [])) l) ≡ post_served m q part.delta l =
    ap (λ ds. post true ds (take_all_gone m ds l)) (none_behind part.delta) ∙ ap (post true part.delta) (served_gone m p l q (process_of q.process p.definitions) (local_of q.initiation_queue p.definitions))
    ∙ ap (λ o. ledgers.trigger_for m (ledgers.first_placed part.delta) o l) there in
    let follows : StepFollows {F = Never} m given p l post (Do true (part ∷ [])) = subst (λ k. Follow m given p l (do_part part p) k) (sym posts) (serves m given p l q a.fresh a.told a.timed) in
    let keeps : AllKeep IsSound (part ∷ []) p = subst (λ (s : Step Never Bool). StepKeeps IsSound s p) turn (joined (trigger_turn p) p sound (trigger_turn_keeps p sound.facts) (trigger_stocked p sound.stocked)) in
    let deed : Deed = deed_of_parts None (replies.Triggered q.name) (part ∷ []) n.own in
    let same : record (told (replies.Triggered q.name) n.own) { parts = parts_of (trigger_turn p) } ≡ deed = ap (λ (s : Step Never Bool). deed_of_parts None (replies.Triggered q.name) (parts_of s) n.own) turn in
    subst (λ x. Deeded E m given n l e actor calls.Trigger choice x) (sym same)
    (step_happens Never m given n l e actor calls.Trigger choice None (λ (b : Bool). replies.Triggered q.name) post true (part ∷ []) a z sound follows (halting.short_stops Never m given p l true (part ∷ []) a.fresh a.told tt) keeps
    (serve_noted m q (process_of q.process p.definitions) (local_of q.initiation_queue p.definitions) p) (λ ds. refl) (λ r w. absurd cc)
    (subst (λ x. CanCome x choice n) same can))

pub trigger_happens : {E : ledgers.Stopped → Noted → Plain → Type 0} (m : ℕ) (given : Ident → Bool) (n : Node) (l : Ledger) (e : Entry) (stamp : ℕ) (actor : Actor) (choice : Choice) (seen : Seen) → IsAt E m given n l → IsDeed (trigger_deed n) (chances.Call choice) n → Happens E m given n l e stamp actor calls.Trigger (chances.Call choice) seen
trigger_happens {E} m given n l e stamp actor choice seen a can = trigger_as m given n l e actor choice a n.manager.running refl (first_due (locals_of n.manager.definitions) n.manager) refl can

-- Turns of ends and handlers, of which there are none

pub no_deed : (r : Running) (d : Option Deed) (chance : Chance) (n : Node) → d ≡ None → IsDeed (where_up r d) chance n → ⊥
no_deed Up d chance n e can = subst (λ x. IsDeed x chance n) e can
no_deed (Down noted starts) d chance n e can = can

pub turn_none : (stamp : ℕ) (actor : Actor) (seen : Seen) (n : Node) → n.own.ends ≡ [] → ((number : ℕ) → actor ≡ actors.Handler number → ⊥) → turn_up stamp actor seen n ≡ None
turn_none stamp (actors.Sender cable) seen n e h = ap (λ es. sender_turn stamp (as_sender (end_in cable es)) seen n) e
turn_none stamp (actors.Receiver cable) seen n e h = ap (λ es. receiver_turn stamp (as_receiver (end_in cable es)) seen n) e
turn_none stamp (actors.Handler number) seen n e h = absurd (h number refl)
turn_none stamp (actors.Script k) seen n e h = refl
turn_none stamp (actors.Monitor k) seen n e h = refl
turn_none stamp actors.Operator seen n e h = refl
turn_none stamp actors.Clock seen n e h = refl

pub timeout_none : (actor : Actor) (n : Node) → n.own.ends ≡ [] → timeout_by actor n ≡ None
timeout_none (actors.Sender cable) n e = ap (λ es. timeout_of (as_sender (end_in cable es)) n) e
timeout_none (actors.Receiver cable) n e = refl
timeout_none (actors.Handler number) n e = refl
timeout_none (actors.Script k) n e = refl
timeout_none (actors.Monitor k) n e = refl
timeout_none actors.Operator n e = refl
timeout_none actors.Clock n e = refl
