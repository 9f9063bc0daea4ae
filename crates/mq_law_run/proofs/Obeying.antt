-- Each command on an end of a channel, as a move of the network, where its write is not stopped.
use Rattle.std.proofs.Common.{ℕ, ◌≡◌, Bool, true, false, List, [], ◌∷◌, ◌++◌, refl, ap, sym, subst, ◌∙◌, inl, inr}
use Rattle.std.specs.Prelude.{Option, Some, None, ◌==◌, filter, if◌then◌else◌, map, not, slice_get}
use Rattle.mq_sync.specs.declared.unit.Settle.{Settle}
use Rattle.mq_sync.specs.declared.unit.Settle.TheVariants as settles
use Rattle.mq_sync.specs.declared.data.InDoubt.{InDoubt}
use Rattle.mq_calls.specs.declared.agents.SeizeFault.{SeizeFault}
use Rattle.mq_calls.specs.declared.choices.Choice.TheVariants.{Runs, NoMemory, Stopped}
use Rattle.mq_sc_parse.specs.declared.command.Command.TheVariants as lines
use Rattle.mq_sc_parse.specs.declared.command.Op.{Op}
use Rattle.mq_sc_parse.specs.declared.command.Op.TheVariants as ops
use Rattle.mq_history.specs.declared.acts.Act.TheVariants as acts
use Rattle.mq_history.specs.declared.acts.Acted.{Acted}
use Rattle.mq_history.specs.declared.acts.Acted.TheVariants as acted
use Rattle.mq_history.specs.declared.acts.OpRefusal.{OpRefusal}
use Rattle.mq_history.specs.declared.acts.OpRefusal.TheVariants as reasons
use Rattle.mq_history.specs.declared.calls.Actor.{Actor}
use Rattle.mq_history.specs.declared.calls.Actor.TheVariants as actors
use Rattle.mq_history.specs.declared.calls.Call.{Call}
use Rattle.mq_history.specs.declared.calls.Call.TheVariants as calls
use Rattle.mq_history.specs.declared.calls.Chance.{Chance}
use Rattle.mq_history.specs.declared.calls.Chance.TheVariants as chances
use Rattle.mq_history.specs.declared.calls.Reply.{Reply}
use Rattle.mq_history.specs.declared.calls.Reply.TheVariants as replies
use Rattle.mq_history.specs.declared.history.History.{History}
use Rattle.mq_history.specs.declared.scenario.CableLine.{CableLine}
use Rattle.mq_history.specs.declared.scenario.Scenario.{Scenario}
use Rattle.mq_calls.specs.State.{Running}
use Rattle.mq_calls.specs.State.Running.{Up, Down}
use Rattle.mq_objects.specs.Names.{channel_of}
use Rattle.mq_calls.specs.Reads.{is_up}
use Rattle.mq_calls.specs.Steps.{Step, refusal, when}
use Rattle.mq_calls.specs.Steps.Step.{Refuse, Do}
use Rattle.mq_spec_node.specs.Node.{ChannelEnd, Handler, Monitor, Node, Own, ReceiverEnd, SenderEnd, Tried, cable_of, end_in, sender_named}
use Rattle.mq_spec_node.specs.Node.ChannelEnd.{Sends, Receives}
use Rattle.mq_spec_node.specs.Deeds.{CanCome, Deed, Done, done, still_tried}
use Rattle.mq_spec_node.specs.Operators.{end_here, operate, operate_up, refused, refused_or, reset_end, resolve_doubt, resolve_end, start_end, start_seized, stop_end}
use Rattle.mq_spec_node.specs.Happens.{IsDeed, IsEvent, connected_by, event, remembering}
use Rattle.mq_spec_node.specs.Replays.{done_by}
use Rattle.mq_history.specs.Scenarios.{IsScenario}
use Rattle.mq_spec_network.specs.Conflict.{Deed as ToldDeed, NoConflict, deeds}
use Rattle.mq_spec_network.specs.Promised.{Premises}
use Rattle.mq_spec_network.specs.Standing.{node_after}
use Rattle.mq_spec_network.specs.Story.{Line, Mem, part}
use Rattle.mq_law_rows.proofs.Lists.{bool_case, eqb_self, eqb_yes}
use Rattle.mq_law_deeds.specs.from_law_keys.Keys.{AreKeyed, keys}
use Rattle.mq_law_deeds.proofs.from_law_keys.Starting.{run_keyed}
use Rattle.mq_law_deeds.proofs.from_law_keys.Telling.{one_cable, receiver_mem, sender_mem, true_false}
use Rattle.mq_law_node.specs.Ends.{receiver_of, sender_of}
use Rattle.mq_law_node.proofs.NearDoes.{here_case}
use Rattle.mq_law_one.proofs.Running.{Told_}
use Rattle.mq_law_run.specs.Run.{IsRunning, Moves, Stand, far_at, is_stopped_call, near_at}
use Rattle.mq_law_run.proofs.Cabling.{cable_there}
use Rattle.mq_law_run.proofs.Commanding as senders
use Rattle.mq_law_run.proofs.Idling.{idle_moves}
use Rattle.mq_law_run.proofs.Resolving as resolving
use Rattle.mq_law_run.proofs.Rising.{none_posted}
use Rattle.mq_law_run.proofs.Running.{sends_here, takes_here}
use Rattle.mq_law_run.proofs.Serving as receivers

-- WHAT COMMANDS ANSWER; they take no memory
abbrev Answers_ : Deed → Type 0
Answers_ d = (a : Acted) × (d.reply ≡ replies.Acted a) × (d.wanting ≡ None)

refused_answers : (o : Option OpRefusal) (own : Own) (d : Deed) → Answers_ d → Answers_ (refused_or o own d)
refused_answers None own d h = h
refused_answers (Some reason) own d h = (acted.Op reason, refl, refl)

seized_answers : (e : SenderEnd) (step : Step SeizeFault (Unit {0})) (n : Node) → Answers_ (start_seized e step n)
seized_answers e (Refuse fault) n = (_, refl, refl)
seized_answers e (Do reply parts) n = (acted.Done, refl, refl)

start_answers : (o : Option ChannelEnd) (n : Node) → Answers_ (start_end o n)
start_answers None n = (_, refl, refl)
start_answers (Some (Sends e)) n = refused_answers _ n.own _ (seized_answers e _ n)
start_answers (Some (Receives e)) n = refused_answers _ n.own _ (acted.Done, refl, refl)

stop_answers : (o : Option ChannelEnd) (n : Node) → Answers_ (stop_end o n)
stop_answers None n = (_, refl, refl)
stop_answers (Some (Sends e)) n = (_, refl, refl)
stop_answers (Some (Receives e)) n = (_, refl, refl)

reset_answers : (seqnum : ℕ) (o : Option ChannelEnd) (n : Node) → Answers_ (reset_end seqnum o n)
reset_answers seqnum None n = (_, refl, refl)
reset_answers seqnum (Some (Sends e)) n = refused_answers _ n.own _ (acted.Done, refl, refl)
reset_answers seqnum (Some (Receives e)) n = refused_answers _ n.own _ (acted.Done, refl, refl)

doubt_answers : (e : SenderEnd) (settle : Settle) (o : Option InDoubt) (n : Node) → Answers_ (resolve_doubt e settle o n)
doubt_answers e settle None n = (_, refl, refl)
doubt_answers e settle (Some d) n = refused_answers _ n.own _ (acted.Done, refl, refl)

resolve_answers : (settle : Settle) (o : Option SenderEnd) (n : Node) → Answers_ (resolve_end settle o n)
resolve_answers settle None n = (_, refl, refl)
resolve_answers settle (Some e) n = doubt_answers e settle _ n

up_answers : (op : Op) (n : Node) → Answers_ (operate_up op n)
up_answers (ops.Start name) n = start_answers (end_here name n) n
up_answers (ops.Stop name) n = stop_answers (end_here name n) n
up_answers (ops.Reset name seqnum) n = reset_answers seqnum (end_here name n) n
up_answers (ops.Resolve name settle) n = resolve_answers settle (sender_named name n.own.ends) n

answers : (op : Op) (n : Node) → Answers_ (operate op n)
answers op n = refused_answers _ n.own (operate_up op n) (up_answers op n)

-- so they run, where no write is stopped
some_none : (r : Reply) → Some r ≡ None → ⊥
some_none r e = cc

runs_one : (d : Deed) (chance : Chance) (n : Node) → IsDeed (Some d) chance n → is_stopped_call chance ≡ false → d.wanting ≡ None → (chance ≡ chances.Call Runs) × CanCome d Runs n
runs_one d (chances.Call Runs) n can none free = (refl, can)
runs_one d (chances.Call NoMemory) n can none free = absurd (wants d.wanting free can)
  where
    wants : (w : Option Reply) → w ≡ None → CanCome (record d { wanting = w }) NoMemory n → ⊥
    wants None e c = c
    wants (Some r) e c = some_none r e
runs_one d (chances.Call (Stopped by part left)) n can none free = absurd cc
runs_one d (chances.Restart choice) n can none free = absurd can
runs_one d (chances.Foreign image length left) n can none free = absurd can

-- WHAT A NODE REMEMBERS stays
none_tried : (ts : List Tried) → filter (still_tried []) ts ≡ ts
none_tried [] = refl
none_tried (t ∷ ts) = ap (λ (xs : List Tried). t ∷ xs) (none_tried ts)

none_forgotten : (hs : List Handler) → map (λ (h : Handler). record h { tried = filter (still_tried []) h.tried }) hs ≡ hs
none_forgotten [] = refl
none_forgotten (h ∷ hs) = λ i. record h { tried = none_tried h.tried i } ∷ none_forgotten hs i

same_monitors : (k : ℕ) (f : Monitor → Monitor) (ms : List Monitor) → ((m : Monitor) → f m ≡ m) → map (λ (m : Monitor). if m.number == k then f m else m) ms ≡ ms
same_monitors k f [] same = refl
same_monitors k f (m ∷ ms) same = λ i. one (m.number == k) i ∷ same_monitors k f ms same i
  where
    one : (t : Bool) → (if t then f m else m) ≡ m
    one true = same m
    one false = refl

told_same : (r : Reply) (a : Acted) (m : Monitor) → r ≡ replies.Acted a → connected_by r m ≡ m
told_same r a m e = ap (λ (o : Reply). connected_by o m) e

pub remembers : (actor : Actor) (op : Op) (d : Done) → ((m : Monitor) → connected_by d.reply m ≡ m) → remembering actor (calls.Act (acts.Obey (lines.Operate op))) d ≡ d
remembers (actors.Monitor k) op d same = ap (λ (ms : List Monitor). record d { next = record d.next { own = record d.next.own { monitors = ms } } }) (same_monitors k (connected_by d.reply) d.next.own.monitors same)
remembers (actors.Script k) op d same = refl
remembers (actors.Sender k) op d same = refl
remembers (actors.Receiver k) op d same = refl
remembers (actors.Handler k) op d same = refl
remembers actors.Operator op d same = refl
remembers actors.Clock op d same = refl

-- a cable at its place
abbrev pub slice_at : Scenario → ℕ → CableLine → Type 0
slice_at s i k = slice_get s.cables i ≡ Some k

abbrev pub obeys : Op → Call
obeys op = calls.Act (acts.Obey (lines.Operate op))

-- an end that is there is found by its cable
found_in : (es : List ChannelEnd) (x : ChannelEnd) → AreKeyed (keys es) → Mem x es → end_in (cable_of x) es ≡ Some x
found_in [] x h n = absurd n
found_in (y ∷ es) x h n = bool_case (cable_of y == cable_of x) (λ t. (cable_of y == cable_of x) ≡ t → (if t then Some y else end_in (cable_of x) es) ≡ Some x)
    (λ z e. ap (λ (o : ChannelEnd). Some o) (one_cable (y ∷ es) y x h (inl refl) n (eqb_yes (cable_of y) (cable_of x) e)))
    (λ z e. found_in es x h.1 (elim n [
      | inl q ↦ absurd (true_false (sym (eqb_self (cable_of x)) ∙ ap (λ (o : ChannelEnd). cable_of o == cable_of x) q ∙ e))
      | inr w ↦ w
    ])) refl

-- the sender's end that is named
pub of_sender : (s : Scenario) (hs : List History) (p : List Line) (x : Line) (z : Stand s hs p) (t : Told_ s hs p x) (e : SenderEnd) → IsScenario s → (node_after s x.manager p t.h).manager.running ≡ Up → Mem (Sends e) (node_after s x.manager p t.h).own.ends
    → ((i : ℕ) (k : CableLine) → slice_at s i k → k.sender ≡ x.manager → e ≡ sender_of (near_at s i k) (z.xs k.sender k.channel).sender → Moves s hs p x t.h z) → Moves s hs p x t.h z
of_sender s hs p x z t e scenario up there f =
    let at = found_in (node_after s x.manager p t.h).own.ends (Sends e) (run_keyed s x.manager t.h (part x.manager p) scenario) there in
    let w = cable_there s x.manager p t.h e.cable (Sends e) scenario at in
    elim w.2 [
      | inl q ↦ f e.cable w.0 w.1 q (same_end (sym at ∙ (sends_here s hs p x z t e.cable w.0 w.1 q up).here))
      | inr q ↦ absurd (kinds (sym at ∙ (takes_here s hs p x z t e.cable w.0 w.1 q up).here))
    ]
  where
    same_end : {o : SenderEnd} → Some (Sends e) ≡ Some (Sends o) → e ≡ o
    same_end f = cc

    kinds : {o : ReceiverEnd} → Some (Sends e) ≡ Some (Receives o) → ⊥
    kinds f = cc

-- the receiver's
pub of_receiver : (s : Scenario) (hs : List History) (p : List Line) (x : Line) (z : Stand s hs p) (t : Told_ s hs p x) (e : ReceiverEnd) → IsScenario s → (node_after s x.manager p t.h).manager.running ≡ Up → Mem (Receives e) (node_after s x.manager p t.h).own.ends
    → ((i : ℕ) (k : CableLine) → slice_at s i k → k.receiver ≡ x.manager → e ≡ receiver_of (far_at s i k) (z.xs k.sender k.channel).receiver (z.xs k.sender k.channel).kept → Moves s hs p x t.h z) → Moves s hs p x t.h z
of_receiver s hs p x z t e scenario up there f =
    let at = found_in (node_after s x.manager p t.h).own.ends (Receives e) (run_keyed s x.manager t.h (part x.manager p) scenario) there in
    let w = cable_there s x.manager p t.h e.cable (Receives e) scenario at in
    elim w.2 [
      | inl q ↦ absurd (kinds (sym at ∙ (sends_here s hs p x z t e.cable w.0 w.1 q up).here))
      | inr q ↦ f e.cable w.0 w.1 q (same_end (sym at ∙ (takes_here s hs p x z t e.cable w.0 w.1 q up).here))
    ]
  where
    same_end : {o : ReceiverEnd} → Some (Receives e) ≡ Some (Receives o) → e ≡ o
    same_end f = cc

    kinds : {o : SenderEnd} → Some (Receives e) ≡ Some (Sends o) → ⊥
    kinds f = cc

-- EACH COMMAND
pub obey_acts : (s : Scenario) (hs : List History) (wide p : List Line) (es : List ToldDeed) (x : Line) (z : Stand s hs p) (t : Told_ s hs p x) (op : Op) → Premises s hs → NoConflict s hs wide → deeds wide ≡ deeds (p ++ x ∷ []) ++ es
    → x.entry.call ≡ calls.Act (acts.Obey (lines.Operate op)) → is_stopped_call x.entry.chance ≡ false → Moves s hs p x t.h z
obey_acts s hs wide p es x z t op premises peace split call none = by_running (node_after s x.manager p t.h).manager.running refl
  where
    a : Answers_ (operate op (node_after s x.manager p t.h))
    a = answers op (node_after s x.manager p t.h)

    r : (x.entry.chance ≡ chances.Call Runs) × CanCome (operate op (node_after s x.manager p t.h)) Runs (node_after s x.manager p t.h)
    r = runs_one (operate op (node_after s x.manager p t.h)) x.entry.chance (node_after s x.manager p t.h)
        (subst (λ (c : Call). IsEvent x.entry.stamp x.entry.actor c x.entry.chance x.entry.effect.popped (node_after s x.manager p t.h)) call t.tells.event) none a.2

    ran : done_by x.entry (node_after s x.manager p t.h) ≡ done (operate op (node_after s x.manager p t.h)) Runs (node_after s x.manager p t.h)
    ran = (λ i. event x.entry.stamp x.entry.actor (call i) (r.0 i) x.entry.effect.popped (node_after s x.manager p t.h)) ∙ remembers x.entry.actor op (done (operate op (node_after s x.manager p t.h)) Runs (node_after s x.manager p t.h)) (λ m. told_same (operate op (node_after s x.manager p t.h)).reply a.0 m a.1)

    run : (node_after s x.manager p t.h).manager.running ≡ Up → IsRunning s p x t.h (operate op (node_after s x.manager p t.h))
    run up = record { up = up; is = ran; can = r.1 }

    refuses : (reason : OpRefusal) → operate op (node_after s x.manager p t.h) ≡ refused reason (node_after s x.manager p t.h).own → Moves s hs p x t.h z
    refuses reason e =
        let n : Node = node_after s x.manager p t.h in
        let same : done_by x.entry n ≡ done (refused reason n.own) Runs n = ran ∙ ap (λ (d : Deed). done d Runs n) e in
        idle_moves s hs p x t.h t.stamp z t.is t.tells t.own (ap (λ (d : Done). d.next) same ∙ ap (λ (hs : List Handler). record n { own = record n.own { handlers = hs } }) (none_forgotten n.own.handlers))
        (ap (λ (d : Done). d.delta) same) (ap (λ (d : Done). d.pushed) same)
        (none_posted s hs p x (calls.Act (acts.Obey (lines.Operate op))) (acted.Op reason) call (t.tells.reply ∙ ap (λ (d : Done). d.reply) same) (t.tells.delta ∙ ap (λ (d : Done). d.delta) same) (λ c l. refl))

    up_so : (node_after s x.manager p t.h).manager.running ≡ Up → operate op (node_after s x.manager p t.h) ≡ operate_up op (node_after s x.manager p t.h)
    up_so up = ap (λ (v : Running). refused_or (refusal (when (not (is_up v)) reasons.Down ∷ [])) (node_after s x.manager p t.h).own (operate_up op (node_after s x.manager p t.h))) up

    by_running : (v : Running) → (node_after s x.manager p t.h).manager.running ≡ v → Moves s hs p x t.h z
    by_running (Down noted starts) down = refuses reasons.Down (ap (λ (v : Running). refused_or (refusal (when (not (is_up v)) reasons.Down ∷ [])) (node_after s x.manager p t.h).own (operate_up op (node_after s x.manager p t.h))) down)
    by_running Up up = by_op op refl
      where
        ends : List ChannelEnd
        ends = (node_after s x.manager p t.h).own.ends

        by_op : (o : Op) → op ≡ o → Moves s hs p x t.h z
        by_op (ops.Start name) is = here_case name (channel_of name (node_after s x.manager p t.h).manager.definitions) ends (λ v. end_here name (node_after s x.manager p t.h) ≡ v → Moves s hs p x t.h z)
            (λ e. refuses reasons.NotFound (up_so up ∙ ap (λ (o : Op). operate_up o (node_after s x.manager p t.h)) is ∙ ap (λ (v : Option ChannelEnd). start_end v (node_after s x.manager p t.h)) e))
            (λ y w e. of_sender s hs p x z t y premises.scenario up (sender_mem name ends y w) (λ i k f q g. senders.starting s hs p x t.h t.stamp z i k name premises.scenario t.is t.tells t.own f q (call ∙ ap obeys is) r.0 (subst (λ (o : Op). IsRunning s p x t.h (operate o (node_after s x.manager p t.h))) is (run up)) (e ∙ ap (λ (v : SenderEnd). Some (Sends v)) g)))
            (λ y w e. of_receiver s hs p x z t y premises.scenario up (receiver_mem name ends y w) (λ i k f q g. receivers.starting s hs p x t.h t.stamp z i k name premises.scenario t.is t.tells t.own f q (call ∙ ap obeys is) r.0 (subst (λ (o : Op). IsRunning s p x t.h (operate o (node_after s x.manager p t.h))) is (run up)) (e ∙ ap (λ (v : ReceiverEnd). Some (Receives v)) g))) refl
        by_op (ops.Stop name) is = here_case name (channel_of name (node_after s x.manager p t.h).manager.definitions) ends (λ v. end_here name (node_after s x.manager p t.h) ≡ v → Moves s hs p x t.h z)
            (λ e. refuses reasons.NotFound (up_so up ∙ ap (λ (o : Op). operate_up o (node_after s x.manager p t.h)) is ∙ ap (λ (v : Option ChannelEnd). stop_end v (node_after s x.manager p t.h)) e))
            (λ y w e. of_sender s hs p x z t y premises.scenario up (sender_mem name ends y w) (λ i k f q g. senders.stopping s hs p x t.h t.stamp z i k name premises.scenario t.is t.tells t.own f q (call ∙ ap obeys is) r.0 (subst (λ (o : Op). IsRunning s p x t.h (operate o (node_after s x.manager p t.h))) is (run up)) (e ∙ ap (λ (v : SenderEnd). Some (Sends v)) g)))
            (λ y w e. of_receiver s hs p x z t y premises.scenario up (receiver_mem name ends y w) (λ i k f q g. receivers.stopping s hs p x t.h t.stamp z i k name premises.scenario t.is t.tells t.own f q (call ∙ ap obeys is) r.0 (subst (λ (o : Op). IsRunning s p x t.h (operate o (node_after s x.manager p t.h))) is (run up)) (e ∙ ap (λ (v : ReceiverEnd). Some (Receives v)) g))) refl
        by_op (ops.Reset name seqnum) is = here_case name (channel_of name (node_after s x.manager p t.h).manager.definitions) ends (λ v. end_here name (node_after s x.manager p t.h) ≡ v → Moves s hs p x t.h z)
            (λ e. refuses reasons.NotFound (up_so up ∙ ap (λ (o : Op). operate_up o (node_after s x.manager p t.h)) is ∙ ap (λ (v : Option ChannelEnd). reset_end seqnum v (node_after s x.manager p t.h)) e))
            (λ y w e. of_sender s hs p x z t y premises.scenario up (sender_mem name ends y w) (λ i k f q g. senders.resetting s hs p x t.h t.stamp z i k name seqnum premises.scenario t.is t.tells t.own f q (call ∙ ap obeys is) r.0 (subst (λ (o : Op). IsRunning s p x t.h (operate o (node_after s x.manager p t.h))) is (run up)) (e ∙ ap (λ (v : SenderEnd). Some (Sends v)) g)))
            (λ y w e. of_receiver s hs p x z t y premises.scenario up (receiver_mem name ends y w) (λ i k f q g. receivers.resetting s hs p x t.h t.stamp z i k name seqnum premises.scenario t.is t.tells t.own f q (call ∙ ap obeys is) r.0 (subst (λ (o : Op). IsRunning s p x t.h (operate o (node_after s x.manager p t.h))) is (run up)) (e ∙ ap (λ (v : ReceiverEnd). Some (Receives v)) g))) refl
        by_op (ops.Resolve name settle) is = by_end (sender_named name ends) refl
          where
            by_settle : (i : ℕ) (k : CableLine) (v : Settle) → settle ≡ v → slice_at s i k → k.sender ≡ x.manager → sender_named name ends ≡ Some (sender_of (near_at s i k) (z.xs k.sender k.channel).sender) → Moves s hs p x t.h z
            by_settle i k settles.Backout u f q g =
                let so : op ≡ ops.Resolve name settles.Backout = is ∙ ap (λ (v : Settle). ops.Resolve name v) u in
                resolving.backing_out s hs wide p es x t.h t.stamp z i k name premises.scenario peace split t.is t.tells t.own f q (call ∙ ap obeys so) r.0 (subst (λ (o : Op). IsRunning s p x t.h (operate o (node_after s x.manager p t.h))) so (run up)) g
            by_settle i k settles.Commit u f q g =
                let so : op ≡ ops.Resolve name settles.Commit = is ∙ ap (λ (v : Settle). ops.Resolve name v) u in
                resolving.committing s hs p x t.h t.stamp z i k name premises.scenario t.is t.tells t.own f q (call ∙ ap obeys so) r.0 (subst (λ (o : Op). IsRunning s p x t.h (operate o (node_after s x.manager p t.h))) so (run up)) g

            by_end : (v : Option SenderEnd) → sender_named name ends ≡ v → Moves s hs p x t.h z
            by_end None e = refuses reasons.NotFound (up_so up ∙ ap (λ (o : Op). operate_up o (node_after s x.manager p t.h)) is ∙ ap (λ (v : Option SenderEnd). resolve_end settle v (node_after s x.manager p t.h)) e)
            by_end (Some y) e = of_sender s hs p x z t y premises.scenario up (sender_mem name ends y e) (λ i k f q g. by_settle i k settle refl f q (e ∙ ap (λ (v : SenderEnd). Some v) g))
