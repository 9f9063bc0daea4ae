-- Each turn of an end of a channel, and each timeout, as a move of the network, whether its write is stopped or not.
use Rattle.std.proofs.Common.{ℕ, zero, suc, ◌≡◌, ◌<◌, Bool, true, false, List, [], ◌∷◌, ◌++◌, refl, ap, sym, subst, ◌∙◌, inl, inr, arith}
use Rattle.std.specs.Prelude.{Option, Some, None, if◌then◌else◌, length, slice_get}
use Rattle.std.specs.List.{All}
use Rattle.std.proofs.lemmas.List.Elements.{All-head, All-tail}
use Rattle.mq_codes.specs.declared.reason.Reason.{Reason}
use Rattle.mq_sync.specs.declared.unit.Unit.{Unit as Luw}
use Rattle.mq_frame.specs.declared.frame.Seen.{Seen}
use Rattle.mq_calls.specs.declared.choices.Choice.TheVariants.{Runs, NoMemory, Stopped}
use Rattle.mq_history.specs.declared.calls.Actor.{Actor}
use Rattle.mq_history.specs.declared.calls.Actor.TheVariants as actors
use Rattle.mq_history.specs.declared.calls.Call.{Call}
use Rattle.mq_history.specs.declared.calls.Call.TheVariants as calls
use Rattle.mq_history.specs.declared.calls.Chance.{Chance}
use Rattle.mq_history.specs.declared.calls.Chance.TheVariants as chances
use Rattle.mq_history.specs.declared.calls.Reply.{Reply}
use Rattle.mq_history.specs.declared.history.History.{History}
use Rattle.mq_history.specs.declared.scenario.CableLine.{CableLine}
use Rattle.mq_history.specs.declared.scenario.Scenario.{Scenario}
use Rattle.mq_history.specs.Scenarios.{IsCable}
use Rattle.mq_sender.specs.declared.turns.SenderDoes.{SenderDoes}
use Rattle.mq_receiver.specs.declared.turns.ReceiverDoes.{ReceiverDoes}
use Rattle.mq_receiver.specs.declared.turns.ReceiverDoes.TheVariants as takes
use Rattle.mq_calls.specs.State.{Running}
use Rattle.mq_calls.specs.State.Running.{Up, Down}
use Rattle.mq_calls.specs.Steps.{Step}
use Rattle.mq_calls.specs.Steps.Step.{Refuse, Do}
use Rattle.mq_spec_node.specs.Node.{ChannelEnd, Node, ReceiverEnd, SenderEnd, as_receiver, as_sender, end_in}
use Rattle.mq_spec_node.specs.Node.ChannelEnd.{Sends, Receives}
use Rattle.mq_spec_node.specs.Deeds.{CanCome, Deed}
use Rattle.mq_spec_node.specs.Senders.{after_timeout, sender_deed, sender_deed_by, timeout_deed}
use Rattle.mq_spec_node.specs.Receivers.{place_deed, receiver_deed, receiver_deed_by}
use Rattle.mq_spec_node.specs.Calls.{receiver_turn, sender_turn, timeout_by, timeout_of, turn_up, where_up}
use Rattle.mq_spec_node.specs.Happens.{IsDeed, IsEvent, choice_event, event}
use Rattle.mq_spec_node.specs.Replays.{done_by}
use Rattle.mq_spec_network.specs.Conflict.{Deed as ToldDeed, NoConflict, deeds}
use Rattle.mq_spec_network.specs.Promised.{Premises}
use Rattle.mq_spec_network.specs.Standing.{node_after}
use Rattle.mq_spec_network.specs.Story.{IsStory, Line, Mem}
use Rattle.mq_law_channel.specs.Channel.{Channel}
use Rattle.mq_law_node.specs.Ends.{receiver_of, sender_of}
use Rattle.mq_law_node.specs.Nodes.{unforced}
use Rattle.mq_law_node.proofs.Singles.{leave_unforced}
use Rattle.mq_law_rows.proofs.Lists.{bool_case}
use Rattle.mq_sender.specs.States.{awaits, timed_out}
use Rattle.mq_disk.specs.declared.cutter.Stop.{Stop}
use Rattle.mq_law_one.proofs.Running.{Told_}
use Rattle.mq_law_run.specs.Run.{IsRunning, Moves, Stand, far_at, is_stopped_call, near_at}
use Rattle.mq_law_run.proofs.Cabling.{cable_there}
use Rattle.mq_law_run.proofs.Cutting.{none_written}
use Rattle.mq_law_run.proofs.Halting.{EachBare, receiver_halts, sender_bare, sender_halts}
use Rattle.mq_law_run.proofs.Lining.{mem_at}
use Rattle.mq_law_run.proofs.Popping.{receivers_see, senders_see}
use Rattle.mq_law_run.proofs.Running.{sends_here, takes_here}
use Rattle.mq_law_run.proofs.Stamping.{offers_have_stamps}
use Rattle.mq_law_run.proofs.Turning.{receivers, senders, timeouts}

-- THEY TAKE NO MEMORY
abbrev EachFree : Option Deed → Type 0
EachFree None = Unit {0}
EachFree (Some d) = d.wanting ≡ None

bare_free : (o : Option Deed) → EachBare o → EachFree o
bare_free None h = tt
bare_free (Some d) h = h.1

sender_free : (stamp : ℕ) (e : SenderEnd) (does : SenderDoes) (n : Node) → EachFree (sender_deed_by stamp e does n)
sender_free stamp e does n = bare_free (sender_deed_by stamp e does n) (sender_bare stamp e does n)

place_free : (e : ReceiverEnd) (unit : Luw) (seen : Seen) (step : Step Reason (Unit {0})) (n : Node) → EachFree (Some (place_deed e unit seen step n))
place_free e unit seen (Refuse reason) n = refl
place_free e unit seen (Do reply parts) n = refl

receiver_free : (stamp : ℕ) (e : ReceiverEnd) (seen : Seen) (does : ReceiverDoes) (n : Node) → EachFree (receiver_deed_by stamp e seen does n)
receiver_free stamp e seen takes.Still n = tt
receiver_free stamp e seen takes.Ignore n = refl
receiver_free stamp e seen takes.PushOwed n = refl
receiver_free stamp e seen takes.Bind n = refl
receiver_free stamp e seen takes.Keep n = refl
receiver_free stamp e seen (takes.Place unit) n = place_free e unit seen _ n
receiver_free stamp e seen takes.Again n = refl
receiver_free stamp e seen takes.Close n = refl

if_free : (t : Bool) (d : Deed) → d.wanting ≡ None → EachFree (if t then Some d else None)
if_free true d e = e
if_free false d e = tt

timeout_free : (e : SenderEnd) (n : Node) → EachFree (timeout_deed e n)
timeout_free e n = if_free _ (after_timeout e _ n) refl

-- SO THEY RUN, where no write is stopped
record Runs_ (o : Option Deed) (chance : Chance) (n : Node) : Type 0 where
  deed : Deed
  is : o ≡ Some deed
  alone : chance ≡ chances.Call Runs
  can : CanCome deed Runs n

some_none : (r : Reply) → Some r ≡ None → ⊥
some_none r e = cc

runs : (o : Option Deed) (chance : Chance) (n : Node) → IsDeed o chance n → is_stopped_call chance ≡ false → EachFree o → Runs_ o chance n
runs None chance n can none free = absurd can
runs (Some d) (chances.Call Runs) n can none free = record { deed = d; is = refl; alone = refl; can = can }
runs (Some d) (chances.Call NoMemory) n can none free = absurd (wants d.wanting free can)
  where
    wants : (w : Option Reply) → w ≡ None → CanCome (record d { wanting = w }) NoMemory n → ⊥
    wants None e c = c
    wants (Some r) e c = some_none r e
runs (Some d) (chances.Call (Stopped by part left)) n can none free = absurd cc
runs (Some d) (chances.Restart choice) n can none free = absurd can
runs (Some d) (chances.Foreign image length left) n can none free = absurd can

-- OR A WRITE IS STOPPED
record Stops_ (o : Option Deed) (chance : Chance) (n : Node) : Type 0 where
  deed : Deed
  by : Stop
  part : ℕ
  left : ℕ
  is : o ≡ Some deed
  alone : chance ≡ chances.Call (Stopped by part left)
  can : CanCome deed (Stopped by part left) n

stops : (o : Option Deed) (chance : Chance) (n : Node) → IsDeed o chance n → is_stopped_call chance ≡ true → Stops_ o chance n
stops None chance n can some = absurd can
stops (Some d) (chances.Call (Stopped by part left)) n can some = record { deed = d; by = by; part = part; left = left; is = refl; alone = refl; can = can }
stops (Some d) (chances.Call Runs) n can some = absurd cc
stops (Some d) (chances.Call NoMemory) n can some = absurd cc
stops (Some d) (chances.Restart choice) n can some = absurd cc
stops (Some d) (chances.Foreign image length left) n can some = absurd cc

-- a timeout writes nothing
abbrev EachUnforced : Option Deed → Type 0
EachUnforced None = Unit {0}
EachUnforced (Some d) = unforced d.parts ≡ true

if_unforced : (t : Bool) (d : Deed) → unforced d.parts ≡ true → EachUnforced (if t then Some d else None)
if_unforced true d e = e
if_unforced false d e = tt

timeout_unforced : (e : SenderEnd) (n : Node) → EachUnforced (timeout_deed e n)
timeout_unforced e n = if_unforced (awaits e.machine.state) (after_timeout e (timed_out e.machine) n) (leave_unforced e.channel (timed_out e.machine).state n.manager)

-- what an entry of such a deed is
record Acts (s : Scenario) (p : List Line) (x : Line) (h : History) (o : Option Deed) : Type 0 where
  deed : Deed
  is : o ≡ Some deed
  run : IsRunning s p x h deed

acts : (s : Scenario) (hs : List History) (p : List Line) (x : Line) (t : Told_ s hs p x) (actor : Actor) (call : Call) (o : Option Deed) → (node_after s x.manager p t.h).manager.running ≡ Up → is_stopped_call x.entry.chance ≡ false → EachFree o
    → IsDeed o x.entry.chance (node_after s x.manager p t.h) → done_by x.entry (node_after s x.manager p t.h) ≡ choice_event x.entry.chance o (node_after s x.manager p t.h) → Acts s p x t.h o
acts s hs p x t actor call o up none free can same =
    let n : Node = node_after s x.manager p t.h in
    let r : Runs_ o x.entry.chance n = runs o x.entry.chance n can none free in
    record { deed = r.deed; is = r.is; run = record { up = up; is = same ∙ (λ i. choice_event (r.alone i) (r.is i) n); can = r.can } }

-- histories of a cable's managers
pub some_at : {A : Type 0} (xs : List A) (i : ℕ) → i < length xs → (x : A) × (slice_get xs i ≡ Some x)
some_at [] i e = absurd (omega (arith, e))
some_at (x ∷ xs) zero e = (x, refl)
some_at (x ∷ xs) (suc i) e = some_at xs i (omega (arith, e))

pub cable_is : (s : Scenario) (ks : List CableLine) (k : CableLine) → All (IsCable s) ks → Mem k ks → IsCable s k
cable_is s [] k h n = absurd n
cable_is s (x ∷ ks) k h (inl e) = subst (IsCable s) (sym e) (All-head (IsCable s) x ks h)
cable_is s (x ∷ ks) k h (inr n) = cable_is s ks k (All-tail (IsCable s) x ks h) n

-- A SENDER'S TURN
pub sender_acts : (s : Scenario) (hs : List History) (p rest : List Line) (x : Line) (z : Stand s hs p) (t : Told_ s hs p x) (j : ℕ) → Premises s hs → IsStory hs (p ++ x ∷ rest) → x.entry.actor ≡ actors.Sender j → x.entry.call ≡ calls.Turn → Moves s hs p x t.h z
sender_acts s hs p rest x z t j premises story actor call = by_running (node_after s x.manager p t.h).manager.running refl
  where
    can : IsDeed (where_up (node_after s x.manager p t.h).manager.running (turn_up x.entry.stamp (actors.Sender j) x.entry.effect.popped (node_after s x.manager p t.h))) x.entry.chance (node_after s x.manager p t.h)
    can = subst (λ (c : Call). IsEvent x.entry.stamp (actors.Sender j) c x.entry.chance x.entry.effect.popped (node_after s x.manager p t.h)) call
        (subst (λ (a : Actor). IsEvent x.entry.stamp a x.entry.call x.entry.chance x.entry.effect.popped (node_after s x.manager p t.h)) actor t.tells.event)

    same : done_by x.entry (node_after s x.manager p t.h) ≡ choice_event x.entry.chance (where_up (node_after s x.manager p t.h).manager.running (turn_up x.entry.stamp (actors.Sender j) x.entry.effect.popped (node_after s x.manager p t.h))) (node_after s x.manager p t.h)
    same = λ i. event x.entry.stamp (actor i) (call i) x.entry.chance x.entry.effect.popped (node_after s x.manager p t.h)

    of_cable : (k : CableLine) → (node_after s x.manager p t.h).manager.running ≡ Up → slice_get s.cables j ≡ Some k → k.sender ≡ x.manager → Moves s hs p x t.h z
    of_cable k up e q =
        let n : Node = node_after s x.manager p t.h in
        let c : Channel = z.xs k.sender k.channel in
        let own : SenderEnd = sender_of (near_at s j k) c.sender in
        let o : Option Deed = sender_deed x.entry.stamp own x.entry.effect.popped n in
        let here = (sends_here s hs p x z t j k e q up).here in
        let on : where_up n.manager.running (turn_up x.entry.stamp (actors.Sender j) x.entry.effect.popped n) ≡ o =
        ap (λ (r : Running). where_up r (turn_up x.entry.stamp (actors.Sender j) x.entry.effect.popped n)) up ∙ ap (λ (v : Option ChannelEnd). sender_turn x.entry.stamp (as_sender v) x.entry.effect.popped n) here in
        let can_here : IsDeed o x.entry.chance n = subst (λ (v : Option Deed). IsDeed v x.entry.chance n) on can in
        let same_here : done_by x.entry n ≡ choice_event x.entry.chance o n = same ∙ ap (λ (v : Option Deed). choice_event x.entry.chance v n) on in
        let see = senders_see s hs p rest x z j k story premises.lawful e q actor (λ o f w. offers_have_stamps s hs premises k.receiver o f w) in
        bool_case (is_stopped_call x.entry.chance) (λ b. is_stopped_call x.entry.chance ≡ b → Moves s hs p x t.h z)
        (λ b some.
        let v : Stops_ o x.entry.chance n = stops o x.entry.chance n can_here some in
        sender_halts s hs p x z t j k v.deed v.by v.part v.left premises.scenario e q call up (same_here ∙ (λ i. choice_event (v.alone i) (v.is i) n)) v.can v.is see)
        (λ b none.
        let a : Acts s p x t.h o = acts s hs p x t (actors.Sender j) calls.Turn o up none (sender_free x.entry.stamp own _ n) can_here same_here in
        senders s hs p x t.h t.stamp z j k a.deed premises.scenario t.is t.tells t.own e q actor call a.run a.is see) refl

    by_end : (v : Option ChannelEnd) → (node_after s x.manager p t.h).manager.running ≡ Up → end_in j (node_after s x.manager p t.h).own.ends ≡ v → IsDeed (sender_turn x.entry.stamp (as_sender v) x.entry.effect.popped (node_after s x.manager p t.h)) x.entry.chance (node_after s x.manager p t.h) → Moves s hs p x t.h z
    by_end None up e d = absurd d
    by_end (Some (Receives r)) up e d = absurd d
    by_end (Some (Sends r)) up e d =
        let w = cable_there s x.manager p t.h j (Sends r) premises.scenario e in
        elim w.2 [
          | inl q ↦ of_cable w.0 up w.1 q
          | inr q ↦ absurd (kinds (sym e ∙ (takes_here s hs p x z t j w.0 w.1 q up).here))
        ]
      where
        kinds : {a : ReceiverEnd} → Some (Sends r) ≡ Some (Receives a) → ⊥
        kinds f = cc

    by_running : (r : Running) → (node_after s x.manager p t.h).manager.running ≡ r → Moves s hs p x t.h z
    by_running (Down noted starts) down = absurd (subst (λ (r : Running). IsDeed (where_up r (turn_up x.entry.stamp (actors.Sender j) x.entry.effect.popped (node_after s x.manager p t.h))) x.entry.chance (node_after s x.manager p t.h)) down can)
    by_running Up up = by_end (end_in j (node_after s x.manager p t.h).own.ends) up refl
        (subst (λ (r : Running). IsDeed (where_up r (turn_up x.entry.stamp (actors.Sender j) x.entry.effect.popped (node_after s x.manager p t.h))) x.entry.chance (node_after s x.manager p t.h)) up can)

-- A RECEIVER'S TURN
pub receiver_acts : (s : Scenario) (hs : List History) (wide p rest : List Line) (es : List ToldDeed) (x : Line) (z : Stand s hs p) (t : Told_ s hs p x) (j : ℕ) → Premises s hs → IsStory hs (p ++ x ∷ rest) → NoConflict s hs wide → deeds wide ≡ deeds (p ++ x ∷ []) ++ es
    → x.entry.actor ≡ actors.Receiver j → x.entry.call ≡ calls.Turn → Moves s hs p x t.h z
receiver_acts s hs wide p rest es x z t j premises story peace split actor call = by_running (node_after s x.manager p t.h).manager.running refl
  where
    can : IsDeed (where_up (node_after s x.manager p t.h).manager.running (turn_up x.entry.stamp (actors.Receiver j) x.entry.effect.popped (node_after s x.manager p t.h))) x.entry.chance (node_after s x.manager p t.h)
    can = subst (λ (c : Call). IsEvent x.entry.stamp (actors.Receiver j) c x.entry.chance x.entry.effect.popped (node_after s x.manager p t.h)) call
        (subst (λ (a : Actor). IsEvent x.entry.stamp a x.entry.call x.entry.chance x.entry.effect.popped (node_after s x.manager p t.h)) actor t.tells.event)

    same : done_by x.entry (node_after s x.manager p t.h) ≡ choice_event x.entry.chance (where_up (node_after s x.manager p t.h).manager.running (turn_up x.entry.stamp (actors.Receiver j) x.entry.effect.popped (node_after s x.manager p t.h))) (node_after s x.manager p t.h)
    same = λ i. event x.entry.stamp (actor i) (call i) x.entry.chance x.entry.effect.popped (node_after s x.manager p t.h)

    of_cable : (k : CableLine) → (node_after s x.manager p t.h).manager.running ≡ Up → slice_get s.cables j ≡ Some k → k.receiver ≡ x.manager → Moves s hs p x t.h z
    of_cable k up e q =
        let n : Node = node_after s x.manager p t.h in
        let c : Channel = z.xs k.sender k.channel in
        let own : ReceiverEnd = receiver_of (far_at s j k) c.receiver c.kept in
        let o : Option Deed = receiver_deed x.entry.stamp own x.entry.effect.popped n in
        let here = (takes_here s hs p x z t j k e q up).here in
        let on : where_up n.manager.running (turn_up x.entry.stamp (actors.Receiver j) x.entry.effect.popped n) ≡ o =
        ap (λ (r : Running). where_up r (turn_up x.entry.stamp (actors.Receiver j) x.entry.effect.popped n)) up ∙ ap (λ (v : Option ChannelEnd). receiver_turn x.entry.stamp (as_receiver v) x.entry.effect.popped n) here in
        let can_here : IsDeed o x.entry.chance n = subst (λ (v : Option Deed). IsDeed v x.entry.chance n) on can in
        let same_here : done_by x.entry n ≡ choice_event x.entry.chance o n = same ∙ ap (λ (v : Option Deed). choice_event x.entry.chance v n) on in
        let see = receivers_see s hs p rest x z j k story premises.lawful e q actor (λ o f w. offers_have_stamps s hs premises k.sender o f w) in
        let g = some_at hs k.sender (subst (λ (l : ℕ). k.sender < l) (sym premises.joined.all) (cable_is s s.cables k premises.scenario.cables (mem_at s.cables j k e)).sender) in
        bool_case (is_stopped_call x.entry.chance) (λ b. is_stopped_call x.entry.chance ≡ b → Moves s hs p x t.h z)
        (λ b some.
        let v : Stops_ o x.entry.chance n = stops o x.entry.chance n can_here some in
        receiver_halts s hs p x z t j k v.deed v.by v.part v.left g.0 g.1 premises.scenario e q call up (same_here ∙ (λ i. choice_event (v.alone i) (v.is i) n)) v.can v.is see)
        (λ b none.
        let a : Acts s p x t.h o = acts s hs p x t (actors.Receiver j) calls.Turn o up none (receiver_free x.entry.stamp own x.entry.effect.popped _ n) can_here same_here in
        receivers s hs wide p es x t.h g.0 t.stamp z j k a.deed premises.scenario peace split t.is t.tells t.own e q g.1 actor call a.run a.is see) refl

    by_end : (v : Option ChannelEnd) → (node_after s x.manager p t.h).manager.running ≡ Up → end_in j (node_after s x.manager p t.h).own.ends ≡ v → IsDeed (receiver_turn x.entry.stamp (as_receiver v) x.entry.effect.popped (node_after s x.manager p t.h)) x.entry.chance (node_after s x.manager p t.h) → Moves s hs p x t.h z
    by_end None up e d = absurd d
    by_end (Some (Sends r)) up e d = absurd d
    by_end (Some (Receives r)) up e d =
        let w = cable_there s x.manager p t.h j (Receives r) premises.scenario e in
        elim w.2 [
          | inl q ↦ absurd (kinds (sym e ∙ (sends_here s hs p x z t j w.0 w.1 q up).here))
          | inr q ↦ of_cable w.0 up w.1 q
        ]
      where
        kinds : {a : SenderEnd} → Some (Receives r) ≡ Some (Sends a) → ⊥
        kinds f = cc

    by_running : (r : Running) → (node_after s x.manager p t.h).manager.running ≡ r → Moves s hs p x t.h z
    by_running (Down noted starts) down = absurd (subst (λ (r : Running). IsDeed (where_up r (turn_up x.entry.stamp (actors.Receiver j) x.entry.effect.popped (node_after s x.manager p t.h))) x.entry.chance (node_after s x.manager p t.h)) down can)
    by_running Up up = by_end (end_in j (node_after s x.manager p t.h).own.ends) up refl
        (subst (λ (r : Running). IsDeed (where_up r (turn_up x.entry.stamp (actors.Receiver j) x.entry.effect.popped (node_after s x.manager p t.h))) x.entry.chance (node_after s x.manager p t.h)) up can)

-- A TIMEOUT
pub timeout_acts : (s : Scenario) (hs : List History) (p : List Line) (x : Line) (z : Stand s hs p) (t : Told_ s hs p x) → Premises s hs → x.entry.call ≡ calls.Timeout → Moves s hs p x t.h z
timeout_acts s hs p x z t premises call = by_actor x.entry.actor refl
  where
    can : (a : Actor) → x.entry.actor ≡ a → IsDeed (where_up (node_after s x.manager p t.h).manager.running (timeout_by a (node_after s x.manager p t.h))) x.entry.chance (node_after s x.manager p t.h)
    can a actor = subst (λ (c : Call). IsEvent x.entry.stamp a c x.entry.chance x.entry.effect.popped (node_after s x.manager p t.h)) call
        (subst (λ (b : Actor). IsEvent x.entry.stamp b x.entry.call x.entry.chance x.entry.effect.popped (node_after s x.manager p t.h)) actor t.tells.event)

    no_timeout : (r : Running) → IsDeed (where_up r None) x.entry.chance (node_after s x.manager p t.h) → ⊥
    no_timeout Up d = d
    no_timeout (Down noted starts) d = d

    of_cable : (j : ℕ) (k : CableLine) → x.entry.actor ≡ actors.Sender j → (node_after s x.manager p t.h).manager.running ≡ Up → slice_get s.cables j ≡ Some k → k.sender ≡ x.manager → Moves s hs p x t.h z
    of_cable j k actor up e q =
        let n : Node = node_after s x.manager p t.h in
        let c : Channel = z.xs k.sender k.channel in
        let own : SenderEnd = sender_of (near_at s j k) c.sender in
        let o : Option Deed = timeout_deed own n in
        let here = (sends_here s hs p x z t j k e q up).here in
        let on : where_up n.manager.running (timeout_by (actors.Sender j) n) ≡ o = ap (λ (r : Running). where_up r (timeout_by (actors.Sender j) n)) up ∙ ap (λ (v : Option ChannelEnd). timeout_of (as_sender v) n) here in
        let same : done_by x.entry n ≡ choice_event x.entry.chance (where_up n.manager.running (timeout_by (actors.Sender j) n)) n = λ i. event x.entry.stamp (actor i) (call i) x.entry.chance x.entry.effect.popped n in
        let can_here : IsDeed o x.entry.chance n = subst (λ (v : Option Deed). IsDeed v x.entry.chance n) on (can (actors.Sender j) actor) in
        bool_case (is_stopped_call x.entry.chance) (λ b. is_stopped_call x.entry.chance ≡ b → Moves s hs p x t.h z)
        (λ b some.
        let v : Stops_ o x.entry.chance n = stops o x.entry.chance n can_here some in
        absurd (none_written v.part v.deed.parts (subst EachUnforced v.is (timeout_unforced own n)) v.can.0))
        (λ b none.
        let a : Acts s p x t.h o = acts s hs p x t (actors.Sender j) calls.Timeout o up none (timeout_free own n) can_here (same ∙ ap (λ (v : Option Deed). choice_event x.entry.chance v n) on) in
        timeouts s hs p x t.h t.stamp z j k a.deed premises.scenario t.is t.tells t.own e q call a.run a.is) refl

    by_end : (j : ℕ) (v : Option ChannelEnd) → x.entry.actor ≡ actors.Sender j → (node_after s x.manager p t.h).manager.running ≡ Up → end_in j (node_after s x.manager p t.h).own.ends ≡ v → IsDeed (timeout_of (as_sender v) (node_after s x.manager p t.h)) x.entry.chance (node_after s x.manager p t.h) → Moves s hs p x t.h z
    by_end j None actor up e d = absurd d
    by_end j (Some (Receives r)) actor up e d = absurd d
    by_end j (Some (Sends r)) actor up e d =
        let w = cable_there s x.manager p t.h j (Sends r) premises.scenario e in
        elim w.2 [
          | inl q ↦ of_cable j w.0 actor up w.1 q
          | inr q ↦ absurd (kinds (sym e ∙ (takes_here s hs p x z t j w.0 w.1 q up).here))
        ]
      where
        kinds : {a : ReceiverEnd} → Some (Sends r) ≡ Some (Receives a) → ⊥
        kinds f = cc

    by_running : (j : ℕ) (r : Running) → x.entry.actor ≡ actors.Sender j → (node_after s x.manager p t.h).manager.running ≡ r → Moves s hs p x t.h z
    by_running j (Down noted starts) actor down = absurd (subst (λ (r : Running). IsDeed (where_up r (timeout_by (actors.Sender j) (node_after s x.manager p t.h))) x.entry.chance (node_after s x.manager p t.h)) down (can (actors.Sender j) actor))
    by_running j Up actor up = by_end j (end_in j (node_after s x.manager p t.h).own.ends) actor up refl
        (subst (λ (r : Running). IsDeed (where_up r (timeout_by (actors.Sender j) (node_after s x.manager p t.h))) x.entry.chance (node_after s x.manager p t.h)) up (can (actors.Sender j) actor))

    by_actor : (a : Actor) → x.entry.actor ≡ a → Moves s hs p x t.h z
    by_actor (actors.Sender j) actor = by_running j (node_after s x.manager p t.h).manager.running actor refl
    by_actor (actors.Receiver j) actor = absurd (no_timeout (node_after s x.manager p t.h).manager.running (can (actors.Receiver j) actor))
    by_actor (actors.Script j) actor = absurd (no_timeout (node_after s x.manager p t.h).manager.running (can (actors.Script j) actor))
    by_actor (actors.Handler j) actor = absurd (no_timeout (node_after s x.manager p t.h).manager.running (can (actors.Handler j) actor))
    by_actor (actors.Monitor j) actor = absurd (no_timeout (node_after s x.manager p t.h).manager.running (can (actors.Monitor j) actor))
    by_actor actors.Operator actor = absurd (no_timeout (node_after s x.manager p t.h).manager.running (can actors.Operator actor))
    by_actor actors.Clock actor = absurd (no_timeout (node_after s x.manager p t.h).manager.running (can actors.Clock actor))
