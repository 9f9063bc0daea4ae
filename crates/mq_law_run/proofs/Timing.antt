-- A timeout of a sender's end, as a move of the network.
use Rattle.std.proofs.Common.{ℕ, ◌≡◌, Bool, true, false, List, [], ◌∷◌, ◌++◌, refl, ap, sym, subst, ◌∙◌}
use Rattle.std.specs.Prelude.{Option, Some, None, ◌==◌, if◌then◌else◌, slice_get}
use Rattle.mq_frame.specs.declared.frame.Frame.{Frame}
use Rattle.mq_sync.specs.declared.data.SenderData.{SenderData}
use Rattle.mq_sync.specs.Settlement.{sender_or}
use Rattle.mq_sender.specs.States as senders
use Rattle.mq_sender.specs.States.{awaits, is_running, timed_out}
use Rattle.mq_sender.specs.Table.{is_sending}
use Rattle.mq_history.specs.declared.calls.Call.TheVariants as calls
use Rattle.mq_history.specs.declared.calls.Reply.{Reply}
use Rattle.mq_history.specs.declared.calls.Reply.TheVariants as replies
use Rattle.mq_history.specs.declared.history.History.{History}
use Rattle.mq_history.specs.declared.scenario.CableLine.{CableLine}
use Rattle.mq_history.specs.declared.scenario.Scenario.{Scenario}
use Rattle.mq_history.specs.Scenarios.{IsScenario}
use Rattle.mq_calls.specs.State.{Plain}
use Rattle.mq_calls.specs.State.Running.{Up}
use Rattle.mq_calls.specs.Reads.{is_up, sender_data}
use Rattle.mq_calls.specs.Steps.{delta_of, do_all}
use Rattle.mq_spec_manager.specs.Agents.{leave}
use Rattle.mq_spec_node.specs.Node.{Node, SenderEnd}
use Rattle.mq_spec_node.specs.Deeds.{Deed, Done, parts_of}
use Rattle.mq_spec_node.specs.Senders.{after_timeout, timeout_deed}
use Rattle.mq_spec_network.specs.Ledger as ledgers
use Rattle.mq_spec_network.specs.Ledger.{Ledger, ledger, posted}
use Rattle.mq_spec_network.specs.Order.{unit_received}
use Rattle.mq_spec_network.specs.Standing.{managers_at, node_after, opening_ledger}
use Rattle.mq_spec_network.specs.Story.{Line}
use Rattle.mq_law_channel.specs.Channel.{Channel, Past}
use Rattle.mq_law_channel.specs.Turns.{sender_timed_out}
use Rattle.mq_law_manager.specs.Facts.{IsSound}
use Rattle.mq_law_node.specs.Beside.{AsideFar, AsideNear}
use Rattle.mq_law_node.specs.Ends.{EachSent, SendsAs, Where, sender_of, told_sends}
use Rattle.mq_law_node.specs.Moves.{NearStep}
use Rattle.mq_law_node.proofs.Aside.{EachApart, asides, timeouts_apart}
use Rattle.mq_law_node.proofs.FarAside.{EachFarApart, far_asides, timeouts_far}
use Rattle.mq_law_node.proofs.Named.{bool_case}
use Rattle.mq_law_node.proofs.Operators.{awaiting_apart, tried_apart}
use Rattle.mq_law_node.proofs.SenderTurns.{ends_set, leaves, leaving_batch, leaving_data}
use Rattle.mq_law_seen.specs.Seen.{world_of}
use Rattle.mq_law_events.specs.Tied.{IsNext}
use Rattle.mq_law_one.proofs.from_law_story.Weaving.{ledger_step}
use Rattle.mq_law_stopped.specs.from_law_turns.Turns.{EachForOthers, EachSound, IsAt, Scene, Turned}
use Rattle.mq_law_stopped.proofs.from_law_turns.Operating.{times_out}
use Rattle.mq_law_stopped.proofs.from_law_turns.Reading.{leaving_others, stays}
use Rattle.mq_law_deeds.proofs.Resting.{apart_batch}
use Rattle.mq_law_deeds.proofs.Sounding.{behind, timeouts_kept}
use Rattle.mq_law_one.proofs.Running.{Told_}
use Rattle.mq_law_run.specs.Run.{Moves, Stand, far_at, near_at}
use Rattle.mq_law_run.proofs.Beside.{EachAddsNone, EachOfEnd, parts_beside, timeouts_add, timeouts_of_end}
use Rattle.mq_law_run.proofs.Cabled.{parts_cabled}
use Rattle.mq_law_run.proofs.Lining.{else_index}
use Rattle.mq_law_run.proofs.Running.{IsRun, run_next, scene, sender_at, sends_here, sound_at}
use Rattle.mq_law_run.proofs.Sending.{none_committed_now, none_forced_now, step_moves}

abbrev EachOut : Scene → Plain → Option Deed → Channel → Past → Type 0
EachOut z p None x y = Unit {0}
EachOut z p (Some d) x y = (rs : List Plain) → IsNext z.sender p (do_all d.parts p) z.managers rs → Turned z (world_of z.scenario z.given rs) x y

out_so : (z : Scene) (n : Node) (x : Channel) (y : Past) → IsAt z n x y → EachOut z n.manager (timeout_deed (sender_of z.place x.sender) n) (sender_timed_out x) y
out_so z n x y a = bool_case (awaits x.sender.state) (λ b. EachOut z n.manager (if b then Some (after_timeout (sender_of z.place x.sender) (timed_out x.sender) n) else None) (sender_timed_out x) y)
    (λ e rs h. times_out z n x y (timed_out x.sender).state rs a h) (λ e. tt)

sent_so : (w : Where) (n : Node) (c : Channel) → SendsAs w n c → is_up n.manager.running ≡ true → EachSent w n (timeout_deed (sender_of w c.sender) n) c.out (sender_timed_out c)
sent_so w n c h up = bool_case (awaits c.sender.state)
    (λ b. awaits c.sender.state ≡ b → EachSent w n (if b then Some (after_timeout (sender_of w c.sender) (timed_out c.sender) n) else None) c.out (sender_timed_out c))
    (λ e z. leaves w n (after_timeout (sender_of w c.sender) (timed_out c.sender) n) c c.sends (timed_out c.sender) c.batch c.out up
    (ends_set w n (timed_out c.sender) c.sender h.here)
    (h.data_ ∙ ap (λ (o : Option SenderData). told_sends (sender_or o)) (sym (leaving_data w.channel (timed_out c.sender).state n.manager (sender_data w.channel n.manager))))
    (λ y. absurd (cc (y, ap (λ (b : Bool). is_sending (if b then senders.tried_again c.sender else c.sender).state) z ∙ tried_apart c.sender)))
    (λ y. leaving_batch w.channel (timed_out c.sender).state n.manager _ ∙ h.unbatched (awaiting_apart c.sender.state z))
    refl)
    (λ e z. tt) refl

abbrev EachSilent : Option Deed → Type 0
EachSilent None = Unit {0}
EachSilent (Some d) = (delta_of d.parts ≡ []) × (d.pushed ≡ None)

silent_so : (e : SenderEnd) (n : Node) → EachSilent (timeout_deed e n)
silent_so e n = bool_case (awaits e.machine.state) (λ b. EachSilent (if b then Some (after_timeout e (timed_out e.machine) n) else None))
    (λ z. (bool_case (is_running (timed_out e.machine).state) (λ b. delta_of (if b then [] else parts_of (leave e.channel n.manager)) ≡ []) (λ f. refl) (λ f. refl), refl)) (λ z. tt)

others_so : (c : List ℕ) (e : SenderEnd) (n : Node) → EachForOthers c (timeout_deed e n)
others_so c e n = bool_case (awaits e.machine.state) (λ b. EachForOthers c (if b then Some (after_timeout e (timed_out e.machine) n) else None)) (λ z. leaving_others c e.channel (timed_out e.machine).state n.manager) (λ z. tt)

near_else : (v : Where) (e : SenderEnd) (n : Node) (d : Deed) → timeout_deed e n ≡ Some d → (e.cable == v.cable) ≡ false → IsSound n.manager → IsSound (do_all d.parts n.manager) → AsideNear v n d
near_else v e n d is cable before after =
    let a : EachApart v n (Some d) = subst (EachApart v n) is (timeouts_apart v e n cable) in
    asides v n d a.0 a.1 (stays v.channel n.manager d.parts before after (apart_batch v n d a.1) (subst (EachForOthers v.channel) is (others_so v.channel e n)))

far_else : (v : Where) (e : SenderEnd) (n : Node) (d : Deed) → timeout_deed e n ≡ Some d → (e.cable == v.cable) ≡ false → AsideFar v n d
far_else v e n d is cable = let a : EachFarApart v n (Some d) = subst (EachFarApart v n) is (timeouts_far v e n cable) in far_asides v n d a.0 a.1

pub timeout_run : (s : Scenario) (hs : List History) (p : List Line) (x : Line) (z : Stand s hs p) (t : Told_ s hs p x) (e : SenderEnd) (d : Deed) → (node_after s x.manager p t.h).manager.running ≡ Up → timeout_deed e (node_after s x.manager p t.h) ≡ Some d
    → IsSound (do_all d.parts (node_after s x.manager p t.h).manager)
timeout_run s hs p x z t e d up is =
    let n : Node = node_after s x.manager p t.h in
    let sound : IsSound n.manager = sound_at s hs p x z t up in
    behind d.parts n.manager sound (subst (EachSound n.manager) is (timeouts_kept e n sound))

pub timeout_moves : (s : Scenario) (hs : List History) (p : List Line) (x : Line) (z : Stand s hs p) (t : Told_ s hs p x) (i : ℕ) (k : CableLine) (d : Deed) → IsScenario s → slice_get s.cables i ≡ Some k → k.sender ≡ x.manager → x.entry.call ≡ calls.Timeout → IsRun s hs p x t d
    → timeout_deed (sender_of (near_at s i k) (z.xs k.sender k.channel).sender) (node_after s x.manager p t.h) ≡ Some d → Moves s hs p x t.h z
timeout_moves s hs p x z t i k d scenario e q call r is =
    let m : ℕ = x.manager in
    let n : Node = node_after s m p t.h in
    let l : Ledger = ledger (opening_ledger s hs) p in
    let w : Where = near_at s i k in
    let c : Channel = z.xs k.sender k.channel in
    let y : Past = z.ys k.sender k.channel in
    let sends : SendsAs w n c = sends_here s hs p x z t i k e q r.up in
    let zz : Scene = scene s hs p z k w in
    let next = run_next s hs p x t d k.sender r q in
    let at : IsAt zz n c y = sender_at s hs p x z t i k d e q r in
    let ends : EachOfEnd (Some d) = subst EachOfEnd is (timeouts_of_end (sender_of w c.sender) n) in
    let silent : EachSilent (Some d) = subst EachSilent is (silent_so (sender_of w c.sender) n) in
    let reply : x.entry.reply ≡ replies.Changed = t.tells.reply ∙ ap (λ (o : Done). o.reply) r.is ∙ ends.1 in
    let delta : x.entry.effect.delta ≡ [] = t.tells.delta ∙ ap (λ (o : Done). o.delta) r.is ∙ silent.0 in
    step_moves s hs p x z t i k d None NearStep.TimeOut scenario e q (record {
      run = r;
      may = tt;
      turned = (subst (λ (o : Option Deed). EachOut zz n.manager o (sender_timed_out c) y) is (out_so zz n c y at)) (managers_at s (p ++ x ∷ []) hs) next;
      sent = subst (λ (o : Option Deed). EachSent w n o c.out (sender_timed_out c)) is (sent_so w n c sends (ap is_up r.up));
      beside = parts_beside d.parts n.manager ends.0.0;
      whole = ledger_step (opening_ledger s hs) p x ∙ ap (λ (o : Reply). posted m x.entry o l) reply
          ∙ (λ j. ledgers.post_call m (call j) x.entry.reply x.entry.effect.received (delta j) (ledgers.take_all_gone m (delta j) l));
      quiet = ap unit_received delta;
      tells = λ h. record { undone = h.undone; last = h.last };
      cabled = parts_cabled s.cables m d.parts n.manager (subst EachAddsNone is (timeouts_add (sender_of w c.sender) n)) (z.cabled m t.h t.is);
      near = λ j h f out a. near_else (near_at s j h) (sender_of w c.sender) n d is (else_index s i j k h e f out) r.before r.after;
      far = λ j h f out a. far_else (far_at s j h) (sender_of w c.sender) n d is (else_index s i j k h e f out);
      offers = λ j f by_ push. absurd (no_frame f (sym silent.1 ∙ push));
      answers = λ j f by_ push. no_frame f (sym silent.1 ∙ push);
      forces = none_forced_now (world_of s z.given (managers_at s p hs)) k.sender k.channel x.entry.effect.delta;
      committed = none_committed_now s hs p x k;
    })
  where
    no_frame : (f : Frame) → None ≡ Some f → ⊥
    no_frame f e = cc
