-- A turn of a sender's end that runs and removes no expired rows, as a move of the network.
use Rattle.std.proofs.Common.{ℕ, ◌≡◌, true, false, List, [], ◌∷◌, ◌++◌, refl, ap, sym, subst, ◌∙◌, inl, inr, take}
use Rattle.std.specs.Prelude.{Option, Some, None, ◌==◌, if◌then◌else◌, slice_get}
use Rattle.std.specs.Str.{bytes_eq}
use Rattle.mq_message.specs.declared.message.Ident.{Ident}
use Rattle.mq_message.specs.declared.place.Holder.TheVariants as holders
use Rattle.mq_frame.specs.declared.frame.Frame.{Frame}
use Rattle.mq_frame.specs.declared.frame.Seen.{Seen}
use Rattle.mq_sync.specs.declared.unit.Unit.{Unit as Luw}
use Rattle.mq_sync.specs.declared.data.ReceiverData.{ReceiverData}
use Rattle.mq_sync.specs.Units.{unit_named}
use Rattle.mq_sync.specs.declared.data.Stock.{Stock}
use Rattle.mq_sender.specs.declared.state.SenderState.{SenderState}
use Rattle.mq_sender.specs.declared.state.SenderState.TheVariants.{Sending}
use Rattle.mq_sender.specs.declared.turns.SenderDoes.{SenderDoes}
use Rattle.mq_sender.specs.declared.turns.SenderDoes.TheVariants as does
use Rattle.mq_sender.specs.declared.turns.SenderOut.TheVariants as outs
use Rattle.mq_sender.specs.After.{sender_after}
use Rattle.mq_sender.specs.Table.{is_idle, is_sending, sender_next}
use Rattle.mq_calls.specs.declared.choices.Choice.TheVariants.{Runs}
use Rattle.mq_calls.specs.declared.agents.Note.TheVariants as notes
use Rattle.mq_calls.specs.declared.deltas.Did.{Did}
use Rattle.mq_calls.specs.declared.deltas.Did.TheVariants as did
use Rattle.mq_calls.specs.declared.state.Batch.{Batch}
use Rattle.mq_history.specs.declared.calls.Actor.{Actor}
use Rattle.mq_history.specs.declared.calls.Actor.TheVariants as actors
use Rattle.mq_history.specs.declared.calls.Call.TheVariants as calls
use Rattle.mq_history.specs.declared.calls.Entry.{Entry}
use Rattle.mq_history.specs.declared.calls.Reply.{Reply}
use Rattle.mq_history.specs.declared.calls.Reply.TheVariants as replies
use Rattle.mq_history.specs.declared.history.History.{History}
use Rattle.mq_history.specs.declared.scenario.CableLine.{CableLine}
use Rattle.mq_history.specs.declared.scenario.Scenario.{Scenario}
use Rattle.mq_history.specs.Scenarios.{IsScenario}
use Rattle.mq_calls.specs.State.{Plain, Running}
use Rattle.mq_calls.specs.State.Running.{Up}
use Rattle.mq_calls.specs.State.Which.{Among as Named}
use Rattle.mq_calls.specs.State.Change.{Hold}
use Rattle.mq_calls.specs.Reads.{batch_of, free_rows, is_up, stored}
use Rattle.mq_calls.specs.Changes.{apply}
use Rattle.mq_calls.specs.Steps.{delta_of, do_all}
use Rattle.mq_spec_manager.specs.Get.{idents_of}
use Rattle.mq_spec_manager.specs.Agents.{hold_batch, queue_of_sender, stock}
use Rattle.mq_spec_node.specs.Node.{Node, SenderEnd}
use Rattle.mq_spec_node.specs.Deeds.{Deed, Done, done, parts_of}
use Rattle.mq_spec_node.specs.Senders.{leave_if_stopped, sender_deed, sender_deed_by}
use Rattle.mq_spec_network.specs.Conflict.{deeds, deeds_in, is_committed}
use Rattle.mq_spec_network.specs.Ledger as ledgers
use Rattle.mq_spec_network.specs.Ledger.{Ledger, ledger, posted, take_all_gone}
use Rattle.mq_spec_network.specs.Order.{unit_received}
use Rattle.mq_spec_network.specs.Standing.{managers_at, node_after, opening_ledger, opening_managers}
use Rattle.mq_spec_network.specs.Story.{Line, Mem}
use Rattle.mq_law_channel.specs.Channel.{Channel, Facts, Past}
use Rattle.mq_law_channel.specs.Turns.{SeenIn, SenderTurn, sender_past, sender_turn}
use Rattle.mq_law_manager.specs.Facts.{IsSound}
use Rattle.mq_law_manager.proofs.Untouched.{parts_running}
use Rattle.mq_law_node.specs.Beside.{AsideFar, AsideNear}
use Rattle.mq_law_node.specs.Ends.{EachSent, Guard, SendsAs, Sent, Where, offering, sender_of, turn_of}
use Rattle.mq_law_node.specs.Moves.{NearMay, NearStep, near_does, near_past}
use Rattle.mq_law_node.specs.Nodes.{NearAt}
use Rattle.mq_law_node.proofs.Aside.{EachApart, asides, turns_apart}
use Rattle.mq_law_node.proofs.FarAside.{EachFarApart, far_asides, senders_far}
use Rattle.mq_law_node.proofs.Freezing.{near_far}
use Rattle.mq_law_node.proofs.Moving.{near_keeps}
use Rattle.mq_law_node.proofs.Pairs.{offering_among}
use Rattle.mq_law_node.proofs.SenderTable.{may_turn, turns_as}
use Rattle.mq_law_node.proofs.SenderTurns.{guarded}
use Rattle.mq_law_rows.specs.Families.{put_at}
use Rattle.mq_law_rows.proofs.Lists.{eqb_self, here_self, true_false}
use Rattle.mq_law_seen.specs.Seen.{book_of, world_of}
use Rattle.mq_law_one.proofs.from_law_story.Weaving.{ledger_step}
use Rattle.mq_law_stopped.specs.from_law_turns.Agreed.{IsToldOf}
use Rattle.mq_law_stopped.specs.from_law_turns.Turns.{EachForOthers, EachPosted, EachSound, EachTurned, IsAlone, Scene, TurnedBy, is_expiry}
use Rattle.mq_law_deeds.proofs.from_law_keys.Telling.{end_mem}
use Rattle.mq_law_deeds.proofs.from_law_unshared.Alone.{seized_alone}
use Rattle.mq_spec_node.specs.Node.ChannelEnd.{Sends}
use Rattle.mq_law_stopped.proofs.from_law_turns.Agreeing.{grows, sender_tells}
use Rattle.mq_law_stopped.proofs.from_law_turns.Posting.{EachPassed, posts, receives_nothing, sender_passes}
use Rattle.mq_law_stopped.proofs.from_law_turns.Reading.{senders_others, stays}
use Rattle.mq_law_stopped.proofs.from_law_turns.Sending as sending
use Rattle.mq_law_stopped.proofs.from_law_turns.Sounds.{senders_sound}
use Rattle.mq_law_cables.specs.Joints.{AreCabled}
use Rattle.mq_law_cables.proofs.Differing.{leads}
use Rattle.mq_law_cables.proofs.Keeping.{turned_joint}
use Rattle.mq_law_deeds.proofs.Resting.{apart_batch}
use Rattle.mq_law_deeds.proofs.Sounding.{behind}
use Rattle.mq_law_one.proofs.Running.{Told_}
use Rattle.mq_law_stopped.specs.Noted.{IsForcing}
use Rattle.mq_law_run.specs.Ordered.{IsForcedNow, forced_over}
use Rattle.mq_law_run.specs.Run.{IsMoved, Moves, Stand, far_at, near_at}
use Rattle.mq_law_run.proofs.Beside.{EachAddsNone, EachOfEnd, IsBeside, distinct_of, leave_adds, parts_beside, senders_add, senders_of_end}
use Rattle.mq_law_run.proofs.Cabled.{add_cabled, parts_cabled, same_batches}
use Rattle.mq_law_run.proofs.Later.{near_later}
use Rattle.mq_law_run.proofs.Listing.{forcing_told, quiet_order}
use Rattle.mq_law_run.proofs.Lining.{all_moved, else_channel, else_index, here, left_aside, mem_at, same_cable, units_put}
use Rattle.mq_law_run.proofs.Running.{IsRun, beside_at, beside_counted, joint_here, move_to, operated_before, run_next, scene, sends_here, sent_kept, sound_at, takes_here, told_all}
use Rattle.mq_law_run.proofs.Telling.{deeds_more, none_committed, risen_still, still_not, told_before}
use Rattle.mq_law_rows.specs.World.{World}

-- BATCHES
idle_not : (st : SenderState) → is_idle st ≡ true → is_sending st ≡ false
idle_not (Sending sent number) e = absurd cc
idle_not st e = refl

abbrev pub IsFree : List ℕ → Plain → SenderDoes → Type 0
IsFree c p (does.Begin k count) = batch_of c p.channels.batches ≡ None
IsFree c p _ = Unit {0}

pub free_of : (w : Where) (n : Node) (c : Channel) (st : Stock) (d : SenderDoes) → SendsAs w n c → Guard c.sender st d → IsFree w.channel n.manager d
free_of w n c st (does.Begin k count) h g = h.unbatched (idle_not c.sender.state g.0)
free_of w n c st d h g = tt

abbrev pub EachCabled : List CableLine → ℕ → Plain → Option Deed → Type 0
EachCabled ks m p None = Unit {0}
EachCabled ks m p (Some d) = AreCabled ks m (do_all d.parts p)

each_cabled : (ks : List CableLine) (m : ℕ) (p : Plain) (o : Option Deed) → EachAddsNone o → AreCabled ks m p → EachCabled ks m p o
each_cabled ks m p None e h = tt
each_cabled ks m p (Some d) e h = parts_cabled ks m d.parts p e h

pub cabled_by : (ks : List CableLine) (m : ℕ) (stamp : ℕ) (e : SenderEnd) (d : SenderDoes) (n : Node) → IsFree e.channel n.manager d → ((k : CableLine) × Mem k ks × (k.sender ≡ m) × (k.channel ≡ e.channel)) → AreCabled ks m n.manager
    → EachCabled ks m n.manager (sender_deed_by stamp e d n)
cabled_by ks m stamp e (does.Begin k count) n free there h =
    let p : Plain = n.manager in
    let u : Luw = unit_named e.machine.kept.session k in
    let q : List ℕ = queue_of_sender e.channel p in
    let is : List Ident = idents_of (take count (free_rows q p)) in
    let b : Batch = record { channel = e.channel; unit = u; queue = q; idents = is } in
    let r : Plain = apply (Hold (Named q is) (holders.Batch e.channel)) p in
    parts_cabled ks m (leave_if_stopped e.channel (sender_after e.machine (does.Begin k count) outs.Done).state p) (do_all (parts_of (hold_batch e.channel (unit_named e.machine.kept.session k) count p)) p)
    (leave_adds e.channel (sender_after e.machine (does.Begin k count) outs.Done).state p)
    (add_cabled ks m b r free there (same_batches ks m p r refl h))
cabled_by ks m stamp e d n free there h = each_cabled ks m n.manager (sender_deed_by stamp e d n) (senders_add stamp e d n refl) h

-- AN ACTOR
abbrev pub sender_number : Actor → Option ℕ
sender_number (actors.Sender i) = Some i
sender_number _ = None

pub same_number : (a i : ℕ) → Some a ≡ Some i → a ≡ i
same_number a i e = cc

pub none_number : (i : ℕ) → None ≡ Some i → ⊥
none_number i e = cc

-- WHAT IS POSTED: nothing
posted_so : (m : ℕ) (e : Entry) (l : Ledger) (d : Deed) → e.call ≡ calls.Turn → e.reply ≡ replies.Changed → e.effect.delta ≡ delta_of d.parts → EachPosted m l (Some d) → posted m e e.reply l ≡ l
posted_so m e l d call reply delta post =
    ap (λ (r : Reply). posted m e r l) reply
    ∙ (λ i. ledgers.post_call m (call i) e.reply e.effect.received (delta i) (take_all_gone m (delta i) l))
    ∙ post e.reply e.effect.received

received_unit : (ds : List Did) → ledgers.received_on ds ≡ None → unit_received ds ≡ None
received_unit [] e = refl
received_unit (did.Received c u ∷ ds) e = absurd cc
received_unit (did.Placed q i dead ∷ ds) e = received_unit ds e
received_unit (did.Removed q i why ∷ ds) e = received_unit ds e
received_unit (did.Moved q i to target bare ∷ ds) e = received_unit ds e
received_unit (did.Held q i by_ ∷ ds) e = received_unit ds e
received_unit (did.Released q i ∷ ds) e = received_unit ds e
received_unit (did.Hardened c note ∷ ds) e = received_unit ds e
received_unit (did.Prepared c u ∷ ds) e = received_unit ds e

-- OTHER ENDS
pub near_else : (v : Where) (stamp : ℕ) (e : SenderEnd) (seen : Seen) (n : Node) (d : Deed) → sender_deed stamp e seen n ≡ Some d → (e.cable == v.cable) ≡ false → bytes_eq v.channel e.channel ≡ false → IsSound n.manager → IsSound (do_all d.parts n.manager) → AsideNear v n d
near_else v stamp e seen n d is cable other before after =
    let a : EachApart v n (Some d) = subst (EachApart v n) is (turns_apart v stamp e seen n cable other) in
    let f : EachForOthers v.channel (Some d) = subst (EachForOthers v.channel) is (senders_others v.channel stamp e (sender_next e.machine seen (stock e.channel n.manager)) n other) in
    asides v n d a.0 a.1 (stays v.channel n.manager d.parts before after (apart_batch v n d a.1) f)

pub far_else : (v : Where) (stamp : ℕ) (e : SenderEnd) (seen : Seen) (n : Node) (d : Deed) → sender_deed stamp e seen n ≡ Some d → (e.cable == v.cable) ≡ false → AsideFar v n d
far_else v stamp e seen n d is cable = let a : EachFarApart v n (Some d) = subst (EachFarApart v n) is (senders_far v stamp e seen n cable) in far_asides v n d a.0 a.1

pub sender_run : (s : Scenario) (hs : List History) (p : List Line) (x : Line) (z : Stand s hs p) (t : Told_ s hs p x) (i : ℕ) (k : CableLine) (d : Deed) → slice_get s.cables i ≡ Some k → k.sender ≡ x.manager → (node_after s x.manager p t.h).manager.running ≡ Up
    → sender_deed x.entry.stamp (sender_of (near_at s i k) (z.xs k.sender k.channel).sender) x.entry.effect.popped (node_after s x.manager p t.h) ≡ Some d → SeenIn x.entry.effect.popped (z.xs k.sender k.channel).back
    → IsSound (do_all d.parts (node_after s x.manager p t.h).manager)
sender_run s hs p x z t i k d e q up is offered =
    let n : Node = node_after s x.manager p t.h in
    let w : Where = near_at s i k in
    let c : Channel = z.xs k.sender k.channel in
    let sound : IsSound n.manager = sound_at s hs p x z t up in
    behind d.parts n.manager sound (subst (EachSound n.manager) is (senders_sound w n c (z.ys k.sender k.channel) x.entry.stamp x.entry.effect.popped (sends_here s hs p x z t i k e q up) (z.lines i k e).facts sound offered))

-- A STEP OF A SENDER'S END, whatever asks for it: what is given of it
pub record IsStep (s : Scenario) (hs : List History) (p : List Line) (x : Line) (z : Stand s hs p) (t : Told_ s hs p x) (i : ℕ) (k : CableLine) (d : Deed) (o : Option Luw) (step : NearStep) : Type 0 where
  pub run : IsRun s hs p x t d
  pub may : NearMay step (z.xs k.sender k.channel)
  pub turned : TurnedBy o (scene s hs p z k (near_at s i k)) (world_of s z.given (managers_at s (p ++ x ∷ []) hs)) (near_does step (z.xs k.sender k.channel)) (near_past step (z.xs k.sender k.channel) (z.ys k.sender k.channel))
  pub sent : Sent (near_at s i k) (node_after s x.manager p t.h) d (z.xs k.sender k.channel).out (near_does step (z.xs k.sender k.channel))
  pub beside : IsBeside (node_after s x.manager p t.h).manager (do_all d.parts (node_after s x.manager p t.h).manager)
  pub whole : ledger (opening_ledger s hs) (p ++ x ∷ []) ≡ ledger (opening_ledger s hs) p
  pub quiet : unit_received x.entry.effect.delta ≡ None
  pub tells : IsToldOf s (opening_managers s hs) (deeds p ++ deeds_in x.manager x.entry.effect.delta) k.sender k.channel (z.xs k.sender k.channel) (z.ys k.sender k.channel)
      → IsToldOf s (opening_managers s hs) (deeds p ++ deeds_in x.manager x.entry.effect.delta) k.sender k.channel (near_does step (z.xs k.sender k.channel)) (near_past step (z.xs k.sender k.channel) (z.ys k.sender k.channel))
  pub cabled : AreCabled s.cables x.manager (do_all d.parts (node_after s x.manager p t.h).manager)
  pub near : (j : ℕ) (h : CableLine) → slice_get s.cables j ≡ Some h → here k h ≡ false → h.sender ≡ x.manager → AsideNear (near_at s j h) (node_after s x.manager p t.h) d
  pub far : (j : ℕ) (h : CableLine) → slice_get s.cables j ≡ Some h → here k h ≡ false → h.receiver ≡ x.manager → AsideFar (far_at s j h) (node_after s x.manager p t.h) d
  pub offers : (j : ℕ) (f : Frame) → x.entry.actor ≡ actors.Sender j → d.pushed ≡ Some f → j ≡ i
  pub answers : (j : ℕ) (f : Frame) → x.entry.actor ≡ actors.Receiver j → d.pushed ≡ Some f → ⊥
  pub forces : (u : Luw) → o ≡ Some u → IsForcing (world_of s z.given (managers_at s p hs)) k.sender k.channel u x.entry.effect.delta
  pub committed : (u : Luw) → o ≡ Some u → Mem (record { manager = k.sender; did = did.Hardened k.channel (notes.Resolved u true true) }) (deeds (p ++ x ∷ [])) × (is_committed s (opening_managers s hs) (deeds (p ++ x ∷ [])) k.channel u ≡ false)

pub step_moves : (s : Scenario) (hs : List History) (p : List Line) (x : Line) (z : Stand s hs p) (t : Told_ s hs p x) (i : ℕ) (k : CableLine) (d : Deed) (o : Option Luw) (step : NearStep) → IsScenario s → slice_get s.cables i ≡ Some k → k.sender ≡ x.manager
    → IsStep s hs p x z t i k d o step → Moves s hs p x t.h z
step_moves s hs p x z t i k d o step scenario e q v =
    let m : ℕ = x.manager in
    let n : Node = node_after s m p t.h in
    let l : Ledger = ledger (opening_ledger s hs) p in
    let w : Where = near_at s i k in
    let c : Channel = z.xs k.sender k.channel in
    let y : Past = z.ys k.sender k.channel in
    let c1 : Channel = near_does step c in
    let y1 : Past = near_past step c y in
    let there : Mem k s.cables = mem_at s.cables i k e in
    let zz : Scene = scene s hs p z k w in
    let ms : List Plain = managers_at s (p ++ x ∷ []) hs in
    let r : IsRun s hs p x t d = v.run in
    let pushed : x.entry.effect.pushed ≡ d.pushed = t.tells.pushed ∙ ap (λ (a : Done). a.pushed) r.is in
    let mine : IsMoved s m (done d Runs n).next i k c c1 y1 = record {
      facts = near_keeps step c y (z.lines i k e).facts v.may;
      near = λ a. (
        subst (λ (b : Running). NearAt w (done d Runs n).next c1 b) (sym (parts_running d.parts n.manager ∙ r.up)) v.sent.sends,
        near_far step c,
        λ f j. subst (λ (fs : List Frame). Mem f fs) v.sent.offers (offering_among d.pushed c.out f j),
      );
      far = λ a. absurd ((z.joint.tied k there).apart (a ∙ sym q));
      later = λ a. near_later step c y (z.lines i k e).facts;
      else = λ a b. absurd (true_false (sym (ap (λ b. b == m) q ∙ eqb_self m) ∙ a));
    } in
    move_to s hs p x t.h z (done d Runs n) l r.is v.whole (record {
      given = z.given;
      ghost = v.turned.ghost;
      xs = put_at z.xs k.sender k.channel c1;
      ys = put_at z.ys k.sender k.channel y1;
      joint = turned_joint zz (world_of s z.given ms) c1 y1 s.cables z.xs z.ys v.turned (leads s k scenario there) z.joint;
      moved = all_moved s m (done d Runs n).next i k c1 y1 z.xs z.ys scenario e mine
          (λ j h f out. left_aside s m n j h (z.xs h.sender h.channel) (z.ys h.sender h.channel) d Runs r.up (z.lines j h f).facts r.can
          (λ a. (sends_here s hs p x z t j h f a r.up, v.near j h f out a))
          (λ a. (takes_here s hs p x z t j h f a r.up, v.far j h f out a)));
      out = λ j h f g a by_ push.
          let same : k ≡ h = same_cable s i j k h e g (sym (v.offers j f by_ (sym pushed ∙ push))) in
          subst (λ (b : CableLine). Mem f (put_at z.xs k.sender k.channel c1 b.sender b.channel).out) same
          (subst (λ (b : Channel). Mem f b.out) (sym (put_here c1))
          (subst (λ (fs : List Frame). Mem f fs) v.sent.offers (subst (λ (b : Option Frame). Mem f (offering b c.out)) (sym push ∙ pushed) (inl refl))));
      back = λ j h f g a by_ push. absurd (v.answers j f by_ (sym pushed ∙ push));
      told = λ h n_. subst (λ ds. IsToldOf s (opening_managers s hs) ds h.sender h.channel (put_at z.xs k.sender k.channel c1 h.sender h.channel) (put_at z.ys k.sender k.channel y1 h.sender h.channel)) (sym (deeds_more p x))
          (told_all s (opening_managers s hs) (deeds p) (deeds_in m x.entry.effect.delta) k c1 y1 z.xs z.ys
          (v.tells (grows s (opening_managers s hs) (deeds p) (deeds_in m x.entry.effect.delta) k.sender k.channel c y (z.told k there))) z.told h n_);
      resolved = λ a b u f. elim (operated_before zz (world_of s z.given ms) c1 y1 v.turned a b u f) [
        | inl old ↦ told_before p x _ (z.resolved a b u old)
        | inr new ↦ resolved_here a b u (v.committed u new.0).0 new.1 new.2
      ];
      not_yet = λ a b u f. elim (operated_before zz (world_of s z.given ms) c1 y1 v.turned a b u f) [
        | inl old ↦ still_not s (opening_managers s hs) p x b u (none_committed b u m x.entry.effect.delta v.quiet) (z.not_yet a b u old)
        | inr new ↦ subst (λ b. is_committed s (opening_managers s hs) (deeds (p ++ x ∷ [])) b u ≡ false) (sym new.2) (v.committed u new.0).1
      ];
      risen = λ h w. risen_still s (opening_managers s hs) p x h.channel (z.xs h.sender h.channel).receives.unit (put_at z.xs k.sender k.channel c1 h.sender h.channel).receives.unit v.quiet (units_put z.xs k h c1 (ap (λ (r : ReceiverData). r.unit) (near_far step c).receives)) (z.risen h w);
      owned = λ a b u f. elim (operated_before zz (world_of s z.given ms) c1 y1 v.turned a b u f) [
        | inl old ↦ z.owned a b u old
        | inr new ↦ (i, k, e, sym new.1, sym new.2)
      ];
      loose = λ a b u f. v.turned.loose a b u f;
      at = beside_at s hs p x z t d l r refl v.beside;
      known = λ i_ f. refl;
      others = λ a b f h. h;
      users = λ a f. refl;
      counted = beside_counted s hs p x z t d l refl v.beside;
      cabled = v.cabled;
      housed = λ a w f. (w, f);
      listed = λ a b u f. elim (operated_before zz (world_of s z.given ms) c1 y1 v.turned a b u f) [
        | inl old ↦ inl (record { operated = old; sent = sent_kept zz (world_of s z.given ms) c1 y1 v.turned a b u f; rows = λ i_ n no_ g. no_ g })
        | inr new ↦ inr (subst (λ w. IsForcedNow v.turned.ghost x.entry.effect.delta (book_of l).rows w b u) (sym new.1) (subst (λ w. IsForcedNow v.turned.ghost x.entry.effect.delta (book_of l).rows k.sender w u) (sym new.2)
            (forcing_told (world_of s z.given (managers_at s p hs)) z.ghost v.turned.ghost (book_of l) k.sender k.channel u x.entry.effect.delta z.joint.inv (v.forces u new.0)
            (v.turned.kept u (subst (λ w. v.turned.ghost.operated k.sender w u ≡ true) new.2 (subst (λ w. v.turned.ghost.operated w b u ≡ true) new.1 f))))))
      ];
      order = quiet_order (forced_over [] p) x l l v.quiet;
    })
  where
    put_here : (c1 : Channel) → put_at z.xs k.sender k.channel c1 k.sender k.channel ≡ c1
    put_here c1 = ap (λ b. if b then c1 else z.xs k.sender k.channel) (here_self k.sender k.channel)

    resolved_here : (a : ℕ) (b : List ℕ) (u : Luw) → Mem (record { manager = k.sender; did = did.Hardened k.channel (notes.Resolved u true true) }) (deeds (p ++ x ∷ [])) → a ≡ k.sender → b ≡ k.channel
        → Mem (record { manager = a; did = did.Hardened b (notes.Resolved u true true) }) (deeds (p ++ x ∷ []))
    resolved_here a b u mem f g = subst (λ c. Mem (record { manager = c; did = did.Hardened b (notes.Resolved u true true) }) (deeds (p ++ x ∷ []))) (sym f)
        (subst (λ c. Mem (record { manager = k.sender; did = did.Hardened c (notes.Resolved u true true) }) (deeds (p ++ x ∷ []))) (sym g) mem)

-- THE TURN
pub none_forced_now : (w : World) (m : ℕ) (c : List ℕ) (ds : List Did) (u : Luw) → None ≡ Some u → IsForcing w m c u ds
none_forced_now w m c ds u e = absurd (none_unit u e)
  where
    none_unit : (u : Luw) → None ≡ Some u → ⊥
    none_unit u e = cc

pub none_committed_now : (s : Scenario) (hs : List History) (p : List Line) (x : Line) (k : CableLine) (u : Luw) → None ≡ Some u
    → Mem (record { manager = k.sender; did = did.Hardened k.channel (notes.Resolved u true true) }) (deeds (p ++ x ∷ [])) × (is_committed s (opening_managers s hs) (deeds (p ++ x ∷ [])) k.channel u ≡ false)
none_committed_now s hs p x k u e = absurd (none_unit u e)
  where
    none_unit : (u : Luw) → None ≡ Some u → ⊥
    none_unit u e = cc

pub sender_moves : (s : Scenario) (hs : List History) (p : List Line) (x : Line) (z : Stand s hs p) (t : Told_ s hs p x) (i : ℕ) (k : CableLine) (d : Deed) → IsScenario s → slice_get s.cables i ≡ Some k → k.sender ≡ x.manager
    → x.entry.actor ≡ actors.Sender i → x.entry.call ≡ calls.Turn → IsRun s hs p x t d
    → sender_deed x.entry.stamp (sender_of (near_at s i k) (z.xs k.sender k.channel).sender) x.entry.effect.popped (node_after s x.manager p t.h) ≡ Some d → SeenIn x.entry.effect.popped (z.xs k.sender k.channel).back
    → is_expiry (sender_next (z.xs k.sender k.channel).sender x.entry.effect.popped (stock k.channel (node_after s x.manager p t.h).manager)) ≡ false → Moves s hs p x t.h z
sender_moves s hs p x z t i k d scenario e q actor call r is offered plain =
    let m : ℕ = x.manager in
    let n : Node = node_after s m p t.h in
    let l : Ledger = ledger (opening_ledger s hs) p in
    let w : Where = near_at s i k in
    let c : Channel = z.xs k.sender k.channel in
    let y : Past = z.ys k.sender k.channel in
    let seen : Seen = x.entry.effect.popped in
    let stamp : ℕ = x.entry.stamp in
    let turn : SenderTurn = turn_of w stamp seen c.sender n.manager in
    let does_ : SenderDoes = sender_next c.sender seen (stock k.channel n.manager) in
    let sends : SendsAs w n c = sends_here s hs p x z t i k e q r.up in
    let facts : Facts c y = (z.lines i k e).facts in
    let there : Mem k s.cables = mem_at s.cables i k e in
    let zz : Scene = scene s hs p z k w in
    let next = run_next s hs p x t d k.sender r q in
    let ends : EachOfEnd (Some d) = subst EachOfEnd is (senders_of_end stamp (sender_of w c.sender) does_ n plain) in
    let reply : x.entry.reply ≡ replies.Changed = t.tells.reply ∙ ap (λ (o : Done). o.reply) r.is ∙ ends.1 in
    let delta : x.entry.effect.delta ≡ delta_of d.parts = t.tells.delta ∙ ap (λ (o : Done). o.delta) r.is in
    let mine = (end_mem i n.own.ends (Sends (sender_of w c.sender)) sends.here).0 in
    let alone : IsAlone zz n c = λ on. seized_alone k.channel n.manager ((z.unshared m t.h t.is r.up).open_ (sender_of w c.sender) mine on) (z.unshared m t.h t.is r.up).seized in
    let passed : EachPassed (Some d) = subst EachPassed is (sender_passes stamp (sender_of w c.sender) does_ n plain) in
    step_moves s hs p x z t i k d None (NearStep.Turn turn) scenario e q (record {
      run = r;
      may = may_turn w stamp seen n.manager c offered;
      turned = (subst (λ (o : Option Deed). EachTurned zz n.manager o (sender_turn turn c) (sender_past turn c y)) is
          (sending.turns zz n c y stamp seen next.at sends facts (joint_here s hs p z k there) alone offered plain)) (managers_at s (p ++ x ∷ []) hs) next;
      sent = subst (λ (o : Option Deed). EachSent w n o c.out (sender_turn turn c)) is
          (turns_as w stamp seen n c sends (ap is_up r.up) (distinct_of (stored (queue_of_sender w.channel n.manager) n.manager).rows (r.before.facts.apart.once (queue_of_sender w.channel n.manager))));
      beside = parts_beside d.parts n.manager ends.0.0;
      whole = ledger_step (opening_ledger s hs) p x ∙ posted_so m x.entry l d call reply delta (subst (EachPosted m l) is (posts m l stamp (sender_of w c.sender) seen n plain));
      quiet = ap unit_received delta ∙ received_unit (delta_of d.parts) (receives_nothing (delta_of d.parts) passed);
      tells = sender_tells s (opening_managers s hs) (deeds p ++ deeds_in m x.entry.effect.delta) k.sender k.channel c y turn;
      cabled = subst (EachCabled s.cables m n.manager) is
          (cabled_by s.cables m stamp (sender_of w c.sender) does_ n (free_of w n c (stock k.channel n.manager) does_ sends (guarded c.sender seen (stock k.channel n.manager))) (k, there, q, refl) (z.cabled m t.h t.is));
      near = λ j h f out a. near_else (near_at s j h) stamp (sender_of w c.sender) seen n d is (else_index s i j k h e f out) (else_channel k h (a ∙ sym q) out) r.before r.after;
      far = λ j h f out a. far_else (far_at s j h) stamp (sender_of w c.sender) seen n d is (else_index s i j k h e f out);
      offers = λ j f by_ push. same_number j i (ap sender_number (sym by_ ∙ actor));
      answers = λ j f by_ push. none_number i (ap sender_number (sym by_ ∙ actor));
      forces = none_forced_now (world_of s z.given (managers_at s p hs)) k.sender k.channel x.entry.effect.delta;
      committed = none_committed_now s hs p x k;
    })
