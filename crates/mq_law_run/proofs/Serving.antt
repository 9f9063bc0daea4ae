-- START, STOP and RESET of a receiver's end, as moves of the network.
use Rattle.std.proofs.Common.{ℕ, ◌≡◌, ◌-◌, Bool, true, false, List, [], ◌∷◌, ◌++◌, refl, ap, sym, subst, ◌∙◌}
use Rattle.std.specs.Prelude.{Some, None, ◌==◌, ◌&&◌, if◌then◌else◌, not, slice_get}
use Rattle.std.specs.Str.{bytes_eq}
use Rattle.mq_frame.specs.declared.frame.Frame.{Frame}
use Rattle.mq_sync.specs.declared.unit.Unit.{Unit as Luw}
use Rattle.mq_sync.specs.declared.data.End.TheVariants as end_kinds
use Rattle.mq_sync.specs.declared.data.ReceiverData.{ReceiverData}
use Rattle.mq_sync.specs.Settlement.{receiver_or}
use Rattle.mq_sync.specs.Units.{no_unit, same_unit}
use Rattle.mq_receiver.specs.States as receivers
use Rattle.mq_calls.specs.declared.agents.Note.TheVariants as notes
use Rattle.mq_calls.specs.declared.choices.Choice.TheVariants.{Runs}
use Rattle.mq_sc_parse.specs.declared.command.Command.TheVariants as lines
use Rattle.mq_sc_parse.specs.declared.command.Op.{Op}
use Rattle.mq_sc_parse.specs.declared.command.Op.TheVariants as ops
use Rattle.mq_history.specs.declared.acts.Act.TheVariants as acts
use Rattle.mq_history.specs.declared.acts.Acted.TheVariants as acted
use Rattle.mq_history.specs.declared.acts.OpRefusal.{OpRefusal}
use Rattle.mq_history.specs.declared.acts.OpRefusal.TheVariants as reasons
use Rattle.mq_history.specs.declared.calls.Call.TheVariants as calls
use Rattle.mq_history.specs.declared.calls.Chance.TheVariants as chances
use Rattle.mq_history.specs.declared.calls.Reply.TheVariants as replies
use Rattle.mq_history.specs.declared.history.History.{History}
use Rattle.mq_history.specs.declared.scenario.CableLine.{CableLine}
use Rattle.mq_history.specs.declared.scenario.Scenario.{Scenario}
use Rattle.mq_history.specs.Scenarios.{IsScenario}
use Rattle.mq_calls.specs.State.{Plain, Running}
use Rattle.mq_calls.specs.Reads.{is_up, receiver_data}
use Rattle.mq_calls.specs.Steps.{delta_of, do_all}
use Rattle.mq_spec_manager.specs.Agents.{harden, set_bound}
use Rattle.mq_spec_node.specs.Node.{Node, ReceiverEnd, with_end}
use Rattle.mq_spec_node.specs.Node.ChannelEnd.{Receives}
use Rattle.mq_spec_node.specs.Deeds.{Deed, Done, done, parts_of}
use Rattle.mq_spec_node.specs.Operators.{close_open, end_here, is_bad_number, is_open, limits_here, operate, operate_up, operated, refused, refused_or, reset_end, start_end, stop_end}
use Rattle.mq_spec_node.specs.Replays.{IsOwn, Tells}
use Rattle.mq_spec_network.specs.Conflict.{Deed as ToldDeed, deeds, deeds_in, is_committed}
use Rattle.mq_spec_network.specs.Ledger.{Ledger, ledger}
use Rattle.mq_spec_network.specs.Standing.{managers_at, node_after, opening_ledger, opening_managers}
use Rattle.mq_spec_network.specs.Story.{Line, Mem}
use Rattle.mq_law_channel.specs.Channel.{Channel, Facts, Past}
use Rattle.mq_law_channel.specs.Turns as channels
use Rattle.mq_law_manager.proofs.Untouched.{parts_running}
use Rattle.mq_law_node.specs.Data.{receives_at}
use Rattle.mq_law_node.specs.Ends.{TakesAs, Taken as Took, Where, receiver_of, told_receives}
use Rattle.mq_law_node.specs.Moves.{FarMay, FarStep, far_does}
use Rattle.mq_law_node.specs.Nodes.{FarAt}
use Rattle.mq_law_node.specs.Quiet.{parts_far_apart}
use Rattle.mq_law_node.proofs.Aside.{EachApart, asides}
use Rattle.mq_law_node.proofs.AsideTakings.{set_receiving}
use Rattle.mq_law_node.proofs.FarAside.{EachFarApart, far_asides, set_taking}
use Rattle.mq_law_node.proofs.FarFreezing.{far_near}
use Rattle.mq_law_node.proofs.Moving.{far_keeps}
use Rattle.mq_law_node.proofs.Named.{bool_case}
use Rattle.mq_law_node.proofs.NearDoes.{close_apart}
use Rattle.mq_law_node.proofs.Operators.{closed_at, closed_is_told, open_there}
use Rattle.mq_law_node.proofs.Pairs.{offering_among}
use Rattle.mq_law_node.proofs.ReceiverTurns.{arrives, end_taken, found_receiver}
use Rattle.mq_law_rows.specs.Families.{put_at}
use Rattle.mq_law_rows.proofs.Lists.{eqb_self, true_false}
use Rattle.mq_law_seen.specs.Seen.{book_of, world_of}
use Rattle.mq_law_events.specs.Tied.{IsNext}
use Rattle.mq_law_one.proofs.from_law_story.Weaving.{ledger_step}
use Rattle.mq_law_stopped.specs.from_law_turns.Agreed.{IsToldOf}
use Rattle.mq_law_stopped.specs.from_law_turns.Turns.{IsAtFar, Scene, Taken, parts_for_others}
use Rattle.mq_law_stopped.proofs.from_law_turns.Agreeing.{grows}
use Rattle.mq_law_stopped.proofs.from_law_turns.FarOperating.{closed_unit, resets, starts, stops}
use Rattle.mq_law_stopped.proofs.from_law_turns.Reading.{stays}
use Rattle.mq_law_stopped.proofs.from_law_turns.Taking.{quiet}
use Rattle.mq_law_cables.proofs.Differing.{leads}
use Rattle.mq_law_cables.proofs.Keeping.{taken_joint}
use Rattle.mq_law_deeds.proofs.Resting.{apart_batch}
use Rattle.mq_law_one.proofs.Running.{Told_}
use Rattle.mq_law_run.specs.Run.{IsMoved, IsRunning, Moves, Stand, far_at, near_at}
use Rattle.mq_law_run.proofs.Beside.{parts_add_none, parts_beside, parts_of_end}
use Rattle.mq_law_run.proofs.Cabled.{parts_cabled}
use Rattle.mq_law_run.proofs.Commanding.{IsAsked, all_leave, none_received, operated_post, operator_run, up_so}
use Rattle.mq_law_run.proofs.Lining.{all_moved, else_index, left_aside, mem_at, units_put}
use Rattle.mq_law_run.proofs.Receiving.{channel_else, operated_old}
use Rattle.mq_law_run.proofs.Running.{IsRun, beside_at, beside_counted, move_to, receiver_at, run_next, scene, sends_here, takes_here, told_all}
use Rattle.mq_law_run.proofs.Telling.{deeds_more, none_committed, risen_still, still_not, told_before}
use Rattle.mq_law_run.specs.Ordered.{forced_over}
use Rattle.mq_law_run.proofs.Listing.{forced_still, quiet_order}

-- WHAT A COMMAND ON A RECEIVER'S END COMES TO
record IsServed (z : Scene) (n : Node) (c : Channel) (y : Past) (l : Ledger) (d : Deed) (step : FarStep) : Type 0 where
  may : FarMay step c y
  taken : (rs : List Plain) → IsNext z.receiver n.manager (do_all d.parts n.manager) z.managers rs → Taken z (world_of z.scenario z.given rs) (book_of l) (far_does step c) y
  took : Took z.place n d c.back (far_does step c)
  unit : (far_does step c).receives.unit ≡ c.receives.unit
  asked : IsAsked d
  near : (v : Where) → (z.place.cable == v.cable) ≡ false → EachApart v n (Some d)
  others : (v : Where) → parts_for_others v.channel d.parts ≡ true
  far : (v : Where) → (z.place.cable == v.cable) ≡ false → bytes_eq v.channel z.place.channel ≡ false → EachFarApart v n (Some d)

abbrev Serves : Scene → Node → Channel → Past → Ledger → Deed → Type 0
Serves z n c y l d = (step : FarStep) × IsServed z n c y l d step

refuses : (z : Scene) (n : Node) (c : Channel) (y : Past) (l : Ledger) (reason : OpRefusal) → IsAtFar z n c y l → is_up n.manager.running ≡ true → Serves z n c y l (refused reason n.own)
refuses z n c y l reason a up = (
  FarStep.Rest,
  record {
    may = tt;
    taken = λ rs h. quiet z n c c y l rs a refl h;
    took = arrives z.place n (refused reason n.own) c c.receives c.receiver c.kept c.back up a.takes_.here a.takes_.data_ refl;
    unit = refl;
    asked = record { ends = refl; adds = refl; told = refl; answer = acted.Op reason; reply = refl; is = refl; pushed = refl };
    near = λ v e. (refl, refl);
    others = λ v. refl;
    far = λ v e f. (refl, refl);
  },
)

-- START
started : (z : Scene) (n : Node) (c : Channel) (y : Past) (l : Ledger) → IsAtFar z n c y l → is_up n.manager.running ≡ true → receivers.is_bound c.receiver.state ≡ false
    → Serves z n c y l (operated [] (with_end (Receives (receiver_of z.place (receivers.started c.receiver) c.kept)) n.own))
started z n c y l a up off =
    let w : Where = z.place in
    let h : TakesAs w n c = a.takes_ in (
      FarStep.Start,
      record {
        may = off;
        taken = λ rs g. starts z n c y l rs a g;
        took = arrives w n _ c c.receives (receivers.started c.receiver) c.kept c.back up (end_taken w n _ c.receiver c.kept c.kept h.here) h.data_ refl;
        unit = refl;
        asked = record { ends = refl; adds = refl; told = refl; answer = acted.Done; reply = refl; is = refl; pushed = refl };
        near = λ v e. (set_receiving v (receiver_of w (receivers.started c.receiver) c.kept) n e, refl);
        others = λ v. refl;
        far = λ v e f. (set_taking v (receiver_of w (receivers.started c.receiver) c.kept) n e, refl);
      },
    )

starts_so : (z : Scene) (n : Node) (c : Channel) (y : Past) (l : Ledger) → IsAtFar z n c y l → is_up n.manager.running ≡ true → Serves z n c y l (start_end (Some (Receives (receiver_of z.place c.receiver c.kept))) n)
starts_so z n c y l a up = bool_case (receivers.is_bound c.receiver.state)
    (λ b. Serves z n c y l (refused_or (if b then Some reasons.Running else None) n.own (operated [] (with_end (Receives (receiver_of z.place (receivers.started c.receiver) c.kept)) n.own))))
    (λ e. refuses z n c y l reasons.Running a up)
    (λ e. started z n c y l a up e)

-- STOP
close_ends : (e : ReceiverEnd) (p : Plain) → (parts_of_end (close_open e p) ≡ true) × (parts_add_none (close_open e p) ≡ true) × (all_leave (delta_of (close_open e p)) ≡ true)
close_ends e p = bool_case (is_open (receiver_data e.channel p))
    (λ b. let parts = (if b then parts_of (harden e.channel (notes.Closed (receiver_or (receiver_data e.channel p)).session) p) ++ parts_of (set_bound e.channel false p) else parts_of (set_bound e.channel false p)) in
    (parts_of_end parts ≡ true) × (parts_add_none parts ≡ true) × (all_leave (delta_of parts) ≡ true))
    (λ z. (refl, refl, refl)) (λ z. (refl, refl, refl))

pub close_others : (ch : List ℕ) (e : ReceiverEnd) (p : Plain) → parts_for_others ch (close_open e p) ≡ true
close_others ch e p = bool_case (is_open (receiver_data e.channel p))
    (λ b. parts_for_others ch (if b then parts_of (harden e.channel (notes.Closed (receiver_or (receiver_data e.channel p)).session) p) ++ parts_of (set_bound e.channel false p) else parts_of (set_bound e.channel false p)) ≡ true)
    (λ z. refl) (λ z. refl)

pub close_far : (ch : List ℕ) (e : ReceiverEnd) (p : Plain) → bytes_eq ch e.channel ≡ false → parts_far_apart ch (close_open e p) ≡ true
close_far ch e p other = bool_case (is_open (receiver_data e.channel p))
    (λ b. parts_far_apart ch (if b then parts_of (harden e.channel (notes.Closed (receiver_or (receiver_data e.channel p)).session) p) ++ parts_of (set_bound e.channel false p) else parts_of (set_bound e.channel false p)) ≡ true)
    (λ z. ap (λ (b : Bool). (not b && true) && true) other) (λ z. refl)

abbrev pub closed_told : ReceiverData → ReceiverData
closed_told d = if channels.is_open d then record d { closed = true } else d

stops_so : (z : Scene) (n : Node) (c : Channel) (y : Past) (l : Ledger) → IsAtFar z n c y l → is_up n.manager.running ≡ true → Serves z n c y l (stop_end (Some (Receives (receiver_of z.place c.receiver c.kept))) n)
stops_so z n c y l a up =
    let w : Where = z.place in
    let h : TakesAs w n c = a.takes_ in
    let parts = close_ends (receiver_of w c.receiver c.kept) n.manager in (
      FarStep.Stop,
      record {
        may = tt;
        taken = λ rs g. stops z n c y l rs a g;
        took = arrives w n (stop_end (Some (Receives (receiver_of w c.receiver c.kept))) n) c (if channels.is_open c.receives then record c.receives { closed = true } else c.receives) (receivers.stopped c.receiver) [] c.back up
            (end_taken w n _ c.receiver [] c.kept h.here)
            (closed_is_told (channels.is_open c.receives) c.receives ∙ ap closed_told h.data_
            ∙ sym (closed_is_told (channels.is_open (receives_at w.channel n.manager)) (receives_at w.channel n.manager))
            ∙ ap (λ (b : Bool). told_receives (if b then record (receives_at w.channel n.manager) { closed = true } else receives_at w.channel n.manager)) (sym (open_there (receiver_data w.channel n.manager)))
            ∙ closed_at w c.receiver c.kept n.manager (is_open (receiver_data w.channel n.manager)))
            refl;
        unit = closed_unit (channels.is_open c.receives) c.receives;
        asked = record { ends = parts.0; adds = parts.1; told = parts.2; answer = acted.Done; reply = refl; is = refl; pushed = refl };
        near = λ v e. (set_receiving v (receiver_of w (receivers.stopped c.receiver) []) n e, close_apart v (receiver_of w c.receiver c.kept) n);
        others = λ v. close_others v.channel (receiver_of w c.receiver c.kept) n.manager;
        far = λ v e f. (set_taking v (receiver_of w (receivers.stopped c.receiver) []) n e, close_far v.channel (receiver_of w c.receiver c.kept) n.manager f);
      },
    )

-- RESET
abbrev pub reset_deed : Where → ℕ → Node → Channel → Deed
reset_deed w seqnum n c = operated (parts_of (harden w.channel (notes.SeqSet end_kinds.Receiver (seqnum - 1)) n.manager)) (with_end (Receives (receiver_of w (receivers.numbered (seqnum - 1) c.receiver) c.kept)) n.own)

numbered : (z : Scene) (n : Node) (c : Channel) (y : Past) (l : Ledger) (seqnum : ℕ) → IsAtFar z n c y l → is_up n.manager.running ≡ true → Serves z n c y l (reset_deed z.place seqnum n c)
numbered z n c y l seqnum a up =
    let w : Where = z.place in
    let h : TakesAs w n c = a.takes_ in (
      FarStep.Number (seqnum - 1),
      record {
        may = tt;
        taken = λ rs g. resets z n c y l (seqnum - 1) rs a g;
        took = arrives w n (reset_deed w seqnum n c) c (record c.receives { last = seqnum - 1 }) (receivers.numbered (seqnum - 1) c.receiver) c.kept c.back up
            (end_taken w n _ c.receiver c.kept c.kept h.here)
            (ap (λ (d : ReceiverData). record d { last = seqnum - 1 }) h.data_ ∙ found_receiver w.channel (record (receives_at w.channel n.manager) { last = seqnum - 1 }) (receiver_data w.channel n.manager))
            refl;
        unit = refl;
        asked = record { ends = refl; adds = refl; told = refl; answer = acted.Done; reply = refl; is = refl; pushed = refl };
        near = λ v e. (set_receiving v (receiver_of w (receivers.numbered (seqnum - 1) c.receiver) c.kept) n e, refl);
        others = λ v. refl;
        far = λ v e f. (set_taking v (receiver_of w (receivers.numbered (seqnum - 1) c.receiver) c.kept) n e, ap (λ (b : Bool). (not b && true) && true) f);
      },
    )

numbers_so : (z : Scene) (n : Node) (c : Channel) (y : Past) (l : Ledger) (seqnum : ℕ) → IsAtFar z n c y l → is_up n.manager.running ≡ true → Serves z n c y l (reset_end seqnum (Some (Receives (receiver_of z.place c.receiver c.kept))) n)
numbers_so z n c y l seqnum a up =
    let w : Where = z.place in
    bool_case (receivers.is_bound c.receiver.state)
    (λ b. Serves z n c y l (refused_or (if b then Some reasons.Running else (if is_bad_number seqnum (limits_here w.channel n) then Some reasons.BadNumber else None)) n.own (reset_deed w seqnum n c)))
    (λ e. refuses z n c y l reasons.Running a up)
    (λ e. bool_case (is_bad_number seqnum (limits_here w.channel n))
    (λ b. Serves z n c y l (refused_or (if b then Some reasons.BadNumber else None) n.own (reset_deed w seqnum n c)))
    (λ g. refuses z n c y l reasons.BadNumber a up)
    (λ g. numbered z n c y l seqnum a up))

-- AS A MOVE
served_moves : (s : Scenario) (hs : List History) (p : List Line) (x : Line) (z : Stand s hs p) (t : Told_ s hs p x) (i : ℕ) (k : CableLine) (d : Deed) (op : Op) (step : FarStep) → IsScenario s → slice_get s.cables i ≡ Some k → k.receiver ≡ x.manager
    → x.entry.call ≡ calls.Act (acts.Obey (lines.Operate op)) → x.entry.chance ≡ chances.Call Runs → IsRun s hs p x t d
    → IsServed (scene s hs p z k (far_at s i k)) (node_after s x.manager p t.h) (z.xs k.sender k.channel) (z.ys k.sender k.channel) (ledger (opening_ledger s hs) p) d step → Moves s hs p x t.h z
served_moves s hs p x z t i k d op step scenario e q call chance r v =
    let m : ℕ = x.manager in
    let n : Node = node_after s m p t.h in
    let l : Ledger = ledger (opening_ledger s hs) p in
    let w : Where = far_at s i k in
    let c : Channel = z.xs k.sender k.channel in
    let y : Past = z.ys k.sender k.channel in
    let c1 : Channel = far_does step c in
    let facts : Facts c y = (z.lines i k e).facts in
    let there : Mem k s.cables = mem_at s.cables i k e in
    let zz : Scene = scene s hs p z k w in
    let ms : List Plain = managers_at s (p ++ x ∷ []) hs in
    let reply : x.entry.reply ≡ replies.Acted v.asked.answer = t.tells.reply ∙ ap (λ (o : Done). o.reply) r.is ∙ v.asked.reply in
    let delta : x.entry.effect.delta ≡ delta_of d.parts = t.tells.delta ∙ ap (λ (o : Done). o.delta) r.is in
    let pushed : x.entry.effect.pushed ≡ None = t.tells.pushed ∙ ap (λ (o : Done). o.pushed) r.is ∙ v.asked.pushed in
    let silent : all_leave x.entry.effect.delta ≡ true = ap all_leave delta ∙ v.asked.told in
    let took : Taken zz (world_of s z.given ms) (book_of l) c1 y = v.taken ms (run_next s hs p x t d k.receiver r q) in
    let mine : IsMoved s m (done d Runs n).next i k c c1 y = record {
      facts = far_keeps step c y facts v.may;
      near = λ a. absurd ((z.joint.tied k there).apart (q ∙ sym a));
      far = λ a. (
        subst (λ (o : Running). FarAt w (done d Runs n).next c1 o) (sym (parts_running d.parts n.manager ∙ r.up)) v.took.takes,
        far_near step c,
        λ f j. subst (λ (fs : List Frame). Mem f fs) v.took.offers (offering_among d.pushed c.back f j),
      );
      later = λ a. absurd ((z.joint.tied k there).apart (q ∙ sym a));
      else = λ a b. absurd (true_false (sym (ap (λ o. o == m) q ∙ eqb_self m) ∙ b));
    } in
    move_to s hs p x t.h z (done d Runs n) l r.is (ledger_step (opening_ledger s hs) p x ∙ operated_post m x.entry op v.asked.answer l call chance reply v.asked.is silent) (record {
      given = z.given;
      ghost = took.ghost;
      xs = put_at z.xs k.sender k.channel c1;
      ys = put_at z.ys k.sender k.channel y;
      joint = taken_joint zz (world_of s z.given ms) (book_of l) c1 y s.cables z.xs z.ys took (leads s k scenario there) z.joint;
      moved = all_moved s m (done d Runs n).next i k c1 y z.xs z.ys scenario e mine
          (λ j h f out. left_aside s m n j h (z.xs h.sender h.channel) (z.ys h.sender h.channel) d Runs r.up (z.lines j h f).facts r.can
          (λ a. let u : Where = near_at s j h in
          let o : EachApart u n (Some d) = v.near u (else_index s i j k h e f out) in
          (sends_here s hs p x z t j h f a r.up, asides u n d o.0 o.1 (stays u.channel n.manager d.parts r.before r.after (apart_batch u n d o.1) (v.others u))))
          (λ a. let u : Where = far_at s j h in
          let ne = else_index s i j k h e f out in
          let o : EachFarApart u n (Some d) = v.far u ne (channel_else s i j k h scenario e f ne) in
          (takes_here s hs p x z t j h f a r.up, far_asides u n d o.0 o.1)));
      out = λ j h f o a by_ push. absurd (no_frame f (sym pushed ∙ push));
      back = λ j h f o a by_ push. absurd (no_frame f (sym pushed ∙ push));
      told = λ h n_. subst (λ ds. IsToldOf s (opening_managers s hs) ds h.sender h.channel (put_at z.xs k.sender k.channel c1 h.sender h.channel) (put_at z.ys k.sender k.channel y h.sender h.channel)) (sym (deeds_more p x))
          (told_all s (opening_managers s hs) (deeds p) (deeds_in m x.entry.effect.delta) k c1 y z.xs z.ys
          (told_on (deeds p ++ deeds_in m x.entry.effect.delta) c1 v.unit (grows s (opening_managers s hs) (deeds p) (deeds_in m x.entry.effect.delta) k.sender k.channel c y (z.told k there))) z.told h n_);
      resolved = λ a b u f. told_before p x _ (z.resolved a b u (operated_old zz (world_of s z.given ms) (book_of l) c1 y took a b u f));
      not_yet = λ a b u f. still_not s (opening_managers s hs) p x b u (none_committed b u m x.entry.effect.delta (none_received x.entry.effect.delta silent)) (z.not_yet a b u (operated_old zz (world_of s z.given ms) (book_of l) c1 y took a b u f));
      risen = λ h w. risen_still s (opening_managers s hs) p x h.channel (z.xs h.sender h.channel).receives.unit (put_at z.xs k.sender k.channel c1 h.sender h.channel).receives.unit (none_received x.entry.effect.delta silent) (units_put z.xs k h c1 v.unit) (z.risen h w);
      owned = λ a b u f. z.owned a b u (operated_old zz (world_of s z.given ms) (book_of l) c1 y took a b u f);
      loose = λ a b u f. (λ v. sym took.loose v a b u) ∙ f;
      at = beside_at s hs p x z t d l r refl (parts_beside d.parts n.manager v.asked.ends);
      known = λ i_ f. refl;
      others = λ a b f h. h;
      users = λ a f. refl;
      counted = beside_counted s hs p x z t d l refl (parts_beside d.parts n.manager v.asked.ends);
      cabled = parts_cabled s.cables m d.parts n.manager v.asked.adds (z.cabled m t.h t.is);
      housed = λ a b f. (b, f);
      listed = forced_still z.ghost took.ghost x.entry.effect.delta (book_of l).rows (book_of l).rows (λ a b u f. (operated_old zz (world_of s z.given ms) (book_of l) c1 y took a b u f, λ j. took.sent j a b u)) (λ i_ g. g);
      order = quiet_order (forced_over [] p) x l l (none_received x.entry.effect.delta silent);
    })
  where
    no_frame : (f : Frame) → None ≡ Some f → ⊥
    no_frame f e = cc

    told_on : (ds : List ToldDeed) (c1 : Channel) → c1.receives.unit ≡ (z.xs k.sender k.channel).receives.unit → IsToldOf s (opening_managers s hs) ds k.sender k.channel (z.xs k.sender k.channel) (z.ys k.sender k.channel)
        → IsToldOf s (opening_managers s hs) ds k.sender k.channel c1 (z.ys k.sender k.channel)
    told_on ds c1 u h = record { undone = h.undone; last = subst (λ (b : Luw). same_unit b no_unit ≡ false → is_committed s (opening_managers s hs) ds k.channel b ≡ true) (sym u) h.last }

served : (s : Scenario) (hs : List History) (p : List Line) (x : Line) (z : Stand s hs p) (t : Told_ s hs p x) (i : ℕ) (k : CableLine) (d : Deed) (op : Op) → IsScenario s → slice_get s.cables i ≡ Some k → k.receiver ≡ x.manager
    → x.entry.call ≡ calls.Act (acts.Obey (lines.Operate op)) → x.entry.chance ≡ chances.Call Runs → IsRunning s p x t.h (operate op (node_after s x.manager p t.h)) → d ≡ operate_up op (node_after s x.manager p t.h)
    → (IsAtFar (scene s hs p z k (far_at s i k)) (node_after s x.manager p t.h) (z.xs k.sender k.channel) (z.ys k.sender k.channel) (ledger (opening_ledger s hs) p)
    → Serves (scene s hs p z k (far_at s i k)) (node_after s x.manager p t.h) (z.xs k.sender k.channel) (z.ys k.sender k.channel) (ledger (opening_ledger s hs) p) d)
    → Moves s hs p x t.h z
served s hs p x z t i k d op scenario e q call chance run is so =
    let n : Node = node_after s x.manager p t.h in
    let r : IsRun s hs p x t (operate op n) = operator_run s hs p x z t op run in
    let b = subst (λ (g : Deed). Serves (scene s hs p z k (far_at s i k)) n (z.xs k.sender k.channel) (z.ys k.sender k.channel) (ledger (opening_ledger s hs) p) g) (is ∙ up_so op n (ap is_up run.up)) (so (receiver_at s hs p x z t i k (operate op n) e q r)) in
    served_moves s hs p x z t i k (operate op n) op b.0 scenario e q call chance r b.1

pub starting : (s : Scenario) (hs : List History) (p : List Line) (x : Line) (h : History) (stamp : ℕ) (z : Stand s hs p) (i : ℕ) (k : CableLine) (name : List ℕ) → IsScenario s → slice_get hs x.manager ≡ Some h → Tells (node_after s x.manager p h) stamp x.entry
    → IsOwn x.entry.chance → slice_get s.cables i ≡ Some k → k.receiver ≡ x.manager → x.entry.call ≡ calls.Act (acts.Obey (lines.Operate (ops.Start name))) → x.entry.chance ≡ chances.Call Runs
    → IsRunning s p x h (operate (ops.Start name) (node_after s x.manager p h)) → end_here name (node_after s x.manager p h) ≡ Some (Receives (receiver_of (far_at s i k) (z.xs k.sender k.channel).receiver (z.xs k.sender k.channel).kept)) → Moves s hs p x h z
starting s hs p x h stamp z i k name scenario is tells own e q call chance run named =
    let n : Node = node_after s x.manager p h in
    let c : Channel = z.xs k.sender k.channel in
    let end = receiver_of (far_at s i k) c.receiver c.kept in
    served s hs p x z (record { h = h; is = is; stamp = stamp; tells = tells; own = own }) i k (start_end (Some (Receives end)) n) (ops.Start name) scenario e q call chance run (ap (λ o. start_end o n) (sym named))
    (λ a. starts_so (scene s hs p z k (far_at s i k)) n c (z.ys k.sender k.channel) (ledger (opening_ledger s hs) p) a (ap is_up run.up))

pub stopping : (s : Scenario) (hs : List History) (p : List Line) (x : Line) (h : History) (stamp : ℕ) (z : Stand s hs p) (i : ℕ) (k : CableLine) (name : List ℕ) → IsScenario s → slice_get hs x.manager ≡ Some h → Tells (node_after s x.manager p h) stamp x.entry
    → IsOwn x.entry.chance → slice_get s.cables i ≡ Some k → k.receiver ≡ x.manager → x.entry.call ≡ calls.Act (acts.Obey (lines.Operate (ops.Stop name))) → x.entry.chance ≡ chances.Call Runs
    → IsRunning s p x h (operate (ops.Stop name) (node_after s x.manager p h)) → end_here name (node_after s x.manager p h) ≡ Some (Receives (receiver_of (far_at s i k) (z.xs k.sender k.channel).receiver (z.xs k.sender k.channel).kept)) → Moves s hs p x h z
stopping s hs p x h stamp z i k name scenario is tells own e q call chance run named =
    let n : Node = node_after s x.manager p h in
    let c : Channel = z.xs k.sender k.channel in
    let end = receiver_of (far_at s i k) c.receiver c.kept in
    served s hs p x z (record { h = h; is = is; stamp = stamp; tells = tells; own = own }) i k (stop_end (Some (Receives end)) n) (ops.Stop name) scenario e q call chance run (ap (λ o. stop_end o n) (sym named))
    (λ a. stops_so (scene s hs p z k (far_at s i k)) n c (z.ys k.sender k.channel) (ledger (opening_ledger s hs) p) a (ap is_up run.up))

pub resetting : (s : Scenario) (hs : List History) (p : List Line) (x : Line) (h : History) (stamp : ℕ) (z : Stand s hs p) (i : ℕ) (k : CableLine) (name : List ℕ) (seqnum : ℕ) → IsScenario s → slice_get hs x.manager ≡ Some h → Tells (node_after s x.manager p h) stamp x.entry
    → IsOwn x.entry.chance → slice_get s.cables i ≡ Some k → k.receiver ≡ x.manager → x.entry.call ≡ calls.Act (acts.Obey (lines.Operate (ops.Reset name seqnum))) → x.entry.chance ≡ chances.Call Runs
    → IsRunning s p x h (operate (ops.Reset name seqnum) (node_after s x.manager p h)) → end_here name (node_after s x.manager p h) ≡ Some (Receives (receiver_of (far_at s i k) (z.xs k.sender k.channel).receiver (z.xs k.sender k.channel).kept)) → Moves s hs p x h z
resetting s hs p x h stamp z i k name seqnum scenario is tells own e q call chance run named =
    let n : Node = node_after s x.manager p h in
    let c : Channel = z.xs k.sender k.channel in
    let end = receiver_of (far_at s i k) c.receiver c.kept in
    served s hs p x z (record { h = h; is = is; stamp = stamp; tells = tells; own = own }) i k (reset_end seqnum (Some (Receives end)) n) (ops.Reset name seqnum) scenario e q call chance run (ap (λ o. reset_end seqnum o n) (sym named))
    (λ a. numbers_so (scene s hs p z k (far_at s i k)) n c (z.ys k.sender k.channel) (ledger (opening_ledger s hs) p) seqnum a (ap is_up run.up))
