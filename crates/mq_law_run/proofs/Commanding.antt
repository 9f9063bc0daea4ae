-- START, STOP and RESET of a sender's end, as moves of the network.
use Rattle.std.proofs.Common.{ℕ, ◌≡◌, ◌-◌, Bool, true, false, List, [], ◌∷◌, ◌++◌, refl, ap, sym, subst, ◌∙◌, inl, inr}
use Rattle.std.specs.Prelude.{Option, Some, None, ◌==◌, ◌&&◌, ◌||◌, not, if◌then◌else◌, map, slice_get}
use Rattle.std.specs.Str.{bytes_eq}
use Rattle.mq_message.specs.declared.message.Ident.{Ident}
use Rattle.mq_message.specs.declared.message.Message.{Message}
use Rattle.mq_frame.specs.declared.frame.Frame.{Frame}
use Rattle.mq_sync.specs.declared.unit.Unit.{Unit as Luw}
use Rattle.mq_sync.specs.Units.{Upto}
use Rattle.mq_sync.specs.declared.data.SenderData.{SenderData}
use Rattle.mq_sync.specs.Settlement.{sender_or}
use Rattle.mq_sender.specs.declared.state.Kept.{Kept}
use Rattle.mq_sender.specs.States as senders
use Rattle.mq_calls.specs.declared.agents.Note.TheVariants as notes
use Rattle.mq_calls.specs.declared.agents.SeizeFault.{SeizeFault}
use Rattle.mq_calls.specs.declared.agents.SeizeFault.TheVariants as seize_faults
use Rattle.mq_calls.specs.declared.choices.Choice.TheVariants.{Runs}
use Rattle.mq_calls.specs.declared.deltas.Did.{Did}
use Rattle.mq_calls.specs.declared.deltas.Did.TheVariants as did
use Rattle.mq_sc_parse.specs.declared.command.Command.TheVariants as lines
use Rattle.mq_sc_parse.specs.declared.command.Op.{Op}
use Rattle.mq_sc_parse.specs.declared.command.Op.TheVariants as ops
use Rattle.mq_objects.specs.Names.{channel_of, local_of}
use Rattle.mq_history.specs.declared.acts.Act.TheVariants as acts
use Rattle.mq_history.specs.declared.acts.Acted.{Acted}
use Rattle.mq_history.specs.declared.acts.Acted.TheVariants as acted
use Rattle.mq_history.specs.declared.acts.OpRefusal.{OpRefusal}
use Rattle.mq_history.specs.declared.acts.OpRefusal.TheVariants as reasons
use Rattle.mq_history.specs.declared.calls.Call.TheVariants as calls
use Rattle.mq_history.specs.declared.calls.Chance.TheVariants as chances
use Rattle.mq_history.specs.declared.calls.Entry.{Entry}
use Rattle.mq_history.specs.declared.calls.Reply.{Reply}
use Rattle.mq_history.specs.declared.calls.Reply.TheVariants as replies
use Rattle.mq_history.specs.declared.history.History.{History}
use Rattle.mq_history.specs.declared.scenario.CableLine.{CableLine}
use Rattle.mq_history.specs.declared.scenario.Scenario.{Scenario}
use Rattle.mq_history.specs.Scenarios.{IsScenario}
use Rattle.mq_calls.specs.State.{Plain}
use Rattle.mq_calls.specs.declared.state.Batch.{Batch}
use Rattle.mq_calls.specs.declared.state.Seizure.{Seizure}
use Rattle.mq_calls.specs.State.Change.{Seize}
use Rattle.mq_calls.specs.Reads.{batch_of, has_held_by_other, is_open_for_input, is_up, sender_data}
use Rattle.mq_calls.specs.Steps.{Part, delta_of, do_all, refusal, refused_or as step_or, silent, when}
use Rattle.mq_calls.specs.Steps.Step.{Do}
use Rattle.mq_spec_manager.specs.Handles.{is_transmission_queue}
use Rattle.mq_spec_manager.specs.Agents.{channel_queue, leave, release_batch, release_of, seize}
use Rattle.mq_spec_node.specs.Node.{Node}
use Rattle.mq_spec_node.specs.Node.ChannelEnd.{Sends}
use Rattle.mq_spec_node.specs.Deeds.{Deed, Done, parts_of}
use Rattle.mq_spec_node.specs.Operators.{end_here, is_bad_number, is_in_doubt, limits_here, operate, operate_up, refused, refused_or, reset_end, seize_refusal, start_end, start_seized, stop_end, tested}
use Rattle.mq_spec_node.specs.Replays.{IsOwn, Tells}
use Rattle.mq_spec_network.specs.Conflict.{Deed as ToldDeed, deeds, deeds_in, is_committed}
use Rattle.mq_spec_network.specs.Ledger as ledgers
use Rattle.mq_spec_network.specs.Ledger.{Ledger, ledger, posted}
use Rattle.mq_spec_network.specs.Order.{unit_received}
use Rattle.mq_spec_network.specs.Standing.{managers_at, node_after, opening_ledger, opening_managers}
use Rattle.mq_spec_network.specs.Story.{Line, Mem}
use Rattle.mq_law_channel.specs.Channel.{Channel, Past}
use Rattle.mq_law_channel.specs.Turns.{sender_stopped}
use Rattle.mq_law_manager.specs.Facts.{IsSound}
use Rattle.mq_law_manager.proofs.Lists.{mem_behind}
use Rattle.mq_law_node.specs.Data.{sends_at}
use Rattle.mq_law_node.specs.Ends.{SendsAs, Sent, Where, sender_of, told_sends}
use Rattle.mq_law_node.specs.Moves.{NearMay, NearStep, near_does, near_past}
use Rattle.mq_law_node.proofs.Aside.{EachApart, asides, release_apart, set_apart}
use Rattle.mq_law_node.proofs.FarAside.{EachFarApart, far_asides, release_far, set_far}
use Rattle.mq_law_node.proofs.Named.{bool_case}
use Rattle.mq_law_node.proofs.Operators.{kept_or, reset_deed, resting_apart}
use Rattle.mq_law_node.proofs.Ordinary.{rests_sent, told_is_quiet}
use Rattle.mq_law_node.proofs.Quiet.{batch_parts_quiet, sender_parts_quiet}
use Rattle.mq_law_node.proofs.SenderTable.{releases_batch, releases_data}
use Rattle.mq_law_node.proofs.SenderTurns.{ends_set, found_data, leaves}
use Rattle.mq_law_channel.proofs.Told.{and_both}
use Rattle.mq_law_rows.proofs.Lists.{is_false}
use Rattle.mq_law_seen.specs.Seen.{world_of}
use Rattle.mq_law_events.specs.Tied.{IsNext}
use Rattle.mq_law_one.proofs.from_law_story.Weaving.{ledger_step}
use Rattle.mq_law_stopped.specs.from_law_turns.Agreed.{IsToldOf}
use Rattle.mq_law_stopped.specs.from_law_turns.Turns.{IsAt, Scene, TurnedBy, parts_for_others, world_in}
use Rattle.mq_law_stopped.proofs.from_law_turns.Agreeing.{released_tells}
use Rattle.mq_law_stopped.proofs.from_law_turns.Operating.{numbers, starts, still, stops}
use Rattle.mq_law_stopped.proofs.from_law_turns.OperatorSounds.{operates}
use Rattle.mq_law_stopped.proofs.from_law_turns.Reading.{parts_behind, released_others, stays}
use Rattle.mq_law_deeds.proofs.Resting.{apart_batch}
use Rattle.mq_law_deeds.proofs.Sounding.{behind}
use Rattle.mq_law_one.proofs.Running.{Told_}
use Rattle.mq_law_run.specs.Run.{IsRunning, Moves, Stand, far_at, near_at}
use Rattle.mq_law_run.proofs.Beside.{parts_add_none, parts_beside, parts_of_end, release_adds, release_of_end}
use Rattle.mq_law_run.proofs.Cabled.{parts_cabled}
use Rattle.mq_law_run.proofs.Lining.{else_channel, else_index, mem_at}
use Rattle.mq_law_run.proofs.Running.{IsRun, run_next, scene, sender_at, sound_at}
use Rattle.mq_law_stopped.specs.Noted.{IsForcing}
use Rattle.mq_law_run.proofs.Sending.{none_forced_now, step_moves}
use Rattle.mq_law_run.proofs.Telling.{risen_still, told_now}

-- WHAT IS POSTED
-- what leaves the rows where they are
abbrev leaves_rows : Did → Bool
leaves_rows (did.Released q i) = true
leaves_rows (did.Hardened c note) = true
leaves_rows (did.Removed q i why) = not (ledgers.is_taken why)
leaves_rows _ = false

abbrev pub all_leave : List Did → Bool
all_leave [] = true
all_leave (d ∷ ds) = leaves_rows d && all_leave ds

untaken : (t : Bool) → not t ≡ true → t ≡ false
untaken true e = absurd cc
untaken false e = refl

none_gone : (m : ℕ) (ds : List Did) (l : Ledger) → all_leave ds ≡ true → ledgers.take_all_gone m ds l ≡ l
none_gone m [] l e = refl
none_gone m (did.Released q i ∷ ds) l e = none_gone m ds l e
none_gone m (did.Hardened c note ∷ ds) l e = none_gone m ds l e
none_gone m (did.Removed q i why ∷ ds) l e =
    let b = and_both (not (ledgers.is_taken why)) (all_leave ds) e in
    ap (λ (t : Bool). ledgers.take_all_gone m ds (ledgers.when t (ledgers.take m i) l)) (untaken (ledgers.is_taken why) b.0) ∙ none_gone m ds l b.1
none_gone m (d ∷ ds) l e = absurd cc

pub none_received : (ds : List Did) → all_leave ds ≡ true → unit_received ds ≡ None
none_received [] e = refl
none_received (did.Released q i ∷ ds) e = none_received ds e
none_received (did.Hardened c note ∷ ds) e = none_received ds e
none_received (did.Removed q i why ∷ ds) e = none_received ds (and_both (not (ledgers.is_taken why)) (all_leave ds) e).1
none_received (d ∷ ds) e = absurd cc

released_leave : (q : List ℕ) (is : List Ident) → all_leave (map (λ i. did.Released q i) is) ≡ true
released_leave q [] = refl
released_leave q (i ∷ is) = released_leave q is

pub leave_behind : (xs ys : List Did) → all_leave xs ≡ true → all_leave ys ≡ true → all_leave (xs ++ ys) ≡ true
leave_behind [] ys a b = b
leave_behind (x ∷ xs) ys a b = let z = and_both (leaves_rows x) (all_leave xs) a in ap (λ (t : Bool). t && all_leave (xs ++ ys)) z.0 ∙ leave_behind xs ys z.1 b

release_told : (c : List ℕ) (o : Option Batch) (p : Plain) → all_leave (delta_of (parts_of (release_of c o) ++ parts_of (leave c p))) ≡ true
release_told c None p = refl
release_told c (Some b) p = leave_behind (map (λ i. did.Released b.queue i) b.idents) [] (released_leave b.queue b.idents) refl

-- an operator's answer
abbrev pub is_of_operator : Acted → Bool
is_of_operator acted.Done = true
is_of_operator (acted.Op reason) = true
is_of_operator _ = false

answered : (m : ℕ) (op : Op) (a : Acted) (ms : List Message) (ds es : List Did) (l : Ledger) → is_of_operator a ≡ true
    → ledgers.returned m (replies.Acted a) (chances.Call Runs) es (ledgers.post_call m (calls.Act (acts.Obey (lines.Operate op))) (replies.Acted a) ms ds l) ≡ l
answered m op acted.Done ms ds es l e = refl
answered m op (acted.Op reason) ms ds es l e = refl
answered m op a ms ds es l e = absurd cc

pub operated_post : (m : ℕ) (e : Entry) (op : Op) (a : Acted) (l : Ledger) → e.call ≡ calls.Act (acts.Obey (lines.Operate op)) → e.chance ≡ chances.Call Runs → e.reply ≡ replies.Acted a → is_of_operator a ≡ true → all_leave e.effect.delta ≡ true → posted m e e.reply l ≡ l
operated_post m e op a l call chance reply is quiet = ap (λ (o : Reply). posted m e o l) reply
    ∙ (λ j. ledgers.returned m (replies.Acted a) (chance j) e.effect.delta (ledgers.post_call m (call j) (reply j) e.effect.received e.effect.delta (ledgers.take_all_gone m e.effect.delta l)))
    ∙ answered m op a e.effect.received e.effect.delta e.effect.delta (ledgers.take_all_gone m e.effect.delta l) is
    ∙ none_gone m e.effect.delta l quiet

-- what is told of a manager
abbrev pub told_of : ℕ → Did → ToldDeed
told_of m d = record { manager = m; did = d }

in_deeds : (m : ℕ) (ds : List Did) (e : Did) → Mem e ds → Mem (told_of m e) (deeds_in m ds)
in_deeds m [] e n = absurd n
in_deeds m (d ∷ ds) e (inl q) = inl (ap (told_of m) q)
in_deeds m (d ∷ ds) e (inr n) = inr (in_deeds m ds e n)

pub told_here : (a m : ℕ) (ds es : List Did) (e : Did) → a ≡ m → es ≡ ds → Mem e ds → Mem (told_of a e) (deeds_in m es)
told_here a m ds es e q f n = subst (λ (b : ℕ). Mem (told_of b e) (deeds_in m es)) (sym q) (subst (λ (xs : List Did). Mem (told_of m e) (deeds_in m xs)) (sym f) (in_deeds m ds e n))

-- WHAT A COMMAND ON AN END COMES TO
-- whatever end it is on: it changes ends alone and adds no batch, no row goes, and its operator has an answer
pub record IsAsked (d : Deed) : Type 0 where
  pub ends : parts_of_end d.parts ≡ true
  pub adds : parts_add_none d.parts ≡ true
  pub told : all_leave (delta_of d.parts) ≡ true
  pub answer : Acted
  pub reply : d.reply ≡ replies.Acted answer
  pub is : is_of_operator answer ≡ true
  pub pushed : d.pushed ≡ None

-- a sender's
pub record IsCommand (o : Option Luw) (z : Scene) (n : Node) (c : Channel) (y : Past) (d : Deed) (step : NearStep) : Type 0 where
  pub may : NearMay step c
  pub turned : (rs : List Plain) → IsNext z.sender n.manager (do_all d.parts n.manager) z.managers rs → TurnedBy o z (world_of z.scenario z.given rs) (near_does step c) (near_past step c y)
  pub sent : Sent z.place n d c.out (near_does step c)
  pub asked : IsAsked d
  pub tells : (ps : List Plain) (ds : List ToldDeed) → ((e : Did) → Mem e (delta_of d.parts) → Mem (told_of z.sender e) ds) → IsToldOf z.scenario ps ds z.sender z.place.channel c y → IsToldOf z.scenario ps ds z.sender z.place.channel (near_does step c) (near_past step c y)
  pub commits : (u : Luw) → o ≡ Some u → Mem (did.Hardened z.place.channel (notes.Resolved u true true)) (delta_of d.parts) × (Upto u c.receives.unit → ⊥)
  pub forces : (u : Luw) → o ≡ Some u → IsForcing (world_in z) z.sender z.place.channel u (delta_of d.parts)
  pub near : (v : Where) → (z.place.cable == v.cable) ≡ false → bytes_eq v.channel z.place.channel ≡ false → EachApart v n (Some d)
  pub others : (v : Where) → bytes_eq v.channel z.place.channel ≡ false → parts_for_others v.channel d.parts ≡ true
  pub far : (v : Where) → (z.place.cable == v.cable) ≡ false → EachFarApart v n (Some d)

abbrev pub Commands : Scene → Node → Channel → Past → Deed → Type 0
Commands z n c y d = (o : Option Luw) × (step : NearStep) × IsCommand o z n c y d step

-- where nothing is committed
pub none_commits : (c : Channel) (ch : List ℕ) (ds : List Did) (u : Luw) → None ≡ Some u → Mem (did.Hardened ch (notes.Resolved u true true)) ds × (Upto u c.receives.unit → ⊥)
none_commits c ch ds u e = absurd (no_unit u e)
  where
    no_unit : (u : Luw) → None ≡ Some u → ⊥
    no_unit u e = cc

-- what is refused changes nothing
pub refuses : (z : Scene) (n : Node) (c : Channel) (y : Past) (reason : OpRefusal) → IsAt z n c y → is_up n.manager.running ≡ true → Commands z n c y (refused reason n.own)
refuses z n c y reason a up = (
  None,
  NearStep.Rest,
  record {
    may = tt;
    turned = λ rs h. still z n c c y n.manager rs a refl (record { queues = refl; connections = refl; batches = refl; doubts = λ d. refl; near = record { given = refl; receivers = λ d. refl } }) h;
    sent = rests_sent z.place n c (refused reason n.own) a.sends up (told_is_quiet (replies.Acted (acted.Op reason)) n.own) (λ e. (a.sends.batched e).reads);
    asked = record { ends = refl; adds = refl; told = refl; answer = acted.Op reason; reply = refl; is = refl; pushed = refl };
    tells = λ ps ds f h. h;
    commits = none_commits c z.place.channel (delta_of (refused reason n.own).parts);
    forces = none_forced_now (world_in z) z.sender z.place.channel (delta_of (refused reason n.own).parts);
    near = λ v e f. (refl, refl);
    others = λ v f. refl;
    far = λ v e. (refl, refl);
  },
)

-- START
seizes : (z : Scene) (n : Node) (c : Channel) (y : Past) (s : Seizure) (o : Option SeizeFault) → IsAt z n c y → is_up n.manager.running ≡ true → senders.is_running c.sender.state ≡ false
    → Commands z n c y (start_seized (sender_of z.place c.sender) (step_or o (Do tt (silent (Seize s ∷ []) ∷ []))) n)
seizes z n c y s (Some fault) a up off = refuses z n c y (seize_refusal fault) a up
seizes z n c y s None a up off =
    let w : Where = z.place in
    let h : SendsAs w n c = a.sends in
    let parts : List Part = silent (Seize s ∷ []) ∷ [] in (
      None,
      NearStep.Start (limits_here w.channel n),
      record {
        may = off;
        turned = λ rs g. starts z n c y (limits_here w.channel n) s rs a g;
        sent = leaves w n (start_seized (sender_of w c.sender) (Do tt parts) n) c c.sends (senders.started (senders.kept_of (Some c.sends)) (limits_here w.channel n)) c.batch c.out up
            (ends_set w n _ c.sender h.here ∙ ap (λ (k : Kept). Some (Sends (sender_of w (senders.started k (limits_here w.channel n))))) (kept_or (sender_data w.channel n.manager) ∙ sym h.data_))
            (h.data_ ∙ ap (λ (o : Option SenderData). told_sends (sender_or o)) (sym (sender_parts_quiet w.channel parts (sender_data w.channel n.manager) refl)))
            (λ e. absurd cc)
            (λ e. batch_parts_quiet w.channel parts _ refl ∙ h.unbatched (resting_apart c.sender.state off))
            refl;
        asked = record { ends = refl; adds = refl; told = refl; answer = acted.Done; reply = refl; is = refl; pushed = refl };
        tells = λ ps ds f i. record { undone = i.undone; last = i.last };
        commits = none_commits c w.channel (delta_of (start_seized (sender_of w c.sender) (Do tt parts) n).parts);
        forces = none_forced_now (world_in z) z.sender w.channel (delta_of (start_seized (sender_of w c.sender) (Do tt parts) n).parts);
        near = λ v e f. (set_apart v _ n e, refl);
        others = λ v f. refl;
        far = λ v e. (set_far v _ n e, refl);
      },
    )

pub starts_so : (z : Scene) (n : Node) (c : Channel) (y : Past) → IsAt z n c y → is_up n.manager.running ≡ true → Commands z n c y (start_end (Some (Sends (sender_of z.place c.sender))) n)
starts_so z n c y a up =
    let ch : List ℕ = z.place.channel in
    let queue : List ℕ = channel_queue (channel_of ch n.manager.definitions) in
    bool_case (senders.is_running c.sender.state) (λ b. Commands z n c y (refused_or (if b then Some reasons.Running else None) n.own (start_seized (sender_of z.place c.sender) (seize ch n.manager) n)))
    (λ e. refuses z n c y reasons.Running a up)
    (λ e. seizes z n c y (record { channel = ch; queue = queue }) (refusal (
    when (not (is_transmission_queue (local_of queue n.manager.definitions))) seize_faults.BadQueue
    ∷ when (is_open_for_input queue n.manager || has_held_by_other ch queue n.manager) seize_faults.QueueInUse
    ∷ [])) a up e)

-- STOP
pub stops_so : (z : Scene) (n : Node) (c : Channel) (y : Past) → IsAt z n c y → is_up n.manager.running ≡ true → Commands z n c y (stop_end (Some (Sends (sender_of z.place c.sender))) n)
stops_so z n c y a up =
    let w : Where = z.place in
    let h : SendsAs w n c = a.sends in
    let o : Option Batch = batch_of w.channel n.manager.channels.batches in (
      None,
      NearStep.Stop,
      record {
        may = tt;
        turned = λ rs g. stops z n c y rs a g;
        sent = leaves w n (stop_end (Some (Sends (sender_of w c.sender))) n) c c.sends (senders.stopped c.sender) c.batch c.out up
            (ends_set w n _ c.sender h.here)
            (h.data_ ∙ ap (λ (d : Option SenderData). told_sends (sender_or d)) (sym (releases_data w.channel o n.manager (sender_data w.channel n.manager))))
            (λ e. absurd cc)
            (λ e. releases_batch w.channel o n.manager)
            refl;
        asked = record { ends = release_of_end w.channel o n.manager; adds = release_adds w.channel o n.manager; told = release_told w.channel o n.manager; answer = acted.Done; reply = refl; is = refl; pushed = refl };
        tells = λ ps ds f i. released_tells z.scenario ps ds z.sender w.channel c (sender_stopped c) y refl i;
        commits = none_commits c w.channel (delta_of (stop_end (Some (Sends (sender_of w c.sender))) n).parts);
        forces = none_forced_now (world_in z) z.sender w.channel (delta_of (stop_end (Some (Sends (sender_of w c.sender))) n).parts);
        near = λ v e f. (set_apart v _ n e, release_apart v.channel w.channel o n.manager f);
        others = λ v f. parts_behind v.channel (parts_of (release_batch w.channel n.manager)) (parts_of (leave w.channel n.manager)) (released_others v.channel w.channel o) refl;
        far = λ v e. (set_far v _ n e, release_far v.channel w.channel o n.manager);
      },
    )

-- RESET
numbered : (z : Scene) (n : Node) (c : Channel) (y : Past) (seqnum : ℕ) → IsAt z n c y → is_up n.manager.running ≡ true → senders.is_running c.sender.state ≡ false → Commands z n c y (reset_deed z.place seqnum n)
numbered z n c y seqnum a up off =
    let w : Where = z.place in
    let h : SendsAs w n c = a.sends in (
      None,
      NearStep.Number (seqnum - 1),
      record {
        may = off;
        turned = λ rs g. numbers z n c y (seqnum - 1) rs a g;
        sent = leaves w n (reset_deed w seqnum n) c (record c.sends { last = seqnum - 1; force = true }) c.sender c.batch c.out up h.here
            (ap (λ (k : Kept). record k { last = seqnum - 1; force = true }) h.data_ ∙ found_data w.channel (record (sends_at w.channel n.manager) { last = seqnum - 1; force = true }) (sender_data w.channel n.manager))
            (λ e. absurd (cc (e, resting_apart c.sender.state off)))
            (λ e. h.unbatched e)
            refl;
        asked = record { ends = refl; adds = refl; told = refl; answer = acted.Done; reply = refl; is = refl; pushed = refl };
        tells = λ ps ds f i. record { undone = i.undone; last = i.last };
        commits = none_commits c w.channel (delta_of (reset_deed w seqnum n).parts);
        forces = none_forced_now (world_in z) z.sender w.channel (delta_of (reset_deed w seqnum n).parts);
        near = λ v e f. (refl, ap (λ (b : Bool). (not b && true) && true) f);
        others = λ v f. refl;
        far = λ v e. (refl, refl);
      },
    )

pub numbers_so : (z : Scene) (n : Node) (c : Channel) (y : Past) (seqnum : ℕ) → IsAt z n c y → is_up n.manager.running ≡ true → Commands z n c y (reset_end seqnum (Some (Sends (sender_of z.place c.sender))) n)
numbers_so z n c y seqnum a up =
    let w : Where = z.place in
    bool_case (is_in_doubt w.channel n)
    (λ b. Commands z n c y (refused_or (if b then Some reasons.InDoubt else (if senders.is_running c.sender.state then Some reasons.Running else (if is_bad_number seqnum (limits_here w.channel n) then Some reasons.BadNumber else None))) n.own (reset_deed w seqnum n)))
    (λ e. refuses z n c y reasons.InDoubt a up)
    (λ e. bool_case (senders.is_running c.sender.state)
    (λ b. Commands z n c y (refused_or (if b then Some reasons.Running else (if is_bad_number seqnum (limits_here w.channel n) then Some reasons.BadNumber else None)) n.own (reset_deed w seqnum n)))
    (λ f. refuses z n c y reasons.Running a up)
    (λ f. bool_case (is_bad_number seqnum (limits_here w.channel n))
    (λ b. Commands z n c y (refused_or (if b then Some reasons.BadNumber else None) n.own (reset_deed w seqnum n)))
    (λ g. refuses z n c y reasons.BadNumber a up)
    (λ g. numbered z n c y seqnum a up f)))

-- AS A MOVE
command_moves : (s : Scenario) (hs : List History) (p : List Line) (x : Line) (z : Stand s hs p) (t : Told_ s hs p x) (i : ℕ) (k : CableLine) (d : Deed) (op : Op) (o : Option Luw) (step : NearStep) → IsScenario s → slice_get s.cables i ≡ Some k → k.sender ≡ x.manager
    → x.entry.call ≡ calls.Act (acts.Obey (lines.Operate op)) → x.entry.chance ≡ chances.Call Runs → IsRun s hs p x t d
    → IsCommand o (scene s hs p z k (near_at s i k)) (node_after s x.manager p t.h) (z.xs k.sender k.channel) (z.ys k.sender k.channel) d step → Moves s hs p x t.h z
command_moves s hs p x z t i k d op o step scenario e q call chance r v =
    let m : ℕ = x.manager in
    let n : Node = node_after s m p t.h in
    let l : Ledger = ledger (opening_ledger s hs) p in
    let reply : x.entry.reply ≡ replies.Acted v.asked.answer = t.tells.reply ∙ ap (λ (o : Done). o.reply) r.is ∙ v.asked.reply in
    let delta : x.entry.effect.delta ≡ delta_of d.parts = t.tells.delta ∙ ap (λ (o : Done). o.delta) r.is in
    let quiet : all_leave x.entry.effect.delta ≡ true = ap all_leave delta ∙ v.asked.told in
    step_moves s hs p x z t i k d o step scenario e q (record {
      run = r;
      may = v.may;
      turned = v.turned (managers_at s (p ++ x ∷ []) hs) (run_next s hs p x t d k.sender r q);
      sent = v.sent;
      beside = parts_beside d.parts n.manager v.asked.ends;
      whole = ledger_step (opening_ledger s hs) p x ∙ operated_post m x.entry op v.asked.answer l call chance reply v.asked.is quiet;
      quiet = none_received x.entry.effect.delta quiet;
      tells = λ h. v.tells (opening_managers s hs) (deeds p ++ deeds_in m x.entry.effect.delta)
          (λ b w. mem_behind (told_of k.sender b) (deeds p) (deeds_in m x.entry.effect.delta) (told_here k.sender m (delta_of d.parts) x.entry.effect.delta b q delta w)) h;
      cabled = parts_cabled s.cables m d.parts n.manager v.asked.adds (z.cabled m t.h t.is);
      near = λ j h f out a.
          let u : Where = near_at s j h in
          let other = else_channel k h (a ∙ sym q) out in
          let g : EachApart u n (Some d) = v.near u (else_index s i j k h e f out) other in
          asides u n d g.0 g.1 (stays u.channel n.manager d.parts r.before r.after (apart_batch u n d g.1) (v.others u other));
      far = λ j h f out a.
          let u : Where = far_at s j h in
          let g : EachFarApart u n (Some d) = v.far u (else_index s i j k h e f out) in
          far_asides u n d g.0 g.1;
      offers = λ j f by_ push. absurd (no_frame f (sym v.asked.pushed ∙ push));
      answers = λ j f by_ push. no_frame f (sym v.asked.pushed ∙ push);
      forces = λ u f. subst (λ (o : List Did). IsForcing (world_of s z.given (managers_at s p hs)) k.sender k.channel u o) (sym delta) (v.forces u f);
      committed = λ u f.
          let b = v.commits u f in
          let w : Luw = (z.xs k.sender k.channel).receives.unit in (
            told_now p x (told_of k.sender (did.Hardened k.channel (notes.Resolved u true true))) (told_here k.sender m (delta_of d.parts) x.entry.effect.delta (did.Hardened k.channel (notes.Resolved u true true)) q delta b.0),
            is_false (is_committed s (opening_managers s hs) (deeds (p ++ x ∷ [])) k.channel u)
                (λ g. b.1 (risen_still s (opening_managers s hs) p x k.channel w w (none_received x.entry.effect.delta quiet) refl (z.risen k (mem_at s.cables i k e)) u g)),
          );
    })
  where
    no_frame : (f : Frame) → None ≡ Some f → ⊥
    no_frame f e = cc

pub up_so : (op : Op) (n : Node) → is_up n.manager.running ≡ true → operate_up op n ≡ operate op n
up_so op n up = sym (ap (λ (t : Bool). tested (when (not t) reasons.Down ∷ []) n.own (operate_up op n)) up)

pub operator_run : (s : Scenario) (hs : List History) (p : List Line) (x : Line) (z : Stand s hs p) (t : Told_ s hs p x) (op : Op) → IsRunning s p x t.h (operate op (node_after s x.manager p t.h)) → IsRun s hs p x t (operate op (node_after s x.manager p t.h))
operator_run s hs p x z t op run =
    let n : Node = node_after s x.manager p t.h in
    let sound : IsSound n.manager = sound_at s hs p x z t run.up in
    record { up = run.up; is = run.is; can = run.can; before = sound; after = behind (operate op n).parts n.manager sound (operates op n sound) }

pub commanded : (s : Scenario) (hs : List History) (p : List Line) (x : Line) (z : Stand s hs p) (t : Told_ s hs p x) (i : ℕ) (k : CableLine) (d : Deed) (op : Op) → IsScenario s → slice_get s.cables i ≡ Some k → k.sender ≡ x.manager
    → x.entry.call ≡ calls.Act (acts.Obey (lines.Operate op)) → x.entry.chance ≡ chances.Call Runs → IsRunning s p x t.h (operate op (node_after s x.manager p t.h)) → d ≡ operate_up op (node_after s x.manager p t.h)
    → (IsAt (scene s hs p z k (near_at s i k)) (node_after s x.manager p t.h) (z.xs k.sender k.channel) (z.ys k.sender k.channel) → Commands (scene s hs p z k (near_at s i k)) (node_after s x.manager p t.h) (z.xs k.sender k.channel) (z.ys k.sender k.channel) d)
    → Moves s hs p x t.h z
commanded s hs p x z t i k d op scenario e q call chance run is so =
    let n : Node = node_after s x.manager p t.h in
    let r : IsRun s hs p x t (operate op n) = operator_run s hs p x z t op run in
    let b = subst (λ (g : Deed). Commands (scene s hs p z k (near_at s i k)) n (z.xs k.sender k.channel) (z.ys k.sender k.channel) g) (is ∙ up_so op n (ap is_up run.up)) (so (sender_at s hs p x z t i k (operate op n) e q r)) in
    command_moves s hs p x z t i k (operate op n) op b.0 b.1 scenario e q call chance r b.2

pub starting : (s : Scenario) (hs : List History) (p : List Line) (x : Line) (h : History) (stamp : ℕ) (z : Stand s hs p) (i : ℕ) (k : CableLine) (name : List ℕ) → IsScenario s → slice_get hs x.manager ≡ Some h → Tells (node_after s x.manager p h) stamp x.entry
    → IsOwn x.entry.chance → slice_get s.cables i ≡ Some k → k.sender ≡ x.manager → x.entry.call ≡ calls.Act (acts.Obey (lines.Operate (ops.Start name))) → x.entry.chance ≡ chances.Call Runs
    → IsRunning s p x h (operate (ops.Start name) (node_after s x.manager p h)) → end_here name (node_after s x.manager p h) ≡ Some (Sends (sender_of (near_at s i k) (z.xs k.sender k.channel).sender)) → Moves s hs p x h z
starting s hs p x h stamp z i k name scenario is tells own e q call chance run named =
    let n : Node = node_after s x.manager p h in
    let end = sender_of (near_at s i k) (z.xs k.sender k.channel).sender in
    commanded s hs p x z (record { h = h; is = is; stamp = stamp; tells = tells; own = own }) i k (start_end (Some (Sends end)) n) (ops.Start name) scenario e q call chance run (ap (λ o. start_end o n) (sym named))
    (λ a. starts_so (scene s hs p z k (near_at s i k)) n (z.xs k.sender k.channel) (z.ys k.sender k.channel) a (ap is_up run.up))

pub stopping : (s : Scenario) (hs : List History) (p : List Line) (x : Line) (h : History) (stamp : ℕ) (z : Stand s hs p) (i : ℕ) (k : CableLine) (name : List ℕ) → IsScenario s → slice_get hs x.manager ≡ Some h → Tells (node_after s x.manager p h) stamp x.entry
    → IsOwn x.entry.chance → slice_get s.cables i ≡ Some k → k.sender ≡ x.manager → x.entry.call ≡ calls.Act (acts.Obey (lines.Operate (ops.Stop name))) → x.entry.chance ≡ chances.Call Runs
    → IsRunning s p x h (operate (ops.Stop name) (node_after s x.manager p h)) → end_here name (node_after s x.manager p h) ≡ Some (Sends (sender_of (near_at s i k) (z.xs k.sender k.channel).sender)) → Moves s hs p x h z
stopping s hs p x h stamp z i k name scenario is tells own e q call chance run named =
    let n : Node = node_after s x.manager p h in
    let end = sender_of (near_at s i k) (z.xs k.sender k.channel).sender in
    commanded s hs p x z (record { h = h; is = is; stamp = stamp; tells = tells; own = own }) i k (stop_end (Some (Sends end)) n) (ops.Stop name) scenario e q call chance run (ap (λ o. stop_end o n) (sym named))
    (λ a. stops_so (scene s hs p z k (near_at s i k)) n (z.xs k.sender k.channel) (z.ys k.sender k.channel) a (ap is_up run.up))

pub resetting : (s : Scenario) (hs : List History) (p : List Line) (x : Line) (h : History) (stamp : ℕ) (z : Stand s hs p) (i : ℕ) (k : CableLine) (name : List ℕ) (seqnum : ℕ) → IsScenario s → slice_get hs x.manager ≡ Some h → Tells (node_after s x.manager p h) stamp x.entry
    → IsOwn x.entry.chance → slice_get s.cables i ≡ Some k → k.sender ≡ x.manager → x.entry.call ≡ calls.Act (acts.Obey (lines.Operate (ops.Reset name seqnum))) → x.entry.chance ≡ chances.Call Runs
    → IsRunning s p x h (operate (ops.Reset name seqnum) (node_after s x.manager p h)) → end_here name (node_after s x.manager p h) ≡ Some (Sends (sender_of (near_at s i k) (z.xs k.sender k.channel).sender)) → Moves s hs p x h z
resetting s hs p x h stamp z i k name seqnum scenario is tells own e q call chance run named =
    let n : Node = node_after s x.manager p h in
    let end = sender_of (near_at s i k) (z.xs k.sender k.channel).sender in
    commanded s hs p x z (record { h = h; is = is; stamp = stamp; tells = tells; own = own }) i k (reset_end seqnum (Some (Sends end)) n) (ops.Reset name seqnum) scenario e q call chance run (ap (λ o. reset_end seqnum o n) (sym named))
    (λ a. numbers_so (scene s hs p z k (near_at s i k)) n (z.xs k.sender k.channel) (z.ys k.sender k.channel) seqnum a (ap is_up run.up))
