-- A restart that finds the stopped write of a receiver's commit, as a move of the network: the unit is committed there by now, with what the
-- network has become since; and then the manager comes up.
use Rattle.std.proofs.Common.{ℕ, ◌≡◌, Bool, true, false, List, [], ◌∷◌, ◌++◌, refl, ap, sym, subst, ◌∙◌, inl, inr, map}
use Rattle.std.specs.Prelude.{Option, Some, None, Result, Ok, ◌==◌, ◌&&◌, ◌||◌, filter, if◌then◌else◌, not, slice_get}
use Rattle.std.specs.Option.{option_map}
use Rattle.std.specs.Str.{bytes_eq}
use Rattle.mq_codes.specs.declared.reason.Reason.{Reason}
use Rattle.mq_message.specs.declared.message.Message.{Message}
use Rattle.mq_queue.specs.declared.row.Row.{Row}
use Rattle.mq_queue.specs.Rows.{keep}
use Rattle.mq_frame.specs.declared.frame.Frame.{Frame}
use Rattle.mq_sync.specs.declared.unit.Unit.{Unit as Luw}
use Rattle.mq_sync.specs.declared.data.ReceiverData.{ReceiverData}
use Rattle.mq_sync.specs.declared.data.SenderData.{SenderData}
use Rattle.mq_sync.specs.Settlement.{receiver_or, sender_or}
use Rattle.mq_sync.specs.Units.{Upto, no_unit, same_unit}
use Rattle.mq_receiver.specs.declared.turns.ReceiverDoes.{ReceiverDoes}
use Rattle.mq_receiver.specs.declared.turns.ReceiverDoes.TheVariants as takes
use Rattle.mq_receiver.specs.declared.turns.ReceiverOut.{ReceiverOut}
use Rattle.mq_receiver.specs.declared.turns.ReceiverOut.TheVariants as outs
use Rattle.mq_calls.specs.declared.choices.Return.TheVariants.{Comes}
use Rattle.mq_calls.specs.declared.deltas.Did.{Did}
use Rattle.mq_calls.specs.declared.deltas.Did.TheVariants as did
use Rattle.mq_calls.specs.declared.deltas.Why.TheVariants as whys
use Rattle.mq_calls.specs.declared.records.LogRecord.{LogRecord}
use Rattle.mq_history.specs.declared.acts.Act.TheVariants as acts
use Rattle.mq_history.specs.declared.acts.Acted.TheVariants as acted
use Rattle.mq_history.specs.declared.calls.Reply.TheVariants as replies
use Rattle.mq_history.specs.declared.calls.Call.{Call}
use Rattle.mq_history.specs.declared.calls.Call.TheVariants as calls
use Rattle.mq_history.specs.declared.calls.Chance.TheVariants as chances
use Rattle.mq_history.specs.declared.history.History.{History}
use Rattle.mq_history.specs.declared.scenario.CableLine.{CableLine}
use Rattle.mq_history.specs.declared.scenario.Scenario.{Scenario}
use Rattle.mq_history.specs.Scenarios.{IsScenario}
use Rattle.mq_calls.specs.State.{Change, Channels, Noted, Plain}
use Rattle.mq_calls.specs.State.Change.{SetReceiver}
use Rattle.mq_calls.specs.State.Running.{Down}
use Rattle.mq_calls.specs.Reads.{receiver_data, receiver_in, sender_data, sender_in}
use Rattle.mq_calls.specs.Steps.{stands_in}
use Rattle.mq_spec_manager.specs.Stops.{lasts, redone, redone_delta}
use Rattle.mq_spec_manager.specs.Agents.{Landed, landed, received_part, received_record}
use Rattle.mq_spec_node.specs.Node.{Node}
use Rattle.mq_spec_node.specs.Deeds.{Done}
use Rattle.mq_spec_node.specs.Replays.{done_by}
use Rattle.mq_spec_network.specs.Conflict.{Deed as ToldDeed, NoConflict, committed_in, deeds, deeds_in, is_committed}
use Rattle.mq_spec_network.specs.Ledger as ledgers
use Rattle.mq_spec_network.specs.Ledger.{Ledger, Users, ledger, users_or}
use Rattle.mq_spec_network.specs.Order.{KeepsOrder, OrderAt, committed_messages, messages_found, others as others_of, unit_received}
use Rattle.mq_spec_network.specs.Standing.{managers_at, node_after, opening_ledger, opening_managers}
use Rattle.mq_spec_network.specs.Story.{Line, Mem}
use Rattle.mq_law_channel.specs.Channel.{Channel, Facts, Past}
use Rattle.mq_law_channel.specs.Following.{Awaited, Placed}
use Rattle.mq_law_channel.specs.Turns.{ReceiverMay, ReceiverTurn, receiver_does, receiver_turn, receiver_turned}
use Rattle.mq_law_channel.proofs.Following as following
use Rattle.mq_law_channel.proofs.Told.{and_both, unit_yes}
use Rattle.mq_law_node.specs.Data.{receiver_by_all, sender_by_all}
use Rattle.mq_law_node.specs.Ends.{Where, stamped, told_receives, told_sends}
use Rattle.mq_law_node.specs.Moves.{FarStep}
use Rattle.mq_law_node.specs.Nodes.{FarAt, NearAt, SendsDown, TakesDown}
use Rattle.mq_law_node.proofs.AsideTakings.{ToldSender, landed_told, sender_changes}
use Rattle.mq_law_node.proofs.FarEvents.{far_redone_data}
use Rattle.mq_law_node.proofs.FarFreezing.{far_near}
use Rattle.mq_law_node.proofs.Landings.{QuietReceiver, landed_receiver, receiver_changes}
use Rattle.mq_law_node.proofs.Moving.{far_keeps}
use Rattle.mq_law_node.proofs.NearEvents.{redone_data}
use Rattle.mq_law_manager.proofs.Named.{name_is}
use Rattle.mq_law_manager.proofs.Lists.{mem_before, mem_behind}
use Rattle.mq_law_node.proofs.from_law_seized.Landing.{LandedHas, landed_has}
use Rattle.mq_law_rows.specs.Families.{put_at}
use Rattle.mq_law_rows.specs.Kinds.{among, is_lost, place_all}
use Rattle.mq_law_rows.specs.World.{Book, tag_idents}
use Rattle.mq_law_rows.proofs.Lists.{bool_case, eqb_self, here_yes, true_false, and_left, and_right}
use Rattle.mq_law_seen.specs.Seen.{book_of, world_of}
use Rattle.mq_law_seen.proofs.Bridges.{loses_rows}
use Rattle.mq_law_events.specs.Posting.{IsTimed}
use Rattle.mq_law_events.specs.Tied.{IsNext, IsTold}
use Rattle.mq_law_one.proofs.from_law_story.Agreeing.{backout_borne}
use Rattle.mq_law_one.proofs.from_law_story.Weaving.{manager_at}
use Rattle.mq_law_stopped.specs.from_law_found.Finds.{posted_again}
use Rattle.mq_law_stopped.specs.from_law_receipts.Receipts.{Comes as ComesIn, IsAwaitedAt, IsCabled}
use Rattle.mq_law_stopped.proofs.from_law_receipts.Cabling.{cabled}
use Rattle.mq_law_stopped.proofs.from_law_receipts.Landing.{all_landed, is_landed, plain_one}
use Rattle.mq_law_stopped.specs.from_law_turns.Agreed.{IsToldOf, TellsCommit}
use Rattle.mq_law_stopped.specs.from_law_turns.Turns.{IsHome, IsJoint, Scene, Taken, world_in}
use Rattle.mq_law_stopped.proofs.from_law_turns.Agreeing.{agreed, grows, received_told, receiver_tells}
use Rattle.mq_law_stopped.proofs.from_law_turns.Taking.{found_at}
use Rattle.mq_law_cables.proofs.Differing.{leads}
use Rattle.mq_law_cables.proofs.Keeping.{taken_joint}
use Rattle.mq_law_cables.proofs.Unprepared.{unprepared_still}
use Rattle.mq_law_one.specs.Alone.{as_left}
use Rattle.mq_law_one.proofs.Running.{Told_}
use Rattle.mq_law_stopped.specs.Noted.{CommitFound, CommitNote, noted_of}
use Rattle.mq_law_stopped.proofs.Committing.{commit_found}
use Rattle.mq_law_stopped.proofs.Leaving.{one_on, one_redone}
use Rattle.mq_law_run.specs.Ordered.{forced_over}
use Rattle.mq_law_run.specs.Run.{HaveSenders, Housed, Moves, Stand, back_done, far_at, near_at}
use Rattle.mq_law_run.proofs.Later.{later_self}
use Rattle.mq_law_run.proofs.Receipting.{IsLanded, landed_listed, landed_order}
use Rattle.mq_law_run.proofs.Beside.{adds_none, all_add_none}
use Rattle.mq_law_run.proofs.Cabled.{all_cabled, same_batches}
use Rattle.mq_law_run.proofs.Commanding.{told_here, told_of}
use Rattle.mq_law_run.proofs.Housing as housing
use Rattle.mq_law_run.proofs.Landing.{EachBoth, landed_both}
use Rattle.mq_law_run.proofs.Lining.{else_index, here, index_of, mem_at, same_cable, same_index}
use Rattle.mq_law_run.proofs.Owning.{next_managers}
use Rattle.mq_law_run.proofs.Receiving.{channel_else, committed_apart, not_loose, numbers_of, only_one, operated_old, shelved_of, upto_below, upto_on, upto_self}
use Rattle.mq_law_run.proofs.Redoing.{FarPart, NearPart, alone, clear, end_returns, mid_next, mid_of, part_of}
use Rattle.mq_law_run.proofs.Running.{far_here, joint_here, near_here, scene, told_all}
use Rattle.mq_law_run.proofs.Telling.{deeds_more, risen_told, still_not, told_before, told_now}

-- WHAT IT TELLS: its own commit, and no other
received_lasts : (r : LogRecord) (b : Plain) (c : List ℕ) (u : Luw) (ds : List Did) → Mem (did.Received c u) (filter (lasts r b) (ds ++ did.Received c u ∷ []))
received_lasts r b c u [] = inl refl
received_lasts r b c u (d ∷ ds) = bool_case (lasts r b d) (λ t. Mem (did.Received c u) (if t then d ∷ filter (lasts r b) (ds ++ did.Received c u ∷ []) else filter (lasts r b) (ds ++ did.Received c u ∷ []))) (λ z. inr (received_lasts r b c u ds)) (λ z. received_lasts r b c u ds)

first_received : (r : LogRecord) (q : Plain) (c : List ℕ) (u : Luw) (ds : List Did) → unit_received ds ≡ None → unit_received (filter (lasts r q) (ds ++ did.Received c u ∷ [])) ≡ Some (c, u)
first_received r q c u [] e = refl
first_received r q c u (did.Received d v ∷ ds) e = absurd cc
first_received r q c u (did.Placed a i dead ∷ ds) e = bool_case (lasts r q (did.Placed a i dead)) (λ t. unit_received (if t then did.Placed a i dead ∷ filter (lasts r q) (ds ++ did.Received c u ∷ []) else filter (lasts r q) (ds ++ did.Received c u ∷ [])) ≡ Some (c, u))
    (λ t. first_received r q c u ds e) (λ t. first_received r q c u ds e)
first_received r q c u (did.Removed a i why ∷ ds) e = bool_case (lasts r q (did.Removed a i why)) (λ t. unit_received (if t then did.Removed a i why ∷ filter (lasts r q) (ds ++ did.Received c u ∷ []) else filter (lasts r q) (ds ++ did.Received c u ∷ [])) ≡ Some (c, u))
    (λ t. first_received r q c u ds e) (λ t. first_received r q c u ds e)
first_received r q c u (did.Moved a i to target bare ∷ ds) e = first_received r q c u ds e
first_received r q c u (did.Held a i by_ ∷ ds) e = bool_case (lasts r q (did.Held a i by_)) (λ t. unit_received (if t then did.Held a i by_ ∷ filter (lasts r q) (ds ++ did.Received c u ∷ []) else filter (lasts r q) (ds ++ did.Received c u ∷ [])) ≡ Some (c, u))
    (λ t. first_received r q c u ds e) (λ t. first_received r q c u ds e)
first_received r q c u (did.Released a i ∷ ds) e = bool_case (lasts r q (did.Released a i)) (λ t. unit_received (if t then did.Released a i ∷ filter (lasts r q) (ds ++ did.Received c u ∷ []) else filter (lasts r q) (ds ++ did.Received c u ∷ [])) ≡ Some (c, u))
    (λ t. first_received r q c u ds e) (λ t. first_received r q c u ds e)
first_received r q c u (did.Hardened d note ∷ ds) e = first_received r q c u ds e
first_received r q c u (did.Prepared d v ∷ ds) e = first_received r q c u ds e

none_in_landed : (m : ℕ) (b : List ℕ) (v : Luw) (d : Did) (ds : List ToldDeed) → is_landed d ≡ true → committed_in b v (told_of m d ∷ ds) ≡ committed_in b v ds
none_in_landed m b v (did.Placed q i dead) ds e = refl
none_in_landed m b v (did.Removed q i whys.CameBack) ds e = refl
none_in_landed m b v (did.Removed q i whys.Got) ds e = absurd cc
none_in_landed m b v (did.Removed q i whys.Expired) ds e = absurd cc
none_in_landed m b v (did.Removed q i whys.Discarded) ds e = absurd cc
none_in_landed m b v (did.Removed q i whys.Sent) ds e = absurd cc
none_in_landed m b v (did.Moved q i to target bare) ds e = absurd cc
none_in_landed m b v (did.Held q i by_) ds e = absurd cc
none_in_landed m b v (did.Released q i) ds e = absurd cc
none_in_landed m b v (did.Hardened c note) ds e = absurd cc
none_in_landed m b v (did.Prepared c u) ds e = absurd cc
none_in_landed m b v (did.Received c u) ds e = absurd cc

only_commit : (m : ℕ) (b : List ℕ) (v : Luw) (r : LogRecord) (q : Plain) (c : List ℕ) (u : Luw) (ds : List Did) → all_landed ds ≡ true
    → committed_in b v (deeds_in m (filter (lasts r q) (ds ++ did.Received c u ∷ []))) ≡ ((bytes_eq b c && same_unit v u) || false)
only_commit m b v r q c u [] e = refl
only_commit m b v r q c u (d ∷ ds) e =
    let z = and_both (is_landed d) (all_landed ds) e in
    let rest : List Did = filter (lasts r q) (ds ++ did.Received c u ∷ []) in
    let on = only_commit m b v r q c u ds z.1 in
    bool_case (lasts r q d) (λ t. committed_in b v (deeds_in m (if t then d ∷ rest else rest)) ≡ ((bytes_eq b c && same_unit v u) || false)) (λ y. none_in_landed m b v d (deeds_in m rest) z.0 ∙ on) (λ y. on)

-- a landing tells what came back and what was placed
abbrev TellsLanded : Landed → Type 0
TellsLanded l = all_landed l.delta ≡ true

abbrev AreLanded : Result Landed Reason → Type 0
AreLanded r = LandedHas TellsLanded r

all_are_landed : (c : List ℕ) (ms : List Message) (p : Plain) → AreLanded (landed c ms p)
all_are_landed c ms p = landed_has TellsLanded refl (λ m l st rest h. plain_one l.message st l.queue l.message.ident l.dead rest.delta h) c ms p

or_true : (a : Bool) → (a || false) ≡ true → a ≡ true
or_true true e = refl
or_true false e = absurd cc

or_false : (a : Bool) → a ≡ false → (a || false) ≡ false
or_false a e = ap (λ t. t || false) e

abbrev unit_in : ReceiverDoes → Luw
unit_in (takes.Place u) = u
unit_in _ = no_unit

tells_so : (o : ReceiverOut) (d : ReceiverDoes) (c : List ℕ) (u : Luw) (ds : List ToldDeed) → o ≡ outs.Done → d ≡ takes.Place u → (t : ℕ) × Mem (record { manager = t; did = did.Received c u }) ds → TellsCommit o d c ds
tells_so o d c u ds e f n = subst (λ (a : ReceiverOut). TellsCommit a d c ds) (sym e) (subst (λ (a : ReceiverDoes). TellsCommit outs.Done a c ds) (sym f) n)

pub commit_returns : (s : Scenario) (hs : List History) (wide p : List Line) (es : List ToldDeed) (x : Line) (z : Stand s hs p) (t : Told_ s hs p x) (noted : Noted) (starts started : ℕ) (st : ledgers.Stopped) (i : ℕ) (k : CableLine) → IsScenario s → NoConflict s hs wide → deeds wide ≡ deeds (p ++ x ∷ []) ++ es → HaveSenders s hs
    → slice_get s.cables i ≡ Some k → k.receiver ≡ x.manager → CommitNote (deeds p) k.sender k.channel st noted (as_left (node_after s x.manager p t.h).manager) (z.xs k.sender k.channel)
    → (ledgers.users_at x.manager (ledger (opening_ledger s hs) p)).cut ≡ Some st → (node_after s x.manager p t.h).manager.running ≡ Down (Some noted) starts → x.entry.call ≡ calls.Act acts.Restart
    → x.entry.chance ≡ chances.Restart (Comes true started) → done_by x.entry (node_after s x.manager p t.h) ≡ back_done started noted (node_after s x.manager p t.h) → Moves s hs p x t.h z
commit_returns s hs wide p es x z t noted starts started st i k scenario peace split have at_k q note cut down call chance is =
    let m : ℕ = x.manager in
    let n : Node = node_after s m p t.h in
    let b : Plain = n.manager in
    let l : Ledger = ledger (opening_ledger s hs) p in
    let ps : List Plain = managers_at s p hs in
    let os : List Plain = opening_managers s hs in
    let w : Where = far_at s i k in
    let ch : List ℕ = k.channel in
    let c : Channel = z.xs k.sender ch in
    let y : Past = z.ys k.sender ch in
    let zz : Scene = scene s hs p z k w in
    let there : Mem k s.cables = mem_at s.cables i k at_k in
    let a = z.at m t.h t.is in
    let u : Luw = note.commits.unit in
    let ld : Landed = note.commits.land in
    let turn : ReceiverTurn = note.turn in
    let c1 : Channel = receiver_turn turn c in
    let facts : Facts c y = (z.lines i k at_k).facts in
    let ds : List Did = redone_delta true (Some noted) b in
    let r0 : LogRecord = received_record ch u note.commits.last ld in
    let note_is : noted ≡ noted_of (received_part ch u note.commits.last ld note.was) r0 = note.is ∙ (λ e. noted_of (note.commits.part_ e) (note.commits.record_ e)) in
    let delta_is : ds ≡ filter (lasts r0 b) (ld.delta ++ did.Received ch u ∷ []) = ap (λ (o : Noted). redone_delta true (Some o) b) note_is in
    let delta : x.entry.effect.delta ≡ ds = t.tells.delta ∙ ap (λ (o : Done). o.delta) is in
    let it : ToldDeed = told_of m (did.Received ch u) in
    let tells : Mem it (deeds_in m x.entry.effect.delta) = told_here m m ds x.entry.effect.delta (did.Received ch u) refl delta (subst (λ (o : List Did). Mem (did.Received ch u) o) (sym delta_is) (received_lasts r0 b ch u ld.delta)) in
    let in_wide : (d : ToldDeed) → Mem d (deeds (p ++ x ∷ [])) → Mem d (deeds wide) = λ d o. subst (λ (v : List ToldDeed). Mem d v) (sym split) (mem_before d (deeds (p ++ x ∷ [])) es o) in
    let committed : Mem it (deeds wide) = in_wide it (told_now p x it tells) in
    let now : IsToldOf s os (deeds (p ++ x ∷ [])) k.sender ch c y =
    subst (λ o. IsToldOf s os o k.sender ch c y) (sym (deeds_more p x)) (grows s os (deeds p) (deeds_in m x.entry.effect.delta) k.sender ch c y (z.told k there)) in
    let undone : y.near.undone u ≡ false = agreed s hs wide (deeds (p ++ x ∷ [])) es k.sender m ch c y u peace split now committed in
    let comes : (v : Message) → Mem v (map stamped c.kept) → ComesIn note.was v = elim note.agrees [
      | inl o ↦ absurd (true_false (sym (received_told s os (deeds wide) ch u m committed) ∙ backout_borne s hs wide k.sender ch u peace (in_wide _ (told_before p x _ o))))
      | inr f ↦ f
    ] in
    let may : ReceiverMay turn c y = record { offered = note.may.0; refused = note.may.1; agreed = λ v ran does_. ap (λ (h : Luw). y.near.undone h) (ap unit_in (sym does_ ∙ note.commits.does)) ∙ undone } in
    let placed : Placed c y u = following.placed turn c y u facts may note.commits.does in
    let waits : Awaited c y u = following.awaited turn c y u facts may note.commits.does undone in
    let from = have k there in
    let cabled_ : IsCabled s ps k.sender k.receiver ch = cabled s ps k (node_after s k.sender p from.0).manager scenario there (numbers_of s hs p z) (manager_at s p hs k.sender ∙ ap (option_map (λ (h : History). (node_after s k.sender p h).manager)) from.1) in
    let home : IsHome zz b l = record {
      cabled = cabled_;
      fresh = a.fresh;
      told = subst (λ v. IsTold v b l) (sym q) a.told;
      timed = subst (λ v. IsTimed v b l) (sym q) a.timed;
      shelved = shelved_of s hs p z;
    } in
    let at_b : slice_get ps m ≡ Some b = (next_managers s hs p x t).at in
    let joint0 : IsJoint (world_in zz) z.ghost zz.book k.sender k.receiver ch c y = joint_here s hs p z k there in
    let found : CommitFound zz b l noted st c1 y = commit_found zz b c y l noted st (deeds p) k.sender note (subst (λ v. slice_get ps v ≡ Some b) (sym q) at_b) joint0 refl placed waits home comes in
    let g : Plain = found.behind in
    let to : ℕ → Ledger = λ v. posted_again v st ds l in
    let kn : Ledger = to m in
    let mid : List Plain = mid_of s hs p x g in
    let n1 : IsNext m b g ps mid = mid_next s hs p x t g in
    let nk : IsNext k.receiver b g ps mid = subst (λ d. IsNext d b g ps mid) (sym q) n1 in
    let r : Taken zz (world_of s z.given mid) (book_of found.posted) c1 y = found.taken mid nk in
    let xs : ℕ → List ℕ → Channel = put_at z.xs k.sender ch c1 in
    let ys : ℕ → List ℕ → Past = put_at z.ys k.sender ch y in
    let joint = taken_joint zz (world_of s z.given mid) (book_of found.posted) c1 y s.cables z.xs z.ys r (leads s k scenario there) z.joint in
    let all_facts : (h : CableLine) → Mem h s.cables → Facts (xs h.sender h.channel) (ys h.sender h.channel) = λ h o. bool_case (here k h) (λ v. Facts (if v then c1 else z.xs h.sender h.channel) (if v then y else z.ys h.sender h.channel))
    (λ f. far_keeps (FarStep.Turn turn) c y facts may)
    (λ f. let j = index_of s.cables h o in (z.lines j.0 h j.1).facts) in
    let old = operated_old zz (world_of s z.given mid) (book_of found.posted) c1 y r in
    let both = subst EachBoth note.commits.lands (landed_both ch (map stamped c.kept) note.was) in
    let plain_ : all_landed ld.delta ≡ true = subst AreLanded note.commits.lands (all_are_landed ch (map stamped c.kept) note.was) in
    let only : (e : List ℕ) (v : Luw) → committed_in e v (deeds_in m x.entry.effect.delta) ≡ ((bytes_eq e ch && same_unit v u) || false) = λ e v. ap (λ (o : List Did). committed_in e v (deeds_in m o)) (delta ∙ delta_is) ∙ only_commit m e v r0 b ch u ld.delta plain_ in
    let told_m : IsTold m g found.posted = subst (λ v. IsTold v g found.posted) q found.told in
    let now_m : IsTold m g kn = subst (λ v. IsTold v g (to v)) q found.now in
    let users_m : kn.users ≡ l.users = subst (λ v. (to v).users ≡ l.users) q found.now_users in
    let c1_unit : c1.receives.unit ≡ u = λ e. (receiver_turned (note.commits.ran e) (note.commits.does e) turn c).receives.unit in
    let waiting : IsAwaitedAt s z.given ps b l z.ghost k.sender k.receiver ch u (map stamped c.kept) = found_at zz b c y l u joint0 placed waits home in
    let landed_ : IsLanded z.ghost l found.posted k.sender k.receiver ch u = record {
      placings = found.placings;
      named = found.named ∙ ap (λ (v : Luw). tag_idents (z.ghost.sent k.sender ch v)) c1_unit;
      rows = λ d e. found.rows d e ∙ ap (λ (v : Luw). place_all k.receiver found.placings d e (keep (λ (o : Row). not (among (tag_idents (z.ghost.sent k.sender ch v)) o.message.ident)) (ledgers.ledger_rows d e l))) c1_unit;
    } in
    let told_unit : unit_received x.entry.effect.delta ≡ Some (ch, u) = ap unit_received (delta ∙ delta_is) ∙ first_received r0 b ch u ld.delta both.1 in
    let answered : x.entry.reply ≡ replies.Acted acted.Done = t.tells.reply ∙ ap (λ (o : Done). o.reply) is in
    let came : committed_messages l x ≡ st.entry.effect.received = λ e. messages_found (answered e) (chance e) x.entry.effect.received (cut e) in
    end_returns s hs p x z t noted starts started st z.given r.ghost xs ys g found.posted kn scenario down call chance is cut refl (note.sound started b.running b.moment b.log) found.lasts_ (record {
      channels = record {
        joint = joint;
        facts = all_facts;
        near = λ j h f o. near_part g found.channels j h f o;
        far = λ j h f o. far_part g found.channels j h f o;
        aside = λ h o f e. part_of (λ o_ d ch_. d ≡ o_) z.xs k h c1 (λ v. absurd (true_false (sym (ap (λ b_. b_ == m) (ap (λ (v_ : CableLine). v_.receiver) (one_here h o v) ∙ q) ∙ eqb_self m) ∙ e))) (λ v. refl);
        tells = λ h o. subst (λ v. IsToldOf s os v h.sender h.channel (xs h.sender h.channel) (ys h.sender h.channel)) (sym (deeds_more p x))
            (told_all s os (deeds p) (deeds_in m x.entry.effect.delta) k c1 y z.xs z.ys
            (receiver_tells s os (deeds p ++ deeds_in m x.entry.effect.delta) k.sender ch c y turn (tells_so turn.outcome (receiver_does turn c) ch u (deeds p ++ deeds_in m x.entry.effect.delta) note.commits.ran note.commits.does (m, mem_behind it (deeds p) (deeds_in m x.entry.effect.delta) tells))
            (grows s os (deeds p) (deeds_in m x.entry.effect.delta) k.sender ch c y (z.told k there))) z.told h o);
        resolved = λ d e v f. told_before p x _ (z.resolved d e v (old d e v f));
        not_yet = λ d e v f. still_not s os p x e v (only e v ∙ or_false (bytes_eq e ch && same_unit v u) (bool_case (bytes_eq e ch && same_unit v u) (λ o. (bytes_eq e ch && same_unit v u) ≡ o → o ≡ false)
            (λ o yes.
            let ne : e ≡ ch = name_is e ch (and_left (bytes_eq e ch) (same_unit v u) yes) in
            let nv : v ≡ u = unit_yes v u (and_right (bytes_eq e ch) (same_unit v u) yes) in
            let own = z.owned d e v (old d e v f) in
            let same : own.1 ≡ k = same_cable s own.0 i own.1 k own.2 at_k (same_index s own.0 i own.1 k scenario own.2 at_k (own.4 ∙ ne)) in
            let nd : d ≡ k.sender = sym own.3 ∙ ap (λ (h : CableLine). h.sender) same in
            absurd (committed_apart zz (world_of s z.given mid) (book_of found.posted) c y turn u v r joint0.tied.last note.commits.does note.commits.ran placed.rises nv
            (subst (λ o. r.ghost.operated k.sender o v ≡ true) ne (subst (λ o. r.ghost.operated o e v ≡ true) nd f))))
            (λ o no_. refl) refl)) (z.not_yet d e v (old d e v f));
        risen = λ h o v f. bool_case (here k h) (λ e. here k h ≡ e → Upto v (if e then c1 else z.xs h.sender h.channel).receives.unit)
            (λ e yes. mine_rises v c1.receives.unit (subst (λ (d : Luw). Upto u d) (sym c1_unit) (upto_self u))
            (subst (λ (d : Luw). Upto c.receives.unit d) (sym c1_unit) (upto_below c.receives.unit u placed.rises)) (ap (λ (d : List ℕ). is_committed s os (deeds (p ++ x ∷ [])) d v) (sym (here_yes k.sender ch h.sender h.channel yes).1) ∙ f) (only ch v))
            (λ e no_. risen_told s os p x h.channel (z.xs h.sender h.channel).receives.unit (z.risen h o) v (only h.channel v ∙ or_false (bytes_eq h.channel ch && same_unit v u) (ap (λ b_. b_ && same_unit v u) (else_name h o no_))) f) refl;
        owned = λ d e v f. z.owned d e v (old d e v f);
        loose = λ d e v f. (λ o. sym r.loose o d e v) ∙ f;
        listed = landed_listed (world_of s z.given ps) z.ghost r.ghost l found.posted k.sender k.receiver ch u x.entry.effect.delta z.joint.inv waiting.commits landed_ (λ d e v f. (
          old d e v f,
          (λ o. r.sent o d e v),
          λ from_ name unit_. committed_apart zz (world_of s z.given mid) (book_of found.posted) c y turn u v r joint0.tied.last note.commits.does note.commits.ran placed.rises unit_
              (subst (λ o. r.ghost.operated k.sender o v ≡ true) name (subst (λ o. r.ghost.operated o e v ≡ true) from_ f)),
        ));
      };
      told = told_m;
      fresh = found.fresh;
      now = now_m;
      books = subst (λ v. book_of (ledgers.up_again v found.posted) ≡ book_of (ledgers.up_again v (to v))) q found.books;
      moment = ap (λ o. (users_or o).moment) (sym now_m.used ∙ ap (λ (us : List Users). slice_get us m) users_m ∙ a.timed.used) ∙ a.timed.moment;
      same = found.given;
      steady = found.moment;
      free = unprepared_still s z.given mid r.ghost (book_of found.posted) s.cables xs ys m g n1.to (one_on (redone noted b) g (sym found.channels) (one_redone noted b note.one))
          (same_batches s.cables m (redone noted b) g (ap (λ (o : Channels). o.batches) found.channels)
          (all_cabled s.cables m noted.changes (record b { log = stands_in noted.written b.log }) (none_added both.0.1) (same_batches s.cables m b (record b { log = stands_in noted.written b.log }) refl (z.cabled m t.h t.is)))) all_facts joint;
      known = λ j f. refl;
      others = λ d o ne h. subst (λ v. IsTold d o (to v)) q (found.others d o (subst (λ v. (d == v) ≡ false) (sym q) ne) h);
      users = λ d f. ap (λ (us : List Users). slice_get us d) users_m;
      housed = housed_so ds;
      order = subst (λ o. OrderAt o (forced_over [] p) x l (ledgers.up_again m kn)) (sym told_unit)
          (subst (λ (o : ℕ). KeepsOrder (others_of ch u (forced_over [] p)) o x.entry.effect.delta (committed_messages l x) l (ledgers.up_again o (to o))) q
          (landed_order (world_of s z.given ps) z.ghost l found.posted (ledgers.up_again k.receiver (to k.receiver)) k.sender k.receiver ch u (forced_over [] p) x.entry.effect.delta (committed_messages l x) (λ (o : Row). not (is_lost k.receiver k.receiver o))
          z.joint.inv waiting.commits (not_loose s hs p z k there turn y u facts may note.commits.does) z.listed (only_one s hs p z i k scenario at_k) landed_
          (ap ledgers.idents_of came ∙ found.messages ∙ ap (λ (v : Luw). tag_idents (z.ghost.sent k.sender ch v)) c1_unit)
          (λ d. sym (ap (λ (o : Book). o.rows k.receiver d) found.books) ∙ loses_rows k.receiver k.receiver d (ledgers.with_users k.receiver alone (ledgers.with_users k.receiver clear found.posted)))));
    })
  where
    one_here : (h : CableLine) → Mem h s.cables → here k h ≡ true → h ≡ k
    one_here h o v = let j = index_of s.cables h o in same_cable s j.0 i h k j.1 at_k (same_index s j.0 i h k scenario j.1 at_k (here_yes k.sender k.channel h.sender h.channel v).1)

    else_name : (h : CableLine) → Mem h s.cables → here k h ≡ false → bytes_eq h.channel k.channel ≡ false
    else_name h o v = let j = index_of s.cables h o in channel_else s i j.0 k h scenario at_k j.1 (else_index s i j.0 k h at_k j.1 v)

    mine_rises : (v last : Luw) → Upto note.commits.unit last → Upto (z.xs k.sender k.channel).receives.unit last → is_committed s (opening_managers s hs) (deeds (p ++ x ∷ [])) k.channel v ≡ true
        → committed_in k.channel v (deeds_in x.manager x.entry.effect.delta) ≡ ((bytes_eq k.channel k.channel && same_unit v note.commits.unit) || false) → Upto v last
    mine_rises v last self up f only = bool_case (committed_in k.channel v (deeds_in x.manager x.entry.effect.delta)) (λ e. committed_in k.channel v (deeds_in x.manager x.entry.effect.delta) ≡ e → Upto v last)
        (λ e yes. subst (λ (d : Luw). Upto d last) (sym (unit_yes v note.commits.unit (and_right (bytes_eq k.channel k.channel) (same_unit v note.commits.unit) (or_true (bytes_eq k.channel k.channel && same_unit v note.commits.unit) (sym only ∙ yes))))) self)
        (λ e no_. upto_on v (z.xs k.sender k.channel).receives.unit last (risen_told s (opening_managers s hs) p x k.channel (z.xs k.sender k.channel).receives.unit (z.risen k (mem_at s.cables i k at_k)) v no_ f) up) refl

    none_added : all_add_none note.commits.land.changes ≡ true → all_add_none noted.changes ≡ true
    none_added e = ap (λ (o : Noted). all_add_none o.changes) (note.is ∙ (λ d. noted_of (note.commits.part_ d) (note.commits.record_ d))) ∙ none_more note.commits.land.changes _ e
      where
        none_more : (cs : List Change) (d : ReceiverData) → all_add_none cs ≡ true → all_add_none (cs ++ SetReceiver k.channel d ∷ []) ≡ true
        none_more [] d f = refl
        none_more (o ∷ cs) d f = let v = and_both (adds_none o) (all_add_none cs) f in ap (λ b_. b_ && all_add_none (cs ++ SetReceiver k.channel d ∷ [])) v.0 ∙ none_more cs d v.1

    housed_so : (ds : List Did) → Housed (ledger (opening_ledger s hs) p) (posted_again x.manager st ds (ledger (opening_ledger s hs) p))
    housed_so ds =
        let m : ℕ = x.manager in
        let l : Ledger = ledger (opening_ledger s hs) p in
        let l0 : Ledger = ledgers.take_all_gone m ds l in
        let l1 : Ledger = ledgers.at_moment m st.moment l0 in
        let gone : Housed l l1 = λ d o f. housing.gone m ds l d o f in
        let on : Housed l (ledgers.post_call m calls.Turn st.entry.reply st.entry.effect.received ds (ledgers.take_all_gone m ds l1)) = housing.chain l l1 (ledgers.post_call m calls.Turn st.entry.reply st.entry.effect.received ds (ledgers.take_all_gone m ds l1)) gone (housing.turned m st.entry.reply st.entry.effect.received ds l1) in
        let so : Housed l (ledgers.post_call m st.entry.call st.entry.reply st.entry.effect.received ds (ledgers.take_all_gone m ds l1)) = subst (λ (o : Call). Housed l (ledgers.post_call m o st.entry.reply st.entry.effect.received ds (ledgers.take_all_gone m ds l1))) (sym note.call) on in
        λ d o f. so d o f

    -- what is hardened of other channels stays, as it is told
    near_part : (g : Plain) → g.channels ≡ (redone noted (node_after s x.manager p t.h).manager).channels → (j : ℕ) (h : CableLine) → slice_get s.cables j ≡ Some h → h.sender ≡ x.manager
        → NearPart (z.xs h.sender h.channel) (put_at z.xs k.sender k.channel (receiver_turn note.turn (z.xs k.sender k.channel)) h.sender h.channel) h.channel g
    near_part g channels j h f o =
        let b : Plain = (node_after s x.manager p t.h).manager in
        let c : Channel = z.xs k.sender k.channel in
        let ld : Landed = note.commits.land in
        let told : ToldSender h.channel (Ok ld) = subst (ToldSender h.channel) note.commits.lands (landed_told h.channel k.channel (map stamped c.kept) note.was) in
        part_of (λ o_ e ch. NearPart o_ e ch g) z.xs k h (receiver_turn note.turn c)
        (λ v. absurd ((z.joint.tied k (mem_at s.cables i k at_k)).apart (q ∙ sym (sym (here_yes k.sender k.channel h.sender h.channel v).0 ∙ o))))
        (λ v.
        let v1 : SendsDown (near_at s j h) (node_after s x.manager p t.h) (Some noted) (z.xs h.sender h.channel) = subst (NearAt (near_at s j h) (node_after s x.manager p t.h) (z.xs h.sender h.channel)) down (near_here s hs p x z t j h f o) in (
          record { receives = refl; receiver = refl; kept = refl; back = refl },
          (λ fr n. n),
          v1.data_ ∙ sym ((λ e. told_sends (sender_or (sender_in h.channel (channels e).senders)))
              ∙ ap (λ (e : Option SenderData). told_sends (sender_or e)) (redone_data h.channel noted b)
              ∙ ap (λ (e : Noted). told_sends (sender_or (sender_by_all h.channel e.changes (sender_data h.channel b)))) (note.is ∙ (λ e. noted_of (note.commits.part_ e) (note.commits.record_ e)))
              ∙ ap (λ (e : Option SenderData). told_sends (sender_or e)) (sender_changes h.channel ld.changes (SetReceiver k.channel (record (receiver_or (receiver_data k.channel note.was)) { unit = note.commits.unit; last = note.commits.last }) ∷ []) (sender_data h.channel b))
              ∙ told (sender_data h.channel b)),
          later_self (z.xs h.sender h.channel),
        ))

    far_part : (g : Plain) → g.channels ≡ (redone noted (node_after s x.manager p t.h).manager).channels → (j : ℕ) (h : CableLine) → slice_get s.cables j ≡ Some h → h.receiver ≡ x.manager
        → FarPart (z.xs h.sender h.channel) (put_at z.xs k.sender k.channel (receiver_turn note.turn (z.xs k.sender k.channel)) h.sender h.channel) h.channel g
    far_part g channels j h f o =
        let b : Plain = (node_after s x.manager p t.h).manager in
        let c : Channel = z.xs k.sender k.channel in
        let ld : Landed = note.commits.land in
        let quiet : QuietReceiver h.channel (Ok ld) = subst (QuietReceiver h.channel) note.commits.lands (landed_receiver h.channel k.channel (map stamped c.kept) note.was) in
        part_of (λ o_ e ch. FarPart o_ e ch g) z.xs k h (receiver_turn note.turn c)
        (λ v. (
          far_near (FarStep.Turn note.turn) c,
          (λ fr n. subst (λ (fs : List Frame). Mem fr fs) (sym note.back) n),
          note.data_ ∙ sym ((λ e. told_receives (receiver_or (receiver_in k.channel (channels e).receivers))) ∙ ap (λ (e : Option ReceiverData). told_receives (receiver_or e)) (far_redone_data k.channel noted b)),
        ))
        (λ v.
        let v1 : TakesDown (far_at s j h) (node_after s x.manager p t.h) (Some noted) (z.xs h.sender h.channel) = subst (FarAt (far_at s j h) (node_after s x.manager p t.h) (z.xs h.sender h.channel)) down (far_here s hs p x z t j h f o) in
        let other : bytes_eq h.channel k.channel ≡ false = channel_else s i j k h scenario at_k f (else_index s i j k h at_k f v) in
        let data_ : ReceiverData = record (receiver_or (receiver_data k.channel note.was)) { unit = note.commits.unit; last = note.commits.last } in (
          record { sends = refl; sender = refl; batch = refl; out = refl },
          (λ fr n. n),
          v1.data_ ∙ sym ((λ e. told_receives (receiver_or (receiver_in h.channel (channels e).receivers)))
              ∙ ap (λ (e : Option ReceiverData). told_receives (receiver_or e)) (far_redone_data h.channel noted b
              ∙ ap (λ (e : Noted). receiver_by_all h.channel e.changes (receiver_data h.channel b)) (note.is ∙ (λ e. noted_of (note.commits.part_ e) (note.commits.record_ e)))
              ∙ receiver_changes h.channel ld.changes (SetReceiver k.channel data_ ∷ []) (receiver_data h.channel b)
              ∙ ap (λ b_. if b_ then Some data_ else receiver_by_all h.channel ld.changes (receiver_data h.channel b)) other ∙ quiet (receiver_data h.channel b))),
        ))
