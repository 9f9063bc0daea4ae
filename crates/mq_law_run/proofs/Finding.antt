-- A restart that finds the write of a channel's end, as a move of the network: a sender's write, and a word of a receiver.
use Rattle.std.proofs.Common.{ℕ, ◌≡◌, ◌≢◌, Bool, true, false, List, [], ◌∷◌, ◌++◌, refl, ap, sym, subst, ◌∙◌, inl, inr}
use Rattle.std.specs.Prelude.{Option, Some, None, ◌==◌, ◌≤◌, if◌then◌else◌, slice_get}
use Rattle.std.specs.Str.{bytes_eq}
use Rattle.mq_frame.specs.declared.frame.Frame.{Frame}
use Rattle.mq_sync.specs.declared.unit.Unit.{Unit as Luw}
use Rattle.mq_sync.specs.declared.data.End.TheVariants as end_kinds
use Rattle.mq_sync.specs.declared.data.InDoubt.{InDoubt}
use Rattle.mq_sync.specs.declared.data.ReceiverData.{ReceiverData}
use Rattle.mq_sync.specs.declared.data.SenderData.{SenderData}
use Rattle.mq_sync.specs.Settlement.{is_commit, receiver_or, sender_or}
use Rattle.mq_sync.specs.Units.{no_unit, same_unit}
use Rattle.mq_receiver.specs.declared.turns.ReceiverDoes.TheVariants as takes
use Rattle.mq_receiver.specs.declared.turns.ReceiverOut.TheVariants as outs
use Rattle.mq_calls.specs.declared.agents.Note.{Note}
use Rattle.mq_calls.specs.declared.agents.Note.TheVariants as notes
use Rattle.mq_calls.specs.declared.choices.Return.TheVariants.{Comes}
use Rattle.mq_calls.specs.declared.deltas.Did.TheVariants as did
use Rattle.mq_history.specs.declared.acts.Act.TheVariants as acts
use Rattle.mq_history.specs.declared.calls.Call.TheVariants as calls
use Rattle.mq_history.specs.declared.calls.Chance.TheVariants as chances
use Rattle.mq_history.specs.declared.history.History.{History}
use Rattle.mq_history.specs.declared.scenario.CableLine.{CableLine}
use Rattle.mq_history.specs.declared.scenario.Scenario.{Scenario}
use Rattle.mq_history.specs.Scenarios.{IsScenario}
use Rattle.mq_calls.specs.State.{Change, Noted, Plain, Running}
use Rattle.mq_calls.specs.State.Running.{Down}
use Rattle.mq_calls.specs.Reads.{receiver_data, sender_data}
use Rattle.mq_calls.specs.Steps.{stands_in}
use Rattle.mq_spec_manager.specs.Stops.{lasts, redone, redone_delta}
use Rattle.mq_spec_manager.specs.Agents.{harden_part}
use Rattle.mq_spec_node.specs.Node.{Node}
use Rattle.mq_spec_node.specs.Deeds.{Done}
use Rattle.mq_spec_node.specs.Replays.{done_by}
use Rattle.mq_spec_network.specs.Conflict.{Deed as ToldDeed, NoConflict, deeds, deeds_in, is_committed}
use Rattle.mq_spec_network.specs.Ledger as ledgers
use Rattle.mq_spec_network.specs.Ledger.{Ledger, ledger}
use Rattle.mq_spec_network.specs.Order.{unit_received}
use Rattle.mq_spec_network.specs.Standing.{managers_at, node_after, opening_ledger, opening_managers}
use Rattle.mq_spec_network.specs.Story.{Line, Mem}
use Rattle.mq_law_manager.proofs.Lists.{mem_before, mem_behind}
use Rattle.mq_law_channel.specs.Channel.{Channel, Facts, Past}
use Rattle.mq_law_channel.specs.Turns.{ReceiverTurn, receiver_does}
use Rattle.mq_law_node.specs.Data.{receiver_by_all, sender_by_all}
use Rattle.mq_law_node.specs.Ends.{Where, told_receives, told_sends}
use Rattle.mq_law_node.specs.Moves.{FarMay, FarStep, NearStep, far_does, near_does, near_past}
use Rattle.mq_law_node.specs.Nodes.{FarAt, FarMayLater, NearAt, SendsDown, TakesDown}
use Rattle.mq_law_node.proofs.FarEvents.{far_redone_data}
use Rattle.mq_law_node.proofs.FarFreezing.{far_near}
use Rattle.mq_law_node.proofs.Freezing.{near_far}
use Rattle.mq_law_node.proofs.Moving.{far_keeps, near_keeps}
use Rattle.mq_law_node.proofs.NearEvents.{redone_data}
use Rattle.mq_law_rows.specs.Families.{put_at}
use Rattle.mq_law_rows.specs.World.{Ghost}
use Rattle.mq_law_rows.proofs.Lists.{bool_case, eqb_self, here_yes, is_false, true_false}
use Rattle.mq_law_seen.specs.Seen.{book_of, world_of, rows_of}
use Rattle.mq_law_events.specs.Tied.{IsNext}
use Rattle.mq_law_stopped.specs.from_law_batches.Releases.{IsWord, settled_changes}
use Rattle.mq_law_stopped.specs.from_law_turns.Agreed.{IsToldOf}
use Rattle.mq_law_stopped.specs.from_law_turns.Turns.{Scene, Taken}
use Rattle.mq_law_stopped.proofs.from_law_turns.Agreeing.{backs_out_rightly, grows}
use Rattle.mq_law_cables.proofs.Differing.{leads}
use Rattle.mq_law_cables.proofs.Keeping.{taken_joint, turned_joint}
use Rattle.mq_law_cables.proofs.Unprepared.{unprepared_still}
use Rattle.mq_law_one.specs.Alone.{IsNotedAt, as_left}
use Rattle.mq_law_one.proofs.Running.{Told_}
use Rattle.mq_law_stopped.specs.Noted.{EndNote, IsDown, IsLeft, ReceiverNote, Redone, SenderKind, SenderNote, IsForcing}
use Rattle.mq_law_stopped.specs.Noted.EndNote.{Commits, Far, Near}
use Rattle.mq_law_stopped.specs.Noted.SenderKind.{Begins, Numbers, Prepares, Resolves, Settles}
use Rattle.mq_law_stopped.proofs.FarRedoing.{far_redone}
use Rattle.mq_law_stopped.proofs.Leaving.{one_redone}
use Rattle.mq_law_stopped.proofs.Redoing.{near_redone}
use Rattle.mq_law_stopped.proofs.Sparing.{sender_leaves, sender_spares, word_leaves, word_spares}
use Rattle.mq_law_run.specs.Run.{HaveSenders, Moves, Stand, back_done, far_at, near_at}
use Rattle.mq_law_run.proofs.Beside.{IsBeside, all_add_none, all_beside, all_of_end, beside_fresh, beside_told}
use Rattle.mq_law_run.proofs.Cabled.{all_cabled, same_batches}
use Rattle.mq_law_run.proofs.Lining.{else_channel, else_index, here, index_of, mem_at, same_cable, same_index, units_put}
use Rattle.mq_law_run.proofs.Receiving.{channel_else, operated_old}
use Rattle.mq_law_run.proofs.Recommitting.{commit_returns}
use Rattle.mq_law_run.proofs.Redoing.{ChannelsRedone, FarPart, NearPart, end_returns, mid_next, mid_of, part_of}
use Rattle.mq_law_run.proofs.Resolving.{real_unit}
use Rattle.mq_law_run.proofs.Returning.{call_returns, filter_quiet}
use Rattle.mq_law_run.proofs.Running.{far_here, joint_here, near_here, operated_before, scene, sent_kept, told_all}
use Rattle.mq_law_run.proofs.Telling.{deeds_more, none_committed, risen_still, still_not, told_before, told_now}
use Rattle.mq_law_run.proofs.Commanding.{told_here, told_of}
use Rattle.mq_law_run.specs.Ordered.{IsForcedNow, forced_over}
use Rattle.mq_law_run.proofs.Later.{later_self, near_later}
use Rattle.mq_law_run.proofs.Listing.{forced_still, forcing_lasts, forcing_told, quiet_order, hardened_lasts}

-- WHAT IT CHANGES
abbrev AreOfEnd : List Change → Type 0
AreOfEnd cs = (all_of_end cs ≡ true) × (all_add_none cs ≡ true)

settled_of_end : (commit : Bool) (c : List ℕ) (d : SenderData) → AreOfEnd (settled_changes commit c d)
settled_of_end true c d = (refl, refl)
settled_of_end false c d = (refl, refl)

sender_of_end : (c : List ℕ) (b : Plain) (note : Noted) (x : Channel) (way : NearStep) → SenderKind c b note x way → AreOfEnd note.changes
sender_of_end c b note x way (Begins t partner session is turn says) = subst AreOfEnd (sym says) (refl, refl)
sender_of_end c b note x way (Prepares t batch last is turn found says) = subst AreOfEnd (sym says) (refl, refl)
sender_of_end c b note x way (Settles t d commit is turn so free says) = subst AreOfEnd (sym says) (settled_of_end commit c (sender_or (sender_data c b)))
sender_of_end c b note x way (Resolves settle d is free says told rows) = subst AreOfEnd (sym says) (settled_of_end (is_commit settle) c (sender_or (sender_data c b)))
sender_of_end c b note x way (Numbers last is says) = subst AreOfEnd (sym says) (refl, refl)

word_of_end : (c : List ℕ) (w : Note) (p : Plain) → IsWord w → AreOfEnd (harden_part c w p).changes
word_of_end c (notes.Session partner session) p is = (refl, refl)
word_of_end c (notes.Resolved unit commit operator) p is = absurd is
word_of_end c (notes.Bound partner session last) p is = (refl, refl)
word_of_end c (notes.Closed session) p is = (refl, refl)
word_of_end c (notes.SeqSet end_kinds.Sender last) p is = (refl, refl)
word_of_end c (notes.SeqSet end_kinds.Receiver last) p is = (refl, refl)

redone_beside : (note : Noted) (b : Plain) → all_of_end note.changes ≡ true → IsBeside b (redone note b)
redone_beside note b e =
    let r = all_beside note.changes (record b { log = stands_in note.written b.log }) e in
    record { given = r.given; running = r.running; definitions = r.definitions; connections = r.connections; moment = r.moment; numbers = r.numbers }

may_now : (way : FarStep) (c : Channel) (y : Past) → FarMayLater way c → ((t : ReceiverTurn) (u : Luw) → way ≡ FarStep.Turn t → t.outcome ≡ outs.Done → receiver_does t c ≡ takes.Place u → ⊥) → FarMay way c y
may_now (FarStep.Turn t) c y may calm = record { offered = may.0; refused = may.1; agreed = λ u o d. absurd (calm t u refl o d) }
may_now FarStep.Rest c y may calm = tt
may_now FarStep.Start c y may calm = may
may_now FarStep.Stop c y may calm = tt
may_now (FarStep.Number last) c y may calm = tt

unit_tells : (s : Scenario) (ps : List Plain) (ds : List ToldDeed) (m : ℕ) (c : List ℕ) (x k : Channel) (y : Past) → k.receives.unit ≡ x.receives.unit → IsToldOf s ps ds m c x y → IsToldOf s ps ds m c k y
unit_tells s ps ds m c x k y e h = record { undone = h.undone; last = subst (λ (u : Luw). same_unit u no_unit ≡ false → is_committed s ps ds c u ≡ true) (sym e) h.last }

-- a cable of the same sender and name
same_here : (s : Scenario) (i : ℕ) (k h : CableLine) → IsScenario s → slice_get s.cables i ≡ Some k → Mem h s.cables → here k h ≡ true → h ≡ k
same_here s i k h scenario e o v =
    let j = index_of s.cables h o in
    same_cable s j.0 i h k j.1 e (same_index s j.0 i h k scenario j.1 e (here_yes k.sender k.channel h.sender h.channel v).1)

-- THE WRITE OF AN END of cable k, which the restart finds
module _ (s : Scenario) (hs : List History) (p : List Line) (x : Line) (z : Stand s hs p) (t : Told_ s hs p x) (noted : Noted) (starts started : ℕ) (st : ledgers.Stopped) (i : ℕ) (k : CableLine) (scenario : IsScenario s) (at_k : slice_get s.cables i ≡ Some k)
    (left : IsLeft x.manager st noted (as_left (node_after s x.manager p t.h).manager)) (cut : (ledgers.users_at x.manager (ledger (opening_ledger s hs) p)).cut ≡ Some st) (down : (node_after s x.manager p t.h).manager.running ≡ Down (Some noted) starts)
    (call : x.entry.call ≡ calls.Act acts.Restart) (chance : x.entry.chance ≡ chances.Restart (Comes true started)) (is : done_by x.entry (node_after s x.manager p t.h) ≡ back_done started noted (node_after s x.manager p t.h)) where
  abbrev n : Node
  n = node_after s x.manager p t.h

  abbrev b : Plain
  b = n.manager

  abbrev g : Plain
  g = redone noted b

  abbrev l : Ledger
  l = ledger (opening_ledger s hs) p

  abbrev ps : List Plain
  ps = managers_at s p hs

  abbrev mid : List Plain
  mid = mid_of s hs p x g

  abbrev c : Channel
  c = z.xs k.sender k.channel

  abbrev y : Past
  y = z.ys k.sender k.channel

  there : Mem k s.cables
  there = mem_at s.cables i k at_k

  delta : x.entry.effect.delta ≡ redone_delta true (Some noted) b
  delta = t.tells.delta ∙ ap (λ (o : Done). o.delta) is

  quiet : unit_received noted.delta ≡ None → unit_received x.entry.effect.delta ≡ None
  quiet e = ap unit_received delta ∙ filter_quiet (lasts noted.written b) noted.delta e

  next_at : (m : ℕ) → m ≡ x.manager → IsNext m b g ps mid
  next_at m q = subst (λ d. IsNext d b g ps mid) (sym q) (mid_next s hs p x t g)

  -- the ends of other cables stay where what is hardened of their channels does
  near_stays : (j : ℕ) (h : CableLine) → slice_get s.cables j ≡ Some h → h.sender ≡ x.manager → sender_by_all h.channel noted.changes (sender_data h.channel b) ≡ sender_data h.channel b → NearPart (z.xs h.sender h.channel) (z.xs h.sender h.channel) h.channel g
  near_stays j h f o stays =
      let v : SendsDown (near_at s j h) n (Some noted) (z.xs h.sender h.channel) = subst (NearAt (near_at s j h) n (z.xs h.sender h.channel)) down (near_here s hs p x z t j h f o) in (
        record { receives = refl; receiver = refl; kept = refl; back = refl },
        (λ fr n. n),
        v.data_ ∙ ap (λ (e : Option SenderData). told_sends (sender_or e)) (sym (redone_data h.channel noted b ∙ stays)),
        later_self (z.xs h.sender h.channel),
      )

  far_stays : (j : ℕ) (h : CableLine) → slice_get s.cables j ≡ Some h → h.receiver ≡ x.manager → receiver_by_all h.channel noted.changes (receiver_data h.channel b) ≡ receiver_data h.channel b → FarPart (z.xs h.sender h.channel) (z.xs h.sender h.channel) h.channel g
  far_stays j h f o stays =
      let v : TakesDown (far_at s j h) n (Some noted) (z.xs h.sender h.channel) = subst (FarAt (far_at s j h) n (z.xs h.sender h.channel)) down (far_here s hs p x z t j h f o) in (
        record { sends = refl; sender = refl; batch = refl; out = refl },
        (λ fr n. n),
        v.data_ ∙ ap (λ (e : Option ReceiverData). told_receives (receiver_or e)) (sym (far_redone_data h.channel noted b ∙ stays)),
      )

  -- what stays: the manager's own, the ledger, and all other managers
  end_redone : (ghost : Ghost) (xs : ℕ → List ℕ → Channel) (ys : ℕ → List ℕ → Past) → AreOfEnd noted.changes → unit_received x.entry.effect.delta ≡ None → ChannelsRedone s hs p x t.h z g z.given ghost xs ys l → Moves s hs p x t.h z
  end_redone ghost xs ys of_end still r =
      let m : ℕ = x.manager in
      let a = z.at m t.h t.is in
      let beside : IsBeside b g = redone_beside noted b of_end.0 in
      end_returns s hs p x z t noted starts started st z.given ghost xs ys g l l scenario down call chance is cut (left.posts b l) (left.sound started b.running b.moment b.log) refl (record {
        channels = r;
        told = beside_told m b g l beside a.told;
        fresh = beside_fresh z.given b g beside a.fresh;
        now = beside_told m b g l beside a.told;
        books = refl;
        moment = ap (λ o. (ledgers.users_or o).moment) (sym (beside_told m b g l beside a.told).used ∙ a.timed.used) ∙ a.timed.moment;
        same = beside.given;
        steady = beside.moment;
        free = unprepared_still s z.given mid ghost (book_of l) s.cables xs ys m g (mid_next s hs p x t g).to (one_redone noted b left.one) (all_cabled s.cables m noted.changes (record b { log = stands_in noted.written b.log }) of_end.1 (same_batches s.cables m b (record b { log = stands_in noted.written b.log }) refl (z.cabled m t.h t.is))) r.facts r.joint;
        known = λ j f. refl;
        others = λ d o f h. h;
        users = λ d f. refl;
        housed = λ d o f. (o, f);
        order = quiet_order (forced_over [] p) x l (ledgers.up_again m l) still;
      })

  -- A SENDER'S
  near_returns : (wide : List Line) (es : List ToldDeed) → k.sender ≡ x.manager → NoConflict s hs wide → deeds wide ≡ deeds (p ++ x ∷ []) ++ es → SenderNote k.channel (as_left b) noted c → Moves s hs p x t.h z
  near_returns wide es q peace split note =
      let m : ℕ = x.manager in
      let nk : IsNext k.sender b g ps mid = next_at k.sender q in
      let w : Where = near_at s i k in
      let zz : Scene = scene s hs p z k w in
      let v0 : SendsDown w n (Some noted) c = subst (NearAt w n c) down (near_here s hs p x z t i k at_k q) in
      let told_now_ : (v : Note) → Mem (did.Hardened k.channel v) noted.delta → Mem (told_of k.sender (did.Hardened k.channel v)) (deeds_in m x.entry.effect.delta) = λ v o. told_here k.sender m (redone_delta true (Some noted) b) x.entry.effect.delta (did.Hardened k.channel v) q delta (hardened_lasts noted.written b k.channel v noted.delta o) in
      let down_ : IsDown zz n c y = record { at = nk.at; here = v0.here; data_ = v0.data_; facts = (z.lines i k at_k).facts; joint = joint_here s hs p z k there } in
      let now : IsToldOf s (opening_managers s hs) (deeds (p ++ x ∷ [])) k.sender k.channel c y =
      subst (λ o. IsToldOf s (opening_managers s hs) o k.sender k.channel c y) (sym (deeds_more p x)) (grows s (opening_managers s hs) (deeds p) (deeds_in m x.entry.effect.delta) k.sender k.channel c y (z.told k there)) in
      let right : (d : InDoubt) → Mem (did.Hardened k.channel (notes.Resolved d.unit false true)) noted.delta → 1 ≤ d.unit.n → c.receives.unit ≢ d.unit = λ d o real.
      let it : ToldDeed = told_of k.sender (did.Hardened k.channel (notes.Resolved d.unit false true)) in
      backs_out_rightly s hs wide (deeds (p ++ x ∷ [])) es k.sender k.channel c y d.unit peace split now
      (subst (λ (o : List ToldDeed). Mem it o) (sym split) (mem_before it (deeds (p ++ x ∷ [])) es (told_now p x it (told_now_ (notes.Resolved d.unit false true) o)))) (real_unit d.unit real) in
      let r : Redone zz noted c y note.step mid = near_redone zz n c y noted note mid down_ right nk in
      let c1 : Channel = near_does note.step c in
      let y1 : Past = near_past note.step c y in
      let xs : ℕ → List ℕ → Channel = put_at z.xs k.sender k.channel c1 in
      let ys : ℕ → List ℕ → Past = put_at z.ys k.sender k.channel y1 in
      let joint = turned_joint zz (world_of s z.given mid) c1 y1 s.cables z.xs z.ys r.turned (leads s k scenario there) z.joint in
      let facts : (h : CableLine) → Mem h s.cables → Facts (xs h.sender h.channel) (ys h.sender h.channel) = λ h o. bool_case (here k h) (λ v. Facts (if v then c1 else z.xs h.sender h.channel) (if v then y1 else z.ys h.sender h.channel))
      (λ f. near_keeps note.step c y (z.lines i k at_k).facts note.may)
      (λ f. let j = index_of s.cables h o in (z.lines j.0 h j.1).facts) in
      let before = operated_before zz (world_of s z.given mid) c1 y1 r.turned in
      end_redone r.turned.ghost xs ys (sender_of_end k.channel (as_left b) noted c note.step note.kind) (quiet note.quiet) (record {
        joint = joint;
        facts = facts;
        near = λ j h f o. part_of (λ o_ e ch. NearPart o_ e ch g) z.xs k h c1
            (λ v. (near_far note.step c, (λ fr e. subst (λ (fs : List Frame). Mem fr fs) (sym note.out) e), note.data_ ∙ ap (λ (e : Option SenderData). told_sends (sender_or e)) (sym (redone_data k.channel noted b)), near_later note.step c y (z.lines i k at_k).facts))
            (λ v. near_stays j h f o (sender_spares k.channel (as_left b) noted c note.step h.channel (sender_data h.channel b) note.kind (else_channel k h (o ∙ sym q) v)));
        far = λ j h f o. part_of (λ o_ e ch. FarPart o_ e ch g) z.xs k h c1 (λ v. absurd ((z.joint.tied h (mem_at s.cables j h f)).apart (o ∙ sym ((here_yes k.sender k.channel h.sender h.channel v).0 ∙ q))))
            (λ v. far_stays j h f o (sender_leaves k.channel (as_left b) noted c note.step h.channel (receiver_data h.channel b) note.kind));
        aside = λ h o f e. part_of (λ o_ d ch. d ≡ o_) z.xs k h c1 (λ v. absurd (true_false (sym (ap (λ b_. b_ == m) ((here_yes k.sender k.channel h.sender h.channel v).0 ∙ q) ∙ eqb_self m) ∙ f))) (λ v. refl);
        tells = λ h o. subst (λ v. IsToldOf s (opening_managers s hs) v h.sender h.channel (xs h.sender h.channel) (ys h.sender h.channel)) (sym (deeds_more p x))
            (told_all s (opening_managers s hs) (deeds p) (deeds_in m x.entry.effect.delta) k c1 y1 z.xs z.ys
            (r.tells (opening_managers s hs) (deeds p ++ deeds_in m x.entry.effect.delta) (λ v e. mem_behind (told_of k.sender (did.Hardened k.channel v)) (deeds p) (deeds_in m x.entry.effect.delta) (told_now_ v e))
            (grows s (opening_managers s hs) (deeds p) (deeds_in m x.entry.effect.delta) k.sender k.channel c y (z.told k there))) z.told h o);
        resolved = λ d e u f. elim (before d e u f) [
          | inl old ↦ told_before p x _ (z.resolved d e u old)
          | inr new ↦ resolved_here d e u (told_now p x (told_of k.sender (did.Hardened k.channel (notes.Resolved u true true))) (told_now_ (notes.Resolved u true true) (r.commits u new.0).0)) new.1 new.2
        ];
        not_yet = λ d e u f. elim (before d e u f) [
          | inl old ↦ still_not s (opening_managers s hs) p x e u (none_committed e u m x.entry.effect.delta (quiet note.quiet)) (z.not_yet d e u old)
          | inr new ↦ subst (λ o. is_committed s (opening_managers s hs) (deeds (p ++ x ∷ [])) o u ≡ false) (sym new.2)
              (is_false (is_committed s (opening_managers s hs) (deeds (p ++ x ∷ [])) k.channel u) (λ o. (r.commits u new.0).1 (risen_still s (opening_managers s hs) p x k.channel c.receives.unit c.receives.unit (quiet note.quiet) refl (z.risen k there) u o)))
        ];
        risen = λ h o. risen_still s (opening_managers s hs) p x h.channel (z.xs h.sender h.channel).receives.unit (xs h.sender h.channel).receives.unit (quiet note.quiet) (units_put z.xs k h c1 (ap (λ (v : ReceiverData). v.unit) (near_far note.step c).receives)) (z.risen h o);
        owned = λ d e u f. elim (before d e u f) [
          | inl old ↦ z.owned d e u old
          | inr new ↦ (i, k, at_k, sym new.1, sym new.2)
        ];
        loose = λ d e u f. r.turned.loose d e u f;
        listed = λ d e u f. elim (before d e u f) [
          | inl old ↦ inl (record { operated = old; sent = sent_kept zz (world_of s z.given mid) c1 y1 r.turned d e u f; rows = λ i_ n_ no_ o. no_ o })
          | inr new ↦ inr (subst (λ v. IsForcedNow r.turned.ghost x.entry.effect.delta (book_of l).rows v e u) (sym new.1) (subst (λ v. IsForcedNow r.turned.ghost x.entry.effect.delta (book_of l).rows k.sender v u) (sym new.2)
              (forcing_told (world_of s z.given ps) z.ghost r.turned.ghost (book_of l) k.sender k.channel u x.entry.effect.delta z.joint.inv
              (subst (λ v. IsForcing (world_of s z.given ps) k.sender k.channel u v) (sym delta) (forcing_lasts (world_of s z.given ps) k.sender k.channel u noted.written b noted.delta (λ q_ o n_. subst (λ v. Mem o (rows_of q_ v)) nk.at n_) (r.forces u new.0)))
              (r.turned.kept u (subst (λ v. r.turned.ghost.operated k.sender v u ≡ true) new.2 (subst (λ v. r.turned.ghost.operated v e u ≡ true) new.1 f))))))
        ];
      })
    where
      resolved_here : (a : ℕ) (d : List ℕ) (u : Luw) → Mem (record { manager = k.sender; did = did.Hardened k.channel (notes.Resolved u true true) }) (deeds (p ++ x ∷ [])) → a ≡ k.sender → d ≡ k.channel
          → Mem (record { manager = a; did = did.Hardened d (notes.Resolved u true true) }) (deeds (p ++ x ∷ []))
      resolved_here a d u mem f g = subst (λ e. Mem (record { manager = e; did = did.Hardened d (notes.Resolved u true true) }) (deeds (p ++ x ∷ []))) (sym f)
          (subst (λ e. Mem (record { manager = k.sender; did = did.Hardened e (notes.Resolved u true true) }) (deeds (p ++ x ∷ []))) (sym g) mem)

  -- A WORD OF A RECEIVER'S
  far_returns : k.receiver ≡ x.manager → ReceiverNote k.channel (as_left b) noted c → Moves s hs p x t.h z
  far_returns q note =
      let m : ℕ = x.manager in
      let nk : IsNext k.receiver b g ps mid = next_at k.receiver q in
      let w : Where = far_at s i k in
      let zz : Scene = scene s hs p z k w in
      let c1 : Channel = far_does note.step c in
      let r : Taken zz (world_of s z.given mid) (book_of l) c1 y = far_redone zz b c y noted note mid nk.at (joint_here s hs p z k there) nk in
      let xs : ℕ → List ℕ → Channel = put_at z.xs k.sender k.channel c1 in
      let ys : ℕ → List ℕ → Past = put_at z.ys k.sender k.channel y in
      let joint = taken_joint zz (world_of s z.given mid) (book_of l) c1 y s.cables z.xs z.ys r (leads s k scenario there) z.joint in
      let facts : (h : CableLine) → Mem h s.cables → Facts (xs h.sender h.channel) (ys h.sender h.channel) = λ h o. bool_case (here k h) (λ v. Facts (if v then c1 else z.xs h.sender h.channel) (if v then y else z.ys h.sender h.channel))
      (λ f. far_keeps note.step c y (z.lines i k at_k).facts (may_now note.step c y note.may note.calm))
      (λ f. let j = index_of s.cables h o in (z.lines j.0 h j.1).facts) in
      let old = operated_old zz (world_of s z.given mid) (book_of l) c1 y r in
      let other : (j : ℕ) (h : CableLine) → slice_get s.cables j ≡ Some h → here k h ≡ false → bytes_eq h.channel k.channel ≡ false = λ j h f v. channel_else s i j k h scenario at_k f (else_index s i j k h at_k f v) in
      end_redone r.ghost xs ys (subst AreOfEnd (sym note.says) (word_of_end k.channel note.word (as_left b) note.is)) (quiet note.quiet) (record {
        joint = joint;
        facts = facts;
        near = λ j h f o. part_of (λ o_ e ch. NearPart o_ e ch g) z.xs k h c1 (λ v. absurd ((z.joint.tied k there).apart (q ∙ sym (sym (here_yes k.sender k.channel h.sender h.channel v).0 ∙ o))))
            (λ v. near_stays j h f o (ap (λ (cs : List Change). sender_by_all h.channel cs (sender_data h.channel b)) note.says ∙ word_spares k.channel note.word (as_left b) h.channel (sender_data h.channel b) note.is (other j h f v)));
        far = λ j h f o. part_of (λ o_ e ch. FarPart o_ e ch g) z.xs k h c1
            (λ v. (far_near note.step c, (λ fr e. subst (λ (fs : List Frame). Mem fr fs) (sym note.back) e), note.data_ ∙ ap (λ (e : Option ReceiverData). told_receives (receiver_or e)) (sym (far_redone_data k.channel noted b))))
            (λ v. far_stays j h f o (ap (λ (cs : List Change). receiver_by_all h.channel cs (receiver_data h.channel b)) note.says ∙ word_leaves k.channel note.word (as_left b) h.channel (receiver_data h.channel b) note.is (other j h f v)));
        aside = λ h o f e. part_of (λ o_ d ch. d ≡ o_) z.xs k h c1 (λ v. absurd (true_false (sym (ap (λ b_. b_ == m) (ap (λ (v_ : CableLine). v_.receiver) (same_here s i k h scenario at_k o v) ∙ q) ∙ eqb_self m) ∙ e))) (λ v. refl);
        tells = λ h o. subst (λ v. IsToldOf s (opening_managers s hs) v h.sender h.channel (xs h.sender h.channel) (ys h.sender h.channel)) (sym (deeds_more p x))
            (told_all s (opening_managers s hs) (deeds p) (deeds_in m x.entry.effect.delta) k c1 y z.xs z.ys
            (unit_tells s (opening_managers s hs) (deeds p ++ deeds_in m x.entry.effect.delta) k.sender k.channel c c1 y note.unit
            (grows s (opening_managers s hs) (deeds p) (deeds_in m x.entry.effect.delta) k.sender k.channel c y (z.told k there))) z.told h o);
        resolved = λ d e u f. told_before p x _ (z.resolved d e u (old d e u f));
        not_yet = λ d e u f. still_not s (opening_managers s hs) p x e u (none_committed e u m x.entry.effect.delta (quiet note.quiet)) (z.not_yet d e u (old d e u f));
        risen = λ h o. risen_still s (opening_managers s hs) p x h.channel (z.xs h.sender h.channel).receives.unit (xs h.sender h.channel).receives.unit (quiet note.quiet) (units_put z.xs k h c1 note.unit) (z.risen h o);
        owned = λ d e u f. z.owned d e u (old d e u f);
        loose = λ d e u f. (λ v. sym r.loose v d e u) ∙ f;
        listed = forced_still z.ghost r.ghost x.entry.effect.delta (book_of l).rows (book_of l).rows (λ d e u f. (old d e u f, λ v. r.sent v d e u)) (λ i_ g_. g_);
      })

-- EACH
pub return_moves : (s : Scenario) (hs : List History) (wide p : List Line) (es : List ToldDeed) (x : Line) (z : Stand s hs p) (t : Told_ s hs p x) (noted : Noted) (starts started : ℕ) → IsScenario s → NoConflict s hs wide → deeds wide ≡ deeds (p ++ x ∷ []) ++ es
    → HaveSenders s hs → (node_after s x.manager p t.h).manager.running ≡ Down (Some noted) starts → x.entry.call ≡ calls.Act acts.Restart
    → x.entry.chance ≡ chances.Restart (Comes true started) → done_by x.entry (node_after s x.manager p t.h) ≡ back_done started noted (node_after s x.manager p t.h) → Moves s hs p x t.h z
return_moves s hs wide p es x z t noted starts started scenario peace split have down call chance is =
    let h = subst (λ (r : Running). IsNotedAt (EndNote s (deeds p) z.xs x.manager) x.manager r (node_after s x.manager p t.h).manager (ledger (opening_ledger s hs) p)) down (z.at x.manager t.h t.is).noted in
    elim h.2 [
      | inl o ↦ call_returns s hs p x z t noted starts started scenario (h.0, h.1, o) down call chance is
      | inr o ↦ by_end h.0 h.1 o
    ]
  where
    by_end : (st : ledgers.Stopped) → (ledgers.users_at x.manager (ledger (opening_ledger s hs) p)).cut ≡ Some st → EndNote s (deeds p) z.xs x.manager st noted (as_left (node_after s x.manager p t.h).manager) → Moves s hs p x t.h z
    by_end st cut (Near i k at q left note) = near_returns s hs p x z t noted starts started st i k scenario at left cut down call chance is wide es q peace split note
    by_end st cut (Far i k at q left note) = far_returns s hs p x z t noted starts started st i k scenario at left cut down call chance is q note
    by_end st cut (Commits i k at q note) = commit_returns s hs wide p es x z t noted starts started st i k scenario peace split have at q note cut down call chance is
