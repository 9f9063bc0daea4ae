-- A turn of a sender's end that removes expired rows, as a move of the network.
use Rattle.std.proofs.Common.{ℕ, ◌≡◌, true, List, [], ◌∷◌, ◌++◌, refl, ap, sym, subst, ◌∙◌, inl, map}
use Rattle.std.specs.Prelude.{Option, Some, None, ◌==◌, if◌then◌else◌, slice_get}
use Rattle.mq_frame.specs.declared.frame.Frame.{Frame}
use Rattle.mq_frame.specs.declared.frame.Seen.{Seen}
use Rattle.mq_sync.specs.declared.unit.Unit.{Unit as Luw}
use Rattle.mq_sync.specs.declared.data.Stock.{Stock}
use Rattle.mq_sender.specs.declared.turns.SenderDoes.{SenderDoes}
use Rattle.mq_sender.specs.declared.turns.SenderDoes.TheVariants as does
use Rattle.mq_sender.specs.Table.{is_idle, sender_next}
use Rattle.mq_calls.specs.declared.choices.Choice.TheVariants.{Runs}
use Rattle.mq_calls.specs.declared.deltas.Did.{Did}
use Rattle.mq_calls.specs.declared.deltas.Did.TheVariants as did
use Rattle.mq_history.specs.declared.calls.Actor.TheVariants as actors
use Rattle.mq_history.specs.declared.calls.Call.TheVariants as calls
use Rattle.mq_history.specs.declared.calls.Reply.{Reply}
use Rattle.mq_history.specs.declared.calls.Reply.TheVariants as replies
use Rattle.mq_history.specs.declared.history.History.{History}
use Rattle.mq_history.specs.declared.scenario.CableLine.{CableLine}
use Rattle.mq_history.specs.declared.scenario.Scenario.{Scenario}
use Rattle.mq_history.specs.Scenarios.{IsScenario}
use Rattle.mq_calls.specs.State.{Plain, Running, Given}
use Rattle.mq_calls.specs.State.Running.{Up}
use Rattle.mq_calls.specs.Reads.{is_up, stored}
use Rattle.mq_calls.specs.Steps.{Part, delta_of, do_all}
use Rattle.mq_spec_manager.specs.Agents.{queue_of_sender, stock, expired_rows, leave}
use Rattle.mq_spec_node.specs.Node.{Node, SenderEnd}
use Rattle.mq_spec_node.specs.Deeds.{Deed, Done, done, parts_of}
use Rattle.mq_spec_node.specs.Senders.{leave_if_stopped, sender_deed, sender_deed_by}
use Rattle.mq_spec_network.specs.Conflict.{deeds, deeds_in}
use Rattle.mq_spec_network.specs.Ledger as ledgers
use Rattle.mq_spec_network.specs.Ledger.{Ledger, ledger, posted, take_all_gone}
use Rattle.mq_spec_network.specs.Order.{unit_received}
use Rattle.mq_spec_network.specs.Standing.{managers_at, node_after, opening_ledger, opening_managers}
use Rattle.mq_spec_network.specs.Story.{Line, Mem}
use Rattle.mq_law_channel.specs.Channel.{Channel, Past}
use Rattle.mq_law_channel.specs.Turns.{SeenIn, SenderTurn, sender_past, sender_turn, past_turned}
use Rattle.mq_law_node.specs.Ends.{EachSent, Guard, SendsAs, Sent, Where, offering, sender_of, turn_of, out_of}
use Rattle.mq_law_node.specs.Moves.{NearStep}
use Rattle.mq_law_node.specs.Nodes.{NearAt}
use Rattle.mq_law_node.proofs.Freezing.{near_far}
use Rattle.mq_law_node.proofs.Moving.{near_keeps}
use Rattle.mq_law_node.proofs.Pairs.{offering_among}
use Rattle.mq_law_node.proofs.SenderTable.{may_turn, turns_as}
use Rattle.mq_law_node.proofs.SenderTurns.{guarded}
use Rattle.mq_law_rows.specs.Families.{put_at}
use Rattle.mq_law_rows.proofs.Lists.{bool_case, eqb_self, here_self, true_false, here_yes}
use Rattle.mq_law_seen.specs.Seen.{book_of, world_of}
use Rattle.mq_law_one.proofs.from_law_story.Weaving.{ledger_step}
use Rattle.mq_law_stopped.specs.from_law_turns.Agreed.{IsToldOf}
use Rattle.mq_law_stopped.specs.from_law_turns.Turns.{is_expiry, AreBegun, EachFollowed}
use Rattle.mq_law_stopped.proofs.from_law_turns.Agreeing.{grows, sender_tells}
use Rattle.mq_law_stopped.proofs.from_law_turns.Posting.{expires}
use Rattle.mq_law_cables.specs.Joints.{AreJoint}
use Rattle.mq_law_one.proofs.Running.{Told_}
use Rattle.mq_law_run.specs.Ordered.{forced_over}
use Rattle.mq_law_run.specs.Run.{IsMoved, Moves, Stand, far_at, near_at}
use Rattle.mq_law_run.proofs.Later.{near_later}
use Rattle.mq_law_run.proofs.Listing.{quiet_order}
use Rattle.mq_law_run.proofs.Beside.{distinct_of}
use Rattle.mq_law_run.proofs.Lining.{all_moved, else_channel, else_index, here, left_aside, mem_at, same_cable, units_put}
use Rattle.mq_law_run.proofs.Running.{IsRun, move_to, run_next, sends_here, takes_here, told_all}
use Rattle.mq_law_run.proofs.Telling.{deeds_more, none_committed, risen_still, still_not, told_before}
use Rattle.mq_calls.specs.declared.deltas.Why.TheVariants as whys
use Rattle.mq_queue.specs.declared.row.Row.{Row}
use Rattle.mq_spec_manager.specs.Get.{expired_parts}
use Rattle.mq_law_manager.proofs.Untouched.{parts_running}
use Rattle.mq_sender.specs.States.{is_running}
use Rattle.mq_sync.specs.declared.data.ReceiverData.{ReceiverData}
use Rattle.mq_law_rows.specs.World.{Book, Ghost, World}
use Rattle.mq_law_events.specs.Tied.{Follow}
use Rattle.mq_law_one.specs.from_law_story.Needs.{IsTied}
use Rattle.mq_law_deeds.proofs.Counting.{calls_kept}
use Rattle.mq_law_deeds.proofs.Rising.{parts_rise}
use Rattle.mq_law_stopped.specs.Noted.{EndNote}
use Rattle.mq_law_one.proofs.Happening.{noted_up, state_up}
use Rattle.mq_law_run.proofs.Owning.{housed_else, others_told}
use Rattle.mq_law_run.proofs.Sending.{EachCabled, cabled_by, far_else, free_of, near_else, none_number, same_number, sender_number}
use Rattle.mq_law_run.proofs.Tying.{forced_kept, leads_on}

-- A CHANNEL with the same of its receiver is tied the same
same_tied : (w : World) (g : Ghost) (m t : ℕ) (c : List ℕ) (x a : Channel) (y b : Past) → a.receives ≡ x.receives → b ≡ y → IsTied w g m t c x y → IsTied w g m t c a b
same_tied w g m t c x a y b e f h = subst (λ (o : Past). IsTied w g m t c a o) (sym f) (record {
  apart = h.apart;
  last = h.last ∙ ap (λ (r : ReceiverData). r.unit) (sym e);
  held = h.held;
  idle = h.idle;
  forced = λ u q k no_. h.forced u q k (λ z. no_ (ap (λ (r : ReceiverData). r.unit) e ∙ z));
  content = h.content;
})

retied : (w : World) (g : Ghost) (b : Book) (ks : List CableLine) (xs : ℕ → List ℕ → Channel) (ys : ℕ → List ℕ → Past) (k : CableLine) (c : Channel) (y : Past) → c.receives ≡ (xs k.sender k.channel).receives → y ≡ ys k.sender k.channel → AreJoint w g b ks xs ys
    → AreJoint w g b ks (put_at xs k.sender k.channel c) (put_at ys k.sender k.channel y)
retied w g b ks xs ys k c y e f j = record {
  inv = j.inv;
  tied = λ h n. bool_case (here k h) (λ t. here k h ≡ t → IsTied w g h.sender h.receiver h.channel (if t then c else xs h.sender h.channel) (if t then y else ys h.sender h.channel))
      (λ z q.
      let o = here_yes k.sender k.channel h.sender h.channel q in
      same_tied w g h.sender h.receiver h.channel (xs h.sender h.channel) c (ys h.sender h.channel) y (e ∙ (λ i. (xs (sym o.0 i) (sym o.1 i)).receives)) (f ∙ (λ i. ys (sym o.0 i) (sym o.1 i))) (j.tied h n))
      (λ z q. j.tied h n) refl;
  begun = λ h n. bool_case (here k h) (λ t. here k h ≡ t → AreBegun g h.sender h.channel (if t then y else ys h.sender h.channel))
      (λ z q. let o = here_yes k.sender k.channel h.sender h.channel q in subst (AreBegun g h.sender h.channel) (sym (f ∙ (λ i. ys (sym o.0 i) (sym o.1 i)))) (j.begun h n))
      (λ z q. j.begun h n) refl;
}

-- what it does
pub expires_so : (d : SenderDoes) → is_expiry d ≡ true → d ≡ does.Expire
expires_so does.Expire e = refl
expires_so d e = absurd cc

-- a table's guard says that it is idle
idle_so : (c : Channel) (st : Stock) (d : SenderDoes) → Guard c.sender st d → d ≡ does.Expire → is_idle c.sender.state ≡ true
idle_so c st d g e = subst (Guard c.sender st) e g

-- it tells no commit
removed_quiet : (q : List ℕ) (xs : List Row) (ds : List Did) → unit_received ds ≡ None → unit_received (map (λ (row : Row). did.Removed q row.message.ident whys.Expired) xs ++ ds) ≡ None
removed_quiet q [] ds e = e
removed_quiet q (x ∷ xs) ds e = removed_quiet q xs ds e

expired_quiet : (q : List ℕ) (xs : List Row) (parts : List Part) → unit_received (delta_of parts) ≡ None → unit_received (delta_of (expired_parts q xs ++ parts)) ≡ None
expired_quiet q [] parts e = e
expired_quiet q (x ∷ xs) parts e = removed_quiet q xs (delta_of parts) e

abbrev EachQuietDelta : Option Deed → Type 0
EachQuietDelta None = Unit {0}
EachQuietDelta (Some d) = (unit_received (delta_of d.parts) ≡ None) × (d.reply ≡ replies.Changed)

expire_quiet : (stamp : ℕ) (e : SenderEnd) (n : Node) → EachQuietDelta (sender_deed_by stamp e does.Expire n)
expire_quiet stamp e n = (
  expired_quiet (queue_of_sender e.channel n.manager) (expired_rows (queue_of_sender e.channel n.manager) n.manager) (leave_if_stopped e.channel e.machine.state n.manager)
      (bool_case (is_running e.machine.state) (λ b. unit_received (delta_of (if b then [] else parts_of (leave e.channel n.manager))) ≡ None) (λ f. refl) (λ f. refl)),
  refl,
)

-- THE TURN
pub expiry_moves : (s : Scenario) (hs : List History) (p : List Line) (x : Line) (z : Stand s hs p) (t : Told_ s hs p x) (i : ℕ) (k : CableLine) (d : Deed) → IsScenario s → slice_get s.cables i ≡ Some k → k.sender ≡ x.manager
    → x.entry.actor ≡ actors.Sender i → x.entry.call ≡ calls.Turn → IsRun s hs p x t d
    → sender_deed x.entry.stamp (sender_of (near_at s i k) (z.xs k.sender k.channel).sender) x.entry.effect.popped (node_after s x.manager p t.h) ≡ Some d → SeenIn x.entry.effect.popped (z.xs k.sender k.channel).back
    → is_expiry (sender_next (z.xs k.sender k.channel).sender x.entry.effect.popped (stock k.channel (node_after s x.manager p t.h).manager)) ≡ true → Moves s hs p x t.h z
expiry_moves s hs p x z t i k d scenario e q actor call r is offered gone =
    let m : ℕ = x.manager in
    let n : Node = node_after s m p t.h in
    let b : Plain = n.manager in
    let l : Ledger = ledger (opening_ledger s hs) p in
    let w : Where = near_at s i k in
    let c : Channel = z.xs k.sender k.channel in
    let y : Past = z.ys k.sender k.channel in
    let seen : Seen = x.entry.effect.popped in
    let stamp : ℕ = x.entry.stamp in
    let end : SenderEnd = sender_of w c.sender in
    let turn : SenderTurn = turn_of w stamp seen c.sender b in
    let c1 : Channel = sender_turn turn c in
    let y1 : Past = sender_past turn c y in
    let does_ : SenderDoes = sender_next c.sender seen (stock k.channel b) in
    let so : does_ ≡ does.Expire = expires_so does_ gone in
    let sends : SendsAs w n c = sends_here s hs p x z t i k e q r.up in
    let there : Mem k s.cables = mem_at s.cables i k e in
    let q1 : Plain = do_all d.parts b in
    let ps : List Plain = managers_at s p hs in
    let ms : List Plain = managers_at s (p ++ x ∷ []) hs in
    let a = z.at m t.h t.is in
    let by_ : sender_deed_by stamp end does.Expire n ≡ Some d = ap (λ (o : SenderDoes). sender_deed_by stamp end o n) (sym so) ∙ is in
    let idle : is_idle c.sender.state ≡ true = idle_so c (stock k.channel b) does_ (guarded c.sender seen (stock k.channel b)) so in
    let told : EachQuietDelta (Some d) = subst EachQuietDelta by_ (expire_quiet stamp end n) in
    let reply : x.entry.reply ≡ replies.Changed = t.tells.reply ∙ ap (λ (o : Done). o.reply) r.is ∙ told.1 in
    let delta : x.entry.effect.delta ≡ delta_of d.parts = t.tells.delta ∙ ap (λ (o : Done). o.delta) r.is in
    let pushed : x.entry.effect.pushed ≡ d.pushed = t.tells.pushed ∙ ap (λ (o : Done). o.pushed) r.is in
    let l1 : Ledger = ledgers.post_call m calls.Turn x.entry.reply x.entry.effect.received (delta_of d.parts) (take_all_gone m (delta_of d.parts) l) in
    let follow : Follow m z.given b l q1 l1 = (subst (EachFollowed m z.given b l) by_ (expires m z.given l stamp end n a.fresh a.told r.before idle)) x.entry.reply x.entry.effect.received in
    let next = run_next s hs p x t d m r refl in
    let j = leads_on s z.given follow.now m b q1 ps ms l l1 z.ghost s.cables z.xs z.ys next a.told follow.leads follow.same follow.told follow.other z.joint in
    let same : y1 ≡ y = (λ o. past_turned (out_of (so o) w c.sender b) (so o) turn y) in
    let whole : ledger (opening_ledger s hs) (p ++ x ∷ []) ≡ l1 = ledger_step (opening_ledger s hs) p x ∙ ap (λ (o : Reply). posted m x.entry o l) reply
    ∙ (λ o. ledgers.post_call m (call o) x.entry.reply x.entry.effect.received (delta o) (take_all_gone m (delta o) l)) in
    let quiet : unit_received x.entry.effect.delta ≡ None = ap unit_received delta ∙ told.0 in
    let sent : Sent w n d c.out c1 = subst (λ (o : Option Deed). EachSent w n o c.out c1) is
    (turns_as w stamp seen n c sends (ap is_up r.up) (distinct_of (stored (queue_of_sender w.channel b) b).rows (r.before.facts.apart.once (queue_of_sender w.channel b)))) in
    let up : q1.running ≡ Up = parts_running d.parts b ∙ r.up in
    let mine : IsMoved s m (done d Runs n).next i k c c1 y1 = record {
      facts = near_keeps (NearStep.Turn turn) c y (z.lines i k e).facts (may_turn w stamp seen b c offered);
      near = λ o. (
        subst (λ (v : Running). NearAt w (done d Runs n).next c1 v) (sym up) sent.sends,
        near_far (NearStep.Turn turn) c,
        λ f g. subst (λ (fs : List Frame). Mem f fs) sent.offers (offering_among d.pushed c.out f g),
      );
      far = λ o. absurd ((z.joint.tied k there).apart (o ∙ sym q));
      later = λ o. near_later (NearStep.Turn turn) c y (z.lines i k e).facts;
      else = λ o v. absurd (true_false (sym (ap (λ u. u == m) q ∙ eqb_self m) ∙ o));
    } in
    let operated : (o : ℕ) (v : List ℕ) (u : Luw) → j.0.ghost.operated o v u ≡ true → z.ghost.operated o v u ≡ true = λ o v u f. (λ g. sym j.1 g o v u) ∙ f in
    move_to s hs p x t.h z (done d Runs n) l1 r.is whole (record {
      given = follow.now;
      ghost = j.0.ghost;
      xs = put_at z.xs k.sender k.channel c1;
      ys = put_at z.ys k.sender k.channel y1;
      joint = retied (world_of s follow.now ms) j.0.ghost (book_of l1) s.cables z.xs z.ys k c1 y1 (near_far (NearStep.Turn turn) c).receives same j.0.joint;
      moved = all_moved s m (done d Runs n).next i k c1 y1 z.xs z.ys scenario e mine
          (λ o h f out. left_aside s m n o h (z.xs h.sender h.channel) (z.ys h.sender h.channel) d Runs r.up (z.lines o h f).facts r.can
          (λ v. (sends_here s hs p x z t o h f v r.up, near_else (near_at s o h) stamp end seen n d is (else_index s i o k h e f out) (else_channel k h (v ∙ sym q) out) r.before r.after))
          (λ v. (takes_here s hs p x z t o h f v r.up, far_else (far_at s o h) stamp end seen n d is (else_index s i o k h e f out))));
      out = λ o h f g v actor_ push.
          let one : k ≡ h = same_cable s i o k h e g (sym (same_number o i (ap sender_number (sym actor_ ∙ actor)))) in
          subst (λ (u : CableLine). Mem f (put_at z.xs k.sender k.channel c1 u.sender u.channel).out) one
          (subst (λ (u : Channel). Mem f u.out) (sym (put_here c1))
          (subst (λ (fs : List Frame). Mem f fs) sent.offers (subst (λ (u : Option Frame). Mem f (offering u c.out)) (sym push ∙ pushed) (inl refl))));
      back = λ o h f g v actor_ push. absurd (none_number i (ap sender_number (sym actor_ ∙ actor)));
      told = λ h n_. subst (λ ds. IsToldOf s (opening_managers s hs) ds h.sender h.channel (put_at z.xs k.sender k.channel c1 h.sender h.channel) (put_at z.ys k.sender k.channel y1 h.sender h.channel)) (sym (deeds_more p x))
          (told_all s (opening_managers s hs) (deeds p) (deeds_in m x.entry.effect.delta) k c1 y1 z.xs z.ys
          (sender_tells s (opening_managers s hs) (deeds p ++ deeds_in m x.entry.effect.delta) k.sender k.channel c y turn
          (grows s (opening_managers s hs) (deeds p) (deeds_in m x.entry.effect.delta) k.sender k.channel c y (z.told k there))) z.told h n_);
      resolved = λ o v u f. told_before p x _ (z.resolved o v u (operated o v u f));
      not_yet = λ o v u f. still_not s (opening_managers s hs) p x v u (none_committed v u m x.entry.effect.delta quiet) (z.not_yet o v u (operated o v u f));
      risen = λ h w. risen_still s (opening_managers s hs) p x h.channel (z.xs h.sender h.channel).receives.unit (put_at z.xs k.sender k.channel c1 h.sender h.channel).receives.unit quiet (units_put z.xs k h c1 (ap (λ (r : ReceiverData). r.unit) (near_far (NearStep.Turn turn) c).receives)) (z.risen h w);
      owned = λ o v u f. z.owned o v u (operated o v u f);
      loose = λ o v u f. (λ w. sym j.2 w o v u) ∙ f;
      at = record {
        told = follow.told;
        fresh = follow.fresh;
        number = ap (λ (g : Given). g.number) follow.same.given ∙ a.number;
        timed = record { users = follow.told.users; used = follow.told.used; moment = (follow.kept a.timed.users follow.told.users a.timed.used follow.told.used).moment ∙ a.timed.moment ∙ sym follow.steady };
        state = state_up q1 up r.after;
        noted = noted_up (EndNote s (deeds p) (put_at z.xs k.sender k.channel c1) m) m q1 l1 up;
      };
      known = follow.known;
      others = λ o v f h. others_told m o v l l1 f follow.other h;
      users = λ o f. follow.other.users o f;
      counted = calls_kept b.numbers.connections q1.numbers.connections m calls.Turn x.entry.reply x.entry.effect.received (delta_of d.parts) l (parts_rise d.parts b) (z.counted m t.h t.is);
      cabled = subst (EachCabled s.cables m b) is
          (cabled_by s.cables m stamp end does_ n (free_of w n c (stock k.channel b) does_ sends (guarded c.sender seen (stock k.channel b))) (k, there, q, refl) (z.cabled m t.h t.is));
      housed = housed_else m l l1 a.told.places a.told.placed follow.other;
      listed = forced_kept z.ghost j.0.ghost x.entry.effect.delta (book_of l).rows (book_of l1).rows j.3;
      order = quiet_order (forced_over [] p) x l l1 quiet;
    })
  where
    put_here : (c1 : Channel) → put_at z.xs k.sender k.channel c1 k.sender k.channel ≡ c1
    put_here c1 = ap (λ b. if b then c1 else z.xs k.sender k.channel) (here_self k.sender k.channel)
