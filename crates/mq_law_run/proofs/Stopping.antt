-- A stop of a manager, as a move of the network.
use Rattle.std.proofs.Common.{ℕ, ◌≡◌, ◌≢◌, Bool, true, false, List, [], ◌∷◌, ◌++◌, refl, ap, sym, subst, ◌∙◌, inl, inr}
use Rattle.std.specs.Prelude.{Option, Some, None, ◌==◌, ◌&&◌, ◌||◌, if◌then◌else◌}
use Rattle.mq_frame.specs.declared.frame.Frame.{Frame}
use Rattle.mq_sync.specs.declared.unit.Unit.{Unit as Luw}
use Rattle.mq_sync.specs.declared.data.ReceiverData.{ReceiverData}
use Rattle.mq_sync.specs.declared.data.SenderData.{SenderData}
use Rattle.mq_sync.specs.Settlement.{receiver_or, sender_or}
use Rattle.mq_sender.specs.States as senders
use Rattle.mq_history.specs.declared.history.History.{History}
use Rattle.mq_history.specs.declared.scenario.CableLine.{CableLine}
use Rattle.mq_history.specs.declared.scenario.Scenario.{Scenario}
use Rattle.mq_history.specs.Scenarios.{IsScenario}
use Rattle.mq_calls.specs.State.{Plain, Running}
use Rattle.mq_calls.specs.State.Running.{Up, Down}
use Rattle.mq_spec_network.specs.Story.{Line, Mem}
use Rattle.mq_law_channel.specs.Channel.{Channel, Facts, Past}
use Rattle.mq_law_channel.specs.Turns.{receiver_halted, released, sender_rests}
use Rattle.mq_law_channel.proofs.Operating.{receiver_halts, sender_inactive}
use Rattle.mq_law_rows.specs.Families.{is_here}
use Rattle.mq_law_rows.proofs.Lists.{bool_case, eqb_self, eqb_yes, here_self}
use Rattle.mq_law_run.proofs.Lining.{index_of, mem_at}
use Rattle.mq_calls.specs.declared.choices.Choice.TheVariants.{Runs}
use Rattle.mq_history.specs.declared.acts.Act.TheVariants as acts
use Rattle.mq_history.specs.declared.acts.Acted.TheVariants as acted
use Rattle.mq_history.specs.declared.calls.Call.TheVariants as calls
use Rattle.mq_history.specs.declared.calls.Chance.TheVariants as chances
use Rattle.mq_history.specs.declared.calls.Entry.{Entry}
use Rattle.mq_history.specs.declared.calls.Reply.{Reply}
use Rattle.mq_history.specs.declared.calls.Reply.TheVariants as replies
use Rattle.mq_calls.specs.declared.state.Batch.{Batch}
use Rattle.mq_calls.specs.State.{Given}
use Rattle.mq_spec_manager.specs.Stops.{at_rest, stop_at}
use Rattle.mq_spec_node.specs.Node.{Node}
use Rattle.mq_spec_node.specs.Node.ChannelEnd.{Receives, Sends}
use Rattle.mq_spec_node.specs.Deeds.{Done}
use Rattle.mq_spec_node.specs.Replays.{done_by}
use Rattle.mq_sync.specs.Units.{no_unit, same_unit}
use Rattle.mq_spec_network.specs.Conflict.{Deed as ToldDeed, deeds, deeds_in, is_committed}
use Rattle.mq_spec_network.specs.Ledger as ledgers
use Rattle.mq_spec_network.specs.Ledger.{Ledger, Users, ledger, posted}
use Rattle.mq_spec_network.specs.Order.{unit_received}
use Rattle.mq_spec_network.specs.Standing.{managers_at, node_after, opening_ledger, opening_managers}
use Rattle.mq_law_manager.specs.Facts.{IsSound}
use Rattle.mq_law_manager.proofs.Ending.{sound_still, stop_sound}
use Rattle.mq_law_node.specs.Ends.{receiver_of, sender_of, told_receives, told_sends}
use Rattle.mq_law_node.specs.Nodes.{FarNode, NearNode, SameFar, SameNear}
use Rattle.mq_law_node.proofs.FarFreezing.{far_rest_data}
use Rattle.mq_law_node.proofs.Freezing.{end_resting, rest_data}
use Rattle.mq_law_seen.specs.Seen.{book_of}
use Rattle.mq_law_events.specs.Tied.{IsElse, IsNext}
use Rattle.mq_law_events.proofs.Telling.{else_places, else_then, else_users, here_changed}
use Rattle.mq_law_stopped.specs.from_law_batches.Releases.{AreUnprepared, Rested}
use Rattle.mq_law_stopped.proofs.from_law_batches.Stopping as batches
use Rattle.mq_law_stopped.proofs.from_law_batches.Stopping.{IsRest, rest_stays}
use Rattle.mq_law_one.proofs.from_law_story.Weaving.{ledger_step}
use Rattle.mq_law_stopped.specs.from_law_turns.Agreed.{IsToldOf}
use Rattle.mq_law_stopped.proofs.from_law_turns.Agreeing.{grows, released_tells}
use Rattle.mq_law_cables.specs.Joints.{LeadTo, rested}
use Rattle.mq_law_cables.proofs.Differing.{leads}
use Rattle.mq_law_cables.proofs.Keeping.{rests}
use Rattle.mq_law_cables.proofs.Unprepared.{unprepared}
use Rattle.mq_law_deeds.proofs.Counting.{stopped}
use Rattle.mq_law_one.proofs.Running.{Told_}
use Rattle.mq_law_run.specs.Run.{Among, IsMoved, Moves, Stand, far_at, near_at, stopped_done, IsLater}
use Rattle.mq_law_run.proofs.Owning.{housed_else, next_managers, others_told}
use Rattle.mq_law_run.proofs.Running.{move_to, sends_here, sound_at, takes_here}
use Rattle.mq_law_run.proofs.Telling.{deeds_more, none_committed, risen_still, still_not, told_before}
use Rattle.mq_law_run.specs.Ordered.{forced_over}
use Rattle.mq_law_run.proofs.Later.{later_rests, later_self}
use Rattle.mq_law_run.proofs.Listing.{quiet_order}
use Rattle.mq_law_run.proofs.Tying.{forced_kept, keeps_less, stop_less}

-- CHANNELS AT REST
-- the manager receives on this channel of that sender
abbrev pub receives_on : List CableLine → ℕ → ℕ → List ℕ → Bool
receives_on [] m a c = false
receives_on (k ∷ ks) m a c = ((k.receiver == m) && is_here a c k.sender k.channel) || receives_on ks m a c

abbrev pub at_rest_far : (Channel → Channel) → Bool → Channel → Channel
at_rest_far F true x = F x
at_rest_far F false x = x

abbrev pub at_rest_near : Bool → Channel → Channel
at_rest_near true x = sender_rests (senders.halted x.sender) x
at_rest_near false x = x

-- all channels where manager m rests
abbrev pub all_at_rest : (Channel → Channel) → List CableLine → ℕ → (ℕ → List ℕ → Channel) → ℕ → List ℕ → Channel
all_at_rest F ks m xs a c = at_rest_far F (receives_on ks m a c) (at_rest_near (a == m) (xs a c))

none_on : (ks : List CableLine) (m : ℕ) (k : CableLine) → LeadTo ks k.sender k.channel k.receiver → (k.receiver == m) ≡ false → receives_on ks m k.sender k.channel ≡ false
none_on [] m k lead e = refl
none_on (x ∷ ks) m k lead e = bool_case (is_here k.sender k.channel x.sender x.channel) (λ t. is_here k.sender k.channel x.sender x.channel ≡ t → (((x.receiver == m) && t) || receives_on ks m k.sender k.channel) ≡ false)
    (λ z f. ap (λ r. ((r == m) && true) || receives_on ks m k.sender k.channel) (lead x (inl refl) f) ∙ ap (λ t. (t && true) || receives_on ks m k.sender k.channel) e ∙ none_on ks m k (λ o n. lead o (inr n)) e)
    (λ z f. ap (λ t. t || receives_on ks m k.sender k.channel) (and_false (x.receiver == m)) ∙ none_on ks m k (λ o n. lead o (inr n)) e) refl
  where
    and_false : (t : Bool) → (t && false) ≡ false
    and_false true = refl
    and_false false = refl

some_on : (ks : List CableLine) (m : ℕ) (k : CableLine) → LeadTo ks k.sender k.channel k.receiver → Mem k ks → (k.receiver == m) ≡ true → receives_on ks m k.sender k.channel ≡ true
some_on [] m k lead n e = absurd n
some_on (x ∷ ks) m k lead (inl q) e = ap (λ (o : CableLine). ((o.receiver == m) && is_here k.sender k.channel o.sender o.channel) || receives_on ks m k.sender k.channel) (sym q)
    ∙ ap (λ t. (t && is_here k.sender k.channel k.sender k.channel) || receives_on ks m k.sender k.channel) e ∙ ap (λ t. (true && t) || receives_on ks m k.sender k.channel) (here_self k.sender k.channel)
some_on (x ∷ ks) m k lead (inr n) e = ap (λ t. ((x.receiver == m) && is_here k.sender k.channel x.sender x.channel) || t) (some_on ks m k (λ o w. lead o (inr w)) n e) ∙ or_true ((x.receiver == m) && is_here k.sender k.channel x.sender x.channel)
  where
    or_true : (t : Bool) → (t || true) ≡ true
    or_true true = refl
    or_true false = refl

pub receives_so : (s : Scenario) (m : ℕ) (k : CableLine) → IsScenario s → Mem k s.cables → receives_on s.cables m k.sender k.channel ≡ (k.receiver == m)
receives_so s m k scenario n = bool_case (k.receiver == m) (λ t. (k.receiver == m) ≡ t → receives_on s.cables m k.sender k.channel ≡ t)
    (λ z e. some_on s.cables m k (leads s k scenario n) n e) (λ z e. none_on s.cables m k (leads s k scenario n) e) refl

-- a cable's channel at rest
pub resting : (F : Channel → Channel) (s : Scenario) (m : ℕ) (k : CableLine) (xs : ℕ → List ℕ → Channel) → IsScenario s → Mem k s.cables
    → all_at_rest F s.cables m xs k.sender k.channel ≡ at_rest_far F (k.receiver == m) (at_rest_near (k.sender == m) (xs k.sender k.channel))
resting F s m k xs scenario n = ap (λ t. at_rest_far F t (at_rest_near (k.sender == m) (xs k.sender k.channel))) (receives_so s m k scenario n)

-- what is hardened stays
pub same_receives : (F : Channel → Channel) (a b : Bool) (x : Channel) → ((y : Channel) → (F y).receives ≡ y.receives) → (at_rest_far F a (at_rest_near b x)).receives ≡ x.receives
same_receives F true true x f = f (sender_rests (senders.halted x.sender) x)
same_receives F true false x f = f x
same_receives F false true x f = refl
same_receives F false false x f = refl

-- the facts; not both ends are at one manager
pub rest_facts : (F : Channel → Channel) (a b : Bool) (x : Channel) (y : Past) → ((c : Channel) (p : Past) → Facts c p → Facts (F c) p) → Facts x y → Facts (at_rest_far F a (at_rest_near b x)) (if b then released y else y)
rest_facts F true true x y f h = f (sender_rests (senders.halted x.sender) x) (released y) (sender_inactive (senders.halted x.sender) x y h refl)
rest_facts F true false x y f h = f x y h
rest_facts F false true x y f h = sender_inactive (senders.halted x.sender) x y h refl
rest_facts F false false x y f h = h

pub rest_told : (F : Channel → Channel) (s : Scenario) (ps : List Plain) (ds : List ToldDeed) (m : ℕ) (c : List ℕ) (a b : Bool) (x : Channel) (y : Past) → ((z : Channel) → (F z).receives ≡ z.receives) → IsToldOf s ps ds m c x y
    → IsToldOf s ps ds m c (at_rest_far F a (at_rest_near b x)) (if b then released y else y)
rest_told F s ps ds m c a true x y f h = released_tells s ps ds m c x (at_rest_far F a (at_rest_near true x)) y (same_receives F a true x f) h
rest_told F s ps ds m c a false x y f h = record {
  undone = h.undone;
  last = subst (λ (r : ReceiverData). same_unit r.unit no_unit ≡ false → is_committed s ps ds c r.unit ≡ true) (sym (same_receives F a false x f)) h.last;
}

-- one of the two ends
pub sender_at_rest : (F : Channel → Channel) (k : CableLine) (m : ℕ) (a : Bool) (x : Channel) → k.sender ≡ m → a ≡ false → at_rest_far F a (at_rest_near (k.sender == m) x) ≡ sender_rests (senders.halted x.sender) x
sender_at_rest F k m a x q e = ap (λ t. at_rest_far F t (at_rest_near (k.sender == m) x)) e ∙ ap (λ t. at_rest_near t x) (ap (λ o. o == m) q ∙ eqb_self m)

pub receiver_at_rest : (F : Channel → Channel) (k : CableLine) (m : ℕ) (b : Bool) (x : Channel) → k.receiver ≡ m → b ≡ false → at_rest_far F (k.receiver == m) (at_rest_near b x) ≡ F x
receiver_at_rest F k m b x q e = ap (λ t. at_rest_far F (k.receiver == m) (at_rest_near t x)) e ∙ ap (λ t. at_rest_far F t x) (ap (λ o. o == m) q ∙ eqb_self m)

pub eqb_no : (a b : ℕ) → a ≢ b → (a == b) ≡ false
eqb_no a b n = bool_case (a == b) (λ t. (a == b) ≡ t → t ≡ false) (λ z e. absurd (n (eqb_yes a b e))) (λ z e. refl) refl

pub stop_moves : (s : Scenario) (hs : List History) (p : List Line) (x : Line) (z : Stand s hs p) (t : Told_ s hs p x) → IsScenario s → (node_after s x.manager p t.h).manager.running ≡ Up → x.entry.call ≡ calls.Act acts.Crash → x.entry.chance ≡ chances.Call Runs
    → done_by x.entry (node_after s x.manager p t.h) ≡ stopped_done (node_after s x.manager p t.h) → Moves s hs p x t.h z
stop_moves s hs p x z t scenario up call chance is =
    let m : ℕ = x.manager in
    let n : Node = node_after s m p t.h in
    let b : Plain = n.manager in
    let l : Ledger = ledger (opening_ledger s hs) p in
    let e : Entry = x.entry in
    let q : Plain = record (at_rest b) { running = Down None 0 } in
    let l1 : Ledger = ledgers.stop m l in
    let ms : List Plain = managers_at s (p ++ x ∷ []) hs in
    let rest : IsRest b (at_rest b) = rest_stays b in
    let sound : IsSound b = sound_at s hs p x z t up in
    let a = z.at m t.h t.is in
    let next : IsNext m b q (managers_at s p hs) ms = subst (λ (w : Done). IsNext m b w.next.manager (managers_at s p hs) ms) is (next_managers s hs p x t) in
    let facts_of : (k : CableLine) → Mem k s.cables → Facts (z.xs k.sender k.channel) (z.ys k.sender k.channel) = λ k w. let i = index_of s.cables k w in (z.lines i.0 k i.1).facts in
    let free : AreUnprepared s (managers_at s p hs) b = unprepared s z.given (managers_at s p hs) z.ghost (book_of l) s.cables z.xs z.ys m b next.at sound (z.cabled m t.h t.is) facts_of z.joint in
    let r : Rested s z.given m b q ms z.ghost l = batches.stops s z.given m b (Down None 0) (managers_at s p hs) ms l z.ghost next a.told a.fresh free z.joint.inv in
    let zs : ℕ → List ℕ → Channel = all_at_rest receiver_halted s.cables m z.xs in
    let reply : e.reply ≡ replies.Acted acted.Done = t.tells.reply ∙ ap (λ (o : Done). o.reply) is in
    let delta : e.effect.delta ≡ [] = t.tells.delta ∙ ap (λ (o : Done). o.delta) is in
    let pushed : e.effect.pushed ≡ None = t.tells.pushed ∙ ap (λ (o : Done). o.pushed) is in
    let whole : ledger (opening_ledger s hs) (p ++ x ∷ []) ≡ l1 = ledger_step (opening_ledger s hs) p x ∙ ap (λ (o : Reply). posted m e o l) reply
    ∙ (λ i. ledgers.come_up m (chance i) (delta i) (ledgers.post_call m (call i) (reply i) e.effect.received (delta i) (ledgers.take_all_gone m (delta i) l))) in
    let other : IsElse m l l1 = else_then m l (ledgers.with_users m (λ (u : Users). record u { connections = [] }) l) l1 (else_users m (λ (u : Users). record u { connections = [] }) l) (else_places m _ (ledgers.with_users m (λ (u : Users). record u { connections = [] }) l)) in
    let operated : (c : ℕ) (d : List ℕ) (u : Luw) → r.stands.ghost.operated c d u ≡ true → z.ghost.operated c d u ≡ true = λ c d u f. (λ i. sym r.stands.operated i c d u) ∙ f in
    move_to s hs p x t.h z (stopped_done n) l1 is whole (record {
      given = r.now;
      ghost = r.stands.ghost;
      xs = zs;
      ys = rested m z.ys;
      joint = rests s z.given r.now m b q (managers_at s p hs) ms z.ghost r.stands.ghost (book_of l) (book_of l1) s.cables z.xs zs z.ys next
          (record { given = rest.given; senders = rest.senders; receivers = rest.receivers; batches = rest.batches }) r.stands.sent r.stands.operated r.stands.inv facts_of
          (λ k w. ap (λ (o : Channel). o.receives) (resting receiver_halted s m k z.xs scenario w) ∙ same_receives receiver_halted (k.receiver == m) (k.sender == m) (z.xs k.sender k.channel) (λ y. refl)) z.joint;
      moved = λ i k f.
          let there : Mem k s.cables = mem_at s.cables i k f in
          let c : Channel = z.xs k.sender k.channel in
          let v : zs k.sender k.channel ≡ at_rest_far receiver_halted (k.receiver == m) (at_rest_near (k.sender == m) c) = resting receiver_halted s m k z.xs scenario there in
          subst (λ (o : Channel). IsMoved s m (stopped_done n).next i k c o (rested m z.ys k.sender k.channel)) (sym v) (record {
            facts = rest_facts receiver_halted (k.receiver == m) (k.sender == m) c (z.ys k.sender k.channel) receiver_halts (z.lines i k f).facts;
            near = λ w.
                let g = sends_here s hs p x z t i k f w up in
                let o = sender_at_rest receiver_halted k m (k.receiver == m) c w (eqb_no k.receiver m (λ y. (z.joint.tied k there).apart (y ∙ sym w))) in
                subst (λ (y : Channel). NearNode (near_at s i k) (stopped_done n).next y × SameFar c y × Among c.out y.out) (sym o) (
                  record {
                    here = end_resting i n.own.ends (Sends (sender_of (near_at s i k) c.sender)) g.here;
                    data_ = g.data_ ∙ ap (λ (d : Option SenderData). told_sends (sender_or d)) (sym (rest_data k.channel b));
                    noted = tt;
                  },
                  record { receives = refl; receiver = refl; kept = refl; back = refl },
                  λ h j. j,
                );
            far = λ w.
                let g = takes_here s hs p x z t i k f w up in
                let o = receiver_at_rest receiver_halted k m (k.sender == m) c w (eqb_no k.sender m (λ y. (z.joint.tied k there).apart (w ∙ sym y))) in
                subst (λ (y : Channel). FarNode (far_at s i k) (stopped_done n).next y × SameNear c y × Among c.back y.back) (sym o) (
                  record {
                    here = end_resting i n.own.ends (Receives (receiver_of (far_at s i k) c.receiver c.kept)) g.here;
                    data_ = g.data_ ∙ ap (λ (d : Option ReceiverData). told_receives (receiver_or d)) (sym (far_rest_data k.channel b));
                    noted = tt;
                  },
                  record { sends = refl; sender = refl; batch = refl; out = refl },
                  λ h j. j,
                );
            later = λ w. subst (λ (y : Channel). IsLater c y) (sym (sender_at_rest receiver_halted k m (k.receiver == m) c w (eqb_no k.receiver m (λ y. (z.joint.tied k there).apart (y ∙ sym w)))))
                (later_rests (senders.halted c.sender) c c refl (later_self c));
            else = λ w y. ap (λ o. at_rest_far receiver_halted (k.receiver == m) (at_rest_near o c)) w ∙ ap (λ o. at_rest_far receiver_halted o c) y;
          });
      out = λ i k f g w actor push. absurd (no_frame f (sym pushed ∙ push));
      back = λ i k f g w actor push. absurd (no_frame f (sym pushed ∙ push));
      told = λ k w. subst (λ (o : Channel). IsToldOf s (opening_managers s hs) (deeds (p ++ x ∷ [])) k.sender k.channel o (rested m z.ys k.sender k.channel)) (sym (resting receiver_halted s m k z.xs scenario w))
          (subst (λ ds. IsToldOf s (opening_managers s hs) ds k.sender k.channel (at_rest_far receiver_halted (k.receiver == m) (at_rest_near (k.sender == m) (z.xs k.sender k.channel))) (rested m z.ys k.sender k.channel)) (sym (deeds_more p x))
          (rest_told receiver_halted s (opening_managers s hs) (deeds p ++ deeds_in m e.effect.delta) k.sender k.channel (k.receiver == m) (k.sender == m) (z.xs k.sender k.channel) (z.ys k.sender k.channel) (λ o. refl)
          (grows s (opening_managers s hs) (deeds p) (deeds_in m e.effect.delta) k.sender k.channel (z.xs k.sender k.channel) (z.ys k.sender k.channel) (z.told k w))));
      resolved = λ c d u f. told_before p x _ (z.resolved c d u (operated c d u f));
      not_yet = λ c d u f. still_not s (opening_managers s hs) p x d u (none_committed d u m e.effect.delta (ap unit_received delta)) (z.not_yet c d u (operated c d u f));
      risen = λ k w. risen_still s (opening_managers s hs) p x k.channel (z.xs k.sender k.channel).receives.unit (zs k.sender k.channel).receives.unit (ap unit_received delta)
          (ap (λ (o : Channel). o.receives.unit) (resting receiver_halted s m k z.xs scenario w) ∙ ap (λ (r : ReceiverData). r.unit) (same_receives receiver_halted (k.receiver == m) (k.sender == m) (z.xs k.sender k.channel) (λ y. refl))) (z.risen k w);
      owned = λ c d u f. z.owned c d u (operated c d u f);
      loose = λ c d u f. (λ i. sym r.stands.loose i c d u) ∙ f;
      at = record {
        told = r.told;
        fresh = r.fresh;
        number = ap (λ (g : Given). g.number) rest.given ∙ a.number;
        timed = record { users = record a.timed.users { connections = [] }; used = here_changed m (λ (u : Users). record u { connections = [] }) l.users a.timed.users a.timed.used; moment = a.timed.moment ∙ sym rest.moment };
        state = sound_still q (subst (λ (g : Running). IsSound (stop_at g b).next) up (stop_sound b sound));
        noted = tt;
      };
      known = r.known;
      others = λ c g ne h. others_told m c g l l1 ne other h;
      users = λ c ne. other.users c ne;
      counted = stopped b.numbers.connections q.numbers.connections m l (z.counted m t.h t.is);
      cabled = record { once = λ c w. absurd (no_batch c w); line = λ c w. absurd (no_batch c w) };
      housed = housed_else m l l1 a.told.places a.told.placed other;
      listed = forced_kept z.ghost r.stands.ghost e.effect.delta (book_of l).rows (book_of l1).rows
          (keeps_less z.ghost r.stands.ghost (book_of l).rows (book_of l1).rows r.stands.operated r.stands.sent (λ i_ g. stop_less m l i_ g));
      order = quiet_order (forced_over [] p) x l l1 (ap unit_received delta);
    })
  where
    no_frame : (f : Frame) → None ≡ Some f → ⊥
    no_frame f e = cc

    no_batch : (c : Batch) → Mem c (at_rest (node_after s x.manager p t.h).manager).channels.batches → ⊥
    no_batch c w = subst (λ (bs : List Batch). Mem c bs) (rest_stays (node_after s x.manager p t.h).manager).batches w
