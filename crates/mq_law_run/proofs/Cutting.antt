-- A write of a channel's end that is stopped, as a move of the network: the channel stays as it was, and the write is noted.
use Rattle.std.proofs.Common.{ℕ, zero, suc, ◌≡◌, ◌≤◌, ◌⊎◌, true, false, List, [], ◌∷◌, ◌++◌, refl, ap, sym, subst, ◌∙◌, inl, inr, arith, map}
use Rattle.std.specs.Prelude.{Option, Some, None, is_none, is_some, slice_get}
use Rattle.mq_message.specs.declared.message.Message.{Message}
use Rattle.mq_sync.specs.declared.unit.Unit.{Unit as Luw}
use Rattle.mq_sync.specs.declared.data.ReceiverData.{ReceiverData}
use Rattle.mq_sync.specs.declared.data.SenderData.{SenderData}
use Rattle.mq_sync.specs.Settlement.{receiver_or, sender_or}
use Rattle.mq_receiver.specs.declared.turns.ReceiverDoes.TheVariants as takes
use Rattle.mq_receiver.specs.declared.turns.ReceiverOut.TheVariants as outs
use Rattle.mq_frame.specs.declared.frame.Frame.{Frame}
use Rattle.mq_disk.specs.declared.cutter.Stop.{Stop}
use Rattle.mq_calls.specs.declared.choices.Choice.TheVariants.{Stopped}
use Rattle.mq_calls.specs.declared.agents.Note.TheVariants as notes
use Rattle.mq_calls.specs.declared.deltas.Did.{Did}
use Rattle.mq_calls.specs.declared.deltas.Did.TheVariants as did
use Rattle.mq_calls.specs.declared.records.LogRecord.{LogRecord}
use Rattle.mq_history.specs.declared.calls.Call.TheVariants as calls
use Rattle.mq_history.specs.declared.calls.Entry.{Entry}
use Rattle.mq_history.specs.declared.calls.Reply.{Reply}
use Rattle.mq_history.specs.declared.calls.Reply.TheVariants as replies
use Rattle.mq_history.specs.declared.history.History.{History}
use Rattle.mq_history.specs.declared.scenario.CableLine.{CableLine}
use Rattle.mq_history.specs.declared.scenario.Scenario.{Scenario}
use Rattle.mq_history.specs.Scenarios.{IsScenario}
use Rattle.mq_calls.specs.State.{Noted, Plain}
use Rattle.mq_calls.specs.State.Running.{Up}
use Rattle.mq_calls.specs.Reads.{receiver_data, sender_data}
use Rattle.mq_spec_manager.specs.Agents.{harden_part}
use Rattle.mq_calls.specs.Steps.{IsWrite, Part, delta_before, freeze, note_of, stopped_at}
use Rattle.mq_calls.specs.Steps.Step.{Do}
use Rattle.mq_spec_node.specs.Node.{Node}
use Rattle.mq_spec_node.specs.Deeds.{CanCome, Deed, Done, done, node_of}
use Rattle.mq_spec_node.specs.Replays.{done_by}
use Rattle.mq_spec_network.specs.Conflict.{Deed as ToldDeed, deeds, deeds_in}
use Rattle.mq_spec_network.specs.Ledger as ledgers
use Rattle.mq_spec_network.specs.Ledger.{Ledger, Users, ledger, posted}
use Rattle.mq_spec_network.specs.Order.{unit_received}
use Rattle.mq_spec_network.specs.Standing.{managers_at, node_after, opening_ledger, opening_managers}
use Rattle.mq_spec_network.specs.Story.{Line, Mem}
use Rattle.mq_law_channel.specs.Channel.{Channel, Past}
use Rattle.mq_law_channel.specs.Turns.{ReceiverTurn, receiver_does}
use Rattle.mq_law_channel.proofs.Told.{and_both}
use Rattle.mq_law_manager.specs.Facts.{IsFrozen, IsSound}
use Rattle.mq_law_manager.specs.Kept.{AllKeep}
use Rattle.mq_law_manager.proofs.Ending.{ends}
use Rattle.mq_law_node.specs.Beside.{AsideFar, AsideNear}
use Rattle.mq_law_node.specs.Data.{receiver_by_all, receiver_in_parts, sender_by_all, sender_in_parts}
use Rattle.mq_law_node.specs.Ends.{SendsAs, Sent, Taken as Took, TakesAs, Where, offering, stamped, told_receives, told_sends}
use Rattle.mq_law_node.specs.Moves.{FarStep, NearMay, NearStep, far_does, near_does}
use Rattle.mq_law_node.specs.Nodes.{FarMayLater, Single, first_delta, has_received, unforced}
use Rattle.mq_law_node.proofs.DataLaws.{receiver_done_all, sender_done_all}
use Rattle.mq_law_node.proofs.FarFreezing.{far_stops_noted}
use Rattle.mq_law_node.proofs.Freezing.{stops_noted}
use Rattle.mq_law_node.proofs.Quiet.{receiver_parts_quiet, sender_parts_quiet}
use Rattle.mq_law_rows.proofs.Lists.{bool_case, here_yes, true_false}
use Rattle.mq_law_events.specs.Tied.{Follow, IsNext}
use Rattle.mq_law_events.proofs.Stopping.{freezes}
use Rattle.mq_law_events.proofs.Telling.{here_changed}
use Rattle.mq_law_stopped.specs.from_law_found.Finds.{IsNoted}
use Rattle.mq_law_one.proofs.from_law_story.Weaving.{ledger_step}
use Rattle.mq_law_stopped.specs.from_law_turns.Agreed.{IsToldOf}
use Rattle.mq_law_stopped.proofs.from_law_turns.Agreeing.{grows}
use Rattle.mq_law_deeds.specs.Numbers.{AreCountedAt}
use Rattle.mq_law_deeds.proofs.Counting.{cut_kept}
use Rattle.mq_law_stopped.specs.from_law_receipts.Receipts.{Comes}
use Rattle.mq_law_stopped.specs.Noted.{EachFirst, EndNote, IsCommitting, IsOfEnd, IsWordOf, SaysSender, Stays_, all_calm, noted_of, told_at}
use Rattle.mq_law_stopped.specs.Noted.EndNote.{Commits, Far, Near}
use Rattle.mq_law_stopped.proofs.FarRedoing.{word_frozen}
use Rattle.mq_law_stopped.proofs.Committing.{commit_lasts}
use Rattle.mq_law_stopped.proofs.Leaving.{calm_quiet, hardened_calm, leaves, one_left, sound_of, word_lasts}
use Rattle.mq_law_one.specs.Alone.{Became, as_left}
use Rattle.mq_law_one.proofs.Happening.{became_marked, mark, state_down}
use Rattle.mq_law_one.proofs.Running.{Told_}
use Rattle.mq_law_run.specs.Run.{IsMoved, Moves, Stand, far_at, near_at}
use Rattle.mq_law_run.proofs.Cabled.{same_batches}
use Rattle.mq_law_run.proofs.Lining.{here, left_aside, mem_at, same_cable, same_index}
use Rattle.mq_law_run.proofs.Owning.{housed_else, next_managers, others_told}
use Rattle.mq_law_run.proofs.Running.{move_to, sends_here, takes_here}
use Rattle.mq_law_run.proofs.Telling.{deeds_more, none_committed, risen_still, still_not, told_before}
use Rattle.mq_law_run.proofs.Tying.{leads_on, forced_kept}
use Rattle.mq_law_run.specs.Ordered.{forced_over}
use Rattle.mq_law_run.proofs.Later.{later_self}
use Rattle.mq_law_run.proofs.Listing.{quiet_order}
use Rattle.mq_law_seen.specs.Seen.{book_of}

-- the call that is stopped, as the ledger has it
abbrev pub stopped_entry : Entry → Plain → ledgers.Stopped
stopped_entry e b = record { entry = e; moment = b.moment }

-- A STOPPED WRITE of a deed whose first part is stopped, at a manager that is up: the deed is of one cable's end, and leaves all others aside
pub record IsCut (s : Scenario) (hs : List History) (p : List Line) (x : Line) (z : Stand s hs p) (t : Told_ s hs p x) (k : CableLine) (d : Deed) (by : Stop) (left : ℕ) (part : Part) (r : LogRecord) : Type 0 where
  pub up : (node_after s x.manager p t.h).manager.running ≡ Up
  pub is : done_by x.entry (node_after s x.manager p t.h) ≡ done d (Stopped by zero left) (node_after s x.manager p t.h)
  pub can : CanCome d (Stopped by zero left) (node_after s x.manager p t.h)
  pub rest : List Part
  pub parts : d.parts ≡ part ∷ rest
  pub forced : part.forced ≡ Some r
  pub before : IsSound (node_after s x.manager p t.h).manager
  pub keeps : AllKeep IsSound d.parts (node_after s x.manager p t.h).manager
  pub near : (j : ℕ) (h : CableLine) → slice_get s.cables j ≡ Some h → here k h ≡ false → h.sender ≡ x.manager → AsideNear (near_at s j h) (node_after s x.manager p t.h) d
  pub far : (j : ℕ) (h : CableLine) → slice_get s.cables j ≡ Some h → here k h ≡ false → h.receiver ≡ x.manager → AsideFar (far_at s j h) (node_after s x.manager p t.h) d

-- what is left of the manager
abbrev pub cut_as : Part → LogRecord → ℕ → Plain → Plain
cut_as part r left b = freeze (Some (noted_of part r)) left b

first_stops : (parts rest : List Part) (part : Part) (r : LogRecord) (left : ℕ) (b : Plain) → parts ≡ part ∷ rest → part.forced ≡ Some r → stopped_at zero parts left b ≡ cut_as part r left b
first_stops parts rest part r left b e f = ap (λ (ps : List Part). stopped_at zero ps left b) e ∙ ap (λ (o : Option LogRecord). freeze (note_of part o) left b) f

none_before : (parts rest : List Part) (part : Part) → parts ≡ part ∷ rest → delta_before zero parts ≡ []
none_before parts rest part e = ap (delta_before zero) e

pub cut_moves : (s : Scenario) (hs : List History) (p : List Line) (x : Line) (z : Stand s hs p) (t : Told_ s hs p x) (i : ℕ) (k : CableLine) (d : Deed) (by_ : Stop) (left : ℕ) (part : Part) (r : LogRecord) → IsScenario s → slice_get s.cables i ≡ Some k
    → IsCut s hs p x z t k d by_ left part r
    → IsMoved s x.manager (done d (Stopped by_ zero left) (node_after s x.manager p t.h)).next i k (z.xs k.sender k.channel) (z.xs k.sender k.channel) (z.ys k.sender k.channel)
    → IsNoted x.manager (stopped_entry x.entry (node_after s x.manager p t.h).manager) (noted_of part r) (cut_as part r left (node_after s x.manager p t.h).manager)
    ⊎ EndNote s (deeds p) z.xs x.manager (stopped_entry x.entry (node_after s x.manager p t.h).manager) (noted_of part r) (as_left (cut_as part r left (node_after s x.manager p t.h).manager)) → Moves s hs p x t.h z
cut_moves s hs p x z t i k d by_ left part r scenario at_k v mine noted =
    let m : ℕ = x.manager in
    let e : Entry = x.entry in
    let n : Node = node_after s m p t.h in
    let b : Plain = n.manager in
    let l : Ledger = ledger (opening_ledger s hs) p in
    let q : Plain = cut_as part r left b in
    let next : Node = node_of q n.own in
    let stops : stopped_at zero d.parts left b ≡ q = first_stops d.parts v.rest part r left b v.parts v.forced in
    let d1 : Done = record { reply = replies.Stopped by_; delta = []; pushed = None; received = d.received; next = next } in
    let so : done_by e n ≡ d1 = v.is ∙ (λ j. record { reply = replies.Stopped by_; delta = none_before d.parts v.rest part v.parts j; pushed = None; received = d.received; next = node_of (stops j) n.own }) in
    let a = z.at m t.h t.is in
    let lost : Ledger = ledgers.lose m l in
    let k1 : Ledger = ledgers.with_users m (mark e) lost in
    let reply : e.reply ≡ replies.Stopped by_ = t.tells.reply ∙ ap (λ (o : Done). o.reply) so in
    let delta : e.effect.delta ≡ [] = t.tells.delta ∙ ap (λ (o : Done). o.delta) so in
    let pushed : e.effect.pushed ≡ None = t.tells.pushed ∙ ap (λ (o : Done). o.pushed) so in
    let quiet : unit_received e.effect.delta ≡ None = ap unit_received delta in
    let whole : ledger (opening_ledger s hs) (p ++ x ∷ []) ≡ k1 = ledger_step (opening_ledger s hs) p x ∙ ap (λ (o : Reply). posted m e o l) reply
    ∙ ap (λ (ds : List Did). ledgers.lose m (ledgers.with_users m (mark e) (ledgers.take_all_gone m ds l))) delta in
    let follow : Follow m z.given b l q lost = freezes m z.given b l (Some (noted_of part r)) left a.fresh a.told in
    let moment : follow.told.users.moment ≡ b.moment = (follow.kept a.timed.users follow.told.users a.timed.used follow.told.used).moment ∙ a.timed.moment in
    let cut_ : (ledgers.users_at m k1).cut ≡ Some (stopped_entry e b) = ap (λ o. (ledgers.users_or o).cut) (here_changed m (mark e) lost.users follow.told.users follow.told.used) ∙ ap (λ (u : ℕ). Some (record { entry = e; moment = u })) moment in
    let frozen : IsFrozen q = subst IsFrozen stops (ends {F = Unit {0}} (Do (tt {0}) d.parts) (Stopped by_ zero left) b v.before v.keeps) in
    let became : Became (EndNote s (deeds p) z.xs m) m z.given n l next k1 = became_marked m z.given n l next lost (mark e) (λ u. refl) (λ u. refl) a follow (state_down (Some (noted_of part r)) 0 q refl frozen) (stopped_entry e b, cut_, noted) in
    let j = leads_on s z.given became.now m b q (managers_at s p hs) (managers_at s (p ++ x ∷ []) hs) l k1 z.ghost s.cables z.xs z.ys (subst (λ (w : Done). IsNext m b w.next.manager (managers_at s p hs) (managers_at s (p ++ x ∷ []) hs)) so (next_managers s hs p x t)) a.told became.leads became.same became.at.told became.other z.joint in
    let ends_at : (done d (Stopped by_ zero left) n).next ≡ next = λ o. node_of (stops o) n.own in
    move_to s hs p x t.h z d1 k1 so whole (record {
      given = became.now;
      ghost = j.0.ghost;
      xs = z.xs;
      ys = z.ys;
      joint = j.0.joint;
      moved = λ o h f. subst (λ (w : Node). IsMoved s m w o h (z.xs h.sender h.channel) (z.xs h.sender h.channel) (z.ys h.sender h.channel)) ends_at (each_line o h f);
      out = λ o h f g w actor push. absurd (no_frame f (sym pushed ∙ push));
      back = λ o h f g w actor push. absurd (no_frame f (sym pushed ∙ push));
      told = λ h n_. subst (λ ds. IsToldOf s (opening_managers s hs) ds h.sender h.channel (z.xs h.sender h.channel) (z.ys h.sender h.channel)) (sym (deeds_more p x))
          (grows s (opening_managers s hs) (deeds p) (deeds_in m e.effect.delta) h.sender h.channel (z.xs h.sender h.channel) (z.ys h.sender h.channel) (z.told h n_));
      resolved = λ o c u f. told_before p x _ (z.resolved o c u ((λ w. sym j.1 w o c u) ∙ f));
      not_yet = λ o c u f. still_not s (opening_managers s hs) p x c u (none_committed c u m e.effect.delta quiet) (z.not_yet o c u ((λ w. sym j.1 w o c u) ∙ f));
      risen = λ h w. risen_still s (opening_managers s hs) p x h.channel (z.xs h.sender h.channel).receives.unit (z.xs h.sender h.channel).receives.unit quiet refl (z.risen h w);
      owned = λ o c u f. z.owned o c u ((λ w. sym j.1 w o c u) ∙ f);
      loose = λ o c u f. (λ w. sym j.2 w o c u) ∙ f;
      at = became.at;
      known = became.known;
      others = λ o c ne h. others_told m o c l k1 ne became.other h;
      users = λ o ne. became.other.users o ne;
      counted = subst (AreCountedAt b.numbers.connections m) (ap (λ (ds : List Did). ledgers.lose m (ledgers.with_users m (mark e) (ledgers.take_all_gone m ds l))) delta) (cut_kept b.numbers.connections b.numbers.connections m e l (same_or_less b.numbers.connections) (z.counted m t.h t.is));
      cabled = same_batches s.cables m b q refl (z.cabled m t.h t.is);
      housed = housed_else m l k1 a.told.places a.told.placed became.other;
      listed = forced_kept z.ghost j.0.ghost e.effect.delta (book_of l).rows (book_of k1).rows j.3;
      order = quiet_order (forced_over [] p) x l k1 quiet;
    })
  where
    no_frame : (f : Frame) → None ≡ Some f → ⊥
    no_frame f e = cc

    same_or_less : (a : ℕ) → a ≤ a
    same_or_less a = omega arith

    each_line : (o : ℕ) (h : CableLine) → slice_get s.cables o ≡ Some h → IsMoved s x.manager (done d (Stopped by_ zero left) (node_after s x.manager p t.h)).next o h (z.xs h.sender h.channel) (z.xs h.sender h.channel) (z.ys h.sender h.channel)
    each_line o h f =
        let n : Node = node_after s x.manager p t.h in
        let next : Node = (done d (Stopped by_ zero left) n).next in
        bool_case (here k h) (λ w. here k h ≡ w → IsMoved s x.manager next o h (z.xs h.sender h.channel) (z.xs h.sender h.channel) (z.ys h.sender h.channel))
        (λ c w.
        let same : i ≡ o = same_index s i o k h scenario at_k f (sym (here_yes k.sender k.channel h.sender h.channel w).1) in
        let one : k ≡ h = same_cable s i o k h at_k f same in
        subst (λ (g : CableLine). IsMoved s x.manager next o g (z.xs g.sender g.channel) (z.xs g.sender g.channel) (z.ys g.sender g.channel)) one (subst (λ g. IsMoved s x.manager next g k (z.xs k.sender k.channel) (z.xs k.sender k.channel) (z.ys k.sender k.channel)) same mine))
        (λ c w. left_aside s x.manager n o h (z.xs h.sender h.channel) (z.ys h.sender h.channel) d (Stopped by_ zero left) v.up (z.lines o h f).facts v.can
        (λ g. (sends_here s hs p x z t o h f g v.up, v.near o h f w g))
        (λ g. (takes_here s hs p x z t o h f g v.up, v.far o h f w g))) refl

-- WHICH WRITE: the first part's, the only one that forces
pub none_written : (j : ℕ) (ps : List Part) → unforced ps ≡ true → IsWrite j ps → ⊥
none_written j [] u w = absurd w
none_written zero (q ∷ ps) u w = true_false (sym w ∙ none_forced q.forced (and_both (is_none q.forced) (unforced ps) u).0)
  where
    none_forced : (o : Option LogRecord) → is_none o ≡ true → is_some o ≡ false
    none_forced None e = refl
    none_forced (Some r) e = absurd cc
none_written (suc j) (q ∷ ps) u w = none_written j ps (and_both (is_none q.forced) (unforced ps) u).1 w

record IsFirst (d : Deed) (n_ : ℕ) : Type 0 where
  first : Part
  rest : List Part
  written : LogRecord
  parts : d.parts ≡ first ∷ rest
  forced : first.forced ≡ Some written
  is : n_ ≡ zero

first_of : (d : Deed) (k : ℕ) → Single d.parts d.pushed → IsWrite k d.parts → IsFirst d k
first_of d k single write = by_parts d.parts refl single write
  where
    none_some : (o : Option LogRecord) → is_some o ≡ true → (r : LogRecord) × (o ≡ Some r)
    none_some None e = absurd cc
    none_some (Some r) e = (r, refl)

    by_parts : (ps : List Part) → d.parts ≡ ps → Single ps d.pushed → IsWrite k ps → IsFirst d k
    by_parts [] e s w = absurd w
    by_parts (part ∷ rest) e s w =
        let zero_ : k ≡ zero = at_first part rest k s.0 w in
        let r = none_some part.forced (subst (λ (j : ℕ). IsWrite j (part ∷ rest)) zero_ w) in
        record { first = part; rest = rest; written = r.0; parts = e; forced = r.1; is = zero_ }
      where
        at_first : (q : Part) (ps : List Part) (j : ℕ) → unforced ps ≡ true → IsWrite j (q ∷ ps) → j ≡ zero
        at_first q ps zero u w = refl
        at_first q ps (suc j) u w = absurd (none_written j ps u w)

-- what holds of each first part
pub each_first : (P Q : Part → LogRecord → Type 0) (ps : List Part) → ((part : Part) (r : LogRecord) → P part r → Q part r) → EachFirst P ps → EachFirst Q ps
each_first P Q [] f h = tt
each_first P Q (part ∷ ps) f h = λ r e. f part r (h r e)

-- A SENDER'S END, by its turn or by an operator's command on it: its own write, or one that is noted as a call's
abbrev pub SaysNear : (m : ℕ) (e : Entry) (c : List ℕ) (left : ℕ) (b : Plain) (x : Channel) (step : NearStep) → Part → LogRecord → Type 0
SaysNear m e c left b x step part r = SaysSender c left b x step part r ⊎ IsNoted m (stopped_entry e b) (noted_of part r) (cut_as part r left b)

pub near_cut : (s : Scenario) (hs : List History) (p : List Line) (x : Line) (z : Stand s hs p) (t : Told_ s hs p x) (i : ℕ) (k : CableLine) (d : Deed) (by_ : Stop) (n_ left : ℕ) (step : NearStep) → IsScenario s → slice_get s.cables i ≡ Some k → k.sender ≡ x.manager
    → (node_after s x.manager p t.h).manager.running ≡ Up → done_by x.entry (node_after s x.manager p t.h) ≡ done d (Stopped by_ n_ left) (node_after s x.manager p t.h) → CanCome d (Stopped by_ n_ left) (node_after s x.manager p t.h) → IsOfEnd x.entry.call
    → IsSound (node_after s x.manager p t.h).manager → AllKeep IsSound d.parts (node_after s x.manager p t.h).manager → Single d.parts d.pushed → NearMay step (z.xs k.sender k.channel)
    → Sent (near_at s i k) (node_after s x.manager p t.h) d (z.xs k.sender k.channel).out (near_does step (z.xs k.sender k.channel))
    → EachFirst (SaysNear x.manager x.entry k.channel left (node_after s x.manager p t.h).manager (z.xs k.sender k.channel) step) d.parts
    → ((j : ℕ) (h : CableLine) → slice_get s.cables j ≡ Some h → here k h ≡ false → h.sender ≡ x.manager → AsideNear (near_at s j h) (node_after s x.manager p t.h) d)
    → ((j : ℕ) (h : CableLine) → slice_get s.cables j ≡ Some h → here k h ≡ false → h.receiver ≡ x.manager → AsideFar (far_at s j h) (node_after s x.manager p t.h) d) → Moves s hs p x t.h z
near_cut s hs p x z t i k d by_ n_ left step scenario at_k q up is can of_end before keeps single may sent says near far =
    let m : ℕ = x.manager in
    let n : Node = node_after s m p t.h in
    let b : Plain = n.manager in
    let w : Where = near_at s i k in
    let c : Channel = z.xs k.sender k.channel in
    let y : Past = z.ys k.sender k.channel in
    let f : IsFirst d n_ = first_of d n_ single can.0 in
    let part : Part = f.first in
    let r : LogRecord = f.written in
    let sends : SendsAs w n c = sends_here s hs p x z t i k at_k q up in
    let is0 : done_by x.entry n ≡ done d (Stopped by_ zero left) n = is ∙ ap (λ (j : ℕ). done d (Stopped by_ j left) n) f.is in
    let can0 : CanCome d (Stopped by_ zero left) n = subst (λ (j : ℕ). CanCome d (Stopped by_ j left) n) f.is can in
    let single0 : Single (part ∷ f.rest) d.pushed = subst (λ (ps : List Part). Single ps d.pushed) f.parts single in
    let keeps0 : AllKeep IsSound (part ∷ f.rest) b = subst (λ (ps : List Part). AllKeep IsSound ps b) f.parts keeps in
    let say : SaysNear m x.entry k.channel left b c step part r = (subst (EachFirst (SaysNear m x.entry k.channel left b c step)) f.parts says) r f.forced in
    let data_all : told_sends (near_does step c).sends ≡ told_sends (sender_or (sender_in_parts k.channel d.parts (sender_data k.channel b))) = sent.sends.data_ ∙ ap (λ (o : Option SenderData). told_sends (sender_or o)) (sender_done_all k.channel d.parts b) in
    let cut : IsCut s hs p x z t k d by_ left part r = record { up = up; is = is0; can = can0; rest = f.rest; parts = f.parts; forced = f.forced; before = before; keeps = keeps; near = near; far = far } in
    cut_moves s hs p x z t i k d by_ left part r scenario at_k cut (record {
      facts = (z.lines i k at_k).facts;
      near = λ a. (
        stops_noted w n c d.parts d.pushed step zero left sends may data_all sent.offers single can0.0,
        record { receives = refl; receiver = refl; kept = refl; back = refl },
        λ g h. h,
      );
      far = λ a. absurd ((z.joint.tied k (mem_at s.cables i k at_k)).apart (a ∙ sym q));
      later = λ a. later_self (z.xs k.sender k.channel);
      else = λ a o. refl;
    }) (elim say [
      | inr v ↦ inl v
      | inl v ↦ inr (Near i k at_k q (leaves m (stopped_entry x.entry b) b part r left of_end v.2 keeps0.0 v.1) (record {
        step = step;
        may = may;
        data_ = data_all ∙ ap (λ (ps : List Part). told_sends (sender_or (sender_in_parts k.channel ps (sender_data k.channel b)))) f.parts
            ∙ ap (λ (o : Option SenderData). told_sends (sender_or o)) (sender_parts_quiet k.channel f.rest (sender_by_all k.channel part.changes (sender_data k.channel b)) single0.1);
        out = sym sent.offers ∙ ap (λ (o : Option Frame). offering o c.out) (single0.2 (ap (λ (o : Option LogRecord). is_some o) f.forced));
        kind = v.0;
        quiet = calm_quiet part.delta v.2;
      }))
    ])

-- A RECEIVER'S END: a word, or a commit
abbrev pub SaysWord : (c : List ℕ) (b : Plain) (x : Channel) (step : FarStep) → Part → LogRecord → Type 0
SaysWord c b x step part r = IsWordOf c b part × ((far_does step x).receives.unit ≡ x.receives.unit) × ((t : ReceiverTurn) (u : Luw) → step ≡ FarStep.Turn t → t.outcome ≡ outs.Done → receiver_does t x ≡ takes.Place u → ⊥)

-- no turn of it
abbrev pub NoTurn : FarStep → Type 0
NoTurn step = (t : ReceiverTurn) → step ≡ FarStep.Turn t → ⊥

-- (this was told, and these messages the entry has)
pub record SaysCommit (ds : List ToldDeed) (sender : ℕ) (ms : List Message) (c : List ℕ) (b : Plain) (x : Channel) (step : FarStep) (part : Part) (r : LogRecord) : Type 0 where
  pub turn : ReceiverTurn
  pub is : step ≡ FarStep.Turn turn
  pub commits : IsCommitting c b x turn part r
  pub received : ms ≡ commits.land.taken
  pub agrees : Mem (told_at sender (did.Hardened c (notes.Resolved commits.unit false true))) ds ⊎ ((m : Message) → Mem m (map stamped x.kept) → Comes b m)

abbrev pub SaysFar : (ds : List ToldDeed) (sender : ℕ) (ms : List Message) (c : List ℕ) (b : Plain) (x : Channel) (step : FarStep) → Part → LogRecord → Type 0
SaysFar ds sender ms c b x step part r = SaysWord c b x step part r ⊎ SaysCommit ds sender ms c b x step part r

pub far_cut : (s : Scenario) (hs : List History) (p : List Line) (x : Line) (z : Stand s hs p) (t : Told_ s hs p x) (i : ℕ) (k : CableLine) (d : Deed) (by_ : Stop) (n_ left : ℕ) (step : FarStep) → IsScenario s → slice_get s.cables i ≡ Some k → k.receiver ≡ x.manager
    → (node_after s x.manager p t.h).manager.running ≡ Up → done_by x.entry (node_after s x.manager p t.h) ≡ done d (Stopped by_ n_ left) (node_after s x.manager p t.h) → CanCome d (Stopped by_ n_ left) (node_after s x.manager p t.h) → IsOfEnd x.entry.call → (NoTurn step ⊎ (x.entry.call ≡ calls.Turn))
    → IsSound (node_after s x.manager p t.h).manager → AllKeep IsSound d.parts (node_after s x.manager p t.h).manager → Single d.parts d.pushed → FarMayLater step (z.xs k.sender k.channel)
    → Took (far_at s i k) (node_after s x.manager p t.h) d (z.xs k.sender k.channel).back (far_does step (z.xs k.sender k.channel))
    → ((o : ReceiverTurn) (u : Luw) → step ≡ FarStep.Turn o → o.outcome ≡ outs.Done → receiver_does o (z.xs k.sender k.channel) ≡ takes.Place u → has_received k.channel u (first_delta d.parts) ≡ true)
    → EachFirst (SaysFar (deeds p) k.sender d.received k.channel (node_after s x.manager p t.h).manager (z.xs k.sender k.channel) step) d.parts
    → ((j : ℕ) (h : CableLine) → slice_get s.cables j ≡ Some h → here k h ≡ false → h.sender ≡ x.manager → AsideNear (near_at s j h) (node_after s x.manager p t.h) d)
    → ((j : ℕ) (h : CableLine) → slice_get s.cables j ≡ Some h → here k h ≡ false → h.receiver ≡ x.manager → AsideFar (far_at s j h) (node_after s x.manager p t.h) d) → Moves s hs p x t.h z
far_cut s hs p x z t i k d by_ n_ left step scenario at_k q up is can of_end by_turn before keeps single may took told says near far =
    let m : ℕ = x.manager in
    let n : Node = node_after s m p t.h in
    let b : Plain = n.manager in
    let w : Where = far_at s i k in
    let c : Channel = z.xs k.sender k.channel in
    let f : IsFirst d n_ = first_of d n_ single can.0 in
    let part : Part = f.first in
    let r : LogRecord = f.written in
    let takes_ : TakesAs w n c = takes_here s hs p x z t i k at_k q up in
    let is0 : done_by x.entry n ≡ done d (Stopped by_ zero left) n = is ∙ ap (λ (j : ℕ). done d (Stopped by_ j left) n) f.is in
    let can0 : CanCome d (Stopped by_ zero left) n = subst (λ (j : ℕ). CanCome d (Stopped by_ j left) n) f.is can in
    let single0 : Single (part ∷ f.rest) d.pushed = subst (λ (ps : List Part). Single ps d.pushed) f.parts single in
    let keeps0 : AllKeep IsSound (part ∷ f.rest) b = subst (λ (ps : List Part). AllKeep IsSound ps b) f.parts keeps in
    let data_all : told_receives (far_does step c).receives ≡ told_receives (receiver_or (receiver_in_parts k.channel d.parts (receiver_data k.channel b))) = took.takes.data_ ∙ ap (λ (o : Option ReceiverData). told_receives (receiver_or o)) (receiver_done_all k.channel d.parts b) in
    let cut : IsCut s hs p x z t k d by_ left part r = record { up = up; is = is0; can = can0; rest = f.rest; parts = f.parts; forced = f.forced; before = before; keeps = keeps; near = near; far = far } in
    cut_moves s hs p x z t i k d by_ left part r scenario at_k cut (record {
      facts = (z.lines i k at_k).facts;
      near = λ a. absurd ((z.joint.tied k (mem_at s.cables i k at_k)).apart (q ∙ sym a));
      far = λ a. (
        far_stops_noted w n c d.parts d.pushed step zero left takes_ may data_all took.offers single can0.0 told,
        record { sends = refl; sender = refl; batch = refl; out = refl },
        λ g h. h,
      );
      later = λ a. later_self (z.xs k.sender k.channel);
      else = λ a o. refl;
    }) (inr (elim (subst (EachFirst (SaysFar (deeds p) k.sender d.received k.channel b c step)) f.parts says r f.forced) [
      | inr v ↦
          let o = v.commits in
          let note : Noted = noted_of part r in
          let stays_ : Stays_ b part = subst (Stays_ b) (sym o.part_) (commit_lasts k.channel o.unit o.last (map stamped c.kept) o.land b o.lands before) in
          Commits i k at_k q (record {
            was = b;
            turn = v.turn;
            part = part;
            force = r;
            commits = o;
            is = refl;
            may = subst (λ (w : FarStep). FarMayLater w c) v.is may;
            data_ = subst (λ (w : FarStep). told_receives (far_does w c).receives ≡ told_receives (receiver_or (receiver_by_all k.channel part.changes (receiver_data k.channel b)))) v.is
                (data_all ∙ ap (λ (ps : List Part). told_receives (receiver_or (receiver_in_parts k.channel ps (receiver_data k.channel b)))) f.parts
                ∙ ap (λ (o : Option ReceiverData). told_receives (receiver_or o)) (receiver_parts_quiet k.channel f.rest (receiver_by_all k.channel part.changes (receiver_data k.channel b)) single0.1));
            back = subst (λ (w : FarStep). (far_does w c).back ≡ c.back) v.is (sym took.offers ∙ ap (λ (o : Option Frame). offering o c.back) (single0.2 (ap (λ (o : Option LogRecord). is_some o) f.forced)));
            left = refl;
            whole = before;
            call = elim by_turn [ inl w ↦ absurd (w v.turn v.is) | inr w ↦ w ];
            received = t.tells.received ∙ ap (λ (o : Done). o.received) is0 ∙ v.received;
            moment = refl;
            sound = sound_of b part r left keeps0.0 stays_;
            one = one_left b part r left keeps0.0;
            agrees = v.agrees;
          })
      | inl v ↦
          let word = v.0.0 in
          let is_word = v.0.1 in
          let same : part ≡ harden_part k.channel word b = v.0.2 in
          let calm : all_calm part.delta ≡ true = subst (λ (o : Part). all_calm o.delta ≡ true) (sym same) (hardened_calm k.channel word b) in
          Far i k at_k q (leaves m (stopped_entry x.entry b) b part r left of_end calm keeps0.0 (subst (Stays_ b) (sym same) (word_lasts k.channel word b is_word))) (record {
            step = step;
            may = may;
            data_ = data_all ∙ ap (λ (ps : List Part). told_receives (receiver_or (receiver_in_parts k.channel ps (receiver_data k.channel b)))) f.parts
                ∙ ap (λ (o : Option ReceiverData). told_receives (receiver_or o)) (receiver_parts_quiet k.channel f.rest (receiver_by_all k.channel part.changes (receiver_data k.channel b)) single0.1);
            back = sym took.offers ∙ ap (λ (o : Option Frame). offering o c.back) (single0.2 (ap (λ (o : Option LogRecord). is_some o) f.forced));
            unit = v.1;
            calm = v.2;
            word = word;
            is = is_word;
            says = ap (λ (o : Part). o.changes) same ∙ word_frozen k.channel word (Some (noted_of part r)) left b;
            quiet = calm_quiet part.delta calm;
          })
    ]))
