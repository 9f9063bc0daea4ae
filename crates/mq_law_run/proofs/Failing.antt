-- A restart that fails, as a move of the network: the manager stays down, with what was noted.
use Rattle.std.proofs.Common.{ℕ, ◌≡◌, List, [], ◌∷◌, ◌++◌, refl, ap, sym, subst, ◌∙◌}
use Rattle.std.specs.Prelude.{Option, Some, None, slice_get}
use Rattle.mq_frame.specs.declared.frame.Frame.{Frame}
use Rattle.mq_history.specs.declared.history.History.{History}
use Rattle.mq_history.specs.declared.scenario.Scenario.{Scenario}
use Rattle.mq_calls.specs.State.{LogState, Noted, Plain, Running}
use Rattle.mq_calls.specs.State.Running.{Down}
use Rattle.mq_calls.specs.Reads.{is_up}
use Rattle.mq_spec_node.specs.Node.{Node}
use Rattle.mq_spec_node.specs.Replays.{IsOwn, Tells, done_by}
use Rattle.mq_spec_network.specs.Conflict.{deeds, deeds_in}
use Rattle.mq_spec_network.specs.Ledger.{Ledger, ledger}
use Rattle.mq_spec_network.specs.Order.{unit_received}
use Rattle.mq_spec_network.specs.Standing.{managers_at, node_after, opening_ledger, opening_managers}
use Rattle.mq_spec_network.specs.Story.{Line}
use Rattle.mq_law_channel.specs.Channel.{Channel}
use Rattle.mq_law_node.specs.Ends.{Where}
use Rattle.mq_law_node.specs.Nodes.{EachNoted, EachNotedFar, FarAt, FarNode, NearAt, NearNode}
use Rattle.mq_law_events.specs.Tied.{IsNext}
use Rattle.mq_law_stopped.specs.from_law_turns.Agreed.{IsToldOf}
use Rattle.mq_law_stopped.proofs.from_law_turns.Agreeing.{grows}
use Rattle.mq_law_cables.specs.Joints.{AreCabled}
use Rattle.mq_law_deeds.specs.Numbers.{AreCountedAt}
use Rattle.mq_spec_network.specs.Ledger as ledgers
use Rattle.mq_law_stopped.specs.Noted.{EndNote}
use Rattle.mq_law_one.specs.Alone.{Became, IsAt, IsNotedAt}
use Rattle.mq_law_one.proofs.Acting.{aside_happens}
use Rattle.mq_law_one.proofs.Running.{Told_}
use Rattle.mq_law_run.specs.Run.{Moves, Stand, failed_node, far_at, near_at}
use Rattle.mq_law_run.proofs.Cabled.{same_batches}
use Rattle.mq_law_run.proofs.Owning.{next_managers}
use Rattle.mq_law_run.proofs.Running.{far_here, move_to, near_here}
use Rattle.mq_law_run.proofs.Telling.{deeds_more, none_committed, risen_still, still_not, told_before}
use Rattle.mq_law_run.proofs.Tying.{leads_on, forced_kept}
use Rattle.mq_law_run.specs.Ordered.{forced_over}
use Rattle.mq_law_run.proofs.Later.{later_self}
use Rattle.mq_law_run.proofs.Listing.{quiet_order}
use Rattle.mq_law_seen.specs.Seen.{book_of}

more_noted : (E : ledgers.Stopped → Noted → Plain → Type 0) (m : ℕ) (noted : Option Noted) (starts more : ℕ) (p : Plain) (l : Ledger) → IsNotedAt E m (Down noted starts) p l → IsNotedAt E m (Down noted more) p l
more_noted E m None starts more p l h = tt
more_noted E m (Some n) starts more p l h = h

near_noted : (w : Where) (noted : Option Noted) (more : ℕ) (g : LogState) (n : Node) (c : Channel) → EachNoted w n.manager noted c → EachNoted w (failed_node noted more g n).manager noted c
near_noted w None more g n c h = tt
near_noted w (Some note) more g n c h = record { step = h.step; may = h.may; data_ = h.data_; out = h.out }

far_noted : (w : Where) (noted : Option Noted) (more : ℕ) (g : LogState) (n : Node) (c : Channel) → EachNotedFar w n.manager noted c → EachNotedFar w (failed_node noted more g n).manager noted c
far_noted w None more g n c h = tt
far_noted w (Some note) more g n c h = record { step = h.step; may = h.may; data_ = h.data_; back = h.back; told = h.told }

near_fails : (w : Where) (noted : Option Noted) (starts more : ℕ) (g : LogState) (n : Node) (c : Channel) → n.manager.running ≡ Down noted starts → NearNode w n c → NearNode w (failed_node noted more g n) c
near_fails w noted starts more g n c down b =
    let d : NearAt w n c (Down noted starts) = subst (NearAt w n c) down b in
    record { here = d.here; data_ = d.data_; noted = near_noted w noted more g n c d.noted }

far_fails : (w : Where) (noted : Option Noted) (starts more : ℕ) (g : LogState) (n : Node) (c : Channel) → n.manager.running ≡ Down noted starts → FarNode w n c → FarNode w (failed_node noted more g n) c
far_fails w noted starts more g n c down b =
    let d : FarAt w n c (Down noted starts) = subst (FarAt w n c) down b in
    record { here = d.here; data_ = d.data_; noted = far_noted w noted more g n c d.noted }

pub failing_moves : (s : Scenario) (hs : List History) (p : List Line) (x : Line) (h : History) (stamp : ℕ) (z : Stand s hs p) (noted : Option Noted) (starts more : ℕ) (g : LogState) → slice_get hs x.manager ≡ Some h → Tells (node_after s x.manager p h) stamp x.entry
    → IsOwn x.entry.chance → (node_after s x.manager p h).manager.running ≡ Down noted starts → (done_by x.entry (node_after s x.manager p h)).next ≡ failed_node noted more g (node_after s x.manager p h)
    → (done_by x.entry (node_after s x.manager p h)).delta ≡ [] → (done_by x.entry (node_after s x.manager p h)).pushed ≡ None → ledger (opening_ledger s hs) (p ++ x ∷ []) ≡ ledger (opening_ledger s hs) p → Moves s hs p x h z
failing_moves s hs p x h stamp z noted starts more g is tells own down same none quiet whole =
    let t : Told_ s hs p x = record { h = h; is = is; stamp = stamp; tells = tells; own = own } in
    let m : ℕ = x.manager in
    let n : Node = node_after s m p h in
    let l : Ledger = ledger (opening_ledger s hs) p in
    let next : Node = failed_node noted more g n in
    let ps : List Plain = managers_at s p hs in
    let qs : List Plain = managers_at s (p ++ x ∷ []) hs in
    let a : IsAt (EndNote s (deeds p) z.xs m) m z.given n l = z.at m h is in
    let b : Became (EndNote s (deeds p) z.xs m) m z.given n l next l = aside_happens m z.given n l n.own (Down noted more) g a (ap is_up down) (more_noted (EndNote s (deeds p) z.xs m) m noted starts more n.manager l (subst (λ (r : Running). IsNotedAt (EndNote s (deeds p) z.xs m) m r n.manager l) down a.noted)) in
    let on : IsNext m n.manager next.manager ps qs = subst (λ (w : Node). IsNext m n.manager w.manager ps qs) same (next_managers s hs p x t) in
    let j = leads_on s z.given b.now m n.manager next.manager ps qs l l z.ghost s.cables z.xs z.ys on a.told b.leads b.same b.at.told b.other z.joint in
    let delta : x.entry.effect.delta ≡ [] = tells.delta ∙ none in
    let pushed : x.entry.effect.pushed ≡ None = tells.pushed ∙ quiet in
    let received : unit_received x.entry.effect.delta ≡ None = ap unit_received delta in
    move_to s hs p x h z (done_by x.entry n) l refl whole (record {
      given = b.now;
      ghost = j.0.ghost;
      xs = z.xs;
      ys = z.ys;
      joint = j.0.joint;
      moved = λ i k e.
          let c : Channel = z.xs k.sender k.channel in
          record {
            facts = (z.lines i k e).facts;
            near = λ q. (
              subst (λ (w : Node). NearNode (near_at s i k) w c) (sym same) (near_fails (near_at s i k) noted starts more g n c down (near_here s hs p x z t i k e q)),
              record { receives = refl; receiver = refl; kept = refl; back = refl },
              (λ f w. w),
            );
            far = λ q. (
              subst (λ (w : Node). FarNode (far_at s i k) w c) (sym same) (far_fails (far_at s i k) noted starts more g n c down (far_here s hs p x z t i k e q)),
              record { sends = refl; sender = refl; batch = refl; out = refl },
              (λ f w. w),
            );
            later = λ q. later_self c;
            else = λ q w. refl;
          };
      out = λ i k f e q actor push. absurd (no_frame f (sym pushed ∙ push));
      back = λ i k f e q actor push. absurd (no_frame f (sym pushed ∙ push));
      told = λ k w. subst (λ ds. IsToldOf s (opening_managers s hs) ds k.sender k.channel (z.xs k.sender k.channel) (z.ys k.sender k.channel)) (sym (deeds_more p x))
          (grows s (opening_managers s hs) (deeds p) (deeds_in m x.entry.effect.delta) k.sender k.channel (z.xs k.sender k.channel) (z.ys k.sender k.channel) (z.told k w));
      resolved = λ a_ c u f. told_before p x _ (z.resolved a_ c u ((λ i. sym j.1 i a_ c u) ∙ f));
      not_yet = λ a_ c u f. still_not s (opening_managers s hs) p x c u (none_committed c u m x.entry.effect.delta received) (z.not_yet a_ c u ((λ i. sym j.1 i a_ c u) ∙ f));
      risen = λ k w. risen_still s (opening_managers s hs) p x k.channel (z.xs k.sender k.channel).receives.unit (z.xs k.sender k.channel).receives.unit received refl (z.risen k w);
      owned = λ a_ c u f. z.owned a_ c u ((λ i. sym j.1 i a_ c u) ∙ f);
      loose = λ a_ c u f. (λ i. sym j.2 i a_ c u) ∙ f;
      at = subst (λ (w : Node). IsAt (EndNote s (deeds p) z.xs m) m b.now w l) (sym same) b.at;
      known = b.known;
      others = λ c r ne o. o;
      users = λ c ne. refl;
      counted = subst (λ (w : Node). AreCountedAt w.manager.numbers.connections m l) (sym same) (z.counted m h is);
      cabled = subst (λ (w : Node). AreCabled s.cables m w.manager) (sym same) (same_batches s.cables m n.manager next.manager refl (z.cabled m h is));
      housed = λ c w f. (w, f);
      listed = forced_kept z.ghost j.0.ghost x.entry.effect.delta (book_of l).rows (book_of l).rows j.3;
      order = quiet_order (forced_over [] p) x l l received;
    })
  where
    no_frame : (f : Frame) → None ≡ Some f → ⊥
    no_frame f e = cc
