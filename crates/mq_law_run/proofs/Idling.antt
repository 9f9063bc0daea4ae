-- What changes nothing, as a move of the network.
use Rattle.std.proofs.Common.{ℕ, ◌≡◌, List, [], ◌∷◌, ◌++◌, refl, ap, sym, subst, ◌∙◌}
use Rattle.std.specs.Prelude.{Some, None, slice_get}
use Rattle.mq_frame.specs.declared.frame.Frame.{Frame}
use Rattle.mq_history.specs.declared.history.History.{History}
use Rattle.mq_history.specs.declared.scenario.Scenario.{Scenario}
use Rattle.mq_calls.specs.State.{Plain}
use Rattle.mq_spec_node.specs.Node.{Node}
use Rattle.mq_spec_node.specs.Deeds.{Done}
use Rattle.mq_spec_node.specs.Replays.{IsOwn, Tells, done_by}
use Rattle.mq_spec_network.specs.Conflict.{deeds, deeds_in}
use Rattle.mq_spec_network.specs.Ledger.{Ledger, ledger}
use Rattle.mq_spec_network.specs.Order.{unit_received}
use Rattle.mq_spec_network.specs.Standing.{managers_at, node_after, opening_ledger, opening_managers}
use Rattle.mq_spec_network.specs.Story.{Line}
use Rattle.mq_law_channel.specs.Channel.{Channel}
use Rattle.mq_law_node.specs.Nodes.{FarNode, NearNode}
use Rattle.mq_law_rows.specs.World.{World}
use Rattle.mq_law_seen.specs.Seen.{book_of, world_of}
use Rattle.mq_law_events.specs.Tied.{IsNext}
use Rattle.mq_law_stopped.proofs.from_law_batches.Wording.{stays}
use Rattle.mq_law_stopped.specs.from_law_turns.Agreed.{IsToldOf}
use Rattle.mq_law_stopped.proofs.from_law_turns.Agreeing.{grows}
use Rattle.mq_law_stopped.proofs.from_law_turns.Parts.{stays_none}
use Rattle.mq_law_cables.specs.Joints.{AreCabled, AreJoint}
use Rattle.mq_law_deeds.specs.Numbers.{AreCountedAt}
use Rattle.mq_law_stopped.specs.Noted.{EndNote}
use Rattle.mq_law_one.specs.Alone.{IsAt}
use Rattle.mq_law_one.proofs.Running.{Told_}
use Rattle.mq_law_run.specs.Run.{Moves, Stand, far_at, near_at}
use Rattle.mq_law_run.proofs.Owning.{next_managers}
use Rattle.mq_law_run.proofs.Running.{far_here, move_to, near_here}
use Rattle.mq_law_run.proofs.Telling.{deeds_more, none_committed, risen_still, still_not, told_before}
use Rattle.mq_law_run.specs.Ordered.{forced_over}
use Rattle.mq_law_run.proofs.Later.{later_self}
use Rattle.mq_law_run.proofs.Listing.{forced_still, quiet_order}

pub idle_moves : (s : Scenario) (hs : List History) (p : List Line) (x : Line) (h : History) (stamp : ℕ) (z : Stand s hs p) → slice_get hs x.manager ≡ Some h → Tells (node_after s x.manager p h) stamp x.entry → IsOwn x.entry.chance
    → (done_by x.entry (node_after s x.manager p h)).next ≡ node_after s x.manager p h → (done_by x.entry (node_after s x.manager p h)).delta ≡ [] → (done_by x.entry (node_after s x.manager p h)).pushed ≡ None
    → ledger (opening_ledger s hs) (p ++ x ∷ []) ≡ ledger (opening_ledger s hs) p → Moves s hs p x h z
idle_moves s hs p x h stamp z is tells own same none quiet whole =
    let t : Told_ s hs p x = record { h = h; is = is; stamp = stamp; tells = tells; own = own } in
    let m : ℕ = x.manager in
    let n : Node = node_after s m p h in
    let l : Ledger = ledger (opening_ledger s hs) p in
    let d : Done = done_by x.entry n in
    let ps : List Plain = managers_at s p hs in
    let qs : List Plain = managers_at s (p ++ x ∷ []) hs in
    let next : IsNext m n.manager n.manager ps qs = subst (λ (w : Node). IsNext m n.manager w.manager ps qs) same (next_managers s hs p x t) in
    let world : world_of s z.given qs ≡ world_of s z.given ps = stays s z.given m n.manager n.manager ps qs next (stays_none n.manager) in
    let delta : x.entry.effect.delta ≡ [] = tells.delta ∙ none in
    let pushed : x.entry.effect.pushed ≡ None = tells.pushed ∙ quiet in
    let received : unit_received x.entry.effect.delta ≡ None = ap unit_received delta in
    move_to s hs p x h z d l refl whole (record {
      given = z.given;
      ghost = z.ghost;
      xs = z.xs;
      ys = z.ys;
      joint = subst (λ (w : World). AreJoint w z.ghost (book_of l) s.cables z.xs z.ys) (sym world) z.joint;
      moved = λ i k e.
          let c : Channel = z.xs k.sender k.channel in
          record {
            facts = (z.lines i k e).facts;
            near = λ q. (subst (λ (w : Node). NearNode (near_at s i k) w c) (sym same) (near_here s hs p x z t i k e q), record { receives = refl; receiver = refl; kept = refl; back = refl }, (λ g w. w));
            far = λ q. (subst (λ (w : Node). FarNode (far_at s i k) w c) (sym same) (far_here s hs p x z t i k e q), record { sends = refl; sender = refl; batch = refl; out = refl }, (λ g w. w));
            later = λ q. later_self c;
            else = λ q w. refl;
          };
      out = λ i k f e q actor push. absurd (no_frame f (sym pushed ∙ push));
      back = λ i k f e q actor push. absurd (no_frame f (sym pushed ∙ push));
      told = λ k w. subst (λ ds. IsToldOf s (opening_managers s hs) ds k.sender k.channel (z.xs k.sender k.channel) (z.ys k.sender k.channel)) (sym (deeds_more p x))
          (grows s (opening_managers s hs) (deeds p) (deeds_in m x.entry.effect.delta) k.sender k.channel (z.xs k.sender k.channel) (z.ys k.sender k.channel) (z.told k w));
      resolved = λ a c u f. told_before p x _ (z.resolved a c u f);
      not_yet = λ a c u f. still_not s (opening_managers s hs) p x c u (none_committed c u m x.entry.effect.delta received) (z.not_yet a c u f);
      risen = λ k w. risen_still s (opening_managers s hs) p x k.channel (z.xs k.sender k.channel).receives.unit (z.xs k.sender k.channel).receives.unit received refl (z.risen k w);
      owned = z.owned;
      loose = λ a c u f. f;
      at = subst (λ (w : Node). IsAt (EndNote s (deeds p) z.xs m) m z.given w l) (sym same) (z.at m h is);
      known = λ i f. refl;
      others = λ a r ne o. o;
      users = λ a ne. refl;
      counted = subst (λ (w : Node). AreCountedAt w.manager.numbers.connections m l) (sym same) (z.counted m h is);
      cabled = subst (λ (w : Node). AreCabled s.cables m w.manager) (sym same) (z.cabled m h is);
      housed = λ a w f. (w, f);
      listed = forced_still z.ghost z.ghost x.entry.effect.delta (book_of l).rows (book_of l).rows (λ a c u f. (f, refl)) (λ i r. r);
      order = quiet_order (forced_over [] p) x l l received;
    })
  where
    no_frame : (f : Frame) → None ≡ Some f → ⊥
    no_frame f e = cc
