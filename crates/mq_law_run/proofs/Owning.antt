-- What is a manager's own, as a move of the network.
use Rattle.std.proofs.Common.{ℕ, ◌≡◌, false, List, [], ◌∷◌, ◌++◌, refl, ap, sym, subst, ◌∙◌}
use Rattle.std.specs.Prelude.{Option, Some, None, ◌==◌, slice_get}
use Rattle.std.specs.Option.{option_map}
use Rattle.mq_frame.specs.declared.frame.Frame.{Frame}
use Rattle.mq_frame.specs.declared.frame.Seen.{Seen}
use Rattle.mq_calls.specs.declared.choices.Choice.{Choice}
use Rattle.mq_calls.specs.declared.choices.Choice.TheVariants.{Runs, NoMemory, Stopped}
use Rattle.mq_history.specs.declared.calls.Actor.{Actor}
use Rattle.mq_history.specs.declared.calls.Call.{Call}
use Rattle.mq_history.specs.declared.calls.Chance.{Chance}
use Rattle.mq_history.specs.declared.calls.Entry.{Entry}
use Rattle.mq_history.specs.declared.history.History.{History}
use Rattle.mq_history.specs.declared.scenario.Scenario.{Scenario}
use Rattle.mq_calls.specs.State.{Plain}
use Rattle.mq_spec_node.specs.Node.{Node}
use Rattle.mq_spec_node.specs.Deeds.{Deed, Done, done}
use Rattle.mq_spec_node.specs.Happens.{IsEvent, event}
use Rattle.mq_spec_node.specs.Replays.{IsOwn, done_by}
use Rattle.mq_spec_network.specs.Ledger.{Ledger, ledger, posted}
use Rattle.mq_spec_network.specs.Conflict.{deeds, deeds_in}
use Rattle.mq_spec_network.specs.Order.{unit_received}
use Rattle.mq_spec_network.specs.Standing.{managers_at, node_after, opening_ledger, opening_managers}
use Rattle.mq_spec_network.specs.Story.{Line}
use Rattle.mq_law_channel.specs.Channel.{Channel}
use Rattle.mq_law_node.specs.Nodes.{FarNode, NearNode}
use Rattle.mq_law_seen.specs.Seen.{book_of, world_of}
use Rattle.mq_law_events.specs.Tied.{IsElse, IsNext, IsTold}
use Rattle.mq_law_one.proofs.from_law_story.Weaving.{ledger_step, manager_at, other_manager, this_manager}
use Rattle.mq_law_stopped.specs.from_law_turns.Agreed.{IsToldOf}
use Rattle.mq_law_stopped.proofs.from_law_turns.Agreeing.{grows}
use Rattle.mq_law_cables.specs.Joints.{AreJoint}
use Rattle.mq_law_deeds.specs.Numbers.{AreCountedAt, IsNext as IsNextNumber}
use Rattle.mq_law_stopped.specs.Noted.{EndNote}
use Rattle.mq_law_one.specs.Alone.{Became, IsAt, IsOwnCall}
use Rattle.mq_law_one.proofs.Deltas.{own_quiet}
use Rattle.mq_law_one.proofs.Happening.{entry_of}
use Rattle.mq_law_one.proofs.Ordinary.{ordinary_happens}
use Rattle.mq_law_one.proofs.Running.{Told_}
use Rattle.mq_history.specs.declared.story.ManagerPlaces.{ManagerPlaces}
use Rattle.mq_law_rows.proofs.Lists.{bool_case, eqb_yes}
use Rattle.mq_law_run.specs.Ordered.{forced_over}
use Rattle.mq_law_run.specs.Run.{Housed, Moves, Stand, far_at, near_at}
use Rattle.mq_law_run.proofs.Later.{later_self}
use Rattle.mq_law_run.proofs.Listing.{quiet_order}
use Rattle.mq_law_run.proofs.Cabled.{same_batches}
use Rattle.mq_law_run.proofs.Halves.{deed_quiet, far_own, near_own, own_elim}
use Rattle.mq_law_run.proofs.Numbering.{IsRaised, own_raised}
use Rattle.mq_law_run.proofs.Telling.{counted_on, deeds_more, none_committed, risen_still, still_not, told_before}
use Rattle.mq_law_run.proofs.Tying.{KeepsForced, forced_kept, leads_on}

-- it offers nothing
done_silent : (choice : Choice) (d : Deed) (n : Node) → d.pushed ≡ None → (done d choice n).pushed ≡ None
done_silent Runs d n e = e
done_silent NoMemory d n e = refl
done_silent (Stopped by_ k left) d n e = refl

own_silent : (stamp : ℕ) (actor : Actor) (call : Call) (chance : Chance) (seen : Seen) (n : Node) → IsOwnCall actor call → IsEvent stamp actor call chance seen n → IsOwn chance → (event stamp actor call chance seen n).pushed ≡ None
own_silent stamp actor call chance seen n is e own = own_elim (λ (d : Done). d.pushed ≡ None) stamp actor call chance seen n is e own
    (λ o choice d f g can. done_silent choice d n (deed_quiet stamp actor call seen n d o f).pushed) (λ k f g. refl) (λ by f g. refl)

none_frame : (o : Option Frame) (f : Frame) → o ≡ None → o ≡ Some f → ⊥
none_frame o f e g = some_none (sym e ∙ g)
  where
    some_none : None ≡ Some f → ⊥
    some_none z = cc

-- places are where they were
pub housed_else : (m : ℕ) (l k : Ledger) (here : ManagerPlaces) → slice_get l.places m ≡ Some here → IsElse m l k → Housed l k
housed_else m l k here at other a y e = bool_case (a == m) (λ t. (a == m) ≡ t → (w : ManagerPlaces) × (slice_get l.places a ≡ Some w))
    (λ z f. (here, ap (slice_get l.places) (eqb_yes a m f) ∙ at))
    (λ z f. (y, sym (other.places a f) ∙ e)) refl

-- the other managers, as they were told
pub others_told : (m a : ℕ) (r : Plain) (l k : Ledger) → (a == m) ≡ false → IsElse m l k → IsTold a r l → IsTold a r k
others_told m a r l k ne other t = record { places = t.places; placed = other.places a ne ∙ t.placed; shelved = t.shelved; name = t.name; definitions = t.definitions; users = t.users; used = other.users a ne ∙ t.used; connections = t.connections }

-- the managers before and behind an entry
pub next_managers : (s : Scenario) (hs : List History) (p : List Line) (x : Line) (t : Told_ s hs p x) → IsNext x.manager (node_after s x.manager p t.h).manager (done_by x.entry (node_after s x.manager p t.h)).next.manager (managers_at s p hs) (managers_at s (p ++ x ∷ []) hs)
next_managers s hs p x t = record {
  at = manager_at s p hs x.manager ∙ ap (option_map (λ (h : History). (node_after s x.manager p h).manager)) t.is;
  to = this_manager s p x hs t.h t.is;
  others = λ c ne. other_manager s p x hs c ne;
}

pub own_moves : (s : Scenario) (hs : List History) (p : List Line) (x : Line) (z : Stand s hs p) (t : Told_ s hs p x) → IsOwnCall x.entry.actor x.entry.call → Moves s hs p x t.h z
own_moves s hs p x z t is =
    let m : ℕ = x.manager in
    let e : Entry = x.entry in
    let n : Node = node_after s m p t.h in
    let l : Ledger = ledger (opening_ledger s hs) p in
    let next : Node = (done_by e n).next in
    let k : Ledger = posted m e e.reply l in
    let whole : k ≡ ledger (opening_ledger s hs) (p ++ x ∷ []) = sym (ledger_step (opening_ledger s hs) p x) in
    let a = z.at m t.h t.is in
    let b : Became (EndNote s (deeds p) z.xs m) m z.given n l next k = subst (λ y. Became (EndNote s (deeds p) z.xs m) m z.given n l next y) (λ i. posted m (entry_of e e.call e.chance (sym t.tells.reply i) (sym t.tells.delta i) (sym t.tells.received i)) (sym t.tells.reply i) l)
    (ordinary_happens m z.given n l e e.stamp e.actor e.call e.chance e.effect.popped a is t.tells.event t.own) in
    let j = leads_on s z.given b.now m n.manager next.manager (managers_at s p hs) (managers_at s (p ++ x ∷ []) hs) l k z.ghost s.cables z.xs z.ys (next_managers s hs p x t) a.told b.leads b.same b.at.told b.other z.joint in
    let quiet : unit_received e.effect.delta ≡ None = ap unit_received t.tells.delta ∙ own_quiet n e.stamp e.actor e.call e.chance e.effect.popped is t.tells.event t.own in
    let silent : e.effect.pushed ≡ None = t.tells.pushed ∙ own_silent e.stamp e.actor e.call e.chance e.effect.popped n is t.tells.event t.own in
    let r : IsRaised e.call e.chance (done_by e n) n.manager.numbers.connections = own_raised e.stamp e.actor e.call e.chance e.effect.popped n is t.tells.event t.own in
    record {
      given = b.now;
      ghost = j.0.ghost;
      xs = z.xs;
      ys = z.ys;
      joint = subst (λ (y : Ledger). AreJoint (world_of s b.now (managers_at s (p ++ x ∷ []) hs)) j.0.ghost (book_of y) s.cables z.xs z.ys) whole j.0.joint;
      moved = λ i c f.
          let y = z.lines i c f in
          let ch : Channel = z.xs c.sender c.channel in
          record {
            facts = y.facts;
            near = λ q. (
              near_own (near_at s i c) e.stamp e.actor e.call e.chance e.effect.popped n ch (z.ys c.sender c.channel) is t.tells.event t.own
                  (subst (λ (w : ℕ). NearNode (near_at s i c) (node_after s w p t.h) ch) q (y.near t.h (ap (slice_get hs) q ∙ t.is))) y.facts a.state,
              record { receives = refl; receiver = refl; kept = refl; back = refl },
              (λ g w. w),
            );
            far = λ q. (
              far_own (far_at s i c) e.stamp e.actor e.call e.chance e.effect.popped n ch (z.ys c.sender c.channel) is t.tells.event t.own
                  (subst (λ (w : ℕ). FarNode (far_at s i c) (node_after s w p t.h) ch) q (y.far t.h (ap (slice_get hs) q ∙ t.is))) y.facts,
              record { sends = refl; sender = refl; batch = refl; out = refl },
              (λ g w. w),
            );
            later = λ q. later_self ch;
            else = λ q w. refl;
          };
      out = λ i c f at q actor pushed. absurd (none_frame e.effect.pushed f silent pushed);
      back = λ i c f at q actor pushed. absurd (none_frame e.effect.pushed f silent pushed);
      told = λ c n_. subst (λ ds. IsToldOf s (opening_managers s hs) ds c.sender c.channel (z.xs c.sender c.channel) (z.ys c.sender c.channel)) (sym (deeds_more p x))
          (grows s (opening_managers s hs) (deeds p) (deeds_in m e.effect.delta) c.sender c.channel (z.xs c.sender c.channel) (z.ys c.sender c.channel) (z.told c n_));
      resolved = λ a_ c u f. told_before p x _ (z.resolved a_ c u ((λ i. sym j.1 i a_ c u) ∙ f));
      not_yet = λ a_ c u f. still_not s (opening_managers s hs) p x c u (none_committed c u m e.effect.delta quiet) (z.not_yet a_ c u ((λ i. sym j.1 i a_ c u) ∙ f));
      risen = λ k w. risen_still s (opening_managers s hs) p x k.channel (z.xs k.sender k.channel).receives.unit (z.xs k.sender k.channel).receives.unit quiet refl (z.risen k w);
      owned = λ a_ c u f. z.owned a_ c u ((λ i. sym j.1 i a_ c u) ∙ f);
      loose = λ a_ c u f. (λ i. sym j.2 i a_ c u) ∙ f;
      at = subst (λ (y : Ledger). IsAt (EndNote s (deeds p) z.xs m) m b.now next y) whole b.at;
      known = b.known;
      others = λ c r_ ne o. subst (IsTold c r_) whole (others_told m c r_ l k ne b.other o);
      users = λ c ne. ap (λ (y : Ledger). slice_get y.users c) (sym whole) ∙ b.other.users c ne;
      counted = subst (AreCountedAt next.manager.numbers.connections m) whole
          (counted_on n.manager.numbers.connections next.manager.numbers.connections m e r.choice l r.is (subst (λ w. IsNextNumber e.call w n.manager.numbers.connections next.manager.numbers.connections) (sym t.tells.reply) r.next) r.rises (z.counted m t.h t.is));
      cabled = same_batches s.cables m n.manager next.manager b.same.batches (z.cabled m t.h t.is);
      housed = subst (Housed l) whole (housed_else m l k a.told.places a.told.placed b.other);
      listed = forced_kept z.ghost j.0.ghost e.effect.delta (book_of l).rows (book_of (ledger (opening_ledger s hs) (p ++ x ∷ []))).rows
          (subst (λ (y : Ledger). KeepsForced z.ghost j.0.ghost (book_of l).rows (book_of y).rows) whole j.3);
      order = quiet_order (forced_over [] p) x l (ledger (opening_ledger s hs) (p ++ x ∷ [])) quiet;
    }
