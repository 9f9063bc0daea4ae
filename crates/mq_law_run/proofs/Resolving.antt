-- RESOLVE, as a move of the network.
use Rattle.std.proofs.Common.{ℕ, ◌≡◌, ◌≢◌, ◌≤◌, Bool, true, false, List, [], ◌∷◌, ◌++◌, refl, ap, sym, subst, ◌∙◌, inl, arith}
use Rattle.std.proofs.lemmas.List.{append-nil}
use Rattle.std.specs.Prelude.{Option, Some, None, ◌==◌, ◌&&◌, not, if◌then◌else◌, map, slice_get}
use Rattle.std.proofs.lemmas.Bool.Decides.{nat_tests}
use Rattle.mq_message.specs.declared.place.Holder.TheVariants as holders
use Rattle.mq_queue.specs.declared.row.Row.{Row}
use Rattle.mq_sync.specs.declared.unit.Unit.{Unit as Luw}
use Rattle.mq_sync.specs.declared.unit.Settle.TheVariants as settles
use Rattle.mq_sync.specs.declared.data.InDoubt.{InDoubt}
use Rattle.mq_sync.specs.Units.{Upto, no_unit, same_unit}
use Rattle.mq_sender.specs.declared.state.Kept.{Kept}
use Rattle.mq_sender.specs.States as senders
use Rattle.mq_calls.specs.declared.agents.Note.TheVariants as notes
use Rattle.mq_calls.specs.declared.choices.Choice.TheVariants.{Runs}
use Rattle.mq_calls.specs.declared.deltas.Did.{Did}
use Rattle.mq_calls.specs.declared.deltas.Did.TheVariants as did
use Rattle.mq_calls.specs.declared.records.Remove.{Remove}
use Rattle.mq_sc_parse.specs.declared.command.Command.TheVariants as lines
use Rattle.mq_sc_parse.specs.declared.command.Op.{Op}
use Rattle.mq_sc_parse.specs.declared.command.Op.TheVariants as ops
use Rattle.mq_history.specs.declared.acts.Act.TheVariants as acts
use Rattle.mq_history.specs.declared.acts.Acted.TheVariants as acted
use Rattle.mq_history.specs.declared.acts.OpRefusal.TheVariants as reasons
use Rattle.mq_history.specs.declared.calls.Call.TheVariants as calls
use Rattle.mq_history.specs.declared.calls.Chance.TheVariants as chances
use Rattle.mq_history.specs.declared.history.History.{History}
use Rattle.mq_history.specs.declared.scenario.CableLine.{CableLine}
use Rattle.mq_history.specs.declared.scenario.Scenario.{Scenario}
use Rattle.mq_history.specs.Scenarios.{IsScenario}
use Rattle.mq_calls.specs.Reads.{in_doubt_of, is_up, sender_data, stored}
use Rattle.mq_calls.specs.State.{Plain}
use Rattle.mq_calls.specs.Steps.{delta_of, do_part}
use Rattle.mq_spec_manager.specs.Agents.{harden_part, held_rows, settle_did}
use Rattle.mq_spec_node.specs.Node.{Node, SenderEnd, sender_named}
use Rattle.mq_spec_node.specs.Deeds.{Deed, Done}
use Rattle.mq_spec_node.specs.Operators.{operate, refused_or, resolve_doubt, resolve_end}
use Rattle.mq_spec_node.specs.Replays.{IsOwn, Tells}
use Rattle.mq_spec_network.specs.Conflict.{Deed as ToldDeed, NoConflict, deeds, deeds_in}
use Rattle.mq_spec_network.specs.Order.{sent_idents}
use Rattle.mq_spec_network.specs.Standing.{node_after, opening_managers}
use Rattle.mq_spec_network.specs.Story.{Line, Mem}
use Rattle.mq_law_manager.proofs.Lists.{mem_before, mem_behind}
use Rattle.mq_law_channel.specs.Channel.{Channel, Past}
use Rattle.mq_law_channel.specs.Turns.{data_settled, past_resolved, resolved}
use Rattle.mq_law_channel.proofs.Core.{unit_eq}
use Rattle.mq_law_channel.proofs.Told.{Doubted, doubt_is, unit_no, unit_yes}
use Rattle.mq_law_node.specs.Ends.{SendsAs, Where, sender_of}
use Rattle.mq_law_node.specs.Moves.{NearStep}
use Rattle.mq_law_node.proofs.Named.{bool_case}
use Rattle.mq_law_node.proofs.Operators.{doubt_there, resolve_deed, resolves_batch, resolves_data, resting_apart}
use Rattle.mq_law_node.proofs.SenderTurns.{leaves}
use Rattle.mq_law_seen.specs.Seen.{rows_of, world_of}
use Rattle.mq_law_events.specs.Tied.{IsNext}
use Rattle.mq_law_stopped.specs.from_law_turns.Agreed.{IsToldOf}
use Rattle.mq_law_stopped.specs.from_law_turns.Turns.{IsAt, Scene, TurnedBy, world_in}
use Rattle.mq_law_stopped.proofs.from_law_turns.Agreeing.{backout_tells, backs_out_rightly, commit_tells, grows}
use Rattle.mq_law_stopped.proofs.from_law_turns.Operating.{resolves_backout, resolves_commit, resolves_committed}
use Rattle.mq_law_run.specs.Run.{IsRunning, Moves, Stand, near_at}
use Rattle.mq_law_run.proofs.Commanding.{Commands, all_leave, commanded, leave_behind, none_commits, refuses, told_here, told_of, up_so}
use Rattle.mq_law_stopped.specs.Noted.{IsForcing}
use Rattle.mq_law_run.proofs.Lining.{mem_at}
use Rattle.mq_law_run.proofs.Listing.{batch_told}
use Rattle.mq_law_run.proofs.Running.{scene}
use Rattle.mq_law_run.proofs.Sending.{none_forced_now}
use Rattle.mq_law_run.proofs.Telling.{deeds_more, told_now}

-- WHAT A SETTLEMENT TELLS
abbrev resolved_did : (commit : Bool) → List ℕ → Luw → Did
resolved_did commit c u = did.Hardened c (notes.Resolved u commit true)

abbrev settle_told : (commit : Bool) → Where → Luw → Node → List Did
settle_told commit w u n = (map (settle_did commit) (held_rows (holders.Batch w.channel) n.manager) ++ resolved_did commit w.channel u ∷ []) ++ []

tells_it : (commit : Bool) (w : Where) (u : Luw) (n : Node) → Mem (resolved_did commit w.channel u) (settle_told commit w u n)
tells_it commit w u n =
    let e : Did = resolved_did commit w.channel u in
    let ds : List Did = map (settle_did commit) (held_rows (holders.Batch w.channel) n.manager) in
    mem_before e (ds ++ e ∷ []) [] (mem_behind e ds (e ∷ []) (inl refl))

settle_leaves : (commit : Bool) (rs : List Remove) → all_leave (map (settle_did commit) rs) ≡ true
settle_leaves commit [] = refl
settle_leaves true (r ∷ rs) = settle_leaves true rs
settle_leaves false (r ∷ rs) = settle_leaves false rs

told_leave : (commit : Bool) (w : Where) (u : Luw) (n : Node) → all_leave (settle_told commit w u n) ≡ true
told_leave commit w u n =
    let rs : List Remove = held_rows (holders.Batch w.channel) n.manager in
    let e : Did = resolved_did commit w.channel u in
    leave_behind (map (settle_did commit) rs ++ e ∷ []) [] (leave_behind (map (settle_did commit) rs) (e ∷ []) (settle_leaves commit rs) refl) refl

-- THAT BACKS OUT
backs_out : (z : Scene) (n : Node) (c : Channel) (y : Past) (d : InDoubt) → IsAt z n c y → is_up n.manager.running ≡ true → senders.is_running c.sender.state ≡ false → in_doubt_of (sender_data z.place.channel n.manager) ≡ Some d
    → (1 ≤ d.unit.n → c.receives.unit ≢ d.unit) → Commands z n c y (resolve_deed z.place settles.Backout d n)
backs_out z n c y d a up off so right =
    let w : Where = z.place in
    let h : SendsAs w n c = a.sends in
    let found : senders.doubt_of c.sends.in_doubt ≡ Some (record { unit = d.unit; last = d.last }) =
    ap (λ (k : Kept). k.doubt) h.data_ ∙ ap senders.doubt_of (sym (doubt_there (sender_data w.channel n.manager)) ∙ so) in
    let own : Doubted c.sends.in_doubt (record { unit = d.unit; last = d.last }) = doubt_is c.sends.in_doubt (record { unit = d.unit; last = d.last }) found in
    let held = a.facts.tied.in_doubt own.data_ own.is in
    let real : 1 ≤ d.unit.n = subst (λ (u : Luw). 1 ≤ u.n) own.unit (a.facts.sound.held own.data_.unit held.0).0 in
    let not_so : c.receives.unit ≢ own.data_.unit = λ e. right real (e ∙ own.unit) in (
      None,
      NearStep.Resolve settles.Backout own.data_,
      record {
        may = (off, own.is);
        turned = λ rs g. resolves_backout z n c y own.data_ d.unit rs a own.is (resting_apart c.sender.state off) not_so g;
        sent = leaves w n (resolve_deed w settles.Backout d n) c (data_settled (Some settles.Backout) c.sends) c.sender c.batch c.out up h.here
            (resolves_data w settles.Backout d n.manager c.sends h.data_)
            (λ e. absurd (cc (e, resting_apart c.sender.state off)))
            (λ e. resolves_batch w settles.Backout d n.manager _ ∙ h.unbatched e)
            refl;
        asked = record { ends = refl; adds = refl; told = told_leave false w d.unit n; answer = acted.Done; reply = refl; is = refl; pushed = refl };
        tells = λ ps ds f i. backout_tells z.scenario ps ds z.sender w.channel c y own.data_
            (subst (λ (u : Luw). Mem (told_of z.sender (resolved_did false w.channel u)) ds) (sym own.unit) (f (resolved_did false w.channel d.unit) (tells_it false w d.unit n))) i;
        commits = none_commits c w.channel (delta_of (resolve_deed w settles.Backout d n).parts);
        forces = none_forced_now (world_in z) z.sender w.channel (delta_of (resolve_deed w settles.Backout d n).parts);
        near = λ v e f. (refl, ap (λ (b : Bool). (not b && true) && true) f);
        others = λ v f. refl;
        far = λ v e. (refl, refl);
      },
    )

resolves_so : (z : Scene) (n : Node) (c : Channel) (y : Past) (o : Option InDoubt) → IsAt z n c y → is_up n.manager.running ≡ true → in_doubt_of (sender_data z.place.channel n.manager) ≡ o
    → ((d : InDoubt) → o ≡ Some d → senders.is_running c.sender.state ≡ false → 1 ≤ d.unit.n → c.receives.unit ≢ d.unit) → Commands z n c y (resolve_doubt (sender_of z.place c.sender) settles.Backout o n)
resolves_so z n c y None a up is right = refuses z n c y reasons.NotInDoubt a up
resolves_so z n c y (Some d) a up is right = bool_case (senders.is_running c.sender.state)
    (λ b. Commands z n c y (refused_or (if b then Some reasons.Running else None) n.own (resolve_deed z.place settles.Backout d n)))
    (λ e. refuses z n c y reasons.Running a up)
    (λ e. backs_out z n c y d a up e is (right d refl e))

-- THAT COMMITS
upto_both : (u v : Luw) → Upto u v → Upto v u → u ≡ v
upto_both u v e f = unit_eq u v (grind (arith, e, f)) (grind (arith, e, f))

commits_by : (o : Option Luw) (z : Scene) (n : Node) (c : Channel) (y : Past) (d e : InDoubt) → IsAt z n c y → is_up n.manager.running ≡ true → senders.is_running c.sender.state ≡ false → c.sends.in_doubt ≡ Some e → e.unit ≡ d.unit
    → ((rs : List Plain) → IsNext z.sender n.manager (do_part (harden_part z.place.channel (notes.Resolved d.unit true true) n.manager) n.manager) z.managers rs → TurnedBy o z (world_of z.scenario z.given rs) (resolved settles.Commit c) (past_resolved settles.Commit e y))
    → ((u : Luw) → o ≡ Some u → (u ≡ d.unit) × (Upto u c.receives.unit → ⊥)) → ((u : Luw) → o ≡ Some u → IsForcing (world_in z) z.sender z.place.channel u (delta_of (resolve_deed z.place settles.Commit d n).parts))
    → Commands z n c y (resolve_deed z.place settles.Commit d n)
commits_by o z n c y d e a up off is same turned past forcing =
    let w : Where = z.place in
    let h : SendsAs w n c = a.sends in (
      o,
      NearStep.Resolve settles.Commit e,
      record {
        may = (off, is);
        turned = turned;
        sent = leaves w n (resolve_deed w settles.Commit d n) c (data_settled (Some settles.Commit) c.sends) c.sender c.batch c.out up h.here
            (resolves_data w settles.Commit d n.manager c.sends h.data_)
            (λ b. absurd (cc (b, resting_apart c.sender.state off)))
            (λ b. resolves_batch w settles.Commit d n.manager _ ∙ h.unbatched b)
            refl;
        asked = record { ends = refl; adds = refl; told = told_leave true w d.unit n; answer = acted.Done; reply = refl; is = refl; pushed = refl };
        tells = λ ps ds f i. commit_tells z.scenario ps ds z.sender w.channel c y e i;
        commits = λ u f.
            let b = past u f in
            (subst (λ (v : Luw). Mem (resolved_did true w.channel v) (delta_of (resolve_deed w settles.Commit d n).parts)) (sym b.0) (tells_it true w d.unit n), b.1);
        forces = forcing;
        near = λ v b f. (refl, ap (λ (t : Bool). (not t && true) && true) f);
        others = λ v f. refl;
        far = λ v b. (refl, refl);
      },
    )

commits_deed : (z : Scene) (n : Node) (c : Channel) (y : Past) (d : InDoubt) → IsAt z n c y → is_up n.manager.running ≡ true → senders.is_running c.sender.state ≡ false → in_doubt_of (sender_data z.place.channel n.manager) ≡ Some d
    → Commands z n c y (resolve_deed z.place settles.Commit d n)
commits_deed z n c y d a up off so =
    let w : Where = z.place in
    let found : senders.doubt_of c.sends.in_doubt ≡ Some (record { unit = d.unit; last = d.last }) =
    ap (λ (k : Kept). k.doubt) a.sends.data_ ∙ ap senders.doubt_of (sym (doubt_there (sender_data w.channel n.manager)) ∙ so) in
    let own : Doubted c.sends.in_doubt (record { unit = d.unit; last = d.last }) = doubt_is c.sends.in_doubt (record { unit = d.unit; last = d.last }) found in
    let held = a.facts.tied.in_doubt own.data_ own.is in
    let above : Upto c.receives.unit own.data_.unit = (a.facts.sound.held own.data_.unit held.0).2 in
    bool_case (same_unit c.receives.unit own.data_.unit) (λ t. Commands z n c y (resolve_deed w settles.Commit d n))
    (λ f. commits_by None z n c y d own.data_ a up off own.is own.unit (λ rs g. resolves_committed z n c y own.data_ d.unit rs a own.is (resting_apart c.sender.state off) (unit_yes c.receives.unit own.data_.unit f) g)
    (λ u g. absurd (no_one u g)) (λ u g. absurd (no_one u g)))
    (λ f. commits_by (Some own.data_.unit) z n c y d own.data_ a up off own.is own.unit (λ rs g. resolves_commit z n c y own.data_ d.unit rs a own.is (resting_apart c.sender.state off) g)
    (λ u g. (some_unit own.data_.unit u g ∙ own.unit, λ b. unit_no c.receives.unit own.data_.unit f (upto_both c.receives.unit own.data_.unit above (subst (λ (v : Luw). Upto v c.receives.unit) (some_unit own.data_.unit u g) b))))
    (λ u g. subst (λ (v : Luw). IsForcing (world_in z) z.sender w.channel v (delta_of (resolve_deed w settles.Commit d n).parts)) (sym (some_unit own.data_.unit u g)) (record {
      holds = (a.joint.tied.held held.2).0 ∙ held.0;
      new = λ b. unit_no c.receives.unit own.data_.unit f (sym a.joint.tied.last ∙ b);
      told = subst (λ (v : Luw). Mem (resolved_did true w.channel v) (delta_of (resolve_deed w settles.Commit d n).parts)) (sym own.unit) (tells_it true w d.unit n);
      rows = λ q r k by_. told_all_rows q r (subst (λ (o : Option Plain). Mem r (rows_of q o)) a.at k) by_;
    })))
  where
    told_all_rows : (q : List ℕ) (r : Row) → Mem r (stored q n.manager).rows → r.by ≡ Some (holders.Batch z.place.channel) → Mem r.message.ident (sent_idents (delta_of (resolve_deed z.place settles.Commit d n).parts))
    told_all_rows q r k by_ =
        let ds : List Did = map (settle_did true) (held_rows (holders.Batch z.place.channel) n.manager) ++ resolved_did true z.place.channel d.unit ∷ [] in
        subst (λ (es : List Did). Mem r.message.ident (sent_idents es)) (sym (append-nil ds)) (batch_told z.place.channel n.manager (resolved_did true z.place.channel d.unit ∷ []) q r k by_)

    no_one : (u : Luw) → None ≡ Some u → ⊥
    no_one u e = cc

    some_unit : (v u : Luw) → Some v ≡ Some u → u ≡ v
    some_unit v u e = cc

committed_so : (z : Scene) (n : Node) (c : Channel) (y : Past) (o : Option InDoubt) → IsAt z n c y → is_up n.manager.running ≡ true → in_doubt_of (sender_data z.place.channel n.manager) ≡ o
    → Commands z n c y (resolve_doubt (sender_of z.place c.sender) settles.Commit o n)
committed_so z n c y None a up is = refuses z n c y reasons.NotInDoubt a up
committed_so z n c y (Some d) a up is = bool_case (senders.is_running c.sender.state)
    (λ b. Commands z n c y (refused_or (if b then Some reasons.Running else None) n.own (resolve_deed z.place settles.Commit d n)))
    (λ e. refuses z n c y reasons.Running a up)
    (λ e. commits_deed z n c y d a up e is)

pub committing : (s : Scenario) (hs : List History) (p : List Line) (x : Line) (h : History) (stamp : ℕ) (z : Stand s hs p) (i : ℕ) (k : CableLine) (name : List ℕ) → IsScenario s → slice_get hs x.manager ≡ Some h → Tells (node_after s x.manager p h) stamp x.entry
    → IsOwn x.entry.chance → slice_get s.cables i ≡ Some k → k.sender ≡ x.manager → x.entry.call ≡ calls.Act (acts.Obey (lines.Operate (ops.Resolve name settles.Commit))) → x.entry.chance ≡ chances.Call Runs
    → IsRunning s p x h (operate (ops.Resolve name settles.Commit) (node_after s x.manager p h)) → sender_named name (node_after s x.manager p h).own.ends ≡ Some (sender_of (near_at s i k) (z.xs k.sender k.channel).sender) → Moves s hs p x h z
committing s hs p x h stamp z i k name scenario is tells own e q call chance run named =
    let n : Node = node_after s x.manager p h in
    let w : Where = near_at s i k in
    let c : Channel = z.xs k.sender k.channel in
    let y : Past = z.ys k.sender k.channel in
    let end : SenderEnd = sender_of w c.sender in
    let op : Op = ops.Resolve name settles.Commit in
    let o : Option InDoubt = in_doubt_of (sender_data k.channel n.manager) in
    commanded s hs p x z (record { h = h; is = is; stamp = stamp; tells = tells; own = own }) i k (resolve_doubt end settles.Commit o n) op scenario e q call chance run (ap (λ (v : Option SenderEnd). resolve_end settles.Commit v n) (sym named))
    (λ a. committed_so (scene s hs p z k w) n c y o a (ap is_up run.up) refl)

-- THAT BACKS OUT
-- a unit of a number has a name
not_zero : (n : ℕ) → 1 ≤ n → (n == 0) ≡ false
not_zero n e = grind (arith, nat_tests, e)

and_none : (a : Bool) → (a && false) ≡ false
and_none true = refl
and_none false = refl

pub real_unit : (u : Luw) → 1 ≤ u.n → same_unit u no_unit ≡ false
real_unit u e = ap (λ (b : Bool). (u.session == 0) && b) (not_zero u.n e) ∙ and_none (u.session == 0)

pub backing_out : (s : Scenario) (hs : List History) (whole p : List Line) (es : List ToldDeed) (x : Line) (h : History) (stamp : ℕ) (z : Stand s hs p) (i : ℕ) (k : CableLine) (name : List ℕ) → IsScenario s → NoConflict s hs whole
    → deeds whole ≡ deeds (p ++ x ∷ []) ++ es → slice_get hs x.manager ≡ Some h → Tells (node_after s x.manager p h) stamp x.entry → IsOwn x.entry.chance → slice_get s.cables i ≡ Some k → k.sender ≡ x.manager
    → x.entry.call ≡ calls.Act (acts.Obey (lines.Operate (ops.Resolve name settles.Backout))) → x.entry.chance ≡ chances.Call Runs → IsRunning s p x h (operate (ops.Resolve name settles.Backout) (node_after s x.manager p h))
    → sender_named name (node_after s x.manager p h).own.ends ≡ Some (sender_of (near_at s i k) (z.xs k.sender k.channel).sender) → Moves s hs p x h z
backing_out s hs whole p es x h stamp z i k name scenario none split is tells own e q call chance run named =
    let n : Node = node_after s x.manager p h in
    let w : Where = near_at s i k in
    let c : Channel = z.xs k.sender k.channel in
    let y : Past = z.ys k.sender k.channel in
    let end : SenderEnd = sender_of w c.sender in
    let op : Op = ops.Resolve name settles.Backout in
    let up : is_up n.manager.running ≡ true = ap is_up run.up in
    let o : Option InDoubt = in_doubt_of (sender_data k.channel n.manager) in
    let there : Mem k s.cables = mem_at s.cables i k e in
    let now : IsToldOf s (opening_managers s hs) (deeds (p ++ x ∷ [])) k.sender k.channel c y =
    subst (λ ds. IsToldOf s (opening_managers s hs) ds k.sender k.channel c y) (sym (deeds_more p x)) (grows s (opening_managers s hs) (deeds p) (deeds_in x.manager x.entry.effect.delta) k.sender k.channel c y (z.told k there)) in
    let right : (d : InDoubt) → o ≡ Some d → senders.is_running c.sender.state ≡ false → 1 ≤ d.unit.n → c.receives.unit ≢ d.unit = λ d f off real.
    let same : operate op n ≡ resolve_deed w settles.Backout d n = sym (up_so op n up) ∙ ap (λ (v : Option SenderEnd). resolve_end settles.Backout v n) named ∙ ap (λ (v : Option InDoubt). resolve_doubt end settles.Backout v n) f
    ∙ ap (λ (b : Bool). refused_or (if b then Some reasons.Running else None) n.own (resolve_deed w settles.Backout d n)) off in
    let delta : x.entry.effect.delta ≡ delta_of (resolve_deed w settles.Backout d n).parts = tells.delta ∙ ap (λ (v : Done). v.delta) run.is ∙ ap (λ (g : Deed). delta_of g.parts) same in
    let it : ToldDeed = told_of k.sender (resolved_did false k.channel d.unit) in
    backs_out_rightly s hs whole (deeds (p ++ x ∷ [])) es k.sender k.channel c y d.unit none split now
    (subst (λ (ds : List ToldDeed). Mem it ds) (sym split) (mem_before it (deeds (p ++ x ∷ [])) es (told_now p x it (told_here k.sender x.manager (delta_of (resolve_deed w settles.Backout d n).parts) x.entry.effect.delta (resolved_did false k.channel d.unit) q delta (tells_it false w d.unit n)))))
    (real_unit d.unit real) in
    commanded s hs p x z (record { h = h; is = is; stamp = stamp; tells = tells; own = own }) i k (resolve_doubt end settles.Backout o n) op scenario e q call chance run (ap (λ (v : Option SenderEnd). resolve_end settles.Backout v n) (sym named))
    (λ a. resolves_so (scene s hs p z k w) n c y o a up refl right)
