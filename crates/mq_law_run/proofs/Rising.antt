-- Each stop and each restart, as a move of the network.
use Rattle.std.proofs.Common.{ℕ, ◌≡◌, true, false, List, [], ◌∷◌, ◌++◌, refl, ap, subst, ◌∙◌}
use Rattle.std.specs.Prelude.{Option, Some, None, ◌+◌}
use Rattle.mq_calls.specs.declared.choices.Choice.TheVariants.{Runs}
use Rattle.mq_calls.specs.declared.choices.Return.{Return}
use Rattle.mq_calls.specs.declared.choices.Return.TheVariants.{Comes, Fails}
use Rattle.mq_calls.specs.declared.commands.RestartFault.{RestartFault}
use Rattle.mq_calls.specs.declared.commands.RestartFault.TheVariants as faults
use Rattle.mq_history.specs.declared.acts.Act.TheVariants as acts
use Rattle.mq_history.specs.declared.acts.Acted.{Acted}
use Rattle.mq_history.specs.declared.acts.Acted.TheVariants as acted
use Rattle.mq_history.specs.declared.calls.Call.{Call}
use Rattle.mq_history.specs.declared.calls.Call.TheVariants as calls
use Rattle.mq_history.specs.declared.calls.Chance.{Chance}
use Rattle.mq_history.specs.declared.calls.Chance.TheVariants as chances
use Rattle.mq_history.specs.declared.calls.Entry.{Entry}
use Rattle.mq_history.specs.declared.calls.Reply.{Reply}
use Rattle.mq_history.specs.declared.calls.Reply.TheVariants as replies
use Rattle.mq_history.specs.declared.history.History.{History}
use Rattle.mq_history.specs.declared.scenario.Scenario.{Scenario}
use Rattle.mq_history.specs.Scenarios.{IsScenario}
use Rattle.mq_calls.specs.State.{LogState, Noted, Running}
use Rattle.mq_calls.specs.State.Running.{Up, Down}
use Rattle.mq_spec_manager.specs.Stops.{restart_at, stop_at}
use Rattle.mq_spec_node.specs.Node.{Node}
use Rattle.mq_spec_node.specs.Deeds.{Done}
use Rattle.mq_spec_node.specs.Happens.{IsEvent, IsReturn, RunsAlone, crashed, event}
use Rattle.mq_spec_node.specs.Happens.{restarted as node_restarted}
use Rattle.mq_spec_node.specs.Replays.{IsOwn, done_by}
use Rattle.mq_spec_network.specs.Ledger as ledgers
use Rattle.mq_spec_network.specs.Ledger.{Ledger, ledger, posted}
use Rattle.mq_spec_network.specs.Standing.{node_after, opening_ledger}
use Rattle.mq_spec_network.specs.Story.{Line}
use Rattle.mq_law_one.proofs.from_law_story.Weaving.{ledger_step}
use Rattle.mq_law_one.proofs.Running.{Told_}
use Rattle.mq_law_run.specs.Run.{HaveSenders, Moves, Stand, failed_node}
use Rattle.mq_law_run.proofs.Failing.{failing_moves}
use Rattle.mq_law_run.proofs.Halves.{runs_alone}
use Rattle.mq_law_run.proofs.Idling.{idle_moves}
use Rattle.mq_law_run.proofs.Restarting.{rise_moves}
use Rattle.mq_law_run.proofs.Finding.{return_moves}
use Rattle.mq_spec_network.specs.Conflict.{Deed as ToldDeed, NoConflict, deeds}
use Rattle.mq_law_run.proofs.Stopping.{stop_moves}

-- nothing is posted of one that isn't done
pub none_posted : (s : Scenario) (hs : List History) (p : List Line) (x : Line) (call : Call) (a : Acted) → x.entry.call ≡ call → x.entry.reply ≡ replies.Acted a → x.entry.effect.delta ≡ []
    → ((c : Chance) (l : Ledger) → ledgers.returned x.manager (replies.Acted a) c [] (ledgers.post_call x.manager call (replies.Acted a) x.entry.effect.received [] l) ≡ l)
    → ledger (opening_ledger s hs) (p ++ x ∷ []) ≡ ledger (opening_ledger s hs) p
none_posted s hs p x call a is reply delta none =
    let m : ℕ = x.manager in
    let e : Entry = x.entry in
    let l : Ledger = ledger (opening_ledger s hs) p in
    ledger_step (opening_ledger s hs) p x ∙ ap (λ (o : Reply). posted m e o l) reply
    ∙ (λ i. ledgers.returned m (replies.Acted a) e.chance (delta i) (ledgers.post_call m (is i) (reply i) e.effect.received (delta i) (ledgers.take_all_gone m (delta i) l)))
    ∙ none e.chance l

pub crash_moves : (s : Scenario) (hs : List History) (p : List Line) (x : Line) (z : Stand s hs p) (t : Told_ s hs p x) → IsScenario s → x.entry.call ≡ calls.Act acts.Crash → Moves s hs p x t.h z
crash_moves s hs p x z t scenario call = go (node_after s x.manager p t.h).manager.running refl
  where
    go : (r : Running) → (node_after s x.manager p t.h).manager.running ≡ r → Moves s hs p x t.h z
    go r down =
        let e : Entry = x.entry in
        let n : Node = node_after s x.manager p t.h in
        let can : RunsAlone e.chance = subst (λ (c : Call). IsEvent e.stamp e.actor c e.chance e.effect.popped n) call t.tells.event in
        let same : done_by e n ≡ crashed (stop_at r n.manager) n = ap (λ (c : Call). event e.stamp e.actor c e.chance e.effect.popped n) call ∙ ap (λ (w : Running). crashed (stop_at w n.manager) n) down in
        by_running r down (runs_alone e.chance can) same
      where
        by_running : (r : Running) → (node_after s x.manager p t.h).manager.running ≡ r → x.entry.chance ≡ chances.Call Runs → done_by x.entry (node_after s x.manager p t.h) ≡ crashed (stop_at r (node_after s x.manager p t.h).manager) (node_after s x.manager p t.h) → Moves s hs p x t.h z
        by_running Up up alone same = stop_moves s hs p x z t scenario up call alone same
        by_running (Down noted starts) down alone same =
            let reply : x.entry.reply ≡ replies.Acted acted.Down = t.tells.reply ∙ ap (λ (d : Done). d.reply) same in
            let delta : x.entry.effect.delta ≡ [] = t.tells.delta ∙ ap (λ (d : Done). d.delta) same in
            idle_moves s hs p x t.h t.stamp z t.is t.tells t.own (ap (λ (d : Done). d.next) same) (ap (λ (d : Done). d.delta) same) (ap (λ (d : Done). d.pushed) same)
            (none_posted s hs p x (calls.Act acts.Crash) acted.Down call reply delta (λ c l. refl))

refused_moves : (s : Scenario) (hs : List History) (p : List Line) (x : Line) (z : Stand s hs p) (t : Told_ s hs p x) (noted : Option Noted) (starts more : ℕ) (g : LogState) (fault : RestartFault) (d : Done) → x.entry.call ≡ calls.Act acts.Restart → (node_after s x.manager p t.h).manager.running ≡ Down noted starts
    → done_by x.entry (node_after s x.manager p t.h) ≡ d → d.reply ≡ replies.Acted (acted.Start fault) → d.next ≡ failed_node noted more g (node_after s x.manager p t.h) → d.delta ≡ [] → d.pushed ≡ None → Moves s hs p x t.h z
refused_moves s hs p x z t noted starts more g fault d call down same reply next delta pushed =
    failing_moves s hs p x t.h t.stamp z noted starts more g t.is t.tells t.own down (ap (λ (o : Done). o.next) same ∙ next) (ap (λ (o : Done). o.delta) same ∙ delta) (ap (λ (o : Done). o.pushed) same ∙ pushed)
    (none_posted s hs p x (calls.Act acts.Restart) (acted.Start fault) call (t.tells.reply ∙ ap (λ (o : Done). o.reply) same ∙ reply) (t.tells.delta ∙ ap (λ (o : Done). o.delta) same ∙ delta) (λ c l. refl))

down_moves : (s : Scenario) (hs : List History) (wide p : List Line) (es : List ToldDeed) (x : Line) (z : Stand s hs p) (t : Told_ s hs p x) (noted : Option Noted) (starts : ℕ) (choice : Return) → IsScenario s → NoConflict s hs wide → deeds wide ≡ deeds (p ++ x ∷ []) ++ es → HaveSenders s hs → x.entry.call ≡ calls.Act acts.Restart → (node_after s x.manager p t.h).manager.running ≡ Down noted starts
    → x.entry.chance ≡ chances.Restart choice → IsReturn (chances.Restart choice) (Down noted starts) (node_after s x.manager p t.h).manager
    → done_by x.entry (node_after s x.manager p t.h) ≡ node_restarted (restart_at (Down noted starts) choice (node_after s x.manager p t.h).manager) (node_after s x.manager p t.h) → Moves s hs p x t.h z
down_moves s hs wide p es x z t None starts (Comes true started) scenario peace split have call down chance can same = absurd can.0.0
down_moves s hs wide p es x z t (Some noted) starts (Comes true started) scenario peace split have call down chance can same = return_moves s hs wide p es x z t noted starts started scenario peace split have down call chance same
down_moves s hs wide p es x z t noted starts (Comes false started) scenario peace split have call down chance can same = rise_moves s hs p x z t noted starts started scenario down call chance same
down_moves s hs wide p es x z t noted starts (Fails faults.Up in_write left) scenario peace split have call down chance can same = absurd can.0
down_moves s hs wide p es x z t noted starts (Fails faults.NoMemory in_write left) scenario peace split have call down chance can same = absurd can.1
down_moves s hs wide p es x z t noted starts (Fails faults.Disk true left) scenario peace split have call down chance can same = refused_moves s hs p x z t noted starts (starts + 1) (record (node_after s x.manager p t.h).manager.log { armed = left }) faults.Disk _ call down same refl refl refl refl
down_moves s hs wide p es x z t noted starts (Fails faults.Disk false left) scenario peace split have call down chance can same = refused_moves s hs p x z t noted starts starts (record (node_after s x.manager p t.h).manager.log { armed = left }) faults.Disk _ call down same refl
    (λ i. record (node_after s x.manager p t.h) { manager = record (node_after s x.manager p t.h).manager { running = down i; log = record (node_after s x.manager p t.h).manager.log { armed = left } } }) refl refl
down_moves s hs wide p es x z t noted starts (Fails faults.Cut true left) scenario peace split have call down chance can same = refused_moves s hs p x z t noted starts (starts + 1) (record (node_after s x.manager p t.h).manager.log { armed = left }) faults.Cut _ call down same refl refl refl refl
down_moves s hs wide p es x z t noted starts (Fails faults.Cut false left) scenario peace split have call down chance can same = refused_moves s hs p x z t noted starts starts (record (node_after s x.manager p t.h).manager.log { armed = left }) faults.Cut _ call down same refl
    (λ i. record (node_after s x.manager p t.h) { manager = record (node_after s x.manager p t.h).manager { running = down i; log = record (node_after s x.manager p t.h).manager.log { armed = left } } }) refl refl
down_moves s hs wide p es x z t noted starts (Fails (faults.BadLog place) true left) scenario peace split have call down chance can same = absurd can.0
down_moves s hs wide p es x z t noted starts (Fails (faults.BadLog place) false left) scenario peace split have call down chance can same = refused_moves s hs p x z t noted starts starts (record (node_after s x.manager p t.h).manager.log { armed = left }) (faults.BadLog place) _ call down same refl
    (λ i. record (node_after s x.manager p t.h) { manager = record (node_after s x.manager p t.h).manager { running = down i; log = record (node_after s x.manager p t.h).manager.log { armed = left } } }) refl refl

return_moves_by : (s : Scenario) (hs : List History) (wide p : List Line) (es : List ToldDeed) (x : Line) (z : Stand s hs p) (t : Told_ s hs p x) (r : Running) (choice : Return) → IsScenario s → NoConflict s hs wide → deeds wide ≡ deeds (p ++ x ∷ []) ++ es → HaveSenders s hs → x.entry.call ≡ calls.Act acts.Restart → (node_after s x.manager p t.h).manager.running ≡ r → x.entry.chance ≡ chances.Restart choice
    → IsReturn (chances.Restart choice) r (node_after s x.manager p t.h).manager
    → done_by x.entry (node_after s x.manager p t.h) ≡ node_restarted (restart_at r choice (node_after s x.manager p t.h).manager) (node_after s x.manager p t.h) → Moves s hs p x t.h z
return_moves_by s hs wide p es x z t Up choice scenario peace split have call up chance can same =
    let reply : x.entry.reply ≡ replies.Acted (acted.Start faults.Up) = t.tells.reply ∙ ap (λ (d : Done). d.reply) same in
    let delta : x.entry.effect.delta ≡ [] = t.tells.delta ∙ ap (λ (d : Done). d.delta) same in
    idle_moves s hs p x t.h t.stamp z t.is t.tells t.own (ap (λ (d : Done). d.next) same) (ap (λ (d : Done). d.delta) same) (ap (λ (d : Done). d.pushed) same)
    (none_posted s hs p x (calls.Act acts.Restart) (acted.Start faults.Up) call reply delta (λ c l. refl))
return_moves_by s hs wide p es x z t (Down noted starts) choice scenario peace split have call down chance can same = down_moves s hs wide p es x z t noted starts choice scenario peace split have call down chance can same

pub restart_moves : (s : Scenario) (hs : List History) (wide p : List Line) (es : List ToldDeed) (x : Line) (z : Stand s hs p) (t : Told_ s hs p x) → IsScenario s → NoConflict s hs wide → deeds wide ≡ deeds (p ++ x ∷ []) ++ es → HaveSenders s hs → x.entry.call ≡ calls.Act acts.Restart → Moves s hs p x t.h z
restart_moves s hs wide p es x z t scenario peace split have call = go x.entry.chance refl
  where
    can : (c : Chance) → x.entry.chance ≡ c → IsReturn c (node_after s x.manager p t.h).manager.running (node_after s x.manager p t.h).manager
    can c e = subst (λ (v : Chance). IsEvent x.entry.stamp x.entry.actor (calls.Act acts.Restart) v x.entry.effect.popped (node_after s x.manager p t.h)) e
        (subst (λ (v : Call). IsEvent x.entry.stamp x.entry.actor v x.entry.chance x.entry.effect.popped (node_after s x.manager p t.h)) call t.tells.event)

    go : (c : Chance) → x.entry.chance ≡ c → Moves s hs p x t.h z
    go (chances.Call choice) e = absurd (can (chances.Call choice) e)
    go (chances.Restart choice) e = return_moves_by s hs wide p es x z t (node_after s x.manager p t.h).manager.running choice scenario peace split have call refl e (can (chances.Restart choice) e)
        (λ i. event x.entry.stamp x.entry.actor (call i) (e i) x.entry.effect.popped (node_after s x.manager p t.h))
    go (chances.Foreign image length left) e = absurd (subst IsOwn e t.own)
