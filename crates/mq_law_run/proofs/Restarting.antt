-- A restart of a manager that finds no write, as a move of the network.
use Rattle.std.proofs.Common.{ℕ, ◌≡◌, false, List, [], ◌∷◌, ◌++◌, refl, ap, sym, subst, ◌∙◌}
use Rattle.std.specs.Prelude.{Bool, Option, Some}
use Rattle.mq_message.specs.declared.message.Ident.{Ident}
use Rattle.mq_history.specs.declared.history.History.{History}
use Rattle.mq_history.specs.declared.scenario.Scenario.{Scenario}
use Rattle.mq_history.specs.Scenarios.{IsScenario}
use Rattle.mq_calls.specs.State.{Plain, Running}
use Rattle.mq_calls.specs.State.Running.{Down}
use Rattle.mq_spec_network.specs.Story.{Line}
use Rattle.mq_history.specs.declared.acts.Act.TheVariants as acts
use Rattle.mq_history.specs.declared.acts.Acted.TheVariants as acted
use Rattle.mq_history.specs.declared.calls.Call.TheVariants as calls
use Rattle.mq_history.specs.declared.calls.Chance.TheVariants as chances
use Rattle.mq_history.specs.declared.calls.Entry.{Entry}
use Rattle.mq_history.specs.declared.calls.Reply.{Reply}
use Rattle.mq_history.specs.declared.calls.Reply.TheVariants as replies
use Rattle.mq_spec_node.specs.Deeds.{Done}
use Rattle.mq_spec_node.specs.Replays.{done_by}
use Rattle.mq_spec_network.specs.Ledger as ledgers
use Rattle.mq_spec_network.specs.Ledger.{Ledger, Users, ledger, posted}
use Rattle.mq_spec_network.specs.Standing.{node_after, opening_ledger}
use Rattle.mq_law_events.specs.Tied.{Follow, IsFresh, IsTold}
use Rattle.mq_law_one.proofs.from_law_story.Weaving.{ledger_step}
use Rattle.mq_law_one.specs.Alone.{IsState}
use Rattle.mq_law_one.proofs.Running.{Told_}
use Rattle.mq_law_run.specs.Run.{Moves, Stand, risen_done}
use Rattle.mq_law_events.proofs.Locals.{stays_leads}
use Rattle.mq_law_events.specs.Local.{sheet_of, side_of}
use Rattle.mq_law_manager.proofs.Ending.{restart_sound}
use Rattle.mq_calls.specs.declared.choices.Return.TheVariants.{Comes}
use Rattle.mq_calls.specs.State.{Noted}
use Rattle.mq_law_run.proofs.Redoing.{base_of}
use Rattle.mq_law_run.proofs.Returning.{follow_moves}

-- the facts follow where nothing was done
stays_follow : (m : ℕ) (given : Ident → Bool) (p : Plain) (l : Ledger) → IsFresh given p → IsTold m p l → Follow m given p l p l
stays_follow m given p l fresh told = record {
  now = given;
  leads = stays_leads m (side_of p given) (sheet_of m l);
  fresh = fresh;
  known = λ i e. refl;
  told = told;
  same = record { given = refl; senders = refl; receivers = refl; batches = refl };
  steady = refl;
  other = record { places = λ a e. refl; users = λ a e. refl };
  kept = λ u x e f. let same = one_user u x (sym e ∙ f) in record { cut = ap (λ (o : Users). o.cut) same; moment = ap (λ (o : Users). o.moment) same };
}
  where
    one_user : (u x : Users) → Some u ≡ Some x → x ≡ u
    one_user u x e = cc

pub rise_moves : (s : Scenario) (hs : List History) (p : List Line) (x : Line) (z : Stand s hs p) (t : Told_ s hs p x) (noted : Option Noted) (starts started : ℕ) → IsScenario s → (node_after s x.manager p t.h).manager.running ≡ Down noted starts → x.entry.call ≡ calls.Act acts.Restart
    → x.entry.chance ≡ chances.Restart (Comes false started) → done_by x.entry (node_after s x.manager p t.h) ≡ risen_done started noted (node_after s x.manager p t.h) → Moves s hs p x t.h z
rise_moves s hs p x z t noted starts started scenario down call chance is =
    let m : ℕ = x.manager in
    let b : Plain = base_of s p x t.h in
    let l : Ledger = ledger (opening_ledger s hs) p in
    let e : Entry = x.entry in
    let a = z.at m t.h t.is in
    let reply : e.reply ≡ replies.Acted acted.Done = t.tells.reply ∙ ap (λ (o : Done). o.reply) is in
    let delta : e.effect.delta ≡ [] = t.tells.delta ∙ ap (λ (o : Done). o.delta) is in
    let posts : ledger (opening_ledger s hs) (p ++ x ∷ []) ≡ ledgers.up_again m l = ledger_step (opening_ledger s hs) p x ∙ ap (λ (o : Reply). posted m e o l) reply
    ∙ (λ i. ledgers.come_up m (chance i) (delta i) (ledgers.post_call m (call i) (reply i) e.effect.received (delta i) (ledgers.take_all_gone m (delta i) l))) in
    follow_moves s hs p x z t noted starts started [] b l scenario down is posts refl (stays_follow m z.given b l a.fresh a.told) (restart_sound started noted b (subst (λ (r : Running). IsState r b) down a.state))
