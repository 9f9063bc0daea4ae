-- Each event of a manager that is no stop, no restart, no turn, timeout or command on an end of a channel.
use Rattle.std.proofs.Common.{ℕ, ◌≡◌, Bool, true, false, refl, ap, sym, ◌∙◌, arith}
use Rattle.std.specs.Prelude.{Option, Some, None, ◌==◌, ◌+◌, ◌&&◌, ◌||◌, nat_lt}
use Rattle.std.proofs.lemmas.Bool.Decides.{nat_tests}
use Rattle.mq_message.specs.declared.message.Ident.{Ident}
use Rattle.mq_frame.specs.declared.frame.Seen.{Seen}
use Rattle.mq_calls.specs.declared.choices.Return.{Return}
use Rattle.mq_history.specs.declared.acts.Act.TheVariants as acts
use Rattle.mq_history.specs.declared.calls.Actor.{Actor}
use Rattle.mq_history.specs.declared.calls.Actor.TheVariants as actors
use Rattle.mq_history.specs.declared.calls.Call.{Call}
use Rattle.mq_history.specs.declared.calls.Call.TheVariants as calls
use Rattle.mq_history.specs.declared.calls.Chance.{Chance}
use Rattle.mq_history.specs.declared.calls.Chance.TheVariants as chances
use Rattle.mq_history.specs.declared.calls.Entry.{Entry}
use Rattle.mq_sc_parse.specs.declared.command.Command.TheVariants as lines
use Rattle.mq_calls.specs.State.{Plain, Running, Noted}
use Rattle.mq_calls.specs.State.Running.{Up, Down}
use Rattle.mq_spec_manager.specs.Get.{mqget}
use Rattle.mq_spec_node.specs.Node.{Node, handler_in}
use Rattle.mq_spec_node.specs.Deeds.{Deed}
use Rattle.mq_spec_node.specs.Happens.{get_deed, trigger_deed, IsEvent, IsDeed, where_up, turn_up}
use Rattle.mq_spec_node.specs.Replays.{IsOwn}
use Rattle.mq_spec_network.specs.Ledger as ledgers
use Rattle.mq_spec_network.specs.Ledger.{Ledger, users_at, users_or}
use Rattle.mq_law_events.specs.Tied.{IsElse}
use Rattle.mq_law_one.specs.Alone.{IsNotedAt, IsAt, IsOwnCall}
use Rattle.mq_law_one.proofs.Calls.{Happens, conn_happens, disc_happens, open_happens, close_happens, put_happens, put1_happens, get_happens, commit_happens, back_happens}
use Rattle.mq_law_one.proofs.Acting.{no_deed, command_happens, status_happens, aside_happens, clock_happens, trigger_happens}
use Rattle.mq_law_one.proofs.Handling.{turn_happens}

never_restart : (d : Option Deed) (choice : Return) (n : Node) → IsDeed d (chances.Restart choice) n → ⊥
never_restart None choice n z = z
never_restart (Some d) choice n z = z

pub ordinary_happens : {E : ledgers.Stopped → Noted → Plain → Type 0} (m : ℕ) (given : Ident → Bool) (n : Node) (l : Ledger) (e : Entry) (stamp : ℕ) (actor : Actor) (call : Call) (chance : Chance) (seen : Seen) → IsAt E m given n l → IsOwnCall actor call → IsEvent stamp actor call chance seen n → IsOwn chance
    → Happens E m given n l e stamp actor call chance seen
ordinary_happens {E} m given n l e stamp actor (calls.Mqconn qmgr appl) (chances.Call choice) seen a is can own = conn_happens m given n l e actor choice qmgr appl a can
ordinary_happens {E} m given n l e stamp actor (calls.Mqdisc hc) (chances.Call choice) seen a is can own = disc_happens m given n l e actor choice hc a can
ordinary_happens {E} m given n l e stamp actor (calls.Mqopen hc name qmgr how) (chances.Call choice) seen a is can own = open_happens m given n l e actor choice hc name qmgr how a can
ordinary_happens {E} m given n l e stamp actor (calls.Mqclose hc ho) (chances.Call choice) seen a is can own = close_happens m given n l e actor choice hc ho a can
ordinary_happens {E} m given n l e stamp actor (calls.Mqput hc ho md body sync) (chances.Call choice) seen a is can own = put_happens m given n l e actor choice hc ho md body sync a can
ordinary_happens {E} m given n l e stamp actor (calls.Mqput1 hc name qmgr md body sync) (chances.Call choice) seen a is can own = put1_happens m given n l e actor choice hc name qmgr md body sync a can
ordinary_happens {E} m given n l e stamp actor (calls.Mqget hc ho get until) (chances.Call choice) seen a is can own = get_happens m given n l e actor choice hc ho get until a can
ordinary_happens {E} m given n l e stamp actor (calls.Mqget hc ho get until) (chances.Restart choice) seen a is can own = absurd (never_restart (get_deed n.own (mqget hc ho get until n.manager)) choice n can)
ordinary_happens {E} m given n l e stamp actor (calls.Mqget hc ho get until) (chances.Foreign image length left) seen a is can own = absurd own
ordinary_happens {E} m given n l e stamp actor (calls.Mqcmit hc) (chances.Call choice) seen a is can own = commit_happens m given n l e actor choice hc a can
ordinary_happens {E} m given n l e stamp actor (calls.Mqback hc) (chances.Call choice) seen a is can own = back_happens m given n l e actor choice hc a can
ordinary_happens {E} m given n l e stamp actor (calls.Act (acts.Obey (lines.Objects c))) (chances.Call choice) seen a is can own = command_happens m given n l e actor choice c a can
ordinary_happens {E} m given n l e stamp actor (calls.Act (acts.Obey (lines.Operate op))) (chances.Call choice) seen a is can own = absurd is
ordinary_happens {E} m given n l e stamp actor (calls.Act (acts.Obey (lines.ShowStatus name any_end))) (chances.Call choice) seen a is can own = status_happens m given n l e actor choice name any_end a can
ordinary_happens {E} m given n l e stamp actor (calls.Act acts.Crash) chance seen a is can own = absurd is
ordinary_happens {E} m given n l e stamp actor (calls.Act acts.Restart) chance seen a is can own = absurd is
ordinary_happens {E} m given n l e stamp actor (calls.Act (acts.Cut k)) (chances.Call choice) seen a is can own = aside_happens m given n l n.own n.manager.running (record n.manager.log { armed = k }) a refl a.noted
ordinary_happens {E} m given n l e stamp actor (calls.Act (acts.Clock by_)) (chances.Call choice) seen a is can own = clock_happens m given n l by_ a
ordinary_happens {E} m given n l e stamp (actors.Handler number) calls.Turn (chances.Call choice) seen a is can own = turn_happens m given n l e (actors.Handler number) choice n.manager.running (handler_in number n.own.handlers) a refl can
ordinary_happens {E} m given n l e stamp (actors.Sender k) calls.Turn (chances.Call choice) seen a is can own = absurd is
ordinary_happens {E} m given n l e stamp (actors.Receiver k) calls.Turn (chances.Call choice) seen a is can own = absurd is
ordinary_happens {E} m given n l e stamp actor calls.Turn (chances.Call choice) seen a is can own = absurd (no_deed n.manager.running None (chances.Call choice) n refl can)
ordinary_happens {E} m given n l e stamp actor calls.Turn (chances.Restart choice) seen a is can own = absurd (never_restart (where_up n.manager.running (turn_up stamp actor seen n)) choice n can)
ordinary_happens {E} m given n l e stamp actor calls.Turn (chances.Foreign image length left) seen a is can own = absurd own
ordinary_happens {E} m given n l e stamp actor calls.Timeout chance seen a is can own = absurd is
ordinary_happens {E} m given n l e stamp actor calls.Trigger (chances.Call choice) seen a is can own = trigger_happens m given n l e stamp actor choice seen a can
ordinary_happens {E} m given n l e stamp actor calls.Trigger (chances.Restart choice) seen a is can own = absurd (never_restart (trigger_deed n) choice n can)
ordinary_happens {E} m given n l e stamp actor calls.Trigger (chances.Foreign image length left) seen a is can own = absurd own
ordinary_happens {E} m given n l e stamp actor call chance seen a is can own = absurd can

-- The other managers stay

other_number : (i : Ident) (a m k : ℕ) (t : Bool) → (a == m) ≡ false → k ≡ m + 1 → ((i.manager == a + 1) && t) ≡ true → (i.manager == k) ≡ false
other_number i a m k t ne e u = grind (arith, nat_tests)

pub elsewhere_noted : (E : ledgers.Stopped → Noted → Plain → Type 0) (a : ℕ) (r : Running) (p : Plain) (l k : Ledger) → (users_at a k).cut ≡ (users_at a l).cut → IsNotedAt E a r p l → IsNotedAt E a r p k
elsewhere_noted E a Up p l k e h = tt
elsewhere_noted E a (Down None starts) p l k e h = tt
elsewhere_noted E a (Down (Some n) starts) p l k e h = (h.0, e ∙ h.1, h.2)

pub stays_at : {E : ledgers.Stopped → Noted → Plain → Type 0} (m a : ℕ) (given now : Ident → Bool) (n c : Node) (l k : Ledger) → (a == m) ≡ false → IsAt E a given c l → n.manager.given.number ≡ m + 1 → ((i : Ident) → (i.manager == n.manager.given.number) ≡ false → now i ≡ given i) → IsElse m l k → IsAt E a now c k
stays_at {E} m a given now n c l k ne at number known other = record {
  told = record { places = at.told.places; placed = other.places a ne ∙ at.told.placed; shelved = at.told.shelved; name = at.told.name; definitions = at.told.definitions; users = at.told.users; used = other.users a ne ∙ at.told.used; connections = at.told.connections };
  fresh = λ i u. known i (other_number i a m n.manager.given.number _ ne number (ap (λ z. (i.manager == z) && (nat_lt c.manager.numbers.incarnation i.incarnation || ((i.incarnation == c.manager.numbers.incarnation) && nat_lt c.manager.numbers.idents i.number))) (sym at.number) ∙ u)) ∙ at.fresh i u;
  number = at.number;
  timed = record { users = at.timed.users; used = other.users a ne ∙ at.timed.used; moment = at.timed.moment };
  state = at.state;
  noted = elsewhere_noted E a c.manager.running c.manager l k (ap (λ o. (users_or o).cut) (other.users a ne)) at.noted;
}
