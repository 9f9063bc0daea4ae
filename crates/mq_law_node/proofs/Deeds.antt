-- A deed has what its kind has; and what holds where a manager is up and holds behind each deed, holds behind each event.
use Rattle.std.proofs.Common.{ℕ, zero, suc, ◌≡◌, true, false, List, [], ◌∷◌, refl, sym, subst, ◌∙◌, ◌+◌}
use Rattle.std.specs.Prelude.{Option, Some, None}
use Rattle.mq_frame.specs.declared.frame.Seen.{Seen}
use Rattle.mq_calls.specs.declared.choices.Choice.{Choice}
use Rattle.mq_calls.specs.declared.choices.Choice.TheVariants.{Runs, NoMemory, Stopped}
use Rattle.mq_calls.specs.declared.choices.Return.{Return}
use Rattle.mq_calls.specs.declared.choices.Return.TheVariants.{Comes, Fails}
use Rattle.mq_calls.specs.declared.commands.RestartFault.TheVariants as faults
use Rattle.mq_sc_parse.specs.declared.command.Command.TheVariants as commands
use Rattle.mq_history.specs.declared.acts.Act.TheVariants as acts
use Rattle.mq_history.specs.declared.calls.Actor.{Actor}
use Rattle.mq_history.specs.declared.calls.Actor.TheVariants as actors
use Rattle.mq_history.specs.declared.calls.Call.{Call}
use Rattle.mq_history.specs.declared.calls.Call.TheVariants as calls
use Rattle.mq_history.specs.declared.calls.Chance.{Chance}
use Rattle.mq_history.specs.declared.calls.Chance.TheVariants as chances
use Rattle.mq_calls.specs.State.{Noted, Plain, Running}
use Rattle.mq_calls.specs.State.Running.{Up, Down}
use Rattle.mq_calls.specs.Steps.{IsWrite, Part, do_part, stopped_at}
use Rattle.mq_spec_manager.specs.Stops.{restart_at, restart_down, restarted, stop_at}
use Rattle.mq_spec_node.specs.Node.{ChannelEnd, Node, sender_end}
use Rattle.mq_spec_node.specs.Deeds.{CanCome, Deed, Done, done}
use Rattle.mq_spec_node.specs.Replays.{IsOwn}
use Rattle.mq_spec_node.specs.Happens as happens
use Rattle.mq_spec_node.specs.Happens.{IsDeed, IsEvent, choice_event, crashed, deed_of, event, remembering, timeout_of, turn_up, where_up}
use Rattle.mq_law_seized.proofs.from_law_manager.Untouched.{parts_running}
use Rattle.mq_law_node.specs.Deeds.{DeedHas, HoldsBehind, HoldsUp, IsLasting}
use Rattle.mq_law_node.proofs.NearTotal.{remembered_ends}

-- EACH DEED
up : (has : Option Deed → Type 0) (r : Running) (o : Option Deed) → has None → has o → has (where_up r o)
up has Up o none k = k
up has (Down noted starts) o none k = none

pub deed_has : (has : Option Deed → Type 0) (stamp : ℕ) (actor : Actor) (call : Call) (seen : Seen) (n : Node) → DeedHas has stamp actor call seen n → has (deed_of stamp actor call seen n)
deed_has has stamp (actors.Sender cable) calls.Turn seen n k = up has n.manager.running (turn_up stamp (actors.Sender cable) seen n) k.none (k.sends cable refl refl)
deed_has has stamp (actors.Receiver cable) calls.Turn seen n k = up has n.manager.running (turn_up stamp (actors.Receiver cable) seen n) k.none (k.takes cable refl refl)
deed_has has stamp (actors.Sender cable) calls.Timeout seen n k = up has n.manager.running (timeout_of (sender_end cable n.own) n) k.none (k.times cable refl refl)
deed_has has stamp actor calls.Timeout seen n k = up has n.manager.running None k.none k.none
deed_has has stamp actor (calls.Act (acts.Obey (commands.Operate op))) seen n k = k.operates op refl
deed_has has stamp actor call seen n k = k.ordinary tt

-- WHAT COMES OF IT
down_up : (noted : Option Noted) (starts : ℕ) → Down noted starts ≡ Up → ⊥
down_up noted starts e = cc

stopped_down : (k : ℕ) (parts : List Part) (left : ℕ) (p : Plain) → IsWrite k parts → (stopped_at k parts left p).running ≡ Up → ⊥
stopped_down k [] left p w e = absurd w
stopped_down zero (part ∷ parts) left p w e = cc
stopped_down (suc k) (part ∷ parts) left p w e = stopped_down k parts left (do_part part p) w e

chosen : (holds : List ChannelEnd → Plain → Type 0) (n : Node) (d : Deed) (choice : Choice) → CanCome d choice n → (n.manager.running ≡ Up → HoldsBehind holds n (Some d)) → HoldsUp holds n → HoldsUp holds (done d choice n).next
chosen holds n d Runs can f w on = f (sym (parts_running d.parts n.manager) ∙ on)
chosen holds n d NoMemory can f w on = w on
chosen holds n d (Stopped by_ k left) can f w on = absurd (stopped_down k d.parts left n.manager can.0 on)

happened : (holds : List ChannelEnd → Plain → Type 0) (n : Node) (o : Option Deed) (chance : Chance) → IsDeed o chance n → (n.manager.running ≡ Up → HoldsBehind holds n o) → HoldsUp holds n → HoldsUp holds (choice_event chance o n).next
happened holds n None chance can f w = absurd can
happened holds n (Some d) (chances.Call choice) can f w = chosen holds n d choice can f w
happened holds n (Some d) (chances.Restart choice) can f w = absurd can
happened holds n (Some d) (chances.Foreign image length left) can f w = absurd can

remembers : (holds : List ChannelEnd → Plain → Type 0) (actor : Actor) (call : Call) (d : Done) → HoldsUp holds d.next → HoldsUp holds (remembering actor call d).next
remembers holds actor call d w on = subst (λ (es : List ChannelEnd). holds es d.next.manager) (sym (remembered_ends actor call d.reply d.next.own)) (w on)

-- a stop, and a start
crash : (holds : List ChannelEnd → Plain → Type 0) (r : Running) (n : Node) → n.manager.running ≡ r → HoldsUp holds n → HoldsUp holds (crashed (stop_at r n.manager) n).next
crash holds Up n e w on = absurd (down_up None 0 on)
crash holds (Down noted starts) n e w on = w on

comes_back : (holds : List ChannelEnd → Plain → Type 0) → IsLasting holds → (choice : Return) (noted : Option Noted) (starts : ℕ) (n : Node) → n.manager.running ≡ Down noted starts → HoldsUp holds n
    → HoldsUp holds (happens.restarted (restart_down choice noted starts n.manager) n).next
comes_back holds l (Comes kept started) noted starts n e w on = l.begins n.own.ends (restarted kept started noted n.manager) refl refl refl
comes_back holds l (Fails faults.NoMemory in_write left) noted starts n e w on = w on
comes_back holds l (Fails faults.Cut true left) noted starts n e w on = absurd (down_up noted (starts + 1) on)
comes_back holds l (Fails faults.Cut false left) noted starts n e w on = absurd (down_up noted starts (sym e ∙ on))
comes_back holds l (Fails faults.Disk true left) noted starts n e w on = absurd (down_up noted (starts + 1) on)
comes_back holds l (Fails faults.Disk false left) noted starts n e w on = absurd (down_up noted starts (sym e ∙ on))
comes_back holds l (Fails (faults.BadLog place) true left) noted starts n e w on = absurd (down_up noted (starts + 1) on)
comes_back holds l (Fails (faults.BadLog place) false left) noted starts n e w on = absurd (down_up noted starts (sym e ∙ on))
comes_back holds l (Fails faults.Up true left) noted starts n e w on = absurd (down_up noted (starts + 1) on)
comes_back holds l (Fails faults.Up false left) noted starts n e w on = absurd (down_up noted starts (sym e ∙ on))

returns_at : (holds : List ChannelEnd → Plain → Type 0) → IsLasting holds → (r : Running) (choice : Return) (n : Node) → n.manager.running ≡ r → HoldsUp holds n → HoldsUp holds (happens.restarted (restart_at r choice n.manager) n).next
returns_at holds l Up choice n e w on = w on
returns_at holds l (Down noted starts) choice n e w on = comes_back holds l choice noted starts n e w on

returns : (holds : List ChannelEnd → Plain → Type 0) → IsLasting holds → (chance : Chance) (n : Node) → IsOwn chance → HoldsUp holds n → HoldsUp holds (happens.restart_event chance n).next
returns holds l (chances.Call choice) n own w = w
returns holds l (chances.Restart choice) n own w = returns_at holds l n.manager.running choice n refl w
returns holds l (chances.Foreign image length left) n own w = absurd own

-- EACH EVENT
pub lasts : (holds : List ChannelEnd → Plain → Type 0) → IsLasting holds → (stamp : ℕ) (actor : Actor) (call : Call) (chance : Chance) (seen : Seen) (n : Node) → IsEvent stamp actor call chance seen n → IsOwn chance
    → (n.manager.running ≡ Up → HoldsBehind holds n (deed_of stamp actor call seen n)) → HoldsUp holds n → HoldsUp holds (event stamp actor call chance seen n).next
lasts holds l stamp actor (calls.Act acts.Crash) chance seen n can own f w = crash holds n.manager.running n refl w
lasts holds l stamp actor (calls.Act acts.Restart) chance seen n can own f w = returns holds l chance n own w
lasts holds l stamp actor (calls.Act (acts.Cut k)) chance seen n can own f w = λ on. l.cuts n.own.ends k n.manager (w on)
lasts holds l stamp actor (calls.Act (acts.Clock by_)) chance seen n can own f w = λ on. l.clocks n.own.ends by_ n.manager (w on)
lasts holds l stamp actor call chance seen n can own f w = remembers holds actor call (choice_event chance (deed_of stamp actor call seen n) n) (happened holds n (deed_of stamp actor call seen n) chance can f w)
