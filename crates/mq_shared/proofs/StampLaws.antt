-- What an entry tells of an end's turn and of a timeout: a frame that is offered has the entry's stamp; a timeout neither offers nor pops.
use Rattle.std.proofs.Common.{◌≡◌, ℕ, ◌+◌, ◌≤◌, ◌^◌, Bool, true, false, length, refl, sym, ap, subst, ◌∙◌, arith, inl, inr}
use Rattle.std.specs.Prelude.{◌⊎◌, ◌||◌, if◌then◌else◌, nat_le, Option, Some, None}
use Rattle.std.proofs.lemmas.Bool.Decides.{nat_tests}
use Rattle.mq_calls.specs.declared.choices.Choice.{Choice}
use Rattle.mq_calls.specs.declared.choices.Choice.TheVariants.{Runs, NoMemory, Stopped}
use Rattle.mq_calls.specs.State.{Running}
use Rattle.mq_calls.specs.State.Running.{Up, Down}
use Rattle.mq_frame.specs.declared.frame.Frame.{Frame}
use Rattle.mq_frame.specs.declared.frame.Seen.{Seen}
use Rattle.mq_frame.specs.declared.frame.Seen.TheVariants as items
use Rattle.mq_history.specs.declared.calls.Actor.{Actor}
use Rattle.mq_history.specs.declared.calls.Actor.TheVariants as actors
use Rattle.mq_history.specs.declared.calls.Call.{Call}
use Rattle.mq_history.specs.declared.calls.Call.TheVariants as calls
use Rattle.mq_history.specs.declared.calls.Chance.{Chance}
use Rattle.mq_history.specs.declared.calls.Chance.TheVariants as chances
use Rattle.mq_history.specs.declared.calls.Entry.{Entry}
use Rattle.mq_sender.specs.States.{awaits, timed_out}
use Rattle.mq_spec_node.specs.Calls.{timeout_of, where_up}
use Rattle.mq_spec_node.specs.Happens.{IsDeed, IsEvent, choice_event, done_or, event}
use Rattle.mq_spec_node.specs.Replays.{IsPop, IsStamp, Tells}
use Rattle.mq_spec_node.specs.Senders.{after_timeout}
use Rattle.mq_spec_node.specs.Deeds.{done}
use Rattle.mq_spec_node.specs.Words.{CanCome, Deed, Node, SenderEnd, deed_of, sender_end}
use Rattle.mq_spec_network.specs.Cables.{is_popped}
use Rattle.mq_acts.specs.from_events.States.{NodeState, node_in}
use Rattle.mq_acts.specs.from_events.Events.{MayAct}
use Rattle.mq_shared.proofs.DeedLaws.{IsEnd, PushesOr}

-- A TURN: the deed came, under a choice.
record Came (o : Option Deed) (pushed : Option Frame) (n : Node) : Type 0 where
  deed : Deed
  is : o ≡ Some deed
  choice : Choice
  can : CanCome deed choice n
  told : pushed ≡ (done deed choice n).pushed

came : (o : Option Deed) (chance : Chance) (n : Node) (pushed : Option Frame) → IsDeed o chance n → pushed ≡ (choice_event chance o n).pushed → Came o pushed n
came None chance n pushed h e = absurd h
came (Some d) (chances.Call choice) n pushed h e = record { deed = d; is = refl; choice = choice; can = h; told = e }
came (Some d) (chances.Restart choice) n pushed h e = absurd h
came (Some d) (chances.Foreign image long left) n pushed h e = absurd h

silent_choice : (d : Deed) (n : Node) (choice : Choice) → d.pushed ≡ None → (done d choice n).pushed ≡ None
silent_choice d n Runs none = none
silent_choice d n NoMemory none = refl
silent_choice d n (Stopped part left by) none = refl

as_deed : (s : ℕ) (d : Deed) (n : Node) (choice : Choice) (pushed : Option Frame) → PushesOr s (Some d) n → CanCome d choice n → pushed ≡ (done d choice n).pushed → pushed ≡ d.pushed
as_deed s d n choice pushed (inl none) can told = told ∙ silent_choice d n choice none ∙ sym none
as_deed s d n choice pushed (inr p) can told = told ∙ ap (λ (c : Choice). (done d c n).pushed) (p.runs choice can)

deed_stamp : (s : ℕ) (d : Deed) (n : Node) (f : Frame) → PushesOr s (Some d) n → d.pushed ≡ Some f → f.stamp ≡ s
deed_stamp s d n f (inl none) is = absurd (let no_ : None ≡ Some f = sym none ∙ is in cc)
deed_stamp s d n f (inr p) is = p.stamped f is

-- what an entry tells of an end's turn: its deed, and what it offers
pub record TurnTold (who : Actor) (n : Node) (e : Entry) : Type 0 where
  pub deed : Deed
  pub is : deed_of e.stamp who calls.Turn e.effect.popped n ≡ Some deed
  pub pushed : e.effect.pushed ≡ deed.pushed
  pub stamped : (g : Frame) → e.effect.pushed ≡ Some g → g.stamp ≡ e.stamp

pub turn_told : (who : Actor) (n : Node) (last : ℕ) (e : Entry) → IsEnd who → Tells n last e → e.actor ≡ who → e.call ≡ calls.Turn → TurnTold who n e
turn_told who n last e end t actor call = record {
  deed = comes.deed;
  is = comes.is;
  pushed = pushed_is;
  stamped = λ g is. deed_stamp e.stamp comes.deed n g pushes_so (sym pushed_is ∙ is);
}
  where
    deed : Option Deed
    deed = deed_of e.stamp who calls.Turn e.effect.popped n

    happens : IsDeed deed e.chance n
    happens = subst (λ (w : Actor). IsEvent e.stamp w calls.Turn e.chance e.effect.popped n) actor (subst (λ (c : Call). IsEvent e.stamp e.actor c e.chance e.effect.popped n) call t.event)

    pushed_so : e.effect.pushed ≡ (choice_event e.chance deed n).pushed
    pushed_so =
        t.pushed ∙ ap (λ (c : Call). (event e.stamp e.actor c e.chance e.effect.popped n).pushed) call ∙ ap (λ (w : Actor). (event e.stamp w calls.Turn e.chance e.effect.popped n).pushed) actor

    comes : Came deed e.effect.pushed n
    comes = came deed e.chance n e.effect.pushed happens pushed_so

    pushes_so : PushesOr e.stamp (Some comes.deed) n
    pushes_so = subst (λ (o : Option Deed). PushesOr e.stamp o n) comes.is (end.pushes e.stamp e.effect.popped n)

    pushed_is : e.effect.pushed ≡ comes.deed.pushed
    pushed_is = as_deed e.stamp comes.deed n comes.choice e.effect.pushed pushes_so comes.can comes.told

-- an entry that pops offers nothing
pub popped_silent : (seen : Seen) (pushed : Option Frame) (call : Call) (actor : Actor) → IsPop seen pushed call actor → (seen ≡ items.Nothing) ⊎ (pushed ≡ None)
popped_silent items.Nothing pushed call actor h = inl refl
popped_silent items.Spoiled None call actor h = inr refl
popped_silent items.Spoiled (Some f) call actor h = absurd h
popped_silent (items.Frame g) None call actor h = inr refl
popped_silent (items.Frame g) (Some f) call actor h = absurd h

few_stamp : (n s k : ℕ) → (nat_le (2 ^ 48) k || nat_le (2 ^ 60) n) ≡ false → s ≡ n + 1 → s ≤ 2 ^ 60
few_stamp n s k h e2 = by_test (nat_le (2 ^ 48) k) (nat_le (2 ^ 60) n) refl h
  where
    by_test : (c d : Bool) → nat_le (2 ^ 60) n ≡ d → (c || d) ≡ false → s ≤ 2 ^ 60
    by_test true d le k2 = absurd cc
    by_test false true le k2 = absurd cc
    by_test false false le k2 = grind (arith, nat_tests)

-- so a frame that is offered has a stamp of at most 2^60
pub pushed_low : (who : Actor) (old : NodeState) (e : Entry) (g : Frame) → IsEnd who → MayAct old → Tells (node_in old) old.stamp e → e.actor ≡ who → e.call ≡ calls.Turn → e.effect.pushed ≡ Some g → g.stamp ≤ 2 ^ 60
pushed_low who old e g end may t actor call is =
    subst (λ (n : ℕ). n ≤ 2 ^ 60) (sym ((turn_told who (node_in old) old.stamp e end t actor call).stamped g is)) (few_stamp old.stamp e.stamp (length old.history.entries) may next)
  where
    none : (e.effect.popped ≡ items.Nothing) ⊎ (e.effect.pushed ≡ None) → e.effect.popped ≡ items.Nothing
    none (inl x) = x
    none (inr x) = absurd (let no_ : None ≡ Some g = sym x ∙ is in cc)

    next : e.stamp ≡ old.stamp + 1
    next = subst (λ (s : Seen). IsStamp old.stamp s e.stamp) (none (popped_silent e.effect.popped e.effect.pushed e.call e.actor t.popped)) t.stamp

-- A TIMEOUT
abbrev if_due : Node → Bool → SenderEnd → Option Deed
if_due n b e = if b then Some (after_timeout e (timed_out e.machine) n) else None

offers_none : (n : Node) (q : Running) (o : Option SenderEnd) (choice : Choice) → (done_or (where_up q (timeout_of o n)) choice n).pushed ≡ None
offers_none n (Down noted starts) o choice = refl
offers_none n Up None choice = refl
offers_none n Up (Some e) choice = by (awaits e.machine.state) choice
  where
    by : (b : Bool) (c : Choice) → (done_or (if_due n b e) c n).pushed ≡ None
    by true Runs = refl
    by true NoMemory = refl
    by true (Stopped part how left) = refl
    by false c = refl

pub event_offers : (k stamp : ℕ) (chance : Chance) (seen : Seen) (n : Node) → (event stamp (actors.Sender k) calls.Timeout chance seen n).pushed ≡ None
event_offers k stamp (chances.Call choice) seen n = offers_none n n.manager.running (sender_end k n.own) choice
event_offers k stamp (chances.Restart choice) seen n = refl
event_offers k stamp (chances.Foreign image length left) seen n = refl

takes_none : (pushed : Option Frame) (actor : Actor) (seen : Seen) → IsPop seen pushed calls.Timeout actor → (elim seen as (λ x. Bool) [ items.Nothing ↦ false | items.Spoiled ↦ true | items.Frame f ↦ true ]) ≡ false
takes_none pushed actor items.Nothing h = refl
takes_none None actor items.Spoiled h = absurd h
takes_none (Some f) actor items.Spoiled h = absurd h
takes_none None actor (items.Frame f) h = absurd h
takes_none (Some g) actor (items.Frame f) h = absurd h

pub timeout_silent : (k last : ℕ) (n : Node) (e : Entry) → Tells n last e → e.actor ≡ actors.Sender k → e.call ≡ calls.Timeout → (e.effect.pushed ≡ None) × (is_popped e ≡ false)
timeout_silent k last n e t actor call = (
  t.pushed ∙ ap (λ (a : Actor). (event e.stamp a e.call e.chance e.effect.popped n).pushed) actor ∙ ap (λ (c : Call). (event e.stamp (actors.Sender k) c e.chance e.effect.popped n).pushed) call ∙ event_offers k e.stamp e.chance e.effect.popped n,
  takes_none e.effect.pushed e.actor e.effect.popped (subst (λ (c : Call). IsPop e.effect.popped e.effect.pushed c e.actor) call t.popped),
)
