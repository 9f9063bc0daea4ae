-- What an end of a cable popped was offered to the channel, where frames have their entries' stamps.
use Rattle.std.proofs.Common.{ℕ, ◌≡◌, Bool, true, false, List, ◌∷◌, ◌++◌, refl, ap, subst, ◌∙◌}
use Rattle.std.specs.Prelude.{Some, ◌&&◌, slice_get}
use Rattle.mq_frame.specs.declared.frame.Frame.{Frame}
use Rattle.mq_frame.specs.declared.frame.Seen.{Seen}
use Rattle.mq_frame.specs.declared.frame.Seen.TheVariants as items
use Rattle.mq_history.specs.declared.calls.Actor.{Actor}
use Rattle.mq_history.specs.declared.calls.Actor.TheVariants as actors
use Rattle.mq_history.specs.declared.calls.Entry.{Entry}
use Rattle.mq_history.specs.declared.history.History.{History}
use Rattle.mq_history.specs.declared.scenario.CableLine.{CableLine}
use Rattle.mq_history.specs.declared.scenario.Scenario.{Scenario}
use Rattle.mq_spec_node.specs.Doers.{by, is_receiver, is_sender}
use Rattle.mq_spec_network.specs.Cables.{Carries, is_popped, pops_item}
use Rattle.mq_spec_network.specs.Lawful.{IsLawful}
use Rattle.mq_spec_network.specs.Story.{IsStory, Line, Mem, entries_at}
use Rattle.mq_law_channel.specs.Turns.{SeenIn}
use Rattle.mq_law_rows.proofs.Lists.{eqb_self, eqb_yes}
use Rattle.mq_law_one.proofs.from_law_story.Weaving.{popped_in_prefix}
use Rattle.mq_law_run.specs.Run.{Stand}

-- an item
abbrev is_item : Seen → Bool
is_item v = elim v as (λ x. Bool) [ items.Nothing ↦ false | items.Spoiled ↦ true | items.Frame f ↦ true ]

receiver_is : (i : ℕ) (a : Actor) → is_receiver i a ≡ true → a ≡ actors.Receiver i
receiver_is i (actors.Receiver c) e = ap (λ (n : ℕ). actors.Receiver n) (eqb_yes c i e)
receiver_is i a e = absurd cc

sender_is : (i : ℕ) (a : Actor) → is_sender i a ≡ true → a ≡ actors.Sender i
sender_is i (actors.Sender c) e = ap (λ (n : ℕ). actors.Sender n) (eqb_yes c i e)
sender_is i a e = absurd cc

pub senders_see : (s : Scenario) (hs : List History) (p rest : List Line) (x : Line) (z : Stand s hs p) (i : ℕ) (k : CableLine) → IsStory hs (p ++ x ∷ rest) → IsLawful s hs → slice_get s.cables i ≡ Some k → k.sender ≡ x.manager → x.entry.actor ≡ actors.Sender i
    → ((o : Entry) (f : Frame) → Mem o (entries_at hs k.receiver) → o.effect.pushed ≡ Some f → o.stamp ≡ f.stamp) → SeenIn x.entry.effect.popped (z.xs k.sender k.channel).back
senders_see s hs p rest x z i k story lawful e q actor stamped = go x.entry.effect.popped refl
  where
    go : (v : Seen) → x.entry.effect.popped ≡ v → SeenIn v (z.xs k.sender k.channel).back
    go items.Nothing g = tt
    go items.Spoiled g = tt
    go (items.Frame f) g =
        let c = subst (λ (m : ℕ). Carries k.back (by (is_receiver i) (entries_at hs k.receiver)) (is_sender i) (entries_at hs m)) q (lawful.cables i k e).back in
        let pops : pops_item (is_sender i) x.entry ≡ true = ap (λ (a : Actor). is_sender i a && is_popped x.entry) actor ∙ ap (λ (t : Bool). t && is_popped x.entry) (eqb_self i) ∙ ap is_item g in
        let o = popped_in_prefix hs p x rest k.receiver k.back (is_receiver i) (is_sender i) f story c pops g (λ o n push. stamped o f n push) in
        (z.offered i k e).back o.0 f o.1 (receiver_is i o.0.actor o.2) o.3

pub receivers_see : (s : Scenario) (hs : List History) (p rest : List Line) (x : Line) (z : Stand s hs p) (i : ℕ) (k : CableLine) → IsStory hs (p ++ x ∷ rest) → IsLawful s hs → slice_get s.cables i ≡ Some k → k.receiver ≡ x.manager → x.entry.actor ≡ actors.Receiver i
    → ((o : Entry) (f : Frame) → Mem o (entries_at hs k.sender) → o.effect.pushed ≡ Some f → o.stamp ≡ f.stamp) → SeenIn x.entry.effect.popped (z.xs k.sender k.channel).out
receivers_see s hs p rest x z i k story lawful e q actor stamped = go x.entry.effect.popped refl
  where
    go : (v : Seen) → x.entry.effect.popped ≡ v → SeenIn v (z.xs k.sender k.channel).out
    go items.Nothing g = tt
    go items.Spoiled g = tt
    go (items.Frame f) g =
        let c = subst (λ (m : ℕ). Carries k.out (by (is_sender i) (entries_at hs k.sender)) (is_receiver i) (entries_at hs m)) q (lawful.cables i k e).out in
        let pops : pops_item (is_receiver i) x.entry ≡ true = ap (λ (a : Actor). is_receiver i a && is_popped x.entry) actor ∙ ap (λ (t : Bool). t && is_popped x.entry) (eqb_self i) ∙ ap is_item g in
        let o = popped_in_prefix hs p x rest k.sender k.out (is_sender i) (is_receiver i) f story c pops g (λ o n push. stamped o f n push) in
        (z.offered i k e).out o.0 f o.1 (sender_is i o.0.actor o.2) o.3
