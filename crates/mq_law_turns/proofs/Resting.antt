-- A manager that stops or starts again, and the channels of the network: a batch that was not prepared is no longer held, a unit in doubt is.
use Rattle.std.proofs.Common.{ℕ, ◌≡◌, Bool, true, List, refl, ap, sym, ◌∙◌}
use Rattle.std.specs.Prelude.{Option, Some, None, ◌==◌, if◌then◌else◌, is_some, slice_get}
use Rattle.mq_message.specs.declared.message.Ident.{Ident}
use Rattle.mq_sync.specs.declared.data.InDoubt.{InDoubt}
use Rattle.mq_calls.specs.declared.state.Batch.{Batch}
use Rattle.mq_history.specs.declared.scenario.Scenario.{Scenario}
use Rattle.mq_calls.specs.State.{Plain}
use Rattle.mq_calls.specs.Reads.{batch_of, in_doubt_of, receiver_in, sender_data, sender_in}
use Rattle.mq_spec_network.specs.Standing.{last_unit_of}
use Rattle.mq_law_channel.specs.Channel.{Channel, Facts, Past}
use Rattle.mq_law_channel.specs.Turns.{emptied, released}
use Rattle.mq_law_channel.proofs.Sending.{not_forced}
use Rattle.mq_law_story.specs.from_law_rows.World.{Ghost, World}
use Rattle.mq_law_story.proofs.from_law_rows.Lists.{bool_case, eqb_yes, true_false}
use Rattle.mq_law_story.specs.from_law_seen.Seen.{doubt_of, held_unit, holds_of, world_of}
use Rattle.mq_law_batches.specs.from_law_events.Tied.{IsNext}
use Rattle.mq_law_batches.proofs.Releasing.{IsNear, lasts}
use Rattle.mq_law_story.specs.Needs.{IsTied}
use Rattle.mq_law_turns.specs.Turns.{IsAtRest}
use Rattle.mq_law_turns.proofs.Parts.{no_doubt_held, not_doubted}

-- a unit in doubt is held whatever the batches are
doubt_holds : (o : Option InDoubt) (b : Option Batch) → is_some o ≡ true → held_unit o None ≡ held_unit o b
doubt_holds None b e = absurd (true_false (sym e))
doubt_holds (Some d) b e = refl

resting_near : (p q : Plain) → IsAtRest p q → IsNear p q
resting_near p q k = record { given = k.given; receivers = λ d. ap (λ rs. last_unit_of (receiver_in d rs)) k.receivers }

-- at the manager that rests
rests_here : (w v : World) (g h : Ghost) (m t : ℕ) (c : List ℕ) (x k : Channel) (y : Past) (o : Option InDoubt) (b : Option Batch) → w.holds m c ≡ held_unit o b → w.doubt m c ≡ is_some o → v.holds m c ≡ held_unit o None → v.doubt m c ≡ is_some o → v.last m c ≡ w.last m c
    → h.sent ≡ g.sent → h.operated ≡ g.operated → Facts x y → k.receives ≡ x.receives → IsTied w g m t c x y → IsTied v h m t c k (released y)
rests_here w v g h m t c x k y o b wh wd vh vd last sent ops facts far i =
    bool_case y.near.doubt (λ d. y.near.doubt ≡ d → IsTied v h m t c k (if d then y else emptied y))
    (λ z d. record {
      apart = i.apart;
      last = last ∙ i.last ∙ ap (λ r. r.unit) (sym far);
      held = λ f. let n = i.held f in let s : is_some o ≡ y.near.doubt = sym wd ∙ n.1 in (vh ∙ doubt_holds o b (s ∙ d) ∙ sym wh ∙ n.0, vd ∙ s);
      idle = λ f. vh ∙ ap (λ e. held_unit e None) (no_doubt_held o b (sym wh ∙ i.idle f));
      forced = λ u f e no_. (λ j. ops j m c u) ∙ i.forced u f e (λ q. no_ (ap (λ r. r.unit) far ∙ q));
      content = λ u e. i.content u e ∙ (λ j. sym sent j m c u);
    })
    (λ z d.
    let none : o ≡ None = not_doubted o (sym wd ∙ (i.held (not_forced x y facts.tied d)).1 ∙ d) in
    record {
      apart = i.apart;
      last = last ∙ i.last ∙ ap (λ r. r.unit) (sym far);
      held = λ f. (vh ∙ ap (λ e. held_unit e None) none, vd ∙ ap (λ e. is_some e) none);
      idle = λ f. absurd (true_false (sym f));
      forced = λ u f. absurd (true_false (sym f));
      content = λ u e. absurd cc;
    }) refl

-- and at the others
rests_else : (w v : World) (g h : Ghost) (m t : ℕ) (c : List ℕ) (x k : Channel) (y : Past) → v.holds m c ≡ w.holds m c → v.doubt m c ≡ w.doubt m c → v.last m c ≡ w.last m c
    → h.sent ≡ g.sent → h.operated ≡ g.operated → k.receives ≡ x.receives → IsTied w g m t c x y → IsTied v h m t c k y
rests_else w v g h m t c x k y holds doubt last sent ops far i = record {
  apart = i.apart;
  last = last ∙ i.last ∙ ap (λ r. r.unit) (sym far);
  held = λ f. let n = i.held f in (holds ∙ n.0, doubt ∙ n.1);
  idle = λ f. holds ∙ i.idle f;
  forced = λ u f e no_. (λ j. ops j m c u) ∙ i.forced u f e (λ q. no_ (ap (λ r. r.unit) far ∙ q));
  content = λ u e. i.content u e ∙ (λ j. sym sent j m c u);
}

pub rests : (s : Scenario) (given later : Ident → Bool) (a : ℕ) (p q : Plain) (ps qs : List Plain) (g h : Ghost) (m t : ℕ) (c : List ℕ) (x k : Channel) (y : Past) → IsNext a p q ps qs → IsAtRest p q → h.sent ≡ g.sent → h.operated ≡ g.operated → Facts x y
    → k.receives ≡ x.receives → IsTied (world_of s given ps) g m t c x y → IsTied (world_of s later qs) h m t c k (if m == a then released y else y)
rests s given later a p q ps qs g h m t c x k y n r sent ops facts far i =
    let last = lasts s a p q ps qs c m n (resting_near p q r) in
    bool_case (m == a) (λ z. (m == a) ≡ z → IsTied (world_of s later qs) h m t c k (if z then released y else y))
    (λ z e.
    let is : m ≡ a = eqb_yes m a e in
    let o : Option InDoubt = in_doubt_of (sender_data c p) in
    let before = ap (slice_get ps) is ∙ n.at in
    let after = ap (slice_get qs) is ∙ n.to in
    rests_here (world_of s given ps) (world_of s later qs) g h m t c x k y o (batch_of c p.channels.batches) (ap (holds_of c) before) (ap (doubt_of c) before)
    (ap (holds_of c) after ∙ (λ j. held_unit (in_doubt_of (sender_in c (r.senders j))) (batch_of c (r.batches j))))
    (ap (doubt_of c) after ∙ (λ j. is_some (in_doubt_of (sender_in c (r.senders j))))) last sent ops facts far i)
    (λ z e. rests_else (world_of s given ps) (world_of s later qs) g h m t c x k y (ap (holds_of c) (n.others m e)) (ap (doubt_of c) (n.others m e)) last sent ops far i) refl
