-- A network begins with all its channels tied.
use Rattle.std.proofs.Common.{ℕ, ◌≡◌, ◌≢◌, ◌+◌, Bool, false, List, [], ◌∷◌, refl, ap, sym, ◌∙◌, inl, inr}
use Rattle.std.specs.Prelude.{Option, Some, None, All, slice_get}
use Rattle.std.specs.Option.{option_map}
use Rattle.std.proofs.lemmas.List.Elements.{All-head, All-tail}
use Rattle.mq_message.specs.declared.message.Ident.{Ident}
use Rattle.mq_sync.specs.declared.unit.Unit.{Unit as Luw}
use Rattle.mq_sync.specs.declared.data.InDoubt.{InDoubt}
use Rattle.mq_calls.specs.declared.state.Batch.{Batch}
use Rattle.mq_history.specs.declared.scenario.CableLine.{CableLine}
use Rattle.mq_history.specs.declared.scenario.Scenario.{Scenario}
use Rattle.mq_history.specs.Scenarios.{IsCable, IsScenario}
use Rattle.mq_calls.specs.State.{Plain}
use Rattle.mq_calls.specs.Reads.{batch_of, in_doubt_of, sender_data}
use Rattle.mq_spec_network.specs.Standing.{last_unit, last_unit_at}
use Rattle.mq_spec_network.specs.Story.{Mem}
use Rattle.mq_law_channel.specs.Channel.{Channel, Past}
use Rattle.mq_law_channel.specs.Opening.{doubt_unit}
use Rattle.mq_law_rows.specs.World.{Book, Ghost, Inv}
use Rattle.mq_law_rows.proofs.Lists.{true_false}
use Rattle.mq_law_turns.specs.from_law_seen.Seen.{doubt_of, held_unit, holds_of, last_of, world_of}
use Rattle.mq_law_turns.specs.from_law_receipts.Receipts.{IsCabled}
use Rattle.mq_law_turns.proofs.from_law_receipts.Cabling.{cabled}
use Rattle.mq_law_cables.specs.Joints.{AreJoint, Begins}

held_none : (o : Option InDoubt) → held_unit o None ≡ option_map doubt_unit o
held_none None = refl
held_none (Some d) = refl

each_cable : (s : Scenario) (ks : List CableLine) (k : CableLine) → All (IsCable s) ks → Mem k ks → k.sender ≢ k.receiver
each_cable s [] k h n = absurd n
each_cable s (x ∷ ks) k h (inl e) = λ z. (All-head (IsCable s) x ks h).apart (ap (λ (c : CableLine). c.sender) (sym e) ∙ z ∙ ap (λ (c : CableLine). c.receiver) e)
each_cable s (x ∷ ks) k h (inr n) = each_cable s ks k (All-tail (IsCable s) x ks h) n

pub begins : (s : Scenario) (given : Ident → Bool) (ps : List Plain) (g : Ghost) (b : Book) (xs : ℕ → List ℕ → Channel) (ys : ℕ → List ℕ → Past) → IsScenario s → ((a : ℕ) (p : Plain) → slice_get ps a ≡ Some p → p.given.number ≡ a + 1) → Inv (world_of s given ps) g b
    → ((m : ℕ) (c : List ℕ) (u : Luw) → g.operated m c u ≡ false) → ((k : CableLine) → Mem k s.cables → Begins ps (g.sent k.sender k.channel) k (xs k.sender k.channel) (ys k.sender k.channel)) → AreJoint (world_of s given ps) g b s.cables xs ys
begins s given ps g b xs ys is numbers inv calm each = record {
  inv = inv;
  tied = λ k n.
      let e = each k n in
      let c : List ℕ = k.channel in
      let line : IsCabled s ps k.sender k.receiver c = cabled s ps k e.sender is n numbers e.at in
      record {
        apart = λ z. each_cable s s.cables k is.cables n (sym z);
        last = ap (last_of s ps c) line.at ∙ ap (last_unit ps c) line.from ∙ ap (last_unit_at c) (ap (slice_get ps) line.to ∙ e.there) ∙ sym e.last;
        held = λ f. (
          ap (holds_of c) e.at ∙ ap (λ (bs : List Batch). held_unit (in_doubt_of (sender_data c e.sender)) (batch_of c bs)) e.rests ∙ held_none (in_doubt_of (sender_data c e.sender)) ∙ sym e.holds,
          ap (doubt_of c) e.at ∙ sym e.doubt,
        );
        idle = λ f. absurd (true_false (sym f ∙ e.forced));
        forced = λ u f. absurd (true_false (sym f ∙ e.forced));
        content = λ u z. e.content u;
      };
  begun = λ k n u z. absurd (true_false (sym z ∙ calm k.sender k.channel u));
}
