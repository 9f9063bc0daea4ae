-- A found word of a receiver's end, as what it is of the network.
use Rattle.std.proofs.Common.{ℕ, ◌≡◌, List, refl, sym, subst, ◌∙◌}
use Rattle.std.specs.Prelude.{Option, Some, slice_get}
use Rattle.mq_sync.specs.declared.data.End.TheVariants as ends
use Rattle.mq_calls.specs.declared.agents.Note.{Note}
use Rattle.mq_calls.specs.declared.agents.Note.TheVariants as notes
use Rattle.mq_calls.specs.State.{Change, Noted, Plain}
use Rattle.mq_calls.specs.Changes.{apply_all}
use Rattle.mq_calls.specs.Steps.{freeze}
use Rattle.mq_spec_manager.specs.Stops.{redone}
use Rattle.mq_spec_manager.specs.Agents.{harden_part}
use Rattle.mq_spec_network.specs.Ledger.{change_at}
use Rattle.mq_law_channel.specs.Channel.{Channel, Past}
use Rattle.mq_law_turns.specs.from_law_rows.World.{World}
use Rattle.mq_law_turns.specs.from_law_seen.Seen.{world_of}
use Rattle.mq_law_found.specs.from_law_events.Tied.{IsNext}
use Rattle.mq_law_turns.proofs.from_law_batches.Wording.{words}
use Rattle.mq_law_node.specs.Moves.{far_does}
use Rattle.mq_law_turns.specs.Turns.{IsJoint, Scene, Taken, world_in}
use Rattle.mq_law_turns.proofs.Parts.{next_mid, world_behind}
use Rattle.mq_law_turns.proofs.Taking.{same_taken}
use Rattle.mq_law_stopped.specs.Noted.{ReceiverNote, left_as}
use Rattle.mq_law_stopped.proofs.Redoing.{redone_stays}

-- a word is the same whether the manager runs or not
pub word_same : (c : List ℕ) (w : Note) (p : Plain) → (harden_part c w (left_as p)).changes ≡ (harden_part c w p).changes
word_same c (notes.Session partner session) p = refl
word_same c (notes.Resolved unit commit operator) p = refl
word_same c (notes.Bound partner session last) p = refl
word_same c (notes.Closed session) p = refl
word_same c (notes.SeqSet ends.Sender last) p = refl
word_same c (notes.SeqSet ends.Receiver last) p = refl

-- and where a stopped write has left it
pub word_frozen : (c : List ℕ) (w : Note) (note : Option Noted) (left : ℕ) (p : Plain) → (harden_part c w p).changes ≡ (harden_part c w (left_as (freeze note left p))).changes
word_frozen c (notes.Session partner session) note left p = refl
word_frozen c (notes.Resolved unit commit operator) note left p = refl
word_frozen c (notes.Bound partner session last) note left p = refl
word_frozen c (notes.Closed session) note left p = refl
word_frozen c (notes.SeqSet ends.Sender last) note left p = refl
word_frozen c (notes.SeqSet ends.Receiver last) note left p = refl

pub far_redone : (z : Scene) (p : Plain) (x : Channel) (y : Past) (note : Noted) (k : ReceiverNote z.place.channel (left_as p) note x) (rs : List Plain) → slice_get z.managers z.receiver ≡ Some p
    → IsJoint (world_in z) z.ghost z.book z.sender z.receiver z.place.channel x y → IsNext z.receiver p (redone note p) z.managers rs → Taken z (world_of z.scenario z.given rs) z.book (far_does k.step x) y
far_redone z p x y note k rs at joint h =
    let c : List ℕ = z.place.channel in
    let cs : List Change = (harden_part c k.word p).changes in
    let q : Plain = apply_all cs p in
    let mid : List Plain = change_at z.receiver (λ (o : Plain). q) z.managers in
    let e = world_behind z.scenario z.given z.receiver p q _ z.managers rs h (redone_stays note cs p (k.says ∙ word_same c k.word p)) in
    let f = words z.scenario z.given z.receiver p z.managers mid c k.word k.is (next_mid z.receiver p q _ z.managers rs h) in
    subst (λ (w : World). Taken z w z.book (far_does k.step x) y) (sym (e ∙ f)) (same_taken z x (far_does k.step x) y joint k.unit)
