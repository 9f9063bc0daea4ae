-- No batch of a manager was prepared, where each is of a cable's channel.
use Rattle.std.proofs.Common.{ℕ, ◌≡◌, ◌≢◌, Bool, false, List, [], ◌∷◌, refl, ap, sym, subst, ◌∙◌, inl, inr}
use Rattle.std.specs.Prelude.{Option, Some, None, if◌then◌else◌, is_some, slice_get}
use Rattle.std.specs.Str.{bytes_eq}
use Rattle.mq_message.specs.declared.message.Ident.{Ident}
use Rattle.mq_sync.specs.declared.unit.Unit.{Unit as Luw}
use Rattle.mq_sync.specs.declared.data.InDoubt.{InDoubt}
use Rattle.mq_calls.specs.declared.state.Batch.{Batch}
use Rattle.mq_history.specs.declared.scenario.CableLine.{CableLine}
use Rattle.mq_history.specs.declared.scenario.Scenario.{Scenario}
use Rattle.mq_calls.specs.State.{Plain}
use Rattle.mq_calls.specs.Reads.{batch_of, in_doubt_of, sender_data}
use Rattle.mq_spec_network.specs.Story.{Mem}
use Rattle.mq_law_manager.specs.Facts.{IsSound}
use Rattle.mq_law_manager.proofs.Lists.{name_yes}
use Rattle.mq_law_channel.specs.Channel.{Channel, Facts, Past}
use Rattle.mq_law_rows.specs.World.{Book, Ghost}
use Rattle.mq_law_rows.proofs.Lists.{bool_case}
use Rattle.mq_law_turns.specs.from_law_seen.Seen.{doubt_of, held_unit, holds_of, last_of, world_of}
use Rattle.mq_law_turns.specs.from_law_batches.Releases.{AreUnprepared}
use Rattle.mq_law_turns.specs.from_law_story.Needs.{IsTied}
use Rattle.mq_law_turns.proofs.from_law_story.Tying.{unprepared_tied}
use Rattle.mq_law_cables.specs.Joints.{AreJoint, AreCabled}

-- a batch that is found is there, and of that channel
found : (c : List ℕ) (bs : List Batch) (b : Batch) → batch_of c bs ≡ Some b → Mem b bs × (c ≡ b.channel)
found c [] b e = absurd cc
found c (x ∷ bs) b e = bool_case (bytes_eq c x.channel) (λ t. bytes_eq c x.channel ≡ t → (if t then Some x else batch_of c bs) ≡ Some b → Mem b (x ∷ bs) × (c ≡ b.channel))
    (λ z f k. let same : x ≡ b = some_is x b k in (inl (sym same), name_yes c x.channel f ∙ ap (λ (y : Batch). y.channel) same))
    (λ z f k. let r = found c bs b k in (inr r.0, r.1)) refl e
  where
    some_is : (x y : Batch) → Some x ≡ Some y → x ≡ y
    some_is x y e = cc

some_none : (u : Luw) → Some u ≡ None → ⊥
some_none u e = cc

-- no channel has both a batch and a unit in doubt
abbrev pub IsOne : Plain → Type 0
IsOne p = (c : List ℕ) (b : Batch) → batch_of c p.channels.batches ≡ Some b → in_doubt_of (sender_data c p) ≡ None

apart : (s : Scenario) (given : Ident → Bool) (ps : List Plain) (g : Ghost) (m t : ℕ) (p : Plain) (c : List ℕ) (x : Channel) (y : Past) (b : Batch) → slice_get ps m ≡ Some p → IsOne p → batch_of c p.channels.batches ≡ Some b → IsTied (world_of s given ps) g m t c x y → Facts x y
    → last_of s ps c (Some p) ≢ b.unit
apart s given ps g m t p c x y b at sound is tied facts e =
    let none : in_doubt_of (sender_data c p) ≡ None = sound c b is in
    let holds : (world_of s given ps).holds m c ≡ Some b.unit = ap (holds_of c) at ∙ (λ i. held_unit (none i) (is i)) in
    let doubt : (world_of s given ps).doubt m c ≡ false = ap (doubt_of c) at ∙ ap (λ (o : Option InDoubt). is_some o) none in
    let free : y.forced ≡ false = bool_case y.forced (λ z. y.forced ≡ z → z ≡ false) (λ z f. absurd (some_none b.unit (sym holds ∙ tied.idle f))) (λ z f. refl) refl in
    unprepared_tied (world_of s given ps) g m t c x y tied facts free (sym (tied.held free).1 ∙ doubt) b.unit holds (ap (last_of s ps c) at ∙ e)

pub unprepared_still : (s : Scenario) (given : Ident → Bool) (ps : List Plain) (g : Ghost) (b : Book) (ks : List CableLine) (xs : ℕ → List ℕ → Channel) (ys : ℕ → List ℕ → Past) (m : ℕ) (p : Plain) → slice_get ps m ≡ Some p → IsOne p → AreCabled ks m p
    → ((k : CableLine) → Mem k ks → Facts (xs k.sender k.channel) (ys k.sender k.channel)) → AreJoint (world_of s given ps) g b ks xs ys → AreUnprepared s ps p
unprepared_still s given ps g b ks xs ys m p at sound cabled facts j = record {
  alone = λ x n. sound x.channel x (cabled.once x n);
  apart = λ c x is e.
      let f = found c p.channels.batches x is in
      let k = cabled.line x f.0 in
      let same : c ≡ k.0.channel = f.1 ∙ sym k.3 in
      let tied : IsTied (world_of s given ps) g m k.0.receiver c (xs k.0.sender k.0.channel) (ys k.0.sender k.0.channel) =
      subst (λ d. IsTied (world_of s given ps) g m k.0.receiver d (xs k.0.sender k.0.channel) (ys k.0.sender k.0.channel)) (sym same)
      (subst (λ a. IsTied (world_of s given ps) g a k.0.receiver k.0.channel (xs k.0.sender k.0.channel) (ys k.0.sender k.0.channel)) k.2 (j.tied k.0 k.1)) in
      apart s given ps g m k.0.receiver p c (xs k.0.sender k.0.channel) (ys k.0.sender k.0.channel) x at sound is tied (facts k.0 k.1) e;
}

pub unprepared : (s : Scenario) (given : Ident → Bool) (ps : List Plain) (g : Ghost) (b : Book) (ks : List CableLine) (xs : ℕ → List ℕ → Channel) (ys : ℕ → List ℕ → Past) (m : ℕ) (p : Plain) → slice_get ps m ≡ Some p → IsSound p → AreCabled ks m p
    → ((k : CableLine) → Mem k ks → Facts (xs k.sender k.channel) (ys k.sender k.channel)) → AreJoint (world_of s given ps) g b ks xs ys → AreUnprepared s ps p
unprepared s given ps g b ks xs ys m p at sound cabled facts j = unprepared_still s given ps g b ks xs ys m p at sound.facts.batched.one cabled facts j
