-- A channel at the first starts: what a prefix tells of it, before anything is done.
use Rattle.std.proofs.Common.{ℕ, ◌≡◌, ◌≢◌, true, false, not, List, [], ◌∷◌, ap, sym, subst, ◌∙◌, inl, inr, map}
use Rattle.std.specs.Prelude.{Some, ◌&&◌, ◌||◌, if◌then◌else◌, slice_get}
use Rattle.std.specs.Str.{bytes_eq}
use Rattle.mq_sync.specs.declared.unit.Unit.{Unit as Luw}
use Rattle.mq_sync.specs.Units.{same_unit}
use Rattle.mq_history.specs.declared.scenario.CableLine.{CableLine}
use Rattle.mq_history.specs.declared.scenario.Scenario.{Scenario}
use Rattle.mq_history.specs.Scenarios.{IsScenario}
use Rattle.mq_calls.specs.State.{Plain}
use Rattle.mq_calls.specs.Reads.{receiver_data}
use Rattle.mq_spec_network.specs.Conflict.{committed_in}
use Rattle.mq_spec_network.specs.Standing.{cable_named, last_unit, last_unit_at, last_unit_of}
use Rattle.mq_spec_network.specs.Story.{Chain, Mem}
use Rattle.mq_law_channel.specs.Channel.{Channel, Past}
use Rattle.mq_law_channel.proofs.Told.{unit_self}
use Rattle.mq_law_story.proofs.from_law_rows.Lists.{is_false, mem_map, name_self, name_yes, true_false}
use Rattle.mq_law_story.proofs.from_law_seen.Images.{pairs_chain}
use Rattle.mq_law_turns.specs.Agreed.{IsToldOf}

abbrev pub channel_named : CableLine → List ℕ
channel_named c = c.channel

-- a cable is found by its channel
pub found : (cs : List CableLine) (k : CableLine) → Mem k cs → Chain (λ (x y : List ℕ). x ≢ y) (map channel_named cs) → cable_named k.channel cs ≡ Some k
found [] k n d = absurd n
found (x ∷ cs) k (inl q) d = subst (λ (y : CableLine). (if bytes_eq k.channel y.channel then Some y else cable_named k.channel cs) ≡ Some k) q
    (λ i. if name_self k.channel i then Some k else cable_named k.channel cs)
found (x ∷ cs) k (inr n) d =
    let out : bytes_eq k.channel x.channel ≡ false = is_false (bytes_eq k.channel x.channel) (λ t. d.0 k.channel (mem_map channel_named k cs n) (sym (name_yes k.channel x.channel t))) in
    (λ i. if out i then Some x else cable_named k.channel cs) ∙ found cs k n d.1

pub begins : (s : Scenario) (ps : List Plain) (k : CableLine) (receiver : Plain) (m : ℕ) (x : Channel) (y : Past) → IsScenario s → Mem k s.cables → slice_get ps k.receiver ≡ Some receiver → x.receives.unit ≡ last_unit_of (receiver_data k.channel receiver)
    → ((u : Luw) → y.near.undone u ≡ false) → IsToldOf s ps [] m k.channel x y
begins s ps k receiver m x y is n at last none = record {
  undone = λ u e. absurd (true_false (sym e ∙ none u));
  last = λ e.
      let u : Luw = x.receives.unit in
      let line : cable_named k.channel s.cables ≡ Some k = found s.cables k n (pairs_chain (λ (a b : List ℕ). a ≢ b) (map channel_named s.cables) is.channels) in
      let mine : last_unit ps k.channel (cable_named k.channel s.cables) ≡ u = ap (last_unit ps k.channel) line ∙ ap (last_unit_at k.channel) at ∙ sym last in
      let same : same_unit u (last_unit ps k.channel (cable_named k.channel s.cables)) ≡ true = ap (same_unit u) mine ∙ unit_self u in
      (λ i. (not (e i) && same i) || committed_in k.channel u []);
}
