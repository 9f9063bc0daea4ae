-- A scenario's channels differ: a sender and a name have one receiver.
use Rattle.std.proofs.Common.{ℕ, ◌≡◌, ◌≢◌, List, [], ◌∷◌, ap, sym, ◌∙◌, inl, inr, map}
use Rattle.mq_history.specs.declared.scenario.CableLine.{CableLine}
use Rattle.mq_history.specs.declared.scenario.Scenario.{Scenario}
use Rattle.mq_history.specs.Scenarios.{IsScenario}
use Rattle.mq_spec_network.specs.Story.{Chain, Mem}
use Rattle.mq_law_rows.proofs.Lists.{here_yes, mem_map}
use Rattle.mq_law_turns.proofs.from_law_seen.Images.{pairs_chain}
use Rattle.mq_law_cables.specs.Joints.{LeadTo}

abbrev channel_of : CableLine → List ℕ
channel_of k = k.channel

one : (cs : List CableLine) (x y : CableLine) → Chain (λ (a b : List ℕ). a ≢ b) (map channel_of cs) → Mem x cs → Mem y cs → x.channel ≡ y.channel → x ≡ y
one [] x y d n m e = absurd n
one (c ∷ cs) x y d (inl p) (inl q) e = p ∙ sym q
one (c ∷ cs) x y d (inl p) (inr m) e = absurd (d.0 y.channel (mem_map channel_of y cs m) (ap channel_of (sym p) ∙ e))
one (c ∷ cs) x y d (inr n) (inl q) e = absurd (d.0 x.channel (mem_map channel_of x cs n) (ap channel_of (sym q) ∙ sym e))
one (c ∷ cs) x y d (inr n) (inr m) e = one cs x y d.1 n m e

pub leads : (s : Scenario) (k : CableLine) → IsScenario s → Mem k s.cables → LeadTo s.cables k.sender k.channel k.receiver
leads s k is n = λ x m e.
    ap (λ (y : CableLine). y.receiver) (one s.cables x k (pairs_chain (λ (a b : List ℕ). a ≢ b) (map channel_of s.cables) is.channels) m n (here_yes k.sender k.channel x.sender x.channel e).1)
