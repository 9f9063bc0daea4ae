-- The ends of a cable at a manager that is up, and at one that is down.
use Rattle.std.proofs.Common.{◌≡◌, ℕ, List, true, false, ap, sym}
use Rattle.std.specs.Prelude.{Bool, Some, None}
use Rattle.mq_sync.specs.Settlement.{sender_or, receiver_or}
use Rattle.mq_calls.specs.State.{Plain}
use Rattle.mq_calls.specs.Reads.{is_up, receiver_data, sender_data}
use Rattle.mq_spec_node.specs.Deeds.{node_of}
use Rattle.mq_spec_node.specs.Node.{Own, receiver_end, sender_end}
use Rattle.mq_standing.specs.Stands.{receiver_if, receiver_standing, sender_if, sender_standing}

pub sender_up : (cable : ℕ) (channel : List ℕ) (p : Plain) (own : Own) → is_up p.running ≡ true → sender_if true (sender_end cable own) (sender_or (sender_data channel p)) ≡ sender_standing cable channel (Some (node_of p own))
sender_up cable channel p own up = ap (λ (b : Bool). sender_if b (sender_end cable own) (sender_or (sender_data channel p))) (sym up)

pub sender_down : (cable : ℕ) (channel : List ℕ) (p : Plain) (own : Own) → is_up p.running ≡ false → None ≡ sender_standing cable channel (Some (node_of p own))
sender_down cable channel p own down = ap (λ (b : Bool). sender_if b (sender_end cable own) (sender_or (sender_data channel p))) (sym down)

pub receiver_up : (cable : ℕ) (channel : List ℕ) (p : Plain) (own : Own) → is_up p.running ≡ true → receiver_if true (receiver_end cable own) (receiver_or (receiver_data channel p)) ≡ receiver_standing cable channel (Some (node_of p own))
receiver_up cable channel p own up = ap (λ (b : Bool). receiver_if b (receiver_end cable own) (receiver_or (receiver_data channel p))) (sym up)

pub receiver_down : (cable : ℕ) (channel : List ℕ) (p : Plain) (own : Own) → is_up p.running ≡ false → None ≡ receiver_standing cable channel (Some (node_of p own))
receiver_down cable channel p own down = ap (λ (b : Bool). receiver_if b (receiver_end cable own) (receiver_or (receiver_data channel p))) (sym down)
