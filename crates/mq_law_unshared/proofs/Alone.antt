-- What a sender has open it has alone.
use Rattle.std.proofs.Common.{ℕ, ◌≡◌, true, false, List, [], ◌∷◌, refl, ap, sym, ◌∙◌, inl, inr}
use Rattle.std.specs.Prelude.{Option, Some, None, if◌then◌else◌, is_some}
use Rattle.std.specs.Str.{bytes_eq}
use Rattle.mq_calls.specs.State.{Plain}
use Rattle.mq_calls.specs.declared.state.Seizure.{Seizure}
use Rattle.mq_calls.specs.Reads.{has_held_by_other, seizure_of}
use Rattle.mq_spec_manager.specs.Agents.{HasSeized, queue_of_sender}
use Rattle.mq_spec_manager.specs.Seizing.{seized_queue}
use Rattle.mq_base.specs.Members.{Mem}
use Rattle.mq_law_manager.proofs.Lists.{bool_case, name_yes}
use Rattle.mq_law_seized.specs.Seized.{AreSeized}

mine : (c : List ℕ) (ss : List Seizure) (s : Seizure) → seizure_of c ss ≡ Some s → Mem s ss × (s.channel ≡ c)
mine c [] s e = absurd cc
mine c (x ∷ xs) s e = bool_case (bytes_eq c x.channel) (λ b. bytes_eq c x.channel ≡ b → (if b then Some x else seizure_of c xs) ≡ Some s → Mem s (x ∷ xs) × (s.channel ≡ c))
    (λ z w f. let same : s ≡ x = one x s f in (inl same, ap (λ (o : Seizure). o.channel) same ∙ sym (name_yes c x.channel w)))
    (λ z w f. let r = mine c xs s f in (inr r.0, r.1)) refl e
  where
    one : (x s : Seizure) → Some x ≡ Some s → s ≡ x
    one x s f = cc

pub seized_alone : (c : List ℕ) (p : Plain) → HasSeized c p → AreSeized p → has_held_by_other c (queue_of_sender c p) p ≡ false
seized_alone c p has h = go (seizure_of c p.channels.seizures) refl has
  where
    go : (o : Option Seizure) → seizure_of c p.channels.seizures ≡ o → is_some o ≡ true → has_held_by_other c (seized_queue o) p ≡ false
    go None e f = absurd cc
    go (Some s) e f = let r = mine c p.channels.seizures s e in ap (λ (d : List ℕ). has_held_by_other d s.queue p) (sym r.1) ∙ h.held s r.0
