-- Which cable an end of a node is of.
use Rattle.std.proofs.Common.{ℕ, suc, ◌≡◌, ◌⊎◌, List, [], ◌∷◌, ◌++◌, refl, ap, sym, subst, ◌∙◌, inl, inr, arith}
use Rattle.std.specs.Prelude.{Some, ◌==◌, ◌+◌, if◌then◌else◌, slice_get}
use Rattle.mq_history.specs.declared.history.History.{History}
use Rattle.mq_history.specs.declared.scenario.CableLine.{CableLine}
use Rattle.mq_history.specs.declared.scenario.Scenario.{Scenario}
use Rattle.mq_history.specs.Scenarios.{IsScenario}
use Rattle.mq_spec_node.specs.Node.{ChannelEnd, cable_of, end_in}
use Rattle.mq_spec_node.specs.Replays.{opening_node}
use Rattle.mq_spec_network.specs.Given.{ends_from, receives_at, sends_from, surroundings}
use Rattle.mq_spec_network.specs.Standing.{node_after}
use Rattle.mq_spec_network.specs.Story.{Line, Mem, part}
use Rattle.mq_law_rows.proofs.Lists.{bool_case, eqb_yes}
use Rattle.mq_law_deeds.specs.from_law_keys.Keys.{Key, key_of, keys}
use Rattle.mq_law_deeds.proofs.from_law_keys.Keeping.{begun_keys, histories}
use Rattle.mq_law_deeds.proofs.from_law_keys.Starting.{run_keyed}
use Rattle.mq_law_deeds.proofs.from_law_keys.Telling.{end_mem}

-- a cable of these lines, numbered from there, with this number and an end at manager m
record IsThere (m from : ℕ) (cs : List CableLine) (j : ℕ) : Type 0 where
  place : ℕ
  cable : CableLine
  at : slice_get cs place ≡ Some cable
  is : from + place ≡ j
  ends : (cable.sender ≡ m) ⊎ (cable.receiver ≡ m)

over : (a b j : ℕ) → suc a + b ≡ j → a + suc b ≡ j
over a b j e = grind (arith)

first : (a j : ℕ) → a ≡ j → a + 0 ≡ j
first a j e = grind (arith)

whole : (a j : ℕ) → 0 + a ≡ j → a ≡ j
whole a j e = grind (arith)

deeper : (m from : ℕ) (c : CableLine) (cs : List CableLine) (j : ℕ) → IsThere m (suc from) cs j → IsThere m from (c ∷ cs) j
deeper m from c cs j r = record { place = suc r.place; cable = r.cable; at = r.at; is = over from r.place j r.is; ends = r.ends }

lines : (s : Scenario) (m from : ℕ) (cs : List CableLine) (k : Key) → Mem k (keys (ends_from s m from cs)) → IsThere m from cs k.cable
lines s m from [] k n = absurd n
lines s m from (c ∷ cs) k n = bool_case (c.sender == m)
    (λ t. (c.sender == m) ≡ t → Mem k (keys ((if t then sends_from s from c else (if c.receiver == m then receives_at s from c else [])) ++ ends_from s m (suc from) cs)) → IsThere m from (c ∷ cs) k.cable)
    (λ z e w. elim w [
      | inl q ↦ record { place = 0; cable = c; at = refl; is = first from k.cable (sym (ap (λ (o : Key). o.cable) q)); ends = inl (eqb_yes c.sender m e) }
      | inr q ↦ deeper m from c cs k.cable (lines s m (suc from) cs k q)
    ])
    (λ z e. bool_case (c.receiver == m) (λ t. (c.receiver == m) ≡ t → Mem k (keys ((if t then receives_at s from c else []) ++ ends_from s m (suc from) cs)) → IsThere m from (c ∷ cs) k.cable)
    (λ y f w. elim w [
      | inl q ↦ record { place = 0; cable = c; at = refl; is = first from k.cable (sym (ap (λ (o : Key). o.cable) q)); ends = inr (eqb_yes c.receiver m f) }
      | inr q ↦ deeper m from c cs k.cable (lines s m (suc from) cs k q)
    ])
    (λ y f w. deeper m from c cs k.cable (lines s m (suc from) cs k w)) refl) refl n

key_mem : (x : ChannelEnd) (es : List ChannelEnd) → Mem x es → Mem (key_of x) (keys es)
key_mem x [] n = absurd n
key_mem x (y ∷ es) (inl e) = inl (ap key_of e)
key_mem x (y ∷ es) (inr n) = inr (key_mem x es n)

-- Each end of a node is of the scenario's cable of its number, which ends there.
pub cable_there : (s : Scenario) (m : ℕ) (p : List Line) (h : History) (j : ℕ) (x : ChannelEnd) → IsScenario s → end_in j (node_after s m p h).own.ends ≡ Some x → (k : CableLine) × (slice_get s.cables j ≡ Some k) × ((k.sender ≡ m) ⊎ (k.receiver ≡ m))
cable_there s m p h j x scenario e =
    let o = end_mem j (node_after s m p h).own.ends x e in
    let same : keys (node_after s m p h).own.ends ≡ keys (ends_from s m 0 s.cables) = histories (opening_node (surroundings s m) h) (part m p) (run_keyed s m h [] scenario) ∙ begun_keys (opening_node (surroundings s m) h).manager (ends_from s m 0 s.cables) in
    let r : IsThere m 0 s.cables (cable_of x) = lines s m 0 s.cables (key_of x) (subst (Mem (key_of x)) same (key_mem x (node_after s m p h).own.ends o.0)) in
    (r.cable, subst (λ i. slice_get s.cables i ≡ Some r.cable) (whole r.place j (r.is ∙ o.1)) r.at, r.ends)
