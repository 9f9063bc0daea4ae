-- A scenario's managers begin with ends that have keys of their own.
use Rattle.std.proofs.Common.{ℕ, suc, ◌≡◌, ◌≢◌, ◌≤◌, false, List, [], ◌∷◌, ◌++◌, refl, ap, sym, subst, ◌∙◌, inl, inr, map, arith}
use Rattle.std.specs.Prelude.{◌==◌, if◌then◌else◌}
use Rattle.std.specs.Str.{bytes_eq}
use Rattle.std.proofs.lemmas.Bool.Decides.{nat_tests}
use Rattle.mq_base.specs.Members.{Mem, Chain}
use Rattle.mq_history.specs.declared.calls.Entry.{Entry}
use Rattle.mq_history.specs.declared.history.History.{History}
use Rattle.mq_history.specs.declared.scenario.CableLine.{CableLine}
use Rattle.mq_history.specs.declared.scenario.Scenario.{Scenario}
use Rattle.mq_history.specs.Scenarios.{IsScenario}
use Rattle.mq_spec_node.specs.Node.{ChannelEnd, Node}
use Rattle.mq_spec_node.specs.Replays.{after, opening_node}
use Rattle.mq_spec_network.specs.Given.{ends_from, receives_at, sends_from, surroundings}
use Rattle.mq_law_manager.proofs.Beginning.{pairs_chain}
use Rattle.mq_law_manager.proofs.Lists.{bool_case, is_false}
use Rattle.mq_law_manager.proofs.Named.{name_is}
use Rattle.mq_law_keys.specs.Keys.{AreKeyed, IsKeyed, Key, key_of, keys}
use Rattle.mq_law_keys.proofs.Keeping.{begun_keys, histories}

-- where the key of an end comes from
record IsFrom (from : ℕ) (cs : List CableLine) (k : Key) : Type 0 where
  above : from ≤ k.cable
  line : CableLine
  there : Mem line cs
  channel : k.channel ≡ line.channel

deeper : (from : ℕ) (c : CableLine) (cs : List CableLine) (k : Key) → IsFrom (suc from) cs k → IsFrom from (c ∷ cs) k
deeper from c cs k f = record { above = less from k.cable f.above; line = f.line; there = inr f.there; channel = f.channel }
  where
    less : (a b : ℕ) → suc a ≤ b → a ≤ b
    less a b e = grind (arith, nat_tests)

same_le : (a : ℕ) → a ≤ a
same_le a = grind (arith, nat_tests)

key_from : (s : Scenario) (m from : ℕ) (cs : List CableLine) (k : Key) → Mem k (keys (ends_from s m from cs)) → IsFrom from cs k
key_from s m from [] k n = absurd n
key_from s m from (c ∷ cs) k n = bool_case (c.sender == m) (λ t. Mem k (keys ((if t then sends_from s from c else (if c.receiver == m then receives_at s from c else [])) ++ ends_from s m (suc from) cs)) → IsFrom from (c ∷ cs) k)
    (λ e. one (sends_from s from c) refl (key_from s m (suc from) cs k))
    (λ e. bool_case (c.receiver == m) (λ t. Mem k (keys ((if t then receives_at s from c else []) ++ ends_from s m (suc from) cs)) → IsFrom from (c ∷ cs) k) (λ f. one (receives_at s from c) refl (key_from s m (suc from) cs k)) (λ f j. deeper from c cs k (key_from s m (suc from) cs k j))) n
  where
    one : (es : List ChannelEnd) → keys es ≡ record { cable = from; channel = c.channel } ∷ [] → (Mem k (keys (ends_from s m (suc from) cs)) → IsFrom (suc from) cs k) → Mem k (keys (es ++ ends_from s m (suc from) cs)) → IsFrom from (c ∷ cs) k
    one es is rest j = elim (subst (λ (ks : List Key). Mem k ks) (more es (ends_from s m (suc from) cs) ∙ ap (λ ks. ks ++ keys (ends_from s m (suc from) cs)) is) j) [
      | inl z ↦ record { above = subst (λ (x : Key). from ≤ x.cable) (sym z) (same_le from); line = c; there = inl refl; channel = ap (λ (x : Key). x.channel) z }
      | inr r ↦ deeper from c cs k (rest r)
    ]
      where
        more : (xs ys : List ChannelEnd) → keys (xs ++ ys) ≡ keys xs ++ keys ys
        more [] ys = refl
        more (x ∷ xs) ys = ap (λ (ks : List Key). key_of x ∷ ks) (more xs ys)

mem_lines : (c : CableLine) (cs : List CableLine) → Mem c cs → Mem c.channel (map (λ (c : CableLine). c.channel) cs)
mem_lines c [] n = absurd n
mem_lines c (x ∷ cs) (inl e) = inl (ap (λ (y : CableLine). y.channel) e)
mem_lines c (x ∷ cs) (inr n) = inr (mem_lines c cs n)

not_above : (a b : ℕ) → suc a ≤ b → (a == b) ≡ false
not_above a b e = grind (arith, nat_tests)

pub from_keyed : (s : Scenario) (m from : ℕ) (cs : List CableLine) → Chain (λ (x y : List ℕ). x ≢ y) (map (λ (c : CableLine). c.channel) cs) → AreKeyed (keys (ends_from s m from cs))
from_keyed s m from [] h = tt
from_keyed s m from (c ∷ cs) h =
    let rest : AreKeyed (keys (ends_from s m (suc from) cs)) = from_keyed s m (suc from) cs h.1 in
    bool_case (c.sender == m) (λ t. AreKeyed (keys ((if t then sends_from s from c else (if c.receiver == m then receives_at s from c else [])) ++ ends_from s m (suc from) cs)))
    (λ e. (first, rest)) (λ e. bool_case (c.receiver == m) (λ t. AreKeyed (keys ((if t then receives_at s from c else []) ++ ends_from s m (suc from) cs))) (λ f. (first, rest)) (λ f. rest))
  where
    first : (k : Key) → Mem k (keys (ends_from s m (suc from) cs)) → ((from == k.cable) ≡ false) × (bytes_eq c.channel k.channel ≡ false)
    first k n = let f = key_from s m (suc from) cs k n in (
      not_above from k.cable f.above,
      is_false (bytes_eq c.channel k.channel) (λ t. h.0 f.line.channel (mem_lines f.line cs f.there) (name_is c.channel k.channel t ∙ f.channel)),
    )

pub scenarios : (s : Scenario) (m : ℕ) → IsScenario s → AreKeyed (keys (ends_from s m 0 s.cables))
scenarios s m h = from_keyed s m 0 s.cables (pairs_chain (λ (x y : List ℕ). x ≢ y) (map (λ (c : CableLine). c.channel) s.cables) h.channels)

-- and each node that a history leads to is so
pub run_keyed : (s : Scenario) (m : ℕ) (h : History) (es : List Entry) → IsScenario s → IsKeyed (after (opening_node (surroundings s m) h) es)
run_keyed s m h es is =
    let n : Node = opening_node (surroundings s m) h in
    let first : IsKeyed n = subst (λ (ks : List Key). AreKeyed ks) (sym (begun_keys n.manager (ends_from s m 0 s.cables))) (scenarios s m is) in
    subst (λ (ks : List Key). AreKeyed ks) (sym (histories n es first)) first
