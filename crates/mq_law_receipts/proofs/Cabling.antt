-- The cables of a scenario: each is found by its sender's number and its channel, and no other of that name leads there.
use Rattle.std.proofs.Common.{ℕ, ◌≡◌, ◌≢◌, ◌+◌, true, false, List, [], ◌∷◌, refl, ap, sym, subst, ◌∙◌, inl, inr, map, arith}
use Rattle.std.specs.Prelude.{Option, Some, None, ◌==◌, ◌&&◌, if◌then◌else◌, slice_get}
use Rattle.std.specs.Str.{bytes_eq}
use Rattle.mq_history.specs.declared.scenario.CableLine.{CableLine}
use Rattle.mq_history.specs.declared.scenario.Scenario.{Scenario}
use Rattle.mq_history.specs.Scenarios.{IsScenario}
use Rattle.mq_calls.specs.State.{Plain}
use Rattle.mq_spec_network.specs.Standing.{cable_from}
use Rattle.mq_spec_network.specs.Story.{Chain, Mem}
use Rattle.mq_law_events.proofs.from_law_rows.Lists.{and_left, and_right, bool_case, eqb_self, eqb_yes, is_false, mem_map, name_self, name_yes}
use Rattle.mq_law_events.proofs.from_law_seen.Images.{pairs_chain}
use Rattle.mq_law_receipts.specs.Receipts.{IsCabled}

abbrev pub channel_of : CableLine → List ℕ
channel_of c = c.channel

abbrev DifferAll : List CableLine → Type 0
DifferAll cs = Chain (λ (x y : List ℕ). x ≢ y) (map channel_of cs)

found : (number : ℕ) (cs : List CableLine) (k : CableLine) → Mem k cs → DifferAll cs → (k.sender + 1 == number) ≡ true → cable_from number k.channel cs ≡ Some k
found number [] k n d e = absurd n
found number (x ∷ cs) k (inl q) d e = subst (λ (y : CableLine). (if bytes_eq k.channel y.channel && (y.sender + 1 == number) then Some y else cable_from number k.channel cs) ≡ Some k) q
    (λ i. if name_self k.channel i && e i then Some k else cable_from number k.channel cs)
found number (x ∷ cs) k (inr n) d e =
    let out : bytes_eq k.channel x.channel ≡ false = is_false (bytes_eq k.channel x.channel) (λ t. d.0 k.channel (mem_map channel_of k cs n) (sym (name_yes k.channel x.channel t))) in
    (λ i. if out i && (x.sender + 1 == number) then Some x else cable_from number k.channel cs) ∙ found number cs k n d.1 e

abbrev cable_or : CableLine → Option CableLine → CableLine
cable_or y None = y
cable_or y (Some x) = x

is_found : (number : ℕ) (c : List ℕ) (cs : List CableLine) (y : CableLine) → cable_from number c cs ≡ Some y → Mem y cs × (bytes_eq c y.channel ≡ true) × ((y.sender + 1 == number) ≡ true)
is_found number c [] y e = absurd cc
is_found number c (x ∷ cs) y e = bool_case (bytes_eq c x.channel && (x.sender + 1 == number))
    (λ t. (bytes_eq c x.channel && (x.sender + 1 == number)) ≡ t → (if t then Some x else cable_from number c cs) ≡ Some y → Mem y (x ∷ cs) × (bytes_eq c y.channel ≡ true) × ((y.sender + 1 == number) ≡ true))
    (λ z w f. let same : x ≡ y = ap (cable_or y) f in (
      inl (sym same),
      ap (λ (o : CableLine). bytes_eq c o.channel) (sym same) ∙ and_left (bytes_eq c x.channel) (x.sender + 1 == number) w,
      ap (λ (o : CableLine). o.sender + 1 == number) (sym same) ∙ and_right (bytes_eq c x.channel) (x.sender + 1 == number) w,
    ))
    (λ z w f. let k = is_found number c cs y f in (inr k.0, k.1, k.2)) refl e

one_cable : (cs : List CableLine) (x y : CableLine) → DifferAll cs → Mem x cs → Mem y cs → x.channel ≡ y.channel → x ≡ y
one_cable [] x y d n m e = absurd n
one_cable (c ∷ cs) x y d (inl p) (inl q) e = p ∙ sym q
one_cable (c ∷ cs) x y d (inl p) (inr m) e = absurd (d.0 y.channel (mem_map channel_of y cs m) (ap channel_of (sym p) ∙ e))
one_cable (c ∷ cs) x y d (inr n) (inl q) e = absurd (d.0 x.channel (mem_map channel_of x cs n) (ap channel_of (sym q) ∙ sym e))
one_cable (c ∷ cs) x y d (inr n) (inr m) e = one_cable cs x y d.1 n m e

one_less : (a b : ℕ) → a + 1 ≡ b + 1 → b ≡ a
one_less a b e = omega arith

pub cabled : (s : Scenario) (ps : List Plain) (k : CableLine) (sender : Plain) → IsScenario s → Mem k s.cables → ((a : ℕ) (x : Plain) → slice_get ps a ≡ Some x → x.given.number ≡ a + 1) → slice_get ps k.sender ≡ Some sender
    → IsCabled s ps k.sender k.receiver k.channel
cabled s ps k sender is n numbers at =
    let d : DifferAll s.cables = pairs_chain (λ (x y : List ℕ). x ≢ y) (map channel_of s.cables) is.channels in
    record {
      sender = sender;
      at = at;
      cable = k;
      from = found sender.given.number s.cables k n d (ap (λ z. k.sender + 1 == z) (numbers k.sender sender at) ∙ eqb_self (k.sender + 1));
      to = refl;
      alone = λ a x y there from to.
          let f = is_found x.given.number k.channel s.cables y from in
          let same : y ≡ k = one_cable s.cables y k d f.0 n (sym (name_yes k.channel y.channel f.1)) in
          one_less k.sender a (ap (λ (o : CableLine). o.sender + 1) (sym same) ∙ eqb_yes (y.sender + 1) x.given.number f.2 ∙ numbers a x there);
    }
