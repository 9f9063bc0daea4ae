-- Where the cables of a run are carried and have no faults, no end has popped more than was offered to it.
use Rattle.std.proofs.Common.{ℕ, suc, ◌≡◌, Bool, true, false, List, [], ◌∷◌, ◌++◌, length, refl, ap, sym, subst, ◌∙◌, inl, inr, arith}
use Rattle.std.specs.Prelude.{◌&&◌, if◌then◌else◌}
use Rattle.std.proofs.lemmas.List.{length-append}
use Rattle.mq_cable.specs.declared.fault.Fault.{Fault}
use Rattle.mq_history.specs.declared.calls.Actor.{Actor}
use Rattle.mq_history.specs.declared.calls.Entry.{Entry}
use Rattle.mq_history.specs.declared.history.History.{History}
use Rattle.mq_history.specs.declared.scenario.Scenario.{Scenario}
use Rattle.mq_spec_node.specs.Doers.{by, is_receiver, is_sender}
use Rattle.mq_spec_network.specs.Cables.{Carries, Lying, Takes, is_popped, offered_by, pops_item, pops_of}
use Rattle.mq_spec_network.specs.Lawful.{IsCarried}
use Rattle.mq_spec_network.specs.Story.{entries_at}
use Rattle.mq_nodes.specs.Carried.{AreCarriedSoFar, until}
use Rattle.mq_law_node.proofs.Named.{bool_case}
use Rattle.mq_law_pump.specs.Ways.{IsWithin}
use Rattle.mq_law_pump.proofs.Ways.{all_come, frames_of}
use Rattle.mq_law_rest.specs.Until.{net_until}
use Rattle.mq_law_rest.specs.Within.{AllWithin, NoFaults}

-- AS MANY AS WERE TAKEN WERE POPPED
more_popped : (b : Bool) (k l : ℕ) → b ≡ true → k ≡ l → (if b then suc k else k) ≡ suc l
more_popped true k l e f = ap suc f
more_popped false k l e f = absurd cc

same_popped : (b : Bool) (k l : ℕ) → b ≡ false → k ≡ l → (if b then suc k else k) ≡ l
same_popped true k l e f = absurd cc
same_popped false k l e f = f

pops_len : (test : Actor → Bool) (e : Entry) (es : List Entry) → length (pops_of (by test (e ∷ es))) ≡ (if pops_item test e then suc (length (pops_of (by test es))) else length (pops_of (by test es)))
pops_len test e es = bool_case (test e.actor)
    (λ b. length (pops_of (if b then e ∷ by test es else by test es)) ≡ (if b && is_popped e then suc (length (pops_of (by test es))) else length (pops_of (by test es))))
    (λ z. bool_case (is_popped e) (λ b. length (if b then e ∷ pops_of (by test es) else pops_of (by test es)) ≡ (if b then suc (length (pops_of (by test es))) else length (pops_of (by test es)))) (λ y. refl) (λ y. refl))
    (λ z. refl)

pops_many : (test : Actor → Bool) (last : ℕ) (es : List Entry) (taken : List Lying) → Takes test last es taken → length (pops_of (by test es)) ≡ length taken
pops_many test last [] taken t = ap length (sym t)
pops_many test last (e ∷ es) [] t = pops_len test e es ∙ same_popped (pops_item test e) (length (pops_of (by test es))) 0 t.0 (pops_many test e.stamp es [] t.1)
pops_many test last (e ∷ es) (x ∷ xs) (inl t) = pops_len test e es ∙ same_popped (pops_item test e) (length (pops_of (by test es))) (length (x ∷ xs)) t.0 (pops_many test e.stamp es (x ∷ xs) t.1)
pops_many test last (e ∷ es) (x ∷ xs) (inr t) = pops_len test e es ∙ more_popped (pops_item test e) (length (pops_of (by test es))) (length xs) t.0 (pops_many test e.stamp es xs t.3)

-- ONE WAY
clean_within : (t u : Actor → Bool) (P Q : List Entry) → Carries [] (by t P) u Q → IsWithin (by t P) (by u Q)
clean_within t u P Q c =
    let all : frames_of (by t P) ≡ c.taken ++ c.left = sym (all_come (offered_by (by t P))) ∙ c.whole in
    omega (arith, pops_many u 0 Q c.taken c.takes, ap length all, length-append c.taken c.left)

way_within : (fs : List Fault) (t u : Actor → Bool) (P Q : List Entry) → fs ≡ [] → Carries fs (by t P) u Q → IsWithin (by t P) (by u Q)
way_within fs t u P Q none c = clean_within t u P Q (subst (λ (gs : List Fault). Carries gs (by t P) u Q) none c)

-- ALL CABLES
pub within : (s : Scenario) (hs : List History) (i : ℕ) → NoFaults s → AreCarriedSoFar s hs → AllWithin (net_until s hs i)
within s hs i clean carried k c is =
    let x : IsCarried k c (until i hs) = carried i k c is in record {
      out = way_within c.out (is_sender k) (is_receiver k) (entries_at (until i hs) c.sender) (entries_at (until i hs) c.receiver) (clean k c is).0 x.out;
      back = way_within c.back (is_receiver k) (is_sender k) (entries_at (until i hs) c.receiver) (entries_at (until i hs) c.sender) (clean k c is).1 x.back;
    }
