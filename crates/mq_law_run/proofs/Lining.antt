-- Cables of a scenario by their numbers; all cables' channels behind an event of one.
use Rattle.std.proofs.Common.{ℕ, zero, suc, ◌≡◌, ◌≢◌, Bool, true, false, List, [], ◌∷◌, refl, ap, sym, subst, ◌∙◌, inl, inr, map, arith}
use Rattle.std.specs.Prelude.{Some, ◌==◌, ◌&&◌, if◌then◌else◌, slice_get}
use Rattle.std.specs.Str.{bytes_eq}
use Rattle.std.proofs.lemmas.Bool.Decides.{nat_tests}
use Rattle.std.proofs.lemmas.Bool.{true≢false}
use Rattle.mq_history.specs.declared.scenario.CableLine.{CableLine}
use Rattle.mq_history.specs.declared.scenario.Scenario.{Scenario}
use Rattle.mq_calls.specs.declared.choices.Choice.{Choice}
use Rattle.mq_history.specs.Scenarios.{IsScenario}
use Rattle.mq_calls.specs.State.Running.{Up}
use Rattle.mq_spec_node.specs.Node.{Node}
use Rattle.mq_spec_node.specs.Deeds.{CanCome, Deed, done}
use Rattle.mq_spec_network.specs.Story.{Chain, Mem}
use Rattle.mq_law_channel.specs.Channel.{Channel, Facts, Past}
use Rattle.mq_law_node.specs.Beside.{AsideFar, AsideNear}
use Rattle.mq_law_node.specs.Ends.{SendsAs, TakesAs}
use Rattle.mq_law_rows.specs.Families.{is_here, put_at}
use Rattle.mq_law_rows.proofs.Lists.{bool_case, eqb_self, here_self, here_yes, mem_map}
use Rattle.mq_law_seen.proofs.Images.{pairs_chain}
use Rattle.mq_law_run.specs.Run.{IsMoved, far_at, near_at}
use Rattle.mq_law_run.proofs.Halves.{far_aside, near_aside}
use Rattle.mq_law_run.proofs.Later.{later_self}

pub mem_at : {A : Type 0} (xs : List A) (i : ℕ) (x : A) → slice_get xs i ≡ Some x → Mem x xs
mem_at [] i x e = absurd cc
mem_at {A = A} (y ∷ xs) zero x e = inl (sym (some_is y x e))
  where
    some_is : (a b : A) → Some a ≡ Some b → a ≡ b
    some_is a b e = cc
mem_at (y ∷ xs) (suc i) x e = inr (mem_at xs i x e)

-- a member of a list has a number
pub index_of : {A : Type 0} (xs : List A) (x : A) → Mem x xs → (i : ℕ) × (slice_get xs i ≡ Some x)
index_of [] x n = absurd n
index_of (y ∷ xs) x (inl e) = (0, ap (λ w. Some w) (sym e))
index_of (y ∷ xs) x (inr n) = let r = index_of xs x n in (suc r.0, r.1)

abbrev channel_of : CableLine → List ℕ
channel_of k = k.channel

abbrev DifferAll : List CableLine → Type 0
DifferAll ks = Chain (λ (a b : List ℕ). a ≢ b) (map channel_of ks)

-- a channel's name tells the number
one_index : (ks : List CableLine) (i j : ℕ) (k h : CableLine) → DifferAll ks → slice_get ks i ≡ Some k → slice_get ks j ≡ Some h → k.channel ≡ h.channel → i ≡ j
one_index [] i j k h d e f q = absurd cc
one_index (c ∷ ks) zero zero k h d e f q = refl
one_index (c ∷ ks) zero (suc j) k h d e f q = absurd (d.0 h.channel (mem_map channel_of h ks (mem_at ks j h f)) (ap channel_of (some_is c k e) ∙ q))
  where
    some_is : (a b : CableLine) → Some a ≡ Some b → a ≡ b
    some_is a b e = cc
one_index (c ∷ ks) (suc i) zero k h d e f q = absurd (d.0 k.channel (mem_map channel_of k ks (mem_at ks i k e)) (ap channel_of (some_is c h f) ∙ sym q))
  where
    some_is : (a b : CableLine) → Some a ≡ Some b → a ≡ b
    some_is a b e = cc
one_index (c ∷ ks) (suc i) (suc j) k h d e f q = ap suc (one_index ks i j k h d.1 e f q)

pub same_index : (s : Scenario) (i j : ℕ) (k h : CableLine) → IsScenario s → slice_get s.cables i ≡ Some k → slice_get s.cables j ≡ Some h → k.channel ≡ h.channel → i ≡ j
same_index s i j k h is e f q = one_index s.cables i j k h (pairs_chain (λ (a b : List ℕ). a ≢ b) (map channel_of s.cables) is.channels) e f q

pub same_cable : (s : Scenario) (i j : ℕ) (k h : CableLine) → slice_get s.cables i ≡ Some k → slice_get s.cables j ≡ Some h → i ≡ j → k ≡ h
same_cable s i j k h e f q = some_is (sym e ∙ ap (slice_get s.cables) q ∙ f)
  where
    some_is : Some k ≡ Some h → k ≡ h
    some_is z = cc

eqb_no : (a b : ℕ) → a ≢ b → (a == b) ≡ false
eqb_no a b n = bool_case (a == b) (λ t. (a == b) ≡ t → t ≡ false) (λ z e. absurd (n (yes a b e))) (λ z e. refl) refl
  where
    yes : (a b : ℕ) → (a == b) ≡ true → a ≡ b
    yes a b e = grind (arith, nat_tests)

abbrev pub here : CableLine → CableLine → Bool
here k h = is_here k.sender k.channel h.sender h.channel

-- the receivers' last units, where one channel's stays
pub units_put : (xs : ℕ → List ℕ → Channel) (k h : CableLine) (c : Channel) → c.receives.unit ≡ (xs k.sender k.channel).receives.unit → (put_at xs k.sender k.channel c h.sender h.channel).receives.unit ≡ (xs h.sender h.channel).receives.unit
units_put xs k h c e = bool_case (here k h) (λ t. here k h ≡ t → (if t then c else xs h.sender h.channel).receives.unit ≡ (xs h.sender h.channel).receives.unit)
    (λ z f. let w = here_yes k.sender k.channel h.sender h.channel f in e ∙ (λ i. (xs (sym w.0 i) (sym w.1 i)).receives.unit)) (λ z f. refl) refl

-- a cable elsewhere has another number, and of one sender another channel
pub else_index : (s : Scenario) (i j : ℕ) (k h : CableLine) → slice_get s.cables i ≡ Some k → slice_get s.cables j ≡ Some h → here k h ≡ false → (i == j) ≡ false
else_index s i j k h e f q = eqb_no i j (λ z. true≢false (sym (ap (here k) (sym (same_cable s i j k h e f z)) ∙ here_self k.sender k.channel) ∙ q))

pub else_channel : (k h : CableLine) → h.sender ≡ k.sender → here k h ≡ false → bytes_eq h.channel k.channel ≡ false
else_channel k h q e = sym (ap (λ t. t && bytes_eq h.channel k.channel) (ap (λ n. n == k.sender) q ∙ eqb_self k.sender)) ∙ e

-- ALL CABLES behind an event of one of them
pub all_moved : (s : Scenario) (m : ℕ) (next : Node) (i : ℕ) (k : CableLine) (d : Channel) (y : Past) (xs : ℕ → List ℕ → Channel) (ys : ℕ → List ℕ → Past) → IsScenario s → slice_get s.cables i ≡ Some k → IsMoved s m next i k (xs k.sender k.channel) d y
    → ((j : ℕ) (h : CableLine) → slice_get s.cables j ≡ Some h → here k h ≡ false → IsMoved s m next j h (xs h.sender h.channel) (xs h.sender h.channel) (ys h.sender h.channel))
    → (j : ℕ) (h : CableLine) → slice_get s.cables j ≡ Some h → IsMoved s m next j h (xs h.sender h.channel) (put_at xs k.sender k.channel d h.sender h.channel) (put_at ys k.sender k.channel y h.sender h.channel)
all_moved s m next i k d y xs ys is e mine others j h f =
    bool_case (here k h) (λ t. here k h ≡ t → IsMoved s m next j h (xs h.sender h.channel) (if t then d else xs h.sender h.channel) (if t then y else ys h.sender h.channel))
    (λ z q.
    let w = here_yes k.sender k.channel h.sender h.channel q in
    let a : i ≡ j = same_index s i j k h is e f (sym w.1) in
    let b : k ≡ h = same_cable s i j k h e f a in
    subst (λ (c : CableLine). IsMoved s m next j c (xs c.sender c.channel) d y) b (subst (λ n. IsMoved s m next n k (xs k.sender k.channel) d y) a mine))
    (λ z q. others j h f q) refl

-- A deed of the manager that leaves a cable's ends aside.
pub left_aside : (s : Scenario) (m : ℕ) (n : Node) (j : ℕ) (h : CableLine) (c : Channel) (p : Past) (d : Deed) (choice : Choice) → n.manager.running ≡ Up → Facts c p → CanCome d choice n
    → (h.sender ≡ m → SendsAs (near_at s j h) n c × AsideNear (near_at s j h) n d) → (h.receiver ≡ m → TakesAs (far_at s j h) n c × AsideFar (far_at s j h) n d)
    → IsMoved s m (done d choice n).next j h c c p
left_aside s m n j h c p d choice up facts can near far = record {
  facts = facts;
  near = λ q. let a = near q in (near_aside (near_at s j h) n c p d choice up a.0 facts a.1 can, record { receives = refl; receiver = refl; kept = refl; back = refl }, (λ f w. w));
  far = λ q. let a = far q in (far_aside (far_at s j h) n c p d choice up a.0 facts a.1 can, record { sends = refl; sender = refl; batch = refl; out = refl }, (λ f w. w));
  later = λ q. later_self c;
  else = λ q w. refl;
}
