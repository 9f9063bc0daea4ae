-- Commands and clocks in a loop: one event for each.
use Rattle.std.specs.Prelude.{◌≡◌, ◌<◌, ◌≤◌, ◌+◌, ◌⊎◌, ℕ, zero, suc, List, [], ◌∷◌, Some, Ok, Err, length, drop, slice_get, refl}
use Rattle.std.proofs.Common.{subst, sym, arith, inl, inr, ◌∙◌}
use Rattle.mq_history.specs.declared.acts.Act.TheVariants as acts
use Rattle.mq_history.specs.declared.calls.Actor.TheVariants as actors
use Rattle.mq_history.specs.declared.calls.Call.TheVariants as calls
use Rattle.mq_sc_parse.specs.declared.command.Command.{Command}
use Rattle.mq_spec_network.specs.Tasks.{Task, obey_all}
use Rattle.mq_spec_network.specs.Tasks.Task.{Ask}
use Rattle.mq_spec_network.specs.Steps.{Is}
use Rattle.mq_nodes.specs.declared.nodes.Stop.{Stop}
use Rattle.mq_nodes.specs.Course.{Course}
use Rattle.mq_nodes.specs.Told.{Does, Part, Onward}
use Rattle.mq_nodes.proofs.Onward.{moved, broke, whole}

nothing : (i : ℕ) → i < 0 → ⊥
nothing i lt = omega arith

-- the value at a place, and those behind it
pub at_place : {A : Type 0} (xs : List A) (i : ℕ) → i < length xs → (x : A) × (slice_get xs i ≡ Some x) × (drop i xs ≡ x ∷ drop (suc i) xs)
at_place [] i lt = absurd (nothing i lt)
at_place (x ∷ xs) zero lt = (x, refl, refl)
at_place (x ∷ xs) (suc i) lt = at_place xs i (omega arith)

pub none_left : {A : Type 0} (xs : List A) (i : ℕ) → length xs ≤ i → drop i xs ≡ []
none_left [] zero le = refl
none_left [] (suc i) le = refl
none_left (x ∷ xs) zero le = absurd (nothing (length xs) (omega arith))
none_left (x ∷ xs) (suc i) le = none_left xs i (omega arith)

pub less_or_not : (a b : ℕ) → (a < b) ⊎ (b ≤ a)
less_or_not a zero = inr (omega arith)
less_or_not zero (suc b) = inl (omega arith)
less_or_not (suc a) (suc b) = one_up (less_or_not a b)
  where
    one_up : (a < b) ⊎ (b ≤ a) → (suc a < suc b) ⊎ (suc b ≤ suc a)
    one_up (inl lt) = inl (omega arith)
    one_up (inr le) = inr (omega arith)

pub same_or_less : (a b : ℕ) → a ≤ b → (a ≡ b) ⊎ (a < b)
same_or_less a b le = at_it (less_or_not a b)
  where
    at_it : (a < b) ⊎ (b ≤ a) → (a ≡ b) ⊎ (a < b)
    at_it (inl lt) = inr lt
    at_it (inr ge) = inl (omega arith)

pub same_value : {A : Type 0} (x y : A) → Some x ≡ Some y → x ≡ y
same_value x y e = cc

-- One command is given.
pub given : (m : ℕ) (x : Command) (cs : List Command) (all : List Task) (c d e : Course) → Onward all (obey_all m (x ∷ cs)) c d → Does {T = Unit {0}} (Is m actors.Operator (calls.Act (acts.Obey x))) (Ok tt) d e → Onward all (obey_all m cs) c e
given m x cs all c d e h told = moved all (Ask m actors.Operator (calls.Act (acts.Obey x))) (obey_all m cs) c d e h told.0 told.1

pub obeys : (m i : ℕ) (cs : List Command) (c d e : Course) (x : Command) (done : Unit {0}) → Onward (obey_all m cs) (obey_all m (drop i cs)) c d → slice_get cs i ≡ Some x → i < length cs
    → Does (Is m actors.Operator (calls.Act (acts.Obey x))) (Ok done) d e → Onward (obey_all m cs) (obey_all m (drop (i + 1) cs)) c e
obeys m i cs c d e x done h is lt told =
    let (y, at, unrolled) = at_place cs i lt in
    let is_x : y ≡ x = same_value y x (sym at ∙ is) in
    subst (λ (n : ℕ). Onward (obey_all m cs) (obey_all m (drop n cs)) c e) (up i)
    (given m x (drop (suc i) cs) (obey_all m cs) c d e
    (subst (λ (z : Command). Onward (obey_all m cs) (obey_all m (z ∷ drop (suc i) cs)) c d) is_x
    (subst (λ (xs : List Command). Onward (obey_all m cs) (obey_all m xs) c d) unrolled h)) told)
  where
    up : (i : ℕ) → suc i ≡ i + 1
    up i = omega arith

pub obey_fails : (m i : ℕ) (cs : List Command) (c d e : Course) (x : Command) (stop : Stop) → Onward (obey_all m cs) (obey_all m (drop i cs)) c d → slice_get cs i ≡ Some x → i < length cs
    → Does {T = Unit {0}} (Is m actors.Operator (calls.Act (acts.Obey x))) (Err stop) d e → Part {T = Unit {0}} (obey_all m cs) (Err stop) c e
obey_fails m i cs c d e x stop h is lt told =
    let (y, at, unrolled) = at_place cs i lt in
    let is_x : y ≡ x = same_value y x (sym at ∙ is) in
    broke (obey_all m cs) (Ask m actors.Operator (calls.Act (acts.Obey x))) (obey_all m (drop (suc i) cs)) c d e stop
    (subst (λ (z : Command). Onward (obey_all m cs) (obey_all m (z ∷ drop (suc i) cs)) c d) is_x
    (subst (λ (xs : List Command). Onward (obey_all m cs) (obey_all m xs) c d) unrolled h)) told

pub obeyed : (m i : ℕ) (cs : List Command) (c d : Course) → Onward (obey_all m cs) (obey_all m (drop i cs)) c d → length cs ≤ i → Part {T = Unit {0}} (obey_all m cs) (Ok tt) c d
obeyed m i cs c d h le = whole (obey_all m cs) c d tt (subst (λ (xs : List Command). Onward (obey_all m cs) (obey_all m xs) c d) (none_left cs i le) h)
