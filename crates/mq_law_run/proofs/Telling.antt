-- What an entry more tells, and what its post leaves.
use Rattle.std.proofs.Common.{ℕ, ◌≡◌, Bool, true, false, List, [], ◌∷◌, ◌++◌, refl, ap, sym, subst, ◌∙◌}
use Rattle.std.specs.Prelude.{None, ◌||◌, ◌≤◌}
use Rattle.std.specs.List.{list_any}
use Rattle.mq_sync.specs.declared.unit.Unit.{Unit as Luw}
use Rattle.mq_sync.specs.Units.{Upto}
use Rattle.mq_calls.specs.declared.choices.Choice.{Choice}
use Rattle.mq_calls.specs.declared.deltas.Did.{Did}
use Rattle.mq_calls.specs.declared.deltas.Did.TheVariants as did
use Rattle.mq_history.specs.declared.acts.Acted.{Acted}
use Rattle.mq_history.specs.declared.acts.Acted.TheVariants as acted
use Rattle.mq_history.specs.declared.calls.Chance.{Chance}
use Rattle.mq_history.specs.declared.calls.Chance.TheVariants as chances
use Rattle.mq_history.specs.declared.calls.Entry.{Entry}
use Rattle.mq_history.specs.declared.calls.Reply.{Reply}
use Rattle.mq_history.specs.declared.calls.Reply.TheVariants as replies
use Rattle.mq_history.specs.declared.scenario.Scenario.{Scenario}
use Rattle.mq_calls.specs.State.{Plain}
use Rattle.mq_spec_network.specs.Conflict.{Deed, committed_in, commits, deeds, deeds_in, is_committed, was_last}
use Rattle.mq_spec_network.specs.Ledger as ledgers
use Rattle.mq_spec_network.specs.Ledger.{Ledger, posted}
use Rattle.mq_spec_network.specs.Order.{unit_received}
use Rattle.mq_spec_network.specs.Story.{Line, Mem}
use Rattle.mq_law_manager.proofs.Lists.{mem_before, mem_behind}
use Rattle.mq_law_deeds.specs.Numbers.{AreCountedAt, IsNext}
use Rattle.mq_law_deeds.proofs.Counting.{calls_kept, cut_kept}

-- DEEDS
none_more : {A : Type 0} (xs : List A) → xs ++ [] ≡ xs
none_more [] = refl
none_more (x ∷ xs) = ap (λ ys. x ∷ ys) (none_more xs)

behind : {A : Type 0} (xs ys zs : List A) → (xs ++ ys) ++ zs ≡ xs ++ (ys ++ zs)
behind [] ys zs = refl
behind (x ∷ xs) ys zs = ap (λ l. x ∷ l) (behind xs ys zs)

pub deeds_more : (p : List Line) (x : Line) → deeds (p ++ x ∷ []) ≡ deeds p ++ deeds_in x.manager x.entry.effect.delta
deeds_more [] x = none_more (deeds_in x.manager x.entry.effect.delta)
deeds_more (y ∷ p) x = ap (λ ds. deeds_in y.manager y.entry.effect.delta ++ ds) (deeds_more p x) ∙ sym (behind (deeds_in y.manager y.entry.effect.delta) (deeds p) (deeds_in x.manager x.entry.effect.delta))

pub told_before : (p : List Line) (x : Line) (d : Deed) → Mem d (deeds p) → Mem d (deeds (p ++ x ∷ []))
told_before p x d n = subst (Mem d) (sym (deeds_more p x)) (mem_before d (deeds p) (deeds_in x.manager x.entry.effect.delta) n)

pub told_now : (p : List Line) (x : Line) (d : Deed) → Mem d (deeds_in x.manager x.entry.effect.delta) → Mem d (deeds (p ++ x ∷ []))
told_now p x d n = subst (Mem d) (sym (deeds_more p x)) (mem_behind d (deeds p) (deeds_in x.manager x.entry.effect.delta) n)

-- COMMITS
or_none : (a b : Bool) → a ≡ false → b ≡ false → (a || b) ≡ false
or_none a b e f = ap (λ t. t || b) e ∙ f

or_left : (a b : Bool) → (a || b) ≡ false → a ≡ false
or_left true b e = absurd cc
or_left false b e = refl

or_right : (a b : Bool) → (a || b) ≡ false → b ≡ false
or_right true b e = absurd cc
or_right false b e = e

pub any_none : {A : Type 0} (f : A → Bool) (xs ys : List A) → list_any f xs ≡ false → list_any f ys ≡ false → list_any f (xs ++ ys) ≡ false
any_none f [] ys e g = g
any_none f (x ∷ xs) ys e g = or_none (f x) (list_any f (xs ++ ys)) (or_left (f x) (list_any f xs) e) (any_none f xs ys (or_right (f x) (list_any f xs) e) g)

pub none_committed : (c : List ℕ) (u : Luw) (m : ℕ) (ds : List Did) → unit_received ds ≡ None → committed_in c u (deeds_in m ds) ≡ false
none_committed c u m [] e = refl
none_committed c u m (did.Received d v ∷ ds) e = absurd cc
none_committed c u m (did.Placed q i dead ∷ ds) e = none_committed c u m ds e
none_committed c u m (did.Removed q i why ∷ ds) e = none_committed c u m ds e
none_committed c u m (did.Moved q i to target bare ∷ ds) e = none_committed c u m ds e
none_committed c u m (did.Held q i by_ ∷ ds) e = none_committed c u m ds e
none_committed c u m (did.Released q i ∷ ds) e = none_committed c u m ds e
none_committed c u m (did.Hardened d note ∷ ds) e = none_committed c u m ds e
none_committed c u m (did.Prepared d v ∷ ds) e = none_committed c u m ds e

any_behind : {A : Type 0} (f : A → Bool) (xs ys : List A) → list_any f (xs ++ ys) ≡ false → list_any f ys ≡ false
any_behind f [] ys e = e
any_behind f (x ∷ xs) ys e = any_behind f xs ys (or_right (f x) (list_any f (xs ++ ys)) e)

-- what an entry tells is among what is told behind it
pub not_now : (s : Scenario) (ps : List Plain) (p : List Line) (x : Line) (c : List ℕ) (u : Luw) → is_committed s ps (deeds (p ++ x ∷ [])) c u ≡ false → committed_in c u (deeds_in x.manager x.entry.effect.delta) ≡ false
not_now s ps p x c u e = any_behind (λ (d : Deed). commits c u d.did) (deeds p) (deeds_in x.manager x.entry.effect.delta)
    (sym (ap (committed_in c u) (deeds_more p x)) ∙ or_right (was_last s ps c u) (committed_in c u (deeds (p ++ x ∷ []))) e)

-- a unit that wasn't committed is not, where the entry commits it not
pub still_not : (s : Scenario) (ps : List Plain) (p : List Line) (x : Line) (c : List ℕ) (u : Luw) → committed_in c u (deeds_in x.manager x.entry.effect.delta) ≡ false → is_committed s ps (deeds p) c u ≡ false → is_committed s ps (deeds (p ++ x ∷ [])) c u ≡ false
still_not s ps p x c u none e =
    ap (λ ds. was_last s ps c u || committed_in c u ds) (deeds_more p x)
    ∙ or_none (was_last s ps c u) (committed_in c u (deeds p ++ deeds_in x.manager x.entry.effect.delta)) (or_left (was_last s ps c u) (committed_in c u (deeds p)) e)
    (any_none (λ (d : Deed). commits c u d.did) (deeds p) (deeds_in x.manager x.entry.effect.delta) (or_right (was_last s ps c u) (committed_in c u (deeds p)) e) none)

-- and one that is committed behind such an entry was before
was_committed : (s : Scenario) (ps : List Plain) (p : List Line) (x : Line) (c : List ℕ) (u : Luw) → committed_in c u (deeds_in x.manager x.entry.effect.delta) ≡ false → is_committed s ps (deeds (p ++ x ∷ [])) c u ≡ true → is_committed s ps (deeds p) c u ≡ true
was_committed s ps p x c u none e = go (is_committed s ps (deeds p) c u) refl
  where
    go : (t : Bool) → is_committed s ps (deeds p) c u ≡ t → t ≡ true
    go true f = refl
    go false f = sym (still_not s ps p x c u none f) ∙ e

pub risen_told : (s : Scenario) (ps : List Plain) (p : List Line) (x : Line) (c : List ℕ) (v : Luw) → ((u : Luw) → is_committed s ps (deeds p) c u ≡ true → Upto u v) → (u : Luw) → committed_in c u (deeds_in x.manager x.entry.effect.delta) ≡ false
    → is_committed s ps (deeds (p ++ x ∷ [])) c u ≡ true → Upto u v
risen_told s ps p x c v old u none e = old u (was_committed s ps p x c u none e)

pub risen_still : (s : Scenario) (ps : List Plain) (p : List Line) (x : Line) (c : List ℕ) (v w : Luw) → unit_received x.entry.effect.delta ≡ None → w ≡ v → ((u : Luw) → is_committed s ps (deeds p) c u ≡ true → Upto u v) → (u : Luw)
    → is_committed s ps (deeds (p ++ x ∷ [])) c u ≡ true → Upto u w
risen_still s ps p x c v w quiet same old u e = subst (λ (z : Luw). Upto u z) (sym same) (risen_told s ps p x c v old u (none_committed c u x.manager x.entry.effect.delta quiet) e)

-- CONNECTIONS' NUMBERS, behind the post of an entry that is no restart
returned_none : (m : ℕ) (reply : Reply) (choice : Choice) (ds : List Did) (l : Ledger) → ledgers.returned m reply (chances.Call choice) ds l ≡ l
returned_none m (replies.Acted a) choice ds l = go a
  where
    go : (a : Acted) → ledgers.returned m (replies.Acted a) (chances.Call choice) ds l ≡ l
    go acted.Done = refl
    go a = refl
returned_none m reply choice ds l = refl

pub counted_on : (n k m : ℕ) (e : Entry) (choice : Choice) (l : Ledger) → e.chance ≡ chances.Call choice → IsNext e.call e.reply n k → n ≤ k → AreCountedAt n m l → AreCountedAt k m (posted m e e.reply l)
counted_on n k m e choice l is next le c = go e.reply refl
  where
    usual : AreCountedAt k m (ledgers.returned m e.reply e.chance e.effect.delta (ledgers.post m e e.effect.delta l))
    usual = subst (λ (z : Chance). AreCountedAt k m (ledgers.returned m e.reply z e.effect.delta (ledgers.post m e e.effect.delta l))) (sym is)
        (subst (AreCountedAt k m) (sym (returned_none m e.reply choice e.effect.delta (ledgers.post m e e.effect.delta l)))
        (calls_kept n k m e.call e.reply e.effect.received e.effect.delta l next c))

    go : (r : Reply) → e.reply ≡ r → AreCountedAt k m (posted m e r l)
    go (replies.Stopped by_) q = cut_kept n k m e l le c
    go (replies.Connected a) q = subst (λ (r : Reply). AreCountedAt k m (ledgers.returned m r e.chance e.effect.delta (ledgers.post m e e.effect.delta l))) q usual
    go (replies.Opened a) q = subst (λ (r : Reply). AreCountedAt k m (ledgers.returned m r e.chance e.effect.delta (ledgers.post m e e.effect.delta l))) q usual
    go (replies.Ended a) q = subst (λ (r : Reply). AreCountedAt k m (ledgers.returned m r e.chance e.effect.delta (ledgers.post m e e.effect.delta l))) q usual
    go (replies.Put a) q = subst (λ (r : Reply). AreCountedAt k m (ledgers.returned m r e.chance e.effect.delta (ledgers.post m e e.effect.delta l))) q usual
    go (replies.Got a) q = subst (λ (r : Reply). AreCountedAt k m (ledgers.returned m r e.chance e.effect.delta (ledgers.post m e e.effect.delta l))) q usual
    go (replies.Acted a) q = subst (λ (r : Reply). AreCountedAt k m (ledgers.returned m r e.chance e.effect.delta (ledgers.post m e e.effect.delta l))) q usual
    go replies.Changed q = subst (λ (r : Reply). AreCountedAt k m (ledgers.returned m r e.chance e.effect.delta (ledgers.post m e e.effect.delta l))) q usual
    go replies.Tried q = subst (λ (r : Reply). AreCountedAt k m (ledgers.returned m r e.chance e.effect.delta (ledgers.post m e e.effect.delta l))) q usual
    go (replies.Triggered a) q = subst (λ (r : Reply). AreCountedAt k m (ledgers.returned m r e.chance e.effect.delta (ledgers.post m e e.effect.delta l))) q usual
