-- Nodes that rest, with the counts of faults of their disks.
use Rattle.std.proofs.Common.{◌≡◌, ℕ, List, [], ◌∷◌, ◌++◌, sym, ap, subst, ◌∙◌}
use Rattle.std.specs.Prelude.{map}
use Rattle.std.proofs.lemmas.List.{map-append}
use Rattle.mq_history.specs.declared.history.History.{History}
use Rattle.mq_core.specs.Values.{CoreValue}
use Rattle.mq_watch.specs.from_events.Disks.{HasRisen}
use Rattle.mq_world.specs.Resting.{AreRisen, faults_in}

-- none yet
pub risen_first : (vs : List CoreValue) (hs : List History) → vs ≡ [] → hs ≡ [] → AreRisen (map faults_in vs) hs
risen_first vs hs a b = subst (λ (xs : List CoreValue). AreRisen (map faults_in xs) hs) (sym a) (subst (λ (ys : List History). AreRisen [] ys) (sym b) tt)

-- one more
risen_on : (cs : List ℕ) (hs : List History) (c : ℕ) (h : History) → AreRisen cs hs → HasRisen h.entries c → AreRisen (cs ++ c ∷ []) (hs ++ h ∷ [])
risen_on [] [] c h r one = (one, tt)
risen_on [] (x ∷ xs) c h r one = absurd r
risen_on (y ∷ ys) [] c h r one = absurd r
risen_on (y ∷ ys) (x ∷ xs) c h r one = (r.0, risen_on ys xs c h r.1 one)

pub risen_moved : (vs ws : List CoreValue) (hs ks : List History) (v : CoreValue) (h : History) → ws ≡ vs ++ v ∷ [] → ks ≡ hs ++ h ∷ [] → AreRisen (map faults_in vs) hs → HasRisen h.entries v.faults → AreRisen (map faults_in ws) ks
risen_moved vs ws hs ks v h a b r one =
    subst (λ (cs : List ℕ). AreRisen cs ks) (sym (ap (map faults_in) a ∙ map-append faults_in vs (v ∷ [])))
    (subst (λ (xs : List History). AreRisen (map faults_in vs ++ v.faults ∷ []) xs) (sym b) (risen_on (map faults_in vs) hs v.faults h r one))
