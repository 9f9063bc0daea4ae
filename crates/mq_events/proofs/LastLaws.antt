-- The last entry, and trigger turns one after the other.
use Rattle.std.proofs.Common.{◌≡◌, suc, ◌-◌, refl, sym, ap, ◌∙◌, List, [], ◌∷◌, ◌++◌, length, arith}
use Rattle.std.specs.Prelude.{Option, Some, None, slice_get}
use Rattle.mq_spec_node.specs.Terms.{Actor, Call, Entry, History}
use Rattle.mq_events.specs.Events.{Adds}
use Rattle.mq_events.specs.States.{NodeState, last_actor, last_entry}

one_less : (x y : Entry) (es : List Entry) → slice_get (y ∷ es) (length (y ∷ es) - 1) ≡ slice_get (x ∷ y ∷ es) (length (x ∷ y ∷ es) - 1)
one_less x y es =
    let long : length (x ∷ y ∷ es) - 1 ≡ suc (length (y ∷ es) - 1) = omega arith in
    sym (ap (slice_get (x ∷ y ∷ es)) long)

some_actor : (last : Option Actor) (es : List Entry) (e : Entry) → slice_get es (length es - 1) ≡ Some e → last_actor last es ≡ Some e.actor
some_actor last [] e h = absurd cc
some_actor last (x ∷ []) e h = let f : x ≡ e = cc in ap (λ (y : Entry). Some y.actor) f
some_actor last (x ∷ y ∷ es) e h = some_actor (Some x.actor) (y ∷ es) e (one_less x y es ∙ h)

never : (x : Entry) (es : List Entry) → slice_get (x ∷ es) (length (x ∷ es) - 1) ≡ None → ⊥
never x [] h = absurd cc
never x (y ∷ es) h = never y es (one_less x y es ∙ h)

no_last : (last : Option Actor) (es : List Entry) → slice_get es (length es - 1) ≡ None → last_actor last es ≡ last
no_last last [] h = refl
no_last last (x ∷ es) h = absurd (never x es h)

pub last_some : (es : List Entry) (e : Entry) → slice_get es (length es - 1) ≡ Some e → last_actor None es ≡ Some e.actor
last_some es e h = some_actor None es e h

pub last_none : (es : List Entry) → slice_get es (length es - 1) ≡ None → last_actor None es ≡ None
last_none es h = no_last None es h

pub last_is : (es : List Entry) → slice_get es (length es - 1) ≡ last_entry es
last_is [] = refl
last_is (x ∷ []) = refl
last_is (x ∷ y ∷ es) = sym (one_less x y es) ∙ last_is (y ∷ es)

behind : (es : List Entry) (e : Entry) → last_entry (es ++ e ∷ []) ≡ Some e
behind [] e = refl
behind (x ∷ []) e = refl
behind (x ∷ y ∷ es) e = behind (y ∷ es) e

pub adds_last : (who : Actor) (what : Call) (e : Entry) (old new : NodeState) → Adds who what e old new → last_entry new.history.entries ≡ Some e
adds_last who what e old new a = ap (λ (h : History). last_entry h.entries) a.grows.history ∙ behind old.history.entries e
