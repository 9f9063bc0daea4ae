-- What a call on one queue leaves of all of them.
use Rattle.std.proofs.Common.{◌≡◌, ℕ, ◌+◌, ◌<◌, ◌^◌, List, sym, subst}
use Rattle.std.specs.Prelude.{Option, Some, None, Result, Ok, Err, OnOk, OnErr, IfSome}
use Rattle.mq_place.specs.States.{QueueState, QueueStates, or_fresh, CanBeDue}

pub call_none : (view now : QueueStates) → view ≡ now → (f : List QueueState → List QueueState) → view.states ≡ f view.states → now ≡ record { states = f now.states; room = now.room }
call_none view now is f same = subst (λ (v : QueueStates). v ≡ record { states = f v.states; room = v.room }) is (λ i. record { states = same i; room = view.room })

pub call_some : (view now new : QueueStates) → view ≡ now → (f : List QueueState → List QueueState) → new.states ≡ f view.states → new.room ≡ view.room → new ≡ record { states = f now.states; room = now.room }
call_some view now new is f states room = subst (λ (v : QueueStates). new ≡ record { states = f v.states; room = v.room }) is (λ i. record { states = states i; room = room i })

pub on_ok : {T E A B : Type 0} (r : Result T E) → (A → B) → OnOk r A → OnOk r B
on_ok (Ok t) f a = f a
on_ok (Err e) f a = tt

pub on_err : {T E A B : Type 0} (r : Result T E) → (A → B) → OnErr r A → OnErr r B
on_err (Ok t) f a = tt
on_err (Err e) f a = f a

-- what holds of both outcomes
pub either : {T E X : Type 0} (P : X → Type 0) (r : Result T E) (new ok err : X) → OnOk r (new ≡ ok) → OnErr r (new ≡ err) → P ok → P err → P new
either P (Ok t) new ok err a b p q = subst P (sym a) p
either P (Err e) new ok err a b p q = subst P (sym b) q

pub can_be_due : (name : List ℕ) (o : Option QueueState) → (or_fresh name o).queue.due + 1 < 2 ^ 64 → IfSome o CanBeDue
can_be_due name None h = tt
can_be_due name (Some s) h = h
