-- One queue of the list is changed.
use Rattle.std.proofs.Common.{ℕ, zero, suc, ◌≡◌, List, [], ◌∷◌, Some, ap, ◌∙◌, arith}
use Rattle.std.specs.Prelude.{slice_get, slice_set, Result, Ok, Err, OnOk}
use Rattle.mq_spec_network.specs.Ledger.{change_at}
use Rattle.mq_net_rows.specs.declared.lanes.Lane.{Lane}
use Rattle.mq_net_rows.specs.declared.lanes.Named.{Named}
use Rattle.mq_net_rows.specs.Stored.{put_slot, seat_on}

pub changed_at : {A : Type 0} (m : ℕ) (f : A → A) (xs : List A) (x : A) → slice_get xs m ≡ Some x → slice_set xs m (f x) ≡ change_at m f xs
changed_at m f [] x e = absurd cc
changed_at zero f (y ∷ xs) x e = grind (arith)
changed_at (suc m) f (y ∷ xs) x e = grind (arith, changed_at m f xs x)

pub set_same : {A : Type 0} (m : ℕ) (xs : List A) (x : A) → slice_get xs m ≡ Some x → slice_set xs m x ≡ xs
set_same m [] x e = absurd cc
set_same zero (y ∷ xs) x e = grind (arith)
set_same (suc m) (y ∷ xs) x e = grind (arith, set_same m xs x)

pub ok_seat : {T E : Type 0} (r : Result T E) (m lane k : ℕ) (qs : List Named) (q : Named) (lanes : List Lane) → slice_get qs m ≡ Some q → OnOk r (lanes ≡ put_slot lane k q.lanes) → OnOk r (slice_set qs m (record { name = q.name; lanes = lanes }) ≡ change_at m (seat_on lane k) qs)
ok_seat (Ok t) m lane k qs q lanes e is = ap (λ (ls : List Lane). slice_set qs m (record { name = q.name; lanes = ls })) is ∙ changed_at m (seat_on lane k) qs q e
ok_seat (Err t) m lane k qs q lanes e is = tt
