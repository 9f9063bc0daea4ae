-- Connections are found and changed at their places, and who uses a queue stays counted.
use Rattle.std.proofs.Common.{◌≡◌, ℕ, zero, suc, ◌+◌, ◌<◌, Bool, true, false, cond, List, [], ◌∷◌, ◌++◌, length, get_or, refl, ap, arith, sym, subst, ◌∙◌}
use Rattle.std.specs.Prelude.{position, Some, None, ◌==◌, not, ◌||◌, map, slice_get, slice_set}
use Rattle.std.specs.List.{list_any, remove}
use Rattle.std.proofs.lemmas.Bool.Decides.{nat_tests}
use Rattle.mq_calls.specs.Words.{Place, PathStep, connection_at, change_connection, change_handle, any_handle, has_step, stale_if, made_stale}
use Rattle.mq_calls.specs.declared.answers.Appl.{Appl}
use Rattle.mq_calls.specs.declared.state.Connection.{Connection}
use Rattle.mq_calls.specs.declared.state.Handle.{Handle}
use Rattle.mq_handles.specs.declared.users.Users.{Users}
use Rattle.mq_handles.specs.Rising.{AreRising, AreBelow, has_number, connection_number}
use Rattle.mq_handles.specs.Seats.{connection_of, at_place}
use Rattle.mq_handles.specs.Users.{Key, tally, weight_by, handle_weight, weight_of, IsMore, IsMoved, IsPartOf}
use Rattle.mq_handles.specs.Desks.{IsDesk}
use Rattle.mq_handles.proofs.WeightLaws.{weight_more, weight_set, weight_out, weight_on, weight_map, weight_map_in}
use Rattle.mq_handles.proofs.SeatLaws.{rising_on, below_on, rising_put, below_put, rising_kept, below_kept, rising_mapped, below_mapped, one_goes}

pub at_none : (n : ℕ) (cs : List Connection) → position (has_number n) cs ≡ None → connection_at n cs ≡ None
at_none n [] e = refl
at_none n (c ∷ cs) e = grind (arith, nat_tests, at_none n cs)

pub at_some : (n : ℕ) (cs : List Connection) (at : ℕ) (d : Connection) → position (has_number n) cs ≡ Some at → connection_at n cs ≡ Some (get_or cs at d)
at_some n [] at d e = absurd cc
at_some n (c ∷ cs) zero d e = grind (arith, nat_tests)
at_some n (c ∷ cs) (suc at) d e = grind (arith, nat_tests, at_some n cs at d)

pub at_get : (n : ℕ) (cs : List Connection) (at : ℕ) → position (has_number n) cs ≡ Some at → connection_at n cs ≡ slice_get cs at
at_get n [] at e = absurd cc
at_get n (c ∷ cs) zero e = grind (arith, nat_tests)
at_get n (c ∷ cs) (suc at) e = grind (arith, nat_tests, at_get n cs at)

pub within : (n : ℕ) (cs : List Connection) (at : ℕ) → position (has_number n) cs ≡ Some at → at < length cs
within n [] at e = absurd cc
within n (c ∷ cs) zero e = omega arith
within n (c ∷ cs) (suc at) e = grind (arith, nat_tests, within n cs at)

-- a connection that is changed at its place is changed by its number
pub changed_at : (n : ℕ) (f : Connection → Connection) (cs : List Connection) (at : ℕ) (c : Connection) → position (has_number n) cs ≡ Some at → slice_get cs at ≡ Some c → slice_set cs at (f c) ≡ change_connection n f cs
changed_at n f [] at c e g = grind (arith)
changed_at n f (d ∷ ds) zero c e g = grind (arith)
changed_at n f (d ∷ ds) (suc at) c e g = grind (arith, changed_at n f ds at c)

pub changed_none : (n : ℕ) (f : Connection → Connection) (cs : List Connection) → position (has_number n) cs ≡ None → change_connection n f cs ≡ cs
changed_none n f [] e = refl
changed_none n f (d ∷ ds) e = grind (arith, changed_none n f ds)

pub set_same : (cs : List Connection) (at : ℕ) (c : Connection) → slice_get cs at ≡ Some c → slice_set cs at c ≡ cs
set_same [] at c g = grind (arith)
set_same (d ∷ ds) zero c g = grind (arith)
set_same (d ∷ ds) (suc at) c g = grind (arith, set_same ds at c)

-- ---- what is kept

pub desk_connected : (cs : List Connection) (last : ℕ) (u : Users) (appl : Appl) → IsDesk cs last u → IsDesk (cs ++ connection_of (last + 1) appl ∷ []) (last + 1) u
desk_connected cs last u appl d =
    let new : Connection = connection_of (last + 1) appl in
    record {
      rising = rising_on connection_number new cs d.rising d.below;
      below = below_on connection_number (last + 1) new cs refl d.below;
      counted = λ key. d.counted key ∙ sym (weight_on (handle_weight key) new cs refl);
    }

pub desk_put : (cs : List Connection) (last : ℕ) (u v : Users) (at : ℕ) (old new : Connection) → slice_get cs at ≡ Some old → new.number ≡ old.number → IsMoved u v old.handles new.handles
    → IsDesk cs last u → IsDesk (slice_set cs at new) last v
desk_put cs last u v at old new e same moved d = record {
  rising = rising_put connection_number cs at old new e same d.rising;
  below = below_put connection_number (last + 1) cs at old new e same d.below;
  counted = λ key. let total = weight_set (handle_weight key) cs at old new e in let m = moved key in let was = d.counted key in omega (arith, total, m, was);
}

pub desk_gone : (cs : List Connection) (last n : ℕ) (u v : Users) (at : ℕ) (old : Connection) → position (has_number n) cs ≡ Some at → slice_get cs at ≡ Some old
    → IsMore (λ key. weight_of (handle_weight key) old.handles) v u → IsDesk cs last u → IsDesk (remove cs at) last v
desk_gone cs last n u v at old place e less d =
    let goes = one_goes connection_number n cs at d.rising place in
    record {
      rising = subst (AreRising connection_number) (sym goes) (rising_kept connection_number (λ (c : Connection). not (c.number == n)) cs d.rising);
      below = subst (AreBelow connection_number (last + 1)) (sym goes) (below_kept connection_number (last + 1) (λ (c : Connection). not (c.number == n)) cs d.below);
      counted = λ key. let total = weight_out (handle_weight key) cs at old e in let m = less key in let was = d.counted key in omega (arith, total, m, was);
    }

-- a connection's handles are among those that are counted
pub part_at : (cs : List Connection) (last : ℕ) (u : Users) (at : ℕ) (old : Connection) → slice_get cs at ≡ Some old → IsDesk cs last u → IsPartOf old.handles u
part_at cs last u at old e d key = let total = weight_out (handle_weight key) cs at old e in let was = d.counted key in omega (arith, total, was)

-- ---- stale handles

same_stale : (key : Key) (step : PathStep) (h : Handle) → handle_weight key (stale_if (has_step step h) h) ≡ handle_weight key h
same_stale key step h = by (has_step step h)
  where
    by : (b : Bool) → handle_weight key (stale_if b h) ≡ handle_weight key h
    by true = refl
    by false = refl

pub desk_stale : (cs : List Connection) (last : ℕ) (u : Users) (step : PathStep) → IsDesk cs last u → IsDesk (map (made_stale step) cs) last u
desk_stale cs last u step d = record {
  rising = rising_mapped connection_number (made_stale step) (λ c. refl) cs d.rising;
  below = below_mapped connection_number (last + 1) (made_stale step) (λ c. refl) cs d.below;
  counted = λ key. d.counted key ∙ sym (weight_map_in (handle_weight key) (made_stale step) (λ c. weight_map (handle_weight key) (λ (h : Handle). stale_if (has_step step h) h) (same_stale key step) c.handles) cs);
}

-- where no path has the step none becomes stale
none_stale_of : (step : PathStep) (hs : List Handle) → list_any (has_step step) hs ≡ false → map (λ (h : Handle). stale_if (has_step step h) h) hs ≡ hs
none_stale_of step [] e = refl
none_stale_of step (h ∷ hs) e = by (has_step step h) (none_stale_of step hs) e
  where
    by : (b : Bool) → (list_any (has_step step) hs ≡ false → map (λ (x : Handle). stale_if (has_step step x) x) hs ≡ hs) → b || list_any (has_step step) hs ≡ false
        → stale_if b h ∷ map (λ (x : Handle). stale_if (has_step step x) x) hs ≡ h ∷ hs
    by true rest f = absurd cc
    by false rest f = ap (λ (xs : List Handle). h ∷ xs) (rest f)

pub none_stale : (step : PathStep) (cs : List Connection) → any_handle (has_step step) cs ≡ false → map (made_stale step) cs ≡ cs
none_stale step [] e = refl
none_stale step (c ∷ cs) e = by (list_any (has_step step) c.handles) (none_stale_of step c.handles) (none_stale step cs) e
  where
    by : (b : Bool) → (b ≡ false → map (λ (x : Handle). stale_if (has_step step x) x) c.handles ≡ c.handles) → (any_handle (has_step step) cs ≡ false → map (made_stale step) cs ≡ cs)
        → b || any_handle (has_step step) cs ≡ false → made_stale step c ∷ map (made_stale step) cs ≡ c ∷ cs
    by true one rest f = absurd cc
    by false one rest f =
        let first : made_stale step c ≡ c = ap (λ (hs : List Handle). record c { handles = hs }) (one refl) in
        λ i. first i ∷ rest f i

-- ---- a handle more

pub opened_moved : (u v : Users) (h : Handle) (path : List PathStep) (hs ks ms : List Handle) → IsMore (weight_by h.how h.leads path) u v → path ≡ h.path → ms ≡ ks ++ h ∷ [] → ks ≡ hs → IsMoved u v hs ms
opened_moved u v h path hs ks ms more over pushed same key =
    let counted = more key in
    let on = ap (λ (p : List PathStep). weight_by h.how h.leads p key) over in
    let all = ap (weight_of (handle_weight key)) (pushed ∙ ap (λ (l : List Handle). l ++ h ∷ []) same) ∙ weight_more (handle_weight key) h hs in
    omega (arith, counted, on, all)

-- ---- changes that leave what handles add

pub same_moved : (u : Users) (hs : List Handle) → IsMoved u u hs hs
same_moved u hs key = refl

cursor_weight : (key : Key) (n : ℕ) (place : Place) (hs : List Handle) → weight_of (handle_weight key) (change_handle n (at_place place) hs) ≡ weight_of (handle_weight key) hs
cursor_weight key n place [] = refl
cursor_weight key n place (h ∷ hs) = by (h.number == n) (cursor_weight key n place hs)
  where
    by : (b : Bool) → weight_of (handle_weight key) (change_handle n (at_place place) hs) ≡ weight_of (handle_weight key) hs
        → weight_of (handle_weight key) (cond b (at_place place h ∷ hs) (h ∷ change_handle n (at_place place) hs)) ≡ handle_weight key h + weight_of (handle_weight key) hs
    by true rest = refl
    by false rest = ap (λ k. handle_weight key h + k) rest

pub cursor_moved : (u : Users) (n : ℕ) (place : Place) (hs : List Handle) → IsMoved u u hs (change_handle n (at_place place) hs)
cursor_moved u n place hs key = ap (λ k. tally key u + k) (sym (cursor_weight key n place hs))
