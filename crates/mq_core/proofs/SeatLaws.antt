-- What changes connections and handles, and leaves the units, leaves the parts tied.
use Rattle.std.proofs.Common.{◌≡◌, ℕ, ◌+◌, Bool, true, false, cond, List, [], ◌∷◌, ◌++◌, refl, ap, arith, sym, subst, ◌∙◌}
use Rattle.std.specs.Prelude.{Some, sum_by, count_by, ◌==◌}
use Rattle.std.proofs.lemmas.List.Sums.{sum_by_push, sum_by-cons}
use Rattle.std.proofs.lemmas.Bool.Decides.{nat_tests}
use Rattle.mq_calls.specs.Words.{Ident, puts_to, unit_need, connection_at, change_connection}
use Rattle.mq_calls.specs.declared.state.Connection.{Connection}
use Rattle.mq_calls.specs.declared.state.Item.{Item}
use Rattle.mq_calls.specs.Reads.{is_put_to}
use Rattle.mq_sides.specs.from_unit.Forced.{CanBeForced}
use Rattle.mq_trigger.specs.from_handles.Desks.{Desk}
use Rattle.mq_core.specs.Views.{PartsValue}
use Rattle.mq_core.specs.Ties.{SameUnits, Tied, needs, times_in_units, times_in_unit, AreForced}

unfoldable pub with_desk : Desk → PartsValue → PartsValue
with_desk d x = record x { desk = d }

pub same_units : (cs : List Connection) → SameUnits cs cs
same_units cs = record { need = refl; puts = λ name. refl; times = λ i. refl; forced = λ f. f }

pub tied_desk : (x : PartsValue) (desk : Desk) → SameUnits x.desk.live desk.live → Tied x → Tied (record x { desk = desk })
tied_desk x desk same t = record {
  up = λ u. let w = t.up u in record { live = w.live; settled = w.settled; ends = w.ends; room = w.room; body = w.body };
  reserved = λ u. t.reserved u ∙ sym same.need;
  within = t.within;
  queues = record { lanes = t.queues.lanes; pending = λ name. omega (arith, t.queues.pending name, same.puts name) };
  idents = record {
    once = λ i. omega (arith, same.times i, t.idents.once i);
    given = λ i a b c. omega (arith, same.times i, t.idents.given i a b c);
  };
  forced = same.forced t.forced;
  max = t.max;
  moment = t.moment;
}

-- only the desk has changed, and the units are the same
pub tied_seated : (x y : PartsValue) → y ≡ record x { desk = y.desk } → SameUnits x.desk.live y.desk.live → Tied x → Tied y
tied_seated x y e same t = subst Tied (sym e) (tied_desk x y.desk same t)

-- one connection more, with an empty unit
need_on : (c : Connection) (cs : List Connection) → unit_need c.unit ≡ 0 → needs (cs ++ c ∷ []) ≡ needs cs
need_on c cs e = let pushed = sum_by_push (λ (c : Connection). unit_need c.unit) cs c in omega (arith, pushed, e)

puts_on : (name : List ℕ) (c : Connection) (cs : List Connection) → count_by (is_put_to name) c.unit ≡ 0 → puts_to name (cs ++ c ∷ []) ≡ puts_to name cs
puts_on name c cs e = let pushed = sum_by_push (λ (c : Connection). count_by (is_put_to name) c.unit) cs c in omega (arith, pushed, e)

times_on : (i : Ident) (c : Connection) (cs : List Connection) → times_in_unit i c.unit ≡ 0 → times_in_units i (cs ++ c ∷ []) ≡ times_in_units i cs
times_on i c [] e = omega (arith, e)
times_on i c (d ∷ cs) e = ap (λ n. times_in_unit i d.unit + n) (times_on i c cs e)

forced_on : (c : Connection) (cs : List Connection) → CanBeForced c.unit → AreForced cs → AreForced (cs ++ c ∷ [])
forced_on c [] f h = (f, tt)
forced_on c (d ∷ cs) f h = (h.0, forced_on c cs f h.1)

pub one_more : (c : Connection) (cs : List Connection) → c.unit ≡ [] → SameUnits cs (cs ++ c ∷ [])
one_more c cs e = record {
  need = need_on c cs (ap unit_need e);
  puts = λ name. puts_on name c cs (ap (count_by (is_put_to name)) e);
  times = λ i. times_on i c cs (ap (times_in_unit i) e);
  forced = λ h. forced_on c cs (subst CanBeForced (sym e) tt) h;
}

-- a change of one connection that leaves its unit
module _ (n : ℕ) (f : Connection → Connection) (same : (c : Connection) → (f c).unit ≡ c.unit) where
  sum_kept : (g : List Item → ℕ) (cs : List Connection) → sum_by (λ (c : Connection). g c.unit) (change_connection n f cs) ≡ sum_by (λ (c : Connection). g c.unit) cs
  sum_kept g [] = refl
  sum_kept g (c ∷ cs) = by (c.number == n) (sum_kept g cs)
    where
      by : (b : Bool) → sum_by (λ (c : Connection). g c.unit) (change_connection n f cs) ≡ sum_by (λ (c : Connection). g c.unit) cs
          → sum_by (λ (c : Connection). g c.unit) (cond b (f c ∷ cs) (c ∷ change_connection n f cs)) ≡ sum_by (λ (c : Connection). g c.unit) (c ∷ cs)
      by true rest = sum_by-cons (λ (c : Connection). g c.unit) (f c) cs ∙ ap (λ u. g u + sum_by (λ (c : Connection). g c.unit) cs) (same c) ∙ sym (sum_by-cons (λ (c : Connection). g c.unit) c cs)
      by false rest = sum_by-cons (λ (c : Connection). g c.unit) c (change_connection n f cs) ∙ ap (λ k. g c.unit + k) rest ∙ sym (sum_by-cons (λ (c : Connection). g c.unit) c cs)

  times_kept : (i : Ident) (cs : List Connection) → times_in_units i (change_connection n f cs) ≡ times_in_units i cs
  times_kept i [] = refl
  times_kept i (c ∷ cs) = by (c.number == n) (times_kept i cs)
    where
      by : (b : Bool) → times_in_units i (change_connection n f cs) ≡ times_in_units i cs → times_in_units i (cond b (f c ∷ cs) (c ∷ change_connection n f cs)) ≡ times_in_units i (c ∷ cs)
      by true rest = ap (λ u. times_in_unit i u + times_in_units i cs) (same c)
      by false rest = ap (λ k. times_in_unit i c.unit + k) rest

  forced_kept : (cs : List Connection) → AreForced cs → AreForced (change_connection n f cs)
  forced_kept [] h = tt
  forced_kept (c ∷ cs) h = by (c.number == n) (forced_kept cs h.1)
    where
      by : (b : Bool) → AreForced (change_connection n f cs) → AreForced (cond b (f c ∷ cs) (c ∷ change_connection n f cs))
      by true rest = (subst CanBeForced (sym (same c)) h.0, h.1)
      by false rest = (h.0, rest)

  pub unit_kept : (cs : List Connection) → SameUnits cs (change_connection n f cs)
  unit_kept cs = record { need = sum_kept unit_need cs; puts = λ name. sum_kept (count_by (is_put_to name)) cs; times = λ i. times_kept i cs; forced = forced_kept cs }

-- the connection of a number has it
pub number_is : (n : ℕ) (cs : List Connection) (c : Connection) → connection_at n cs ≡ Some c → c.number ≡ n
number_is n [] c e = absurd cc
number_is n (d ∷ cs) c e = grind (arith, nat_tests, number_is n cs c)
