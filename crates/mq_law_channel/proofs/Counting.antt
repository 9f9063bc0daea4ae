-- Each step of a channel keeps its numbers.
use Rattle.std.proofs.Common.{ℕ, ◌≡◌, ◌+◌, Bool, true, false, List, ◌∷◌, arith}
use Rattle.std.specs.Prelude.{Option, Some, None, if◌then◌else◌}
use Rattle.std.proofs.lemmas.Bool.Decides.{nat_tests}
use Rattle.mq_sync.specs.declared.unit.Unit.{Unit as Luw}
use Rattle.mq_sync.specs.Units.{unit_named}
use Rattle.mq_law_channel.specs.Facts.{Letter, Tale, Binds, Sends, Ends, Tells, Acks, Errs, Near, Far, Mem, Sound}
use Rattle.mq_law_channel.specs.Counting.{Count, Counted, renumbered}

pub count_session : (s : Near) (r : Far) (c : Luw → List Letter) (f b : List Tale) (forced force : Bool) (own other : ℕ) (n : Count) → Sound s r c f b
    → Counted s forced own force r.unit r.owes other n f b
    → Counted (record { session = s.session + 1; begun = 0; holds = s.holds; doubt = s.doubt; undone = s.undone }) forced own force r.unit r.owes other n f b
count_session s r c f b forced force own other n h k = grind arith

pub count_bind : (s : Near) (unit : Luw) (owes : Option Tale) (f b : List Tale) (forced force : Bool) (own other last : ℕ) (n : Count)
    → Counted s forced own force unit owes other n f b
    → Counted s forced own force unit owes other n (Binds s.session last force ∷ f) b
count_bind s unit owes f b forced force own other last n k = grind arith

pub count_msg : (s : Near) (unit : Luw) (owes : Option Tale) (f b : List Tale) (forced force : Bool) (own other : ℕ) (n : Count) (u : Luw) (i : ℕ) (l : Letter)
    → Counted s forced own force unit owes other n f b
    → Counted s forced own force unit owes other n (Sends u i l ∷ f) b
count_msg s unit owes f b forced force own other n u i l k = grind arith

pub count_prepared : (s : Near) (unit : Luw) (owes : Option Tale) (f b : List Tale) (forced force : Bool) (own other : ℕ) (n : Count)
    → Counted s forced own force unit owes other n f b
    → Counted (record { session = s.session; begun = s.begun; holds = s.holds; doubt = true; undone = s.undone }) forced own false unit owes other n f b
count_prepared s unit owes f b forced force own other n k = grind arith

pub count_end : (s : Near) (unit : Luw) (owes : Option Tale) (f b : List Tale) (forced force : Bool) (own other : ℕ) (n : Count) (u : Luw) (count last : ℕ)
    → Counted s forced own force unit owes other n f b → last ≡ n.number u
    → Counted s forced own force unit owes other n (Ends u count last ∷ f) b
count_end s unit owes f b forced force own other n u count last k e = grind arith

-- the sender's hands become empty, with the number at which the ends agree
pub count_emptied : (s : Near) (unit : Luw) (owes : Option Tale) (f b : List Tale) (forced force : Bool) (own other own' : ℕ) (n : Count)
    → Counted s forced own force unit owes other n f b → (n.set ≡ false → other ≡ own')
    → Counted (record { session = s.session; begun = s.begun; holds = None; doubt = false; undone = s.undone }) false own' force unit owes other n f b
count_emptied s unit owes f b forced force own other own' n k e = grind arith

pub count_taken : (s : Near) (r : Far) (c : Luw → List Letter) (f b : List Tale) (force : Bool) (own other last : ℕ) (n : Count) → Sound s r c f b
    → Counted s false own force r.unit r.owes other n f b → s.holds ≡ None
    → Counted (record { session = s.session; begun = s.begun + 1; holds = Some (unit_named s.session (s.begun + 1)); doubt = false; undone = s.undone }) false own force r.unit r.owes other
    (record { number = renumbered n.number (unit_named s.session (s.begun + 1)) last; before = own; set = n.set }) f b
count_taken s r c f b force own other last n h k e = grind (arith, nat_tests)

pub count_binding : (s : Near) (unit : Luw) (owes : Option Tale) (f b : List Tale) (forced force : Bool) (own other x last : ℕ) (flag : Bool) (n : Count)
    → Counted s forced own force unit owes other n f b → Mem (Binds x last flag) f
    → Counted s forced own force unit (Some (Tells x unit (if flag then last else other))) (if flag then last else other) n f b
count_binding s unit owes f b forced force own other x last true n k m = grind arith
count_binding s unit owes f b forced force own other x last false n k m = grind arith

pub count_commit : (s : Near) (r : Far) (c : Luw → List Letter) (f b : List Tale) (forced force : Bool) (own other k last : ℕ) (n : Count) → Sound s r c f b
    → Counted s forced own force r.unit r.owes other n f b
    → Mem (Ends (unit_named r.session r.latest) k last) f → s.holds ≡ Some (unit_named r.session r.latest)
    → Counted s forced own force (unit_named r.session r.latest) (Some (Acks (unit_named r.session r.latest))) last n f b
count_commit s r c f b forced force own other k last n h q m e = grind arith

pub count_acked : (s : Near) (unit : Luw) (owes : Option Tale) (f b : List Tale) (forced force : Bool) (own other : ℕ) (n : Count) (u : Luw)
    → Counted s forced own force unit owes other n f b
    → Counted s forced own force unit (Some (Acks u)) other n f b
count_acked s unit owes f b forced force own other n u k = grind arith

pub count_refused : (s : Near) (unit : Luw) (owes : Option Tale) (f b : List Tale) (forced force : Bool) (own other : ℕ) (n : Count) (u : Luw)
    → Counted s forced own force unit owes other n f b
    → Counted s forced own force unit (Some (Errs u)) other n f b
count_refused s unit owes f b forced force own other n u k = grind arith

pub count_answered : (s : Near) (unit : Luw) (owes : Option Tale) (f b : List Tale) (forced force : Bool) (own other : ℕ) (n : Count) (a : Tale)
    → Counted s forced own force unit owes other n f b → owes ≡ Some a
    → Counted s forced own force unit None other n f (a ∷ b)
count_answered s unit owes f b forced force own other n a k e = grind arith

pub count_silent : (s : Near) (unit : Luw) (owes : Option Tale) (f b : List Tale) (forced force : Bool) (own other : ℕ) (n : Count)
    → Counted s forced own force unit owes other n f b
    → Counted s forced own force unit None other n f b
count_silent s unit owes f b forced force own other n k = grind arith

-- an operator sets a number
pub count_reset : (s : Near) (unit : Luw) (owes : Option Tale) (f b : List Tale) (forced force force' : Bool) (own other own' other' : ℕ) (n : Count)
    → Counted s forced own force unit owes other n f b
    → Counted s forced own' force' unit owes other' (record { number = n.number; before = n.before; set = true }) f b
count_reset s unit owes f b forced force force' own other own' other' n k = grind arith

pub count_operated : (s : Near) (unit : Luw) (owes : Option Tale) (f b : List Tale) (forced force : Bool) (own other own' : ℕ) (n : Count) (u : Luw)
    → Counted s forced own force unit owes other n f b → s.holds ≡ Some u → own' ≡ n.number u
    → Counted s true own' force unit owes other n f b
count_operated s unit owes f b forced force own other own' n u k e q = grind arith
