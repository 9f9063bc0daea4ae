-- Each step of a channel keeps the facts.
use Rattle.std.proofs.Common.{ℕ, zero, suc, ◌≡◌, ◌≢◌, ◌+◌, ◌<◌, ◌≤◌, ◌⊎◌, Bool, true, false, List, [], ◌∷◌, ◌++◌, length, refl, arith}
use Rattle.std.specs.Prelude.{Some, None, slice_get}
use Rattle.mq_sync.specs.declared.unit.Unit.{Unit as Luw}
use Rattle.mq_sync.specs.Units.{unit_named, Below, Upto}
use Rattle.mq_law_channel.specs.Facts.{Letter, Tale, Binds, Sends, Ends, Tells, Acks, Errs, Near, Far, Mem, Dead, given, marked, Sound}

pub get_pushed : {A : Type 0} (xs : List A) (y z : A) (i : ℕ) → slice_get (xs ++ y ∷ []) i ≡ Some z → (slice_get xs i ≡ Some z) ⊎ ((i ≡ length xs) × (y ≡ z))
get_pushed [] y z zero e = grind arith
get_pushed [] y z (suc i) e = grind arith
get_pushed (x ∷ xs) y z zero e = grind arith
get_pushed (x ∷ xs) y z (suc i) e = grind (arith, get_pushed xs y z i)

pub new_session : (s : Near) (r : Far) (c : Luw → List Letter) (f b : List Tale) → Sound s r c f b → ((u : Luw) → s.holds ≡ Some u → s.doubt ≡ true)
    → Sound (record { session = s.session + 1; begun = 0; holds = s.holds; doubt = s.doubt; undone = s.undone }) r c f b
new_session s r c f b h free = grind arith

pub push_bind : (s : Near) (r : Far) (c : Luw → List Letter) (f b : List Tale) (last : ℕ) (force : Bool) → Sound s r c f b
    → Sound s r c (Binds s.session last force ∷ f) b
push_bind s r c f b last force h = grind arith

pub push_msg : (s : Near) (r : Far) (c : Luw → List Letter) (f b : List Tale) (u : Luw) (i : ℕ) (l : Letter) → Sound s r c f b
    → s.holds ≡ Some u → slice_get (c u) i ≡ Some l
    → Sound s r c (Sends u i l ∷ f) b
push_msg s r c f b u i l h t g = grind arith

pub prepares : (s : Near) (r : Far) (c : Luw → List Letter) (f b : List Tale) (u : Luw) → Sound s r c f b
    → s.holds ≡ Some u
    → Sound (record { session = s.session; begun = s.begun; holds = s.holds; doubt = true; undone = s.undone }) r c f b
prepares s r c f b u h t = grind arith

pub push_end : (s : Near) (r : Far) (c : Luw → List Letter) (f b : List Tale) (u : Luw) (k last : ℕ) → Sound s r c f b
    → s.holds ≡ Some u → s.doubt ≡ true → k ≡ length (c u)
    → Sound s r c (Ends u k last ∷ f) b
push_end s r c f b u k last h t one e = grind arith

-- a sender's hands become empty: nothing was prepared, or what was is settled as the receiver did it
pub empties : (s : Near) (r : Far) (c : Luw → List Letter) (f b : List Tale) → Sound s r c f b
    → ((u : Luw) → s.holds ≡ Some u → s.doubt ≡ true → (u ≡ r.unit) ⊎ Dead r u.session)
    → Sound (record { session = s.session; begun = s.begun; holds = None; doubt = false; undone = s.undone }) r c f b
empties s r c f b h how = grind arith

-- an operator backs the unit in doubt out
pub undoes : (s : Near) (r : Far) (c : Luw → List Letter) (f b : List Tale) (u : Luw) → Sound s r c f b
    → s.holds ≡ Some u → s.doubt ≡ true
    → Sound (record { session = s.session; begun = s.begun; holds = None; doubt = false; undone = marked s.undone u }) r c f b
undoes s r c f b u h t one = grind arith

pub takes : (s : Near) (r : Far) (c : Luw → List Letter) (f b : List Tale) (letters : List Letter) → Sound s r c f b
    → s.holds ≡ None
    → Sound (record { session = s.session; begun = s.begun + 1; holds = Some (unit_named s.session (s.begun + 1)); doubt = false; undone = s.undone }) r (given c (unit_named s.session (s.begun + 1)) letters) f b
takes s r c f b letters h free = grind arith

pub binding : (s : Near) (r : Far) (c : Luw → List Letter) (f b : List Tale) (x last number : ℕ) (force : Bool) → Sound s r c f b
    → Mem (Binds x last force) f → r.session < x
    → Sound s (record { session = x; closed = false; unit = r.unit; bound = true; latest = 0; kept = []; owes = Some (Tells x r.unit number) }) c f b
binding s r c f b x last number force h m up = grind arith

pub begins : (s : Near) (r : Far) (c : Luw → List Letter) (f b : List Tale) (n : ℕ) (l : Letter) → Sound s r c f b
    → Mem (Sends (unit_named r.session n) 0 l) f → r.latest ≤ n → r.bound ≡ true
    → Sound s (record { session = r.session; closed = r.closed; unit = r.unit; bound = true; latest = n; kept = l ∷ []; owes = r.owes }) c f b
begins s r c f b n l h m up on = grind arith

pub keeps : (s : Near) (r : Far) (c : Luw → List Letter) (f b : List Tale) (l : Letter) → Sound s r c f b
    → (r.unit ≢ unit_named r.session r.latest → Mem (Sends (unit_named r.session r.latest) (length r.kept) l) f) → r.bound ≡ true
    → Sound s (record { session = r.session; closed = r.closed; unit = r.unit; bound = true; latest = r.latest; kept = r.kept ++ l ∷ []; owes = r.owes }) c f b
keeps s r c f b l h m on = grind (arith, get_pushed {A = Letter})

pub commits : (s : Near) (r : Far) (c : Luw → List Letter) (f b : List Tale) (k last : ℕ) → Sound s r c f b
    → Mem (Ends (unit_named r.session r.latest) k last) f → r.bound ≡ true → r.unit ≢ unit_named r.session r.latest → s.undone (unit_named r.session r.latest) ≡ false
    → Sound s (record { session = r.session; closed = r.closed; unit = unit_named r.session r.latest; bound = r.bound; latest = r.latest; kept = []; owes = Some (Acks (unit_named r.session r.latest)) }) c f b
commits s r c f b k last h m on new agreed = grind arith

pub acks_again : (s : Near) (r : Far) (c : Luw → List Letter) (f b : List Tale) → Sound s r c f b
    → Sound s (record { session = r.session; closed = r.closed; unit = r.unit; bound = r.bound; latest = r.latest; kept = r.kept; owes = Some (Acks r.unit) }) c f b
acks_again s r c f b h = grind arith

pub refuses : (s : Near) (r : Far) (c : Luw → List Letter) (f b : List Tale) → Sound s r c f b
    → r.bound ≡ true → r.unit ≢ unit_named r.session r.latest
    → Sound s (record { session = r.session; closed = true; unit = r.unit; bound = false; latest = 0; kept = []; owes = Some (Errs (unit_named r.session r.latest)) }) c f b
refuses s r c f b h on new = grind arith

pub closes : (s : Near) (r : Far) (c : Luw → List Letter) (f b : List Tale) → Sound s r c f b
    → Sound s (record { session = r.session; closed = true; unit = r.unit; bound = false; latest = 0; kept = []; owes = r.owes }) c f b
closes s r c f b h = grind arith

pub unbinds : (s : Near) (r : Far) (c : Luw → List Letter) (f b : List Tale) → Sound s r c f b
    → Sound s (record { session = r.session; closed = r.closed; unit = r.unit; bound = false; latest = 0; kept = []; owes = None }) c f b
unbinds s r c f b h = grind arith

pub answers : (s : Near) (r : Far) (c : Luw → List Letter) (f b : List Tale) (a : Tale) → Sound s r c f b
    → r.owes ≡ Some a
    → Sound s (record { session = r.session; closed = r.closed; unit = r.unit; bound = r.bound; latest = r.latest; kept = r.kept; owes = None }) c f (a ∷ b)
answers s r c f b a h o = grind arith

-- the receiver is unbound; what it owes, it owes still
pub rests : (s : Near) (r : Far) (c : Luw → List Letter) (f b : List Tale) → Sound s r c f b
    → Sound s (record { session = r.session; closed = r.closed; unit = r.unit; bound = false; latest = 0; kept = []; owes = r.owes }) c f b
rests s r c f b h = grind arith

pub unit_eq : (u v : Luw) → u.session ≡ v.session → u.n ≡ v.n → u ≡ v
unit_eq u v a b = λ i. record { session = a i; n = b i }

pub by_ack : (s : Near) (r : Far) (c : Luw → List Letter) (f b : List Tale) (u : Luw) → Sound s r c f b
    → Mem (Acks u) b → s.holds ≡ Some u → u ≡ r.unit
by_ack s r c f b u h m e = unit_eq u r.unit (grind arith) (grind arith)

pub by_status : (s : Near) (r : Far) (c : Luw → List Letter) (f b : List Tale) (x last : ℕ) (v u : Luw) → Sound s r c f b
    → Mem (Tells x v last) b → x ≡ s.session → s.begun ≡ 0 → s.holds ≡ Some u → (v ≡ r.unit) × Dead r u.session
by_status s r c f b x last v u h m e z o = ((h.status x v last m).1 e z, grind arith)

-- two lists of one length, where each item of the one stands in the other at its place
pub same_lists : {A : Type 0} (xs ys : List A) → length xs ≡ length ys → ((i : ℕ) (x : A) → slice_get xs i ≡ Some x → slice_get ys i ≡ Some x) → xs ≡ ys
same_lists [] [] e all = refl
same_lists [] (y ∷ ys) e all = absurd (omega arith)
same_lists (x ∷ xs) [] e all = absurd (omega arith)
same_lists (x ∷ xs) (y ∷ ys) e all = cc (all 0 x refl, same_lists xs ys (omega arith) (λ i z q. all (suc i) z q))

-- at END of the unit that was begun, and isn't committed, the messages kept are the unit
pub whole : (s : Near) (r : Far) (c : Luw → List Letter) (f b : List Tale) (last : ℕ) → Sound s r c f b
    → Mem (Ends (unit_named r.session r.latest) (length r.kept) last) f → r.bound ≡ true → r.unit ≢ unit_named r.session r.latest → r.kept ≡ c (unit_named r.session r.latest)
whole s r c f b last h m on new =
    same_lists r.kept (c (unit_named r.session r.latest)) ((h.ends _ _ _ m).2) (λ i x e. (h.msgs _ _ _ (h.kept on new i x e)).2)

-- and the unit is in doubt at its sender, and above the last one
pub in_doubt : (s : Near) (r : Far) (c : Luw → List Letter) (f b : List Tale) (k last : ℕ) → Sound s r c f b
    → Mem (Ends (unit_named r.session r.latest) k last) f → r.bound ≡ true → r.unit ≢ unit_named r.session r.latest → s.undone (unit_named r.session r.latest) ≡ false
    → (s.holds ≡ Some (unit_named r.session r.latest)) × (s.doubt ≡ true)
in_doubt s r c f b k last h m on new agreed =
    let apart : Upto (unit_named r.session r.latest) r.unit → ⊥ = λ le. new (unit_eq r.unit (unit_named r.session r.latest) (grind arith) (grind arith)) in
    grind arith

pub rises : (s : Near) (r : Far) (c : Luw → List Letter) (f b : List Tale) → Sound s r c f b
    → r.bound ≡ true → r.unit ≢ unit_named r.session r.latest → Below r.unit (unit_named r.session r.latest)
rises s r c f b h on new =
    let apart : Upto (unit_named r.session r.latest) r.unit → ⊥ = λ le. new (unit_eq r.unit (unit_named r.session r.latest) (grind arith) (grind arith)) in
    grind arith
