-- How managers that began stand in the scenario's order.
use Rattle.std.specs.Prelude.{◌≡◌, ◌≢◌, ◌<◌, ◌≤◌, ◌+◌, ℕ, zero, suc, List, [], ◌∷◌, ◌++◌, map, reverse, take, slice_get, min, Option, Some, None, All, AllPairs, IfSome, length, option_map, option_to_list, refl}
use Rattle.std.proofs.Common.{ap, subst, sym, arith, append_assoc, inl, inr, ◌∙◌}
use Rattle.std.proofs.Math.Nat.{min-le_right}
use Rattle.std.proofs.lemmas.List.{map-append, reverse-append, take_all}
use Rattle.std.proofs.lemmas.List.Elements.{All-get_or}
use Rattle.std.proofs.lemmas.Option.{get_or_from_slice_get, slice_get_within}
use Rattle.mq_base.specs.Outside.{Rose, raised}
use Rattle.mq_history.specs.Scenarios.{IsManager}
use Rattle.mq_history.specs.declared.scenario.ManagerLine.{ManagerLine}
use Rattle.mq_spec_manager.specs.Stops.{last_moment}
use Rattle.mq_calls.specs.declared.commands.BeginFault.{BeginFault}
use Rattle.mq_calls.specs.declared.commands.BeginFault.TheVariants as begins_with
use Rattle.mq_disk.specs.declared.shelf.Side.{Side}
use Rattle.mq_disk.specs.declared.shelf.Side.TheVariants as sides
use Rattle.mq_disk.specs.declared.shelf.TakeFault.{TakeFault}
use Rattle.mq_disk.specs.declared.shelf.TakeFault.TheVariants as takes
use Rattle.mq_calls.specs.State.{Given}
use Rattle.mq_manager.specs.from_core.Values.{CoreValue}
use Rattle.mq_manager.specs.from_restart.Begun.{HasBegun, HasNotBegun, given_by}
use Rattle.mq_begin.specs.declared.faults.NetFault.{NetFault}
use Rattle.mq_begin.specs.declared.faults.NetFault.TheVariants as faults
use Rattle.mq_begin.specs.Begun.{AllBegan, BeginsOn, NotBegan, Refuses, RefusesAt, given_at, moment_or, net_fault, taken_fault}

-- one more
pub one_more : (tells : Type 0) (held : List ℕ → List ℕ → Type 0) (moment place : ℕ) (ls : List ManagerLine) (cores : List CoreValue) (l : ManagerLine) (core : CoreValue)
    → AllBegan tells held moment place ls cores → BeginsOn tells (held l.name) (given_at (place + length ls) l) moment core → AllBegan tells held moment place (ls ++ l ∷ []) (cores ++ core ∷ [])
one_more tells held moment place [] [] l core h x = (subst (λ (n : ℕ). BeginsOn tells (held l.name) (given_at n l) moment core) (none place) x, tt)
  where
    none : (n : ℕ) → n + 0 ≡ n
    none n = omega arith
one_more tells held moment place [] (y ∷ ys) l core h x = absurd h
one_more tells held moment place (k ∷ ks) [] l core h x = absurd h
one_more tells held moment place (k ∷ ks) (y ∷ ys) l core h x =
    (h.0, one_more tells held moment (suc place) ks ys l core h.1 (subst (λ (n : ℕ). BeginsOn tells (held l.name) (given_at n l) moment core) (up place (length ks)) x))
  where
    up : (n m : ℕ) → n + suc m ≡ suc n + m
    up n m = omega arith

-- as many managers as lines
pub as_many : (tells : Type 0) (held : List ℕ → List ℕ → Type 0) (moment place : ℕ) (ls : List ManagerLine) (cores : List CoreValue) → AllBegan tells held moment place ls cores → length cores ≡ length ls
as_many tells held moment place [] [] h = refl
as_many tells held moment place [] (y ∷ ys) h = absurd h
as_many tells held moment place (k ∷ ks) [] h = absurd h
as_many tells held moment place (k ∷ ks) (y ∷ ys) h = ap suc (as_many tells held moment (suc place) ks ys h.1)

-- a count that rose since then rose since before
pub rose_since : (old mid new : ℕ) → old ≤ mid → Rose mid new → Rose old new
rose_since old mid new le h = low old mid new le h
  where
    low : (a b c : ℕ) → a ≤ b → raised b ≤ c → raised a ≤ c
    low a b c x y = grind arith

-- what a shelf holds from a manager on, as at the beginning
abbrev pub Holds : Type 1
Holds = List ℕ → Side → List ℕ → Type 0

abbrev pub HeldFrom : Holds → Holds → List ManagerLine → ℕ → Type 0
HeldFrom first now ls i = (k : ℕ) (l : ManagerLine) → i ≤ k → slice_get ls k ≡ Some l → (b : List ℕ) → first l.name sides.A b → now l.name sides.A b

-- So many managers have begun.
pub record Beginning (tells : Type 0) (first now : Holds) (moment : ℕ) (ls : List ManagerLine) (i : ℕ) (cores : List CoreValue) (old new : ℕ) : Type 0 where
  pub began : AllBegan tells (λ (n b : List ℕ). first n sides.A b) moment 0 (take i ls) cores
  pub many : length cores ≡ i
  pub held : HeldFrom first now ls i
  pub later : old ≤ new

pub begins : (tells : Type 0) (first : Holds) (moment : ℕ) (ls : List ManagerLine) (old : ℕ) → Beginning tells first first moment ls 0 [] old old
begins tells first moment ls old = record { began = tt; many = refl; held = λ k l le is b h. h; later = omega arith }

-- the shelf holds for this one what it held at first
begins_too : (tells : Type 0) (holds before : List ℕ → Type 0) (g : Given) (moment : ℕ) (core : CoreValue) → ((b : List ℕ) → before b → holds b) → BeginsOn tells holds g moment core → BeginsOn tells before g moment core
begins_too tells holds before g moment core same h = record { seen = h.seen; is = λ b x. h.is b (same b x); begun = h.begun }

refuses_too : (tells : Type 0) (holds before : List ℕ → Type 0) (place : ℕ) (g : Given) (old mid new : ℕ) (own : Option ℕ) (fault : NetFault) → ((b : List ℕ) → before b → holds b) → old ≤ mid → Refuses tells holds place g mid new own fault → Refuses tells before place g old new own fault
refuses_too tells holds before place g old mid new own faults.DiskFault same le (inl h) = inl (rose_since old mid new le h)
refuses_too tells holds before place g old mid new own faults.DiskFault same le (inr h) = inr h
refuses_too tells holds before place g old mid new own (faults.BadLog m gate) same le (at, h) = (at, record { seen = h.seen; is = λ b x. h.is b (same b x); bad = h.bad })
refuses_too tells holds before place g old mid new own faults.NoMemory same le h = tt

-- names differ
map_at : {A B : Type 0} (f : A → B) (xs : List A) (i : ℕ) (x : A) → slice_get xs i ≡ Some x → slice_get (map f xs) i ≡ Some (f x)
map_at f [] zero x h = absurd cc
map_at f [] (suc i) x h = absurd cc
map_at f (y ∷ ys) zero x h = ap (λ (o : Option _). option_map f o) h
map_at f (y ∷ ys) (suc i) x h = map_at f ys i x h

differ : (ls : List ManagerLine) (i k : ℕ) (l m : ManagerLine) → AllPairs (λ (x y : List ℕ). x ≢ y) (map (λ (y : ManagerLine). y.name) ls) → i < k → slice_get ls i ≡ Some l → slice_get ls k ≡ Some m → m.name ≡ l.name → ⊥
differ ls i k l m apart lt a b same =
    let names = map (λ (y : ManagerLine). y.name) ls in
    let at = map_at (λ (y : ManagerLine). y.name) ls i l a in
    let bt = map_at (λ (y : ManagerLine). y.name) ls k m b in
    apart i k l.name lt (slice_get_within names k m.name bt) (get_or_from_slice_get names i l.name l.name at ∙ sym same ∙ sym (get_or_from_slice_get names k m.name l.name bt))

take_more : (xs : List ManagerLine) (i : ℕ) (x : ManagerLine) → slice_get xs i ≡ Some x → take i xs ++ x ∷ [] ≡ take (suc i) xs
take_more [] zero x h = absurd cc
take_more [] (suc i) x h = absurd cc
take_more (y ∷ xs) zero x h = ap (λ (z : ManagerLine). z ∷ []) (inside x y h)
  where
    inside : (a b : ManagerLine) → Some b ≡ Some a → a ≡ b
    inside a b e = cc
take_more (y ∷ xs) (suc i) x h = ap (λ (zs : List ManagerLine). y ∷ zs) (take_more xs i x h)

length_take : (xs : List ManagerLine) (i : ℕ) → i < length xs → length (take i xs) ≡ i
length_take [] i lt = absurd (nothing i lt)
  where
    nothing : (i : ℕ) → i < 0 → ⊥
    nothing i h = omega arith
length_take (x ∷ xs) zero lt = refl
length_take (x ∷ xs) (suc i) lt = ap suc (length_take xs i (omega arith))

longer : {A : Type 0} (xs : List A) (x : A) → length (xs ++ x ∷ []) ≡ length xs + 1
longer [] x = refl
longer (y ∷ xs) x = up (length (xs ++ x ∷ [])) (length xs) (longer xs x)
  where
    up : (a b : ℕ) → a ≡ b + 1 → suc a ≡ suc b + 1
    up a b e = omega (arith, e)

-- One more begins, of the place that comes.
pub goes_on : (tells : Type 0) (first now after : Holds) (moment : ℕ) (ls : List ManagerLine) (i place : ℕ) (l : ManagerLine) (cores : List CoreValue) (core : CoreValue) (old mid new : ℕ)
    → AllPairs (λ (x y : List ℕ). x ≢ y) (map (λ (y : ManagerLine). y.name) ls) → slice_get ls i ≡ Some l → place ≡ i → Beginning tells first now moment ls i cores old mid
    → BeginsOn tells (λ (b : List ℕ). now l.name sides.A b) (given_at place l) moment core
    → ((n : List ℕ) (s : Side) (b : List ℕ) → ((n ≡ l.name) × (s ≡ sides.A) → ⊥) → now n s b → after n s b) → mid ≤ new
    → Beginning tells first after moment ls (i + 1) (cores ++ core ∷ []) old new
goes_on tells first now after moment ls i place l cores core old mid new apart known is h x others later = record {
  began = subst (λ (xs : List ManagerLine). AllBegan tells (λ (n b : List ℕ). first n sides.A b) moment 0 xs (cores ++ core ∷ [])) (take_more ls i l known ∙ ap (λ (n : ℕ). take n ls) (up i))
      (one_more tells (λ (n b : List ℕ). first n sides.A b) moment 0 (take i ls) cores l core h.began
      (subst (λ (n : ℕ). BeginsOn tells (λ (b : List ℕ). first l.name sides.A b) (given_at n l) moment core) (is ∙ sym (length_take ls i (slice_get_within ls i l known)) ∙ from_none (length (take i ls)))
      (begins_too tells (λ (b : List ℕ). now l.name sides.A b) (λ (b : List ℕ). first l.name sides.A b) (given_at place l) moment core (h.held i l (omega arith) known) x)));
  many = longer cores core ∙ ap (λ (n : ℕ). n + 1) h.many;
  held = λ k m le at b y. others m.name sides.A b (λ same. differ ls i k l m apart (omega (arith, le)) known at same.0) (h.held k m (omega (arith, le)) at b y);
  later = omega (arith, h.later, later);
} where
  up : (n : ℕ) → suc n ≡ n + 1
  up n = omega arith

  from_none : (n : ℕ) → n ≡ 0 + n
  from_none n = omega arith

-- It does not.
pub breaks_off : (tells : Type 0) (first now : Holds) (moment : ℕ) (ls : List ManagerLine) (i place : ℕ) (l : ManagerLine) (cores : List CoreValue) (old mid new : ℕ) (counts : List ℕ) (own : Option ℕ) (fault : NetFault)
    → slice_get ls i ≡ Some l → place ≡ i → Beginning tells first now moment ls i cores old mid → mid ≤ new → Refuses tells (λ (b : List ℕ). now l.name sides.A b) place (given_at place l) mid new own fault
    → counts ≡ map (λ (c : CoreValue). c.faults) cores ++ option_to_list own → NotBegan tells (λ (n b : List ℕ). first n sides.A b) moment ls old new counts fault
breaks_off tells first now moment ls i place l cores old mid new counts own fault known is h later x handed = record {
  before = cores;
  own = own;
  began = subst (λ (n : ℕ). AllBegan tells (λ (m b : List ℕ). first m sides.A b) moment 0 (take n ls) cores) (sym h.many) h.began;
  refuses = subst (λ (n : ℕ). RefusesAt tells (λ (m b : List ℕ). first m sides.A b) n old new own fault (slice_get ls n)) (sym h.many)
      (subst (λ (o : Option ManagerLine). RefusesAt tells (λ (m b : List ℕ). first m sides.A b) i old new own fault o) (sym known)
      (refuses_too tells (λ (b : List ℕ). now l.name sides.A b) (λ (b : List ℕ). first l.name sides.A b) i (given_at i l) old mid new own fault (h.held i l (omega arith) known) h.later
      (subst (λ (n : ℕ). Refuses tells (λ (b : List ℕ). now l.name sides.A b) n (given_at n l) mid new own fault) is x)));
  handed = handed;
  later = omega (arith, h.later, later);
}

-- All have begun.
pub all_began : (tells : Type 0) (first now : Holds) (moment : ℕ) (ls : List ManagerLine) (i : ℕ) (cores : List CoreValue) (old new : ℕ) → length ls ≤ i → Beginning tells first now moment ls i cores old new
    → AllBegan tells (λ (n b : List ℕ). first n sides.A b) moment 0 ls cores
all_began tells first now moment ls i cores old new le h = subst (λ (xs : List ManagerLine). AllBegan tells (λ (n b : List ℕ). first n sides.A b) moment 0 xs cores) (take_all i ls le) h.began

-- there was no room for so many
pub no_room : (tells : Type 0) (first : Holds) (moment : ℕ) (ls : List ManagerLine) (old : ℕ) → 1 ≤ length ls → NotBegan tells (λ (n b : List ℕ). first n sides.A b) moment ls old old [] faults.NoMemory
no_room tells first moment [] old some = absurd (nothing some)
  where
    nothing : 1 ≤ 0 → ⊥
    nothing h = omega arith
no_room tells first moment (l ∷ ls) old some = record { before = []; own = None; began = tt; refuses = tt; handed = refl; later = omega arith }

-- A disk was not taken.
pub take_refuses : (tells : Type 0) (holds : List ℕ → Type 0) (place : ℕ) (g : Given) (old new : ℕ) (fault : TakeFault) → (fault ≡ takes.Failed → Rose old new) → Refuses tells holds place g old new None (taken_fault fault)
take_refuses tells holds place g old new takes.Failed h = inl (h refl)
take_refuses tells holds place g old new takes.NoMemory h = tt

-- The log on it isn't this manager's, or the disk failed.
pub log_refuses : (tells : Type 0) (holds : List ℕ → Type 0) (place : ℕ) (l : ManagerLine) (number max old new : ℕ) (seen : List ℕ) (fault : BeginFault) (before count : ℕ) (r : NetFault) → number ≡ place + 1 → max ≡ l.log_max → before ≡ 0
    → ((b : List ℕ) → holds b → seen ≡ b) → HasNotBegun tells seen (given_by number l.name max) before fault count → r ≡ net_fault place fault → Refuses tells holds place (given_at place l) old new (Some count) r
log_refuses tells holds place l number max old new seen fault before count r n m is same h answer =
    subst (λ (x : NetFault). Refuses tells holds place (given_at place l) old new (Some count) x) (sym answer)
    (by_fault fault
    (subst (λ (x : ℕ). HasNotBegun tells seen (given_by x l.name l.log_max) 0 fault count) n
    (subst (λ (x : ℕ). HasNotBegun tells seen (given_by number l.name x) 0 fault count) m
    (subst (λ (x : ℕ). HasNotBegun tells seen (given_by number l.name max) x fault count) is h))))
  where
    by_fault : (f : BeginFault) → HasNotBegun tells seen (given_at place l) 0 f count → Refuses tells holds place (given_at place l) old new (Some count) (net_fault place f)
    by_fault begins_with.Disk x = inr (x.rose refl)
    by_fault (begins_with.BadLog gate) x = (refl, record { seen = seen; is = same; bad = x.bad })
    by_fault begins_with.NoMemory x = tt

pub one_begins : (tells : Type 0) (holds : List ℕ → Type 0) (g : Given) (moment : ℕ) (seen : List ℕ) (before : ℕ) (core : CoreValue) → before ≡ 0 → ((b : List ℕ) → holds b → seen ≡ b) → HasBegun tells seen before g moment core → BeginsOn tells holds g moment core
one_begins tells holds g moment seen before core is same h = record { seen = seen; is = same; begun = subst (λ (n : ℕ). HasBegun tells seen n g moment core) is h }

-- What a scenario keeps to.
pub moment_low : (m : Option ℕ) (start : ℕ) → IfSome m (λ (x : ℕ). x ≤ 253300000000000) → moment_or m start ≤ last_moment
moment_low (Some x) start h = low x h
  where
    low : (a : ℕ) → a ≤ 253300000000000 → a ≤ last_moment
    low a le = omega (arith, le)
moment_low None start h = low (min start 253300000000000) (min-le_right start 253300000000000)
  where
    low : (a : ℕ) → a ≤ 253300000000000 → a ≤ last_moment
    low a le = omega (arith, le)

pub log_low : (ls : List ManagerLine) (i : ℕ) (l : ManagerLine) → All IsManager ls → slice_get ls i ≡ Some l → l.log_max ≤ 268435456
log_low ls i l all known =
    let is : IsManager l = subst IsManager (get_or_from_slice_get ls i l l known) (All-get_or IsManager ls i l (slice_get_within ls i l known) all) in
    is.room.1

pub begins_so : (tells : Type 0) (first : Holds) (moment : ℕ) (ls : List ManagerLine) (cores : List CoreValue) (old : ℕ) → cores ≡ [] → Beginning tells first first moment ls 0 cores old old
begins_so tells first moment ls cores old none = subst (λ (xs : List CoreValue). Beginning tells first first moment ls 0 xs old old) (sym none) (begins tells first moment ls old)

pub no_room_so : (tells : Type 0) (first : Holds) (moment : ℕ) (ls : List ManagerLine) (old : ℕ) (counts : List ℕ) (fault : NetFault) → 1 ≤ length ls → counts ≡ [] → fault ≡ faults.NoMemory → NotBegan tells (λ (n b : List ℕ). first n sides.A b) moment ls old old counts fault
no_room_so tells first moment ls old counts fault some none is =
    subst (λ (f : NetFault). NotBegan tells (λ (n b : List ℕ). first n sides.A b) moment ls old old counts f) (sym is)
    (subst (λ (xs : List ℕ). NotBegan tells (λ (n b : List ℕ). first n sides.A b) moment ls old old xs faults.NoMemory) (sym none) (no_room tells first moment ls old some))

-- The counts of the disks.
pub counts_on : {A B : Type 0} (F : A → ℕ) (f : B → ℕ) (ds es : List A) (left rest : List B) (d : A) (c : B) (all : List ℕ) → es ≡ ds ++ d ∷ [] → F d ≡ f c → left ≡ rest ++ c ∷ [] → map F ds ++ map f (reverse left) ≡ all
    → map F es ++ map f (reverse rest) ≡ all
counts_on F f ds es left rest d c all more same popped before =
    ap (λ (xs : List _). map F xs ++ map f (reverse rest)) more
    ∙ ap (λ (ys : List ℕ). ys ++ map f (reverse rest)) (map-append F ds (d ∷ []))
    ∙ append_assoc (map F ds) (F d ∷ []) (map f (reverse rest))
    ∙ ap (λ (n : ℕ). map F ds ++ n ∷ map f (reverse rest)) same
    ∙ sym (ap (λ (xs : List _). map F ds ++ map f (reverse xs)) popped ∙ ap (λ (xs : List _). map F ds ++ map f xs) (reverse-append rest (c ∷ [])))
    ∙ before

own_is : {A : Type 0} (F : A → ℕ) (own : Option A) → map F (option_to_list own) ≡ option_to_list (option_map F own)
own_is F None = refl
own_is F (Some d) = refl

pub counts_all : {A : Type 0} (F : A → ℕ) (ds es : List A) (own : Option A) (all : List ℕ) → es ≡ ds ++ option_to_list own → map F ds ≡ all → map F es ≡ all ++ option_to_list (option_map F own)
counts_all F ds es own all more before =
    ap (map F) more ∙ map-append F ds (option_to_list own) ∙ ap (λ (ys : List ℕ). ys ++ map F (option_to_list own)) before ∙ ap (λ (ys : List ℕ). all ++ ys) (own_is F own)
