-- Which scripts are a phase's and whose; their courses go out of their places and back.
use Rattle.std.proofs.Common.{◌≡◌, ◌≢◌, ℕ, zero, suc, ◌+◌, ◌≤◌, ◌<◌, Bool, true, false, List, [], ◌∷◌, ◌++◌, length, map, drop, refl, sym, ap, subst, ◌∙◌, append_assoc, inl, inr, ⊎_elim, arith}
use Rattle.std.specs.Prelude.{◌==◌, ◌^◌, Option, Some, None, slice_get, slice_set}
use Rattle.std.proofs.lemmas.Bool.Decides.{nat_tests}
use Rattle.mq_base.specs.Members.{Mem}
use Rattle.mq_history.specs.declared.scenario.Scenario.{Scenario}
use Rattle.mq_spec_node.specs.Terms.{ScriptPart}
use Rattle.mq_spec_network.specs.Tasks.{Trying}
use Rattle.mq_progress.specs.Course.{Course}
use Rattle.mq_acts.specs.from_events.States.{NodeState}
use Rattle.mq_split.specs.Ends.{EachIs}
use Rattle.mq_shared.specs.Held.{Begun, IsScriptIn, ScriptState, ScriptsApart, entries_begun, script_name}
use Rattle.mq_shared.specs.Phasing.{among, moment_or, tries_in, tries_one}
use Rattle.mq_shared.specs.Sharing.{by_manager, course_then, first_if, is_here, last_if, named_from, out_if, put_all, unbegun}
use Rattle.mq_shared.specs.Taking.{Asked, Begins, CoursesAt}
use Rattle.mq_shared.proofs.ShareLists.{any_mem, are_same, at_front, at_it, at_more, both_so, drop_one, last_at, long_more, map_at, map_more, mem_either, mem_right, set_here, set_long, set_other, some_is, true_or_false}

-- WHAT IS TRIED
tries_are : (s : Scenario) (ns : List NodeState) (k : ℕ) (ks : List ℕ) (p : ScriptPart) → slice_get s.scripts k ≡ Some p → tries_in s ns (k ∷ ks) ≡ record { script = k; part = p; moment = moment_or (slice_get ns p.manager) } ∷ tries_in s ns ks
tries_are s ns k ks p is = ap (λ (o : Option ScriptPart). tries_one ns k o ++ tries_in s ns ks) is

pub try_mem : (s : Scenario) (ns : List NodeState) (ks : List ℕ) (k : ℕ) (p : ScriptPart) → slice_get s.scripts k ≡ Some p → Mem k ks → Mem (record { script = k; part = p; moment = moment_or (slice_get ns p.manager) }) (tries_in s ns ks)
try_mem s ns [] k p is h = absurd h
try_mem s ns (j ∷ js) k p is (inl e) =
    subst (λ (i : ℕ). Mem (record { script = k; part = p; moment = moment_or (slice_get ns p.manager) }) (tries_in s ns (i ∷ js))) e
    (subst (Mem (record { script = k; part = p; moment = moment_or (slice_get ns p.manager) })) (sym (tries_are s ns k js p is)) (inl refl))
try_mem s ns (j ∷ js) k p is (inr h) = mem_right (record { script = k; part = p; moment = moment_or (slice_get ns p.manager) }) (tries_one ns j (slice_get s.scripts j)) (tries_in s ns js) (try_mem s ns js k p is h)

-- each is the scenario's, and one of those that were asked
one_try : (s : Scenario) (ns : List NodeState) (t : Trying) (k : ℕ) (o : Option ScriptPart) → slice_get s.scripts k ≡ o → Mem t (tries_one ns k o) → (slice_get s.scripts t.script ≡ Some t.part) × (t.script ≡ k)
one_try s ns t k None is h = absurd h
one_try s ns t k (Some p) is (inl e) =
    let name : t.script ≡ k = ap (λ (x : Trying). x.script) e in
    (ap (slice_get s.scripts) name ∙ is ∙ ap Some (sym (ap (λ (x : Trying). x.part) e)), name)
one_try s ns t k (Some p) is (inr h) = absurd h

pub mem_try : (s : Scenario) (ns : List NodeState) (ks : List ℕ) (t : Trying) → Mem t (tries_in s ns ks) → (slice_get s.scripts t.script ≡ Some t.part) × Mem t.script ks
mem_try s ns [] t h = absurd h
mem_try s ns (k ∷ ks) t h = ⊎_elim
    (λ (p : Mem t (tries_one ns k (slice_get s.scripts k))). let r = one_try s ns t k (slice_get s.scripts k) refl p in (r.0, inl r.1))
    (λ (p : Mem t (tries_in s ns ks)). let r = mem_try s ns ks t p in (r.0, inr r.1))
    (mem_either t (tries_one ns k (slice_get s.scripts k)) (tries_in s ns ks) h)

-- and has the moment with which the phase began there
moment_one : (ns : List NodeState) (t : Trying) (k : ℕ) (o : Option ScriptPart) → Mem t (tries_one ns k o) → t.moment ≡ moment_or (slice_get ns t.part.manager)
moment_one ns t k None h = absurd h
moment_one ns t k (Some p) (inl e) = ap (λ (x : Trying). x.moment) e ∙ ap (λ (x : Trying). moment_or (slice_get ns x.part.manager)) (sym e)
moment_one ns t k (Some p) (inr h) = absurd h

pub moment_try : (s : Scenario) (ns : List NodeState) (ks : List ℕ) (t : Trying) → Mem t (tries_in s ns ks) → t.moment ≡ moment_or (slice_get ns t.part.manager)
moment_try s ns [] t h = absurd h
moment_try s ns (k ∷ ks) t h = ⊎_elim
    (λ (p : Mem t (tries_one ns k (slice_get s.scripts k))). moment_one ns t k (slice_get s.scripts k) p)
    (λ (p : Mem t (tries_in s ns ks)). moment_try s ns ks t p)
    (mem_either t (tries_one ns k (slice_get s.scripts k)) (tries_in s ns ks) h)

-- THE SCRIPTS OF A MANAGER
pub named_on : (ks : List ℕ) (m k : ℕ) (p : ScriptPart) (ps rest : List ScriptPart) → ps ≡ p ∷ rest → named_from ks m k ps ≡ first_if (is_here ks m k p) k (named_from ks m (suc k) rest)
named_on ks m k p ps rest is = ap (named_from ks m k) is

-- a script that goes to a manager is there
mem_first : {A : Type 0} (b : Bool) (x y : A) (ys : List A) → Mem x ys → Mem x (first_if b y ys)
mem_first true x y ys h = inr h
mem_first false x y ys h = h

pub named_has : (ks : List ℕ) (m k i : ℕ) (ps : List ScriptPart) (p : ScriptPart) → slice_get ps i ≡ Some p → is_here ks m (i + k) p ≡ true → Mem (i + k) (named_from ks m k ps)
named_has ks m k i [] p is h = absurd cc
named_has ks m k zero (q ∷ ps) p is h =
    let none : 0 + k ≡ k = omega arith in
    let here : is_here ks m k q ≡ true = ap (is_here ks m k) (some_is q p is) ∙ ap (λ (n : ℕ). is_here ks m n p) (sym none) ∙ h in
    subst (λ (n : ℕ). Mem n (first_if (is_here ks m k q) k (named_from ks m (suc k) ps))) (sym none)
    (subst (λ (b : Bool). Mem k (first_if b k (named_from ks m (suc k) ps))) (sym here) (inl refl))
named_has ks m k (suc i) (q ∷ ps) p is h =
    let up : i + suc k ≡ suc i + k = omega arith in
    mem_first (is_here ks m k q) (suc i + k) k (named_from ks m (suc k) ps)
    (subst (λ (n : ℕ). Mem n (named_from ks m (suc k) ps)) up (named_has ks m (suc k) i ps p is (ap (λ (n : ℕ). is_here ks m n p) up ∙ h)))

-- each but once
first_low : (b : Bool) (k : ℕ) (xs : List ℕ) (i x : ℕ) → ((j y : ℕ) → slice_get xs j ≡ Some y → suc k ≤ y) → slice_get (first_if b k xs) i ≡ Some x → k ≤ x
first_low false k xs i x h e = let lt = h i x e in omega (arith, lt)
first_low true k xs zero x h e = let is = some_is k x e in omega (arith, is)
first_low true k xs (suc i) x h e = let lt = h i x e in omega (arith, lt)

pub named_low : (ks : List ℕ) (m k : ℕ) (ps : List ScriptPart) (i x : ℕ) → slice_get (named_from ks m k ps) i ≡ Some x → k ≤ x
named_low ks m k [] i x e = absurd cc
named_low ks m k (p ∷ ps) i x e = first_low (is_here ks m k p) k (named_from ks m (suc k) ps) i x (named_low ks m (suc k) ps) e

first_apart : (b : Bool) (k : ℕ) (xs : List ℕ) (i j x : ℕ) → ((n y : ℕ) → slice_get xs n ≡ Some y → suc k ≤ y) → ((u v y : ℕ) → slice_get xs u ≡ Some y → slice_get xs v ≡ Some y → u ≡ v) → slice_get (first_if b k xs) i ≡ Some x → slice_get (first_if b k xs) j ≡ Some x → i ≡ j
first_apart false k xs i j x low h e f = h i j x e f
first_apart true k xs zero zero x low h e f = refl
first_apart true k xs zero (suc j) x low h e f = absurd (let is = some_is k x e in let lt = low j x f in omega (arith, is, lt))
first_apart true k xs (suc i) zero x low h e f = absurd (let is = some_is k x f in let lt = low i x e in omega (arith, is, lt))
first_apart true k xs (suc i) (suc j) x low h e f = ap suc (h i j x e f)

pub named_apart : (ks : List ℕ) (m k : ℕ) (ps : List ScriptPart) (i j x : ℕ) → slice_get (named_from ks m k ps) i ≡ Some x → slice_get (named_from ks m k ps) j ≡ Some x → i ≡ j
named_apart ks m k [] i j x e f = absurd cc
named_apart ks m k (p ∷ ps) i j x e f = first_apart (is_here ks m k p) k (named_from ks m (suc k) ps) i j x (named_low ks m (suc k) ps) (named_apart ks m (suc k) ps) e f

pub scripts_apart : (ks : List ℕ) (m : ℕ) (ps : List ScriptPart) (ss : List ScriptState) → map script_name ss ≡ named_from ks m 0 ps → ScriptsApart ss
scripts_apart ks m ps ss names i j s t e f same =
    let one : slice_get (named_from ks m 0 ps) i ≡ Some s.script = ap (λ (l : List ℕ). slice_get l i) (sym names) ∙ map_at script_name ss i s e in
    let other : slice_get (named_from ks m 0 ps) j ≡ Some s.script = ap (λ (l : List ℕ). slice_get l j) (sym names) ∙ map_at script_name ss j t f ∙ ap Some (sym same) in
    named_apart ks m 0 ps i j s.script one other

-- BY MANAGER
pub by_long : {A : Type 0} (f : ℕ → A) (n : ℕ) → length (by_manager f n) ≡ n
by_long f zero = refl
by_long f (suc n) = let h = by_long f n in let l = long_more (by_manager f n) (f n) in omega (arith, h, l)

pub by_at : {A : Type 0} (f : ℕ → A) (n m : ℕ) → m < n → slice_get (by_manager f n) m ≡ Some (f m)
by_at f zero m lt = absurd (omega (arith, lt))
by_at f (suc n) m lt = ⊎_elim
    (λ (e : (m == n) ≡ true). let is = are_same m n e in ap (slice_get (by_manager f n ++ f n ∷ [])) (is ∙ sym (by_long f n)) ∙ last_at (by_manager f n) (f n) ∙ ap Some (ap f (sym is)))
    (λ (e : (m == n) ≡ false). at_front (by_manager f n) (f n ∷ []) m (f m) (by_at f n m (under m n lt e)))
    (true_or_false (m == n))
  where
    under : (a b : ℕ) → a < suc b → (a == b) ≡ false → a < b
    under a b h e = grind (arith, nat_tests)

-- BACK IN THEIR PLACES
pub put_last : (ss : List ScriptState) (s : ScriptState) (cs : List Course) → put_all (ss ++ s ∷ []) cs ≡ put_all ss (slice_set cs s.script (course_then s))
put_last [] s cs = refl
put_last (t ∷ ts) s cs = ap (λ (l : List Course). slice_set l t.script (course_then t)) (put_last ts s cs)

pub put_long : (ss : List ScriptState) (cs : List Course) → length (put_all ss cs) ≡ length cs
put_long [] cs = refl
put_long (s ∷ ss) cs = set_long (put_all ss cs) s.script (course_then s) ∙ put_long ss cs

pub put_other : (ss : List ScriptState) (cs : List Course) (k : ℕ) → (Mem k (map script_name ss) → ⊥) → slice_get (put_all ss cs) k ≡ slice_get cs k
put_other [] cs k h = refl
put_other (s ∷ ss) cs k h = set_other (put_all ss cs) s.script k (course_then s) (λ e. h (inl e)) ∙ put_other ss cs k (λ p. h (inr p))

apart_rest : (s : ScriptState) (ss : List ScriptState) → ScriptsApart (s ∷ ss) → ScriptsApart ss
apart_rest s ss h i j t u e f same = down i j (h (suc i) (suc j) t u e f same)
  where
    down : (a b : ℕ) → suc a ≡ suc b → a ≡ b
    down a b e = omega (arith, e)

pub put_here : (ss : List ScriptState) (cs : List Course) (i : ℕ) (s : ScriptState) → ScriptsApart ss → s.script < length cs → slice_get ss i ≡ Some s → slice_get (put_all ss cs) s.script ≡ Some (course_then s)
put_here [] cs i s apart lt e = absurd cc
put_here (t ∷ ts) cs zero s apart lt e =
    let is : t ≡ s = some_is t s e in
    ap (λ (k : ℕ). slice_get (slice_set (put_all ts cs) t.script (course_then t)) k) (ap (λ (x : ScriptState). x.script) (sym is))
    ∙ set_here (put_all ts cs) t.script (course_then t) (let long = put_long ts cs in let same = ap (λ (x : ScriptState). x.script) is in omega (arith, lt, long, same))
    ∙ ap Some (ap (λ (x : ScriptState). course_then x) is)
put_here (t ∷ ts) cs (suc i) s apart lt e =
    set_other (put_all ts cs) t.script s.script (course_then t) (λ same. none i (apart (suc i) 0 s t e refl same))
    ∙ put_here ts cs i s (apart_rest t ts apart) lt e
  where
    none : (n : ℕ) → suc n ≡ 0 → ⊥
    none n h = omega (arith, h)

-- one script more, where it goes here
names_on : (b : Bool) (s : ScriptState) (xs : List ScriptState) (rest : List ℕ) → map script_name (last_if b s xs) ++ rest ≡ map script_name xs ++ first_if b s.script rest
names_on true s xs rest = ap (λ (l : List ℕ). l ++ rest) (map_more script_name xs s) ∙ append_assoc (map script_name xs) (s.script ∷ []) rest
names_on false s xs rest = refl

pub named_more : (ks : List ℕ) (m k : ℕ) (ps : List ScriptPart) (p : ScriptPart) (s : ScriptState) (xs ys : List ScriptState) (all : List ℕ) → slice_get ps k ≡ Some p → s.script ≡ k → ys ≡ last_if (is_here ks m k p) s xs
    → map script_name xs ++ named_from ks m k (drop k ps) ≡ all → map script_name ys ++ named_from ks m (k + 1) (drop (k + 1) ps) ≡ all
named_more ks m k ps p s xs ys all is name more so_far =
    let next : suc k ≡ k + 1 = omega arith in
    let rest : List ℕ = named_from ks m (suc k) (drop (suc k) ps) in
    ap (λ (n : ℕ). map script_name ys ++ named_from ks m n (drop n ps)) (sym next)
    ∙ ap (λ (l : List ScriptState). map script_name l ++ rest) more
    ∙ names_on (is_here ks m k p) s xs rest
    ∙ ap (λ (n : ℕ). map script_name xs ++ first_if (is_here ks m k p) n rest) name
    ∙ ap (λ (l : List ℕ). map script_name xs ++ l) (sym (named_on ks m k p (drop k ps) (drop (suc k) ps) (drop_one ps k p is)))
    ∙ so_far

pub each_last : {A : Type 0} (P : A → Type 0) (b : Bool) (x : A) (xs ys : List A) → ys ≡ last_if b x xs → (b ≡ true → P x) → EachIs P xs → EachIs P ys
each_last P b x xs ys more mine each = subst (λ (l : List _). EachIs P l) (sym more) (by_test b mine)
  where
    by_test : (c : Bool) → (c ≡ true → P x) → EachIs P (last_if c x xs)
    by_test false h = each
    by_test true h = λ i y e. ⊎_elim (λ (p : slice_get xs i ≡ Some y). each i y p) (λ (p : (i ≡ length xs) × (x ≡ y)). subst P p.1 (h refl)) (at_more xs x y i e)

pub out_long : (b : Bool) (k : ℕ) (cs ds : List Course) (n : ℕ) → ds ≡ out_if b k cs → length cs ≡ n → length ds ≡ n
out_long true k cs ds n out long = ap length out ∙ set_long cs k unbegun ∙ long
out_long false k cs ds n out long = ap length out ∙ long

out_other : (b : Bool) (k j : ℕ) (cs ds : List Course) → ds ≡ out_if b k cs → (b ≡ true → j ≢ k) → slice_get ds j ≡ slice_get cs j
out_other true k j cs ds out apart = ap (λ (l : List Course). slice_get l j) out ∙ set_other cs k j unbegun (apart refl)
out_other false k j cs ds out apart = ap (λ (l : List Course). slice_get l j) out

pub out_ahead : (b : Bool) (k : ℕ) (cs ds old : List Course) → ds ≡ out_if b k cs → ((j : ℕ) → k ≤ j → slice_get cs j ≡ slice_get old j) → (j : ℕ) → k + 1 ≤ j → slice_get ds j ≡ slice_get old j
out_ahead b k cs ds old out ahead j lt = out_other b k j cs ds out (λ t e. omega (arith, lt, e)) ∙ ahead j (omega (arith, lt))

pub out_others : (ks : List ℕ) (m k : ℕ) (ps : List ScriptPart) (p : ScriptPart) (cs ds old : List Course) → slice_get ps k ≡ Some p → ds ≡ out_if (is_here ks m k p) k cs
    → ((j : ℕ) (q : ScriptPart) → slice_get ps j ≡ Some q → is_here ks m j q ≡ false → slice_get cs j ≡ slice_get old j) → (j : ℕ) (q : ScriptPart) → slice_get ps j ≡ Some q → is_here ks m j q ≡ false → slice_get ds j ≡ slice_get old j
out_others ks m k ps p cs ds old is out others j q at elsewhere =
    out_other (is_here ks m k p) k j cs ds out (λ here same. clash here (ap (λ (n : ℕ). is_here ks m n p) (sym same) ∙ ap (is_here ks m j) (some_is p q (sym is ∙ ap (slice_get ps) (sym same) ∙ at)) ∙ elsewhere))
    ∙ others j q at elsewhere
  where
    clash : {b : Bool} → b ≡ true → b ≡ false → ⊥
    clash e f = absurd (let h = sym e ∙ f in cc)

pub begins_tries : (a : Asked) (b : Begun) → Begins a b → b.tries ≡ tries_in a.scenario b.nodes a.scripts
begins_tries a b h = ap (λ (x : Begun). x.tries) h.begun

begins_short : (a : Asked) (b : Begun) (k : ℕ) (p : ScriptPart) → Begins a b → slice_get a.scenario.scripts k ≡ Some p → length p.lines < 2 ^ 32
begins_short a b k p h is = let few = at_it (λ (q : ScriptPart). (q.manager < length a.scenario.managers) × (length q.lines ≤ 25000)) a.scenario.scripts k p h.scenario.scripts is in let lines = few.1 in omega (arith, lines)

pub script_in : (a : Asked) (b : Begun) (m k moment : ℕ) (p : ScriptPart) (c : Course) (cs old : List Course) → Begins a b → moment ≡ moment_or (slice_get b.nodes m) → CoursesAt a b m old → slice_get a.scenario.scripts k ≡ Some p → slice_get cs k ≡ Some c
    → ((j : ℕ) → k ≤ j → slice_get cs j ≡ slice_get old j) → is_here a.scripts m k p ≡ true → IsScriptIn b m (entries_begun b m) (record { script = k; part = p; moment = moment; course = c })
script_in a b m k moment p c cs old begins now courses is at ahead here =
    let two = both_so (p.manager == m) (among a.scripts k) here in
    let mine : p.manager ≡ m = are_same p.manager m two.0 in
    let course = courses k p c is (sym (ahead k (omega arith)) ∙ at) mine in
    let first : moment ≡ moment_or (slice_get b.nodes p.manager) = now ∙ ap (λ (n : ℕ). moment_or (slice_get b.nodes n)) (sym mine) in
    record {
      among = subst (λ (ts : List Trying). Mem (record { script = k; part = p; moment = moment }) ts) (sym (begins_tries a b begins))
          (subst (λ (n : ℕ). Mem (record { script = k; part = p; moment = n }) (tries_in a.scenario b.nodes a.scripts)) (sym first) (try_mem a.scenario b.nodes a.scripts k p is (any_mem a.scripts k two.1)));
      here = mine;
      stands = course.stands;
      few = course.few;
      short = begins_short a b k p begins is;
      texts = begins.texts k p is;
      tried = λ l is. inl course.rests;
    }

-- one script is back
pub put_step : (held rest : List ScriptState) (s : ScriptState) (cs ds all : List Course) → held ≡ rest ++ s ∷ [] → ds ≡ slice_set cs s.script (course_then s) → put_all held cs ≡ all → put_all rest ds ≡ all
put_step held rest s cs ds all popped set so_far =
    ap (put_all rest) set ∙ sym (put_last rest s cs) ∙ ap (λ (l : List ScriptState). put_all l cs) (sym popped) ∙ so_far
