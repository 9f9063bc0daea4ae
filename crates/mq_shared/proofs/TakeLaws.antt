-- Nodes go under their locks and come out of them, one by one: what is known of nodes, ends and courses goes on.
use Rattle.std.proofs.Common.{◌≡◌, ◌≢◌, ℕ, ◌+◌, ◌≤◌, ◌<◌, Bool, true, false, List, [], ◌∷◌, ◌++◌, length, map, refl, sym, ap, subst, ◌∙◌, inl, inr, ⊎_elim, arith}
use Rattle.std.specs.Prelude.{◌⊎◌, ◌==◌, ◌&&◌, Option, Some, slice_get}
use Rattle.mq_base.specs.Members.{Mem}
use Rattle.mq_spec_node.specs.Terms.{Entry, ScriptPart}
use Rattle.mq_spec_network.specs.Tasks.{Trying}
use Rattle.mq_progress.specs.Course.{Course}
use Rattle.mq_acts.specs.from_events.States.{IsKept, NodeState, value_of}
use Rattle.mq_acts.specs.Serving.{IsDone}
use Rattle.mq_acts.specs.Restarts.{StaysOwn}
use Rattle.mq_split.specs.Took.{EndState}
use Rattle.mq_split.specs.Ends.{AreFree, EachIs, EndsApart}
use Rattle.mq_shared.specs.Held.{Begun, IsScriptIn, Kept, ScriptState, cables_begun, entries_begun, entries_or, script_name}
use Rattle.mq_split.specs.Parting.{AllFree, AreEndsAt, ends_named, none_since}
use Rattle.mq_shared.specs.Phasing.{IsCourse, among, entries_in, moment_or}
use Rattle.mq_shared.specs.Sharing.{course_then, is_here, named, named_from, put_all}
use Rattle.mq_shared.specs.Taking.{AreBack, AreDone, AreOut, Asked, Begins, CoursesBelow, IsOut, OthersStay, OwnOut}
use Rattle.mq_shared.proofs.KeptLaws.{grown_entries}
use Rattle.mq_shared.proofs.BegunLaws.{kept_begun}
use Rattle.mq_shared.proofs.OutLaws.{course_back}
use Rattle.mq_shared.proofs.ShareLists.{are_same, at_front, at_more, itself, last_at, less, long_more, mem_any, mem_at, past, so_both, some_is, there, true_or_false, under_or_not}
use Rattle.mq_shared.proofs.ShareLaws.{begins_tries, by_at, mem_try, moment_try, named_has, put_here, put_other, scripts_apart}

-- PLACES
pub each_more : {A : Type 0} (P : ℕ → A → Type 0) (xs ys : List A) (x : A) → ys ≡ xs ++ x ∷ [] → P (length xs) x → ((m : ℕ) (y : A) → slice_get xs m ≡ Some y → P m y) → (m : ℕ) (y : A) → slice_get ys m ≡ Some y → P m y
each_more P xs ys x more here each m y e = ⊎_elim
    (λ (p : slice_get xs m ≡ Some y). each m y p)
    (λ (p : (m ≡ length xs) × (x ≡ y)). subst (λ (z : _). P m z) p.1 (subst (λ (n : ℕ). P n x) (sym p.0) here))
    (at_more xs x y m (ap (λ (l : List _). slice_get l m) (sym more) ∙ e))

pub each_front : {A : Type 0} (P : ℕ → A → Type 0) (xs ys : List A) (x : A) → ys ≡ xs ++ x ∷ [] → ((m : ℕ) (y : A) → slice_get ys m ≡ Some y → P m y) → (m : ℕ) (y : A) → slice_get xs m ≡ Some y → P m y
each_front P xs ys x more each m y e = each m y (ap (λ (l : List _). slice_get l m) more ∙ at_front xs (x ∷ []) m y e)

pub each_end : {A : Type 0} (P : ℕ → A → Type 0) (xs ys : List A) (x : A) → ys ≡ xs ++ x ∷ [] → ((m : ℕ) (y : A) → slice_get ys m ≡ Some y → P m y) → P (length xs) x
each_end P xs ys x more each = each (length xs) x (ap (λ (l : List _). slice_get l (length xs)) more ∙ last_at xs x)

pub longer : {A : Type 0} (xs ys : List A) (x : A) → ys ≡ xs ++ x ∷ [] → length ys ≡ length xs + 1
longer xs ys x more = ap length more ∙ long_more xs x

-- GOING IN
elsewhere : (ks : List ℕ) (m k : ℕ) (p : ScriptPart) → p.manager ≢ m → is_here ks m k p ≡ false
elsewhere ks m k p other = ⊎_elim (λ (t : (p.manager == m) ≡ true). absurd (other (are_same p.manager m t))) (λ (t : (p.manager == m) ≡ false). ap (λ (b : Bool). b && among ks k) t) (true_or_false (p.manager == m))

not_asked : (ks : List ℕ) (m k : ℕ) (p : ScriptPart) → among ks k ≡ false → is_here ks m k p ≡ false
not_asked ks m k p none = ap (λ (b : Bool). (p.manager == m) && b) none ∙ never (p.manager == m)
  where
    never : (b : Bool) → (b && false) ≡ false
    never true = refl
    never false = refl

-- a manager's scripts went out, no others did
abbrev pub StayBut : Asked → ℕ → List Course → List Course → Type 0
StayBut a m old new = (k : ℕ) (p : ScriptPart) → slice_get a.scenario.scripts k ≡ Some p → is_here a.scripts m k p ≡ false → slice_get new k ≡ slice_get old k

pub below_on : (a : Asked) (b : Begun) (n m : ℕ) (old new : List Course) → n ≡ m + 1 → StayBut a m old new → CoursesBelow a b n old → CoursesBelow a b m new
below_on a b n m old new next stay below i lt k p c part at mine =
    below i (omega (arith, lt, next)) k p c part (sym (stay k p part (elsewhere a.scripts m k p (λ same. omega (arith, lt, mine, same)))) ∙ at) mine

pub others_on : (a : Asked) (m : ℕ) (first old new : List Course) → length old ≡ length a.scenario.scripts → length new ≡ length a.scenario.scripts → StayBut a m old new → OthersStay a first old → OthersStay a first new
others_on a m first old new long_old long_new stay others k none = ⊎_elim
    (λ (lt : k < length a.scenario.scripts). let p = there a.scenario.scripts k lt in stay k p.0 p.1 (not_asked a.scripts m k p.0 none))
    (λ (ge : length a.scenario.scripts ≤ k). past new k (omega (arith, ge, long_new)) ∙ sym (past old k (omega (arith, ge, long_old))))
    (under_or_not k (length a.scenario.scripts))
    ∙ others k none

-- COMING OUT
module _ (a : Asked) (b : Begun) (m : ℕ) (n : NodeState) (es : List EndState) (ss : List ScriptState) (wants : Bool) (begins : Begins a b) (kept : Kept b (record { manager = m; node = n; ends = es; scripts = ss; wants = wants })) where
  -- the manager is there, and its scripts are those that are its
  pub is_there : m < length a.scenario.managers
  is_there = let lt = less b.nodes m kept.first kept.there in omega (arith, lt, begins.all)

  names_are : map script_name ss ≡ named a.scenario a.scripts m
  names_are = some_is (map script_name ss) (named a.scenario a.scripts m)
      (sym kept.script_names ∙ ap (λ (x : Begun). slice_get x.scripts m) begins.begun ∙ by_at (named a.scenario a.scripts) (length a.scenario.managers) m is_there)

  asked_of : (i : ℕ) (s : ScriptState) → slice_get ss i ≡ Some s → (slice_get a.scenario.scripts s.script ≡ Some s.part) × Mem s.script a.scripts
  asked_of i s at = mem_try a.scenario b.nodes a.scripts (record { script = s.script; part = s.part; moment = s.moment })
      (subst (λ (ts : List Trying). Mem (record { script = s.script; part = s.part; moment = s.moment }) ts) (begins_tries a b begins) (kept.scripts i s at).among)

  -- its moment is that of the manager at the phase's beginning
  moment_of_it : (i : ℕ) (s : ScriptState) → slice_get ss i ≡ Some s → s.moment ≡ moment_or (slice_get b.nodes m)
  moment_of_it i s at =
      moment_try a.scenario b.nodes a.scripts (record { script = s.script; part = s.part; moment = s.moment })
      (subst (λ (ts : List Trying). Mem (record { script = s.script; part = s.part; moment = s.moment }) ts) (begins_tries a b begins) (kept.scripts i s at).among)
      ∙ ap (λ (n : ℕ). moment_or (slice_get b.nodes n)) (kept.scripts i s at).here

  pub scripts_there : (cs : List Course) → length cs ≡ length a.scenario.scripts → (i : ℕ) (s : ScriptState) → slice_get ss i ≡ Some s → s.script < length cs
  scripts_there cs long i s at = let lt = less a.scenario.scripts s.script s.part (asked_of i s at).0 in omega (arith, lt, long)

  -- those that were not asked stay
  pub others_out : (first old new : List Course) → new ≡ put_all ss old → OthersStay a first old → OthersStay a first new
  others_out first old new put others k none =
      ap (λ (cs : List Course). slice_get cs k) put
      ∙ put_other ss old k (λ among_them. let s = mem_at script_name ss k among_them in clash k (mem_any a.scripts k (subst (λ (i : ℕ). Mem i a.scripts) s.3 (asked_of s.0 s.1 s.2).1)) none)
      ∙ others k none
    where
      clash : (i : ℕ) → among a.scripts i ≡ true → among a.scripts i ≡ false → ⊥
      clash i e f = absurd (let h = sym e ∙ f in cc)

  -- its scripts are back
  entries_now : (ns : List NodeState) → slice_get ns m ≡ Some n → kept.first.history.entries ++ kept.since ≡ entries_in ns m
  entries_now ns at = sym (grown_entries (value_of kept.first) (value_of n) kept.since kept.grows) ∙ sym (ap entries_or at)

  back_here : (ns : List NodeState) (old : List Course) (k : ℕ) (p : ScriptPart) (c : Course) → slice_get ns m ≡ Some n → length old ≡ length a.scenario.scripts → slice_get a.scenario.scripts k ≡ Some p → among a.scripts k ≡ true → p.manager ≡ m → slice_get (put_all ss old) k ≡ Some c → IsCourse (Some (moment_or (slice_get b.nodes m))) k p (entries_in ns m) c
  back_here ns old k p c at long part asked mine is =
      let nil : k + 0 ≡ k = omega arith in
      let here : is_here a.scripts m (k + 0) p ≡ true = so_both (p.manager == m) (among a.scripts (k + 0)) (ap (λ (i : ℕ). i == m) mine ∙ itself m) (ap (among a.scripts) nil ∙ asked) in
      let member : Mem (k + 0) (named_from a.scripts m 0 a.scenario.scripts) = named_has a.scripts m 0 k a.scenario.scripts p part here in
      let s = mem_at script_name ss k (subst (λ (l : List ℕ). Mem k l) (sym names_are) (subst (λ (i : ℕ). Mem i (named_from a.scripts m 0 a.scenario.scripts)) nil member)) in
      let put : slice_get (put_all ss old) s.1.script ≡ Some (course_then s.1) = put_here ss old s.0 s.1 kept.scripts_apart (scripts_there old long s.0 s.1 s.2) s.2 in
      let same : course_then s.1 ≡ c = some_is (course_then s.1) c (sym put ∙ ap (slice_get (put_all ss old)) s.3 ∙ is) in
      let part_is : s.1.part ≡ p = some_is s.1.part p (sym (asked_of s.0 s.1 s.2).0 ∙ ap (slice_get a.scenario.scripts) s.3 ∙ part) in
      let moment : Option ℕ = Some (moment_or (slice_get b.nodes m)) in
      subst (λ (d : Course). IsCourse moment k p (entries_in ns m) d) same
      (subst (λ (q : ScriptPart). IsCourse moment k q (entries_in ns m) (course_then s.1)) part_is
      (subst (λ (i : ℕ). IsCourse moment i s.1.part (entries_in ns m) (course_then s.1)) s.3
      (subst (λ (d : List Entry). IsCourse moment s.1.script s.1.part d (course_then s.1)) (entries_now ns at)
      (subst (λ (n : ℕ). IsCourse (Some n) s.1.script s.1.part (kept.first.history.entries ++ kept.since) (course_then s.1)) (moment_of_it s.0 s.1 s.2)
      (course_back b m (kept.first.history.entries ++ kept.since) s.1 (kept.scripts s.0 s.1 s.2))))))

  -- and none of another manager moved
  moved_none : (k : ℕ) (p : ScriptPart) → slice_get a.scenario.scripts k ≡ Some p → p.manager ≢ m → Mem k (map script_name ss) → ⊥
  moved_none k p part other member =
      let s = mem_at script_name ss k member in
      let part_is : s.1.part ≡ p = some_is s.1.part p (sym (asked_of s.0 s.1 s.2).0 ∙ ap (slice_get a.scenario.scripts) s.3 ∙ part) in
      other (ap (λ (q : ScriptPart). q.manager) (sym part_is) ∙ (kept.scripts s.0 s.1 s.2).here)

  pub back_out : (ns new_ns : List NodeState) (old new : List Course) → new_ns ≡ ns ++ n ∷ [] → length ns ≡ m → length old ≡ length a.scenario.scripts → new ≡ put_all ss old → AreBack a b ns old → AreBack a b new_ns new
  back_out ns new_ns old new more count long put back k p c part asked lt is = ⊎_elim
      (λ (e : (p.manager == m) ≡ true).
      let mine : p.manager ≡ m = are_same p.manager m e in
      let at : slice_get new_ns m ≡ Some n = ap (λ (l : List NodeState). slice_get l m) more ∙ ap (slice_get (ns ++ n ∷ [])) (sym count) ∙ last_at ns n in
      subst (λ (i : ℕ). IsCourse (Some (moment_or (slice_get b.nodes i))) k p (entries_in new_ns i) c) (sym mine) (back_here new_ns old k p c at long part asked mine (ap (λ (cs : List Course). slice_get cs k) (sym put) ∙ is)))
      (λ (e : (p.manager == m) ≡ false).
      let other : p.manager ≢ m = λ same. clash p.manager same e in
      let before : p.manager < length ns = under p.manager m (length ns) (length new_ns) other lt (longer ns new_ns n more) count in
      let x = there ns p.manager before in
      let entries : entries_in ns p.manager ≡ entries_in new_ns p.manager = ap entries_or (x.1 ∙ sym (ap (λ (l : List NodeState). slice_get l p.manager) more ∙ at_front ns (n ∷ []) p.manager x.0 x.1)) in
      subst (λ (d : List Entry). IsCourse (Some (moment_or (slice_get b.nodes p.manager))) k p d c) entries
      (back k p c part asked before (sym (put_other ss old k (moved_none k p part other)) ∙ ap (λ (cs : List Course). slice_get cs k) (sym put) ∙ is)))
      (true_or_false (p.manager == m))
    where
      clash : (i : ℕ) → i ≡ m → (i == m) ≡ false → ⊥
      clash i same e = absurd (let h = sym (ap (λ (j : ℕ). j == m) same ∙ itself m) ∙ e in cc)

      under : (i j l l' : ℕ) → i ≢ j → i < l' → l' ≡ l + 1 → l ≡ j → i < l
      under i j l l' other h e f = ⊎_elim (λ (p : i < l). p) (λ (p : l ≤ i). absurd (other (omega (arith, h, e, f, p)))) (under_or_not i l)

-- one node more is out
pub out_more : (b : Begun) (ns new_ns : List NodeState) (rows new_rows : List (List EndState)) (n : NodeState) (es : List EndState) → new_ns ≡ ns ++ n ∷ [] → new_rows ≡ rows ++ es ∷ [] → length ns ≡ length rows → IsOut b (length ns) n es → AreOut b ns rows → AreOut b new_ns new_rows
out_more b ns new_ns rows new_rows n es more more_rows same one out m x y at at_row =
    by_place (at_more ns n x m (ap (λ (l : List NodeState). slice_get l m) (sym more) ∙ at)) (at_more rows es y m (ap (λ (l : List (List EndState)). slice_get l m) (sym more_rows) ∙ at_row))
  where
    by_place : (slice_get ns m ≡ Some x) ⊎ ((m ≡ length ns) × (n ≡ x)) → (slice_get rows m ≡ Some y) ⊎ ((m ≡ length rows) × (es ≡ y)) → IsOut b m x y
    by_place (inl p) (inl q) = out m x y p q
    by_place (inl p) (inr q) = absurd (let lt = less ns m x p in let e = q.0 in omega (arith, lt, e, same))
    by_place (inr p) (inl q) = absurd (let lt = less rows m y q in let e = p.0 in omega (arith, lt, e, same))
    by_place (inr p) (inr q) = subst (λ (z : NodeState). IsOut b m z y) p.1 (subst (λ (z : List EndState). IsOut b m n z) q.1 (subst (λ (i : ℕ). IsOut b i n es) (sym p.0) one))

pub own_more : (b : Begun) (ns new_ns : List NodeState) (n : NodeState) → new_ns ≡ ns ++ n ∷ [] → StaysOwn (entries_begun b (length ns)) n.history.entries → OwnOut b ns → OwnOut b new_ns
own_more b ns new_ns n more one own = each_more (λ m x. StaysOwn (entries_begun b m) x.history.entries) ns new_ns n more one own

pub done_more : (ns new_ns : List NodeState) (n : NodeState) → new_ns ≡ ns ++ n ∷ [] → IsDone n → AreDone ns → AreDone new_ns
done_more ns new_ns n more one done = each_more (λ m x. IsDone x) ns new_ns n more one done

pub free_more : (rows new_rows : List (List EndState)) (es : List EndState) → new_rows ≡ rows ++ es ∷ [] → AreFree es → AllFree rows → AllFree new_rows
free_more rows new_rows es more one all = each_more (λ m x. AreFree x) rows new_rows es more one all

-- a manager's node goes under its lock
pub lock_kept : (a : Asked) (b : Begun) (m : ℕ) (n : NodeState) (es : List EndState) (ss : List ScriptState) → Begins a b → slice_get b.nodes m ≡ Some n → AreEndsAt (cables_begun b) none_since (ends_named a.scenario.cables) m es → EndsApart es → AreFree es → map script_name ss ≡ named a.scenario a.scripts m
    → EachIs (IsScriptIn b m (entries_begun b m)) ss → Kept b (record { manager = m; node = n; ends = es; scripts = ss; wants = false })
lock_kept a b m n es ss begins at ends apart free names each =
    let lt : m < length a.scenario.managers = (let l = less b.nodes m n at in omega (arith, l, begins.all)) in
    kept_begun b m n es ss at (begins.ready m n at).0 ends.each apart
    (ap (λ (x : Begun). slice_get x.ends m) begins.begun ∙ by_at (ends_named a.scenario.cables) (length a.scenario.managers) m lt ∙ ap Some (sym ends.names_are))
    each (scripts_apart a.scripts m a.scenario.scripts ss names)
    (ap (λ (x : Begun). slice_get x.scripts m) begins.begun ∙ by_at (named a.scenario a.scripts) (length a.scenario.managers) m lt ∙ ap Some (sym names))
    free

-- one more is taken out
pub taken_on : (a : Asked) (b : Begun) (place : ℕ) (ns new_ns : List NodeState) (rows new_rows : List (List EndState)) (cs new_cs first : List Course) (n : NodeState) (es : List EndState) (ss : List ScriptState) (wants : Bool) → Begins a b → place ≡ length ns
    → Kept b (record { manager = place; node = n; ends = es; scripts = ss; wants = wants }) → IsKept n → new_ns ≡ ns ++ n ∷ [] → new_rows ≡ rows ++ es ∷ [] → length ns ≡ length rows → length cs ≡ length a.scenario.scripts → new_cs ≡ put_all ss cs
    → AreOut b ns rows → OthersStay a first cs → AreBack a b ns cs → AreOut b new_ns new_rows × OthersStay a first new_cs × AreBack a b new_ns new_cs
taken_on a b place ns new_ns rows new_rows cs new_cs first n es ss wants begins at kept history more more_rows same long put out others back =
    let here : Kept b (record { manager = length ns; node = n; ends = es; scripts = ss; wants = wants }) = subst (λ (i : ℕ). Kept b (record { manager = i; node = n; ends = es; scripts = ss; wants = wants })) at kept in (
      out_more b ns new_ns rows new_rows n es more more_rows same (record { scripts = ss; wants = wants; kept = here; history = history }) out,
      others_out a b (length ns) n es ss wants begins here first cs new_cs put others,
      back_out a b (length ns) n es ss wants begins here ns new_ns cs new_cs more refl long put back,
    )
