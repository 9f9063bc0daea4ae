-- How many turns and timeouts a PUMP of a run took, as its marks tell: as many as it was given, or fewer where nothing can change behind them.
use Rattle.std.proofs.Common.{ℕ, zero, suc, ◌≡◌, ◌≤◌, ◌<◌, ◌⊎◌, ◌+◌, Bool, true, false, List, [], ◌∷◌, ◌++◌, length, refl, ap, sym, subst, ◌∙◌, inl, inr, append_assoc, arith}
use Rattle.std.specs.Prelude.{◌==◌, ◌-◌, cond, count_by, drop, if◌then◌else◌, is_some, not, Option, Some, None, slice_get, take}
use Rattle.std.proofs.lemmas.List.{length-append}
use Rattle.std.proofs.lemmas.List.Sums.{sum_by-append, sum_by-cons}
use Rattle.std.proofs.Math.Seq.{drop-append_seam, take-append_seam}
use Rattle.std.proofs.lemmas.Bool.{true≢false}
use Rattle.mq_history.specs.declared.calls.Actor.{Actor}
use Rattle.mq_history.specs.declared.calls.Actor.TheVariants as actors
use Rattle.mq_history.specs.declared.calls.Call.{Call}
use Rattle.mq_history.specs.declared.calls.Call.TheVariants as calls
use Rattle.mq_history.specs.declared.calls.Chance.{Chance}
use Rattle.mq_history.specs.declared.calls.Entry.{Entry}
use Rattle.mq_history.specs.declared.history.History.{History}
use Rattle.mq_history.specs.declared.history.Mark.{Mark}
use Rattle.mq_history.specs.declared.scenario.CableLine.{CableLine}
use Rattle.mq_history.specs.declared.scenario.Scenario.{Scenario}
use Rattle.mq_spec_node.specs.Calls.{trigger_deed}
use Rattle.mq_spec_node.specs.Deeds.{Deed}
use Rattle.mq_spec_node.specs.Happens.{IsDeed, IsEvent}
use Rattle.mq_spec_node.specs.Node.{Node}
use Rattle.mq_spec_node.specs.Replays.{Follows, after, opening_node}
use Rattle.mq_spec_network.specs.Turns.{Network, does, is_idle, node_at, node_of}
use Rattle.mq_spec_network.specs.Tasks.{Slot, Task}
use Rattle.mq_spec_network.specs.Tasks.Slot.{Receives, Sends, TimesOut}
use Rattle.mq_spec_network.specs.Tasks.Task.{Ask, Script, Lines, Phase, Pump, Handle, Serve, Watch, Open, Restart}
use Rattle.mq_spec_network.specs.Steps.{Goes, Moves, Passes, PumpSkips, PumpTakes, Served, left_by, next_round, none_due, pump_on}
use Rattle.mq_spec_network.specs.Steps.Goes.{stays, moves, serves, passes}
use Rattle.mq_spec_network.specs.Story.{entries_or}
use Rattle.mq_spec_network.specs.Given.{surroundings}
use Rattle.mq_spec_network.specs.Lawful.{IsLawful, network_begun, node_begun}
use Rattle.mq_net_report.specs.Steps.{begin_of, end_of, in_step, is_turn, turns_in}
use Rattle.mq_law_pump.proofs.Histories.{follows_front, tells_last}
use Rattle.mq_law_node.proofs.Named.{bool_case, nat_self, nat_yes}
use Rattle.mq_law_ran.specs.Runs.{Left}
use Rattle.mq_law_rest.specs.Rests.{PumpsTell}
use Rattle.mq_nodes.specs.Carried.{entries_noted, entries_until}
use Rattle.mq_law_rest.specs.Until.{IsPlace, IsStep}
use Rattle.mq_law_rest.proofs.Places.{step_of}
use Rattle.mq_law_rest.proofs.Steps.{Grew, entries_at_mark, goes_grew, net_same, went_grew}

-- SUMS
abbrev pub sum_first : ℕ → (ℕ → ℕ) → ℕ
sum_first zero f = 0
sum_first (suc l) f = f 0 + sum_first l (λ j. f (suc j))

sum_same : (l : ℕ) (f g : ℕ → ℕ) → ((j : ℕ) → j < l → f j ≡ g j) → sum_first l f ≡ sum_first l g
sum_same zero f g h = refl
sum_same (suc l) f g h =
    let one = h 0 (omega arith) in
    let rest = sum_same l (λ j. f (suc j)) (λ j. g (suc j)) (λ j less. h (suc j) (omega (arith, less))) in
    omega (arith, one, rest)

sum_none : (l : ℕ) → sum_first l (λ j. 0) ≡ 0
sum_none zero = refl
sum_none (suc l) = let r = sum_none l in omega (arith, r)

-- one of them is so much more
sum_more : (l m d : ℕ) (f g : ℕ → ℕ) → m < l → g m ≡ f m + d → ((j : ℕ) → (j ≡ m → ⊥) → g j ≡ f j) → sum_first l g ≡ sum_first l f + d
sum_more zero m d f g less at others = absurd (omega (arith, less))
sum_more (suc l) zero d f g less at others =
    let rest = sum_same l (λ j. g (suc j)) (λ j. f (suc j)) (λ j k. others (suc j) (λ e. omega (arith, e))) in
    omega (arith, at, rest)
sum_more (suc l) (suc m) d f g less at others =
    let first = others 0 (λ e. omega (arith, e)) in
    let rest = sum_more l m d (λ j. f (suc j)) (λ j. g (suc j)) (omega (arith, less)) at (λ j k. others (suc j) (λ e. k (omega (arith, e)))) in
    omega (arith, first, rest)

apart_no : (a b : ℕ) → (a ≡ b → ⊥) → (a == b) ≡ false
apart_no a b h = bool_case (a == b) (λ t. (a == b) ≡ t → (a == b) ≡ false) (λ z e. absurd (h (nat_yes a b e))) (λ z e. e) refl

plus_none : (a : ℕ) → a + 0 ≡ a
plus_none a = omega arith

count_last : (xs : List Entry) (e : Entry) → count_by is_turn (xs ++ e ∷ []) ≡ count_by is_turn xs + cond (is_turn e) 1 0
count_last xs e = sum_by-append (λ (x : Entry). cond (is_turn x) 1 0) xs (e ∷ []) ∙ ap (λ (k : ℕ). count_by is_turn xs + k) (sum_by-cons (λ (x : Entry). cond (is_turn x) 1 0) e [] ∙ plus_none (cond (is_turn e) 1 0))

-- WHAT IS A TURN
ends_turn : (e : Entry) (actor : Actor) (call : Call) → e.actor ≡ actor → e.call ≡ call → is_turn (record e { actor = actor; call = call }) ≡ true → is_turn e ≡ true
ends_turn e actor call a c h = ap is_turn (λ i. record e { actor = a i; call = c i }) ∙ h

pumped_turn : (w : Network) (slot : Slot) (cable : ℕ) (o : Option CableLine) (m : ℕ) (e : Entry) → PumpTakes w slot cable o m e → is_turn e ≡ true
unfolding is_turn
pumped_turn w slot cable None m e h = absurd h
pumped_turn w Sends cable (Some c) m e h = ends_turn e (actors.Sender cable) calls.Turn h.is.1 h.is.2 refl
pumped_turn w Receives cable (Some c) m e h = ends_turn e (actors.Receiver cable) calls.Turn h.is.1 h.is.2 refl
pumped_turn w TimesOut cable (Some c) m e h = ends_turn e (actors.Sender cable) calls.Timeout h.is.1 h.is.2 refl

trigger_none : (e : Entry) → e.call ≡ calls.Trigger → is_turn e ≡ false
unfolding is_turn
trigger_none e c = ap is_turn (λ i. record e { call = c i }) ∙ by_actor e.actor
  where
    by_actor : (a : Actor) → is_turn (record e { actor = a; call = calls.Trigger }) ≡ false
    by_actor (actors.Sender k) = refl
    by_actor (actors.Receiver k) = refl
    by_actor (actors.Script k) = refl
    by_actor (actors.Handler k) = refl
    by_actor (actors.Monitor k) = refl
    by_actor actors.Operator = refl
    by_actor actors.Clock = refl

-- WHAT IS KNOWN OF THE HISTORIES
-- each follows from its first node; only so many managers did anything
record Replay (l : ℕ) (w : Network) : Type 0 where
  follows : (m : ℕ) (n : Node) → w.first m ≡ Some n → Follows n 0 (w.done m)
  absent : (m : ℕ) → w.first m ≡ None → w.done m ≡ []
  few : (m : ℕ) → (w.done m ≡ []) ⊎ (m < l)

here_more : (w : Network) (m : ℕ) (e : Entry) → (does m (e ∷ []) w).done m ≡ w.done m ++ e ∷ []
here_more w m e = ap (λ (b : Bool). if b then w.done m ++ e ∷ [] else w.done m) (nat_self m)

never_empty : (xs : List Entry) (e : Entry) → xs ++ e ∷ [] ≡ [] → ⊥
never_empty [] e h = absurd cc
never_empty (x ∷ xs) e h = absurd cc

nothing : (xs : List Entry) (e : Entry) (b : Bool) → (if b then xs ++ e ∷ [] else xs) ≡ [] → xs ≡ []
nothing [] e b h = refl
nothing (x ∷ xs) e true h = absurd cc
nothing (x ∷ xs) e false h = absurd cc

earlier : (l : ℕ) (w : Network) (m : ℕ) (e : Entry) → Replay l (does m (e ∷ []) w) → Replay l w
earlier l w m e r = record {
  follows = λ j n first. bool_case (j == m) (λ b. Follows n 0 (if b then w.done j ++ e ∷ [] else w.done j) → Follows n 0 (w.done j)) (λ z h. follows_front n 0 (w.done j) (e ∷ []) h) (λ z h. h) (r.follows j n first);
  absent = λ j none. nothing (w.done j) e (j == m) (r.absent j none);
  few = λ j. elim (r.few j) [ inl k ↦ inl (nothing (w.done j) e (j == m) k) | inr k ↦ inr k ];
}

there : (l : ℕ) (w : Network) (m : ℕ) (e : Entry) → Replay l (does m (e ∷ []) w) → m < l
there l w m e r = at (r.few m)
  where
    at : ((does m (e ∷ []) w).done m ≡ []) ⊎ (m < l) → m < l
    at (inl k) = absurd (never_empty (w.done m) e (sym (here_more w m e) ∙ k))
    at (inr k) = k

-- a trigger turn comes only where one is due
due_deed : (o : Option Deed) (chance : Chance) (n : Node) → IsDeed o chance n → not (is_some o) ≡ false
due_deed None chance n h = absurd h
due_deed (Some d) chance n h = refl

due : (l : ℕ) (w : Network) (m : ℕ) (e : Entry) → Replay l (does m (e ∷ []) w) → e.call ≡ calls.Trigger → none_due (node_at w m) ≡ false
due l w m e r call = at (w.first m) refl
  where
    at : (o : Option Node) → w.first m ≡ o → none_due (node_of o (w.done m)) ≡ false
    at None first = absurd (never_empty (w.done m) e (sym (here_more w m e) ∙ r.absent m first))
    at (Some n) first =
        let t = tells_last n 0 (w.done m) e (subst (Follows n 0) (here_more w m e) (r.follows m n first)) in
        due_deed (trigger_deed (after n (w.done m))) e.chance (after n (w.done m)) (subst (λ (c : Call). IsEvent e.stamp e.actor c e.chance e.effect.popped (after n (w.done m))) call t.1.event)

-- A PUMP
-- so many are taken, and of those that were given these are left
abbrev Takes : ℕ → ℕ → Network → List Task → Type 0
Takes n taken w [] = Served w × (taken ≤ n) × (is_idle w ≡ false → taken ≡ n)
Takes n taken w (Pump left slot cable any ∷ []) = taken + left ≡ n
Takes n taken w _ = ⊥

abbrev pub taken_in : ℕ → (ℕ → List Entry) → ℕ
taken_in l f = sum_first l (λ j. count_by is_turn (f j))

more_count : (xs : List Entry) (e : Entry) (b : Bool) → b ≡ true → count_by is_turn (if b then xs ++ e ∷ [] else xs) ≡ count_by is_turn xs + cond (is_turn e) 1 0
more_count xs e true on = count_last xs e
more_count xs e false on = absurd cc

same_count : (xs : List Entry) (e : Entry) (b : Bool) → b ≡ false → count_by is_turn (if b then xs ++ e ∷ [] else xs) ≡ count_by is_turn xs
same_count xs e true off = absurd cc
same_count xs e false off = refl

taken_more : (l : ℕ) (f : ℕ → List Entry) (m : ℕ) (e : Entry) → m < l → taken_in l (λ j. if j == m then f j ++ e ∷ [] else f j) ≡ taken_in l f + cond (is_turn e) 1 0
taken_more l f m e less = sum_more l m (cond (is_turn e) 1 0) (λ j. count_by is_turn (f j)) (λ j. count_by is_turn (if j == m then f j ++ e ∷ [] else f j)) less
    (more_count (f m) e (m == m) (nat_self m)) (λ j apart. same_count (f j) e (j == m) (apart_no j m apart))

takes_as : (n a b : ℕ) (w : Network) (ts : List Task) → a ≡ b → Takes n a w ts → Takes n b w ts
takes_as n a b w ts e h = subst (λ (k : ℕ). Takes n k w ts) e h

-- an entry of the PUMP
one_turn : (n taken : ℕ) (w v : Network) (t : Task) (ts : List Task) (m : ℕ) (e : Entry) → Takes n taken w (t ∷ ts) → Moves w t m e → (is_turn e ≡ true) × Takes n (taken + 1) v (left_by w t e ++ ts)
one_turn n taken w v (Pump zero slot cable any) [] m e h mv = absurd mv
one_turn n taken w v (Pump (suc left) slot cable any) [] m e h mv = (pumped_turn w slot cable (slice_get w.scenario.cables cable) m e mv, on slot)
  where
    on : (s : Slot) → Takes n (taken + 1) v (pump_on left s cable true ++ [])
    on Sends = omega (arith, h)
    on Receives = omega (arith, h)
    on TimesOut = omega (arith, h)
one_turn n taken w v (Pump left slot cable any) (u ∷ ts) m e h mv = absurd h
one_turn n taken w v (Ask at actor call) ts m e h mv = absurd h
one_turn n taken w v (Script k p tried most) ts m e h mv = absurd h
one_turn n taken w v (Lines k p tried ls) ts m e h mv = absurd h
one_turn n taken w v (Phase tries) ts m e h mv = absurd h
one_turn n taken w v (Handle k at left) ts m e h mv = absurd h
one_turn n taken w v (Serve k l left) ts m e h mv = absurd h
one_turn n taken w v (Watch k l) ts m e h mv = absurd h
one_turn n taken w v (Open k l hc) ts m e h mv = absurd h
one_turn n taken w v (Restart at) ts m e h mv = absurd h

-- a trigger turn
one_trigger : (n taken : ℕ) (w v : Network) (ts : List Task) → (Served w → ⊥) → Takes n taken w ts → Takes n taken v ts
one_trigger n taken w v [] due h = absurd (due h.0)
one_trigger n taken w v (Pump left slot cable any ∷ []) due h = h
one_trigger n taken w v (Pump left slot cable any ∷ (u ∷ ts)) due h = absurd h
one_trigger n taken w v (Ask at actor call ∷ ts) due h = absurd h
one_trigger n taken w v (Script k p tried most ∷ ts) due h = absurd h
one_trigger n taken w v (Lines k p tried ls ∷ ts) due h = absurd h
one_trigger n taken w v (Phase tries ∷ ts) due h = absurd h
one_trigger n taken w v (Handle k at left ∷ ts) due h = absurd h
one_trigger n taken w v (Serve k l left ∷ ts) due h = absurd h
one_trigger n taken w v (Watch k l ∷ ts) due h = absurd h
one_trigger n taken w v (Open k l hc ∷ ts) due h = absurd h
one_trigger n taken w v (Restart at ∷ ts) due h = absurd h

-- what comes next without an entry
takes_is : (n taken : ℕ) (w : Network) (next us : List Task) → next ≡ us → Takes n taken w (us ++ []) → Takes n taken w (next ++ [])
takes_is n taken w next us e h = subst (λ (xs : List Task). Takes n taken w (xs ++ [])) (sym e) h

skipped : (n taken : ℕ) (w : Network) (left : ℕ) (slot : Slot) (cable : ℕ) (any : Bool) (o : Option CableLine) (next : List Task) → taken + left ≡ n → PumpSkips w left slot cable any o next → Takes n taken w (next ++ [])
skipped n taken w left slot cable any None next h p = takes_is n taken w next (next_round left slot any) p (on slot any)
  where
    on : (s : Slot) (b : Bool) → Takes n taken w (next_round left s b ++ [])
    on Sends true = h
    on Sends false = h
    on Receives b = h
    on TimesOut b = h
skipped n taken w left slot cable any (Some c) next h p = takes_is n taken w next (pump_on left slot cable any) p.1 (on slot)
  where
    on : (s : Slot) → Takes n taken w (pump_on left s cable any ++ [])
    on Sends = h
    on Receives = h
    on TimesOut = h

one_pass : (n taken : ℕ) (w : Network) (t : Task) (next ts : List Task) → Served w → Takes n taken w (t ∷ ts) → Passes w t next → Takes n taken w (next ++ ts)
one_pass n taken w (Pump zero slot cable any) next [] served h p = takes_is n taken w next [] p (served, omega (arith, h), λ z. omega (arith, h))
one_pass n taken w (Pump (suc left) slot cable any) next [] served h (inl p) = takes_is n taken w next [] p.1 (served, omega (arith, h), λ z. absurd (true≢false (sym p.0 ∙ z)))
one_pass n taken w (Pump (suc left) slot cable any) next [] served h (inr p) = skipped n taken w (suc left) slot cable any (slice_get w.scenario.cables cable) next h p
one_pass n taken w (Pump left slot cable any) next (u ∷ ts) served h p = absurd h
one_pass n taken w (Ask at actor call) next ts served h p = absurd h
one_pass n taken w (Script k part tried most) next ts served h p = absurd h
one_pass n taken w (Lines k part tried ls) next ts served h p = absurd h
one_pass n taken w (Phase tries) next ts served h p = absurd h
one_pass n taken w (Handle k at left) next ts served h p = absurd h
one_pass n taken w (Serve k l left) next ts served h p = absurd h
one_pass n taken w (Watch k l) next ts served h p = absurd h
one_pass n taken w (Open k l hc) next ts served h p = absurd h
one_pass n taken w (Restart at) next ts served h p = absurd h

on_more : (b : Bool) (a : ℕ) → b ≡ true → a + 1 ≡ a + cond b 1 0
on_more true a e = refl
on_more false a e = absurd cc

off_more : (b : Bool) (a : ℕ) → b ≡ false → a ≡ a + cond b 1 0
off_more true a e = absurd cc
off_more false a e = omega arith

takes : (w0 : Network) (n l : ℕ) {w : Network} {ts : List Task} → (go : Goes w0 (Pump n Sends 0 false ∷ []) w ts) → Replay l w → Takes n (taken_in l (goes_grew w0 (Pump n Sends 0 false ∷ []) go).more) w ts
takes w0 n l stays r = takes_as n 0 (taken_in l (λ j. [])) w0 (Pump n Sends 0 false ∷ []) (sym (sum_none l)) (omega arith)
takes w0 n l (moves w t ts m e go mv) r =
    let before : ℕ = taken_in l (goes_grew w0 (Pump n Sends 0 false ∷ []) go).more in
    let h = one_turn n before w (does m (e ∷ []) w) t ts m e (takes w0 n l go (earlier l w m e r)) mv in
    takes_as n (before + 1) (taken_in l (λ j. if j == m then (goes_grew w0 (Pump n Sends 0 false ∷ []) go).more j ++ e ∷ [] else (goes_grew w0 (Pump n Sends 0 false ∷ []) go).more j)) (does m (e ∷ []) w) (left_by w t e ++ ts)
    (on_more (is_turn e) before h.0 ∙ sym (taken_more l (goes_grew w0 (Pump n Sends 0 false ∷ []) go).more m e (there l w m e r))) h.1
takes w0 n l (serves w ts m e go call) r =
    let before : ℕ = taken_in l (goes_grew w0 (Pump n Sends 0 false ∷ []) go).more in
    let h = one_trigger n before w (does m (e ∷ []) w) ts (λ served. true≢false (sym (served m) ∙ due l w m e r call)) (takes w0 n l go (earlier l w m e r)) in
    takes_as n before (taken_in l (λ j. if j == m then (goes_grew w0 (Pump n Sends 0 false ∷ []) go).more j ++ e ∷ [] else (goes_grew w0 (Pump n Sends 0 false ∷ []) go).more j)) (does m (e ∷ []) w) ts
    (off_more (is_turn e) before (trigger_none e call) ∙ sym (taken_more l (goes_grew w0 (Pump n Sends 0 false ∷ []) go).more m e (there l w m e r))) h
takes w0 n l (passes w t next ts go served p) r = one_pass n (taken_in l (goes_grew w0 (Pump n Sends 0 false ∷ []) go).more) w t next ts served (takes w0 n l go r) p

-- THE MARKS TELL IT
take_back : {A : Type 0} (xs ys zs : List A) → take (length (xs ++ ys) - length xs) (drop (length xs) (xs ++ (ys ++ zs))) ≡ ys
take_back xs ys zs = (λ i. take (many i) (drop-append_seam xs (ys ++ zs) i)) ∙ take-append_seam ys zs
  where
    less : (a b : ℕ) → (a + b) - a ≡ b
    less a b = omega arith

    many : length (xs ++ ys) - length xs ≡ length ys
    many = ap (λ (k : ℕ). k - length xs) (length-append xs ys) ∙ less (length xs) (length ys)

ends_as : (o : Option Mark) → end_of o ≡ entries_noted o
ends_as None = refl
ends_as (Some k) = refl

begins_as : (i : ℕ) (h : History) → begin_of i (Some h) ≡ entries_until i h.marks
begins_as zero h = refl
begins_as (suc i) h =
    ap (λ (b : Bool). if b then 0 else end_of (slice_get h.marks (suc i - 1))) (apart_no (suc i) 0 (λ e. omega (arith, e)))
    ∙ ap (λ (k : ℕ). end_of (slice_get h.marks k)) (one_less i) ∙ ends_as (slice_get h.marks i)
  where
    one_less : (k : ℕ) → suc k - 1 ≡ k
    one_less k = omega arith

record Between (s : Scenario) (hs : List History) (i n : ℕ) (st : IsStep s hs i n) (j : ℕ) (h : History) : Type 0 where
  begins : entries_until i h.marks ≡ length (st.before.done j)
  ends : entries_until (suc i) h.marks ≡ length (st.after.done j)
  has : h.entries ≡ st.after.done j ++ st.next.more j

between : (s : Scenario) (hs : List History) (i n : ℕ) (st : IsStep s hs i n) (j : ℕ) (h : History) → slice_get hs j ≡ Some h → Between s hs i n st j h
between s hs i n st j h is = record {
  begins = entries_at_mark s hs i st.before st.place j h is;
  ends = entries_at_mark s hs (suc i) st.after st.next j h is;
  has = sym (ap entries_or is) ∙ st.next.has j;
}

-- what a manager did in the PUMP
done_in : (s : Scenario) (hs : List History) (i n : ℕ) (st : IsStep s hs i n) (j : ℕ) (h : History) → slice_get hs j ≡ Some h → in_step i (Some h) ≡ (goes_grew st.before (Pump n Sends 0 false ∷ []) st.goes).more j
done_in s hs i n st j h is =
    let b : Between s hs i n st j h = between s hs i n st j h is in
    let g : Grew st.before st.after = goes_grew st.before (Pump n Sends 0 false ∷ []) st.goes in
    let start : begin_of i (Some h) ≡ length (st.before.done j) = begins_as i h ∙ b.begins in
    let stop : end_of (slice_get h.marks i) ≡ length (st.before.done j ++ g.more j) = ends_as (slice_get h.marks i) ∙ b.ends ∙ ap length (g.has j) in
    let whole : h.entries ≡ st.before.done j ++ (g.more j ++ st.next.more j) = b.has ∙ ap (λ (xs : List Entry). xs ++ st.next.more j) (g.has j) ∙ append_assoc (st.before.done j) (g.more j) (st.next.more j) in
    (λ t. take (stop t - start t) (drop (start t) (whole t))) ∙ take_back (st.before.done j) (g.more j) (st.next.more j)

turns_sum : (i : ℕ) (hs : List History) → turns_in i hs ≡ sum_first (length hs) (λ j. count_by is_turn (in_step i (slice_get hs j)))
turns_sum i [] = refl
turns_sum i (h ∷ hs) = let r = turns_sum i hs in omega (arith, r)

history_there : (hs : List History) (j : ℕ) → j < length hs → (h : History) × (slice_get hs j ≡ Some h)
history_there [] j less = absurd (omega (arith, less))
history_there (h ∷ hs) zero less = (h, refl)
history_there (h ∷ hs) (suc j) less = history_there hs j (omega (arith, less))

pub turns_told : (s : Scenario) (hs : List History) (i n : ℕ) (st : IsStep s hs i n) → turns_in i hs ≡ taken_in (length hs) (goes_grew st.before (Pump n Sends 0 false ∷ []) st.goes).more
turns_told s hs i n st = turns_sum i hs ∙ sum_same (length hs) (λ j. count_by is_turn (in_step i (slice_get hs j))) (λ j. count_by is_turn ((goes_grew st.before (Pump n Sends 0 false ∷ []) st.goes).more j))
    (λ j less. let h = history_there hs j less in ap (λ (o : Option History). count_by is_turn (in_step i o)) h.1 ∙ ap (count_by is_turn) (done_in s hs i n st j h.0 h.1))

-- A RUN
absent_none : (hs : List History) (j : ℕ) → (slice_get hs j ≡ None) ⊎ (j < length hs)
absent_none [] j = inl refl
absent_none (h ∷ hs) zero = inr (omega arith)
absent_none (h ∷ hs) (suc j) = elim (absent_none hs j) [ inl k ↦ inl k | inr k ↦ inr (omega (arith, k)) ]

nil_front : (xs ys : List Entry) → [] ≡ xs ++ ys → xs ≡ []
nil_front [] ys e = refl
nil_front (x ∷ xs) ys e = absurd (never e)
  where
    never : [] ≡ x ∷ (xs ++ ys) → ⊥
    never k = cc

none_some : {A : Type 0} {x : A} → None ≡ Some x → ⊥
none_some e = cc

replay : (s : Scenario) (hs : List History) (i : ℕ) (w : Network) → IsLawful s hs → IsPlace s hs i w → Replay (length hs) w
replay s hs i w law p = record {
  follows = λ m n first. at m n (slice_get hs m) refl first;
  absent = λ m none. empty m (slice_get hs m) refl none;
  few = λ m. elim (absent_none hs m) [ inl k ↦ inl (gone m k) | inr k ↦ inr k ];
}
  where
    g : Grew (network_begun s hs) w
    g = went_grew (network_begun s hs) p.went

    gone : (m : ℕ) → slice_get hs m ≡ None → w.done m ≡ []
    gone m is = nil_front (w.done m) (p.more m) (sym (ap entries_or is) ∙ p.has m)

    some_node : (m : ℕ) (h : History) → slice_get hs m ≡ Some h → w.first m ≡ Some (opening_node (surroundings s m) h)
    some_node m h is = g.first m ∙ ap (node_begun (surroundings s m)) is

    same_node : (a b : Node) → Some a ≡ Some b → a ≡ b
    same_node a b e = cc

    at : (m : ℕ) (n : Node) (o : Option History) → slice_get hs m ≡ o → w.first m ≡ Some n → Follows n 0 (w.done m)
    at m n None is first = absurd (none_some (sym (g.first m ∙ ap (node_begun (surroundings s m)) is) ∙ first))
    at m n (Some h) is first =
        subst (λ (x : Node). Follows x 0 (w.done m)) (same_node (opening_node (surroundings s m) h) n (sym (some_node m h is) ∙ first))
        (follows_front (opening_node (surroundings s m) h) 0 (w.done m) (p.more m) (subst (Follows (opening_node (surroundings s m) h) 0) (sym (ap entries_or is) ∙ p.has m) (law.histories m h is).replays.follows))

    empty : (m : ℕ) (o : Option History) → slice_get hs m ≡ o → w.first m ≡ None → w.done m ≡ []
    empty m None is none = gone m is
    empty m (Some h) is none = absurd (none_some (sym none ∙ some_node m h is))

pub pumps_tell : (l : Left) → IsLawful l.scenario l.histories → PumpsTell l
pumps_tell l law i n step m h k there_ marked =
    let s : Scenario = l.scenario in
    let hs : List History = l.histories in
    let st : IsStep s hs i n = step_of s hs law.steps.whole law.steps.rest law.steps.tasks i n law.steps.far step m h k there_ marked in
    let idle : k.idle ≡ is_idle st.after = st.idle m h k there_ marked in
    let t = takes st.before n (length hs) st.goes (replay s hs (suc i) st.after law st.next) in record {
      idle = idle ∙ ap is_idle (sym (net_same s hs (suc i) st.after st.next));
      few = subst (λ (x : ℕ). x ≤ n) (sym (turns_told s hs i n st)) t.1;
      all = λ off. turns_told s hs i n st ∙ t.2 (sym idle ∙ off);
    }
