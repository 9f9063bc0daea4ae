-- The story of several histories as one run: what one more entry of a prefix does to the managers and to the ledger; that
-- it tells its event at the manager of the prefix; and that each frame that it popped was offered in the prefix.
use Rattle.std.proofs.Common.{ℕ, zero, suc, ◌≡◌, ◌+◌, ◌<◌, ◌≤◌, ◌⊎◌, Bool, true, false, List, [], ◌∷◌, ◌++◌, refl, ap, sym, subst, ◌∙◌, arith, inl, inr, map}
use Rattle.std.specs.Prelude.{Option, Some, None, ◌==◌, if◌then◌else◌, slice_get, filter, max, take, length}
use Rattle.std.specs.Option.{option_map}
use Rattle.std.proofs.Math.Nat.{le-max_right}
use Rattle.mq_frame.specs.declared.frame.Frame.{Frame}
use Rattle.mq_frame.specs.declared.frame.Seen.TheVariants as items
use Rattle.mq_cable.specs.declared.fault.Fault.{Fault}
use Rattle.mq_cable.specs.declared.fault.Fault.TheVariants as faults
use Rattle.mq_cable.specs.Faults.{Offer, fault_of, now_of, comes_after, due_if, due_from, due_after, made_after, offered_of}
use Rattle.mq_history.specs.declared.calls.Actor.{Actor}
use Rattle.mq_history.specs.declared.calls.Entry.{Entry}
use Rattle.mq_history.specs.declared.history.History.{History}
use Rattle.mq_history.specs.declared.scenario.Scenario.{Scenario}
use Rattle.mq_calls.specs.State.{Plain}
use Rattle.mq_spec_network.specs.from_spec_node.Node.{Node}
use Rattle.mq_spec_network.specs.from_spec_node.Replays.{after, done_by, opening_node, Tells, Follows}
use Rattle.mq_spec_network.specs.Story.{Line, Mem, Earlier, Ranked, part, entries_or, entries_at, IsStory}
use Rattle.mq_spec_network.specs.Given.{surroundings}
use Rattle.mq_spec_network.specs.Ledger.{Ledger, ledger, posted}
use Rattle.mq_spec_network.specs.Standing.{node_after, managers_from, managers_at}
use Rattle.mq_spec_network.specs.Cables.{Lying, whole, spoiled, offered_if, offered_by, pops_item, Takes, Carries}
use Rattle.mq_spec_network.specs.from_spec_node.Doers.{by}
use Rattle.mq_law_seen.proofs.from_law_rows.Lists.{true_false, bool_case, eqb_yes, eqb_self, mem_append, map_mem}

-- One entry more

pub part_append : (m : ℕ) (p rest : List Line) → part m (p ++ rest) ≡ part m p ++ part m rest
part_append m [] rest = refl
part_append m (x ∷ p) rest = bool_case (m == x.manager) (λ t. (if t then x.entry ∷ part m (p ++ rest) else part m (p ++ rest)) ≡ (if t then x.entry ∷ part m p else part m p) ++ part m rest)
    (λ e. ap (λ (es : List Entry). x.entry ∷ es) (part_append m p rest)) (λ e. part_append m p rest)

pub after_append : (n : Node) (es more : List Entry) → after n (es ++ more) ≡ after (after n es) more
after_append n [] more = refl
after_append n (e ∷ es) more = after_append (done_by e n).next es more

none_more : {A : Type 0} (xs : List A) → xs ++ [] ≡ xs
none_more [] = refl
none_more (x ∷ xs) = ap (λ ys. x ∷ ys) (none_more xs)

-- the node of a manager after one more entry
pub node_step : (s : Scenario) (m : ℕ) (p : List Line) (x : Line) (h : History) → node_after s m (p ++ x ∷ []) h ≡ (if m == x.manager then (done_by x.entry (node_after s m p h)).next else node_after s m p h)
node_step s m p x h =
    ap (after (opening_node (surroundings s m) h)) (part_append m p (x ∷ []))
    ∙ after_append (opening_node (surroundings s m) h) (part m p) (part m (x ∷ []))
    ∙ bool_case (m == x.manager) (λ t. after (node_after s m p h) (if t then x.entry ∷ [] else []) ≡ (if t then (done_by x.entry (node_after s m p h)).next else node_after s m p h)) (λ e. refl) (λ e. refl)

pub manager_get : (s : Scenario) (k : ℕ) (p : List Line) (hs : List History) (a : ℕ) → slice_get (managers_from s k p hs) a ≡ option_map (λ (h : History). (node_after s (k + a) p h).manager) (slice_get hs a)
manager_get s k p [] a = refl
manager_get s k p (h ∷ hs) zero = ap (λ z. Some (node_after s z p h).manager) (plus_zero k)
  where
    plus_zero : (k : ℕ) → k ≡ k + 0
    plus_zero k = omega arith
manager_get s k p (h ∷ hs) (suc a) = manager_get s (suc k) p hs a ∙ ap (λ z. option_map (λ (h : History). (node_after s z p h).manager) (slice_get hs a)) (plus_suc k a)
  where
    plus_suc : (k a : ℕ) → suc k + a ≡ k + suc a
    plus_suc k a = omega arith

-- the managers of a prefix, and of one with one entry more
pub manager_at : (s : Scenario) (p : List Line) (hs : List History) (a : ℕ) → slice_get (managers_at s p hs) a ≡ option_map (λ (h : History). (node_after s a p h).manager) (slice_get hs a)
manager_at s p hs a = manager_get s 0 p hs a ∙ ap (λ z. option_map (λ (h : History). (node_after s z p h).manager) (slice_get hs a)) (zero_plus a)
  where
    zero_plus : (a : ℕ) → 0 + a ≡ a
    zero_plus a = omega arith

pub other_manager : (s : Scenario) (p : List Line) (x : Line) (hs : List History) (a : ℕ) → (a == x.manager) ≡ false → slice_get (managers_at s (p ++ x ∷ []) hs) a ≡ slice_get (managers_at s p hs) a
other_manager s p x hs a e =
    let same : (h : History) → node_after s a (p ++ x ∷ []) h ≡ node_after s a p h = λ h. node_step s a p x h ∙ ap (λ t. if t then (done_by x.entry (node_after s a p h)).next else node_after s a p h) e in
    manager_at s (p ++ x ∷ []) hs a ∙ ap (λ (f : History → Plain). option_map f (slice_get hs a)) (λ i h. (same h i).manager) ∙ sym (manager_at s p hs a)

pub this_manager : (s : Scenario) (p : List Line) (x : Line) (hs : List History) (h : History) → slice_get hs x.manager ≡ Some h
    → slice_get (managers_at s (p ++ x ∷ []) hs) x.manager ≡ Some (done_by x.entry (node_after s x.manager p h)).next.manager
this_manager s p x hs h is = manager_at s (p ++ x ∷ []) hs x.manager ∙ ap (option_map (λ (h : History). (node_after s x.manager (p ++ x ∷ []) h).manager)) is
    ∙ ap (λ (n : Node). Some n.manager) (node_step s x.manager p x h ∙ ap (λ t. if t then (done_by x.entry (node_after s x.manager p h)).next else node_after s x.manager p h) (eqb_self x.manager))

pub ledger_step : (l : Ledger) (p : List Line) (x : Line) → ledger l (p ++ x ∷ []) ≡ posted x.manager x.entry x.entry.reply (ledger l p)
ledger_step l [] x = refl
ledger_step l (y ∷ p) x = ledger_step (posted y.manager y.entry y.entry.reply l) p x

-- Each entry tells its event where it stands.

pub follows_at : (n : Node) (last : ℕ) (es : List Entry) (e : Entry) (more : List Entry) → Follows n last (es ++ e ∷ more) → (stamp : ℕ) × Tells (after n es) stamp e
follows_at n last [] e more f = (last, f.0)
follows_at n last (x ∷ es) e more f = follows_at (done_by x n).next x.stamp es e more f.1

pub story_tells : (s : Scenario) (hs : List History) (p : List Line) (x : Line) (rest : List Line) (h : History) → IsStory hs (p ++ x ∷ rest) → slice_get hs x.manager ≡ Some h
    → Follows (opening_node (surroundings s x.manager) h) 0 h.entries → (stamp : ℕ) × Tells (node_after s x.manager p h) stamp x.entry
story_tells s hs p x rest h story is follows =
    let there : part x.manager (p ++ x ∷ rest) ≡ h.entries = story.parts x.manager ∙ ap entries_or is in
    let split : part x.manager (p ++ x ∷ rest) ≡ part x.manager p ++ x.entry ∷ part x.manager rest =
    part_append x.manager p (x ∷ rest) ∙ ap (λ t. part x.manager p ++ (if t then x.entry ∷ part x.manager rest else part x.manager rest)) (eqb_self x.manager) in
    follows_at (opening_node (surroundings s x.manager) h) 0 (part x.manager p) x.entry (part x.manager rest) (subst (Follows (opening_node (surroundings s x.manager) h) 0) (sym there ∙ split) follows)

-- What is popped was offered before.

mem_take : {A : Type 0} (x : A) (n : ℕ) (xs : List A) → Mem x (take n xs) → Mem x xs
mem_take x zero [] m = m
mem_take x zero (y ∷ ys) m = absurd m
mem_take x (suc n) [] m = m
mem_take x (suc n) (y ∷ ys) (inl e) = inl e
mem_take x (suc n) (y ∷ ys) (inr m) = inr (mem_take x n ys m)

mem_filter : {A : Type 0} (p : A → Bool) (x : A) (xs : List A) → Mem x (filter p xs) → Mem x xs × (p x ≡ true)
mem_filter p x [] m = absurd m
mem_filter p x (y ∷ ys) m = bool_case (p y) (λ t. p y ≡ t → Mem x (if t then y ∷ filter p ys else filter p ys) → Mem x (y ∷ ys) × (p x ≡ true))
    (λ e f n. elim n [ inl q ↦ (inl q, ap p q ∙ f) | inr k ↦ let r = mem_filter p x ys k in (inr r.0, r.1) ])
    (λ e f n. let r = mem_filter p x ys n in (inr r.0, r.1)) refl m

once_of : {A : Type 0} (spoil : A → A) (y : A) (t : Option Fault) (x : A) → Mem y (now_of spoil t x) → (y ≡ x) ⊎ (y ≡ spoil x)
once_of spoil y None x (inl e) = inl e
once_of spoil y None x (inr n) = absurd n
once_of spoil y (Some (faults.Drop on)) x n = absurd n
once_of spoil y (Some (faults.Late on j)) x n = absurd n
once_of spoil y (Some (faults.Copy on j)) x (inl e) = inl e
once_of spoil y (Some (faults.Copy on j)) x (inr n) = absurd n
once_of spoil y (Some (faults.Spoil on)) x (inl e) = inr e
once_of spoil y (Some (faults.Spoil on)) x (inr n) = absurd n

extra_of : {A : Type 0} (y : A) (n : ℕ) (o : Option ℕ) (x : A) → Mem y (due_if n o x) → y ≡ x
extra_of y n None x m = absurd m
extra_of y n (Some j) x m = bool_case (j == n) (λ t. Mem y (if t then x ∷ [] else []) → y ≡ x) (λ e k. elim k [ inl q ↦ q | inr z ↦ absurd z ]) (λ e k. absurd k) m

due_of : {A : Type 0} (y : A) (fs : List Fault) (n k : ℕ) (xs : List A) → Mem y (due_from fs n k xs) → Mem y xs
due_of y fs n k [] m = absurd m
due_of y fs n k (x ∷ rest) m = elim (mem_append y (due_if n (comes_after (fault_of k fs)) x) (due_from fs n (suc k) rest) m) [
  | inl z ↦ inl (extra_of y n (comes_after (fault_of k fs)) x z)
  | inr z ↦ inr (due_of y fs n (suc k) rest z)
]

-- one more item is one of those that were offered before, or after them
more_of : {A : Type 0} (y x : A) (before rest : List A) → Mem y (before ++ x ∷ []) ⊎ Mem y rest → Mem y before ⊎ Mem y (x ∷ rest)
more_of y x before rest (inl n) = elim (mem_append y before (x ∷ []) n) [ inl q ↦ inl q | inr q ↦ elim q [ inl e ↦ inr (inl e) | inr z ↦ absurd z ] ]
more_of y x before rest (inr n) = inr (inr n)

-- each item is of one that was offered
made_from : {A : Type 0} (spoil : A → A) (fs : List Fault) (before : List A) (os : List (Offer A)) (y : A) → Mem y (made_after spoil fs before os) → (x : A) × (Mem x before ⊎ Mem x (offered_of os)) × ((y ≡ x) ⊎ (y ≡ spoil x))
made_from spoil fs before [] y m = absurd m
made_from {A} spoil fs before (o ∷ os) y m =
    let now : List A = now_of spoil (fault_of (suc (length before)) fs) o.item in
    let due : List A = take o.extras (due_after fs (before ++ o.item ∷ [])) in
    elim (mem_append y (now ++ due) (made_after spoil fs (before ++ o.item ∷ []) os) m) [
      | inl z ↦ elim (mem_append y now due z) [
        | inl k ↦ (o.item, inr (inl refl), once_of spoil y (fault_of (suc (length before)) fs) o.item k)
        | inr k ↦ (y, more_of y o.item before (offered_of os) (inl (due_of y fs (length (before ++ o.item ∷ [])) 1 (before ++ o.item ∷ []) (mem_take y o.extras (due_after fs (before ++ o.item ∷ [])) k))), inl refl)
      ]
      | inr k ↦ let d = made_from spoil fs (before ++ o.item ∷ []) os y k in (d.0, more_of d.0 o.item before (offered_of os) d.1, d.2)
    ]

items_are : {A : Type 0} (os : List (Offer A)) → offered_of os ≡ map (λ (o : Offer A). o.item) os
items_are [] = refl
items_are (o ∷ os) = ap (λ xs. o.item ∷ xs) (items_are os)

offered_in : (es : List Entry) (k : Offer Lying) → Mem k (offered_by es) → (e : Entry) × Mem e es × (f : Frame) × (e.effect.pushed ≡ Some f) × (k.item ≡ whole f)
offered_in [] k m = absurd m
offered_in (e ∷ es) k m =
    elim (mem_append k (offered_if e.effect.pushed e.effect.extras) (offered_by es) m) [
      | inl z ↦ let r = pushed_of e.effect.pushed e.effect.extras k z in (e, inl refl, r.0, r.1, r.2)
      | inr z ↦ let r = offered_in es k z in (r.0, inr r.1, r.2, r.3, r.4)
    ]
  where
    pushed_of : (o : Option Frame) (n : ℕ) (k : Offer Lying) → Mem k (offered_if o n) → (f : Frame) × (o ≡ Some f) × (k.item ≡ whole f)
    pushed_of None n k m = absurd m
    pushed_of (Some f) n k (inl e) = (f, refl, ap (λ (o : Offer Lying). o.item) e)
    pushed_of (Some f) n k (inr m) = absurd m

pushed_in : (es : List Entry) (x : Lying) → Mem x (offered_of (offered_by es)) → (e : Entry) × Mem e es × (f : Frame) × (e.effect.pushed ≡ Some f) × (x ≡ whole f)
pushed_in es x m =
    let k = map_mem (λ (o : Offer Lying). o.item) x (offered_by es) (subst (Mem x) (items_are (offered_by es)) m) in
    let r = offered_in es k.0 k.1 in
    (r.0, r.1, r.2, r.3, k.2 ∙ r.4)

above : (last x e : ℕ) → e ≡ max last x + 1 → x < e
above last x e is = let le : x ≤ max last x = le-max_right last x in omega arith

taken_of : (test : Actor → Bool) (last : ℕ) (es : List Entry) (taken : List Lying) (e : Entry) → Takes test last es taken → Mem e es → pops_item test e ≡ true → (y : Lying) × Mem y taken × (e.effect.popped ≡ y.seen) × (y.stamp < e.stamp)
taken_of test last [] taken e t n p = absurd n
taken_of test last (x ∷ es) [] e t (inl q) p = absurd (true_false (sym p ∙ ap (pops_item test) q ∙ t.0))
taken_of test last (x ∷ es) [] e t (inr n) p = taken_of test x.stamp es [] e t.1 n p
taken_of test last (x ∷ es) (y ∷ ys) e (inl t) (inl q) p = absurd (true_false (sym p ∙ ap (pops_item test) q ∙ t.0))
taken_of test last (x ∷ es) (y ∷ ys) e (inl t) (inr n) p = taken_of test x.stamp es (y ∷ ys) e t.1 n p
taken_of test last (x ∷ es) (y ∷ ys) e (inr t) (inl q) p = (y, inl refl, ap (λ (z : Entry). z.effect.popped) q ∙ t.1, above last y.stamp e.stamp (ap (λ (z : Entry). z.stamp) q ∙ t.2))
taken_of test last (x ∷ es) (y ∷ ys) e (inr t) (inr n) p = let r = taken_of test x.stamp es ys e t.3 n p in (r.0, inr r.1, r.2, r.3)

mem_left : {A : Type 0} (x : A) (xs ys : List A) → Mem x xs → Mem x (xs ++ ys)
mem_left x [] ys n = absurd n
mem_left x (y ∷ xs) ys (inl e) = inl e
mem_left x (y ∷ xs) ys (inr n) = inr (mem_left x xs ys n)

-- a frame that an end popped was offered by the other end, and its stamp is below the entry's
pub popped_was_offered : (fs : List Fault) (pusher test : Actor → Bool) (from to : List Entry) (e : Entry) (f : Frame) → Carries fs (by pusher from) test to → Mem e to → pops_item test e ≡ true → e.effect.popped ≡ items.Frame f
    → (o : Entry) × Mem o from × (pusher o.actor ≡ true) × (o.effect.pushed ≡ Some f) × (f.stamp < e.stamp)
popped_was_offered fs pusher test from to e f c n p is =
    let t = taken_of test 0 to c.taken e c.takes n p in
    let m = made_from spoiled fs [] (offered_by (by pusher from)) t.0 (subst (Mem t.0) (sym c.whole) (mem_left t.0 c.taken c.left t.1)) in
    let whose : t.0 ≡ m.0 = elim m.2 [ inl q ↦ q | inr q ↦ absurd (spoiled_not f (sym is ∙ t.2 ∙ ap (λ (y : Lying). y.seen) q)) ] in
    let o : (o : Entry) × Mem o (by pusher from) × (g : Frame) × (o.effect.pushed ≡ Some g) × (m.0 ≡ whole g) = elim m.1 [ inl q ↦ absurd q | inr q ↦ pushed_in (by pusher from) m.0 q ] in
    let same : f ≡ o.2 = frame_same f o.2 (sym is ∙ t.2 ∙ ap (λ (y : Lying). y.seen) (whose ∙ o.4)) in
    let r = mem_filter (λ (e : Entry). pusher e.actor) o.0 from o.1 in
    (o.0, r.0, r.1, o.3 ∙ ap (λ (g : Frame). Some g) (sym same), subst (λ z. z < e.stamp) (ap (λ (y : Lying). y.stamp) (whose ∙ o.4) ∙ ap (λ (g : Frame). g.stamp) (sym same)) t.3)
  where
    spoiled_not : (f : Frame) → items.Frame f ≡ items.Spoiled → ⊥
    spoiled_not f e = cc

    frame_same : (f g : Frame) → items.Frame f ≡ items.Frame g → f ≡ g
    frame_same f g e = cc

-- In a story an entry of a smaller stamp stands before.
member_of : (m : ℕ) (e : Entry) (s : List Line) → Mem e (part m s) → Mem (record { manager = m; entry = e }) s
member_of m e [] n = absurd n
member_of m e (x ∷ s) n = bool_case (m == x.manager) (λ t. (m == x.manager) ≡ t → Mem e (if t then x.entry ∷ part m s else part m s) → Mem (record { manager = m; entry = e }) (x ∷ s))
    (λ q f k. elim k [ inl z ↦ inl (λ i. record { manager = eqb_yes m x.manager f i; entry = z i }) | inr z ↦ inr (member_of m e s z) ])
    (λ q f k. inr (member_of m e s k)) refl n

stands_before : (p : List Line) (x : Line) (rest : List Line) (y : Line) → Ranked (p ++ x ∷ rest) → Mem y (p ++ x ∷ rest) → y.entry.stamp < x.entry.stamp → Mem y p
stands_before [] x rest y r (inl e) lt = absurd (not_below y.entry.stamp x.entry.stamp (ap (λ (l : Line). l.entry.stamp) e) lt)
  where
    not_below : (a b : ℕ) → a ≡ b → a < b → ⊥
    not_below a b e lt = omega arith
stands_before [] x rest y r (inr n) lt = absurd (not_earlier x y (r.0 y n) lt)
  where
    not_earlier : (x y : Line) → Earlier x y → y.entry.stamp < x.entry.stamp → ⊥
    not_earlier x y (inl a) lt = omega arith
    not_earlier x y (inr a) lt = let e = a.0 in omega arith
stands_before (z ∷ p) x rest y r (inl e) lt = inl e
stands_before (z ∷ p) x rest y r (inr n) lt = inr (stands_before p x rest y r.1 n lt)

-- each frame that an entry of a story popped was offered in the prefix before it, where frames have their entries' stamps
pub popped_in_prefix : (hs : List History) (p : List Line) (x : Line) (rest : List Line) (from : ℕ) (fs : List Fault) (pusher test : Actor → Bool) (f : Frame) → IsStory hs (p ++ x ∷ rest)
    → Carries fs (by pusher (entries_at hs from)) test (entries_at hs x.manager) → pops_item test x.entry ≡ true → x.entry.effect.popped ≡ items.Frame f
    → ((o : Entry) → Mem o (entries_at hs from) → o.effect.pushed ≡ Some f → o.stamp ≡ f.stamp)
    → (o : Entry) × Mem (record { manager = from; entry = o }) p × (pusher o.actor ≡ true) × (o.effect.pushed ≡ Some f)
popped_in_prefix hs p x rest from fs pusher test f story c pops is stamped =
    let here : Mem x.entry (entries_at hs x.manager) = subst (Mem x.entry) (story.parts x.manager) (entry_of p) in
    let o = popped_was_offered fs pusher test (entries_at hs from) (entries_at hs x.manager) x.entry f c here pops is in
    let line : Mem (record { manager = from; entry = o.0 }) (p ++ x ∷ rest) = member_of from o.0 (p ++ x ∷ rest) (subst (Mem o.0) (sym (story.parts from)) o.1) in
    (o.0, stands_before p x rest (record { manager = from; entry = o.0 }) story.ranked line (subst (λ z. z < x.entry.stamp) (sym (stamped o.0 o.1 o.3)) o.4), o.2, o.3)
  where
    entry_of : (p : List Line) → Mem x.entry (part x.manager (p ++ x ∷ rest))
    entry_of [] = subst (λ t. Mem x.entry (if t then x.entry ∷ part x.manager rest else part x.manager rest)) (sym (eqb_self x.manager)) (inl refl)
    entry_of (y ∷ p) = bool_case (x.manager == y.manager) (λ t. Mem x.entry (if t then y.entry ∷ part x.manager (p ++ x ∷ rest) else part x.manager (p ++ x ∷ rest))) (λ e. inr (entry_of p)) (λ e. entry_of p)
