-- The queues with a trigger due stay noted, whatever is done to the queues.
use Rattle.std.proofs.Common.{◌≡◌, ℕ, ◌-◌, ◌≤◌, Bool, true, false, cond, List, [], ◌∷◌, ◌++◌, refl, sym, ap, subst, ◌∙◌, arith}
use Rattle.std.specs.Prelude.{Some, None, filter, not, nat_lt, ◌||◌, slice_get, slice_index_or, length}
use Rattle.std.specs.List.{list_any}
use Rattle.std.specs.Str.{bytes_eq}
use Rattle.std.proofs.lemmas.List.Folds.{list_any-append}
use Rattle.std.proofs.lemmas.Map.Views.{any-filter_same}
use Rattle.std.proofs.lemmas.Bool.Decides.{nat_tests}
use Rattle.mq_calls.specs.State.{Queue}
use Rattle.mq_calls.specs.Reads.{queue_in}
use Rattle.mq_calls.specs.Changes.{made_due, forgotten}
use Rattle.mq_place.specs.States.{QueueState, queues_of, has_name, state_in, state_or, or_fresh, change_state, on_queue, on_queues, without_state, fresh_state, served, AreApart, IsUnnamed}
use Rattle.mq_place.specs.Due.{DueSet, is_noted, IsListed, AreListed, AreAt, IsDueAt}
use Rattle.mq_place.specs.declared.due.DueAt.{DueAt}
use Rattle.mq_place.specs.declared.due.DueAt.TheVariants as due_at
use Rattle.mq_place.proofs.NameLaws.{name_is, name_self}

-- Names.

or_later : (a b : Bool) → b ≡ true → (a || b) ≡ true
or_later true b e = refl
or_later false b e = e

or_none : (b : Bool) → (b || false) ≡ b
or_none true = refl
or_none false = refl

-- a name that was noted last
pub noted_last : (all : Bool) (name : List ℕ) (names new : List (List ℕ)) → new ≡ names ++ name ∷ [] → (all || list_any (bytes_eq name) new) ≡ true
noted_last all name names new is =
    let own : (bytes_eq name name || false) ≡ true = ap (λ b. b || false) (name_self name) in
    or_later all _ (ap (list_any (bytes_eq name)) is ∙ list_any-append (bytes_eq name) names (name ∷ []) ∙ or_later (list_any (bytes_eq name) names) _ own)

-- where the others stay
pub still_noted : (all : Bool) (name other : List ℕ) (names new : List (List ℕ)) → new ≡ filter (λ (n : List ℕ). not (bytes_eq name n)) names → bytes_eq name other ≡ false → (all || list_any (bytes_eq other) names) ≡ true
    → (all || list_any (bytes_eq other) new) ≡ true
still_noted true name other names new is differs h = refl
still_noted false name other names new is differs h =
    ap (list_any (bytes_eq other)) is ∙ any-filter_same (bytes_eq other) (λ (n : List ℕ). not (bytes_eq name n)) true (λ k e. let same : other ≡ k = name_is other k e in ap not (ap (bytes_eq name) (sym same) ∙ differs)) names ∙ h

one_name : (xs : List (List ℕ)) (x : List ℕ) → true ≡ nat_lt 0 (length xs) → x ≡ slice_index_or xs 0 x → length xs ≤ 1 → xs ≡ x ∷ []
one_name [] x there e few = absurd cc
one_name (y ∷ []) x there e few = ap (λ (n : List ℕ). n ∷ []) (sym e)
one_name (y ∷ z ∷ xs) x there e few = absurd (omega (arith, few))

-- no name, or one
pub none_noted : (d : DueSet) → d.all ≡ false → slice_get d.names 0 ≡ None → (name : List ℕ) → is_noted d name ≡ false
none_noted d none empty name = (λ i. none i || list_any (bytes_eq name) (d.names)) ∙ at d.names empty
  where
    at : (xs : List (List ℕ)) → slice_get xs 0 ≡ None → list_any (bytes_eq name) xs ≡ false
    at [] e = refl
    at (x ∷ xs) e = absurd cc

pub one_noted : (d : DueSet) (xs : List (List ℕ)) (one : List ℕ) → d.all ≡ false → d.names ≡ xs → true ≡ nat_lt 0 (length xs) → one ≡ slice_index_or xs 0 one → length xs ≤ 1 → (name : List ℕ) → is_noted d name ≡ true → name ≡ one
one_noted d xs one none is there first few name h =
    let names = is ∙ one_name xs one there first few in
    name_is name one (sym ((λ i. none i || list_any (bytes_eq name) (names i)) ∙ or_none (bytes_eq name one)) ∙ h)

-- Queues: changed where no trigger becomes due, one or all.

module _ (noted : List ℕ → Bool) where
  pub listed_map : (g : Queue → Queue) → ((s : QueueState) → IsListed noted s → IsListed noted (on_queue g s)) → (states : List QueueState) → AreListed noted states → AreListed noted (on_queues g states)
  listed_map g step [] all = tt
  listed_map g step (s ∷ ss) all = (step s all.0, listed_map g step ss all.1)

  one_step : (f : QueueState → QueueState) (s : QueueState) (ss changed : List QueueState) → IsListed noted s → AreListed noted ss → IsListed noted (f s) → AreListed noted changed → (b : Bool) → AreListed noted (cond b (f s ∷ ss) (s ∷ changed))
  one_step f s ss changed own others new rest true = (new, others)
  one_step f s ss changed own others new rest false = (own, rest)

  pub listed_one : (name : List ℕ) (f : QueueState → QueueState) → ((s : QueueState) → IsListed noted s → IsListed noted (f s)) → (states : List QueueState) → AreListed noted states → AreListed noted (change_state name f states)
  listed_one name f step [] all = tt
  listed_one name f step (s ∷ ss) all = one_step f s ss (change_state name f ss) all.0 all.1 (step s all.0) (listed_one name f step ss all.1) (has_name name s)

  pub listed_pushed : (name : List ℕ) (prioritized : Bool) (states : List QueueState) → AreListed noted states → AreListed noted (states ++ fresh_state name prioritized ∷ [])
  listed_pushed name prioritized [] all = ((λ e. absurd cc), tt)
  listed_pushed name prioritized (s ∷ ss) all = (all.0, listed_pushed name prioritized ss all.1)

-- The notes are others.

module _ (old new : List ℕ → Bool) where
  pub listed_more : ((name : List ℕ) → old name ≡ true → new name ≡ true) → (states : List QueueState) → AreListed old states → AreListed new states
  listed_more more [] all = tt
  listed_more more (s ∷ ss) all = ((λ e. more s.queue.name (all.0 e)), listed_more more ss all.1)

  -- all but those of a name, which is gone
  without_step : (name : List ℕ) → ((other : List ℕ) → bytes_eq name other ≡ false → old other ≡ true → new other ≡ true) → (s : QueueState) (ss : List QueueState) → IsListed old s → AreListed new ss → (b : Bool) → has_name name s ≡ b
      → AreListed new (cond (not b) (s ∷ ss) ss)
  without_step name less s ss own rest true e = rest
  without_step name less s ss own rest false e = ((λ d. less s.queue.name e (own d)), rest)

  pub listed_without : (name : List ℕ) → ((other : List ℕ) → bytes_eq name other ≡ false → old other ≡ true → new other ≡ true) → (states : List QueueState) → AreListed old states → AreListed new (without_state name states)
  listed_without name less [] all = tt
  listed_without name less (s ∷ ss) all = without_step name less s (without_state name ss) all.0 (listed_without name less ss all.1) (has_name name s) refl

  unnamed_listed : (name : List ℕ) → ((other : List ℕ) → bytes_eq name other ≡ false → old other ≡ true → new other ≡ true) → (states : List QueueState) → IsUnnamed name states → AreListed old states → AreListed new states
  unnamed_listed name less [] n all = tt
  unnamed_listed name less (s ∷ ss) n all = ((λ d. less s.queue.name n.0 (all.0 d)), unnamed_listed name less ss n.1 all.1)

  -- or that has no trigger due any more
  pub listed_served : (name : List ℕ) → ((other : List ℕ) → bytes_eq name other ≡ false → old other ≡ true → new other ≡ true) → (states : List QueueState) → AreApart states → (state_or name states).queue.due ≡ 0 → AreListed old states → AreListed new states
  listed_served name less [] apart none all = tt
  listed_served name less (s ∷ ss) apart none all = at (λ zero. listed_served name less ss apart.1 zero all.1) (has_name name s) refl none
    where
      at : ((state_or name ss).queue.due ≡ 0 → AreListed new ss) → (b : Bool) → has_name name s ≡ b → (or_fresh name (cond b (Some s) (state_in name ss))).queue.due ≡ 0 → AreListed new (s ∷ ss)
      at rest true e zero = ((λ d. absurd (let t : false ≡ true = sym (ap (nat_lt 0) zero) ∙ d in cc)), unnamed_listed name less ss (subst (λ (x : List ℕ). IsUnnamed x ss) (sym (name_is name s.queue.name e)) apart.0) all.1)
      at rest false e zero = ((λ d. less s.queue.name e (all.0 d)), rest zero)

  -- a trigger becomes due on a queue that is noted
  due_step : (name : List ℕ) (depth : Bool) (moment : ℕ) → new name ≡ true → ((other : List ℕ) → old other ≡ true → new other ≡ true) → (s : QueueState) (ss changed : List QueueState) → IsListed old s → AreListed old ss → AreListed new changed → (b : Bool) → has_name name s ≡ b
      → AreListed new (cond b (on_queue (made_due depth moment) s ∷ ss) (s ∷ changed))
  due_step name depth moment own more s ss changed first others rest true e = ((λ d. ap new (sym (name_is name s.queue.name e)) ∙ own), listed_more more ss others)
  due_step name depth moment own more s ss changed first others rest false e = ((λ d. more s.queue.name (first d)), rest)

  pub listed_due : (name : List ℕ) (depth : Bool) (moment : ℕ) → new name ≡ true → ((other : List ℕ) → old other ≡ true → new other ≡ true) → (states : List QueueState) → AreListed old states → AreListed new (change_state name (on_queue (made_due depth moment)) states)
  listed_due name depth moment own more [] all = tt
  listed_due name depth moment own more (s ∷ ss) all = due_step name depth moment own more s ss (change_state name (on_queue (made_due depth moment)) ss) all.0 all.1 (listed_due name depth moment own more ss all.1) (has_name name s) refl

  -- no trigger is due any more
  pub listed_forgotten : (states : List QueueState) → AreListed new (on_queues forgotten states)
  listed_forgotten [] = tt
  listed_forgotten (s ∷ ss) = ((λ d. absurd cc), listed_forgotten ss)

-- room was made
pub listed_reserved : (old new : DueSet) (states next : List QueueState) → new ≡ old → next ≡ states → AreListed (is_noted old) states → AreListed (is_noted new) next
listed_reserved old new states next d is all = subst (λ (x : DueSet). AreListed (is_noted x) next) (sym d) (subst (AreListed (is_noted old)) (sym is) all)

-- a trigger that is served leaves less due
pub served_listed : (noted : List ℕ → Bool) (s : QueueState) → IsListed noted s → IsListed noted (on_queue served s)
served_listed noted s own d = own (more s.queue.due d)
  where
    more : (n : ℕ) → nat_lt 0 (n - 1) ≡ true → nat_lt 0 n ≡ true
    more n e = grind (arith, nat_tests)

pub none_left : (b : Bool) (n : ℕ) → b ≡ nat_lt 0 n → b ≡ false → n ≡ 0
none_left b n e f = grind (arith, nat_tests)

-- Where a trigger is due.

due_named : (noted : List ℕ → Bool) (name : List ℕ) (states : List QueueState) → AreListed noted states → nat_lt 0 (queue_in name (queues_of states)).due ≡ true → noted name ≡ true
due_named noted name [] all d = absurd cc
due_named noted name (s ∷ ss) all d = at (due_named noted name ss all.1) (has_name name s) refl d
  where
    at : (nat_lt 0 (queue_in name (queues_of ss)).due ≡ true → noted name ≡ true) → (b : Bool) → has_name name s ≡ b → nat_lt 0 (cond b s.queue (queue_in name (queues_of ss))).due ≡ true → noted name ≡ true
    at rest true e d = ap noted (name_is name s.queue.name e) ∙ all.0 d
    at rest false e d = rest d

-- a queue with a trigger due is noted already
noted_or : (noted : List ℕ → Bool) (name : List ℕ) (states : List QueueState) → AreListed noted states → nat_lt 0 (state_or name states).queue.due ≡ true → noted name ≡ true
noted_or noted name [] all d = absurd cc
noted_or noted name (s ∷ ss) all d = at (noted_or noted name ss all.1) (has_name name s) refl d
  where
    at : (nat_lt 0 (state_or name ss).queue.due ≡ true → noted name ≡ true) → (b : Bool) → has_name name s ≡ b → nat_lt 0 (or_fresh name (cond b (Some s) (state_in name ss))).queue.due ≡ true → noted name ≡ true
    at rest true e d = ap noted (name_is name s.queue.name e) ∙ all.0 d
    at rest false e d = rest d

pub known_noted : (noted : List ℕ → Bool) (name : List ℕ) (states : List QueueState) (known : Bool) → AreListed noted states → known ≡ nat_lt 0 (state_or name states).queue.due → known ≡ true → noted name ≡ true
known_noted noted name states known all is k = noted_or noted name states all (sym is ∙ k)

pub due_where : (at : DueAt) (noted : List ℕ → Bool) (states : List QueueState) → AreAt at noted → AreListed noted states → IsDueAt at states
due_where due_at.Nowhere noted states are all = λ name. by name (nat_lt 0 (queue_in name (queues_of states)).due) refl
  where
    by : (name : List ℕ) (b : Bool) → nat_lt 0 (queue_in name (queues_of states)).due ≡ b → b ≡ false
    by name true e = absurd (let t : true ≡ false = sym (due_named noted name states all e) ∙ are name in cc)
    by name false e = refl
due_where (due_at.One queue) noted states are all = λ name d. are name (due_named noted name states all d)
due_where due_at.Several noted states are all = tt
