-- The messages that a commit places are those whose idents stand nowhere else, and are of no earlier one of the batch.
use Rattle.std.proofs.Common.{◌≡◌, ℕ, ◌+◌, ◌<◌, length, get_or, drop, refl, sym, ap, subst, ◌∙◌, List, [], ◌∷◌, ◌++◌, true, false}
use Rattle.std.specs.Prelude.{Bool, ◌||◌, Option, Some, None, Result, Ok, Err, if◌then◌else◌}
use Rattle.std.proofs.lemmas.List.{append_assoc}
use Rattle.mq_calls.specs.Words.{Ident, Message, Plain, Reason, apply_all, same_ident}
use Rattle.mq_spec_manager.specs.Agents.{Absent, InDoubtAt, Landed, Landing, Present, Standing, before, is_present, land, land_changes, landed, landed_by, landed_unless, messages_taken, standing_at, taken_of}
use Rattle.mq_law_manager.specs.Facts.{AreNamed, Sound}
use Rattle.mq_core.specs.declared.parts.Arrival.{Arrival}
use Rattle.mq_core.specs.Writes.{arrival_changes, standing_of}
use Rattle.mq_turn_parts.specs.from_receive.Planned.{IsPlan}
use Rattle.mq_turn_parts.specs.from_receive.Standings.{behind_all, has_landed, standing_among}
use Rattle.mq_turn_parts.proofs.from_receive.LeadLaws.{state_more}
use Rattle.mq_turn_parts.proofs.from_receive.PlanLaws.{plan_first, plan_left, plan_more, plan_over}
use Rattle.mq_law_manager.proofs.Receiving.{IsLanding, land_is}
use Rattle.mq_takes.specs.Taken.{is_among, is_out, taken_behind}

-- a standing that isn't present is that of an arrival
abbrev dropped_of : Standing → Option (List ℕ)
dropped_of Absent = None
dropped_of (InDoubtAt queue) = Some queue
dropped_of Present = None

stands_so : (s : Standing) → is_present s ≡ false → s ≡ standing_of (dropped_of s)
stands_so Absent e = refl
stands_so (InDoubtAt queue) e = refl
stands_so Present e = absurd cc

present_is : (s : Standing) → is_present s ≡ true → s ≡ Present
present_is Absent e = absurd cc
present_is (InDoubtAt queue) e = absurd cc
present_is Present e = refl

-- what an ident is behind those that have landed, who have the idents of those that were taken
out_is : (b : Bool) (m : Message) (p : Plain) → is_present (if b then Present else standing_at m p) ≡ (b || is_present (standing_at m p))
out_is true m p = refl
out_is false m p = refl

-- one message more
among_more : (i : Ident) (done : List Message) (m : Message) → is_among i (done ++ m ∷ []) ≡ (same_ident i m.ident || is_among i done)
among_more i [] m = refl
among_more i (k ∷ done) m = ap (λ (x : Bool). same_ident i k.ident || x) (among_more i done m) ∙ turned (same_ident i k.ident) (same_ident i m.ident) (is_among i done)
  where
    turned : (x y z : Bool) → (x || (y || z)) ≡ (y || (x || z))
    turned true true z = refl
    turned true false z = refl
    turned false y z = refl

any_more : (i : Ident) (done : List Arrival) (a : Arrival) → has_landed i (done ++ a ∷ []) ≡ (same_ident i a.message.ident || has_landed i done)
any_more i [] a = refl
any_more i (b ∷ done) a = ap (λ (x : Bool). same_ident i b.message.ident || x) (any_more i done a) ∙ turned (same_ident i b.message.ident) (same_ident i a.message.ident) (has_landed i done)
  where
    turned : (x y z : Bool) → (x || (y || z)) ≡ (y || (x || z))
    turned true true z = refl
    turned true false z = refl
    turned false y z = refl

behind_more : (done : List Arrival) (a : Arrival) (p : Plain) → behind_all (done ++ a ∷ []) p ≡ apply_all (arrival_changes a) (behind_all done p)
behind_more done a p = state_more done a p

lands_ident : (channel : List ℕ) (m : Message) (x : Landing) (p : Plain) → land channel m p ≡ Ok x → x.message.ident ≡ m.ident
lands_ident channel m x p e = (subst (IsLanding m p) e (land_is channel m p)).0

abbrev Agree : List Arrival → List Message → Type 0
Agree arrived done = (i : Ident) → has_landed i arrived ≡ is_among i done

agree_more : (arrived : List Arrival) (done : List Message) (a : Arrival) (m : Message) → a.message.ident ≡ m.ident → Agree arrived done → Agree (arrived ++ a ∷ []) (done ++ m ∷ [])
agree_more arrived done a m e h i = any_more i arrived a ∙ ap (λ (k : Ident). same_ident i k || has_landed i arrived) e ∙ ap (λ (b : Bool). same_ident i m.ident || b) (h i) ∙ sym (among_more i done m)

-- a landing that lets the rest land
record Lets (m : Message) (o : Result Landing Reason) (s : Standing) (p : Plain) (rest : Plain → Result Landed Reason) (l : Landed) : Type 0 where
  x : Landing
  is : o ≡ Ok x
  left : Landed
  goes : rest (apply_all (land_changes x s) p) ≡ Ok left
  taken : l.taken ≡ m ∷ left.taken

lets_before : (m : Message) (x : Landing) (s : Standing) (p : Plain) (rest : Plain → Result Landed Reason) (r : Result Landed Reason) (l : Landed) → rest (apply_all (land_changes x s) p) ≡ r → before m x s r ≡ Ok l → Lets m (Ok x) s p rest l
lets_before m x s p rest (Ok left) l e h = record { x = x; is = refl; left = left; goes = e; taken = sym (ap taken_of h) }
lets_before m x s p rest (Err reason) l e h = absurd cc

lets : (m : Message) (o : Result Landing Reason) (s : Standing) (p : Plain) (rest : Plain → Result Landed Reason) (l : Landed) → landed_by o m s p rest ≡ Ok l → Lets m o s p rest l
lets m (Ok x) s p rest l h = lets_before m x s p rest (rest (apply_all (land_changes x s) p)) l refl h
lets m (Err reason) s p rest l h = absurd cc

-- by what is known of the rest of the batch
abbrev Rest : Result Landed Reason → List ℕ → List Message → Plain → Type 0
Rest whole channel ms p = (arrived : List Arrival) (done : List Message) (l : Landed) → IsPlan whole channel arrived ms p → Agree arrived done → landed channel ms (behind_all arrived p) ≡ Ok l → l.taken ≡ taken_behind done ms p

taken_next : (whole : Result Landed Reason) (channel : List ℕ) (arrived : List Arrival) (done : List Message) (m : Message) (ms : List Message) (p : Plain) (l : Landed) → Rest whole channel ms p → IsPlan whole channel arrived (m ∷ ms) p → Agree arrived done
    → (b : Bool) → is_present (standing_at m (behind_all arrived p)) ≡ b → landed_unless b channel m (standing_at m (behind_all arrived p)) (behind_all arrived p) (λ y. landed channel ms y) ≡ Ok l
    → l.taken ≡ (if b then taken_behind done ms p else m ∷ taken_behind (done ++ m ∷ []) ms p)
taken_next whole channel arrived done m ms p l rest plan agree true h e =
    rest arrived done l (plan_over whole channel arrived m ms p (present_is (standing_among arrived m p) (sym (ap is_present (plan.stands m)) ∙ h)) plan) agree e
taken_next whole channel arrived done m ms p l rest plan agree false h e =
    let q : Plain = behind_all arrived p in
    let k : Lets m (land channel m q) (standing_at m q) q (λ y. landed channel ms y) l = lets m (land channel m q) (standing_at m q) q (λ y. landed channel ms y) l e in
    let a : Arrival = record { queue = k.x.queue; message = k.x.message; dead = k.x.dead; dropped = dropped_of (standing_at m q) } in
    let s : standing_at m q ≡ standing_of a.dropped = stands_so (standing_at m q) h in
    let goes : landed channel ms (behind_all (arrived ++ a ∷ []) p) ≡ Ok k.left =
    ap (landed channel ms) (behind_more arrived a p ∙ ap (λ (z : Standing). apply_all (land_changes k.x z) q) (sym s)) ∙ k.goes in
    k.taken
    ∙ ap (λ (xs : List Message). m ∷ xs)
    (rest (arrived ++ a ∷ []) (done ++ m ∷ []) k.left (plan_more whole channel arrived m ms p a (sym (plan.stands m) ∙ s) k.is plan) (agree_more arrived done a m (lands_ident channel m k.x q k.is) agree) goes)

taken_is : (whole : Result Landed Reason) (channel : List ℕ) (rest : List Message) (p : Plain) → Rest whole channel rest p
taken_is whole channel [] p arrived done l plan agree e = sym (ap taken_of e)
taken_is whole channel (m ∷ ms) p arrived done l plan agree e =
    let same : is_present (standing_at m (behind_all arrived p)) ≡ is_out done m p =
    ap is_present (plan.stands m) ∙ out_is (has_landed m.ident arrived) m p ∙ ap (λ (b : Bool). b || is_present (standing_at m p)) (agree m.ident) in
    taken_next whole channel arrived done m ms p l (taken_is whole channel ms p) plan agree (is_present (standing_at m (behind_all arrived p))) refl e
    ∙ ap (λ (b : Bool). if b then taken_behind done ms p else m ∷ taken_behind (done ++ m ∷ []) ms p) same

-- so of a whole batch that lands
pub taken_whole : (channel : List ℕ) (batch : List Message) (p : Plain) (l : Landed) → Sound p → AreNamed p.queues → landed channel batch p ≡ Ok l → messages_taken channel batch p ≡ taken_behind [] batch p
taken_whole channel batch p l sound named e = ap taken_of e ∙ taken_is (landed channel batch p) channel batch p [] [] l (plan_first channel batch p sound named) (λ i. refl) e

-- A loop that takes them.
abbrev next_taken : List Message → Message → Plain → List Message
next_taken done m p = if is_out done m p then done else done ++ m ∷ []

more_behind : (b : Bool) (done rest : List Message) (m : Message) (p : Plain)
    → (if b then done else done ++ m ∷ []) ++ taken_behind (if b then done else done ++ m ∷ []) rest p ≡ done ++ (if b then taken_behind done rest p else m ∷ taken_behind (done ++ m ∷ []) rest p)
more_behind true done rest m p = refl
more_behind false done rest m p = append_assoc done (m ∷ []) (taken_behind (done ++ m ∷ []) rest p)

pub taken_step : (done now batch : List Message) (i : ℕ) (m : Message) (p : Plain) → i < length batch → m ≡ get_or batch i m → now ≡ next_taken done m p → now ++ taken_behind now (drop (i + 1) batch) p ≡ done ++ taken_behind done (drop i batch) p
taken_step done now batch i m p lt is e =
    ap (λ (xs : List Message). xs ++ taken_behind xs (drop (i + 1) batch) p) e
    ∙ more_behind (is_out done m p) done (drop (i + 1) batch) m p
    ∙ ap (λ (ms : List Message). done ++ taken_behind done ms p) (sym (plan_left batch i m lt is))
