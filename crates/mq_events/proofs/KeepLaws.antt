-- What an event keeps of what bounds counters, and of what is set aside: the node's spare, the messages that receivers have kept, the senders
-- that wait for an answer.
use Rattle.std.proofs.Common.{◌≡◌, ℕ, suc, ◌+◌, ◌≤◌, Bool, true, false, refl, sym, ap, subst, ◌∙◌, List, [], ◌∷◌, map, length, arith}
use Rattle.std.specs.Prelude.{if◌then◌else◌, ◌==◌}
use Rattle.mq_calls.specs.declared.choices.Choice.{Choice}
use Rattle.mq_calls.specs.declared.choices.Choice.TheVariants.{Runs, NoMemory, Stopped}
use Rattle.mq_history.specs.declared.calls.Actor.TheVariants as actors
use Rattle.mq_history.specs.declared.calls.Call.TheVariants as calls
use Rattle.mq_history.specs.declared.acts.Act.{Act}
use Rattle.mq_history.specs.declared.acts.Acted.{Acted}
use Rattle.mq_sender.specs.States.{awaits}
use Rattle.mq_spec_node.specs.Terms.{Actor, Call, Did, Plain, Reply}
use Rattle.mq_spec_node.specs.Words.{ChannelEnd, Own, begun_anew, cable_of, end_at_rest, end_begun, own_at_rest, remembered, set_end, with_end}
use Rattle.mq_spec_node.specs.Node.ChannelEnd.{Sends, Receives}
use Rattle.mq_events.specs.declared.outcome.Outcome.{Outcome}
use Rattle.mq_events.specs.States.{NodeState, finished, forgotten_if, own_after, quietly, told}
use Rattle.mq_events.specs.Counts.{KeepsCounts, kept_in, kept_total, waiting_in, waiting_total}
use Rattle.mq_events.specs.Events.{own_by}
use Rattle.mq_events.proofs.StepLaws.{Asked, Roomed, roomed_asked}

le_is : (a b : ℕ) → a ≡ b → a ≤ b
le_is a b e = omega (arith, e)

zero_le : (a b : ℕ) → a ≡ 0 → a ≤ b
zero_le a b e = omega (arith, e)

-- what is remembered and forgotten is of monitors and handlers
remembered_total : (actor : Actor) (call : Call) (reply : Reply) (own : Own) → kept_total (remembered actor call reply own) ≡ kept_total own
remembered_total (actors.Script n) call reply own = refl
remembered_total (actors.Sender n) call reply own = refl
remembered_total (actors.Receiver n) call reply own = refl
remembered_total (actors.Handler n) call reply own = refl
remembered_total (actors.Monitor n) call reply own = refl
remembered_total actors.Operator call reply own = refl
remembered_total actors.Clock call reply own = refl

forgotten_total : (choice : Choice) (delta : List Did) (own : Own) → kept_total (forgotten_if choice delta own) ≡ kept_total own
forgotten_total Runs delta own = refl
forgotten_total NoMemory delta own = refl
forgotten_total (Stopped by part left) delta own = refl

remembered_waits : (actor : Actor) (call : Call) (reply : Reply) (own : Own) → waiting_total (remembered actor call reply own) ≡ waiting_total own
remembered_waits (actors.Script n) call reply own = refl
remembered_waits (actors.Sender n) call reply own = refl
remembered_waits (actors.Receiver n) call reply own = refl
remembered_waits (actors.Handler n) call reply own = refl
remembered_waits (actors.Monitor n) call reply own = refl
remembered_waits actors.Operator call reply own = refl
remembered_waits actors.Clock call reply own = refl

forgotten_waits : (choice : Choice) (delta : List Did) (own : Own) → waiting_total (forgotten_if choice delta own) ≡ waiting_total own
forgotten_waits Runs delta own = refl
forgotten_waits NoMemory delta own = refl
forgotten_waits (Stopped by part left) delta own = refl

own_waits : (actor : Actor) (call : Call) (o : Outcome) (own : Own) → waiting_total (own_after actor call o own) ≡ waiting_total own
own_waits actor call o own = remembered_waits actor call o.reply (forgotten_if o.choice o.delta own) ∙ forgotten_waits o.choice o.delta own

own_total : (actor : Actor) (call : Call) (o : Outcome) (own : Own) → kept_total (own_after actor call o own) ≡ kept_total own
own_total actor call o own = remembered_total actor call o.reply (forgotten_if o.choice o.delta own) ∙ forgotten_total o.choice o.delta own

-- ends at rest, or that begin, keep none
rest_none : (es : List ChannelEnd) → kept_in (map end_at_rest es) ≡ 0
rest_none [] = refl
rest_none (Sends e ∷ es) = rest_none es
rest_none (Receives e ∷ es) = let h = rest_none es in omega (arith, h)

ends_begun : (p : Plain) (es : List ChannelEnd) → kept_in (map (end_begun p) es) ≡ 0
ends_begun p [] = refl
ends_begun p (Sends e ∷ es) = ends_begun p es
ends_begun p (Receives e ∷ es) = let h = ends_begun p es in omega (arith, h)

pub begun_none : (p : Plain) (own : Own) → kept_total (begun_anew p own).own ≡ 0
begun_none p own = ends_begun p own.ends

pub rest_total : (own : Own) → kept_total (own_at_rest own) ≡ 0
rest_total own = rest_none own.ends

stopped_total : (up : Bool) (own : Own) → kept_total (own_by up own) ≤ kept_total own
stopped_total true own = zero_le (kept_total (own_at_rest own)) (kept_total own) (rest_total own)
stopped_total false own = le_is (kept_total own) (kept_total own) refl

-- and none of them waits
rest_waiting : (es : List ChannelEnd) → waiting_in (map end_at_rest es) ≡ 0
rest_waiting [] = refl
rest_waiting (Sends e ∷ es) = let h = rest_waiting es in omega (arith, h)
rest_waiting (Receives e ∷ es) = rest_waiting es

begun_waiting : (p : Plain) (es : List ChannelEnd) → waiting_in (map (end_begun p) es) ≡ 0
begun_waiting p [] = refl
begun_waiting p (Sends e ∷ es) = let h = begun_waiting p es in omega (arith, h)
begun_waiting p (Receives e ∷ es) = begun_waiting p es

pub begun_waits : (p : Plain) (own : Own) → waiting_total (begun_anew p own).own ≡ 0
begun_waits p own = begun_waiting p own.ends

stopped_waits : (up : Bool) (own : Own) → waiting_total (own_by up own) ≤ waiting_total own
stopped_waits true own = zero_le (waiting_total (own_at_rest own)) (waiting_total own) (rest_waiting own.ends)
stopped_waits false own = le_is (waiting_total own) (waiting_total own) refl

-- at most all ends wait
waiting_more : (a b n : ℕ) → a ≤ 1 → b ≤ n → a + b ≤ n + 1
waiting_more a b n x y = omega (arith, x, y)

one_if : (b : Bool) → (if b then 1 else 0) ≤ 1
one_if true = omega arith
one_if false = omega arith

le_suc : (a n : ℕ) → a ≤ n → a ≤ suc n
le_suc a n le = omega (arith, le)

suc_is : (a n : ℕ) → a ≤ n + 1 → a ≤ suc n
suc_is a n le = omega (arith, le)

pub waiting_long : (es : List ChannelEnd) → waiting_in es ≤ length es
waiting_long [] = omega arith
waiting_long (Sends e ∷ es) = suc_is (waiting_in (Sends e ∷ es)) (length es) (waiting_more (if awaits e.machine.state then 1 else 0) (waiting_in es) (length es) (one_if (awaits e.machine.state)) (waiting_long es))
waiting_long (Receives e ∷ es) = le_suc (waiting_in es) (length es) (waiting_long es)

-- an end that doesn't wait, in its place: no more wait
none_more : (a b : ℕ) → a + 0 ≡ 0 → a + b ≤ b
none_more a b e = omega (arith, e)

some_more : (a b : ℕ) → b ≤ a + b
some_more a b = omega arith

under_one : (k a b : ℕ) → a ≤ b → k + a ≤ k + b
under_one k a b le = omega (arith, le)

le_trans : (a b c : ℕ) → a ≤ b → b ≤ c → a ≤ c
le_trans a b c x y = omega (arith, x, y)

head_less : (new : ChannelEnd) (ys : List ChannelEnd) → waiting_in (new ∷ []) ≡ 0 → waiting_in (new ∷ ys) ≤ waiting_in ys
head_less (Sends e) ys none = none_more (if awaits e.machine.state then 1 else 0) (waiting_in ys) none
head_less (Receives e) ys none = le_is (waiting_in ys) (waiting_in ys) refl

tail_less : (y : ChannelEnd) (ys : List ChannelEnd) → waiting_in ys ≤ waiting_in (y ∷ ys)
tail_less (Sends e) ys = some_more (if awaits e.machine.state then 1 else 0) (waiting_in ys)
tail_less (Receives e) ys = le_is (waiting_in ys) (waiting_in ys) refl

under : (y : ChannelEnd) (xs ys : List ChannelEnd) → waiting_in xs ≤ waiting_in ys → waiting_in (y ∷ xs) ≤ waiting_in (y ∷ ys)
under (Sends e) xs ys le = under_one (if awaits e.machine.state then 1 else 0) (waiting_in xs) (waiting_in ys) le
under (Receives e) xs ys le = le

less_if : (new y : ChannelEnd) (ys : List ChannelEnd) (b : Bool) → waiting_in (new ∷ []) ≡ 0 → waiting_in (set_end new ys) ≤ waiting_in ys → waiting_in (if b then new ∷ ys else y ∷ set_end new ys) ≤ waiting_in (y ∷ ys)
less_if new y ys true none le = le_trans (waiting_in (new ∷ ys)) (waiting_in ys) (waiting_in (y ∷ ys)) (head_less new ys none) (tail_less y ys)
less_if new y ys false none le = under y (set_end new ys) ys le

less_in : (new : ChannelEnd) (es : List ChannelEnd) → waiting_in (new ∷ []) ≡ 0 → waiting_in (set_end new es) ≤ waiting_in es
less_in new [] none = le_is 0 0 refl
less_in new (y ∷ ys) none = less_if new y ys (cable_of y == cable_of new) none (less_in new ys none)

pub waits_less : (new : ChannelEnd) (own : Own) → waiting_in (new ∷ []) ≡ 0 → waiting_total (with_end new own) ≤ waiting_total own
waits_less new own none = less_in new own.ends none

-- an end in its place: there are as many
set_if : (new e : ChannelEnd) (es : List ChannelEnd) (b : Bool) → length (set_end new es) ≡ length es → length (if b then new ∷ es else e ∷ set_end new es) ≡ length (e ∷ es)
set_if new e es true h = refl
set_if new e es false h = omega (arith, h)

set_long : (new : ChannelEnd) (es : List ChannelEnd) → length (set_end new es) ≡ length es
set_long new [] = refl
set_long new (e ∷ es) = set_if new e es (cable_of e == cable_of new) (set_long new es)

pub with_long : (new : ChannelEnd) (own : Own) → length (with_end new own).ends ≡ length own.ends
with_long new own = set_long new own.ends

-- the events
pub same_counts : (s : NodeState) → KeepsCounts s s
same_counts s = record { spare = refl; total = le_is (kept_total s.own) (kept_total s.own) refl; waits = le_is (waiting_total s.own) (waiting_total s.own) refl }

pub roomed_counts : (s r : NodeState) → Roomed s r → KeepsCounts s r
roomed_counts s r e = record { spare = ap (λ (x : NodeState). x.spare) e; total = le_is (kept_total r.own) (kept_total s.own) (ap (λ (x : NodeState). kept_total x.own) e); waits = le_is (waiting_total r.own) (waiting_total s.own) (ap (λ (x : NodeState). waiting_total x.own) e) }

pub asked_counts : (s r a : NodeState) → Roomed s r → Asked r a → KeepsCounts s a
asked_counts s r a e h =
    let is : a ≡ record s { manager = a.manager; room = r.room } = roomed_asked s r a e h in
    record { spare = ap (λ (x : NodeState). x.spare) is; total = le_is (kept_total a.own) (kept_total s.own) (ap (λ (x : NodeState). kept_total x.own) is); waits = le_is (waiting_total a.own) (waiting_total s.own) (ap (λ (x : NodeState). waiting_total x.own) is) }

pub finished_counts : (s r a f : NodeState) (actor : Actor) (call : Call) (o : Outcome) → Roomed s r → Asked r a → f ≡ finished actor call o a → KeepsCounts s f
finished_counts s r a f actor call o e h z =
    let is : f ≡ finished actor call o (record s { manager = a.manager; room = r.room }) = z ∙ ap (finished actor call o) (roomed_asked s r a e h) in
    record { spare = ap (λ (x : NodeState). x.spare) is; total = le_is (kept_total f.own) (kept_total s.own) (ap (λ (x : NodeState). kept_total x.own) is ∙ own_total actor call o s.own); waits = le_is (waiting_total f.own) (waiting_total s.own) (ap (λ (x : NodeState). waiting_total x.own) is ∙ own_waits actor call o s.own) }

pub acted_counts : (s r a f : NodeState) (actor : Actor) (asked : Act) (acted : Acted) → Roomed s r → Asked r a → f ≡ told actor (calls.Act asked) (quietly acted) a → KeepsCounts s f
acted_counts s r a f actor asked acted e h z =
    let is : f ≡ told actor (calls.Act asked) (quietly acted) (record s { manager = a.manager; room = r.room }) = z ∙ ap (told actor (calls.Act asked) (quietly acted)) (roomed_asked s r a e h) in
    record { spare = ap (λ (x : NodeState). x.spare) is; total = le_is (kept_total f.own) (kept_total s.own) (ap (λ (x : NodeState). kept_total x.own) is); waits = le_is (waiting_total f.own) (waiting_total s.own) (ap (λ (x : NodeState). waiting_total x.own) is) }

pub stopped_counts : (s r a f : NodeState) (actor : Actor) (up : Bool) (asked : Act) (acted : Acted) → Roomed s r → a ≡ record r { manager = a.manager; own = own_by up r.own } → f ≡ told actor (calls.Act asked) (quietly acted) a → KeepsCounts s f
stopped_counts s r a f actor up asked acted e h z =
    let is : a ≡ record s { manager = a.manager; own = own_by up s.own; room = r.room } = h ∙ ap (λ (x : NodeState). record x { manager = a.manager; own = own_by up x.own }) e in
    let at : f ≡ told actor (calls.Act asked) (quietly acted) (record s { manager = a.manager; own = own_by up s.own; room = r.room }) = z ∙ ap (told actor (calls.Act asked) (quietly acted)) is in
    let T : ℕ → Type 0 = λ n. n ≤ kept_total s.own in
    let W : ℕ → Type 0 = λ n. n ≤ waiting_total s.own in
    record {
      spare = ap (λ (x : NodeState). x.spare) at;
      total = subst T (sym (ap (λ (x : NodeState). kept_total x.own) at)) (stopped_total up s.own);
      waits = subst W (sym (ap (λ (x : NodeState). waiting_total x.own) at)) (stopped_waits up s.own);
    }
