-- A handler's turn: which it is, and that the history replays behind it.
use Rattle.std.proofs.Common.{◌≡◌, ℕ, zero, suc, ◌+◌, ◌<◌, ◌≤◌, nat_lt, refl, sym, ap, subst, ◌∙◌, List, [], ◌∷◌, length, Bool, true, false, cond, arith}
use Rattle.std.proofs.lemmas.Bool.Decides.{nat_tests}
use Rattle.std.proofs.lemmas.List.Folds.{find_at}
use Rattle.std.proofs.lemmas.List.Recursion.{is_count_by}
use Rattle.std.specs.Prelude.{Option, Some, None, Ok, Err, map, not, ◌==◌, if◌then◌else◌, find, position, count_by, slice_get, slice_set, IfSome, ◌&&◌}
use Rattle.std.specs.List.{position_or_len}
use Rattle.mq_base.specs.declared.want.NoMemory.{NoMemory as Want}
use Rattle.mq_history.specs.declared.calls.Actor.TheVariants as actors
use Rattle.mq_history.specs.declared.calls.Call.TheVariants as calls
use Rattle.mq_history.specs.declared.calls.Chance.TheVariants as chances
use Rattle.mq_history.specs.declared.calls.Reply.TheVariants as replies
use Rattle.mq_rules.specs.declared.rule.Action.{Action}
use Rattle.mq_rules.specs.declared.rule.Action.TheVariants as actions
use Rattle.mq_queue.specs.declared.row.Row.{Row}
use Rattle.mq_objects.specs.Names.{local_of}
use Rattle.mq_calls.specs.Words.{is_up}
use Rattle.mq_spec_manager.specs.Agents.{CanMove, IsUp, discard, move_row}
use Rattle.mq_spec_node.specs.Terms.{Choice, Runs, NoMemory, Stopped, Did, Dest, Entry, Message, Part, Plain, Reason, Rule, Running, Up, Down, Step, Refuse, Do}
use Rattle.mq_spec_node.specs.Words.{CanCome, Deed, Done, Handler, Node, Own, Tells, Tried, IsDeed, done, done_by, done_or, failed_of, forgotten_rows, forward_to, handler_deed, handler_in, handler_on, handler_row, handler_turn, in_force, input_queue, is_none, is_readable, letter_deed, moved, next_letter, node_of, parts_of, remembering, retry_to, rule_in_force, ruled, acted, told, tried_as, tries_of, where_up, with_handler, IsReplayed}
use Rattle.mq_core.specs.Values.{CoreValue}
use Rattle.mq_events.specs.declared.outcome.Outcome.{Outcome}
use Rattle.mq_events.specs.States.{NodeState, IsKept, IsLow, IsServed, entry_of, finished, forgotten_if, node_in, value_of}
use Rattle.mq_events.specs.Counts.{KeepsCounts, kept_in, waiting_in}
use Rattle.mq_events.specs.Disks.{RoseBy}
use Rattle.mq_events.specs.Events.{Adds, Stays}
use Rattle.mq_events.proofs.ReplayLaws.{replayed_more, with_more}
use Rattle.mq_events.proofs.EventLaws.{served_is}
use Rattle.mq_handle.specs.declared.finding.DueLetter.{DueLetter}
use Rattle.mq_handle.specs.declared.turning.DueTurn.{DueTurn}
use Rattle.mq_handle.specs.declared.choosing.Ruling.TheVariants as rulings
use Rattle.mq_handle.specs.Rulings.{ruling, ruling_by, ruling_in, ruling_of, sent_to}
use Rattle.mq_events.specs.from_manager.Facts.{IsWell}
use Rattle.mq_handle.proofs.LetterLaws.{letter_can}
use Rattle.mq_handle.specs.Letters.{letter_at, letter_by, letter_on, letter_up}
use Rattle.mq_handle.specs.Treatments.{Treatment, Treated, TreatsAt, Untreated, at_place, deed_by, handler_after, ignoring, later, moving, treatment, treatment_of, with_parts}
use Rattle.mq_handle.specs.Turns.{Finds, FindsOne, IsDue, Turns, is_number, turn_of}

-- The handler of a number stands at this place, alone.
pub record IsPlace (at : ℕ) (h : Handler) (own : Own) : Type 0 where
  pub set : (new : Handler) → new.number ≡ h.number → with_handler new own ≡ at_place at new own
  pub same : at_place at h own ≡ own

module _ (q : List ℕ) (m : Message) (n : ℕ) (h : Handler) (p : Plain) (own : Own) (at : ℕ) (pl : IsPlace at h own) where
  abbrev by : Treatment → Deed
  by t = deed_by at t own

  ignored_is : told replies.Tried (with_handler (tried_as (ignoring q m.ident) h) own) ≡ by (treatment q m.ident rulings.Ignore n h p)
  ignored_is = ap (told replies.Tried) (pl.set (tried_as (ignoring q m.ident) h) refl)

  stays_is : (parts : List Part) → with_parts parts own ≡ by (record { parts = parts; handler = h })
  stays_is parts = ap (with_parts parts) (sym pl.same)

  moved_is : (k : ℕ) (rule : Rule) (dest : Dest) (bare : Bool) (step : Step Reason (Unit {0})) → moved q m k rule n h p own step ≡ by (moving q m.ident (sent_to k rule dest bare) n h p step)
  moved_is k rule dest bare (Refuse reason) = ap (told replies.Tried) (pl.set (tried_as (later q m.ident (sent_to k rule dest bare) (n + 1) h.table.retry_interval p.moment) h) refl)
  moved_is k rule dest bare (Do reply parts) = stays_is parts

  acted_is : (k : ℕ) (rule : Rule) (action : Action) → acted q m k rule action n h p own ≡ by (treatment q m.ident (ruling_by m k rule action) n h p)
  acted_is k rule actions.Discard = stays_is (parts_of (discard q m.ident p))
  acted_is k rule actions.Ignore = ignored_is
  acted_is k rule actions.Retry = moved_is k rule (retry_to m) true (move_row q m.ident (retry_to m) true p)
  acted_is k rule (actions.Forward f) = moved_is k rule (forward_to m f) (not f.header) (move_row q m.ident (forward_to m f) (not f.header) p)

  ruled_is : (k : ℕ) (rule : Option Rule) → ruled q m k rule n h p own ≡ by (treatment q m.ident (ruling_of m k rule) n h p)
  ruled_is k None = ignored_is
  ruled_is k (Some rule) = acted_is k rule rule.action

  in_force_is : (k : Option ℕ) → in_force q m k n h p own ≡ by (treatment q m.ident (ruling_in h.table m k) n h p)
  in_force_is None = ignored_is
  in_force_is (Some k) = ruled_is k (slice_get h.table.rules k)

letter_deed_is : (q : List ℕ) (m : Message) (t : Option Tried) (h : Handler) (p : Plain) (own : Own) (at : ℕ) → IsPlace at h own → letter_deed q m t h p own ≡ deed_by at (treatment q m.ident (ruling h.table m t) (failed_of t) h p) own
letter_deed_is q m t h p own at pl = in_force_is q m (failed_of t) h p own at pl (rule_in_force h.table m t)

-- the turn by what the handler takes
abbrev TurnIs : Option DueLetter → Handler → Node → Option Deed → Type 0
TurnIs None h n d = d ≡ None
TurnIs (Some l) h n d = (is_none d ≡ false) × ((at : ℕ) → IsPlace at h n.own → d ≡ Some (deed_by at (treatment_of l h n.manager) n.own))

row_is : (q : List ℕ) (h : Handler) (n : Node) (row : Option Row) → TurnIs (letter_at q h row) h n (handler_row q h row n)
row_is q h n None = refl
row_is q h n (Some row) = (refl, λ at pl. ap (λ (d : Deed). Some d) (letter_deed_is q row.message (tries_of q row.message.ident h) h n.manager n.own at pl))

on_is : (b : Bool) (q : List ℕ) (h : Handler) (n : Node) → TurnIs (letter_on b q h n.manager) h n (handler_on b q h n)
on_is false q h n = refl
on_is true q h n = row_is q h n (next_letter q h n.manager)

up_is : (r : Running) (h : Handler) (n : Node) → TurnIs (letter_up (is_up r) h n.manager) h n (where_up r (handler_deed h n))
up_is Up h n = on_is (is_readable (local_of (input_queue h.table n.manager) n.manager.definitions)) (input_queue h.table n.manager) h n
up_is (Down noted starts) h n = refl

turn_is : (number : ℕ) (n : Node) (h : Handler) → handler_in number n.own.handlers ≡ Some h → TurnIs (letter_by h n.manager) h n (turn_of number n)
turn_is number n h e = subst (λ (o : Option Handler). TurnIs (letter_by h n.manager) h n (where_up n.manager.running (handler_turn o n))) (sym e) (up_is n.manager.running h n)

down_none : (r : Running) → where_up r None ≡ None
down_none Up = refl
down_none (Down noted starts) = refl

no_turn : (number : ℕ) (n : Node) → handler_in number n.own.handlers ≡ None → turn_of number n ≡ None
no_turn number n e = ap (λ (o : Option Handler). where_up n.manager.running (handler_turn o n)) e ∙ down_none n.manager.running

-- The place of a number
handler_found : (number : ℕ) (hs : List Handler) → handler_in number hs ≡ find (is_number number) hs
handler_found number [] = refl
handler_found number (h ∷ hs) = ap (cond (h.number == number) (Some h)) (handler_found number hs)

some_place : (n m at : ℕ) (b : Bool) → nat_lt n m ≡ b → cond b (Some n) None ≡ Some at → (n < m) × (at ≡ n)
some_place n m at true e h = (grind (arith, nat_tests), cc)
some_place n m at false e h = absurd cc

no_place : (n m : ℕ) (b : Bool) → nat_lt n m ≡ b → cond b (Some n) None ≡ None → m ≤ n
no_place n m true e h = absurd cc
no_place n m false e h = grind (arith, nat_tests)

past : (hs : List Handler) (n : ℕ) → length hs ≤ n → slice_get hs n ≡ None
past [] n le = refl
past (h ∷ hs) zero le = absurd (omega (arith, le))
past (h ∷ hs) (suc n) le = past hs n (omega (arith, le))

pub none_placed : (number : ℕ) (n : Node) → None ≡ position (is_number number) n.own.handlers → turn_of number n ≡ None
none_placed number n e =
    let k = position_or_len (is_number number) n.own.handlers in
    let le = no_place k (length n.own.handlers) (nat_lt k (length n.own.handlers)) refl (sym e) in
    no_turn number n (handler_found number n.own.handlers ∙ find_at (is_number number) n.own.handlers ∙ past n.own.handlers k le)

placed_at : (number : ℕ) (hs : List Handler) (at : ℕ) → Some at ≡ position (is_number number) hs → at ≡ position_or_len (is_number number) hs
placed_at number hs at e = let k = position_or_len (is_number number) hs in (some_place k (length hs) at (nat_lt k (length hs)) refl (sym e)).1

pub placed_below : (number : ℕ) (hs : List Handler) (at : ℕ) → Some at ≡ position (is_number number) hs → at < length hs
placed_below number hs at e =
    let k = position_or_len (is_number number) hs in
    let it = some_place k (length hs) at (nat_lt k (length hs)) refl (sym e) in
    omega (arith, it.0, it.1)

placed_handler : (number : ℕ) (hs : List Handler) (at : ℕ) (h : Handler) → Some at ≡ position (is_number number) hs → slice_get hs at ≡ Some h → handler_in number hs ≡ Some h
placed_handler number hs at h e g = handler_found number hs ∙ find_at (is_number number) hs ∙ ap (slice_get hs) (sym (placed_at number hs at e)) ∙ g

-- a handler that is found has the number
eq_is : (a b : ℕ) → (a == b) ≡ true → a ≡ b
eq_is a b t = grind (arith, nat_tests)

number_step : (number : ℕ) (x h : Handler) (xs : List Handler) (b : Bool) → (x.number == number) ≡ b → cond b (Some x) (handler_in number xs) ≡ Some h → (handler_in number xs ≡ Some h → h.number ≡ number) → h.number ≡ number
number_step number x h xs true t k rest = let is : x ≡ h = cc in ap (λ (y : Handler). y.number) (sym is) ∙ eq_is x.number number t
number_step number x h xs false t k rest = rest k

found_number : (number : ℕ) (hs : List Handler) (h : Handler) → handler_in number hs ≡ Some h → h.number ≡ number
found_number number [] h e = absurd cc
found_number number (x ∷ xs) h e = number_step number x h xs (x.number == number) refl e (found_number number xs h)

abbrev setting : ℕ → Handler → Handler → Handler
setting number new h = if h.number == number then new else h

-- how many handlers have the number
abbrev many : ℕ → List Handler → ℕ
many number [] = 0
many number (h ∷ hs) = cond (h.number == number) (1 + many number hs) (many number hs)

many_is : (number : ℕ) (hs : List Handler) → many number hs ≡ count_by (is_number number) hs
many_is number hs = is_count_by (many number) (is_number number) refl (λ x xs. refl) hs

none_step : (number : ℕ) (new h : Handler) (hs : List Handler) (b : Bool) → cond b (1 + many number hs) (many number hs) ≡ 0 → (many number hs ≡ 0 → map (setting number new) hs ≡ hs) → cond b new h ∷ map (setting number new) hs ≡ h ∷ hs
none_step number new h hs true k rest = absurd (omega (arith, k))
none_step number new h hs false k rest = ap (λ (l : List Handler). h ∷ l) (rest k)

none_set : (number : ℕ) (new : Handler) (hs : List Handler) → many number hs ≡ 0 → map (setting number new) hs ≡ hs
none_set number new [] e = refl
none_set number new (h ∷ hs) e = none_step number new h hs (h.number == number) e (none_set number new hs)

alone_step : (number : ℕ) (new h : Handler) (hs : List Handler) (b : Bool) → cond b (1 + many number hs) (many number hs) ≡ 1 → (many number hs ≡ 1 → map (setting number new) hs ≡ slice_set hs (position_or_len (is_number number) hs) new)
    → cond b new h ∷ map (setting number new) hs ≡ slice_set (h ∷ hs) (cond (not b) (1 + position_or_len (is_number number) hs) 0) new
alone_step number new h hs true k rest = ap (λ (l : List Handler). new ∷ l) (none_set number new hs (omega (arith, k)))
alone_step number new h hs false k rest =
    let one : 1 + position_or_len (is_number number) hs ≡ suc (position_or_len (is_number number) hs) = omega arith in
    ap (λ (l : List Handler). h ∷ l) (rest k) ∙ ap (λ (i : ℕ). slice_set (h ∷ hs) i new) (sym one)

set_alone : (number : ℕ) (new : Handler) (hs : List Handler) → many number hs ≡ 1 → map (setting number new) hs ≡ slice_set hs (position_or_len (is_number number) hs) new
set_alone number new [] e = absurd (omega (arith, e))
set_alone number new (h ∷ hs) e = alone_step number new h hs (h.number == number) e (set_alone number new hs)

set_same : (hs : List Handler) (at : ℕ) (h : Handler) → slice_get hs at ≡ Some h → slice_set hs at h ≡ hs
set_same [] at h e = absurd cc
set_same (x ∷ xs) zero h e = let is : x ≡ h = cc in ap (λ (y : Handler). y ∷ xs) (sym is)
set_same (x ∷ xs) (suc at) h e = ap (λ (l : List Handler). x ∷ l) (set_same xs at h e)

is_place : (number : ℕ) (own : Own) (at : ℕ) (h : Handler) → Some at ≡ position (is_number number) own.handlers → slice_get own.handlers at ≡ Some h → count_by (is_number number) own.handlers ≡ 1 → IsPlace at h own
is_place number own at h e g one =
    let numbered : h.number ≡ number = found_number number own.handlers h (placed_handler number own.handlers at h e g) in
    record {
      set = λ new same.
          ap (λ (hs : List Handler). record own { handlers = hs })
          (ap (λ (k : ℕ). map (setting k new) own.handlers) (same ∙ numbered) ∙ set_alone number new own.handlers (many_is number own.handlers ∙ one) ∙ ap (λ (k : ℕ). slice_set own.handlers k new) (sym (placed_at number own.handlers at e)));
      same = ap (λ (hs : List Handler). record own { handlers = hs }) (set_same own.handlers at h g);
    }

-- What is found for a turn.
pub found_none : (number : ℕ) (n : Node) (at : ℕ) (h : Handler) → Some at ≡ position (is_number number) n.own.handlers → slice_get n.own.handlers at ≡ Some h → None ≡ letter_by h n.manager → turn_of number n ≡ None
found_none number n at h e g l = subst (λ (o : Option DueLetter). TurnIs o h n (turn_of number n)) (sym l) (turn_is number n h (placed_handler number n.own.handlers at h e g))

pub found_one : (number : ℕ) (n : Node) (at : ℕ) (h : Handler) (l : DueLetter) → Some at ≡ position (is_number number) n.own.handlers → slice_get n.own.handlers at ≡ Some h → Some l ≡ letter_by h n.manager
    → IsUp n.manager × ((bare : Bool) → CanMove l.queue l.ident bare n.manager) → FindsOne (record { at = at; letter = l }) number n
found_one number n at h l e g k can =
    let it : TurnIs (Some l) h n (turn_of number n) = subst (λ (o : Option DueLetter). TurnIs o h n (turn_of number n)) (sym k) (turn_is number n h (placed_handler number n.own.handlers at h e g)) in
    record { deed = it.0; due = λ one. record { handler = h; there = g; up = can.0; can = can.1; deed = it.1 at (is_place number n.own at h e g one) } }

placed_some : (number : ℕ) (hs : List Handler) (at : ℕ) → at < length hs → None ≡ slice_get hs at → ⊥
placed_some number [] at lt e = absurd (omega (arith, lt))
placed_some number (h ∷ hs) zero lt e = absurd cc
placed_some number (h ∷ hs) (suc at) lt e = placed_some number hs at (omega (arith, lt)) e

pub never_past : (number : ℕ) (n : Node) (at : ℕ) → Some at ≡ position (is_number number) n.own.handlers → None ≡ slice_get n.own.handlers at → turn_of number n ≡ None
never_past number n at e g = absurd (placed_some number n.own.handlers at (placed_below number n.own.handlers at e) g)

pub can_of : (h : Handler) (p : Plain) (o : Option DueLetter) → IsWell p → o ≡ letter_by h p → IfSome o (λ (l : DueLetter). IsUp p × ((bare : Bool) → CanMove l.queue l.ident bare p))
can_of h p None well e = tt
can_of h p (Some l) well e = letter_can h p l well (sym e)

pub can_at : (v w : CoreValue) (l : DueLetter) → v ≡ w → IsUp v.plain × ((bare : Bool) → CanMove l.queue l.ident bare v.plain) → IsUp w.plain × ((bare : Bool) → CanMove l.queue l.ident bare w.plain)
can_at v w l e can = subst (λ (x : CoreValue). IsUp x.plain × ((bare : Bool) → CanMove l.queue l.ident bare x.plain)) e can

-- whether the turn can be told
both_one : (a b : Bool) → (a && b) ≡ true → a ≡ true
both_one true b e = refl
both_one false b e = absurd cc

both_two : (a b : Bool) → (a && b) ≡ true → b ≡ true
both_two true b e = e
both_two false b e = absurd cc

pub may_few : (s : NodeState) (number : ℕ) (r : Bool) → r ≡ (s.spare.few && (count_by (is_number number) s.own.handlers == 1)) → r ≡ true → s.spare.few ≡ true
may_few s number r e t = both_one s.spare.few (count_by (is_number number) s.own.handlers == 1) (sym e ∙ t)

pub may_one : (s : NodeState) (number : ℕ) (r : Bool) → r ≡ (s.spare.few && (count_by (is_number number) s.own.handlers == 1)) → r ≡ true → count_by (is_number number) s.own.handlers ≡ 1
may_one s number r e t = eq_is (count_by (is_number number) s.own.handlers) 1 (both_two s.spare.few (count_by (is_number number) s.own.handlers == 1) (sym e ∙ t))

pub idles : (number : ℕ) (s : NodeState) → Finds number (node_in s) None → Turns number s (Ok false) s
idles number s e = record { same = refl; deed = e }

pub same_still : (number : ℕ) (s : NodeState) (x : Want) → Turns number s (Err x) s
same_still number s x = record { same = refl; marks = refl; faults = omega arith }

pub same_counts : (s : NodeState) → KeepsCounts s s
same_counts s = record { spare = refl; total = omega arith; waits = omega arith }

pub idle_none : (number : ℕ) (n : Node) → Finds number n None → true ≡ is_none (turn_of number n)
idle_none number n e = sym (ap is_none e)

pub idle_some : (number : ℕ) (n : Node) (d : DueTurn) → Finds number n (Some d) → false ≡ is_none (turn_of number n)
idle_some number n d e = sym e.deed

-- The event of a turn that came to this.
abbrev it : ℕ → ℕ → Outcome → Entry
it stamp number o = entry_of stamp (actors.Handler number) calls.Turn o

-- the node's own behind it
own_left : (t : Treatment) (at : ℕ) (n : Node) (h next : Handler) (o : Outcome) → CanCome (with_parts t.parts n.own) o.choice n → o.delta ≡ (done (deed_by at t n.own) o.choice n).delta → slice_get n.own.handlers at ≡ Some h → next ≡ handler_after o.choice t h
    → (done (deed_by at t n.own) o.choice n).next.own ≡ forgotten_if o.choice o.delta (at_place at next n.own)
own_left t at n h next o can told g is = by o.choice can told is
  where
    by : (c : Choice) → CanCome (with_parts t.parts n.own) c n → o.delta ≡ (done (deed_by at t n.own) c n).delta → next ≡ handler_after c t h → (done (deed_by at t n.own) c n).next.own ≡ forgotten_if c o.delta (at_place at next n.own)
    by Runs k d e = ap (λ (ds : List Did). forgotten_rows ds (at_place at t.handler n.own)) (sym d) ∙ ap (λ (x : Handler). forgotten_rows o.delta (at_place at x n.own)) (sym e)
    by NoMemory k d e = absurd k
    by (Stopped stop part left) k d e = sym (ap (λ (x : Handler). at_place at x n.own) e ∙ ap (λ (hs : List Handler). record n.own { handlers = hs }) (set_same n.own.handlers at h g))

-- the parts alone decide what is told
reply_like : (parts : List Part) (a b : Own) (c : Choice) (n : Node) → (done (with_parts parts a) c n).reply ≡ (done (with_parts parts b) c n).reply
reply_like parts a b Runs n = refl
reply_like parts a b NoMemory n = refl
reply_like parts a b (Stopped by part left) n = refl

delta_like : (parts : List Part) (a b : Own) (c : Choice) (n : Node) → (done (with_parts parts a) c n).delta ≡ (done (with_parts parts b) c n).delta
delta_like parts a b Runs n = refl
delta_like parts a b NoMemory n = refl
delta_like parts a b (Stopped by part left) n = refl

manager_like : (parts : List Part) (a b : Own) (c : Choice) (n : Node) → (done (with_parts parts a) c n).next.manager ≡ (done (with_parts parts b) c n).next.manager
manager_like parts a b Runs n = refl
manager_like parts a b NoMemory n = refl
manager_like parts a b (Stopped by part left) n = refl

can_like : (parts : List Part) (a b : Own) (c : Choice) (n : Node) → CanCome (with_parts parts a) c n → CanCome (with_parts parts b) c n
can_like parts a b Runs n k = k
can_like parts a b NoMemory n k = k
can_like parts a b (Stopped by part left) n k = k

pushed_none : (parts : List Part) (a : Own) (c : Choice) (n : Node) → None ≡ (done (with_parts parts a) c n).pushed
pushed_none parts a Runs n = refl
pushed_none parts a NoMemory n = refl
pushed_none parts a (Stopped by part left) n = refl

received_none : (parts : List Part) (a : Own) (c : Choice) (n : Node) → [] ≡ (done (with_parts parts a) c n).received
received_none parts a Runs n = refl
received_none parts a NoMemory n = refl
received_none parts a (Stopped by part left) n = refl

module _ (number : ℕ) (s : NodeState) (d : DueTurn) (due : IsDue d.letter d.at number (node_in s)) where
  abbrev t : Treatment
  t = treatment_of d.letter due.handler s.manager.plain

  abbrev deed : Deed
  deed = deed_by d.at t s.own

  pub treated_kept : (o : Outcome) (next : Handler) (m : CoreValue) (room : ℕ) → IsKept s → IsServed s → Treated t due.handler s.manager o next m
      → IsKept (finished (actors.Handler number) calls.Turn o (record s { manager = m; own = at_place d.at next s.own; room = room }))
  treated_kept o next m room k served c =
      let n : Node = node_in s in
      let came = c.came s.own in
      let e : Entry = it (s.stamp + 1) number o in
      let is : done_by e n ≡ done deed o.choice n = ap (λ (x : Option Deed). remembering (actors.Handler number) calls.Turn (done_or x o.choice n)) due.deed in
      let told : o.delta ≡ (done deed o.choice n).delta = came.delta ∙ delta_like t.parts s.own (at_place d.at t.handler s.own) o.choice n in
      let tells : Tells n s.stamp e = record {
        stamp = refl;
        event = subst (λ (x : Option Deed). IsDeed x (chances.Call o.choice) n) (sym due.deed) (can_like t.parts s.own (at_place d.at t.handler s.own) o.choice n came.can);
        reply = came.reply ∙ reply_like t.parts s.own (at_place d.at t.handler s.own) o.choice n ∙ sym (ap (λ (x : Done). x.reply) is);
        delta = told ∙ sym (ap (λ (x : Done). x.delta) is);
        pushed = pushed_none t.parts (at_place d.at t.handler s.own) o.choice n ∙ sym (ap (λ (x : Done). x.pushed) is);
        received = received_none t.parts (at_place d.at t.handler s.own) o.choice n ∙ sym (ap (λ (x : Done). x.received) is);
        popped = tt;
        extras = refl;
      } in
      let own : (done deed o.choice n).next.own ≡ forgotten_if o.choice o.delta (at_place d.at next s.own) = own_left t d.at n due.handler next o came.can told due.there c.handler in
      let manager : (done deed o.choice n).next.manager ≡ m.plain = manager_like t.parts (at_place d.at t.handler s.own) s.own o.choice n ∙ sym came.manager in
      let after : (done_by e n).next ≡ node_of m.plain (forgotten_if o.choice o.delta (at_place d.at next s.own)) =
      ap (λ (x : Done). x.next) is ∙ ap (λ (p : Plain). node_of p (done deed o.choice n).next.own) manager ∙ ap (node_of m.plain) own
      in
      let V : Node → Type 0 = λ x. IsReplayed (record (with_more e (value_of s)) { node = x }) in
      subst V after (replayed_more (value_of s) e k tells (served_is s e served))

  pub treated_adds : (o : Outcome) (next : Handler) (m : CoreValue) (room : ℕ) → s.manager.faults ≤ m.faults → RoseBy o.reply s.manager.faults m.faults
      → Adds (actors.Handler number) calls.Turn (it (s.stamp + 1) number o) s (finished (actors.Handler number) calls.Turn o (record s { manager = m; own = at_place d.at next s.own; room = room }))
  treated_adds o next m room le rose = record { grows = record { given = refl; history = refl }; actor = refl; call = refl; marks = refl; faults = le; rose = rose }

-- Step by step: room is taken, the dead letter is treated, the entry is added.
abbrev Roomed : NodeState → NodeState → Type 0
Roomed s r = r ≡ record s { room = r.room }

abbrev Treats : NodeState → NodeState → Type 0
Treats r a = a ≡ record r { manager = a.manager; own = record r.own { handlers = a.own.handlers } }

abbrev with_all : CoreValue → List Handler → NodeState → NodeState
with_all m hs x = record x { manager = m; own = record x.own { handlers = hs } }

got_below : (hs : List Handler) (at : ℕ) (h : Handler) → slice_get hs at ≡ Some h → at < length hs
got_below [] at h e = absurd cc
got_below (x ∷ xs) zero h e = omega arith
got_below (x ∷ xs) (suc at) h e = let lt = got_below xs at h e in omega (arith, lt)

module _ (number : ℕ) (s r : NodeState) (d : DueTurn) (e : Roomed s r) (found : FindsOne d number (node_in s)) (one : count_by (is_number number) s.own.handlers ≡ 1) where
  abbrev is_due : IsDue d.letter d.at number (node_in s)
  is_due = found.due one

  pub turn_place : d.at < length r.own.handlers
  turn_place = subst (λ (x : NodeState). d.at < length x.own.handlers) (sym e) (got_below s.own.handlers d.at is_due.handler is_due.there)

  pub turn_up : IsUp r.manager.plain
  turn_up = subst (λ (x : NodeState). IsUp x.manager.plain) (sym e) is_due.up

  pub turn_low : IsLow s → IsLow r
  turn_low low = subst IsLow (sym e) low

  pub turn_can : (bare : Bool) → CanMove d.letter.queue d.letter.ident bare r.manager.plain
  turn_can bare = subst (λ (x : NodeState). CanMove d.letter.queue d.letter.ident bare x.manager.plain) (sym e) (is_due.can bare)

  module _ (a : NodeState) (z : Treats r a) where
    at_all : (next : Handler) → a.own.handlers ≡ slice_set r.own.handlers d.at next → a ≡ record s { manager = a.manager; own = at_place d.at next s.own; room = r.room }
    at_all next set =
        z ∙ ap (with_all a.manager a.own.handlers) e ∙ ap (λ (hs : List Handler). with_all a.manager hs (record s { room = r.room })) (set ∙ ap (λ (x : NodeState). slice_set x.own.handlers d.at next) e)

    there_at : slice_get r.own.handlers d.at ≡ Some is_due.handler
    there_at = ap (λ (x : NodeState). slice_get x.own.handlers d.at) e ∙ is_due.there

    treated_at : (o : Outcome) → (u : TreatsAt d.letter d.at r.own.handlers r.manager (Ok o) a.own.handlers a.manager) → Treated (treatment_of d.letter is_due.handler s.manager.plain) is_due.handler s.manager o u.next a.manager
    treated_at o u = subst (λ (x : NodeState). Treated (treatment_of d.letter is_due.handler x.manager.plain) is_due.handler x.manager o u.next a.manager) e (u.treats is_due.handler there_at)

    pub turned_kept : (f : NodeState) (o : Outcome) → IsKept s → IsServed s → TreatsAt d.letter d.at r.own.handlers r.manager (Ok o) a.own.handlers a.manager → f ≡ finished (actors.Handler number) calls.Turn o a → IsKept f
    turned_kept f o k v u w =
        subst IsKept (sym (w ∙ ap (finished (actors.Handler number) calls.Turn o) (at_all u.next u.set))) (treated_kept number s d is_due o u.next a.manager r.room k v (treated_at o u))

    pub turned_did : (f : NodeState) (o : Outcome) → TreatsAt d.letter d.at r.own.handlers r.manager (Ok o) a.own.handlers a.manager → f ≡ finished (actors.Handler number) calls.Turn o a → Turns number s (Ok true) f
    turned_did f o u w =
        let same = w ∙ ap (finished (actors.Handler number) calls.Turn o) (at_all u.next u.set) in
        record {
          entry = it (s.stamp + 1) number o;
          adds = subst (Adds (actors.Handler number) calls.Turn (it (s.stamp + 1) number o) s) (sym same) (treated_adds number s d is_due o u.next a.manager r.room (treated_at o u).faults (treated_at o u).rose);
          deed = found.deed;
        }

    untreated_at : (x : Want) → (u : TreatsAt d.letter d.at r.own.handlers r.manager (Err x) a.own.handlers a.manager) → Untreated is_due.handler s.manager u.next a.manager
    untreated_at x u = subst (λ (y : NodeState). Untreated is_due.handler y.manager u.next a.manager) e (u.treats is_due.handler there_at)

    wanted_is : (x : Want) → (u : TreatsAt d.letter d.at r.own.handlers r.manager (Err x) a.own.handlers a.manager) → a ≡ record s { manager = a.manager; room = r.room }
    wanted_is x u =
        at_all u.next u.set
        ∙ ap (λ (hs : List Handler). record s { manager = a.manager; own = record s.own { handlers = hs }; room = r.room }) (ap (slice_set s.own.handlers d.at) (untreated_at x u).handler ∙ set_same s.own.handlers d.at is_due.handler is_due.there)

    pub wanted_kept : (x : Want) → IsKept s → TreatsAt d.letter d.at r.own.handlers r.manager (Err x) a.own.handlers a.manager → IsKept a
    wanted_kept x k u =
        subst IsKept (sym (wanted_is x u)) (subst (λ (p : Plain). IsReplayed (record (value_of s) { node = node_of p s.own })) (sym (untreated_at x u).plain) k)

    pub wanted_did : (x : Want) → TreatsAt d.letter d.at r.own.handlers r.manager (Err x) a.own.handlers a.manager → Turns number s (Err x) a
    wanted_did x u =
        let it = untreated_at x u in
        subst (λ (y : NodeState). Stays s y) (sym (wanted_is x u)) (record { same = ap (λ (p : Plain). record (value_of s) { node = node_of p s.own }) it.plain; marks = refl; faults = it.faults })

    -- what bounds counters
    ends_left : (choice : Choice) (delta : List Did) (own : Own) → (forgotten_if choice delta own).ends ≡ own.ends
    ends_left Runs delta own = refl
    ends_left NoMemory delta own = refl
    ends_left (Stopped by part left) delta own = refl

    counts_at : (f : NodeState) → f.spare ≡ s.spare → f.own.ends ≡ s.own.ends → KeepsCounts s f
    counts_at f spare ends =
        let total = ap kept_in ends in
        let waits = ap waiting_in ends in
        record { spare = spare; total = omega (arith, total); waits = omega (arith, waits) }

    pub turned_counts : (f : NodeState) (o : Outcome) → TreatsAt d.letter d.at r.own.handlers r.manager (Ok o) a.own.handlers a.manager → f ≡ finished (actors.Handler number) calls.Turn o a → KeepsCounts s f
    turned_counts f o u w =
        let same = w ∙ ap (finished (actors.Handler number) calls.Turn o) (at_all u.next u.set) in
        counts_at f (ap (λ (x : NodeState). x.spare) same) (ap (λ (x : NodeState). x.own.ends) same ∙ ends_left o.choice o.delta (at_place d.at u.next s.own))

    pub wanted_counts : (x : Want) → TreatsAt d.letter d.at r.own.handlers r.manager (Err x) a.own.handlers a.manager → KeepsCounts s a
    wanted_counts x u = counts_at a (ap (λ (y : NodeState). y.spare) (wanted_is x u)) (ap (λ (y : NodeState). y.own.ends) (wanted_is x u))
