-- A restart as an event: the history with its entry replays, and leads to the node behind it.
use Rattle.std.proofs.Common.{◌≡◌, ℕ, ◌+◌, ◌*◌, ◌^◌, ◌≤◌, Bool, [], ◌∷◌, ◌++◌, length, refl, ap, sym, subst, ◌∙◌, arith}
use Rattle.std.specs.Prelude.{Option, Some, None, Ok}
use Rattle.mq_base.specs.Outside.{Rose}
use Rattle.mq_calls.specs.declared.commands.RestartFault.{RestartFault}
use Rattle.mq_calls.specs.declared.commands.RestartFault.TheVariants as faults
use Rattle.mq_history.specs.declared.acts.Acted.TheVariants as acted
use Rattle.mq_history.specs.declared.acts.Act.TheVariants as acts
use Rattle.mq_history.specs.declared.acts.Acted.{Acted}
use Rattle.mq_history.specs.declared.calls.Call.TheVariants as calls
use Rattle.mq_calls.specs.Images.{raised}
use Rattle.mq_operate.specs.from_core.Values.{CoreValue}
use Rattle.mq_spec_node.specs.Terms.{Actor, Entry, Plain}
use Rattle.mq_history.specs.declared.calls.Reply.TheVariants as replies
use Rattle.mq_spec_node.specs.Words.{begun_anew, Done, IsReplayed, Own, Tells, node_of, done_by, quiet}
use Rattle.mq_events.specs.States.{NodeState, IsKept, IsServed, node_in, value_of, with_entry}
use Rattle.mq_events.specs.Counts.{AreCounted, HasBound, HasFewRows, IsNode, kept_total, waiting_total}
use Rattle.mq_events.specs.Disks.{RoseBy}
use Rattle.mq_events.specs.Events.{Stays}
use Rattle.mq_events.proofs.CallLaws.{silent}
use Rattle.mq_events.proofs.CountLaws.{fresh_counted, long_more}
use Rattle.mq_events.proofs.EntryLaws.{entry_kept}
use Rattle.mq_events.proofs.KeepLaws.{begun_none, begun_waits}
use Rattle.mq_events.proofs.RiseLaws.{risen_later, risen_with}
use Rattle.mq_acts.proofs.AnswerLaws.{room_stays, roomed_node}
use Rattle.mq_acts.specs.declared.restarting.Restarted.{Restarted}
use Rattle.mq_acts.specs.Restarts.{own_behind, CountsBehind, acted_by, IsRestart, IsUnchanged, restart_entry, TellsAs, BeganFew}

-- ---- where memory lacks, all is as it was

pub roomed : (s r : NodeState) → r ≡ record s { room = r.room } → IsNode s → IsNode r
roomed s r e n = roomed_node s r e n

pub roomed_stays : (s r : NodeState) → r ≡ record s { room = r.room } → Stays s r
roomed_stays s r e = room_stays s r e

same_value : (s r a : NodeState) → r ≡ record s { room = r.room } → a ≡ record r { manager = a.manager } → a ≡ record s { manager = a.manager; room = r.room }
same_value s r a e h = h ∙ ap (λ (x : NodeState). let y : NodeState = record x { manager = a.manager } in y) e

later_than : (a b c : ℕ) → b ≡ a → b ≤ c → a ≤ c
later_than a b c e le = omega (arith, e, le)

-- a restart that a disk refused
restart_rose : (o : Option RestartFault) (before now : ℕ) → (o ≡ Some faults.Disk → Rose before now) → RoseBy (replies.Acted (acted_by o)) before now
restart_rose None before now rose = silent (replies.Acted acted.Done) (replies.Acted acted.Done) before now refl refl
restart_rose (Some faults.NoMemory) before now rose = silent (replies.Acted (acted.Start faults.NoMemory)) (replies.Acted (acted.Start faults.NoMemory)) before now refl refl
restart_rose (Some faults.Up) before now rose = silent (replies.Acted (acted.Start faults.Up)) (replies.Acted (acted.Start faults.Up)) before now refl refl
restart_rose (Some faults.Disk) before now rose = λ told. rose refl
restart_rose (Some faults.Cut) before now rose = silent (replies.Acted (acted.Start faults.Cut)) (replies.Acted (acted.Start faults.Cut)) before now refl refl
restart_rose (Some (faults.BadLog place)) before now rose = silent (replies.Acted (acted.Start (faults.BadLog place))) (replies.Acted (acted.Start (faults.BadLog place))) before now refl refl

module _ (s r a : NodeState) (e : r ≡ record s { room = r.room }) (h : a ≡ record r { manager = a.manager }) (u : IsUnchanged r.manager a.manager) where
  abbrev unchanged : NodeState
  unchanged = record s { manager = a.manager; room = r.room }

  here : r.manager ≡ s.manager
  here = ap (λ (x : NodeState). x.manager) e

  plain_same : a.manager.plain ≡ s.manager.plain
  plain_same = u.same ∙ ap (λ (m : CoreValue). m.plain) here

  value_same : value_of unchanged ≡ value_of s
  value_same = ap (λ (p : Plain). record (value_of s) { node = node_of p s.own }) plain_same

  pub unchanged_node : IsNode s → IsNode a
  unchanged_node n =
      let k : IsNode unchanged = record {
        kept = subst IsReplayed (sym value_same) n.kept;
        counted = λ few. subst HasBound (sym value_same) (n.counted few);
        risen = risen_later s.history.entries s.manager.faults a.manager.faults n.risen (later_than s.manager.faults r.manager.faults a.manager.faults (ap (λ (m : CoreValue). m.faults) here) u.later);
        aside = n.aside;
      } in
      subst IsNode (sym (same_value s r a e h)) k

  pub unchanged_stays : Stays s a
  unchanged_stays = subst (Stays s) (sym (same_value s r a e h)) (record { same = value_same; marks = refl; faults = let b = u.later in let c = ap (λ (m : CoreValue). m.faults) here in omega (arith, b, c) })

-- ---- where it came up, its own begins

pub began_same : (s v t : NodeState) (own : Own) (refused : Option RestartFault) → v ≡ s → refused ≡ None → own ≡ (begun_anew v.manager.plain v.own).own → t ≡ record v { own = own; spare = record v.spare { few = t.spare.few } }
    → t ≡ record s { own = own_behind refused s.manager.plain s.own; spare = record s.spare { few = t.spare.few } }
began_same s v t own refused view none own_is same =
    same
    ∙ ap (λ (o : Own). let y : NodeState = record v { own = o; spare = record v.spare { few = t.spare.few } } in y) own_is
    ∙ ap (λ (x : NodeState). let y : NodeState = record x { own = (begun_anew x.manager.plain x.own).own; spare = record x.spare { few = t.spare.few } } in y) view
    ∙ ap (λ (r : Option RestartFault). let y : NodeState = record s { own = own_behind r s.manager.plain s.own; spare = record s.spare { few = t.spare.few } } in y) (sym none)

-- ---- the event

still_fits : (most kept long longer : ℕ) → most + kept ≤ 2 ^ 62 + 1024 * long → longer ≡ long + 1 → most + kept ≤ 2 ^ 62 + 1024 * longer
still_fits most kept long longer f l = omega (arith, f, l)

le_up : (a b c : ℕ) → a ≤ b → b ≤ c → a ≤ c
le_up a b c x y = omega (arith, x, y)

none_waits : (a b : ℕ) → a ≡ 0 → a ≤ b
none_waits a b e = omega (arith, e)

-- behind it no sender waits that did not
behind_waits : (refused : Option RestartFault) (p : Plain) (own : Own) → waiting_total (own_behind refused p own) ≤ waiting_total own
behind_waits None p own = none_waits (waiting_total (begun_anew p own).own) (waiting_total own) (begun_waits p own)
behind_waits (Some fault) p own = omega arith

module _ (tells : Type 0) (s : NodeState) (m : CoreValue) (few : Bool) (room : ℕ) (who : Actor) (r : Restarted) (n : IsNode s) (served : IsServed s) (h : IsRestart tells s.manager r m) where
  abbrev it : Entry
  it = restart_entry (s.stamp + 1) who r

  abbrev behind : NodeState
  behind = with_entry it (record s { manager = m; own = own_behind r.refused m.plain s.own; spare = record s.spare { few = few }; room = room })

  does : done_by it (node_in s) ≡ quiet (replies.Acted (acted_by r.refused)) r.delta (node_of m.plain (own_behind r.refused m.plain s.own))
  does = h.does s.own

  tells_it : Tells (node_in s) s.stamp it
  tells_it = record {
    stamp = refl;
    event = h.can;
    reply = sym (ap (λ (d : Done). d.reply) does);
    delta = sym (ap (λ (d : Done). d.delta) does);
    pushed = sym (ap (λ (d : Done). d.pushed) does);
    received = sym (ap (λ (d : Done). d.received) does);
    popped = tt;
    extras = refl;
  }

  behind_kept : IsKept behind
  behind_kept = entry_kept s behind it n.kept served tells_it refl (sym (ap (λ (d : Done). d.next) does))

  counted_by : (refused : Option RestartFault) → CountsBehind refused s.manager.plain m.plain → (w : Own) → w ≡ own_behind refused m.plain s.own → BeganFew refused s (record s { manager = m; spare = record s.spare { few = few } }) → AreCounted (with_entry it (record s { manager = m; own = w; spare = record s.spare { few = few }; room = room }))
  counted_by None c w is b =
      fresh_counted (with_entry it (record s { manager = m; own = w; spare = record s.spare { few = few }; room = room })) m.plain.given (raised 0 c.told) c.log m.plain.moment c.plain b
      (ap kept_total is ∙ begun_none m.plain s.own)
  counted_by (Some fault) c w is b = λ few_is.
      let k : HasBound (value_of s) = n.counted (sym b ∙ few_is) in
      record {
        most = k.most;
        below = c k.most k.below;
        fits = subst (λ (o : Own). k.most + kept_total o ≤ 2 ^ 62 + 1024 * length (s.history.entries ++ it ∷ [])) (sym is) (still_fits k.most (kept_total s.own) (length s.history.entries) (length (s.history.entries ++ it ∷ [])) k.fits (long_more s.history.entries it));
      }

  behind_node : BeganFew r.refused s (record s { manager = m; spare = record s.spare { few = few } }) → IsNode behind
  behind_node b = record { kept = behind_kept; counted = counted_by r.refused h.counts (own_behind r.refused m.plain s.own) refl b; risen = risen_with s.history.entries it s.manager.faults m.faults n.risen h.later (restart_rose r.refused s.manager.faults m.faults h.rose); aside = le_up (waiting_total (own_behind r.refused m.plain s.own)) (waiting_total s.own) s.spare.aside (behind_waits r.refused m.plain s.own) n.aside }

  behind_told : TellsAs tells who (calls.Act acts.Restart) s (Ok (acted_by r.refused)) behind
  behind_told = (
    it,
    record {
      adds = record { grows = record { given = refl; history = refl }; actor = refl; call = refl; marks = refl; faults = h.later; rose = restart_rose r.refused s.manager.faults m.faults h.rose };
      answer = refl;
      own = h.own;
    },
  )

-- step by step
module _ (tells : Type 0) (s r a b f : NodeState) (e : r ≡ record s { room = r.room }) (g : a ≡ record r { manager = a.manager }) (who : Actor) (x : Restarted)
    (k : b ≡ record a { own = own_behind x.refused a.manager.plain a.own; spare = record a.spare { few = b.spare.few } }) (entry : Entry) (at : entry ≡ restart_entry (b.stamp + 1) who x) (z : f ≡ with_entry entry b) (h : IsRestart tells r.manager x a.manager) where
  abbrev whole : NodeState
  whole = record s { manager = a.manager; own = own_behind x.refused a.manager.plain s.own; spare = record s.spare { few = b.spare.few }; room = r.room }

  b_is : b ≡ whole
  b_is = k ∙ ap (λ (y : NodeState). let w : NodeState = record y { own = own_behind x.refused a.manager.plain y.own; spare = record y.spare { few = b.spare.few } } in w) (same_value s r a e g)

  f_is : f ≡ with_entry (restart_entry (s.stamp + 1) who x) whole
  f_is = z ∙ ap (λ (y : Entry). with_entry y b) at ∙ ap (λ (y : NodeState). with_entry (restart_entry (y.stamp + 1) who x) y) b_is

  restarted : IsRestart tells s.manager x a.manager
  restarted = subst (λ (m : CoreValue). IsRestart tells m x a.manager) (ap (λ (y : NodeState). y.manager) e) h

  few_by : (refused : Option RestartFault) → BeganFew refused a b → BeganFew refused s (record s { manager = a.manager; spare = record s.spare { few = b.spare.few } })
  few_by None c = λ few. subst (λ (m : CoreValue). HasFewRows m.plain) (ap (λ (y : NodeState). y.manager) k) (c few)
  few_by (Some fault) c = c ∙ ap (λ (y : NodeState). y.spare.few) (same_value s r a e g)

  pub restart_node : IsNode s → IsServed s → BeganFew x.refused a b → IsNode f
  restart_node n served c = subst IsNode (sym f_is) (behind_node tells s a.manager b.spare.few r.room who x n served restarted (few_by x.refused c))

  pub restart_told : (acted : Acted) → IsNode s → IsServed s → acted ≡ acted_by x.refused → TellsAs tells who (calls.Act acts.Restart) s (Ok acted) f
  restart_told acted n served is =
      subst (λ (y : Acted). TellsAs tells who (calls.Act acts.Restart) s (Ok y) f) (sym is)
      (subst (λ (y : NodeState). TellsAs tells who (calls.Act acts.Restart) s (Ok (acted_by x.refused)) y) (sym f_is) (behind_told tells s a.manager b.spare.few r.room who x n served restarted))
