-- The induction over the prefixes of a story of managers without channels.
use Rattle.std.proofs.Common.{ℕ, zero, suc, ◌≡◌, Bool, true, false, List, [], ◌∷◌, ◌++◌, refl, ap, sym, subst, ◌∙◌, inl, inr, map, arith, ◌⊎◌}
use Rattle.std.specs.Prelude.{Option, Some, None, ◌==◌, ◌+◌, if◌then◌else◌, ◌&&◌, ◌||◌, slice_get, nat_lt, nat_le}
use Rattle.std.specs.Option.{option_map}
use Rattle.std.specs.Str.{bytes_eq}
use Rattle.mq_calls.specs.declared.image.Shelf.{Shelf}
use Rattle.std.proofs.lemmas.Bool.Decides.{nat_tests}
use Rattle.mq_message.specs.declared.message.Ident.{Ident}
use Rattle.mq_sync.specs.declared.unit.Unit.{Unit as Luw}
use Rattle.mq_frame.specs.declared.frame.Seen.{Seen}
use Rattle.mq_calls.specs.declared.choices.Return.{Return}
use Rattle.mq_history.specs.declared.acts.Act.TheVariants as acts
use Rattle.mq_history.specs.declared.calls.Actor.{Actor}
use Rattle.mq_history.specs.declared.calls.Actor.TheVariants as actors
use Rattle.mq_history.specs.declared.calls.Call.{Call}
use Rattle.mq_history.specs.declared.calls.Call.TheVariants as calls
use Rattle.mq_history.specs.declared.calls.Chance.{Chance}
use Rattle.mq_history.specs.declared.calls.Chance.TheVariants as chances
use Rattle.mq_history.specs.declared.calls.Entry.{Entry}
use Rattle.mq_history.specs.declared.history.History.{History}
use Rattle.mq_history.specs.declared.scenario.Scenario.{Scenario}
use Rattle.mq_sc_parse.specs.declared.command.Command.TheVariants as lines
use Rattle.mq_calls.specs.State.{Plain, Queue, Running}
use Rattle.mq_calls.specs.State.Running.{Up, Down}
use Rattle.mq_spec_node.specs.Node.{Node, Own}
use Rattle.mq_spec_manager.specs.Stops.{failed, restart_at, restarted, stop_at}
use Rattle.mq_calls.specs.declared.choices.Choice.{Choice}
use Rattle.mq_calls.specs.declared.choices.Choice.TheVariants.{Runs, NoMemory, Stopped}
use Rattle.mq_calls.specs.declared.choices.Return.TheVariants.{Comes, Fails}
use Rattle.mq_calls.specs.declared.commands.RestartFault.TheVariants as faults
use Rattle.mq_history.specs.declared.calls.Reply.{Reply}
use Rattle.mq_spec_node.specs.Deeds.{Deed, done, end_at_rest, end_begun}
use Rattle.mq_spec_node.specs.Happens.{IsEvent, choice_event, crashed, deed_of, event, remembered, remembering, timeout_by, turn_up, where_up, restarted as node_restarted}
use Rattle.mq_law_node.specs.Quiet.{EachQuiet, IsOrdinary}
use Rattle.mq_law_node.proofs.Ordinary.{ordinary_is_quiet}
use Rattle.mq_spec_node.specs.Replays.{Tells, NoneForeign, IsOwn, done_by, opening_node}
use Rattle.mq_spec_network.specs.Apart.{maker}
use Rattle.mq_spec_network.specs.Given.{surroundings, ends_from}
use Rattle.mq_spec_network.specs.Ledger.{Ledger, ledger, posted}
use Rattle.mq_spec_network.specs.Order.{AllInOrderFrom, OrderAt, unit_received, forced_in, Forced}
use Rattle.mq_spec_network.specs.Promised.{Premises, Promised}
use Rattle.mq_spec_network.specs.Standing.{node_after, managers_at, opening_managers, opening_ledger, places_of, stored_standing}
use Rattle.mq_spec_network.specs.Story.{Mem, Line, IsStory, part, entries_or, entries_at}
use Rattle.mq_law_story.specs.from_law_rows.World.{Ghost, Inv}
use Rattle.mq_law_story.proofs.from_law_rows.Lists.{map_mem, bool_case, eqb_self, eqb_yes, true_false}
use Rattle.mq_law_story.specs.from_law_seen.Seen.{world_of, book_of}
use Rattle.mq_law_story.specs.from_law_seen.Given.{given_by, is_given}
use Rattle.mq_law_story.specs.Told.{IsTold as IsOperated}
use Rattle.mq_law_story.proofs.Beginning.{images_have_the_facts}
use Rattle.mq_law_story.proofs.Promising.{rows_promised, once_promised}
use Rattle.mq_law_story.proofs.Weaving.{node_step, manager_at, other_manager, this_manager, ledger_step, story_tells}
use Rattle.mq_law_manager.specs.Facts.{AreNamed}
use Rattle.mq_law_manager.proofs.Ending.{first_sound}
use Rattle.mq_law_events.specs.Tied.{AreShelved, IsNext}
use Rattle.mq_law_events.proofs.Stepping.{moves_on}
use Rattle.mq_law_found.specs.Finds.{IsNoted}
use Rattle.mq_law_one.specs.Alone.{IsAlone, IsBare, IsState, IsNotedAt, IsAt, Became, NoOther}
use Rattle.mq_law_one.proofs.Ordinary.{ordinary_happens, stays_at}
use Rattle.mq_law_one.proofs.Known.{known_own}
use Rattle.mq_law_one.proofs.Happening.{entry_of}
use Rattle.mq_law_one.proofs.Calls.{Happens}
use Rattle.mq_law_one.proofs.Acting.{no_deed, turn_none, timeout_none, operated_is, operate_happens, crash_happens, restart_happens}
use Rattle.mq_law_one.proofs.Deltas.{IsNoteQuiet, event_quiet}

-- Each event of a manager alone

happens : (m : ℕ) (given : Ident → Bool) (n : Node) (l : Ledger) (e : Entry) (stamp : ℕ) (actor : Actor) (call : Call) (chance : Chance) (seen : Seen) → IsAt NoOther m given n l → IsBare n → IsEvent stamp actor call chance seen n → IsOwn chance
    → Happens NoOther m given n l e stamp actor call chance seen
happens m given n l e stamp actor (calls.Act (acts.Obey (lines.Operate op))) (chances.Call choice) seen a bare can own = operate_happens m given n l e actor choice op a bare.ends can
happens m given n l e stamp actor (calls.Act (acts.Obey (lines.Operate op))) (chances.Restart choice) seen a bare can own = absurd can
happens m given n l e stamp actor (calls.Act (acts.Obey (lines.Operate op))) (chances.Foreign image length left) seen a bare can own = absurd can
happens m given n l e stamp actor (calls.Act acts.Crash) chance seen a bare can own = crash_happens m given n l e stamp actor chance seen a bare.batches can
happens m given n l e stamp actor (calls.Act acts.Restart) chance seen a bare can own = restart_happens m given n l e stamp actor chance seen a bare.batches can own
happens m given n l e stamp (actors.Sender k) calls.Turn chance seen a bare can own = absurd (no_deed n.manager.running (turn_up stamp (actors.Sender k) seen n) chance n (turn_none stamp (actors.Sender k) seen n bare.ends (λ j e. cc)) can)
happens m given n l e stamp (actors.Receiver k) calls.Turn chance seen a bare can own = absurd (no_deed n.manager.running (turn_up stamp (actors.Receiver k) seen n) chance n (turn_none stamp (actors.Receiver k) seen n bare.ends (λ j e. cc)) can)
happens m given n l e stamp actor calls.Timeout chance seen a bare can own = absurd (no_deed n.manager.running (timeout_by actor n) chance n (timeout_none actor n bare.ends) can)
happens m given n l e stamp actor call chance seen a bare can own = ordinary_happens m given n l e stamp actor call chance seen a tt can own

-- It stays without ends.

kept_ends : (actor : Actor) (call : Call) (reply : Reply) (own : Own) → own.ends ≡ [] → (remembered actor call reply own).ends ≡ []
kept_ends (actors.Script k) call reply own e = e
kept_ends (actors.Sender k) call reply own e = e
kept_ends (actors.Receiver k) call reply own e = e
kept_ends (actors.Handler k) call reply own e = e
kept_ends (actors.Monitor k) call reply own e = e
kept_ends actors.Operator call reply own e = e
kept_ends actors.Clock call reply own e = e

abbrev EachBare : Option Deed → Type 0
EachBare None = Unit {0}
EachBare (Some d) = d.own.ends ≡ []

done_bare : (choice : Choice) (d : Deed) (n : Node) → n.own.ends ≡ [] → d.own.ends ≡ [] → (done d choice n).next.own.ends ≡ []
done_bare Runs d n e f = f
done_bare NoMemory d n e f = e
done_bare (Stopped by_ part left) d n e f = e

chosen_bare : (chance : Chance) (o : Option Deed) (n : Node) → n.own.ends ≡ [] → EachBare o → (choice_event chance o n).next.own.ends ≡ []
chosen_bare (chances.Call choice) None n e f = e
chosen_bare (chances.Call choice) (Some d) n e f = done_bare choice d n e f
chosen_bare (chances.Restart choice) o n e f = e
chosen_bare (chances.Foreign image length left) o n e f = e

of_quiet : (o : Option Deed) (n : Node) → n.own.ends ≡ [] → EachQuiet n.own o → EachBare o
of_quiet None n e q = tt
of_quiet (Some d) n e q = q.ends ∙ e

deed_bare : (stamp : ℕ) (actor : Actor) (call : Call) (chance : Chance) (seen : Seen) (n : Node) → n.own.ends ≡ [] → EachBare (deed_of stamp actor call seen n) → (remembering actor call (choice_event chance (deed_of stamp actor call seen n) n)).next.own.ends ≡ []
deed_bare stamp actor call chance seen n e f =
    kept_ends actor call (choice_event chance (deed_of stamp actor call seen n) n).reply (choice_event chance (deed_of stamp actor call seen n) n).next.own (chosen_bare chance (deed_of stamp actor call seen n) n e f)

ordinary_bare : (stamp : ℕ) (actor : Actor) (call : Call) (chance : Chance) (seen : Seen) (n : Node) → IsOrdinary actor call → n.own.ends ≡ [] → (remembering actor call (choice_event chance (deed_of stamp actor call seen n) n)).next.own.ends ≡ []
ordinary_bare stamp actor call chance seen n is e = deed_bare stamp actor call chance seen n e (of_quiet (deed_of stamp actor call seen n) n e (ordinary_is_quiet stamp actor call seen n is))

crash_bare : (r : Running) (n : Node) → n.own.ends ≡ [] → (crashed (stop_at r n.manager) n).next.own.ends ≡ []
crash_bare Up n e = ap (map end_at_rest) e
crash_bare (Down noted starts) n e = e

return_bare : (r : Running) (choice : Return) (n : Node) → n.own.ends ≡ [] → (node_restarted (restart_at r choice n.manager) n).next.own.ends ≡ []
return_bare Up choice n e = e
return_bare (Down noted starts) (Comes kept started) n e = ap (map (end_begun (restarted kept started noted n.manager))) e
return_bare (Down noted starts) (Fails faults.Up in_write left) n e = go in_write
  where
    go : (t : Bool) → (node_restarted (failed faults.Up t left noted starts n.manager) n).next.own.ends ≡ []
    go true = e
    go false = e
return_bare (Down noted starts) (Fails faults.NoMemory in_write left) n e = e
return_bare (Down noted starts) (Fails faults.Disk true left) n e = e
return_bare (Down noted starts) (Fails faults.Disk false left) n e = e
return_bare (Down noted starts) (Fails faults.Cut true left) n e = e
return_bare (Down noted starts) (Fails faults.Cut false left) n e = e
return_bare (Down noted starts) (Fails (faults.BadLog place) true left) n e = e
return_bare (Down noted starts) (Fails (faults.BadLog place) false left) n e = e

none_bare : (stamp : ℕ) (actor : Actor) (call : Call) (seen : Seen) (n : Node) → deed_of stamp actor call seen n ≡ None → EachBare (deed_of stamp actor call seen n)
none_bare stamp actor call seen n e = subst EachBare (sym e) tt

up_none : (r : Running) (o : Option Deed) → o ≡ None → where_up r o ≡ None
up_none Up o e = e
up_none (Down noted starts) o e = refl

stays_bare : (stamp : ℕ) (actor : Actor) (call : Call) (chance : Chance) (seen : Seen) (n : Node) → n.own.ends ≡ [] → IsEvent stamp actor call chance seen n → IsOwn chance → (event stamp actor call chance seen n).next.own.ends ≡ []
stays_bare stamp actor (calls.Act (acts.Obey (lines.Operate op))) chance seen n e can own =
    deed_bare stamp actor (calls.Act (acts.Obey (lines.Operate op))) chance seen n e (let d = operated_is op n e in subst (λ (x : Deed). x.own.ends ≡ []) (sym d.1) e)
stays_bare stamp actor (calls.Act acts.Crash) chance seen n e can own = crash_bare n.manager.running n e
stays_bare stamp actor (calls.Act acts.Restart) (chances.Call choice) seen n e can own = absurd can
stays_bare stamp actor (calls.Act acts.Restart) (chances.Restart choice) seen n e can own = return_bare n.manager.running choice n e
stays_bare stamp actor (calls.Act acts.Restart) (chances.Foreign image length left) seen n e can own = absurd own
stays_bare stamp actor (calls.Act (acts.Cut k)) chance seen n e can own = e
stays_bare stamp actor (calls.Act (acts.Clock by_)) chance seen n e can own = e
stays_bare stamp (actors.Sender k) calls.Turn chance seen n e can own = deed_bare stamp (actors.Sender k) calls.Turn chance seen n e (none_bare stamp (actors.Sender k) calls.Turn seen n (up_none n.manager.running (turn_up stamp (actors.Sender k) seen n) (turn_none stamp (actors.Sender k) seen n e (λ j e. cc))))
stays_bare stamp (actors.Receiver k) calls.Turn chance seen n e can own = deed_bare stamp (actors.Receiver k) calls.Turn chance seen n e (none_bare stamp (actors.Receiver k) calls.Turn seen n (up_none n.manager.running (turn_up stamp (actors.Receiver k) seen n) (turn_none stamp (actors.Receiver k) seen n e (λ j e. cc))))
stays_bare stamp actor calls.Timeout chance seen n e can own = deed_bare stamp actor calls.Timeout chance seen n e (none_bare stamp actor calls.Timeout seen n (up_none n.manager.running (timeout_by actor n) (timeout_none actor n e)))
stays_bare stamp actor call chance seen n e can own = ordinary_bare stamp actor call chance seen n tt e

-- A prefix

record Stand (s : Scenario) (hs : List History) (p : List Line) : Type 0 where
  given : Ident → Bool
  ghost : Ghost
  calm : (m : ℕ) (c : List ℕ) (u : Luw) → ghost.operated m c u ≡ false
  inv : Inv (world_of s given (managers_at s p hs)) ghost (book_of (ledger (opening_ledger s hs) p))
  at : (m : ℕ) (h : History) → slice_get hs m ≡ Some h → IsAt NoOther m given (node_after s m p h) (ledger (opening_ledger s hs) p)
  bare : (m : ℕ) (h : History) → slice_get hs m ≡ Some h → IsBare (node_after s m p h)

mem_part : (m : ℕ) (x : Line) (p rest : List Line) → m ≡ x.manager → Mem x.entry (part m (p ++ x ∷ rest))
mem_part m x [] rest e = subst (λ t. Mem x.entry (if t then x.entry ∷ part m rest else part m rest)) (sym (ap (λ z. m == z) (sym e) ∙ eqb_self m)) (inl refl)
mem_part m x (y ∷ p) rest e = bool_case (m == y.manager) (λ t. Mem x.entry (if t then y.entry ∷ part m (p ++ x ∷ rest) else part m (p ++ x ∷ rest))) (λ z. inr (mem_part m x p rest e)) (λ z. mem_part m x p rest e)

-- the history of an entry
history_of : (hs : List History) (x : Line) (p rest : List Line) → IsStory hs (p ++ x ∷ rest) → (h : History) × (slice_get hs x.manager ≡ Some h) × Mem x.entry h.entries
history_of hs x p rest story = go (slice_get hs x.manager) refl
  where
    there : Mem x.entry (entries_at hs x.manager)
    there = subst (Mem x.entry) (story.parts x.manager) (mem_part x.manager x p rest refl)

    go : (o : Option History) → slice_get hs x.manager ≡ o → (h : History) × (slice_get hs x.manager ≡ Some h) × Mem x.entry h.entries
    go None e = absurd (subst (λ o. Mem x.entry (entries_or o)) e there)
    go (Some h) e = (h, e, subst (λ o. Mem x.entry (entries_or o)) e there)

own_of : (es : List Entry) (e : Entry) → NoneForeign es → Mem e es → IsOwn e.chance
own_of [] e none n = absurd n
own_of (x ∷ es) e none (inl z) = subst (λ (y : Entry). IsOwn y.chance) (sym z) none.0
own_of (x ∷ es) e none (inr n) = own_of es e none.1 n

-- an entry of the prefix, and its event
pub record Told_ (s : Scenario) (hs : List History) (p : List Line) (x : Line) : Type 0 where
  pub h : History
  pub is : slice_get hs x.manager ≡ Some h
  pub stamp : ℕ
  pub tells : Tells (node_after s x.manager p h) stamp x.entry
  pub own : IsOwn x.entry.chance

pub told_of : (s : Scenario) (hs : List History) (p : List Line) (x : Line) (rest : List Line) → Premises s hs → IsStory hs (p ++ x ∷ rest) → Told_ s hs p x
told_of s hs p x rest premises story =
    let k = history_of hs x p rest story in
    let t = story_tells s hs p x rest k.0 story k.1 (premises.lawful.histories x.manager k.0 k.1).replays.follows in
    record { h = k.0; is = k.1; stamp = t.0; tells = t.1; own = own_of k.0.entries x.entry (premises.own x.manager k.0 k.1) k.2 }

step : (s : Scenario) (hs : List History) (p : List Line) (x : Line) → Stand s hs p → Told_ s hs p x → Stand s hs (p ++ x ∷ [])
step s hs p x z t =
    let m : ℕ = x.manager in
    let n : Node = node_after s m p t.h in
    let l : Ledger = ledger (opening_ledger s hs) p in
    let e : Entry = x.entry in
    let next : Node = (done_by e n).next in
    let a = z.at m t.h t.is in
    let k : Ledger = posted m e e.reply l in
    let b : Became NoOther m z.given n l next k = subst (λ y. Became NoOther m z.given n l next y) (λ i. posted m (entry_of e e.call e.chance (sym t.tells.reply i) (sym t.tells.delta i) (sym t.tells.received i)) (sym t.tells.reply i) l)
    (happens m z.given n l e e.stamp e.actor e.call e.chance e.effect.popped a (z.bare m t.h t.is) t.tells.event t.own) in
    let whole : k ≡ ledger (opening_ledger s hs) (p ++ x ∷ []) = sym (ledger_step (opening_ledger s hs) p x) in
    let at_next : IsNext m n.manager next.manager (managers_at s p hs) (managers_at s (p ++ x ∷ []) hs) = record {
      at = manager_at s p hs m ∙ ap (option_map (λ (h : History). (node_after s m p h).manager)) t.is;
      to = this_manager s p x hs t.h t.is;
      others = λ c ne. other_manager s p x hs c ne;
    } in
    let r = moves_on s z.given b.now m n.manager next.manager (managers_at s p hs) (managers_at s (p ++ x ∷ []) hs) l k z.ghost at_next a.told b.leads b.same b.at.told b.other z.inv in
    record {
      given = b.now;
      ghost = record { sent = z.ghost.sent; source = z.ghost.source; operated = z.ghost.operated; loose = z.ghost.loose; owner = r.owner };
      calm = z.calm;
      inv = subst (λ y. Inv (world_of s b.now (managers_at s (p ++ x ∷ []) hs)) (record { sent = z.ghost.sent; source = z.ghost.source; operated = z.ghost.operated; loose = z.ghost.loose; owner = r.owner }) (book_of y)) whole r.inv;
      bare = λ c h is. bare_at c h is b (c == m) refl;
      at = λ c h is. subst (λ y. IsAt NoOther c b.now (node_after s c (p ++ x ∷ []) h) y) whole (go c h is b (c == m) refl);
    }
  where
    same_history : (h k : History) → Some h ≡ Some k → h ≡ k
    same_history h k e = cc

    bare_at : (c : ℕ) (h : History) → slice_get hs c ≡ Some h → (b : Became NoOther x.manager z.given (node_after s x.manager p t.h) (ledger (opening_ledger s hs) p) (done_by x.entry (node_after s x.manager p t.h)).next (posted x.manager x.entry x.entry.reply (ledger (opening_ledger s hs) p)))
        → (v : Bool) → (c == x.manager) ≡ v → IsBare (node_after s c (p ++ x ∷ []) h)
    bare_at c h is b true v =
        let same : c ≡ x.manager = eqb_yes c x.manager v in
        let here : h ≡ t.h = same_history h t.h (sym is ∙ ap (slice_get hs) same ∙ t.is) in
        let n : Node = node_after s x.manager p t.h in
        let bare : IsBare n = z.bare x.manager t.h t.is in
        subst IsBare
        (sym (node_step s c p x h ∙ ap (λ w. if w then (done_by x.entry (node_after s c p h)).next else node_after s c p h) v ∙ (λ i. (done_by x.entry (node_after s (same i) p (here i))).next)))
        (record {
          ends = stays_bare x.entry.stamp x.entry.actor x.entry.call x.entry.chance x.entry.effect.popped n bare.ends t.tells.event t.own;
          batches = b.same.batches ∙ bare.batches;
        })
    bare_at c h is b false v = subst IsBare (sym (node_step s c p x h ∙ ap (λ w. if w then (done_by x.entry (node_after s c p h)).next else node_after s c p h) v)) (z.bare c h is)

    go : (c : ℕ) (h : History) → slice_get hs c ≡ Some h → (b : Became NoOther x.manager z.given (node_after s x.manager p t.h) (ledger (opening_ledger s hs) p) (done_by x.entry (node_after s x.manager p t.h)).next (posted x.manager x.entry x.entry.reply (ledger (opening_ledger s hs) p)))
        → (v : Bool) → (c == x.manager) ≡ v → IsAt NoOther c b.now (node_after s c (p ++ x ∷ []) h) (posted x.manager x.entry x.entry.reply (ledger (opening_ledger s hs) p))
    go c h is b true v =
        let same : c ≡ x.manager = eqb_yes c x.manager v in
        let here : h ≡ t.h = same_history h t.h (sym is ∙ ap (slice_get hs) same ∙ t.is) in
        subst (λ (y : Node). IsAt NoOther c b.now y (posted x.manager x.entry x.entry.reply (ledger (opening_ledger s hs) p)))
        (sym (node_step s c p x h ∙ ap (λ w. if w then (done_by x.entry (node_after s c p h)).next else node_after s c p h) v ∙ (λ i. (done_by x.entry (node_after s (same i) p (here i))).next)))
        (subst (λ w. IsAt NoOther w b.now (done_by x.entry (node_after s x.manager p t.h)).next (posted x.manager x.entry x.entry.reply (ledger (opening_ledger s hs) p))) (sym same) b.at)
    go c h is b false v =
        subst (λ (y : Node). IsAt NoOther c b.now y (posted x.manager x.entry x.entry.reply (ledger (opening_ledger s hs) p)))
        (sym (node_step s c p x h ∙ ap (λ w. if w then (done_by x.entry (node_after s c p h)).next else node_after s c p h) v))
        (stays_at x.manager c z.given b.now (node_after s x.manager p t.h) (node_after s c p h) (ledger (opening_ledger s hs) p) (posted x.manager x.entry x.entry.reply (ledger (opening_ledger s hs) p)) v (z.at c h is) (z.at x.manager t.h t.is).number b.known b.other)

-- The beginning

mapped_at : {A B : Type 0} (f : A → B) (xs : List A) (m : ℕ) (x : A) → slice_get xs m ≡ Some x → slice_get (map f xs) m ≡ Some (f x)
mapped_at f [] m x e = absurd cc
mapped_at f (y ∷ xs) zero x e = let same : y ≡ x = cc in ap (λ z. Some (f z)) same
mapped_at f (y ∷ xs) (suc m) x e = mapped_at f xs m x e

opening_shelved : (s : Scenario) (ps : List Plain) (p : Plain) (qs : List Queue) → AreNamed qs → AreShelved (map (stored_standing s ps p) qs)
opening_shelved s ps p [] n = tt
opening_shelved s ps p (q ∷ qs) n = ((λ y k. let r = map_mem (stored_standing s ps p) y qs k in ap (λ (z : Shelf). bytes_eq q.name z.name) r.2 ∙ n.0 r.0 r.1), opening_shelved s ps p qs n.1)

not_given : (i : Ident) (m n : ℕ) → ((i.manager == m) && (nat_lt n i.incarnation || ((i.incarnation == n) && nat_lt 0 i.number))) ≡ true → (nat_lt i.incarnation n || (i.incarnation == n && nat_le i.number 0)) ≡ false
not_given i m n e = grind (arith, nat_tests)

is_maker : (i : Ident) (m : ℕ) (t : Bool) → ((i.manager == m + 1) && t) ≡ true → i.manager ≡ suc m
is_maker i m t e = grind (arith, nat_tests)

pub first_at : (s : Scenario) (hs : List History) → Premises s hs → (m : ℕ) (h : History) → slice_get hs m ≡ Some h → IsAt NoOther m (is_given (opening_managers s hs)) (opening_node (surroundings s m) h) (opening_ledger s hs)
first_at s hs premises m h is =
    let ps : List Plain = opening_managers s hs in
    let n : Node = opening_node (surroundings s m) h in
    let p : Plain = n.manager in
    let at : slice_get ps m ≡ Some p = manager_at s [] hs m ∙ ap (option_map (λ (h : History). (node_after s m [] h).manager)) is in
    record {
      told = record {
        places = places_of s ps p;
        placed = mapped_at (places_of s ps) ps m p at;
        shelved = opening_shelved s ps p p.queues (first_sound (surroundings s m).given h.opening h.length h.moment (premises.openings m h is) (record { rows = known_own s hs m h is premises.openings premises.joined.together; doubts = premises.known m h is })).named;
        name = refl;
        definitions = refl;
        users = record { moment = p.moment; connections = []; cut = None };
        used = mapped_at (λ (p : Plain). record { moment = p.moment; connections = []; cut = None }) ps m p at;
        connections = refl;
      };
      fresh = λ i u. ap (λ k. given_by (maker ps k) i) (is_maker i m _ u) ∙ ap (λ o. given_by o i) at ∙ not_given i (m + 1) p.numbers.incarnation u;
      number = refl;
      timed = record { users = record { moment = p.moment; connections = []; cut = None }; used = mapped_at (λ (p : Plain). record { moment = p.moment; connections = []; cut = None }) ps m p at; moment = refl };
      state = first_sound (surroundings s m).given h.opening h.length h.moment (premises.openings m h is) (record { rows = known_own s hs m h is premises.openings premises.joined.together; doubts = premises.known m h is });
      noted = tt;
    }

begins : (s : Scenario) (hs : List History) → IsAlone s → Premises s hs → Stand s hs []
begins s hs alone premises =
    let ps : List Plain = opening_managers s hs in
    record {
      given = is_given ps;
      ghost = _;
      calm = λ m c u. refl;
      inv = images_have_the_facts s hs premises.openings premises.joined.together;
      bare = λ m h is. record { ends = ap (λ cs. map (end_begun (opening_node (surroundings s m) h).manager) (ends_from s m 0 cs)) alone; batches = refl };
      at = λ m h is. first_at s hs premises m h is;
    }

-- All prefixes

pub one_more : {A : Type 0} (xs : List A) (y : A) (ys : List A) → (xs ++ y ∷ []) ++ ys ≡ xs ++ y ∷ ys
one_more [] y ys = refl
one_more (x ∷ xs) y ys = ap (λ zs. x ∷ zs) (one_more xs y ys)

pub none_more : {A : Type 0} (xs : List A) → xs ++ [] ≡ xs
none_more [] = refl
none_more (x ∷ xs) = ap (λ ys. x ∷ ys) (none_more xs)

stands : (s : Scenario) (hs : List History) (before p rest : List Line) → Premises s hs → IsStory hs (before ++ (p ++ rest)) → Stand s hs before → Stand s hs (before ++ p)
stands s hs before [] rest premises story z = subst (Stand s hs) (sym (none_more before)) z
stands s hs before (x ∷ p) rest premises story z =
    let t = told_of s hs before x (p ++ rest) premises story in
    subst (Stand s hs) (one_more before x p)
    (stands s hs (before ++ x ∷ []) p rest premises (subst (IsStory hs) (sym (one_more before x (p ++ rest))) story) (step s hs before x z t))

quiet_note : (m : ℕ) (r : Running) (p : Plain) (l : Ledger) → IsNotedAt NoOther m r p l → IsNoteQuiet r
quiet_note m Up p l h = tt
quiet_note m (Down None starts) p l h = tt
quiet_note m (Down (Some n) starts) p l h = go h.2
  where
    go : IsNoted m h.0 n p ⊎ ⊥ → IsNoteQuiet (Down (Some n) starts)
    go (inl x) = x.quiet
    go (inr x) = absurd x

-- no receiver commits
orders : (s : Scenario) (hs : List History) (before p rest : List Line) (fs : List Forced) → Premises s hs → IsStory hs (before ++ (p ++ rest)) → Stand s hs before → AllInOrderFrom fs (ledger (opening_ledger s hs) before) p
orders s hs before [] rest fs premises story z = tt
orders s hs before (x ∷ p) rest fs premises story z =
    let t = told_of s hs before x (p ++ rest) premises story in
    let n : Node = node_after s x.manager before t.h in
    let l : Ledger = ledger (opening_ledger s hs) before in
    let a = z.at x.manager t.h t.is in
    let quiet : unit_received x.entry.effect.delta ≡ None = ap unit_received t.tells.delta ∙ event_quiet n x.entry.stamp x.entry.actor x.entry.call x.entry.chance x.entry.effect.popped (z.bare x.manager t.h t.is).ends t.tells.event t.own (quiet_note x.manager n.manager.running n.manager l a.noted) in (
      subst (λ o. OrderAt o fs x l (posted x.manager x.entry x.entry.reply l)) (sym quiet) tt,
      subst (λ y. AllInOrderFrom (forced_in x.entry fs) y p) (ledger_step (opening_ledger s hs) before x)
          (orders s hs (before ++ x ∷ []) p rest (forced_in x.entry fs) premises (subst (IsStory hs) (sym (one_more before x (p ++ rest))) story) (step s hs before x z t)),
    )

named : (r : Running) (p : Plain) → IsState r p → AreNamed p.queues
named Up p h = h.named
named (Down noted starts) p h = h.named

pub promised : (s : Scenario) (hs : List History) → IsAlone s → Promised s hs
promised s hs alone premises story p rest is_story split no_conflict =
    let whole : IsStory hs (p ++ rest) = subst (IsStory hs) split is_story in
    let first : Stand s hs [] = begins s hs alone premises in
    let z : Stand s hs p = stands s hs [] p rest premises whole first in
    let operated : IsOperated s hs p z.ghost = record { resolved = λ m c u e. absurd (true_false (sym e ∙ z.calm m c u)); not_yet = λ m c u e. absurd (true_false (sym e ∙ z.calm m c u)) } in
    record {
      rows = rows_promised s hs p z.given z.ghost z.inv no_conflict operated;
      once = once_promised s z.given (managers_at s p hs) z.ghost (book_of (ledger (opening_ledger s hs) p)) z.inv (λ m q e. at_manager z m q (slice_get hs m) refl (sym (manager_at s p hs m) ∙ e));
      got_once = z.inv.got_once;
      order = orders s hs [] p rest [] premises whole first;
    }
  where
    at_manager : Stand s hs p → (m : ℕ) (q : Plain) (o : Option History) → slice_get hs m ≡ o → option_map (λ (h : History). (node_after s m p h).manager) o ≡ Some q → AreNamed q.queues
    at_manager z m q None e w = absurd cc
    at_manager z m q (Some h) e w = let same : (node_after s m p h).manager ≡ q = cc in subst (λ (x : Plain). AreNamed x.queues) same (named (node_after s m p h).manager.running (node_after s m p h).manager (z.at m h e).state)
