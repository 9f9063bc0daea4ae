-- A restart of a manager that finds a call's write, as a move of the network: it does what the note says, and then comes up.
use Rattle.std.proofs.Common.{ℕ, ◌≡◌, true, List, [], ◌∷◌, ◌++◌, refl, ap, sym, subst, ◌∙◌}
use Rattle.std.specs.Prelude.{Option, Some, None, if◌then◌else◌}
use Rattle.mq_sync.specs.declared.unit.Unit.{Unit as Luw}
use Rattle.mq_sync.specs.declared.data.ReceiverData.{ReceiverData}
use Rattle.mq_history.specs.declared.history.History.{History}
use Rattle.mq_history.specs.declared.scenario.CableLine.{CableLine}
use Rattle.mq_history.specs.declared.scenario.Scenario.{Scenario}
use Rattle.mq_history.specs.Scenarios.{IsScenario}
use Rattle.mq_calls.specs.State.{Plain, Running}
use Rattle.mq_calls.specs.State.Running.{Down}
use Rattle.mq_spec_network.specs.Story.{Line, Mem}
use Rattle.mq_law_channel.specs.Channel.{Facts}
use Rattle.mq_law_run.proofs.Lining.{index_of}
use Rattle.mq_history.specs.declared.acts.Act.TheVariants as acts
use Rattle.mq_history.specs.declared.acts.Acted.TheVariants as acted
use Rattle.mq_history.specs.declared.calls.Call.TheVariants as calls
use Rattle.mq_history.specs.declared.calls.Chance.TheVariants as chances
use Rattle.mq_history.specs.declared.calls.Reply.TheVariants as replies
use Rattle.mq_spec_node.specs.Node.{Node}
use Rattle.mq_spec_node.specs.Deeds.{Done, begun_anew, quiet}
use Rattle.mq_spec_node.specs.Replays.{done_by}
use Rattle.mq_spec_network.specs.Conflict.{deeds, deeds_in}
use Rattle.mq_spec_network.specs.Ledger as ledgers
use Rattle.mq_spec_network.specs.Ledger.{Ledger, ledger}
use Rattle.mq_spec_network.specs.Order.{unit_received}
use Rattle.mq_spec_network.specs.Standing.{managers_at, node_after, opening_ledger, opening_managers}
use Rattle.mq_law_manager.specs.Facts.{IsFrozen, IsSound}
use Rattle.mq_law_node.specs.Nodes.{SendsDown, TakesDown}
use Rattle.mq_law_seen.specs.Seen.{book_of}
use Rattle.mq_law_events.specs.Tied.{IsNext}
use Rattle.mq_law_stopped.specs.from_law_turns.Agreed.{IsToldOf}
use Rattle.mq_law_stopped.proofs.from_law_turns.Agreeing.{grows}
use Rattle.mq_law_one.specs.Alone.{IsState}
use Rattle.mq_law_one.proofs.Running.{Told_}
use Rattle.mq_law_run.specs.Run.{Moves, Stand, back_done, far_at, near_at}
use Rattle.mq_law_run.proofs.Owning.{housed_else, others_told}
use Rattle.mq_law_run.proofs.Running.{far_here, near_here}
use Rattle.mq_calls.specs.declared.choices.Return.TheVariants.{Comes}
use Rattle.mq_calls.specs.State.{Noted}
use Rattle.mq_spec_manager.specs.Stops.{lasts, redone, redone_delta}
use Rattle.mq_calls.specs.declared.deltas.Did.{Did}
use Rattle.mq_law_node.specs.Nodes.{FarAt, NearAt}
use Rattle.mq_law_cables.proofs.Unprepared.{unprepared_still}
use Rattle.mq_law_run.proofs.Tying.{leads_on, forced_kept}
use Rattle.mq_sync.specs.declared.data.SenderData.{SenderData}
use Rattle.mq_sync.specs.Settlement.{receiver_or, sender_or}
use Rattle.mq_calls.specs.Reads.{batch_of, in_doubt_of, receiver_in, sender_in}
use Rattle.mq_law_node.specs.Ends.{told_receives, told_sends}
use Rattle.mq_law_events.specs.Tied.{Follow, IsSame}
use Rattle.mq_law_stopped.specs.from_law_found.Finds.{IsNoted, posted_again}
use Rattle.mq_law_cables.proofs.Unprepared.{IsOne}
use Rattle.mq_calls.specs.declared.deltas.Did.TheVariants as did
pub use Rattle.mq_law_one.proofs.Deltas.{filter_quiet}
use Rattle.mq_law_run.proofs.Cabled.{same_batches}
use Rattle.mq_law_run.proofs.Telling.{deeds_more, none_committed, risen_still, still_not, told_before}
use Rattle.mq_law_run.specs.Ordered.{forced_over}
use Rattle.mq_law_run.proofs.Later.{later_self}
use Rattle.mq_law_run.proofs.Listing.{quiet_order}
use Rattle.mq_law_run.proofs.Redoing.{base_of, comes_up, found_posted, mid_next, mid_of, up_from}

-- the call whose write was stopped
abbrev pub FoundAt : ℕ → Noted → Plain → Ledger → Type 0
FoundAt m noted b l = (o : ledgers.Stopped) × ((ledgers.users_at m l).cut ≡ Some o) × IsNoted m o noted b

-- what a restart tells of the note commits nothing, and touches no connection
abbrev pub IsQuiet : List Did → Type 0
IsQuiet ds = unit_received ds ≡ None

pub one_redone : (p r : Plain) → IsSame p r → IsOne p → IsOne r
one_redone p r same one c b e = (λ i. in_doubt_of (sender_in c (same.senders i))) ∙ one c b ((λ i. batch_of c (sym same.batches i)) ∙ e)

-- A restart behind which the facts follow: it finds a call's write, or none. No channel has a part in it.
pub follow_moves : (s : Scenario) (hs : List History) (p : List Line) (x : Line) (z : Stand s hs p) (t : Told_ s hs p x) (noted : Option Noted) (starts started : ℕ) (ds : List Did) (g : Plain) (k : Ledger) → IsScenario s
    → (node_after s x.manager p t.h).manager.running ≡ Down noted starts → done_by x.entry (node_after s x.manager p t.h) ≡ quiet (replies.Acted acted.Done) ds (begun_anew (up_from started g (base_of s p x t.h)) (node_after s x.manager p t.h).own)
    → ledger (opening_ledger s hs) (p ++ x ∷ []) ≡ ledgers.up_again x.manager k → IsQuiet ds → Follow x.manager z.given (base_of s p x t.h) (ledger (opening_ledger s hs) p) g k → IsSound (up_from started g (base_of s p x t.h)) → Moves s hs p x t.h z
follow_moves s hs p x z t noted starts started ds g k scenario down is posts still f sound =
    let m : ℕ = x.manager in
    let n : Node = node_after s m p t.h in
    let b : Plain = n.manager in
    let l : Ledger = ledger (opening_ledger s hs) p in
    let os : List Plain = opening_managers s hs in
    let mid : List Plain = mid_of s hs p x g in
    let a = z.at m t.h t.is in
    let frozen : IsFrozen b = subst (λ (r : Running). IsState r b) down a.state in
    let next : IsNext m b g (managers_at s p hs) mid = mid_next s hs p x t g in
    let received : unit_received x.entry.effect.delta ≡ None = ap unit_received (t.tells.delta ∙ ap (λ (o : Done). o.delta) is) ∙ still in
    let j = leads_on s z.given f.now m b g (managers_at s p hs) mid l k z.ghost s.cables z.xs z.ys next a.told f.leads f.same f.told f.other z.joint in
    let facts_of : (c : CableLine) → Mem c s.cables → Facts (z.xs c.sender c.channel) (z.ys c.sender c.channel) = λ c w. let i = index_of s.cables c w in (z.lines i.0 c i.1).facts in
    let operated : (d : ℕ) (c : List ℕ) (u : Luw) → j.0.ghost.operated d c u ≡ true → z.ghost.operated d c u ≡ true = λ d c u e. (λ i. sym j.1 i d c u) ∙ e in
    comes_up s hs p x z t noted starts started ds g f.now j.0.ghost z.xs z.ys g k k scenario down is posts sound refl (record {
      channels = record {
        joint = j.0.joint;
        facts = facts_of;
        near = λ i c e q.
            let v : SendsDown (near_at s i c) n noted (z.xs c.sender c.channel) = subst (NearAt (near_at s i c) n (z.xs c.sender c.channel)) down (near_here s hs p x z t i c e q) in (
              record { receives = refl; receiver = refl; kept = refl; back = refl },
              (λ fr o. o),
              v.data_ ∙ ap (λ (d : Option SenderData). told_sends (sender_or d)) (λ o. sender_in c.channel (sym f.same.senders o)),
              later_self (z.xs c.sender c.channel),
            );
        far = λ i c e q.
            let v : TakesDown (far_at s i c) n noted (z.xs c.sender c.channel) = subst (FarAt (far_at s i c) n (z.xs c.sender c.channel)) down (far_here s hs p x z t i c e q) in (
              record { sends = refl; sender = refl; batch = refl; out = refl },
              (λ fr o. o),
              v.data_ ∙ ap (λ (d : Option ReceiverData). told_receives (receiver_or d)) (λ o. receiver_in c.channel (sym f.same.receivers o)),
            );
        aside = λ c w e v. refl;
        tells = λ c w. subst (λ v. IsToldOf s os v c.sender c.channel (z.xs c.sender c.channel) (z.ys c.sender c.channel)) (sym (deeds_more p x))
            (grows s os (deeds p) (deeds_in m x.entry.effect.delta) c.sender c.channel (z.xs c.sender c.channel) (z.ys c.sender c.channel) (z.told c w));
        resolved = λ d c u e. told_before p x _ (z.resolved d c u (operated d c u e));
        not_yet = λ d c u e. still_not s os p x c u (none_committed c u m x.entry.effect.delta received) (z.not_yet d c u (operated d c u e));
        risen = λ c w. risen_still s os p x c.channel (z.xs c.sender c.channel).receives.unit (z.xs c.sender c.channel).receives.unit received refl (z.risen c w);
        owned = λ d c u e. z.owned d c u (operated d c u e);
        loose = λ d c u e. (λ i. sym j.2 i d c u) ∙ e;
        listed = forced_kept z.ghost j.0.ghost x.entry.effect.delta (book_of l).rows (book_of k).rows j.3;
      };
      told = f.told;
      fresh = f.fresh;
      now = f.told;
      moment = (f.kept a.timed.users f.told.users a.timed.used f.told.used).moment ∙ a.timed.moment;
      books = refl;
      same = f.same.given;
      steady = f.steady;
      free = unprepared_still s f.now mid j.0.ghost (book_of k) s.cables z.xs z.ys m g next.to (one_redone b g f.same frozen.still.one) (same_batches s.cables m b g f.same.batches (z.cabled m t.h t.is)) facts_of j.0.joint;
      known = f.known;
      others = λ d o ne h. others_told m d o l k ne f.other h;
      users = λ d ne. f.other.users d ne;
      housed = housed_else m l k a.told.places a.told.placed f.other;
      order = quiet_order (forced_over [] p) x l (ledgers.up_again m k) received;
    })

pub call_returns : (s : Scenario) (hs : List History) (p : List Line) (x : Line) (z : Stand s hs p) (t : Told_ s hs p x) (noted : Noted) (starts started : ℕ) → IsScenario s → FoundAt x.manager noted (node_after s x.manager p t.h).manager (ledger (opening_ledger s hs) p) → (node_after s x.manager p t.h).manager.running ≡ Down (Some noted) starts → x.entry.call ≡ calls.Act acts.Restart
    → x.entry.chance ≡ chances.Restart (Comes true started) → done_by x.entry (node_after s x.manager p t.h) ≡ back_done started noted (node_after s x.manager p t.h) → Moves s hs p x t.h z
call_returns s hs p x z t noted starts started scenario found down call chance is =
    let b : Plain = base_of s p x t.h in
    let l : Ledger = ledger (opening_ledger s hs) p in
    let a = z.at x.manager t.h t.is in
    let ds : List Did = redone_delta true (Some noted) b in
    follow_moves s hs p x z t (Some noted) starts started ds (redone noted b) (posted_again x.manager found.0 ds l) scenario down is (found_posted s hs p x t noted started found.0 call chance is found.1)
    (filter_quiet (lasts noted.written b) noted.delta found.2.quiet) (found.2.followed z.given b.running b.moment b.log l a.fresh a.told) (found.2.sound started b.running b.moment b.log)
