-- Each entry of a story is a move; so each prefix is as promised, where no restart finds the write of a receiver's commit.
use Rattle.std.proofs.Common.{ℕ, ◌≡◌, ◌<◌, List, [], ◌∷◌, ◌++◌, refl, ap, sym, subst, ◌∙◌}
use Rattle.std.specs.Prelude.{Option, Some, None, slice_get}
use Rattle.std.specs.Option.{option_map}
use Rattle.mq_sc_parse.specs.declared.command.Command.TheVariants as lines
use Rattle.mq_history.specs.declared.acts.Act.TheVariants as acts
use Rattle.mq_history.specs.declared.calls.Actor.{Actor}
use Rattle.mq_history.specs.declared.calls.Actor.TheVariants as actors
use Rattle.mq_history.specs.declared.calls.Call.{Call}
use Rattle.mq_history.specs.declared.calls.Call.TheVariants as calls
use Rattle.mq_history.specs.declared.history.History.{History}
use Rattle.mq_history.specs.declared.scenario.Scenario.{Scenario}
use Rattle.mq_calls.specs.State.{Plain, Running}
use Rattle.mq_calls.specs.State.Running.{Up, Down}
use Rattle.mq_spec_network.specs.Conflict.{Deed as ToldDeed, NoConflict, deeds, deeds_in}
use Rattle.mq_spec_network.specs.Ledger.{Ledger, ledger, posted}
use Rattle.mq_spec_network.specs.Order.{AllInOrderFrom, OrderAt, unit_received}
use Rattle.mq_spec_network.specs.Promised.{Holds, Premises}
use Rattle.mq_spec_network.specs.Standing.{managers_at, node_after, opening_ledger}
use Rattle.mq_spec_network.specs.Story.{IsStory, Line}
use Rattle.mq_law_manager.specs.Facts.{AreNamed}
use Rattle.mq_law_seen.specs.Seen.{book_of}
use Rattle.mq_law_one.specs.from_law_story.Told.{IsTold as IsOperated}
use Rattle.mq_law_one.proofs.from_law_story.Promising.{once_promised, rows_promised}
use Rattle.mq_law_one.proofs.from_law_story.Weaving.{ledger_step, manager_at}
use Rattle.mq_law_one.specs.Alone.{IsOwnCall, IsState}
use Rattle.mq_law_one.proofs.Running.{Told_, none_more, one_more, told_of}
use Rattle.mq_law_run.specs.Ordered.{forced_over}
use Rattle.mq_law_run.specs.Run.{HaveSenders, HoldsRows, Moves, Stand}
use Rattle.mq_law_run.proofs.Acting.{cable_is, receiver_acts, sender_acts, some_at, timeout_acts}
use Rattle.mq_law_run.proofs.Beginning.{begins}
use Rattle.mq_law_run.proofs.Breaking.{obeys_all}
use Rattle.mq_law_run.proofs.Listing.{listed_more}
use Rattle.mq_law_run.proofs.Owning.{own_moves}
use Rattle.mq_law_run.proofs.Rising.{crash_moves, restart_moves}
use Rattle.mq_law_run.proofs.Standing.{keeps_on}

pub have_senders : (s : Scenario) (hs : List History) → Premises s hs → HaveSenders s hs
have_senders s hs premises k there = some_at hs k.sender (subst (λ (l : ℕ). k.sender < l) (sym premises.joined.all) (cable_is s s.cables k premises.scenario.cables there).sender)

-- EACH ENTRY
pub entry_moves : (s : Scenario) (hs : List History) (wide p rest : List Line) (es : List ToldDeed) (x : Line) (z : Stand s hs p) (t : Told_ s hs p x) → Premises s hs → IsStory hs (p ++ x ∷ rest) → NoConflict s hs wide → deeds wide ≡ deeds (p ++ x ∷ []) ++ es
    → Moves s hs p x t.h z
entry_moves s hs wide p rest es x z t premises story peace split = go x.entry.actor x.entry.call refl refl
  where
    own : (a : Actor) (c : Call) → x.entry.actor ≡ a → x.entry.call ≡ c → IsOwnCall a c → Moves s hs p x t.h z
    own a c f g is = own_moves s hs p x z t (subst (λ (b : Actor). IsOwnCall b x.entry.call) (sym f) (subst (λ (d : Call). IsOwnCall a d) (sym g) is))

    go : (a : Actor) (c : Call) → x.entry.actor ≡ a → x.entry.call ≡ c → Moves s hs p x t.h z
    go a (calls.Act (acts.Obey (lines.Operate op))) f g = obeys_all s hs wide p es x z t op premises peace split g
    go a (calls.Act acts.Crash) f g = crash_moves s hs p x z t premises.scenario g
    go a (calls.Act acts.Restart) f g = restart_moves s hs wide p es x z t premises.scenario peace split (have_senders s hs premises) g
    go (actors.Sender k) calls.Turn f g = sender_acts s hs p rest x z t k premises story f g
    go (actors.Receiver k) calls.Turn f g = receiver_acts s hs wide p rest es x z t k premises story peace split f g
    go a calls.Timeout f g = timeout_acts s hs p x z t premises g
    go a c f g = own a c f g tt

-- ALL PREFIXES
behind : {A : Type 0} (xs ys zs : List A) → (xs ++ ys) ++ zs ≡ xs ++ (ys ++ zs)
behind [] ys zs = refl
behind (x ∷ xs) ys zs = ap (λ ws. x ∷ ws) (behind xs ys zs)

deeds_both : (xs ys : List Line) → deeds (xs ++ ys) ≡ deeds xs ++ deeds ys
deeds_both [] ys = refl
deeds_both (x ∷ xs) ys = ap (λ ds. deeds_in x.manager x.entry.effect.delta ++ ds) (deeds_both xs ys) ∙ sym (behind (deeds_in x.manager x.entry.effect.delta) (deeds xs) (deeds ys))

stands : (s : Scenario) (hs : List History) (wide before p rest : List Line) → Premises s hs → IsStory hs (before ++ (p ++ rest)) → NoConflict s hs wide → wide ≡ before ++ p → Stand s hs before → Stand s hs (before ++ p)
stands s hs wide before [] rest premises story peace same z = subst (Stand s hs) (sym (none_more before)) z
stands s hs wide before (x ∷ p) rest premises story peace same z =
    let t = told_of s hs before x (p ++ rest) premises story in
    let on : wide ≡ (before ++ x ∷ []) ++ p = same ∙ sym (one_more before x p) in
    let v = entry_moves s hs wide before (p ++ rest) (deeds p) x z t premises story peace (ap deeds on ∙ deeds_both (before ++ x ∷ []) p) in
    subst (Stand s hs) (one_more before x p)
    (stands s hs wide (before ++ x ∷ []) p rest premises (subst (IsStory hs) (sym (one_more before x (p ++ rest))) story) peace on (keeps_on s hs before x t.h t.stamp z premises.scenario t.is t.tells t.own v))

-- and each entry keeps the order
orders : (s : Scenario) (hs : List History) (wide before p rest : List Line) → Premises s hs → IsStory hs (before ++ (p ++ rest)) → NoConflict s hs wide → wide ≡ before ++ p → Stand s hs before
    → AllInOrderFrom (forced_over [] before) (ledger (opening_ledger s hs) before) p
orders s hs wide before [] rest premises story peace same z = tt
orders s hs wide before (x ∷ p) rest premises story peace same z =
    let t = told_of s hs before x (p ++ rest) premises story in
    let on : wide ≡ (before ++ x ∷ []) ++ p = same ∙ sym (one_more before x p) in
    let v = entry_moves s hs wide before (p ++ rest) (deeds p) x z t premises story peace (ap deeds on ∙ deeds_both (before ++ x ∷ []) p) in
    let next : ledger (opening_ledger s hs) (before ++ x ∷ []) ≡ posted x.manager x.entry x.entry.reply (ledger (opening_ledger s hs) before) = ledger_step (opening_ledger s hs) before x in
    let rest_ = orders s hs wide (before ++ x ∷ []) p rest premises (subst (IsStory hs) (sym (one_more before x (p ++ rest))) story) peace on (keeps_on s hs before x t.h t.stamp z premises.scenario t.is t.tells t.own v) in (
      subst (λ (k : Ledger). OrderAt (unit_received x.entry.effect.delta) (forced_over [] before) x (ledger (opening_ledger s hs) before) k) next v.order,
      subst (λ fs. AllInOrderFrom fs (posted x.manager x.entry x.entry.reply (ledger (opening_ledger s hs) before)) p) (listed_more [] before x)
          (subst (λ (k : Ledger). AllInOrderFrom (forced_over [] (before ++ x ∷ [])) k p) next rest_),
    )

named : (r : Running) (p : Plain) → IsState r p → AreNamed p.queues
named Up p h = h.named
named (Down noted starts) p h = h.named

pub promised : (s : Scenario) (hs : List History) → Premises s hs → (story p rest : List Line) → IsStory hs story → story ≡ p ++ rest → NoConflict s hs p → HoldsRows s hs p
promised s hs premises story p rest is_story split peace =
    let whole : IsStory hs (p ++ rest) = subst (IsStory hs) split is_story in
    let z : Stand s hs p = stands s hs p [] p rest premises whole peace refl (begins s hs premises) in
    let operated : IsOperated s hs p z.ghost = record { resolved = z.resolved; not_yet = z.not_yet } in
    record {
      rows = rows_promised s hs p z.given z.ghost z.joint.inv peace operated;
      once = once_promised s z.given (managers_at s p hs) z.ghost (book_of (ledger (opening_ledger s hs) p)) z.joint.inv (λ m q e. at_manager z m q (slice_get hs m) refl (sym (manager_at s p hs m) ∙ e));
      got_once = z.joint.inv.got_once;
    }
  where
    at_manager : Stand s hs p → (m : ℕ) (q : Plain) (o : Option History) → slice_get hs m ≡ o → option_map (λ (h : History). (node_after s m p h).manager) o ≡ Some q → AreNamed q.queues
    at_manager z m q None e w = absurd cc
    at_manager z m q (Some h) e w = let same : (node_after s m p h).manager ≡ q = cc in subst (λ (x : Plain). AreNamed x.queues) same (named (node_after s m p h).manager.running (node_after s m p h).manager (z.at m h e).state)

-- with the order
pub promised_in_order : (s : Scenario) (hs : List History) → Premises s hs → (story p rest : List Line) → IsStory hs story → story ≡ p ++ rest → NoConflict s hs p → Holds s hs p
promised_in_order s hs premises story p rest is_story split peace =
    let h : HoldsRows s hs p = promised s hs premises story p rest is_story split peace in
    record {
      rows = h.rows;
      once = h.once;
      got_once = h.got_once;
      order = orders s hs p [] p rest premises (subst (IsStory hs) split is_story) peace refl (begins s hs premises);
    }
