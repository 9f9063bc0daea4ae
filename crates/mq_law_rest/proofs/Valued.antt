-- Along a run each channel that is defined as a sender's has BATCHSZ 1 at least: its definitions keep to values that commands give.
use Rattle.std.proofs.Common.{ℕ, suc, ◌≡◌, ◌+◌, List, [], ◌∷◌, map, refl, sym, subst, inl, inr, arith}
use Rattle.std.specs.Prelude.{All, if◌then◌else◌, Option, Some, None, slice_get}
use Rattle.std.specs.List.{AllByRecursion}
use Rattle.mq_base.specs.Members.{Mem}
use Rattle.mq_objects.specs.declared.object.Channel.{Channel}
use Rattle.mq_objects.specs.declared.object.ChannelKind.{ChannelKind}
use Rattle.mq_objects.specs.declared.object.ChannelKind.TheVariants as kinds
use Rattle.mq_objects.specs.declared.object.Definitions.{Definitions}
use Rattle.mq_objects.specs.declared.object.Object.{Object}
use Rattle.mq_objects.specs.declared.object.Object.TheVariants as objects
use Rattle.mq_objects.specs.Names.{Space, as_channel, is_object, object_in}
use Rattle.mq_objects.specs.Names.Space.{Channels}
use Rattle.mq_history.specs.declared.calls.Entry.{Entry}
use Rattle.mq_history.specs.declared.history.History.{History}
use Rattle.mq_history.specs.declared.scenario.Scenario.{Scenario}
use Rattle.mq_history.specs.declared.story.ManagerPlaces.{ManagerPlaces}
use Rattle.mq_nodes.specs.Texts.{AllFit, StepFits}
use Rattle.mq_calls.specs.State.{Plain}
use Rattle.mq_spec_node.specs.Replays.{after, opening_node}
use Rattle.mq_spec_network.specs.Given.{surroundings}
use Rattle.mq_spec_network.specs.Ledger.{Ledger, Users, ledger}
use Rattle.mq_spec_network.specs.Promised.{Premises}
use Rattle.mq_spec_network.specs.Standing.{managers_from, node_after, opening_ledger, opening_managers, places_of}
use Rattle.mq_spec_network.specs.Turns.{Network}
use Rattle.mq_spec_network.specs.Lawful.{network_begun}
use Rattle.mq_law_ran.specs.from_law_events.Tied.{IsTold}
use Rattle.mq_law_image.specs.Values.{AreObjectTexts, IsChannelText, IsKindText, IsObjectText}
use Rattle.mq_law_node.proofs.Named.{bool_case}
use Rattle.mq_law_queued.specs.Queued.{HaveSome, IsKindSome}
use Rattle.mq_law_rest.specs.Rests.{AreSome, IsPeaceful}
use Rattle.mq_nodes.specs.Carried.{until}
use Rattle.mq_law_rest.specs.Until.{IsPlace}
use Rattle.mq_law_rest.specs.Values.{AllCallTexts, AllCutTexts, AllTexts, AreTextCalls, IsTextCall, IsTextOf, IsTextual, OpenTexts}
use Rattle.mq_law_rest.proofs.Commanded.{all_steps, went_texts}
use Rattle.mq_law_rest.proofs.Defined.{story_textual, texts_there}
use Rattle.mq_law_rest.proofs.SoFar.{each_until}
use Rattle.mq_law_rest.proofs.Standing.{StandAt, stand_at}
use Rattle.mq_law_rest.proofs.Steps.{entries_place, none_some, some_is}

-- WHAT SUCH DEFINITIONS HAVE OF CHANNELS
found_text : (space : Space) (name : List ℕ) (os : List Object) (o : Object) → AllByRecursion IsObjectText os → object_in space name os ≡ Some o → IsObjectText o
found_text space name [] o h e = absurd (none_some e)
found_text space name (x ∷ xs) o h e = bool_case (is_object space name x) (λ b. (if b then Some x else object_in space name xs) ≡ Some o → IsObjectText o)
    (λ z f. subst IsObjectText (some_is x o f) h.0) (λ z f. found_text space name xs o h.1 f) e

kind_some : (k : ChannelKind) (wrap : ℕ) → IsKindText k wrap → IsKindSome k
kind_some (kinds.Sender batch retry xmitq) wrap h = h.batch.0
kind_some (kinds.Receiver dead) wrap h = tt

have_some : (d : Definitions) → AreObjectTexts d → HaveSome d
have_some d h name c e = at (object_in Channels name d.objects) refl e
  where
    at : (o : Option Object) → object_in Channels name d.objects ≡ o → as_channel o ≡ Some c → IsKindSome c.kind
    at None is f = absurd (none_some f)
    at (Some (objects.Local q)) is f = absurd (none_some f)
    at (Some (objects.Alias q)) is f = absurd (none_some f)
    at (Some (objects.Remote q)) is f = absurd (none_some f)
    at (Some (objects.Process q)) is f = absurd (none_some f)
    at (Some (objects.Channel x)) is f =
        let t : IsChannelText x = found_text Channels name d.objects (objects.Channel x) h.each is in
        subst (λ (y : Channel). IsKindSome y.kind) (some_is x c f) (kind_some x.kind x.sequence_wrap t.kind)

-- THE LEDGER AT THE OPENING
over : (a b : ℕ) → a + suc b ≡ suc a + b
over a b = omega arith

plus_none : (a : ℕ) → a + 0 ≡ a
plus_none a = omega arith

texts_from : (s : Scenario) (ps : List Plain) (m : ℕ) (hs : List History) → ((j : ℕ) (h : History) → slice_get hs j ≡ Some h → AreObjectTexts (opening_node (surroundings s (m + j)) h).manager.definitions)
    → AllTexts (map (λ (p : ManagerPlaces). p.definitions) (map (places_of s ps) (managers_from s m [] hs)))
texts_from s ps m [] h = tt
texts_from s ps m (g ∷ hs) h = (
  subst (λ (k : ℕ). AreObjectTexts (opening_node (surroundings s k) g).manager.definitions) (plus_none m) (h 0 g refl),
  texts_from s ps (suc m) hs (λ j x is. subst (λ (k : ℕ). AreObjectTexts (opening_node (surroundings s k) x).manager.definitions) (over m j) (h (suc j) x is)),
)

no_cuts : (ps : List Plain) → AllCutTexts (map (λ (u : Users). u.cut) (map (λ (p : Plain). record { moment = p.moment; connections = []; cut = None }) ps))
no_cuts [] = tt
no_cuts (p ∷ ps) = (tt, no_cuts ps)

nothing_more : (n : ℕ) → n ≡ 0 + n
nothing_more n = omega arith

begins_textual : (s : Scenario) (hs : List History) → OpenTexts s hs → IsTextual (opening_ledger s hs)
begins_textual s hs open_ = record {
  texts = texts_from s (opening_managers s hs) 0 hs (λ j h is. subst (λ (k : ℕ). AreObjectTexts (opening_node (surroundings s k) h).manager.definitions) (nothing_more j) (open_ j h is));
  cuts = no_cuts (opening_managers s hs);
}

-- ALONG A RUN
pub values_of : (s : Scenario) (hs : List History) → Premises s hs → IsPeaceful s hs → OpenTexts s hs → AreTextCalls hs → AreSome s hs
values_of s hs premises calm open_ texts m h front back is split =
    let r : StandAt s hs m front = stand_at s hs premises calm m h front back is split in
    let l : Ledger = ledger (opening_ledger s hs) r.prefix in
    let told : IsTold m (node_after s m r.prefix h).manager l = (r.stand.at m h is).told in
    let all : IsTextual l = story_textual r.prefix (opening_ledger s hs) (λ x there. texts x.manager x.entry (r.told x there)) (begins_textual s hs open_) in
    subst (λ (es : List Entry). HaveSome (after (opening_node (surroundings s m) h) es).manager.definitions) r.did
    (have_some (node_after s m r.prefix h).manager.definitions (subst AreObjectTexts told.definitions (texts_there m l.places told.places told.placed all.texts)))

-- SO FAR
calls_mem : (es : List Entry) (e : Entry) → AllCallTexts es → Mem e es → IsTextCall e.call
calls_mem [] e h m = absurd m
calls_mem (x ∷ es) e h (inl q) = subst (λ (y : Entry). IsTextCall y.call) (sym q) h.0
calls_mem (x ∷ es) e h (inr n) = calls_mem es e h.1 n

pub calls_until : (s : Scenario) (hs : List History) (i : ℕ) (w : Network) → AllFit IsTextOf s → IsPlace s hs i w → AreTextCalls (until i hs)
calls_until s hs i w fit p m e there =
    calls_mem (w.done m) e (went_texts (network_begun s hs) fit p.went (all_steps p.front p.rest (subst (All (StepFits IsTextOf)) p.parts fit.steps)) (λ j. tt) m) (subst (λ (es : List Entry). Mem e es) (entries_place s hs i w p m) there)

pub opens_until : (s : Scenario) (hs : List History) (i : ℕ) → OpenTexts s hs → OpenTexts s (until i hs)
opens_until s hs i open_ = each_until (λ m h. AreObjectTexts (opening_node (surroundings s m) h).manager.definitions) i hs open_
