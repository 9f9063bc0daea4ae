-- From what the calls of a run tell to a lawful story, and to what is promised of it.
use Rattle.std.proofs.Common.{ℕ, zero, suc, ◌≡◌, ◌<◌, ◌≤◌, List, [], ◌∷◌, ◌++◌, refl, ap, sym, subst, inl, inr, arith, length}
use Rattle.std.specs.Prelude.{All, Bool, IfSome, Option, Some, None, min, max, slice_get}
use Rattle.std.proofs.Math.Nat.{le-max_left, min-le_right}
use Rattle.std.proofs.lemmas.List.Elements.{All-nil, All-cons}
use Rattle.mq_base.specs.Members.{Mem, Chain}
use Rattle.mq_frame.specs.declared.frame.Seen.{Seen}
use Rattle.mq_frame.specs.declared.frame.Seen.TheVariants as items
use Rattle.mq_cable.specs.declared.fault.Fault.{Fault}
use Rattle.mq_history.specs.declared.calls.Actor.{Actor}
use Rattle.mq_history.specs.declared.calls.Entry.{Entry}
use Rattle.mq_history.specs.declared.history.History.{History}
use Rattle.mq_history.specs.declared.scenario.ManagerLine.{ManagerLine}
use Rattle.mq_history.specs.declared.scenario.Scenario.{Scenario}
use Rattle.mq_history.specs.Scenarios.{IsScenario}
use Rattle.mq_spec_manager.specs.Stops.{last_moment}
use Rattle.mq_spec_node.specs.Doers.{by, is_receiver, is_sender}
use Rattle.mq_spec_node.specs.Node.{Node}
use Rattle.mq_spec_node.specs.Replays.{Follows, IsStamp, done_by, opening_node}
use Rattle.mq_spec_network.specs.Story.{Line, IsStory, entries_at, entries_or}
use Rattle.mq_spec_network.specs.Given.{first_moment, moment_or, surroundings}
use Rattle.mq_spec_network.specs.Apart.{IsJoined}
use Rattle.mq_spec_network.specs.Cables.{Carries}
use Rattle.mq_spec_network.specs.Conflict.{NoConflict}
use Rattle.mq_spec_network.specs.Lawful.{AreOwn, AreSteps, IsLawful, marks_at, network_begun}
use Rattle.mq_spec_network.specs.Lawful.Went.{begins}
use Rattle.mq_spec_network.specs.Promised.{AreDoubtsKnown, AreImages, Holds}
use Rattle.mq_spec_network.specs.Steps.Goes.{stays}
use Rattle.mq_spec_network.specs.Tasks.{tasks_next}
use Rattle.mq_net_ledger.specs.from_story.Spots.{AreRising, Sooner}
use Rattle.mq_net_ledger.specs.Opened.{AreOpened, IsOpened}
use Rattle.mq_law_run.proofs.Whole.{promised_in_order}
use Rattle.mq_law_scripts.proofs.Stepping.{scripts_are}
use Rattle.mq_law_ran.specs.Runs.{AreCarried, AreHistories, AreOpenings, IsOpening, Left}
use Rattle.mq_law_ran.specs.Promises.{GotOnce, OrderKept, RowsAreLedgers, StandOnce}

-- ---- Stamps rise.

stamp_above : (last : ℕ) (seen : Seen) (stamp : ℕ) → IsStamp last seen stamp → last < stamp
stamp_above last items.Nothing stamp h = omega (arith, h)
stamp_above last items.Spoiled stamp h = h
stamp_above last (items.Frame f) stamp h = let le : last ≤ max last f.stamp = le-max_left last f.stamp in omega (arith, h, le)

all_above : (n : Node) (last : ℕ) (es : List Entry) → Follows n last es → (y : Entry) → Mem y es → last < y.stamp
all_above n last [] h y m = absurd m
all_above n last (e ∷ es) h y (inl is) = subst (λ (x : Entry). last < x.stamp) (sym is) (stamp_above last e.effect.popped e.stamp h.0.stamp)
all_above n last (e ∷ es) h y (inr m) =
    let first : last < e.stamp = stamp_above last e.effect.popped e.stamp h.0.stamp in
    let later : e.stamp < y.stamp = all_above (done_by e n).next e.stamp es h.1 y m in
    omega (arith, first, later)

all_rise : (n : Node) (last : ℕ) (es : List Entry) → Follows n last es → Chain Sooner es
all_rise n last [] h = tt
all_rise n last (e ∷ es) h = (λ y m. all_above (done_by e n).next e.stamp es h.1 y m, all_rise (done_by e n).next e.stamp es h.1)

rise_at : (s : Scenario) (hs : List History) (m : ℕ) (x : Option History) → AreHistories s hs → slice_get hs m ≡ x → Chain Sooner (entries_or x)
rise_at s hs m None a e = tt
rise_at s hs m (Some h) a e = all_rise (opening_node (surroundings s m) h) 0 h.entries (a.each m h e).replays.follows

pub rise : (s : Scenario) (hs : List History) → AreHistories s hs → AreRising hs
rise s hs a m = rise_at s hs m (slice_get hs m) a refl

-- ---- Openings are images.

pub there : {A B : Type 0} (xs : List A) (ys : List B) → length xs ≡ length ys → (m : ℕ) (x : A) → slice_get xs m ≡ Some x → (y : B) × (slice_get ys m ≡ Some y)
there [] ys long m x e = absurd cc
there (x ∷ xs) [] long m z e = absurd cc
there (x ∷ xs) (y ∷ ys) long zero z e = (y, refl)
there (x ∷ xs) (y ∷ ys) long (suc m) z e = there xs ys (omega (arith, long)) m z e

pub opening : (tells : Type 0) (held : List ℕ → List ℕ → Type 0) (start : ℕ) (l : Left) → AreHistories l.scenario l.histories → AreOpenings tells held start l → (m : ℕ) (h : History) → slice_get l.histories m ≡ Some h
    → (line : ManagerLine) × IsOpening tells (held line.name) (surroundings l.scenario m) (first_moment l.scenario start) h
opening tells held start l a o m h e = let (line, is) = there l.histories l.scenario.managers a.all m h e in (line, o m h line e is)

pub images : (tells : Type 0) (held : List ℕ → List ℕ → Type 0) (start : ℕ) (l : Left) → AreHistories l.scenario l.histories → AreOpenings tells held start l → AreImages l.histories
images tells held start l a o m h e = (opening tells held start l a o m h e).1.well

pub known : (tells : Type 0) (held : List ℕ → List ℕ → Type 0) (start : ℕ) (l : Left) → AreHistories l.scenario l.histories → AreOpenings tells held start l → AreDoubtsKnown l.histories
known tells held start l a o m h e = (opening tells held start l a o m h e).1.known.doubts

pub each_there : {A : Type 0} (P : A → Type 0) (xs : List A) → ((m : ℕ) (x : A) → slice_get xs m ≡ Some x → P x) → All P xs
each_there P [] f = All-nil P
each_there P (x ∷ xs) f = All-cons P x xs (f 0 x refl) (each_there P xs (λ m y e. f (suc m) y e))

least : (n : ℕ) → min n 253300000000000 ≤ last_moment
least n = let le : min n 253300000000000 ≤ 253300000000000 = min-le_right n 253300000000000 in omega (arith, le)

pub moment_fits : (moment : Option ℕ) (start : ℕ) → IfSome moment (λ m. m ≤ 253300000000000) → moment_or moment start ≤ last_moment
moment_fits None start h = least start
moment_fits (Some m) start h = omega (arith, h)

pub opened : (tells : Type 0) (held : List ℕ → List ℕ → Type 0) (start : ℕ) (l : Left) → IsScenario l.scenario → AreHistories l.scenario l.histories → AreOpenings tells held start l → AreOpened l.histories
opened tells held start l s a o = each_there IsOpened l.histories (λ m h e.
    let (line, is) = opening tells held start l a o m h e in
    record { image = is.well; moment = subst (λ (n : ℕ). n ≤ last_moment) (sym (ap (λ (n : Node). n.manager.moment) is.begins)) (moment_fits l.scenario.moment start s.moment) })

-- ---- A lawful story.

pub lawful : (s : Scenario) (hs : List History) → AreHistories s hs → AreCarried s hs → AreSteps s hs → IsLawful s hs
lawful s hs a carried steps = record { all = a.all; histories = a.each; cables = carried; scripts = scripts_are s hs steps; steps = steps }

-- where nothing was done, nothing was offered and nothing popped
carries_none : (fs : List Fault) (pushes pops : Actor → Bool) → Carries fs (by pushes []) pops []
carries_none fs pushes pops = record { taken = []; left = []; whole = refl; takes = refl; within = tt }

carries_nothing : (fs : List Fault) (pushes pops : Actor → Bool) (es os : List Entry) → es ≡ [] → os ≡ [] → Carries fs (by pushes es) pops os
carries_nothing fs pushes pops es os e o = subst (λ (xs : List Entry). Carries fs (by pushes xs) pops os) (sym e) (subst (λ (xs : List Entry). Carries fs (by pushes []) pops xs) (sym o) (carries_none fs pushes pops))

pub carried_none : (s : Scenario) (hs : List History) → ((m : ℕ) → entries_at hs m ≡ []) → AreCarried s hs
carried_none s hs none n c e = record {
  out = carries_nothing c.out (is_sender n) (is_receiver n) (entries_at hs c.sender) (entries_at hs c.receiver) (none c.sender) (none c.receiver);
  back = carries_nothing c.back (is_receiver n) (is_sender n) (entries_at hs c.receiver) (entries_at hs c.sender) (none c.receiver) (none c.sender);
}

pub begun : (s : Scenario) (hs : List History) → ((m : ℕ) → entries_at hs m ≡ []) → ((m : ℕ) → marks_at hs m ≡ []) → AreSteps s hs
begun s hs none unmarked = record {
  whole = [];
  rest = s.steps;
  tasks = tasks_next (network_begun s hs) s.steps;
  far = record {
    marks = λ m. [];
    now = network_begun s hs;
    stands = record { before = network_begun s hs; parts = refl; went = begins; goes = stays };
    entries = λ m. sym (none m);
    noted = λ m few. unmarked m;
  };
}

-- ---- What is promised.

holds : (l : Left) → IsScenario l.scenario → AreImages l.histories → AreDoubtsKnown l.histories → IsLawful l.scenario l.histories → IsJoined l.scenario l.histories → AreOwn l.histories → (p rest : List Line)
    → IsStory l.histories (p ++ rest) → NoConflict l.scenario l.histories p → Holds l.scenario l.histories p
holds l scenario openings doubts law joined own p rest story none =
    promised_in_order l.scenario l.histories (record { scenario = scenario; openings = openings; known = doubts; joined = joined; lawful = law; own = own }) (p ++ rest) p rest story refl none

pub rows_are : (l : Left) → IsScenario l.scenario → AreImages l.histories → AreDoubtsKnown l.histories → IsLawful l.scenario l.histories → IsJoined l.scenario l.histories → AreOwn l.histories → RowsAreLedgers l
rows_are l s i k law joined own p rest story none = (holds l s i k law joined own p rest story none).rows

pub once : (l : Left) → IsScenario l.scenario → AreImages l.histories → AreDoubtsKnown l.histories → IsLawful l.scenario l.histories → IsJoined l.scenario l.histories → AreOwn l.histories → StandOnce l
once l s i k law joined own p rest story none = (holds l s i k law joined own p rest story none).once

pub got_once : (l : Left) → IsScenario l.scenario → AreImages l.histories → AreDoubtsKnown l.histories → IsLawful l.scenario l.histories → IsJoined l.scenario l.histories → AreOwn l.histories → GotOnce l
got_once l s i k law joined own p rest story none = (holds l s i k law joined own p rest story none).got_once

pub order : (l : Left) → IsScenario l.scenario → AreImages l.histories → AreDoubtsKnown l.histories → IsLawful l.scenario l.histories → IsJoined l.scenario l.histories → AreOwn l.histories → OrderKept l
order l s i k law joined own p rest story none = (holds l s i k law joined own p rest story none).order
