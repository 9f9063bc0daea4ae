-- With what a network begins, whose histories begin with images of logs.
use Rattle.std.proofs.Common.{ℕ, ◌≡◌, ◌+◌, false, List, [], refl, ap, sym, subst, ◌∙◌}
use Rattle.std.specs.Prelude.{Option, Some, None, slice_get}
use Rattle.std.specs.Option.{option_map}
use Rattle.mq_history.specs.declared.history.History.{History}
use Rattle.mq_history.specs.declared.scenario.Scenario.{Scenario}
use Rattle.mq_calls.specs.State.{Plain}
use Rattle.mq_spec_network.specs.Promised.{AreImages}
use Rattle.mq_spec_network.specs.from_spec_manager.Stops.{started_need}
use Rattle.mq_spec_network.specs.Given.{surroundings}
use Rattle.mq_spec_network.specs.Apart.{apart_of}
use Rattle.mq_spec_network.specs.Standing.{node_after, opening_managers, opening_ledger}
use Rattle.mq_law_seen.specs.from_law_rows.World.{Inv, is_last}
use Rattle.mq_law_seen.specs.Seen.{world_of, book_of}
use Rattle.mq_law_seen.specs.Opening.{IsOpening}
use Rattle.mq_law_seen.specs.from_law_rows.Beginning.{first_owner}
use Rattle.mq_law_seen.specs.Given.{AreOpenings, is_given, sent_at, source_at, spots_of}
use Rattle.mq_law_story.proofs.Weaving.{manager_at}
use Rattle.mq_law_seen.proofs.Openings.{openings_have_the_facts}
use Rattle.mq_law_seen.proofs.Images.{image_opens}

-- The first managers of a network, whose histories begin with images of logs.
pub managers_open : (s : Scenario) (hs : List History) → AreImages hs → AreOpenings (opening_managers s hs)
managers_open s hs images = record {
  each = λ m p e. each_by m p (slice_get hs m) refl (sym (manager_at s [] hs m) ∙ e);
  idle = λ m p e. idle_by m p (slice_get hs m) (sym (manager_at s [] hs m) ∙ e);
}
  where
    some_or : Plain → Option Plain → Plain
    some_or p None = p
    some_or p (Some q) = q

    each_by : (m : ℕ) (p : Plain) (o : Option History) → slice_get hs m ≡ o → option_map (λ (h : History). (node_after s m [] h).manager) o ≡ Some p → IsOpening p
    each_by m p None is e = absurd cc
    each_by m p (Some h) is e = subst IsOpening (ap (some_or p) e) (image_opens (surroundings s m).given h.opening (record { length = h.length + started_need (surroundings s m).given; armed = 0 }) h.moment (images m h is))

    idle_by : (m : ℕ) (p : Plain) (o : Option History) → option_map (λ (h : History). (node_after s m [] h).manager) o ≡ Some p → p.connections ≡ []
    idle_by m p None e = absurd cc
    idle_by m p (Some h) e = ap (λ (x : Plain). x.connections) (sym (ap (some_or p) e))

pub images_have_the_facts : (s : Scenario) (hs : List History) → AreImages hs → apart_of s (opening_managers s hs) ≡ None
    → Inv (world_of s (is_given (opening_managers s hs)) (opening_managers s hs)) (record {
      sent = sent_at (opening_managers s hs);
      source = source_at (opening_managers s hs);
      operated = λ m c u. false;
      loose = λ m c u. is_last ((world_of s (is_given (opening_managers s hs)) (opening_managers s hs)).holds m c) u;
      owner = first_owner (world_of s (is_given (opening_managers s hs)) (opening_managers s hs)) (spots_of 0 (opening_managers s hs));
    }) (book_of (opening_ledger s hs))
images_have_the_facts s hs images together = openings_have_the_facts s (opening_managers s hs) (managers_open s hs images) together
