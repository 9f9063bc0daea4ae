-- A deed of one end, for the ends of other cables at its node.
use Rattle.std.specs.Prelude.{◌≡◌, ℕ, Option, None, Some}
use Rattle.mq_spec_node.specs.Deeds.{Deed}
use Rattle.mq_spec_node.specs.Node.{Node, end_in}

-- the end of this cable stays
abbrev pub EachEndStays : ℕ → Node → Option Deed → Type 0
EachEndStays j n None = Unit {0}
EachEndStays j n (Some d) = end_in j d.own.ends ≡ end_in j n.own.ends

-- nothing is offered
abbrev pub EachIsSilent : Option Deed → Type 0
EachIsSilent None = Unit {0}
EachIsSilent (Some d) = d.pushed ≡ None
