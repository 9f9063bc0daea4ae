-- What DISPLAY CHSTATUS shows of the ends of a node.
use Rattle.std.specs.Prelude.{ℕ, Bool, List, [], ◌∷◌, if◌then◌else◌, map, filter}
use Rattle.mq_calls.specs.declared.commands.ScRefusal.TheVariants as refusals
use Rattle.mq_history.specs.declared.acts.Acted.TheVariants as acted
use Rattle.mq_spec_node.specs.Terms.{Acted, Plain, is_up}
use Rattle.mq_spec_node.specs.Node.{ChannelEnd}
use Rattle.mq_spec_node.specs.Status.{is_asked, status_line}

-- a line for each end that is asked for
abbrev pub lines_of : List ℕ → Bool → Plain → List ChannelEnd → List (List ℕ)
lines_of name any_end p ends = map (status_line p) (filter (is_asked name any_end) ends)

-- what is answered: the reply of mq_spec_node's `show_status`
abbrev pub answered : Bool → List (List ℕ) → Acted
answered any_end [] = if any_end then acted.Shown (record { lines = [] }) else acted.Sc refusals.Missing
answered any_end (line ∷ lines) = acted.Shown (record { lines = line ∷ lines })

abbrev pub shown_as : List ℕ → Bool → Plain → List ChannelEnd → Acted
shown_as name any_end p ends = if is_up p.running then answered any_end (lines_of name any_end p ends) else acted.Sc refusals.Down
