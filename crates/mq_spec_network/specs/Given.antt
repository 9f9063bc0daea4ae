-- What a scenario gives each manager.
use Rattle.std.specs.Prelude.{ℕ, ◌+◌, ◌==◌, min, List, [], ◌∷◌, ◌++◌, if◌then◌else◌, Option, Some, None, suc, slice_get}
use Rattle.mq_spec_network.specs.Terms.{ManagerLine, CableLine, MonitorLine, RulesPart, ScriptPart, Scenario, receiver_of, new_sender, Given, Own, ChannelEnd, Handler, Monitor, Script, Sends, Receives, Surroundings}

abbrev pub name_or : Option ManagerLine → List ℕ
name_or None = []
name_or (Some m) = m.name

abbrev pub name_at : Scenario → ℕ → List ℕ
name_at s m = name_or (slice_get s.managers m)

-- The end of a cable at a manager, if it has one there.
abbrev pub sends_from : Scenario → ℕ → CableLine → List ChannelEnd
sends_from s cable c = Sends (record { cable = cable; channel = c.channel; partner = name_at s c.receiver; machine = new_sender }) ∷ []

abbrev pub receives_at : Scenario → ℕ → CableLine → List ChannelEnd
receives_at s cable c = Receives (record { cable = cable; channel = c.channel; partner = name_at s c.sender; machine = receiver_of None; kept = [] }) ∷ []

abbrev pub end_at : Scenario → ℕ → ℕ → CableLine → List ChannelEnd
end_at s m cable c = if c.sender == m then sends_from s cable c else (if c.receiver == m then receives_at s cable c else [])

abbrev pub ends_from : Scenario → ℕ → ℕ → List CableLine → List ChannelEnd
ends_from s m cable [] = []
ends_from s m cable (c ∷ cs) = end_at s m cable c ++ ends_from s m (suc cable) cs

-- the handlers, monitors and scripts of a manager, numbered by their places in the scenario
abbrev pub handlers_from : ℕ → ℕ → List RulesPart → List Handler
handlers_from m number [] = []
handlers_from m number (r ∷ rs) =
    if r.manager == m then record { number = number; table = r.table; tried = [] } ∷ handlers_from m (suc number) rs
    else handlers_from m (suc number) rs

abbrev pub monitors_from : ℕ → ℕ → List MonitorLine → List Monitor
monitors_from m number [] = []
monitors_from m number (l ∷ ls) =
    if l.manager == m then record { number = number; line = l; connection = None; handle = None } ∷ monitors_from m (suc number) ls
    else monitors_from m (suc number) ls

abbrev pub scripts_from : ℕ → ℕ → List ScriptPart → List Script
scripts_from m number [] = []
scripts_from m number (p ∷ ps) =
    if p.manager == m then record { number = number; part = p } ∷ scripts_from m (suc number) ps
    else scripts_from m (suc number) ps

-- what a QMGR line gives
abbrev pub log_max_or : Option ManagerLine → ℕ
log_max_or None = 0
log_max_or (Some m) = m.log_max

-- a manager's number is one above its place
abbrev pub given_at : Scenario → ℕ → Given
given_at s m = record { number = m + 1; name = name_at s m; log_max = log_max_or (slice_get s.managers m) }

abbrev pub own_at : Scenario → ℕ → Own
own_at s m = record {
  ends = ends_from s m 0 s.cables;
  handlers = handlers_from m 0 s.rules;
  monitors = monitors_from m 0 s.monitors;
  scripts = scripts_from m 0 s.scripts;
}

abbrev pub surroundings : Scenario → ℕ → Surroundings
surroundings s m = record { given = given_at s m; own = own_at s m }

-- The moment with which each manager begins: that of the MOMENT line, or the run's own, at most this one.
abbrev pub moment_or : Option ℕ → ℕ → ℕ
moment_or None start = min start 253300000000000
moment_or (Some moment) start = moment

abbrev pub first_moment : Scenario → ℕ → ℕ
first_moment s start = moment_or s.moment start
