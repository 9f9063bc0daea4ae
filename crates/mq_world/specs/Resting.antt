-- What a network is once it rests.
use Rattle.std.specs.Prelude.{ℕ, List, [], ◌∷◌, map}
use Rattle.mq_history.specs.declared.history.History.{History}
use Rattle.mq_history.specs.declared.scenario.Scenario.{Scenario}
use Rattle.mq_spec_node.specs.Words.{Own}
use Rattle.mq_core.specs.Values.{CoreValue}
use Rattle.mq_watch.specs.from_events.Disks.{HasRisen}
use Rattle.mq_watch.specs.from_events.States.{NodeState}
use Rattle.mq_world_begin.specs.Rested.{RestState}
use Rattle.mq_world.specs.Worlds.{history_in}

abbrev pub manager_in : NodeState → CoreValue
manager_in n = n.manager

abbrev pub own_in : NodeState → Own
own_in n = n.own

-- its managers, with what is their own and their histories
abbrev pub rest_of : Scenario → List NodeState → RestState
rest_of s ns = record { scenario = s; managers = map manager_in ns; owns = map own_in ns; histories = map history_in ns }

-- how often the disk of each has failed
abbrev pub faults_in : CoreValue → ℕ
faults_in v = v.faults

abbrev pub counts_in : RestState → List ℕ
counts_in w = map faults_in w.managers

-- as often at least as its manager's history tells
abbrev pub AreRisen : List ℕ → List History → Type 0
AreRisen [] [] = Unit {0}
AreRisen [] (h ∷ hs) = ⊥
AreRisen (c ∷ cs) [] = ⊥
AreRisen (c ∷ cs) (h ∷ hs) = HasRisen h.entries c × AreRisen cs hs

abbrev pub IsRisen : RestState → Type 0
IsRisen w = AreRisen (counts_in w) w.histories
