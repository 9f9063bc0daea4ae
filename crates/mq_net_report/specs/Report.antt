-- The report of a run.
use Rattle.std.specs.Prelude.{ℕ, List, ◌++◌, codes}
use Rattle.std.specs.List.{flat_map}
use Rattle.std.specs.Fmt.{decimal}
use Rattle.mq_history.specs.declared.history.History.{History}
use Rattle.mq_history.specs.declared.scenario.Scenario.{Scenario}
use Rattle.mq_history.specs.declared.story.ManagerPlaces.{ManagerPlaces}
use Rattle.mq_net_stands.specs.declared.standing.Standing.{Standing}
use Rattle.mq_net_report.specs.Steps.{scripts_text, steps_text}
use Rattle.mq_net_stands.specs.Stands.{manager_text, cable_text, ledger_text}

-- its first parts: what was done
abbrev pub done_text : Scenario → List History → List ℕ
done_text s hs = codes "MQNET 1\n" ++ scripts_text s hs 0 s.scripts ++ codes "STEPS\n" ++ steps_text s hs 0 s.steps

-- its last parts: how all stands
abbrev pub stands_text : Standing → List ManagerPlaces → ℕ → List ℕ
stands_text standing places status =
    codes "QUEUES\n" ++ flat_map manager_text standing.managers ++ codes "CHANNELS\n" ++ flat_map cable_text standing.cables
    ++ codes "LEDGER\n" ++ ledger_text standing.managers places ++ codes "STATUS " ++ decimal status ++ codes "\n"

abbrev pub report : Scenario → List History → Standing → List ManagerPlaces → ℕ → List ℕ
report s hs standing places status = done_text s hs ++ stands_text standing places status
