-- PUMPs over a cable that copies, spoils or delays its first frame, which is BIND.
use Rattle.std.specs.Prelude.{◌≡◌, true, false, List, [], ◌∷◌, refl}
use Rattle.mq_spec_node.specs.from_frame.{Frame}
use Rattle.mq_spec_node.specs.from_frame.FrameKindVariants.{Bind}
use Rattle.mq_spec_node.specs.from_frame.SeenVariants as items
use Rattle.mq_spec_node.specs.from_history.ActorVariants as actors
use Rattle.mq_spec_node.specs.from_history.CallVariants as calls
use Rattle.mq_spec_node.specs.from_history.{CableLine, Entry}
use Rattle.mq_spec_node.specs.from_cable.FaultVariants.{Late, Copy, Spoil}
use Rattle.mq_spec_node.specs.from_history.StepVariants as steps
use Rattle.mq_spec_node.specs.Node.{Node}
use Rattle.mq_spec_network.specs.Cables.{whole}
use Rattle.mq_spec_network.specs.Turns.{Network, does, is_idle, out_of}
use Rattle.mq_spec_network.specs.Tasks.{Task, tasks_of}
use Rattle.mq_spec_network.specs.Tasks.Slot.{Sends, Receives, TimesOut}
use Rattle.mq_spec_network.specs.Tasks.Task.{Pump}
use Rattle.mq_spec_network.specs.Steps.{Goes, Served, TakesTurn, turn_in}
use Rattle.mq_spec_network.specs.Steps.Goes.{stays}
use Rattle.mq_spec_network.proofs.Rounds.{two_served, takes, skips, rests, ends}
use Rattle.mq_spec_network.proofs.Binding.{cable_with, network_with, paris0, entry, then, bind, binding, bound, hardens, binds, is_bound, answers, runs_now}

-- COPY: BIND comes twice; the second one is no new session, and is ignored.
abbrev copied : CableLine
copied = cable_with (Copy 1 1 ∷ [])

abbrev binds_twice : Entry
binds_twice = record binds { effect = record binds.effect { extras = 1 } }

abbrev answered : Node
answered = then 5 (actors.Receiver 0) calls.Turn items.Nothing bound

abbrev ignores : Entry
ignores = entry 6 (actors.Receiver 0) calls.Turn (items.Frame bind) answered

abbrev copy0 : Network
copy0 = network_with (Copy 1 1 ∷ [])

abbrev copy1 : Network
copy1 = does 0 (hardens ∷ []) copy0

abbrev copy3 : Network
copy3 = does 0 (binds_twice ∷ []) copy1

abbrev copy4 : Network
copy4 = does 1 (is_bound ∷ []) copy3

abbrev copy6 : Network
copy6 = does 1 (answers ∷ []) copy4

abbrev copy7 : Network
copy7 = does 0 (runs_now ∷ []) copy6

abbrev copy8 : Network
copy8 = does 1 (ignores ∷ []) copy7

copy_hardens : TakesTurn (turn_in copy0 Sends 0 copied) 0 hardens
copy_hardens = record { changes = refl; is = (refl, refl, refl); popped = refl; extras = refl }

copy_binds : TakesTurn (turn_in copy1 Sends 0 copied) 0 binds_twice
copy_binds = record { changes = refl; is = (refl, refl, refl); popped = refl; extras = refl }

copy_is_bound : TakesTurn (turn_in copy3 Receives 0 copied) 1 is_bound
copy_is_bound = record { changes = refl; is = (refl, refl, refl); popped = refl; extras = refl }

copy_answers : TakesTurn (turn_in copy4 Receives 0 copied) 1 answers
copy_answers = record { changes = refl; is = (refl, refl, refl); popped = refl; extras = refl }

copy_runs : TakesTurn (turn_in copy6 Sends 0 copied) 0 runs_now
copy_runs = record { changes = refl; is = (refl, refl, refl); popped = refl; extras = refl }

copy_ignores : TakesTurn (turn_in copy7 Receives 0 copied) 1 ignores
copy_ignores = record { changes = refl; is = (refl, refl, refl); popped = refl; extras = refl }

copy_lies : out_of copy4 0 copied ≡ whole bind ∷ []
copy_lies = refl

copy_idle : is_idle copy8 ≡ true
copy_idle = refl

served1 : Served copy1
served1 = two_served copy1 (λ m. refl) refl refl

served4 : Served copy4
served4 = two_served copy4 (λ m. refl) refl refl

served6 : Served copy6
served6 = two_served copy6 (λ m. refl) refl refl

served8 : Served copy8
served8 = two_served copy8 (λ m. refl) refl refl

abbrev CopyLeft : Network → List Task → Type 0
CopyLeft w ts = Goes copy0 (tasks_of copy0 (steps.Pump 100)) w ts

copy_round1 : CopyLeft copy1 (Pump 99 Sends 0 false ∷ [])
copy_round1 = skips _ (skips _ (takes 0 hardens stays copy_hardens) served1 (refl, refl)) served1 refl

copy_round2 : CopyLeft copy4 (Pump 97 Sends 0 false ∷ [])
copy_round2 = skips _ (takes 1 is_bound (takes 0 binds_twice copy_round1 copy_binds) copy_is_bound) served4 refl

copy_round3 : CopyLeft copy6 (Pump 96 Sends 0 false ∷ [])
copy_round3 = skips _ (takes 1 answers (skips _ copy_round2 served4 (refl, refl)) copy_answers) served6 refl

copy_pump : CopyLeft copy8 []
copy_pump = rests (takes 1 ignores (takes 0 runs_now copy_round3 copy_runs) copy_ignores) served8 copy_idle

-- SPOIL: a receiver that isn't bound ignores what it can't read, and the sender times out.
abbrev broken : CableLine
broken = cable_with (Spoil 1 ∷ [])

abbrev drops_it : Entry
drops_it = entry 4 (actors.Receiver 0) calls.Turn items.Spoiled paris0

abbrev times_out : Entry
times_out = entry 4 (actors.Sender 0) calls.Timeout items.Nothing binding

abbrev spoil0 : Network
spoil0 = network_with (Spoil 1 ∷ [])

abbrev spoil1 : Network
spoil1 = does 0 (hardens ∷ []) spoil0

abbrev spoil3 : Network
spoil3 = does 0 (binds ∷ []) spoil1

abbrev spoil4 : Network
spoil4 = does 1 (drops_it ∷ []) spoil3

abbrev spoil7 : Network
spoil7 = does 0 (times_out ∷ []) spoil4

spoil_hardens : TakesTurn (turn_in spoil0 Sends 0 broken) 0 hardens
spoil_hardens = record { changes = refl; is = (refl, refl, refl); popped = refl; extras = refl }

spoil_binds : TakesTurn (turn_in spoil1 Sends 0 broken) 0 binds
spoil_binds = record { changes = refl; is = (refl, refl, refl); popped = refl; extras = refl }

spoil_drops : TakesTurn (turn_in spoil3 Receives 0 broken) 1 drops_it
spoil_drops = record { changes = refl; is = (refl, refl, refl); popped = refl; extras = refl }

spoil_times_out : TakesTurn (turn_in spoil4 TimesOut 0 broken) 0 times_out
spoil_times_out = record { changes = refl; is = (refl, refl, refl); popped = refl; extras = refl }

spoil_served1 : Served spoil1
spoil_served1 = two_served spoil1 (λ m. refl) refl refl

spoil_served4 : Served spoil4
spoil_served4 = two_served spoil4 (λ m. refl) refl refl

spoil_served7 : Served spoil7
spoil_served7 = two_served spoil7 (λ m. refl) refl refl

abbrev SpoilLeft : Network → List Task → Type 0
SpoilLeft w ts = Goes spoil0 (tasks_of spoil0 (steps.Pump 4)) w ts

spoil_round1 : SpoilLeft spoil1 (Pump 3 Sends 0 false ∷ [])
spoil_round1 = skips _ (skips _ (takes 0 hardens stays spoil_hardens) spoil_served1 (refl, refl)) spoil_served1 refl

spoil_round2 : SpoilLeft spoil4 (Pump 1 Sends 0 false ∷ [])
spoil_round2 = skips _ (takes 1 drops_it (takes 0 binds spoil_round1 spoil_binds) spoil_drops) spoil_served4 refl

spoil_none : SpoilLeft spoil4 (Pump 1 TimesOut 0 false ∷ [])
spoil_none = skips _ (skips _ (skips _ spoil_round2 spoil_served4 (refl, refl)) spoil_served4 (refl, refl)) spoil_served4 refl

spoil_pump : SpoilLeft spoil7 []
spoil_pump = ends (takes 0 times_out spoil_none spoil_times_out) spoil_served7

-- LATE: BIND of session 1 comes behind that of session 2, which follows the timeout.
abbrev waiting_on : CableLine
waiting_on = cable_with (Late 1 2 ∷ [])

abbrev again : Node
again = then 4 (actors.Sender 0) calls.Timeout items.Nothing binding

abbrev hardens_again : Entry
hardens_again = entry 5 (actors.Sender 0) calls.Turn items.Nothing again

abbrev second_session : Node
second_session = then 5 (actors.Sender 0) calls.Turn items.Nothing again

abbrev binds_once : Entry
binds_once = entry 6 (actors.Sender 0) calls.Turn items.Nothing second_session

abbrev binds_again : Entry
binds_again = record binds_once { effect = record binds_once.effect { extras = 1 } }

abbrev bind_again : Frame
bind_again = record { stamp = 6; session = 2; kind = Bind 0 false }

abbrev late0 : Network
late0 = network_with (Late 1 2 ∷ [])

abbrev late1 : Network
late1 = does 0 (hardens ∷ []) late0

abbrev late3 : Network
late3 = does 0 (binds ∷ []) late1

abbrev late7 : Network
late7 = does 0 (times_out ∷ []) late3

abbrev late8 : Network
late8 = does 0 (hardens_again ∷ []) late7

abbrev late10 : Network
late10 = does 0 (binds_again ∷ []) late8

late_hardens : TakesTurn (turn_in late0 Sends 0 waiting_on) 0 hardens
late_hardens = record { changes = refl; is = (refl, refl, refl); popped = refl; extras = refl }

late_binds : TakesTurn (turn_in late1 Sends 0 waiting_on) 0 binds
late_binds = record { changes = refl; is = (refl, refl, refl); popped = refl; extras = refl }

late_times_out : TakesTurn (turn_in late3 TimesOut 0 waiting_on) 0 times_out
late_times_out = record { changes = refl; is = (refl, refl, refl); popped = refl; extras = refl }

late_hardens_again : TakesTurn (turn_in late7 Sends 0 waiting_on) 0 hardens_again
late_hardens_again = record { changes = refl; is = (refl, refl, refl); popped = refl; extras = refl }

late_binds_again : TakesTurn (turn_in late8 Sends 0 waiting_on) 0 binds_again
late_binds_again = record { changes = refl; is = (refl, refl, refl); popped = refl; extras = refl }

late_lies : out_of late10 0 waiting_on ≡ whole bind_again ∷ whole bind ∷ []
late_lies = refl

late_served1 : Served late1
late_served1 = two_served late1 (λ m. refl) refl refl

late_served3 : Served late3
late_served3 = two_served late3 (λ m. refl) refl refl

late_served7 : Served late7
late_served7 = two_served late7 (λ m. refl) refl refl

late_served8 : Served late8
late_served8 = two_served late8 (λ m. refl) refl refl

late_served10 : Served late10
late_served10 = two_served late10 (λ m. refl) refl refl

abbrev LateLeft : Network → List Task → Type 0
LateLeft w ts = Goes late0 (tasks_of late0 (steps.Pump 5)) w ts

late_round1 : LateLeft late1 (Pump 4 Sends 0 false ∷ [])
late_round1 = skips _ (skips _ (takes 0 hardens stays late_hardens) late_served1 (refl, refl)) late_served1 refl

late_round2 : LateLeft late3 (Pump 3 Sends 0 false ∷ [])
late_round2 = skips _ (skips _ (takes 0 binds late_round1 late_binds) late_served3 (refl, refl)) late_served3 refl

late_none : LateLeft late3 (Pump 3 TimesOut 0 false ∷ [])
late_none = skips _ (skips _ (skips _ late_round2 late_served3 (refl, refl)) late_served3 (refl, refl)) late_served3 refl

late_round3 : LateLeft late7 (Pump 2 Sends 0 false ∷ [])
late_round3 = skips _ (takes 0 times_out late_none late_times_out) late_served7 refl

late_round4 : LateLeft late8 (Pump 1 Sends 0 false ∷ [])
late_round4 = skips _ (skips _ (takes 0 hardens_again late_round3 late_hardens_again) late_served8 (refl, refl)) late_served8 refl

late_pump : LateLeft late10 []
late_pump = ends (takes 0 binds_again late_round4 late_binds_again) late_served10
