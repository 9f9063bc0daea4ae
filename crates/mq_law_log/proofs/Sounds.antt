-- In a sound manager each part of a call does what its record says; so it is where a write is stopped.
use Rattle.std.proofs.Common.{ℕ, ◌≡◌, true, false, List}
use Rattle.std.specs.Prelude.{flat_map}
use Rattle.mq_message.specs.declared.message.Message.{Message}
use Rattle.mq_queue.specs.declared.row.Row.{Row}
use Rattle.mq_calls.specs.declared.deltas.Why.{Why}
use Rattle.mq_calls.specs.State.{Plain, Change}
use Rattle.mq_calls.specs.declared.state.Connection.{Connection}
use Rattle.mq_calls.specs.Changes.{apply_all}
use Rattle.mq_spec_manager.specs.Put.{put_part}
use Rattle.mq_spec_manager.specs.Get.{removal_part}
use Rattle.mq_spec_manager.specs.Units.{commit_part, taken_item}
use Rattle.mq_calls.specs.Images.{lasting}
use Rattle.mq_spec_log.specs.Applies.{fits}
use Rattle.mq_law_log.specs.Keeps.{Does, IsNew}
use Rattle.mq_law_log.specs.Sound.{IsLogSound, IsUnit, AreFree}
use Rattle.mq_law_log.proofs.Parts.{put_does, commit_does}
use Rattle.mq_law_log.proofs.Removals.{removal_does}
use Rattle.mq_law_log.proofs.Ready.{rows_gone, unit_takeable}
use Rattle.mq_law_log.proofs.Placings.{ready_placeable, sound_ready, items_ready, ready_behind, puts_one_by_one}

pub sound_put : (c : Connection) (queue : List ℕ) (m : Message) (p : Plain) → IsLogSound p → fits queue m p.definitions ≡ true → IsNew m.ident p → Does (put_part false c queue m) p
sound_put c queue m p s f n = put_does c queue m p (ready_placeable queue m p (sound_ready queue m p s f n))

pub sound_removal : (why : Why) (queue : List ℕ) (rows : List Row) (p : Plain) → IsLogSound p → AreFree queue rows p → Does (removal_part why queue rows) p
sound_removal why queue rows p s h = removal_does why queue rows p (rows_gone queue rows p s h)

pub sound_commit : (more : List Change) (c : Connection) (p : Plain) → ((q : Plain) → lasting (apply_all more q) ≡ lasting q) → IsLogSound p → IsUnit c.unit p → Does (commit_part more c) p
sound_commit more c p aside s u = commit_does more c p aside (unit_takeable c.unit p s.once u)
    (puts_one_by_one c.unit (apply_all (flat_map taken_item c.unit) p) u.1 (ready_behind c.unit c.unit p (items_ready c.unit p s u.0)))
