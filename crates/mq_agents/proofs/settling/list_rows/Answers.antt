use Rattle.std.proofs.Common.{◌≡◌, ◌+◌, ap, sym, subst, ◌∙◌, length, arith}
use Rattle.mq_message.specs.declared.place.Holder.TheVariants as holders
use Rattle.mq_calls.specs.Words.{sender_data}
use Rattle.mq_calls.specs.Reads.{in_doubt_of}
use Rattle.mq_spec_manager.specs.Agents.{held_rows}
use Rattle.mq_law_manager.specs.Facts.{Sound, AreNamed}
use Rattle.mq_place.specs.Rooms.{RowsKept}
use Rattle.mq_core.specs.Views.{PartsValue, plain_of}
use Rattle.mq_agents.specs.Settling.{with_named}
use Rattle.mq_agents.proofs.settling.list_rows.Goals as goal

pub name_rows-requires-clause-sound : goal.name_rows-requires-clause-sound
name_rows-requires-clause-sound g c = subst (λ (x : PartsValue). Sound (plain_of x)) (sym c.take_rows-rows.ensures.same) c.requires.sound

pub name_rows-requires-clause-named : goal.name_rows-requires-clause-named
name_rows-requires-clause-named g c = subst (λ (x : PartsValue). AreNamed (plain_of x).queues) (sym c.take_rows-rows.ensures.same) c.requires.named

pub name_rows-requires-clause-none : goal.name_rows-requires-clause-none
name_rows-requires-clause-none g c = ap (λ (k : RowsKept). k.rows) c.clear.ensures

pub returns-in-Ok-clause-same : goal.returns-in-Ok-clause-same
returns-in-Ok-clause-same g c =
    let k : RowsKept = c.name_rows.new.rows in
    let is : c.put_rows.new.parts ≡ with_named k c.args.parts.now = c.put_rows.ensures ∙ ap (with_named k) c.take_rows-rows.ensures.same in
    is ∙ ap (λ (r : RowsKept). with_named r c.args.parts.now) (sym (ap (λ (x : PartsValue). x.ends.rows) is))

pub returns-in-Err-clause-same : goal.returns-in-Err-clause-same
returns-in-Err-clause-same g c =
    let k : RowsKept = c.name_rows.new.rows in
    let is : c.put_rows-in-Err.new.parts ≡ with_named k c.args.parts.now = c.put_rows-in-Err.ensures ∙ ap (with_named k) c.take_rows-rows.ensures.same in
    is ∙ ap (λ (r : RowsKept). with_named r c.args.parts.now) (sym (ap (λ (x : PartsValue). x.ends.rows) is))

pub returns-in-Ok-clause-room : goal.returns-in-Ok-clause-room
returns-in-Ok-clause-room g c =
    let back = ap (λ (x : PartsValue). x.ends.rows.room + length x.ends.rows.rows) c.put_rows.ensures in
    let cleared = ap (λ (k : RowsKept). k.room + length k.rows) c.clear.ensures in
    let was = ap (λ (k : RowsKept). k.room + length k.rows) c.take_rows-rows.ensures.rows in
    omega (arith, back, cleared, was, c.name_rows.ensures.room)

pub returns-in-Err-clause-room : goal.returns-in-Err-clause-room
returns-in-Err-clause-room g c =
    let back = ap (λ (x : PartsValue). x.ends.rows.room + length x.ends.rows.rows) c.put_rows-in-Err.ensures in
    let cleared = ap (λ (k : RowsKept). k.room + length k.rows) c.clear.ensures in
    let was = ap (λ (k : RowsKept). k.room + length k.rows) c.take_rows-rows.ensures.rows in
    omega (arith, back, cleared, was, c.name_rows.ensures.room)

pub returns-in-Ok-clause-rows : goal.returns-in-Ok-clause-rows
returns-in-Ok-clause-rows g c =
    ap (λ (x : PartsValue). x.ends.rows.rows) c.put_rows.ensures ∙ c.in-Ok.ensures.rows ∙ ap (λ (x : PartsValue). held_rows (holders.Batch c.args.channel.now) (plain_of x)) c.take_rows-rows.ensures.same

pub returns-in-Err-clause-memory : goal.returns-in-Err-clause-memory
returns-in-Err-clause-memory g c =
    let cleared = ap (λ (k : RowsKept). k.room + length k.rows) c.clear.ensures in
    let was = ap (λ (k : RowsKept). k.room + length k.rows) c.take_rows-rows.ensures.rows in
    λ d e.
    let short = c.in-Err.ensures.memory d (ap (λ (x : PartsValue). in_doubt_of (sender_data c.args.channel.now (plain_of x))) c.take_rows-rows.ensures.same ∙ e) in
    omega (arith, cleared, was, short)
