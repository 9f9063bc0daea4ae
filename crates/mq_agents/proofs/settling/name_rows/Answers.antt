use Rattle.std.proofs.Common.{◌≡◌, ℕ, ◌+◌, List, ◌++◌, ap, sym, ◌∙◌, length, arith}
use Rattle.std.specs.Prelude.{take}
use Rattle.mq_message.specs.declared.place.Holder.TheVariants as holders
use Rattle.mq_calls.specs.Words.{stored, sender_data}
use Rattle.mq_calls.specs.Reads.{in_doubt_of}
use Rattle.mq_calls.specs.declared.records.Remove.{Remove}
use Rattle.mq_sync.specs.declared.data.InDoubt.{InDoubt}
use Rattle.mq_spec_manager.specs.Agents.{held_on}
use Rattle.mq_place.specs.Rooms.{RowsKept}
use Rattle.mq_core.specs.Views.{plain_of}
use Rattle.mq_agents.proofs.HeldLaws.{all_listed, short_all, short_first}
use Rattle.mq_agents.proofs.settling.name_rows.Goals as goal

pub returns-then-as_slice-most-clause-rows : goal.returns-then-as_slice-most-clause-rows
returns-then-as_slice-most-clause-rows g c =
    let p = plain_of c.args.parts.now in
    let doubt : InDoubt = c.in-Some.doubt.now in
    let held : List Remove = held_on (holders.Batch c.args.channel.now) (stored doubt.queue p) in
    let is : c.rows_on.new.rows.rows ≡ take (length doubt.idents) held =
    c.in-Ok-rows_on.ensures.rows ∙ ap (λ (rs : List Remove). rs ++ take c.len-most.result held) c.requires.none ∙ ap (λ (n : ℕ). take n held) c.len-most.ensures in
    let long = ap length is in
    let seen = ap length c.as_slice.ensures in
    is
    ∙ all_listed c.args.channel.now doubt.queue p doubt c.requires.sound c.requires.named (sym c.in-Some.ensures)
    (omega (arith, long, seen, c.if-as_slice-most.true, c.len-most.ensures))

pub returns-in-Err-rows_on-clause-memory : goal.returns-in-Err-rows_on-clause-memory
returns-in-Err-rows_on-clause-memory g c =
    let p = plain_of c.args.parts.now in
    let doubt : InDoubt = c.in-Some.doubt.now in
    let none = ap length c.requires.none in
    short_first (in_doubt_of (sender_data c.args.channel.now p)) doubt (held_on (holders.Batch c.args.channel.now) (stored doubt.queue p)) c.args.rows.now.room c.len-most.result (c.args.rows.now.room + length c.args.rows.now.rows)
    c.in-Some.ensures c.len-most.ensures (omega (arith, none)) c.in-Err-rows_on.ensures.memory

pub returns-in-Err-all_held-clause-memory : goal.returns-in-Err-all_held-clause-memory
returns-in-Err-all_held-clause-memory g c =
    let cleared = ap (λ (k : RowsKept). k.room) c.clear.ensures in
    let stays = c.in-Ok-rows_on.ensures.room in
    short_all c.args.channel.now (plain_of c.args.parts.now) c.clear.new.self.room (c.args.rows.now.room + length c.args.rows.now.rows) c.requires.sound c.requires.named
    (omega (arith, cleared, stays)) c.in-Err-all_held.ensures.memory
