use Rattle.std.proofs.Common.{◌≡◌, ℕ, List, [], ◌++◌, take, replicate, arith, sym, ◌∙◌, codes}
use Rattle.std.proofs.lemmas.List.{take_all, append-nil}
use Rattle.mq_message.specs.Layout.{unsigned_bytes}
use Rattle.mq_message.specs.Descriptor.{made_id}
use Rattle.mq_message.proofs.LayoutLaws.{behind}
use Rattle.mq_message.proofs.descriptor.made_msg_id.Goals as goal

pub returns : goal.returns
unfolding made_id
returns c =
    let i = c.args.ident.now in
    let whole : take 24 c.put_u64-2.new.bytes ≡ c.put_u64-2.new.bytes = take_all 24 c.put_u64-2.new.bytes (omega arith) in
    let from-4 : List ℕ = unsigned_bytes 8 i.number ++ [] in
    let from-3 : List ℕ = unsigned_bytes 8 i.incarnation ++ from-4 in
    let from-2 : List ℕ = unsigned_bytes 1 i.manager ++ from-3 in
    let from-1 : List ℕ = replicate 3 0 ++ from-2 in
    sym whole ∙ sym (append-nil (take 24 c.put_u64-2.new.bytes))
    ∙ behind (take 24 c.put_u64-2.new.bytes) (take 16 c.put_u64.new.bytes) (unsigned_bytes 8 i.number) [] c.put_u64-2.ensures
    ∙ behind (take 16 c.put_u64.new.bytes) (take 8 c.put_u8.new.bytes) (unsigned_bytes 8 i.incarnation) from-4 c.put_u64.ensures
    ∙ behind (take 8 c.put_u8.new.bytes) (take 7 c.put_array-2.new.bytes) (unsigned_bytes 1 i.manager) from-3 c.put_u8.ensures
    ∙ behind (take 7 c.put_array-2.new.bytes) (take 4 c.put_array.new.bytes) (replicate 3 0) from-2 c.put_array-2.ensures
    ∙ behind (take 4 c.put_array.new.bytes) [] (codes "MQNI") from-1 c.put_array.ensures
