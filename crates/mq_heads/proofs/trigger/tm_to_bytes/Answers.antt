use Rattle.std.proofs.Common.{◌≡◌, ℕ, List, [], ◌++◌, take, arith, rules, sym, ap, refl, ◌∙◌, codes, pos}
use Rattle.std.proofs.lemmas.List.{take_all, append-nil}
use Rattle.mq_message.specs.Layout.{long_bytes}
use Rattle.mq_message.proofs.LayoutLaws.{behind, behind_long}
use Rattle.mq_heads.specs.Headers.{tm_bytes, tm_read}
use Rattle.mq_heads.proofs.HeaderLaws.{TmFits, tm_read-tm_bytes}
use Rattle.mq_heads.proofs.trigger.tm_to_bytes.Goals as goal

pub returns-clause-bytes : goal.returns-clause-bytes
unfolding tm_bytes
returns-clause-bytes c =
    let whole : take 684 c.put_array-7.new.bytes ≡ c.put_array-7.new.bytes = take_all 684 c.put_array-7.new.bytes (omega arith) in
    let from-8 : List ℕ = c.args.header.now.user_data ++ [] in
    let from-7 : List ℕ = c.args.header.now.env_data ++ from-8 in
    let from-6 : List ℕ = c.args.header.now.appl_id ++ from-7 in
    let from-5 : List ℕ = long_bytes c.args.header.now.appl_type ++ from-6 in
    let from-4 : List ℕ = c.args.header.now.trigger_data ++ from-5 in
    let from-3 : List ℕ = c.args.header.now.process_name ++ from-4 in
    let from-2 : List ℕ = c.args.header.now.q_name ++ from-3 in
    let from-1 : List ℕ = long_bytes (pos 1) ++ from-2 in
    sym whole ∙ sym (append-nil (take 684 c.put_array-7.new.bytes))
    ∙ behind (take 684 c.put_array-7.new.bytes) (take 556 c.put_array-6.new.bytes) (c.args.header.now.user_data) [] c.put_array-7.ensures
    ∙ behind (take 556 c.put_array-6.new.bytes) (take 428 c.put_array-5.new.bytes) (c.args.header.now.env_data) from-8 c.put_array-6.ensures
    ∙ behind (take 428 c.put_array-5.new.bytes) (take 172 c.put_long-2.new.bytes) (c.args.header.now.appl_id) from-7 c.put_array-5.ensures
    ∙ behind_long (take 172 c.put_long-2.new.bytes) (take 168 c.put_array-4.new.bytes) c.args.header.now.appl_type from-6 (search rules) c.put_long-2.ensures
    ∙ behind (take 168 c.put_array-4.new.bytes) (take 104 c.put_array-3.new.bytes) (c.args.header.now.trigger_data) from-5 c.put_array-4.ensures
    ∙ behind (take 104 c.put_array-3.new.bytes) (take 56 c.put_array-2.new.bytes) (c.args.header.now.process_name) from-4 c.put_array-3.ensures
    ∙ behind (take 56 c.put_array-2.new.bytes) (take 8 c.put_long.new.bytes) (c.args.header.now.q_name) from-3 c.put_array-2.ensures
    ∙ behind (take 8 c.put_long.new.bytes) (take 4 c.put_array.new.bytes) (long_bytes (pos 1)) from-2 c.put_long.ensures
    ∙ behind (take 4 c.put_array.new.bytes) [] (codes "TM  ") from-1 c.put_array.ensures

pub returns-clause-back : goal.returns-clause-back
returns-clause-back c =
    let fits : TmFits c.args.header.now = record {
      all = (refl, (search rules, (search rules, (search rules, (search rules, (search rules, (search rules, (search rules, (search rules, tt)))))))));
    } in
    ap tm_read (returns-clause-bytes c ∙ sym (append-nil (tm_bytes c.args.header.now))) ∙ tm_read-tm_bytes c.args.header.now [] fits
