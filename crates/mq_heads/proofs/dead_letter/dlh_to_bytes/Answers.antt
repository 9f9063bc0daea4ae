use Rattle.std.proofs.Common.{◌≡◌, ℕ, List, [], ◌++◌, take, arith, rules, sym, ap, refl, ◌∙◌, codes, pos}
use Rattle.std.proofs.lemmas.List.{take_all, append-nil}
use Rattle.mq_message.specs.Layout.{long_bytes}
use Rattle.mq_message.proofs.LayoutLaws.{behind, behind_long}
use Rattle.mq_heads.specs.Headers.{dlh_bytes, dlh_read}
use Rattle.mq_heads.proofs.HeaderLaws.{DlhFits, dlh_read-dlh_bytes}
use Rattle.mq_heads.proofs.dead_letter.dlh_to_bytes.Goals as goal

pub returns-clause-bytes : goal.returns-clause-bytes
unfolding dlh_bytes
returns-clause-bytes c =
    let whole : take 172 c.put_array-7.new.bytes ≡ c.put_array-7.new.bytes = take_all 172 c.put_array-7.new.bytes (omega arith) in
    let from-11 : List ℕ = c.args.header.now.put_time ++ [] in
    let from-10 : List ℕ = c.args.header.now.put_date ++ from-11 in
    let from-9 : List ℕ = c.args.header.now.put_appl_name ++ from-10 in
    let from-8 : List ℕ = long_bytes c.args.header.now.put_appl_type ++ from-9 in
    let from-7 : List ℕ = c.args.header.now.format ++ from-8 in
    let from-6 : List ℕ = long_bytes c.args.header.now.coded_char_set_id ++ from-7 in
    let from-5 : List ℕ = long_bytes c.args.header.now.encoding ++ from-6 in
    let from-4 : List ℕ = c.args.header.now.dest_q_mgr_name ++ from-5 in
    let from-3 : List ℕ = c.args.header.now.dest_q_name ++ from-4 in
    let from-2 : List ℕ = long_bytes c.args.header.now.reason ++ from-3 in
    let from-1 : List ℕ = long_bytes (pos 1) ++ from-2 in
    sym whole ∙ sym (append-nil (take 172 c.put_array-7.new.bytes))
    ∙ behind (take 172 c.put_array-7.new.bytes) (take 164 c.put_array-6.new.bytes) (c.args.header.now.put_time) [] c.put_array-7.ensures
    ∙ behind (take 164 c.put_array-6.new.bytes) (take 156 c.put_array-5.new.bytes) (c.args.header.now.put_date) from-11 c.put_array-6.ensures
    ∙ behind (take 156 c.put_array-5.new.bytes) (take 128 c.put_long-5.new.bytes) (c.args.header.now.put_appl_name) from-10 c.put_array-5.ensures
    ∙ behind_long (take 128 c.put_long-5.new.bytes) (take 124 c.put_array-4.new.bytes) c.args.header.now.put_appl_type from-9 (search rules) c.put_long-5.ensures
    ∙ behind (take 124 c.put_array-4.new.bytes) (take 116 c.put_long-4.new.bytes) (c.args.header.now.format) from-8 c.put_array-4.ensures
    ∙ behind_long (take 116 c.put_long-4.new.bytes) (take 112 c.put_long-3.new.bytes) c.args.header.now.coded_char_set_id from-7 (search rules) c.put_long-4.ensures
    ∙ behind_long (take 112 c.put_long-3.new.bytes) (take 108 c.put_array-3.new.bytes) c.args.header.now.encoding from-6 (search rules) c.put_long-3.ensures
    ∙ behind (take 108 c.put_array-3.new.bytes) (take 60 c.put_array-2.new.bytes) (c.args.header.now.dest_q_mgr_name) from-5 c.put_array-3.ensures
    ∙ behind (take 60 c.put_array-2.new.bytes) (take 12 c.put_long-2.new.bytes) (c.args.header.now.dest_q_name) from-4 c.put_array-2.ensures
    ∙ behind_long (take 12 c.put_long-2.new.bytes) (take 8 c.put_long.new.bytes) c.args.header.now.reason from-3 (search rules) c.put_long-2.ensures
    ∙ behind (take 8 c.put_long.new.bytes) (take 4 c.put_array.new.bytes) (long_bytes (pos 1)) from-2 c.put_long.ensures
    ∙ behind (take 4 c.put_array.new.bytes) [] (codes "DLH ") from-1 c.put_array.ensures

pub returns-clause-back : goal.returns-clause-back
returns-clause-back c =
    let fits : DlhFits c.args.header.now = record {
      all = (refl, (search rules, (search rules, (search rules, (search rules, (search rules, (search rules, (search rules, (search rules, (search rules, (search rules, (search rules, tt))))))))))));
    } in
    ap dlh_read (returns-clause-bytes c ∙ sym (append-nil (dlh_bytes c.args.header.now))) ∙ dlh_read-dlh_bytes c.args.header.now [] fits
