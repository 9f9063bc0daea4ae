use Rattle.std.proofs.Common.{◌≡◌, ℕ, List, [], ◌++◌, take, arith, rules, sym, ap, refl, ◌∙◌, codes, pos}
use Rattle.std.proofs.lemmas.List.{take_all, append-nil}
use Rattle.mq_message.specs.Layout.{long_bytes}
use Rattle.mq_message.proofs.LayoutLaws.{behind, behind_long}
use Rattle.mq_message.specs.Descriptor.{md_bytes, md_read}
use Rattle.mq_message.proofs.DescriptorLaws.{MdFits, md_read-md_bytes}
use Rattle.mq_message.proofs.descriptor.md_to_bytes.Goals as goal

pub returns-clause-bytes : goal.returns-clause-bytes
unfolding md_bytes
returns-clause-bytes c =
    let whole : take 324 c.put_array-13.new.bytes ≡ c.put_array-13.new.bytes = take_all 324 c.put_array-13.new.bytes (omega arith) in
    let from-23 : List ℕ = c.args.md.now.appl_origin_data ++ [] in
    let from-22 : List ℕ = c.args.md.now.put_time ++ from-23 in
    let from-21 : List ℕ = c.args.md.now.put_date ++ from-22 in
    let from-20 : List ℕ = c.args.md.now.put_appl_name ++ from-21 in
    let from-19 : List ℕ = long_bytes c.args.md.now.put_appl_type ++ from-20 in
    let from-18 : List ℕ = c.args.md.now.appl_identity_data ++ from-19 in
    let from-17 : List ℕ = c.args.md.now.accounting_token ++ from-18 in
    let from-16 : List ℕ = c.args.md.now.user_identifier ++ from-17 in
    let from-15 : List ℕ = c.args.md.now.reply_to_q_mgr ++ from-16 in
    let from-14 : List ℕ = c.args.md.now.reply_to_q ++ from-15 in
    let from-13 : List ℕ = long_bytes c.args.md.now.backout_count ++ from-14 in
    let from-12 : List ℕ = c.args.md.now.correl_id ++ from-13 in
    let from-11 : List ℕ = c.args.md.now.msg_id ++ from-12 in
    let from-10 : List ℕ = long_bytes c.args.md.now.persistence ++ from-11 in
    let from-9 : List ℕ = long_bytes c.args.md.now.priority ++ from-10 in
    let from-8 : List ℕ = c.args.md.now.format ++ from-9 in
    let from-7 : List ℕ = long_bytes c.args.md.now.coded_char_set_id ++ from-8 in
    let from-6 : List ℕ = long_bytes c.args.md.now.encoding ++ from-7 in
    let from-5 : List ℕ = long_bytes c.args.md.now.feedback ++ from-6 in
    let from-4 : List ℕ = long_bytes c.args.md.now.expiry ++ from-5 in
    let from-3 : List ℕ = long_bytes c.args.md.now.msg_type ++ from-4 in
    let from-2 : List ℕ = long_bytes c.args.md.now.report ++ from-3 in
    let from-1 : List ℕ = long_bytes (pos 1) ++ from-2 in
    sym whole ∙ sym (append-nil (take 324 c.put_array-13.new.bytes))
    ∙ behind (take 324 c.put_array-13.new.bytes) (take 320 c.put_array-12.new.bytes) (c.args.md.now.appl_origin_data) [] c.put_array-13.ensures
    ∙ behind (take 320 c.put_array-12.new.bytes) (take 312 c.put_array-11.new.bytes) (c.args.md.now.put_time) from-23 c.put_array-12.ensures
    ∙ behind (take 312 c.put_array-11.new.bytes) (take 304 c.put_array-10.new.bytes) (c.args.md.now.put_date) from-22 c.put_array-11.ensures
    ∙ behind (take 304 c.put_array-10.new.bytes) (take 276 c.put_long-11.new.bytes) (c.args.md.now.put_appl_name) from-21 c.put_array-10.ensures
    ∙ behind_long (take 276 c.put_long-11.new.bytes) (take 272 c.put_array-9.new.bytes) c.args.md.now.put_appl_type from-20 (search rules) c.put_long-11.ensures
    ∙ behind (take 272 c.put_array-9.new.bytes) (take 240 c.put_array-8.new.bytes) (c.args.md.now.appl_identity_data) from-19 c.put_array-9.ensures
    ∙ behind (take 240 c.put_array-8.new.bytes) (take 208 c.put_array-7.new.bytes) (c.args.md.now.accounting_token) from-18 c.put_array-8.ensures
    ∙ behind (take 208 c.put_array-7.new.bytes) (take 196 c.put_array-6.new.bytes) (c.args.md.now.user_identifier) from-17 c.put_array-7.ensures
    ∙ behind (take 196 c.put_array-6.new.bytes) (take 148 c.put_array-5.new.bytes) (c.args.md.now.reply_to_q_mgr) from-16 c.put_array-6.ensures
    ∙ behind (take 148 c.put_array-5.new.bytes) (take 100 c.put_long-10.new.bytes) (c.args.md.now.reply_to_q) from-15 c.put_array-5.ensures
    ∙ behind_long (take 100 c.put_long-10.new.bytes) (take 96 c.put_array-4.new.bytes) c.args.md.now.backout_count from-14 (search rules) c.put_long-10.ensures
    ∙ behind (take 96 c.put_array-4.new.bytes) (take 72 c.put_array-3.new.bytes) (c.args.md.now.correl_id) from-13 c.put_array-4.ensures
    ∙ behind (take 72 c.put_array-3.new.bytes) (take 48 c.put_long-9.new.bytes) (c.args.md.now.msg_id) from-12 c.put_array-3.ensures
    ∙ behind_long (take 48 c.put_long-9.new.bytes) (take 44 c.put_long-8.new.bytes) c.args.md.now.persistence from-11 (search rules) c.put_long-9.ensures
    ∙ behind_long (take 44 c.put_long-8.new.bytes) (take 40 c.put_array-2.new.bytes) c.args.md.now.priority from-10 (search rules) c.put_long-8.ensures
    ∙ behind (take 40 c.put_array-2.new.bytes) (take 32 c.put_long-7.new.bytes) (c.args.md.now.format) from-9 c.put_array-2.ensures
    ∙ behind_long (take 32 c.put_long-7.new.bytes) (take 28 c.put_long-6.new.bytes) c.args.md.now.coded_char_set_id from-8 (search rules) c.put_long-7.ensures
    ∙ behind_long (take 28 c.put_long-6.new.bytes) (take 24 c.put_long-5.new.bytes) c.args.md.now.encoding from-7 (search rules) c.put_long-6.ensures
    ∙ behind_long (take 24 c.put_long-5.new.bytes) (take 20 c.put_long-4.new.bytes) c.args.md.now.feedback from-6 (search rules) c.put_long-5.ensures
    ∙ behind_long (take 20 c.put_long-4.new.bytes) (take 16 c.put_long-3.new.bytes) c.args.md.now.expiry from-5 (search rules) c.put_long-4.ensures
    ∙ behind_long (take 16 c.put_long-3.new.bytes) (take 12 c.put_long-2.new.bytes) c.args.md.now.msg_type from-4 (search rules) c.put_long-3.ensures
    ∙ behind_long (take 12 c.put_long-2.new.bytes) (take 8 c.put_long.new.bytes) c.args.md.now.report from-3 (search rules) c.put_long-2.ensures
    ∙ behind (take 8 c.put_long.new.bytes) (take 4 c.put_array.new.bytes) (long_bytes (pos 1)) from-2 c.put_long.ensures
    ∙ behind (take 4 c.put_array.new.bytes) [] (codes "MD  ") from-1 c.put_array.ensures

pub returns-clause-back : goal.returns-clause-back
returns-clause-back c =
    let fits : MdFits c.args.md.now = record {
      all = (refl, (search rules, (search rules, (search rules, (search rules, (search rules, (search rules, (search rules, (search rules, (search rules, (search rules, (search rules, (search rules, (search rules, (search rules, (search rules, (search rules, (search rules, (search rules, (search rules, (search rules, (search rules, (search rules, (search rules, tt))))))))))))))))))))))));
    } in
    ap md_read (returns-clause-bytes c ∙ sym (append-nil (md_bytes c.args.md.now))) ∙ md_read-md_bytes c.args.md.now [] fits
