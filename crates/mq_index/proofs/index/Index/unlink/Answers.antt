use Rattle.mq_index.proofs.index.Index.unlink.Goals as goal

pub returns-clause-room : goal.returns-clause-room
returns-clause-room c n h = record { lanes = c.unlink.ensures.room n h.lanes; msgs = c.unlink-2.ensures.room n h.msgs; correls = c.unlink-3.ensures.room n h.correls }
