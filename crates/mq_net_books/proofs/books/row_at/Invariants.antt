use Rattle.std.proofs.Common.{◌≡◌, drop}
use Rattle.mq_spec_network.specs.Ledger.{row_at}
use Rattle.mq_net_books.proofs.books.row_at.Given as goal

abbrev pub invariant-loop-account : goal.invariant-loop-account
invariant-loop-account l = row_at l.ident (drop l.account-index l.accounts) ≡ row_at l.ident l.fn.accounts
