-- `records::count_in` meets its contract.
use Rattle.records.proofs.Tables.{number_at}
use Rattle.std.proofs.Common.{length, get_or, List, ap, ◌∙◌, ℕ, arith}
use Rattle.records.proofs.count_in.Goals as goal

pub returns : goal.returns
returns c = ap (λ (w : List ℕ). get_or w (length c.args.row.now) 0) c.requires.1 ∙ number_at c.args.row.now (length c.args.row.now) (omega arith)
