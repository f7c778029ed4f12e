-- `stream_rows::entry_at` meets its contract.
use mathlib.Core.Path.{sym, ◌∙◌}
use Rattle.stream_rows.proofs.Worked.{row_entries}
use Rattle.stream_rows.proofs.entry_at.Goals as goal

pub returns : goal.returns
returns c = (c.entry.ensures.0 ∙ sym (row_entries c.args.users c.decode.ensures _ c.requires.2), c.entry.ensures.1)
