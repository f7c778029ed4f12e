-- `put_bits::put_window` meets its contract.
use Rattle.put_bits.proofs.Stores.{set_four}
use Rattle.put_bits.proofs.put_window.Goals as goal

pub returns : goal.returns
returns c = set_four c.args.d.now c.args.i c.args.w c.requires.1 c.requires.0
