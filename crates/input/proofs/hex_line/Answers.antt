-- `input::hex_line` meets its contract.
use Rattle.std.proofs.Common.{◌≡◌, ◌+◌, ◌*◌, sym, ap, ◌∙◌, arith}
use Rattle.input.specs.Engine.{hex_of}
use Rattle.input.proofs.Turns.{hex_next}
use Rattle.input.proofs.hex_line.Goals as goal

pub loop-n-preserved : goal.loop-n-preserved
loop-n-preserved c =
    let e : c.args.at + 2 * (c.loop-n.n + 1) ≡ c.args.at + 2 * c.loop-n.n + 2 = omega arith in
    rw e
    (sym
    (hex_next c.args.s.now (c.args.at + 2 * c.loop-n.n) c.loop-n.n c.if-a-eq10.false c.hex.ensures c.if-hex-ge16.false
    (c.hex-in-loop-n.ensures ∙ ap hex_of c.byte_at.ensures) c.if-hex-ge16-2.false)
    ∙ c.loop-n.invariant)
