-- `put_bits::put_eight` meets its contract.
use Prim.Native.Nat.{ℕ, ◌-◌, ◌*◌, ◌/◌, ◌^◌}
use mathlib.Core.Path.{◌∙◌, ap}
use mathlib.Core.List.{List}
use Rattle.bits.specs.Bits.{put}
use Rattle.put_bits.proofs.Stores.{put_halves}
use Rattle.put_bits.proofs.put_eight.Goals as goal

pub returns : goal.returns
returns c = c.put_window-2.ensures
    ∙ ap (λ (t : List ℕ). put t (8 * c.half_at-j.result) 32 (c.args.x / 2 ^ (8 * (c.half_at-j.result - c.args.i)))) c.put_window.ensures
    ∙ put_halves c.args.d.now c.args.i c.half_at-j.result c.args.x c.half_at-j.ensures.0 c.half_at-j.ensures.1 c.half_at-j.ensures.2 c.half_at-j.ensures.3
