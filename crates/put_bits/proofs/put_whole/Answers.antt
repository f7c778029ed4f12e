-- `put_bits::put_whole` meets its contract.
use Prim.Native.Nat.{ℕ, ◌+◌, ◌*◌, ◌/◌, ◌^◌}
use mathlib.Core.Path.{◌≡◌, ◌∙◌, ap}
use mathlib.Core.List.{List}
use native.Mathlib.Omega.{arith}
use Rattle.bits.specs.Bits.{put}
use Rattle.bits.proofs.Writes.{put_more}
use Rattle.put_bits.proofs.put_whole.Goals as goal

pub returns : goal.returns
returns c = let e : 8 * (c.args.i + 4) ≡ 8 * c.args.i + 32 = omega arith in
    c.put_window-2.ensures
    ∙ ap (λ (t : List ℕ). put t (8 * (c.args.i + 4)) 32 (c.args.x / 2 ^ 32)) c.put_window.ensures
    ∙ ap (λ (k : ℕ). put (put c.args.d.now (8 * c.args.i) 32 c.args.x) k 32 (c.args.x / 2 ^ 32)) e
    ∙ put_more c.args.d.now (8 * c.args.i) 32 32 c.args.x
