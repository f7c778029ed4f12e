-- `put_bits::put_parts` meets its contract.
use Prim.Native.Nat.{ℕ, ◌+◌, ◌/◌, ◌^◌}
use mathlib.Core.Path.{◌≡◌, refl, ap, ◌∙◌}
use mathlib.Core.List.{List}
use lib.ListN.{length}
use Rattle.bits.specs.Bits.{put}
use Rattle.bits.proofs.Writes.{put_none, put_more, put_length}
use borrow.Author.Rules.{rules}
use Rattle.put_bits.proofs.put_parts.Goals as goal

pub loop-k-init : goal.loop-k-init
loop-k-init c = (search rules, put_none c.args.d.now c.args.at c.args.v (record { small = λ j. (c.type_inv.d j).fits }), refl)

pub loop-k-preserved : goal.loop-k-preserved
loop-k-preserved c = let e : c.put_part.new.d ≡ put c.args.d.now c.args.at (c.loop-k.k + c.part_of-m.result) c.args.v =
    c.put_part.ensures
    ∙ ap (λ (d : List ℕ). put d (c.args.at + c.loop-k.k) c.part_of-m.result (c.args.v / 2 ^ c.loop-k.k)) c.loop-k.invariant.1
    ∙ put_more c.args.d.now c.args.at c.loop-k.k c.part_of-m.result c.args.v in
    (search rules, e, ap length e ∙ put_length c.args.d.now c.args.at (c.loop-k.k + c.part_of-m.result) c.args.v)
