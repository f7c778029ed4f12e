-- `resource::piece_from` meets its contract.
use Rattle.resource.proofs.Test.{below_or}
use Rattle.resource.specs.declared.Piece.TheVariants.{Part}
use Rattle.resource.specs.declared.Size.TheVariants.{S52, S242}
use Rattle.resource.specs.Engine.{piece_from}
use native.Mathlib.Omega.{arith}
use Prim.Native.Nat.{ℕ, suc, ◌+◌, ◌-◌, ◌/◌, ◌≤◌, ◌<◌}
use mathlib.Core.Logic.{⊎_elim}
use mathlib.Core.Path.{◌≡◌}
use Rattle.resource.proofs.piece_from.Goals as goal

slot : (s w : ℕ) → 2 ≤ w → w < 4 → Part S52 (s / 2 + 1) ≡ piece_from s w
unfolding piece_from
slot s w h l = ⊎_elim (λ (e : w < 3). let f : w ≡ 2 = omega arith in rw f) (λ e. let f : w ≡ 3 = omega arith in rw f) (below_or w 3)

whole : (s w : ℕ) → (w ≡ 4 → ⊥) → (w ≡ 5 → ⊥) → 4 ≤ w → Part S242 1 ≡ piece_from s w
unfolding piece_from
whole s w m n h =
    let l : 6 ≤ w = ⊎_elim (λ (e : w < 6). absurd (⊎_elim (λ (f : w < 5). m (omega arith)) (λ f. n (omega arith)) (below_or w 5))) (λ e. e) (below_or w 6) in
    let e : w ≡ suc (suc (suc (suc (suc (suc (w - 6)))))) = omega arith in
    rw e

pub returns-then-e-s : goal.returns-then-e-s
unfolding piece_from
returns-then-e-s c = let e : c.args.e - c.args.s ≡ 0 = omega arith in rw e

pub returns-in-1 : goal.returns-in-1
unfolding piece_from
returns-in-1 c = rw c.in-1.is

pub returns-in-4 : goal.returns-in-4
unfolding piece_from
returns-in-4 c = rw c.in-4.is

pub returns-in-5 : goal.returns-in-5
unfolding piece_from
returns-in-5 c = rw c.in-5.is

pub returns-in-2 : goal.returns-in-2
returns-in-2 c = slot _ _ (omega arith) (omega arith)

pub returns-in_default-2 : goal.returns-in_default-2
returns-in_default-2 c = whole _ _ (λ e. c.in_default.in_default-own.rest.0.1 e) (λ e. c.in_default.in_default-own.rest.1 e) (omega arith)
