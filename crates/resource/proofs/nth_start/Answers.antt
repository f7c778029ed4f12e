-- `resource::nth_start` meets its contract. The invariant: what is left to seek gives the same place.
use mathlib.Core.Path.{◌≡◌, sym, ap, ◌∙◌}
use Prim.Native.Nat.{ℕ, ◌+◌, ◌-◌, ◌/◌, ◌^◌}
use native.Mathlib.Omega.{arith}
use native.Mathlib.Nat.{div-one}
use lib.Pow.{shr-shr}
use Rattle.resource.specs.Engine.{nth_from}
use Rattle.resource.proofs.Starts.{found, passed, skipped, ended}
use Rattle.resource.proofs.nth_start.Goals as goal
use Rattle.resource.proofs.nth_start.Goals.{then-m-s-eq1+else-left-eq0, else-m-s-eq1}

next : (m k s : ℕ) → nth_from (m / 2 ^ s / 2) k (s + 1) (9 - (s + 1)) ≡ nth_from (m / 2 ^ (s + 1)) k (s + 1) (9 - (s + 1))
next m k s = ap (λ (bits : ℕ). nth_from bits k (s + 1) (9 - (s + 1))) (shr-shr m s 1)

pub loop-s-init : goal.loop-s-init
loop-s-init c = ap (λ (bits : ℕ). nth_from bits c.args.k 0 9) (div-one c.args.m)

pub returns-then-left-eq0 : goal.returns-then-left-eq0
returns-then-left-eq0 c = sym (found _ _ _ c.loop-s-test.true c.if-m-s-eq1.true c.if-left-eq0.true) ∙ c.loop-s.invariant

pub loop-s-preserved : goal.loop-s-preserved
loop-s-preserved c = elim c.if-m-s-eq1.branch [
  | then-m-s-eq1+else-left-eq0 w ↦ rw w.left-is
      (sym (next _ _ _) ∙ sym (passed _ _ _ c.loop-s-test.true w.if-m-s-eq1.true w.if-left-eq0.false) ∙ c.loop-s.invariant)
  | else-m-s-eq1 w ↦ rw w.left-is (sym (next _ _ _) ∙ sym (skipped _ _ _ c.loop-s-test.true w.if-m-s-eq1.false) ∙ c.loop-s.invariant)
]

pub returns : goal.returns
returns c = sym (ended _ _ _ (omega arith)) ∙ c.loop-s.invariant
