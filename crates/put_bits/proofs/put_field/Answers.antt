-- `put_bits::put_field` meets its contract.
use Prim.Native.Nat.{ℕ, ◌+◌, ◌*◌, ◌/◌, ◌%◌, ◌≤◌, ◌<◌}
use mathlib.Core.Path.{◌≡◌, refl, ◌∙◌, ap}
use mathlib.Core.Bool.{Bool, true, false, ◌&&◌}
use native.Mathlib.Omega.{arith}
use lib.Dec.{leb, ltb}
use lib.ListN.{length}
use borrow.Author.Tests.{leb-true, ltb-true}
use Rattle.bits.specs.Bits.{put}
use Rattle.put_bits.specs.Engine.{merge}
use Rattle.put_bits.proofs.Stores.{put_merged}
use Rattle.put_bits.proofs.put_field.Goals as goal

both : (s t : Bool) → (s && t) ≡ true → (s ≡ true) × (t ≡ true)
both true t e = (refl, e)
both false t e = absurd (let z : ◌≡◌ {A = ℕ} 0 1 = cc in omega arith)

-- what the test says
fits_window : (n i l : ℕ) → (leb n 25 && ltb (i + 3) l) ≡ true → (n ≤ 25) × (i + 3 < l)
fits_window n i l e =
    let p = both (leb n 25) (ltb (i + 3) l) e in
    (leb-true n 25 p.0, ltb-true (i + 3) l p.1)

pub returns-then-n-i : goal.returns-then-n-i
returns-then-n-i c = let t = fits_window c.args.n (c.args.at / 8) (length c.args.d.now) c.if-n-i.true in
    let i = c.args.at / 8 in
    let e : 8 * i + c.args.at % 8 ≡ c.args.at = omega arith in
    c.put_window.ensures
    ∙ ap (λ (y : ℕ). put c.args.d.now (8 * i) 32 y) (c.from.ensures ∙ c.merged-w.ensures
    ∙ ap (λ (y : ℕ). merge y (c.args.at % 8) c.args.n c.args.v) c.window.ensures)
    ∙ put_merged c.args.d.now i (c.args.at % 8) c.args.n c.args.v (omega (arith, t.0))
    ∙ ap (λ (k : ℕ). put c.args.d.now k c.args.n c.args.v) e
