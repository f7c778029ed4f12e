-- What the contract of `respond` says.
use mathlib.Core.Path.{◌≡◌, refl, sym, ◌∙◌, ap}
use mathlib.Core.Bool.{Bool, true, false}
use mathlib.Core.List.{List}
use Prim.Native.Nat.{ℕ, ◌<◌}
use native.Mathlib.Omega.{arith}
use lib.Dec.{ltb}
use lib.ListN.{length, take}
use lib.Seq.{take_all, length-take-le}
use borrow.Author.Tests.{lt-ltb, ltb-true, ltb-false}
use Rattle.input.specs.Engine.{parsed}
use Rattle.input.specs.Worked.{said}
use Rattle.listed.specs.Listing.{program_text}
use Rattle.responding.proofs.respond.Reads as respond

-- ---- any two results that the contract allows for one input agree
pub respond_agrees : (κs : _) (a : _) (r r' : _) (s s' : _) → respond.Post κs a r s → respond.Post κs a r' s'
    → (r ≡ r') × (s.1.0.now ≡ s'.1.0.now)
respond_agrees κs a r r' s s' p q = (p.next ∙ sym q.next, p.bytes ∙ sym q.bytes)

-- ---- the program hands over at most 8,193 bytes, and that suffices to tell
pub enough : (s : List ℕ) → program_text (take 8193 s) ≡ program_text s
unfolding program_text said parsed
enough s = go (ltb 8193 (length s)) refl
  where
    go : (t : Bool) → ltb 8193 (length s) ≡ t → program_text (take 8193 s) ≡ program_text s
    go true e =
        let l : 8193 < length s = ltb-true 8193 (length s) e in
        let k : length (take 8193 s) ≡ 8193 = length-take-le 8193 s (omega arith) in
        rw (k, lt-ltb 8192 (length s) (omega arith))
    go false e = ap program_text (take_all 8193 s (ltb-false 8193 (length s) e))
