-- What the contract of `respond` says.
use mathlib.Core.Path.{◌≡◌, refl, sym, ap, ◌∙◌}
use mathlib.Core.Bool.{Bool, true, false}
use mathlib.Core.List.{List}
use Prim.Native.Nat.{ℕ, ◌<◌}
use native.Mathlib.Omega.{arith}
use borrow.Author.Tests.{lt-ltb, ltb-true, ltb-false}
use lib.Dec.{ltb}
use lib.ListN.{length, take}
use lib.Seq.{take_all, length-take-le}
use Rattle.captures.specs.Engine.{two_parsed}
use Rattle.captures.specs.Worked.{said_two}
use Rattle.compared.specs.Program.{compared_text}
use Rattle.comparing.proofs.respond.Reads as respond

-- any two results that it allows for one input agree
pub respond_agrees : (κs : _) (a : _) (r r' : _) (s s' : _) → respond.Post κs a r s → respond.Post κs a r' s'
    → (r ≡ r') × (s.1.0.now ≡ s'.1.0.now)
respond_agrees κs a r r' s s' p q = (p.next ∙ sym q.next, p.bytes ∙ sym q.bytes)

-- the program hands over at most 16,385 bytes, and that suffices to tell
pub enough : (s : List ℕ) → compared_text (take 16385 s) ≡ compared_text s
unfolding compared_text said_two two_parsed
enough s = go (ltb 16385 (length s)) refl
  where
    go : (t : Bool) → ltb 16385 (length s) ≡ t → compared_text (take 16385 s) ≡ compared_text s
    go true e =
        let l : 16385 < length s = ltb-true 16385 (length s) e in
        let k : length (take 16385 s) ≡ 16385 = length-take-le 16385 s (omega arith) in
        rw (k, lt-ltb 16384 (length s) (omega arith))
    go false e = ap compared_text (take_all 16385 s (ltb-false 16385 (length s) e))
