-- Of two captures that `parse` gives: what the text says is the bytes that `unhex_both` takes out at their places, and they are few.
use mathlib.Core.Path.{◌≡◌, ap, subst, sym, ◌∙◌}
use mathlib.Core.List.{List}
use Prim.Native.Nat.{ℕ, ◌+◌, ◌≤◌}
use native.Mathlib.Omega.{arith}
use lib.ListN.{length, take, length-append}
use Rattle.answer.specs.Lists.{filled}
use Rattle.answer.proofs.Lists.{take_filled, length_build}
use Rattle.input.specs.Form.{text_of}
use Rattle.input.specs.Engine.{byte_of, second_at}
use Rattle.input.proofs.Keyed.{length_text}
use Rattle.captures.specs.declared.Capture.{Capture}
use Rattle.captures.specs.Engine.{both, past_of, two_parsed, first_bytes, second_bytes}
use Rattle.captures.specs.Worked.{frames, said_two}
use Rattle.captures.proofs.Exact.{Verdict, verdict, Found}

-- what `unhex_both` needs of a capture, and room for its pairs
pub record Fits (c : Capture) : Type 0 where
  pub at : c.at ≤ 16384
  pub first : c.first ≤ 8192
  pub second : c.second ≤ 8192

module _ (s : List ℕ) (c c' : Capture) where
  both_lengths : Found s c c' → past_of c + past_of c' ≤ 16384
  both_lengths f =
      let t = f.text in
      let a = first_bytes s c in
      let b = second_bytes s c in
      let a' = first_bytes s c' in
      let b' = second_bytes s c' in
      let l = t.most in
      let e = ap length t.is ∙ length-append (text_of c.bw a b) (text_of c'.bw a' b') in
      let x = length_text c.bw a b in
      let y = length_text c'.bw a' b' in
      let i = length_build (byte_of s (c.at + 9)) c.first in
      let j = length_build (byte_of s (c.at + second_at c.first)) c.second in
      let i' = length_build (byte_of s (c'.at + 9)) c'.first in
      let j' = length_build (byte_of s (c'.at + second_at c'.first)) c'.second in
      omega arith

  module _ {r : _} (e : r ≡ two_parsed s) (h : r ≡ both c c') where
    pub found : Found s c c'
    found = subst (Verdict s) (sym e ∙ h) (verdict s)

    pub fits_first : Fits c
    fits_first =
        let l = both_lengths found in let z = found.starts in record { at = omega arith; first = omega arith; second = omega arith }

    pub fits_second : Fits c'
    fits_second =
        let l = both_lengths found in let z = found.starts_second in record { at = omega arith; first = omega arith; second = omega arith }

    -- the frames that the text says, by the captures' places
    pub frames_said : said_two s ≡ frames c.bw (first_bytes s c) (second_bytes s c) c'.bw (first_bytes s c') (second_bytes s c')
    unfolding said_two
    frames_said = rw (sym e ∙ h)

-- what `unhex_both` leaves at the front of its buffers
module _ (s : List ℕ) (c : Capture) {r : List ℕ} (w : List ℕ) where
  pub first_taken : r ≡ filled (byte_of s (c.at + 9)) c.first w → take c.first r ≡ first_bytes s c
  first_taken e = rw e (take_filled (byte_of s (c.at + 9)) c.first w)

  pub second_taken : r ≡ filled (byte_of s (c.at + second_at c.first)) c.second w → take c.second r ≡ second_bytes s c
  second_taken e = rw e (take_filled (byte_of s (c.at + second_at c.first)) c.second w)
