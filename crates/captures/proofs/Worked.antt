-- What the engine finds in a text of two captures is what the text says: `Worked`, of every text.
use mathlib.Core.Path.{◌≡◌, sym, subst}
use mathlib.Core.Logic.{◌⊎◌}
use mathlib.Core.List.{List}
use Prim.Native.Nat.{ℕ, ◌≤◌, ◌<◌}
use native.Mathlib.Omega.{arith}
use lib.ListN.{length}
use Rattle.std.specs.Prelude.{Ok, Err}
use Rattle.captures.specs.Form.{WrongOfSix}
use Rattle.captures.specs.Engine.{Captures, wrong_of_six, two_parsed, first_bytes, second_bytes}
use Rattle.captures.specs.Worked.{wrong_six, frames, said_by_both, said_two, TextOfTwo, Worked}
use Rattle.captures.proofs.Exact.{Verdict, verdict, text_found}

two_said : (s : List ℕ) (d : ℕ) (a b : List ℕ) (d' : ℕ) (a' b' : List ℕ) → TextOfTwo s d a b d' a' b' → said_two s ≡ frames d a b d' a' b'
unfolding said_two
two_said s d a b d' a' b' t =
    let f = text_found s d a b d' a' b' t in
    rw (f.parsed, f.digits.0, f.digits.1, f.first_bytes_fact.0, f.first_bytes_fact.1, f.second_bytes_fact.0, f.second_bytes_fact.1)

said_two_lem : (s : List ℕ) (d : ℕ) (a b : List ℕ) (d' : ℕ) (a' b' : List ℕ) → said_two s ≡ frames d a b d' a' b' → TextOfTwo s d a b d' a' b'
unfolding said_two
said_two_lem s d a b d' a' b' e = go (two_parsed s) (verdict s) e
  where
    go : (x : Captures) → Verdict s x → said_by_both s x ≡ frames d a b d' a' b' → TextOfTwo s d a b d' a' b'
    go (Err v) w e = absurd (let z : ◌≡◌ {A = ℕ} 0 1 = cc in omega arith)
    go (Ok (c, c')) w e =
        let u : c.bw ≡ d = cc in
        let v : first_bytes s c ≡ a = cc in
        let x : second_bytes s c ≡ b = cc in
        let u' : c'.bw ≡ d' = cc in
        let v' : first_bytes s c' ≡ a' = cc in
        let x' : second_bytes s c' ≡ b' = cc in
        rw (sym u, sym v, sym x, sym u', sym v', sym x') w.text

said_wrong_six : (s : List ℕ) (k : ℕ) → said_two s ≡ wrong_six k → ((16384 < length s) × (k ≡ 0)) ⊎ ((length s ≤ 16384) × WrongOfSix k s)
unfolding said_two
said_wrong_six s k e = go (two_parsed s) (verdict s) e
  where
    go : (x : Captures) → Verdict s x → said_by_both s x ≡ wrong_six k → ((16384 < length s) × (k ≡ 0)) ⊎ ((length s ≤ 16384) × WrongOfSix k s)
    go (Err v) w e = let q : v.line ≡ k = cc in subst (λ (i : ℕ). Verdict s (wrong_of_six i)) q w
    go (Ok (c, c')) w e = absurd (let z : ◌≡◌ {A = ℕ} 0 1 = cc in omega arith)

pub worked : (s : List ℕ) → Worked s
worked s = record { says = two_said s; is_said = said_two_lem s; is_wrong = said_wrong_six s }
