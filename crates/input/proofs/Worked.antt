-- What the engine finds in a text is what the text says: `Worked`, of every text.
use mathlib.Core.Path.{◌≡◌, refl, sym, ◌∙◌, ap, subst}
use mathlib.Core.Logic.{inl, inr}
use mathlib.Core.List.{List}
use Prim.Native.Nat.{ℕ, ◌+◌, ◌*◌, ◌≤◌}
use native.Mathlib.Omega.{arith}
use lib.ListN.{length}
use Rattle.std.specs.Prelude.{Ok, Err}
use Rattle.answer.proofs.Lists.{length_build}
use Rattle.input.specs.Form.{text_of}
use Rattle.input.specs.declared.Lines.{Lines}
use Rattle.input.specs.Engine.{Parsed, wrong_at, parsed, byte_of, bytes_at, second_at}
use Rattle.input.specs.Worked.{Said, wrong, frame, said_by, said, TextOf, PlaceOf22, Worked}
use Rattle.input.proofs.FirstWrong.{one_line, whole_right}
use Rattle.input.proofs.Exact.{text_read, refused, accepted, text_accepted, few}

-- the frame of what was found
frame_said : (s : List ℕ) (d : ℕ) (a b : List ℕ) → TextOf s d a b → said s ≡ frame d a b
unfolding said
frame_said s d a b t =
    let l = subst (λ (x : List ℕ). length x ≤ 8192) t.is t.most in
    let w = text_read d a b t.is_digit t.are_bytes.0 t.are_bytes.1 in
    let e = text_accepted d a b t.is_digit t.are_bytes.0 t.are_bytes.1 l in
    rw (t.is, e)
    (ap (λ (x : List ℕ). frame d x (bytes_at (text_of d a b) (second_at (length a)) (length b))) w.first ∙ ap (frame d a) w.second)

said_frame : (s : List ℕ) (d : ℕ) (a b : List ℕ) → said s ≡ frame d a b → TextOf s d a b
unfolding said
said_frame s d a b e = go (parsed s) refl e
  where
    go : (x : Parsed) → parsed s ≡ x → said_by s x ≡ frame d a b → TextOf s d a b
    go (Err w) f e = absurd (let z : ◌≡◌ {A = ℕ} 0 1 = cc in omega arith)
    go (Ok l) f e =
        let h = accepted s l.bw l.first l.second f in
        let x : l.bw ≡ d = cc in
        let y : bytes_at s 9 l.first ≡ a = cc in
        let z : bytes_at s (second_at l.first) l.second ≡ b = cc in
        rw (sym x, sym y, sym z) (record { is_digit = h.1.is_digit; are_bytes = h.1.are_bytes; is = h.1.is; most = h.0 })

said_wrong : (s : List ℕ) (k : ℕ) → said s ≡ wrong k → PlaceOf22 k s
unfolding said
said_wrong s k e = go (parsed s) refl e
  where
    go : (x : Parsed) → parsed s ≡ x → said_by s x ≡ wrong k → PlaceOf22 k s
    go (Err w) f e = refused s k (f ∙ ap wrong_at (let q : w.line ≡ k = cc in q))
    go (Ok l) f e = absurd (let z : ◌≡◌ {A = ℕ} 0 1 = cc in omega arith)

-- the place of 22 is said
wrong_said : (s : List ℕ) (k : ℕ) → PlaceOf22 k s → said s ≡ wrong k
wrong_said s k p = go (said s) refl
  where
    other : (j : ℕ) → PlaceOf22 j s → PlaceOf22 k s → j ≡ k
    other j (inl f) (inl g) = f.1 ∙ sym g.1
    other j (inl f) (inr g) = absurd (omega (arith, f.0, g.0))
    other j (inr f) (inl g) = absurd (omega (arith, f.0, g.0))
    other j (inr f) (inr g) = one_line s j k f.1 g.1

    no_place : (d : ℕ) (a b : List ℕ) → TextOf s d a b → PlaceOf22 k s → ⊥
    no_place d a b t (inl f) = omega (arith, f.0, t.most)
    no_place d a b t (inr f) =
        whole_right s k (record { digit = d; first = a; second = b; is_digit = t.is_digit; are_bytes = t.are_bytes; is = t.is }) f.1

    go : (x : Said) → said s ≡ x → said s ≡ wrong k
    go (wrong j) e = e ∙ ap wrong (other j (said_wrong s j e) p)
    go (frame d a b) e = absurd (no_place d a b (said_frame s d a b e) p)

-- what is said tells what was found
pub said_once : (s : List ℕ) (x y : Parsed) → said_by s x ≡ said_by s y → x ≡ y
said_once s (Err v) (Err w) e = ap wrong_at (let q : v.line ≡ w.line = cc in q)
said_once s (Err v) (Ok l) e = absurd (let z : ◌≡◌ {A = ℕ} 0 1 = cc in omega arith)
said_once s (Ok l) (Err w) e = absurd (let z : ◌≡◌ {A = ℕ} 0 1 = cc in omega arith)
said_once s (Ok l) (Ok t) e =
    let x : l.bw ≡ t.bw = cc in
    let y : bytes_at s 9 l.first ≡ bytes_at s 9 t.first = cc in
    let z : bytes_at s (second_at l.first) l.second ≡ bytes_at s (second_at t.first) t.second = cc in
    let p : l.first ≡ t.first = sym (length_build (byte_of s 9) l.first) ∙ ap length y ∙ length_build (byte_of s 9) t.first in
    let q : l.second ≡ t.second =
    sym (length_build (byte_of s (second_at l.first)) l.second) ∙ ap length z ∙ length_build (byte_of s (second_at t.first)) t.second in
    rw (x, p, q)

-- so the channels' bytes are few
pub few_said : (s : List ℕ) (l : Lines) → said_by s (Ok l) ≡ said s → 15 + 2 * l.first + 2 * l.second ≤ 8192
unfolding said
few_said s l e = few s l.bw l.first l.second (sym (said_once s (Ok l) (parsed s) e))

pub worked : (s : List ℕ) → Worked s
worked s = record { says = frame_said s; is_said = said_frame s; is_wrong = said_wrong s; wrong_said = wrong_said s }
