-- One line of a text is the first that is wrong, and none of a text of the three lines.
use mathlib.Core.Path.{◌≡◌, refl, sym, ◌∙◌, ap}
use mathlib.Core.Logic.{⊎_elim}
use mathlib.Core.List.{List, [], ◌++◌, append-nil}
use Prim.Native.Nat.{ℕ, zero, suc, ◌≤◌, ◌<◌}
use native.Mathlib.Decide.{dec_lt}
use native.Mathlib.Omega.{arith}
use native.Mathlib.Nat.{eq-or-lt_of_le}
use Rattle.input.specs.Form.{line1, line2, line3, Begins, Whole, IsWrongLine}

-- s is right in its first k lines, and in all of it for 4
abbrev Right : ℕ → List ℕ → Type 0
Right zero s = Begins 0 s
Right (suc zero) s = Begins 1 s
Right (suc (suc zero)) s = Begins 2 s
Right (suc (suc (suc zero))) s = Begins 3 s
Right (suc (suc (suc (suc k)))) s = Whole s

-- .. and so in one fewer
fewer : (k : ℕ) (s : List ℕ) → k < 4 → Right (suc k) s → Right k s
fewer zero s l w = record {
  digit = w.digit;
  first = w.first;
  second = w.second;
  rest = s;
  is_digit = w.is_digit;
  are_bytes = w.are_bytes;
  is = refl;
}
fewer (suc zero) s l w = record {
  digit = w.digit;
  first = w.first;
  second = w.second;
  rest = line2 w.first ++ w.rest;
  is_digit = w.is_digit;
  are_bytes = w.are_bytes;
  is = w.is;
}
fewer (suc (suc zero)) s l w = record {
  digit = w.digit;
  first = w.first;
  second = w.second;
  rest = line3 w.second ++ w.rest;
  is_digit = w.is_digit;
  are_bytes = w.are_bytes;
  is = w.is;
}
fewer (suc (suc (suc zero))) s l w = record {
  digit = w.digit;
  first = w.first;
  second = w.second;
  rest = [];
  is_digit = w.is_digit;
  are_bytes = w.are_bytes;
  is = w.is ∙ ap (λ (t : List ℕ). line1 w.digit ++ (line2 w.first ++ t)) (sym (append-nil (line3 w.second)));
}
fewer (suc (suc (suc (suc k)))) s l w = absurd (omega arith)

up_to : (j k : ℕ) (s : List ℕ) → j ≤ k → k ≤ 4 → Right k s → Right j s
up_to j zero s l m w = let e : j ≡ 0 = omega arith in rw e w
up_to j (suc k) s l m w =
    ⊎_elim
    (λ (e : j ≡ suc k). rw e w)
    (λ (h : j < suc k). up_to j k s (omega arith) (omega arith) (fewer k s (omega arith) w))
    (eq-or-lt_of_le {n = j} {m = suc k} l)

record FirstWrong (k : ℕ) (s : List ℕ) : Type 0 where
  pub least : 1 ≤ k
  pub most : k ≤ 4
  pub before : (j : ℕ) → j < k → Right j s
  pub not_it : Right k s → ⊥

first_wrong : (k : ℕ) (s : List ℕ) → IsWrongLine k s → FirstWrong k s
first_wrong zero s w = absurd w
first_wrong (suc zero) s w =
    record { least = omega arith; most = omega arith; before = λ j l. up_to j 0 s (omega arith) (omega arith) w.0; not_it = w.1 }
first_wrong (suc (suc zero)) s w =
    record { least = omega arith; most = omega arith; before = λ j l. up_to j 1 s (omega arith) (omega arith) w.0; not_it = w.1 }
first_wrong (suc (suc (suc zero))) s w =
    record { least = omega arith; most = omega arith; before = λ j l. up_to j 2 s (omega arith) (omega arith) w.0; not_it = w.1 }
first_wrong (suc (suc (suc (suc zero)))) s w =
    record { least = omega arith; most = omega arith; before = λ j l. up_to j 3 s (omega arith) (omega arith) w.0; not_it = w.1 }
first_wrong (suc (suc (suc (suc (suc k))))) s w = absurd w

pub one_line : (s : List ℕ) (j k : ℕ) → IsWrongLine j s → IsWrongLine k s → j ≡ k
one_line s j k v w = go (dec_lt j k) (dec_lt k j)
  where
    go : Dec (j < k) → Dec (k < j) → j ≡ k
    go (yes l) e = absurd ((first_wrong j s v).not_it ((first_wrong k s w).before j l))
    go (no n) (yes l) = absurd ((first_wrong k s w).not_it ((first_wrong j s v).before k l))
    go (no n) (no m) = omega arith

pub whole_right : (s : List ℕ) (k : ℕ) → Whole s → IsWrongLine k s → ⊥
whole_right s k h w = let f = first_wrong k s w in f.not_it (up_to k 4 s f.most (omega arith) h)
