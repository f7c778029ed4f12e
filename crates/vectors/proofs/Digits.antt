-- The reading of a number: a digit, and one turn.
use mathlib.Core.Path.{◌≡◌, sym}
use mathlib.Core.List.{List}
use Prim.Native.Nat.{ℕ, ◌+◌, ◌-◌, ◌*◌, ◌≤◌, ◌<◌}
use native.Mathlib.Numerals.{add-one}
use lib.ListN.{length, get_or, drop}
use lib.Seq.{drop-cons, drop-length}
use borrow.Author.Tests.{lt-ltb, le-ltb, eq-eqb, ne_eqb}
use Rattle.vectors.specs.Text.{unread, with_digit, number_from}

-- d is what a digit c stands for
module _ (v c d : ℕ) (h : 48 ≤ c) (l : c ≤ 57) (e : d ≡ c - 48) where
  pub digit_is : 10 * v + d < unread → 10 * v + d ≡ with_digit v c
  unfolding with_digit
  digit_is t = rw (e, le-ltb c 48 h, le-ltb 57 c l, lt-ltb (10 * v + (c - 48)) unread (rw e at t))

  pub digit_over : unread ≤ 10 * v + d → unread ≡ with_digit v c
  unfolding with_digit
  digit_over t = rw (le-ltb c 48 h, le-ltb 57 c l, le-ltb (10 * v + (c - 48)) unread (rw e at t))

module _ (s : List ℕ) (v i c : ℕ) (l : i < length s) (e : c ≡ get_or s i 0) where
  pub number_turn : (with_digit v c ≡ unread → ⊥) → number_from v (drop i s) ≡ number_from (with_digit v c) (drop (i + 1) s)
  unfolding number_from
  number_turn n = rw (drop-cons s i 0 l, sym e, ne_eqb (with_digit v c) unread n, add-one i)

  pub number_stop : with_digit v c ≡ unread → number_from v (drop i s) ≡ unread
  unfolding number_from
  number_stop n = rw (drop-cons s i 0 l, sym e, eq-eqb (with_digit v c) unread n)

pub number_end : (s : List ℕ) (v i : ℕ) → i ≡ length s → number_from v (drop i s) ≡ v
unfolding number_from
number_end s v i e = rw (e, drop-length s)
