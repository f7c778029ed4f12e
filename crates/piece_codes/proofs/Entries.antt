-- What the list says of a piece of one run is what its word and its index say.
use mathlib.Core.Path.{◌≡◌, refl}
use mathlib.Core.Bool.{Bool, true, false, cond, not, ◌&&◌}
use Prim.Native.Nat.{ℕ, ◌+◌, ◌-◌, ◌*◌, ◌/◌, ◌%◌, ◌≤◌, ◌<◌}
use lib.Dec.{T, ltb, leb, leb→le, eqb, eqb→eq}
use borrow.Author.Tests.{ltb-true}
use Rattle.resource.specs.Index.{is_piece, from_positions}
use Rattle.resource.specs.Engine.{offset26, offset52, offset106, narrow26, narrow52, narrow106}
use Rattle.resource.proofs.Test.{both_left, both_right, wherever, met, below, every_below}
use Rattle.piece_codes.specs.Engine.{is_code, piece_of, wide_at, narrow_at, word_at, each_of, index_at}
use Rattle.piece_codes.specs.Engine.{is_single, place_of, entry_of, entry_at}

-- the index at place q of the segment
abbrev pub stepped : ℕ → ℕ → ℕ
stepped x q = x / 1099511627776 % 256 * q / 2 + x / 281474976710656 % 256

first_test : ℕ → ℕ → Bool
first_test x w = eqb (x % 256) (w % 256)

last_test : ℕ → ℕ → Bool
last_test x w = eqb (x / 4294967296 % 256 + 1) (w % 256 + w / 256 % 256)

length_test : ℕ → Bool
length_test x = leb (x / 72057594037927936) 5

index_test : ℕ → ℕ → ℕ → Bool
index_test x c q = eqb (stepped x q) (index_at q c) && ltb (stepped x q) 40

-- at 20 MHz, or not
abbrev at_20 : Bool → ℕ
at_20 true = 1
at_20 false = 2

entry_test : Bool → ℕ → Bool
entry_test b c =
    wherever (is_code c && is_single (at_20 b) c)
    ((first_test (entry_at (at_20 b) c) (word_at (at_20 b) c) && last_test (entry_at (at_20 b) c) (word_at (at_20 b) c))
    && ((ltb (word_at (at_20 b) c) 65536 && length_test (entry_at (at_20 b) c)) && below (index_test (entry_at (at_20 b) c) c) 4))

pub record Entry (x w c : ℕ) : Type 0 where
  pub first : x % 256 ≡ w % 256
  pub last : x / 4294967296 % 256 + 1 ≡ w % 256 + w / 256 % 256
  pub one : w < 65536
  pub few : x / 72057594037927936 ≤ 5
  pub index : (q : ℕ) → q < 4 → (stepped x q ≡ index_at q c) × (stepped x q < 40)

entry_pass : (b : Bool) (c : ℕ) → c < 128 → T (entry_test b c)
unfolding entry_test first_test last_test length_test index_test is_single place_of entry_of entry_at word_at wide_at narrow_at index_at each_of
    is_code piece_of is_piece from_positions offset26 offset52 offset106 narrow26 narrow52 narrow106
entry_pass true c l = every_below (entry_test true) 128 tt c l
entry_pass false c l = every_below (entry_test false) 128 tt c l

t_true : (b : Bool) → T b → b ≡ true
t_true true h = refl
t_true false h = absurd h

entry : (b : Bool) (c : ℕ) → c < 128 → T (is_code c && is_single (at_20 b) c) → Entry (entry_at (at_20 b) c) (word_at (at_20 b) c) c
unfolding entry_test first_test last_test length_test index_test
entry b c l t =
    let x = entry_at (at_20 b) c in
    let w = word_at (at_20 b) c in
    let all = met (is_code c && is_single (at_20 b) c) _ (entry_pass b c l) t in
    let one = both_left (first_test x w && last_test x w) ((ltb w 65536 && length_test x) && below (index_test x c) 4) all in
    let two = both_right (first_test x w && last_test x w) ((ltb w 65536 && length_test x) && below (index_test x c) 4) all in
    let few = both_left (ltb w 65536 && length_test x) (below (index_test x c) 4) two in
    let each = both_right (ltb w 65536 && length_test x) (below (index_test x c) 4) two in
    record {
      first = eqb→eq _ _ (both_left (first_test x w) (last_test x w) one);
      last = eqb→eq _ _ (both_right (first_test x w) (last_test x w) one);
      one = ltb-true w 65536 (t_true _ (both_left (ltb w 65536) (length_test x) few));
      few = leb→le _ _ (both_right (ltb w 65536) (length_test x) few);
      index = λ q h.
          let i = every_below (index_test x c) 4 each q h in (
            eqb→eq _ _ (both_left (eqb (stepped x q) (index_at q c)) (ltb (stepped x q) 40) i),
            ltb-true (stepped x q) 40 (t_true _ (both_right (eqb (stepped x q) (index_at q c)) (ltb (stepped x q) 40) i)),
          );
    }

both : (a b : Bool) → T a → T b → T (a && b)
both true b s t = t
both false b s t = absurd s

-- of any channel
pub entry_at_lem : (n c : ℕ) → c < 128 → T (is_code c) → T (is_single n c) → Entry (entry_at n c) (word_at n c) c
unfolding is_single entry_at place_of word_at
entry_at_lem n c l t s = go (eqb n 1) s
  where
    go : (b : Bool) → T (cond b (not (eqb c 5) && ltb c 48) (not (eqb (c / 16) 3)))
        → Entry (entry_of (c - 7 * (c / 16) + cond b 40 0)) (cond b (narrow_at c) (wide_at c)) c
    go true u = entry true c l (both (is_code c) (is_single 1 c) t u)
    go false u = entry false c l (both (is_code c) (is_single 2 c) t u)
