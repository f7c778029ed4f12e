-- `piece_codes::codes_of` meets its contract.
use Rattle.std.proofs.Common.{arith, ◌≡◌, Bool, List, [], ◌∷◌, ℕ, ◌≤◌, ◌<◌, eqb, eqb→eq}
use Rattle.resource.specs.Values.{own_pieces, pieces}
use Rattle.resource.proofs.Test.{Missed, key_or, no_key, every_below, every_between}
use Rattle.resource.proofs.Apart.{no_pieces}
use Rattle.piece_codes.specs.Engine.{codes_of}
use Rattle.piece_codes.proofs.codes_of.Goals as goal

arms : List (List ℕ)
arms =
    (50 ∷ []) ∷ (48 ∷ []) ∷ (28 ∷ []) ∷ (25 ∷ []) ∷ (24 ∷ []) ∷ (23 ∷ []) ∷ (22 ∷ []) ∷ (21 ∷ []) ∷ (20 ∷ []) ∷ (19 ∷ []) ∷ (18 ∷ []) ∷ (17 ∷ [])
    ∷ (16 ∷ []) ∷ (15 ∷ []) ∷ (14 ∷ []) ∷ (13 ∷ []) ∷ (12 ∷ []) ∷ (11 ∷ []) ∷ (10 ∷ []) ∷ (9 ∷ []) ∷ (8 ∷ []) ∷ (7 ∷ []) ∷ (6 ∷ []) ∷ (5 ∷ [])
    ∷ (4 ∷ []) ∷ (3 ∷ []) ∷ (2 ∷ []) ∷ (1 ∷ []) ∷ (0 ∷ []) ∷ []

none : ℕ → Bool
none v = eqb 0 (codes_of v)

whole : ℕ → Bool
whole v = eqb 65 (codes_of v)

left : (v : ℕ) → v < 64 → Missed arms v → 0 ≡ codes_of v
unfolding arms none codes_of own_pieces pieces
left v h m = eqb→eq 0 (codes_of v) (no_key none arms v (every_below (key_or none arms) 64 tt v h) m)

the_242 : (v : ℕ) → 64 ≤ v → v < 72 → 65 ≡ codes_of v
unfolding whole codes_of own_pieces pieces
the_242 v h l = eqb→eq 65 (codes_of v) (every_between whole 64 72 v tt h l)

pub returns-in-0 : goal.returns-in-0
unfolding codes_of own_pieces pieces
returns-in-0 c = rw c.in-0.is

pub returns-in-1 : goal.returns-in-1
unfolding codes_of own_pieces pieces
returns-in-1 c = rw c.in-1.is

pub returns-in-2 : goal.returns-in-2
unfolding codes_of own_pieces pieces
returns-in-2 c = rw c.in-2.is

pub returns-in-3 : goal.returns-in-3
unfolding codes_of own_pieces pieces
returns-in-3 c = rw c.in-3.is

pub returns-in-4 : goal.returns-in-4
unfolding codes_of own_pieces pieces
returns-in-4 c = rw c.in-4.is

pub returns-in-5 : goal.returns-in-5
unfolding codes_of own_pieces pieces
returns-in-5 c = rw c.in-5.is

pub returns-in-6 : goal.returns-in-6
unfolding codes_of own_pieces pieces
returns-in-6 c = rw c.in-6.is

pub returns-in-7 : goal.returns-in-7
unfolding codes_of own_pieces pieces
returns-in-7 c = rw c.in-7.is

pub returns-in-8 : goal.returns-in-8
unfolding codes_of own_pieces pieces
returns-in-8 c = rw c.in-8.is

pub returns-in-9 : goal.returns-in-9
unfolding codes_of own_pieces pieces
returns-in-9 c = rw c.in-9.is

pub returns-in-10 : goal.returns-in-10
unfolding codes_of own_pieces pieces
returns-in-10 c = rw c.in-10.is

pub returns-in-11 : goal.returns-in-11
unfolding codes_of own_pieces pieces
returns-in-11 c = rw c.in-11.is

pub returns-in-12 : goal.returns-in-12
unfolding codes_of own_pieces pieces
returns-in-12 c = rw c.in-12.is

pub returns-in-13 : goal.returns-in-13
unfolding codes_of own_pieces pieces
returns-in-13 c = rw c.in-13.is

pub returns-in-14 : goal.returns-in-14
unfolding codes_of own_pieces pieces
returns-in-14 c = rw c.in-14.is

pub returns-in-15 : goal.returns-in-15
unfolding codes_of own_pieces pieces
returns-in-15 c = rw c.in-15.is

pub returns-in-16 : goal.returns-in-16
unfolding codes_of own_pieces pieces
returns-in-16 c = rw c.in-16.is

pub returns-in-17 : goal.returns-in-17
unfolding codes_of own_pieces pieces
returns-in-17 c = rw c.in-17.is

pub returns-in-18 : goal.returns-in-18
unfolding codes_of own_pieces pieces
returns-in-18 c = rw c.in-18.is

pub returns-in-19 : goal.returns-in-19
unfolding codes_of own_pieces pieces
returns-in-19 c = rw c.in-19.is

pub returns-in-20 : goal.returns-in-20
unfolding codes_of own_pieces pieces
returns-in-20 c = rw c.in-20.is

pub returns-in-21 : goal.returns-in-21
unfolding codes_of own_pieces pieces
returns-in-21 c = rw c.in-21.is

pub returns-in-22 : goal.returns-in-22
unfolding codes_of own_pieces pieces
returns-in-22 c = rw c.in-22.is

pub returns-in-23 : goal.returns-in-23
unfolding codes_of own_pieces pieces
returns-in-23 c = rw c.in-23.is

pub returns-in-24 : goal.returns-in-24
unfolding codes_of own_pieces pieces
returns-in-24 c = rw c.in-24.is

pub returns-in-25 : goal.returns-in-25
unfolding codes_of own_pieces pieces
returns-in-25 c = rw c.in-25.is

pub returns-in-28 : goal.returns-in-28
unfolding codes_of own_pieces pieces
returns-in-28 c = rw c.in-28.is

pub returns-in-48 : goal.returns-in-48
unfolding codes_of own_pieces pieces
returns-in-48 c = rw c.in-48.is

pub returns-in-50 : goal.returns-in-50
unfolding codes_of own_pieces pieces
returns-in-50 c = rw c.in-50.is

pub returns-in-64-to-71 : goal.returns-in-64-to-71
returns-in-64-to-71 c = the_242 _ (omega arith) (omega arith)

pub returns-in_default : goal.returns-in_default
unfolding arms
returns-in_default c = left _ (omega arith) c.in_default.in_default-own.rest

pub returns-in_default-2 : goal.returns-in_default-2
unfolding codes_of
returns-in_default-2 c = rw (no_pieces c.args.v (omega arith))
