-- `piece_codes::narrow_at` meets its contract.
use Rattle.std.proofs.Common.{◌≡◌, Bool, List, [], ◌∷◌, ℕ, ◌<◌, eqb, eqb→eq}
use Rattle.resource.specs.Index.{is_piece, from_positions}
use Rattle.resource.specs.Engine.{narrow26, narrow52, narrow106}
use Rattle.resource.proofs.Test.{Missed, key_or, no_key, every_below}
use Rattle.piece_codes.specs.Engine.{narrow_at, is_code, piece_of}
use Rattle.piece_codes.proofs.narrow_at.Goals as goal

arms : List (List ℕ)
arms =
    (65 ∷ []) ∷ (50 ∷ []) ∷ (49 ∷ []) ∷ (34 ∷ []) ∷ (33 ∷ []) ∷ (20 ∷ []) ∷ (19 ∷ []) ∷ (18 ∷ []) ∷ (17 ∷ []) ∷ (9 ∷ []) ∷ (8 ∷ []) ∷ (7 ∷ [])
    ∷ (6 ∷ []) ∷ (5 ∷ []) ∷ (4 ∷ []) ∷ (3 ∷ []) ∷ (2 ∷ []) ∷ (1 ∷ []) ∷ []

none : ℕ → Bool
none c = eqb 0 (narrow_at c)

left : (c : ℕ) → c < 128 → Missed arms c → 0 ≡ narrow_at c
unfolding arms none narrow_at is_code piece_of is_piece from_positions narrow26 narrow52 narrow106
left c h m = eqb→eq 0 (narrow_at c) (no_key none arms c (every_below (key_or none arms) 128 tt c h) m)

pub returns-in-1 : goal.returns-in-1
unfolding narrow_at is_code piece_of is_piece from_positions narrow26 narrow52 narrow106
returns-in-1 c = rw c.in-1.is

pub returns-in-2 : goal.returns-in-2
unfolding narrow_at is_code piece_of is_piece from_positions narrow26 narrow52 narrow106
returns-in-2 c = rw c.in-2.is

pub returns-in-3 : goal.returns-in-3
unfolding narrow_at is_code piece_of is_piece from_positions narrow26 narrow52 narrow106
returns-in-3 c = rw c.in-3.is

pub returns-in-4 : goal.returns-in-4
unfolding narrow_at is_code piece_of is_piece from_positions narrow26 narrow52 narrow106
returns-in-4 c = rw c.in-4.is

pub returns-in-5 : goal.returns-in-5
unfolding narrow_at is_code piece_of is_piece from_positions narrow26 narrow52 narrow106
returns-in-5 c = rw c.in-5.is

pub returns-in-6 : goal.returns-in-6
unfolding narrow_at is_code piece_of is_piece from_positions narrow26 narrow52 narrow106
returns-in-6 c = rw c.in-6.is

pub returns-in-7 : goal.returns-in-7
unfolding narrow_at is_code piece_of is_piece from_positions narrow26 narrow52 narrow106
returns-in-7 c = rw c.in-7.is

pub returns-in-8 : goal.returns-in-8
unfolding narrow_at is_code piece_of is_piece from_positions narrow26 narrow52 narrow106
returns-in-8 c = rw c.in-8.is

pub returns-in-9 : goal.returns-in-9
unfolding narrow_at is_code piece_of is_piece from_positions narrow26 narrow52 narrow106
returns-in-9 c = rw c.in-9.is

pub returns-in-17 : goal.returns-in-17
unfolding narrow_at is_code piece_of is_piece from_positions narrow26 narrow52 narrow106
returns-in-17 c = rw c.in-17.is

pub returns-in-18 : goal.returns-in-18
unfolding narrow_at is_code piece_of is_piece from_positions narrow26 narrow52 narrow106
returns-in-18 c = rw c.in-18.is

pub returns-in-19 : goal.returns-in-19
unfolding narrow_at is_code piece_of is_piece from_positions narrow26 narrow52 narrow106
returns-in-19 c = rw c.in-19.is

pub returns-in-20 : goal.returns-in-20
unfolding narrow_at is_code piece_of is_piece from_positions narrow26 narrow52 narrow106
returns-in-20 c = rw c.in-20.is

pub returns-in-33 : goal.returns-in-33
unfolding narrow_at is_code piece_of is_piece from_positions narrow26 narrow52 narrow106
returns-in-33 c = rw c.in-33.is

pub returns-in-34 : goal.returns-in-34
unfolding narrow_at is_code piece_of is_piece from_positions narrow26 narrow52 narrow106
returns-in-34 c = rw c.in-34.is

pub returns-in-49 : goal.returns-in-49
unfolding narrow_at is_code piece_of is_piece from_positions narrow26 narrow52 narrow106
returns-in-49 c = rw c.in-49.is

pub returns-in-50 : goal.returns-in-50
unfolding narrow_at is_code piece_of is_piece from_positions narrow26 narrow52 narrow106
returns-in-50 c = rw c.in-50.is

pub returns-in-65 : goal.returns-in-65
unfolding narrow_at is_code piece_of is_piece from_positions narrow26 narrow52 narrow106
returns-in-65 c = rw c.in-65.is

pub returns-in_default : goal.returns-in_default
unfolding arms
returns-in_default c = left _ c.requires c.in_default.in_default-own.rest
